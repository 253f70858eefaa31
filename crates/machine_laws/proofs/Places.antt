-- there is room for what an operation makes, or a first kind lacks it
use Rattle.std.proofs.Common.{◌≡◌, ◌⊎◌, ◌+◌, ◌<◌, ◌≤◌, ◌∙◌, inl, inr, ℕ, zero, suc, List, length, Option, None, Some, get_or, refl, sym, ap, subst, arith}
use Rattle.swss_types.proofs.Most.{most_or_more}
use Rattle.table_schema.specs.Plan.{Ports}
use Rattle.table_schema.specs.declared.key.Key.{Key}
use Rattle.table_schema.specs.declared.row.Row.{Row as BareRow}
use Rattle.switch_model.specs.Placed.{Placed as Row, bare_rows, place, router_in}
use Rattle.sai_types.specs.declared.kind.Kind.{Kind}
use Rattle.sai_types.specs.declared.kind.Kind.TheVariants as kind
use Rattle.sai_types.specs.Alike.{IsIn}
use Rattle.sai_types.specs.Kinds.{all_kinds}
use Rattle.sai_types.specs.Objects.{level, used}
use Rattle.sai_types.specs.Refusal.{capacity_of}
use Rattle.sai_types.proofs.Levels.{level_within}
use Rattle.row_layout.specs.Rows.{Owner}
use Rattle.row_layout.specs.Operations.{Change, going, own_changes, uses_of}
use Rattle.switch_machine.specs.Events.{SwitchState}
use Rattle.switch_machine.specs.Flights.{MachineFlight}
use Rattle.switch_machine.specs.Operations.{MayBegin, built_first}
use Rattle.switch_machine.specs.Reasons.{LacksRoom}
use Rattle.switch_machine.specs.Places.{HasRoomFor, makes, places_kept}
use Rattle.switch_machine.specs.Written.{good_of}
use Rattle.switch_machine.proofs.Kept.{no_makes}
use Rattle.switch_machine.proofs.Single.{kind_at, kind_low, kinds}

abbrev of_level : ℕ → Kind
of_level n = get_or kinds n kind.Port

module _ (plan : Ports) (workers : ℕ) (capacities : List ℕ) (s : SwitchState) where
  module _ (due : List Change) where
    abbrev need : Kind → ℕ
    need kind = used s.objects kind + places_kept workers s.machine kind + makes kind due

    abbrev Fit : Kind → Type 0
    Fit kind = 0 < makes kind due → need kind ≤ capacity_of capacities kind

    record Lacks : Type 0 where
      which : Kind
      some : 0 < makes which due
      many : capacity_of capacities which < need which
      lower : (low : Kind) → level low < level which → Fit low

    fit_or : (kind : Kind) → Fit kind ⊎ ((0 < makes kind due) × (capacity_of capacities kind < need kind))
    fit_or kind = by (most_or_more (makes kind due) 0) (most_or_more (need kind) (capacity_of capacities kind))
      where
        by : (makes kind due ≤ 0) ⊎ (0 < makes kind due) → (need kind ≤ capacity_of capacities kind) ⊎ (capacity_of capacities kind < need kind) → Fit kind ⊎ ((0 < makes kind due) × (capacity_of capacities kind < need kind))
        by (inl none) _ = inl (λ some. absurd (omega (arith, none, some)))
        by (inr some) (inl fit) = inl (λ h. fit)
        by (inr some) (inr many) = inr (some, many)

    scan : (n : ℕ) → ((low : Kind) → level low < n → Fit low) ⊎ Lacks
    scan zero = inl (λ low h. absurd (omega (arith, h)))
    scan (suc n) = by (scan n) (fit_or (of_level n))
      where
        by : ((low : Kind) → level low < n → Fit low) ⊎ Lacks → Fit (of_level n) ⊎ ((0 < makes (of_level n) due) × (capacity_of capacities (of_level n) < need (of_level n))) → ((low : Kind) → level low < suc n → Fit low) ⊎ Lacks
        by (inr x) _ = inr x
        by (inl f) (inr (some, many)) = inr (record { which = of_level n; some = some; many = many; lower = λ low h. f low (let l = kind_low n in omega (arith, h, l)) })
        by (inl f) (inl fit) = inl (λ low h. one low (most_or_more (suc (level low)) n) h)
          where
            one : (low : Kind) → (suc (level low) ≤ n) ⊎ (n < suc (level low)) → level low < suc n → Fit low
            one low (inl less) h = f low (omega (arith, less))
            one low (inr more) h = let same : level low ≡ n = omega (arith, more, h) in subst Fit (ap of_level (sym same) ∙ kind_at low) fit

  -- a row that is to come has room, or a first kind lacks it
  pub room-or : (w : ℕ) (f : MachineFlight) (due : List Change) → MayBegin plan s.machine w f due → (row : BareRow) → f.new ≡ Some (place (router_in (bare_rows s.machine.board.applied) f.key) row) → good_of plan s.written f.key ≡ Some row → HasRoomFor workers capacities s.objects s.machine due ⊎ ((kind : Kind) × LacksRoom plan workers capacities s f.key kind)
  room-or w f due begins row new good = by (scan due (length all_kinds))
    where
      by : ((low : Kind) → level low < length all_kinds → Fit due low) ⊎ Lacks due → HasRoomFor workers capacities s.objects s.machine due ⊎ ((kind : Kind) × LacksRoom plan workers capacities s f.key kind)
      by (inl fit) = inl (λ kind. fit kind (level_within kind))
      by (inr x) = inr (x.which, record { worker = w; flight = f; due = due; begins = begins; is = refl; row = row; new = new; good = good; some = x.some; many = x.many; lower = x.lower })

  no_builds : (b : Option Owner) → ((o : Owner) → b ≡ Some o → ⊥) → b ≡ None
  no_builds None never = refl
  no_builds (Some o) never = absurd (never o refl)

  gone_makes : (kind : Kind) (k : Key) (o : Option Row) → makes kind (own_changes plan k o None) ≡ 0
  gone_makes kind k None = refl
  gone_makes kind k (Some a) = no_makes kind (going plan k a)

  -- a row that is to go needs no room
  pub room-gone : (w : ℕ) (f : MachineFlight) (due : List Change) → MayBegin plan s.machine w f due → f.new ≡ None → HasRoomFor workers capacities s.objects s.machine due
  room-gone w f due begins none kind some =
      let op = begins.operation in
      let builds = no_builds op.builds (λ o e. subst (λ z. IsIn o (uses_of plan f.key z)) none (op.built o e).0) in
      let own = own_changes plan f.key (s.machine.board.applied f.key) f.new in
      let due_is : due ≡ own = op.is ∙ ap (λ z. built_first z own) builds in
      let zero_made = ap (makes kind) due_is ∙ subst (λ z. makes kind (own_changes plan f.key (s.machine.board.applied f.key) z) ≡ 0) (sym none) (gone_makes kind f.key (s.machine.board.applied f.key)) in
      absurd (omega (arith, some, zero_made))
