-- of a key that has its good row already no reason to wait is true
use Rattle.std.proofs.Common.{◌≡◌, ◌∙◌, inl, inr, ℕ, true, List, [], Option, None, Some, is_some, refl, sym, ap, ap₂, subst, arith, not}
use Rattle.std.proofs.lemmas.Option.{same_Some}
use Rattle.std.proofs.lemmas.Bool.{false≢true}
use Rattle.swss_types.proofs.Routers.{vrf-refl}
use Rattle.table_schema.specs.Names.{names_of}
use Rattle.table_schema.specs.Plan.{IsPlan, Ports}
use Rattle.table_schema.specs.declared.key.Key.{Key}
use Rattle.table_schema.specs.declared.row.Row.{Row}
use Rattle.table_schema.specs.declared.key.Key.TheVariants as key
use Rattle.sai_types.specs.declared.kind.Kind.{Kind}
use Rattle.sai_types.specs.Alike.{IsIn}
use Rattle.switch_model.specs.Good.{TypedRows}
use Rattle.switch_model.specs.Marks.{IsTrueReason, Overflows, first_missing, IsMoved}
use Rattle.switch_model.specs.declared.wait.Wait.{Wait}
use Rattle.switch_model.specs.declared.wait.Wait.TheVariants as wait
use Rattle.switch_model.specs.Placed as row
use Rattle.switch_model.specs.Placed.{Placed, bare, bare_rows, place, router_in}
use Rattle.row_layout.specs.Operations.{Change, own_changes, uses_of}
use Rattle.row_layout.specs.Rows.{Owner}
use Rattle.row_layout.proofs.Changing.{own_same}
use Rattle.switch_machine.specs.Events.{IsQuiet, IsSafe, SwitchState}
use Rattle.switch_machine.specs.Flights.{Fits, MachineFlight, goes_over}
use Rattle.switch_machine.specs.Operations.{MayBegin, built_first}
use Rattle.switch_machine.specs.Places.{makes}
use Rattle.switch_machine.specs.Written.{good_of}
use Rattle.switch_machine.proofs.Overflowing.{no-overflow}
use Rattle.switch_machine.proofs.Reasoned.{closed}
use Rattle.switch_machine.proofs.Placing.{moved_not, own_place, row_of}
use Rattle.machine_laws.proofs.Possible.{can-begin}
use Rattle.machine_laws.proofs.Rows.{has_row, no_some, none_missing}

goes_same : (k : Key) (r : Placed) → goes_over k (Some r) (Some r) ≡ true → ⊥
goes_same (key.Intf n) (row.Intf v) h = false≢true (sym (ap not (vrf-refl v)) ∙ h)
goes_same k r h = false≢true h

module _ (plan : Ports) (is : IsPlan plan) (workers : ℕ) (capacities : List ℕ) (s : SwitchState) (kept : IsSafe plan workers capacities s) (quiet : IsQuiet s) (k : Key) (same : bare_rows s.machine.board.applied k ≡ good_of plan s.written k) where
  abbrev rows : TypedRows
  rows = bare_rows s.machine.board.applied

  named : (r : Row) (at : rows k ≡ Some r) (q : Key) → IsIn q (names_of k r) → is_some (rows q) ≡ true
  named r at q h = has_row rows (names_of k r) q (closed plan is workers capacities s kept k r at) h

  module _ (r : Placed) (at : s.machine.board.applied k ≡ Some r) where
    -- an operation that would bring the row again makes nothing
    nothing_made : (kind : Kind) (f : MachineFlight) (due : List Change) → f.key ≡ k → f.new ≡ Some r → MayBegin plan s.machine 0 f due → makes kind due ≡ 0
    nothing_made kind f due is_key new begins = by begins.operation.builds refl
      where
        applied : s.machine.board.applied f.key ≡ f.new
        applied = ap s.machine.board.applied is_key ∙ at ∙ sym new

        none : own_changes plan f.key (s.machine.board.applied f.key) f.new ≡ []
        none = ap₂ (own_changes plan f.key) (applied ∙ new) new ∙ own_same plan f.key r

        by : (b : Option Owner) → begins.operation.builds ≡ b → makes kind due ≡ 0
        by None e = ap (makes kind) (begins.operation.is ∙ ap₂ built_first e none)
        by (Some o) e = absurd (let built = begins.operation.built o e in built.1 f.key (inr (begins.rests, subst (λ z. IsIn o (uses_of plan f.key z)) (sym applied) built.0)))

    no_overflow : (kind : Kind) → Overflows plan capacities rows k (bare r) kind → ⊥
    no_overflow kind over =
        let x = can-begin plan is s.machine kept.sound quiet 0 k (Some r) (λ z e. subst (Fits plan k) (one_row r z e) (kept.sound.board.fit k r (inl at)))
        (λ p z e h. ap is_some (kept.sound.board.named k p z (inl (at ∙ e)) h).applied)
        (λ n ip len v u key_is row_is there. kept.sound.board.inside n ip len v u (inl (ap s.machine.board.applied (sym key_is) ∙ at ∙ row_is)) there)
        (λ goes. absurd (goes_same k r (sym (ap (λ o. goes_over k o (Some r)) at) ∙ goes))) in
        let none = nothing_made kind x.0 x.1 x.2 x.3 x.4 in
        let placed = own_place plan s.machine.board kept.sound.board k r at in
        no-overflow plan is capacities s.machine kept.sound quiet s.made s.objects kept.whole kept.laid 0 x.0 x.1 x.4 (bare r) (x.3 ∙ ap Some placed ∙ ap (λ q. Some (place (router_in rows q) (bare r))) (sym x.2)) kind (let p = kept.places kind in omega (arith, p, none)) (subst (λ q. Overflows plan capacities rows q (bare r) kind) (sym x.2) over)
      where
        one_row : (a b : Placed) → Some a ≡ Some b → a ≡ b
        one_row a b h = cc

  pub same-no_reason : (w : Wait) → IsTrueReason plan capacities (good_of plan s.written) rows k w → ⊥
  same-no_reason (wait.Missing p) (r, at, h) = no_some (first_missing rows (names_of k r)) p (none_missing rows (names_of k r) (λ q in_it. named r (same ∙ at) q in_it)) h
  same-no_reason (wait.Held h) (inl none, r, at, held) = no_some (rows k) r (same ∙ none) at
  same-no_reason (wait.Held h) (inr (old, new, there, is_good, have, moved), r, at, held) = moved_not k new (subst (λ z. IsMoved k z new) (same_Some old new (sym there ∙ same ∙ is_good)) moved)
  same-no_reason (wait.NoRoom kind) (r, at, have, over) = let y = row_of (s.machine.board.applied k) r (same ∙ at) in no_overflow y.0 y.1 kind (subst (λ z. Overflows plan capacities rows k z kind) (sym y.2) over)
  same-no_reason (wait.Busy v) h = h
