-- places on the chip are kept
use Rattle.std.proofs.Common.{◌∙◌, ◌≡◌, ◌⊎◌, ◌+◌, ◌≤◌, ◌<◌, ◌==◌, ◌∷◌, inl, inr, ℕ, zero, suc, cond, List, [], Option, None, Some, option_map, unwrap_or, max, refl, sym, ap, subst, arith}
use Rattle.std.specs.BTreeMap.{insert_entry, is_at}
use Rattle.std.specs.List.{sum_by}
use Rattle.std.specs.Map.{remove_entry, values_of}
use Rattle.std.proofs.lemmas.Bool.{cases_order, eq-eqb, lt-leb}
use Rattle.std.proofs.lemmas.List.Sums.{sum_by-cons}
use Rattle.std.proofs.lemmas.Map.Entries.{sum_by-insert_entry, sum_by-remove_entry}
use Rattle.sai_types.specs.declared.ids.Rid.{Rid}
use Rattle.sai_types.specs.declared.kind.Kind.{Kind}
use Rattle.sai_types.specs.declared.body.Attr.{Attr}
use Rattle.sai_types.specs.declared.body.Body.{Body}
use Rattle.sai_types.specs.declared.body.Call.{Call}
use Rattle.sai_types.specs.declared.body.Call.TheVariants as call
use Rattle.sai_types.specs.declared.body.Entry.{Entry}
use Rattle.sai_types.specs.declared.thing.Thing.{Thing}
use Rattle.sai_types.specs.After.{after_call, after_set, entry_of, with_attr}
use Rattle.sai_types.specs.Made.{AreSorted}
use Rattle.sai_types.specs.Objects.{Objects, body_at, entry_cmp, is_of, level, used}
use Rattle.sai_types.specs.Refusal.{capacity_of}
use Rattle.sai_types.proofs.Apart.{kind_of-with_attr}
use Rattle.sai_types.proofs.Entries.{entry_total}
use Rattle.chip_layout.specs.Bodies.{IsBody}
use Rattle.chip_layout.proofs.Laid.{found-body}
use Rattle.chip_layout.specs.Layout.{Has, HasRoom, Layout, IsLaidOut}
use Rattle.sai_types.specs.Names.{name_kind, name_of}
use Rattle.chip_layout.proofs.Bodies.{kind-body}
use Rattle.row_layout.specs.Operations.{Change, Make, Set, Take}
use Rattle.switch_machine.specs.Changes.{IsCall}
use Rattle.switch_machine.specs.Flights.{MachineFlight, Machine, put}
use Rattle.switch_machine.specs.Steps.{finished, left, moved, parted, started}
use Rattle.row_layout.specs.Rows.{Owner}
use Rattle.switch_machine.specs.Places.{AreCovered, HasPlaces, HasRoomFor, makes, missing, sum_below}
use Rattle.switch_machine.proofs.Splits.{IsSplit, nat_split, put_at, put_off}

-- ---- sums over workers

pub sum_same : (n : ℕ) (f g : ℕ → ℕ) → ((v : ℕ) → v < n → f v ≡ g v) → sum_below n f ≡ sum_below n g
sum_same zero f g same = refl
sum_same (suc n) f g same =
    let rest = sum_same n f g (λ v h. same v (omega (arith, h))) in
    let last = same n (omega arith) in
    omega (arith, rest, last)

less_by : (n w : ℕ) → w < suc n → (n ≡ w → ⊥) → w < n
less_by n w h other = by (cases_order w n)
  where
    by : (w ≡ n) ⊎ ((w < n) ⊎ (n < w)) → w < n
    by (inl same) = absurd (other (sym same))
    by (inr (inl less)) = less
    by (inr (inr more)) = absurd (omega (arith, h, more))

pub sum_put : (n w : ℕ) (f g : ℕ → ℕ) → w < n → ((v : ℕ) → (v ≡ w → ⊥) → f v ≡ g v) → sum_below n g + f w ≡ sum_below n f + g w
sum_put zero w f g h same = absurd (omega (arith, h))
sum_put (suc n) w f g h same = by (λ less. sum_put n w f g less same) (nat_split n w)
  where
    by : (w < n → sum_below n g + f w ≡ sum_below n f + g w) → IsSplit n w → sum_below n g + g n + f w ≡ sum_below n f + f n + g w
    by again (inl at) =
        let rest = sum_same n f g (λ v less. same v (λ e. absurd (omega (arith, less, at, e)))) in
        let one = ap f at in
        let two = ap g at in
        omega (arith, rest, one, two)
    by again (inr other) =
        let rest = again (less_by n w h other) in
        let last = same n other in
        omega (arith, rest, last)

pub sum_least : (n w : ℕ) (f : ℕ → ℕ) → w < n → f w ≤ sum_below n f
sum_least zero w f h = absurd (omega (arith, h))
sum_least (suc n) w f h = by (λ less. sum_least n w f less) (nat_split n w)
  where
    by : (w < n → f w ≤ sum_below n f) → IsSplit n w → f w ≤ sum_below n f + f n
    by again (inl at) = let one = ap f at in omega (arith, one)
    by again (inr other) = let rest = again (less_by n w h other) in omega (arith, rest)

sum_most : (n : ℕ) (f g : ℕ → ℕ) → ((v : ℕ) → f v ≤ g v) → sum_below n f ≤ sum_below n g
sum_most zero f g less = omega arith
sum_most (suc n) f g less =
    let rest = sum_most n f g less in
    let last = less n in
    omega (arith, rest, last)

max_right : (a b : ℕ) → b ≤ max a b
max_right a b = omega arith

-- what is kept covers what is missing
pub room-covered : (workers : ℕ) (capacities : List ℕ) (objects : Objects) (m : Machine) (due : List Change) → HasRoomFor workers capacities objects m due → (kind : Kind) → 0 < makes kind due → used objects kind + missing workers m kind + makes kind due ≤ capacity_of capacities kind
room-covered workers capacities objects m due room kind more =
    let most = sum_most workers (λ w. makes kind (m.due w)) (λ w. max (makes kind (m.reserved w)) (makes kind (m.due w))) (λ w. max_right (makes kind (m.reserved w)) (makes kind (m.due w))) in
    let fits = room kind more in
    omega (arith, most, fits)

pub covered-moved : (m : Machine) (w : ℕ) (c : Change) (cs : List Change) (stands : List (Rid × Thing)) → m.due w ≡ c ∷ cs → AreCovered m → AreCovered (moved m w cs stands)
covered-moved m w c cs stands due covered = record { due = λ v none. by v none (nat_split v w); idle = covered.idle }
  where
    by : (v : ℕ) → m.board.flights v ≡ None → IsSplit v w → put w cs m.due v ≡ []
    by v none (inr other) = put_off w v cs m.due other ∙ covered.due v none
    by v none (inl same) = let nothing = sym (ap m.due same ∙ due) ∙ covered.due v none in absurd cc

pub covered-started : (m : Machine) (w : ℕ) (f : MachineFlight) (due : List Change) → AreCovered m → AreCovered (started m w f due)
covered-started m w f due covered = record { due = λ v none. by v none (nat_split v w); idle = λ v none. idle v none (nat_split v w) }
  where
    by : (v : ℕ) → put w (Some f) m.board.flights v ≡ None → IsSplit v w → put w due m.due v ≡ []
    by v none (inl same) = let two = sym (put_at w v (Some f) m.board.flights same) ∙ none in absurd cc
    by v none (inr other) = put_off w v due m.due other ∙ covered.due v (sym (put_off w v (Some f) m.board.flights other) ∙ none)

    idle : (v : ℕ) → put w (Some f) m.board.flights v ≡ None → IsSplit v w → put w due m.reserved v ≡ []
    idle v none (inl same) = let two = sym (put_at w v (Some f) m.board.flights same) ∙ none in absurd cc
    idle v none (inr other) = put_off w v due m.reserved other ∙ covered.idle v (sym (put_off w v (Some f) m.board.flights other) ∙ none)

pub covered-left : (m : Machine) (w : ℕ) (f : MachineFlight) (retires : Option Owner) (due : List Change) → AreCovered m → AreCovered (left m w f retires due)
covered-left m w f retires due covered = record { due = λ v absent. by v absent (nat_split v w); idle = λ v absent. idle v absent (nat_split v w) }
  where
    by : (v : ℕ) → put w (Some (parted f retires)) m.board.flights v ≡ None → IsSplit v w → put w due m.due v ≡ []
    by v absent (inl same) = let two = sym (put_at w v (Some (parted f retires)) m.board.flights same) ∙ absent in absurd cc
    by v absent (inr other) = put_off w v due m.due other ∙ covered.due v (sym (put_off w v (Some (parted f retires)) m.board.flights other) ∙ absent)

    idle : (v : ℕ) → put w (Some (parted f retires)) m.board.flights v ≡ None → IsSplit v w → m.reserved v ≡ []
    idle v absent (inl same) = let two = sym (put_at w v (Some (parted f retires)) m.board.flights same) ∙ absent in absurd cc
    idle v absent (inr other) = covered.idle v (sym (put_off w v (Some (parted f retires)) m.board.flights other) ∙ absent)

pub covered-ended : (m : Machine) (w : ℕ) (f : MachineFlight) → m.due w ≡ [] → AreCovered m → AreCovered (finished m w f)
covered-ended m w f done covered = record { due = λ v none. by v none (nat_split v w); idle = λ v none. idle v none (nat_split v w) }
  where
    by : (v : ℕ) → put w None m.board.flights v ≡ None → IsSplit v w → m.due v ≡ []
    by v none (inl same) = ap m.due same ∙ done
    by v none (inr other) = covered.due v (sym (put_off w v None m.board.flights other) ∙ none)

    idle : (v : ℕ) → put w None m.board.flights v ≡ None → IsSplit v w → put w [] m.reserved v ≡ []
    idle v none (inl same) = put_at w v [] m.reserved same
    idle v none (inr other) = put_off w v [] m.reserved other ∙ covered.idle v (sym (put_off w v None m.board.flights other) ∙ none)

-- ---- what calls do to the counts

values_sum : (f : Body Rid → ℕ) (es : Objects) → sum_by (λ (o : Entry Rid × Body Rid). f o.1) es ≡ sum_by f (values_of es)
values_sum f [] = refl
values_sum f (e ∷ es) =
    let rest = values_sum f es in
    let one = sum_by-cons (λ (o : Entry Rid × Body Rid). f o.1) e es in
    let two = sum_by-cons f e.1 (values_of es) in
    omega (arith, rest, one, two)

abbrev pub counts : Kind → Body Rid → ℕ
counts kind b = cond (is_of kind b) 1 0

used_values : (kind : Kind) (objects : Objects) → used objects kind ≡ sum_by (counts kind) (values_of objects)
used_values kind objects = values_sum (counts kind) objects

count_of : (kind : Kind) (b : Body Rid) (o : Option (Body Rid)) → o ≡ Some b → unwrap_or (option_map (counts kind) o) 0 ≡ counts kind b
count_of kind b o h = ap (λ z. unwrap_or (option_map (counts kind) z) 0) h

used_put : (kind : Kind) (objects : Objects) (e : Entry Rid) (b : Body Rid) → AreSorted objects → used (insert_entry entry_cmp objects e b) kind + unwrap_or (option_map (counts kind) (body_at objects e)) 0 ≡ used objects kind + counts kind b
used_put kind objects e b sorted =
    let sum = sum_by-insert_entry (counts kind) entry_total objects e b sorted in
    let one = used_values kind (insert_entry entry_cmp objects e b) in
    let two = used_values kind objects in
    omega (arith, sum, one, two)

pub used-made : (kind : Kind) (objects : Objects) (n : ℕ) (b : Body Rid) → AreSorted objects → used (after_call n objects (call.Create b)) kind ≤ used objects kind + counts kind b
used-made kind objects n b sorted =
    let sum = used_put kind objects (entry_of n b) b sorted in
    omega (arith, sum)

-- what goes leaves its place
pub used-taken : (kind : Kind) (objects : Objects) (n : ℕ) (e : Entry Rid) (b : Body Rid) → body_at objects e ≡ Some b → used (after_call n objects (call.Remove e)) kind + counts kind b ≡ used objects kind
used-taken kind objects n e b at =
    let sum = sum_by-remove_entry (counts kind) (is_at (entry_cmp e)) objects in
    let had = count_of kind b (body_at objects e) at in
    let one = used_values kind (remove_entry (is_at (entry_cmp e)) objects) in
    let two = used_values kind objects in
    omega (arith, sum, one, two, had)

pub used-set : (kind : Kind) (objects : Objects) (n : ℕ) (e : Entry Rid) (a : Attr Rid) (o : Option (Body Rid)) → AreSorted objects → body_at objects e ≡ o → used (after_set objects e a o) kind ≤ used objects kind
used-set kind objects n e a None sorted at = omega arith
used-set kind objects n e a (Some b) sorted at =
    let sum = used_put kind objects e (with_attr b a) sorted in
    let had = count_of kind b (body_at objects e) at in
    let same = ap {B = ℕ} (λ k. cond (level k == level kind) 1 0) (kind_of-with_attr b a) in
    omega (arith, sum, had, same)

-- ---- the next change

kind_count : (layout : Layout Rid) (t : Thing) (b : Body Rid) (kind : Kind) → IsBody (Has layout) t b → counts kind b ≡ cond (level (name_kind (name_of t)) == level kind) 1 0
kind_count layout t b kind of = ap {B = ℕ} (λ k. cond (level k == level kind) 1 0) (kind-body (Has layout) t b of)

module _ (workers : ℕ) (capacities : List ℕ) (made : ℕ) (objects : Objects) (m later : Machine) (w : ℕ) (below : w < workers) (others : (v : ℕ) → (v ≡ w → ⊥) → later.due v ≡ m.due v) where
  sums : (kind : Kind) → missing workers later kind + makes kind (m.due w) ≡ missing workers m kind + makes kind (later.due w)
  sums kind = sum_put workers w (λ v. makes kind (m.due v)) (λ v. makes kind (later.due v)) below (λ v other. ap (makes kind) (sym (others v other)))

  -- there is room for the thing that is due
  pub room-due : (t : Thing) (cs : List Change) → HasPlaces workers capacities objects m → m.due w ≡ Make t ∷ cs → HasRoom capacities objects t
  room-due t cs places due =
      let kind = name_kind (name_of t) in
      let fits = places kind in
      let least = sum_least workers w (λ v. makes kind (m.due v)) below in
      let that = ap (makes kind) due in
      let one = ap {B = ℕ} (λ x. cond x 1 0) (eq-eqb (level kind) (level kind) refl) in
      lt-leb (capacity_of capacities kind) (used objects kind) (omega (arith, fits, least, that, one))

  -- a call keeps the places
  pub places-kept : (layout : Layout Rid) (laid : IsLaidOut layout objects) (c : Change) (cs : List Change) (d : Call Rid) → AreSorted objects → HasPlaces workers capacities objects m → m.due w ≡ c ∷ cs → later.due w ≡ cs → IsCall layout c d → HasPlaces workers capacities (after_call (made + 1) objects d) later
  places-kept layout laid (Make t) cs d sorted places due after x kind =
      let fits = places kind in
      let sum = sums kind in
      let was = ap (makes kind) due in
      let now = ap (makes kind) after in
      let count = kind_count layout t x.body kind x.of in
      let less = used-made kind objects (made + 1) x.body sorted in
      subst (λ z. used (after_call (made + 1) objects z) kind + missing workers later kind ≤ capacity_of capacities kind) (sym x.is) (omega (arith, fits, sum, was, now, count, less))
  places-kept layout laid (Set t) cs d sorted places due after x kind =
      let fits = places kind in
      let sum = sums kind in
      let was = ap (makes kind) due in
      let now = ap (makes kind) after in
      let less = used-set kind objects (made + 1) (entry_of x.id.0 x.body) x.attr (body_at objects (entry_of x.id.0 x.body)) sorted refl in
      subst (λ z. used (after_call (made + 1) objects z) kind + missing workers later kind ≤ capacity_of capacities kind) (sym x.is) (omega (arith, fits, sum, was, now, less))
  places-kept layout laid (Take n) cs d sorted places due after x kind =
      let fits = places kind in
      let sum = sums kind in
      let was = ap (makes kind) due in
      let now = ap (makes kind) after in
      let count = kind_count layout x.old x.body kind x.of in
      let named = ap {B = ℕ} (λ m. cond (level (name_kind m) == level kind) 1 0) x.named in
      let less = used-taken kind objects (made + 1) (entry_of x.id.0 x.body) x.body (found-body layout objects laid x.id x.old x.body x.stands x.of) in
      subst (λ z. used (after_call (made + 1) objects z) kind + missing workers later kind ≤ capacity_of capacities kind) (sym x.is) (omega (arith, fits, sum, was, now, less, count, named))

  -- an operation for which there is room keeps the places
  pub places-begun : (due : List Change) → HasPlaces workers capacities objects m → later.due w ≡ due → ((kind : Kind) → 0 < makes kind due → used objects kind + missing workers m kind + makes kind due ≤ capacity_of capacities kind) → HasPlaces workers capacities objects later
  places-begun due places after room kind = by (cases_order (makes kind due) 0)
    where
      by : (makes kind due ≡ 0) ⊎ ((makes kind due < 0) ⊎ (0 < makes kind due)) → used objects kind + missing workers later kind ≤ capacity_of capacities kind
      by (inl none) =
          let fits = places kind in
          let sum = sums kind in
          let now = ap (makes kind) after in
          omega (arith, fits, sum, now, none)
      by (inr (inl less)) = absurd (omega (arith, less))
      by (inr (inr some)) =
          let fits = room kind some in
          let sum = sums kind in
          let now = ap (makes kind) after in
          omega (arith, fits, sum, now)
