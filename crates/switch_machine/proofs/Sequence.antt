-- an operation that runs alone makes its changes in the order of its table, and so far the first of them
use Rattle.std.proofs.Common.{◌≡◌, ◌⊎◌, ◌||◌, ◌∷◌, ◌++◌, ◌∙◌, inl, inr, ℕ, Bool, true, false, List, [], Option, None, Some, if◌then◌else◌, refl, sym, ap, ap₂, subst}
use Rattle.std.proofs.lemmas.Bool.{and_parts, cases_Bool, eqb-true, false≢true, or_cases}
use Rattle.std.specs.List.{list_any}
use Rattle.std.proofs.lemmas.List.{append-nil}
use Rattle.std.proofs.lemmas.Option.{same_Some}
use Rattle.swss_types.specs.declared.interface.IfName.TheVariants as on
use Rattle.swss_types.proofs.Routers.{vrf-exact}
use Rattle.swss_types.proofs.Tied.{tied}
use Rattle.table_schema.specs.Key.{key_cmp}
use Rattle.table_schema.specs.Plan.{Ports}
use Rattle.table_schema.specs.declared.key.Key.{Key}
use Rattle.table_schema.specs.declared.key.Key.TheVariants as key
use Rattle.table_schema.specs.declared.row.RouteRow.TheVariants as route
use Rattle.table_schema.proofs.Keys.{key_exact}
use Rattle.sai_types.specs.declared.weight.WHop.{WHop}
use Rattle.sai_types.specs.declared.ids.Rid.{Rid}
use Rattle.sai_types.specs.declared.body.Call.{Call}
use Rattle.sai_types.specs.declared.thing.Thing.{Thing}
use Rattle.sai_types.specs.declared.thing.Thing.TheVariants as thing
use Rattle.sai_types.specs.Alike.{IsIn}
use Rattle.sai_types.proofs.Exact.{ip-exact}
use Rattle.switch_model.specs.Placed as row
use Rattle.switch_model.specs.Placed.{Placed as Row, PlacedRows}
use Rattle.switch_model.specs.Things.{hops_of, lane_of}
use Rattle.row_layout.specs.Operations.{Change, Make, build_all, changes_of, make_all, own_changes, retire_all, same_owner, shared_going, take_all, unshared, uses_of}
use Rattle.row_layout.specs.Rows as owner
use Rattle.row_layout.specs.Rows.{Owner, from}
use Rattle.row_layout.specs.Shared.{group_by, shared_things, uses}
use Rattle.row_layout.proofs.Changing.{among}
use Rattle.switch_machine.specs.Events.{AreAnswers, Due, Ended, Follows, IsAnswer, IsBegin, IsDueCall, IsQuiet, Left, Retires, SwitchState, after_answers, changes_made}
use Rattle.switch_machine.specs.Flights.{CountsAsUser, MachineFlight, IsResting, IsUser, Machine}
use Rattle.switch_machine.specs.Operations.{IsUsedByOthers, built_first}
use Rattle.switch_machine.specs.Steps.{finished, left, moved, parted, started}
use Rattle.sai_types.proofs.Equal.{thing-exact}
use Rattle.switch_machine.proofs.Running.{no_flight}
use Rattle.switch_machine.proofs.Splits.{IsPut, IsSplit, New, Old, key_split, put_at, put_by, use_row_in}

-- ---- what a row shares

pub owner_exact : (o p : Owner) → same_owner o p ≡ true → o ≡ p
owner_exact (owner.OfRow k) (owner.OfRow q) h = ap owner.OfRow (key_exact k q (tied (key_cmp k q) h))
owner_exact (owner.Bridge a) (owner.Bridge b) h = ap owner.Bridge (eqb-true a b h)
owner_exact (owner.Own v a) (owner.Own w b) h = let parts = and_parts _ _ h in ap₂ owner.Own (vrf-exact v w parts.0) (ip-exact a b parts.1)
owner_exact (owner.Group a) (owner.Group b) h = let same = thing-exact (thing.Group a) (thing.Group b) h in let that : a ≡ b = cc in ap owner.Group that
owner_exact _ _ h = absurd (false≢true h)

pub any_owner_in : (o : Owner) (os : List Owner) → list_any (same_owner o) os ≡ true → IsIn o os
any_owner_in o [] h = absurd (false≢true h)
any_owner_in o (p ∷ os) h = by (λ e. any_owner_in o os e) (or_cases (same_owner o p) (list_any (same_owner o) os) h)
  where
    by : (list_any (same_owner o) os ≡ true → IsIn o os) → (same_owner o p ≡ true) ⊎ (list_any (same_owner o) os ≡ true) → IsIn o (p ∷ os)
    by rest (inl e) = inl (owner_exact o p e)
    by rest (inr e) = inr (rest e)

-- a row shares one thing, or none
abbrev pub IsShort : List Owner → Type 0
IsShort os = (os ≡ []) ⊎ ((o : Owner) × (os ≡ o ∷ []))

from_short : {X : Type 0} (x : Option X) (g : X → Owner) → IsShort (from x (λ z. g z ∷ []))
from_short None g = inl refl
from_short (Some x) g = inr (g x, refl)

group_short : (hops : Option (List WHop)) → IsShort (group_by hops)
group_short None = inl refl
group_short (Some []) = inl refl
group_short (Some (hop ∷ [])) = inl refl
group_short (Some (hop ∷ next ∷ hops)) = inr (owner.Group (hop ∷ next ∷ hops), refl)

row_short : (plan : Ports) (k : Key) (r : Row) → IsShort (uses plan k r)
row_short plan (key.Member v p) (row.Member t) = from_short (lane_of plan p) owner.Bridge
row_short plan (key.Addr (on.Ethernet p) ip len) (row.Addr v) = from_short (lane_of plan p) (λ lane. owner.Own v ip)
row_short plan (key.Addr (on.Vlan n) ip len) (row.Addr v) = inr (owner.Own v ip, refl)
row_short plan (key.Addr (on.Loopback n) ip len) (row.Addr v) = inr (owner.Own v ip, refl)
row_short plan (key.Route v prefix) (row.Route (route.Hops hops)) = group_short (hops_of plan hops)
row_short plan (key.Route v prefix) (row.Route route.Drop) = inl refl
row_short plan (key.Route v prefix) (row.Route (route.Direct i)) = inl refl
row_short plan _ _ = inl refl

pub uses_short : (plan : Ports) (k : Key) (o : Option Row) → IsShort (uses_of plan k o)
uses_short plan k None = inl refl
uses_short plan k (Some r) = row_short plan k r

-- ---- what is shared by one row alone

unshared_none : (used : Owner → Bool) (others : List Owner) (o : Owner) → (used o ≡ true) ⊎ IsIn o others → unshared used others (o ∷ []) ≡ []
unshared_none used others o h = ap (λ b. if b then [] else o ∷ []) (by h)
  where
    or_last : (a b : Bool) → b ≡ true → (a || b) ≡ true
    or_last true b e = refl
    or_last false b e = e

    by : (used o ≡ true) ⊎ IsIn o others → (used o || list_any (same_owner o) others) ≡ true
    by (inl e) = ap (λ b. b || list_any (same_owner o) others) e
    by (inr h) = or_last (used o) (list_any (same_owner o) others) (among o others h)

unshared_it : (used : Owner → Bool) (others : List Owner) (o : Owner) → used o ≡ false → (IsIn o others → ⊥) → unshared used others (o ∷ []) ≡ o ∷ []
unshared_it used others o e none = ap (λ b. if b then [] else o ∷ []) (ap (λ b. b || list_any (same_owner o) others) e ∙ never (list_any (same_owner o) others) (λ h. none (any_owner_in o others h)))
  where
    never : (b : Bool) → (b ≡ true → ⊥) → b ≡ false
    never true h = absurd (h refl)
    never false h = refl

no_one : {X : Type 0} (o : Owner) (os : List Owner) → os ≡ [] → IsIn o os → X
no_one o os e h = elim (subst (IsIn o) e h) [ ]

the_one : (o p : Owner) (os : List Owner) → os ≡ p ∷ [] → IsIn o os → o ≡ p
the_one o p os e h = by (subst (IsIn o) e h)
  where
    by : IsIn o (p ∷ []) → o ≡ p
    by (inl same) = same
    by (inr none) = elim none [ ]

some_leaves : {X : Type 0} (o : Owner) (l : Option Owner) → l ≡ Some o → l ≡ None → X
some_leaves o l h g = absurd cc

pub make_append : (ts : List Thing) (own rest : List Change) → make_all ts own ++ rest ≡ make_all ts (own ++ rest)
make_append [] own rest = refl
make_append (t ∷ ts) own rest = ap (λ z. Make t ∷ z) (make_append ts own rest)

module _ (plan : Ports) (workers w : ℕ) (f : MachineFlight) (rows : PlacedRows) (used : Owner → Bool) (by_others : IsUsedByOthers plan rows f.key used) (leaves : (o : Owner) → f.leaves ≡ Some o → IsIn o (uses_of plan f.key (rows f.key)) × (IsIn o (uses_of plan f.key f.new) → ⊥)) (covers : (o : Owner) → IsIn o (uses_of plan f.key (rows f.key)) → CountsAsUser plan f o) where
  abbrev was : List Owner
  was = uses_of plan f.key (rows f.key)

  abbrev now : List Owner
  now = uses_of plan f.key f.new

  -- what is taken away at the end
  abbrev tail : List Change
  tail = retire_all (unshared used now was)

  tail_by : (os : List Owner) → was ≡ os → tail ≡ retire_all (unshared used now os)
  tail_by os e = ap (λ z. retire_all (unshared used now z)) e

  abbrev IsOther : Owner → Type 0
  IsOther o = (q : Key) × (r : Row) × (q ≡ f.key → ⊥) × (rows q ≡ Some r) × IsIn o (uses plan q r)

  tail_stays : f.leaves ≡ None → tail ≡ []
  tail_stays none = by (uses_short plan f.key (rows f.key))
    where
      by : IsShort was → tail ≡ []
      by (inl e) = tail_by [] e
      by (inr (p, e)) = tail_by (p ∷ []) e ∙ ap retire_all (unshared_none used now p (inr (counts (covers p (subst (IsIn p) (sym e) (inl refl))))))
        where
          counts : CountsAsUser plan f p → IsIn p now
          counts (inl h) = h
          counts (inr h) = some_leaves p f.leaves h none

  tail_others : (o : Owner) → f.leaves ≡ Some o → IsOther o → tail ≡ []
  tail_others o h other = by (uses_short plan f.key (rows f.key))
    where
      by : IsShort was → tail ≡ []
      by (inl e) = tail_by [] e
      by (inr (p, e)) = tail_by (p ∷ []) e ∙ ap retire_all (unshared_none used now p (inl (subst (λ z. used z ≡ true) (the_one o p was e (leaves o h).0) (yes (cases_Bool (used o))))))
        where
          yes : (used o ≡ true) ⊎ (used o ≡ false) → used o ≡ true
          yes (inl t) = t
          yes (inr g) = absurd (by_others.no o g other.0 other.1 other.2 other.3 other.4)

  tail_last : (o : Owner) → f.leaves ≡ Some o → (IsOther o → ⊥) → tail ≡ take_all (shared_going o) []
  tail_last o h none = by (uses_short plan f.key (rows f.key))
    where
      no : (used o ≡ true) ⊎ (used o ≡ false) → used o ≡ false
      no (inl t) = absurd (none (by_others.yes o t))
      no (inr g) = g

      by : IsShort was → tail ≡ take_all (shared_going o) []
      by (inl e) = no_one o was e (leaves o h).0
      by (inr (p, e)) =
          let same = the_one o p was e (leaves o h).0 in
          tail_by (p ∷ []) e ∙ ap (λ z. retire_all (unshared used now (z ∷ []))) (sym same)
          ∙ ap retire_all (unshared_it used now o (no (cases_Bool (used o))) (leaves o h).1)

  -- ---- the run

  record First (m : Machine) (due : List Change) : Type 0 where
    there : m.board.flights w ≡ Some f
    is_due : m.due w ≡ due
    only : (v : ℕ) (g : MachineFlight) → m.board.flights v ≡ Some g → (v ≡ w) × (f ≡ g)
    applied : (q : Key) → m.board.applied q ≡ rows q

  record Last (m : Machine) (due : List Change) : Type 0 where
    flight : MachineFlight
    there : m.board.flights w ≡ Some flight
    parted : flight.leaves ≡ None
    is_due : m.due w ≡ due
    only : (v : ℕ) (g : MachineFlight) → m.board.flights v ≡ Some g → v ≡ w

  -- the changes that are still to be made
  data Phase (m : Machine) : List Change → Type 0 where
    AtFirst : (due : List Change) → First m due → Phase m (due ++ tail)
    AtLast : (due : List Change) → Last m due → Phase m due
    AtEnd : ((v : ℕ) (g : MachineFlight) → m.board.flights v ≡ Some g → ⊥) → Phase m []

  gone : (m : Machine) (g : MachineFlight) → ((v : ℕ) (h : MachineFlight) → m.board.flights v ≡ Some h → v ≡ w) → (v : ℕ) (h : MachineFlight) → (finished m w g).board.flights v ≡ Some h → ⊥
  gone m g only v h at = of (put_by w v None m.board.flights (Some h) at)
    where
      of : IsPut w v None m.board.flights (Some h) → ⊥
      of (New same e) = no_flight h e
      of (Old other there) = other (only v h there)

  left_only : (m : Machine) (g : MachineFlight) (retires : Option Owner) (due : List Change) → ((v : ℕ) (h : MachineFlight) → m.board.flights v ≡ Some h → v ≡ w) → (v : ℕ) (h : MachineFlight) → (left m w g retires due).board.flights v ≡ Some h → v ≡ w
  left_only m g retires due only v h at = of (put_by w v (Some (parted g retires)) m.board.flights (Some h) at)
    where
      of : IsPut w v (Some (parted g retires)) m.board.flights (Some h) → v ≡ w
      of (New same e) = same
      of (Old other there) = only v h there

  -- another key that is a user has it by its applied row
  other_of : (m : Machine) (due : List Change) → First m due → (q : Key) (o : Owner) → (q ≡ f.key → ⊥) → IsUser plan m.board q o → IsOther o
  other_of m due x q o apart (inl (v, g, at, is, counts)) = absurd (apart (sym (ap (λ (z : MachineFlight). z.key) (x.only v g at).1 ∙ is)))
  other_of m due x q o apart (inr (rests, h)) = let r = use_row_in plan q (m.board.applied q) o h in (q, r.0, apart, sym (x.applied q) ∙ r.1, r.2)

  user_of : (m : Machine) (due : List Change) → First m due → (o : Owner) (other : IsOther o) → IsUser plan m.board other.0 o
  user_of m due x o (q, r, apart, at, h) = inr ((λ v g there is. apart (sym (ap (λ (z : MachineFlight). z.key) (x.only v g there).1 ∙ is))), subst (λ z. IsIn o (uses_of plan q z)) (sym (x.applied q ∙ at)) h)

  phase_follows : (m later : Machine) (rest : List Change) → Phase m rest → Follows plan w m later → Phase later rest
  phase_follows m _ _ x (Due c cs at) = x
  phase_follows m _ _ (AtEnd none) (Ended g ends) = absurd (none w g ends.flying)
  phase_follows m _ _ (AtEnd none) (Left g o x) = absurd (none w g x.leaving.flying)
  phase_follows m _ _ (AtEnd none) (Retires g o x) = absurd (none w g x.leaving.flying)
  phase_follows m _ _ (AtLast due x) (Ended g ends) = subst (Phase (finished m w g)) (sym ends.done ∙ x.is_due) (AtEnd (gone m g x.only))
  phase_follows m _ _ (AtLast due x) (Left g o y) = let same = same_Some x.flight g (sym x.there ∙ y.leaving.flying) in some_leaves o x.flight.leaves (ap (λ (z : MachineFlight). z.leaves) same ∙ y.leaving.leaves) x.parted
  phase_follows m _ _ (AtLast due x) (Retires g o y) = let same = same_Some x.flight g (sym x.there ∙ y.leaving.flying) in some_leaves o x.flight.leaves (ap (λ (z : MachineFlight). z.leaves) same ∙ y.leaving.leaves) x.parted
  phase_follows m _ _ (AtFirst due x) (Ended g ends) =
      let same = (x.only w g ends.flying).1 in
      let none = tail_stays (ap (λ (z : MachineFlight). z.leaves) same ∙ ends.left) in
      subst (λ z. Phase (finished m w g) (z ++ tail)) (sym ends.done ∙ x.is_due) (subst (Phase (finished m w g)) (sym none) (AtEnd (gone m g (λ v h at. (x.only v h at).0))))
  phase_follows m _ _ (AtFirst due x) (Left g o y) =
      let same = (x.only w g y.leaving.flying).1 in
      let none = tail_others o (ap (λ (z : MachineFlight). z.leaves) same ∙ y.leaving.leaves) (other_of m due x y.other o (λ e. y.apart (e ∙ ap (λ (z : MachineFlight). z.key) same)) y.user) in
      let later = finished (left m w g g.retires []) w (parted g g.retires) in
      subst (λ z. Phase later (z ++ tail)) (sym y.leaving.done ∙ x.is_due) (subst (Phase later) (sym none) (AtEnd (gone (left m w g g.retires []) (parted g g.retires) (left_only m g g.retires [] (λ v h at. (x.only v h at).0)))))
  phase_follows m _ _ (AtFirst due x) (Retires g o y) =
      let same = (x.only w g y.leaving.flying).1 in
      let last = tail_last o (ap (λ (z : MachineFlight). z.leaves) same ∙ y.leaving.leaves) (λ other. other.2 (y.last other.0 (user_of m due x o other) ∙ sym (ap (λ (z : MachineFlight). z.key) same))) in
      let going = take_all (shared_going o) [] in
      let later = left m w g (Some o) going in
      subst (λ z. Phase later (z ++ tail)) (sym y.leaving.done ∙ x.is_due) (subst (Phase later) (sym last) (AtLast going (record {
        flight = parted g (Some o);
        there = put_at w w (Some (parted g (Some o))) m.board.flights refl;
        parted = refl;
        is_due = put_at w w going m.due refl;
        only = left_only m g (Some o) going (λ v h at. (x.only v h at).0);
      })))

  -- the call that is due makes the first change that is still to be made
  due_is : (s : SwitchState) (call : Call Rid) (due : List Change) → s.machine.due w ≡ due → (x : IsDueCall workers call s) → x.worker ≡ w → due ≡ x.change ∷ x.rest
  due_is s call due is x at = sym is ∙ ap s.machine.due (sym at) ∙ x.due

  phase_due : (s : SwitchState) (call : Call Rid) (rest : List Change) → Phase s.machine rest → (x : IsDueCall workers call s) → (after : List Change) × (rest ≡ x.change ∷ after)
  phase_due s call _ (AtEnd none) x = absurd (none x.worker x.flight x.flying)
  phase_due s call _ (AtLast due p) x = (x.rest, due_is s call due p.is_due x (p.only x.worker x.flight x.flying))
  phase_due s call _ (AtFirst due p) x = (x.rest ++ tail, ap (λ z. z ++ tail) (due_is s call due p.is_due x (p.only x.worker x.flight x.flying).0))

  phase_answer : (s t : SwitchState) (call : Call Rid) (rest : List Change) → Phase s.machine rest → (x : IsAnswer plan workers call s t) → (after : List Change) × (rest ≡ x.next.change ∷ after) × Phase t.machine after
  phase_answer s t call _ (AtEnd none) x = absurd (none x.next.worker x.next.flight x.next.flying)
  phase_answer s t call _ (AtLast due p) x =
      let at = p.only x.next.worker x.next.flight x.next.flying in
      let m = moved s.machine x.next.worker x.next.rest x.stands in
      (x.next.rest, due_is s call due p.is_due x.next at, phase_follows m t.machine x.next.rest (AtLast x.next.rest (record { flight = p.flight; there = p.there; parted = p.parted; is_due = put_at x.next.worker w x.next.rest s.machine.due (sym at); only = p.only })) (subst (λ v. Follows plan v m t.machine) at x.follows))
  phase_answer s t call _ (AtFirst due p) x =
      let at = (p.only x.next.worker x.next.flight x.next.flying).0 in
      let m = moved s.machine x.next.worker x.next.rest x.stands in
      (x.next.rest ++ tail, ap (λ z. z ++ tail) (due_is s call due p.is_due x.next at), phase_follows m t.machine (x.next.rest ++ tail) (AtFirst x.next.rest (record { there = p.there; is_due = put_at x.next.worker w x.next.rest s.machine.due (sym at); only = p.only; applied = p.applied })) (subst (λ v. Follows plan v m t.machine) at x.follows))

  phase_quiet : (m : Machine) (rest : List Change) → ((v : ℕ) (g : MachineFlight) → m.board.flights v ≡ Some g → ⊥) → Phase m rest → rest ≡ []
  phase_quiet m _ quiet (AtEnd none) = refl
  phase_quiet m _ quiet (AtLast due p) = absurd (quiet w p.flight p.there)
  phase_quiet m _ quiet (AtFirst due p) = absurd (quiet w f p.there)

  -- what was made comes first, and what is still to be made behind it
  phase_answers : (s : SwitchState) (es : List (Call Rid × SwitchState)) (rest : List Change) (run : AreAnswers plan workers s es) → Phase s.machine rest → (later : List Change) × (changes_made plan workers s es run ++ later ≡ rest) × Phase (after_answers s es).machine later
  phase_answers s [] rest run p = (rest, refl, p)
  phase_answers s (e ∷ es) rest run p =
      let x = phase_answer s e.1 e.0 rest p run.0 in
      let y = phase_answers e.1 es x.0 run.1 x.2 in
      (y.0, ap (λ z. run.0.next.change ∷ z) y.1 ∙ sym x.1, y.2)

  -- ---- the changes that are due first

  abbrev own : List Change
  own = own_changes plan f.key (rows f.key) f.new

  builds_is : (builds : Option Owner) → ((o : Owner) → builds ≡ Some o → IsIn o now × (IsOther o → ⊥) × (IsIn o was → ⊥)) → (builds ≡ None → (o : Owner) → IsIn o now → IsOther o ⊎ IsIn o was) → built_first builds own ++ tail ≡ build_all (unshared used was now) (own ++ tail)
  builds_is builds built found = by builds refl (uses_short plan f.key f.new)
    where
      yes : (o : Owner) → IsOther o ⊎ IsIn o was → (used o ≡ true) ⊎ (used o ≡ false) → (used o ≡ true) ⊎ IsIn o was
      yes o h (inl t) = inl t
      yes o (inr h) (inr g) = inr h
      yes o (inl other) (inr g) = absurd (by_others.no o g other.0 other.1 other.2 other.3 other.4)

      no : (o : Owner) → (IsOther o → ⊥) → (used o ≡ true) ⊎ (used o ≡ false) → used o ≡ false
      no o none (inl t) = absurd (none (by_others.yes o t))
      no o none (inr g) = g

      shares : (os : List Owner) → now ≡ os → build_all (unshared used was now) (own ++ tail) ≡ build_all (unshared used was os) (own ++ tail)
      shares os e = ap (λ z. build_all (unshared used was z) (own ++ tail)) e

      by : (b : Option Owner) → builds ≡ b → IsShort now → built_first b own ++ tail ≡ build_all (unshared used was now) (own ++ tail)
      by None e (inl none) = sym (shares [] none)
      by None e (inr (p, one)) = sym (shares (p ∷ []) one ∙ ap (λ z. build_all z (own ++ tail)) (unshared_none used was p (yes p (found e p (subst (IsIn p) (sym one) (inl refl))) (cases_Bool (used p)))))
      by (Some o) e (inl none) = no_one o now none (built o e).0
      by (Some o) e (inr (p, one)) =
          let same = the_one o p now one (built o e).0 in
          let b = built o e in
          make_append (shared_things o) own tail
          ∙ sym (shares (p ∷ []) one ∙ ap (λ z. build_all (unshared used was (z ∷ [])) (own ++ tail)) (sym same) ∙ ap (λ z. build_all z (own ++ tail)) (unshared_it used was o (no o b.1 (cases_Bool (used o))) b.2))

module _ (plan : Ports) (workers : ℕ) (capacities : List ℕ) (s t : SwitchState) (x : IsBegin plan workers capacities s t) (es : List (Call Rid × SwitchState)) (run : AreAnswers plan workers t es) (used : Owner → Bool) (quiet : IsQuiet s) (by_others : IsUsedByOthers plan s.machine.board.applied x.flight.key used) where
  abbrev IsStillDue : Machine → List Change → Type 0
  IsStillDue = Phase plan workers x.worker x.flight s.machine.board.applied used by_others x.begins.leaves x.begins.covers

  abbrev table : List Change
  table = changes_of plan x.flight.key (s.machine.board.applied x.flight.key) x.flight.new used

  so_far : (rest : List Change) × (changes_made plan workers t es run ++ rest ≡ table) × IsStillDue (after_answers t es).machine rest
  so_far =
      let y = phase_answers plan workers x.worker x.flight s.machine.board.applied used by_others x.begins.leaves x.begins.covers t es _ run (phase_follows plan workers x.worker x.flight s.machine.board.applied used by_others x.begins.leaves x.begins.covers (started s.machine x.worker x.flight x.due) t.machine _ first x.follows) in
      (y.0, y.1 ∙ ap (λ z. z ++ tail plan workers x.worker x.flight s.machine.board.applied used by_others x.begins.leaves x.begins.covers) x.begins.operation.is ∙ builds_is plan workers x.worker x.flight s.machine.board.applied used by_others x.begins.leaves x.begins.covers x.begins.operation.builds built found, y.2)
    where
      rests : (q : Key) → IsResting s.machine.board q
      rests q v g at is = quiet v g at

      first : IsStillDue (started s.machine x.worker x.flight x.due) (x.due ++ tail plan workers x.worker x.flight s.machine.board.applied used by_others x.begins.leaves x.begins.covers)
      first = AtFirst x.due (record {
        there = put_at x.worker x.worker (Some x.flight) s.machine.board.flights refl;
        is_due = put_at x.worker x.worker x.due s.machine.due refl;
        only = λ v g at. of v g (put_by x.worker v (Some x.flight) s.machine.board.flights (Some g) at);
        applied = λ q. refl;
      })
        where
          of : (v : ℕ) (g : MachineFlight) → IsPut x.worker v (Some x.flight) s.machine.board.flights (Some g) → (v ≡ x.worker) × (x.flight ≡ g)
          of v g (New same e) = (same, same_Some x.flight g e)
          of v g (Old other there) = absurd (quiet v g there)

      built : (o : Owner) → x.begins.operation.builds ≡ Some o → IsIn o (uses_of plan x.flight.key x.flight.new) × (((q : Key) × (r : Row) × (q ≡ x.flight.key → ⊥) × (s.machine.board.applied q ≡ Some r) × IsIn o (uses plan q r)) → ⊥) × (IsIn o (uses_of plan x.flight.key (s.machine.board.applied x.flight.key)) → ⊥)
      built o e =
          let b = x.begins.operation.built o e in
          (b.0, (λ other. b.1 other.0 (inr (rests other.0, subst (λ z. IsIn o (uses_of plan other.0 z)) (sym other.3) other.4))), λ h. b.1 x.flight.key (inr (rests x.flight.key, h)))

      found : x.begins.operation.builds ≡ None → (o : Owner) → IsIn o (uses_of plan x.flight.key x.flight.new) → ((q : Key) × (r : Row) × (q ≡ x.flight.key → ⊥) × (s.machine.board.applied q ≡ Some r) × IsIn o (uses plan q r)) ⊎ IsIn o (uses_of plan x.flight.key (s.machine.board.applied x.flight.key))
      found e o h = let y = x.begins.operation.found e o h in by y.0 y.1 (key_split y.0 x.flight.key)
        where
          by : (q : Key) → IsUser plan s.machine.board q o → IsSplit q x.flight.key → ((q : Key) × (r : Row) × (q ≡ x.flight.key → ⊥) × (s.machine.board.applied q ≡ Some r) × IsIn o (uses plan q r)) ⊎ IsIn o (uses_of plan x.flight.key (s.machine.board.applied x.flight.key))
          by q (inl (v, g, at, is, counts)) _ = absurd (quiet v g at)
          by q (inr (_, u)) (inl same) = inr (subst (λ z. IsIn o (uses_of plan z (s.machine.board.applied z))) same u)
          by q (inr (_, u)) (inr apart) = let r = use_row_in plan q (s.machine.board.applied q) o u in inl (q, r.0, apart, r.1, r.2)

  -- so far an operation that runs alone has made the first changes of its table, and a call that is due makes the next
  pub sequence-so-far : (rest : List Change) × (changes_made plan workers t es run ++ rest ≡ table) × ((call : Call Rid) (y : IsDueCall workers call (after_answers t es)) → (after : List Change) × (rest ≡ y.change ∷ after))
  sequence-so-far = (so_far.0, so_far.1, λ call y. phase_due plan workers x.worker x.flight s.machine.board.applied used by_others x.begins.leaves x.begins.covers (after_answers t es) call so_far.0 so_far.2 y)

-- alone, to its end, it makes the changes of its table in their order
pub sequence : (plan : Ports) (workers : ℕ) (capacities : List ℕ) (s t : SwitchState) (x : IsBegin plan workers capacities s t) (es : List (Call Rid × SwitchState)) (run : AreAnswers plan workers t es) (used : Owner → Bool) → IsQuiet s → IsQuiet (after_answers t es) → IsUsedByOthers plan s.machine.board.applied x.flight.key used → changes_made plan workers t es run ≡ changes_of plan x.flight.key (s.machine.board.applied x.flight.key) x.flight.new used
sequence plan workers capacities s t x es run used quiet end by_others =
    let y = so_far plan workers capacities s t x es run used quiet by_others in
    let none = phase_quiet plan workers x.worker x.flight s.machine.board.applied used by_others x.begins.leaves x.begins.covers (after_answers t es).machine y.0 end y.2 in
    sym (append-nil (changes_made plan workers t es run)) ∙ ap (λ z. changes_made plan workers t es run ++ z) (sym none) ∙ y.1
