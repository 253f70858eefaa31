-- a key that has a reason to wait doesn't begin, and it has no other reason
use Rattle.std.proofs.Common.{◌≡◌, ◌∷◌, ◌∙◌, inl, inr, ℕ, List, [], Option, None, Some, is_some, option_map, if◌then◌else◌, refl, sym, ap, ap₂, subst, arith}
use Rattle.table_schema.specs.Plan.{IsPlan, Ports}
use Rattle.table_schema.specs.Names as written
use Rattle.table_schema.specs.declared.row.Row.{Row as BareRow}
use Rattle.table_schema.specs.declared.key.Key.{Key}
use Rattle.sai_types.specs.declared.kind.Kind.{Kind}
use Rattle.sai_types.specs.Alike.{IsIn}
use Rattle.switch_model.specs.Placed.{Placed as Row, bare, bare_rows, place, router_in}
use Rattle.switch_model.specs.Good.{TypedRows}
use Rattle.std.proofs.lemmas.Option.{same_Some}
use Rattle.switch_model.specs.Marks.{IsMoved, first_missing}
use Rattle.switch_model.specs.declared.wait.Wait.{Wait}
use Rattle.switch_model.specs.declared.wait.Wait.TheVariants as wait
use Rattle.row_layout.specs.Operations.{Change, own_changes, uses_of}
use Rattle.row_layout.specs.Rows.{Owner}
use Rattle.row_layout.proofs.Changing.{own_same}
use Rattle.switch_machine.specs.Events.{IsBegin, IsDrop, IsSafe, SwitchState, placed_good}
use Rattle.switch_machine.specs.Flights.{MachineFlight, Machine, goes_over}
use Rattle.switch_machine.specs.Operations.{IsOperation, MayBegin, built_first}
use Rattle.switch_machine.specs.Places.{makes}
use Rattle.switch_machine.specs.Reasons.{IsInTheWay, IsReason, LacksRoom}
use Rattle.switch_machine.specs.Tables.{Orders}
use Rattle.switch_machine.specs.Written.{good_of}
use Rattle.switch_machine.proofs.Ordered.{ordered}
use Rattle.switch_machine.proofs.Placing.{bare_placed, moved_not, names_in, own_place, row_of, to_goes}
use Rattle.switch_machine.proofs.Splits.{use_row_in}

pub some_none : {X Y : Type 0} (x : X) (o : Option X) → o ≡ Some x → o ≡ None → Y
some_none x o h g = absurd cc

-- the first missing name is one of the names, and has no row
pub missing_in : (rows : TypedRows) (ks : List Key) (n : Key) → first_missing rows ks ≡ Some n → IsIn n ks × (rows n ≡ None)
missing_in rows [] n h = absurd cc
missing_in rows (k ∷ ks) n h = by (rows k) refl (λ g. missing_in rows ks n g) h
  where
    by : (o : Option BareRow) → rows k ≡ o → (first_missing rows ks ≡ Some n → IsIn n ks × (rows n ≡ None)) → (if is_some o then first_missing rows ks else Some k) ≡ Some n → IsIn n (k ∷ ks) × (rows n ≡ None)
    by (Some r) e rest g = let x = rest g in (inr x.0, x.1)
    by None e rest g = let same : k ≡ n = cc in (inl (sym same), ap rows (sym same) ∙ e)

-- an operation has one list of changes
module _ (plan : Ports) (orders : Orders plan) (m : Machine) (f g : MachineFlight) (keys : f.key ≡ g.key) (news : f.new ≡ g.new) where
  to_other : (o : Owner) → IsIn o (uses_of plan f.key f.new) → IsIn o (uses_of plan g.key g.new)
  to_other o h = subst (λ z. IsIn o (uses_of plan g.key z)) news (subst (λ k. IsIn o (uses_of plan k f.new)) keys h)

  back_to : (o : Owner) → IsIn o (uses_of plan g.key g.new) → IsIn o (uses_of plan f.key f.new)
  back_to o h = subst (λ z. IsIn o (uses_of plan f.key z)) (sym news) (subst (λ k. IsIn o (uses_of plan k g.new)) (sym keys) h)

  pub operation-one : (due other : List Change) → IsOperation plan m f due → IsOperation plan m g other → due ≡ other
  operation-one due other x y =
      x.is ∙ ap₂ built_first (by x.builds y.builds refl refl) (ap₂ (λ k n. own_changes plan k (m.board.applied k) n) keys news) ∙ sym y.is
    where
      by : (b c : Option Owner) → x.builds ≡ b → y.builds ≡ c → x.builds ≡ y.builds
      by None None e h = e ∙ sym h
      by (Some o) None e h = let built = x.built o e in let user = y.found h o (to_other o built.0) in absurd (built.1 user.0 user.1)
      by None (Some p) e h = let built = y.built p h in let user = x.found e p (back_to p built.0) in absurd (built.1 user.0 user.1)
      by (Some o) (Some p) e h =
          let one = use_row_in plan f.key f.new o (x.built o e).0 in
          let two = subst (λ z. IsIn p (uses_of plan f.key z)) one.1 (back_to p (y.built p h).0) in
          e ∙ ap Some (orders.one_use f.key one.0 o p one.2 two) ∙ sym h

module _ (plan : Ports) (is : IsPlan plan) (workers : ℕ) (capacities : List ℕ) (s : SwitchState) where
  -- where an operation may begin, nothing is missing, nothing holds, and nothing is in the way
  module _ (w : ℕ) (f : MachineFlight) (due : List Change) (begins : MayBegin plan s.machine w f due) (new : f.new ≡ placed_good plan s.machine.board s.written f.key) where
    abbrev rows : TypedRows
    rows = bare_rows s.machine.board.applied

    -- the row that is to be applied, in its place
    placed : (row : BareRow) → good_of plan s.written f.key ≡ Some row → f.new ≡ Some (place (router_in rows f.key) row)
    placed row good = new ∙ ap (option_map (place (router_in rows f.key))) good

    pub not_missing : (n : Key) → IsReason plan workers capacities s f.key (wait.Missing n) → ⊥
    not_missing n (rests, (row, good, missing)) =
        let m = missing_in rows (written.names_of f.key row) n missing in
        let now = place (router_in rows f.key) row in
        let firm = begins.named n now (placed row good) (names_in f.key now n (subst (λ r. IsIn n (written.names_of f.key r)) (sym (bare_placed (router_in rows f.key) row)) m.0)) in
        some_none (bare firm.row) (rows n) (ap (option_map bare) firm.applied) m.1

    pub not_held : (h : Key) → IsReason plan workers capacities s f.key (wait.Held h) → ⊥
    not_held h (rests, to_go, (row, at, by)) =
        let x = row_of (s.machine.board.applied h) by.row by.applied_row in
        let goes = begins.goes ∙ ap (goes_over f.key (s.machine.board.applied f.key)) new ∙ to_goes s.machine.board f.key (router_in rows f.key) (good_of plan s.written) to_go in
        begins.unnamed goes h x.0 (inl x.1) (names_in h x.0 f.key (subst (λ r. IsIn f.key (written.names_of h r)) (sym x.2) by.names))

    not_in_the_way : (o : Option Row) (v : ℕ) → f.new ≡ o → IsInTheWay plan s.machine f.key o v → ⊥
    not_in_the_way o v e (g, at, inl (goes, (r, brings, h))) = begins.unnamed (begins.goes ∙ ap (goes_over f.key (s.machine.board.applied f.key)) e ∙ goes) g.key r (inr (v, g, at, refl, brings)) h
    not_in_the_way o v e (g, at, inr (row, is, inl (gone, h))) = (begins.named g.key row (e ∙ is) h).stays v g at refl gone
    not_in_the_way o v e (g, at, inr (row, is, inr (p, h, inl touched))) = (begins.free p (subst (λ z. IsIn p (uses_of plan f.key z)) (sym (e ∙ is)) h) v g at).0 touched
    not_in_the_way o v e (g, at, inr (row, is, inr (p, h, inr retires))) = (begins.free p (subst (λ z. IsIn p (uses_of plan f.key z)) (sym (e ∙ is)) h) v g at).1 retires

    pub not-busy : (v : ℕ) → IsReason plan workers capacities s f.key (wait.Busy v) → ⊥
    not-busy v (inl (g, at, same)) = begins.rests v g at same
    not-busy v (inr (prepared, first)) = not_in_the_way (placed_good plan s.machine.board s.written f.key) v new first.way

  -- what begins has no reason to wait
  module _ (t : SwitchState) (x : IsBegin plan workers capacities s t) where
    placed_same : (row : BareRow) → good_of plan s.written x.flight.key ≡ Some row → Some (place (router_in (bare_rows s.machine.board.applied) x.flight.key) row) ≡ placed_good plan s.machine.board s.written x.flight.key
    placed_same row good = ap (option_map (place (router_in (bare_rows s.machine.board.applied) x.flight.key))) (sym good)

    roomy : (kind : Kind) → LacksRoom plan workers capacities s x.flight.key kind → ⊥
    roomy kind l =
        let one = operation-one plan (ordered plan is) s.machine l.flight x.flight l.is (l.new ∙ placed_same l.row l.good ∙ sym x.new) l.due x.due l.begins.operation x.begins.operation in
        let count = ap (makes kind) one in
        let some = l.some in
        let many = l.many in
        let room = x.room kind (omega (arith, some, count)) in
        omega (arith, count, many, room)

    pub begins-free : (w : Wait) → IsReason plan workers capacities s x.flight.key w → ⊥
    begins-free (wait.Missing n) h = not_missing x.worker x.flight x.due x.begins x.new n h
    begins-free (wait.Held q) h = not_held x.worker x.flight x.due x.begins x.new q h
    begins-free (wait.Busy v) h = not-busy x.worker x.flight x.due x.begins x.new v h
    begins-free (wait.NoRoom kind) h = roomy kind h

  -- nor has a key that has its good row already
  module _ (kept : IsSafe plan workers capacities s) (t : SwitchState) (x : IsDrop plan s t) where
    no_due : (kind : Kind) → LacksRoom plan workers capacities s x.key kind → ⊥
    no_due kind l = by l.begins.operation.builds refl
      where
        y : (z : Row) × (s.machine.board.applied l.flight.key ≡ Some z) × (bare z ≡ l.row)
        y = row_of (s.machine.board.applied l.flight.key) l.row (ap (λ k. option_map bare (s.machine.board.applied k)) l.is ∙ x.same ∙ l.good)

        now : Row
        now = place (router_in (bare_rows s.machine.board.applied) x.key) l.row

        applied : s.machine.board.applied l.flight.key ≡ Some now
        applied = y.1 ∙ ap Some (own_place plan s.machine.board kept.sound.board l.flight.key y.0 y.1 ∙ ap₂ (λ k r. place (router_in (bare_rows s.machine.board.applied) k) r) l.is y.2)

        none : own_changes plan l.flight.key (s.machine.board.applied l.flight.key) l.flight.new ≡ []
        none = ap₂ (own_changes plan l.flight.key) applied l.new ∙ own_same plan l.flight.key now

        by : (b : Option Owner) → l.begins.operation.builds ≡ b → ⊥
        by None e =
            let nothing = ap (makes kind) (l.begins.operation.is ∙ ap₂ built_first e none) in
            let some = l.some in
            omega (arith, nothing, some)
        by (Some o) e =
            let built = l.begins.operation.built o e in
            built.1 l.flight.key (inr (l.begins.rests, subst (λ z. IsIn o (uses_of plan l.flight.key z)) (l.new ∙ sym applied) built.0))

    pub drops-free : (w : Wait) → IsReason plan workers capacities s x.key w → ⊥
    drops-free (wait.Missing n) (rests, (row, good, missing)) =
        let m = missing_in (bare_rows s.machine.board.applied) (written.names_of x.key row) n missing in
        let y = row_of (s.machine.board.applied x.key) row (x.same ∙ good) in
        let firm = kept.sound.board.named x.key n y.0 (inl y.1) (names_in x.key y.0 n (subst (λ r. IsIn n (written.names_of x.key r)) (sym y.2) m.0)) in
        some_none (bare firm.row) (bare_rows s.machine.board.applied n) (ap (option_map bare) firm.applied) m.1
    drops-free (wait.Held h) (rests, inl none, (row, at, by)) = some_none row (bare_rows s.machine.board.applied x.key) at (x.same ∙ none)
    drops-free (wait.Held h) (rests, inr (old, new, at_old, at_new, have, moved), _) =
        let same : old ≡ new = same_Some old new (sym at_old ∙ x.same ∙ at_new) in
        moved_not x.key new (subst (λ r. IsMoved x.key r new) same moved)
    drops-free (wait.Busy v) (inl (g, at, same)) = x.rests v g at same
    drops-free (wait.Busy v) (inr (prepared, first)) = prepared.differs x.same
    drops-free (wait.NoRoom kind) l = no_due kind l
