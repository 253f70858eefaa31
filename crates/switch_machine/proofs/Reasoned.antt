-- the reasons of keys that wait are true, the applied rows are closed, and what a route points at is whole
use Rattle.std.proofs.Common.{◌+◌, ◌≤◌, zero, suc, Option, None, arith, ◌≡◌, ◌⊎◌, ◌<◌, ◌&&◌, ◌∷◌, ◌∙◌, ℕ, Bool, true, List, [], Some, is_some, inl, inr, refl, sym, ap, subst, option_map, ap₂, max}
use Rattle.std.proofs.lemmas.Bool.{cases_order}
use Rattle.std.proofs.lemmas.Option.{same_Some}
use Rattle.swss_types.specs.declared.address.Prefix.{Prefix}
use Rattle.swss_types.specs.declared.vrf.Vrf.{Vrf}
use Rattle.table_schema.specs.declared.row.Row.{Row as BareRow}
use Rattle.table_schema.specs.declared.key.Key.TheVariants as key
use Rattle.table_schema.specs.Plan.{Ports, IsPlan}
use Rattle.table_schema.specs.Names as written
use Rattle.table_schema.specs.declared.key.Key.{Key}
use Rattle.sai_types.specs.declared.weight.WHop.{WHop}
use Rattle.sai_types.specs.declared.kind.Kind.{Kind}
use Rattle.sai_types.specs.declared.thing.Goal.{Goal}
use Rattle.sai_types.specs.declared.thing.Goal.TheVariants as goal
use Rattle.sai_types.specs.declared.thing.Thing.TheVariants as thing
use Rattle.sai_types.specs.Alike.{IsIn}
use Rattle.sai_types.specs.Objects.{level, used}
use Rattle.sai_types.specs.Refusal.{capacity_of}
use Rattle.switch_model.specs.Placed.{Placed as Row, bare, bare_rows, place, placed_names as names_of, router_in}
use Rattle.switch_model.specs.Desired.{IsClosed, have_rows}
use Rattle.switch_model.specs.Good.{TypedRows}
use Rattle.switch_model.specs.Marks.{IsTrueReason, NamesFirstKind, Overflows}
use Rattle.switch_model.specs.declared.wait.Wait.{Wait}
use Rattle.switch_model.specs.declared.wait.Wait.TheVariants as wait
use Rattle.sai_types.specs.Names as name
use Rattle.row_layout.specs.Rows as owner
use Rattle.sai_types.specs.declared.ids.Rid.{Rid}
use Rattle.sai_types.specs.declared.body.Call.{Call}
use Rattle.row_layout.specs.Rows.{own_things}
use Rattle.row_layout.specs.Operations.{Change, Make, Set, Take}
use Rattle.switch_machine.specs.Events.{SwitchState, IsDueCall, IsSafe, IsQuiet, placed_good}
use Rattle.switch_machine.specs.Flights.{Can, MachineFlight, IsRow, Machine, Runs, StandsIn}
use Rattle.switch_machine.specs.Places.{makes, places_kept, sum_below}
use Rattle.switch_machine.specs.Reasons.{IsInTheWay, IsReason, LacksRoom}
use Rattle.switch_machine.specs.Changes.{IsSamePort}
use Rattle.switch_machine.specs.Consistent.{IsConsistent, IsLike}
use Rattle.switch_machine.specs.Written.{good_of}
use Rattle.switch_machine.proofs.Standing.{group_referred}
use Rattle.switch_machine.proofs.Overflowing.{no-overflow, overflows}
use Rattle.switch_machine.proofs.Placing.{bare_placed, names_in, row_of}
use Rattle.switch_machine.proofs.Tabled.{in_members, tabled}
use Rattle.switch_machine.proofs.Calling.{make-has_call, set-has_call, take-has_call}

all_rows : (rows : TypedRows) (ks : List Key) → ((k : Key) → IsIn k ks → is_some (rows k) ≡ true) → have_rows rows ks ≡ true
all_rows rows [] f = refl
all_rows rows (k ∷ ks) f = both (is_some (rows k)) (have_rows rows ks) (f k (inl refl)) (all_rows rows ks (λ q h. f q (inr h)))
  where
    both : (a b : Bool) → a ≡ true → b ≡ true → (a && b) ≡ true
    both a b x y = cc

sum_none : (n : ℕ) (f : ℕ → ℕ) → ((v : ℕ) → f v ≡ 0) → sum_below n f ≡ 0
sum_none zero f none = refl
sum_none (suc n) f none =
    let rest = sum_none n f none in
    let last = none n in
    omega (arith, rest, last)

-- a route that stands is that of a row of its key, applied or to be applied
pub row-of_route : (plan : Ports) (m : Machine) → IsConsistent plan m → (v : Vrf) (prefix : Prefix) (g : Goal) → StandsIn m (thing.Route v prefix g) → (r : Row) × IsRow m.board (key.Route v prefix) r × IsIn (thing.Route v prefix g) (own_things plan (key.Route v prefix) r)
row-of_route plan m sound v prefix g h = by (sound.like (key.Route v prefix) (thing.Route v prefix g) h refl)
  where
    by : IsLike plan m.board (key.Route v prefix) (thing.Route v prefix g) → (r : Row) × IsRow m.board (key.Route v prefix) r × IsIn (thing.Route v prefix g) (own_things plan (key.Route v prefix) r)
    by x = (x.row, x.is, in_it x x.resembles.same)
      where
        in_it : (x : IsLike plan m.board (key.Route v prefix) (thing.Route v prefix g)) → (thing.Route v prefix g ≡ x.thing) ⊎ IsSamePort (thing.Route v prefix g) x.thing → IsIn (thing.Route v prefix g) (own_things plan (key.Route v prefix) x.row)
        in_it x (inl same) = subst (λ z. IsIn z (own_things plan (key.Route v prefix) x.row)) (sym same) x.of
        in_it x (inr h) = elim h [ ]

module _ (plan : Ports) (is : IsPlan plan) (workers : ℕ) (capacities : List ℕ) (s : SwitchState) (kept : IsSafe plan workers capacities s) where
  abbrev rows : TypedRows
  rows = bare_rows s.machine.board.applied

  pub closed : IsClosed rows
  closed k r at =
      let y = row_of (s.machine.board.applied k) r at in
      all_rows rows (written.names_of k r) (λ p h. ap (λ o. is_some (option_map bare o)) (kept.sound.board.named k p y.0 (inl y.1) (names_in k y.0 p (subst (λ z. IsIn p (written.names_of k z)) (sym y.2) h))).applied)

  -- the group that a route points at has all its members
  pub route-whole : (v : Vrf) (prefix : Prefix) (hops : List WHop) (hop : WHop) → StandsIn s.machine (thing.Route v prefix (goal.Group hops)) → IsIn hop hops → StandsIn s.machine (thing.GroupMember hops hop)
  route-whole v prefix hops hop h in_it = kept.sound.steady (key.Route v prefix) (owner.Group hops) (thing.Route v prefix (goal.Group hops)) (thing.GroupMember hops hop) (name.Group hops) h refl (group_referred v prefix hops) refl tt (inr (in_members hops hops hop in_it))

  -- a route that stands is that of its key's applied row, or of the row that an operation brings
  pub route-row : (v : Vrf) (prefix : Prefix) (g : Goal) → StandsIn s.machine (thing.Route v prefix g) → (r : Row) × IsRow s.machine.board (key.Route v prefix) r × IsIn (thing.Route v prefix g) (own_things plan (key.Route v prefix) r)
  route-row v prefix g h = row-of_route plan s.machine kept.sound v prefix g h

  -- what is due has a call
  pub has-call : (w : ℕ) (f : MachineFlight) (c : Change) (cs : List Change) → w < workers → s.machine.board.flights w ≡ Some f → s.machine.due w ≡ c ∷ cs → (call : Call Rid) × IsDueCall workers call s
  has-call w f c cs below flying due = by c due (subst (Runs plan f (StandsIn s.machine)) due (kept.sound.runs w f flying)).0
    where
      by : (c : Change) → s.machine.due w ≡ c ∷ cs → Can plan f (StandsIn s.machine) c → (call : Call Rid) × IsDueCall workers call s
      by (Make t) due can = let x = make-has_call plan is (tabled plan is) s.machine kept.sound w f flying s.made s.objects kept.whole kept.laid t can in (x.0, record { worker = w; below = below; flight = f; change = Make t; rest = cs; flying = flying; due = due; of = x.1 })
      by (Set t) due can = let x = set-has_call plan is (tabled plan is) s.machine kept.sound w f flying s.made s.objects kept.whole kept.laid t can in (x.0, record { worker = w; below = below; flight = f; change = Set t; rest = cs; flying = flying; due = due; of = x.1 })
      by (Take n) due can = let x = take-has_call plan is (tabled plan is) s.machine kept.sound w f flying s.made s.objects kept.whole kept.laid n can in (x.0, record { worker = w; below = below; flight = f; change = Take n; rest = cs; flying = flying; due = due; of = x.1 })

  abbrev placed : Key → BareRow → Row
  placed k row = place (router_in rows k) row

  module _ (quiet : IsQuiet s) where
    quiet_worker : (w : ℕ) (o : Option MachineFlight) → s.machine.board.flights w ≡ o → s.machine.board.flights w ≡ None
    quiet_worker w None e = e
    quiet_worker w (Some f) e = absurd (quiet w f e)

    -- without operations no places are kept
    pub none-kept : (kind : Kind) → places_kept workers s.machine kind ≡ 0
    none-kept kind = sum_none workers (λ w. max (makes kind (s.machine.reserved w)) (makes kind (s.machine.due w))) (λ w. let none = quiet_worker w (s.machine.board.flights w) refl in ap₂ (λ r d. max (makes kind r) (makes kind d)) (kept.covered.idle w none) (kept.covered.due w none))

    pub has-names : (k : Key) (kind : Kind) (x : LacksRoom plan workers capacities s k kind) → have_rows rows (written.names_of k x.row) ≡ true
    has-names k kind x = all_rows rows (written.names_of k x.row) (λ p h. ap (λ o. is_some (option_map bare o)) (x.begins.named p (placed k x.row) x.new (subst (λ q. IsIn p (names_of q (placed k x.row))) (sym x.is) (names_in k (placed k x.row) p (subst (λ r. IsIn p (written.names_of k r)) (sym (bare_placed (router_in rows k) x.row)) h)))).applied)

    lacks : (k : Key) (kind : Kind) (x : LacksRoom plan workers capacities s k kind) → Overflows plan capacities rows k x.row kind
    lacks k kind x =
        let many = x.many in
        let none = none-kept kind in
        subst (λ k. Overflows plan capacities rows k x.row kind) x.is (overflows plan is capacities s.machine kept.sound quiet s.made s.objects kept.whole kept.laid x.worker x.flight x.due x.begins x.row (x.new ∙ ap (λ q. Some (placed q x.row)) (sym x.is)) kind (omega (arith, many, none)))

    fits : (k : Key) (kind low : Kind) (x : LacksRoom plan workers capacities s k kind) → level low < level kind → used s.objects low + makes low x.due ≤ capacity_of capacities low
    fits k kind low x less = by (cases_order (makes low x.due) 0)
      where
        by : (makes low x.due ≡ 0) ⊎ ((makes low x.due < 0) ⊎ (0 < makes low x.due)) → used s.objects low + makes low x.due ≤ capacity_of capacities low
        by (inl none) = let room = kept.places low in omega (arith, room, none)
        by (inr (inl below)) = absurd (omega (arith, below))
        by (inr (inr some)) = let room = x.lower low less some in omega (arith, room)

    pub reason-true : (k : Key) (w : Wait) → IsReason plan workers capacities s k w → IsTrueReason plan capacities (good_of plan s.written) rows k w
    reason-true k (wait.Missing n) x = x.1
    reason-true k (wait.Held h) x = (x.1, x.2.0, x.2.1, x.2.2)
    reason-true k (wait.NoRoom kind) x = (x.row, x.good, has-names k kind x, lacks k kind x)
    reason-true k (wait.Busy worker) (inl (f, at, is)) = quiet worker f at
    reason-true k (wait.Busy worker) (inr (prepared, first)) = none_in_the_way (placed_good plan s.machine.board s.written k) first.way
      where
        none_in_the_way : (o : Option Row) → IsInTheWay plan s.machine k o worker → ⊥
        none_in_the_way o way = quiet worker way.0 way.1

    pub reason-first : (k : Key) (w : Wait) → IsReason plan workers capacities s k w → NamesFirstKind plan capacities (good_of plan s.written) rows k w
    reason-first k (wait.Missing n) x = tt
    reason-first k (wait.Held h) x = tt
    reason-first k (wait.Busy worker) x = tt
    reason-first k (wait.NoRoom kind) x = λ row low good less over.
        let same : row ≡ x.row = same_Some row x.row (sym good ∙ x.good) in
        let that = subst (λ k. Overflows plan capacities rows k x.row low) (sym x.is) (subst (λ r. Overflows plan capacities rows k r low) same over) in
        no-overflow plan is capacities s.machine kept.sound quiet s.made s.objects kept.whole kept.laid x.worker x.flight x.due x.begins x.row (x.new ∙ ap (λ q. Some (placed q x.row)) (sym x.is)) low (fits k kind low x less) that
