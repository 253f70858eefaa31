-- rows between those at rest and the good ones, as keys get their good rows one after the other
use Rattle.std.proofs.Common.{◌≡◌, ◌⊎◌, ◌<◌, ◌≤◌, ◌∷◌, ◌++◌, ◌∙◌, inl, inr, ℕ, zero, suc, Bool, true, false, if◌then◌else◌, List, [], length, Option, None, Some, is_some, refl, sym, ap, subst, arith}
use Rattle.std.proofs.lemmas.Bool.{false≢true}
use Rattle.std.proofs.lemmas.Option.{same_Some}
use Rattle.std.specs.BTreeMap.{is_at}
use Rattle.std.specs.Cmp.{eq_by_cmp_equiv}
use Rattle.swss_types.specs.declared.interface.IfName.{IfName}
use Rattle.swss_types.specs.declared.vrf.Vrf.{Vrf}
use Rattle.swss_types.specs.Vrf.{same_vrf}
use Rattle.swss_types.proofs.Routers.{vrf-exact, vrf-refl}
use Rattle.swss_types.proofs.Tied.{tied}
use Rattle.table_schema.specs.Key.{key_cmp}
use Rattle.table_schema.specs.Names.{names_of}
use Rattle.table_schema.specs.Plan.{Ports}
use Rattle.table_schema.specs.declared.key.Key.{Key}
use Rattle.table_schema.specs.declared.key.Key.TheVariants as key
use Rattle.table_schema.specs.declared.row.Row.{Row}
use Rattle.table_schema.specs.declared.row.Row.TheVariants as row
use Rattle.table_schema.proofs.Keys.{key_exact, key_total}
use Rattle.sai_types.specs.declared.kind.Kind.{Kind}
use Rattle.sai_types.specs.declared.kind.Kind.TheVariants.{OwnAddress}
use Rattle.sai_types.specs.declared.thing.Thing.{Thing}
use Rattle.sai_types.specs.Alike.{IsIn}
use Rattle.sai_types.specs.Names.{thing_kind}
use Rattle.sai_types.specs.Objects.{level}
use Rattle.sai_types.specs.Refusal.{capacity_of}
use Rattle.sai_types.proofs.Membership.{in-left, in-right}
use Rattle.switch_model.specs.Desired.{IsClosed, IsThingOf, have_rows, placed_things}
use Rattle.switch_model.specs.Good.{TypedRows}
use Rattle.switch_model.specs.Marks.{IsHeldBy, IsMoved, IsToGo, Overflows, first_missing}
use Rattle.switch_model.specs.Placed.{place, router_in, router_of_row}
use Rattle.switch_model.specs.Room.{HasRoomForView, IsStill}
use Rattle.switch_model.specs.Things.{things_of}
use Rattle.switch_model.specs.Turns.{HasReason, with_good}
use Rattle.switch_model.specs.declared.wait.Wait.TheVariants as wait
use Rattle.switch_model.proofs.Ready.{have_rows-from_missing}
use Rattle.switch_machine.proofs.Splits.{IsSplit, nat_split}
use Rattle.machine_laws.specs.ToSync.{AreAtRest, HasRoomTogether, HaveInterfaces, IsLackedAddress, IsStayingThing}
use Rattle.machine_laws.proofs.Addresses.{IsAddress, address_own, lacked_address, own_address}
use Rattle.machine_laws.proofs.Holding.{held-or}
use Rattle.machine_laws.proofs.Rows.{has_row, no_some}

-- ---- rows

pub router_or : (v w : Vrf) → (v ≡ w) ⊎ (v ≡ w → ⊥)
router_or v w = by (same_vrf v w) refl
  where
    by : (b : Bool) → same_vrf v w ≡ b → (v ≡ w) ⊎ (v ≡ w → ⊥)
    by true e = inl (vrf-exact v w e)
    by false e = inr (λ h. let same : same_vrf v w ≡ true = subst (λ z. same_vrf v z ≡ true) h (vrf-refl v) in cc)

all_there : (rows : TypedRows) (ks : List Key) → ((p : Key) → IsIn p ks → is_some (rows p) ≡ true) → first_missing rows ks ≡ None
all_there rows [] f = refl
all_there rows (k ∷ ks) f = rw (f k (inl refl)) (all_there rows ks (λ p h. f p (inr h)))

pub have_each : (rows : TypedRows) (ks : List Key) → ((p : Key) → IsIn p ks → is_some (rows p) ≡ true) → have_rows rows ks ≡ true
have_each rows ks f = have_rows-from_missing rows ks (all_there rows ks f)

pub some_row : (o : Option Row) → is_some o ≡ true → (r : Row) × (o ≡ Some r)
some_row None h = absurd cc
some_row (Some r) h = (r, refl)

pub none_row : {X : Type 0} (o : Option Row) → o ≡ None → is_some o ≡ true → X
none_row None e h = absurd cc
none_row (Some r) e h = absurd cc

at_most : (a b : ℕ) → (a ≤ b) ⊎ (b < a)
at_most zero b = inl (omega arith)
at_most (suc a) zero = inr (omega arith)
at_most (suc a) (suc b) = up (at_most a b)
  where
    up : (a ≤ b) ⊎ (b < a) → (suc a ≤ suc b) ⊎ (suc b < suc a)
    up (inl h) = inl (omega (arith, h))
    up (inr h) = inr (omega (arith, h))

-- the row of a key that left is the good one, and the others are as they were
pub with_good-by : (good applied : TypedRows) (k q : Key) → ((q ≡ k) × (with_good good applied k q ≡ good q)) ⊎ ((with_good good applied k q ≡ applied q) × (q ≡ k → ⊥))
with_good-by good applied k q = by (is_at (key_cmp k) q) refl
  where
    by : (b : Bool) → is_at (key_cmp k) q ≡ b → ((q ≡ k) × ((if b then good q else applied q) ≡ good q)) ⊎ (((if b then good q else applied q) ≡ applied q) × (q ≡ k → ⊥))
    by true e = inl (sym (key_exact k q (tied (key_cmp k q) e)), refl)
    by false e = inr (refl, λ h. false≢true (sym e ∙ subst (λ z. is_at (key_cmp k) z ≡ true) (sym h) ((eq_by_cmp_equiv key_total).refl k)))

-- an interface that a good row names is in its old router there
pub router-still : (good old : TypedRows) → IsClosed good → HaveInterfaces good → HaveInterfaces old → IsStill old good → (on : IfName) (q : Key) (r : Row) → good q ≡ Some r → IsIn (key.Intf on) (names_of q r) → is_some (old (key.Intf on)) ≡ true → router_of_row (old (key.Intf on)) ≡ router_of_row (good (key.Intf on))
router-still good old closed typed old_typed still on q r at h was =
    let o = some_row (old (key.Intf on)) was in
    let g = some_row (good (key.Intf on)) (has_row good (names_of q r) (key.Intf on) (closed q r at) h) in
    let v = old_typed on o.0 o.1 in
    let w = typed on g.0 g.1 in
    ap router_of_row (o.1 ∙ ap Some v.1) ∙ by o.0 g.0 v.0 w.0 o.1 g.1 v.1 w.1 (router_or v.0 w.0) ∙ sym (ap router_of_row (g.1 ∙ ap Some w.1))
  where
    by : (x y : Row) (v w : Vrf) → old (key.Intf on) ≡ Some x → good (key.Intf on) ≡ Some y → x ≡ row.Intf v → y ≡ row.Intf w → (v ≡ w) ⊎ (v ≡ w → ⊥) → v ≡ w
    by x y v w there new is_x is_y (inl same) = same
    by x y v w there new is_x is_y (inr apart) = absurd (still (key.Intf on) q r x y at h there new (subst (λ z. IsMoved (key.Intf on) z y) (sym is_x) (subst (λ z. IsMoved (key.Intf on) (row.Intf v) z) (sym is_y) apart)))

module _ (plan : Ports) (capacities : List ℕ) (good : TypedRows) (good_closed : IsClosed good) (good_typed : HaveInterfaces good) (old : TypedRows) (rest : AreAtRest plan capacities old) (still : IsStill old good) (names : List Key) (found : (k : Key) (r : Row) → good k ≡ Some r → IsIn k names) where
  -- each key has its old or its good row, rows name only each other, and there is room for their things
  pub record Between (applied : TypedRows) : Type 0 where
    pub mixed : (q : Key) → (applied q ≡ old q) ⊎ (applied q ≡ good q)
    pub closed : IsClosed applied
    pub room : HasRoomForView capacities (IsThingOf plan applied)

  pub at_first : Between old
  at_first = record { mixed = λ q. inl refl; closed = rest.closed; room = rest.room }

  interfaces : (applied : TypedRows) → Between applied → HaveInterfaces applied
  interfaces applied b on r at = by (b.mixed (key.Intf on))
    where
      by : (applied (key.Intf on) ≡ old (key.Intf on)) ⊎ (applied (key.Intf on) ≡ good (key.Intf on)) → (v : Vrf) × (r ≡ row.Intf v)
      by (inl e) = rest.interfaces on r (sym e ∙ at)
      by (inr e) = good_typed on r (sym e ∙ at)

  listed : (applied : TypedRows) → Between applied → (q : Key) (r : Row) → applied q ≡ Some r → IsIn q (rest.keys ++ names)
  listed applied b q r at = by (b.mixed q)
    where
      by : (applied q ≡ old q) ⊎ (applied q ≡ good q) → IsIn q (rest.keys ++ names)
      by (inl e) = in-left q rest.keys names (rest.all q r (sym e ∙ at))
      by (inr e) = in-right q rest.keys names (found q r (sym e ∙ at))

  -- of the applied rows that name a key one is the least
  least_holder : (applied : TypedRows) → Between applied → (k q : Key) (r : Row) → applied q ≡ Some r → IsIn k (names_of q r) → (holder : Key) × IsHeldBy applied k holder
  least_holder applied b k q r at h = by (held-or applied k (rest.keys ++ names) (listed applied b))
    where
      by : ((holder : Key) × IsHeldBy applied k holder) ⊎ ((p : Key) (x : Row) → applied p ≡ Some x → IsIn k (names_of p x) → ⊥) → (holder : Key) × IsHeldBy applied k holder
      by (inl x) = x
      by (inr none) = absurd (none q r at h)

  -- ---- a key that has no reason to wait leaves

  module _ (applied : TypedRows) (b : Between applied) (k : Key) (free : HasReason plan capacities good applied k → ⊥) where
    abbrev later : TypedRows
    later = with_good good applied k

    -- all that its good row names is applied
    named : (r : Row) → good k ≡ Some r → have_rows applied (names_of k r) ≡ true
    named r at = by (first_missing applied (names_of k r)) refl
      where
        by : (o : Option Key) → first_missing applied (names_of k r) ≡ o → have_rows applied (names_of k r) ≡ true
        by None e = have_rows-from_missing applied (names_of k r) e
        by (Some p) e = absurd (free (wait.Missing p, (r, at, e)))

    -- no applied row names it where its applied row is to go
    unheld : IsToGo good applied k → (q : Key) (r : Row) → applied q ≡ Some r → IsIn k (names_of q r) → ⊥
    unheld to_go q r at h =
        let there = some_row (applied k) (has_row applied (names_of q r) k (b.closed q r at) h) in
        let holder = least_holder applied b k q r at h in
        free (wait.Held holder.0, (to_go, there.0, there.1, holder.1))

    -- an applied row that names it finds it applied still
    still_there : (q : Key) (r : Row) → applied q ≡ Some r → IsIn k (names_of q r) → is_some (good k) ≡ true
    still_there q r at h = by (good k) refl
      where
        by : (o : Option Row) → good k ≡ o → is_some o ≡ true
        by None e = absurd (unheld (inl e) q r at h)
        by (Some x) e = refl

    later_there : (p : Key) → is_some (applied p) ≡ true → (p ≡ k → is_some (good k) ≡ true) → is_some (later p) ≡ true
    later_there p there own = by (with_good-by good applied k p)
      where
        by : ((p ≡ k) × (later p ≡ good p)) ⊎ ((later p ≡ applied p) × (p ≡ k → ⊥)) → is_some (later p) ≡ true
        by (inl (same, e)) = ap is_some (e ∙ ap good same) ∙ own same
        by (inr (e, apart)) = ap is_some e ∙ there

    later_closed : IsClosed later
    later_closed q r at = by (with_good-by good applied k q)
      where
        by : ((q ≡ k) × (later q ≡ good q)) ⊎ ((later q ≡ applied q) × (q ≡ k → ⊥)) → have_rows later (names_of q r) ≡ true
        by (inl (same, e)) =
            let is : good k ≡ Some r = ap good (sym same) ∙ sym e ∙ at in
            have_each later (names_of q r) (λ p h. later_there p (has_row applied (names_of k r) p (named r is) (subst (λ z. IsIn p (names_of z r)) same h)) (λ own. ap is_some is))
        by (inr (e, apart)) =
            let is : applied q ≡ Some r = sym e ∙ at in
            have_each later (names_of q r) (λ p h. later_there p (has_row applied (names_of q r) p (b.closed q r is) h) (λ own. still_there q r is (subst (λ z. IsIn z (names_of q r)) own h)))

    -- an interface that an applied row names stays in its router
    same_interface : (on : IfName) (q : Key) (r : Row) → k ≡ key.Intf on → applied q ≡ Some r → IsIn k (names_of q r) → router_of_row (good k) ≡ router_of_row (applied k)
    same_interface on q r is at h =
        let a = some_row (applied k) (has_row applied (names_of q r) k (b.closed q r at) h) in
        let g = some_row (good k) (still_there q r at h) in
        let v = interfaces applied b on a.0 (ap applied (sym is) ∙ a.1) in
        let w = good_typed on g.0 (ap good (sym is) ∙ g.1) in
        ap router_of_row (g.1 ∙ ap Some w.1) ∙ sym (by a.0 g.0 v.0 w.0 a.1 g.1 v.1 w.1 (router_or v.0 w.0)) ∙ sym (ap router_of_row (a.1 ∙ ap Some v.1))
      where
        by : (x y : Row) (v w : Vrf) → applied k ≡ Some x → good k ≡ Some y → x ≡ row.Intf v → y ≡ row.Intf w → (v ≡ w) ⊎ (v ≡ w → ⊥) → v ≡ w
        by x y v w there new is_x is_y (inl same) = same
        by x y v w there new is_x is_y (inr apart) = absurd (unheld (inr (x, y, there, new, named y new, moved)) q r at h)
          where
            moved : IsMoved k x y
            moved = subst (λ z. IsMoved z x y) (sym is) (subst (λ z. IsMoved (key.Intf on) z y) (sym is_x) (subst (λ z. IsMoved (key.Intf on) (row.Intf v) z) (sym is_y) apart))

    -- each applied row is in the router that it was in
    same_router : (q : Key) (r : Row) → applied q ≡ Some r → router_in later q ≡ router_in applied q
    same_router (key.Addr on ip len) r at = by (with_good-by good applied k (key.Intf on))
      where
        by : ((key.Intf on ≡ k) × (later (key.Intf on) ≡ good (key.Intf on))) ⊎ ((later (key.Intf on) ≡ applied (key.Intf on)) × (key.Intf on ≡ k → ⊥)) → router_of_row (later (key.Intf on)) ≡ router_of_row (applied (key.Intf on))
        by (inl (same, e)) =
            ap router_of_row (e ∙ ap good same)
            ∙ same_interface on (key.Addr on ip len) r (sym same) at (inl (sym same))
            ∙ ap (λ z. router_of_row (applied z)) (sym same)
        by (inr (e, apart)) = ap router_of_row e
    same_router _ r at = refl

    -- its own row is in the router that it was found in
    own_router : router_in later k ≡ router_in applied k
    own_router = by k refl
      where
        by : (q : Key) → q ≡ k → router_in later q ≡ router_in applied q
        by (key.Addr on ip len) is = other (with_good-by good applied k (key.Intf on))
          where
            other : ((key.Intf on ≡ k) × (later (key.Intf on) ≡ good (key.Intf on))) ⊎ ((later (key.Intf on) ≡ applied (key.Intf on)) × (key.Intf on ≡ k → ⊥)) → router_of_row (later (key.Intf on)) ≡ router_of_row (applied (key.Intf on))
            other (inl (same, e)) = let never : key.Intf on ≡ key.Addr on ip len = same ∙ sym is in cc
            other (inr (e, apart)) = ap router_of_row e
        by _ is = refl

    later_thing : (t : Thing) → IsThingOf plan later t → IsThingOf plan applied t ⊎ ((r : Row) × (good k ≡ Some r) × IsIn t (placed_things plan applied k r))
    later_thing t (q, r, at, h) = by (with_good-by good applied k q)
      where
        by : ((q ≡ k) × (later q ≡ good q)) ⊎ ((later q ≡ applied q) × (q ≡ k → ⊥)) → IsThingOf plan applied t ⊎ ((x : Row) × (good k ≡ Some x) × IsIn t (placed_things plan applied k x))
        by (inl (same, e)) =
            inr (r, ap good (sym same) ∙ sym e ∙ at, subst (λ v. IsIn t (things_of plan k (place v r))) own_router (subst (λ z. IsIn t (placed_things plan later z r)) same h))
        by (inr (e, apart)) =
            let is : applied q ≡ Some r = sym e ∙ at in
            inl (q, r, is, subst (λ v. IsIn t (things_of plan q (place v r))) (same_router q r is) h)

    later_room : HasRoomForView capacities (IsThingOf plan later)
    later_room kind keys x = by (good k) refl
      where
        by : (o : Option Row) → good k ≡ o → length keys ≤ capacity_of capacities kind
        by None e = b.room kind keys (record { distinct = x.distinct; things = λ n h. let y = x.things n h in (y.0, y.1, y.2, gone (later_thing y.0 y.3)) })
          where
            gone : {t : Thing} → IsThingOf plan applied t ⊎ ((r : Row) × (good k ≡ Some r) × IsIn t (placed_things plan applied k r)) → IsThingOf plan applied t
            gone (inl h) = h
            gone (inr h) = no_some (good k) h.0 e h.1
        by (Some r) e = fits (at_most (length keys) (capacity_of capacities kind))
          where
            one : {t : Thing} → IsThingOf plan applied t ⊎ ((r : Row) × (good k ≡ Some r) × IsIn t (placed_things plan applied k r)) → IsThingOf plan applied t ⊎ IsIn t (placed_things plan applied k r)
            one (inl h) = inl h
            one {t} (inr h) = inr (subst (λ z. IsIn t (placed_things plan applied k z)) (same_Some h.0 r (sym h.1 ∙ e)) h.2)

            over : capacity_of capacities kind < length keys → Overflows plan capacities applied k r kind
            over many = record { keys = keys; distinct = x.distinct; things = λ n h. let y = x.things n h in (y.0, y.1, y.2, one (later_thing y.0 y.3)); many = many }

            fits : (length keys ≤ capacity_of capacities kind) ⊎ (capacity_of capacities kind < length keys) → length keys ≤ capacity_of capacities kind
            fits (inl le) = le
            fits (inr many) = absurd (free (wait.NoRoom kind, (r, e, named r e, over many)))

    -- and the rows are between the old and the good ones still
    pub left-between : Between later
    left-between = record { mixed = λ q. by q (with_good-by good applied k q) (b.mixed q); closed = later_closed; room = later_room }
      where
        by : (q : Key) → ((q ≡ k) × (later q ≡ good q)) ⊎ ((later q ≡ applied q) × (q ≡ k → ⊥)) → (applied q ≡ old q) ⊎ (applied q ≡ good q) → (later q ≡ old q) ⊎ (later q ≡ good q)
        by q (inl (same, e)) _ = inr e
        by q (inr (e, apart)) (inl h) = inl (e ∙ h)
        by q (inr (e, apart)) (inr h) = inr (e ∙ h)

  -- ---- their things

  -- a good address row is in its good router, once its interface is applied
  good_router : (applied : TypedRows) → Between applied → (q : Key) (r : Row) → good q ≡ Some r → have_rows applied (names_of q r) ≡ true → router_in applied q ≡ router_in good q
  good_router applied b (key.Addr on ip len) r at have = by (b.mixed (key.Intf on))
    where
      there : is_some (applied (key.Intf on)) ≡ true
      there = has_row applied (names_of (key.Addr on ip len) r) (key.Intf on) have (inl refl)

      by : (applied (key.Intf on) ≡ old (key.Intf on)) ⊎ (applied (key.Intf on) ≡ good (key.Intf on)) → router_of_row (applied (key.Intf on)) ≡ router_of_row (good (key.Intf on))
      by (inl e) = ap router_of_row e ∙ router-still good old good_closed good_typed rest.interfaces still on (key.Addr on ip len) r at (inl refl) (ap is_some (sym e) ∙ there)
      by (inr e) = ap router_of_row e
  good_router applied b _ r at have = refl

  -- an old address row is in its old router, where the good rows have it
  old_router : (applied : TypedRows) → Between applied → (q : Key) (r : Row) → old q ≡ Some r → (IsLackedAddress good q → ⊥) → router_in applied q ≡ router_in old q
  old_router applied b (key.Addr on ip len) r at stays = by (good (key.Addr on ip len)) refl (b.mixed (key.Intf on))
    where
      was : is_some (old (key.Intf on)) ≡ true
      was = has_row old (names_of (key.Addr on ip len) r) (key.Intf on) (rest.closed (key.Addr on ip len) r at) (inl refl)

      by : (o : Option Row) → good (key.Addr on ip len) ≡ o → (applied (key.Intf on) ≡ old (key.Intf on)) ⊎ (applied (key.Intf on) ≡ good (key.Intf on)) → router_of_row (applied (key.Intf on)) ≡ router_of_row (old (key.Intf on))
      by None lacked _ = absurd (stays lacked)
      by (Some g) e (inl h) = ap router_of_row h
      by (Some g) e (inr h) = ap router_of_row h ∙ sym (router-still good old good_closed good_typed rest.interfaces still on (key.Addr on ip len) g e (inl refl) was)
  old_router applied b _ r at stays = refl

  -- a thing of an applied row is of an old row or of a good one, but for those of addresses that are to go
  thing_by : (applied : TypedRows) → Between applied → (q : Key) (r : Row) (t : Thing) → applied q ≡ Some r → (IsLackedAddress good q → ⊥) → IsIn t (placed_things plan applied q r) → IsStayingThing plan old good t ⊎ IsThingOf plan good t
  thing_by applied b q r t at stays h = by (b.mixed q)
    where
      by : (applied q ≡ old q) ⊎ (applied q ≡ good q) → IsStayingThing plan old good t ⊎ IsThingOf plan good t
      by (inl e) = let was : old q ≡ Some r = sym e ∙ at in inl (q, r, was, stays, subst (λ v. IsIn t (things_of plan q (place v r))) (old_router applied b q r was stays) h)
      by (inr e) = let is : good q ≡ Some r = sym e ∙ at in inr (q, r, is, subst (λ v. IsIn t (things_of plan q (place v r))) (good_router applied b q r is (b.closed q r at)) h)

  -- ---- their room

  module _ (room : HasRoomTogether plan capacities old good) where
    -- no kind lacks room for a good row where no thing of the kind is of an address that is to go
    no_lack : (applied : TypedRows) → Between applied → (k : Key) (r : Row) (kind : Kind) → good k ≡ Some r → have_rows applied (names_of k r) ≡ true → ((q : Key) (x : Row) (t : Thing) → applied q ≡ Some x → IsIn t (placed_things plan applied q x) → level (thing_kind t) ≡ level kind → IsLackedAddress good q → ⊥) → Overflows plan capacities applied k r kind → ⊥
    no_lack applied b k r kind at have stays over =
        let few = room kind over.keys (record { distinct = over.distinct; things = λ n h. let y = over.things n h in (y.0, y.1, y.2, by y.0 y.2 y.3) }) in
        absurd (omega (arith, over.many, few))
      where
        by : (t : Thing) → level (thing_kind t) ≡ level kind → IsThingOf plan applied t ⊎ IsIn t (placed_things plan applied k r) → IsStayingThing plan old good t ⊎ IsThingOf plan good t
        by t of (inl (q, x, there, h)) = thing_by applied b q x t there (stays q x t there h of) h
        by t of (inr h) = inr (k, r, at, subst (λ v. IsIn t (things_of plan k (place v r))) (good_router applied b k r at have) h)

    -- and none lacks room for a row that is no address's, nor for any once no address is to go
    pub no-lack : (applied : TypedRows) → Between applied → (k : Key) (r : Row) (kind : Kind) → good k ≡ Some r → have_rows applied (names_of k r) ≡ true → (IsAddress k → ⊥) ⊎ ((q : Key) → IsLackedAddress good q → applied q ≡ None) → Overflows plan capacities applied k r kind → ⊥
    no-lack applied b k r kind at have (inr none) over = no_lack applied b k r kind at have (λ q x t there h of lacked. no_some (applied q) x (none q lacked) there) over
    no-lack applied b k r kind at have (inl other) over = by (nat_split (level kind) (level OwnAddress))
      where
        own : level kind ≡ level OwnAddress → (t : Thing) → level (thing_kind t) ≡ level kind → IsThingOf plan applied t ⊎ IsIn t (placed_things plan applied k r) → IsThingOf plan applied t
        own is t of (inl h) = h
        own is t of (inr h) = absurd (other (own_address plan k (place (router_in applied k) r) t h (of ∙ is)))

        by : IsSplit (level kind) (level OwnAddress) → ⊥
        by (inl is) = let few = b.room kind over.keys (record { distinct = over.distinct; things = λ n h. let y = over.things n h in (y.0, y.1, y.2, own is y.0 y.2 y.3) }) in absurd (omega (arith, over.many, few))
        by (inr apart) = no_lack applied b k r kind at have (λ q x t there h of lacked. apart (sym of ∙ address_own plan q (place (router_in applied q) x) t (lacked_address good q lacked) h)) over
