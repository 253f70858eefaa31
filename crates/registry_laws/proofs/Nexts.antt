-- what the change that is due next is about
use Rattle.std.proofs.Common.{◌≡◌, ◌⊎◌, ◌∷◌, ◌++◌, ◌∙◌, inl, inr, ℕ, List, [], Option, None, Some, refl, sym, ap, subst, true, false}
use Rattle.std.proofs.lemmas.Option.{same_Some}
use Rattle.std.proofs.lemmas.Bool.{false≢true}
use Rattle.table_schema.specs.Plan.{IsPlan, Ports}
use Rattle.table_schema.specs.declared.key.Key.{Key}
use Rattle.table_schema.specs.declared.key.Key.TheVariants as key
use Rattle.sai_types.specs.declared.hop.Base.{Base}
use Rattle.sai_types.specs.declared.thing.Goal.{Goal}
use Rattle.sai_types.specs.declared.thing.Thing.{Thing}
use Rattle.sai_types.specs.declared.thing.Thing.TheVariants as thing
use Rattle.sai_types.specs.Alike.{IsIn}
use Rattle.sai_types.specs.Named.{first_lane}
use Rattle.sai_types.specs.Names as thing_name
use Rattle.sai_types.specs.Names.{name_of}
use Rattle.sai_types.proofs.Membership.{in-left, in-right}
use Rattle.switch_model.specs.Things.{base_of, lane_of}
use Rattle.switch_model.specs.Placed as row
use Rattle.switch_model.specs.Placed.{Placed as Row}
use Rattle.row_layout.specs.Operations.{Change, Make, Set, Take}
use Rattle.row_layout.specs.Rows as owner
use Rattle.row_layout.specs.Rows.{Owner, from, goal_of, own_things}
use Rattle.switch_machine.specs.Changes.{IsSamePort, Resembles, after}
use Rattle.switch_machine.specs.Consistent.{IsConsistent, IsLike}
use Rattle.switch_machine.specs.Flights.{CanSet, CanTake, Fits, MachineFlight, Goes, IsOwnedBy, IsRow, Machine, Runs, StandsIn, own_of}
use Rattle.switch_machine.proofs.Splits.{own_row_in}
use Rattle.switch_machine.proofs.Tabled.{are_shared_by}
use Rattle.orch_flight.specs.Calling.{IsChangeFor, SetsTo, things_held, things_retired}
use Rattle.orch_flight.specs.Operation.{Operation}
use Rattle.orch_flight.specs.Starting.{taken_here}
use Rattle.registry_laws.specs.Flown.{flight_of}
use Rattle.registry_laws.specs.Flying.{IsBetween}
use Rattle.registry_laws.proofs.Listing.{not_some}
use Rattle.registry_laws.proofs.Rests.{AreInOrder}
use Rattle.registry_laws.proofs.Going.{GoesOver, going_how}

pub resembles_name : (u t : Thing) → Resembles u t → name_of u ≡ name_of t
resembles_name u t h = by h.same
  where
    port : (u t : Thing) → IsSamePort u t → name_of u ≡ name_of t
    port (thing.Port p) (thing.Port q) e = ap (λ l. thing_name.Port (first_lane l)) e
    port _ _ e = elim e [ ]

    by : (u ≡ t) ⊎ IsSamePort u t → name_of u ≡ name_of t
    by (inl e) = ap name_of e
    by (inr e) = port u t e

-- ---- the things of two rows of one key have the same names

abbrev HasNamed : List Thing → Thing → Type 0
HasNamed ts t = (old : Thing) × IsIn old ts × (name_of old ≡ name_of t)

one_named : {X : Type 0} (o : Option X) (f g : X → Thing) (t : Thing) → IsIn t (from o (λ x. f x ∷ [])) → ((x : X) → o ≡ Some x → name_of (g x) ≡ name_of (f x)) → HasNamed (from o (λ x. g x ∷ [])) t
one_named None f g t h same = elim h [ ]
one_named (Some x) f g t (inl e) same = (g x, inl refl, same x refl ∙ ap name_of (sym e))
one_named (Some x) f g t (inr h) same = elim h [ ]

pub same_names : (plan : Ports) (k : Key) (r n : Row) (t : Thing) → Fits plan k r → Fits plan k n → IsIn t (own_things plan k r) → HasNamed (own_things plan k n) t
same_names plan (key.Port p) (row.Port r) (row.Port n) t fr fn h =
    one_named (lane_of plan p) (λ lane. thing.Port (record { lanes = r.lanes; speed = r.speed; mtu = r.mtu; up = r.up })) (λ lane. thing.Port (record { lanes = n.lanes; speed = n.speed; mtu = n.mtu; up = n.up })) t h
    (λ lane e. ap (λ l. thing_name.Port (first_lane l)) (same_Some n.lanes r.lanes (sym fn ∙ fr)))
same_names plan (key.Port p) (row.Port r) n t fr fn h = elim fn [ ]
same_names plan (key.Port p) r n t fr fn h = elim fr [ ]
same_names plan (key.Vlan v) row.Vlan row.Vlan t fr fn h = (t, h, refl)
same_names plan (key.Vlan v) row.Vlan n t fr fn h = elim fn [ ]
same_names plan (key.Vlan v) r n t fr fn h = elim fr [ ]
same_names plan (key.Vrf label) row.Vrf row.Vrf t fr fn h = (t, h, refl)
same_names plan (key.Vrf label) row.Vrf n t fr fn h = elim fn [ ]
same_names plan (key.Vrf label) r n t fr fn h = elim fr [ ]
same_names plan (key.Member v p) (row.Member x) (row.Member z) t fr fn h = one_named (lane_of plan p) (λ lane. thing.VlanMember v lane x) (λ lane. thing.VlanMember v lane z) t h (λ lane e. refl)
same_names plan (key.Member v p) (row.Member x) n t fr fn h = elim fn [ ]
same_names plan (key.Member v p) r n t fr fn h = elim fr [ ]
same_names plan (key.Intf i) (row.Intf v) (row.Intf w) t fr fn h = one_named (base_of plan i) (λ b. thing.Rif b v) (λ b. thing.Rif b w) t h (λ b e. refl)
same_names plan (key.Intf i) (row.Intf v) n t fr fn h = elim fn [ ]
same_names plan (key.Intf i) r n t fr fn h = elim fr [ ]
same_names plan (key.Addr i ip len) (row.Addr v) n t fr fn h = elim h [ ]
same_names plan (key.Addr i ip len) r n t fr fn h = elim fr [ ]
same_names plan (key.Neigh i ip) (row.Neigh x) (row.Neigh z) t fr fn h = by (base_of plan i) h
  where
    by : (o : Option Base) → IsIn t (from o (λ b. thing.Neighbor (record { on = b; ip = ip }) x ∷ thing.NextHop (record { on = b; ip = ip }) ∷ [])) → HasNamed (from o (λ b. thing.Neighbor (record { on = b; ip = ip }) z ∷ thing.NextHop (record { on = b; ip = ip }) ∷ [])) t
    by None g = elim g [ ]
    by (Some b) (inl e) = (thing.Neighbor (record { on = b; ip = ip }) z, inl refl, ap name_of (sym e))
    by (Some b) (inr (inl e)) = (thing.NextHop (record { on = b; ip = ip }), inr (inl refl), ap name_of (sym e))
    by (Some b) (inr (inr g)) = elim g [ ]
same_names plan (key.Neigh i ip) (row.Neigh x) n t fr fn h = elim fn [ ]
same_names plan (key.Neigh i ip) r n t fr fn h = elim fr [ ]
same_names plan (key.Route v prefix) (row.Route r) (row.Route n) t fr fn h = by (goal_of plan r) (goal_of plan n) fn.1.1 h
  where
    by : (o p : Option Goal) → p ≡ Some fn.1.0 → IsIn t (from o (λ g. thing.Route v prefix g ∷ [])) → HasNamed (from p (λ g. thing.Route v prefix g ∷ [])) t
    by None p e g = elim g [ ]
    by (Some x) None e g = not_some fn.1.0 e
    by (Some x) (Some z) e (inl is) = (thing.Route v prefix z, inl refl, ap name_of (sym is))
    by (Some x) (Some z) e (inr g) = elim g [ ]
same_names plan (key.Route v prefix) (row.Route r) n t fr fn h = elim fn [ ]
same_names plan (key.Route v prefix) r n t fr fn h = elim fr [ ]
same_names plan (key.Other text) r n t fr fn h = elim fr [ ]

-- what is due after other changes can be made then
pub runs_later : (plan : Ports) (f : MachineFlight) (first due : List Change) (V : Thing → Type 0) → Runs plan f V (first ++ due) → (W : Thing → Type 0) × Runs plan f W due
runs_later plan f [] due V runs = (V, runs)
runs_later plan f (c ∷ first) due V runs = runs_later plan f first due (λ u. after c (V u) u) runs.1

module _ (plan : Ports) (is : IsPlan plan) (m : Machine) (sound : IsConsistent plan m) (w : ℕ) (p : Operation) (flying : m.board.flights w ≡ Some (flight_of p)) (now_fits : (r : Row) → p.now ≡ Some r → Fits plan p.key r) (between : IsBetween (m.board.applied p.key) p.new p.now) where
  abbrev f : MachineFlight
  f = flight_of p

  new_fits : (r : Row) → p.new ≡ Some r → Fits plan p.key r
  new_fits r e = sound.board.fit p.key r (inr (w, f, flying, refl, e))

  -- where a row is applied there is one now
  now_some : (m.board.applied p.key ≡ None → ⊥) → (n : Row) × (p.now ≡ Some n)
  now_some some = by between
    where
      of : (o : Option Row) → m.board.applied p.key ≡ o → p.now ≡ m.board.applied p.key → (n : Row) × (p.now ≡ Some n)
      of None e same = absurd (some e)
      of (Some a) e same = (a, same ∙ e)

      by : IsBetween (m.board.applied p.key) p.new p.now → (n : Row) × (p.now ≡ Some n)
      by (inl same) = of (m.board.applied p.key) refl same
      by (inr (a, r, n, old, new, now)) = (n, now)

  module _ (V : Thing → Type 0) where
    set_for : (u : Thing) (cs : List Change) → (m.board.applied p.key ≡ None → ⊥) → CanSet plan f V u → IsChangeFor plan p (Set u ∷ cs)
    set_for u cs some can =
        let n = now_some some in
        let r = own_row_in plan p.key p.new can.like can.final in
        let old = same_names plan p.key r.0 n.0 can.like (new_fits r.0 r.1) (now_fits n.0 n.1) r.2 in
        (old.0, subst (λ z. IsIn old.0 (own_of plan p.key z)) (sym n.1) old.1, old.2 ∙ sym (resembles_name u can.like can.resembles))

    -- where the applied row does not go and nothing is taken away that was shared, nothing is taken away
    none_gone : (n : thing_name.ThingName) → f.goes ≡ false → p.retires ≡ None → Goes plan f n → ⊥
    none_gone n stays none (inl own) = false≢true (sym stays ∙ own.1)
    none_gone n stays none (inr x) = not_some x.0 (sym none ∙ x.2)

    pub next_later : (due : List Change) → AreInOrder plan p.key (m.board.applied p.key) p.new due → f.goes ≡ false → p.retires ≡ None → Runs plan f V due → IsChangeFor plan p due
    next_later [] order stays none runs = tt
    next_later (Make t ∷ cs) order stays none runs = runs.0.final
    next_later (Set u ∷ cs) order stays none runs = set_for u cs order.1.0 runs.0
    next_later (Take n ∷ cs) order stays none runs = absurd (none_gone n stays none runs.0.goes)

  -- a thing of the key's that stands has its name in the row that there is now, where the applied one goes
  now_named : (u : Thing) → StandsIn m u → IsOwnedBy plan (name_of u) (owner.OfRow p.key) → f.goes ≡ true → HasNamed (own_of plan p.key p.now) u
  now_named u stands own goes =
      let n = now_some applied in
      let named = same_names plan p.key like.row n.0 like.thing (sound.board.fit p.key like.row like.is) (now_fits n.0 n.1) like.of in
      (named.0, subst (λ z. IsIn named.0 (own_of plan p.key z)) (sym n.1) named.1, named.2 ∙ sym (resembles_name u like.thing like.resembles))
    where
      like : IsLike plan m.board p.key u
      like = sound.like p.key u stands own

      -- the key has no row that is to come, or it is to take the place of one
      applied : m.board.applied p.key ≡ None → ⊥
      applied none = by (going_how p.key (m.board.applied p.key) p.new (sym (sound.board.goes w f flying) ∙ goes)) like.is
        where
          by : (p.new ≡ None) ⊎ GoesOver p.key (m.board.applied p.key) p.new → IsRow m.board p.key like.row → ⊥
          by (inr x) _ = not_some (row.Intf x.router_was) (sym none ∙ x.old_is)
          by (inl gone) (inl at) = not_some like.row (sym none ∙ at)
          by (inl gone) (inr (v, g, at, same, new)) =
              let worker = sound.board.one v w g f at flying same in
              let one = same_Some g f (sym at ∙ ap m.board.flights worker ∙ flying) in
              not_some like.row (sym gone ∙ ap (λ (z : MachineFlight). z.new) (sym one) ∙ new)

  take_for : (n : thing_name.ThingName) (cs : List Change) → CanTake plan f (StandsIn m) n → IsChangeFor plan p (Take n ∷ cs)
  take_for n cs can = by can.goes
    where
      there : (u : Thing) × StandsIn m u × (name_of u ≡ n)
      there = can.there

      by : Goes plan f n → (old : Thing) × IsIn old (things_held plan p) × (name_of old ≡ n)
      by (inl own) =
          let x = now_named there.0 there.1 (subst (λ z. IsOwnedBy plan z (owner.OfRow p.key)) (sym there.2) own.0) own.1 in
          (x.0, in-left x.0 (own_of plan p.key p.now) (things_retired p.retires) x.1, x.2 ∙ there.2)
      by (inr (o, own, retires)) =
          let was = sound.board.left w f o flying retires in
          let held = sound.held o there.0 there.1 (subst (λ z. IsOwnedBy plan z o) (sym there.2) own) (are_shared_by plan is p.key was.row o was.used) in
          (there.0, in-right there.0 (own_of plan p.key p.now) (things_retired p.retires) (subst (λ z. IsIn there.0 (things_retired z)) (sym retires) held.0), there.2)

  pub next_now : (due : List Change) → AreInOrder plan p.key (m.board.applied p.key) p.new due → Runs plan f (StandsIn m) due → IsChangeFor plan p due
  next_now [] order runs = tt
  next_now (Make t ∷ cs) order runs = runs.0.final
  next_now (Set u ∷ cs) order runs = set_for (StandsIn m) u cs order.1.0 runs.0
  next_now (Take n ∷ cs) order runs = take_for n cs runs.0

-- ---- what is set is a thing of the new row

pub sets_by : (plan : Ports) (f : Operation) (view : Thing → Type 0) (cs : List Change) → Runs plan (flight_of f) view cs → SetsTo plan f cs
sets_by plan f view [] h = tt
sets_by plan f view (Make t ∷ cs) h = tt
sets_by plan f view (Set u ∷ cs) h = (h.0.like, h.0.final, h.0.resembles)
sets_by plan f view (Take n ∷ cs) h = tt

pub taken_sets : (plan : Ports) (f : Operation) (o : Option Owner) → SetsTo plan f (taken_here o)
taken_sets plan f None = tt
taken_sets plan f (Some (owner.OfRow k)) = tt
taken_sets plan f (Some (owner.Bridge lane)) = tt
taken_sets plan f (Some (owner.Own v ip)) = tt
taken_sets plan f (Some (owner.Group hops)) = tt
