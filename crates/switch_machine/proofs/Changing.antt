-- the values of a row that changes can be set one after the other
use Rattle.std.proofs.Common.{◌≡◌, ◌⊎◌, ◌∷◌, ◌∙◌, inl, inr, ℕ, Bool, true, false, not, if◌then◌else◌, List, [], Option, None, Some, option_map, refl, sym, ap, ap₂, subst}
use Rattle.swss_types.specs.declared.interface.IfName.{IfName}
use Rattle.swss_types.specs.declared.vrf.Vrf.{Vrf}
use Rattle.swss_types.specs.Vrf.{same_vrf}
use Rattle.table_schema.specs.Plan.{Ports, IsPlan}
use Rattle.table_schema.specs.declared.key.Key.{Key}
use Rattle.table_schema.specs.declared.key.Key.TheVariants as key
use Rattle.table_schema.specs.declared.row.PortRow.{PortRow}
use Rattle.sai_types.specs.declared.thing.PortThing.{PortThing}
use Rattle.sai_types.specs.declared.thing.Thing.{Thing}
use Rattle.sai_types.specs.declared.thing.Thing.TheVariants as thing
use Rattle.sai_types.specs.Alike.{IsIn}
use Rattle.sai_types.specs.Named.{first_lane}
use Rattle.switch_model.specs.Placed as row
use Rattle.switch_model.specs.Placed.{Placed as Row}
use Rattle.switch_model.specs.Things.{lane_of}
use Rattle.sai_types.specs.Names.{ThingName, Refers, name_of}
use Rattle.row_layout.specs.Rows.{Owner, OfRow, from, own_things}
use Rattle.row_layout.specs.Operations.{Change, make_all, own_sets, take_all, thing_of_port, set_all, set_to}
use Rattle.swss_types.proofs.Routers.{vrf-exact}
use Rattle.row_layout.proofs.Changing.{set_same}
use Rattle.switch_machine.specs.Changes.{IsSettable}
use Rattle.switch_machine.specs.Flights.{Fits, MachineFlight, HasName, IsOwnedBy, Runs, goes_over}
use Rattle.switch_machine.specs.Tables.{AreNamedApart, ComesBefore}
use Rattle.switch_machine.proofs.Running.{resembles_self}
use Rattle.switch_machine.proofs.Operating.{Ready, added, finish, near_own, not_first, step, taken}
use Rattle.switch_machine.proofs.Ordered.{ordered}
use Rattle.switch_machine.proofs.Tabled.{tabled}

port_refers_none : {X : Type 0} (p : PortThing) (n : ThingName) → Refers (thing.Port p) n → X
port_refers_none p n h = elim h [ ]

abbrev pub changes : Key → Row → Option Owner → Bool → MachineFlight
changes k r leaves goes = record { key = k; new = Some r; leaves = leaves; retires = None; goes = goes }

pub one_row : (plan : Ports) (k : Key) (r x : Row) → Fits plan k r → Some r ≡ Some x → Fits plan k x
one_row plan k r x fit h = let same : r ≡ x = cc in subst (Fits plan k) same fit

module _ (plan : Ports) (is : IsPlan plan) (k : Key) (a r : Row) (leaves : Option Owner) (fit : Fits plan k r) where
  abbrev f : MachineFlight
  f = changes k r leaves false

  abbrev fits : (x : Row) → f.new ≡ Some x → Fits plan k x
  fits = λ x h. one_row plan k r x fit h

  abbrev IsReady : List Thing → (Thing → Type 0) → Type 0
  IsReady ts V = Ready plan (tabled plan is) f fits ts V

  -- the first of a row's things is set, the others are as they were
  set_first : (t u : Thing) (ts : List Thing) → own_things plan k a ≡ t ∷ ts → own_things plan k r ≡ u ∷ ts → IsSettable t u → (V : Thing → Type 0) → IsReady (own_things plan k a) V → Runs plan f V (set_all (own_things plan k a) (own_things plan k r))
  set_first t u ts ea er settable V ready =
      subst (Runs plan f V) (sym (ap₂ set_all ea er ∙ ap (set_to t u) (set_same ts)))
      (step plan (tabled plan is) f fits (ordered plan is) refl t u ts [] V (subst (λ z. IsReady z V) ea ready)
      ((tabled plan is).own k r u fit in_it) settable (λ x h. apart.0 x h) u in_it (resembles_self u)
      (λ W shared n refers concern. near W n (near_own plan (tabled plan is) f fits (ordered plan is) refl r refl W shared u n in_it refers concern))
      (λ W now. finish plan (tabled plan is) f fits (ordered plan is) refl W (subst (λ z. IsReady z W) (sym er) now)))
    where
      in_it : IsIn u (own_things plan k r)
      in_it = subst (IsIn u) (sym er) (inl refl)

      apart : AreNamedApart (u ∷ ts)
      apart = subst AreNamedApart er ((ordered plan is).own_apart k r fit)

      near : (W : Thing → Type 0) (n : ThingName) → HasName W n ⊎ ComesBefore n u (own_things plan k r) → HasName W n
      near W n (inl h) = h
      near W n (inr h) = absurd (not_first n u ts apart (subst (ComesBefore n u) er h))

-- nothing is set of an equal row
none_set : (plan : Ports) (is : IsPlan plan) (k : Key) (r : Row) (leaves : Option Owner) (fit : Fits plan k r) (V : Thing → Type 0) → Ready plan (tabled plan is) (changes k r leaves false) (λ x h. one_row plan k r x fit h) (own_things plan k r) V → Runs plan (changes k r leaves false) V (set_all (own_things plan k r) (own_things plan k r))
none_set plan is k r leaves fit V ready = subst (Runs plan (changes k r leaves false) V) (sym (set_same (own_things plan k r))) (finish plan (tabled plan is) (changes k r leaves false) (λ x h. one_row plan k r x fit h) (ordered plan is) refl V ready)

module _ (plan : Ports) (is : IsPlan plan) (p : ℕ) (a r : PortRow) (leaves : Option Owner) (fita : Fits plan (key.Port p) (row.Port a)) (fit : Fits plan (key.Port p) (row.Port r)) where
  abbrev port_f : MachineFlight
  port_f = changes (key.Port p) (row.Port r) leaves false

  abbrev port_fits : (x : Row) → port_f.new ≡ Some x → Fits plan (key.Port p) x
  port_fits = λ x h. one_row plan (key.Port p) (row.Port r) x fit h

  abbrev PortIsReady : List Thing → (Thing → Type 0) → Type 0
  PortIsReady ts V = Ready plan (tabled plan is) port_f port_fits ts V

  at : lane_of plan p ≡ Some (first_lane a.lanes)
  at = ap (option_map first_lane) fita

  same : a.lanes ≡ r.lanes
  same = let lanes : Some a.lanes ≡ Some r.lanes = sym fita ∙ fit in cc

  first_own : own_things plan (key.Port p) (row.Port a) ≡ thing_of_port a.lanes a.speed a.mtu a.up ∷ []
  first_own = ap (λ o. from o (λ lane. thing_of_port a.lanes a.speed a.mtu a.up ∷ [])) at

  last_own : own_things plan (key.Port p) (row.Port r) ≡ thing_of_port a.lanes r.speed r.mtu r.up ∷ []
  last_own = ap (λ o. from o (λ lane. thing_of_port r.lanes r.speed r.mtu r.up ∷ [])) at ∙ ap (λ l. thing_of_port l r.speed r.mtu r.up ∷ []) (sym same)

  final : IsIn (thing_of_port r.lanes r.speed r.mtu r.up) (own_things plan (key.Port p) (row.Port r))
  final = subst (λ o. IsIn (thing_of_port r.lanes r.speed r.mtu r.up) (from o (λ lane. thing_of_port r.lanes r.speed r.mtu r.up ∷ []))) (sym at) (inl refl)

  of : IsOwnedBy plan (name_of (thing_of_port a.lanes a.speed a.mtu a.up)) (OfRow (key.Port p))
  of = (tabled plan is).own (key.Port p) (row.Port a) (thing_of_port a.lanes a.speed a.mtu a.up) fita (subst (IsIn (thing_of_port a.lanes a.speed a.mtu a.up)) (sym first_own) (inl refl))

  -- one of a port's values is set
  port_step : (s m s' m' : ℕ) (u u' : Bool) (rest : List Change) (V : Thing → Type 0) → PortIsReady (thing_of_port a.lanes s m u ∷ []) V → IsSettable (thing_of_port a.lanes s m u) (thing_of_port a.lanes s' m' u') → ((W : Thing → Type 0) → PortIsReady (thing_of_port a.lanes s' m' u' ∷ []) W → Runs plan port_f W rest) → Runs plan port_f V (set_to (thing_of_port a.lanes s m u) (thing_of_port a.lanes s' m' u') rest)
  port_step s m s' m' u u' rest V ready settable next =
      step plan (tabled plan is) port_f port_fits (ordered plan is) refl (thing_of_port a.lanes s m u) (thing_of_port a.lanes s' m' u') [] rest V ready
      of settable (λ y h e. elim h [ ]) (thing_of_port r.lanes r.speed r.mtu r.up) final (record { same = inr same; refers = λ n h. elim h [ ] })
      (λ W shared n refers c. port_refers_none (record { lanes = a.lanes; speed = s'; mtu = m'; up = u' }) n refers) next

  port_runs : (V : Thing → Type 0) → PortIsReady (own_things plan (key.Port p) (row.Port a)) V → Runs plan port_f V (own_sets plan (key.Port p) (row.Port a) (row.Port r))
  port_runs V ready =
      port_step a.speed a.mtu r.speed a.mtu a.up a.up _ V (subst (λ z. PortIsReady z V) first_own ready) (inl (r.speed, refl)) (λ W now.
      port_step r.speed a.mtu r.speed r.mtu a.up a.up _ W now (inr (inl (r.mtu, refl))) (λ W' now'.
      port_step r.speed r.mtu r.speed r.mtu a.up r.up [] W' now' (inr (inr (r.up, refl))) (λ W'' done.
      finish plan (tabled plan is) port_f port_fits (ordered plan is) refl W'' (subst (λ z. PortIsReady z W'') (sym last_own) done))))

-- an interface in another router goes and is made there
goes_or_stays : (plan : Ports) (is : IsPlan plan) (n : IfName) (v w : Vrf) (leaves : Option Owner) (b : Bool) → (b ≡ true → v ≡ w) → (V : Thing → Type 0) → Ready plan (tabled plan is) (changes (key.Intf n) (row.Intf w) leaves (not b)) (λ x h. one_row plan (key.Intf n) (row.Intf w) x tt h) (own_things plan (key.Intf n) (row.Intf v)) V → Runs plan (changes (key.Intf n) (row.Intf w) leaves (not b)) V (if b then [] else take_all (own_things plan (key.Intf n) (row.Intf v)) (make_all (own_things plan (key.Intf n) (row.Intf w)) []))
goes_or_stays plan is n v w leaves true alike V ready =
    let F = changes (key.Intf n) (row.Intf w) leaves false in
    let fits : (x : Row) → F.new ≡ Some x → Fits plan (key.Intf n) x = λ x h. one_row plan (key.Intf n) (row.Intf w) x tt h in
    finish plan (tabled plan is) F fits (ordered plan is) refl V (subst (λ z. Ready plan (tabled plan is) F fits (own_things plan (key.Intf n) (row.Intf z)) V) (alike refl) ready)
goes_or_stays plan is n v w leaves false _ V ready =
    let F = changes (key.Intf n) (row.Intf w) leaves true in
    let fits : (x : Row) → F.new ≡ Some x → Fits plan (key.Intf n) x = λ x h. one_row plan (key.Intf n) (row.Intf w) x tt h in
    taken plan (tabled plan is) F fits (ordered plan is) refl (row.Intf v) (make_all (own_things plan (key.Intf n) (row.Intf w)) []) tt refl (λ o h. elim h [ ]) V ready
    (λ W now. added plan (tabled plan is) F fits (ordered plan is) refl (row.Intf w) refl W now)

pub changed-runs : (plan : Ports) (is : IsPlan plan) (k : Key) (a r : Row) (leaves : Option Owner) (fita : Fits plan k a) (fit : Fits plan k r) (V : Thing → Type 0) → Ready plan (tabled plan is) (changes k r leaves (goes_over k (Some a) (Some r))) (λ x h. one_row plan k r x fit h) (own_things plan k a) V → Runs plan (changes k r leaves (goes_over k (Some a) (Some r))) V (own_sets plan k a r)
changed-runs plan is (key.Port p) (row.Port a) (row.Port r) leaves fita fit V ready = port_runs plan is p a r leaves fita fit V ready
changed-runs plan is (key.Member v p) (row.Member a) (row.Member r) leaves (lane, lane_at) fit V ready =
    set_first plan is (key.Member v p) (row.Member a) (row.Member r) leaves fit (thing.VlanMember v lane a) (thing.VlanMember v lane r) [] (ap (λ o. from o (λ l. thing.VlanMember v l a ∷ [])) lane_at) (ap (λ o. from o (λ l. thing.VlanMember v l r ∷ [])) lane_at) (r, refl) V ready
changed-runs plan is (key.Neigh n ip) (row.Neigh a) (row.Neigh r) leaves (b, base_at) fit V ready =
    set_first plan is (key.Neigh n ip) (row.Neigh a) (row.Neigh r) leaves fit (thing.Neighbor (record { on = b; ip = ip }) a) (thing.Neighbor (record { on = b; ip = ip }) r) (thing.NextHop (record { on = b; ip = ip }) ∷ [])
    (ap (λ o. from o (λ b. thing.Neighbor (record { on = b; ip = ip }) a ∷ thing.NextHop (record { on = b; ip = ip }) ∷ [])) base_at) (ap (λ o. from o (λ b. thing.Neighbor (record { on = b; ip = ip }) r ∷ thing.NextHop (record { on = b; ip = ip }) ∷ [])) base_at) (r, refl) V ready
changed-runs plan is (key.Route v prefix) (row.Route a) (row.Route r) leaves (_, (g, ag)) (proper, (h, ah)) V ready =
    set_first plan is (key.Route v prefix) (row.Route a) (row.Route r) leaves (proper, (h, ah)) (thing.Route v prefix g) (thing.Route v prefix h) [] (ap (λ o. from o (λ g. thing.Route v prefix g ∷ [])) ag) (ap (λ o. from o (λ g. thing.Route v prefix g ∷ [])) ah) (h, refl) V ready
changed-runs plan is (key.Vlan v) row.Vlan row.Vlan leaves fita fit V ready = none_set plan is (key.Vlan v) row.Vlan leaves fit V ready
changed-runs plan is (key.Vrf label) row.Vrf row.Vrf leaves fita fit V ready = none_set plan is (key.Vrf label) row.Vrf leaves fit V ready
changed-runs plan is (key.Intf n) (row.Intf v) (row.Intf w) leaves fita fit V ready = goes_or_stays plan is n v w leaves (same_vrf v w) (vrf-exact v w) V ready
changed-runs plan is (key.Addr n ip len) (row.Addr v) (row.Addr w) leaves fita fit V ready = finish plan (tabled plan is) (changes (key.Addr n ip len) (row.Addr w) leaves false) (λ x h. one_row plan (key.Addr n ip len) (row.Addr w) x fit h) (ordered plan is) refl V ready
changed-runs plan is (key.Port p) (row.Port a) _ leaves fita fit V ready = elim fit [ ]
changed-runs plan is (key.Vlan v) row.Vlan _ leaves fita fit V ready = elim fit [ ]
changed-runs plan is (key.Vrf label) row.Vrf _ leaves fita fit V ready = elim fit [ ]
changed-runs plan is (key.Member v p) (row.Member a) _ leaves fita fit V ready = elim fit [ ]
changed-runs plan is (key.Intf n) (row.Intf v) _ leaves fita fit V ready = elim fit [ ]
changed-runs plan is (key.Addr n ip len) (row.Addr v) _ leaves fita fit V ready = elim fit [ ]
changed-runs plan is (key.Neigh n ip) (row.Neigh a) _ leaves fita fit V ready = elim fit [ ]
changed-runs plan is (key.Route v prefix) (row.Route a) _ leaves fita fit V ready = elim fit [ ]
changed-runs plan is _ _ _ leaves fita fit V ready = elim fita [ ]
