-- when the answer of a call may be taken, and what the call is made of
use Rattle.std.proofs.Common.{◌≡◌, ◌⊎◌, ◌∷◌, ◌++◌, ◌≤◌, ◌∙◌, inl, inr, ℕ, suc, Bool, true, false, List, [], length, Option, None, Some, is_some, option_map, refl, sym, ap, subst, arith}
use Rattle.std.proofs.lemmas.Option.{same_Some}
use Rattle.table_schema.specs.Plan.{IsPlan, Ports, port_named}
use Rattle.table_schema.specs.declared.key.Key.{Key}
use Rattle.table_schema.specs.declared.key.Key.TheVariants as key
use Rattle.swss_types.specs.declared.interface.IfName.{IfName}
use Rattle.swss_types.specs.declared.interface.IfName.TheVariants as on
use Rattle.swss_types.proofs.Proper.{mapped}
use Rattle.sai_types.specs.declared.hop.Base.{Base}
use Rattle.sai_types.specs.declared.hop.Base.TheVariants as base
use Rattle.sai_types.specs.declared.ids.Vid.{Vid}
use Rattle.sai_types.specs.declared.thing.Thing.{Thing}
use Rattle.sai_types.specs.declared.thing.Thing.TheVariants as thing
use Rattle.sai_types.specs.Alike.{IsIn}
use Rattle.sai_types.specs.Names as thing_name
use Rattle.sai_types.specs.Names.{name_of}
use Rattle.sai_types.proofs.Membership.{in-either, in-left, in-right}
use Rattle.chip_layout.specs.Layout.{has_number}
use Rattle.switch_model.specs.Placed.{Placed as Row}
use Rattle.switch_model.specs.Placed as row
use Rattle.row_layout.specs.Operations.{Change, Make, Set, Take, make_all, uses_of}
use Rattle.row_layout.specs.Rows as owner
use Rattle.row_layout.specs.Rows.{Owner, interface_on, owner_of}
use Rattle.row_layout.specs.Shared.{shared_things}
use Rattle.switch_machine.specs.Changes.{Disturbs, changed_name}
use Rattle.switch_machine.specs.Consistent.{IsConsistent}
use Rattle.switch_machine.specs.Flights.{CanMake, Concerns, Fits, MachineFlight, HasChangeOf, IsFinal, IsOwnedBy, IsShared, IsUser, Machine, Runs, StandsIn, own_of}
use Rattle.switch_machine.specs.Tables.{AreNamedApart}
use Rattle.switch_machine.proofs.Moving.{fit_of, used_shared}
use Rattle.switch_machine.proofs.Ordered.{ordered}
use Rattle.switch_machine.proofs.Running.{one_owner, row_keys, shared_of, shared_row}
use Rattle.switch_machine.proofs.Splits.{own_row_in, use_row_in}
use Rattle.switch_machine.proofs.Tabled.{are_shared_by, tabled}
use Rattle.switch_machine.proofs.Beginning.{touched_concern}
use Rattle.ref_counts.specs.declared.name.Name.{Name}
use Rattle.ref_counts.specs.declared.name.Name.TheVariants as name
use Rattle.ref_counts.specs.declared.name.NameState.{NameState}
use Rattle.ref_counts.specs.declared.name.NameState.TheVariants as state
use Rattle.ref_counts.specs.Registry as registry
use Rattle.ref_counts.specs.Registry.{places_of, state_of, ids_of}
use Rattle.ref_counts.specs.Room.{RoomState}
use Rattle.orch_flight.specs.Calling.{things_held, things_retired}
use Rattle.orch_flight.specs.Grouping.{GroupOperation, MayTakeGroup, first_group_due}
use Rattle.orch_flight.specs.Needing.{name_for}
use Rattle.orch_flight.specs.Operation.{Operation}
use Rattle.orch_flight.specs.Starting.{ids_for, ids_for_row}
use Rattle.orch_flight.specs.Taking.{MayTake, built_name, to_list, MayBeLive}
use Rattle.orch_flight.specs.Sharing.{IsOfShared}
use Rattle.registry_laws.specs.Flown.{Flown, due_for, flight_of, group_in, group_to_build, group_to_take, left_of_group, whole_group}
use Rattle.registry_laws.specs.Flying.{IsFlown, IsGroupFlown, KnowsBoard, IsBetween}
use Rattle.registry_laws.specs.Known.{RowStands, SharedStands}
use Rattle.registry_laws.proofs.Answered.{IsRowName, mapped_row, some_row}
use Rattle.registry_laws.proofs.Aside.{building_is, built_state, retiring_is}
use Rattle.registry_laws.proofs.Grouped.{taken_group}
use Rattle.registry_laws.proofs.Listing.{not_some}
use Rattle.registry_laws.proofs.Rests.{AreInOrder, rest_order}
use Rattle.registry_laws.specs.Identified.{HasWholeInterfaces, is_live_or_going}
use Rattle.registry_laws.proofs.Going.{GoesOver, goes_by}

-- ---- what is due for a worker

pub row_due : (plan : Ports) (names : registry.Names) (x : Flown) → x.group ≡ None → group_to_build plan names x.operation ≡ None → group_to_take x.operation ≡ None → due_for plan names x ≡ x.operation.due
row_due plan names x none builds takes =
    ap (λ g. left_of_group g (whole_group (group_to_build plan names x.operation) (group_to_take x.operation)) ++ x.operation.due) none
    ∙ ap (λ b. whole_group b (group_to_take x.operation) ++ x.operation.due) builds
    ∙ ap (λ t. whole_group None t ++ x.operation.due) takes

pub group_due : (plan : Ports) (names : registry.Names) (x : Flown) (g : GroupOperation) → x.group ≡ Some g → due_for plan names x ≡ g.due ++ x.operation.due
group_due plan names x g at = ap (λ z. left_of_group z (whole_group (group_to_build plan names x.operation) (group_to_take x.operation)) ++ x.operation.due) at

-- ---- lists of things

pub named_one : (ts : List Thing) → AreNamedApart ts → (t u : Thing) → IsIn t ts → IsIn u ts → name_of t ≡ name_of u → t ≡ u
named_one [] apart t u i j e = elim i [ ]
named_one (x ∷ ts) apart t u (inl a) (inl b) e = a ∙ sym b
named_one (x ∷ ts) apart t u (inl a) (inr j) e = absurd (apart.0 u j (sym e ∙ ap name_of a))
named_one (x ∷ ts) apart t u (inr i) (inl b) e = absurd (apart.0 t i (e ∙ ap name_of b))
named_one (x ∷ ts) apart t u (inr i) (inr j) e = named_one ts apart.1 t u i j e

pub made_in : (ts : List Thing) (c : Change) → IsIn c (make_all ts []) → (t : Thing) × IsIn t ts × (c ≡ Make t)
made_in [] c h = elim h [ ]
made_in (t ∷ ts) c (inl e) = (t, inl refl, e)
made_in (t ∷ ts) c (inr h) = let x = made_in ts c h in (x.0, inr x.1, x.2)

pub disturbed_name : (c : Change) (n : thing_name.ThingName) → Disturbs c n → changed_name c ≡ n
disturbed_name (Make t) n h = elim h [ ]
disturbed_name (Set u) n h = h
disturbed_name (Take m) n h = h

-- ---- identifiers

made_fits : (made : Option Vid) (b : Bool) (n : ℕ) → is_some made ≡ b → (b ≡ true → 1 ≤ n) → length (to_list made) ≤ n
made_fits None b n e h = omega arith
made_fits (Some v) b n e h = h (sym e)

-- a row of which a thing with its name is made has a place for an identifier
module _ (plan : Ports) (k : Key) where
  one_by : {X : Type 0} (g : X → Key) (x : Option X) → ((y : X) → x ≡ Some y → ids_for_row (g y) ≡ 1) → option_map (λ z. owner.OfRow (g z)) x ≡ Some (owner.OfRow k) → ids_for_row k ≡ 1
  one_by g x one h =
      let m = mapped (λ z. owner.OfRow (g z)) x (owner.OfRow k) h in
      ap ids_for_row (sym (row_keys (g m.0) k m.2)) ∙ one m.0 m.1

  one_intf : (b : Base) (n : IfName) → interface_on plan b ≡ Some n → ids_for_row (key.Intf n) ≡ 1
  one_intf (base.Port lane) n h =
      let m = mapped on.Ethernet (port_named plan lane) n h in
      ap (λ z. ids_for_row (key.Intf z)) (sym m.2)
  one_intf (base.Vlan v) n h = ap (λ z. ids_for_row (key.Intf z)) (sym (same_Some (on.Vlan v) n h))

  one_id : (t : Thing) → owner_of plan (name_of t) ≡ Some (owner.OfRow k) → built_name k t ≡ Some (name.Row k) → ids_for_row k ≡ 1
  one_id (thing.Port p) own b = one_by key.Port (port_named plan _) (λ y e. refl) own
  one_id (thing.Vlan v) own b = ap ids_for_row (sym (row_keys (key.Vlan v) k (same_Some (owner.OfRow (key.Vlan v)) (owner.OfRow k) own)))
  one_id (thing.VirtualRouter label) own b = ap ids_for_row (sym (row_keys (key.Vrf label) k (same_Some (owner.OfRow (key.Vrf label)) (owner.OfRow k) own)))
  one_id (thing.BridgePort lane) own b = absurd cc
  one_id (thing.VlanMember v lane x) own b = one_by (key.Member v) (port_named plan lane) (λ y e. refl) own
  one_id (thing.Rif b v) own h = one_by key.Intf (interface_on plan b) (λ y e. one_intf b y e) own
  one_id (thing.Own v ip) own b = absurd cc
  one_id (thing.Neighbor hop mac) own b = not_some (name.Row k) b
  one_id (thing.NextHop hop) own b = one_by (λ n. key.Neigh n hop.ip) (interface_on plan hop.on) (λ y e. refl) own
  one_id (thing.Group hops) own b = not_some (name.Row k) b
  one_id (thing.GroupMember hops hop) own b = not_some (name.Row k) b
  one_id (thing.Route v prefix goal) own b = not_some (name.Row k) b

-- what is shared is made live by the worker that builds it, and so is a row's name where no row is applied
shared_live : (names : registry.Names) (w : ℕ) (n : Name) (now : Option Row) (ids : List Vid) → IsOfShared n → (state_of names n ≡ state.Building w) × (length ids ≤ places_of names n) → MayBeLive names w n now ids
shared_live names w (name.Row k) now ids s h = elim s [ ]
shared_live names w n now ids s h = h

new_live : (names : registry.Names) (w : ℕ) (n : Name) (ids : List Vid) → (state_of names n ≡ state.Building w) × (length ids ≤ places_of names n) → MayBeLive names w n None ids
new_live names w (name.Row (key.Intf i)) ids h = h
new_live names w n ids h = h

one_made : (made : Option Vid) (b : Bool) → is_some made ≡ b → b ≡ true → length (to_list made) ≡ 1
one_made None b e h = absurd cc
one_made (Some v) b e h = refl

-- ---- what a worker has under way

module _ (plan : Ports) (is : IsPlan plan) (capacities : List ℕ) (names : registry.Names) (room : RoomState) (flown : ℕ → Option Flown) (m : Machine) (sound : IsConsistent plan m) (board : KnowsBoard plan capacities names room flown m) (w : ℕ) (x : Flown) (at : flown w ≡ Some x) where
  y : IsFlown plan names m w x
  y = board.flying w x at

  abbrev f : Operation
  f = x.operation

  abbrev g : MachineFlight
  g = flight_of x.operation

  abbrev k : Key
  k = x.operation.key

  fits : (r : Row) → g.new ≡ Some r → Fits plan g.key r
  fits = fit_of plan (tabled plan is) m sound w g y.flying

  shared_state : (o : Owner) → IsShared o → SharedStands plan m o (state_of names (name_for o))
  shared_state o h = (board.registers.names_known.shared o h).stands

  its_worker : (st : NameState) → st ≡ state.Building w → st ≡ state.Building f.worker
  its_worker st e = e ∙ ap state.Building (sym y.worker)

  in_order : AreInOrder plan k (m.board.applied k) f.new f.due
  in_order = rest_order plan is (m.board.applied k) f (λ r e. sound.board.fit k r (inl e)) fits y.rest

  -- what it has to leave is live
  left_live : (o : Owner) → f.leaves ≡ Some o → state_of names (name_for o) ≡ state.Live
  left_live o h = by (state_of names (name_for o)) (shared_state o shared)
    where
      user : IsUser plan m.board k o
      user = inl (w, g, y.flying, refl, inr h)

      shared : IsShared o
      shared = used_shared plan (tabled plan is) m sound k o user

      unconcerned : Concerns plan g o → ⊥
      unconcerned (inl e) = shared_row o k shared e
      unconcerned (inr (inl i)) = (sound.board.leaves w g o y.flying h).1 i
      unconcerned (inr (inr e)) = not_some o (sym (sound.board.leaves w g o y.flying h).2 ∙ e)

      not_due : HasChangeOf plan (m.due w) o → ⊥
      not_due t = unconcerned (touched_concern plan (tabled plan is) g fits (m.due w) (StandsIn m) o (sound.runs w g y.flying) t)

      by : (st : NameState) → SharedStands plan m o st → st ≡ state.Live
      by state.Absent s = absurd (s.0 k user)
      by (state.Building v) s =
          let same = sound.board.one w v g s.0 y.flying s.1 (sound.quiet v s.0 k o s.1 s.2 user) in
          absurd (not_due (subst (λ z. HasChangeOf plan (m.due z) o) (sym same) s.2))
      by state.Live s = refl
      by (state.Retiring v) s = absurd (sound.board.unused v s.0 k o s.1 s.3 user)

  -- ---- of a row

  module _ (interfaces : HasWholeInterfaces names) (none : x.group ≡ None) (builds : group_to_build plan names x.operation ≡ None) (takes : group_to_take x.operation ≡ None) where
    due_is : m.due w ≡ f.due
    due_is = y.due ∙ row_due plan names x none builds takes

    some : f.due ≡ [] → ⊥
    some e = board.busy w g y.flying (due_is ∙ e)

    module _ (t : Thing) (rest : List Change) (due : f.due ≡ Make t ∷ rest) where
      can : CanMake plan g (StandsIn m) t
      can = (subst (Runs plan g (StandsIn m)) (due_is ∙ due) (sound.runs w g y.flying)).0

      touched : (o : Owner) → IsOwnedBy plan (name_of t) o → HasChangeOf plan (m.due w) o
      touched o own = subst (λ d. HasChangeOf plan d o) (sym (due_is ∙ due)) (Make t, inl refl, own)

      building : (o : Owner) → IsShared o → IsOwnedBy plan (name_of t) o → state_of names (name_for o) ≡ state.Building w
      building o shared own =
          building_is plan is m sound o w g (state_of names (name_for o)) (shared_state o shared) y.flying (touched o own)
          (λ retires. sound.board.unused w g k o y.flying retires (inl (w, g, y.flying, refl, inl (shared_of plan (tabled plan is) g fits t o own shared can.final).0)))

      places : (made : Option Vid) (o : Owner) → state_of names (name_for o) ≡ state.Building w → is_some made ≡ has_number t → (has_number t ≡ true → 1 ≤ ids_for o) → length (to_list made) ≤ places_of names (name_for o)
      places made o st e one = subst (λ z. length (to_list made) ≤ z) (sym (board.placed o w st)) (made_fits made (has_number t) (ids_for o) e one)

      shared_builds : (made : Option Vid) (o : Owner) → IsShared o → IsOfShared (name_for o) → IsOwnedBy plan (name_of t) o → is_some made ≡ has_number t → (has_number t ≡ true → 1 ≤ ids_for o) → MayBeLive names f.worker (name_for o) f.now (to_list made)
      shared_builds made o shared named own e one = let st = building o shared own in shared_live names f.worker (name_for o) f.now (to_list made) named (its_worker (state_of names (name_for o)) st, places made o st e one)

      row_own : IsRowName plan (name_of t) → IsFinal plan g t → IsOwnedBy plan (name_of t) (owner.OfRow k)
      row_own row (inl h) = let r = own_row_in plan g.key g.new t h in (tabled plan is).own g.key r.0 t (fits r.0 r.1) r.2
      row_own row (inr (o, i, h)) = let r = use_row_in plan g.key g.new o i in absurd (row o (are_shared_by plan is g.key r.0 o r.2) ((tabled plan is).shared o t h))

      -- the row's name is being built where no row is applied
      row_building : m.board.applied k ≡ None → state_of names (name.Row k) ≡ state.Building w
      row_building absent = by (state_of names (name.Row k)) (board.registers.names_known.rows k).stands
        where
          by : (st : NameState) → RowStands m k st → st ≡ state.Building w
          by state.Absent h = absurd (h.0 w g y.flying refl)
          by (state.Building v) h = ap state.Building (sound.board.one v w h.0.0 g h.0.1 y.flying h.0.2)
          by state.Live (inl firm) = not_some firm.row (sym absent ∙ firm.applied)
          by state.Live (inr made) = absurd (board.busy made.worker made.flight made.flying made.done)
          by (state.Retiring v) h = not_some h.row (sym absent ∙ h.applied)

      -- and was taken away where the applied one goes over
      row_retiring : GoesOver k (m.board.applied k) f.new → state_of names (name.Row k) ≡ state.Retiring w
      row_retiring over = by (state_of names (name.Row k)) (board.registers.names_known.rows k).stands
        where
          goes : g.goes ≡ true
          goes = sound.board.goes w g y.flying ∙ goes_by k (m.board.applied k) f.new over

          by : (st : NameState) → RowStands m k st → st ≡ state.Retiring w
          by state.Absent h = absurd (h.0 w g y.flying refl)
          by (state.Building v) h = not_some (row.Intf over.router_was) (sym h.1 ∙ over.old_is)
          by state.Live (inl firm) = absurd (firm.stays w g y.flying refl goes)
          by state.Live (inr made) = absurd (board.busy made.worker made.flight made.flying made.done)
          by (state.Retiring v) h = ap state.Retiring (sound.board.one v w h.flight g h.flying y.flying h.key)

      now_none : m.board.applied k ≡ None → f.now ≡ None
      now_none absent = by y.between
        where
          by : IsBetween (m.board.applied k) f.new f.now → f.now ≡ None
          by (inl same) = same ∙ absent
          by (inr (a, r, n, old, new, now)) = not_some a (sym absent ∙ old)

      now_some : GoesOver k (m.board.applied k) f.new → (a : Row) × (f.now ≡ Some a)
      now_some over = by y.between
        where
          by : IsBetween (m.board.applied k) f.new f.now → (a : Row) × (f.now ≡ Some a)
          by (inl same) = (row.Intf over.router_was, same ∙ over.old_is)
          by (inr (a, r, n, old, new, now)) = (n, now)

      row_builds : (made : Option Vid) → IsRowName plan (name_of t) → is_some made ≡ has_number t → has_number t ≡ true → built_name k t ≡ Some (name.Row k) → MayBeLive names f.worker (name.Row k) f.now (to_list made)
      row_builds made row e number b = by ((subst (AreInOrder plan k (m.board.applied k) f.new) due in_order).1 own)
        where
          own : IsOwnedBy plan (name_of t) (owner.OfRow k)
          own = row_own row can.final

          one : ids_for_row k ≡ 1
          one = one_id plan k t own b

          by : (m.board.applied k ≡ None) ⊎ GoesOver k (m.board.applied k) f.new → MayBeLive names f.worker (name.Row k) f.now (to_list made)
          by (inl absent) =
              let st = row_building absent in
              subst (λ z. MayBeLive names f.worker (name.Row k) z (to_list made)) (sym (now_none absent)) (new_live names f.worker (name.Row k) (to_list made) (its_worker (state_of names (name.Row k)) st, places made (owner.OfRow k) st e (λ _. omega (arith, one))))
          by (inr over) =
              let st = row_retiring over in
              let n = now_some over in
              let there : is_live_or_going (state_of names (name.Row (key.Intf over.on))) ≡ true = ap (λ z. is_live_or_going (state_of names (name.Row z))) (sym over.key_is) ∙ ap is_live_or_going st in
              let ids : length (ids_of names (name.Row k)) ≡ 1 = ap (λ z. length (ids_of names (name.Row z))) over.key_is ∙ interfaces.each over.on there ∙ ap ids_for_row (sym over.key_is) ∙ one in
              subst (λ z. MayBeLive names f.worker (name.Row k) z (to_list made)) (sym n.1) (subst (λ z. MayBeLive names f.worker (name.Row z) (Some n.0) (to_list made)) (sym over.key_is) (ap (λ z. state_of names (name.Row z)) (sym over.key_is) ∙ st ∙ ap state.Retiring (sym y.worker), one_made made (has_number t) e number ∙ sym (ap (λ z. length (ids_of names (name.Row z))) (sym over.key_is) ∙ ids)))

    builds_by : (t : Thing) (rest : List Change) (due : f.due ≡ Make t ∷ rest) (made : Option Vid) → is_some made ≡ has_number t → (n : Name) → built_name k t ≡ Some n → MayBeLive names f.worker n f.now (to_list made)
    builds_by (thing.Port p) rest due made e n h = subst (λ z. MayBeLive names f.worker z f.now (to_list made)) (same_Some (name.Row k) n h) (row_builds (thing.Port p) rest due made (λ o shared i. mapped_row plan key.Port (port_named plan _) o shared i) e refl refl)
    builds_by (thing.Vlan v) rest due made e n h = subst (λ z. MayBeLive names f.worker z f.now (to_list made)) (same_Some (name.Row k) n h) (row_builds (thing.Vlan v) rest due made (λ o shared i. some_row plan (key.Vlan v) o shared i) e refl refl)
    builds_by (thing.VirtualRouter label) rest due made e n h = subst (λ z. MayBeLive names f.worker z f.now (to_list made)) (same_Some (name.Row k) n h) (row_builds (thing.VirtualRouter label) rest due made (λ o shared i. some_row plan (key.Vrf label) o shared i) e refl refl)
    builds_by (thing.BridgePort lane) rest due made e n h = subst (λ z. MayBeLive names f.worker z f.now (to_list made)) (same_Some (name.BridgePort lane) n h) (shared_builds (thing.BridgePort lane) rest due made (owner.Bridge lane) tt tt refl e (λ _. omega arith))
    builds_by (thing.VlanMember v lane z) rest due made e n h = subst (λ z. MayBeLive names f.worker z f.now (to_list made)) (same_Some (name.Row k) n h) (row_builds (thing.VlanMember v lane z) rest due made (λ o shared i. mapped_row plan (key.Member v) (port_named plan lane) o shared i) e refl refl)
    builds_by (thing.Rif b v) rest due made e n h = subst (λ z. MayBeLive names f.worker z f.now (to_list made)) (same_Some (name.Row k) n h) (row_builds (thing.Rif b v) rest due made (λ o shared i. mapped_row plan key.Intf (interface_on plan b) o shared i) e refl refl)
    builds_by (thing.Own v ip) rest due made e n h = subst (λ z. MayBeLive names f.worker z f.now (to_list made)) (same_Some (name.Own v ip) n h) (shared_builds (thing.Own v ip) rest due made (owner.Own v ip) tt tt refl e (λ no. absurd cc))
    builds_by (thing.Neighbor hop mac) rest due made e n h = not_some n h
    builds_by (thing.NextHop hop) rest due made e n h = subst (λ z. MayBeLive names f.worker z f.now (to_list made)) (same_Some (name.Row k) n h) (row_builds (thing.NextHop hop) rest due made (λ o shared i. mapped_row plan (λ n. key.Neigh n hop.ip) (interface_on plan hop.on) o shared i) e refl refl)
    builds_by (thing.Group hops) rest due made e n h = not_some n h
    builds_by (thing.GroupMember hops hop) rest due made e n h = not_some n h
    builds_by (thing.Route v prefix goal) rest due made e n h = not_some n h

    pub may_take : (made : Option Vid) → ((t : Thing) (rest : List Change) → f.due ≡ Make t ∷ rest → is_some made ≡ has_number t) → MayTake f made names
    may_take made numbered = record {
      some = some;
      numbered = numbered;
      builds = λ t rest n due b. builds_by t rest due made (numbered t rest due) n b;
      leaves = left_live;
    }

  -- what is taken away of what is shared stands
  taken_stands : (o : Owner) (c : Change) (rest : List Change) → g.retires ≡ Some o → m.due w ≡ c ∷ rest → (t : Thing) → IsIn t (shared_things o) → Disturbs c (name_of t) → StandsIn m t
  taken_stands o (Make u) rest retires due t i h = elim h [ ]
  taken_stands o (Set u) rest retires due t i h =
      let can = (subst (Runs plan g (StandsIn m)) due (sound.runs w g y.flying)).0 in
      let was = sound.board.left w g o y.flying retires in
      absurd (shared_row o k (are_shared_by plan is k was.row o was.used) (one_owner plan (name_of u) o (owner.OfRow k) (subst (λ n. IsOwnedBy plan n o) (sym h) ((tabled plan is).shared o t i)) can.own))
  taken_stands o (Take n) rest retires due t i h =
      let can = (subst (Runs plan g (StandsIn m)) due (sound.runs w g y.flying)).0 in
      let was = sound.board.left w g o y.flying retires in
      let shared = are_shared_by plan is k was.row o was.used in
      let there = can.there in
      let own = subst (λ z. IsOwnedBy plan z o) (sym (there.2 ∙ h)) ((tabled plan is).shared o t i) in
      let one = named_one (shared_things o) ((ordered plan is).shared_apart k was.row o was.used) there.0 t (sound.held o there.0 there.1 own shared).0 i (there.2 ∙ h) in
      subst (StandsIn m) one there.1

  pub held_stands : (c : Change) (rest : List Change) → x.group ≡ None → group_to_build plan names x.operation ≡ None → group_to_take x.operation ≡ None → f.due ≡ c ∷ rest → (t : Thing) → IsIn t (things_held plan f) → Disturbs c (name_of t) → StandsIn m t
  held_stands c rest none builds takes due t i h = by (in-either t (own_of plan k f.now) (things_retired f.retires) i)
    where
      retired : (o : Option Owner) → f.retires ≡ o → IsIn t (things_retired o) → StandsIn m t
      retired None e j = elim j [ ]
      retired (Some o) e j = taken_stands o c rest e (y.due ∙ row_due plan names x none builds takes ∙ due) t j h

      by : IsIn t (own_of plan k f.now) ⊎ IsIn t (things_retired f.retires) → StandsIn m t
      by (inl j) = y.standing t c j (subst (IsIn c) (sym due) (inl refl)) h
      by (inr j) = retired f.retires refl j

  -- ---- of a group

  module _ (part : GroupOperation) (has : x.group ≡ Some part) where
    z : IsGroupFlown plan names x.operation part
    z = y.group part has

    part_due : m.due w ≡ part.due ++ f.due
    part_due = y.due ∙ group_due plan names x part has

    first_change : (c : Change) × (rest : List Change) × (part.due ≡ c ∷ rest)
    first_change = by part.due refl
      where
        by : (cs : List Change) → part.due ≡ cs → (c : Change) × (rest : List Change) × (part.due ≡ c ∷ rest)
        by [] e = absurd (z.some e)
        by (c ∷ cs) e = (c, cs, e)

    going : part.builds ≡ false → g.retires ≡ Some (owner.Group part.hops)
    going goes = by z.is
      where
        by : ((part.builds ≡ true) × (group_to_build plan names x.operation ≡ Some part.hops)) ⊎ ((part.builds ≡ false) × (group_to_take x.operation ≡ Some part.hops)) → g.retires ≡ Some (owner.Group part.hops)
        by (inl h) = let e : true ≡ false = sym h.0 ∙ goes in absurd cc
        by (inr h) = taken_group f.retires part.hops h.1

    built : part.builds ≡ true → state_of names (name.Group part.hops) ≡ state.Building f.worker
    built builds = by z.is
      where
        by : ((part.builds ≡ true) × (group_to_build plan names x.operation ≡ Some part.hops)) ⊎ ((part.builds ≡ false) × (group_to_take x.operation ≡ Some part.hops)) → state_of names (name.Group part.hops) ≡ state.Building f.worker
        by (inl h) = (built_state names f.worker (group_in (uses_of plan f.key f.new)) part.hops h.1).1
        by (inr h) = let e : true ≡ false = sym builds ∙ h.0 in absurd cc

    going_touched : part.builds ≡ false → HasChangeOf plan (m.due w) (owner.Group part.hops)
    going_touched goes =
        let c = first_change in
        let i : IsIn c.0 (m.due w) = subst (IsIn c.0) (sym part_due) (in-left c.0 part.due f.due (subst (IsIn c.0) (sym c.2) (inl refl))) in
        (c.0, i, board.registers.retiring w g (owner.Group part.hops) c.0 y.flying (going goes) i)

    pub may_take_group : (made : Option Vid) → is_some made ≡ part.builds → MayTakeGroup part made names
    may_take_group made e = record {
      some = z.some;
      numbered = λ builds. e ∙ builds;
      unnumbered = λ goes. none made (e ∙ goes);
      builds = λ builds. (built builds ∙ ap state.Building (sym z.worker), subst (λ n. suc (length part.hops) ≤ n) (sym (board.placed (owner.Group part.hops) f.worker (built builds))) (omega arith));
      goes = λ goes. retiring_is plan is m sound (owner.Group part.hops) w g (state_of names (name.Group part.hops)) (shared_state (owner.Group part.hops) tt) y.flying (going_touched goes) (going goes) ∙ ap state.Retiring (sym y.worker ∙ sym z.worker);
    }
      where
        none : (v : Option Vid) → is_some v ≡ false → v ≡ None
        none None h = refl
        none (Some v) h = absurd cc

    pub group_stands : (c : Change) (rest : List Change) → part.due ≡ c ∷ rest → (t : Thing) → IsIn t (shared_things (owner.Group part.hops)) → Disturbs c (name_of t) → StandsIn m t
    group_stands c rest due t i h = by z.is
      where
        by : ((part.builds ≡ true) × (group_to_build plan names x.operation ≡ Some part.hops)) ⊎ ((part.builds ≡ false) × (group_to_take x.operation ≡ Some part.hops)) → StandsIn m t
        by (inr goes) = taken_stands (owner.Group part.hops) c (rest ++ f.due) (going goes.0) (part_due ∙ ap (λ l. l ++ f.due) due) t i h
        by (inl builds) =
            let all : first_group_due part.hops true ≡ z.rest.0 ++ c ∷ rest = ap (first_group_due part.hops) (sym builds.0) ∙ z.rest.1 ∙ ap (λ l. z.rest.0 ++ l) due in
            let made = made_in (shared_things (owner.Group part.hops)) c (subst (IsIn c) (sym all) (in-right c z.rest.0 (c ∷ rest) (inl refl))) in
            absurd (subst (λ d. Disturbs d (name_of t)) made.2 h)
