-- the registry has the identifiers that the change which is due next needs
use Rattle.std.proofs.Common.{◌≡◌, ◌⊎◌, ◌∷◌, ◌∙◌, inl, inr, ℕ, true, List, [], map, Option, Some, is_some, option_map, refl, sym, ap, subst}
use Rattle.std.proofs.lemmas.Option.{same_Some}
use Rattle.table_schema.specs.Names.{router_names}
use Rattle.table_schema.specs.Plan.{IsPlan, Ports, port_named}
use Rattle.table_schema.specs.declared.key.Key.{Key}
use Rattle.table_schema.specs.declared.key.Key.TheVariants as key
use Rattle.swss_types.specs.declared.interface.IfName.{IfName}
use Rattle.swss_types.specs.declared.vrf.Vrf.{Vrf}
use Rattle.swss_types.specs.declared.vrf.Vrf.TheVariants as vrf
use Rattle.swss_types.specs.declared.vrf.VrfName.{VrfName}
use Rattle.swss_types.proofs.Proper.{mapped}
use Rattle.sai_types.specs.declared.hop.Hop.{Hop}
use Rattle.sai_types.specs.declared.weight.WHop.{WHop}
use Rattle.sai_types.specs.declared.ids.Rid.{Rid}
use Rattle.sai_types.specs.declared.ids.Vid.{Vid}
use Rattle.sai_types.specs.declared.thing.Goal.{Goal}
use Rattle.sai_types.specs.declared.thing.Thing.{Thing}
use Rattle.sai_types.specs.declared.thing.Thing.TheVariants as thing
use Rattle.sai_types.specs.Alike.{IsIn}
use Rattle.sai_types.specs.Names as thing_name
use Rattle.sai_types.specs.Names.{ThingName, name_kind, name_of}
use Rattle.chip_layout.specs.Bodies.{IsAt, is_numbered}
use Rattle.sai_types.specs.Objects.{Objects}
use Rattle.chip_layout.specs.Layout.{Has, IsLaidOut, listed}
use Rattle.switch_model.specs.Placed as row
use Rattle.switch_model.specs.Placed.{Placed as Row}
use Rattle.row_layout.specs.Operations.{Change, Make, Set, Take, uses_of}
use Rattle.row_layout.specs.Rows as owner
use Rattle.row_layout.specs.Rows.{Owner, goal_of, interface_on, own_things}
use Rattle.row_layout.specs.Shared.{shared_things}
use Rattle.row_layout.proofs.Members.{from_in}
use Rattle.switch_machine.specs.Changes.{IsSamePort, Resembles}
use Rattle.switch_machine.specs.Flights.{Can, CanMake, MachineFlight, Goes, HasName, IsFinal, IsOwnedBy, IsShared, Machine, Runs, StandsIn}
use Rattle.switch_machine.specs.Consistent.{IsConsistent}
use Rattle.switch_machine.specs.Tables.{TableLaws}
use Rattle.switch_machine.proofs.Moving.{fit_of}
use Rattle.switch_machine.proofs.Running.{row_keys, settable_name, shared_row}
use Rattle.switch_machine.proofs.Splits.{own_row_in, use_row_in}
use Rattle.switch_machine.proofs.Tabled.{tabled}
use Rattle.ref_counts.specs.declared.name.Name.TheVariants as name
use Rattle.ref_counts.specs.declared.name.NameState.TheVariants as state
use Rattle.ref_counts.specs.Registry.{Names}
use Rattle.orch_flight.specs.Calling.{HasVid, HaveIds, entered, ids_needed, pointed, referred, set_refers}
use Rattle.orch_flight.specs.Grouping.{GroupOperation, HasGroupVid}
use Rattle.orch_flight.specs.Needing.{name_for}
use Rattle.registry_laws.specs.Answering.{IsOfGroup}
use Rattle.registry_laws.specs.Flown.{Flown}
use Rattle.registry_laws.specs.Known.{SharedStands}
use Rattle.registry_laws.specs.Registers.{KnowsNames}
use Rattle.registry_laws.specs.Identified.{BuildsGroups, Identified, IsUnderWay, IsVidOf}
use Rattle.registry_laws.proofs.Identifier.Needing.{IsKnown, RowsKnown, SharedKnown, both_known, entered_by, entered_other, pointed_known, referred_known, shared_referred}
use Rattle.registry_laws.proofs.Identifier.Owning.{IsFirst, vid_by}
use Rattle.registry_laws.proofs.Identifier.Telling.{neighbor_first, router_in, router_second}

-- an identifier of what is of no group that is built is the registry's
free_built : (plan : Ports) (names : Names) (g : GroupOperation) (n : ThingName) (v : Vid) (o : Owner) → IsFirst n → IsOwnedBy plan n o → (o ≡ owner.Group g.hops → ⊥) → HasGroupVid plan names g n v → HasVid plan names n v
free_built plan names g (thing_name.Group hops) v o first of free x = absurd (free (sym (same_Some (owner.Group hops) o of) ∙ ap owner.Group x.0))
free_built plan names g (thing_name.GroupMember hops hop) v o first of free x = elim first [ ]
free_built plan names g _ v o first of free x = x

module _ (plan : Ports) (is : IsPlan plan) (m : Machine) (sound : IsConsistent plan m) (names : Names) (rid : Vid → Option Rid) (flown : ℕ → Option Flown) (known : Identified plan names rid flown m.stands) where
  T : TableLaws plan
  T = tabled plan is

  -- no operation builds it
  abbrev pub IsBuiltByNone : Owner → Type 0
  IsBuiltByNone o = (v : ℕ) (g : GroupOperation) → IsUnderWay flown v g → g.builds ≡ true → o ≡ owner.Group g.hops → ⊥

  pub standing_vid : (n : ThingName) (o : Owner) → is_numbered (name_kind n) ≡ true → IsFirst n → IsOwnedBy plan n o → IsBuiltByNone o → HasName (StandsIn m) n → (v : Vid) × HasVid plan names n v
  standing_vid n o numbered first of free (u, (i, h), same) =
      let x = known.each i u h (ap (λ z. is_numbered (name_kind z)) same ∙ numbered) in
      (x.0, by x.0 (subst (λ z. IsVidOf plan names flown z x.0) same x.1))
    where
      by : (v : Vid) → IsVidOf plan names flown n v → HasVid plan names n v
      by v (inl x) = x
      by v (inr x) = free_built plan names x.group n v o first of (free x.worker x.group x.under_way x.builds) x.of

  pub stands_known : (n : ThingName) (o : Owner) → is_numbered (name_kind n) ≡ true → IsFirst n → IsOwnedBy plan n o → IsBuiltByNone o → HasName (StandsIn m) n → IsKnown names (name_for o)
  stands_known n o numbered first of free there =
      let x = standing_vid n o numbered first of free there in
      ap is_some (sym (vid_by plan names n o numbered first of) ∙ x.1)

  pub row_built_by_none : (k : Key) → IsBuiltByNone (owner.OfRow k)
  row_built_by_none k v g at builds e = cc

  -- by what a thing of this name is named beside itself stands: a neighbour's interface, and the virtual router of what is in one
  record IsNear (n : ThingName) : Type 0 where
    rif : (hop : Hop) → n ≡ thing_name.Neighbor hop → HasName (StandsIn m) (thing_name.Rif hop.on)
    router : (label : VrfName) → router_in n ≡ vrf.Named label → HasName (StandsIn m) (thing_name.VirtualRouter label)

  -- the router of a route that stands
  router_known : (v : Vrf) → ((label : VrfName) → v ≡ vrf.Named label → HasName (StandsIn m) (thing_name.VirtualRouter label)) → HaveIds names (map name.Row (router_names v))
  router_known vrf.Default there = tt
  router_known (vrf.Named label) there = (stands_known (thing_name.VirtualRouter label) (owner.OfRow (key.Vrf label)) refl tt refl (row_built_by_none (key.Vrf label)) (there label refl), tt)

  module _ (w : ℕ) (f : MachineFlight) (flying : m.board.flights w ≡ Some f) where
    rows_known : (r : Row) → f.new ≡ Some r → RowsKnown plan names f.key r
    rows_known r new p n i own numbered first = stands_known n (owner.OfRow p) numbered first (T.names_own p n own) (row_built_by_none p) (sound.present p n (sound.board.named f.key p r (inr (w, f, flying, refl, new)) i) own)

    module _ (free : (o : Owner) → IsIn o (uses_of plan f.key f.new) → IsBuiltByNone o) where
      shared_known : (r : Row) → f.new ≡ Some r → ((o : Owner) (x : Thing) → IsIn o (uses_of plan f.key f.new) → IsIn x (shared_things o) → StandsIn m x) → SharedKnown plan names f.key r
      shared_known r new whole o x i in_it numbered first =
          let used = subst (λ z. IsIn o (uses_of plan f.key z)) (sym new) i in
          stands_known (name_of x) o numbered first (T.shared o x in_it) (free o used) (x, whole o x used in_it, refl)

      make_known : (t : Thing) → CanMake plan f (StandsIn m) t → HaveIds names (referred f.key f.new t)
      make_known t can = by can.final
        where
          by : IsFinal plan f t → HaveIds names (referred f.key f.new t)
          by (inl h) =
              let r = own_row_in plan f.key f.new t h in
              subst (λ z. HaveIds names (referred f.key z t)) (sym r.1) (referred_known plan names f.key r.0 t (fit_of plan T m sound w f flying r.0 r.1) r.2 (rows_known r.0 r.1) (shared_known r.0 r.1 (can.whole h)))
          by (inr (o, used, h)) =
              let r = use_row_in plan f.key f.new o used in
              subst (λ z. HaveIds names (referred f.key z t)) (sym r.1) (shared_referred plan names f.key r.0 o t r.2 h (fit_of plan T m sound w f flying r.0 r.1) (rows_known r.0 r.1))

      -- ---- an attribute is set, and a thing is taken away

      -- an own thing's name, or one of what is shared but for a group
      row_entered : (k : Key) (n : ThingName) (o : Owner) → is_numbered (name_kind n) ≡ true → IsFirst n → IsOwnedBy plan n o → (p : Key) × (owner.OfRow p ≡ o) → (o ≡ owner.OfRow k) ⊎ IsShared o → HasName (StandsIn m) n → HaveIds names (name.Row k ∷ [])
      row_entered k n o numbered first of row (inl same) there = (stands_known n (owner.OfRow k) numbered first (of ∙ ap Some same) (row_built_by_none k) there, tt)
      row_entered k n o numbered first of row (inr shared) there = absurd (shared_row o row.0 shared (sym row.1))

      as_is : (k : Key) (n : ThingName) → ((hop : Hop) → n ≡ thing_name.Neighbor hop → ⊥) → HaveIds names (entered_by k n) → HaveIds names (entered k n)
      as_is k n other h = subst (HaveIds names) (sym (entered_other k n other)) h

      of_row : {X : Type 0} (o : Owner) (x : Option X) (g : X → Key) → option_map (λ z. owner.OfRow (g z)) x ≡ Some o → (p : Key) × (owner.OfRow p ≡ o)
      of_row o x g h = let y = mapped (λ z. owner.OfRow (g z)) x o h in (g y.0, y.2)

      entered_known : (k : Key) (n : ThingName) (o : Owner) → IsOwnedBy plan n o → (o ≡ owner.OfRow k) ⊎ IsShared o → ((hops : List WHop) → o ≡ owner.Group hops → ⊥) → HasName (StandsIn m) n → IsNear n → HaveIds names (entered k n)
      entered_known k (thing_name.Neighbor hop) o of whose alone there near =
          let x = mapped (λ i. owner.OfRow (key.Neigh i hop.ip)) (interface_on plan hop.on) o of in
          by x.0 x.1 x.2 whose
        where
          by : (i : IfName) → interface_on plan hop.on ≡ Some i → owner.OfRow (key.Neigh i hop.ip) ≡ o → (o ≡ owner.OfRow k) ⊎ IsShared o → HaveIds names (entered k (thing_name.Neighbor hop))
          by i at e (inl same) = subst (λ z. HaveIds names (entered z (thing_name.Neighbor hop))) (row_keys (key.Neigh i hop.ip) k (e ∙ same)) (stands_known (thing_name.Rif hop.on) (owner.OfRow (key.Intf i)) refl tt (ap (option_map (λ j. owner.OfRow (key.Intf j))) at) (row_built_by_none (key.Intf i)) (near.rif hop refl), tt)
          by i at e (inr shared) = absurd (shared_row o (key.Neigh i hop.ip) shared (sym e))
      entered_known k (thing_name.Port lane) o of whose alone there near = as_is k (thing_name.Port lane) (λ hop e. cc) (row_entered k (thing_name.Port lane) o refl tt of (of_row o (port_named plan lane) key.Port of) whose there)
      entered_known k (thing_name.Vlan vlan) o of whose alone there near = as_is k (thing_name.Vlan vlan) (λ hop e. cc) (row_entered k (thing_name.Vlan vlan) o refl tt of (key.Vlan vlan, same_Some _ o of) whose there)
      entered_known k (thing_name.VirtualRouter label) o of whose alone there near = as_is k (thing_name.VirtualRouter label) (λ hop e. cc) (row_entered k (thing_name.VirtualRouter label) o refl tt of (key.Vrf label, same_Some _ o of) whose there)
      entered_known k (thing_name.BridgePort lane) o of whose alone there near = as_is k (thing_name.BridgePort lane) (λ hop e. cc) (stands_known (thing_name.BridgePort lane) (owner.Bridge lane) refl tt refl (λ v g at builds e. cc) there, tt)
      entered_known k (thing_name.VlanMember vlan lane) o of whose alone there near = as_is k (thing_name.VlanMember vlan lane) (λ hop e. cc) (row_entered k (thing_name.VlanMember vlan lane) o refl tt of (of_row o (port_named plan lane) (key.Member vlan) of) whose there)
      entered_known k (thing_name.Rif b) o of whose alone there near = as_is k (thing_name.Rif b) (λ hop e. cc) (row_entered k (thing_name.Rif b) o refl tt of (of_row o (interface_on plan b) key.Intf of) whose there)
      entered_known k (thing_name.NextHop hop) o of whose alone there near = as_is k (thing_name.NextHop hop) (λ hop e. cc) (row_entered k (thing_name.NextHop hop) o refl tt of (of_row o (interface_on plan hop.on) (λ i. key.Neigh i hop.ip) of) whose there)
      entered_known k (thing_name.Group hops) o of whose alone there near = absurd (alone hops (sym (same_Some (owner.Group hops) o of)))
      entered_known k (thing_name.GroupMember hops hop) o of whose alone there near = absurd (alone hops (sym (same_Some (owner.Group hops) o of)))
      entered_known k (thing_name.Own v ip) o of whose alone there near = as_is k (thing_name.Own v ip) (λ hop e. cc) (router_known v near.router)
      entered_known k (thing_name.Route v prefix) o of whose alone there near = as_is k (thing_name.Route v prefix) (λ hop e. cc) (router_known v near.router)

      -- what points at something else points at what the new row names or shares
      set_known : (k : Key) (r : Row) (u like : Thing) → IsIn like (own_things plan k r) → Resembles u like → RowsKnown plan names k r → SharedKnown plan names k r → HaveIds names (set_refers k (Some r) u)
      set_known (key.Route v prefix) (row.Route r) (thing.Route w p g) like own resembles rows shared =
          let m = from_in (goal_of plan r) _ like own in
          by m.0 m.1 m.2 resembles.same
        where
          by : (h : Goal) → goal_of plan r ≡ Some h → IsIn like (thing.Route v prefix h ∷ []) → (thing.Route w p g ≡ like) ⊎ IsSamePort (thing.Route w p g) like → HaveIds names (pointed (Some (row.Route r)) g)
          by h at (inl is) (inl same) =
              let goals : h ≡ g = cc in
              subst (λ z. HaveIds names (pointed (Some (row.Route r)) z)) goals (pointed_known plan names v prefix r h at rows shared)
          by h at (inr x) same = elim x [ ]
          by h at i (inr x) = elim x [ ]
      set_known (key.Route v prefix) (row.Route r) _ like own resembles rows shared = tt
      set_known (key.Route v prefix) r u like own resembles rows shared = elim own [ ]
      set_known k r u like own resembles rows shared = tt

    -- ---- the change that is due next

    module _ (objects : Objects) (laid : IsLaidOut (listed m.stands) objects) (free : (o : Owner) → IsIn o (uses_of plan f.key f.new) → IsBuiltByNone o) where
      -- the interface of a neighbour that stands
      rif_there : (n : ThingName) → HasName (StandsIn m) n → (hop : Hop) → n ≡ thing_name.Neighbor hop → HasName (StandsIn m) (thing_name.Rif hop.on)
      rif_there n (u, (i, h), same) hop e =
          let b = laid.stand i u h in
          let on : Has (listed m.stands) (thing_name.Rif hop.on) b.1.first = subst (λ o. IsAt (Has (listed m.stands)) o b.1.first) (neighbor_first u hop (same ∙ e)) b.1.first_at in
          (on.0, (b.1.first, on.1), on.2)

      -- and the virtual router of what is in one
      router_there : (n : ThingName) → HasName (StandsIn m) n → (label : VrfName) → router_in n ≡ vrf.Named label → HasName (StandsIn m) (thing_name.VirtualRouter label)
      router_there n (u, (i, h), same) label e =
          let b = laid.stand i u h in
          let router : Has (listed m.stands) (thing_name.VirtualRouter label) b.1.second = subst (λ o. IsAt (Has (listed m.stands)) o b.1.second) (router_second u label (ap router_in same ∙ e)) b.1.second_at in
          (router.0, (b.1.second, router.1), router.2)

      near_there : (n : ThingName) → HasName (StandsIn m) n → IsNear n
      near_there n there = record { rif = rif_there n there; router = router_there n there }

      change_known : (c : Change) → Can plan f (StandsIn m) c → (IsOfGroup plan c → ⊥) → HaveIds names (ids_needed f.key f.new c)
      change_known (Make t) can alone = make_known free t can
      change_known (Set u) can alone =
          let r = own_row_in plan f.key f.new can.like can.final in
          let there : HasName (StandsIn m) (name_of u) = (can.old, can.stands, sym (settable_name can.old u can.settable)) in
          both_known names (entered f.key (name_of u)) (set_refers f.key f.new u)
          (entered_known free f.key (name_of u) (owner.OfRow f.key) can.own (inl refl) (λ hops e. cc) there (near_there (name_of u) there))
          (subst (λ z. HaveIds names (set_refers f.key z u)) (sym r.1) (set_known free f.key r.0 u can.like r.2 can.resembles (rows_known r.0 r.1) (shared_known free r.0 r.1 can.whole)))
      change_known (Take n) can alone = by can.goes
        where
          by : Goes plan f n → HaveIds names (entered f.key n)
          by (inl (of, none)) = entered_known free f.key n (owner.OfRow f.key) of (inl refl) (λ hops e. cc) can.there (near_there n can.there)
          by (inr (o, of, retires)) =
              let was = sound.board.left w f o flying retires in
              entered_known free f.key n o of (inr (T.are_shared f.key was.row o was.used)) (λ hops e. alone (hops, of ∙ ap Some e)) can.there (near_there n can.there)

  -- no other operation builds what its new row shares
  free_of : (w : ℕ) (f : MachineFlight) → m.board.flights w ≡ Some f → KnowsNames plan names m → BuildsGroups names flown → ((g : GroupOperation) → IsUnderWay flown w g → g.builds ≡ true → ⊥) → (o : Owner) → IsIn o (uses_of plan f.key f.new) → IsBuiltByNone o
  free_of w f flying stages builds none o used v g at b e = by (subst (SharedStands plan m (owner.Group g.hops)) (builds.building v g at b) (stages.shared (owner.Group g.hops) tt).stands)
    where
      by : SharedStands plan m (owner.Group g.hops) (state.Building v) → ⊥
      by (other, flies, has, _) =
          let keys = sound.quiet v other f.key (owner.Group g.hops) flies has (inl (w, f, flying, refl, inl (subst (λ z. IsIn z (uses_of plan f.key f.new)) e used))) in
          let workers = sound.board.one w v f other flying flies keys in
          none g (subst (λ z. IsUnderWay flown z g) (sym workers) at) b

  pub row_known : (objects : Objects) → IsLaidOut (listed m.stands) objects → KnowsNames plan names m → BuildsGroups names flown → (w : ℕ) (f : MachineFlight) → m.board.flights w ≡ Some f → ((g : GroupOperation) → IsUnderWay flown w g → g.builds ≡ true → ⊥) → (c : Change) (cs : List Change) → m.due w ≡ c ∷ cs → (IsOfGroup plan c → ⊥) → HaveIds names (ids_needed f.key f.new c)
  row_known objects laid stages builds w f flying none c cs due alone = change_known w f flying objects laid (free_of w f flying stages builds none) c (subst (Runs plan f (StandsIn m)) due (sound.runs w f flying)).0 alone
