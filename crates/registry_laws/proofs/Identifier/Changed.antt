-- each object that stands has its identifier when a change of a row's operation has taken effect
use Rattle.std.proofs.Common.{◌≡◌, ◌⊎◌, ◌∙◌, inl, inr, ℕ, Bool, true, false, List, [], Option, None, Some, option_map, refl, sym, ap, subst}
use Rattle.std.proofs.lemmas.Bool.{false≢true}
use Rattle.std.proofs.lemmas.Option.{same_Some}
use Rattle.table_schema.specs.Plan.{IsPlan, Ports, port_named}
use Rattle.table_schema.specs.declared.key.Key.{Key}
use Rattle.table_schema.specs.declared.key.Key.TheVariants as key
use Rattle.swss_types.specs.declared.address.Ip.{Ip}
use Rattle.swss_types.specs.declared.vrf.Vrf.{Vrf}
use Rattle.swss_types.proofs.Proper.{mapped}
use Rattle.sai_types.specs.declared.weight.WHop.{WHop}
use Rattle.sai_types.specs.declared.ids.Rid.{Rid}
use Rattle.sai_types.specs.declared.ids.Vid.{Vid}
use Rattle.sai_types.specs.declared.thing.Thing.{Thing}
use Rattle.sai_types.specs.declared.thing.Thing.TheVariants as thing
use Rattle.sai_types.specs.Named.{first_lane}
use Rattle.sai_types.specs.Names as thing_name
use Rattle.sai_types.specs.Names.{ThingName, name_kind, name_of}
use Rattle.sai_types.specs.Objects.{Objects}
use Rattle.chip_layout.specs.Bodies.{is_numbered}
use Rattle.chip_layout.specs.Layout.{Has, IsLaidOut, Layout, has_number, listed, with_changed, with_thing, without}
use Rattle.row_layout.specs.Operations.{Make, Take}
use Rattle.row_layout.specs.Rows as owner
use Rattle.row_layout.specs.Rows.{Owner, interface_on}
use Rattle.switch_machine.specs.Consistent.{IsConsistent}
use Rattle.switch_machine.specs.Flights.{CanMake, CanTake, MachineFlight, IsFinal, IsOwnedBy, IsShared, Machine, StandsIn}
use Rattle.switch_machine.specs.Tables.{TableLaws}
use Rattle.switch_machine.proofs.Moving.{fit_of}
use Rattle.switch_machine.proofs.Running.{shared_row}
use Rattle.switch_machine.proofs.Splits.{own_row_in, use_row_in}
use Rattle.switch_machine.proofs.Tabled.{tabled}
use Rattle.ref_counts.specs.declared.name.Name as registry_name
use Rattle.ref_counts.specs.declared.name.NameState.TheVariants as state
use Rattle.ref_counts.specs.Registered.{first_of, made_live}
use Rattle.ref_counts.specs.Registry.{Names, changed, ids_in, ids_of, state_of}
use Rattle.orch_flight.specs.Calling.{HasVid}
use Rattle.orch_flight.specs.Needing.{name_for}
use Rattle.orch_flight.specs.Taking.{built_name, names_after_made, taken_names, to_list}
use Rattle.registry_laws.specs.Flown.{Flown}
use Rattle.registry_laws.proofs.Finding.{gone_off}
use Rattle.registry_laws.proofs.Listing.{not_some}
use Rattle.registry_laws.specs.Identified.{BuildsGroups, Identified, IsVidOf, KeepsTies, TiesAfter}
use Rattle.registry_laws.proofs.Identifier.Ids.{ids_off, ids_made}
use Rattle.registry_laws.proofs.Identifier.Known.{vid_one}
use Rattle.registry_laws.proofs.Identifier.Owning.{IsFirst, vid_by}
use Rattle.registry_laws.proofs.Identifier.Single.{no_own, one_name}
use Rattle.registry_laws.proofs.Identifier.Staying.{vid_kept}

-- ---- the name that becomes live when a thing is made

abbrev pub made_owner : Key → Thing → Option Owner
made_owner k (thing.BridgePort lane) = Some (owner.Bridge lane)
made_owner k (thing.Own v ip) = Some (owner.Own v ip)
made_owner k (thing.Neighbor hop mac) = None
made_owner k (thing.Route v prefix goal) = None
made_owner k (thing.Group hops) = None
made_owner k (thing.GroupMember hops hop) = None
made_owner k t = Some (owner.OfRow k)

built_is : (k : Key) (t : Thing) → built_name k t ≡ option_map name_for (made_owner k t)
built_is k (thing.BridgePort lane) = refl
built_is k _ = refl

-- the other names have the identifiers that they had
pub made_off : (names : Names) (k : Key) (t : Thing) (made : Option Vid) (o : Owner) → (made_owner k t ≡ Some o → ⊥) → ids_of (names_after_made names k t made) (name_for o) ≡ ids_of names (name_for o)
made_off names k (thing.BridgePort lane) made o other = ids_off names (owner.Bridge lane) (made_live (to_list made)) o (λ e. other (ap Some e))
made_off names k (thing.Own v ip) made o other = ids_off names (owner.Own v ip) (made_live []) o (λ e. other (ap Some e))
made_off names k (thing.Neighbor hop mac) made o other = refl
made_off names k (thing.Route v prefix goal) made o other = refl
made_off names k (thing.Group hops) made o other = refl
made_off names k (thing.GroupMember hops hop) made o other = refl
made_off names k _ made o other = ids_off names (owner.OfRow k) (made_live (to_list made)) o (λ e. other (ap Some e))

-- and its own has the one that was made
live_at : (names : Names) (p o : Owner) (ids : List Vid) → Some p ≡ Some o → (state_of names (name_for o) ≡ state.Absent → ⊥) → ids_of (changed names (name_for p) (made_live ids)) (name_for o) ≡ ids
live_at names p o ids e h = subst (λ z. ids_of (changed names (name_for z) (made_live ids)) (name_for o) ≡ ids) (sym (same_Some p o e)) (ids_made names o ids h)

made_at : (names : Names) (k : Key) (t : Thing) (made : Option Vid) (o : Owner) → made_owner k t ≡ Some o → (state_of names (name_for o) ≡ state.Absent → ⊥) → has_number t ≡ true → ids_of (names_after_made names k t made) (name_for o) ≡ to_list made
made_at names k (thing.BridgePort lane) made o e h numbered = live_at names (owner.Bridge lane) o (to_list made) e h
made_at names k (thing.Own v ip) made o e h numbered = absurd (false≢true numbered)
made_at names k (thing.Neighbor hop mac) made o e h numbered = not_some o e
made_at names k (thing.Route v prefix goal) made o e h numbered = not_some o e
made_at names k (thing.Group hops) made o e h numbered = not_some o e
made_at names k (thing.GroupMember hops hop) made o e h numbered = not_some o e
made_at names k _ made o e h numbered = live_at names (owner.OfRow k) o (to_list made) e h

made_numbered : (k : Key) (t : Thing) (o : Owner) → made_owner k t ≡ Some o → (has_number t ≡ true) ⊎ ((v : Vrf) × (ip : Ip) × (o ≡ owner.Own v ip))
made_numbered k (thing.Own v ip) o e = inr (v, ip, sym (same_Some (owner.Own v ip) o e))
made_numbered k (thing.Neighbor hop mac) o e = not_some o e
made_numbered k (thing.Route v prefix goal) o e = not_some o e
made_numbered k _ o e = inl refl

module _ (plan : Ports) where
  -- it belongs to no group
  abbrev IsAlone : ThingName → Type 0
  IsAlone n = (hops : List WHop) → IsOwnedBy plan n (owner.Group hops) → ⊥

  first_alone : (n : ThingName) → IsAlone n → IsFirst n
  first_alone (thing_name.GroupMember hops hop) alone = alone hops refl
  first_alone _ alone = tt

  of_row : (k : Key) (o : Owner) {X : Type 0} (x : Option X) (g : X → Key) → (o ≡ owner.OfRow k) ⊎ IsShared o → option_map (λ z. owner.OfRow (g z)) x ≡ Some o → Some (owner.OfRow k) ≡ Some o
  of_row k o x g (inl e) h = ap Some (sym e)
  of_row k o x g (inr shared) h = let m = mapped (λ z. owner.OfRow (g z)) x o h in absurd (shared_row o (g m.0) shared (sym m.2))

  made_some : (k : Key) (t : Thing) (o : Owner) → IsOwnedBy plan (name_of t) o → (o ≡ owner.OfRow k) ⊎ IsShared o → has_number t ≡ true → IsAlone (name_of t) → made_owner k t ≡ Some o
  made_some k (thing.Port p) o of whose numbered alone = of_row k o (port_named plan (first_lane p.lanes)) key.Port whose of
  made_some k (thing.Vlan vlan) o of whose numbered alone = of_row k o (Some vlan) key.Vlan whose of
  made_some k (thing.VirtualRouter label) o of whose numbered alone = of_row k o (Some label) key.Vrf whose of
  made_some k (thing.BridgePort lane) o of whose numbered alone = of
  made_some k (thing.VlanMember vlan lane tagging) o of whose numbered alone = of_row k o (port_named plan lane) (key.Member vlan) whose of
  made_some k (thing.Rif b v) o of whose numbered alone = of_row k o (interface_on plan b) key.Intf whose of
  made_some k (thing.NextHop hop) o of whose numbered alone = of_row k o (interface_on plan hop.on) (λ i. key.Neigh i hop.ip) whose of
  made_some k (thing.Group hops) o of whose numbered alone = absurd (alone hops refl)
  made_some k (thing.GroupMember hops hop) o of whose numbered alone = absurd (alone hops refl)
  made_some k _ o of whose numbered alone = absurd (false≢true numbered)

  unnumbered_vid : (names : Names) (n : ThingName) (v : Vid) → is_numbered (name_kind n) ≡ false → HasVid plan names n v → ⊥
  unnumbered_vid names (thing_name.Own w ip) v h x = not_some v x
  unnumbered_vid names (thing_name.Neighbor hop) v h x = not_some v x
  unnumbered_vid names (thing_name.Route w prefix) v h x = not_some v x
  unnumbered_vid names _ v h x = absurd (false≢true (sym h))

module _ (plan : Ports) (is : IsPlan plan) (m : Machine) (sound : IsConsistent plan m) (objects : Objects) (laid : IsLaidOut (listed m.stands) objects) (names : Names) (rid rid' : Vid → Option Rid) (flown : ℕ → Option Flown) (known : Identified plan names rid flown m.stands) where
  abbrev L : Layout Rid
  L = listed m.stands

  T : TableLaws plan
  T = tabled plan is

  -- a thing has an identifier that is tied to its object
  abbrev pub HasTied : Names → ThingName → Rid → Type 0
  HasTied names' n i = (v : Vid) × IsVidOf plan names' flown n v × (rid' v ≡ Some i)

  pub tied_kept : (names' : Names) (i : Rid) (t : Thing) → L i t → has_number t ≡ true → ((o : Owner) → IsOwnedBy plan (name_of t) o → ids_of names' (name_for o) ≡ ids_of names (name_for o)) → ((v : Vid) → IsVidOf plan names flown (name_of t) v → rid v ≡ Some i → rid' v ≡ Some i) → HasTied names' (name_of t) i
  tied_kept names' i t h numbered same tie =
      let x = known.each i t h numbered in
      (x.0, vid_kept plan names names' flown flown (λ w g at builds. at) (name_of t) x.0 same x.1, tie x.0 x.1 x.2)

  -- ---- a thing is made

  module _ (w : ℕ) (f : MachineFlight) (flying : m.board.flights w ≡ Some f) (t : Thing) (can : CanMake plan f (StandsIn m) t) (made : Option Vid) (i : Rid) (alone : IsAlone plan (name_of t)) (builds : (n : registry_name.Name) → built_name f.key t ≡ Some n → state_of names n ≡ state.Absent → ⊥) (ties : TiesAfter plan names rid rid' (Make t) made i) where
    abbrev later : Names
    later = names_after_made names f.key t made

    its_owner : (o : Owner) × IsOwnedBy plan (name_of t) o × ((o ≡ owner.OfRow f.key) ⊎ IsShared o)
    its_owner = by can.final
      where
        by : IsFinal plan f t → (o : Owner) × IsOwnedBy plan (name_of t) o × ((o ≡ owner.OfRow f.key) ⊎ IsShared o)
        by (inl h) = let r = own_row_in plan f.key f.new t h in (owner.OfRow f.key, T.own f.key r.0 t (fit_of plan T m sound w f flying r.0 r.1) r.2, inl refl)
        by (inr (o, used, h)) = let r = use_row_in plan f.key f.new o used in (o, T.shared o t h, inr (T.are_shared f.key r.0 o r.2))

    -- what has an identifier keeps it
    off : (j : Rid) (u : Thing) → L j u → has_number u ≡ true → (o : Owner) → IsOwnedBy plan (name_of u) o → made_owner f.key t ≡ Some o → ⊥
    off j u h numbered o of e = by (made_numbered f.key t o e)
      where
        same : (has_number t ≡ true) → its_owner.0 ≡ o
        same number = same_Some its_owner.0 o (sym (made_some plan f.key t its_owner.0 its_owner.1 its_owner.2 number alone) ∙ e)

        by : (has_number t ≡ true) ⊎ ((v : Vrf) × (ip : Ip) × (o ≡ owner.Own v ip)) → ⊥
        by (inr (v, ip, own)) = no_own plan is (name_of u) o v ip own numbered of
        by (inl number) = can.fresh u (j, h) (one_name plan is (name_of u) (name_of t) o numbered number (λ hops e. alone hops (subst (IsOwnedBy plan (name_of t)) (same number ∙ e) its_owner.1)) of (subst (IsOwnedBy plan (name_of t)) (same number) its_owner.1))

    new_tied : has_number t ≡ true → HasTied later (name_of t) i
    new_tied numbered =
        let x = ties.1 numbered in
        let e = made_some plan f.key t its_owner.0 its_owner.1 its_owner.2 numbered alone in
        let b = builds (name_for its_owner.0) (built_is f.key t ∙ ap (option_map name_for) e) in
        let ids = made_at names f.key t made its_owner.0 e b numbered in
        (x.0, inl (vid_by plan later (name_of t) its_owner.0 numbered (first_alone plan (name_of t) alone) its_owner.1 ∙ ap first_of (ids ∙ ap to_list x.1)), x.2)

    pub make_tied : (j : Rid) (u : Thing) → with_thing L i t j u → has_number u ≡ true → HasTied later (name_of u) j
    make_tied j u (inl h) numbered = tied_kept later j u h numbered (λ o of. made_off names f.key t made o (off j u h numbered o of)) (λ v x tie. ties.0 v j tie)
    make_tied j u (inr (ids, same)) numbered = subst (λ z. HasTied later (name_of u) z) (sym ids) (subst (λ z. HasTied later (name_of z) i) (sym same) (new_tied (subst (λ z. has_number z ≡ true) same numbered)))

  -- ---- an attribute is set

  pub set_tied : (u : Thing) (i : Rid) → Has L (name_of u) i → KeepsTies rid rid' → (j : Rid) (x : Thing) → with_changed L i u j x → has_number x ≡ true → HasTied names (name_of x) j
  set_tied u i has ties j x (inl (h, other)) numbered = tied_kept names j x h numbered (λ o of. refl) (λ v y tie. ties v j tie)
  set_tied u i (old, h, named) ties j x (inr (ids, same)) numbered =
      let number : has_number old ≡ true = ap (λ z. is_numbered (name_kind z)) (named ∙ ap name_of (sym same)) ∙ numbered in
      subst (λ z. HasTied names (name_of x) z) (sym ids) (subst (λ z. HasTied names z i) (named ∙ ap name_of (sym same)) (tied_kept names i old h number (λ o of. refl) (λ v y tie. ties v i tie)))

  -- ---- a thing is taken away

  module _ (builds : BuildsGroups names flown) (f : MachineFlight) (n : ThingName) (can : CanTake plan f (StandsIn m) n) where
    -- what is taken away has an identifier of its own
    pub other_vid : (j : Rid) (u : Thing) → L j u → has_number u ≡ true → (name_of u ≡ n → ⊥) → (v : Vid) → rid v ≡ Some j → HasVid plan names n v → ⊥
    other_vid j u h numbered other v tie has = by (is_numbered (name_kind n)) refl can.there
      where
        by : (b : Bool) → is_numbered (name_kind n) ≡ b → (x : Thing) × StandsIn m x × (name_of x ≡ n) → ⊥
        by false e there = unnumbered_vid plan names n v e has
        by true e (x, (i, at), same) =
            let number : has_number x ≡ true = ap (λ z. is_numbered (name_kind z)) same ∙ e in
            let y = known.each i x at number in
            let vids = vid_one plan names flown builds n v y.0 has (subst (λ z. IsVidOf plan names flown z y.0) same y.1) in
            let ids : i ≡ j = same_Some i j (sym y.2 ∙ sym (ap rid vids) ∙ tie) in
            other (ap name_of (laid.ids j u x h (subst (λ z. L z x) ids at) numbered number) ∙ same)

    taken_off : (u : Thing) → has_number u ≡ true → (name_of u ≡ n → ⊥) → (o : Owner) → IsOwnedBy plan (name_of u) o → ids_of (taken_names names n) (name_for o) ≡ ids_of names (name_for o)
    taken_off u numbered other o of = by n other
      where
        by : (l : ThingName) → (name_of u ≡ l → ⊥) → ids_of (taken_names names l) (name_for o) ≡ ids_of names (name_for o)
        by (thing_name.BridgePort lane) apart = ap ids_in (gone_off names (owner.Bridge lane) o (λ e. apart (one_name plan is (name_of u) (thing_name.BridgePort lane) o numbered refl (λ hops x. no_group lane hops (e ∙ x)) of (ap Some e))))
          where
            no_group : (lane : ℕ) (hops : List WHop) → owner.Bridge lane ≡ owner.Group hops → ⊥
            no_group lane hops h = cc
        by (thing_name.Own v ip) apart = ap ids_in (gone_off names (owner.Own v ip) o (λ e. no_own plan is (name_of u) o v ip (sym e) numbered of))
        by _ apart = refl

    pub take_tied : TiesAfter plan names rid rid' (Take n) None (record { 0 = 0 }) → (j : Rid) (u : Thing) → without L n j u → has_number u ≡ true → HasTied (taken_names names n) (name_of u) j
    take_tied ties j u (h, other) numbered = tied_kept (taken_names names n) j u h numbered (taken_off u numbered other) (λ v x tie. ties v j (other_vid j u h numbered other v tie) tie)
