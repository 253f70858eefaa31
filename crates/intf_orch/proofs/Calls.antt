-- the call that is due of an operation of INTF_TABLE
use Rattle.std.proofs.Common.{◌≡◌, inl, inr, ℕ, Bool, true, false, [], ◌∷◌, ◌++◌, map, Option, Some, None, option_map, refl, sym, ap, ap₂, subst, ◌∙◌}
use Rattle.std.proofs.lemmas.Bool.{false≢true}
use Rattle.swss_types.specs.declared.address.Ip.{Ip}
use Rattle.swss_types.specs.declared.interface.IfName.{IfName}
use Rattle.swss_types.specs.declared.interface.IfName.TheVariants as on
use Rattle.swss_types.specs.declared.vrf.Vrf.{Vrf}
use Rattle.swss_types.specs.declared.vrf.Vrf.TheVariants as vrf
use Rattle.swss_types.proofs.Proper.{mapped}
use Rattle.table_schema.specs.Names.{intf_names, router_names}
use Rattle.table_schema.specs.Plan.{IsPlan, Ports}
use Rattle.table_schema.specs.declared.key.Key.TheVariants as key
use Rattle.sai_types.specs.Alike.{IsIn}
use Rattle.sai_types.specs.Names as thing_name
use Rattle.sai_types.specs.Names.{name_of}
use Rattle.sai_types.specs.declared.ids.Vid.{Vid}
use Rattle.sai_types.specs.declared.hop.Base.{Base}
use Rattle.sai_types.specs.declared.hop.Base.TheVariants as base
use Rattle.sai_types.specs.declared.body.Body.TheVariants as body
use Rattle.sai_types.specs.declared.body.Call.TheVariants as call
use Rattle.sai_types.specs.declared.body.Entry.TheVariants as entry
use Rattle.sai_types.specs.declared.body.RifOn.TheVariants as rif_on
use Rattle.sai_types.specs.declared.thing.Thing.{Thing}
use Rattle.sai_types.specs.declared.thing.Thing.TheVariants as thing
use Rattle.switch_model.specs.Placed as row
use Rattle.switch_model.specs.Things.{base_of, lane_of}
use Rattle.chip_layout.specs.Bodies.{IsAt, on_with, router_name, vr_with}
use Rattle.row_layout.specs.Operations.{Make, Take}
use Rattle.row_layout.specs.Rows.{from}
use Rattle.row_layout.proofs.Owners.{interface_by, port_by}
use Rattle.ref_counts.specs.declared.name.Name.TheVariants as name
use Rattle.ref_counts.specs.declared.next.Next.{Next}
use Rattle.ref_counts.specs.declared.next.Next.TheVariants as next
use Rattle.ref_counts.specs.Registered.{first_of}
use Rattle.ref_counts.specs.Registry.{Names, ids_of}
use Rattle.switch_machine.specs.Flights.{own_of}
use Rattle.orch_flight.specs.Calling.{HasVid, HaveIds, IsChangeFor, IsEnteredBy, IsEntryOf, IsNextOf, IsOver, KnowsIds, router_vid, row_vid, things_held}
use Rattle.orch_flight.specs.Operation.{Operation}
use Rattle.orch_flight.proofs.RouterIds.{router_at}
use Rattle.intf_orch.specs.Interfaces.{IsMadeOn, IsRifNext, KnowsRif, intf_operation, own_next, row_where}
use Rattle.intf_orch.specs.declared.stage.OwnStage.{OwnStage}
use Rattle.intf_orch.specs.declared.stage.OwnStage.TheVariants as own
use Rattle.intf_orch.specs.declared.stage.RifStage.{RifStage}
use Rattle.intf_orch.specs.declared.stage.RifStage.TheVariants as rif
use Rattle.intf_orch.specs.declared.stage.Subject.{Subject}
use Rattle.intf_orch.specs.declared.stage.Subject.TheVariants as subject

-- an operation, from what its subject is known to be
pub intf_operation_told : (f : Operation) (worker : ℕ) (applied wanted : Bool) (s s' : Subject) → intf_operation worker applied wanted s ≡ f → s ≡ s' → f ≡ intf_operation worker applied wanted s'
intf_operation_told f worker applied wanted s s' view is = sym view ∙ ap (intf_operation worker applied wanted) is

module _ (plan : Ports) (names : Names) (n : IfName) (v w : Vrf) (b : Base) where
  -- what is of an interface stands on what the interface stands on
  in-one : (x : Vrf) (u : Thing) (m : Base) → IsIn u (thing.Rif m x ∷ []) → name_of u ≡ thing_name.Rif b → (u ≡ thing.Rif b x) × (m ≡ b)
  in-one x u m (inl e) named = let same : m ≡ b = cc in (e ∙ ap (λ z. thing.Rif z x) same, same)
  in-one x u m (inr h) named = elim h [ ]

  in-from : (x : Vrf) (o : Option Base) (u : Thing) → IsIn u (from o (λ m. thing.Rif m x ∷ [])) → name_of u ≡ thing_name.Rif b → (u ≡ thing.Rif b x) × (o ≡ Some b)
  in-from x None u h named = elim h [ ]
  in-from x (Some m) u h named = let is = in-one x u m h named in (is.0, ap Some is.1)

  held-from : (o : Option Base) (u : Thing) → IsIn u (from o (λ m. thing.Rif m v ∷ []) ++ []) → IsIn u (from o (λ m. thing.Rif m v ∷ []))
  held-from None u h = h
  held-from (Some m) u h = h

  of-row : (wanted : Bool) (u : Thing) → IsIn u (own_of plan (key.Intf n) (row_where wanted (row.Intf w))) → name_of u ≡ thing_name.Rif b → (u ≡ thing.Rif b w) × (base_of plan n ≡ Some b)
  of-row true u h named = in-from w (base_of plan n) u h named
  of-row false u h named = elim h [ ]

  of-held : (applied : Bool) (u : Thing) → IsIn u (own_of plan (key.Intf n) (row_where applied (row.Intf v)) ++ []) → name_of u ≡ thing_name.Rif b → (u ≡ thing.Rif b v) × (base_of plan n ≡ Some b)
  of-held true u h named = in-from v (base_of plan n) u (held-from (base_of plan n) u h) named
  of-held false u h named = elim h [ ]

  abbrev Stage : RifStage → ℕ → Bool → Bool → Operation
  Stage s worker applied wanted = intf_operation worker applied wanted (subject.Intf n v w s)

  -- the call that makes a router interface on what the interface stands on
  making : IsPlan plan → (n' : IfName) → base_of plan n' ≡ Some b → (x : Next) → IsMadeOn names n' w x → (j : Vid) → IsAt (HasVid plan names) (router_name w) j → router_vid names w ≡ vr_with w j → (worker : ℕ) (applied wanted : Bool) → IsNextOf plan names (Stage (rif.Comes b) worker applied wanted) x
  making plans (on.Ethernet p) at x (i, known, is) j router told worker applied wanted =
      let lane = mapped base.Port (lane_of plan p) b at in
      let there : HasVid plan names (thing_name.base_name b) i = subst (λ z. HasVid plan names (thing_name.base_name z) i) lane.2 (ap (λ o. row_vid names (option_map key.Port o)) (port_by plan plans p lane.0 lane.1) ∙ known) in
      subst (IsNextOf plan names (Stage (rif.Comes b) worker applied wanted)) (sym is)
      (Make (thing.Rif b w), [], refl, record { body = body.Rif (router_vid names w) (rif_on.Port i); of = record { first = i; second = j; first_at = there; second_at = router; body_is = ap₂ (λ r z. body.Rif r (on_with z i)) told lane.2 }; is = refl })
  making plans (on.Vlan vlan) at x (i, known, is) j router told worker applied wanted =
      let same : base.Vlan vlan ≡ b = cc in
      subst (IsNextOf plan names (Stage (rif.Comes b) worker applied wanted)) (sym is)
      (Make (thing.Rif b w), [], refl, record { body = body.Rif (router_vid names w) (rif_on.Vlan i); of = record { first = i; second = j; first_at = subst (λ z. HasVid plan names (thing_name.base_name z) i) same known; second_at = router; body_is = ap₂ (λ r z. body.Rif r (on_with z i)) told same }; is = refl })
  making plans (on.Loopback number) at x is j router told worker applied wanted = absurd cc

  -- of what a row of an interface names, the router's identifier
  router-known : (n : IfName) → HaveIds names (map name.Row (intf_names n w)) → HaveIds names (map name.Row (router_names w))
  router-known (on.Ethernet p) h = h.1
  router-known (on.Vlan vlan) h = h.1
  router-known (on.Loopback number) h = h

  comes : (worker : ℕ) (applied wanted : Bool) (x : Next) → IsMadeOn names n w x → HaveIds names (map name.Row (intf_names n w)) → IsOver plan (Stage (rif.Comes b) worker applied wanted) → IsNextOf plan names (Stage (rif.Comes b) worker applied wanted) x
  comes worker applied wanted x made knows over =
      let router = router_at plan names w (router_vid names w) refl (router-known n knows) in
      making over.plans n (by wanted over.next) x made router.0 router.1 router.2 worker applied wanted
    where
      by : (z : Bool) → IsChangeFor plan (Stage (rif.Comes b) worker applied z) (Make (thing.Rif b w) ∷ []) → base_of plan n ≡ Some b
      by z (inl h) = (of-row z (thing.Rif b w) h refl).1
      by true (inr h) = elim h.1 [ ]
      by false (inr h) = elim h.1 [ ]

  -- the entry of a router interface is its identifier
  entry-by : IsPlan plan → base_of plan n ≡ Some b → (i : Vid) → first_of (ids_of names (name.Row (key.Intf n))) ≡ Some i → IsEntryOf (HasVid plan names) (thing.Rif b v) (entry.Oid i)
  entry-by plans at i known = record {
    body = body.Rif (vr_with v i) (on_with b i);
    of = record { first = i; second = i; first_at = λ e. elim e [ ]; second_at = no_router v; body_is = refl };
    id = i;
    numbered = λ e. ap (λ o. row_vid names (option_map key.Intf o)) (interface_by plan plans n b at) ∙ known;
    is = refl;
  }
    where
      no_router : (x : Vrf) → IsAt (λ n i. IsEnteredBy (thing.Rif b v) n → HasVid plan names n i) (router_name x) i
      no_router vrf.Default = tt
      no_router (vrf.Named label) = λ e. elim e [ ]

  goes : (worker : ℕ) (applied wanted : Bool) (i : Vid) → first_of (ids_of names (name.Row (key.Intf n))) ≡ Some i → IsOver plan (Stage (rif.Goes b) worker applied wanted) → IsNextOf plan names (Stage (rif.Goes b) worker applied wanted) (next.Call (call.Remove (entry.Oid i)))
  goes worker applied wanted i known over =
      let old = over.next in
      let of = of-held applied old.0 old.1 old.2 in (
        Take (thing_name.Rif b),
        [],
        refl,
        record {
          old = thing.Rif b v;
          there = subst (λ z. IsIn z (things_held plan (Stage (rif.Goes b) worker applied wanted))) of.0 old.1;
          same = refl;
          entry = entry.Oid i;
          of = entry-by over.plans of.1 i known;
          is = refl;
        },
      )

  moves : (worker : ℕ) (applied wanted : Bool) (i : Vid) → first_of (ids_of names (name.Row (key.Intf n))) ≡ Some i → IsOver plan (Stage (rif.Moves b) worker applied wanted) → IsNextOf plan names (Stage (rif.Moves b) worker applied wanted) (next.Call (call.Remove (entry.Oid i)))
  moves worker applied wanted i known over =
      let old = over.next in
      let of = of-held applied old.0 old.1 old.2 in (
        Take (thing_name.Rif b),
        Make (thing.Rif b w) ∷ [],
        refl,
        record {
          old = thing.Rif b v;
          there = subst (λ z. IsIn z (things_held plan (Stage (rif.Moves b) worker applied wanted))) of.0 old.1;
          same = refl;
          entry = entry.Oid i;
          of = entry-by over.plans of.1 i known;
          is = refl;
        },
      )

module _ (names : Names) (worker : ℕ) (applied wanted : Bool) (f : Operation) where
  module _ (n : IfName) (v w : Vrf) (stage : RifStage) (is : f ≡ intf_operation worker applied wanted (subject.Intf n v w stage)) where
    abbrev At : RifStage → Operation
    At s = intf_operation worker applied wanted (subject.Intf n v w s)

    pub knows-rif : KnowsIds names f → KnowsRif names n w stage
    knows-rif knows = by stage (subst (KnowsIds names) is knows)
      where
        by : (s : RifStage) → KnowsIds names (At s) → KnowsRif names n w s
        by rif.Stays h = tt
        by (rif.Comes b) h = h
        by (rif.Goes b) h = h
        by (rif.Moves b) h = h

    pub next-rif : (plan : Ports) (x : Next) → IsRifNext names n w stage x → KnowsIds names f → IsOver plan f → IsNextOf plan names f x
    next-rif plan x next knows over = subst (λ z. IsNextOf plan names z x) (sym is) (by stage next (subst (KnowsIds names) is knows) (subst (IsOver plan) is over))
      where
        by : (s : RifStage) → IsRifNext names n w s x → KnowsIds names (At s) → IsOver plan (At s) → IsNextOf plan names (At s) x
        by rif.Stays h knows over = rw h refl
        by (rif.Comes b) h knows over = comes plan names n v w b worker applied wanted x h knows over
        by (rif.Goes b) h knows over = subst (IsNextOf plan names (At (rif.Goes b))) (sym h.2) (goes plan names n v w b worker applied wanted h.0 h.1 over)
        by (rif.Moves b) h knows over = subst (IsNextOf plan names (At (rif.Moves b))) (sym h.2) (moves plan names n v w b worker applied wanted h.0 h.1 over)

  module _ (v : Vrf) (n : IfName) (ip : Ip) (len : ℕ) (stage : OwnStage) (is : f ≡ intf_operation worker applied wanted (subject.Addr v n ip len stage)) where
    abbrev Address : OwnStage → Operation
    Address s = intf_operation worker applied wanted (subject.Addr v n ip len s)

    held-own : (plan : Ports) (applied : Bool) → IsIn (thing.Own v ip) (things_held plan (intf_operation worker applied wanted (subject.Addr v n ip len own.Goes)))
    held-own plan true = inl refl
    held-own plan false = inl refl

    -- the entry of an own address is its router and itself
    own-entry : (at : thing_name.ThingName → Vid → Type 0) (vr : Option Vid) (j : Vid) → IsAt at (router_name v) j → vr ≡ vr_with v j → IsEntryOf at (thing.Own v ip) (entry.Own vr ip)
    own-entry at vr j there told = record {
      body = body.OwnAddress (vr_with v j) ip;
      of = record { first = j; second = j; first_at = tt; second_at = in_router v there; body_is = refl };
      id = j;
      numbered = λ e. absurd (false≢true e);
      is = ap (λ z. entry.Own z ip) told;
    }
      where
        in_router : (x : Vrf) → IsAt at (router_name x) j → IsAt (λ n i. IsEnteredBy (thing.Own v ip) n → at n i) (router_name x) j
        in_router vrf.Default h = tt
        in_router (vrf.Named label) h = λ e. h

    pub next-own : (plan : Ports) (x : Next) → x ≡ own_next names v ip stage → KnowsIds names f → IsNextOf plan names f x
    next-own plan x next knows = subst (λ z. IsNextOf plan names z x) (sym is) (subst (IsNextOf plan names (Address stage)) (sym next) (by stage (subst (KnowsIds names) is knows)))
      where
        by : (s : OwnStage) → KnowsIds names (Address s) → IsNextOf plan names (Address s) (own_next names v ip s)
        by own.Stays knows = refl
        by own.Comes knows =
            let router = router_at plan names v (router_vid names v) refl knows in (
              Make (thing.Own v ip),
              [],
              refl,
              record {
                body = body.OwnAddress (router_vid names v) ip;
                of = record { first = router.0; second = router.0; first_at = tt; second_at = router.1; body_is = ap (λ z. body.OwnAddress z ip) router.2 };
                is = refl;
              },
            )
        by own.Goes knows =
            let router = router_at plan names v (router_vid names v) refl knows in (
              Take (thing_name.Own v ip),
              [],
              refl,
              record {
                old = thing.Own v ip;
                there = held-own plan applied;
                same = refl;
                entry = entry.Own (router_vid names v) ip;
                of = own-entry (HasVid plan names) (router_vid names v) router.0 router.1 router.2;
                is = refl;
              },
            )
        by own.Gone knows = refl
