-- the call that is due of a neighbour's operation
use Rattle.std.proofs.Common.{◌≡◌, inl, inr, ℕ, Bool, true, false, List, [], ◌∷◌, ◌++◌, Option, Some, None, option_map, refl, sym, ap, subst, ◌∙◌, append-nil}
use Rattle.std.proofs.lemmas.Bool.{false≢true}
use Rattle.swss_types.specs.declared.address.Ip.{Ip}
use Rattle.swss_types.specs.declared.address.Mac.{Mac}
use Rattle.swss_types.specs.declared.interface.IfName.{IfName}
use Rattle.table_schema.specs.Plan.{IsPlan, Ports}
use Rattle.table_schema.specs.declared.key.Key.TheVariants as key
use Rattle.sai_types.specs.Alike.{IsIn}
use Rattle.sai_types.specs.Names as thing_name
use Rattle.sai_types.specs.Names.{name_of}
use Rattle.sai_types.specs.declared.ids.Vid.{Vid}
use Rattle.sai_types.specs.declared.hop.Base.{Base}
use Rattle.sai_types.specs.declared.hop.Base.TheVariants as base
use Rattle.sai_types.specs.declared.body.Attr.TheVariants as attr
use Rattle.sai_types.specs.declared.body.Body.TheVariants as body
use Rattle.sai_types.specs.declared.body.Entry.TheVariants as entry
use Rattle.sai_types.specs.declared.thing.Thing.{Thing}
use Rattle.sai_types.specs.declared.thing.Thing.TheVariants as thing
use Rattle.switch_model.specs.Things.{base_of}
use Rattle.row_layout.specs.Operations.{Change, Make, Set, Take}
use Rattle.row_layout.proofs.Owners.{interface_by}
use Rattle.ref_counts.specs.declared.next.Next.{Next}
use Rattle.ref_counts.specs.Registry.{Names}
use Rattle.orch_flight.specs.Calling.{HasVid, IsChangeFor, IsNextOf, IsOver, row_vid, things_held}
use Rattle.orch_flight.specs.Operation.{Operation}
use Rattle.neigh_orch.specs.Neighbours.{IsInterface, IsMadeNext, IsSetNext, IsTakenNext, due_set, neighbor_hop, neigh_operation, same_mac}
use Rattle.neigh_orch.specs.declared.left.Left.{Left}
use Rattle.neigh_orch.specs.declared.left.Left.TheVariants as left
use Rattle.neigh_orch.proofs.Starts.{things_on}

-- a neighbour's operation, from what its fields are known to be
pub neigh_operation_told : (f : Operation) (worker : ℕ) (n : IfName) (ip : Ip) (b : Base) (l : Left) (now now' new new' : Option Mac) → neigh_operation worker n ip b l now new ≡ f → now ≡ now' → new ≡ new' → f ≡ neigh_operation worker n ip b l now' new'
neigh_operation_told f worker n ip b l now now' new new' view o e = sym view ∙ ap (λ z. neigh_operation worker n ip b l z new) o ∙ ap (neigh_operation worker n ip b l now') e

abbrev base_in : thing_name.ThingName → Base
base_in (thing_name.Neighbor h) = h.on
base_in (thing_name.NextHop h) = h.on
base_in _ = base.Vlan 0

module _ (ip : Ip) (mac : Mac) (b : Base) where
  abbrev IsNeighbour : Option Base → Thing → Type 0
  IsNeighbour o u = (u ≡ thing.Neighbor (neighbor_hop b ip) mac) × (o ≡ Some b)

  abbrev IsHop : Option Base → Thing → Type 0
  IsHop o u = (u ≡ thing.NextHop (neighbor_hop b ip)) × (o ≡ Some b)

  -- which of a neighbour's things has this name
  is-neighbour : (o : Option Base) (u : Thing) → IsIn u (things_on ip mac o) → name_of u ≡ thing_name.Neighbor (neighbor_hop b ip) → IsNeighbour o u
  is-neighbour None u h named = elim h [ ]
  is-neighbour (Some m) u (inl e) named = let same : m ≡ b = ap base_in (sym (ap name_of e) ∙ named) in (e ∙ ap (λ z. thing.Neighbor (neighbor_hop z ip) mac) same, ap Some same)
  is-neighbour (Some m) u (inr (inl e)) named = let not : thing_name.NextHop (neighbor_hop m ip) ≡ thing_name.Neighbor (neighbor_hop b ip) = sym (ap name_of e) ∙ named in absurd cc
  is-neighbour (Some m) u (inr (inr h)) named = elim h [ ]

  is-hop : (o : Option Base) (u : Thing) → IsIn u (things_on ip mac o) → name_of u ≡ thing_name.NextHop (neighbor_hop b ip) → IsHop o u
  is-hop None u h named = elim h [ ]
  is-hop (Some m) u (inl e) named = let not : thing_name.Neighbor (neighbor_hop m ip) ≡ thing_name.NextHop (neighbor_hop b ip) = sym (ap name_of e) ∙ named in absurd cc
  is-hop (Some m) u (inr (inl e)) named = let same : m ≡ b = ap base_in (sym (ap name_of e) ∙ named) in (e ∙ ap (λ z. thing.NextHop (neighbor_hop z ip)) same, ap Some same)
  is-hop (Some m) u (inr (inr h)) named = elim h [ ]

module _ (plan : Ports) (names : Names) (worker : ℕ) (n : IfName) (ip : Ip) (b : Base) where
  abbrev NextFor : Left → Option Mac → Option Mac → Next → Type 0
  NextFor l now new x = IsOver plan (neigh_operation worker n ip b l now new) → IsNextOf plan names (neigh_operation worker n ip b l now new) x

  -- the interface's identifier
  rif-at : IsPlan plan → base_of plan n ≡ Some b → (v : Vid) → IsInterface names n v → HasVid plan names (thing_name.Rif b) v
  rif-at plans on v at = ap (λ o. row_vid names (option_map key.Intf o)) (interface_by plan plans n b on) ∙ at

  -- a thing of the row that is to be
  made-by : (mac : Mac) (u : Thing) (P : Type 0) → (IsIn u (things_on ip mac (base_of plan n)) → P) → (l : Left) (cs : List Change) → IsChangeFor plan (neigh_operation worker n ip b l None (Some mac)) (Make u ∷ cs) → P
  made-by mac u P found l cs (inl h) = found h
  made-by mac u P found l cs (inr h) = elim h.1 [ ]

  made-as : (mac : Mac) (l : Left) (x : Next) → IsMadeNext names n ip mac l x → NextFor l None (Some mac) x
  made-as mac left.Both x h over =
      let on = made-by mac (thing.Neighbor (neighbor_hop b ip) mac) (base_of plan n ≡ Some b) (λ i. (is-neighbour ip mac b (base_of plan n) (thing.Neighbor (neighbor_hop b ip) mac) i refl).1) left.Both (Make (thing.NextHop (neighbor_hop b ip)) ∷ []) over.next in
      subst (IsNextOf plan names (neigh_operation worker n ip b left.Both None (Some mac))) (sym h.2)
      (Make (thing.Neighbor (neighbor_hop b ip) mac), Make (thing.NextHop (neighbor_hop b ip)) ∷ [], refl, record { body = body.Neighbor h.0 ip mac; of = record { first = h.0; second = h.0; first_at = rif-at over.plans on h.0 h.1; second_at = tt; body_is = refl }; is = refl })
  made-as mac left.One x h over =
      let on = made-by mac (thing.NextHop (neighbor_hop b ip)) (base_of plan n ≡ Some b) (λ i. (is-hop ip mac b (base_of plan n) (thing.NextHop (neighbor_hop b ip)) i refl).1) left.One [] over.next in
      subst (IsNextOf plan names (neigh_operation worker n ip b left.One None (Some mac))) (sym h.2)
      (Make (thing.NextHop (neighbor_hop b ip)), [], refl, record { body = body.NextHop h.0 ip; of = record { first = h.0; second = h.0; first_at = rif-at over.plans on h.0 h.1; second_at = tt; body_is = refl }; is = refl })
  made-as mac left.Neither x h over = rw h refl

  -- of a row's things, and nothing that was shared
  held : (mac : Mac) (u : Thing) → IsIn u (things_on ip mac (base_of plan n) ++ []) → IsIn u (things_on ip mac (base_of plan n))
  held mac u = subst (IsIn u) (append-nil (things_on ip mac (base_of plan n)))

  set-as : (l : Left) (now mac : Mac) (x : Next) → IsSetNext names n ip mac (same_mac now mac) x → NextFor l (Some now) (Some mac) x
  set-as l now mac x h over = by (same_mac now mac) refl h
    where
      by : (same : Bool) → same_mac now mac ≡ same → IsSetNext names n ip mac same x → IsNextOf plan names (neigh_operation worker n ip b l (Some now) (Some mac)) x
      by true is h = rw h (ap (due_set (neighbor_hop b ip) mac) is)
      by false is h =
          let due = ap (due_set (neighbor_hop b ip) mac) is in
          let old = subst (IsChangeFor plan (neigh_operation worker n ip b l (Some now) (Some mac))) due over.next in
          let of = is-neighbour ip now b (base_of plan n) old.0 old.1 old.2 in
          subst (IsNextOf plan names (neigh_operation worker n ip b l (Some now) (Some mac))) (sym h.2) (
            Set (thing.Neighbor (neighbor_hop b ip) mac),
            [],
            due,
            record {
              old = thing.Neighbor (neighbor_hop b ip) now;
              there = subst (λ z. IsIn z (things_held plan (neigh_operation worker n ip b l (Some now) (Some mac)))) of.0 (subst (IsIn old.0) (sym (append-nil (things_on ip now (base_of plan n)))) old.1);
              same = refl;
              entry = entry.Neigh h.0 ip;
              of = record {
                body = body.Neighbor h.0 ip now;
                of = record { first = h.0; second = h.0; first_at = λ e. rif-at over.plans of.1 h.0 h.1; second_at = tt; body_is = refl };
                id = h.0;
                numbered = λ e. absurd (false≢true e);
                is = refl;
              };
              attr = attr.Mac mac;
              change = refl;
              is = refl;
            },
          )

  taken-as : (l : Left) (now : Mac) (x : Next) → IsTakenNext names n ip l x → NextFor l (Some now) None x
  taken-as left.Both now x h over =
      let old = over.next in
      let of = is-hop ip now b (base_of plan n) old.0 (held now old.0 old.1) old.2 in
      subst (IsNextOf plan names (neigh_operation worker n ip b left.Both (Some now) None)) (sym h.2) (
        Take (thing_name.NextHop (neighbor_hop b ip)),
        Take (thing_name.Neighbor (neighbor_hop b ip)) ∷ [],
        refl,
        record {
          old = thing.NextHop (neighbor_hop b ip);
          there = subst (λ z. IsIn z (things_held plan (neigh_operation worker n ip b left.Both (Some now) None))) of.0 old.1;
          same = refl;
          entry = entry.Oid h.0;
          of = record {
            body = body.NextHop h.0 ip;
            of = record { first = h.0; second = h.0; first_at = λ e. elim e [ ]; second_at = tt; body_is = refl };
            id = h.0;
            numbered = λ e. ap (λ o. row_vid names (option_map (λ i. key.Neigh i ip) o)) (interface_by plan over.plans n b of.1) ∙ h.1;
            is = refl;
          };
          is = refl;
        },
      )
  taken-as left.One now x h over =
      let old = over.next in
      let of = is-neighbour ip now b (base_of plan n) old.0 (held now old.0 old.1) old.2 in
      subst (IsNextOf plan names (neigh_operation worker n ip b left.One (Some now) None)) (sym h.2) (
        Take (thing_name.Neighbor (neighbor_hop b ip)),
        [],
        refl,
        record {
          old = thing.Neighbor (neighbor_hop b ip) now;
          there = subst (λ z. IsIn z (things_held plan (neigh_operation worker n ip b left.One (Some now) None))) of.0 old.1;
          same = refl;
          entry = entry.Neigh h.0 ip;
          of = record {
            body = body.Neighbor h.0 ip now;
            of = record { first = h.0; second = h.0; first_at = λ e. rif-at over.plans of.1 h.0 h.1; second_at = tt; body_is = refl };
            id = h.0;
            numbered = λ e. absurd (false≢true e);
            is = refl;
          };
          is = refl;
        },
      )
  taken-as left.Neither now x h over = rw h refl

  module _ (l : Left) (f : Operation) (x : Next) where
    pub next-made : (mac : Mac) → f ≡ neigh_operation worker n ip b l None (Some mac) → IsMadeNext names n ip mac l x → IsOver plan f → IsNextOf plan names f x
    next-made mac is h = subst (λ z. IsOver plan z → IsNextOf plan names z x) (sym is) (made-as mac l x h)

    pub next-set : (now mac : Mac) → f ≡ neigh_operation worker n ip b l (Some now) (Some mac) → IsSetNext names n ip mac (same_mac now mac) x → IsOver plan f → IsNextOf plan names f x
    next-set now mac is h = subst (λ z. IsOver plan z → IsNextOf plan names z x) (sym is) (set-as l now mac x h)

    pub next-taken : (now : Mac) → f ≡ neigh_operation worker n ip b l (Some now) None → IsTakenNext names n ip l x → IsOver plan f → IsNextOf plan names f x
    next-taken now is h = subst (λ z. IsOver plan z → IsNextOf plan names z x) (sym is) (taken-as l now x h)
