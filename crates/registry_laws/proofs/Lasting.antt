-- the thing of a row that makes its name live is the last that is made
use Rattle.std.proofs.Common.{◌≡◌, ◌∷◌, ◌++◌, Bool, true, false, List, [], Option, None, Some, refl, subst, if◌then◌else◌}
use Rattle.swss_types.specs.Vrf.{same_vrf}
use Rattle.table_schema.specs.Plan.{Ports}
use Rattle.table_schema.specs.declared.key.Key.{Key}
use Rattle.table_schema.specs.declared.key.Key.TheVariants as key
use Rattle.sai_types.specs.declared.hop.Base.{Base}
use Rattle.sai_types.specs.declared.weight.WHop.{WHop}
use Rattle.sai_types.specs.declared.thing.Thing.{Thing}
use Rattle.sai_types.specs.declared.thing.Thing.TheVariants as thing
use Rattle.switch_model.specs.Things.{base_of, lane_of, members_of}
use Rattle.switch_model.specs.Placed as row
use Rattle.switch_model.specs.Placed.{Placed as Row}
use Rattle.row_layout.specs.Operations.{Change, Set, going, make_all, own_changes, own_sets, thing_of_port, same_thing, set_all, set_to, take_all}
use Rattle.row_layout.specs.Rows as owner
use Rattle.row_layout.specs.Rows.{Owner, from, goal_of, own_things}
use Rattle.switch_machine.specs.Operations.{built_first}
use Rattle.registry_laws.specs.Answering.{MakesRowLive}

module _ (new : Option Row) where
  abbrev IsLastMade : Change → List Change → Type 0
  IsLastMade c cs = MakesRowLive c → (cs ≡ []) × (r : Row) × (new ≡ Some r)

  abbrev AreLastMade : List Change → Type 0
  AreLastMade [] = Unit {0}
  AreLastMade (c ∷ cs) = IsLastMade c cs × AreLastMade cs

  last_of : (before : List Change) (c : Change) (cs : List Change) → AreLastMade (before ++ c ∷ cs) → IsLastMade c cs
  last_of [] c cs h = h.0
  last_of (b ∷ before) c cs h = last_of before c cs h.1

  takes_last : (ts : List Thing) → AreLastMade (take_all ts [])
  takes_last [] = tt
  takes_last (t ∷ ts) = (λ h. elim h [ ], takes_last ts)

  set_last : (t u : Thing) (rest : List Change) → AreLastMade rest → AreLastMade (set_to t u rest)
  set_last t u rest h = by (same_thing t u)
    where
      by : (b : Bool) → AreLastMade (if b then rest else Set u ∷ rest)
      by true = h
      by false = (λ x. elim x [ ], h)

  sets_last : (ts us : List Thing) → AreLastMade (set_all ts us)
  sets_last (t ∷ ts) (u ∷ us) = set_last t u (set_all ts us) (sets_last ts us)
  sets_last [] us = tt
  sets_last (t ∷ ts) [] = tt

  module _ (r : Row) (is : new ≡ Some r) where
    again_last : {X : Type 0} (x : Option X) (f g : X → Thing) → AreLastMade (take_all (from x (λ z. f z ∷ [])) (make_all (from x (λ z. g z ∷ [])) []))
    again_last None f g = tt
    again_last (Some x) f g = (λ h. elim h [ ], (λ _. (refl, r, is), tt))

    one_last : {X : Type 0} (x : Option X) (g : X → Thing) → AreLastMade (make_all (from x (λ z. g z ∷ [])) [])
    one_last None g = tt
    one_last (Some x) g = (λ _. (refl, r, is), tt)

    things_last : (plan : Ports) (k : Key) (a : Row) → AreLastMade (make_all (own_things plan k a) [])
    things_last plan (key.Port port) (row.Port a) = one_last (lane_of plan port) (λ lane. thing.Port (record { lanes = a.lanes; speed = a.speed; mtu = a.mtu; up = a.up }))
    things_last plan (key.Vlan vlan) row.Vlan = (λ _. (refl, r, is), tt)
    things_last plan (key.Vrf label) row.Vrf = (λ _. (refl, r, is), tt)
    things_last plan (key.Member vlan port) (row.Member tagging) = one_last (lane_of plan port) (λ lane. thing.VlanMember vlan lane tagging)
    things_last plan (key.Intf n) (row.Intf v) = one_last (base_of plan n) (λ b. thing.Rif b v)
    things_last plan (key.Neigh n ip) (row.Neigh mac) = by (base_of plan n)
      where
        by : (x : Option Base) → AreLastMade (make_all (from x (λ b. thing.Neighbor (record { on = b; ip = ip }) mac ∷ thing.NextHop (record { on = b; ip = ip }) ∷ [])) [])
        by None = tt
        by (Some b) = (λ h. elim h [ ], (λ _. (refl, r, is), tt))
    things_last plan (key.Route v prefix) (row.Route a) = one_last (goal_of plan a) (thing.Route v prefix)
    things_last plan _ _ = tt

    own_sets_last : (plan : Ports) (k : Key) (a b : Row) → AreLastMade (own_sets plan k a b)
    own_sets_last plan (key.Port port) (row.Port a) (row.Port b) =
        set_last (thing_of_port a.lanes a.speed a.mtu a.up) (thing_of_port a.lanes b.speed a.mtu a.up) (set_to (thing_of_port a.lanes b.speed a.mtu a.up) (thing_of_port a.lanes b.speed b.mtu a.up) (set_to (thing_of_port a.lanes b.speed b.mtu a.up) (thing_of_port a.lanes b.speed b.mtu b.up) []))
        (set_last (thing_of_port a.lanes b.speed a.mtu a.up) (thing_of_port a.lanes b.speed b.mtu a.up) (set_to (thing_of_port a.lanes b.speed b.mtu a.up) (thing_of_port a.lanes b.speed b.mtu b.up) [])
        (set_last (thing_of_port a.lanes b.speed b.mtu a.up) (thing_of_port a.lanes b.speed b.mtu b.up) [] tt))
    own_sets_last plan (key.Intf n) (row.Intf v) (row.Intf w) = by (same_vrf v w)
      where
        by : (t : Bool) → AreLastMade (if t then [] else take_all (own_things plan (key.Intf n) (row.Intf v)) (make_all (own_things plan (key.Intf n) (row.Intf w)) []))
        by true = tt
        by false = again_last (base_of plan n) (λ b. thing.Rif b v) (λ b. thing.Rif b w)
    own_sets_last plan k a b = sets_last (own_things plan k a) (own_things plan k b)

  own_last : (plan : Ports) (k : Key) (old x : Option Row) → new ≡ x → AreLastMade (own_changes plan k old x)
  own_last plan k None None e = tt
  own_last plan k None (Some r) e = things_last r e plan k r
  own_last plan k (Some a) None e = takes_last (going plan k a)
  own_last plan k (Some a) (Some r) e = own_sets_last r e plan k a r

  members_last : (all hops : List WHop) (own : List Change) → AreLastMade own → AreLastMade (make_all (members_of all hops) own)
  members_last all [] own h = h
  members_last all (hop ∷ hops) own h = (λ x. elim x [ ], members_last all hops own h)

  built_last : (o : Option Owner) (own : List Change) → AreLastMade own → AreLastMade (built_first o own)
  built_last None own h = h
  built_last (Some (owner.OfRow k)) own h = h
  built_last (Some (owner.Bridge lane)) own h = (λ x. elim x [ ], h)
  built_last (Some (owner.Own v ip)) own h = (λ x. elim x [ ], h)
  built_last (Some (owner.Group hops)) own h = (λ x. elim x [ ], members_last hops hops own h)

  pub lasting : (plan : Ports) (k : Key) (old : Option Row) (o : Option Owner) (before : List Change) (c : Change) (cs : List Change) → built_first o (own_changes plan k old new) ≡ before ++ c ∷ cs → MakesRowLive c → (cs ≡ []) × (r : Row) × (new ≡ Some r)
  lasting plan k old o before c cs e = last_of before c cs (subst AreLastMade e (built_last o (own_changes plan k old new) (own_last plan k old new refl)))
