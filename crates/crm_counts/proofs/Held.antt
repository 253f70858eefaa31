-- the kinds of identifiers after a call
use Rattle.std.proofs.Common.{◌≡◌, ℕ, Bool, true, false, cond, List, Option, Some, None, option_map, if◌then◌else◌, refl, sym, ap, ◌∙◌}
use Rattle.std.specs.BTreeMap.{insert_entry, is_at}
use Rattle.std.specs.Cmp.{IsTotalOrder}
use Rattle.std.specs.List.Sorted.{IsStrictlySortedBy}
use Rattle.std.specs.Map.{keys_of}
use Rattle.std.proofs.lemmas.Bool.{false≢true}
use Rattle.swss_types.proofs.Maps.{lookup-insert_entry}
use Rattle.swss_types.specs.declared.address.Ip.{Ip}
use Rattle.swss_types.specs.declared.address.Prefix.{Prefix}
use Rattle.sai_types.specs.declared.ids.Rid.{Rid}
use Rattle.sai_types.specs.contracts.ids.RidOrd.TheImpl.Laws as ordered_rid
use Rattle.sai_types.specs.declared.kind.Kind.{Kind}
use Rattle.sai_types.specs.declared.kind.Kind.TheVariants as kind
use Rattle.sai_types.specs.declared.body.Attr.{Attr}
use Rattle.sai_types.specs.declared.body.Body.{Body}
use Rattle.sai_types.specs.declared.body.Body.TheVariants as body
use Rattle.sai_types.specs.declared.body.Call.TheVariants as call
use Rattle.sai_types.specs.declared.body.Entry.{Entry}
use Rattle.sai_types.specs.declared.body.Entry.TheVariants as entry
use Rattle.sai_types.specs.After.{after_call, after_set, entry_of, has_id, with_attr}
use Rattle.sai_types.specs.Made.{AreEntered, AreSorted, same_entry}
use Rattle.sai_types.specs.Objects.{Objects, body_at, entry_cmp, kind_of}
use Rattle.sai_types.proofs.Apart.{kind_of-with_attr}
use Rattle.sai_types.proofs.Found.{body_at-insert, body_at-remove, body_at-same}
use Rattle.sai_types.proofs.Maps.{lookup-removed}
use Rattle.crm_counts.specs.Counted.{id_cmp, kind_of_entry, kind_of_id, with_kind_of, without_entry}

rid_total : IsTotalOrder id_cmp
rid_total = ordered_rid.total-law

-- the kind of the object with this identifier, if it stands
abbrev pub kind_found : Objects → Rid → Option Kind
kind_found objects r = option_map kind_of (body_at objects (entry.Oid r))

-- what is kept of objects
pub record AreKindsOf (kinds : List (Rid × Kind)) (objects : Objects) : Type 0 where
  pub each : (r : Rid) → kind_of_id kinds r ≡ kind_found objects r

put_by : (t : Bool) (b : Body Rid) (found : Option (Body Rid)) → option_map kind_of (cond t (Some b) found) ≡ cond t (Some (kind_of b)) (option_map kind_of found)
put_by true b found = refl
put_by false b found = refl

gone_by : (t : Bool) (found : Option (Body Rid)) → option_map kind_of (cond t None found) ≡ cond t None (option_map kind_of found)
gone_by true found = refl
gone_by false found = refl

module _ (kinds : List (Rid × Kind)) (objects : Objects) (are : AreKindsOf kinds objects) where
  put_id : (n : ℕ) (b : Body Rid) (r : Rid) → kind_of_id (insert_entry id_cmp kinds (record { 0 = n }) (kind_of b)) r ≡ kind_found (insert_entry entry_cmp objects (entry.Oid (record { 0 = n })) b) r
  put_id n b r =
      lookup-insert_entry id_cmp rid_total kinds (record { 0 = n }) (kind_of b) r
      ∙ ap (cond (is_at (id_cmp r) (record { 0 = n })) (Some (kind_of b))) (are.each r)
      ∙ sym (put_by (same_entry (entry.Oid r) (entry.Oid (record { 0 = n }))) b (body_at objects (entry.Oid r)))
      ∙ ap (option_map kind_of) (sym (body_at-insert objects (entry.Oid (record { 0 = n })) b (entry.Oid r)))

  put_key : (e : Entry Rid) (b : Body Rid) (r : Rid) → same_entry (entry.Oid r) e ≡ false → kind_of_id kinds r ≡ kind_found (insert_entry entry_cmp objects e b) r
  put_key e b r apart =
      are.each r
      ∙ ap (λ t. option_map kind_of (cond t (Some b) (body_at objects (entry.Oid r)))) (sym apart)
      ∙ ap (option_map kind_of) (sym (body_at-insert objects e b (entry.Oid r)))

  -- after a call that makes an object
  pub kinds-made : (n : ℕ) (b : Body Rid) (r : Rid) → kind_of_id (with_kind_of kinds (if has_id b then Some (record { 0 = n }) else None) (kind_of b)) r ≡ kind_found (after_call n objects (call.Create b)) r
  kinds-made n (body.OwnAddress vr ip) r = put_key (entry.Own vr ip) (body.OwnAddress vr ip) r refl
  kinds-made n (body.Neighbor rif ip mac) r = put_key (entry.Neigh rif ip) (body.Neighbor rif ip mac) r refl
  kinds-made n (body.Route vr prefix to) r = put_key (entry.Route vr prefix) (body.Route vr prefix to) r refl
  kinds-made n b r = put_id n b r

  set_by : (e : Entry Rid) (a : Attr Rid) (b : Body Rid) (r : Rid) (t : Bool) → body_at objects e ≡ Some b → same_entry (entry.Oid r) e ≡ t → kind_of_id kinds r ≡ option_map kind_of (cond t (Some (with_attr b a)) (body_at objects (entry.Oid r)))
  set_by e a b r true there same = are.each r ∙ ap (option_map kind_of) (body_at-same objects (entry.Oid r) e same ∙ there) ∙ ap Some (sym (kind_of-with_attr b a))
  set_by e a b r false there same = are.each r

  set_found : (e : Entry Rid) (a : Attr Rid) (o : Option (Body Rid)) (r : Rid) → body_at objects e ≡ o → kind_of_id kinds r ≡ kind_found (after_set objects e a o) r
  set_found e a None r at = are.each r
  set_found e a (Some b) r at = set_by e a b r (same_entry (entry.Oid r) e) at refl ∙ ap (option_map kind_of) (sym (body_at-insert objects e (with_attr b a) (entry.Oid r)))

  -- that sets an attribute
  pub kinds-set : (n : ℕ) (e : Entry Rid) (a : Attr Rid) (r : Rid) → kind_of_id kinds r ≡ kind_found (after_call n objects (call.Set e a)) r
  kinds-set n e a r = set_found e a (body_at objects e) r refl

  module _ (sorted : AreSorted objects) where
    left_key : (n : ℕ) (e : Entry Rid) (r : Rid) → same_entry e (entry.Oid r) ≡ false → kind_of_id kinds r ≡ kind_found (after_call n objects (call.Remove e)) r
    left_key n e r apart =
        are.each r
        ∙ ap (λ t. option_map kind_of (cond t None (body_at objects (entry.Oid r)))) (sym apart)
        ∙ ap (option_map kind_of) (sym (body_at-remove objects e (entry.Oid r) sorted))

    -- that removes an object
    pub kinds-removed : IsStrictlySortedBy id_cmp (keys_of kinds) → (n : ℕ) (e : Entry Rid) (r : Rid) → kind_of_id (without_entry kinds e) r ≡ kind_found (after_call n objects (call.Remove e)) r
    kinds-removed rising n (entry.Oid q) r =
        lookup-removed id_cmp rid_total kinds q r rising
        ∙ ap (cond (is_at (id_cmp q) r) None) (are.each r)
        ∙ sym (gone_by (same_entry (entry.Oid q) (entry.Oid r)) (body_at objects (entry.Oid r)))
        ∙ ap (option_map kind_of) (sym (body_at-remove objects (entry.Oid q) (entry.Oid r) sorted))
    kinds-removed rising n (entry.Own vr ip) r = left_key n (entry.Own vr ip) r refl
    kinds-removed rising n (entry.Neigh rif ip) r = left_key n (entry.Neigh rif ip) r refl
    kinds-removed rising n (entry.Route vr prefix) r = left_key n (entry.Route vr prefix) r refl

  own_kind : (n : ℕ) (vr : Option Rid) (ip : Ip) (b : Body Rid) → same_entry (entry.Own vr ip) (entry_of n b) ≡ true → Some kind.OwnAddress ≡ Some (kind_of b)
  own_kind n vr ip (body.OwnAddress vr' ip') same = refl
  own_kind n vr ip _ same = absurd (false≢true same)

  neighbor_kind : (n : ℕ) (rif : Rid) (ip : Ip) (b : Body Rid) → same_entry (entry.Neigh rif ip) (entry_of n b) ≡ true → Some kind.Neighbor ≡ Some (kind_of b)
  neighbor_kind n rif ip (body.Neighbor rif' ip' mac') same = refl
  neighbor_kind n rif ip _ same = absurd (false≢true same)

  route_kind : (n : ℕ) (vr : Option Rid) (prefix : Prefix) (b : Body Rid) → same_entry (entry.Route vr prefix) (entry_of n b) ≡ true → Some kind.Route ≡ Some (kind_of b)
  route_kind n vr prefix (body.Route vr' prefix' to') same = refl
  route_kind n vr prefix _ same = absurd (false≢true same)

  -- an entry tells the kind of its object
  pub kind_of-entry : (made : ℕ) → AreEntered made objects → (e : Entry Rid) (b : Body Rid) → body_at objects e ≡ Some b → kind_of_entry kinds e ≡ Some (kind_of b)
  kind_of-entry made entered (entry.Oid r) b there = are.each r ∙ ap (option_map kind_of) there
  kind_of-entry made entered (entry.Own vr ip) b there = let at = entered.each (entry.Own vr ip) b there in own_kind at.0 vr ip b at.2
  kind_of-entry made entered (entry.Neigh rif ip) b there = let at = entered.each (entry.Neigh rif ip) b there in neighbor_kind at.0 rif ip b at.2
  kind_of-entry made entered (entry.Route vr prefix) b there = let at = entered.each (entry.Route vr prefix) b there in route_kind at.0 vr prefix b at.2
