-- what the objects of a view are named by: no route
use Rattle.std.proofs.Common.{◌≡◌, ℕ, ◌+◌, ◌<◌, Bool, true, false, cond, ◌&&◌, List, [], ◌∷◌, length, drop, get_or, map, Option, Some, option_map, refl, sym, ap, ◌∙◌}
use Rattle.std.specs.BTreeMap.{is_at}
use Rattle.std.proofs.lemmas.List.{drop_more}
use Rattle.sai_types.specs.declared.ids.Rid.{Rid}
use Rattle.sai_types.specs.declared.ids.Vid.{Vid}
use Rattle.sai_types.specs.declared.weight.WHop.{WHop}
use Rattle.sai_types.specs.declared.body.Body.{Body}
use Rattle.sai_types.specs.declared.body.Body.TheVariants as body
use Rattle.sai_types.specs.declared.body.Entry.{Entry}
use Rattle.sai_types.specs.declared.body.Entry.TheVariants as entry
use Rattle.sai_types.specs.declared.body.Object.{Object}
use Rattle.sai_types.specs.Named.{hops_among, things_among, with_member}
use Rattle.sai_types.specs.Objects.{Objects, body_at, entry_cmp}
use Rattle.chip_names.specs.Naming.{AreNamesOf, NameTable, entries_of}
use Rattle.chip_layout.specs.Renamed.{body_renamed, entry_renamed}
use Rattle.view_match.specs.declared.key.NaturalKey.{NaturalKey}
use Rattle.view_match.specs.Keys.{natural_key_of}
use Rattle.view_match.specs.Listed.{has_prefix, has_target, is_route, objects_as, rid_of, without_routes}
use Rattle.view_match.specs.Pairs.{new_key}

and_left : (a b : Bool) → (a && b) ≡ true → a ≡ true
and_left true b h = refl
and_left false b h = absurd cc

and_right : (a b : Bool) → (a && b) ≡ true → b ≡ true
and_right true b h = h
and_right false b h = absurd cc

-- what has a prefix is not found by an identifier
apart : (r : Rid) (e : Entry Vid) → has_prefix e ≡ true → is_at (entry_cmp (entry.Oid r)) (entry_renamed rid_of e) ≡ false
apart r (entry.Route vr prefix) h = refl
apart r e h = absurd cc

-- what has a target is no member of a group
no_member : (objects : Objects) (g : Rid) (b : Body Vid) (others : Option (List WHop)) → has_target b ≡ true → with_member objects g (body_renamed rid_of b) others ≡ others
no_member objects g (body.Route vr prefix to) others h = refl
no_member objects g b others h = absurd cc

abbrev found : Rid → List (Object Vid) → Option (Body Rid)
found r os = body_at (entries_of (objects_as os)) (entry.Oid r)

found_by : (r : Rid) (o : Object Vid) (t : Bool) → is_route o ≡ t → (some all : List (Object Vid)) → found r some ≡ found r all → found r (cond t some (o ∷ some)) ≡ found r (o ∷ all)
found_by r o true is some all same = same ∙ sym (ap (λ t. cond t (Some (body_renamed rid_of o.body)) (found r all)) (apart r o.entry (and_right (has_target o.body) (has_prefix o.entry) is)))
found_by r o false is some all same = ap (cond (is_at (entry_cmp (entry.Oid r)) (entry_renamed rid_of o.entry)) (Some (body_renamed rid_of o.body))) same

found-routeless : (r : Rid) (new : List (Object Vid)) → found r (without_routes new) ≡ found r new
found-routeless r [] = refl
found-routeless r (o ∷ os) = found_by r o (is_route o) refl (without_routes os) os (found-routeless r os)

module _ (objects : Objects) (g : Rid) where
  abbrev hops : List (Object Vid) → Option (List WHop)
  hops os = hops_among objects g (entries_of (objects_as os))

  hops_by : (o : Object Vid) (t : Bool) → is_route o ≡ t → (some all : List (Object Vid)) → hops some ≡ hops all → hops (cond t some (o ∷ some)) ≡ hops (o ∷ all)
  hops_by o true is some all same = same ∙ sym (no_member objects g o.body (hops all) (and_left (has_target o.body) (has_prefix o.entry) is))
  hops_by o false is some all same = ap (with_member objects g (body_renamed rid_of o.body)) same

  hops-routeless : (new : List (Object Vid)) → hops (without_routes new) ≡ hops new
  hops-routeless [] = refl
  hops-routeless (o ∷ os) = hops_by o (is_route o) refl (without_routes os) os (hops-routeless os)

-- the names of the others are those of all
pub routeless-names : (new : List (Object Vid)) (names : NameTable) → AreNamesOf (entries_of (objects_as (without_routes new))) names → AreNamesOf (entries_of (objects_as new)) names
routeless-names new names are = record {
  bodies = record { each = λ r. are.bodies.each r ∙ found-routeless r new };
  groups = record { each = λ g. are.groups.each g ∙ hops-routeless names.bodies g new };
}

-- the natural keys of some objects, among all of a new view
abbrev pub new_keys_among : List (Object Vid) → List (Object Vid) → List (Option NaturalKey)
new_keys_among new os = map (option_map natural_key_of) (things_among (entries_of (objects_as new)) (entries_of (objects_as os)))

-- those of the objects that are left begin with that of the next one
pub keys-split : (new : List (Object Vid)) (i : ℕ) (o : Object Vid) → i < length new → o ≡ get_or new i o → new_keys_among new (drop i new) ≡ new_key new o ∷ new_keys_among new (drop (i + 1) new)
keys-split new i o within is = ap (new_keys_among new) (drop_more new i o within ∙ ap (λ x. x ∷ drop (i + 1) new) (sym is))
