-- Which old object is which new one. Own.
use Rattle.std.specs.Prelude.{◌≡◌, ℕ, ◌+◌, Bool, true, false, nat_lt, List, [], ◌∷◌, Option, None, Some, option_map, if◌then◌else◌}
use Rattle.std.specs.BTreeMap.{is_at}
use Rattle.std.specs.List.{AllByRecursion}
use Rattle.std.specs.Map.{lookup}
use Rattle.std.specs.Ordering.{is_lt}
use Rattle.sai_types.specs.declared.ids.Rid.{Rid}
use Rattle.sai_types.specs.declared.ids.Vid.{Vid}
use Rattle.sai_types.specs.declared.body.Body.{Body}
use Rattle.sai_types.specs.declared.body.Body.TheVariants as body
use Rattle.sai_types.specs.declared.body.Entry.{Entry}
use Rattle.sai_types.specs.declared.body.Entry.TheVariants as entry
use Rattle.sai_types.specs.declared.body.Object.{Object}
use Rattle.sai_types.specs.Objects.{Objects}
use Rattle.chip_names.specs.Naming.{entries_of}
use Rattle.view_match.specs.declared.indexed.Partner.{Partner}
use Rattle.view_match.specs.declared.key.NaturalKey.{NaturalKey}
use Rattle.view_match.specs.Keys.{key_among, keys_of_objects, natural_key_cmp}
use Rattle.view_match.specs.Listed.{object_as, objects_as}

-- the number of the group that an object is or is a member of: where several groups have the same hops, it tells which of them stays
abbrev pub group_number : (Entry Rid × Body Rid) → ℕ
group_number (entry.Oid g, body.Group) = g.0
group_number (e, body.GroupMember g n weight) = g.0
group_number _ = 0

-- the same, where there is an object
abbrev pub group_of : Option (Entry Rid × Body Rid) → ℕ
group_of None = 0
group_of (Some o) = group_number o

-- whether an object stands in the place of what was found so far: of two objects of one natural key the one whose group has the lesser number, else the earlier one
abbrev pub replaces : Option Partner → Partner → Bool
replaces None p = true
replaces (Some q) p = nat_lt p.group q.group

-- the partner of a key so far, and one object more
abbrev pub with_object : Option Partner → Option NaturalKey → Partner → NaturalKey → Option Partner
with_object found None p k = found
with_object found (Some key) p k = if is_at (natural_key_cmp key) k then (if replaces found p then Some p else found) else found

-- the partner of a key so far, and the objects from this place on, with their keys
abbrev pub best_from : Option Partner → List (Option NaturalKey) → Objects → NaturalKey → ℕ → Option Partner
best_from found (key ∷ keys) (o ∷ os) k place = best_from (with_object found key (record { group = group_number o; place = place }) k) keys os k (place + 1)
best_from found _ _ k place = found

-- the place of the object of this natural key, of several the one of the least group
abbrev pub partner_of : Objects → Option NaturalKey → Option ℕ
partner_of objects None = None
partner_of objects (Some k) = option_map (λ p. p.place) (best_from None (keys_of_objects objects) objects k 0)

-- no entry has a lesser key than one before it
abbrev pub AreSortedByKey : List (NaturalKey × Partner) → Type 0
AreSortedByKey [] = Unit {0}
AreSortedByKey (e ∷ es) = AllByRecursion (λ y. is_lt (natural_key_cmp y.0 e.0) ≡ false) es × AreSortedByKey es

-- a list of objects by rising natural keys, of which the first one of a key is the object of it
pub record IsIndex (objects : Objects) (index : List (NaturalKey × Partner)) : Type 0 where
  pub rising : AreSortedByKey index
  pub each : (k : NaturalKey) → lookup (is_at (natural_key_cmp k)) index ≡ best_from None (keys_of_objects objects) objects k 0

abbrev pub with_pair_at : Option ℕ → ℕ → List (ℕ × ℕ) → List (ℕ × ℕ)
with_pair_at None place pairs = pairs
with_pair_at (Some i) place pairs = (i, place) ∷ pairs

-- the pairs of the new objects from this place on, with their keys
abbrev pub pairs_from : Objects → List (Option NaturalKey) → ℕ → List (ℕ × ℕ)
pairs_from objects [] place = []
pairs_from objects (key ∷ keys) place = with_pair_at (partner_of objects key) place (pairs_from objects keys (place + 1))

-- the natural key of an object of a new view, among all of that
abbrev pub new_key : List (Object Vid) → Object Vid → Option NaturalKey
new_key new o = key_among (entries_of (objects_as new)) ((object_as o).entry, (object_as o).body)

-- those of all objects of a new view
abbrev pub new_keys : List (Object Vid) → List (Option NaturalKey)
new_keys new = keys_of_objects (entries_of (objects_as new))

-- each new object with the old one of its natural key, in the order of the new ones: the place in the old objects, then that in the new ones
abbrev pub pairs_of : List (Object Rid) → List (Object Vid) → List (ℕ × ℕ)
pairs_of old new = pairs_from (entries_of old) (new_keys new) 0
