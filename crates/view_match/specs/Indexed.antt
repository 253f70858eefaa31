-- Old objects with their natural keys, in a list. Own.
use Rattle.std.specs.Prelude.{◌≡◌, ℕ, ◌+◌, List, [], ◌∷◌, map, Option, None, Some, if◌then◌else◌}
use Rattle.std.specs.BTreeMap.{is_at}
use Rattle.std.specs.Borrow.{Bor}
use Rattle.std.specs.List.{AllByRecursion}
use Rattle.std.specs.declared.cmp.Ordering.TheVariants.{Less}
use Rattle.sai_types.specs.Objects.{Objects}
use Rattle.view_match.specs.declared.indexed.Partner.{Partner}
use Rattle.view_match.specs.declared.key.NaturalKey.{NaturalKey}
use Rattle.view_match.specs.Keys.{natural_key_cmp}
use Rattle.view_match.specs.Pairs.{group_number}

-- an entry, by a reference to its key
abbrev pub lent_entry : (Bor NaturalKey × Partner) → NaturalKey × Partner
lent_entry item = (item.0.now, item.1)

abbrev pub lent_entries : List (Bor NaturalKey × Partner) → List (NaturalKey × Partner)
lent_entries items = map lent_entry items

-- an entry before others, where the object has a key
abbrev pub with_entry : Option NaturalKey → Partner → List (NaturalKey × Partner) → List (NaturalKey × Partner)
with_entry None p es = es
with_entry (Some k) p es = (k, p) ∷ es

-- the entries of the objects from this place on, with their keys
abbrev pub entries_from : List (Option NaturalKey) → Objects → ℕ → List (NaturalKey × Partner)
entries_from (key ∷ keys) (o ∷ os) place = with_entry key (record { group = group_number o; place = place }) (entries_from keys os (place + 1))
entries_from _ _ place = []

-- each entry has a lesser key than those behind it
abbrev pub AreStrictlySortedByKey : List (NaturalKey × Partner) → Type 0
AreStrictlySortedByKey [] = Unit {0}
AreStrictlySortedByKey (e ∷ es) = AllByRecursion (λ y. natural_key_cmp e.0 y.0 ≡ Less) es × AreStrictlySortedByKey es

-- the partner of an entry, where it has this key
abbrev pub partner_if : (NaturalKey × Partner) → NaturalKey → Option Partner
partner_if e k = if is_at (natural_key_cmp k) e.0 then Some e.1 else None
