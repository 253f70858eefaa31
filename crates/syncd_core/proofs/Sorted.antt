-- the objects of a chip, listed in any order and sorted by their entries
use Rattle.std.proofs.Common.{◌≡◌, List, [], ◌∷◌, map, refl, sym, ap, subst, IsPermutation, IsSortedByKey}
use Rattle.std.specs.List.Sorted.{IsStrictlySortedBy}
use Rattle.std.specs.Map.{keys_of}
use Rattle.std.proofs.lemmas.List.Sorted.{IsPermutation-trans}
use Rattle.sai_types.specs.declared.body.Entry.{Entry}
use Rattle.sai_types.specs.declared.body.Object.{Object}
use Rattle.sai_types.specs.declared.ids.Rid.{Rid}
use Rattle.sai_types.specs.ChipState.{AppendsEach, objects_of}
use Rattle.sai_types.specs.Objects.{Objects, entry_cmp}
use Rattle.sai_types.proofs.Entries.{entry_total}
use Rattle.syncd_core.proofs.InOrder.{once-in_order}

abbrev entry_in : Object Rid → Entry Rid
entry_in o = o.entry

entries-listed : (objects : Objects) → keys_of objects ≡ map entry_in (objects_of objects)
entries-listed [] = refl
entries-listed (o ∷ os) = ap (λ es. o.0 ∷ es) (entries-listed os)

pub sorted-listed : (objects : Objects) (listed sorted : List (Object Rid)) → AppendsEach objects [] listed → IsPermutation listed sorted → IsSortedByKey (λ (o : Object Rid). o.entry) entry_cmp sorted → sorted ≡ objects_of objects
sorted-listed objects listed sorted each same order =
    let all = subst (IsPermutation (objects_of objects)) (sym each.appended) each.once in
    once-in_order entry_in entry_cmp entry_total (objects_of objects) sorted (subst (IsStrictlySortedBy entry_cmp) (entries-listed objects) each.sorted) (IsPermutation-trans _ _ _ all same) order
