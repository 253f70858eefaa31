-- a list of the objects in their order has each of them once
use Rattle.std.proofs.Common.{◌≡◌, ◌++◌, List}
use Rattle.std.proofs.lemmas.List.Sorted.{IsPermutation-refl}
use Rattle.sai_types.specs.declared.body.Object.{Object}
use Rattle.sai_types.specs.declared.ids.Rid.{Rid}
use Rattle.sai_types.specs.ChipState.{AppendsEach, objects_of}
use Rattle.sai_types.specs.Made.{AreSorted}
use Rattle.sai_types.specs.Objects.{Objects}

pub each_appended : (objects : Objects) (out out' : List (Object Rid)) → AreSorted objects → out' ≡ out ++ objects_of objects → AppendsEach objects out out'
each_appended objects out out' sorted appended = record { sorted = sorted; more = objects_of objects; appended = appended; once = IsPermutation-refl (objects_of objects) }
