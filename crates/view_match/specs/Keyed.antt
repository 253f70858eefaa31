-- The natural keys of old objects, and the names by which those of new objects are made. Own.
use Rattle.std.specs.Prelude.{◌≡◌, List}
use Rattle.sai_types.specs.declared.ids.Rid.{Rid}
use Rattle.sai_types.specs.declared.ids.Vid.{Vid}
use Rattle.sai_types.specs.declared.body.Object.{Object}
use Rattle.chip_names.specs.Naming.{AreNamesOf, NameTable, entries_of}
use Rattle.view_match.specs.declared.keyed.NaturalKeys.{NaturalKeys}
use Rattle.view_match.specs.Keys.{keys_of_objects}
use Rattle.view_match.specs.Listed.{objects_as, without_routes}

-- the names are those of the new objects to which others may refer
abbrev pub AreNewNames : List (Object Vid) → NameTable → Type 0
AreNewNames new names = AreNamesOf (entries_of (objects_as (without_routes new))) names

-- the keys are those of each of these old objects, in their order, and the names are those of these new ones
pub record AreNaturalKeysOf (old : List (Object Rid)) (new : List (Object Vid)) (keys : NaturalKeys) : Type 0 where
  pub of_old : keys.of_old.items ≡ keys_of_objects (entries_of old)
  pub of_new : AreNewNames new keys.new_names
