-- The objects of a new view, seen as those of a chip: the number of an identifier of the view in the place of one of the chip. Own.
use Rattle.std.specs.Prelude.{Bool, true, false, ◌&&◌, List, [], ◌∷◌, map, if◌then◌else◌}
use Rattle.sai_types.specs.declared.ids.Rid.{Rid}
use Rattle.sai_types.specs.declared.ids.Vid.{Vid}
use Rattle.sai_types.specs.declared.body.Body.{Body}
use Rattle.sai_types.specs.declared.body.Body.TheVariants as body
use Rattle.sai_types.specs.declared.body.Entry.{Entry}
use Rattle.sai_types.specs.declared.body.Entry.TheVariants as entry
use Rattle.sai_types.specs.declared.body.Object.{Object}
use Rattle.chip_layout.specs.Renamed.{body_renamed, entry_renamed}

abbrev pub rid_of : Vid → Rid
rid_of v = record { 0 = v.0 }

abbrev pub object_as : Object Vid → Object Rid
object_as o = record { entry = entry_renamed rid_of o.entry; body = body_renamed rid_of o.body }

abbrev pub objects_as : List (Object Vid) → List (Object Rid)
objects_as objects = map object_as objects

abbrev pub has_target : Body Vid → Bool
has_target (body.Route vr prefix to) = true
has_target _ = false

abbrev pub has_prefix : Entry Vid → Bool
has_prefix (entry.Route vr prefix) = true
has_prefix _ = false

-- whether an object is a route, and is found as one
abbrev pub is_route : Object Vid → Bool
is_route o = has_target o.body && has_prefix o.entry

-- the objects that others may refer to
abbrev pub without_routes : List (Object Vid) → List (Object Vid)
without_routes [] = []
without_routes (o ∷ os) = if is_route o then without_routes os else o ∷ without_routes os
