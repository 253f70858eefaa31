-- What stands at a place of a view's objects. Own.
use Rattle.std.specs.Prelude.{Option, Some, None}
use Rattle.asic_view.specs.declared.object.ViewObject.{ViewObject}
use Rattle.asic_view.specs.declared.place.Held.{Held}
use Rattle.asic_view.specs.declared.place.Held.TheVariants as held

-- the object with its tie, or none where what stood there was removed
abbrev pub object_in : Held → Option ViewObject
object_in held.Empty = None
object_in (held.Untied b) = Some (record { body = b; rid = None })
object_in (held.Tied b r) = Some (record { body = b; rid = Some r })
