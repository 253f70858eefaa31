-- Views that have all that their things refer to.
use Rattle.std.specs.Prelude.{◌≡◌}
use Rattle.sai_types.specs.declared.thing.Thing.{Thing}
use Rattle.sai_types.specs.Names.{ThingName, Refers, name_of}

-- a view is self-contained where whatever a thing of it refers to is in it
abbrev pub IsSelfContained : (Thing → Type 0) → Type 0
IsSelfContained view = (x : Thing) (k : ThingName) → view x → Refers x k → (y : Thing) × view y × (name_of y ≡ k)
