-- By which identifiers the things of a view stand on the chip once a plan's calls were made. Own.
use Rattle.std.specs.Prelude.{◌≡◌, ◌⊎◌, List, [], ◌∷◌}
use Rattle.sai_types.specs.declared.ids.Rid.{Rid}
use Rattle.sai_types.specs.declared.ids.Vid.{Vid}
use Rattle.sai_types.specs.declared.thing.Thing.{Thing}
use Rattle.sai_types.specs.Names.{name_of}
use Rattle.chip_layout.specs.Layout.{Has, Layout}

-- a view's things with the identifiers that they come to on the chip
abbrev pub renamed_by : (Vid → Rid) → List (Vid × Thing) → List (Rid × Thing)
renamed_by final [] = []
renamed_by final (x ∷ xs) = (final x.0, x.1) ∷ renamed_by final xs

-- a thing of the view has the identifier of the old thing of its name, or, where there was none, the one that was made for it
abbrev pub IsIdOf : Layout Rid → (Vid → Rid) → Vid → Thing → Rid → Type 0
IsIdOf start ids v t i = Has start (name_of t) i ⊎ (((j : Rid) → Has start (name_of t) j → ⊥) × (i ≡ ids v))

-- the view's identifiers, as a plan names them
abbrev pub as_vids : List (Rid × Thing) → List (Vid × Thing)
as_vids [] = []
as_vids (x ∷ xs) = (record { 0 = x.0.0 }, x.1) ∷ as_vids xs
