-- When a chip holds exactly a view, up to identifiers. Own.
use Rattle.std.specs.Prelude.{◌≡◌, ◌⊎◌, List, [], ◌∷◌, Option, Some}
use Rattle.sai_types.specs.declared.thing.Thing.{Thing}
use Rattle.sai_types.specs.Objects.{Objects}
use Rattle.sai_types.specs.Named.{named}

-- whether an item is one of a list
abbrev pub IsIn : {X : Type 0} → X → List X → Type 0
IsIn x [] = ⊥
IsIn x (y ∷ ys) = (x ≡ y) ⊎ IsIn x ys

-- whether an item is one of a list, and not one of the items behind it
abbrev pub IsOnceIn : {X : Type 0} → X → List X → Type 0
IsOnceIn x [] = ⊥
IsOnceIn x (y ∷ ys) = ((x ≡ y) × ¬ (IsIn x ys)) ⊎ ((¬ (x ≡ y)) × IsOnceIn x ys)

-- a chip is alike to a view, a set of things, where each of its objects stands for a thing of the view, and each thing of the view is stood for by exactly one object
pub record IsAlike (objects : Objects) (view : Thing → Type 0) : Type 0 where
  pub each : (t : Option Thing) → IsIn t (named objects) → (x : Thing) × (t ≡ Some x) × view x
  pub once : (x : Thing) → view x → IsOnceIn (Some x) (named objects)
