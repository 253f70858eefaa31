-- How the chips and views of a case hang together, so that each call can be tried before it is made. Own.
use Rattle.std.specs.Prelude.{◌≡◌, List, Option, Some, None, count_by}
use Rattle.sai_types.specs.declared.ids.Rid.{Rid}
use Rattle.sai_types.specs.declared.ids.Vid.{Vid}
use Rattle.sai_types.specs.declared.answer.ChipAnswer.{ChipAnswer}
use Rattle.sai_types.specs.declared.answer.ChipAnswer.TheVariants as answer
use Rattle.sai_types.specs.declared.body.Object.{Object}
use Rattle.sai_types.specs.After.{makes_id}
use Rattle.sai_types.specs.ChipState.{ChipState}
use Rattle.sai_types.specs.Made.{IsWhole}
use Rattle.asic_view.specs.View.{ViewObjects, as_chip}
use Rattle.syncd_core.specs.Begun.{objects_listed}
use Rattle.syncd_core.specs.Synced.{SyncState}

-- what the chip answered to a call that took effect
abbrev pub tested_answer : Option Rid → ChipAnswer
tested_answer None = answer.Done
tested_answer (Some r) = answer.Made r

-- two chips answer each call alike
pub record AreTwins (chip twin : ChipState) : Type 0 where
  pub objects : chip.objects ≡ twin.objects
  pub effects : chip.effects ≡ twin.effects
  pub capacities : chip.capacities ≡ twin.capacities

-- what holds of a chip that legal calls made
abbrev pub IsWholeChip : ChipState → Type 0
IsWholeChip chip = IsWhole (count_by makes_id chip.effects) chip.objects

-- a chip holds the temporary view, under the same numbers, and a list holds its objects
pub record AreLinked (s : SyncState) (objects : List (Object Vid)) (chip : ChipState) : Type 0 where
  pub view : ViewObjects
  pub temporary : s.temporary ≡ Some view
  pub listed : objects ≡ objects_listed view
  pub same : chip.objects ≡ as_chip view
  pub whole : IsWholeChip chip
