-- Which forms a script of this stage has: a stage that brings a form takes its line out here. Own.
use Rattle.std.specs.Prelude.{◌≡◌, ℕ, ◌==◌, ◌<◌, ◌≤◌, false, List, [], ◌∷◌, length}
use Rattle.std.specs.List.{AllByRecursion, list_any}
use Rattle.table_schema.specs.Fields.{Pairs}
use Rattle.table_schema.specs.Plan.{IsPlan}
use Rattle.table_schema.specs.ProperKey.{IsReadKey}
use Rattle.table_schema.specs.Rows.{Rows}
use Rattle.table_schema.specs.declared.key.Key.{Key}
use Rattle.swss_script.specs.declared.draft.TheConstants.{MOST_PRODUCERS}
use Rattle.swss_script.specs.declared.parts.Fail2.{Fail2}
use Rattle.swss_script.specs.declared.parts.Section.{Section}
use Rattle.swss_script.specs.declared.script.Script.{Script}

-- each failing call is named once: no two have one number
abbrev pub NameEachOnce : List Fail2 → Type 0
NameEachOnce [] = Unit {0}
NameEachOnce (fail ∷ fails) = (list_any (λ other. other.at == fail.at) fails ≡ false) × NameEachOnce fails

-- a number of so many that are counted from 1
abbrev pub IsProducerNumber : ℕ → ℕ → Type 0
IsProducerNumber count number = (0 < number) × (number ≤ count)

-- the sections are of so many producers
abbrev pub AreOfProducers : ℕ → List Section → Type 0
AreOfProducers count sections = AllByRecursion (λ s. IsProducerNumber count s.producer) sections

-- a row of an image has a key that was read, and a field
abbrev pub IsImageRow : Key × Pairs → Type 0
IsImageRow row = IsReadKey row.0 × (0 < length row.1)

abbrev pub AreImageRows : Rows → Type 0
AreImageRows rows = AllByRecursion IsImageRow rows

-- what an accepted script of this stage has: failing calls with numbers of their own, an image of rows whose keys were read and
-- each of which has a field, a plan, no more producers than a script may have, and at least one round
pub record IsOfStage (script : Script) : Type 0 where
  pub fails : NameEachOnce script.fails
  pub image : AreImageRows script.image
  pub plan : IsPlan script.plan
  pub producers : length script.producers ≤ MOST_PRODUCERS
  pub several : 0 < length script.rounds
  pub numbers : AllByRecursion (λ r. AreOfProducers (length script.producers) r.sections) script.rounds
