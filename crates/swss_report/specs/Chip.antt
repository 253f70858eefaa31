-- What stands on the chip, as the report lists it. Own.
use Rattle.std.specs.Prelude.{List, ◌++◌, length, flat_map, codes, ℕ}
use Rattle.std.specs.List.Sorted.{IsPermutation, IsSorted}
use Rattle.table_schema.specs.Plan.{Ports}
use Rattle.sai_types.specs.Named.{named, those}
use Rattle.sai_types.specs.Objects.{Objects}
use Rattle.sai_types.specs.declared.thing.Thing.{Thing}
use Rattle.sai_types.specs.Order.{thing_cmp}
use Rattle.swss_report.specs.ChipLine.{chip_line}
use Rattle.swss_report.specs.Counted.{count_line}

-- what stands on the chip, in the order of the report: by kind, and within a kind by natural key
pub record Stand (objects : Objects) (things : List Thing) : Type 0 where
  pub stand : IsPermutation (those (named objects)) things
  pub ordered : IsSorted thing_cmp things

-- behind a word how many things there are, and their lines
abbrev pub things_text : List ℕ → Ports → List Thing → List ℕ
things_text word plan things = count_line word (length things) ++ flat_map (λ t. chip_line plan t) things

-- what stands on the chip
abbrev pub chip_text : Ports → List Thing → List ℕ
chip_text plan things = things_text (codes "chip ") plan things

-- what is to stand on it
abbrev pub view_text : Ports → List Thing → List ℕ
view_text plan things = things_text (codes "view ") plan things
