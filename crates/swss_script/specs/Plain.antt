-- Scripts whose writes each have a line of their own. Own.
use Rattle.std.specs.Prelude.{ℕ, Bool, true, false, List}
use Rattle.std.specs.List.{list_any}
use Rattle.swss_script.specs.Lines.{lines_in}
use Rattle.swss_script.specs.Sections.{told}
use Rattle.swss_script.specs.declared.line.Line.{Line}
use Rattle.swss_script.specs.declared.line.Line.TheVariants.{Batch}

-- a line that is a batch may have any number of writes, every other line has one at most
abbrev pub is_batch : Line → Bool
is_batch (Batch writes) = true
is_batch line = false

-- whether a text has a batch, on a line or in a block
abbrev pub has_batch : List ℕ → Bool
has_batch bytes = list_any is_batch (told false (lines_in bytes))
