-- The rounds that a script runs: the first begins with the rows of its image. Own.
use Rattle.std.specs.Prelude.{ℕ, List, [], ◌∷◌, map}
use Rattle.table_schema.specs.Fields.{Pairs}
use Rattle.table_schema.specs.Rows.{Rows}
use Rattle.table_schema.specs.declared.key.Key.{Key}
use Rattle.table_schema.specs.declared.write.Sent.{Sent}
use Rattle.table_schema.specs.declared.write.Write.{Write}
use Rattle.table_schema.specs.declared.write.Write.TheVariants as write
use Rattle.swss_script.specs.Sent.{sent_by}
use Rattle.swss_script.specs.declared.parts.Act.{Act}
use Rattle.swss_script.specs.declared.parts.Act.TheVariants as act
use Rattle.swss_script.specs.declared.parts.Round.{Round}
use Rattle.swss_script.specs.declared.parts.Section.{Section}

-- a row as a write: its fields are set
abbrev pub row_written : Key × Pairs → Write
row_written row = write.Set row.0 row.1

abbrev pub row_act : Key × Pairs → Act
row_act row = act.Write (row_written row)

-- the rows of an image as the section of a sender that is no producer, whose number is 0: they are written in key order
abbrev pub image_section : Rows → Section
image_section image = record { producer = 0; acts = map row_act image }

-- rounds whose first has a section more, before its own
abbrev pub opened_with : Section → List Round → List Round
opened_with section [] = []
opened_with section (round ∷ rounds) = record { sections = section ∷ round.sections; shows = round.shows } ∷ rounds

-- rounds behind an image: where it has rows, the first round begins with them
abbrev pub rounds_behind : Rows → List Round → List Round
rounds_behind [] rounds = rounds
rounds_behind (row ∷ rows) rounds = opened_with (image_section (row ∷ rows)) rounds

-- the rows of an image as they are sent: by the sender 0, numbered from 0, in key order
abbrev pub image_sent : Rows → List Sent
image_sent image = sent_by 0 0 (map row_written image)
