-- The image of the rows, as the report prints it. Own.
use Rattle.std.specs.Prelude.{ℕ, List, [], ◌∷◌, ◌++◌}
use Rattle.table_schema.specs.Rows.{Rows}
use Rattle.swss_image.specs.Saved.{image_text}

-- the image of rows, on a line of its own
abbrev pub shown_image : Rows → List ℕ
shown_image rows = image_text rows ++ 10 ∷ []
