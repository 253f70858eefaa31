-- The rows that a mark lists beside its keys. Own.
use Rattle.std.specs.Prelude.{Option, Some, None}
use Rattle.table_schema.specs.declared.key.Key.{Key}
use Rattle.table_schema.specs.declared.row.Row.{Row}
use Rattle.retry_list.specs.Listed.{without_row}
use Rattle.flight_board.specs.Applied.{row_at}
use Rattle.flight_board.specs.Board.{BoardState}

-- the applied rows of a board, and none where there is no board
abbrev pub rows_on : Option BoardState → Key → Option Row
rows_on (Some board) = row_at board.applied
rows_on None = without_row
