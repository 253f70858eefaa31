-- The pairs that a row keeps, in a list or in a map. Own.
use Rattle.std.specs.Prelude.{[], Option, None, Some}
use Rattle.std.specs.Arc.{arc_value}
use Rattle.std.specs.declared.sync.Arc.{Arc}
use Rattle.std.specs.Slice.Iter.{iter_rest}
use Rattle.table_schema.specs.Fields.{Pairs}
use Rattle.table_schema.specs.declared.held.Held.{Held}
use Rattle.table_schema.specs.declared.held.Held.TheVariants as held
use Rattle.table_schema.specs.declared.items.Left.{Left}
use Rattle.table_schema.specs.declared.items.Left.TheVariants as left

-- the pairs
abbrev pub pairs_in : Held → Pairs
pairs_in (held.Few pairs) = pairs.items
pairs_in (held.Many pairs) = pairs.entries

-- the pairs that an iterator has left
abbrev pub pairs_left : Left → Pairs
pairs_left (left.Few pairs) = iter_rest pairs
pairs_left (left.Many pairs) = pairs

-- the pairs that owners share
abbrev pub pairs_shared : {Z : Type 0} → Option (Arc Pairs Z) → Pairs
pairs_shared None = []
pairs_shared (Some shared) = arc_value shared
