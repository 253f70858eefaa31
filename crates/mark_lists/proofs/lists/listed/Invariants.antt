use Rattle.std.proofs.Common.{◌≡◌, ◌++◌, List}
use Rattle.std.specs.Prelude.{option_map}
use Rattle.table_schema.specs.declared.key.Key.{Key}
use Rattle.retry_list.specs.Listed.{AreListedWith}
use Rattle.mark_lists.specs.Rows.{rows_on}
use Rattle.mark_lists.proofs.lists.listed.Given as goal

-- the keys up to this one are listed
abbrev pub invariant-loop-key : goal.invariant-loop-key
invariant-loop-key l = (done : List Key) × (l.fn.keys.items ≡ done ++ l.key-iterator.rest.items) × AreListedWith l.waiting (rows_on (option_map (λ b. b.now) l.board)) done l.waits.items
