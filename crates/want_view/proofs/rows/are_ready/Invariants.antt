use Rattle.std.proofs.Common.{◌≡◌, drop}
use Rattle.std.specs.List.{list_all}
use Rattle.want_view.specs.Walk.{is_ready}
use Rattle.want_view.proofs.rows.are_ready.Given as goal

-- each key so far is ready
abbrev pub invariant-loop-name : goal.invariant-loop-name
invariant-loop-name l = list_all (is_ready l.ready.keys) (drop l.name-index l.names) ≡ list_all (is_ready l.ready.keys) l.names
