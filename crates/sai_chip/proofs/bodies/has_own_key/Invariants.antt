use Rattle.std.proofs.Common.{◌≡◌}
use Rattle.std.specs.List.{list_any}
use Rattle.chip_names.specs.Naming.{numbered}
use Rattle.sai_chip.specs.Bodies.{is_own_key}
use Rattle.sai_chip.proofs.bodies.has_own_key.Given as goal

-- none of the own addresses so far is that of the packet
abbrev pub invariant-loop-key : goal.invariant-loop-key
invariant-loop-key l = list_any (is_own_key (numbered l.bodies) l.packet) l.key-iterator ≡ list_any (is_own_key (numbered l.bodies) l.packet) l.own.keys
