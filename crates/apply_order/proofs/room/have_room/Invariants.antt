use Rattle.std.proofs.Common.{◌≡◌, drop}
use Rattle.std.specs.List.{list_all}
use Rattle.apply_order.specs.Room.{has_room}
use Rattle.apply_order.proofs.room.have_room.Given as goal

-- there is room for each of the kinds so far
abbrev pub invariant-loop-kind : goal.invariant-loop-kind
invariant-loop-kind l = list_all (λ k. has_room l.caps.0 l.held l.lacking k) (drop l.kind-index l.kinds) ≡ list_all (λ k. has_room l.caps.0 l.held l.lacking k) l.kinds
