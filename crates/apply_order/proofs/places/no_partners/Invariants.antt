use Rattle.std.proofs.Common.{◌≡◌, length}
use Rattle.apply_order.proofs.Tables.{AreNone}
use Rattle.apply_order.proofs.places.no_partners.Given as goal

-- the places so far have no partner
abbrev pub invariant-loop-place : goal.invariant-loop-place
invariant-loop-place l = (length l.places.items ≡ l._place) × AreNone l.places.items
