-- The order of turns, part by part. Own.
use Rattle.std.specs.Prelude.{ℕ}
use Rattle.std.specs.Ordering.{nat_cmp, ordering_then}
use Rattle.std.specs.declared.cmp.Ordering.{Ordering}
use Rattle.std.specs.declared.cmp.Ordering.TheVariants.{Equal}
use Rattle.swss_types.specs.AddressOrder.{prefix_cmp}
use Rattle.sai_types.specs.Objects.{level}
use Rattle.apply_order.specs.declared.ranks.Rank.{Rank}
use Rattle.apply_order.specs.declared.ranks.Rank.TheVariants as rank

-- a cold plan removes and then makes; a hitless one makes, sets, makes routes, sets routes, removes routes, and removes the others
abbrev pub phase : Rank → ℕ
phase (rank.Clear k) = 0
phase (rank.Build k) = 1
phase (rank.Make k) = 2
phase (rank.Set k) = 3
phase (rank.MakeRoute l p) = 4
phase (rank.SetRoute p) = 5
phase (rank.RemoveRoute l p) = 6
phase (rank.Remove k) = 7

-- in a phase: kinds rise where objects are made or set and fall where they are removed; routes are made by falling lengths of their prefixes and removed by rising ones, those of one length by their prefixes, by which they are set too
abbrev pub phase_order : Rank → Rank → Ordering
phase_order (rank.Clear k) (rank.Clear l) = nat_cmp (level l.0) (level k.0)
phase_order (rank.Build k) (rank.Build l) = nat_cmp (level k) (level l)
phase_order (rank.Make k) (rank.Make l) = nat_cmp (level k) (level l)
phase_order (rank.Set k) (rank.Set l) = nat_cmp (level k) (level l)
phase_order (rank.MakeRoute m p) (rank.MakeRoute n q) = ordering_then (nat_cmp n.0 m.0) (prefix_cmp p q)
phase_order (rank.SetRoute p) (rank.SetRoute q) = prefix_cmp p q
phase_order (rank.RemoveRoute m p) (rank.RemoveRoute n q) = ordering_then (nat_cmp m n) (prefix_cmp p q)
phase_order (rank.Remove k) (rank.Remove l) = nat_cmp (level l.0) (level k.0)
phase_order r s = Equal

abbrev pub rank_order : Rank → Rank → Ordering
rank_order r s = ordering_then (nat_cmp (phase r) (phase s)) (phase_order r s)
