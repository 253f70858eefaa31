-- the order of turns is that of their parts
use Rattle.std.proofs.Common.{◌≡◌, Ordering, refl, ap, nat_cmp}
use Rattle.std.specs.Option.{option_cmp}
use Rattle.std.specs.Ordering.{ordering_then}
use Rattle.sai_types.specs.contracts.kind.KindOrd.TheImpl as kind_ord
use Rattle.sai_types.specs.declared.kind.Kind.{Kind}
use Rattle.sai_types.specs.declared.kind.Kind.TheVariants as kind
use Rattle.sai_types.specs.Objects.{level}
use Rattle.view_match.specs.Keys.{natural_key_cmp}
use Rattle.apply_order.specs.Ranks.{timed_cmp}
use Rattle.apply_order.specs.Turns.{rank_order}
use Rattle.apply_order.specs.contracts.ranks.RankOrd.TheImpl as rank_ord
use Rattle.apply_order.specs.contracts.ranks.PlanStepOrd.TheImpl as step_ord
use Rattle.apply_order.specs.declared.ranks.Rank.{Rank}
use Rattle.apply_order.specs.declared.ranks.Rank.TheVariants as rank
use Rattle.apply_order.specs.declared.ranks.Timed.{Timed}

kinds-by_level : (k l : Kind) → kind_ord.ghosts.cmp k l ≡ nat_cmp (level k) (level l)
kinds-by_level kind.Port kind.Port = refl
kinds-by_level kind.Vlan kind.Vlan = refl
kinds-by_level kind.VirtualRouter kind.VirtualRouter = refl
kinds-by_level kind.BridgePort kind.BridgePort = refl
kinds-by_level kind.VlanMember kind.VlanMember = refl
kinds-by_level kind.Rif kind.Rif = refl
kinds-by_level kind.OwnAddress kind.OwnAddress = refl
kinds-by_level kind.Neighbor kind.Neighbor = refl
kinds-by_level kind.NextHop kind.NextHop = refl
kinds-by_level kind.Group kind.Group = refl
kinds-by_level kind.GroupMember kind.GroupMember = refl
kinds-by_level kind.Route kind.Route = refl
kinds-by_level k l = refl

ranks-by_phase : (r s : Rank) → rank_ord.ghosts.cmp r s ≡ rank_order r s
ranks-by_phase (rank.Clear k) (rank.Clear l) = kinds-by_level l.0 k.0
ranks-by_phase (rank.Build k) (rank.Build l) = kinds-by_level k l
ranks-by_phase (rank.Make k) (rank.Make l) = kinds-by_level k l
ranks-by_phase (rank.Set k) (rank.Set l) = kinds-by_level k l
ranks-by_phase (rank.MakeRoute m p) (rank.MakeRoute n q) = refl
ranks-by_phase (rank.SetRoute p) (rank.SetRoute q) = refl
ranks-by_phase (rank.RemoveRoute m p) (rank.RemoveRoute n q) = refl
ranks-by_phase (rank.Remove k) (rank.Remove l) = kinds-by_level l.0 k.0
ranks-by_phase r s = refl

pub turns-by_parts : (t u : Timed) → (rest : Ordering) × (timed_cmp t u ≡ ordering_then (rank_order t.rank u.rank) (ordering_then (option_cmp natural_key_cmp t.key u.key) (ordering_then (nat_cmp t.id u.id) rest)))
turns-by_parts t u = (step_ord.ghosts.cmp t.step u.step, ap (λ o. ordering_then o (ordering_then (option_cmp natural_key_cmp t.key u.key) (ordering_then (nat_cmp t.id u.id) (step_ord.ghosts.cmp t.step u.step)))) (ranks-by_phase t.rank u.rank))
