-- The order of a plan's steps. A hitless plan makes before it sets and sets before it removes; it makes routes the longest prefix first and removes them the shortest first, so that each packet's way changes at most once; routes of one length go by prefix and then by virtual router. Own.
use Rattle.std.specs.declared.cmp.Ordering.{Ordering}
use Rattle.sai_types.specs.declared.body.Body.{Body}
use Rattle.sai_types.specs.declared.body.Body.TheVariants as body
use Rattle.sai_types.specs.declared.plan.Mode.{Mode}
use Rattle.sai_types.specs.declared.plan.Mode.TheVariants as mode
use Rattle.sai_types.specs.Objects.{kind_of}
use Rattle.apply_order.specs.declared.ranks.Rank.{Rank}
use Rattle.apply_order.specs.declared.ranks.Rank.TheVariants as rank
use Rattle.apply_order.specs.declared.ranks.Timed.{Timed}
use Rattle.apply_order.specs.contracts.ranks.TimedOrd.TheImpl as timed_ord

-- by rank, then by natural key, then by identifier
abbrev pub timed_cmp : Timed → Timed → Ordering
timed_cmp = timed_ord.ghosts.cmp

abbrev pub make_rank : {I : Type 0} → Mode → Body I → Rank
make_rank mode.Cold b = rank.Build (kind_of b)
make_rank mode.Hitless (body.Route vr prefix to) = rank.MakeRoute (record { 0 = prefix.len }) prefix
make_rank mode.Hitless b = rank.Make (kind_of b)

abbrev pub set_rank : {I : Type 0} → Body I → Rank
set_rank (body.Route vr prefix to) = rank.SetRoute prefix
set_rank b = rank.Set (kind_of b)

abbrev pub remove_rank : {I : Type 0} → Mode → Body I → Rank
remove_rank mode.Cold b = rank.Clear (record { 0 = kind_of b })
remove_rank mode.Hitless (body.Route vr prefix to) = rank.RemoveRoute prefix.len prefix
remove_rank mode.Hitless b = rank.Remove (record { 0 = kind_of b })
