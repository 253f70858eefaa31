use Rattle.std.proofs.Common.{◌≡◌, drop}
use Rattle.switch_model.specs.Things.{members_of}
use Rattle.want_view.specs.Walk.{with_things}
use Rattle.want_view.proofs.things.put_members.Given as goal

-- the members that are left, put among what stands now, come to all members put among what stood at the beginning
abbrev pub invariant-loop-hop : goal.invariant-loop-hop
invariant-loop-hop l = with_things l.things.keys (members_of l.group (drop l.hop-index l.hops)) ≡ with_things l.fn.things.keys (members_of l.group l.hops)
