use Rattle.std.proofs.Common.{◌∙◌}
use Rattle.retry_list.proofs.Filed.{has-emptied, sets-removed}
use Rattle.retry_list.proofs.index.Index.unfile.Goals as goal

pub returns-then-take : goal.returns-then-take
returns-then-take c =
    let mid = c.take.new.self.keys in
    let new = c.remove.new.self in
    let event = c.args.event.now in
    let set = sets-removed mid new event c.len-rising.ensures.ordered c.remove.ensures.entries in
    λ e q. has-emptied mid new event e q set (c.if-take.ensures.last q) ∙ c.take.ensures.taken e q
