use Rattle.retry_list.proofs.Filed.{has-cleared, sets-removed}
use Rattle.retry_list.proofs.index.Index.clear.Goals as goal

pub returns-in-Some-clause-cleared : goal.returns-in-Some-clause-cleared
returns-in-Some-clause-cleared c =
    let es = c.args.self.now.keys in
    let new = c.remove.new.self in
    let event = c.args.event.now in
    λ e q. has-cleared es new event e q (sets-removed es new event c.len-rising.ensures.ordered c.remove.ensures.entries)

pub returns-in-None-clause-cleared : goal.returns-in-None-clause-cleared
returns-in-None-clause-cleared c =
    let es = c.args.self.now.keys in
    let new = c.remove.new.self in
    let event = c.args.event.now in
    λ e q. has-cleared es new event e q (sets-removed es new event c.len-rising.ensures.ordered c.remove.ensures.entries)
