use Rattle.app_restart.proofs.Keeping.{IsCacheInOrder-kept, cached-kept}
use Rattle.app_restart.proofs.cache.Cache.restore.Goals as goal

pub invariant_of-result : goal.invariant_of-result
invariant_of-result c =
    rw (c.in_ok-copy.ensures, c.in_ok-keep_each.ensures, c.new-entries.ensures, c.iter.ensures.rest) (IsCacheInOrder-kept c.args.table.now c.args.rows.now c.iter.ensures.rising)

pub returns : goal.returns
returns c = rw (c.in_ok-copy.ensures, c.in_ok-keep_each.ensures, c.new-entries.ensures, c.iter.ensures.rest) (cached-kept c.args.table.now c.args.rows.now c.iter.ensures.rising)
