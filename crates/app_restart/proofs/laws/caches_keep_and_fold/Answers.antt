use Rattle.app_restart.proofs.Finishing.{cache_after_all-more, differences-writes, kept-writes, sent-writes}
use Rattle.app_restart.proofs.laws.caches_keep_and_fold.Goals as goal

pub returns-clause-kept : goal.returns-clause-kept
returns-clause-kept c = kept-writes

pub returns-clause-sent : goal.returns-clause-sent
returns-clause-sent c = sent-writes

pub returns-clause-reconciled : goal.returns-clause-reconciled
returns-clause-reconciled c = differences-writes

pub returns-clause-more : goal.returns-clause-more
returns-clause-more c = cache_after_all-more
