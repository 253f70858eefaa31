use Rattle.sai_types.proofs.Found.{body_at-same}
use Rattle.sai_types.proofs.laws.equal_entries_find_alike.Goals as goal

pub returns : goal.returns
returns c = body_at-same
