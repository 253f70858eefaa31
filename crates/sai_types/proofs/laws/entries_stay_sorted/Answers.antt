use Rattle.sai_types.proofs.Found.{sorted-after_call}
use Rattle.sai_types.proofs.laws.entries_stay_sorted.Goals as goal

pub returns : goal.returns
returns c = sorted-after_call
