use Rattle.swss_types.proofs.Fronts.{take-front_kept, on_err}
use Rattle.swss_types.proofs.ip.write_groups.Goals as goal

pub returns-in_err-write_behind-in-len1-up-clause-err : goal.returns-in_err-write_behind-in-len1-up-clause-err
returns-in_err-write_behind-in-len1-up-clause-err c = on_err _ (take-front_kept _ _ _ _ c.in_err-write_behind-in-len1-up.ensures.err c.in_ok-write_group-in-len1-up.ensures.ok)
