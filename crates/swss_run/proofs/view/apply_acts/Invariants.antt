use Rattle.std.proofs.Common.{◌≡◌, drop}
use Rattle.table_schema.specs.Rows.{after_writes}
use Rattle.swss_script.specs.Sections.{acts_of}
use Rattle.swss_run.proofs.view.apply_acts.Given as goal

-- the acts that are left, applied to what stands now, come to all acts applied to what stood at the beginning
abbrev pub invariant-loop-act : goal.invariant-loop-act
invariant-loop-act l = after_writes l.rows (acts_of (drop l.act-index l.acts)) ≡ after_writes l.fn.rows (acts_of l.acts)
