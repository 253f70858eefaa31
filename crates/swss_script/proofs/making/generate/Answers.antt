use Rattle.std.proofs.Common.{subst, sym}
use Rattle.std.specs.List.{AllByRecursion}
use Rattle.table_schema.specs.Plan.{IsPlan}
use Rattle.table_schema.specs.Writes.{HasReadKey}
use Rattle.swss_script.specs.Sent.{writes_in}
use Rattle.swss_script.specs.Stage.{IsOfStage}
use Rattle.swss_script.specs.declared.script.Script.{Script}
use Rattle.swss_script.proofs.MadeKeys.{read-made}
use Rattle.swss_script.proofs.MadePorts.{IsPlan-made, stage-made}
use Rattle.swss_script.proofs.making.generate.Goals as goal

pub returns-clause-stage : goal.returns-clause-stage
returns-clause-stage c = subst IsOfStage (sym c.in_ok-script.ensures) (stage-made c.args.n c.args.seed)

pub returns-clause-plan : goal.returns-clause-plan
returns-clause-plan c = subst (λ (s : Script). IsPlan s.plan) (sym c.in_ok-script.ensures) IsPlan-made

pub returns-clause-read : goal.returns-clause-read
returns-clause-read c = subst (λ (s : Script). AllByRecursion (λ r. AllByRecursion (λ w. HasReadKey w.1) (writes_in r.sections)) s.rounds) (sym c.in_ok-script.ensures) (read-made c.args.n c.args.seed c.requires.few)
