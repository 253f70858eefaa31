use Rattle.std.proofs.Common.{◌∙◌}
use Rattle.swss_script.proofs.MadePorts.{port-fits, port-put}
use Rattle.swss_script.proofs.making.put_port.Goals as goal

pub unreachable-requires : goal.unreachable-requires
unreachable-requires c = port-fits c.args.k c.args.plan.now c.put.new.self c.as_bytes.result.now c.in_ok-answer.answer c.in-Err.field-0 c.requires.few c.requires.before (c.as_bytes.ensures.value ∙ c.in_ok-line.ensures) c.in_ok-answer.ensures.ok c.in-Err.is

pub returns : goal.returns
returns c = port-put c.args.k c.args.plan.now c.put.new.self c.as_bytes.result.now c.in_ok-answer.answer c.requires.few c.requires.before (c.as_bytes.ensures.value ∙ c.in_ok-line.ensures) c.in_ok-answer.ensures.ok
