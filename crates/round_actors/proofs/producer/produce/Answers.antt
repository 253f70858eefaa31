use Rattle.round_actors.proofs.Acting.{produced}
use Rattle.round_actors.proofs.producer.produce.Goals as goal

pub returns : goal.returns
returns g c = produced c.args.sections.now c.act_sections.result c.args.me.now c.act_sections.new.me c.act_sections.ensures
