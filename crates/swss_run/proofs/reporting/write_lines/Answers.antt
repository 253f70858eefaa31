use Rattle.std.proofs.Common.{rules, refl}
use Rattle.swss_run.specs.Running.IsWritten.{Whole, Failed, Wanting}
use Rattle.swss_run.proofs.reporting.write_lines.Goals as goal

pub returns-in-Written-clause-written : goal.returns-in-Written-clause-written
returns-in-Written-clause-written g c = Whole c.in-Ok.lines.items (c.in-Ok.ensures.text c.requires.follows) (search rules) (c.in-Ok.ensures.replay c.requires.follows).0 (c.in-Ok.ensures.replay c.requires.follows).1 refl

pub returns-in-Failed-clause-written : goal.returns-in-Failed-clause-written
returns-in-Failed-clause-written g c = Failed c.in-Ok.lines.items (c.in-Ok.ensures.text c.requires.follows) (search rules) (search rules) refl

pub returns-in-Ok-clause-written : goal.returns-in-Ok-clause-written
returns-in-Ok-clause-written g c = Wanting c.in-Ok.lines.items (c.in-Ok.ensures.text c.requires.follows) (search rules) refl
