use Rattle.std.proofs.Common.{rules, inl, inr, refl}
use Rattle.swss_run.proofs.view.write_view.Goals as goal

pub returns-in-Written-clause-viewed : goal.returns-in-Written-clause-viewed
returns-in-Written-clause-viewed g c = (c.in-Ok.lines.items, c.in-Ok.ensures, search rules)

pub returns-in-Failed-clause-viewed : goal.returns-in-Failed-clause-viewed
returns-in-Failed-clause-viewed g c = (c.in-Ok.lines.items, c.in-Ok.ensures, search rules)

pub returns-in-Ok-clause-viewed : goal.returns-in-Ok-clause-viewed
returns-in-Ok-clause-viewed g c = inr (c.in-Ok.lines.items, c.in-Ok.ensures, search rules)

pub returns-clause-viewed : goal.returns-clause-viewed
returns-clause-viewed g c = inl refl
