use Rattle.std.proofs.Common.{ap, option_map, ◌∙◌}
use Rattle.consumer_table.proofs.FirstKeys.{first_key}
use Rattle.consumer_table.proofs.to_sync.ToSync.first_key.Goals as goal

pub returns-in-Some : goal.returns-in-Some
returns-in-Some c = rw (← c.self.view_is) (ap (option_map (λ e. e.0)) c.in-Some.ensures ∙ first_key c.self.inside.ops)

pub returns-in-None : goal.returns-in-None
returns-in-None c = rw (← c.self.view_is) (ap (option_map (λ e. e.0)) c.in-None.ensures ∙ first_key c.self.inside.ops)
