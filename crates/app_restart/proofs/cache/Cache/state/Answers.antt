use Rattle.std.proofs.Common.{◌∙◌, ap, sym, option_and_then}
use Rattle.app_restart.specs.Entry.{entry_state}
use Rattle.app_restart.proofs.Writing.{state_at-cached}
use Rattle.app_restart.proofs.cache.Cache.state.Goals as goal

pub returns-in-Some : goal.returns-in-Some
returns-in-Some c =
    let told = state_at-cached c.self.inside.table c.self.inside.entries c.args.key.now c.self.invariant.rising in
    rw (← c.self.view_is) (c.state.ensures ∙ ap (option_and_then entry_state) c.in-Some.ensures ∙ sym told)

pub returns-in-None : goal.returns-in-None
returns-in-None c =
    let told = state_at-cached c.self.inside.table c.self.inside.entries c.args.key.now c.self.invariant.rising in
    rw (← c.self.view_is) (ap (option_and_then entry_state) c.in-None.ensures ∙ sym told)
