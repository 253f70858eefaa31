use Rattle.std.proofs.Common.{◌∙◌, sym}
use Rattle.swss_cases.proofs.rounds.session.read_session.Goals as goal

pub begin-requires : goal.begin-requires
begin-requires c = record { read = (c.args.text.now, sym c.in_ok-script.ensures ∙ c.in-Ok.is) }
