use Rattle.std.proofs.Common.{rules, ◌≡◌, inr, None, Some, map, string_bytes, refl, sym, subst}
use Rattle.swss_words.specs.Words.{command}
use Rattle.swss_words.proofs.Written.{written-command}
use Rattle.swss_run.specs.Complete.{ComesToEnd}
use Rattle.swss_run.specs.Tells.{TellsByCommand}
use Rattle.swss_run.proofs.Completing.{comes_to_end, unrefused}
use Rattle.swss_run.proofs.Telling.{tells_of_no_words}
use Rattle.swss_run.proofs.run.swss_main.Goals as goal

pub carry_out-requires : goal.carry_out-requires
carry_out-requires g c =
    let words = map (λ w. string_bytes w) c.args.words.now in
    let meant : command words ≡ Some c.in-Ok-Some.command = search rules in
    (c.type_bounds.sync-R, (c.type_bounds.sync-G, (written-command words c.in-Ok-Some.command meant).0))

pub returns-in-Ok-Some-clause-session : goal.returns-in-Ok-Some-clause-session
returns-in-Ok-Some-clause-session g c =
    let meant : command (map (λ w. string_bytes w) c.args.words.now) ≡ Some c.in-Ok-Some.command = search rules in
    subst (λ o. TellsByCommand o c.carry_out.result (g.S.Source.left c.args.source.now) (g.S.Source.left c.carry_out.new.source) (g.K.Sink.holds c.args.sink.now) (g.K.Sink.holds c.carry_out.new.sink))
    (sym meant) c.carry_out.ensures.session

pub returns-in-Err-clause-session : goal.returns-in-Err-clause-session
returns-in-Err-clause-session g c =
    tells_of_no_words (command (map (λ w. string_bytes w) c.args.words.now)) c.without_session-in-Err.result (g.S.Source.left c.args.source.now) (g.K.Sink.holds c.args.sink.now)
    (λ none. let same = c.in-Err.ensures.refused none in cc) c.without_session-in-Err.ensures

pub returns-in-Ok-Some-clause-complete : goal.returns-in-Ok-Some-clause-complete
returns-in-Ok-Some-clause-complete g c = λ command' is accepted unread unwritten free.
    let words = map (λ w. string_bytes w) c.args.words.now in
    let meant : command words ≡ Some c.in-Ok-Some.command = search rules in
    let left = g.S.Source.left c.args.source.now in
    let left' = g.S.Source.left c.carry_out.new.source in
    comes_to_end c.carry_out.result left left' (g.K.Sink.holds c.args.sink.now) (g.K.Sink.holds c.carry_out.new.sink) free (λ failed. unwritten (c.carry_out.ensures.write_fault failed))
    c.in-Ok-Some.command (written-command words c.in-Ok-Some.command meant).0 c.carry_out.ensures.ran (λ failed. unread (c.carry_out.ensures.read_fault failed))
    (unrefused c.carry_out.result.status left left' c.carry_out.ensures.refusal accepted) c.carry_out.ensures.session

pub returns-in-Ok-None-clause-complete : goal.returns-in-Ok-None-clause-complete
returns-in-Ok-None-clause-complete g c = λ command' is accepted unread unwritten free.
    let none : command (map (λ w. string_bytes w) c.args.words.now) ≡ None = search rules in
    cc

pub returns-in-Err-clause-complete : goal.returns-in-Err-clause-complete
returns-in-Err-clause-complete g c = λ command' is accepted unread unwritten free. subst ComesToEnd (sym c.without_session-in-Err.ensures) (record { status = inr refl; marks = tt })
