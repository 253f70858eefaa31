use Rattle.std.proofs.Common.{rules, ◌≡◌, ◌∙◌, ◌-◌, ℕ, List, drop, take, length, Option, sym, ap, subst}
use Rattle.std.proofs.lemmas.List.{take_rest}
use Rattle.table_schema.specs.Plan.{Ports}
use Rattle.table_schema.specs.Rows.{Rows, rows_of}
use Rattle.sai_types.specs.ChipState.{ChipState}
use Rattle.sai_types.specs.Objects.{Objects}
use Rattle.sai_types.specs.declared.body.Call.{Call}
use Rattle.sai_types.specs.declared.ids.Rid.{Rid}
use Rattle.sai_chip.specs.Replay.{Replayed}
use Rattle.switch_model.specs.Marks.{sent_writes}
use Rattle.switch_model.specs.declared.mark.Mark.{Mark}
use Rattle.session_laws.specs.Core.{CoreState}
use Rattle.orch_core.specs.Restarting.{IsInService}
use Rattle.swss_script.specs.declared.parts.Show.{Show}
use Rattle.swss_run.specs.Running.{IsWritten}
use Rattle.swss_run.specs.declared.status.Status.{Status}
use Rattle.swss_run.proofs.Tables.{rows-shown}
use Rattle.swss_run.proofs.reporting.report.Goals as goal

-- the lines that were asked for, said in other words
written_as : (p p' : Ports) (n : ℕ) (ms ms' : List Mark) (t t' : ℕ) (r r' : Rows) (c : List ℕ) (o : Objects) (e : List (Call Rid)) (b : ℕ) (shows : List Show) (ended : Status) (held : Option (List ℕ)) (faults : ℕ) (result : Status) (replay : Replayed) (held' : Option (List ℕ)) (faults' : ℕ)
    → p ≡ p' → ms ≡ ms' → t ≡ t' → r ≡ r'
    → IsWritten (record { plan = p; number = n; marks = ms; taken = t; rows = r; capacities = c; objects = o; effects = e }) b shows ended held faults result replay held' faults'
    → IsWritten (record { plan = p'; number = n; marks = ms'; taken = t'; rows = r'; capacities = c; objects = o; effects = e }) b shows ended held faults result replay held' faults'
written_as p p' n ms ms' t t' r r' c o e b shows ended held faults result replay held' faults' plans marks taken rows written =
    subst (λ x. IsWritten (record { plan = x; number = n; marks = ms'; taken = t'; rows = r'; capacities = c; objects = o; effects = e }) b shows ended held faults result replay held' faults') plans
    (subst (λ x. IsWritten (record { plan = p; number = n; marks = x; taken = t'; rows = r'; capacities = c; objects = o; effects = e }) b shows ended held faults result replay held' faults') marks
    (subst (λ x. IsWritten (record { plan = p; number = n; marks = ms; taken = x; rows = r'; capacities = c; objects = o; effects = e }) b shows ended held faults result replay held' faults') taken
    (subst (λ x. IsWritten (record { plan = p; number = n; marks = ms; taken = t; rows = x; capacities = c; objects = o; effects = e }) b shows ended held faults result replay held' faults') rows written)))

pub returns-clause-written : goal.returns-clause-written
returns-clause-written g c =
    let same : c.core-core.result.now ≡ c.args.locked.now.core = c.core-core.ensures in
    let marks : c.marks.result.now ≡ c.args.locked.now.core.log.marks = search rules in
    let rows =
    c.rows_shown.ensures
    ∙ rows-shown c.core-core.result.now c.args.locked.now.chip c.in-Ok.behind c.is_behind.new.told.rows (subst (λ z. IsInService z c.args.locked.now.chip) (sym same) c.stand_for_one_session.ensures) c.in-Ok.ensures.rows c.is_behind.ensures.rising
    ∙ ap (λ (z : CoreState). rows_of (sent_writes z.log.taken)) same in
    let written =
    subst (λ (z : ChipState). IsWritten (record { plan = c.plan.result.now; number = c.args.number; marks = take (length c.marks.result.now - c.args.before) (drop c.args.before c.marks.result.now); taken = length c.taken.result.now; rows = c.rows_shown.result.now; capacities = z.capacities; objects = z.objects; effects = z.effects }) c.args.replay.now.at c.args.shows.now c.args.ended (g.K.Sink.holds c.args.sink.now) (g.K.Sink.faults c.args.sink.now) c.write_lines.result c.write_lines.new.replay (g.K.Sink.holds c.write_lines.new.sink) (g.K.Sink.faults c.write_lines.new.sink)) c.chip-chip.ensures c.write_lines.ensures.written in
    written_as c.plan.result.now c.args.locked.now.core.board.plan c.args.number (take (length c.marks.result.now - c.args.before) (drop c.args.before c.marks.result.now)) (drop c.args.before c.args.locked.now.core.log.marks) (length c.taken.result.now) (length c.args.locked.now.core.log.taken) c.rows_shown.result.now (rows_of (sent_writes c.args.locked.now.core.log.taken)) c.args.locked.now.chip.capacities c.args.locked.now.chip.objects c.args.locked.now.chip.effects c.args.replay.now.at c.args.shows.now c.args.ended (g.K.Sink.holds c.args.sink.now) (g.K.Sink.faults c.args.sink.now) c.write_lines.result c.write_lines.new.replay (g.K.Sink.holds c.write_lines.new.sink) (g.K.Sink.faults c.write_lines.new.sink)
    (search rules)
    (take_rest c.marks.result.now c.args.before ∙ ap (drop c.args.before) marks)
    (search rules)
    rows
    written
