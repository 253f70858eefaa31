use Rattle.std.proofs.Common.{◌≡◌, false, rules, ap, ap₂, ◌∙◌}
use Rattle.ref_counts.specs.declared.name.Name.TheVariants as name
use Rattle.ref_counts.specs.Registry.{all_released, pinned}
use Rattle.orch_flight.specs.Sharing.{with_row_begun, with_shared}
use Rattle.orch_flight.proofs.Stages.{alike-lacks, alike-pinned, alike-ready, none-pinned, pins-undone}
use Rattle.orch_flight.proofs.beginning.begin.Goals as goal

pub begin_row-requires-clause-own : goal.begin_row-requires-clause-own
begin_row-requires-clause-own c =
    let pins : c.pin.new.self ≡ pinned c.args.reg.now c.args.worker c.args.key.now c.args.keys.now = search rules in
    λ not. none-pinned c.pin.new.self c.args.reg.now c.args.worker c.args.key.now c.args.keys.now (name.Row c.args.key.now) pins (c.requires.own not)

pub begin_row-requires-clause-shared : goal.begin_row-requires-clause-shared
begin_row-requires-clause-shared c =
    let pins : c.pin.new.self ≡ pinned c.args.reg.now c.args.worker c.args.key.now c.args.keys.now = search rules in
    alike-ready c.pin.new.self c.args.reg.now c.args.shared.now (alike-pinned c.pin.new.self c.args.reg.now c.args.worker c.args.key.now c.args.keys.now pins) c.requires.shared

pub returns-in-Err-begin_row-clause-err : goal.returns-in-Err-begin_row-clause-err
returns-in-Err-begin_row-clause-err c =
    let pins : c.pin.new.self ≡ pinned c.args.reg.now c.args.worker c.args.key.now c.args.keys.now = search rules in
    c.release.ensures ∙ ap (all_released c.args.worker false) (c.in-Err-begin_row.ensures.err ∙ pins) ∙ pins-undone c.args.worker c.args.key.now c.args.keys.now c.args.reg.now c.requires.unpinned

pub returns-clause-ok : goal.returns-clause-ok
returns-clause-ok c =
    let pins : c.pin.new.self ≡ pinned c.args.reg.now c.args.worker c.args.key.now c.args.keys.now = search rules in
    c.in_default.ensures.ok
    ∙ ap₂ (λ l b. with_shared (with_row_begun l c.args.worker c.args.key.now c.args.applied) c.args.worker c.args.key.now c.args.shared.now b) pins (alike-lacks c.pin.new.self c.args.reg.now c.args.shared.now (alike-pinned c.pin.new.self c.args.reg.now c.args.worker c.args.key.now c.args.keys.now pins) c.requires.shared)
