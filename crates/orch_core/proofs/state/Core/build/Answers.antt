use Rattle.std.proofs.Common.{◌∙◌, ap, length}
use Rattle.sai_types.specs.ChipState.{ChipState}
use Rattle.orch_core.proofs.Restores.{begins_err, build_first}
use Rattle.orch_core.proofs.state.Core.build.Goals as goal

pub go_over-requires : goal.go_over-requires
go_over-requires g c =
    let s = c.requires.service in
    let x = c.in_ok-begin_view.ensures.ok in
    record { built = (c.args.self.now, build_first c.args.self.now (g.C.Chip.state c.args.chip.now) s.0 s.1 c.requires.warm c.requires.popped x.0 x.2 x.3 c.begin_view.new.self x.1) }

pub begin_apply-requires : goal.begin_apply-requires
begin_apply-requires g c =
    let s = c.requires.service in
    let x = c.in_ok-begin_view.ensures.ok in
    let y = c.in_ok-go_over.ensures c.args.self.now (build_first c.args.self.now (g.C.Chip.state c.args.chip.now) s.0 s.1 c.requires.warm c.requires.popped x.0 x.2 x.3 c.begin_view.new.self x.1) in
    record { built = (c.args.self.now, g.C.Chip.state c.args.chip.now, s.0, s.1, c.requires.warm, c.requires.popped, y.0) }

pub returns-in_err-go_over : goal.returns-in_err-go_over
returns-in_err-go_over g c = λ s is.
    let x = c.in_ok-begin_view.ensures.ok in
    let y = c.in_err-go_over.ensures c.args.self.now (build_first c.args.self.now (g.C.Chip.state c.args.chip.now) s is c.requires.warm c.requires.popped x.0 x.2 x.3 c.begin_view.new.self x.1) in
    (y.1, begins_err s c.args.self.now (g.C.Chip.state c.args.chip.now) c.from_residual-in_err-go_over.result c.go_over.new.self c.from_residual-in_err-go_over.ensures.0 y.0)

pub returns : goal.returns
returns g c = λ s is.
    let x = c.in_ok-begin_view.ensures.ok in
    let y = c.in_ok-go_over.ensures c.args.self.now (build_first c.args.self.now (g.C.Chip.state c.args.chip.now) s is c.requires.warm c.requires.popped x.0 x.2 x.3 c.begin_view.new.self x.1) in
    (y.1, c.begin_apply.ensures c.args.self.now (g.C.Chip.state c.args.chip.now) s is c.requires.warm c.requires.popped (c.effects.ensures ∙ ap (λ (z : ChipState). length z.effects) y.1) y.0)
