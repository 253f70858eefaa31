use Rattle.std.proofs.Common.{sym, ap, subst, ◌∙◌}
use Rattle.apply_order.specs.Calls.{steps_calls}
use Rattle.apply_order.specs.Due.{due_steps}
use Rattle.apply_order.specs.Naming.{names_if}
use Rattle.apply_order.specs.Planned.{IsPlanOf}
use Rattle.apply_order.proofs.Left.{filled-needed}
use Rattle.apply_order.proofs.planned.plan_by.Goals as goal

pub returns : goal.returns
returns c =
    let O = c.args.old.now in
    let N = c.args.new.now in
    let pairs = c.items-pairs.result.now in
    let names = c.names_if-names.result in
    let f = filled-needed names O N (due_steps c.in_ok-mode.mode O N pairs) c.in_ok-steps.steps.items c.in_ok-steps.ensures.0 c.in_ok-steps.ensures.1 in
    let of_steps = c.in_ok-calls.ensures ∙ ap (steps_calls names O N) c.as_slice.ensures.value in
    let plan : IsPlanOf O N pairs c.args.caps.now.0 (record { mode = c.in_ok-mode.mode; calls = c.in_ok-calls.calls }) = record {
      mode = c.in_ok-mode.ensures;
      steps = f.filled;
      due = f.same;
      in_order = f.in_order;
      calls = of_steps ∙ sym f.calls ∙ ap (λ ids. steps_calls ids O N f.filled) (c.names_if-names.ensures ∙ ap (names_if c.in_ok-mode.mode) c.in_ok-named.ensures);
    } in
    subst (λ kept. IsPlanOf O N kept c.args.caps.now.0 (record { mode = c.in_ok-mode.mode; calls = c.in_ok-calls.calls })) c.items-pairs.ensures plan
