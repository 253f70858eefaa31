use Rattle.std.proofs.Common.{◌≡◌, ◌+◌, ◌++◌, ◌∷◌, [], drop, true, false, sym, ap, ◌∙◌, subst}
use Rattle.std.proofs.lemmas.List.{append-nil, drop_more}
use Rattle.view_match.specs.Pairs.{new_key, new_keys}
use Rattle.view_match.proofs.Routeless.{new_keys_among}
use Rattle.apply_order.specs.Calls.{is_needed}
use Rattle.apply_order.specs.Due.{needed, new_step, new_steps}
use Rattle.apply_order.specs.declared.ranks.Timed.{Timed}
use Rattle.apply_order.proofs.Filtered.{filter-next}
use Rattle.apply_order.proofs.due.push_new.Goals as goal
use Rattle.apply_order.proofs.due.push_new.Goals.{then-is_needed+in_ok-key+in_ok-push, else-is_needed}

pub loop-object-preserved : goal.loop-object-preserved
loop-object-preserved c =
    let new = c.args.new.now in
    let mode = c.args.mode in
    let i = c.loop-object.object-index in
    let o = c.object-item.result in
    let place = c.loop-object.place in
    let back = drop (i + 1) new in
    let front = c.loop-object.steps.items in
    let all_needed = needed c.args.names.now c.args.old.now new in
    let has_to_do = is_needed c.args.names.now c.args.old.now new in
    let t = new_step mode (new_key new o) o place c.partner-partner.result in
    let step_is = c.step_of.ensures mode (new_key new o) o in
    record {
      counted = ap (λ n. n + 1) c.loop-object.invariant.counted;
      made = λ known table.
          let ts = new_steps mode known (new_keys_among new back) back (place + 1) in
          let all = c.args.steps.now.items ++ all_needed (new_steps mode known (new_keys new) new 0) in
          let split = drop_more new i o c.loop-object-test.true ∙ ap (λ x. x ∷ back) (sym c.object-item.is) in
          let so_far = subst (λ q. front ++ all_needed (new_step mode (new_key new o) o place q ∷ ts) ≡ all) (sym (c.partner-partner.ensures known table))
          (subst (λ os. front ++ all_needed (new_steps mode known (new_keys_among new os) os place) ≡ all) split (c.loop-object.invariant.made known table)) in
          let next = filter-next (λ (u : Timed). has_to_do u.step) front c.if-is_needed.steps.items all t ts in
          elim c.if-is_needed.branch [
            | then-is_needed+in_ok-key+in_ok-push w ↦ next true (ap has_to_do (sym step_is) ∙ sym c.is_needed.ensures ∙ w.if-is_needed.true) (ap (λ v. v.items) w.steps-is ∙ w.in_ok-push.ensures.items ∙ ap (λ u. front ++ u ∷ []) (w.new_step.ensures ∙ ap (λ k. new_step mode k o place c.partner-partner.result) (w.in_ok-key.ensures new c.requires.named))) so_far
            | else-is_needed w ↦ next false (ap has_to_do (sym step_is) ∙ sym c.is_needed.ensures ∙ w.if-is_needed.false) (ap (λ v. v.items) w.steps-is ∙ sym (append-nil front)) so_far
          ];
    }
