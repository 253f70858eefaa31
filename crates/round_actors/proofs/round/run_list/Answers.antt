use Rattle.std.proofs.Common.{rules, ◌<◌, length, drop, get_or, sym, subst, ap, ◌∙◌}
use Rattle.round_actors.specs.Actors.{HaveRun, HasRun}
use Rattle.round_actors.proofs.Actors.{back, by_pair}
use Rattle.round_actors.proofs.round.run_list.Goals as goal

pub returns : goal.returns
returns g c =
    let sections = c.args.sections.now in
    let items = c.args.actors.now.items in
    let new = c.run_each.new.actors in
    let value = c.as_mut_slice.ensures.value in
    let long = c.run_each.auto.actors ∙ ap length value in
    subst (HaveRun sections items) (sym (back c.args.actors.now.len new (drop (length new) items) (search rules)))
    (by_pair (HasRun sections) items new long (λ i d l. subst (λ xs. HasRun sections (get_or xs i d) (get_or new i d)) value (c.run_each.ensures i d (subst (λ xs. i < length xs) (sym value) l))))
