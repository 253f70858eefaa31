use Rattle.std.proofs.Common.{◌≡◌, ◌<◌, true, false, length, Some, sym, ap, ◌∙◌, subst}
use Rattle.lpm_table.specs.Longest.{best_prefix}
use Rattle.lpm_table.specs.Parts.{whole}
use Rattle.lpm_table.specs.Trees.{AreOf, members_at, lent_members}
use Rattle.lpm_table.proofs.Bests.{or_best, own_best}
use Rattle.lpm_table.proofs.Walks.{AtWalk, better_not, better_put, none_seen, walk_end, walk_fits, walk_out, walk_side, walk_side_less}
use Rattle.lpm_table.proofs.tree.best.Goals as goal
use Rattle.lpm_table.proofs.tree.best.Goals.{then-tree, else-tree}

pub overflow_sub-rest : goal.overflow_sub-rest
overflow_sub-rest c =
    let i = c.tree.inside in
    let e : lent_members c.loop-link.link ≡ c.in-Some.tree.now = ap lent_members c.in-Some.is in
    let h : AtWalk (whole i.parts) i.put (members_at false i.below) (members_at true i.below) c.in-Some.tree.now c.args.ip c.loop-link.best (best_prefix c.args.root.now c.args.ip) c.width.result = record { node = c.tree.invariant; is = c.tree.view_is; of = subst (AreOf c.args.ip.family) e c.loop-link.invariant.0; kept = ap (λ l. or_best (best_prefix l c.args.ip) c.loop-link.best) (sym e) ∙ c.loop-link.invariant.1; wide = c.width.ensures } in
    walk_fits h

pub returns-then-not-agree : goal.returns-then-not-agree
returns-then-not-agree c =
    let i = c.tree.inside in
    let e : lent_members c.loop-link.link ≡ c.in-Some.tree.now = ap lent_members c.in-Some.is in
    let h : AtWalk (whole i.parts) i.put (members_at false i.below) (members_at true i.below) c.in-Some.tree.now c.args.ip c.loop-link.best (best_prefix c.args.root.now c.args.ip) c.width.result = record { node = c.tree.invariant; is = c.tree.view_is; of = subst (AreOf c.args.ip.family) e c.loop-link.invariant.0; kept = ap (λ l. or_best (best_prefix l c.args.ip) c.loop-link.best) (sym e) ∙ c.loop-link.invariant.1; wide = c.width.ensures } in
    walk_out h c.if-not-agree.ensures

pub returns-then-rest-eq0 : goal.returns-then-rest-eq0
returns-then-rest-eq0 c =
    let i = c.tree.inside in
    let e : lent_members c.loop-link.link ≡ c.in-Some.tree.now = ap lent_members c.in-Some.is in
    let h : AtWalk (whole i.parts) i.put (members_at false i.below) (members_at true i.below) c.in-Some.tree.now c.args.ip c.loop-link.best (best_prefix c.args.root.now c.args.ip) c.width.result = record { node = c.tree.invariant; is = c.tree.view_is; of = subst (AreOf c.args.ip.family) e c.loop-link.invariant.0; kept = ap (λ l. or_best (best_prefix l c.args.ip) c.loop-link.best) (sym e) ∙ c.loop-link.invariant.1; wide = c.width.ensures } in
    let new : c.if-tree.best ≡ or_best (own_best i.put (whole i.parts)) c.loop-link.best = elim c.if-tree.branch [
      | then-tree w ↦ better_put (whole i.parts) i.put c.loop-link.best c.if-tree.best w.if-tree.true (w.best-is ∙ ap Some w.whole.ensures)
      | else-tree w ↦ better_not (whole i.parts) i.put c.loop-link.best c.if-tree.best w.if-tree.false w.best-is
    ] in
    walk_end h c.if-not-agree.ensures c.if-tree.best new c.if-rest-eq0.true

pub loop-link-preserved : goal.loop-link-preserved
loop-link-preserved c =
    let i = c.tree.inside in
    let e : lent_members c.loop-link.link ≡ c.in-Some.tree.now = ap lent_members c.in-Some.is in
    let h : AtWalk (whole i.parts) i.put (members_at false i.below) (members_at true i.below) c.in-Some.tree.now c.args.ip c.loop-link.best (best_prefix c.args.root.now c.args.ip) c.width.result = record { node = c.tree.invariant; is = c.tree.view_is; of = subst (AreOf c.args.ip.family) e c.loop-link.invariant.0; kept = ap (λ l. or_best (best_prefix l c.args.ip) c.loop-link.best) (sym e) ∙ c.loop-link.invariant.1; wide = c.width.ensures } in
    let new : c.if-tree.best ≡ or_best (own_best i.put (whole i.parts)) c.loop-link.best = elim c.if-tree.branch [
      | then-tree w ↦ better_put (whole i.parts) i.put c.loop-link.best c.if-tree.best w.if-tree.true (w.best-is ∙ ap Some w.whole.ensures)
      | else-tree w ↦ better_not (whole i.parts) i.put c.loop-link.best c.if-tree.best w.if-tree.false w.best-is
    ] in
    subst (λ l. AreOf c.args.ip.family l × (or_best (best_prefix l c.args.ip) c.if-tree.best ≡ best_prefix c.args.root.now c.args.ip)) (sym c.tree_at-link.ensures) (walk_side i.below h c.is_one.result c.if-not-agree.ensures c.if-tree.best new c.is_one.ensures)

pub loop-link-smaller : goal.loop-link-smaller
loop-link-smaller c =
    let i = c.tree.inside in
    let e : lent_members c.loop-link.link ≡ c.in-Some.tree.now = ap lent_members c.in-Some.is in
    let h : AtWalk (whole i.parts) i.put (members_at false i.below) (members_at true i.below) c.in-Some.tree.now c.args.ip c.loop-link.best (best_prefix c.args.root.now c.args.ip) c.width.result = record { node = c.tree.invariant; is = c.tree.view_is; of = subst (AreOf c.args.ip.family) e c.loop-link.invariant.0; kept = ap (λ l. or_best (best_prefix l c.args.ip) c.loop-link.best) (sym e) ∙ c.loop-link.invariant.1; wide = c.width.ensures } in
    subst (λ l. length l < length (lent_members c.loop-link.link)) (sym c.tree_at-link.ensures) (subst (λ l. length (members_at c.is_one.result i.below) < length l) (sym e) (walk_side_less i.below h c.is_one.result))

pub returns : goal.returns
returns c = ap (λ l. or_best (best_prefix l c.args.ip) c.loop-link.best) (sym (none_seen c.loop-link.link c.in_default.not-Some)) ∙ c.loop-link.invariant.1
