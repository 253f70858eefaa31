use Rattle.std.proofs.Common.{◌∙◌, ◌<◌, Ok, Some, ap, length, subst, sym}
use Rattle.std.specs.Map.{keys_of}
use Rattle.consumer_table.specs.Ops.{Ops, first_in, keys_behind}
use Rattle.sync_tables.proofs.Walks.{next-key, no-key}
use Rattle.session_laws.specs.Core.{CoreState}
use Rattle.orch_core.specs.Outcomes.{BeginsOrDrops}
use Rattle.orch_core.proofs.Turns.{AreBehind, behind_fewer, behind_on}
use Rattle.orch_core.proofs.Walks.{IsWalkedTo, same_itself, steps_err, walk_done, walk_err, walk_idle, walk_on}
use Rattle.orch_core.proofs.state.Core.begin_first.Goals as goal

pub returns-in_err-key : goal.returns-in_err-key
returns-in_err-key c = λ s chip is. steps_err s c.args.worker c.args.self.now chip c.from_residual.result c.loop-after.self c.from_residual.ensures.0
    (λ e. walk_err c.args.self.now c.loop-after.self c.loop-after.self c.loop-after.after e c.loop-after.invariant.0 (same_itself c.loop-after.self) c.args.worker c.requires.none s chip (c.loop-after.invariant.0.1 s chip is).0)

pub begins-requires-clause-key : goal.begins-requires-clause-key
begins-requires-clause-key c =
    let next = ap (λ o. first_in (keys_behind o (keys_of c.loop-after.self.tables.ops))) (sym c.as_ref.ensures.value) ∙ sym c.in_ok-key.ensures.next ∙ c.in-Some.is in
    (next-key c.loop-after.after c.loop-after.self.tables.ops c.in-Some.key c.key_behind.ensures.order.keys next).there

pub returns-in_err-begins : goal.returns-in_err-begins
returns-in_err-begins c = λ s chip is.
    let there = (c.loop-after.invariant.0.1 s chip is).0 in
    let x = subst (λ r. BeginsOrDrops s c.args.worker c.in-Some.key c.loop-after.self chip r c.begins.new.self) c.in_err-begins.was (c.begins.ensures s chip there) in
    steps_err s c.args.worker c.args.self.now chip c.from_residual-in_err-begins.result c.begins.new.self c.from_residual-in_err-begins.ensures.0
    (λ e. walk_err c.args.self.now c.loop-after.self c.begins.new.self c.loop-after.after e c.loop-after.invariant.0 x.0 c.args.worker c.requires.none s chip x.1)

pub returns-then-branch : goal.returns-then-branch
returns-then-branch c = λ s chip is.
    let next = ap (λ o. first_in (keys_behind o (keys_of c.loop-after.self.tables.ops))) (sym c.as_ref.ensures.value) ∙ sym c.in_ok-key.ensures.next ∙ c.in-Some.is in
    let there = (c.loop-after.invariant.0.1 s chip is).0 in
    walk_done c.args.self.now c.loop-after.self c.loop-after.after c.loop-after.invariant.0 c.in-Some.key
    (next-key c.loop-after.after c.loop-after.self.tables.ops c.in-Some.key c.key_behind.ensures.order.keys next) c.args.worker c.requires.warm c.requires.none c.requires.popped s chip is c.begins.new.self
    (subst (λ r. BeginsOrDrops s c.args.worker c.in-Some.key c.loop-after.self chip r c.begins.new.self) (c.in_ok-begins.was ∙ ap Ok c.if-branch.true) (c.begins.ensures s chip there))

pub loop-after-smaller : goal.loop-after-smaller
loop-after-smaller c =
    let next = ap (λ o. first_in (keys_behind o (keys_of c.loop-after.self.tables.ops))) (sym c.as_ref.ensures.value) ∙ sym c.in_ok-key.ensures.next ∙ c.in-Some.is in
    let chip = c.requires.session.0 in
    let s = c.requires.session.1 in
    let there = (c.loop-after.invariant.0.1 s.0 chip s.1).0 in
    let x = subst (λ r. BeginsOrDrops s.0 c.args.worker c.in-Some.key c.loop-after.self chip r c.begins.new.self) (c.in_ok-begins.was ∙ ap Ok c.if-branch.false) (c.begins.ensures s.0 chip there) in
    let same = ap (λ (z : CoreState). z.tables.ops) x.0.2 in
    subst (λ o. length (keys_behind o (keys_of c.begins.new.self.tables.ops)) < length (keys_behind c.loop-after.after (keys_of c.loop-after.self.tables.ops))) (sym c.replace.ensures.after)
    (subst (λ (l : Ops). length (keys_behind (Some c.in-Some.key) (keys_of l)) < length (keys_behind c.loop-after.after (keys_of c.loop-after.self.tables.ops))) (sym same)
    (behind_fewer c.loop-after.self.tables.ops c.loop-after.after c.in-Some.key c.key_behind.ensures.order c.loop-after.invariant.1 next))

pub loop-after-preserved : goal.loop-after-preserved
loop-after-preserved c =
    let next = ap (λ o. first_in (keys_behind o (keys_of c.loop-after.self.tables.ops))) (sym c.as_ref.ensures.value) ∙ sym c.in_ok-key.ensures.next ∙ c.in-Some.is in
    let chip = c.requires.session.0 in
    let s = c.requires.session.1 in
    let there = (c.loop-after.invariant.0.1 s.0 chip s.1).0 in
    let x = subst (λ r. BeginsOrDrops s.0 c.args.worker c.in-Some.key c.loop-after.self chip r c.begins.new.self) (c.in_ok-begins.was ∙ ap Ok c.if-branch.false) (c.begins.ensures s.0 chip there) in
    let same = ap (λ (z : CoreState). z.tables.ops) x.0.2 in
    subst (λ o. IsWalkedTo c.args.self.now o c.begins.new.self × AreBehind o (keys_of c.begins.new.self.tables.ops)) (sym c.replace.ensures.after) (
      walk_on c.args.self.now c.loop-after.self c.loop-after.after c.loop-after.invariant.0 c.in-Some.key (next-key c.loop-after.after c.loop-after.self.tables.ops c.in-Some.key c.key_behind.ensures.order.keys next) c.begins.new.self c.requires.session
          (λ t k is. subst (λ r. BeginsOrDrops t c.args.worker c.in-Some.key c.loop-after.self k r c.begins.new.self) (c.in_ok-begins.was ∙ ap Ok c.if-branch.false) (c.begins.ensures t k is)),
      subst (λ (l : Ops). AreBehind (Some c.in-Some.key) (keys_of l)) (sym same) (behind_on c.loop-after.self.tables.ops c.loop-after.after c.in-Some.key c.key_behind.ensures.order c.loop-after.invariant.1 next),
    )

pub returns : goal.returns
returns c = λ s chip is.
    let none = ap (λ o. first_in (keys_behind o (keys_of c.loop-after.self.tables.ops))) (sym c.as_ref.ensures.value) ∙ sym c.in_ok-key.ensures.next ∙ c.in_default.is in
    walk_idle c.args.self.now c.loop-after.self c.loop-after.after c.loop-after.invariant.0 (λ q i behind. no-key c.loop-after.after (keys_of c.loop-after.self.tables.ops) q none i behind) c.args.worker c.requires.warm c.requires.none c.requires.popped s chip is
