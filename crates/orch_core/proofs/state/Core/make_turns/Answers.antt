use Rattle.std.proofs.Common.{◌≡◌, ◌∙◌, Ok, ap, length, subst, sym, arith}
use Rattle.std.specs.Map.{keys_of}
use Rattle.std.proofs.lemmas.List.{nil_from_length}
use Rattle.session_laws.proofs.Settling.Turned.{turned_empty, turned_more, turned_none, turned_still}
use Rattle.orch_core.specs.Settled.{MakesTurn}
use Rattle.orch_core.proofs.Chips.{keeps_itself, keeps_on}
use Rattle.orch_core.proofs.Turns.{turn_fewer, turns_err, turns_faulted, turns_full, turns_short}
use Rattle.orch_core.proofs.state.Core.make_turns.Goals as goal

pub loop-left-init : goal.loop-left-init
loop-left-init g c =
    let left = c.count-left.ensures.keys in
    let small = c.count-left.ensures.small in
    (λ s is. turned_none c.args.self.now (g.C.Chip.state c.args.chip.now) s is c.requires.rest, left, omega (arith, left), omega (arith, left, small), keeps_itself c.args.self.now (g.C.Chip.state c.args.chip.now))

pub returns-in_err-turn : goal.returns-in_err-turn
returns-in_err-turn g c = λ s is.
    let x = c.loop-left.invariant.0 s is in
    let b = subst (λ r. MakesTurn x.later c.loop-left.self (g.C.Chip.state c.loop-left.chip) r c.turn.new.self (g.C.Chip.state c.turn.new.chip)) (c.in_err-turn.was) (c.turn.ensures x.later x.leads.stands) in
    turns_err s c.args.self.now (g.C.Chip.state c.args.chip.now) c.turn.new.self (g.C.Chip.state c.turn.new.chip) c.from_residual.result c.from_residual.ensures.0 (turns_short c.loop-left.turns s c.args.self.now (g.C.Chip.state c.args.chip.now) is c.count-left.ensures.order c.loop-left.self (g.C.Chip.state c.loop-left.chip) x c.loop-left.invariant.4 c.turn.new.self (g.C.Chip.state c.turn.new.chip) b)

pub returns-in-Faulted : goal.returns-in-Faulted
returns-in-Faulted g c = λ s is.
    let x = c.loop-left.invariant.0 s is in
    turns_faulted c.loop-left.turns s c.args.self.now (g.C.Chip.state c.args.chip.now) is c.count-left.ensures.order c.loop-left.self (g.C.Chip.state c.loop-left.chip) x c.loop-left.invariant.4 c.turn.new.self (g.C.Chip.state c.turn.new.chip) (subst (λ r. MakesTurn x.later c.loop-left.self (g.C.Chip.state c.loop-left.chip) r c.turn.new.self (g.C.Chip.state c.turn.new.chip)) (c.in_ok-turn.was ∙ ap Ok c.in-Faulted.is) (c.turn.ensures x.later x.leads.stands))

pub returns-in-LogFull : goal.returns-in-LogFull
returns-in-LogFull g c = λ s is.
    let x = c.loop-left.invariant.0 s is in
    turns_full c.loop-left.turns s c.args.self.now (g.C.Chip.state c.args.chip.now) is c.count-left.ensures.order c.loop-left.self (g.C.Chip.state c.loop-left.chip) x c.loop-left.invariant.4 c.turn.new.self (g.C.Chip.state c.turn.new.chip) (subst (λ r. MakesTurn x.later c.loop-left.self (g.C.Chip.state c.loop-left.chip) r c.turn.new.self (g.C.Chip.state c.turn.new.chip)) (c.in_ok-turn.was ∙ ap Ok c.in-LogFull.is) (c.turn.ensures x.later x.leads.stands))

pub returns-then-still-left : goal.returns-then-still-left
returns-then-still-left g c = λ s is.
    let x = c.loop-left.invariant.0 s is in
    let b = subst (λ r. MakesTurn x.later c.loop-left.self (g.C.Chip.state c.loop-left.chip) r c.turn.new.self (g.C.Chip.state c.turn.new.chip)) (c.in_ok-turn.was ∙ ap Ok c.in-Whole.is) (c.turn.ensures x.later x.leads.stands) in
    let left = c.loop-left.invariant.1 in
    (c.count-left.ensures.order, turned_still c.loop-left.turns c.args.self.now c.loop-left.self (g.C.Chip.state c.loop-left.chip) s x b.0 c.turn.new.self (g.C.Chip.state c.turn.new.chip) b.1 (omega (arith, c.loop-left-test.true, left)) (sym c.count-still.ensures.keys ∙ c.if-still-left.true ∙ left), keeps_on c.loop-left.invariant.4 b.2)

pub loop-left-preserved : goal.loop-left-preserved
loop-left-preserved g c =
    let left = c.loop-left.invariant.1 in
    let still = c.count-still.ensures.keys in
    let apart : length (keys_of c.turn.new.self.tables.ops) ≡ length (keys_of c.loop-left.self.tables.ops) → ⊥ = λ same. c.if-still-left.false (still ∙ same ∙ sym left) in
    let s = c.requires.session in
    let y = c.loop-left.invariant.0 s.0 s.1 in
    let b = subst (λ r. MakesTurn y.later c.loop-left.self (g.C.Chip.state c.loop-left.chip) r c.turn.new.self (g.C.Chip.state c.turn.new.chip)) (c.in_ok-turn.was ∙ ap Ok c.in-Whole.is) (c.turn.ensures y.later y.leads.stands) in
    let fewer = turn_fewer (keys_of c.loop-left.self.tables.ops) b.0 c.loop-left.self y.later c.turn.new.self (g.C.Chip.state c.turn.new.chip) b.1 apart in
    let so_far = c.loop-left.invariant.2 in (
      λ t is.
          let x = c.loop-left.invariant.0 t is in
          let d = subst (λ r. MakesTurn x.later c.loop-left.self (g.C.Chip.state c.loop-left.chip) r c.turn.new.self (g.C.Chip.state c.turn.new.chip)) (c.in_ok-turn.was ∙ ap Ok c.in-Whole.is) (c.turn.ensures x.later x.leads.stands) in
          turned_more c.loop-left.turns c.args.self.now c.loop-left.self (g.C.Chip.state c.loop-left.chip) t x d.0 c.turn.new.self (g.C.Chip.state c.turn.new.chip) d.1 (turn_fewer (keys_of c.loop-left.self.tables.ops) d.0 c.loop-left.self x.later c.turn.new.self (g.C.Chip.state c.turn.new.chip) d.1 apart),
      still,
      omega (arith, left, still, fewer, so_far),
      c.loop-left.invariant.3,
      keeps_on c.loop-left.invariant.4 b.2,
    )

pub returns : goal.returns
returns g c = λ s is.
    let x = c.loop-left.invariant.0 s is in
    let left = c.loop-left.invariant.1 in
    (c.count-left.ensures.order, turned_empty c.loop-left.turns c.args.self.now c.loop-left.self (g.C.Chip.state c.loop-left.chip) s x (nil_from_length (keys_of c.loop-left.self.tables.ops) (omega (arith, c.loop-left-test.false, left))), c.loop-left.invariant.4)
