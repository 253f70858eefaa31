use Rattle.std.proofs.Common.{rules, ◌≡◌, ◌∙◌, ◌∷◌, [], sym}
use Rattle.std.proofs.lemmas.List.{nil_from_length}
use Rattle.orch_core.proofs.GoingOver.{over_err, over_first, over_left}
use Rattle.orch_core.proofs.state.Core.go_over.Goals as goal

pub loop-key-init : goal.loop-key-init
loop-key-init g c = over_first c.args.self.now (g.C.Chip.state c.args.chip.now) c.into_iter-key-iterator.result.rest.items (search rules)

pub restore_key-requires : goal.restore_key-requires
restore_key-requires g c =
    let left : c.loop-key.key-iterator.rest.items ≡ c.in-Some.key ∷ c.next.new.self.rest.items = search rules in
    let x = c.requires.built in
    record {
      built = (x.0, c.next.new.self.rest.items, (over_left c.args.self.now (g.C.Chip.state c.args.chip.now) c.loop-key.key-iterator.rest.items (c.in-Some.key ∷ c.next.new.self.rest.items) c.loop-key.self (g.C.Chip.state c.loop-key.chip) left c.loop-key.invariant x.0 x.1).0);
      order = c.count-count.ensures.order;
    }

pub returns-in_err-restore_key : goal.returns-in_err-restore_key
returns-in_err-restore_key g c = λ first x.
    let left : c.loop-key.key-iterator.rest.items ≡ c.in-Some.key ∷ c.next.new.self.rest.items = search rules in
    let y = over_left c.args.self.now (g.C.Chip.state c.args.chip.now) c.loop-key.key-iterator.rest.items (c.in-Some.key ∷ c.next.new.self.rest.items) c.loop-key.self (g.C.Chip.state c.loop-key.chip) left c.loop-key.invariant first x in
    let z = c.in_err-restore_key.ensures.over first c.next.new.self.rest.items y.0 in
    over_err first [] (g.C.Chip.state c.args.chip.now) (g.C.Chip.state c.restore_key.new.chip) c.from_residual-in_err-restore_key.result c.restore_key.new.self c.from_residual-in_err-restore_key.ensures.0 z.0 (z.1 ∙ y.1)

pub loop-key-preserved : goal.loop-key-preserved
loop-key-preserved g c = λ first x.
    let left : c.loop-key.key-iterator.rest.items ≡ c.in-Some.key ∷ c.next.new.self.rest.items = search rules in
    let y = over_left c.args.self.now (g.C.Chip.state c.args.chip.now) c.loop-key.key-iterator.rest.items (c.in-Some.key ∷ c.next.new.self.rest.items) c.loop-key.self (g.C.Chip.state c.loop-key.chip) left c.loop-key.invariant first x in
    let z = c.in_ok-restore_key.ensures.over first c.next.new.self.rest.items y.0 in
    (z.0, z.1 ∙ y.1)

pub returns : goal.returns
returns g c =
    let none : c.loop-key.key-iterator.rest.items ≡ [] = nil_from_length c.loop-key.key-iterator.rest.items (sym c.loop-key.key-iterator.rest.ok.0 ∙ c.in-None.ensures.steps.0) in
    over_left c.args.self.now (g.C.Chip.state c.args.chip.now) c.loop-key.key-iterator.rest.items [] c.loop-key.self (g.C.Chip.state c.loop-key.chip) none c.loop-key.invariant
