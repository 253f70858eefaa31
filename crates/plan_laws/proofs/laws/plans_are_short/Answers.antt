use Rattle.std.proofs.Common.{[], refl, sym, arith}
use Rattle.std.proofs.lemmas.List.{append-nil, length-append}
use Rattle.sai_types.specs.Made.{made_after_all}
use Rattle.plan_laws.specs.Applied.{nothing}
use Rattle.plan_laws.specs.Old.{old_layout}
use Rattle.plan_laws.proofs.Counts.{calls-few, old-few}
use Rattle.plan_laws.proofs.laws.plans_are_short.Goals as goal

pub returns-clause-hitless : goal.returns-clause-hitless
returns-clause-hitless c = λ capacities made objects new todo due calls x.
    let few = calls-few x.planned.is_plan todo due refl made (old_layout objects new) calls x.run in
    let old = old-few objects new in
    omega (arith, few, old)

pub returns-clause-cold : goal.returns-clause-cold
returns-clause-cold c = λ capacities made objects new removes makes front rest x.
    let first = calls-few x.planned.removing removes [] (sym (append-nil removes)) made (old_layout objects new) front x.removing in
    let second = calls-few x.planned.making makes [] (sym (append-nil makes)) (made_after_all made front) nothing rest x.making in
    let old = old-few objects new in
    let sum = length-append front rest in
    omega (arith, first, second, old, sum)
