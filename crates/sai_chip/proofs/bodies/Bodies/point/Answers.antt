use Rattle.std.proofs.Common.{◌∙◌, sym, ap}
use Rattle.sai_types.specs.declared.body.Attr.TheVariants as attr
use Rattle.sai_types.specs.declared.body.Call.TheVariants as call
use Rattle.sai_types.specs.declared.body.Entry.TheVariants as entry
use Rattle.sai_chip.specs.Bodies.{objects_in, target_of}
use Rattle.sai_chip.proofs.Changed.{at-route, keeps, no_target, set-target, target_mapped}
use Rattle.sai_chip.proofs.Kept.{unpointed}
use Rattle.sai_chip.proofs.bodies.Bodies.point.Goals as goal

pub invariant_of-self : goal.invariant_of-self
invariant_of-self c = keeps (objects_in c.self.inside.numbered c.self.inside.own.keys c.self.inside.neighbors.entries c.self.inside.routes) 0 (call.Set (entry.Route c.in-Route.vr c.in-Route.prefix) (attr.To c.args.to)) c.self.inside.numbered c.self.inside.own.keys c.self.inside.neighbors.entries c.point.new.self c.entries_stay_sorted.ensures c.self.invariant.sorted (ap (λ l. objects_in c.self.inside.numbered c.self.inside.own.keys c.self.inside.neighbors.entries l) c.point.ensures.set ∙ set-target c.self.inside.numbered c.self.inside.own.keys c.self.inside.neighbors.entries c.self.inside.routes c.self.invariant.sorted c.in-Route.vr c.in-Route.prefix (attr.To c.args.to)) c.self.invariant.with_ids

pub returns-in-Route-clause-set : goal.returns-in-Route-clause-set
returns-in-Route-clause-set c = rw (c.in-Route.is, ← c.self.view_is) (ap (λ l. objects_in c.self.inside.numbered c.self.inside.own.keys c.self.inside.neighbors.entries l) c.point.ensures.set ∙ set-target c.self.inside.numbered c.self.inside.own.keys c.self.inside.neighbors.entries c.self.inside.routes c.self.invariant.sorted c.in-Route.vr c.in-Route.prefix (attr.To c.args.to))

pub returns-in-Route-clause-from : goal.returns-in-Route-clause-from
returns-in-Route-clause-from c = rw (c.in-Route.is, ← c.self.view_is) (c.point.ensures.from ∙ sym (ap target_of (at-route c.self.inside.numbered c.self.inside.own.keys c.self.inside.neighbors.entries c.self.inside.routes c.in-Route.vr c.in-Route.prefix) ∙ target_mapped c.in-Route.vr c.in-Route.prefix _))

pub returns-in_default : goal.returns-in_default
returns-in_default c = rw (← c.self.view_is) (record { set = unpointed _ c.args.entry.now c.args.to c.self.invariant.sorted (no_target c.self.inside.numbered c.self.inside.own.keys c.self.inside.neighbors.entries c.self.inside.routes c.self.invariant.with_ids c.args.entry.now c.in_default.not-Route); from = no_target c.self.inside.numbered c.self.inside.own.keys c.self.inside.neighbors.entries c.self.inside.routes c.self.invariant.with_ids c.args.entry.now c.in_default.not-Route })
