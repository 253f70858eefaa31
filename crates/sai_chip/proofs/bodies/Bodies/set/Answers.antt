use Rattle.std.proofs.Common.{◌∙◌, ap}
use Rattle.sai_types.specs.declared.body.Call.TheVariants as call
use Rattle.sai_types.specs.declared.body.Entry.TheVariants as entry
use Rattle.sai_chip.specs.Bodies.{objects_in}
use Rattle.sai_chip.proofs.Changed.{ids-set, keeps, set-id, set-own, set-mac, set-target}
use Rattle.sai_chip.proofs.bodies.Bodies.set.Goals as goal

pub invariant_of-self : goal.invariant_of-self
invariant_of-self c = keeps (objects_in c.self.inside.numbered c.self.inside.own.keys c.self.inside.neighbors.entries c.self.inside.routes) 0 (call.Set (entry.Oid c.in-Oid.id) c.args.attr.now) c.set_numbered.new.numbered c.self.inside.own.keys c.self.inside.neighbors.entries c.self.inside.routes c.entries_stay_sorted.ensures c.self.invariant.sorted (ap (λ l. objects_in l c.self.inside.own.keys c.self.inside.neighbors.entries c.self.inside.routes) c.set_numbered.ensures ∙ set-id c.self.inside.numbered c.self.inside.own.keys c.self.inside.neighbors.entries c.self.inside.routes c.self.invariant.sorted c.in-Oid.id c.args.attr.now) (rw c.set_numbered.ensures (ids-set c.self.inside.numbered c.in-Oid.id c.args.attr.now c.self.invariant.with_ids))

pub returns-in-Oid : goal.returns-in-Oid
returns-in-Oid c = rw (c.in-Oid.is, ← c.self.view_is) (ap (λ l. objects_in l c.self.inside.own.keys c.self.inside.neighbors.entries c.self.inside.routes) c.set_numbered.ensures ∙ set-id c.self.inside.numbered c.self.inside.own.keys c.self.inside.neighbors.entries c.self.inside.routes c.self.invariant.sorted c.in-Oid.id c.args.attr.now)

pub invariant_of-self-in-Neigh : goal.invariant_of-self-in-Neigh
invariant_of-self-in-Neigh c = keeps (objects_in c.self.inside.numbered c.self.inside.own.keys c.self.inside.neighbors.entries c.self.inside.routes) 0 (call.Set (entry.Neigh c.in-Neigh.rif c.in-Neigh.ip) c.args.attr.now) c.self.inside.numbered c.self.inside.own.keys c.set_mac.new.neighbors.entries c.self.inside.routes c.entries_stay_sorted.ensures c.self.invariant.sorted (ap (λ l. objects_in c.self.inside.numbered c.self.inside.own.keys l c.self.inside.routes) c.set_mac.ensures ∙ set-mac c.self.inside.numbered c.self.inside.own.keys c.self.inside.neighbors.entries c.self.inside.routes c.self.invariant.sorted c.in-Neigh.rif c.in-Neigh.ip c.args.attr.now) c.self.invariant.with_ids

pub returns-in-Neigh : goal.returns-in-Neigh
returns-in-Neigh c = rw (c.in-Neigh.is, ← c.self.view_is) (ap (λ l. objects_in c.self.inside.numbered c.self.inside.own.keys l c.self.inside.routes) c.set_mac.ensures ∙ set-mac c.self.inside.numbered c.self.inside.own.keys c.self.inside.neighbors.entries c.self.inside.routes c.self.invariant.sorted c.in-Neigh.rif c.in-Neigh.ip c.args.attr.now)

pub invariant_of-self-in-Route : goal.invariant_of-self-in-Route
invariant_of-self-in-Route c = keeps (objects_in c.self.inside.numbered c.self.inside.own.keys c.self.inside.neighbors.entries c.self.inside.routes) 0 (call.Set (entry.Route c.in-Route.vr c.in-Route.prefix) c.args.attr.now) c.self.inside.numbered c.self.inside.own.keys c.self.inside.neighbors.entries c.set_target.new.routes c.entries_stay_sorted.ensures c.self.invariant.sorted (ap (λ l. objects_in c.self.inside.numbered c.self.inside.own.keys c.self.inside.neighbors.entries l) c.set_target.ensures ∙ set-target c.self.inside.numbered c.self.inside.own.keys c.self.inside.neighbors.entries c.self.inside.routes c.self.invariant.sorted c.in-Route.vr c.in-Route.prefix c.args.attr.now) c.self.invariant.with_ids

pub returns-in-Route : goal.returns-in-Route
returns-in-Route c = rw (c.in-Route.is, ← c.self.view_is) (ap (λ l. objects_in c.self.inside.numbered c.self.inside.own.keys c.self.inside.neighbors.entries l) c.set_target.ensures ∙ set-target c.self.inside.numbered c.self.inside.own.keys c.self.inside.neighbors.entries c.self.inside.routes c.self.invariant.sorted c.in-Route.vr c.in-Route.prefix c.args.attr.now)

pub returns-in-Own : goal.returns-in-Own
returns-in-Own c = rw (c.in-Own.is, ← c.self.view_is) (set-own c.self.inside.numbered c.self.inside.own.keys c.self.inside.neighbors.entries c.self.inside.routes c.self.invariant.sorted _ _ c.args.attr.now)
