use Rattle.std.proofs.Common.{None, Some, cond, option_map, ◌∙◌, sym, ap}
use Rattle.sai_types.specs.declared.body.Body.TheVariants as body
use Rattle.sai_types.specs.declared.body.Call.TheVariants as call
use Rattle.sai_types.specs.declared.body.Entry.TheVariants as entry
use Rattle.sai_chip.specs.Bodies.{objects_in}
use Rattle.sai_chip.proofs.Changed.{at-id, at-own, at-neighbor, at-route, ids-take, keeps, take-id, take-own, take-neighbor, take-route}
use Rattle.sai_chip.proofs.bodies.Bodies.remove.Goals as goal

pub invariant_of-self : goal.invariant_of-self
invariant_of-self c = keeps (objects_in c.self.inside.numbered c.self.inside.own.keys c.self.inside.neighbors.entries c.self.inside.routes) 0 (call.Remove (entry.Oid c.in-Oid.id)) c.remove.new.self c.self.inside.own.keys c.self.inside.neighbors.entries c.self.inside.routes c.entries_stay_sorted.ensures c.self.invariant.sorted (ap (λ l. objects_in l c.self.inside.own.keys c.self.inside.neighbors.entries c.self.inside.routes) c.remove.ensures.entries ∙ take-id c.self.inside.numbered c.self.inside.own.keys c.self.inside.neighbors.entries c.self.inside.routes c.in-Oid.id) (rw c.remove.ensures.entries (ids-take c.self.inside.numbered c.in-Oid.id c.self.invariant.with_ids))

pub returns-in-Oid : goal.returns-in-Oid
returns-in-Oid c = rw (c.in-Oid.is, ← c.self.view_is) (record {
  removed = ap (λ l. objects_in l c.self.inside.own.keys c.self.inside.neighbors.entries c.self.inside.routes) c.remove.ensures.entries ∙ take-id c.self.inside.numbered c.self.inside.own.keys c.self.inside.neighbors.entries c.self.inside.routes c.in-Oid.id;
  old = c.remove.ensures.value ∙ sym (at-id c.self.inside.numbered c.self.inside.own.keys c.self.inside.neighbors.entries c.self.inside.routes c.in-Oid.id);
})

pub invariant_of-self-in-Own : goal.invariant_of-self-in-Own
invariant_of-self-in-Own c = keeps (objects_in c.self.inside.numbered c.self.inside.own.keys c.self.inside.neighbors.entries c.self.inside.routes) 0 (call.Remove (entry.Own c.in-Own.vr c.in-Own.ip)) c.self.inside.numbered c.remove-in-Own.new.self.keys c.self.inside.neighbors.entries c.self.inside.routes c.entries_stay_sorted.ensures c.self.invariant.sorted (ap (λ l. objects_in c.self.inside.numbered l c.self.inside.neighbors.entries c.self.inside.routes) c.remove-in-Own.ensures.keys ∙ take-own c.self.inside.numbered c.self.inside.own.keys c.self.inside.neighbors.entries c.self.inside.routes c.in-Own.vr c.in-Own.ip) c.self.invariant.with_ids

pub returns-in-Own : goal.returns-in-Own
returns-in-Own c = rw (c.in-Own.is, ← c.self.view_is) (record {
  removed = ap (λ l. objects_in c.self.inside.numbered l c.self.inside.neighbors.entries c.self.inside.routes) c.remove-in-Own.ensures.keys ∙ take-own c.self.inside.numbered c.self.inside.own.keys c.self.inside.neighbors.entries c.self.inside.routes c.in-Own.vr c.in-Own.ip;
  old = c.own_if.ensures ∙ ap (λ b. cond b (Some (body.OwnAddress c.in-Own.vr c.in-Own.ip)) None) c.remove-in-Own.ensures.test ∙ sym (at-own c.self.inside.numbered c.self.inside.own.keys c.self.inside.neighbors.entries c.self.inside.routes c.in-Own.vr c.in-Own.ip);
})

pub invariant_of-self-in-Neigh : goal.invariant_of-self-in-Neigh
invariant_of-self-in-Neigh c = keeps (objects_in c.self.inside.numbered c.self.inside.own.keys c.self.inside.neighbors.entries c.self.inside.routes) 0 (call.Remove (entry.Neigh c.in-Neigh.rif c.in-Neigh.ip)) c.self.inside.numbered c.self.inside.own.keys c.remove-mac.new.self.entries c.self.inside.routes c.entries_stay_sorted.ensures c.self.invariant.sorted (ap (λ l. objects_in c.self.inside.numbered c.self.inside.own.keys l c.self.inside.routes) c.remove-mac.ensures.entries ∙ take-neighbor c.self.inside.numbered c.self.inside.own.keys c.self.inside.neighbors.entries c.self.inside.routes c.in-Neigh.rif c.in-Neigh.ip) c.self.invariant.with_ids

pub returns-in-Neigh : goal.returns-in-Neigh
returns-in-Neigh c = rw (c.in-Neigh.is, ← c.self.view_is) (record {
  removed = ap (λ l. objects_in c.self.inside.numbered c.self.inside.own.keys l c.self.inside.routes) c.remove-mac.ensures.entries ∙ take-neighbor c.self.inside.numbered c.self.inside.own.keys c.self.inside.neighbors.entries c.self.inside.routes c.in-Neigh.rif c.in-Neigh.ip;
  old = c.neighbor_if.ensures ∙ ap (option_map (body.Neighbor c.in-Neigh.rif c.in-Neigh.ip)) c.remove-mac.ensures.value ∙ sym (at-neighbor c.self.inside.numbered c.self.inside.own.keys c.self.inside.neighbors.entries c.self.inside.routes c.in-Neigh.rif c.in-Neigh.ip);
})

pub invariant_of-self-in-Route : goal.invariant_of-self-in-Route
invariant_of-self-in-Route c = keeps (objects_in c.self.inside.numbered c.self.inside.own.keys c.self.inside.neighbors.entries c.self.inside.routes) 0 (call.Remove (entry.Route c.in-Route.vr c.in-Route.prefix)) c.self.inside.numbered c.self.inside.own.keys c.self.inside.neighbors.entries c.remove-to.new.self c.entries_stay_sorted.ensures c.self.invariant.sorted (ap (λ l. objects_in c.self.inside.numbered c.self.inside.own.keys c.self.inside.neighbors.entries l) c.remove-to.ensures.entries ∙ take-route c.self.inside.numbered c.self.inside.own.keys c.self.inside.neighbors.entries c.self.inside.routes c.in-Route.vr c.in-Route.prefix) c.self.invariant.with_ids

pub returns-in-Route : goal.returns-in-Route
returns-in-Route c = rw (c.in-Route.is, ← c.self.view_is) (record {
  removed = ap (λ l. objects_in c.self.inside.numbered c.self.inside.own.keys c.self.inside.neighbors.entries l) c.remove-to.ensures.entries ∙ take-route c.self.inside.numbered c.self.inside.own.keys c.self.inside.neighbors.entries c.self.inside.routes c.in-Route.vr c.in-Route.prefix;
  old = c.route_if.ensures ∙ ap (option_map (body.Route c.in-Route.vr c.in-Route.prefix)) c.remove-to.ensures.value ∙ sym (at-route c.self.inside.numbered c.self.inside.own.keys c.self.inside.neighbors.entries c.self.inside.routes c.in-Route.vr c.in-Route.prefix);
})
