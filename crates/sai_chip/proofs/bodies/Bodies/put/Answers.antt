use Rattle.std.proofs.Common.{sym, ◌∙◌, ap}
use Rattle.std.specs.BTreeMap.{insert_entry}
use Rattle.sai_types.specs.declared.body.Body.TheVariants as body
use Rattle.sai_types.specs.declared.body.Call.TheVariants as call
use Rattle.sai_types.specs.Objects.{body_at, entry_cmp}
use Rattle.sai_chip.specs.Bodies.{objects_in}
use Rattle.sai_chip.proofs.Changed.{at-id, at-own, at-neighbor, at-route, entry_of-id, id_default, ids-put, keeps, put-id, put-own, put-neighbor, put-route}
use Rattle.sai_chip.proofs.bodies.Bodies.put.Goals.{in-OwnAddress+in_ok-old-in-OwnAddress, in-Neighbor+in_ok-old-in-Neighbor, in-Route+in_ok-old-in-Route, in_default+in_ok-old-in_default}
use Rattle.sai_chip.proofs.bodies.Bodies.put.Goals as goal

pub invariant_of-self-in-OwnAddress : goal.invariant_of-self-in-OwnAddress
invariant_of-self-in-OwnAddress c = keeps (objects_in c.self.inside.numbered c.self.inside.own.keys c.self.inside.neighbors.entries c.self.inside.routes) c.args.id.0 (call.Create (body.OwnAddress c.in-OwnAddress.vr c.in-OwnAddress.ip)) c.self.inside.numbered c.put_own.new.own.keys c.self.inside.neighbors.entries c.self.inside.routes c.entries_stay_sorted.ensures c.self.invariant.sorted (ap (λ l. objects_in c.self.inside.numbered l c.self.inside.neighbors.entries c.self.inside.routes) c.in_ok-old-in-OwnAddress.ensures.ok ∙ put-own c.self.inside.numbered c.self.inside.own.keys c.self.inside.neighbors.entries c.self.inside.routes c.in-OwnAddress.vr c.in-OwnAddress.ip) c.self.invariant.with_ids

pub invariant_of-self-in-Neighbor : goal.invariant_of-self-in-Neighbor
invariant_of-self-in-Neighbor c = keeps (objects_in c.self.inside.numbered c.self.inside.own.keys c.self.inside.neighbors.entries c.self.inside.routes) c.args.id.0 (call.Create (body.Neighbor c.in-Neighbor.rif c.in-Neighbor.ip c.in-Neighbor.mac)) c.self.inside.numbered c.self.inside.own.keys c.put_neighbor.new.neighbors.entries c.self.inside.routes c.entries_stay_sorted.ensures c.self.invariant.sorted (ap (λ l. objects_in c.self.inside.numbered c.self.inside.own.keys l c.self.inside.routes) c.in_ok-old-in-Neighbor.ensures.ok ∙ put-neighbor c.self.inside.numbered c.self.inside.own.keys c.self.inside.neighbors.entries c.self.inside.routes c.in-Neighbor.rif c.in-Neighbor.ip c.in-Neighbor.mac) c.self.invariant.with_ids

pub invariant_of-self-in-Route : goal.invariant_of-self-in-Route
invariant_of-self-in-Route c = keeps (objects_in c.self.inside.numbered c.self.inside.own.keys c.self.inside.neighbors.entries c.self.inside.routes) c.args.id.0 (call.Create (body.Route c.in-Route.vr c.in-Route.prefix c.in-Route.to)) c.self.inside.numbered c.self.inside.own.keys c.self.inside.neighbors.entries c.put_route.new.routes c.entries_stay_sorted.ensures c.self.invariant.sorted (ap (λ l. objects_in c.self.inside.numbered c.self.inside.own.keys c.self.inside.neighbors.entries l) c.in_ok-old-in-Route.ensures.ok ∙ put-route c.self.inside.numbered c.self.inside.own.keys c.self.inside.neighbors.entries c.self.inside.routes c.in-Route.vr c.in-Route.prefix c.in-Route.to) c.self.invariant.with_ids

pub invariant_of-self-in_default : goal.invariant_of-self-in_default
invariant_of-self-in_default c = keeps (objects_in c.self.inside.numbered c.self.inside.own.keys c.self.inside.neighbors.entries c.self.inside.routes) c.args.id.0 (call.Create c.args.body) c.put_numbered.new.numbered c.self.inside.own.keys c.self.inside.neighbors.entries c.self.inside.routes c.entries_stay_sorted.ensures c.self.invariant.sorted (ap (λ l. objects_in l c.self.inside.own.keys c.self.inside.neighbors.entries c.self.inside.routes) c.in_ok-old-in_default.ensures.ok ∙ put-id c.self.inside.numbered c.self.inside.own.keys c.self.inside.neighbors.entries c.self.inside.routes c.args.id c.args.body ∙ ap (λ e. insert_entry entry_cmp (objects_in c.self.inside.numbered c.self.inside.own.keys c.self.inside.neighbors.entries c.self.inside.routes) e c.args.body) (sym (entry_of-id c.args.id.0 c.args.body (id_default c.args.body c.in_default.not-OwnAddress c.in_default.not-Neighbor c.in_default.not-Route)))) (rw c.in_ok-old-in_default.ensures.ok (ids-put c.self.inside.numbered c.args.id c.args.body (id_default c.args.body c.in_default.not-OwnAddress c.in_default.not-Neighbor c.in_default.not-Route) c.self.invariant.with_ids))

pub returns-clause-ok : goal.returns-clause-ok
returns-clause-ok c = elim c.match-body.branch [
  | in-OwnAddress+in_ok-old-in-OwnAddress w ↦ rw (w.self-is, w.in-OwnAddress.is, ← c.self.view_is) (ap (λ l. objects_in c.self.inside.numbered l c.self.inside.neighbors.entries c.self.inside.routes) w.in_ok-old-in-OwnAddress.ensures.ok ∙ put-own c.self.inside.numbered c.self.inside.own.keys c.self.inside.neighbors.entries c.self.inside.routes w.in-OwnAddress.vr w.in-OwnAddress.ip)
  | in-Neighbor+in_ok-old-in-Neighbor w ↦ rw (w.self-is, w.in-Neighbor.is, ← c.self.view_is) (ap (λ l. objects_in c.self.inside.numbered c.self.inside.own.keys l c.self.inside.routes) w.in_ok-old-in-Neighbor.ensures.ok ∙ put-neighbor c.self.inside.numbered c.self.inside.own.keys c.self.inside.neighbors.entries c.self.inside.routes w.in-Neighbor.rif w.in-Neighbor.ip w.in-Neighbor.mac)
  | in-Route+in_ok-old-in-Route w ↦ rw (w.self-is, w.in-Route.is, ← c.self.view_is) (ap (λ l. objects_in c.self.inside.numbered c.self.inside.own.keys c.self.inside.neighbors.entries l) w.in_ok-old-in-Route.ensures.ok ∙ put-route c.self.inside.numbered c.self.inside.own.keys c.self.inside.neighbors.entries c.self.inside.routes w.in-Route.vr w.in-Route.prefix w.in-Route.to)
  | in_default+in_ok-old-in_default w ↦ rw (w.self-is, ← c.self.view_is) (ap (λ l. objects_in l c.self.inside.own.keys c.self.inside.neighbors.entries c.self.inside.routes) w.in_ok-old-in_default.ensures.ok ∙ put-id c.self.inside.numbered c.self.inside.own.keys c.self.inside.neighbors.entries c.self.inside.routes c.args.id c.args.body ∙ ap (λ e. insert_entry entry_cmp (objects_in c.self.inside.numbered c.self.inside.own.keys c.self.inside.neighbors.entries c.self.inside.routes) e c.args.body) (sym (entry_of-id c.args.id.0 c.args.body (id_default c.args.body w.in_default.not-OwnAddress w.in_default.not-Neighbor w.in_default.not-Route))))
]

pub returns-clause-old : goal.returns-clause-old
returns-clause-old c = elim c.match-body.branch [
  | in-OwnAddress+in_ok-old-in-OwnAddress w ↦ rw (w.old-is, w.in-OwnAddress.is, ← c.self.view_is) (w.in_ok-old-in-OwnAddress.ensures.old ∙ sym (at-own c.self.inside.numbered c.self.inside.own.keys c.self.inside.neighbors.entries c.self.inside.routes w.in-OwnAddress.vr w.in-OwnAddress.ip))
  | in-Neighbor+in_ok-old-in-Neighbor w ↦ rw (w.old-is, w.in-Neighbor.is, ← c.self.view_is) (w.in_ok-old-in-Neighbor.ensures.old ∙ sym (at-neighbor c.self.inside.numbered c.self.inside.own.keys c.self.inside.neighbors.entries c.self.inside.routes w.in-Neighbor.rif w.in-Neighbor.ip))
  | in-Route+in_ok-old-in-Route w ↦ rw (w.old-is, w.in-Route.is, ← c.self.view_is) (w.in_ok-old-in-Route.ensures.old ∙ sym (at-route c.self.inside.numbered c.self.inside.own.keys c.self.inside.neighbors.entries c.self.inside.routes w.in-Route.vr w.in-Route.prefix))
  | in_default+in_ok-old-in_default w ↦ rw (w.old-is, ← c.self.view_is) (w.in_ok-old-in_default.ensures.old ∙ sym (ap (body_at (objects_in c.self.inside.numbered c.self.inside.own.keys c.self.inside.neighbors.entries c.self.inside.routes)) (entry_of-id c.args.id.0 c.args.body (id_default c.args.body w.in_default.not-OwnAddress w.in_default.not-Neighbor w.in_default.not-Route)) ∙ at-id c.self.inside.numbered c.self.inside.own.keys c.self.inside.neighbors.entries c.self.inside.routes c.args.id))
]
