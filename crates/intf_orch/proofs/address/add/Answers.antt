use Rattle.std.proofs.Common.{Ok, Err, if◌then◌else◌, refl, ap, ap₂, ◌∙◌}
use Rattle.table_schema.specs.declared.key.Key.TheVariants as key
use Rattle.switch_model.specs.Placed.{place}
use Rattle.orch_flight.specs.Needing.{places_for}
use Rattle.orch_flight.specs.Sharing.{lacks_shared}
use Rattle.orch_flight.proofs.Answered.{chosen}
use Rattle.intf_orch.specs.Interfaces.{own_due, own_stage}
use Rattle.intf_orch.proofs.Addresses.{address-added, may-share}
use Rattle.intf_orch.proofs.address.add.Goals as goal

pub start_sharing-requires-clause-shared : goal.start_sharing-requires-clause-shared
start_sharing-requires-clause-shared c =
    may-share c.args.plan.now c.args.reg.now (key.Addr c.args.on c.args.ip.now c.args.len) (place c.args.router.now c.args.new.now) c.shared_by-shared.result c.shared_by-shared.ensures.value c.requires.may.shares

pub returns-in-Ok-clause-started : goal.returns-in-Ok-clause-started
returns-in-Ok-clause-started c =
    let builds = lacks_shared c.args.reg.now c.shared_by-shared.result in
    let started = c.in_ok-started.ensures in
    address-added c.args.plan.now c.args.router.now c.args.on c.args.ip.now c.args.len c.args.reg.now c.args.room.now c.args.used.now c.args.worker c.args.new.now c.shared_by-shared.result builds c.own_stage.result
    (if builds then c.own_places-need_built.result else c.own_places-need.result) c.start_sharing.new.reg c.start_sharing.new.room (Ok tt) _
    c.shared_by-shared.ensures.value refl (c.own_stage.ensures ∙ ap own_stage (rw c.in-Ok.is at started.builds))
    (ap₂ (λ a b. if builds then a else b) c.own_places-need_built.ensures c.own_places-need.ensures ∙ chosen (λ b. places_for (own_due c.args.router.now c.args.ip.now (own_stage b))) builds) refl c.requires.may
    (rw c.in-Ok.is at started.free) (rw c.in-Ok.is at started.names) (rw c.in-Ok.is at started.places) tt tt tt

pub returns-clause-started : goal.returns-clause-started
returns-clause-started c =
    let builds = lacks_shared c.args.reg.now c.shared_by-shared.result in
    let started = c.in_ok-started.ensures in
    address-added c.args.plan.now c.args.router.now c.args.on c.args.ip.now c.args.len c.args.reg.now c.args.room.now c.args.used.now c.args.worker c.args.new.now c.shared_by-shared.result builds (own_stage builds)
    (if builds then c.own_places-need_built.result else c.own_places-need.result) c.start_sharing.new.reg c.start_sharing.new.room (Err c.in-Err.wait) _
    c.shared_by-shared.ensures.value refl refl
    (ap₂ (λ a b. if builds then a else b) c.own_places-need_built.ensures c.own_places-need.ensures ∙ chosen (λ b. places_for (own_due c.args.router.now c.args.ip.now (own_stage b))) builds) refl c.requires.may
    tt tt tt (rw c.in-Err.is at started.wait) (rw c.in-Err.is at started.none) (rw c.in-Err.is at started.none_room)
