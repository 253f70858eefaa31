use Rattle.std.proofs.Common.{Ok, if◌then◌else◌, refl, ap₂, ◌∙◌}
use Rattle.swss_types.specs.declared.vrf.Vrf.TheVariants as vrf
use Rattle.switch_model.specs.Placed.{place}
use Rattle.row_layout.specs.Shared.{uses}
use Rattle.orch_flight.specs.Sharing.{lacks_shared}
use Rattle.orch_flight.proofs.Answered.{chosen, told-err, told-ok, told-same}
use Rattle.orch_flight.proofs.Rows.{may-share}
use Rattle.vlan_orch.specs.Vlans.{places_of_member}
use Rattle.vlan_orch.proofs.Starts.{member-start, rows, some-rows}
use Rattle.vlan_orch.proofs.starting.begin_member.Goals as goal

pub start_sharing-requires-clause-shared : goal.start_sharing-requires-clause-shared
start_sharing-requires-clause-shared c = may-share c.args.reg.now (uses c.args.plan.now c.args.key.now (place vrf.Default c.args.new.now)) c.shared_by-shared.result c.shared_by-shared.ensures c.requires.may.shares

pub returns-clause-begun : goal.returns-clause-begun
returns-clause-begun c =
    let builds = lacks_shared c.args.reg.now c.shared_by-shared.result in
    let r = c.in_ok-started.started in
    let told = c.in_ok-started.ensures in
    let is = c.and.ensures in
    member-start c.args.plan.now c.args.reg.now c.args.room.now c.args.used.now c.args.worker c.args.vlan c.args.port c.args.key.now (rows c.args.old) (place vrf.Default c.args.new.now) c.is_some-applied.result c.shared_by-shared.result
    (if builds then c.member_places-need_built.result.now else c.member_places-need.result.now) c.start_sharing.new.reg c.start_sharing.new.room (Ok c.and.result)
    c.requires.member (some-rows c.is_some-applied.result c.args.old c.is_some-applied.ensures)
    (ap₂ (λ a b. if builds then a else b) c.member_places-need_built.ensures c.member_places-need.ensures ∙ chosen (places_of_member c.is_some-applied.result) builds)
    c.requires.may.old_fits c.requires.may.shared (c.requires.may.new_fits (place vrf.Default c.args.new.now) refl) c.shared_by-shared.ensures
    (told-ok r c.and.result is _ told.free, told-ok r c.and.result is _ told.names, told-ok r c.and.result is _ told.places, told-err r c.and.result is _ told.wait, told-same r c.and.result is _ told.none, told-same r c.and.result is _ told.none_room)
