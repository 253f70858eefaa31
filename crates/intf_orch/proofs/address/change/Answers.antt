use Rattle.table_schema.specs.declared.key.Key.TheVariants as key
use Rattle.switch_model.specs.Placed.{place}
use Rattle.intf_orch.proofs.Addresses.{address-changed, may-share}
use Rattle.intf_orch.proofs.address.change.Goals as goal

pub start_row-requires-clause-shared : goal.start_row-requires-clause-shared
start_row-requires-clause-shared c =
    may-share c.args.plan.now c.args.reg.now (key.Addr c.args.on c.args.ip.now c.args.len) (place c.args.router.now c.args.new.now) c.shared_by-shared.result c.shared_by-shared.ensures.value c.requires.may.shares

pub returns-clause-started : goal.returns-clause-started
returns-clause-started c =
    address-changed c.args.plan.now c.args.router.now c.args.on c.args.ip.now c.args.len c.args.reg.now c.args.room.now c.args.used.now c.args.worker c.args._old.now c.args.new.now c.shared_by-shared.result c.start_row.new.reg c.start_row.new.room c.in_ok-begun.begun c.and.result
    c.shared_by-shared.ensures.value c.and.ensures c.requires.may
    c.in_ok-begun.ensures.free c.in_ok-begun.ensures.names c.in_ok-begun.ensures.places c.in_ok-begun.ensures.wait c.in_ok-begun.ensures.none c.in_ok-begun.ensures.none_room
