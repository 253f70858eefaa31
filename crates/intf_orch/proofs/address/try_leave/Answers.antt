use Rattle.std.proofs.Common.{◌≡◌, OnOk, sym, subst}
use Rattle.ref_counts.specs.declared.name.Name.TheVariants as name
use Rattle.ref_counts.specs.Registered.{begun_to_go}
use Rattle.ref_counts.specs.Registry.{changed}
use Rattle.intf_orch.specs.Interfaces.{IsLive}
use Rattle.intf_orch.proofs.Addresses.{stays-live}
use Rattle.intf_orch.proofs.address.try_leave.Goals as goal

pub leave_shared-requires : goal.leave_shared-requires
leave_shared-requires c =
    let goes = subst (λ a. OnOk a (c.try_remove.new.reg ≡ changed c.args.reg.now (name.Row c.args.key.now) (begun_to_go c.args.worker))) c.in-Ok.is c.in_ok-try_remove.ensures.ok in
    subst (λ l. IsLive l c.args.shared.now) (sym goes) (stays-live c.args.reg.now c.args.worker c.args.key.now c.args.shared.now c.requires.kind c.requires.live)
