use Rattle.std.proofs.Common.{Some, None}
use Rattle.neigh_orch.proofs.Calls.{neigh_operation_told}
use Rattle.neigh_orch.proofs.Takes.{may-build}
use Rattle.neigh_orch.proofs.flight.NeighFlight.took.Goals as goal

pub took_made-requires : goal.took_made-requires
took_made-requires c =
    let i = c.self.inside in
    let mac = c.in-None-Some.field-0-1 in
    may-build c.args.reg.now i.worker i.on i.ip i.base i.left mac c.args.made c.args.self.now
    (neigh_operation_told c.args.self.now i.worker i.on i.ip i.base i.left i.current None i.target (Some mac) c.self.view_is c.in-None-Some.is-0 c.in-None-Some.is-1) c.requires
