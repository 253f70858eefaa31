use Rattle.std.proofs.Common.{◌≡◌, ◌∙◌, true, option_map, sym, ap, subst}
use Rattle.switch_model.specs.Placed.{bare}
use Rattle.ref_counts.specs.declared.name.Name.TheVariants as name
use Rattle.ref_counts.specs.Registry.{all_released}
use Rattle.registry_laws.specs.Ending.{MayEnd, users_dropped}
use Rattle.flight_board.specs.Board.{FlightState}
use Rattle.flight_board.specs.Flights.{operation_of}
use Rattle.flight_board.proofs.Endings.{may-come}
use Rattle.flight_board.proofs.flight.Flight.end.Goals as goal

pub end_row-requires : goal.end_row-requires
end_row-requires c =
    let i = c.self.inside in
    let f = operation_of i.operation in
    let named : name.Row c.in-Row.key ≡ name.Row f.key = sym c.in-Row.is ∙ c.self.invariant.named in
    let same : c.in-Row.key ≡ f.key = cc in
    let held = subst (λ (z : FlightState). MayEnd c.args.reg.now z.flown.operation.worker z.flown.operation.key z.flown.operation.new) (sym c.self.view_is) c.requires.may in
    let may = subst (λ n. MayEnd c.args.reg.now n f.key f.new) c.self.invariant.worker_is held in
    may-come c.args.reg.now c.release.new.self i.worker f.key i.named.items (c.release.ensures ∙ ap (all_released i.worker true) (c.drop_users.ensures ∙ ap (λ q. users_dropped c.args.reg.now q i.named.items) same))
    f.new c.into_row-target.result i.name c.self.invariant.named (c.into_row-target.ensures (option_map bare f.new) c.self.invariant.row) may
