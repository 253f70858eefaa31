use Rattle.std.proofs.Common.{arith, sym, ap, ap₂, ◌∙◌}
use Rattle.ref_counts.specs.declared.name.Name.TheVariants as name
use Rattle.ref_counts.specs.Parted.{IsAmongOthers, IsAmongRows}
use Rattle.ref_counts.specs.Registry.{registered_at}
use Rattle.ref_counts.proofs.Partings.{among_rows, neighbor-stands, other-stands, route-stands, row-stands}
use Rattle.ref_counts.proofs.registrations.Registrations.get_row.Goals as goal

pub returns-in-Neigh : goal.returns-in-Neigh
returns-in-Neigh c = c.get.ensures ∙ (neighbor-stands c.self.inside c.self.invariant (c.in-Neigh.on, c.in-Neigh.ip)).found ∙ ap₂ registered_at c.self.view_is (ap name.Row (sym c.in-Neigh.is))

pub returns-in-Route : goal.returns-in-Route
returns-in-Route c = c.get-in-Route.ensures ∙ (route-stands c.self.inside c.self.invariant (record { vrf = c.in-Route.vrf; prefix = c.in-Route.prefix })).found ∙ ap₂ registered_at c.self.view_is (ap name.Row (sym c.in-Route.is))

pub returns-in-Other : goal.returns-in-Other
returns-in-Other c =
    let among : IsAmongOthers (name.Row c.args.key.now) = rw c.in-Other.is (omega arith, omega arith) in
    c.get_unread.ensures ∙ (other-stands c.self.inside c.self.invariant (name.Row c.args.key.now) among).found ∙ ap (λ ns. registered_at ns (name.Row c.args.key.now)) c.self.view_is

pub returns-in_default : goal.returns-in_default
returns-in_default c =
    let among : IsAmongRows c.args.key.now = among_rows c.args.key.now c.in_default.not-Neigh c.in_default.not-Route c.in_default.not-Other in
    c.get-in_default.ensures ∙ (row-stands c.self.inside c.self.invariant c.args.key.now among).found ∙ ap (λ ns. registered_at ns (name.Row c.args.key.now)) c.self.view_is
