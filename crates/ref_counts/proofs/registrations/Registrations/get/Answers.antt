use Rattle.std.proofs.Common.{sym, ap₂, ◌∙◌}
use Rattle.ref_counts.specs.Registry.{registered_at}
use Rattle.ref_counts.proofs.Partings.{group-stands, neighbor-stands, other-stands, route-stands, row-stands}
use Rattle.ref_counts.proofs.registrations.Registrations.get.Goals as goal

pub returns-in-Row : goal.returns-in-Row
returns-in-Row c = c.get.ensures ∙ (row-stands c.self.inside c.self.invariant c.in-Row.key.now c.in-Row.ensures.1).found ∙ ap₂ registered_at c.self.view_is (sym c.in-Row.ensures.0)

pub returns-in-Neighbor : goal.returns-in-Neighbor
returns-in-Neighbor c = c.get-in-Neighbor.ensures ∙ (neighbor-stands c.self.inside c.self.invariant c.in-Neighbor.neighbor).found ∙ ap₂ registered_at c.self.view_is (sym c.in-Neighbor.ensures)

pub returns-in-Route : goal.returns-in-Route
returns-in-Route c = c.get-in-Route.ensures ∙ (route-stands c.self.inside c.self.invariant c.in-Route.route).found ∙ ap₂ registered_at c.self.view_is (sym c.in-Route.ensures)

pub returns-in-Other : goal.returns-in-Other
returns-in-Other c = c.get-in-Other.ensures ∙ (other-stands c.self.inside c.self.invariant c.in-Other.name.now c.in-Other.ensures.1).found ∙ ap₂ registered_at c.self.view_is (sym c.in-Other.ensures.0)

pub returns-in-Group : goal.returns-in-Group
returns-in-Group c = c.get-in-Group.ensures ∙ (group-stands c.self.inside c.self.invariant c.in-Group.hops.now).found ∙ ap₂ registered_at c.self.view_is (sym c.in-Group.ensures)
