use Rattle.std.proofs.Common.{sym, ap₂, ◌∙◌}
use Rattle.std.specs.BTreeMap.{is_at}
use Rattle.std.specs.Map.{remove_entry}
use Rattle.ref_counts.specs.Registry.{registered_at, registered_name_cmp}
use Rattle.ref_counts.proofs.Partings.{group-stands, neighbor-stands, other-stands, parted-other_removed, parted-row_removed, route-stands, row-stands}
use Rattle.ref_counts.proofs.registrations.Registrations.remove.Goals as goal

pub invariant_of-self : goal.invariant_of-self
invariant_of-self c = parted-row_removed c.self.inside c.self.invariant c.remove.new.self c.in-Row.key.now c.remove.ensures.entries

pub invariant_of-self-in-Other : goal.invariant_of-self-in-Other
invariant_of-self-in-Other c = parted-other_removed c.self.inside c.self.invariant c.remove-in-Other.new.self c.in-Other.name.now c.remove-in-Other.ensures.entries

pub returns-in-Row-clause-value : goal.returns-in-Row-clause-value
returns-in-Row-clause-value c = c.remove.ensures.value ∙ (row-stands c.self.inside c.self.invariant c.in-Row.key.now c.in-Row.ensures.1).found ∙ ap₂ registered_at c.self.view_is (sym c.in-Row.ensures.0)

pub returns-in-Row-clause-removed : goal.returns-in-Row-clause-removed
returns-in-Row-clause-removed c = (row-stands c.self.inside c.self.invariant c.in-Row.key.now c.in-Row.ensures.1).removed c.remove.new.self c.remove.ensures.entries ∙ ap₂ (λ ns n. remove_entry (is_at (registered_name_cmp n)) ns) c.self.view_is (sym c.in-Row.ensures.0)

pub returns-in-Neighbor-clause-value : goal.returns-in-Neighbor-clause-value
returns-in-Neighbor-clause-value c = c.remove-in-Neighbor.ensures.value ∙ (neighbor-stands c.self.inside c.self.invariant c.in-Neighbor.neighbor).found ∙ ap₂ registered_at c.self.view_is (sym c.in-Neighbor.ensures)

pub returns-in-Neighbor-clause-removed : goal.returns-in-Neighbor-clause-removed
returns-in-Neighbor-clause-removed c = (neighbor-stands c.self.inside c.self.invariant c.in-Neighbor.neighbor).removed c.remove-in-Neighbor.new.self c.remove-in-Neighbor.ensures.entries ∙ ap₂ (λ ns n. remove_entry (is_at (registered_name_cmp n)) ns) c.self.view_is (sym c.in-Neighbor.ensures)

pub returns-in-Route-clause-value : goal.returns-in-Route-clause-value
returns-in-Route-clause-value c = c.remove-in-Route.ensures.value ∙ (route-stands c.self.inside c.self.invariant c.in-Route.route).found ∙ ap₂ registered_at c.self.view_is (sym c.in-Route.ensures)

pub returns-in-Route-clause-removed : goal.returns-in-Route-clause-removed
returns-in-Route-clause-removed c = (route-stands c.self.inside c.self.invariant c.in-Route.route).removed c.remove-in-Route.new.self c.remove-in-Route.ensures.entries ∙ ap₂ (λ ns n. remove_entry (is_at (registered_name_cmp n)) ns) c.self.view_is (sym c.in-Route.ensures)

pub returns-in-Other-clause-value : goal.returns-in-Other-clause-value
returns-in-Other-clause-value c = c.remove-in-Other.ensures.value ∙ (other-stands c.self.inside c.self.invariant c.in-Other.name.now c.in-Other.ensures.1).found ∙ ap₂ registered_at c.self.view_is (sym c.in-Other.ensures.0)

pub returns-in-Other-clause-removed : goal.returns-in-Other-clause-removed
returns-in-Other-clause-removed c = (other-stands c.self.inside c.self.invariant c.in-Other.name.now c.in-Other.ensures.1).removed c.remove-in-Other.new.self c.remove-in-Other.ensures.entries ∙ ap₂ (λ ns n. remove_entry (is_at (registered_name_cmp n)) ns) c.self.view_is (sym c.in-Other.ensures.0)

pub returns-in-Group-clause-value : goal.returns-in-Group-clause-value
returns-in-Group-clause-value c = c.remove-in-Group.ensures.value ∙ (group-stands c.self.inside c.self.invariant c.in-Group.hops.now).found ∙ ap₂ registered_at c.self.view_is (sym c.in-Group.ensures)

pub returns-in-Group-clause-removed : goal.returns-in-Group-clause-removed
returns-in-Group-clause-removed c = (group-stands c.self.inside c.self.invariant c.in-Group.hops.now).removed c.remove-in-Group.new.self c.remove-in-Group.ensures.entries ∙ ap₂ (λ ns n. remove_entry (is_at (registered_name_cmp n)) ns) c.self.view_is (sym c.in-Group.ensures)
