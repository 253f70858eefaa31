use Rattle.std.proofs.Common.{sym, ap₂, ◌∙◌}
use Rattle.std.specs.BTreeMap.{insert_entry}
use Rattle.ref_counts.specs.Registry.{registered_name_cmp}
use Rattle.ref_counts.proofs.Partings.{group-stands, neighbor-stands, other-stands, parted-other_put, parted-row_put, route-stands, row-stands}
use Rattle.ref_counts.proofs.registrations.Registrations.insert.Goals as goal

pub invariant_of-self-in-Row : goal.invariant_of-self-in-Row
invariant_of-self-in-Row c = parted-row_put c.self.inside c.self.invariant c.insert.new.self c.in-Row.key c.args.registration c.in-Row.ensures.1 c.in_ok-insert-in-Row.ensures.entries

pub invariant_of-self-in-Other : goal.invariant_of-self-in-Other
invariant_of-self-in-Other c = parted-other_put c.self.inside c.self.invariant c.insert-in-Other.new.self c.in-Other.name c.args.registration c.in-Other.ensures.1 c.in_ok-insert-in-Other.ensures.entries

pub returns-in_ok-insert-in-Row-clause-ok : goal.returns-in_ok-insert-in-Row-clause-ok
returns-in_ok-insert-in-Row-clause-ok c = (row-stands c.self.inside c.self.invariant c.in-Row.key c.in-Row.ensures.1).put c.insert.new.self c.args.registration c.in_ok-insert-in-Row.ensures.entries ∙ ap₂ (λ ns n. insert_entry registered_name_cmp ns n c.args.registration) c.self.view_is (sym c.in-Row.ensures.0)

pub returns-in_ok-insert-in-Neighbor-clause-ok : goal.returns-in_ok-insert-in-Neighbor-clause-ok
returns-in_ok-insert-in-Neighbor-clause-ok c = (neighbor-stands c.self.inside c.self.invariant c.in-Neighbor.neighbor).put c.insert-in-Neighbor.new.self c.args.registration c.in_ok-insert-in-Neighbor.ensures.entries ∙ ap₂ (λ ns n. insert_entry registered_name_cmp ns n c.args.registration) c.self.view_is (sym c.in-Neighbor.ensures)

pub returns-in_ok-insert-in-Route-clause-ok : goal.returns-in_ok-insert-in-Route-clause-ok
returns-in_ok-insert-in-Route-clause-ok c = (route-stands c.self.inside c.self.invariant c.in-Route.route).put c.insert-in-Route.new.self c.args.registration c.in_ok-insert-in-Route.ensures.entries ∙ ap₂ (λ ns n. insert_entry registered_name_cmp ns n c.args.registration) c.self.view_is (sym c.in-Route.ensures)

pub returns-in_ok-insert-in-Other-clause-ok : goal.returns-in_ok-insert-in-Other-clause-ok
returns-in_ok-insert-in-Other-clause-ok c = (other-stands c.self.inside c.self.invariant c.in-Other.name c.in-Other.ensures.1).put c.insert-in-Other.new.self c.args.registration c.in_ok-insert-in-Other.ensures.entries ∙ ap₂ (λ ns n. insert_entry registered_name_cmp ns n c.args.registration) c.self.view_is (sym c.in-Other.ensures.0)

pub returns-in_ok-insert-in-Group-clause-ok : goal.returns-in_ok-insert-in-Group-clause-ok
returns-in_ok-insert-in-Group-clause-ok c = (group-stands c.self.inside c.self.invariant c.in-Group.hops).put c.insert-in-Group.new.self c.args.registration c.in_ok-insert-in-Group.ensures.entries ∙ ap₂ (λ ns n. insert_entry registered_name_cmp ns n c.args.registration) c.self.view_is (sym c.in-Group.ensures)
