use Rattle.std.proofs.Common.{◌≡◌, ap, rules}
use Rattle.std.specs.BTreeMap.{insert_entry}
use Rattle.ref_counts.specs.Registry.{registered_name_cmp}
use Rattle.ref_counts.proofs.Noting.{noted-put}
use Rattle.ref_counts.proofs.registry.Registry.start_absent.Goals as goal

pub invariant_of-self-2 : goal.invariant_of-self-2
invariant_of-self-2 c =
    let put : c.insert.new.self ≡ insert_entry registered_name_cmp c.self.inside.names c.args.name c.in_ok-registration.registration = search rules in
    rw put (noted-put c.self.inside.noted.entries c.args.name c.in_ok-registration.registration (ap (λ r. r.pins) c.in_ok-registration.ensures) c.self.inside.names c.self.invariant)
