-- What is known of all names, once a reference into it has ended. Own.
use Rattle.std.specs.Prelude.{◌≡◌, Option}
use Rattle.std.specs.BTreeMap.{is_at}
use Rattle.std.specs.Borrow.{Fml, LendsSo, MutBor}
use Rattle.std.specs.Map.{set_value}
use Rattle.ref_counts.specs.declared.name.Name.{Name}
use Rattle.ref_counts.specs.Registered.{Registered}
use Rattle.ref_counts.specs.Registry.{Names, registered_name_cmp}
use Rattle.ref_counts.specs.contracts.registration.Registration as registration
use Rattle.ref_counts.specs.contracts.registrations.Registrations.{the_row}

-- the name has the last value written through r, and at `None` all stays as it is
abbrev pub lends_name : MutBor Names → Name → Option (MutBor Registered) → Fml
lends_name names n r = LendsSo the_row registration.the_row names r (λ new w. new ≡ set_value (is_at (registered_name_cmp n)) names.now w) (λ new. new ≡ names.now)
