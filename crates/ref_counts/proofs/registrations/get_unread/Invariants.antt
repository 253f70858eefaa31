use Rattle.std.proofs.Common.{◌≡◌}
use Rattle.ref_counts.specs.declared.name.Name.TheVariants as name
use Rattle.ref_counts.specs.Registry.{registered_at}
use Rattle.ref_counts.proofs.registrations.get_unread.Given as goal

-- no name so far is the row's
abbrev pub invariant-loop-name : goal.invariant-loop-name
invariant-loop-name l = registered_at l.name-iterator (name.Row l.key) ≡ registered_at l.others (name.Row l.key)
