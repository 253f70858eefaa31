use Rattle.std.proofs.Common.{◌≡◌, ◌++◌, drop, length}
use Rattle.chip_names.specs.Naming.{entries_of}
use Rattle.view_match.specs.Indexed.{entries_from, lent_entries}
use Rattle.view_match.proofs.indexed.partners.Given as goal

-- the entries so far, with those of the objects that are left, are all
abbrev pub invariant-loop-key : goal.invariant-loop-key
invariant-loop-key l = record {
  counted : l.place ≡ l.key-index;
  long : length l.keys ≡ length l.old;
  entries : lent_entries l.index.items ++ entries_from (drop l.key-index l.keys) (entries_of (drop l.place l.old)) l.place ≡ entries_from l.keys (entries_of l.old) 0;
}
