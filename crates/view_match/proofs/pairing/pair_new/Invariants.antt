use Rattle.std.proofs.Common.{◌≡◌, ◌++◌, drop}
use Rattle.sai_types.specs.Objects.{Objects}
use Rattle.view_match.specs.Indexed.{lent_entries}
use Rattle.view_match.specs.Pairs.{IsIndex, new_keys, pairs_from}
use Rattle.view_match.proofs.Routeless.{new_keys_among}
use Rattle.view_match.proofs.pairing.pair_new.Given as goal

-- the pairs so far, with those of the objects that are left, are all
abbrev pub invariant-loop-object : goal.invariant-loop-object
invariant-loop-object l = record {
  counted : l.place ≡ l.object-index;
  pairs : (objects : Objects) → IsIndex objects (lent_entries l.indexed.index.items) → l.pairing ++ pairs_from objects (new_keys_among l.new (drop l.object-index l.new)) l.place ≡ pairs_from objects (new_keys l.new) 0;
}
