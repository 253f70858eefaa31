-- What a map becomes, once a reference into it has ended. Own.
use Rattle.std.specs.Prelude.{◌≡◌, List, Option}
use Rattle.std.specs.BTreeMap.{is_at}
use Rattle.std.specs.Borrow.{Fml, LendsSo, MutBor, RattleType}
use Rattle.std.specs.BTreeMap.Lent.{OrdMembers}
use Rattle.std.specs.Map.{set_value}
use Rattle.std.specs.declared.cmp.Ordering.{Ordering}
use Rattle.late_maps.specs.contracts.late_map.LateMap.{the_row}

-- the key that the query finds has the last value written through r, and at `None` all stays as it is
abbrev pub lends_value : (K V N : RattleType) (g : OrdMembers K.Denot) → MutBor (List (K.Denot × V.Denot)) → (K.Denot → Ordering) → Option (MutBor V.Denot) → Fml
lends_value K V N g m compare r =
    LendsSo (the_row K V N (record { cmp = g.cmp }) (record { eq = g.eq }) (record { partial_cmp = g.partial_cmp })) V m r (λ new w. new ≡ set_value (is_at compare) m.now w) (λ new. new ≡ m.now)
