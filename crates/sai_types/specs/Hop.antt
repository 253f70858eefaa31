-- The orders of hops and of hops with their weights. Own.
use Rattle.std.specs.Prelude.{ℕ, nat_lt, List, [], ◌∷◌, if◌then◌else◌}
use Rattle.std.specs.Ordering.{match_ordering}
use Rattle.std.specs.List.Sorted.{IsStrictlySortedBy}
use Rattle.std.specs.declared.cmp.Ordering.{Ordering}
use Rattle.sai_types.specs.contracts.hop.HopOrd.TheImpl as hop_ord
use Rattle.sai_types.specs.contracts.weight.WHopOrd.TheImpl as whop_ord
use Rattle.sai_types.specs.declared.hop.Hop.{Hop}
use Rattle.sai_types.specs.declared.weight.WHop.{WHop}

-- by what the interface stands on, then by address
abbrev pub hop_cmp : Hop → Hop → Ordering
hop_cmp = hop_ord.ghosts.cmp

-- by the hop, then by the weight
abbrev pub whop_cmp : WHop → WHop → Ordering
whop_cmp = whop_ord.ghosts.cmp

abbrev pub by_hop : WHop → WHop → Ordering
by_hop a b = hop_cmp a.hop b.hop

-- the hops rise, so each stands once, whatever its weight
abbrev pub AreRisingHops : List WHop → Type 0
AreRisingHops hops = IsStrictlySortedBy by_hop hops

abbrev pub heavier : ℕ → ℕ → ℕ
heavier a b = if nat_lt a b then b else a

-- a hop in its place among hops; of one that is there the greater weight is kept
abbrev pub put_hop : List WHop → WHop → List WHop
put_hop [] w = w ∷ []
put_hop (x ∷ xs) w = match_ordering (hop_cmp w.hop x.hop) (w ∷ x ∷ xs) (record { hop = x.hop; weight = heavier x.weight w.weight } ∷ xs) (x ∷ put_hop xs w)
