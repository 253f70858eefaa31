-- The order of a route's hops. Own.
use Rattle.std.specs.Prelude.{◌≡◌, ℕ, ◌<◌, nat_lt, List, [], ◌∷◌, if◌then◌else◌}
use Rattle.std.specs.List.{AllByRecursion}
use Rattle.std.specs.Ordering.{match_ordering, ordering_then}
use Rattle.std.specs.declared.cmp.Ordering.{Ordering}
use Rattle.std.specs.declared.cmp.Ordering.TheVariants.{Less}
use Rattle.swss_types.specs.AddressOrder.{ip_cmp}
use Rattle.swss_types.specs.NameOrder.{name_cmp}
use Rattle.table_schema.specs.contracts.row_hop.RowHopOrd.TheImpl as hop_ord
use Rattle.table_schema.specs.declared.row_hop.RowHop.{RowHop}

-- hops are ordered by their interfaces and then by their addresses
abbrev pub row_hop_cmp : RowHop → RowHop → Ordering
row_hop_cmp = hop_ord.ghosts.cmp

-- the same order, part by part
abbrev pub row_hop_order : RowHop → RowHop → Ordering
row_hop_order a b = ordering_then (name_cmp a.on b.on) (ip_cmp a.ip b.ip)

-- the hops rise, so each stands once, whatever its weight
abbrev pub AreRisingRowHops : List (RowHop × ℕ) → Type 0
AreRisingRowHops [] = Unit {0}
AreRisingRowHops (hop ∷ hops) = AllByRecursion (λ h. row_hop_cmp hop.0 h.0 ≡ Less) hops × AreRisingRowHops hops

-- no weight is 0
abbrev pub HaveWeights : List (RowHop × ℕ) → Type 0
HaveWeights hops = AllByRecursion (λ h. 0 < h.1) hops

abbrev pub greater_weight : ℕ → ℕ → ℕ
greater_weight a b = if nat_lt a b then b else a

-- a hop in its place among hops; of one that is there the greater weight is kept
abbrev pub put_row_hop : List (RowHop × ℕ) → RowHop → ℕ → List (RowHop × ℕ)
put_row_hop [] hop weight = (hop, weight) ∷ []
put_row_hop (x ∷ xs) hop weight = match_ordering (row_hop_cmp hop x.0) ((hop, weight) ∷ x ∷ xs) ((x.0, greater_weight x.1 weight) ∷ xs) (x ∷ put_row_hop xs hop weight)
