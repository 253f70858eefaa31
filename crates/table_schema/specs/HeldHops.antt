-- The hops that a row keeps, one or in a list. Own.
use Rattle.std.specs.Prelude.{ℕ, List, [], ◌∷◌}
use Rattle.table_schema.specs.declared.held_hops.HeldHops.{HeldHops}
use Rattle.table_schema.specs.declared.held_hops.HeldHops.TheVariants as held
use Rattle.table_schema.specs.declared.row_hop.RowHop.{RowHop}

-- the hops
abbrev pub hops_in : HeldHops → List (RowHop × ℕ)
hops_in (held.One hop alloc) = hop ∷ []
hops_in (held.List hops) = hops.items
