-- The operation of a group, as far as it is made. Own.
use Rattle.std.specs.Prelude.{◌≡◌, ◌≤◌, ℕ, Bool, true, List, [], length, drop, suc}
use Rattle.table_schema.specs.declared.key.Key.{Key}
use Rattle.sai_types.specs.declared.weight.WHop.{WHop}
use Rattle.sai_types.specs.declared.ids.Vid.{Vid}
use Rattle.ref_counts.specs.declared.name.Name.{Name}
use Rattle.ref_counts.specs.declared.name.Name.TheVariants as name
use Rattle.orch_flight.specs.Grouping.{GroupOperation, first_group_due}

-- the hops of a group's name
abbrev pub hops_named : Name → List WHop
hops_named (name.Group hops) = hops
hops_named _ = []

-- the operation of which so many calls have taken effect
abbrev pub group_operation : ℕ → Name → Bool → List Key → List Vid → ℕ → GroupOperation
group_operation worker n builds neighbours made done = record { worker = worker; hops = hops_named n; builds = builds; neighbours = neighbours; made = made; due = drop done (first_group_due (hops_named n) builds) }

-- it is the name of a group; where the group is built, each call made an identifier, and all identifiers have their places
pub record IsGroupKept (n : Name) (builds : Bool) (made : List Vid) (capacity done : ℕ) : Type 0 where
  pub group : n ≡ name.Group (hops_named n)
  pub within : done ≤ suc (length (hops_named n))
  pub numbered : builds ≡ true → length made ≡ done
  pub fit : length made ≤ capacity
  pub room : builds ≡ true → suc (length (hops_named n)) ≤ capacity
