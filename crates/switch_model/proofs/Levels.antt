-- levels of keys, and the order of keys
use Rattle.std.proofs.Common.{◌≡◌, ◌<◌, ◌≤◌, ◌∷◌, inl, inr, ℕ, List, [], sym, subst, arith}
use Rattle.std.specs.declared.cmp.Ordering.TheVariants.{Less}
use Rattle.table_schema.specs.Key.{key_cmp}
use Rattle.table_schema.specs.Names.{names_of}
use Rattle.table_schema.specs.declared.key.Key.{Key}
use Rattle.table_schema.specs.declared.key.Key.TheVariants as key
use Rattle.table_schema.specs.declared.row.Row.{Row}
use Rattle.sai_types.specs.Alike.{IsIn}
use Rattle.switch_model.specs.Levels.{level_of}
use Rattle.switch_model.proofs.Ready.{AreBelow, low, names_below}

in_below : (n : ℕ) (ks : List Key) (p : Key) → AreBelow n ks → IsIn p ks → level_of p < n
in_below n [] p below h = elim h [ ]
in_below n (k ∷ ks) p below (inl e) = subst (λ z. level_of z < n) (sym e) below.0
in_below n (k ∷ ks) p below (inr h) = in_below n ks p below.1 h

-- what a row names is of a lower level
pub named_below : (k : Key) (r : Row) (p : Key) → IsIn p (names_of k r) → level_of p < level_of k
named_below k r p h = in_below (level_of k) (names_of k r) p (names_below k r) h

level_not_below_zero : (q : Key) → 0 ≤ level_of q
level_not_below_zero q = omega arith

-- lower levels come first
pub first_lower : (k q : Key) → key_cmp k q ≡ Less → level_of k ≤ level_of q
first_lower (key.Port port) q h = level_not_below_zero q
first_lower (key.Vlan vlan) q h = level_not_below_zero q
first_lower (key.Vrf n) q h = level_not_below_zero q
first_lower k (key.Route v x) h = let l = low k in omega (arith, l)
first_lower k (key.Other x) h = let l = low k in omega (arith, l)
first_lower (key.Member vlan port) (key.Member x y) h = omega arith
first_lower (key.Member vlan port) (key.Intf x) h = omega arith
first_lower (key.Member vlan port) (key.Addr x y z) h = omega arith
first_lower (key.Member vlan port) (key.Neigh x y) h = omega arith
first_lower (key.Intf on) (key.Intf x) h = omega arith
first_lower (key.Intf on) (key.Addr x y z) h = omega arith
first_lower (key.Intf on) (key.Neigh x y) h = omega arith
first_lower (key.Addr on ip len) (key.Addr x y z) h = omega arith
first_lower (key.Addr on ip len) (key.Neigh x y) h = omega arith
first_lower (key.Neigh on ip) (key.Neigh x y) h = omega arith
first_lower k q h = absurd cc
