-- Trees of prefixes. Own.
use Rattle.std.specs.Prelude.{◌≡◌, ◌≢◌, ℕ, ◌-◌, ◌%◌, ◌<◌, ◌≤◌, Bool, true, false, List, [], ◌∷◌, ◌++◌, length, Option, Some, None, Box}
use Rattle.std.specs.Borrow.{Bor}
use Rattle.std.specs.List.{AllByRecursion}
use Rattle.std.specs.declared.alloc.Global.{Global}
use Rattle.swss_types.specs.Address.{IsProperPrefix, front, width}
use Rattle.swss_types.specs.declared.address.Family.{Family}
use Rattle.swss_types.specs.declared.address.Family.TheVariants.{V4, V6}
use Rattle.swss_types.specs.declared.address.Prefix.{Prefix}
use Rattle.lpm_table.specs.Below.{side}
use Rattle.lpm_table.specs.declared.below.Below.{Below}

-- the prefixes of a tree, if there is one
abbrev pub members : Option (Box (List Prefix) Global) → List Prefix
members None = []
members (Some tree) = tree.value

-- those of the tree on a side
abbrev pub members_at : Bool → Below (Box (List Prefix) Global) → List Prefix
members_at one below = members (side one below)

-- those of a tree that is looked at, if there is one
abbrev pub lent_members : Option (Bor (List Prefix)) → List Prefix
lent_members None = []
lent_members (Some tree) = tree.now

-- a node's own prefix, where it was put
abbrev pub own : Bool → Prefix → List Prefix
own true n = n ∷ []
own false n = []

-- the prefixes of a node and of the trees below it, in their order
abbrev pub preorder : Prefix → Bool → List Prefix → List Prefix → List Prefix
preorder n put zeros ones = own put n ++ (zeros ++ ones)

-- how many bits a prefix leaves free
abbrev pub rest : Prefix → ℕ
rest p = width p.ip.family - p.len

-- all are of this family
abbrev pub AreOf : Family → List Prefix → Type 0
AreOf f ps = AllByRecursion (λ p. p.ip.family ≡ f) ps

abbrev pub AreByFamily : List Prefix → List Prefix → Type 0
AreByFamily fours sixes = AreOf V4 fours × AreOf V6 sixes

-- a prefix is as long as a node's or longer, and begins as that does
pub record IsInside (n q : Prefix) : Type 0 where
  pub proper : IsProperPrefix q
  pub family : q.ip.family ≡ n.ip.family
  pub long : n.len ≤ q.len
  pub begins : front (rest n) q.ip.bits ≡ front (rest n) n.ip.bits

-- it is longer, and has this bit behind the node's
pub record IsUnder (n : Prefix) (bit : ℕ) (q : Prefix) : Type 0 where
  pub within : IsInside n q
  pub longer : n.len < q.len
  pub next : front (rest n - 1) q.ip.bits % 2 ≡ bit

-- a node with these prefixes in the trees below it; where it was not put, there are some in both
pub record IsNode (n : Prefix) (put : Bool) (zeros ones : List Prefix) : Type 0 where
  pub proper : IsProperPrefix n
  pub below_zero : AllByRecursion (IsUnder n 0) zeros
  pub below_one : AllByRecursion (IsUnder n 1) ones
  pub forks : put ≡ false → (0 < length zeros) × (0 < length ones)

-- a prefix is shorter than that of a tree's node, which begins as it does
pub record IsAbove (p n : Prefix) (ps : List Prefix) : Type 0 where
  pub proper : IsProperPrefix p
  pub within : IsInside p n
  pub shorter : p.len < n.len
  pub all : AllByRecursion (IsInside n) ps

-- a prefix and that of a tree's node agree but for their last bits, of which each has some
pub record IsFork (p n : Prefix) (ps : List Prefix) (cut : ℕ) : Type 0 where
  pub proper : IsProperPrefix p
  pub proper_node : IsProperPrefix n
  pub family : n.ip.family ≡ p.ip.family
  pub all : AllByRecursion (IsInside n) ps
  pub some : 0 < length ps
  pub past : rest p < cut
  pub past_node : rest n < cut
  pub fits : cut ≤ width p.ip.family
  pub agree : front cut n.ip.bits ≡ front cut p.ip.bits
  pub apart : front (cut - 1) n.ip.bits ≢ front (cut - 1) p.ip.bits

-- a prefix does not begin as that of a tree's node does, or is shorter
pub record IsApart (p n : Prefix) (ps : List Prefix) : Type 0 where
  pub proper : IsProperPrefix p
  pub proper_node : IsProperPrefix n
  pub family : n.ip.family ≡ p.ip.family
  pub all : AllByRecursion (IsInside n) ps
  pub some : 0 < length ps
  pub out : n.len ≤ p.len → front (rest n) p.ip.bits ≢ front (rest n) n.ip.bits
