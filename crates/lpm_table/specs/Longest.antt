-- The longest of several prefixes that cover an address (RFC 4632 section 5.1).
use Rattle.std.specs.Prelude.{◌≡◌, ◌≤◌, true, nat_lt, List, [], ◌∷◌, Option, Some, None, if◌then◌else◌}
use Rattle.std.specs.BTreeMap.{is_at}
use Rattle.std.specs.List.{AllByRecursion, list_any}
use Rattle.swss_types.specs.Address.{covers}
use Rattle.swss_types.specs.AddressOrder.{prefix_cmp}
use Rattle.swss_types.specs.declared.address.Ip.{Ip}
use Rattle.swss_types.specs.declared.address.Prefix.{Prefix}

-- of a prefix and the best of the others, the longer one
abbrev pub the_longer : Prefix → Option Prefix → Option Prefix
the_longer p None = Some p
the_longer p (Some best) = if nat_lt p.len best.len then Some best else Some p

-- the longest of these prefixes that covers an address
abbrev pub best_prefix : List Prefix → Ip → Option Prefix
best_prefix [] a = None
best_prefix (p ∷ ps) a = if covers p a then the_longer p (best_prefix ps a) else best_prefix ps a

-- one of these prefixes covers an address, and none of them that covers it is longer
pub record IsLongest (ps : List Prefix) (a : Ip) (p : Prefix) : Type 0 where
  pub held : list_any (is_at (prefix_cmp p)) ps ≡ true
  pub covering : covers p a ≡ true
  pub longest : AllByRecursion (λ q. covers q a ≡ true → q.len ≤ p.len) ps
