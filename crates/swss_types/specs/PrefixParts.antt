-- What a prefix is seen as.
use Rattle.std.specs.Prelude.{ℕ}
use Rattle.swss_types.specs.declared.address.Ip.{Ip}

-- an address, and how many of its first bits count
pub record PrefixParts : Type 0 where
  pub ip : Ip
  pub len : ℕ
