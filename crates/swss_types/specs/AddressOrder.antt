-- The orders of addresses and prefixes. Own.
use Rattle.std.specs.Prelude.{ℕ}
use Rattle.std.specs.Cmp.{IsTotalOrder, nat_cmp_total, on_total, then_total}
use Rattle.std.specs.Ordering.{nat_cmp, ordering_then}
use Rattle.std.specs.declared.cmp.Ordering.{Ordering}
use Rattle.swss_types.specs.declared.address.Family.{Family}
use Rattle.swss_types.specs.declared.address.Family.TheVariants.{V4, V6}
use Rattle.swss_types.specs.declared.address.Ip.{Ip}
use Rattle.swss_types.specs.declared.address.Prefix.{Prefix}

-- addresses of version 4 come first
abbrev pub family_place : Family → ℕ
family_place V4 = 0
family_place V6 = 1

-- by version, and then as numbers
abbrev pub ip_cmp : Ip → Ip → Ordering
ip_cmp a b = ordering_then (nat_cmp (family_place a.family) (family_place b.family)) (nat_cmp a.bits b.bits)

pub ip_total : IsTotalOrder ip_cmp
ip_total = then_total (on_total (λ a. family_place a.family) nat_cmp_total) (on_total (λ a. a.bits) nat_cmp_total)

-- by address, and then by length, the shorter first
abbrev pub prefix_cmp : Prefix → Prefix → Ordering
prefix_cmp p q = ordering_then (ip_cmp p.ip q.ip) (nat_cmp p.len q.len)

pub prefix_total : IsTotalOrder prefix_cmp
prefix_total = then_total (on_total (λ p. p.ip) ip_total) (on_total (λ p. p.len) nat_cmp_total)
