-- prefixes that begin as others do
use Rattle.std.proofs.Common.{◌≡◌, ℕ, ◌+◌, ◌-◌, ◌*◌, ◌%◌, ◌^◌, ◌<◌, ◌≤◌, refl, sym, ap, ◌∙◌, arith, inl, inr}
use Rattle.std.proofs.lemmas.Bool.{cases_order}
use Rattle.std.specs.declared.cmp.Ordering.TheVariants.{Less}
use Rattle.swss_types.specs.Address.{IsProperPrefix, front, width}
use Rattle.swss_types.specs.AddressOrder.{prefix_cmp}
use Rattle.swss_types.specs.declared.address.Family.{Family}
use Rattle.swss_types.specs.declared.address.Ip.{Ip}
use Rattle.swss_types.specs.declared.address.Prefix.{Prefix}
use Rattle.lpm_table.specs.Trees.{IsUnder, IsInside, rest}
use Rattle.lpm_table.proofs.Begins.{front_bit, front_fewer, front_le, front_lt, front_same}
use Rattle.lpm_table.proofs.Orders.{less_bits, less_len}

pub within_self : (n : Prefix) → IsProperPrefix n → IsInside n n
within_self n proper = record { proper = proper; family = refl; long = omega arith; begins = refl }

-- a longer prefix of the same family leaves fewer bits free
pub rest_less : (n q : Prefix) → q.ip.family ≡ n.ip.family → n.len ≤ q.len → rest q ≤ rest n
rest_less n q f le = let w = ap width f in omega (arith, w, le)

pub rest_some : (n q : Prefix) → IsInside n q → n.len < q.len → rest n - 1 + 1 ≡ rest n
rest_some n q h lt = let w = ap width h.family in omega (arith, w, lt, h.proper.1)

pub rest_past : (n q : Prefix) → IsInside n q → n.len < q.len → rest q ≤ rest n - 1
rest_past n q h lt = let w = ap width h.family in omega (arith, w, lt, h.proper.1)

pub within_within : (m n q : Prefix) → IsInside m n → IsInside n q → IsInside m q
within_within m n q h k = record {
  proper = k.proper;
  family = k.family ∙ h.family;
  long = omega (arith, h.long, k.long);
  begins = front_fewer (rest n) (rest m) q.ip.bits n.ip.bits (rest_less m n h.family h.long) k.begins ∙ h.begins;
}

pub within_under : (m n q : Prefix) (bit : ℕ) → IsUnder m bit n → IsInside n q → IsUnder m bit q
within_under m n q bit h k = record {
  within = within_within m n q h.within k;
  longer = omega (arith, h.longer, k.long);
  next = ap (λ v. v % 2) (front_fewer (rest n) (rest m - 1) q.ip.bits n.ip.bits (rest_past m n h.within h.longer) k.begins) ∙ h.next;
}

same_parts : (n q : Prefix) → n.ip.family ≡ q.ip.family → n.ip.bits ≡ q.ip.bits → n.len ≡ q.len → n ≡ q
same_parts n q f b e =
    let made : Ip → ℕ → Prefix = λ ip len. record { ip = ip; len = len } in
    let ip : Family → ℕ → Ip = λ family bits. record { family = family; bits = bits } in
    ap (λ i. made i n.len) (ap (λ g. ip g n.ip.bits) f ∙ ap (ip q.ip.family) b) ∙ ap (made q.ip) e

-- one that is as long is the same
pub within_same : (n q : Prefix) → IsProperPrefix n → IsInside n q → n.len ≡ q.len → n ≡ q
within_same n q proper h e =
    let w = ap width h.family in
    let r : rest q ≡ rest n = omega (arith, w, e) in
    let bits : n.ip.bits ≡ q.ip.bits = front_same (rest n) n.ip.bits q.ip.bits proper.2 (ap (λ k. q.ip.bits % 2 ^ k) (sym r) ∙ h.proper.2) (sym h.begins) in
    same_parts n q (sym h.family) bits e

-- the bits of a node, and one more
under_front : (n q : Prefix) (bit : ℕ) → IsUnder n bit q → front (rest n - 1) q.ip.bits ≡ 2 * front (rest n) n.ip.bits + bit
under_front n q bit h =
    let whole : front (rest n - 1 + 1) q.ip.bits ≡ front (rest n) n.ip.bits = ap (λ r. front r q.ip.bits) (rest_some n q h.within h.longer) ∙ h.within.begins in
    omega (arith, front_bit (rest n - 1) q.ip.bits, whole, h.next)

-- a node's prefix comes before the longer ones
pub node_first : (n q : Prefix) → IsProperPrefix n → IsInside n q → n.len < q.len → prefix_cmp n q ≡ Less
node_first n q proper h lt =
    let le = front_le (rest n) n.ip.bits q.ip.bits proper.2 (sym h.begins) in
    elim (cases_order n.ip.bits q.ip.bits) [
      | inl e ↦ less_len n q (sym h.family) e lt
      | inr (inl less) ↦ less_bits n q (sym h.family) less
      | inr (inr more) ↦ absurd (omega (arith, le, more))
    ]

-- those with a zero behind the node's bits come before those with a one
pub zeros_first : (n p q : Prefix) → IsUnder n 0 p → IsUnder n 1 q → prefix_cmp p q ≡ Less
zeros_first n p q h k = less_bits p q (h.within.family ∙ sym k.within.family) (front_lt (rest n - 1) p.ip.bits q.ip.bits (omega (arith, under_front n p 0 h, under_front n q 1 k)))
