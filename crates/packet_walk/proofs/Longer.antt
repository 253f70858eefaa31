-- the longest of several prefixes, where one more is put among them
use Rattle.std.proofs.Common.{◌≡◌, ℕ, ◌-◌, ◌%◌, ◌^◌, ◌==◌, nat_lt, true, false, cond, List, [], ◌∷◌, Option, None, Some, refl, sym, ap, ap₂, ◌∙◌, subst, arith}
use Rattle.std.specs.List.{AllByRecursion}
use Rattle.std.specs.BTreeSet.{insert_key}
use Rattle.std.specs.Ordering.{match_ordering}
use Rattle.std.specs.declared.cmp.Ordering.TheVariants.{Less, Equal, Greater}
use Rattle.std.proofs.lemmas.Bool.{and_parts, cond-false, eqb-true, false≢true, le-ltb, lt-ltb, ltb-false, ltb-true}
use Rattle.swss_types.specs.Address.{IsProperPrefix, covers, front, same_family, width}
use Rattle.swss_types.specs.AddressOrder.{prefix_cmp}
use Rattle.swss_types.specs.declared.address.Family.{Family}
use Rattle.swss_types.specs.declared.address.Family.TheVariants.{V4, V6}
use Rattle.swss_types.specs.declared.address.Ip.{Ip}
use Rattle.swss_types.specs.declared.address.Prefix.{Prefix}
use Rattle.swss_types.proofs.AddressOrders.{prefix_exact}
use Rattle.lpm_table.specs.Longest.{best_prefix, the_longer}
use Rattle.lpm_table.proofs.Begins.{front_same}

one_family : (f g : Family) → same_family f g ≡ true → f ≡ g
one_family V4 V4 h = refl
one_family V6 V6 h = refl
one_family V4 V6 h = absurd (false≢true h)
one_family V6 V4 h = absurd (false≢true h)

-- two proper prefixes of one length that cover an address are one
pub one_covering : (a : Ip) (x p : Prefix) → IsProperPrefix x → IsProperPrefix p → covers x a ≡ true → covers p a ≡ true → x.len ≡ p.len → x ≡ p
one_covering a x p proper-x proper-p at-x at-p len =
    let hx = and_parts (same_family x.ip.family a.family) (front (width a.family - x.len) x.ip.bits == front (width a.family - x.len) a.bits) at-x in
    let hp = and_parts (same_family p.ip.family a.family) (front (width a.family - p.len) p.ip.bits == front (width a.family - p.len) a.bits) at-p in
    let fx : x.ip.family ≡ a.family = one_family x.ip.family a.family hx.0 in
    let fp : p.ip.family ≡ a.family = one_family p.ip.family a.family hp.0 in
    let rest : width a.family - x.len ≡ width a.family - p.len = ap (λ n. width a.family - n) len in
    let ex : front (width a.family - p.len) x.ip.bits ≡ front (width a.family - p.len) a.bits = subst (λ r. front r x.ip.bits ≡ front r a.bits) rest (eqb-true (front (width a.family - x.len) x.ip.bits) (front (width a.family - x.len) a.bits) hx.1) in
    let ep : front (width a.family - p.len) p.ip.bits ≡ front (width a.family - p.len) a.bits = eqb-true (front (width a.family - p.len) p.ip.bits) (front (width a.family - p.len) a.bits) hp.1 in
    let clean-x : x.ip.bits % 2 ^ (width a.family - p.len) ≡ 0 = subst (λ r. x.ip.bits % 2 ^ r ≡ 0) (ap (λ f. width f - x.len) fx ∙ rest) proper-x.2 in
    let clean-p : p.ip.bits % 2 ^ (width a.family - p.len) ≡ 0 = subst (λ r. p.ip.bits % 2 ^ r ≡ 0) (ap (λ f. width f - p.len) fp) proper-p.2 in
    let bits : x.ip.bits ≡ p.ip.bits = front_same (width a.family - p.len) x.ip.bits p.ip.bits clean-x clean-p (ex ∙ sym ep) in
    let ip-made : Family → ℕ → Ip = λ f b. record { family = f; bits = b } in
    let made : Ip → ℕ → Prefix = λ i n. record { ip = i; len = n } in
    ap₂ made (ap₂ ip-made (fx ∙ sym fp) bits) len

longer-alone : (x : Prefix) → the_longer x (Some x) ≡ Some x
longer-alone x = cond-false (nat_lt x.len x.len) (Some x) (Some x) (le-ltb x.len x.len (omega arith))

longer-same : (x : Prefix) (o : Option Prefix) → the_longer x (the_longer x o) ≡ the_longer x o
longer-same x None = longer-alone x
longer-same x (Some b) =
    elim (nat_lt x.len b.len) as (λ t. nat_lt x.len b.len ≡ t → the_longer x (cond t (Some b) (Some x)) ≡ cond t (Some b) (Some x)) [
      | true ↦ λ lt. ap (λ t. cond t (Some b) (Some x)) lt
      | false ↦ λ ge. longer-alone x
    ] refl

module _ (x p : Prefix) (same : x.len ≡ p.len → x ≡ p) where
  swap-two : the_longer x (Some p) ≡ the_longer p (Some x)
  swap-two =
      elim (nat_lt x.len p.len) as (λ t. nat_lt x.len p.len ≡ t → cond t (Some p) (Some x) ≡ the_longer p (Some x)) [
        | true ↦ λ lt. sym (cond-false (nat_lt p.len x.len) (Some x) (Some p) (le-ltb p.len x.len (omega (arith, ltb-true x.len p.len lt))))
        | false ↦ λ ge. elim (nat_lt p.len x.len) as (λ t. nat_lt p.len x.len ≡ t → Some x ≡ cond t (Some x) (Some p)) [
          | true ↦ λ lt. refl
          | false ↦ λ le. ap Some (same (omega (arith, ltb-false x.len p.len ge, ltb-false p.len x.len le)))
        ] refl
      ] refl

  -- of two prefixes beside others either may be put first
  pub longer-swap : (o : Option Prefix) → the_longer x (the_longer p o) ≡ the_longer p (the_longer x o)
  longer-swap None = swap-two
  longer-swap (Some b) =
      elim (nat_lt p.len b.len) as (λ t. nat_lt p.len b.len ≡ t → the_longer x (cond t (Some b) (Some p)) ≡ the_longer p (the_longer x (Some b))) [
        | true ↦ λ pb. elim (nat_lt x.len b.len) as (λ t. nat_lt x.len b.len ≡ t → cond t (Some b) (Some x) ≡ the_longer p (cond t (Some b) (Some x))) [
          | true ↦ λ xb. sym (ap (λ t. cond t (Some b) (Some p)) pb)
          | false ↦ λ bx. sym (ap (λ t. cond t (Some x) (Some p)) (lt-ltb p.len x.len (omega (arith, ltb-true p.len b.len pb, ltb-false x.len b.len bx))))
        ] refl
        | false ↦ λ bp. elim (nat_lt x.len b.len) as (λ t. nat_lt x.len b.len ≡ t → the_longer x (Some p) ≡ the_longer p (cond t (Some b) (Some x))) [
          | true ↦ λ xb. ap (λ t. cond t (Some p) (Some x)) (lt-ltb x.len p.len (omega (arith, ltb-true x.len b.len xb, ltb-false p.len b.len bp))) ∙ sym (ap (λ t. cond t (Some b) (Some p)) bp)
          | false ↦ λ bx. swap-two
        ] refl
      ] refl

module _ (a : Ip) (p : Prefix) (proper : IsProperPrefix p) where
  abbrev best-with : Option Prefix → Option Prefix
  best-with best = cond (covers p a) (the_longer p best) best

  again : (x : Prefix) (xs : List Prefix) → p ≡ x → best_prefix (x ∷ xs) a ≡ best-with (best_prefix (x ∷ xs) a)
  again x xs is =
      subst (λ x. best_prefix (x ∷ xs) a ≡ best-with (best_prefix (x ∷ xs) a)) is
      (elim (covers p a) as (λ t. cond t (the_longer p (best_prefix xs a)) (best_prefix xs a) ≡ cond t (the_longer p (cond t (the_longer p (best_prefix xs a)) (best_prefix xs a))) (cond t (the_longer p (best_prefix xs a)) (best_prefix xs a))) [
        | true ↦ sym (longer-same p (best_prefix xs a))
        | false ↦ refl
      ])

  behind : (x : Prefix) → IsProperPrefix x → (best : Option Prefix) → cond (covers x a) (the_longer x (best-with best)) (best-with best) ≡ best-with (cond (covers x a) (the_longer x best) best)
  behind x proper-x best =
      elim (covers x a) as (λ t. covers x a ≡ t → cond t (the_longer x (best-with best)) (best-with best) ≡ best-with (cond t (the_longer x best) best)) [
        | true ↦ λ at-x. elim (covers p a) as (λ t. covers p a ≡ t → the_longer x (cond t (the_longer p best) best) ≡ cond t (the_longer p (the_longer x best)) (the_longer x best)) [
          | true ↦ λ at-p. longer-swap x p (one_covering a x p proper-x proper at-x at-p) best
          | false ↦ λ out. refl
        ] refl
        | false ↦ λ out. refl
      ] refl

  -- the best of prefixes with one more is that one beside the best of the others
  pub best-put : (ps : List Prefix) → AllByRecursion IsProperPrefix ps → best_prefix (insert_key prefix_cmp ps p) a ≡ cond (covers p a) (the_longer p (best_prefix ps a)) (best_prefix ps a)
  best-put [] h = refl
  best-put (x ∷ xs) h =
      elim (prefix_cmp p x) as (λ o. prefix_cmp p x ≡ o → best_prefix (match_ordering o (p ∷ x ∷ xs) (x ∷ xs) (x ∷ insert_key prefix_cmp xs p)) a ≡ best-with (best_prefix (x ∷ xs) a)) [
        | Less ↦ λ e. refl
        | Equal ↦ λ e. again x xs (prefix_exact p x e)
        | Greater ↦ λ e. ap (λ b. cond (covers x a) (the_longer x b) b) (best-put xs h.1) ∙ behind x h.0 (best_prefix xs a)
      ] refl
