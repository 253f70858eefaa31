-- the longest prefix that covers an address, among those of a node
use Rattle.std.proofs.Common.{◌≡◌, ◌≢◌, ℕ, ◌-◌, ◌%◌, ◌<◌, ◌==◌, ◌&&◌, Bool, true, false, cond, List, [], ◌∷◌, ◌++◌, Option, None, Some, refl, sym, ap, ◌∙◌, subst, arith}
use Rattle.std.specs.Prelude.{nat_lt}
use Rattle.std.specs.List.{AllByRecursion}
use Rattle.std.proofs.lemmas.Bool.{cond-false, lt-ltb, eq-eqb, ne_eqb}
use Rattle.swss_types.specs.Address.{covers, front, same_family, width}
use Rattle.swss_types.specs.declared.address.Family.{Family}
use Rattle.swss_types.specs.declared.address.Family.TheVariants.{V4, V6}
use Rattle.swss_types.specs.declared.address.Ip.{Ip}
use Rattle.swss_types.specs.declared.address.Prefix.{Prefix}
use Rattle.lpm_table.specs.Longest.{best_prefix, the_longer}
use Rattle.lpm_table.specs.Trees.{IsNode, IsUnder, IsInside, preorder, own, rest}
use Rattle.lpm_table.proofs.Alls.{all_append, all_weaker}
use Rattle.lpm_table.proofs.Begins.{front_fewer}
use Rattle.lpm_table.proofs.Nodes.{all_within}
use Rattle.lpm_table.proofs.Withins.{rest_less, rest_past, rest_some}

-- the first of two, where there is one
abbrev pub or_best : Option Prefix → Option Prefix → Option Prefix
or_best None other = other
or_best (Some p) other = Some p

pub or_best_twice : (x y z : Option Prefix) → or_best (or_best x y) z ≡ or_best x (or_best y z)
or_best_twice None y z = refl
or_best_twice (Some p) y z = refl

pub or_best_none : (x : Option Prefix) → or_best x None ≡ x
or_best_none None = refl
or_best_none (Some p) = refl

abbrev pub NoneCovers : Ip → List Prefix → Type 0
NoneCovers a ps = AllByRecursion (λ p. covers p a ≡ false) ps

module _ (a : Ip) where
  pub best_none : (ps : List Prefix) → NoneCovers a ps → best_prefix ps a ≡ None
  best_none [] h = refl
  best_none (p ∷ ps) h = cond-false (covers p a) _ _ h.0 ∙ best_none ps h.1

  pub best_past : (ps qs : List Prefix) → NoneCovers a ps → best_prefix (ps ++ qs) a ≡ best_prefix qs a
  best_past [] qs h = refl
  best_past (p ∷ ps) qs h = cond-false (covers p a) _ _ h.0 ∙ best_past ps qs h.1

  pub best_before : (ps qs : List Prefix) → NoneCovers a qs → best_prefix (ps ++ qs) a ≡ best_prefix ps a
  best_before [] qs h = best_none qs h
  best_before (p ∷ ps) qs h = ap (λ b. cond (covers p a) (the_longer p b) b) (best_before ps qs h)

module _ (P : Prefix → Type 0) (p b : Prefix) (h : P p) where
  longer_among : (o : Option Prefix) → ((c : Prefix) → o ≡ Some c → P c) → the_longer p o ≡ Some b → P b
  longer_among None f e = let same : p ≡ b = cc in subst P same h
  longer_among (Some c) f e =
      elim (nat_lt p.len c.len) as (λ t. cond t (Some c) (Some p) ≡ Some b → P b) [
        | true ↦ λ e. let same : c ≡ b = cc in subst P same (f c refl)
        | false ↦ λ e. let same : p ≡ b = cc in subst P same h
      ] e

-- the best is one of them
pub best_among : (a : Ip) (P : Prefix → Type 0) (ps : List Prefix) (b : Prefix) → AllByRecursion P ps → best_prefix ps a ≡ Some b → P b
best_among a P [] b h e = let no : ⊥ = cc in absurd no
best_among a P (p ∷ ps) b h e =
    elim (covers p a) as (λ t. cond t (the_longer p (best_prefix ps a)) (best_prefix ps a) ≡ Some b → P b) [
      | true ↦ λ e. longer_among P p b h.0 (best_prefix ps a) (λ c k. best_among a P ps c h.1 k) e
      | false ↦ λ e. best_among a P ps b h.1 e
    ] e

-- the longer ones come before a node's own
pub best_over : (a : Ip) (n : Prefix) (ps : List Prefix) → covers n a ≡ true → AllByRecursion (λ q. n.len < q.len) ps → best_prefix (n ∷ ps) a ≡ or_best (best_prefix ps a) (Some n)
best_over a n ps c h =
    ap (λ t. cond t (the_longer n (best_prefix ps a)) (best_prefix ps a)) c
    ∙ elim (best_prefix ps a) as (λ o. best_prefix ps a ≡ o → the_longer n o ≡ or_best o (Some n)) [
      | None ↦ λ _. refl
      | Some b ↦ λ e. rw (lt-ltb n.len b.len (best_among a (λ q. n.len < q.len) ps b h e)) refl
    ] refl

one_family : (f : Family) → same_family f f ≡ true
one_family V4 = refl
one_family V6 = refl

covers_is : (q : Prefix) (a : Ip) → q.ip.family ≡ a.family → covers q a ≡ (front (rest q) q.ip.bits == front (rest q) a.bits)
covers_is q a e = subst (λ f. (same_family q.ip.family f && (front (width f - q.len) q.ip.bits == front (width f - q.len) a.bits)) ≡ (front (rest q) q.ip.bits == front (rest q) a.bits)) e (rw (one_family q.ip.family) refl)

-- where it goes on of a node's own prefix, if that was put
abbrev pub own_best : Bool → Prefix → Option Prefix
own_best true n = Some n
own_best false n = None

module _ (n : Prefix) (put : Bool) (zs os : List Prefix) (h : IsNode n put zs os) (a : Ip) (family : n.ip.family ≡ a.family) where
  out_covers : (q : Prefix) → IsInside n q → front (rest n) n.ip.bits ≢ front (rest n) a.bits → covers q a ≡ false
  out_covers q w out = covers_is q a (w.family ∙ family) ∙ ne_eqb (front (rest q) q.ip.bits) (front (rest q) a.bits) (λ e. out (sym w.begins ∙ front_fewer (rest q) (rest n) q.ip.bits a.bits (rest_less n q w.family w.long) e))

  -- an address that does not begin as the node does
  pub best_out : front (rest n) n.ip.bits ≢ front (rest n) a.bits → best_prefix (preorder n put zs os) a ≡ None
  best_out out = best_none a (preorder n put zs os) (all_weaker (λ q w. out_covers q w out) (preorder n put zs os) (all_within n put zs os h))

  side_covers : (bit other : ℕ) (q : Prefix) → IsUnder n bit q → front (rest n - 1) a.bits % 2 ≡ other → (bit ≡ other → ⊥) → covers q a ≡ false
  side_covers bit other q u e apart = covers_is q a (u.within.family ∙ family) ∙ ne_eqb (front (rest q) q.ip.bits) (front (rest q) a.bits) (λ same. apart (sym u.next ∙ ap (λ v. v % 2) (front_fewer (rest q) (rest n - 1) q.ip.bits a.bits (rest_past n q u.within u.longer) same) ∙ e))

  module _ (agree : front (rest n) n.ip.bits ≡ front (rest n) a.bits) where
    covers_node : covers n a ≡ true
    covers_node = covers_is n a family ∙ eq-eqb (front (rest n) n.ip.bits) (front (rest n) a.bits) agree

    own_over : (p : Bool) (ps : List Prefix) → AllByRecursion (λ q. n.len < q.len) ps → best_prefix (own p n ++ ps) a ≡ or_best (best_prefix ps a) (own_best p n)
    own_over true ps k = best_over a n ps covers_node k
    own_over false ps k = sym (or_best_none (best_prefix ps a))

    longer_both : AllByRecursion (λ q. n.len < q.len) (zs ++ os)
    longer_both = all_append (λ q. n.len < q.len) zs os (all_weaker (λ q u. u.longer) zs h.below_zero) (all_weaker (λ q u. u.longer) os h.below_one)

    pub best_one : front (rest n - 1) a.bits % 2 ≡ 1 → best_prefix (preorder n put zs os) a ≡ or_best (best_prefix os a) (own_best put n)
    best_one e = own_over put (zs ++ os) longer_both ∙ ap (λ b. or_best b (own_best put n)) (best_past a zs os (all_weaker (λ q u. side_covers 0 1 q u e (λ no. absurd (omega (arith, no)))) zs h.below_zero))

    pub best_zero : front (rest n - 1) a.bits % 2 ≡ 0 → best_prefix (preorder n put zs os) a ≡ or_best (best_prefix zs a) (own_best put n)
    best_zero e = own_over put (zs ++ os) longer_both ∙ ap (λ b. or_best b (own_best put n)) (best_before a zs os (all_weaker (λ q u. side_covers 1 0 q u e (λ no. absurd (omega (arith, no)))) os h.below_one))

    -- a node without free bits
    none_longer : (qs : List Prefix) (bit : ℕ) → rest n ≡ 0 → AllByRecursion (IsUnder n bit) qs → qs ≡ []
    none_longer [] bit e k = refl
    none_longer (q ∷ qs) bit e k = absurd (omega (arith, rest_some n q k.0.within k.0.longer, e))

    pub best_end : rest n ≡ 0 → best_prefix (preorder n put zs os) a ≡ own_best put n
    best_end e = own_over put (zs ++ os) longer_both ∙ ap (λ l. or_best (best_prefix l a) (own_best put n)) (ap (λ l. l ++ os) (none_longer zs 0 e h.below_zero) ∙ none_longer os 1 e h.below_one)
