-- the best prefix is the longest that covers an address
use Rattle.std.proofs.Common.{◌≡◌, ◌≤◌, nat_lt, true, false, cond, ◌||◌, List, [], ◌∷◌, Option, None, Some, refl, ap, subst, arith}
use Rattle.std.specs.List.{AllByRecursion, list_any}
use Rattle.std.proofs.lemmas.Bool.{ltb-false, ltb-true, or_right}
use Rattle.swss_types.specs.Address.{covers}
use Rattle.swss_types.specs.declared.address.Ip.{Ip}
use Rattle.swss_types.specs.declared.address.Prefix.{Prefix}
use Rattle.lpm_table.specs.Longest.{IsLongest, best_prefix, the_longer}
use Rattle.lpm_table.proofs.Alls.{all_weaker}
use Rattle.lpm_table.proofs.Nodes.{finds, found_self}

module _ (a : Ip) where
  none_longer : (p : Prefix) (o : Option Prefix) → the_longer p o ≡ None → ⊥
  none_longer p None e = cc
  none_longer p (Some b) e = elim (nat_lt p.len b.len) as (λ t. cond t (Some b) (Some p) ≡ None → ⊥) [ true ↦ λ e. cc | false ↦ λ e. cc ] e

  pub none_covers_at : (ps : List Prefix) → best_prefix ps a ≡ None → AllByRecursion (λ p. covers p a ≡ false) ps
  none_covers_at [] e = tt
  none_covers_at (p ∷ ps) e =
      elim (covers p a) as (λ t. covers p a ≡ t → cond t (the_longer p (best_prefix ps a)) (best_prefix ps a) ≡ None → AllByRecursion (λ p. covers p a ≡ false) (p ∷ ps)) [
        | true ↦ λ c e. absurd (none_longer p (best_prefix ps a) e)
        | false ↦ λ c e. (c, none_covers_at ps e)
      ] refl e

  -- one more in front that does not change the best
  past : (p b : Prefix) (ps : List Prefix) → IsLongest ps a b → (covers p a ≡ true → p.len ≤ b.len) → IsLongest (p ∷ ps) a b
  past p b ps h le = record { held = or_right (finds b p) (list_any (finds b) ps) h.held; covering = h.covering; longest = (le, h.longest) }

  first : (p : Prefix) (ps : List Prefix) → covers p a ≡ true → AllByRecursion (λ q. covers q a ≡ true → q.len ≤ p.len) ps → IsLongest (p ∷ ps) a p
  first p ps c h = record { held = ap (λ t. t || list_any (finds p) ps) (found_self p); covering = c; longest = ((λ _. omega arith), h) }

  by_longer : (p b : Prefix) (ps : List Prefix) → covers p a ≡ true → (o : Option Prefix) → ((c : Prefix) → o ≡ Some c → IsLongest ps a c) → (o ≡ None → AllByRecursion (λ q. covers q a ≡ false) ps) → the_longer p o ≡ Some b → IsLongest (p ∷ ps) a b
  by_longer p b ps c None some none e =
      let same : p ≡ b = cc in
      subst (IsLongest (p ∷ ps) a) same (first p ps c (all_weaker (λ q out in-it. let no : ⊥ = cc in absurd no) ps (none refl)))
  by_longer p b ps c (Some d) some none e =
      let h = some d refl in
      elim (nat_lt p.len d.len) as (λ t. nat_lt p.len d.len ≡ t → cond t (Some d) (Some p) ≡ Some b → IsLongest (p ∷ ps) a b) [
        | true ↦ λ lt e. let same : d ≡ b = cc in let less = ltb-true p.len d.len lt in subst (IsLongest (p ∷ ps) a) same (past p d ps h (λ _. omega (arith, less)))
        | false ↦ λ ge e. let same : p ≡ b = cc in let le = ltb-false p.len d.len ge in subst (IsLongest (p ∷ ps) a) same (first p ps c (all_weaker (λ q k c'. let m = k c' in omega (arith, m, le)) ps h.longest))
      ] refl e

  pub best_longest_at : (ps : List Prefix) (b : Prefix) → best_prefix ps a ≡ Some b → IsLongest ps a b
  best_longest_at [] b e = let no : ⊥ = cc in absurd no
  best_longest_at (p ∷ ps) b e =
      elim (covers p a) as (λ t. covers p a ≡ t → cond t (the_longer p (best_prefix ps a)) (best_prefix ps a) ≡ Some b → IsLongest (p ∷ ps) a b) [
        | true ↦ λ c e. by_longer p b ps c (best_prefix ps a) (best_longest_at ps) (none_covers_at ps) e
        | false ↦ λ c e. past p b ps (best_longest_at ps b e) (λ in-it. let no : ⊥ = cc in absurd no)
      ] refl e

pub best_longest : (ps : List Prefix) (a : Ip) (p : Prefix) → best_prefix ps a ≡ Some p → IsLongest ps a p
best_longest ps a p e = best_longest_at a ps p e

pub none_covers : (ps : List Prefix) (a : Ip) → best_prefix ps a ≡ None → AllByRecursion (λ p. covers p a ≡ false) ps
none_covers ps a e = none_covers_at a ps e
