-- a step of the walk to the longest prefix that covers an address
use Rattle.std.proofs.Common.{◌≡◌, ℕ, ◌-◌, ◌%◌, ◌<◌, ◌≤◌, ◌==◌, Bool, true, false, List, [], length, Bor, Option, None, Some, refl, sym, ap, ◌∙◌, subst, arith}
use Rattle.std.proofs.lemmas.Bool.{eqb-false, eqb-true}
use Rattle.swss_types.specs.Address.{front, width}
use Rattle.swss_types.specs.declared.address.Ip.{Ip}
use Rattle.swss_types.specs.declared.address.Prefix.{Prefix}
use Rattle.lpm_table.specs.Longest.{best_prefix}
use Rattle.lpm_table.specs.Trees.{AreOf, IsNode, preorder, members_at, rest, lent_members}
use Rattle.lpm_table.proofs.Begins.{bit_one, bit_zero}
use Rattle.lpm_table.proofs.Bests.{best_end, best_one, best_out, best_zero, or_best, or_best_twice, own_best}
use Rattle.lpm_table.proofs.Nodes.{node_family, ones_of, zeros_of}
use Rattle.lpm_table.proofs.Sides.{Sides}
use Rattle.lpm_table.proofs.Steps.{ones_less, zeros_less}

-- the walk is at a tree with this node: of the best of its prefixes and the best so far, the first is the best of all
pub record AtWalk (n : Prefix) (put : Bool) (zs os d : List Prefix) (a : Ip) (best all : Option Prefix) (w : ℕ) : Type 0 where
  pub node : IsNode n put zs os
  pub is : preorder n put zs os ≡ d
  pub of : AreOf a.family d
  pub kept : or_best (best_prefix d a) best ≡ all
  pub wide : w ≡ width n.ip.family

-- the best so far, with the node's own
pub better_put : (n : Prefix) (put : Bool) (best new : Option Prefix) → put ≡ true → new ≡ Some n → new ≡ or_best (own_best put n) best
better_put n put best new e b = b ∙ ap (λ t. or_best (own_best t n) best) (sym e)

pub better_not : (n : Prefix) (put : Bool) (best new : Option Prefix) → put ≡ false → new ≡ best → new ≡ or_best (own_best put n) best
better_not n put best new e b = b ∙ ap (λ t. or_best (own_best t n) best) (sym e)

module _ {n : Prefix} {put : Bool} {zs os d : List Prefix} {a : Ip} {best all : Option Prefix} {w : ℕ} (h : AtWalk n put zs os d a best all w) where
  of_node : AreOf a.family (preorder n put zs os)
  of_node = subst (AreOf a.family) (sym h.is) h.of

  family : n.ip.family ≡ a.family
  family = node_family n put zs os a.family h.node of_node

  same_rest : w - n.len ≡ rest n
  same_rest = ap (λ v. v - n.len) h.wide

  pub walk_fits : n.len ≤ w
  walk_fits = omega (arith, h.wide, h.node.proper.1)

  agree : true ≡ (front (w - n.len) n.ip.bits == front (w - n.len) a.bits) → front (rest n) n.ip.bits ≡ front (rest n) a.bits
  agree e = ap (λ r. front r n.ip.bits) (sym same_rest) ∙ eqb-true (front (w - n.len) n.ip.bits) (front (w - n.len) a.bits) (sym e) ∙ ap (λ r. front r a.bits) same_rest

  pub walk_out : false ≡ (front (w - n.len) n.ip.bits == front (w - n.len) a.bits) → best ≡ all
  walk_out e =
      let none = best_out n put zs os h.node a family (λ same. eqb-false (front (w - n.len) n.ip.bits) (front (w - n.len) a.bits) (sym e) (ap (λ r. front r n.ip.bits) same_rest ∙ same ∙ sym (ap (λ r. front r a.bits) same_rest))) in
      ap (λ b. or_best b best) (sym none) ∙ ap (λ l. or_best (best_prefix l a) best) h.is ∙ h.kept

  module _ (e : true ≡ (front (w - n.len) n.ip.bits == front (w - n.len) a.bits)) (new : Option Prefix) (is : new ≡ or_best (own_best put n) best) where
    below : (b : Option Prefix) → best_prefix (preorder n put zs os) a ≡ or_best b (own_best put n) → or_best b new ≡ all
    below b same = ap (or_best b) is ∙ sym (or_best_twice b (own_best put n) best) ∙ ap (λ b. or_best b best) (sym same) ∙ ap (λ l. or_best (best_prefix l a) best) h.is ∙ h.kept

    pub walk_end : w - n.len ≡ 0 → new ≡ all
    walk_end none = below None (best_end n put zs os h.node a family (agree e) (sym same_rest ∙ none))

    walk_one : true ≡ (front (w - n.len - 1) a.bits % 2 == 1) → AreOf a.family os × (or_best (best_prefix os a) new ≡ all)
    walk_one bit = (ones_of n put zs os a.family of_node, below (best_prefix os a) (best_one n put zs os h.node a family (agree e) (ap (λ r. front (r - 1) a.bits % 2) (sym same_rest) ∙ bit_one (front (w - n.len - 1) a.bits) bit)))

    walk_zero : false ≡ (front (w - n.len - 1) a.bits % 2 == 1) → AreOf a.family zs × (or_best (best_prefix zs a) new ≡ all)
    walk_zero bit = (zeros_of n put zs os a.family of_node, below (best_prefix zs a) (best_zero n put zs os h.node a family (agree e) (ap (λ r. front (r - 1) a.bits % 2) (sym same_rest) ∙ bit_zero (front (w - n.len - 1) a.bits) bit)))

  walk_ones_less : length os < length d
  walk_ones_less = subst (λ l. length os < length l) h.is (ones_less n put zs os h.node)

  walk_zeros_less : length zs < length d
  walk_zeros_less = subst (λ l. length zs < length l) h.is (zeros_less n put zs os h.node)

-- on the side that the address leads to
module _ {n : Prefix} {put : Bool} (x : Sides) {d : List Prefix} {a : Ip} {best all : Option Prefix} {w : ℕ} (h : AtWalk n put (members_at false x) (members_at true x) d a best all w) where
  pub walk_side : (one : Bool) → true ≡ (front (w - n.len) n.ip.bits == front (w - n.len) a.bits) → (new : Option Prefix) → new ≡ or_best (own_best put n) best → one ≡ (front (w - n.len - 1) a.bits % 2 == 1) → AreOf a.family (members_at one x) × (or_best (best_prefix (members_at one x) a) new ≡ all)
  walk_side true agree new is bit = walk_one h agree new is bit
  walk_side false agree new is bit = walk_zero h agree new is bit

  pub walk_side_less : (one : Bool) → length (members_at one x) < length d
  walk_side_less true = walk_ones_less h
  walk_side_less false = walk_zeros_less h

-- no tree has no prefixes
pub none_seen : (o : Option (Bor (List Prefix))) → ((tree : Bor (List Prefix)) → o ≡ Some tree → ⊥) → lent_members o ≡ []
none_seen None h = refl
none_seen (Some tree) h = absurd (h tree refl)
