-- a step at a node whose trees are on its two sides
use Rattle.std.proofs.Common.{◌≡◌, ℕ, ◌-◌, ◌%◌, ◌<◌, ◌==◌, not, Bool, true, false, List, [], ◌∷◌, ◌++◌, length, Option, Result, Ok, Err, OnOk, OnErr, Box, refl, sym, ap, ◌∙◌, subst, arith, append-nil, length-append}
use Rattle.std.specs.BTreeSet.{insert_key}
use Rattle.std.specs.List.{list_any}
use Rattle.std.specs.Set.{remove_key}
use Rattle.std.specs.declared.alloc.Global.{Global}
use Rattle.std.proofs.lemmas.Bool.{true≢false}
use Rattle.swss_types.specs.Address.{front, width}
use Rattle.swss_types.specs.AddressOrder.{prefix_cmp}
use Rattle.swss_types.specs.declared.address.Prefix.{Prefix}
use Rattle.lpm_table.specs.declared.below.Below.{Below}
use Rattle.lpm_table.specs.Below.{side}
use Rattle.lpm_table.specs.Trees.{AreOf, IsAbove, IsFork, IsNode, IsUnder, IsInside, preorder, members, members_at, rest}
use Rattle.lpm_table.proofs.Begins.{bit_one, bit_zero}
use Rattle.lpm_table.proofs.Nodes.{above_first, above_one, above_zero, finds, fork_first, fork_last, fork_node, fork_one, fork_zero, node_marked, node_put_one, node_put_zero, node_remove_one, node_remove_zero}
use Rattle.lpm_table.proofs.Steps.{AtNode, at_held_one, at_held_zero, at_node_less_one, at_node_less_zero, at_ones, at_put_one, at_put_zero, at_remove_one, at_remove_zero, at_under, at_zeros, ones_shorter, zeros_shorter}

abbrev pub Sides : Type 0
Sides = Below (Box (List Prefix) Global)

-- the bit that leads to a side
abbrev pub bit_of : Bool → ℕ
bit_of true = 1
bit_of false = 0

-- what the two sides show, where each is as this
pub like_sides : (P : List Prefix → List Prefix → Type 0) (one : Bool) (x y : Sides) → members_at one y ≡ members_at one x → members_at (not one) y ≡ members_at (not one) x → P (members_at false x) (members_at true x) → P (members_at false y) (members_at true y)
like_sides P true x y e f h = subst (λ l. P l (members_at true y)) (sym f) (subst (P (members_at false x)) (sym e) h)
like_sides P false x y e f h = subst (λ l. P l (members_at true y)) (sym e) (subst (P (members_at false x)) (sym f) h)

-- a node that was not put keeps a tree on the side that nothing was taken from
pub left_some : (put one : Bool) (n : Prefix) (x y : Sides) → IsNode n put (members_at false x) (members_at true x) → members_at (not one) y ≡ members_at (not one) x → 0 < length (preorder n put (members_at false y) (members_at true y))
left_some true one n x y h f = omega arith
left_some false true n x y h f = omega (arith, length-append (members_at false y) (members_at true y), ap length f, (h.forks refl).0)
left_some false false n x y h f = omega (arith, length-append (members_at false y) (members_at true y), ap length f, (h.forks refl).1)

module _ {n : Prefix} {put : Bool} (x : Sides) {d : List Prefix} {p : Prefix} {w : ℕ} (h : AtNode n put (members_at false x) (members_at true x) d p w) where
  pub side_under : (one : Bool) → IsInside n p → n.len < p.len → one ≡ (front (w - n.len - 1) p.ip.bits % 2 == 1) → IsUnder n (bit_of one) p
  side_under true within lt e = at_under h 1 within lt (bit_one (front (w - n.len - 1) p.ip.bits) e)
  side_under false within lt e = at_under h 0 within lt (bit_zero (front (w - n.len - 1) p.ip.bits) e)

  -- the tree on a side is of the same family, and smaller
  pub side_of : (one : Bool) → AreOf p.ip.family (members_at one x)
  side_of true = at_ones h
  side_of false = at_zeros h

  pub side_shorter : (one : Bool) → length (members_at one x) < length d
  side_shorter true = ones_shorter h
  side_shorter false = zeros_shorter h

  pub side_held : (one : Bool) → IsUnder n (bit_of one) p → (b : Bool) → b ≡ list_any (finds p) (members_at one x) → b ≡ list_any (finds p) d
  side_held true u b e = at_held_one h u b e
  side_held false u b e = at_held_zero h u b e

  module _ (one : Bool) (y : Sides) (other : members_at (not one) y ≡ members_at (not one) x) where
    -- nothing changed
    pub side_same : members_at one y ≡ members_at one x → preorder n put (members_at false y) (members_at true y) ≡ d
    side_same e = like_sides (λ zs os. preorder n put zs os ≡ d) one x y e other h.is

    pub node_same : members_at one y ≡ members_at one x → IsNode n put (members_at false y) (members_at true y)
    node_same e = like_sides (IsNode n put) one x y e other h.node

  -- what is put on a side
  pub side_put : (one : Bool) (y : Sides) → members_at (not one) y ≡ members_at (not one) x → IsUnder n (bit_of one) p → members_at one y ≡ insert_key prefix_cmp (members_at one x) p → preorder n put (members_at false y) (members_at true y) ≡ insert_key prefix_cmp d p
  side_put true y f u e = ap (λ l. preorder n put l (members_at true y)) f ∙ at_put_one h u (members_at true y) e
  side_put false y f u e = ap (preorder n put (members_at false y)) f ∙ at_put_zero h u (members_at false y) e

  pub node_put : (one : Bool) (y : Sides) → members_at (not one) y ≡ members_at (not one) x → IsUnder n (bit_of one) p → members_at one y ≡ insert_key prefix_cmp (members_at one x) p → IsNode n put (members_at false y) (members_at true y)
  node_put true y f u e = subst (λ l. IsNode n put l (members_at true y)) (sym f) (subst (IsNode n put (members_at false x)) (sym e) (node_put_one n put (members_at false x) (members_at true x) h.node p u))
  node_put false y f u e = subst (IsNode n put (members_at false y)) (sym f) (subst (λ l. IsNode n put l (members_at true x)) (sym e) (node_put_zero n put (members_at false x) (members_at true x) h.node p u))

  pub node_result : {A E : Type 0} (r : Result A E) (one : Bool) (y : Sides) → members_at (not one) y ≡ members_at (not one) x → IsUnder n (bit_of one) p → OnOk r (members_at one y ≡ insert_key prefix_cmp (members_at one x) p) → OnErr r (members_at one y ≡ members_at one x) → IsNode n put (members_at false y) (members_at true y)
  node_result (Ok a) one y f u ok err = node_put one y f u ok
  node_result (Err a) one y f u ok err = node_same one y f err

  -- what is removed from a side
  pub side_removed : (one : Bool) (y : Sides) → members_at (not one) y ≡ members_at (not one) x → IsUnder n (bit_of one) p → members_at one y ≡ remove_key (finds p) (members_at one x) → preorder n put (members_at false y) (members_at true y) ≡ remove_key (finds p) d
  side_removed true y f u e = ap (λ l. preorder n put l (members_at true y)) f ∙ at_remove_one h u (members_at true y) e
  side_removed false y f u e = ap (preorder n put (members_at false y)) f ∙ at_remove_zero h u (members_at false y) e

  pub node_removed : (one : Bool) (y : Sides) → members_at (not one) y ≡ members_at (not one) x → IsUnder n (bit_of one) p → members_at one y ≡ remove_key (finds p) (members_at one x) → 0 < length (members_at one y) → IsNode n put (members_at false y) (members_at true y)
  node_removed true y f u e some = subst (λ l. IsNode n put l (members_at true y)) (sym f) (at_node_less_one h u (members_at true y) e (λ _. some))
  node_removed false y f u e some = subst (IsNode n put (members_at false y)) (sym f) (at_node_less_zero h u (members_at false y) e (λ _. some))

  -- where a side is emptied, the node is one if it is marked
  pub node_emptied : (one : Bool) (y : Sides) → members_at (not one) y ≡ members_at (not one) x → IsUnder n (bit_of one) p → members_at one y ≡ remove_key (finds p) (members_at one x) → IsNode n true (members_at false y) (members_at true y)
  node_emptied true y f u e = subst (λ l. IsNode n true l (members_at true y)) (sym f) (subst (IsNode n true (members_at false x)) (sym e) (node_remove_one n true (members_at false x) (members_at true x) (node_marked n put (members_at false x) (members_at true x) h.node) p u (λ no. absurd (true≢false no))))
  node_emptied false y f u e = subst (IsNode n true (members_at false y)) (sym f) (subst (λ l. IsNode n true l (members_at true x)) (sym e) (node_remove_zero n true (members_at false x) (members_at true x) (node_marked n put (members_at false x) (members_at true x) h.node) p u (λ no. absurd (true≢false no))))

-- what was on a side, when it was taken from there
pub taken : (one : Bool) (x r : Sides) (a : Option (Box (List Prefix) Global)) → a ≡ side one r → r ≡ x → members a ≡ members_at one x
taken one x r a e k = ap members (e ∙ ap (side one) k)

-- a shorter prefix above a tree
module _ (p n : Prefix) (ps : List Prefix) (h : IsAbove p n ps) (w : ℕ) (wide : w ≡ width p.ip.family) where
  same_bit : front (w - p.len - 1) n.ip.bits % 2 ≡ front (rest p - 1) n.ip.bits % 2
  same_bit = ap (λ v. front (v - p.len - 1) n.ip.bits % 2) wide

  pub node_above : (one : Bool) (y : Sides) → one ≡ (front (w - p.len - 1) n.ip.bits % 2 == 1) → members_at one y ≡ ps → members_at (not one) y ≡ [] → IsNode p true (members_at false y) (members_at true y)
  node_above true y bit at other = subst (λ l. IsNode p true l (members_at true y)) (sym other) (subst (IsNode p true []) (sym at) (above_one p n ps h (sym same_bit ∙ bit_one (front (w - p.len - 1) n.ip.bits) bit)))
  node_above false y bit at other = subst (IsNode p true (members_at false y)) (sym other) (subst (λ l. IsNode p true l []) (sym at) (above_zero p n ps h (sym same_bit ∙ bit_zero (front (w - p.len - 1) n.ip.bits) bit)))

  pub list_above : (one : Bool) (y : Sides) → members_at one y ≡ ps → members_at (not one) y ≡ [] → preorder p true (members_at false y) (members_at true y) ≡ insert_key prefix_cmp ps p
  list_above true y at other = ap (λ l. p ∷ (l ++ members_at true y)) other ∙ ap (λ l. p ∷ l) at ∙ sym (above_first p n ps h)
  list_above false y at other = ap (λ l. p ∷ (members_at false y ++ l)) other ∙ ap (λ l. p ∷ l) (append-nil (members_at false y) ∙ at) ∙ sym (above_first p n ps h)

-- a prefix and a tree below what they have in common
module _ (p n : Prefix) (ps : List Prefix) (cut : ℕ) (h : IsFork p n ps cut) where
  pub node_forked : (one : Bool) (y : Sides) → one ≡ (front (cut - 1) p.ip.bits % 2 == 1) → members_at one y ≡ p ∷ [] → members_at (not one) y ≡ ps → IsNode (fork_node p n ps cut h) false (members_at false y) (members_at true y)
  node_forked true y bit at other = subst (λ l. IsNode (fork_node p n ps cut h) false l (members_at true y)) (sym other) (subst (IsNode (fork_node p n ps cut h) false ps) (sym at) (fork_one p n ps cut h (bit_one (front (cut - 1) p.ip.bits) bit)))
  node_forked false y bit at other = subst (IsNode (fork_node p n ps cut h) false (members_at false y)) (sym other) (subst (λ l. IsNode (fork_node p n ps cut h) false l ps) (sym at) (fork_zero p n ps cut h (bit_zero (front (cut - 1) p.ip.bits) bit)))

  pub list_forked : (one : Bool) (y : Sides) → one ≡ (front (cut - 1) p.ip.bits % 2 == 1) → members_at one y ≡ p ∷ [] → members_at (not one) y ≡ ps → members_at false y ++ members_at true y ≡ insert_key prefix_cmp ps p
  list_forked true y bit at other = ap (λ l. l ++ members_at true y) other ∙ ap (λ l. ps ++ l) at ∙ sym (fork_last p n ps cut h (bit_one (front (cut - 1) p.ip.bits) bit))
  list_forked false y bit at other = ap (λ l. l ++ members_at true y) at ∙ ap (λ l. p ∷ l) other ∙ sym (fork_first p n ps cut h (bit_zero (front (cut - 1) p.ip.bits) bit))
