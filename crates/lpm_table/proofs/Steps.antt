-- a step at a node of a tree, seen as the list of its prefixes
use Rattle.std.proofs.Common.{◌≡◌, ◌≢◌, ℕ, ◌-◌, ◌%◌, ◌<◌, ◌≤◌, ◌==◌, Bool, true, false, List, [], ◌∷◌, ◌++◌, length, Option, None, Some, Box, Result, Ok, Err, OnOk, OnErr, refl, sym, ap, ◌∙◌, subst, arith, length-append}
use Rattle.std.specs.BTreeSet.{insert_key}
use Rattle.std.specs.List.{AllByRecursion, list_any}
use Rattle.std.specs.Set.{remove_key}
use Rattle.std.specs.declared.alloc.Global.{Global}
use Rattle.std.proofs.lemmas.Bool.{eqb-false, eqb-true}
use Rattle.swss_types.specs.Address.{IsProperPrefix, front, width}
use Rattle.swss_types.specs.AddressOrder.{prefix_cmp}
use Rattle.swss_types.specs.declared.address.Prefix.{Prefix}
use Rattle.lpm_table.specs.Trees.{AreOf, IsApart, IsNode, IsUnder, IsInside, preorder, members, rest}
use Rattle.lpm_table.proofs.Keys.{NonePass, any_none, remove_none}
use Rattle.lpm_table.proofs.Nodes.{all_within, finds, held_one, held_self, held_zero, listed_some, node_family, node_put_one, node_put_zero, node_remove_one, node_remove_zero, none_self, none_within, ones_of, put_one, put_self, put_zero, remove_one, remove_self, remove_zero, zeros_of}
use Rattle.lpm_table.proofs.Withins.{within_same}

pub ok_weaker : {A E P Q : Type 0} (r : Result A E) → (P → Q) → OnOk r P → OnOk r Q
ok_weaker (Ok x) f p = f p
ok_weaker (Err e) f p = tt

pub err_weaker : {A E P Q : Type 0} (r : Result A E) → (P → Q) → OnErr r P → OnErr r Q
err_weaker (Ok x) f p = tt
err_weaker (Err e) f p = f p

pub ones_less : (n : Prefix) (put : Bool) (zs os : List Prefix) → IsNode n put zs os → length os < length (preorder n put zs os)
ones_less n true zs os h = omega (arith, length-append zs os)
ones_less n false zs os h = omega (arith, length-append zs os, (h.forks refl).0)

pub zeros_less : (n : Prefix) (put : Bool) (zs os : List Prefix) → IsNode n put zs os → length zs < length (preorder n put zs os)
zeros_less n true zs os h = omega (arith, length-append zs os)
zeros_less n false zs os h = omega (arith, length-append zs os, (h.forks refl).1)

some_of : (l : List Prefix) → l ≢ [] → 0 < length l
some_of [] h = absurd (h refl)
some_of (x ∷ l) h = omega arith

none_if : (n : Prefix) (put : Bool) (zs os : List Prefix) (p : Prefix) → IsNode n put zs os → n ≡ p → put ≡ false → NonePass (finds p) (preorder n put zs os)
none_if n put zs os p h e unmarked = subst (λ b. NonePass (finds p) (preorder n b zs os)) (sym unmarked) (subst (λ q. NonePass (finds q) (preorder n false zs os)) e (none_self n zs os (subst (λ b. IsNode n b zs os) unmarked h)))

-- no tree has no prefixes
pub none_members : (o : Option (Box (List Prefix) Global)) → ((tree : Box (List Prefix) Global) → o ≡ Some tree → ⊥) → members o ≡ []
none_members None h = refl
none_members (Some tree) h = absurd (h tree refl)

-- a tree with this node is seen as these prefixes, among which a prefix of the same family is sought or put
pub record AtNode (n : Prefix) (put : Bool) (zs os d : List Prefix) (p : Prefix) (w : ℕ) : Type 0 where
  pub node : IsNode n put zs os
  pub is : preorder n put zs os ≡ d
  pub proper : IsProperPrefix p
  pub of : AreOf p.ip.family d
  pub wide : w ≡ width n.ip.family

module _ {n : Prefix} {put : Bool} {zs os d : List Prefix} {p : Prefix} {w : ℕ} (h : AtNode n put zs os d p w) where
  pub at_family : n.ip.family ≡ p.ip.family
  at_family = node_family n put zs os p.ip.family h.node (subst (AreOf p.ip.family) (sym h.is) h.of)

  same_rest : w - n.len ≡ rest n
  same_rest = ap (λ v. v - n.len) h.wide

  -- the tests of a prefix against the node
  pub at_within : n.len ≤ p.len → true ≡ (front (w - n.len) n.ip.bits == front (w - n.len) p.ip.bits) → IsInside n p
  at_within le e =
      let same = eqb-true (front (w - n.len) n.ip.bits) (front (w - n.len) p.ip.bits) (sym e) in
      record { proper = h.proper; family = sym at_family; long = le; begins = ap (λ r. front r p.ip.bits) (sym same_rest) ∙ sym same ∙ ap (λ r. front r n.ip.bits) same_rest }

  pub at_out : false ≡ (front (w - n.len) n.ip.bits == front (w - n.len) p.ip.bits) → front (rest n) p.ip.bits ≢ front (rest n) n.ip.bits
  at_out e same = eqb-false (front (w - n.len) n.ip.bits) (front (w - n.len) p.ip.bits) (sym e) (ap (λ r. front r n.ip.bits) same_rest ∙ sym same ∙ ap (λ r. front r p.ip.bits) (sym same_rest))

  pub at_apart : (n.len ≤ p.len → front (rest n) p.ip.bits ≢ front (rest n) n.ip.bits) → IsApart p n d
  at_apart out = record {
    proper = h.proper;
    proper_node = h.node.proper;
    family = at_family;
    all = subst (AllByRecursion (IsInside n)) h.is (all_within n put zs os h.node);
    some = subst (λ l. 0 < length l) h.is (listed_some n put zs os h.node);
    out = out;
  }

  pub at_under : (bit : ℕ) → IsInside n p → n.len < p.len → front (w - n.len - 1) p.ip.bits % 2 ≡ bit → IsUnder n bit p
  at_under bit within lt e = record { within = within; longer = lt; next = ap (λ r. front (r - 1) p.ip.bits % 2) (sym same_rest) ∙ e }

  pub at_free : IsInside n p → n.len < p.len → 1 ≤ w - n.len
  at_free within lt = let f = ap width at_family in omega (arith, lt, h.wide, f, within.proper.1)

  pub at_same : IsInside n p → n.len ≡ p.len → n ≡ p
  at_same within e = within_same n p h.node.proper within e

  -- what is put
  pub at_put_self : n ≡ p → preorder n true zs os ≡ insert_key prefix_cmp d p
  at_put_self e = sym (put_self n put zs os h.node) ∙ ap (λ l. insert_key prefix_cmp l n) h.is ∙ ap (insert_key prefix_cmp d) e

  pub at_put_one : IsUnder n 1 p → (new : List Prefix) → new ≡ insert_key prefix_cmp os p → preorder n put zs new ≡ insert_key prefix_cmp d p
  at_put_one u new e = ap (preorder n put zs) e ∙ sym (put_one n put zs os h.node p u) ∙ ap (λ l. insert_key prefix_cmp l p) h.is

  pub at_put_zero : IsUnder n 0 p → (new : List Prefix) → new ≡ insert_key prefix_cmp zs p → preorder n put new os ≡ insert_key prefix_cmp d p
  at_put_zero u new e = ap (λ l. preorder n put l os) e ∙ sym (put_zero n put zs os h.node p u) ∙ ap (λ l. insert_key prefix_cmp l p) h.is

  pub at_node_one : {A E : Type 0} (r : Result A E) → IsUnder n 1 p → (new : List Prefix) → OnOk r (new ≡ insert_key prefix_cmp os p) → OnErr r (new ≡ os) → IsNode n put zs new
  at_node_one (Ok x) u new ok err = subst (IsNode n put zs) (sym ok) (node_put_one n put zs os h.node p u)
  at_node_one (Err e) u new ok err = subst (IsNode n put zs) (sym err) h.node

  pub at_node_zero : {A E : Type 0} (r : Result A E) → IsUnder n 0 p → (new : List Prefix) → OnOk r (new ≡ insert_key prefix_cmp zs p) → OnErr r (new ≡ zs) → IsNode n put new os
  at_node_zero (Ok x) u new ok err = subst (λ l. IsNode n put l os) (sym ok) (node_put_zero n put zs os h.node p u)
  at_node_zero (Err e) u new ok err = subst (λ l. IsNode n put l os) (sym err) h.node

  -- the trees below are of the same family, and smaller
  pub at_ones : AreOf p.ip.family os
  at_ones = ones_of n put zs os p.ip.family (subst (AreOf p.ip.family) (sym h.is) h.of)

  pub at_zeros : AreOf p.ip.family zs
  at_zeros = zeros_of n put zs os p.ip.family (subst (AreOf p.ip.family) (sym h.is) h.of)

  pub ones_shorter : length os < length d
  ones_shorter = subst (λ l. length os < length l) h.is (ones_less n put zs os h.node)

  pub zeros_shorter : length zs < length d
  zeros_shorter = subst (λ l. length zs < length l) h.is (zeros_less n put zs os h.node)

  -- what is removed
  pub at_none : (IsInside n p → ⊥) → NonePass (finds p) d
  at_none out = none_within n p d out (subst (AllByRecursion (IsInside n)) h.is (all_within n put zs os h.node))

  pub at_out_within : (n.len ≤ p.len → front (rest n) p.ip.bits ≢ front (rest n) n.ip.bits) → IsInside n p → ⊥
  at_out_within out within = out within.long within.begins

  pub at_some : 0 < length d
  at_some = subst (λ l. 0 < length l) h.is (listed_some n put zs os h.node)

  pub at_remove_one : IsUnder n 1 p → (new : List Prefix) → new ≡ remove_key (finds p) os → preorder n put zs new ≡ remove_key (finds p) d
  at_remove_one u new e = ap (preorder n put zs) e ∙ sym (remove_one n put zs os h.node p u) ∙ ap (remove_key (finds p)) h.is

  pub at_remove_zero : IsUnder n 0 p → (new : List Prefix) → new ≡ remove_key (finds p) zs → preorder n put new os ≡ remove_key (finds p) d
  at_remove_zero u new e = ap (λ l. preorder n put l os) e ∙ sym (remove_zero n put zs os h.node p u) ∙ ap (remove_key (finds p)) h.is

  pub at_held_one : IsUnder n 1 p → (b : Bool) → b ≡ list_any (finds p) os → b ≡ list_any (finds p) d
  at_held_one u b e = e ∙ sym (held_one n put zs os h.node p u) ∙ ap (list_any (finds p)) h.is

  pub at_held_zero : IsUnder n 0 p → (b : Bool) → b ≡ list_any (finds p) zs → b ≡ list_any (finds p) d
  at_held_zero u b e = e ∙ sym (held_zero n put zs os h.node p u) ∙ ap (list_any (finds p)) h.is

  pub at_node_less_one : IsUnder n 1 p → (new : List Prefix) → new ≡ remove_key (finds p) os → (put ≡ false → 0 < length new) → IsNode n put zs new
  at_node_less_one u new e some = subst (IsNode n put zs) (sym e) (node_remove_one n put zs os h.node p u (λ f. subst (λ l. 0 < length l) e (some f)))

  pub at_node_less_zero : IsUnder n 0 p → (new : List Prefix) → new ≡ remove_key (finds p) zs → (put ≡ false → 0 < length new) → IsNode n put new os
  at_node_less_zero u new e some = subst (λ l. IsNode n put l os) (sym e) (node_remove_zero n put zs os h.node p u (λ f. subst (λ l. 0 < length l) e (some f)))

  -- the node's own
  pub at_others : n ≡ p → put ≡ true → d ≢ p ∷ [] → 0 < length (zs ++ os)
  at_others e marked others = some_of (zs ++ os) (λ none. others (sym h.is ∙ ap (λ b. preorder n b zs os) marked ∙ ap (λ l. n ∷ l) none ∙ ap (λ q. q ∷ []) e))

  pub at_remove_self : n ≡ p → put ≡ true → zs ++ os ≡ remove_key (finds p) d
  at_remove_self e marked = sym (remove_self n (zs ++ os)) ∙ ap (λ q. remove_key (finds q) (n ∷ (zs ++ os))) e ∙ ap (λ b. remove_key (finds p) (preorder n b zs os)) (sym marked) ∙ ap (remove_key (finds p)) h.is

  pub at_held_self : n ≡ p → put ≡ true → true ≡ list_any (finds p) d
  at_held_self e marked = sym (held_self n (zs ++ os)) ∙ ap (λ q. list_any (finds q) (n ∷ (zs ++ os))) e ∙ ap (λ b. list_any (finds p) (preorder n b zs os)) (sym marked) ∙ ap (list_any (finds p)) h.is

  pub at_none_self : n ≡ p → put ≡ false → NonePass (finds p) d
  at_none_self e unmarked = subst (NonePass (finds p)) h.is (none_if n put zs os p h.node e unmarked)

-- where none is found, nothing changes
pub kept_none : (p : Prefix) (d : List Prefix) → NonePass (finds p) d → d ≡ remove_key (finds p) d
kept_none p d none = sym (remove_none (finds p) d none)

pub held_none : (p : Prefix) (d : List Prefix) → NonePass (finds p) d → false ≡ list_any (finds p) d
held_none p d none = sym (any_none (finds p) d none)

-- a list of one is emptied
pub removed_only : (p : Prefix) (l : List Prefix) → l ≡ p ∷ [] → [] ≡ remove_key (finds p) l
removed_only p l e = sym (remove_self p []) ∙ ap (remove_key (finds p)) (sym e)

pub held_only : (p : Prefix) (l : List Prefix) → l ≡ p ∷ [] → true ≡ list_any (finds p) l
held_only p l e = sym (held_self p []) ∙ ap (list_any (finds p)) (sym e)
