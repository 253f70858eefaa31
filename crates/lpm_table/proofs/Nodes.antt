-- nodes of a tree: what is put into them and removed
use Rattle.std.proofs.Common.{◌≡◌, ℕ, ◌+◌, ◌-◌, ◌*◌, ◌%◌, ◌^◌, ◌<◌, Bool, true, false, List, [], ◌∷◌, ◌++◌, length, refl, sym, ap, ◌∙◌, subst, arith, append-nil, length-append}
use Rattle.std.specs.BTreeMap.{is_at}
use Rattle.std.specs.BTreeSet.{insert_key}
use Rattle.std.specs.List.{AllByRecursion, list_any}
use Rattle.std.specs.Ordering.{is_eq}
use Rattle.std.specs.Set.{remove_key}
use Rattle.std.specs.declared.cmp.Ordering.TheVariants.{Less, Equal, Greater}
use Rattle.std.proofs.lemmas.Bool.{true≢false}
use Rattle.std.proofs.lemmas.Nat.{mod_low, pow_pos, shl-shr, shr_split}
use Rattle.swss_types.specs.Address.{IsProperPrefix, front, width}
use Rattle.swss_types.specs.AddressOrder.{prefix_cmp}
use Rattle.swss_types.specs.declared.address.Family.{Family}
use Rattle.swss_types.specs.declared.address.Prefix.{Prefix}
use Rattle.swss_types.proofs.AddressOrders.{prefix_exact}
use Rattle.lpm_table.specs.Parts.{node_of}
use Rattle.lpm_table.specs.Trees.{AreOf, IsAbove, IsFork, IsNode, IsUnder, IsInside, preorder, own, rest}
use Rattle.lpm_table.proofs.Alls.{all_append, all_front, all_back, all_insert, all_remove, all_weaker}
use Rattle.lpm_table.proofs.Begins.{front_bit}
use Rattle.lpm_table.proofs.Keys.{NonePass, any_before, any_past, insert_again, insert_before, insert_first, insert_past, insert_some, not_before, not_past, remove_before, remove_past}
use Rattle.lpm_table.proofs.Orders.{greater, prefix_same}
use Rattle.lpm_table.proofs.Withins.{node_first, within_self, within_under, within_within, zeros_first}

-- the query finds a prefix
abbrev pub finds : Prefix → Prefix → Bool
finds p = is_at (prefix_cmp p)

own_within : (n : Prefix) → IsProperPrefix n → (put : Bool) → AllByRecursion (IsInside n) (own put n)
own_within n proper true = (within_self n proper, tt)
own_within n proper false = tt

pub all_within : (n : Prefix) (put : Bool) (zs os : List Prefix) → IsNode n put zs os → AllByRecursion (IsInside n) (preorder n put zs os)
all_within n put zs os h = all_append (IsInside n) (own put n) (zs ++ os) (own_within n h.proper put) (all_append (IsInside n) zs os (all_weaker (λ q u. u.within) zs h.below_zero) (all_weaker (λ q u. u.within) os h.below_one))

pub listed_some : (n : Prefix) (put : Bool) (zs os : List Prefix) → IsNode n put zs os → 0 < length (preorder n put zs os)
listed_some n true zs os h = omega arith
listed_some n false zs os h = omega (arith, length-append zs os, (h.forks refl).0)

first_family : (n : Prefix) (f : Family) (qs : List Prefix) → 0 < length qs → AllByRecursion (IsInside n) qs → AreOf f qs → n.ip.family ≡ f
first_family n f [] some h of = absurd (omega (arith, some))
first_family n f (q ∷ qs) some h of = sym h.0.family ∙ of.0

pub node_family : (n : Prefix) (put : Bool) (zs os : List Prefix) (f : Family) → IsNode n put zs os → AreOf f (preorder n put zs os) → n.ip.family ≡ f
node_family n put zs os f h of = first_family n f (preorder n put zs os) (listed_some n put zs os h) (all_within n put zs os h) of

pub zeros_of : (n : Prefix) (put : Bool) (zs os : List Prefix) (f : Family) → AreOf f (preorder n put zs os) → AreOf f zs
zeros_of n put zs os f of = all_front (λ p. p.ip.family ≡ f) zs os (all_back (λ p. p.ip.family ≡ f) (own put n) (zs ++ os) of)

pub ones_of : (n : Prefix) (put : Bool) (zs os : List Prefix) (f : Family) → AreOf f (preorder n put zs os) → AreOf f os
ones_of n put zs os f of = all_back (λ p. p.ip.family ≡ f) zs os (all_back (λ p. p.ip.family ≡ f) (own put n) (zs ++ os) of)

-- a longer prefix comes behind the node's own
past_own : (n p : Prefix) (put : Bool) → prefix_cmp n p ≡ Less → AllByRecursion (λ x. prefix_cmp p x ≡ Greater) (own put n)
past_own n p true less = (greater n p less, tt)
past_own n p false less = tt

-- what is not equal is not found
pub not_found : (p q : Prefix) → (p ≡ q → ⊥) → finds p q ≡ false
not_found p q other =
    elim (prefix_cmp p q) as (λ o. prefix_cmp p q ≡ o → is_eq o ≡ false) [
      | Less ↦ λ _. refl
      | Equal ↦ λ e. absurd (other (prefix_exact p q e))
      | Greater ↦ λ _. refl
    ] refl

pub none_within : (n p : Prefix) (qs : List Prefix) → (IsInside n p → ⊥) → AllByRecursion (IsInside n) qs → NonePass (finds p) qs
none_within n p qs out h = all_weaker (λ q w. not_found p q (λ e. out (subst (IsInside n) (sym e) w))) qs h

-- at a node of which all is longer than its own prefix
module _ (n : Prefix) (put : Bool) (zs os : List Prefix) (h : IsNode n put zs os) where
  self_first : AllByRecursion (λ q. prefix_cmp n q ≡ Less) (zs ++ os)
  self_first = all_append (λ q. prefix_cmp n q ≡ Less) zs os (all_weaker (λ q u. node_first n q h.proper u.within u.longer) zs h.below_zero) (all_weaker (λ q u. node_first n q h.proper u.within u.longer) os h.below_one)

  pub node_marked : IsNode n true zs os
  node_marked = record { proper = h.proper; below_zero = h.below_zero; below_one = h.below_one; forks = λ e. absurd (true≢false e) }

  module _ (p : Prefix) where
    module _ (u : IsUnder n 1 p) where
      less : prefix_cmp n p ≡ Less
      less = node_first n p h.proper u.within u.longer

      zeros_past : AllByRecursion (λ x. prefix_cmp p x ≡ Greater) zs
      zeros_past = all_weaker (λ q v. greater q p (zeros_first n q p v u)) zs h.below_zero

      pub put_one : insert_key prefix_cmp (preorder n put zs os) p ≡ preorder n put zs (insert_key prefix_cmp os p)
      put_one = insert_past prefix_cmp p (own put n) (zs ++ os) (past_own n p put less) ∙ ap (λ l. own put n ++ l) (insert_past prefix_cmp p zs os zeros_past)

      pub node_put_one : IsNode n put zs (insert_key prefix_cmp os p)
      node_put_one = record { proper = h.proper; below_zero = h.below_zero; below_one = all_insert (IsUnder n 1) prefix_cmp os p h.below_one u; forks = λ e. ((h.forks e).0, insert_some prefix_cmp p os) }

      own_none : NonePass (finds p) (own put n)
      own_none = all_weaker (λ x g. not_past prefix_cmp p x g) (own put n) (past_own n p put less)

      zeros_none : NonePass (finds p) zs
      zeros_none = all_weaker (λ x g. not_past prefix_cmp p x g) zs zeros_past

      pub remove_one : remove_key (finds p) (preorder n put zs os) ≡ preorder n put zs (remove_key (finds p) os)
      remove_one = remove_past (finds p) (own put n) (zs ++ os) own_none ∙ ap (λ l. own put n ++ l) (remove_past (finds p) zs os zeros_none)

      pub held_one : list_any (finds p) (preorder n put zs os) ≡ list_any (finds p) os
      held_one = any_past (finds p) (own put n) (zs ++ os) own_none ∙ any_past (finds p) zs os zeros_none

      pub node_remove_one : (put ≡ false → 0 < length (remove_key (finds p) os)) → IsNode n put zs (remove_key (finds p) os)
      node_remove_one some = record { proper = h.proper; below_zero = h.below_zero; below_one = all_remove (IsUnder n 1) (finds p) os h.below_one; forks = λ e. ((h.forks e).0, some e) }

    module _ (u : IsUnder n 0 p) where
      less_zero : prefix_cmp n p ≡ Less
      less_zero = node_first n p h.proper u.within u.longer

      ones_before : AllByRecursion (λ x. prefix_cmp p x ≡ Less) os
      ones_before = all_weaker (λ q v. zeros_first n p q u v) os h.below_one

      pub put_zero : insert_key prefix_cmp (preorder n put zs os) p ≡ preorder n put (insert_key prefix_cmp zs p) os
      put_zero = insert_past prefix_cmp p (own put n) (zs ++ os) (past_own n p put less_zero) ∙ ap (λ l. own put n ++ l) (insert_before prefix_cmp p zs os ones_before)

      pub node_put_zero : IsNode n put (insert_key prefix_cmp zs p) os
      node_put_zero = record { proper = h.proper; below_zero = all_insert (IsUnder n 0) prefix_cmp zs p h.below_zero u; below_one = h.below_one; forks = λ e. (insert_some prefix_cmp p zs, (h.forks e).1) }

      own_none_zero : NonePass (finds p) (own put n)
      own_none_zero = all_weaker (λ x g. not_past prefix_cmp p x g) (own put n) (past_own n p put less_zero)

      ones_none : NonePass (finds p) os
      ones_none = all_weaker (λ x g. not_before prefix_cmp p x g) os ones_before

      pub remove_zero : remove_key (finds p) (preorder n put zs os) ≡ preorder n put (remove_key (finds p) zs) os
      remove_zero = remove_past (finds p) (own put n) (zs ++ os) own_none_zero ∙ ap (λ l. own put n ++ l) (remove_before (finds p) zs os ones_none)

      pub held_zero : list_any (finds p) (preorder n put zs os) ≡ list_any (finds p) zs
      held_zero = any_past (finds p) (own put n) (zs ++ os) own_none_zero ∙ any_before (finds p) zs os ones_none

      pub node_remove_zero : (put ≡ false → 0 < length (remove_key (finds p) zs)) → IsNode n put (remove_key (finds p) zs) os
      node_remove_zero some = record { proper = h.proper; below_zero = all_remove (IsUnder n 0) (finds p) zs h.below_zero; below_one = h.below_one; forks = λ e. (some e, (h.forks e).1) }

-- the node's own prefix is put and removed
pub put_self : (n : Prefix) (put : Bool) (zs os : List Prefix) → IsNode n put zs os → insert_key prefix_cmp (preorder n put zs os) n ≡ preorder n true zs os
put_self n true zs os h = insert_again prefix_cmp n (zs ++ os) (prefix_same n)
put_self n false zs os h = insert_first prefix_cmp n (zs ++ os) (self_first n false zs os h)

pub found_self : (n : Prefix) → finds n n ≡ true
found_self n = ap is_eq (prefix_same n)

pub remove_self : (n : Prefix) (rest : List Prefix) → remove_key (finds n) (n ∷ rest) ≡ rest
remove_self n rest = rw (found_self n) refl

pub held_self : (n : Prefix) (rest : List Prefix) → list_any (finds n) (n ∷ rest) ≡ true
held_self n rest = rw (found_self n) refl

pub none_self : (n : Prefix) (zs os : List Prefix) → IsNode n false zs os → NonePass (finds n) (preorder n false zs os)
none_self n zs os h = all_weaker (λ q less. not_before prefix_cmp n q less) (zs ++ os) (self_first n false zs os h)

-- a shorter prefix goes above a tree
module _ (p n : Prefix) (ps : List Prefix) (h : IsAbove p n ps) where
  pub above_first : insert_key prefix_cmp ps p ≡ p ∷ ps
  above_first = insert_first prefix_cmp p ps (all_weaker (λ q w. node_first p q h.proper (within_within p n q h.within w) (omega (arith, h.shorter, w.long))) ps h.all)

  above_under : (bit : ℕ) → front (rest p - 1) n.ip.bits % 2 ≡ bit → AllByRecursion (IsUnder p bit) ps
  above_under bit e = all_weaker (λ q w. within_under p n q bit (record { within = h.within; longer = h.shorter; next = e }) w) ps h.all

  pub above_one : front (rest p - 1) n.ip.bits % 2 ≡ 1 → IsNode p true [] ps
  above_one e = record { proper = h.proper; below_zero = tt; below_one = above_under 1 e; forks = λ e. absurd (true≢false e) }

  pub above_zero : front (rest p - 1) n.ip.bits % 2 ≡ 0 → IsNode p true ps []
  above_zero e = record { proper = h.proper; below_zero = above_under 0 e; below_one = tt; forks = λ e. absurd (true≢false e) }

pub same_node : (f : Family) (b c l m : ℕ) → b ≡ c → l ≡ m → node_of b f l ≡ node_of c f m
same_node f b c l m e k = ap (λ x. node_of x f l) e ∙ ap (λ x. node_of c f x) k

-- a prefix and a tree go below what they have in common
module _ (p n : Prefix) (ps : List Prefix) (cut : ℕ) (h : IsFork p n ps cut) where
  abbrev pub fork_node : Prefix
  fork_node = node_of (front cut p.ip.bits * 2 ^ cut) p.ip.family (width p.ip.family - cut)

  fork_rest : rest fork_node ≡ cut
  fork_rest = omega (arith, h.fits)

  clean : (front cut p.ip.bits * 2 ^ cut) % 2 ^ cut ≡ 0
  clean = let e : front cut p.ip.bits * 2 ^ cut ≡ front cut p.ip.bits * 2 ^ cut + 0 = omega arith in ap (λ v. v % 2 ^ cut) e ∙ mod_low (front cut p.ip.bits) cut 0 (pow_pos cut)

  fork_proper : IsProperPrefix fork_node
  fork_proper = (omega (arith, shr_split p.ip.bits cut, h.proper.0), omega arith, ap (λ r. (front cut p.ip.bits * 2 ^ cut) % 2 ^ r) fork_rest ∙ clean)

  fork_under : (q : Prefix) (bit : ℕ) → IsProperPrefix q → q.ip.family ≡ p.ip.family → rest q < cut → front cut q.ip.bits ≡ front cut p.ip.bits → front (cut - 1) q.ip.bits % 2 ≡ bit → IsUnder fork_node bit q
  fork_under q bit proper family past agree e =
      let w = ap width family in
      record {
        within = record {
          proper = proper;
          family = family;
          long = omega (arith, w, past, h.fits, proper.1);
          begins = ap (λ r. front r q.ip.bits) fork_rest ∙ agree ∙ sym (shl-shr (front cut p.ip.bits) cut) ∙ sym (ap (λ r. front r fork_node.ip.bits) fork_rest);
        };
        longer = omega (arith, w, past, h.fits, proper.1);
        next = ap (λ r. front (r - 1) q.ip.bits % 2) fork_rest ∙ e;
      }

  other_bit : (bit other : ℕ) → bit + other ≡ 1 → front (cut - 1) p.ip.bits % 2 ≡ bit → front (cut - 1) n.ip.bits % 2 ≡ other
  other_bit bit other one e =
      let some : cut - 1 + 1 ≡ cut = omega (arith, h.past) in
      let a = front_bit (cut - 1) p.ip.bits in
      let b = front_bit (cut - 1) n.ip.bits in
      let c : front (cut - 1 + 1) n.ip.bits ≡ front (cut - 1 + 1) p.ip.bits = ap (λ r. front r n.ip.bits) some ∙ h.agree ∙ sym (ap (λ r. front r p.ip.bits) some) in
      omega (arith, a, b, c, h.apart, e, one)

  fork_all : (bit : ℕ) → front (cut - 1) n.ip.bits % 2 ≡ bit → AllByRecursion (IsUnder fork_node bit) ps
  fork_all bit e = all_weaker (λ q w. within_under fork_node n q bit (fork_under n bit h.proper_node h.family h.past_node h.agree e) w) ps h.all

  module _ (e : front (cut - 1) p.ip.bits % 2 ≡ 1) where
    one_under : IsUnder fork_node 1 p
    one_under = fork_under p 1 h.proper refl h.past refl e

    all_zero : AllByRecursion (IsUnder fork_node 0) ps
    all_zero = fork_all 0 (other_bit 1 0 refl e)

    pub fork_one : IsNode fork_node false ps (p ∷ [])
    fork_one = record { proper = fork_proper; below_zero = all_zero; below_one = (one_under, tt); forks = λ _. (h.some, omega arith) }

    pub fork_last : insert_key prefix_cmp ps p ≡ ps ++ p ∷ []
    fork_last = ap (λ l. insert_key prefix_cmp l p) (sym (append-nil ps)) ∙ insert_past prefix_cmp p ps [] (all_weaker (λ q v. greater q p (zeros_first fork_node q p v one_under)) ps all_zero)

  module _ (e : front (cut - 1) p.ip.bits % 2 ≡ 0) where
    zero_under : IsUnder fork_node 0 p
    zero_under = fork_under p 0 h.proper refl h.past refl e

    all_one : AllByRecursion (IsUnder fork_node 1) ps
    all_one = fork_all 1 (other_bit 0 1 refl e)

    pub fork_zero : IsNode fork_node false (p ∷ []) ps
    fork_zero = record { proper = fork_proper; below_zero = (zero_under, tt); below_one = all_one; forks = λ _. (omega arith, h.some) }

    pub fork_first : insert_key prefix_cmp ps p ≡ p ∷ ps
    fork_first = insert_first prefix_cmp p ps (all_weaker (λ q v. zeros_first fork_node p q zero_under v) ps all_one)
