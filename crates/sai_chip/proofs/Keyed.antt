-- the keys of routes in tables of prefixes: what is put and removed, router by router
use Rattle.std.proofs.Common.{◌≡◌, true, false, cond, List, [], ◌∷◌, ◌++◌, Option, None, Some, Ordering, refl, sym, ap, ◌∙◌, subst}
use Rattle.std.specs.declared.cmp.Ordering.TheVariants.{Less, Equal, Greater}
use Rattle.std.specs.BTreeMap.{insert_entry, is_at}
use Rattle.std.specs.BTreeSet.{insert_key}
use Rattle.std.specs.Cmp.{IsTotalOrder, on_total, then_total}
use Rattle.std.specs.Cmp.Lexicographic.{options_total}
use Rattle.std.specs.List.{AllByRecursion}
use Rattle.std.specs.List.Sorted.{IsStrictlySortedBy}
use Rattle.std.specs.Map.{keys_of, lookup, remove_entry, set_value}
use Rattle.std.specs.Option.{option_cmp}
use Rattle.std.specs.Ordering.{is_eq, match_ordering, ordering_reverse, ordering_then}
use Rattle.std.specs.Set.{remove_key}
use Rattle.std.proofs.lemmas.Map.{lookup-none}
use Rattle.std.proofs.lemmas.Map.Entries.{none_below_head}
use Rattle.std.proofs.lemmas.Map.Keys.{sorted_head, sorted_tail}
use Rattle.swss_types.specs.AddressOrder.{prefix_cmp, prefix_total}
use Rattle.swss_types.specs.declared.address.Prefix.{Prefix}
use Rattle.sai_types.specs.declared.ids.Rid.{Rid}
use Rattle.sai_types.specs.contracts.ids.RidOrd.TheImpl.Laws.{total-law as rid_total}
use Rattle.lpm_table.proofs.Keys.{insert_before, insert_first, insert_past, not_before, not_past, remove_before, remove_past}
use Rattle.lpm_table.proofs.Alls.{all_append, all_weaker}
use Rattle.chip_names.specs.Naming.{rid_cmp}
use Rattle.sai_chip.specs.Bodies.{RouteKey, route_cmp}
use Rattle.sai_chip.specs.Tables.{keyed, prefix_keys}
use Rattle.sai_chip.proofs.Changed.{vr_exact}

-- the order of routers
abbrev pub vr_cmp : Option Rid → Option Rid → Ordering
vr_cmp = option_cmp rid_cmp

abbrev pub Tabled : Type 0
Tabled = List (Option Rid × List Prefix)

pub vr_total : IsTotalOrder vr_cmp
vr_total = options_total rid_total

pub route_total : IsTotalOrder route_cmp
route_total = then_total (on_total (λ k. k.0) vr_total) (on_total (λ k. k.1) prefix_total)

same_self : (o : Ordering) → o ≡ ordering_reverse o → o ≡ Equal
same_self Less e = absurd cc
same_self Equal e = refl
same_self Greater e = absurd cc

pub route_same : (k : RouteKey) → route_cmp k k ≡ Equal
route_same k = same_self (route_cmp k k) (route_total.antisymm k k)

module _ (r : Option Rid) (p : Prefix) where
  -- the keys of another router come behind or before
  keys_past : (s : Option Rid) (qs : List Prefix) → vr_cmp r s ≡ Greater → AllByRecursion (λ k. route_cmp (r, p) k ≡ Greater) (prefix_keys s qs)
  keys_past s [] h = tt
  keys_past s (q ∷ qs) h = (ap (λ o. ordering_then o (prefix_cmp p q)) h, keys_past s qs h)

  keys_before : (s : Option Rid) (qs : List Prefix) → vr_cmp r s ≡ Less → AllByRecursion (λ k. route_cmp (r, p) k ≡ Less) (prefix_keys s qs)
  keys_before s [] h = tt
  keys_before s (q ∷ qs) h = (ap (λ o. ordering_then o (prefix_cmp p q)) h, keys_before s qs h)

  tables_before : (ts : Tabled) → AllByRecursion (λ s. vr_cmp r s ≡ Less) (keys_of ts) → AllByRecursion (λ k. route_cmp (r, p) k ≡ Less) (keyed ts)
  tables_before [] h = tt
  tables_before (t ∷ ts) h = all_append (λ k. route_cmp (r, p) k ≡ Less) (prefix_keys t.0 t.1) (keyed ts) (keys_before t.0 t.1 h.0) (tables_before ts h.1)

  same : vr_cmp r r ≡ Equal
  same = same_self (vr_cmp r r) (vr_total.antisymm r r)

  at_own : (q : Prefix) → route_cmp (r, p) (r, q) ≡ prefix_cmp p q
  at_own q = ap (λ o. ordering_then o (prefix_cmp p q)) same

  -- in the same router
  keys_put : (qs : List Prefix) → insert_key route_cmp (prefix_keys r qs) (r, p) ≡ prefix_keys r (insert_key prefix_cmp qs p)
  keys_put [] = refl
  keys_put (q ∷ qs) =
      ap (λ o. match_ordering o ((r, p) ∷ (r, q) ∷ prefix_keys r qs) ((r, q) ∷ prefix_keys r qs) ((r, q) ∷ insert_key route_cmp (prefix_keys r qs) (r, p))) (at_own q)
      ∙ elim (prefix_cmp p q) as (λ o. match_ordering o ((r, p) ∷ (r, q) ∷ prefix_keys r qs) ((r, q) ∷ prefix_keys r qs) ((r, q) ∷ insert_key route_cmp (prefix_keys r qs) (r, p)) ≡ prefix_keys r (match_ordering o (p ∷ q ∷ qs) (q ∷ qs) (q ∷ insert_key prefix_cmp qs p))) [
        | Less ↦ refl
        | Equal ↦ refl
        | Greater ↦ ap (λ l. (r, q) ∷ l) (keys_put qs)
      ]

  keys_removed : (qs : List Prefix) → remove_key (is_at (route_cmp (r, p))) (prefix_keys r qs) ≡ prefix_keys r (remove_key (is_at (prefix_cmp p)) qs)
  keys_removed [] = refl
  keys_removed (q ∷ qs) =
      ap (λ o. cond (is_eq o) (prefix_keys r qs) ((r, q) ∷ remove_key (is_at (route_cmp (r, p))) (prefix_keys r qs))) (at_own q)
      ∙ elim (is_eq (prefix_cmp p q)) as (λ b. cond b (prefix_keys r qs) ((r, q) ∷ remove_key (is_at (route_cmp (r, p))) (prefix_keys r qs)) ≡ prefix_keys r (cond b qs (q ∷ remove_key (is_at (prefix_cmp p)) qs))) [
        | true ↦ refl
        | false ↦ ap (λ l. (r, q) ∷ l) (keys_removed qs)
      ]

  -- the table of the router changes
  pub keyed_put : (ts : Tabled) (ps : List Prefix) → IsStrictlySortedBy vr_cmp (keys_of ts) → lookup (is_at (vr_cmp r)) ts ≡ Some ps → keyed (set_value (is_at (vr_cmp r)) ts (insert_key prefix_cmp ps p)) ≡ insert_key route_cmp (keyed ts) (r, p)
  keyed_put [] ps sorted there = absurd cc
  keyed_put (t ∷ ts) ps sorted there =
      elim (vr_cmp r t.0) as (λ o. vr_cmp r t.0 ≡ o → cond (is_eq o) (Some t.1) (lookup (is_at (vr_cmp r)) ts) ≡ Some ps → keyed (cond (is_eq o) ((t.0, insert_key prefix_cmp ps p) ∷ ts) (t ∷ set_value (is_at (vr_cmp r)) ts (insert_key prefix_cmp ps p))) ≡ insert_key route_cmp (keyed (t ∷ ts)) (r, p)) [
        | Less ↦ λ is e. let none = lookup-none (is_at (vr_cmp r)) (t ∷ ts) (none_below_head vr_total r t ts sorted is) in absurd cc
        | Equal ↦ λ is e.
            let own : r ≡ t.0 = vr_exact r t.0 is in
            let all : t.1 ≡ ps = cc in
            let behind = tables_before ts (subst (λ s. AllByRecursion (λ y. vr_cmp s y ≡ Less) (keys_of ts)) (sym own) (sorted_head vr_cmp t.0 (keys_of ts) sorted)) in
            ap (λ s. prefix_keys s (insert_key prefix_cmp ps p) ++ keyed ts) (sym own)
            ∙ ap (λ l. l ++ keyed ts) (sym (keys_put ps))
            ∙ sym (insert_before route_cmp (r, p) (prefix_keys r ps) (keyed ts) behind)
            ∙ ap (λ l. insert_key route_cmp (l ++ keyed ts) (r, p)) (ap (prefix_keys r) (sym all) ∙ ap (λ s. prefix_keys s t.1) own)
        | Greater ↦ λ is e. ap (λ l. prefix_keys t.0 t.1 ++ l) (keyed_put ts ps (sorted_tail vr_cmp t.0 (keys_of ts) sorted) e) ∙ sym (insert_past route_cmp (r, p) (prefix_keys t.0 t.1) (keyed ts) (keys_past t.0 t.1 is))
      ] refl there

  pub keyed_removed : (ts : Tabled) (ps : List Prefix) → IsStrictlySortedBy vr_cmp (keys_of ts) → lookup (is_at (vr_cmp r)) ts ≡ Some ps → keyed (set_value (is_at (vr_cmp r)) ts (remove_key (is_at (prefix_cmp p)) ps)) ≡ remove_key (is_at (route_cmp (r, p))) (keyed ts)
  keyed_removed [] ps sorted there = absurd cc
  keyed_removed (t ∷ ts) ps sorted there =
      elim (vr_cmp r t.0) as (λ o. vr_cmp r t.0 ≡ o → cond (is_eq o) (Some t.1) (lookup (is_at (vr_cmp r)) ts) ≡ Some ps → keyed (cond (is_eq o) ((t.0, remove_key (is_at (prefix_cmp p)) ps) ∷ ts) (t ∷ set_value (is_at (vr_cmp r)) ts (remove_key (is_at (prefix_cmp p)) ps))) ≡ remove_key (is_at (route_cmp (r, p))) (keyed (t ∷ ts))) [
        | Less ↦ λ is e. let none = lookup-none (is_at (vr_cmp r)) (t ∷ ts) (none_below_head vr_total r t ts sorted is) in absurd cc
        | Equal ↦ λ is e.
            let own : r ≡ t.0 = vr_exact r t.0 is in
            let all : t.1 ≡ ps = cc in
            let behind = tables_before ts (subst (λ s. AllByRecursion (λ y. vr_cmp s y ≡ Less) (keys_of ts)) (sym own) (sorted_head vr_cmp t.0 (keys_of ts) sorted)) in
            ap (λ s. prefix_keys s (remove_key (is_at (prefix_cmp p)) ps) ++ keyed ts) (sym own)
            ∙ ap (λ l. l ++ keyed ts) (sym (keys_removed ps))
            ∙ sym (remove_before (is_at (route_cmp (r, p))) (prefix_keys r ps) (keyed ts) (all_weaker (λ k less. not_before route_cmp (r, p) k less) (keyed ts) behind))
            ∙ ap (λ l. remove_key (is_at (route_cmp (r, p))) (l ++ keyed ts)) (ap (prefix_keys r) (sym all) ∙ ap (λ s. prefix_keys s t.1) own)
        | Greater ↦ λ is e. ap (λ l. prefix_keys t.0 t.1 ++ l) (keyed_removed ts ps (sorted_tail vr_cmp t.0 (keys_of ts) sorted) e) ∙ sym (remove_past (is_at (route_cmp (r, p))) (prefix_keys t.0 t.1) (keyed ts) (all_weaker (λ k more. not_past route_cmp (r, p) k more) (prefix_keys t.0 t.1) (keys_past t.0 t.1 is)))
      ] refl there

  -- a router that has no table gets one
  pub keyed_new : (ts : Tabled) → IsStrictlySortedBy vr_cmp (keys_of ts) → lookup (is_at (vr_cmp r)) ts ≡ None → keyed (insert_entry vr_cmp ts r (p ∷ [])) ≡ insert_key route_cmp (keyed ts) (r, p)
  keyed_new [] sorted none = refl
  keyed_new (t ∷ ts) sorted none =
      elim (vr_cmp r t.0) as (λ o. vr_cmp r t.0 ≡ o → cond (is_eq o) (Some t.1) (lookup (is_at (vr_cmp r)) ts) ≡ None → keyed (match_ordering o ((r, p ∷ []) ∷ t ∷ ts) ((t.0, p ∷ []) ∷ ts) (t ∷ insert_entry vr_cmp ts r (p ∷ []))) ≡ insert_key route_cmp (keyed (t ∷ ts)) (r, p)) [
        | Less ↦ λ is e. sym (insert_first route_cmp (r, p) (keyed (t ∷ ts)) (tables_before (t ∷ ts) (is, all_weaker (λ s less. vr_total.trans r t.0 s is less) (keys_of ts) (sorted_head vr_cmp t.0 (keys_of ts) sorted))))
        | Equal ↦ λ is e. absurd cc
        | Greater ↦ λ is e. ap (λ l. prefix_keys t.0 t.1 ++ l) (keyed_new ts (sorted_tail vr_cmp t.0 (keys_of ts) sorted) e) ∙ sym (insert_past route_cmp (r, p) (prefix_keys t.0 t.1) (keyed ts) (keys_past t.0 t.1 is))
      ] refl none

  -- where the router has no table, nothing is removed
  pub keyed_without : (ts : Tabled) → lookup (is_at (vr_cmp r)) ts ≡ None → remove_key (is_at (route_cmp (r, p))) (keyed ts) ≡ keyed ts
  keyed_without [] none = refl
  keyed_without (t ∷ ts) none =
      elim (vr_cmp r t.0) as (λ o. vr_cmp r t.0 ≡ o → cond (is_eq o) (Some t.1) (lookup (is_at (vr_cmp r)) ts) ≡ None → remove_key (is_at (route_cmp (r, p))) (keyed (t ∷ ts)) ≡ keyed (t ∷ ts)) [
        | Less ↦ λ is e. remove_past (is_at (route_cmp (r, p))) (prefix_keys t.0 t.1) (keyed ts) (all_weaker (λ k less. not_before route_cmp (r, p) k less) (prefix_keys t.0 t.1) (keys_before t.0 t.1 is)) ∙ ap (λ l. prefix_keys t.0 t.1 ++ l) (keyed_without ts e)
        | Equal ↦ λ is e. absurd cc
        | Greater ↦ λ is e. remove_past (is_at (route_cmp (r, p))) (prefix_keys t.0 t.1) (keyed ts) (all_weaker (λ k more. not_past route_cmp (r, p) k more) (prefix_keys t.0 t.1) (keys_past t.0 t.1 is)) ∙ ap (λ l. prefix_keys t.0 t.1 ++ l) (keyed_without ts e)
      ] refl none

-- an empty table can go
pub keyed_emptied : (r : Option Rid) (ts : Tabled) → lookup (is_at (vr_cmp r)) ts ≡ Some [] → keyed (remove_entry (is_at (vr_cmp r)) ts) ≡ keyed ts
keyed_emptied r [] there = absurd cc
keyed_emptied r (t ∷ ts) there =
    elim (is_eq (vr_cmp r t.0)) as (λ b. cond b (Some t.1) (lookup (is_at (vr_cmp r)) ts) ≡ Some [] → keyed (cond b ts (t ∷ remove_entry (is_at (vr_cmp r)) ts)) ≡ keyed (t ∷ ts)) [
      | true ↦ λ e. let none : t.1 ≡ [] = cc in ap (λ l. prefix_keys t.0 l ++ keyed ts) (sym none)
      | false ↦ λ e. ap (λ l. prefix_keys t.0 t.1 ++ l) (keyed_emptied r ts e)
    ] there
