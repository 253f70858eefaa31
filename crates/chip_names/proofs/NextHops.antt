-- the hops of next hops, found one after the other
use Rattle.std.proofs.Common.{◌≡◌, Bool, true, false, cond, List, [], ◌∷◌, Option, None, Some, refl, sym, ap, ◌∙◌}
use Rattle.std.specs.BTreeMap.{insert_entry, is_at}
use Rattle.std.specs.Cmp.{eq_by_cmp_equiv}
use Rattle.std.specs.List.Sorted.{IsStrictlySortedBy}
use Rattle.std.specs.Map.{keys_of, lookup}
use Rattle.std.specs.Option.{option_or}
use Rattle.std.proofs.lemmas.Map.{lookup-none}
use Rattle.std.proofs.lemmas.Map.Entries.{none_past_head}
use Rattle.std.proofs.lemmas.Map.Keys.{IsDistinct-from_sorted, sorted_tail}
use Rattle.swss_types.proofs.Maps.{lookup-insert_entry}
use Rattle.sai_types.specs.declared.ids.Rid.{Rid}
use Rattle.sai_types.specs.declared.hop.Hop.{Hop}
use Rattle.sai_types.specs.declared.body.Body.{Body}
use Rattle.sai_types.specs.contracts.ids.RidOrd.TheImpl.Laws as rids
use Rattle.sai_types.specs.Named.{next_hop_of}
use Rattle.sai_types.specs.Objects.{Objects}
use Rattle.chip_names.specs.Naming.{AreNextHops, numbered, rid_cmp}
use Rattle.chip_names.proofs.Added.{option_or-none}
use Rattle.chip_names.proofs.Ids.{at-numbered}

abbrev found : {X : Type 0} → List (Rid × X) → Rid → Option X
found es r = lookup (is_at (rid_cmp r)) es

-- the hops so far, with those of the bodies that are left, are those of all
pub record AreSoFar (objects : Objects) (all rest : List (Rid × Body Rid)) (hops : List (Rid × Hop)) : Type 0 where
  pub each : (r : Rid) → option_or (found hops r) (next_hop_of objects (found rest r)) ≡ next_hop_of objects (found all r)
  pub fresh : (r : Rid) (b : Body Rid) → found rest r ≡ Some b → found hops r ≡ None
  pub sorted : IsStrictlySortedBy rid_cmp (keys_of rest)

pub at-first : (objects : Objects) (all : List (Rid × Body Rid)) → IsStrictlySortedBy rid_cmp (keys_of all) → AreSoFar objects all all []
at-first objects all sorted = record { each = λ r. refl; fresh = λ r b there. refl; sorted = sorted }

pub at-last : (all : List (Rid × Body Rid)) (hops : List (Rid × Hop)) → AreSoFar (numbered all) all [] hops → AreNextHops (numbered all) hops
at-last all hops so_far = record { each = λ r. option_or-none (found hops r) ∙ so_far.each r ∙ ap (next_hop_of (numbered all)) (sym (at-numbered all r)) }

module _ (objects : Objects) (all rest : List (Rid × Body Rid)) (e : Rid × Body Rid) (hops : List (Rid × Hop)) (so_far : AreSoFar objects all (e ∷ rest) hops) where
  abbrev hop : Option Hop
  hop = next_hop_of objects (Some e.1)

  once : (r : Rid) → is_at (rid_cmp r) e.0 ≡ true → found rest r ≡ None
  once r same = lookup-none (is_at (rid_cmp r)) rest (none_past_head (eq_by_cmp_equiv rids.total-law) r e rest (IsDistinct-from_sorted rid_cmp (keys_of (e ∷ rest)) so_far.sorted) same)

  module _ (more : List (Rid × Hop)) (put : (r : Rid) → found more r ≡ option_or (cond (is_at (rid_cmp r) e.0) hop None) (found hops r)) where
    each_by : (r : Rid) (t : Bool) → is_at (rid_cmp r) e.0 ≡ t → option_or (found more r) (next_hop_of objects (found rest r)) ≡ next_hop_of objects (found all r)
    each_by r true same =
        let none = so_far.fresh r e.1 (ap (λ t. cond t (Some e.1) (found rest r)) same) in
        ap (λ o. option_or (found more r) (next_hop_of objects o)) (once r same)
        ∙ sym (option_or-none (found more r))
        ∙ put r
        ∙ ap (λ t. option_or (cond t hop None) (found hops r)) same
        ∙ ap (option_or hop) none
        ∙ sym (option_or-none hop)
        ∙ sym (ap (λ o. option_or o hop) none)
        ∙ sym (ap (λ t. option_or (found hops r) (next_hop_of objects (cond t (Some e.1) (found rest r)))) same)
        ∙ so_far.each r
    each_by r false other =
        ap (λ o. option_or o (next_hop_of objects (found rest r))) (put r ∙ ap (λ t. option_or (cond t hop None) (found hops r)) other)
        ∙ sym (ap (λ t. option_or (found hops r) (next_hop_of objects (cond t (Some e.1) (found rest r)))) other)
        ∙ so_far.each r

    fresh_by : (r : Rid) (b : Body Rid) (t : Bool) → is_at (rid_cmp r) e.0 ≡ t → found rest r ≡ Some b → found more r ≡ None
    fresh_by r b true same there = let none = once r same in absurd cc
    fresh_by r b false other there =
        put r
        ∙ ap (λ t. option_or (cond t hop None) (found hops r)) other
        ∙ so_far.fresh r b (ap (λ t. cond t (Some e.1) (found rest r)) other ∙ there)

    one_more : AreSoFar objects all rest more
    one_more = record { each = λ r. each_by r _ refl; fresh = λ r b there. fresh_by r b _ refl there; sorted = sorted_tail rid_cmp e.0 (keys_of rest) so_far.sorted }

  none_put : (t : Bool) (o : Option Hop) → o ≡ option_or (cond t None None) o
  none_put true o = refl
  none_put false o = refl

  some_put : (t : Bool) (h : Hop) (o : Option Hop) → cond t (Some h) o ≡ option_or (cond t (Some h) None) o
  some_put true h o = refl
  some_put false h o = refl

  pub no_hop : None ≡ hop → AreSoFar objects all rest hops
  no_hop none = one_more hops (λ r. none_put (is_at (rid_cmp r) e.0) (found hops r) ∙ ap (λ h. option_or (cond (is_at (rid_cmp r) e.0) h None) (found hops r)) none)

  pub hop_put : (h : Hop) → Some h ≡ hop → AreSoFar objects all rest (insert_entry rid_cmp hops e.0 h)
  hop_put h some = one_more (insert_entry rid_cmp hops e.0 h) (λ r.
      lookup-insert_entry rid_cmp rids.total-law hops e.0 h r
      ∙ some_put (is_at (rid_cmp r) e.0) h (found hops r)
      ∙ ap (λ h. option_or (cond (is_at (rid_cmp r) e.0) h None) (found hops r)) some)
