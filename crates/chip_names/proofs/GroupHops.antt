-- the hops of groups, where one is put to those of a group
use Rattle.std.proofs.Common.{◌≡◌, Bool, true, false, cond, List, [], ◌∷◌, Option, Some, Ordering, refl, sym, ap, ◌∙◌}
use Rattle.std.specs.BTreeMap.{insert_entry, is_at}
use Rattle.std.specs.Cmp.{IsTotalOrder}
use Rattle.std.specs.Map.{lookup, remove_entry}
use Rattle.std.specs.Option.{unwrap_or}
use Rattle.swss_types.proofs.Maps.{alike, lookup-insert_entry}
use Rattle.swss_types.proofs.Tied.{tied}
use Rattle.sai_types.specs.declared.ids.Rid.{Rid}
use Rattle.sai_types.specs.declared.weight.WHop.{WHop}
use Rattle.sai_types.specs.contracts.ids.RidOrd.TheImpl.Laws as rids
use Rattle.sai_types.specs.Named.{both, put_hop}
use Rattle.chip_names.specs.Naming.{GroupHops, hops_of_group, rid_cmp, with_hop}
use Rattle.chip_names.proofs.Ids.{rid_exact, rid_tied}

module _ {K X : Type 0} (R : K → K → Ordering) (o : IsTotalOrder R) (k q : K) (other : is_at (R q) k ≡ false) where
  past_removed : (e : K × X) (es rest : List (K × X)) (t : Bool) → is_at (R k) e.0 ≡ t → lookup (is_at (R q)) rest ≡ lookup (is_at (R q)) es → lookup (is_at (R q)) (cond t es (e ∷ rest)) ≡ lookup (is_at (R q)) (e ∷ es)
  past_removed e es rest true same h = sym (ap (λ b. cond b (Some e.1) (lookup (is_at (R q)) es)) (alike R o q k e.0 same ∙ other))
  past_removed e es rest false same h = ap (cond (is_at (R q) e.0) (Some e.1)) h

  -- another key is found as before where an entry was removed, in whatever order the entries are
  lookup-other : (es : List (K × X)) → lookup (is_at (R q)) (remove_entry (is_at (R k)) es) ≡ lookup (is_at (R q)) es
  lookup-other [] = refl
  lookup-other (e ∷ es) = past_removed e es (remove_entry (is_at (R k)) es) (is_at (R k) e.0) refl (lookup-other es)

module _ (groups : GroupHops) (group : Rid) (hop : Option WHop) where
  abbrev without : GroupHops
  without = remove_entry (is_at (rid_cmp group)) groups

  abbrev more : Rid → Option (List WHop)
  more g = both put_hop (hops_of_group groups g) hop

  put_at : (g : Rid) (t : Bool) → is_at (rid_cmp g) group ≡ t → unwrap_or (cond t (Some (more group)) (lookup (is_at (rid_cmp g)) without)) (Some []) ≡ cond t (more g) (hops_of_group groups g)
  put_at g true same = sym (ap more (rid_exact g group (tied _ same)))
  put_at g false other = ap (λ hs. unwrap_or hs (Some [])) (lookup-other rid_cmp rids.total-law group g other groups)

  -- the group has the hop beside those that it had, and the others have theirs
  pub hops_in-put : (others : Option (List WHop)) → others ≡ hops_of_group groups group → (g : Rid) → hops_of_group (insert_entry rid_cmp without group (both put_hop others hop)) g ≡ with_hop group hop g (hops_of_group groups g)
  hops_in-put others are g =
      ap (λ hs. hops_of_group (insert_entry rid_cmp without group (both put_hop hs hop)) g) are
      ∙ ap (λ hs. unwrap_or hs (Some [])) (lookup-insert_entry rid_cmp rids.total-law without group (more group) g)
      ∙ put_at g _ refl
      ∙ ap (λ t. cond t (more g) (hops_of_group groups g)) (sym (rid_tied g group))
