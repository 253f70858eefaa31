-- keys that compare equal, and entries above a key
use Rattle.std.proofs.Common.{◌≡◌, true, false, cond, List, [], ◌∷◌, None, Some, Ordering, refl, sym, ap, ◌∙◌}
use Rattle.std.specs.declared.cmp.Ordering.TheVariants.{Less, Equal, Greater}
use Rattle.std.specs.Ordering.{is_eq}
use Rattle.std.specs.BTreeMap.{insert_entry, is_at}
use Rattle.std.specs.List.{AllByRecursion}
use Rattle.std.specs.List.Sorted.{IsStrictlySortedBy}
use Rattle.std.specs.Map.{keys_of, lookup}
use Rattle.std.proofs.lemmas.Cmp.{eq_by_cmp_equiv, tied_itself}
use Rattle.std.proofs.lemmas.Option.{none-some, same_Some}
use Rattle.table_schema.specs.Fields.{HasRisingKeys}
use Rattle.table_schema.specs.Key.{key_cmp}
use Rattle.table_schema.specs.declared.key.Key.{Key}
use Rattle.table_schema.proofs.Keys.{key_total}
use Rattle.table_schema.proofs.Places.{above_more, find_step, put_step}

pub key-turned : (k q : Key) → is_at (key_cmp k) q ≡ is_at (key_cmp q) k
key-turned k q = (eq_by_cmp_equiv key_total).symm k q

module _ {X : Type 0} where
  keys_above : (k : Key) (es : List (Key × X)) → AllByRecursion (λ e. key_cmp k e.0 ≡ Less) es → AllByRecursion (λ y. key_cmp k y ≡ Less) (keys_of es)
  keys_above k [] h = tt
  keys_above k (e ∷ es) h = (h.0, keys_above k es h.1)

  -- rising keys are sorted, as std says it
  pub sorted_from_rising : (es : List (Key × X)) → HasRisingKeys key_cmp es → IsStrictlySortedBy key_cmp (keys_of es)
  unfolding IsStrictlySortedBy
  sorted_from_rising [] h = tt
  sorted_from_rising (e ∷ es) h = (keys_above e.0 es h.0, sorted_from_rising es h.1)

  -- no key is found among those above it
  pub lookup-above : (k q : Key) (es : List (Key × X)) → is_at (key_cmp q) k ≡ true → AllByRecursion (λ e. key_cmp k e.0 ≡ Less) es → lookup (is_at (key_cmp q)) es ≡ None
  lookup-above k q [] here h = refl
  lookup-above k q (e ∷ es) here h =
      let not : is_at (key_cmp q) e.0 ≡ false = (eq_by_cmp_equiv key_total).congr q k e.0 here ∙ ap is_eq h.0 in
      ap (λ b. cond b (Some e.1) (lookup (is_at (key_cmp q)) es)) not ∙ lookup-above k q es here h.1

  -- to put what is there already changes nothing
  pub put-there : (k : Key) (v : X) (es : List (Key × X)) → HasRisingKeys key_cmp es → lookup (is_at (key_cmp k)) es ≡ Some v → insert_entry key_cmp es k v ≡ es
  put-there k v [] h there = absurd cc
  put-there k v (e ∷ es) h there =
      let rest = put-there k v es h.1 in
      let by : (r : Ordering) → key_cmp k e.0 ≡ r → insert_entry key_cmp (e ∷ es) k v ≡ e ∷ es =
      λ r. elim r as (λ r. key_cmp k e.0 ≡ r → insert_entry key_cmp (e ∷ es) k v ≡ e ∷ es) [
        | Less ↦ λ is. absurd (none-some v (sym (find_step key_cmp e es k Less is ∙ lookup-above k k es (ap is_eq (tied_itself key_total k)) (above_more key_cmp key_total k e.0 es is h.0)) ∙ there))
        | Equal ↦ λ is. put_step key_cmp e es k v Equal is ∙ ap (λ w. (e.0, w) ∷ es) (sym (same_Some _ _ (sym (find_step key_cmp e es k Equal is) ∙ there)))
        | Greater ↦ λ is. put_step key_cmp e es k v Greater is ∙ ap (λ l. e ∷ l) (rest (sym (find_step key_cmp e es k Greater is) ∙ there))
      ] in
      by (key_cmp k e.0) refl
