-- the next key to sync
use Rattle.std.proofs.Common.{◌≡◌, ◌⊎◌, inl, inr, Bool, true, false, cond, List, [], ◌∷◌, Option, Some, None, Ordering, refl, sym, ap, subst, ◌∙◌}
use Rattle.std.specs.List.{AllByRecursion}
use Rattle.std.specs.Map.{keys_of}
use Rattle.std.specs.Ordering.{is_lt}
use Rattle.std.specs.declared.cmp.Ordering.TheVariants.{Less, Equal, Greater}
use Rattle.std.proofs.lemmas.Bool.{false≢true}
use Rattle.std.proofs.lemmas.Option.{none-some, same_Some}
use Rattle.sai_types.specs.Alike.{IsIn}
use Rattle.table_schema.specs.Fields.{HasRisingKeys}
use Rattle.table_schema.specs.Key.{key_cmp}
use Rattle.table_schema.specs.declared.key.Key.{Key}
use Rattle.consumer_table.specs.declared.op.Op.{Op}
use Rattle.consumer_table.specs.Ops.{Ops, first_in, keys_behind}
use Rattle.sync_tables.specs.Tables.{IsBehind, IsNextKey}

less : (r : Ordering) → is_lt r ≡ true → r ≡ Less
less Less h = refl
less Equal h = absurd (false≢true h)
less Greater h = absurd (false≢true h)

-- each key behind the first of rising ones is greater
above_first : (k : Key) (ops : Ops) (p : Key) → AllByRecursion (λ e. key_cmp k e.0 ≡ Less) ops → IsIn p (keys_of ops) → key_cmp k p ≡ Less
above_first k [] p h i = elim i [ ]
above_first k (e ∷ es) p h (inl is) = ap (key_cmp k) is ∙ h.0
above_first k (e ∷ es) p h (inr i) = above_first k es p h.1 i

first_or_later : (e : Key × Op) (es : Ops) (p : Key) → HasRisingKeys key_cmp (e ∷ es) → IsIn p (e.0 ∷ keys_of es) → (p ≡ e.0) ⊎ (key_cmp e.0 p ≡ Less)
first_or_later e es p h (inl is) = inl is
first_or_later e es p h (inr i) = inr (above_first e.0 es p h.0 i)

-- a key that is not behind this one is not one that is
not_this : (k p : Key) (e : Key) → is_lt (key_cmp k e) ≡ false → key_cmp k p ≡ Less → p ≡ e → ⊥
not_this k p e not behind is = false≢true (sym not ∙ ap is_lt (ap (key_cmp k) (sym is) ∙ behind))

next-behind : (k : Key) (ops : Ops) (q : Key) → HasRisingKeys key_cmp ops → first_in (keys_behind (Some k) (keys_of ops)) ≡ Some q → IsNextKey (Some k) (keys_of ops) q
next-behind k [] q h is = absurd (none-some q is)
next-behind k (e ∷ es) q h is =
    let rest = next-behind k es q h.1 in
    let by : (b : Bool) → is_lt (key_cmp k e.0) ≡ b → first_in (cond b (e.0 ∷ keys_behind (Some k) (keys_of es)) (keys_behind (Some k) (keys_of es))) ≡ Some q → IsNextKey (Some k) (e.0 ∷ keys_of es) q =
    λ b. elim b as (λ b. is_lt (key_cmp k e.0) ≡ b → first_in (cond b (e.0 ∷ keys_behind (Some k) (keys_of es)) (keys_behind (Some k) (keys_of es))) ≡ Some q → IsNextKey (Some k) (e.0 ∷ keys_of es) q) [
      | true ↦ λ at is.
          let here : e.0 ≡ q = same_Some e.0 q is in
          record {
            there = inl (sym here);
            behind = ap (key_cmp k) (sym here) ∙ less (key_cmp k e.0) at;
            first = λ p i _. subst (λ x. (p ≡ x) ⊎ (key_cmp x p ≡ Less)) here (first_or_later e es p h i);
          }
      | false ↦ λ at is.
          let next = rest is in
          record {
            there = inr next.there;
            behind = next.behind;
            first = λ p i behind. elim i [ inl this ↦ absurd (not_this k p e.0 at behind this) | inr later ↦ next.first p later behind ];
          }
    ] in
    by (is_lt (key_cmp k e.0)) refl is

-- the first key behind one, or of all
pub next-key : (after : Option Key) (ops : Ops) (q : Key) → HasRisingKeys key_cmp ops → first_in (keys_behind after (keys_of ops)) ≡ Some q → IsNextKey after (keys_of ops) q
next-key (Some k) ops q h is = next-behind k ops q h is
next-key None [] q h is = absurd (none-some q is)
next-key None (e ∷ es) q h is =
    let here : e.0 ≡ q = same_Some e.0 q is in
    record { there = inl (sym here); behind = tt; first = λ p i _. subst (λ x. (p ≡ x) ⊎ (key_cmp x p ≡ Less)) here (first_or_later e es p h i) }

none-behind : (k : Key) (keys : List Key) (p : Key) → first_in (keys_behind (Some k) keys) ≡ None → IsIn p keys → key_cmp k p ≡ Less → ⊥
none-behind k [] p none i behind = elim i [ ]
none-behind k (e ∷ es) p none i behind =
    let rest = none-behind k es p in
    let by : (b : Bool) → is_lt (key_cmp k e) ≡ b → first_in (cond b (e ∷ keys_behind (Some k) es) (keys_behind (Some k) es)) ≡ None → ⊥ =
    λ b. elim b as (λ b. is_lt (key_cmp k e) ≡ b → first_in (cond b (e ∷ keys_behind (Some k) es) (keys_behind (Some k) es)) ≡ None → ⊥) [
      | true ↦ λ at is. none-some e (sym is)
      | false ↦ λ at is. elim i [ inl this ↦ not_this k p e at behind this | inr later ↦ rest is later behind ]
    ] in
    by (is_lt (key_cmp k e)) refl none

-- where none is given back no key is behind
pub no-key : (after : Option Key) (keys : List Key) (p : Key) → first_in (keys_behind after keys) ≡ None → IsIn p keys → IsBehind after p → ⊥
no-key (Some k) keys p none i behind = none-behind k keys p none i behind
no-key None [] p none i behind = elim i [ ]
no-key None (e ∷ es) p none i behind = none-some e (sym none)
