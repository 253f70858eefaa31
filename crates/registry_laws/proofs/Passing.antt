-- users and pins when an operation ends
use Rattle.std.proofs.Common.{◌≡◌, ◌⊎◌, ◌∷◌, ◌∙◌, inl, inr, ℕ, ◌==◌, Bool, true, false, not, cond, List, [], Option, None, Some, option_map, refl, sym, ap, subst}
use Rattle.std.proofs.lemmas.Bool.{eq-eqb, eqb-true, false≢true}
use Rattle.std.specs.BTreeMap.{is_at}
use Rattle.std.specs.BTreeSet.{insert_key}
use Rattle.std.specs.List.{AllByRecursion}
use Rattle.std.specs.List.Sorted.{IsStrictlySortedBy}
use Rattle.std.specs.declared.cmp.Ordering.TheVariants.{Less}
use Rattle.table_schema.specs.Fields.{HasRisingKeys}
use Rattle.table_schema.specs.Key.{key_cmp}
use Rattle.table_schema.specs.declared.key.Key.{Key}
use Rattle.table_schema.proofs.Keys.{key_exact, key_total}
use Rattle.sai_types.specs.Alike.{IsIn}
use Rattle.sai_types.proofs.Rising.{in-back, in-insert, in-kept, rising-insert}
use Rattle.row_layout.specs.Rows as owner
use Rattle.row_layout.specs.Rows.{Owner}
use Rattle.switch_machine.proofs.Running.{row_keys}
use Rattle.switch_machine.proofs.Splits.{IsSplit, key_split}
use Rattle.ref_counts.specs.declared.name.Name.{Name}
use Rattle.ref_counts.specs.declared.name.Name.TheVariants as name
use Rattle.ref_counts.specs.declared.pin.Pin.{Pin}
use Rattle.ref_counts.specs.Registered.{Registered, pins_but, pins_of, with_users, without_user}
use Rattle.ref_counts.specs.Registry.{Names, all_released, changed, registered_name_cmp, registered_at, state_in, users_at}
use Rattle.orch_flight.specs.Needing.{name_for}
use Rattle.registry_laws.specs.Ending.{users_dropped}
use Rattle.registry_laws.specs.Known.{pins_at}
use Rattle.registry_laws.proofs.Finding.{found_at, found_off}
use Rattle.registry_laws.proofs.Users.{but_rising, but_users, users_kept}

-- ---- pins of a worker, and of the others

pub of_pins : (w : ℕ) (p : Pin) (ps : List Pin) → IsIn p (pins_of w ps) → IsIn p ps × (p.worker ≡ w)
of_pins w p [] h = elim h [ ]
of_pins w p (q ∷ qs) h = by (λ g. of_pins w p qs g) (q.worker == w) refl h
  where
    by : (IsIn p (pins_of w qs) → IsIn p qs × (p.worker ≡ w)) → (b : Bool) → (q.worker == w) ≡ b → IsIn p (cond b (q ∷ pins_of w qs) (pins_of w qs)) → IsIn p (q ∷ qs) × (p.worker ≡ w)
    by rest true e (inl is) = (inl is, ap (λ (z : Pin). z.worker) is ∙ eqb-true q.worker w e)
    by rest true e (inr g) = let x = rest g in (inr x.0, x.1)
    by rest false e g = let x = rest g in (inr x.0, x.1)

pub pins_its : (w : ℕ) (p : Pin) (ps : List Pin) → p.worker ≡ w → IsIn p ps → IsIn p (pins_of w ps)
pins_its w p [] same h = elim h [ ]
pins_its w p (q ∷ qs) same h = by (λ g. pins_its w p qs same g) (q.worker == w) refl h
  where
    by : (IsIn p qs → IsIn p (pins_of w qs)) → (b : Bool) → (q.worker == w) ≡ b → IsIn p (q ∷ qs) → IsIn p (cond b (q ∷ pins_of w qs) (pins_of w qs))
    by rest true e (inl is) = inl is
    by rest true e (inr g) = inr (rest g)
    by rest false e (inl is) = absurd (false≢true (sym e ∙ eq-eqb q.worker w (ap (λ (z : Pin). z.worker) (sym is) ∙ same)))
    by rest false e (inr g) = rest g

pub no_pin_left : (w : ℕ) (p : Pin) (ps : List Pin) → IsIn p (pins_but w ps) → p.worker ≡ w → ⊥
no_pin_left w p [] h same = h
no_pin_left w p (q ∷ qs) h same = by (λ g. no_pin_left w p qs g same) (q.worker == w) refl h
  where
    by : (IsIn p (pins_but w qs) → ⊥) → (b : Bool) → (q.worker == w) ≡ b → IsIn p (cond (not b) (q ∷ pins_but w qs) (pins_but w qs)) → ⊥
    by rest true e g = rest g
    by rest false e (inl is) = false≢true (sym e ∙ eq-eqb q.worker w (ap (λ (z : Pin). z.worker) (sym is) ∙ same))
    by rest false e (inr g) = rest g

-- ---- pins that come to be users

pub with_in : (q : Key) (ps : List Pin) (us : List Key) → IsIn q (with_users ps us) → IsIn q us ⊎ ((p : Pin) × IsIn p ps × (q ≡ p.user))
with_in q [] us h = inl h
with_in q (p ∷ ps) us h = by (with_in q ps (insert_key key_cmp us p.user) h)
  where
    first : (q ≡ p.user) ⊎ IsIn q us → IsIn q us ⊎ ((x : Pin) × IsIn x (p ∷ ps) × (q ≡ x.user))
    first (inl e) = inr (p, inl refl, e)
    first (inr h) = inl h

    by : IsIn q (insert_key key_cmp us p.user) ⊎ ((x : Pin) × IsIn x ps × (q ≡ x.user)) → IsIn q us ⊎ ((x : Pin) × IsIn x (p ∷ ps) × (q ≡ x.user))
    by (inl h) = first (in-back key_cmp key_total key_exact us p.user q h)
    by (inr (x, i, e)) = inr (x, inr i, e)

pub with_kept : (q : Key) (ps : List Pin) (us : List Key) → IsIn q us → IsIn q (with_users ps us)
with_kept q [] us h = h
with_kept q (p ∷ ps) us h = with_kept q ps (insert_key key_cmp us p.user) (in-kept key_cmp key_total key_exact us p.user q h)

pub with_new : (p : Pin) (ps : List Pin) (us : List Key) → IsIn p ps → IsIn p.user (with_users ps us)
with_new p [] us h = elim h [ ]
with_new p (x ∷ ps) us (inl e) = subst (λ (z : Pin). IsIn z.user (with_users ps (insert_key key_cmp us x.user))) (sym e) (with_kept x.user ps (insert_key key_cmp us x.user) (in-insert key_cmp key_total key_exact us x.user))
with_new p (x ∷ ps) us (inr h) = with_new p ps (insert_key key_cmp us x.user) h

pub with_rising : (ps : List Pin) (us : List Key) → IsStrictlySortedBy key_cmp us → IsStrictlySortedBy key_cmp (with_users ps us)
with_rising [] us h = h
with_rising (p ∷ ps) us h = with_rising ps (insert_key key_cmp us p.user) (rising-insert key_cmp key_total key_exact us p.user h)

-- ---- users that are dropped

-- what is known of a name, without a key as its user where so be
pub record IsDropped (k : Key) (Less : Type 0) (old new : Option Registered) : Type 0 where
  pub state : state_in new ≡ state_in old
  pub pins : pins_at new ≡ pins_at old
  pub into : (q : Key) → IsIn q (users_at new) → IsIn q (users_at old) × (k ≡ q → Less → ⊥)
  pub kept : (q : Key) → (k ≡ q → Less → ⊥) → IsIn q (users_at old) → IsIn q (users_at new)
  pub rising : IsStrictlySortedBy key_cmp (users_at old) → IsStrictlySortedBy key_cmp (users_at new)

not_dropped : (k : Key) (L : Type 0) (o : Option Registered) → (L → ⊥) → IsDropped k L o o
not_dropped k L o none = record { state = refl; pins = refl; into = λ q h. (h, λ _ l. none l); kept = λ q _ h. h; rising = λ h. h }

dropped_one : (k : Key) (L : Type 0) (o : Option Registered) → L → IsDropped k L o (option_map (without_user k) o)
dropped_one k L None l = record { state = refl; pins = refl; into = λ q h. elim h [ ]; kept = λ q _ h. h; rising = λ h. h }
dropped_one k L (Some r) l = record {
  state = refl;
  pins = refl;
  into = λ q h. let x = but_users k q r.users h in (x.0, λ e _. x.1 e);
  kept = λ q other h. users_kept k q r.users (λ e. other e l) h;
  rising = λ h. but_rising k r.users h;
}

dropped_then : (k : Key) (A B : Type 0) (a b c : Option Registered) → IsDropped k A a b → IsDropped k B b c → IsDropped k (A ⊎ B) a c
dropped_then k A B a b c x y = record {
  state = y.state ∙ x.state;
  pins = y.pins ∙ x.pins;
  into = λ q h. let z = y.into q h in let v = x.into q z.0 in (v.0, λ e l. neither (v.1 e) (z.1 e) l);
  kept = λ q other h. y.kept q (λ e l. other e (inr l)) (x.kept q (λ e l. other e (inl l)) h);
  rising = λ h. y.rising (x.rising h);
}
  where
    neither : (A → ⊥) → (B → ⊥) → A ⊎ B → ⊥
    neither f g (inl a) = f a
    neither f g (inr b) = g b

module _ (k : Key) where
  first_drop : (names : Names) (q p : Key) → IsSplit q p → IsDropped k (p ≡ q) (registered_at names (name.Row p)) (registered_at (changed names (name.Row q) (without_user k)) (name.Row p))
  first_drop names q p (inl same) =
      let at = found_at names (owner.OfRow q) (without_user k) in
      let moved : registered_at (changed names (name.Row q) (without_user k)) (name.Row p) ≡ option_map (without_user k) (registered_at names (name.Row p)) = subst (λ z. registered_at (changed names (name.Row q) (without_user k)) (name.Row z) ≡ option_map (without_user k) (registered_at names (name.Row z))) same at in
      subst (IsDropped k (p ≡ q) (registered_at names (name.Row p))) (sym moved) (dropped_one k (p ≡ q) (registered_at names (name.Row p)) (sym same))
  first_drop names q p (inr apart) =
      subst (IsDropped k (p ≡ q) (registered_at names (name.Row p))) (sym (found_off names (owner.OfRow q) (owner.OfRow p) (without_user k) (λ e. apart (row_keys q p e)))) (not_dropped k (p ≡ q) (registered_at names (name.Row p)) (λ e. apart (sym e)))

  pub dropped_row : (names : Names) (ks : List Key) (p : Key) → IsDropped k (IsIn p ks) (registered_at names (name.Row p)) (registered_at (users_dropped names k ks) (name.Row p))
  dropped_row names [] p = not_dropped k ⊥ (registered_at names (name.Row p)) (λ h. h)
  dropped_row names (q ∷ ks) p =
      dropped_then k (p ≡ q) (IsIn p ks) (registered_at names (name.Row p)) (registered_at (changed names (name.Row q) (without_user k)) (name.Row p)) (registered_at (users_dropped (changed names (name.Row q) (without_user k)) k ks) (name.Row p)) (first_drop names q p (key_split q p)) (dropped_row (changed names (name.Row q) (without_user k)) ks p)

  pub dropped_off : (names : Names) (ks : List Key) (o : Owner) → ((q : Key) → owner.OfRow q ≡ o → ⊥) → registered_at (users_dropped names k ks) (name_for o) ≡ registered_at names (name_for o)
  dropped_off names [] o apart = refl
  dropped_off names (q ∷ ks) o apart = dropped_off (changed names (name.Row q) (without_user k)) ks o apart ∙ found_off names (owner.OfRow q) o (without_user k) (apart q)

  -- ---- names stay in order

  pub changed_rising : (names : Names) (n : Name) (f : Registered → Registered) → HasRisingKeys registered_name_cmp names → HasRisingKeys registered_name_cmp (changed names n f)
  changed_rising [] n f h = tt
  changed_rising (e ∷ es) n f h = (first (is_at (registered_name_cmp n) e.0), changed_rising es n f h.1)
    where
      above : (x : Name) (ys : Names) → AllByRecursion (λ y. registered_name_cmp x y.0 ≡ Less) ys → AllByRecursion (λ y. registered_name_cmp x y.0 ≡ Less) (changed ys n f)
      above x [] a = tt
      above x (y ∷ ys) a = (elim (is_at (registered_name_cmp n) y.0) as (λ b. registered_name_cmp x (cond b (y.0, f y.1) y).0 ≡ Less) [ true ↦ a.0 | false ↦ a.0 ], above x ys a.1)

      first : (b : Bool) → AllByRecursion (λ y. registered_name_cmp (cond b (e.0, f e.1) e).0 y.0 ≡ Less) (changed es n f)
      first true = above e.0 es h.0
      first false = above e.0 es h.0

  pub dropped_rising : (names : Names) (ks : List Key) → HasRisingKeys registered_name_cmp names → HasRisingKeys registered_name_cmp (users_dropped names k ks)
  dropped_rising names [] h = h
  dropped_rising names (q ∷ ks) h = dropped_rising (changed names (name.Row q) (without_user k)) ks (changed_rising names (name.Row q) (without_user k) h)

released_above : (w : ℕ) (x : Name) (ys : Names) → AllByRecursion (λ y. registered_name_cmp x y.0 ≡ Less) ys → AllByRecursion (λ y. registered_name_cmp x y.0 ≡ Less) (all_released w true ys)
released_above w x [] a = tt
released_above w x (y ∷ ys) a = (a.0, released_above w x ys a.1)

pub released_rising : (w : ℕ) (names : Names) → HasRisingKeys registered_name_cmp names → HasRisingKeys registered_name_cmp (all_released w true names)
released_rising w [] h = tt
released_rising w (e ∷ es) h = (released_above w e.0 es h.0, released_rising w es h.1)
