-- what is known of an owner's name after a change of names
use Rattle.std.proofs.Common.{◌≡◌, ◌⊎◌, ◌∷◌, ◌∙◌, inl, inr, ℕ, Bool, true, false, cond, List, [], Option, None, Some, option_map, refl, sym, ap, ap₂, subst, if◌then◌else◌}
use Rattle.std.specs.BTreeMap.{insert_entry, is_at}
use Rattle.std.specs.Ordering.{is_eq}
use Rattle.std.specs.declared.cmp.Ordering.{Ordering}
use Rattle.std.specs.declared.cmp.Ordering.TheVariants.{Less, Equal, Greater}
use Rattle.std.proofs.lemmas.Cmp.{tied_itself}
use Rattle.std.proofs.lemmas.Map.Lookups.{exact_unsigned}
use Rattle.std.proofs.lemmas.Option.{same_Some}
use Rattle.table_schema.specs.declared.key.Key.{Key}
use Rattle.table_schema.proofs.Keys.{key_exact}
use Rattle.table_schema.proofs.Places.{out_step, put_step}
use Rattle.sai_types.specs.Alike.{IsIn}
use Rattle.sai_types.proofs.Rising.{hops_exact}
use Rattle.sai_types.proofs.Membership.{in-either as in_both, in-left as in_left, in-right as in_right}
use Rattle.switch_model.specs.Placed.{Placed as Row}
use Rattle.row_layout.specs.Rows as owner
use Rattle.row_layout.specs.Rows.{Owner}
use Rattle.switch_machine.proofs.Running.{row_keys}
use Rattle.switch_machine.proofs.Splits.{IsSplit, key_split}
use Rattle.ref_counts.specs.declared.name.Name.{Name}
use Rattle.ref_counts.specs.declared.name.Name.TheVariants as name
use Rattle.ref_counts.specs.declared.pin.Pin.{Pin}
use Rattle.ref_counts.specs.Registered.{Registered, begun, begun_to_go, with_pin, with_user}
use Rattle.ref_counts.specs.Registry.{Names, changed, gone_from, is_retiring, registered_name_cmp, pinned, registered_at, state_in, state_of, users_at}
use Rattle.ref_counts.specs.declared.name.NameState.TheVariants as state
use Rattle.std.specs.List.{AllByRecursion}
use Rattle.std.specs.Map.{remove_entry}
use Rattle.swss_types.proofs.Tied.{then_first, then_last, tied}
use Rattle.table_schema.specs.Fields.{HasRisingKeys}
use Rattle.ref_counts.proofs.Changing.{name_total}
use Rattle.ref_counts.proofs.Found.{apart_from, found-changed, found-other, found-put}
use Rattle.orch_flight.specs.Needing.{name_for, row_names}
use Rattle.orch_flight.specs.Starting.{ids_for, ids_for_row, used_by, with_building, with_own, with_pins}
use Rattle.swss_types.proofs.AddressOrders.{ip_exact}
use Rattle.swss_types.proofs.Routers.{vrf_exact}
use Rattle.switch_machine.specs.Flights.{goes_over}
use Rattle.registry_laws.specs.Known.{pins_at}
use Rattle.registry_laws.proofs.Listing.{never_none, not_some}

-- ---- owners have names of their own

names_exact : (o p : Owner) → registered_name_cmp (name_for o) (name_for p) ≡ Equal → o ≡ p
names_exact (owner.OfRow k) (owner.OfRow q) h = ap owner.OfRow (key_exact k q h)
names_exact (owner.Bridge a) (owner.Bridge b) h = ap owner.Bridge (exact_unsigned a b h)
names_exact (owner.Own v a) (owner.Own w b) h = ap₂ owner.Own (vrf_exact v w (then_first _ _ h)) (ip_exact a b (then_last _ _ h))
names_exact (owner.Group a) (owner.Group b) h = ap owner.Group (hops_exact a b h)
names_exact _ _ h = cc

pub other_name : (o p : Owner) → (o ≡ p → ⊥) → is_at (registered_name_cmp (name_for o)) (name_for p) ≡ false
other_name o p apart = by (is_at (registered_name_cmp (name_for o)) (name_for p)) refl
  where
    by : (b : Bool) → is_at (registered_name_cmp (name_for o)) (name_for p) ≡ b → b ≡ false
    by true e = absurd (apart (names_exact o p (tied (registered_name_cmp (name_for o) (name_for p)) e)))
    by false e = refl

-- ---- a change, and a name that is put

pub found_off : (names : Names) (o p : Owner) (f : Registered → Registered) → (o ≡ p → ⊥) → registered_at (changed names (name_for o) f) (name_for p) ≡ registered_at names (name_for p)
found_off names o p f apart = found-other names (name_for o) (name_for p) f (λ k is. apart_from (name_for o) (name_for p) k (other_name o p apart) is)

pub found_at : (names : Names) (o : Owner) (f : Registered → Registered) → registered_at (changed names (name_for o) f) (name_for o) ≡ option_map f (registered_at names (name_for o))
found_at names o f = found-changed names (name_for o) f

pub put_at_name : (names : Names) (o : Owner) (r : Registered) → registered_at (insert_entry registered_name_cmp names (name_for o) r) (name_for o) ≡ Some r
put_at_name names o r = found-put names (name_for o) r

put_other : (names : Names) (n m : Name) (r : Registered) → is_at (registered_name_cmp n) m ≡ false → registered_at (insert_entry registered_name_cmp names n r) m ≡ registered_at names m
put_other [] n m r other = ap (λ b. cond b (Some r) None) (apart_from n m n other (ap is_eq (tied_itself name_total n)))
put_other (e ∷ es) n m r other = by (put_other es n m r other) (registered_name_cmp n e.0) refl
  where
    by : registered_at (insert_entry registered_name_cmp es n r) m ≡ registered_at es m → (o : Ordering) → registered_name_cmp n e.0 ≡ o → registered_at (insert_entry registered_name_cmp (e ∷ es) n r) m ≡ registered_at (e ∷ es) m
    by rest Less is = ap (λ l. registered_at l m) (put_step registered_name_cmp e es n r Less is) ∙ ap (λ b. cond b (Some r) (registered_at (e ∷ es) m)) (apart_from n m n other (ap is_eq (tied_itself name_total n)))
    by rest Equal is =
        let off = apart_from n m e.0 other (ap is_eq is) in
        ap (λ l. registered_at l m) (put_step registered_name_cmp e es n r Equal is) ∙ ap (λ b. cond b (Some r) (registered_at es m)) off ∙ sym (ap (λ b. cond b (Some e.1) (registered_at es m)) off)
    by rest Greater is = ap (λ l. registered_at l m) (put_step registered_name_cmp e es n r Greater is) ∙ ap (λ z. cond (is_at (registered_name_cmp m) e.0) (Some e.1) z) rest

pub put_off_name : (names : Names) (o p : Owner) (r : Registered) → (o ≡ p → ⊥) → registered_at (insert_entry registered_name_cmp names (name_for o) r) (name_for p) ≡ registered_at names (name_for p)
put_off_name names o p r apart = put_other names (name_for o) (name_for p) r (other_name o p apart)

-- ---- pins

-- what is known of a name, with pins of a key of a worker where so be
pub record IsPinned (w : ℕ) (k : Key) (More : Type 0) (old new : Option Registered) : Type 0 where
  pub state : state_in new ≡ state_in old
  pub users : users_at new ≡ users_at old
  pub into : (p : Pin) → IsIn p (pins_at new) → IsIn p (pins_at old) ⊎ ((p ≡ record { worker = w; user = k }) × More)
  pub kept : (p : Pin) → IsIn p (pins_at old) → IsIn p (pins_at new)
  pub more : More → (old ≡ None → ⊥) → IsIn (record { worker = w; user = k }) (pins_at new)

not_pinned : (w : ℕ) (k : Key) (More : Type 0) (o : Option Registered) → (More → ⊥) → IsPinned w k More o o
not_pinned w k More o none = record { state = refl; users = refl; into = λ p h. inl h; kept = λ p h. h; more = λ x h. absurd (none x) }

pinned_one : (w : ℕ) (k : Key) (More : Type 0) (o : Option Registered) → More → IsPinned w k More o (option_map (with_pin w k) o)
pinned_one w k More None x = record { state = refl; users = refl; into = λ p h. inl h; kept = λ p h. h; more = λ y h. absurd (h refl) }
pinned_one w k More (Some r) x = record {
  state = refl;
  users = refl;
  into = λ p h. by p (in_both p r.pins (record { worker = w; user = k } ∷ []) h);
  kept = λ p h. in_left p r.pins (record { worker = w; user = k } ∷ []) h;
  more = λ y h. in_right (record { worker = w; user = k }) r.pins (record { worker = w; user = k } ∷ []) (inl refl);
}
  where
    by : (p : Pin) → IsIn p r.pins ⊎ IsIn p (record { worker = w; user = k } ∷ []) → IsIn p r.pins ⊎ ((p ≡ record { worker = w; user = k }) × More)
    by p (inl h) = inl h
    by p (inr (inl e)) = inr (e, x)
    by p (inr (inr h)) = elim h [ ]

module _ (w : ℕ) (k : Key) where
  -- first these pins, and then those
  pinned_then : (A B : Type 0) (a b c : Option Registered) → IsPinned w k A a b → IsPinned w k B b c → ((a ≡ None → ⊥) → b ≡ None → ⊥) → IsPinned w k (A ⊎ B) a c
  pinned_then A B a b c x y there = record {
    state = y.state ∙ x.state;
    users = y.users ∙ x.users;
    into = λ p h. by p (y.into p h);
    kept = λ p h. y.kept p (x.kept p h);
    more = λ z h. of h z;
  }
    where
      first : (p : Pin) → IsIn p (pins_at a) ⊎ ((p ≡ record { worker = w; user = k }) × A) → IsIn p (pins_at a) ⊎ ((p ≡ record { worker = w; user = k }) × (A ⊎ B))
      first p (inl h) = inl h
      first p (inr (e, z)) = inr (e, inl z)

      by : (p : Pin) → IsIn p (pins_at b) ⊎ ((p ≡ record { worker = w; user = k }) × B) → IsIn p (pins_at a) ⊎ ((p ≡ record { worker = w; user = k }) × (A ⊎ B))
      by p (inl h) = first p (x.into p h)
      by p (inr (e, z)) = inr (e, inr z)

      of : (a ≡ None → ⊥) → A ⊎ B → IsIn (record { worker = w; user = k }) (pins_at c)
      of h (inl z) = y.kept (record { worker = w; user = k }) (x.more z h)
      of h (inr z) = y.more z (there h)

  first_pin : (names : Names) (q p : Key) → IsSplit q p → IsPinned w k (p ≡ q) (registered_at names (name.Row p)) (registered_at (changed names (name.Row q) (with_pin w k)) (name.Row p)) × ((registered_at names (name.Row p) ≡ None → ⊥) → registered_at (changed names (name.Row q) (with_pin w k)) (name.Row p) ≡ None → ⊥)
  first_pin names q p (inl same) =
      let at = found_at names (owner.OfRow q) (with_pin w k) in
      let moved : registered_at (changed names (name.Row q) (with_pin w k)) (name.Row p) ≡ option_map (with_pin w k) (registered_at names (name.Row p)) = subst (λ z. registered_at (changed names (name.Row q) (with_pin w k)) (name.Row z) ≡ option_map (with_pin w k) (registered_at names (name.Row z))) same at in
      (subst (IsPinned w k (p ≡ q) (registered_at names (name.Row p))) (sym moved) (pinned_one w k (p ≡ q) (registered_at names (name.Row p)) (sym same)), λ some none. some (back (registered_at names (name.Row p)) (sym moved ∙ none)))
    where
      back : (o : Option Registered) → option_map (with_pin w k) o ≡ None → o ≡ None
      back None h = refl
      back (Some r) h = never_none (with_pin w k r) h
  first_pin names q p (inr apart) =
      let off = found_off names (owner.OfRow q) (owner.OfRow p) (with_pin w k) (λ e. apart (row_keys q p e)) in
      (subst (IsPinned w k (p ≡ q) (registered_at names (name.Row p))) (sym off) (not_pinned w k (p ≡ q) (registered_at names (name.Row p)) (λ e. apart (sym e))), λ some none. some (sym off ∙ none))

  pub pinned_row : (names : Names) (ks : List Key) (p : Key) → IsPinned w k (IsIn p ks) (registered_at names (name.Row p)) (registered_at (pinned names w k ks) (name.Row p))
  pinned_row names [] p = not_pinned w k ⊥ (registered_at names (name.Row p)) (λ h. h)
  pinned_row names (q ∷ ks) p =
      let first = first_pin names q p (key_split q p) in
      pinned_then (p ≡ q) (IsIn p ks) (registered_at names (name.Row p)) (registered_at (changed names (name.Row q) (with_pin w k)) (name.Row p)) (registered_at (pinned (changed names (name.Row q) (with_pin w k)) w k ks) (name.Row p)) first.0 (pinned_row (changed names (name.Row q) (with_pin w k)) ks p) first.1

  pub pinned_off : (names : Names) (ks : List Key) (o : Owner) → ((q : Key) → IsIn q ks → owner.OfRow q ≡ o → ⊥) → registered_at (pinned names w k ks) (name_for o) ≡ registered_at names (name_for o)
  pinned_off names [] o apart = refl
  pinned_off names (q ∷ ks) o apart = pinned_off (changed names (name.Row q) (with_pin w k)) ks o (λ p h. apart p (inr h)) ∙ found_off names (owner.OfRow q) o (with_pin w k) (apart q (inl refl))

-- what is pinned for one reason is pinned for the same in other words
pub pinned-as : (w : ℕ) (k : Key) (A B : Type 0) (a b : Option Registered) → (A → B) → (B → A) → IsPinned w k A a b → IsPinned w k B a b
pinned-as w k A B a b into back x = record {
  state = x.state;
  users = x.users;
  into = λ p h. by p (x.into p h);
  kept = x.kept;
  more = λ z h. x.more (back z) h;
}
  where
    by : (p : Pin) → IsIn p (pins_at a) ⊎ ((p ≡ record { worker = w; user = k }) × A) → IsIn p (pins_at a) ⊎ ((p ≡ record { worker = w; user = k }) × B)
    by p (inl h) = inl h
    by p (inr (e, z)) = inr (e, into z)

-- ---- the names of an operation that starts

module _ (w : ℕ) (k : Key) where
  pub used_off : (names : Names) (os : List Owner) (o : Owner) → (IsIn o os → ⊥) → registered_at (used_by names k os) (name_for o) ≡ registered_at names (name_for o)
  used_off names [] o none = refl
  used_off names (p ∷ os) o none = used_off (changed names (name_for p) (with_user k)) os o (λ h. none (inr h)) ∙ found_off names p o (with_user k) (λ e. none (inl (sym e)))

  pub used_one : (names : Names) (os : List Owner) (o : Owner) → os ≡ o ∷ [] → registered_at (used_by names k os) (name_for o) ≡ option_map (with_user k) (registered_at names (name_for o))
  used_one names os o e = ap (λ z. registered_at (used_by names k z) (name_for o)) e ∙ found_at names o (with_user k)

  pub building_off : (names : Names) (x : Option Owner) (o : Owner) → (x ≡ Some o → ⊥) → registered_at (with_building names w x) (name_for o) ≡ registered_at names (name_for o)
  building_off names None o none = refl
  building_off names (Some p) o none = put_off_name names p o (begun w (ids_for p)) (λ e. none (ap Some e))

  pub building_at : (names : Names) (x : Option Owner) (o : Owner) → x ≡ Some o → registered_at (with_building names w x) (name_for o) ≡ Some (begun w (ids_for o))
  building_at names x o e = ap (λ z. registered_at (with_building names w z) (name_for o)) e ∙ put_at_name names o (begun w (ids_for o))

  pub own_off : (names : Names) (x y : Option Row) (o : Owner) → (owner.OfRow k ≡ o → ⊥) → registered_at (with_own names w k x y) (name_for o) ≡ registered_at names (name_for o)
  own_off names None y o apart = put_off_name names (owner.OfRow k) o (begun w (ids_for_row k)) apart
  own_off names (Some a) y o apart = by (goes_over k (Some a) y)
    where
      by : (b : Bool) → registered_at (if b then changed names (name.Row k) (begun_to_go w) else names) (name_for o) ≡ registered_at names (name_for o)
      by true = found_off names (owner.OfRow k) o (begun_to_go w) apart
      by false = refl

  pub pins_off : (names : Names) (x : Option Row) (o : Owner) → ((r : Row) (q : Key) → x ≡ Some r → IsIn q (row_names k r) → owner.OfRow q ≡ o → ⊥) → registered_at (with_pins names w k x) (name_for o) ≡ registered_at names (name_for o)
  pins_off names None o apart = refl
  pins_off names (Some r) o apart = pinned_off w k names (row_names k r) o (λ q h. apart r q refl h)

  -- the new row names a key
  abbrev pub NamesNew : Option Row → Key → Type 0
  NamesNew x p = (r : Row) × (x ≡ Some r) × IsIn p (row_names k r)

  pub pins_row : (names : Names) (x : Option Row) (p : Key) → IsPinned w k (NamesNew x p) (registered_at names (name.Row p)) (registered_at (with_pins names w k x) (name.Row p))
  pins_row names None p = not_pinned w k (NamesNew None p) (registered_at names (name.Row p)) (λ h. not_some h.0 h.1)
  pins_row names (Some r) p = pinned-as w k (IsIn p (row_names k r)) (NamesNew (Some r) p) (registered_at names (name.Row p)) (registered_at (pinned names w k (row_names k r)) (name.Row p)) (λ h. (r, refl, h)) (λ h. subst (λ z. IsIn p (row_names k z)) (sym (same_Some r h.0 h.1)) h.2) (pinned_row w k names (row_names k r) p)

-- ---- a name that is gone

out_other : (names : Names) (n m : Name) → is_at (registered_name_cmp n) m ≡ false → registered_at (remove_entry (is_at (registered_name_cmp n)) names) m ≡ registered_at names m
out_other [] n m other = refl
out_other (e ∷ es) n m other = by (out_other es n m other) (registered_name_cmp n e.0) refl
  where
    by : registered_at (remove_entry (is_at (registered_name_cmp n)) es) m ≡ registered_at es m → (o : Ordering) → registered_name_cmp n e.0 ≡ o → registered_at (remove_entry (is_at (registered_name_cmp n)) (e ∷ es)) m ≡ registered_at (e ∷ es) m
    by rest Less is = ap (λ l. registered_at l m) (out_step registered_name_cmp e es n Less is) ∙ ap (λ z. cond (is_at (registered_name_cmp m) e.0) (Some e.1) z) rest
    by rest Equal is = ap (λ l. registered_at l m) (out_step registered_name_cmp e es n Equal is) ∙ sym (ap (λ b. cond b (Some e.1) (registered_at es m)) (apart_from n m e.0 other (ap is_eq is)))
    by rest Greater is = ap (λ l. registered_at l m) (out_step registered_name_cmp e es n Greater is) ∙ ap (λ z. cond (is_at (registered_name_cmp m) e.0) (Some e.1) z) rest

-- a name below all others is not among them
pub none_below : (n : Name) (x : Name) (es : Names) → registered_name_cmp n x ≡ Equal → AllByRecursion (λ e. registered_name_cmp x e.0 ≡ Less) es → registered_at es n ≡ None
none_below n x [] is h = refl
none_below n x (e ∷ es) is h = ap (λ o. cond (is_eq o) (Some e.1) (registered_at es n)) (name_total.congr n x e.0 is ∙ h.0) ∙ none_below n x es is h.1

pub out_at : (names : Names) (n : Name) → HasRisingKeys registered_name_cmp names → registered_at (remove_entry (is_at (registered_name_cmp n)) names) n ≡ None
out_at [] n rising = refl
out_at (e ∷ es) n rising = by (out_at es n rising.1) (registered_name_cmp n e.0) refl
  where
    by : registered_at (remove_entry (is_at (registered_name_cmp n)) es) n ≡ None → (o : Ordering) → registered_name_cmp n e.0 ≡ o → registered_at (remove_entry (is_at (registered_name_cmp n)) (e ∷ es)) n ≡ None
    by rest Less is = ap (λ l. registered_at l n) (out_step registered_name_cmp e es n Less is) ∙ ap (λ o. cond (is_eq o) (Some e.1) (registered_at (remove_entry (is_at (registered_name_cmp n)) es) n)) is ∙ rest
    by rest Equal is = ap (λ l. registered_at l n) (out_step registered_name_cmp e es n Equal is) ∙ none_below n e.0 es is rising.0
    by rest Greater is = ap (λ l. registered_at l n) (out_step registered_name_cmp e es n Greater is) ∙ ap (λ o. cond (is_eq o) (Some e.1) (registered_at (remove_entry (is_at (registered_name_cmp n)) es) n)) is ∙ rest

pub gone_off : (names : Names) (o p : Owner) → (o ≡ p → ⊥) → registered_at (gone_from names (name_for o)) (name_for p) ≡ registered_at names (name_for p)
gone_off names o p apart = by (is_retiring (state_of names (name_for o)))
  where
    by : (b : Bool) → registered_at (cond b (remove_entry (is_at (registered_name_cmp (name_for o))) names) names) (name_for p) ≡ registered_at names (name_for p)
    by true = out_other names (name_for o) (name_for p) (other_name o p apart)
    by false = refl

pub gone_at : (names : Names) (o : Owner) (w : ℕ) → HasRisingKeys registered_name_cmp names → state_of names (name_for o) ≡ state.Retiring w → registered_at (gone_from names (name_for o)) (name_for o) ≡ None
gone_at names o w rising e = ap (λ st. registered_at (cond (is_retiring st) (remove_entry (is_at (registered_name_cmp (name_for o))) names) names) (name_for o)) e ∙ out_at names (name_for o) rising
