-- keys that are popped, one after the other
use Rattle.std.proofs.Common.{◌≡◌, ◌⊎◌, inl, inr, Bool, true, false, cond, List, [], ◌∷◌, Option, Some, None, is_some, unwrap_or, refl, sym, ap, subst, subst₂, ◌∙◌}
use Rattle.std.specs.BTreeMap.{is_at}
use Rattle.std.specs.Map.{keys_of, lookup}
use Rattle.std.proofs.lemmas.Bool.{false≢true}
use Rattle.std.proofs.lemmas.Option.{none-some, same_Some}
use Rattle.sai_types.specs.Alike.{IsIn}
use Rattle.table_schema.specs.Fields.{Pairs, HasRisingKeys, merged}
use Rattle.table_schema.specs.Key.{key_cmp}
use Rattle.table_schema.specs.Rows.{fields_at}
use Rattle.table_schema.specs.declared.key.Key.{Key}
use Rattle.table_schema.specs.declared.write.Write.{Write}
use Rattle.table_schema.proofs.Keys.{at_itself, key_total, tied_keys_same}
use Rattle.producer_table.specs.Pending.{PendingKeys, ArePendingInOrder, nothing_pending, pending_at, row_with_fields, row_with_pending}
use Rattle.producer_table.specs.declared.waiting.Pending.{Pending}
use Rattle.producer_table.proofs.Found.{lookup-above}
use Rattle.switch_machine.specs.Events.{IsPop, PopsKey, SwitchState, Popped as KeyPopped, Stays as KeyStays}
use Rattle.switch_machine.specs.Written.{HasNoWrite, IsAsBefore, IsPoppedKey, Written}
use Rattle.sync_tables.proofs.Membership.{added, added-kept}
use Rattle.sync_tables.proofs.Waits.{first-matters}
use Rattle.sync_tables.specs.Tables.{AllMatter, IsAdded, IsPoppedIn, IsToSync, Matters, Popped, PopsFirst, PopsKeys, PopsNone, PopsSome, Stays, TablesState, written_in}

-- what waits of a key changes some row
by_fields : (d : Bool) (o : Option Pairs) → (d ≡ true) ⊎ (is_some o ≡ true) → ((row : Option Pairs) → row_with_fields (cond d None row) o ≡ row) → ⊥
by_fields d (Some fields) h none = none-some (merged (unwrap_or (cond d None None) []) fields) (sym (none None))
by_fields true None h none = none-some [] (none (Some []))
by_fields false None (inl h) none = false≢true h
by_fields false None (inr h) none = false≢true h

matters : (p : Pending) → Matters p → ((row : Option Pairs) → row_with_pending row p ≡ row) → ⊥
matters p h = by_fields p.dropped p.fields h

-- the first key, what waits of it, and those behind it
module _ (first : Key × Pending) (rest : PendingKeys) (k : Key) where
  at-first : is_at (key_cmp k) first.0 ≡ true → pending_at (first ∷ rest) k ≡ first.1
  at-first here = ap (λ b. unwrap_or (cond b (Some first.1) (lookup (is_at (key_cmp k)) rest)) nothing_pending) here

  past-first : is_at (key_cmp k) first.0 ≡ false → pending_at (first ∷ rest) k ≡ pending_at rest k
  past-first apart = ap (λ b. unwrap_or (cond b (Some first.1) (lookup (is_at (key_cmp k)) rest)) nothing_pending) apart

module _ (old new : TablesState) (h : PopsFirst old new) (order : ArePendingInOrder old.waiting) (all : AllMatter old.waiting) where
  waits : (k : Key) → is_at (key_cmp k) h.first.0 ≡ true → pending_at old.waiting k ≡ h.first.1
  waits k here = ap (λ w. pending_at w k) h.waiting ∙ at-first h.first new.waiting k here

  waited : (k : Key) (taken : List Write) → is_at (key_cmp k) h.first.0 ≡ true → HasNoWrite (written_in taken old) k → ⊥
  waited k taken here none =
      let is = subst AllMatter h.waiting all in
      matters h.first.1 is.0 (λ o. ap (row_with_pending o) (sym (waits k here)) ∙ none o)

  emptied : (k : Key) (taken : List Write) → is_at (key_cmp k) h.first.0 ≡ true → IsPoppedKey (written_in taken old) (written_in taken new) k
  emptied k taken here =
      let row = fields_at old.rows k in
      let rising : HasRisingKeys key_cmp (h.first ∷ new.waiting) = subst (λ w. HasRisingKeys key_cmp w) h.waiting order.keys in
      let gone : pending_at new.waiting k ≡ nothing_pending = ap (λ o. unwrap_or o nothing_pending) (lookup-above key_cmp key_total h.first.0 k new.waiting here rising.0) in
      record {
        row = h.rows k ∙ ap (λ b. cond b (row_with_pending row h.first.1) row) here ∙ ap (row_with_pending row) (sym (waits k here));
        none = λ o. ap (row_with_pending o) gone;
      }

  is_added : IsAdded old.ops (Some h.first.0) new.ops
  is_added =
      let is = subst AllMatter h.waiting all in
      subst (λ n. IsAdded old.ops (Some h.first.0) n) (sym h.ops) (added old.ops h.first.0 h.first.1 is.0)

  others_stay : (k : Key) → is_at (key_cmp k) h.first.0 ≡ false → IsPoppedIn old new k
  others_stay k apart =
      let same : pending_at old.waiting k ≡ pending_at new.waiting k = ap (λ w. pending_at w k) h.waiting ∙ past-first h.first new.waiting k apart in
      let row : fields_at new.rows k ≡ fields_at old.rows k = h.rows k ∙ ap (λ b. cond b (row_with_pending (fields_at old.rows k) h.first.1) (fields_at old.rows k)) apart in
      Stays
      (λ taken. record { row = row; waiting = λ o. ap (row_with_pending o) (sym same) })
      (λ i. elim ((is_added k).0 i) [ inl before ↦ before | inr is ↦ absurd (false≢true (sym apart ∙ at_itself k h.first.0 (same_Some k h.first.0 is))) ])

  -- the first key is popped: keys are popped
  pub PopsKeys-first : PopsKeys old new
  PopsKeys-first = record {
    keys = λ k.
        let popped : is_at (key_cmp k) h.first.0 ≡ true → IsPoppedIn old new k =
        λ here. Popped (λ taken none. waited k taken here none) (λ taken. emptied k taken here) ((is_added k).1 (inr (ap Some (tied_keys_same k h.first.0 here)))) in
        let stays = others_stay k in
        let by : (b : Bool) → is_at (key_cmp k) h.first.0 ≡ b → IsPoppedIn old new k = λ b. elim b as (λ b. is_at (key_cmp k) h.first.0 ≡ b → IsPoppedIn old new k) [ true ↦ popped | false ↦ stays ] in
        by (is_at (key_cmp k) h.first.0) refl;
    kept = λ k i. (is_added k).1 (inl i);
  }

  -- and one is
  pub PopsSome-first : PopsSome old new
  PopsSome-first =
      let here = at_itself h.first.0 h.first.0 refl in
      (h.first.0, (λ taken none. waited h.first.0 taken here none), (λ taken. emptied h.first.0 taken here))

-- nothing is popped
pub PopsKeys-none : (old new : TablesState) → PopsNone old new → AllMatter old.waiting → PopsKeys old new
PopsKeys-none old new h all =
    let added = added-kept old.ops new.ops h.first (first-matters old.waiting h.first h.waits all) h.ops in
    record {
      keys = λ k. Stays
          (λ taken. record { row = ap (λ r. fields_at r k) h.rows; waiting = λ o. ap (λ w. row_with_pending o (pending_at w k)) h.waiting })
          (λ i. elim ((added k).0 i) [ inl before ↦ before | inr is ↦ absurd (none-some k (sym is)) ]);
      kept = λ k i. (added k).1 (inl i);
    }

-- ---- pops one after the other

module _ (s t u : Written) (k : Key) where
  same-same : IsAsBefore s t k → IsAsBefore t u k → IsAsBefore s u k
  same-same a b = record { row = b.row ∙ a.row; waiting = λ o. b.waiting o ∙ a.waiting o }

  still-waits : IsAsBefore s t k → (HasNoWrite t k → ⊥) → HasNoWrite s k → ⊥
  still-waits a some none = some (λ o. a.waiting o ∙ none o)

  same-popped : IsAsBefore s t k → IsPoppedKey t u k → IsPoppedKey s u k
  same-popped a b = record { row = b.row ∙ a.waiting (t.rows k) ∙ ap (s.waiting k) a.row; none = b.none }

  popped-same : IsPoppedKey s t k → IsAsBefore t u k → IsPoppedKey s u k
  popped-same a b = record { row = b.row ∙ a.row; none = λ o. b.waiting o ∙ a.none o }

module _ (old mid new : TablesState) where
  pop-pop : (k : Key) → (IsToSync mid k → IsToSync new k) → IsPoppedIn old mid k → IsPoppedIn mid new k → IsPoppedIn old new k
  pop-pop k kept (Stays a only) (Stays b only_then) = Stays (λ taken. same-same (written_in taken old) (written_in taken mid) (written_in taken new) k (a taken) (b taken)) (λ i. only (only_then i))
  pop-pop k kept (Stays a only) (Popped some b there) =
      Popped (λ taken none. still-waits (written_in taken old) (written_in taken mid) (written_in taken new) k (a taken) (some taken) none) (λ taken. same-popped (written_in taken old) (written_in taken mid) (written_in taken new) k (a taken) (b taken)) there
  pop-pop k kept (Popped some a there) (Stays b only) = Popped some (λ taken. popped-same (written_in taken old) (written_in taken mid) (written_in taken new) k (a taken) (b taken)) (kept there)
  pop-pop k kept (Popped some a there) (Popped more b then) = absurd (more [] (a []).none)

  pub PopsKeys-then : PopsKeys old mid → PopsKeys mid new → PopsKeys old new
  PopsKeys-then a b = record { keys = λ k. pop-pop k (b.kept k) (a.keys k) (b.keys k); kept = λ k i. b.kept k (a.kept k i) }

  pop-stays : (k : Key) → ((taken : List Write) → IsPoppedKey (written_in taken old) (written_in taken mid) k) → IsPoppedIn mid new k → (taken : List Write) → IsPoppedKey (written_in taken old) (written_in taken new) k
  pop-stays k a (Stays b only) = λ taken. popped-same (written_in taken old) (written_in taken mid) (written_in taken new) k (a taken) (b taken)
  pop-stays k a (Popped more b then) = absurd (more [] (a []).none)

  pub PopsSome-then : PopsSome old mid → PopsKeys mid new → PopsSome old new
  PopsSome-then a b = (a.0, a.1, pop-stays a.0 a.2 (b.keys a.0))

-- ---- the machine's pop

pops_key : (old new : TablesState) (taken : List Write) (s t : SwitchState) (k : Key) → s.written ≡ written_in taken old → s.to_sync ≡ keys_of old.ops → t.written ≡ written_in taken new → t.to_sync ≡ keys_of new.ops → IsPoppedIn old new k → PopsKey s t k
pops_key old new taken s t k was keys is later (Stays same only) =
    KeyStays (subst₂ (λ a b. IsAsBefore a b k) (sym was) (sym is) (same taken)) (subst₂ (λ a b. IsIn k b → IsIn k a) (sym keys) (sym later) only)
pops_key old new taken s t k was keys is later (Popped some popped there) =
    KeyPopped (subst (λ a. HasNoWrite a k → ⊥) (sym was) (some taken)) (subst₂ (λ a b. IsPoppedKey a b k) (sym was) (sym is) (popped taken)) (subst (IsIn k) (sym later) there)

pub is_pop : (old new : TablesState) (taken : List Write) (s t : SwitchState) → PopsKeys old new → s.written ≡ written_in taken old → s.to_sync ≡ keys_of old.ops → t ≡ record s { written = written_in taken new; to_sync = keys_of new.ops } → IsPop s t
is_pop old new taken s t h was keys is =
    let written : t.written ≡ written_in taken new = ap (λ (x : SwitchState). x.written) is in
    let later : t.to_sync ≡ keys_of new.ops = ap (λ (x : SwitchState). x.to_sync) is in
    record {
      taken = ap (λ (w : Written). w.taken) written ∙ sym (ap (λ (w : Written). w.taken) was);
      keys = λ k. pops_key old new taken s t k was keys written later (h.keys k);
      kept = λ k. subst₂ (λ a b. IsIn k a → IsIn k b) (sym keys) (sym later) (h.kept k);
      machine = ap (λ (x : SwitchState). x.machine) is;
      made = ap (λ (x : SwitchState). x.made) is;
      objects = ap (λ (x : SwitchState). x.objects) is;
    }
