-- which owners the rows of other keys use can be told: each applied row's key was written
use Rattle.std.proofs.Common.{◌≡◌, ◌∷◌, ◌++◌, ◌∙◌, inl, inr, ℕ, zero, suc, Bool, true, false, if◌then◌else◌, List, [], map, Option, None, Some, refl, sym, ap, subst, take}
use Rattle.std.proofs.lemmas.Bool.{false≢true}
use Rattle.std.proofs.lemmas.List.{append-nil, append_assoc}
use Rattle.std.specs.BTreeMap.{is_at}
use Rattle.swss_types.proofs.Tied.{tied}
use Rattle.table_schema.specs.Fields.{Pairs}
use Rattle.table_schema.specs.Key.{key_cmp}
use Rattle.table_schema.specs.Plan.{Ports}
use Rattle.table_schema.specs.Rows.{fields_at, rows_of}
use Rattle.table_schema.specs.declared.key.Key.{Key}
use Rattle.table_schema.specs.declared.row.Row.{Row}
use Rattle.table_schema.specs.declared.write.Write.{Write}
use Rattle.table_schema.specs.declared.write.Write.TheVariants as write
use Rattle.table_schema.proofs.Keys.{key_exact}
use Rattle.sai_types.specs.Alike.{IsIn}
use Rattle.switch_model.specs.Good.{good_row}
use Rattle.switch_model.specs.Marks.{written_key}
use Rattle.switch_model.specs.Placed.{PlacedRows, bare}
use Rattle.row_layout.specs.Operations.{uses_of}
use Rattle.row_layout.specs.Rows.{Owner}
use Rattle.switch_machine.specs.Events.{IsSafe, SwitchState}
use Rattle.switch_machine.specs.Operations.{IsUsedByOthers}
use Rattle.switch_machine.specs.Written.{IsGoodOnce, Written, fields_after}
use Rattle.switch_machine.proofs.Splits.{key_split, use_row_in}
use Rattle.switch_machine.proofs.Telling.{told-taken}
use Rattle.machine_laws.proofs.Deciding.{IsDecided, any_decided, both_or, in_split, is_so, not_or, so_found, so_told}

-- ---- writes of other keys

beside : {X : Type 0} (b : Bool) (x o : X) → (b ≡ true → ⊥) → (if b then x else o) ≡ o
beside true x o never = absurd (never refl)
beside false x o never = refl

pub fields_beside : (w : Write) (k : Key) (o : Option Pairs) → (written_key w ≡ k → ⊥) → fields_after w k o ≡ o
fields_beside (write.Set q fields) k o apart = beside (is_at (key_cmp k) q) _ o (λ h. apart (sym (key_exact k q (tied (key_cmp k q) h))))
fields_beside (write.Del q) k o apart = beside (is_at (key_cmp k) q) None o (λ h. apart (sym (key_exact k q (tied (key_cmp k q) h))))

-- a key's fields after one write more
pub fields_more : (ws : List Write) (w : Write) (k : Key) → fields_at (rows_of (ws ++ w ∷ [])) k ≡ fields_after w k (fields_at (rows_of ws) k)
fields_more ws w k = told-taken w old new (record { taken = refl; rows = λ q. refl; waiting = λ q o. refl }) (λ q. refl) k
  where
    old : Written
    old = record { taken = ws; rows = λ q. None; waiting = λ q o. fields_at (rows_of ws) q }

    new : Written
    new = record { taken = ws ++ w ∷ []; rows = λ q. None; waiting = λ q o. fields_after w q (fields_at (rows_of ws) q) }

abbrev pub AreKeys : List Write → List Key
AreKeys ws = map written_key ws

pub unwritten : (front ws : List Write) (k : Key) → (IsIn k (AreKeys ws) → ⊥) → fields_at (rows_of (front ++ ws)) k ≡ fields_at (rows_of front) k
unwritten front [] k none = ap (λ z. fields_at (rows_of z) k) (append-nil front)
unwritten front (w ∷ ws) k none =
    ap (λ z. fields_at (rows_of z) k) (sym (append_assoc front (w ∷ []) ws))
    ∙ unwritten (front ++ w ∷ []) ws k (λ h. none (inr h))
    ∙ fields_more front w k
    ∙ fields_beside w k (fields_at (rows_of front) k) (λ h. none (inl (sym h)))

in_take : (n : ℕ) (ws : List Write) (k : Key) → IsIn k (AreKeys (take n ws)) → IsIn k (AreKeys ws)
in_take zero ws k h = elim h [ ]
in_take (suc n) [] k h = elim h [ ]
in_take (suc n) (w ∷ ws) k (inl e) = inl e
in_take (suc n) (w ∷ ws) k (inr h) = inr (in_take n ws k h)

pub key_listed_decided : (k : Key) (ks : List Key) → IsDecided (IsIn k ks)
key_listed_decided k ks = by (any_decided (λ q. k ≡ q) (λ q. key_split k q) ks)
  where
    by : IsDecided ((q : Key) × IsIn q ks × (k ≡ q)) → IsDecided (IsIn k ks)
    by (inl (q, at, e)) = inl (subst (λ z. IsIn z ks) (sym e) at)
    by (inr none) = inr (λ at. none (k, at, refl))

-- a row that was good once is of a key that was written
pub written-once : (plan : Ports) (taken : List Write) (k : Key) (r : Row) → IsGoodOnce plan taken k r → IsIn k (AreKeys taken)
written-once plan taken k r (n, le, h) = by (key_listed_decided k (AreKeys (take n taken)))
  where
    no_row : (o : Option Row) → o ≡ None → o ≡ Some r → ⊥
    no_row o a b = absurd cc

    by : IsDecided (IsIn k (AreKeys (take n taken))) → IsIn k (AreKeys taken)
    by (inl at) = in_take n taken k at
    by (inr none) = absurd (no_row (good_row plan k (fields_at (rows_of (take n taken)) k)) (ap (good_row plan k) (unwritten [] (take n taken) k none)) h)

-- ---- uses of other rows

module _ (plan : Ports) (workers : ℕ) (capacities : List ℕ) (s : SwitchState) (kept : IsSafe plan workers capacities s) (k : Key) where
  abbrev rows : PlacedRows
  rows = s.machine.board.applied

  abbrev IsOther : Owner → Key → Type 0
  IsOther o q = (q ≡ k → ⊥) × IsIn o (uses_of plan q (rows q))

  -- among the keys that were written each applied row's is
  abbrev decided : (o : Owner) → IsDecided ((q : Key) × IsIn q (AreKeys s.written.taken) × IsOther o q)
  decided o = any_decided (IsOther o) (λ q. both_or (not_or (key_split q k)) (in_split o (uses_of plan q (rows q)))) (AreKeys s.written.taken)

  abbrev pub used-by : Owner → Bool
  used-by o = is_so (decided o)

  pub others-use : IsUsedByOthers plan rows k used-by
  others-use = record {
    yes = λ o h. let x = so_told (decided o) h in let r = use_row_in plan x.0 (rows x.0) o x.2.1 in (x.0, r.0, x.2.0, r.1, r.2);
    no = λ o h q r apart at used. false≢true (sym h ∙ so_found (decided o) (q, written-once plan s.written.taken q (bare r) (kept.good q r (inl at)), (apart, subst (λ z. IsIn o (uses_of plan q z)) (sym at) used)));
  }
