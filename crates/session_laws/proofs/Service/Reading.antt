-- each key that has a row was named by a write, and so is one that a text is
use Rattle.std.proofs.Common.{◌≡◌, ◌∷◌, ◌++◌, ◌∙◌, inl, inr, ℕ, zero, suc, List, [], None, refl, sym, ap, subst}
use Rattle.std.specs.Prelude.{take}
use Rattle.std.proofs.lemmas.List.{append-nil, append_assoc}
use Rattle.table_schema.specs.Rows.{fields_at, rows_of}
use Rattle.table_schema.specs.declared.key.Key.{Key}
use Rattle.table_schema.specs.declared.write.Write.{Write}
use Rattle.sai_types.specs.Alike.{IsIn}
use Rattle.switch_model.specs.Marks.{written_key}
use Rattle.switch_machine.specs.Written.{HasWrittenRows, Written}
use Rattle.switch_machine.proofs.Splits.{IsSplit, key_split}
use Rattle.machine_laws.specs.Reading.{IsOnSwitch}
use Rattle.machine_laws.proofs.Sharing.{fields_beside, fields_more}

in_taken : (n : ℕ) (ws : List Write) (w : Write) → IsIn w (take n ws) → IsIn w ws
in_taken zero ws w i = elim i [ ]
in_taken (suc n) [] w i = elim i [ ]
in_taken (suc n) (v ∷ vs) w (inl is) = inl is
in_taken (suc n) (v ∷ vs) w (inr i) = inr (in_taken n vs w i)

-- so it is after some writes, and after more
read_after : (k : Key) (front ws : List Write) → ((w : Write) → IsIn w ws → IsOnSwitch (written_key w)) → ((fields_at (rows_of front) k ≡ None → ⊥) → IsOnSwitch k) → (fields_at (rows_of (front ++ ws)) k ≡ None → ⊥) → IsOnSwitch k
read_after k front [] on before some = before (λ none. some (ap (λ z. fields_at (rows_of z) k) (append-nil front) ∙ none))
read_after k front (w ∷ ws) on before some = read_after k (front ++ w ∷ []) ws (λ v i. on v (inr i)) (by (key_split (written_key w) k)) (λ none. some (ap (λ z. fields_at (rows_of z) k) (sym (append_assoc front (w ∷ []) ws)) ∙ none))
  where
    by : IsSplit (written_key w) k → (fields_at (rows_of (front ++ w ∷ [])) k ≡ None → ⊥) → IsOnSwitch k
    by (inl same) some = subst IsOnSwitch same (on w (inl refl))
    by (inr apart) some = before (λ none. some (fields_more front w k ∙ fields_beside w k (fields_at (rows_of front) k) apart ∙ none))

pub rows-read : (w : Written) → HasWrittenRows w → ((v : Write) → IsIn v w.taken → IsOnSwitch (written_key v)) → (k : Key) → (w.rows k ≡ None → ⊥) → IsOnSwitch k
rows-read w dated on k some =
    let n = dated k in
    read_after k [] (take n.0 w.taken) (λ v i. on v (in_taken n.0 w.taken v i)) (λ never. absurd (never refl)) (λ none. some (n.2 ∙ none))
