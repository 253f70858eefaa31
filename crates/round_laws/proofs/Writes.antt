-- what writes make of the keys that they name, and of others
use Rattle.std.proofs.Common.{◌≡◌, ◌∷◌, ◌++◌, ◌∙◌, true, cond, List, [], None, Some, unwrap_or, refl, sym, ap, subst}
use Rattle.std.proofs.lemmas.Option.{none-some}
use Rattle.std.specs.BTreeMap.{is_at}
use Rattle.std.specs.Cmp.{eq_by_cmp_equiv}
use Rattle.table_schema.specs.Fields.{merged}
use Rattle.table_schema.specs.Key.{key_cmp}
use Rattle.table_schema.specs.Rows.{fields_at, rows_of}
use Rattle.table_schema.specs.declared.key.Key.{Key}
use Rattle.table_schema.specs.declared.write.Sent.{Sent}
use Rattle.table_schema.specs.declared.write.Write.{Write}
use Rattle.table_schema.specs.declared.write.Write.TheVariants.{Set, Del}
use Rattle.table_schema.proofs.Keys.{key_total}
use Rattle.sai_types.specs.Alike.{IsIn}
use Rattle.switch_model.specs.Marks.{sent_writes, written_key}
use Rattle.switch_machine.specs.Written.{HasNoWrite, TakesWrite, Written}
use Rattle.machine_laws.proofs.Sharing.{fields_beside, unwritten}
use Rattle.round_laws.specs.Named.{keys_named}
use Rattle.round_laws.proofs.Named.{of-named}

-- ---- the key of a write

at_it : (k q : Key) → q ≡ k → is_at (key_cmp k) q ≡ true
at_it k q same = subst (λ z. is_at (key_cmp k) z ≡ true) (sym same) ((eq_by_cmp_equiv key_total).refl k)

-- a write of the key waits then
pub write-waits : (w : Write) (old new : Written) (k : Key) → TakesWrite w old new → written_key w ≡ k → HasNoWrite new k → ⊥
write-waits (Set q fields) old new k x same none = none-some (merged (unwrap_or (old.waiting k None) []) fields) (sym (none None) ∙ x.waiting k None ∙ ap (λ b. cond b (Some (merged (unwrap_or (old.waiting k None) []) fields)) (old.waiting k None)) (at_it k q same))
write-waits (Del q) old new k x same none = none-some [] (sym (x.waiting k (Some []) ∙ ap (λ b. cond b None (old.waiting k (Some []))) (at_it k q same)) ∙ none (Some []))

-- and of another key where one did
pub write-beside : (w : Write) (old new : Written) (k : Key) → TakesWrite w old new → (written_key w ≡ k → ⊥) → HasNoWrite old k → HasNoWrite new k
write-beside w old new k x apart none o = x.waiting k o ∙ fields_beside w k (old.waiting k o) apart ∙ none o

pub beside-write : (w : Write) (old new : Written) (k : Key) → TakesWrite w old new → (written_key w ≡ k → ⊥) → HasNoWrite new k → HasNoWrite old k
beside-write w old new k x apart none o = sym (fields_beside w k (old.waiting k o) apart) ∙ sym (x.waiting k o) ∙ none o

-- ---- the fields of keys that writes do not name

writes_both : (front sent : List Sent) → sent_writes (front ++ sent) ≡ sent_writes front ++ sent_writes sent
writes_both [] sent = refl
writes_both (s ∷ front) sent = ap (λ z. s.write ∷ z) (writes_both front sent)

pub fields-same : (front sent : List Sent) (k : Key) → (IsIn k (keys_named sent) → ⊥) → fields_at (rows_of (sent_writes (front ++ sent))) k ≡ fields_at (rows_of (sent_writes front)) k
fields-same front sent k none = ap (λ ws. fields_at (rows_of ws) k) (writes_both front sent) ∙ unwritten (sent_writes front) (sent_writes sent) k (λ i. none (of-named sent k i))
