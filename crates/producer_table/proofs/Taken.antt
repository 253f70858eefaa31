-- keys that are taken out one by one
use Rattle.std.proofs.Common.{◌≡◌, ◌∷◌, ◌++◌, ℕ, zero, suc, ◌+◌, add-one, [], List, take, drop, sym, ap, ◌∙◌}
use Rattle.table_schema.specs.declared.key.Key.{Key}
use Rattle.producer_table.specs.declared.key_op.KeyOp.{KeyOp}
use Rattle.producer_table.specs.declared.waiting.Pending.{Pending}
use Rattle.producer_table.specs.Pending.{PendingKeys, op_of, ops_of}

-- one key more is taken out
taken_step : (old rest : PendingKeys) (i : ℕ) (p : Key × Pending) → drop i old ≡ p ∷ rest → (ops_of (take i old) ++ op_of p ∷ [] ≡ ops_of (take (suc i) old)) × (rest ≡ drop (suc i) old)
taken_step [] rest zero p h = absurd cc
taken_step (e ∷ es) rest zero p h =
    let first : p ≡ e = cc in
    let others : rest ≡ es = cc in
    (ap (λ x. op_of x ∷ []) first, others)
taken_step [] rest (suc i) p h = absurd cc
taken_step (e ∷ es) rest (suc i) p h = let more = taken_step es rest i p h in (ap (λ l. op_of e ∷ l) more.0, more.1)

pub taken-more : (old rest : PendingKeys) (i : ℕ) (p : Key × Pending) (items : List KeyOp) → items ≡ ops_of (take i old) → drop i old ≡ p ∷ rest → (items ++ op_of p ∷ [] ≡ ops_of (take (i + 1) old)) × (rest ≡ drop (i + 1) old)
taken-more old rest i p items taken left =
    let step = taken_step old rest i p left in
    (ap (λ l. l ++ op_of p ∷ []) taken ∙ step.0 ∙ ap (λ n. ops_of (take n old)) (sym (add-one i)), step.1 ∙ ap (λ n. drop n old) (sym (add-one i)))
