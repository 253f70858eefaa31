-- that a place in chunks has no entry
use Rattle.std.proofs.Common.{◌≡◌, ℕ, zero, suc, ◌<◌, ◌≤◌, List, [], ◌∷◌, length, ◌∙◌, subst, arith}
use Rattle.std.specs.Prelude.{slice_index_or, Vec}
use Rattle.std.specs.declared.alloc.Global.{Global}
use Rattle.late_maps.specs.Chunks.{Chunks, chunk_at}
use Rattle.late_maps.proofs.Edits.{chunk_read}

module _ {A : Type 0} where
  -- none where there is no chunk
  pub none-without : (cs : Chunks A) (i at : ℕ) → length cs ≤ i → length (chunk_at cs i) ≤ at
  none-without [] i at none = omega arith
  none-without (c ∷ cs) zero at none = absurd (omega (arith, none))
  none-without (c ∷ cs) (suc i) at none = none-without cs i at (omega (arith, none))

  -- none where the chunk ends before it
  pub none-past : (cs : Chunks A) (i at : ℕ) (c : Vec A Global) → i < length cs → c ≡ slice_index_or cs i c → (es : List A) → es ≡ c.items → length es ≤ at → length (chunk_at cs i) ≤ at
  none-past cs i at c within read es value none = subst (λ l. length l ≤ at) (value ∙ chunk_read cs i c within read) none
