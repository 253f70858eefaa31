-- what the entries of chunks become, where a chunk is changed, halved or taken out
use Rattle.std.proofs.Common.{◌≡◌, ℕ, zero, suc, ◌+◌, ◌<◌, List, [], ◌∷◌, ◌++◌, length, take, drop, refl, ap, ap₂, sym, ◌∙◌, arith, append_assoc, append-nil}
use Rattle.std.specs.Prelude.{slice_index_or, slice_set, Vec}
use Rattle.std.specs.List.{insert, remove}
use Rattle.std.specs.declared.alloc.Global.{Global}
use Rattle.std.proofs.lemmas.List.{get_or-set_same, get_or_default, nil_from_length, take-append-drop}
use Rattle.std.proofs.lemmas.List.Edits.{insert_end}
use Rattle.late_maps.specs.Chunks.{Chunks, chunk_at, entries_of_chunks, with_chunk}

module _ {A : Type 0} where
  -- a chunk that has entries is there
  pub chunk_within : (cs : Chunks A) (i at : ℕ) → at < length (chunk_at cs i) → i < length cs
  chunk_within [] i at h = absurd (omega (arith, h))
  chunk_within (c ∷ cs) zero at h = omega arith
  chunk_within (c ∷ cs) (suc i) at h = let rest = chunk_within cs i at h in omega arith

  pub chunk_in : (v : Vec (Vec A Global) Global) (i at : ℕ) → at < length (chunk_at v.items i) → i < v.len
  chunk_in v i at h =
      let there = chunk_within v.items i at h in
      omega (arith, there, v.ok.0)

  -- what stands at its place has its entries
  pub chunk_read : (cs : Chunks A) (i : ℕ) (c : Vec A Global) → i < length cs → c ≡ slice_index_or cs i c → c.items ≡ chunk_at cs i
  chunk_read [] i c h is = absurd (omega (arith, h))
  chunk_read (x ∷ cs) zero c h is = ap (λ v. v.items) is
  chunk_read (x ∷ cs) (suc i) c h is = chunk_read cs i c (omega (arith, h)) is

  -- a place in the entries of a chunk is one in the chunk
  pub at_within : (cs : Chunks A) (i at : ℕ) (c : Vec A Global) → c ≡ slice_index_or cs i c → at < length (chunk_at cs i) → at < c.len
  at_within cs i at c is h =
      let read = ap length (chunk_read cs i c (chunk_within cs i at h) is) in
      omega (arith, h, read, c.ok.0)

  -- and the entry there is the same
  pub entry_read : (cs : Chunks A) (i at : ℕ) (c : Vec A Global) (e f : A) → c ≡ slice_index_or cs i c → at < length (chunk_at cs i) → e ≡ slice_index_or c.items at e → e ≡ slice_index_or (chunk_at cs i) at f
  entry_read cs i at c e f is h read = read ∙ ap (λ l. slice_index_or l at e) (chunk_read cs i c (chunk_within cs i at h) is) ∙ get_or_default (chunk_at cs i) at e f h

  -- all entries stay with those of the first chunk before them
  with_chunk-cons : (x : Vec A Global) (cs : Chunks A) (i : ℕ) (es : List A) → with_chunk (x ∷ cs) (suc i) es ≡ x.items ++ with_chunk cs i es
  with_chunk-cons x cs i es = ap (λ l. l ++ entries_of_chunks (drop (suc i) cs)) (append_assoc x.items (entries_of_chunks (take i cs)) es) ∙ append_assoc x.items (entries_of_chunks (take i cs) ++ es) (entries_of_chunks (drop (suc i) cs))

  -- its own entries in the place of those of a chunk
  pub with_chunk-same : (cs : Chunks A) (i : ℕ) → with_chunk cs i (chunk_at cs i) ≡ entries_of_chunks cs
  with_chunk-same [] zero = refl
  with_chunk-same [] (suc i) = refl
  with_chunk-same (x ∷ cs) zero = refl
  with_chunk-same (x ∷ cs) (suc i) = with_chunk-cons x cs i (chunk_at cs i) ∙ ap (λ l. x.items ++ l) (with_chunk-same cs i)

  -- an entry at the end of the last chunk is behind all entries
  pub with_chunk-end : (cs : Chunks A) (i at : ℕ) (e : A) → i + 1 ≡ length cs → at ≡ length (chunk_at cs i) → with_chunk cs i (insert (chunk_at cs i) at e) ≡ entries_of_chunks cs ++ e ∷ []
  with_chunk-end [] i at e last end = absurd (omega (arith, last))
  with_chunk-end (x ∷ []) zero at e last end = append-nil (insert x.items at e) ∙ ap (λ n. insert x.items n e) end ∙ insert_end x.items e ∙ ap (λ l. l ++ e ∷ []) (sym (append-nil x.items))
  with_chunk-end (x ∷ y ∷ cs) zero at e last end = absurd (omega (arith, last))
  with_chunk-end (x ∷ cs) (suc i) at e last end = with_chunk-cons x cs i (insert (chunk_at cs i) at e) ∙ ap (λ l. x.items ++ l) (with_chunk-end cs i at e (omega (arith, last)) end) ∙ sym (append_assoc x.items (entries_of_chunks cs) (e ∷ []))

  -- another chunk in the place of one
  entries_of_chunks-set : (cs : Chunks A) (i : ℕ) (c : Vec A Global) → i < length cs → entries_of_chunks (slice_set cs i c) ≡ with_chunk cs i c.items
  entries_of_chunks-set [] i c h = absurd (omega (arith, h))
  entries_of_chunks-set (x ∷ cs) zero c h = refl
  entries_of_chunks-set (x ∷ cs) (suc i) c h = ap (λ l. x.items ++ l) (entries_of_chunks-set cs i c (omega (arith, h))) ∙ sym (with_chunk-cons x cs i c.items)

  -- what is done to a chunk is done to its entries
  pub entries_of_chunks-edit : (cs : Chunks A) (i : ℕ) (old new : Vec A Global) (f : List A → List A) → i < length cs → old ≡ slice_index_or cs i old → new.items ≡ f old.items → entries_of_chunks (slice_set cs i new) ≡ with_chunk cs i (f (chunk_at cs i))
  entries_of_chunks-edit cs i old new f h is edit = entries_of_chunks-set cs i new h ∙ ap (with_chunk cs i) (edit ∙ ap f (chunk_read cs i old h is))

  -- a chunk is taken out, with what it has become
  entries_of_chunks-remove : (cs : Chunks A) (i : ℕ) (c : Vec A Global) → i < length cs → entries_of_chunks (remove (slice_set cs i c) i) ≡ with_chunk cs i []
  entries_of_chunks-remove [] i c h = absurd (omega (arith, h))
  entries_of_chunks-remove (x ∷ cs) zero c h = refl
  entries_of_chunks-remove (x ∷ cs) (suc i) c h = ap (λ l. x.items ++ l) (entries_of_chunks-remove cs i c (omega (arith, h))) ∙ sym (with_chunk-cons x cs i [])

  -- or when that has no entries
  pub entries_of_chunks-emptied : (cs : Chunks A) (i : ℕ) (old new again : Vec A Global) (f : List A → List A) → i < length cs → old ≡ slice_index_or cs i old → new.items ≡ f old.items → again ≡ slice_index_or (slice_set cs i new) i again → again.len ≡ 0 → entries_of_chunks (remove (slice_set cs i new) i) ≡ with_chunk cs i (f (chunk_at cs i))
  entries_of_chunks-emptied cs i old new again f h is edit reread none =
      let same : again ≡ new = reread ∙ get_or-set_same cs i new again h in
      let length_none : length new.items ≡ 0 = sym new.ok.0 ∙ ap (λ v. v.len) (sym same) ∙ none in
      entries_of_chunks-remove cs i new h ∙ ap (with_chunk cs i) (sym (nil_from_length new.items length_none) ∙ edit ∙ ap f (chunk_read cs i old h is))

  -- two chunks in the place of one that has their entries
  pub entries_of_chunks-halve : (cs : Chunks A) (i n : ℕ) (old lower upper : Vec A Global) → i < length cs → old ≡ slice_index_or cs i old → lower.items ≡ take n old.items → upper.items ≡ drop n old.items → entries_of_chunks (insert (slice_set cs i lower) (suc i) upper) ≡ entries_of_chunks cs
  entries_of_chunks-halve [] i n old lower upper h is front back = absurd (omega (arith, h))
  entries_of_chunks-halve (x ∷ cs) zero n old lower upper h is front back =
      sym (append_assoc lower.items upper.items (entries_of_chunks cs)) ∙ ap (λ l. l ++ entries_of_chunks cs) (ap₂ (λ l m. l ++ m) front back ∙ take-append-drop n old.items ∙ ap (λ v. v.items) is)
  entries_of_chunks-halve (x ∷ cs) (suc i) n old lower upper h is front back = ap (λ l. x.items ++ l) (entries_of_chunks-halve cs i n old lower upper (omega (arith, h)) is front back)

  -- a chunk behind all
  pub entries_of_chunks-push : (cs : Chunks A) (c : Vec A Global) → entries_of_chunks (cs ++ c ∷ []) ≡ entries_of_chunks cs ++ c.items
  entries_of_chunks-push [] c = append-nil c.items
  entries_of_chunks-push (x ∷ cs) c = ap (λ l. x.items ++ l) (entries_of_chunks-push cs c) ∙ sym (append_assoc x.items (entries_of_chunks cs) c.items)
