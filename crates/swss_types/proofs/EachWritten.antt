-- texts of elements that are appended one after another, each behind a byte
use Rattle.std.proofs.Common.{◌≡◌, ℕ, ◌+◌, ◌<◌, List, [], ◌∷◌, ◌++◌, length, take, get_or, flat_map, Result, Ok, Err, OnErr, sym, ap, ◌∙◌, append_assoc}
use Rattle.std.proofs.Math.Seq.{take-append_seam}
use Rattle.std.proofs.lemmas.List.{flat_map_more, take_more}

module _ {X : Type 0} (byte : ℕ) (word : X → List ℕ) (old : List ℕ) (xs : List X) (now : List ℕ) (i : ℕ) (so_far : now ≡ old ++ flat_map (λ x. byte ∷ word x) (take i xs)) where
  abbrev text : X → List ℕ
  text x = byte ∷ word x

  abbrev done : List ℕ
  done = flat_map text (take i xs)

  -- one element more
  pub one_more : (mid new : List ℕ) (x : X) → i < length xs → mid ≡ now ++ byte ∷ [] → new ≡ mid ++ word (get_or xs i x) → new ≡ old ++ flat_map text (take (i + 1) xs)
  one_more mid new x lt first last =
      let next = get_or xs i x in
      last ∙ ap (λ l. l ++ word next) first ∙ append_assoc now (byte ∷ []) (word next) ∙ ap (λ l. l ++ text next) so_far ∙ flat_map_more text old (take i xs) next ∙ ap (λ l. old ++ flat_map text l) (sym (take_more xs i x lt))

  -- where the byte or the word finds no memory, what stood first stays at the front
  pub no_byte : {E : Type 0} (result : Result (Unit {0}) E) (new : List ℕ) → new ≡ now → OnErr result (take (length old) new ≡ old)
  no_byte (Ok tt) new is = tt
  no_byte (Err error) new is = ap (take (length old)) (is ∙ so_far) ∙ take-append_seam old done

  pub no_word : {E : Type 0} (result : Result (Unit {0}) E) (mid new : List ℕ) → mid ≡ now ++ byte ∷ [] → new ≡ mid → OnErr result (take (length old) new ≡ old)
  no_word (Ok tt) mid new first is = tt
  no_word (Err error) mid new first is = ap (take (length old)) (is ∙ first ∙ ap (λ l. l ++ byte ∷ []) so_far ∙ append_assoc old done (byte ∷ [])) ∙ take-append_seam old (done ++ byte ∷ [])
