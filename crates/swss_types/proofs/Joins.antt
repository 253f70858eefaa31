-- texts that are joined by a byte, and cut there again
use Rattle.std.proofs.Common.{◌≡◌, ℕ, ◌<◌, ◌==◌, false, List, [], ◌∷◌, ◌++◌, Option, Some, All, map, flat_map, refl, ap, ◌∙◌}
use Rattle.std.proofs.lemmas.List.Splits.{slice_split_none, slice_split_at}
use Rattle.std.proofs.lemmas.Bool.{eq-eqb}
use Rattle.std.proofs.lemmas.List.{append-nil}
use Rattle.swss_types.specs.Parts.{parts_at, each_of, AllBelow}

-- the byte stands nowhere in the text
abbrev pub IsFree : ℕ → List ℕ → Type 0
IsFree byte text = All (λ b. (b == byte) ≡ false) text

-- texts behind each other, each with the byte before it
abbrev pub texts_behind : ℕ → (ℕ → List ℕ) → List ℕ → List ℕ
texts_behind byte text_of vs = flat_map (λ v. byte ∷ text_of v) vs

pub parts_at-joined : (byte bound : ℕ) (text_of : ℕ → List ℕ) → ((v : ℕ) → v < bound → IsFree byte (text_of v)) → (v : ℕ) (vs : List ℕ) → AllBelow bound (v ∷ vs) → parts_at byte (text_of v ++ texts_behind byte text_of vs) ≡ map text_of (v ∷ vs)
parts_at-joined byte bound text_of free v [] h =
    rw (append-nil (text_of v)) (slice_split_none (λ b. b == byte) (text_of v) (free v h.0))
parts_at-joined byte bound text_of free v (w ∷ vs) h =
    slice_split_at (λ b. b == byte) (text_of v) byte (text_of w ++ texts_behind byte text_of vs) (free v h.0) (eq-eqb byte byte refl)
    ∙ ap (λ parts. text_of v ∷ parts) (parts_at-joined byte bound text_of free w vs h.1)

each_of-map : (bound : ℕ) (text_of : ℕ → List ℕ) (value_of : List ℕ → Option ℕ) → ((v : ℕ) → v < bound → value_of (text_of v) ≡ Some v) → (vs : List ℕ) → AllBelow bound vs → each_of value_of (map text_of vs) ≡ Some vs
each_of-map bound text_of value_of reads [] h = refl
each_of-map bound text_of value_of reads (v ∷ vs) h = rw (reads v h.0, each_of-map bound text_of value_of reads vs h.1) refl

-- values that are written and joined read as these values
pub each_of-joined : (byte bound : ℕ) (text_of : ℕ → List ℕ) (value_of : List ℕ → Option ℕ) → ((v : ℕ) → v < bound → IsFree byte (text_of v)) → ((v : ℕ) → v < bound → value_of (text_of v) ≡ Some v) → (v : ℕ) (vs : List ℕ) → AllBelow bound (v ∷ vs) → each_of value_of (parts_at byte (text_of v ++ texts_behind byte text_of vs)) ≡ Some (v ∷ vs)
each_of-joined byte bound text_of value_of free reads v vs h =
    rw (parts_at-joined byte bound text_of free v vs h) (each_of-map bound text_of value_of reads (v ∷ vs) h)
