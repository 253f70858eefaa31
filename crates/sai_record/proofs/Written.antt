-- words that are appended one after the other
use Rattle.std.proofs.Common.{◌≡◌, ℕ, List, [], ◌∷◌, ◌++◌, Result, Ok, Err, OnOk, sym, ap, ◌∙◌, append_assoc}
use Rattle.std.proofs.lemmas.List.{append-nil}
use Rattle.sai_record.specs.Line.{spaced}

spaced_more : (words : List (List ℕ)) (word : List ℕ) → spaced (words ++ word ∷ []) ≡ spaced words ++ 32 ∷ word
spaced_more [] word = append-nil (32 ∷ word)
spaced_more (w ∷ ws) word = ap (λ text. 32 ∷ w ++ text) (spaced_more ws word) ∙ sym (append_assoc (32 ∷ w) (spaced ws) (32 ∷ word))

-- a first word
pub one-word : (out next word : List ℕ) → next ≡ out ++ 32 ∷ word → next ≡ out ++ spaced (word ∷ [])
one-word out next word h = h ∙ ap (λ text. out ++ text) (sym (append-nil (32 ∷ word)))

-- a word behind others
pub more-words : (out so_far next : List ℕ) (words : List (List ℕ)) (word : List ℕ) → so_far ≡ out ++ spaced words → next ≡ so_far ++ 32 ∷ word → next ≡ out ++ spaced (words ++ word ∷ [])
more-words out so_far next words word h last =
    last ∙ ap (λ text. text ++ 32 ∷ word) h ∙ append_assoc out (spaced words) (32 ∷ word) ∙ ap (λ text. out ++ text) (sym (spaced_more words word))

-- a last word, which is appended where there is memory
pub last-word : {T E : Type 0} (r : Result T E) (out so_far next : List ℕ) (words : List (List ℕ)) (word : List ℕ) → so_far ≡ out ++ spaced words → OnOk r (next ≡ so_far ++ 32 ∷ word) → OnOk r (next ≡ out ++ spaced (words ++ word ∷ []))
last-word (Ok u) out so_far next words word h last = more-words out so_far next words word h last
last-word (Err e) out so_far next words word h last = tt

-- two words behind a first one
pub three-words : (out one two three a b c : List ℕ) → one ≡ out ++ 32 ∷ a → two ≡ one ++ 32 ∷ b → three ≡ two ++ 32 ∷ c → three ≡ out ++ spaced (a ∷ b ∷ c ∷ [])
three-words out one two three a b c first second third = more-words out two three (a ∷ b ∷ []) c (more-words out one two (a ∷ []) b (one-word out one a first) second) third
