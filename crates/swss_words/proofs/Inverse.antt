-- What a list of words is that has a form.
use Rattle.std.proofs.Common.{◌≡◌, ◌∙◌, ◌++◌, ◌⊎◌, ℕ, Bool, cond, true, false, List, [], ◌∷◌, Option, Some, None, refl, sym, ap, ap₂, inl, inr, length, take, drop, unwrap_or}
use Rattle.std.specs.Str.{bytes_eq}
use Rattle.std.specs.Option.{option_or}
use Rattle.std.proofs.lemmas.Slice.Eq.{bytes_eq-Decides}
use Rattle.std.proofs.lemmas.List.{take-append-drop}
use Rattle.std.specs.Prelude.{option_and_then}
use Rattle.swss_types.specs.Interface.{behind}
use Rattle.swss_words.specs.Words.{Form, Text, end, first_meaning, the, with}
use Rattle.swss_words.specs.declared.command.Command.{Command}

pub the-inverse : (text : Text) (form : Form) (words : List Text) (c : Command) → the text form words ≡ Some c
    → (rest : List Text) × (words ≡ text ∷ rest) × (form rest ≡ Some c)
the-inverse text form [] c h = cc
the-inverse text form (w ∷ ws) c h = go (bytes_eq w text) refl h
  where
    go : (b : Bool) → bytes_eq w text ≡ b → cond b (form ws) None ≡ Some c → (rest : List Text) × (w ∷ ws ≡ text ∷ rest) × (form rest ≡ Some c)
    go true e h = (ws, ap (λ x. x ∷ ws) ((bytes_eq-Decides w text).0 e), h)
    go false e h = cc

pub end-inverse : (meaning : Command) (words : List Text) (c : Command) → end meaning words ≡ Some c → (words ≡ []) × (meaning ≡ c)
end-inverse meaning [] c h = (refl, ap (λ o. unwrap_or o meaning) h)
end-inverse meaning (w ∷ ws) c h = cc

pub with-inverse : (number_in : Text → Option ℕ) (form : ℕ → Form) (words : List Text) (c : Command) → with number_in form words ≡ Some c
    → (word : Text) × (rest : List Text) × (n : ℕ) × (words ≡ word ∷ rest) × (number_in word ≡ Some n) × (form n rest ≡ Some c)
with-inverse number_in form [] c h = cc
with-inverse number_in form (w ∷ ws) c h = go (number_in w) refl h
  where
    go : (o : Option ℕ) → number_in w ≡ o → option_and_then (λ n. form n ws) o ≡ Some c
        → (word : Text) × (rest : List Text) × (n : ℕ) × (w ∷ ws ≡ word ∷ rest) × (number_in word ≡ Some n) × (form n rest ≡ Some c)
    go None e h = cc
    go (Some n) e h = (w, ws, n, refl, e, h)

pub behind-inverse : (text word rest : Text) → behind text word ≡ Some rest → word ≡ text ++ rest
behind-inverse text word rest h = go (bytes_eq (take (length text) word) text) refl h
  where
    go : (b : Bool) → bytes_eq (take (length text) word) text ≡ b → cond b (Some (drop (length text) word)) None ≡ Some rest → word ≡ text ++ rest
    go true e h = sym (take-append-drop (length text) word) ∙ ap₂ ◌++◌ ((bytes_eq-Decides _ _).0 e) (ap (λ o. unwrap_or o rest) h)
    go false e h = cc

pub first-inverse : (form : Form) (rest : List Form) (words : List Text) (c : Command) → first_meaning (form ∷ rest) words ≡ Some c
    → (form words ≡ Some c) ⊎ (first_meaning rest words ≡ Some c)
first-inverse form rest words c h = go (form words) refl h
  where
    go : (o : Option Command) → form words ≡ o → option_or o (first_meaning rest words) ≡ Some c → (form words ≡ Some c) ⊎ (first_meaning rest words ≡ Some c)
    go None e h = inr h
    go (Some x) e h = inl (e ∙ h)

pub nothing : (c : Command) → ◌≡◌ {A = Option Command} None (Some c) → ⊥
nothing c h = cc
