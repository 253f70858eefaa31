-- What holds of each form of the table holds of all words that are a command.
use Rattle.std.proofs.Common.{◌≡◌, ◌∙◌, ◌++◌, ℕ, List, [], ◌∷◌, Option, Some, None, refl, sym, ap, ap₂, subst, inl, inr, codes, option_and_then}
use Rattle.swss_types.specs.Interface.{behind}
use Rattle.swss_words.specs.Words.{Form, Text, command, end, first_meaning, forms, option_workers_of, routes_of, seed_of, the, with, workers_of}
use Rattle.swss_words.specs.declared.command.Command.{Command}
use Rattle.swss_words.specs.declared.command.Command.TheVariants.{Run, View, Load}
use Rattle.swss_words.proofs.Inverse.{behind-inverse, end-inverse, first-inverse, nothing, the-inverse, with-inverse}

option_workers : (word : Text) (n : ℕ) → option_workers_of word ≡ Some n → (text : Text) × (word ≡ codes "--workers=" ++ text) × (workers_of text ≡ Some n)
option_workers word n h = go (behind (codes "--workers=") word) refl h
  where
    go : (o : Option Text) → behind (codes "--workers=") word ≡ o → option_and_then workers_of o ≡ Some n
        → (text : Text) × (word ≡ codes "--workers=" ++ text) × (workers_of text ≡ Some n)
    go None e h = cc
    go (Some text) e h = (text, behind-inverse (codes "--workers=") word text e, h)

module _ (P : List Text → Command → Type 0) where
  become : (words ws : List Text) (a c : Command) → words ≡ ws → a ≡ c → P ws a → P words c
  become words ws a c e f h = subst (λ x. P words x) f (subst (λ x. P x a) (sym e) h)

  alone_case : (verb : Text) (meaning : Command) → P (verb ∷ []) meaning → (words : List Text) (c : Command) → the verb (end meaning) words ≡ Some c → P words c
  alone_case verb meaning holds words c h =
      let first = the-inverse verb (end meaning) words c h in
      let over = end-inverse meaning first.0 c first.2 in
      become words (verb ∷ []) meaning c (first.1 ∙ ap (λ r. verb ∷ r) over.0) over.1 holds

  apart_case : (verb : Text) (meaning : ℕ → Command) → ((text : Text) (n : ℕ) → workers_of text ≡ Some n → P (verb ∷ codes "--workers" ∷ text ∷ []) (meaning n))
      → (words : List Text) (c : Command) → the verb (the (codes "--workers") (with workers_of (λ n. end (meaning n)))) words ≡ Some c → P words c
  apart_case verb meaning holds words c h =
      let first = the-inverse verb (the (codes "--workers") (with workers_of (λ n. end (meaning n)))) words c h in
      let option = the-inverse (codes "--workers") (with workers_of (λ n. end (meaning n))) first.0 c first.2 in
      let number = with-inverse workers_of (λ n. end (meaning n)) option.0 c option.2 in
      let over = end-inverse (meaning number.2) number.1 c number.5 in
      become words (verb ∷ codes "--workers" ∷ number.0 ∷ []) (meaning number.2) c
      (first.1 ∙ ap (λ r. verb ∷ r) (option.1 ∙ ap (λ r. codes "--workers" ∷ r) (number.3 ∙ ap (λ r. number.0 ∷ r) over.0))) over.1
      (holds number.0 number.2 number.4)

  joined_case : (verb : Text) (meaning : ℕ → Command) → ((text : Text) (n : ℕ) → workers_of text ≡ Some n → P (verb ∷ (codes "--workers=" ++ text) ∷ []) (meaning n))
      → (words : List Text) (c : Command) → the verb (with option_workers_of (λ n. end (meaning n))) words ≡ Some c → P words c
  joined_case verb meaning holds words c h =
      let first = the-inverse verb (with option_workers_of (λ n. end (meaning n))) words c h in
      let number = with-inverse option_workers_of (λ n. end (meaning n)) first.0 c first.2 in
      let over = end-inverse (meaning number.2) number.1 c number.5 in
      let option = option_workers number.0 number.2 number.4 in
      become words (verb ∷ (codes "--workers=" ++ option.0) ∷ []) (meaning number.2) c
      (first.1 ∙ ap (λ r. verb ∷ r) (number.3 ∙ ap₂ (λ w r. w ∷ r) option.1 over.0)) over.1
      (holds option.0 number.2 option.2)

  load_case : ((count seed : Text) (n s : ℕ) → routes_of count ≡ Some n → seed_of seed ≡ Some s → P (codes "load" ∷ count ∷ seed ∷ []) (Load n s))
      → (words : List Text) (c : Command) → the (codes "load") (with routes_of (λ n. with seed_of (λ seed. end (Load n seed)))) words ≡ Some c → P words c
  load_case holds words c h =
      let first = the-inverse (codes "load") (with routes_of (λ n. with seed_of (λ seed. end (Load n seed)))) words c h in
      let count = with-inverse routes_of (λ n. with seed_of (λ seed. end (Load n seed))) first.0 c first.2 in
      let seed = with-inverse seed_of (λ seed. end (Load count.2 seed)) count.1 c count.5 in
      let over = end-inverse (Load count.2 seed.2) seed.1 c seed.5 in
      become words (codes "load" ∷ count.0 ∷ seed.0 ∷ []) (Load count.2 seed.2) c
      (first.1 ∙ ap (λ r. codes "load" ∷ r) (count.3 ∙ ap (λ r. count.0 ∷ r) (seed.3 ∙ ap (λ r. seed.0 ∷ r) over.0))) over.1
      (holds count.0 seed.0 count.2 seed.2 count.4 seed.4)

  HoldOf : List Form → Type 0
  HoldOf [] = Unit {0}
  HoldOf (form ∷ rest) = ((words : List Text) (c : Command) → form words ≡ Some c → P words c) × HoldOf rest

  first_case : (fs : List Form) → HoldOf fs → (words : List Text) (c : Command) → first_meaning fs words ≡ Some c → P words c
  unfolding HoldOf
  first_case [] hold words c h = absurd (nothing c h)
  first_case (form ∷ rest) hold words c h = elim (first-inverse form rest words c h) [
    | inl e ↦ hold.0 words c e
    | inr e ↦ first_case rest hold.1 words c e
  ]

  pub by_form : P (codes "run" ∷ []) (Run 1)
      → ((text : Text) (n : ℕ) → workers_of text ≡ Some n → P (codes "run" ∷ codes "--workers" ∷ text ∷ []) (Run n))
      → ((text : Text) (n : ℕ) → workers_of text ≡ Some n → P (codes "run" ∷ (codes "--workers=" ++ text) ∷ []) (Run n))
      → P (codes "view" ∷ []) View
      → ((count seed : Text) (n s : ℕ) → routes_of count ≡ Some n → seed_of seed ≡ Some s → P (codes "load" ∷ count ∷ seed ∷ []) (Load n s))
      → (words : List Text) (c : Command) → command words ≡ Some c → P words c
  unfolding HoldOf
  by_form run apart joined view load = first_case forms (
    alone_case (codes "run") (Run 1) run,
    (
      apart_case (codes "run") (λ n. Run n) apart,
      (
        joined_case (codes "run") (λ n. Run n) joined,
        (
          alone_case (codes "view") View view,
          (load_case load, tt),
        ),
      ),
    ),
  )
