-- what shows print
use Rattle.std.proofs.Common.{◌≡◌, ◌∙◌, ℕ, Bool, true, false, List, [], ◌∷◌, ◌++◌, refl, ap, subst, sym, append_assoc, append-nil}
use Rattle.std.specs.List.{list_any}
use Rattle.std.proofs.lemmas.Bool.{or_parts}
use Rattle.swss_script.specs.declared.parts.Show.{Show}
use Rattle.swss_script.specs.declared.parts.Show.TheVariants as show
use Rattle.swss_report.specs.Ended.{Ended}
use Rattle.swss_report.specs.Shows.{Appends, IsShown, AreShown, is_calls}

-- a show that is not one of the calls prints the same whatever they are
other_shown : (e : Ended) (calls others : List ℕ) (s : Show) (text : List ℕ) → is_calls s ≡ false → IsShown e calls s text → IsShown e others s text
other_shown e calls others show.Chip text other is = is
other_shown e calls others show.Tables text other is = is
other_shown e calls others show.Ignored text other is = is
other_shown e calls others show.Waiting text other is = is
other_shown e calls others show.Warm text other is = is
other_shown e calls others show.Ready text other is = is
other_shown e calls others show.Calls text other is = absurd cc
other_shown e calls others show.Counts text other is = is
other_shown e calls others show.Image text other is = is
other_shown e calls others (show.Forward v ip) text other is = is

-- shows among which none is one of the calls print the same whatever they are
pub others_shown : (e : Ended) (calls others : List ℕ) (shows : List Show) (text : List ℕ) → list_any is_calls shows ≡ false → AreShown e calls shows text → AreShown e others shows text
others_shown e calls others [] text other are = are
others_shown e calls others (s ∷ ss) text other (first, rest, one, more, is) =
    let both = or_parts (is_calls s) (list_any is_calls ss) other in
    (first, rest, other_shown e calls others s first both.0 one, others_shown e calls others ss rest both.1 more, is)

-- what was appended, with what these shows print behind it, is what all shows print
abbrev pub PrintsUpTo : Ended → List ℕ → List Show → List Show → List ℕ → Type 0
PrintsUpTo e calls all left shown = (rest : List ℕ) → AreShown e calls left rest → AreShown e calls all (shown ++ rest)

-- a show more was printed
pub prints_more : (e : Ended) (calls : List ℕ) (all : List Show) (s : Show) (left : List Show) (old mid new : List ℕ) → Appends old mid (PrintsUpTo e calls all (s ∷ left)) → Appends mid new (IsShown e calls s) → Appends old new (PrintsUpTo e calls all left)
prints_more e calls all s left old mid new (shown, so, up_to) (more, is, one) =
    (shown ++ more, is ∙ (ap (λ t. t ++ more) so ∙ append_assoc old shown more), λ rest are. subst (AreShown e calls all) (sym (append_assoc shown more rest)) (up_to (more ++ rest) (more, rest, one, are, refl)))

-- all shows were printed
pub prints_all : (e : Ended) (calls : List ℕ) (all left : List Show) (old new : List ℕ) → left ≡ [] → Appends old new (PrintsUpTo e calls all left) → Appends old new (AreShown e calls all)
prints_all e calls all left old new none (shown, so, up_to) =
    let last : AreShown e calls left [] = subst (λ l. AreShown e calls l []) (sym none) refl in
    (shown, so, subst (AreShown e calls all) (append-nil shown) (up_to [] last))

-- shows print the same with other calls, where they print no calls or these are the same
pub round_shown : (e : Ended) (calls others : List ℕ) (shows : List Show) (text : List ℕ) → (list_any is_calls shows ≡ true → calls ≡ others) → AreShown e calls shows text → AreShown e others shows text
round_shown e calls others shows text same are = by (list_any is_calls shows) refl where
  by : (b : Bool) → list_any is_calls shows ≡ b → AreShown e others shows text
  by true any = subst (λ c. AreShown e c shows text) (same any) are
  by false none = others_shown e calls others shows text none are
