-- The lists of words of each command, written out. Own.
use Rattle.std.specs.Prelude.{◌≡◌, ◌⊎◌, ◌≤◌, ◌<◌, ◌^◌, ◌++◌, List, [], ◌∷◌, codes}
use Rattle.std.specs.Fmt.{decimal}
use Rattle.swss_words.specs.Words.{Text}
use Rattle.swss_words.specs.declared.command.Command.{Command}
use Rattle.swss_words.specs.declared.command.Command.TheVariants.{Run, View, Load}

-- the numbers of a command are within their limits
abbrev pub IsProper : Command → Type 0
IsProper (Run workers) = (1 ≤ workers) × (workers ≤ 4)
IsProper View = Unit {0}
IsProper (Load routes seed) = (routes ≤ 60000) × (seed < 2 ^ 64)

-- the words are one of the lists of the command
abbrev pub AreWordsOf : Command → List Text → Type 0
AreWordsOf (Run workers) words = ((workers ≡ 1) × (words ≡ codes "run" ∷ []))
    ⊎ ((words ≡ codes "run" ∷ codes "--workers" ∷ decimal workers ∷ [])
    ⊎ (words ≡ codes "run" ∷ (codes "--workers=" ++ decimal workers) ∷ []))
AreWordsOf View words = words ≡ codes "view" ∷ []
AreWordsOf (Load routes seed) words = words ≡ codes "load" ∷ decimal routes ∷ decimal seed ∷ []
