-- What the shows of a round print. Own.
use Rattle.std.specs.Prelude.{◌≡◌, ℕ, Bool, true, false, List, [], ◌∷◌, ◌++◌}
use Rattle.sai_types.specs.Forwarding.{forward}
use Rattle.sai_types.specs.Named.{named, those}
use Rattle.sai_types.specs.declared.thing.Thing.{Thing}
use Rattle.sai_chip.specs.Forward.{answer_of}
use Rattle.swss_script.specs.declared.parts.Show.{Show}
use Rattle.swss_script.specs.declared.parts.Show.TheVariants as show
use Rattle.swss_report.specs.Chip.{Stand, chip_text}
use Rattle.swss_report.specs.Counts.{counts_text}
use Rattle.swss_report.specs.Ended.{Ended}
use Rattle.swss_report.specs.Ending.{waits_at_end}
use Rattle.swss_report.specs.Ignored.{ignored_text}
use Rattle.swss_report.specs.Image.{shown_image}
use Rattle.swss_report.specs.Tables.{tables_text}
use Rattle.swss_report.specs.Waiting.{ready_text, waiting_text, warm_line}
use Rattle.swss_report.specs.Ways.{forward_text}

-- what a show prints of a round whose calls have these lines
abbrev pub IsShown : Ended → List ℕ → Show → List ℕ → Type 0
IsShown e calls show.Chip text = (things : List Thing) × Stand e.objects things × (text ≡ chip_text e.plan things)
IsShown e calls show.Tables text = text ≡ tables_text e.rows
IsShown e calls show.Ignored text = text ≡ ignored_text e.plan e.rows
IsShown e calls show.Waiting text = text ≡ waiting_text (waits_at_end e.marks)
IsShown e calls show.Warm text = text ≡ warm_line (waits_at_end e.marks)
IsShown e calls show.Ready text = text ≡ ready_text (waits_at_end e.marks)
IsShown e calls show.Calls text = text ≡ calls
IsShown e calls show.Counts text = text ≡ counts_text e
IsShown e calls (show.Forward v ip) text = text ≡ forward_text e.plan v ip (answer_of (forward (those (named e.objects)) (record { vrf = v; to = ip })))
IsShown e calls show.Image text = text ≡ shown_image e.rows

-- what shows print, one after the other
abbrev pub AreShown : Ended → List ℕ → List Show → List ℕ → Type 0
AreShown e calls [] text = text ≡ []
AreShown e calls (s ∷ ss) text = (first : List ℕ) × (rest : List ℕ) × IsShown e calls s first × AreShown e calls ss rest × (text ≡ first ++ rest)

-- whether a show prints the lines of the round's calls
abbrev pub is_calls : Show → Bool
is_calls show.Calls = true
is_calls _ = false

-- a text was appended, and this holds of it
abbrev pub Appends : List ℕ → List ℕ → (List ℕ → Type 0) → Type 0
Appends old new holds = (more : List ℕ) × (new ≡ old ++ more) × holds more
