-- The lines of a round that has ended. Own.
use Rattle.std.specs.Prelude.{◌≡◌, ℕ, List, ◌++◌}
use Rattle.swss_script.specs.declared.parts.Show.{Show}
use Rattle.swss_report.specs.Calls.{calls_text}
use Rattle.swss_report.specs.Ended.{Ended}
use Rattle.swss_report.specs.Marks.{marks_text}
use Rattle.swss_report.specs.Shows.{AreShown}

-- the lines of its marks, and then of its shows, where so many calls took effect before it
pub record IsRoundText (e : Ended) (before : ℕ) (shows : List Show) (text : List ℕ) : Type 0 where
  pub shown : List ℕ
  pub prints : AreShown e (calls_text e.plan before e.effects) shows shown
  pub is : text ≡ marks_text e.number e.marks ++ shown
