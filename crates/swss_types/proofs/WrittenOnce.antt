-- what reads back is written once
use Rattle.std.proofs.Common.{ℕ, List, Option, sym, ap, ◌∙◌}
use Rattle.std.proofs.lemmas.Option.{same_Some}
use Rattle.swss_types.specs.Laws.{ReadsBack, IsWrittenOnce}

pub IsWrittenOnce-from_back : {A : Type 0} (IsProper : A → Type 0) (text_of : A → List ℕ) (value_of : List ℕ → Option A) → ReadsBack IsProper text_of value_of → IsWrittenOnce IsProper text_of
IsWrittenOnce-from_back IsProper text_of value_of back a b ha hb same = same_Some a b (sym (back a ha) ∙ ap value_of same ∙ back b hb)
