-- writes that are taken before a round, one after the other
use Rattle.std.proofs.Common.{◌≡◌, ◌++◌, ◌∷◌, ◌∙◌, ◌+◌, ℕ, List, [], length, map, refl, sym, ap, subst, arith}
use Rattle.std.proofs.lemmas.List.{append-nil, append_assoc}
use Rattle.table_schema.specs.Fields.{Pairs}
use Rattle.table_schema.specs.Rows.{Rows}
use Rattle.table_schema.specs.declared.key.Key.{Key}
use Rattle.table_schema.specs.declared.write.Sent.{Sent}
use Rattle.switch_model.specs.History.{History}
use Rattle.session_laws.specs.Core.{IsFullFor, with_taken}
use Rattle.swss_script.specs.Behind.{image_sent, row_written}
use Rattle.swss_script.specs.Sent.{sent_by}
use Rattle.swss_script.specs.Stage.{AreImageRows}
use Rattle.orch_core.specs.Restarting.{IsInService}
use Rattle.round_actors.specs.declared.answers.Kept.{Kept}
use Rattle.round_actors.specs.declared.answers.Kept.TheVariants as keeps
use Rattle.swss_service.specs.Ahead.{HasTaken, HasTakenFront, TakesAhead}
use Rattle.swss_service.specs.CoreAndChip.{CoreAndChip, beside}
use Rattle.swss_service.specs.Served.{LacksPlaces, StaysServed}
use Rattle.swss_service.proofs.Going.{gone-both}
use Rattle.swss_service.proofs.Serving.{served-new}
use Rattle.swss_service.proofs.Stepping.{lacks-same}

pub taken-none : (o : CoreAndChip) → IsInService o.core o.chip → HasTaken [] o o
taken-none o is = record {
  served = served-new 0 o o.core o.chip refl is;
  chip = refl;
  log = ap (λ l. record { taken = l; marks = o.core.log.marks; ends = o.core.log.ends }) (sym (append-nil o.core.log.taken));
}

-- a write was taken
pub taken-one : (o now : CoreAndChip) (sent : Sent) → IsInService o.core o.chip → StaysServed o now → now ≡ beside (with_taken o.core sent) o.chip → HasTaken (sent ∷ []) o now
taken-one o now sent is stays same = record {
  served = stays 0 o (served-new 0 o o.core o.chip refl is);
  chip = ap (λ (z : CoreAndChip). z.chip) same;
  log = ap (λ (z : CoreAndChip). z.core.log) same;
}

-- nothing was, of these
pub none-front : (all : List Sent) (o now : CoreAndChip) → IsInService o.core o.chip → now ≡ o → HasTakenFront all o now
none-front all o now is same = subst (HasTakenFront all o) (sym same) (record { new = []; left = all; split = refl; taken = taken-none o is })

pub refused-ahead : (all : List Sent) (o now : CoreAndChip) (kept : Kept) → IsInService o.core o.chip → (kept ≡ keeps.Nothing → ⊥) → now ≡ o → (kept ≡ keeps.LogFull → IsFullFor o.core (length o.chip.effects) 1) → TakesAhead all o kept now
refused-ahead all o now keeps.Nothing is refused same full = absurd (refused refl)
refused-ahead all o now keeps.LogFull is refused same full = (none-front all o now is same, subst LacksPlaces (sym same) (lacks-same o.core o.chip o.core o.chip 1 refl refl (full refl) (omega arith)))
refused-ahead all o now keeps.NoMemory is refused same full = none-front all o now is same

-- ---- some, and then more

module _ (o mid now : CoreAndChip) (done : List Sent) (x : HasTaken done o mid) where
  pub taken-both : (more : List Sent) → HasTaken more mid now → HasTaken (done ++ more) o now
  taken-both more y = record {
    served = (x.served.0 ++ y.served.0, x.served.1 ++ y.served.1, gone-both 0 o mid.core now.core mid.chip now.chip x.served.0 y.served.0 x.served.1 y.served.1 x.served.2 y.served.2);
    chip = y.chip ∙ x.chip;
    log =
        y.log
        ∙ ap (λ (h : History). record { taken = h.taken ++ more; marks = h.marks; ends = h.ends }) x.log
        ∙ ap (λ l. record { taken = l; marks = o.core.log.marks; ends = o.core.log.ends }) (append_assoc o.core.log.taken done more);
  }

  front-both : (all next later : List Sent) → all ≡ done ++ (next ++ later) → HasTakenFront next mid now → HasTakenFront all o now
  front-both all next later split y = record {
    new = done ++ y.new;
    left = y.left ++ later;
    split = split ∙ ap (λ l. done ++ (l ++ later)) y.split ∙ ap (λ l. done ++ l) (append_assoc y.new y.left later) ∙ sym (append_assoc done y.new (y.left ++ later));
    taken = taken-both y.new y.taken;
  }

  -- the next of all was refused
  pub ahead-refused : (all next later : List Sent) (kept : Kept) → all ≡ done ++ (next ++ later) → (kept ≡ keeps.Nothing → ⊥) → TakesAhead next mid kept now → TakesAhead all o kept now
  ahead-refused all next later keeps.Nothing split refused y = absurd (refused refl)
  ahead-refused all next later keeps.LogFull split refused (y, lacks) = (front-both all next later split y, lacks)
  ahead-refused all next later keeps.NoMemory split refused y = front-both all next later split y

-- ---- the rows of an image, one after the other

-- a row of an image as it is sent, with its number
abbrev pub row_sent : ℕ → Key × Pairs → Sent
row_sent number row = record { from = 0; number = number; write = row_written row }

-- the rows so far were taken, and these are left, of which the next has this number
abbrev pub TookSoFar : Rows → CoreAndChip → ℕ → Rows → CoreAndChip → Type 0
TookSoFar image old number left now = (done : List Sent) × HasTaken done old now × (image_sent image ≡ done ++ sent_by 0 number (map row_written left)) × AreImageRows left

pub took-none : (image left : Rows) (o : CoreAndChip) → IsInService o.core o.chip → AreImageRows image → left ≡ image → TookSoFar image o 0 left o
took-none image left o is rows same = subst (λ (l : Rows). TookSoFar image o 0 l o) (sym same) ([], taken-none o is, refl, rows)

module _ (image left rest : Rows) (row : Key × Pairs) (o mid now : CoreAndChip) (number : ℕ) (steps : left ≡ row ∷ rest) (so_far : TookSoFar image o number left mid) where
  here : TookSoFar image o number (row ∷ rest) mid
  here = subst (λ (l : Rows). TookSoFar image o number l mid) steps so_far

  -- what is sent behind this row
  abbrev later : List Sent
  later = sent_by 0 (number + 1) (map row_written rest)

  pub took-row : (next : ℕ) → next ≡ number + 1 → HasTaken (row_sent number row ∷ []) mid now → TookSoFar image o next rest now
  took-row next is taken = subst (λ (n : ℕ). TookSoFar image o n rest now) (sym is) (
    here.0 ++ (row_sent number row ∷ []),
    taken-both o mid now here.0 here.1 (row_sent number row ∷ []) taken,
    here.2 ∙ sym (append_assoc here.0 (row_sent number row ∷ []) later),
    here.3.1,
  )

  -- it was refused
  pub row-refused : (kept : Kept) → (kept ≡ keeps.Nothing → ⊥) → TakesAhead (row_sent number row ∷ []) mid kept now → TakesAhead (image_sent image) o kept now
  row-refused kept refused takes = ahead-refused o mid now here.0 here.1 (image_sent image) (row_sent number row ∷ []) later kept here.2 refused takes

-- what was taken so far is a front of all
pub front-so-far : (image left : Rows) (o now : CoreAndChip) (number : ℕ) → TookSoFar image o number left now → HasTakenFront (image_sent image) o now
front-so-far image left o now number so_far = record { new = so_far.0; left = sent_by 0 number (map row_written left); split = so_far.2; taken = so_far.1 }
