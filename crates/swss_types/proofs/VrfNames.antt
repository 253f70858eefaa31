-- a written name of a virtual router reads as the name, and what reads is proper
use Rattle.std.proofs.Common.{◌≡◌, ℕ, zero, suc, ◌-◌, ◌==◌, Bool, true, false, ◌&&◌, leb, List, [], ◌∷◌, ◌++◌, length, replicate, Option, None, Some, Bor, codes, refl, sym, ap, ◌∙◌, subst}
use Rattle.std.proofs.lemmas.Bool.{and_from, and_parts, eq-eqb, eqb-true, false≢true, le-leb, leb-true}
use Rattle.std.proofs.lemmas.List.{append-nil}
use Rattle.std.proofs.lemmas.List.Splits.{slice_split_at, slice_split_none}
use Rattle.std.proofs.lemmas.Option.{cond_some}
use Rattle.swss_types.specs.Interface.{behind}
use Rattle.swss_types.specs.Parts.{parts_at, IsCutInto}
use Rattle.swss_types.specs.VrfNames.{are_label_bytes, filled_label, first_part, is_label_byte, label_of, vrf_name_of, vrf_name_or_none, vrf_name_text, vrf_name_with, IsLabel, IsProperVrfName}
use Rattle.swss_types.specs.declared.vrf.VrfName.{VrfName}
use Rattle.swss_types.proofs.Joins.{IsFree}
use Rattle.swss_types.proofs.Macs.{IsFree-cons, IsFree-nil}

-- what a cut gives first is the first part
pub first-cut : (byte : ℕ) (text part : List ℕ) (rest : Option (Bor (List ℕ))) → IsCutInto byte text part rest → part ≡ first_part (parts_at byte text)
first-cut byte text part None h = h.0 ∙ sym (ap first_part h.1)
first-cut byte text part (Some rest) h = sym (ap first_part h.1)

abbrev made : List ℕ → VrfName
made bytes = record { 0 = bytes }

-- no byte of a label is a zero
zero_or_not : (b : ℕ) (t : Bool) → (b == 0) ≡ t → is_label_byte b ≡ true → t ≡ false
zero_or_not b false e h = refl
zero_or_not b true e h = absurd (false≢true (ap is_label_byte (sym (eqb-true b 0 e)) ∙ h))

label_free : (label : List ℕ) → are_label_bytes label ≡ true → IsFree 0 label
label_free [] h = IsFree-nil 0
label_free (b ∷ bs) h =
    let parts = and_parts (is_label_byte b) (are_label_bytes bs) h in
    IsFree-cons 0 b bs (zero_or_not b (b == 0) refl parts.0) (label_free bs parts.1)

first-filled : (label : List ℕ) (n : ℕ) → IsFree 0 label → first_part (parts_at 0 (label ++ replicate n 0)) ≡ label
first-filled label zero free = ap (λ text. first_part (parts_at 0 text)) (append-nil label) ∙ ap first_part (slice_split_none (λ b. b == 0) label free)
first-filled label (suc n) free = ap first_part (slice_split_at (λ b. b == 0) label 0 (replicate n 0) free (eq-eqb 0 0 refl))

label_of-made : (label : List ℕ) → IsLabel label → label_of (made (filled_label label)) ≡ label
label_of-made label h = first-filled label (12 - length label) (label_free label h.1)

vrf_name_with-label : (label : List ℕ) → IsLabel label → vrf_name_with label ≡ Some (made (filled_label label))
vrf_name_with-label label h = rw (and_from (leb (length label) 12) (are_label_bytes label) (le-leb (length label) 12 h.0) h.1) refl

pub vrf_name_of-vrf_name_text : (name : VrfName) → IsProperVrfName name → vrf_name_of (vrf_name_text name) ≡ Some name
vrf_name_of-vrf_name_text name h = vrf_name_with-label (label_of name) h.0 ∙ ap (λ bytes. Some (made bytes)) (sym h.1)

IsProper-or_none : (o : Option (List ℕ)) (name : VrfName) → vrf_name_or_none o ≡ Some name → IsProperVrfName name
IsProper-or_none None name h = absurd cc
IsProper-or_none (Some label) name h =
    let (fits, is) = cond_some (leb (length label) 12 && are_label_bytes label) (made (filled_label label)) name h in
    let (few, each) = and_parts (leb (length label) 12) (are_label_bytes label) fits in
    let good : IsLabel label = (leb-true (length label) 12 few, each) in
    let same = label_of-made label good in
    subst IsProperVrfName is (subst IsLabel (sym same) good, ap filled_label (sym same))

pub IsProperVrfName-vrf_name_of : (text : List ℕ) (name : VrfName) → vrf_name_of text ≡ Some name → IsProperVrfName name
IsProperVrfName-vrf_name_of text name h = IsProper-or_none (behind (codes "Vrf") text) name h
