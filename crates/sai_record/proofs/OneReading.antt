-- a text has one reading
use Rattle.std.proofs.Common.{◌≡◌, inl, inr, ℕ, ◌+◌, List, [], ◌∷◌, ◌++◌, flat_map, length, Result, Ok, Err, refl, sym, ap, ap₂, ◌∙◌, subst, append_assoc}
use Rattle.std.specs.List.{AllByRecursion}
use Rattle.std.proofs.lemmas.List.{append-nil}
use Rattle.std.proofs.lemmas.List.Elements.{All-nil}
use Rattle.std.proofs.lemmas.Option.{same_Some}
use Rattle.sai_types.specs.declared.caps.Caps.{Caps}
use Rattle.sai_record.specs.Line.{call_line, closed, closed_call, head_line, recording_text}
use Rattle.sai_record.specs.Lines.{IsOneLine, caps_of}
use Rattle.sai_record.specs.Meaning.{call_at}
use Rattle.sai_record.specs.Ranges.{AreCaps, IsRecorded, IsRecording}
use Rattle.sai_record.specs.Reading.{BeginsWithNoCall, IsFirstBad, IsReadAs, IsTextOf}
use Rattle.sai_record.specs.declared.reading.BadRecord.{BadRecord}
use Rattle.sai_record.specs.declared.recording.Recorded.{Recorded}
use Rattle.sai_record.specs.declared.recording.Recording.{Recording}
use Rattle.sai_record.proofs.Cut.{line-call, line-closed, one-line, one-rest}
use Rattle.sai_record.proofs.Heads.{caps-read, line-head}
use Rattle.sai_record.proofs.Meant.{call-means}

one_head : (c d : Caps) (x y : List ℕ) → AreCaps c → AreCaps d → closed (head_line c) ++ x ≡ closed (head_line d) ++ y → (c ≡ d) × (x ≡ y)
one_head c d x y h g same =
    let line : head_line c ≡ head_line d = one-line (head_line c) (head_line d) x y (line-head c h) (line-head d g) same in
    let numbers : c.0 ≡ d.0 = same_Some c.0 d.0 (sym (caps-read c h) ∙ ap caps_of line ∙ caps-read d g) in
    let of : List ℕ → Caps = λ ns. record { 0 = ns } in
    (ap of numbers, one-rest (head_line c) (head_line d) x y line same)

one_call : (r s : Recorded) (x y : List ℕ) → IsRecorded r → IsRecorded s → closed_call r ++ x ≡ closed_call s ++ y → (r ≡ s) × (x ≡ y)
one_call r s x y h g same =
    let line : call_line r ≡ call_line s = one-line (call_line r) (call_line s) x y (line-call r h) (line-call s g) same in
    (same_Some r s (sym (call-means r h) ∙ ap call_at line ∙ call-means s g), one-rest (call_line r) (call_line s) x y line same)

-- the calls of a text up to what does not begin with one
one_list : (rs ss : List Recorded) (x y : List ℕ) → AllByRecursion IsRecorded rs → AllByRecursion IsRecorded ss → BeginsWithNoCall x → BeginsWithNoCall y → flat_map closed_call rs ++ x ≡ flat_map closed_call ss ++ y → (rs ≡ ss) × (x ≡ y)
one_list [] [] x y h g none none' same = (refl, same)
one_list [] (s ∷ ss) x y h g none none' same = absurd (none s (flat_map closed_call ss ++ y) g.0 (same ∙ append_assoc (closed_call s) (flat_map closed_call ss) y))
one_list (r ∷ rs) [] x y h g none none' same = absurd (none' r (flat_map closed_call rs ++ x) h.0 (sym same ∙ append_assoc (closed_call r) (flat_map closed_call rs) x))
one_list (r ∷ rs) (s ∷ ss) x y h g none none' same =
    let heads = one_call r s (flat_map closed_call rs ++ x) (flat_map closed_call ss ++ y) h.0 g.0 (sym (append_assoc (closed_call r) (flat_map closed_call rs) x) ∙ same ∙ append_assoc (closed_call s) (flat_map closed_call ss) y) in
    let tails = one_list rs ss x y h.1 g.1 none none' heads.1 in
    (ap₂ (λ a as'. a ∷ as') heads.0 tails.0, tails.1)

no_call : BeginsWithNoCall []
no_call r rest good same = line-closed (call_line r) rest (subst IsOneLine same (All-nil _))

-- two recordings of one text, a recording and a bad line, two bad lines

both_texts : (text : List ℕ) (r s : Recording) → IsTextOf text r → IsTextOf text s → r ≡ s
both_texts text r s x y =
    let heads = one_head r.caps s.caps (flat_map closed_call r.calls) (flat_map closed_call s.calls) x.recording.caps y.recording.caps (sym x.is ∙ y.is) in
    let calls = one_list r.calls s.calls [] [] x.recording.calls y.recording.calls no_call no_call (append-nil (flat_map closed_call r.calls) ∙ heads.1 ∙ sym (append-nil (flat_map closed_call s.calls))) in
    let of : Caps → List Recorded → Recording = λ caps cs. record { caps = caps; calls = cs } in
    ap₂ of heads.0 calls.0

text_or_bad : (text : List ℕ) (r : Recording) (line : ℕ) → IsTextOf text r → IsFirstBad text line → ⊥
text_or_bad text r line x (inl (first, none)) = none r.caps (flat_map closed_call r.calls) x.recording.caps x.is
text_or_bad text r line x (inr y) =
    let heads = one_head r.caps y.caps (flat_map closed_call r.calls) y.behind x.recording.caps y.are (sym x.is ∙ y.is) in
    let calls = one_list r.calls y.calls [] y.breaks.rest x.recording.calls y.breaks.each no_call y.breaks.bad (append-nil (flat_map closed_call r.calls) ∙ heads.1 ∙ y.breaks.is) in
    y.breaks.some (sym calls.1)

both_bad : (text : List ℕ) (m n : ℕ) → IsFirstBad text m → IsFirstBad text n → m ≡ n
both_bad text m n (inl (first, none)) (inl (first', none')) = first ∙ sym first'
both_bad text m n (inl (first, none)) (inr y) = absurd (none y.caps y.behind y.are y.is)
both_bad text m n (inr x) (inl (first', none')) = absurd (none' x.caps x.behind x.are x.is)
both_bad text m n (inr x) (inr y) =
    let heads = one_head x.caps y.caps x.behind y.behind x.are y.are (sym x.is ∙ y.is) in
    let calls = one_list x.calls y.calls x.breaks.rest y.breaks.rest x.breaks.each y.breaks.each x.breaks.bad y.breaks.bad (sym x.breaks.is ∙ heads.1 ∙ y.breaks.is) in
    x.number ∙ ap (λ cs. length cs + 2) calls.0 ∙ sym y.number

pub read-one : (text : List ℕ) (a b : Result Recording BadRecord) → IsReadAs text a → IsReadAs text b → a ≡ b
read-one text (Ok r) (Ok s) x y = ap Ok (both_texts text r s x y)
read-one text (Ok r) (Err bad) x y = absurd (text_or_bad text r bad.line x y)
read-one text (Err bad) (Ok s) x y = absurd (text_or_bad text s bad.line y x)
read-one text (Err bad) (Err bad') x y = let of : ℕ → BadRecord = λ n. record { line = n } in ap (λ n. Err (of n)) (both_bad text bad.line bad'.line x y)

pub read-written : (r : Recording) (a : Result Recording BadRecord) → IsRecording r → IsReadAs (recording_text r) a → a ≡ Ok r
read-written r a good h = read-one (recording_text r) a (Ok r) h (record { recording = good; is = refl })
