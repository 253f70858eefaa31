-- one round more that ended
use Rattle.std.proofs.Common.{◌≡◌, inl, ℕ, ◌+◌, Bool, List, [], ◌∷◌, ◌++◌, length, slice_get, Option, Some, refl, sym, ap, ◌∙◌, subst, arith}
use Rattle.std.proofs.lemmas.Grind.{flat_map-append}
use Rattle.std.proofs.lemmas.List.{append_assoc, append-nil, length-append}
use Rattle.table_schema.specs.Plan.{Ports}
use Rattle.table_schema.specs.declared.write.Sent.{Sent}
use Rattle.sai_types.specs.declared.ids.Rid.{Rid}
use Rattle.sai_types.specs.declared.body.Call.{Call}
use Rattle.switch_model.specs.Sound.{is_suspect}
use Rattle.switch_model.specs.declared.mark.Mark.{Mark}
use Rattle.restart_laws.specs.Logged.{last_mark}
use Rattle.swss_script.specs.Sent.{sent_in_round}
use Rattle.swss_script.specs.declared.parts.Round.{Round}
use Rattle.swss_report.specs.Round.{IsRoundText}
use Rattle.swss_run.specs.Restarts.{AreRestarted, HasFewRestarts, HasRestarts}
use Rattle.swss_run.specs.Rounds.{AreFenced, AreTaken, EndAtMarks, EndsAtMark, IsReportFrom, Ran, AreEndsRising, all_calls, all_marks, all_sent, ends_from, round_end}
use Rattle.swss_run.specs.Turned.{AreDrained, AreTurned, DrainsBehind, IsRoundTurned}
use Rattle.swss_run.proofs.Counting.{suspect-behind}

pub marks-more : (rans : List Ran) (ran : Ran) → all_marks (rans ++ ran ∷ []) ≡ all_marks rans ++ ran.marks
marks-more rans ran = flat_map-append (λ (r : Ran). r.marks) rans (ran ∷ []) ∙ ap (λ l. all_marks rans ++ l) (append-nil ran.marks)

pub sent-more : (rans : List Ran) (ran : Ran) → all_sent (rans ++ ran ∷ []) ≡ all_sent rans ++ ran.sent
sent-more rans ran = flat_map-append (λ (r : Ran). r.sent) rans (ran ∷ []) ∙ ap (λ l. all_sent rans ++ l) (append-nil ran.sent)

pub calls-more : (rans : List Ran) (ran : Ran) → all_calls (rans ++ ran ∷ []) ≡ all_calls rans ++ ran.calls
calls-more rans ran = flat_map-append (λ (r : Ran). r.calls) rans (ran ∷ []) ∙ ap (λ l. all_calls rans ++ l) (append-nil ran.calls)

pub ends-more : (n : ℕ) (rans : List Ran) (ran : Ran) → ends_from n (rans ++ ran ∷ []) ≡ ends_from n rans ++ (n + length (all_marks rans) + length ran.marks) ∷ []
ends-more n [] ran = ap (λ m. m ∷ []) (omega arith)
ends-more n (r ∷ rans) ran =
    ap (λ l. (n + length r.marks) ∷ l)
    (ends-more (n + length r.marks) rans ran ∙ ap (λ m. ends_from (n + length r.marks) rans ++ m ∷ []) (omega (arith, length-append r.marks (all_marks rans))))

-- fences between the same numbers, said in other words
fenced-at : (marks : List Mark) (from from' to to' calls calls' : ℕ) → from ≡ from' → to ≡ to' → calls ≡ calls' → AreFenced from to calls marks → AreFenced from' to' calls' marks
fenced-at marks from from' to to' calls calls' froms tos callses h = subst (λ n. AreFenced n to' calls' marks) froms (subst (λ n. AreFenced from n calls' marks) tos (subst (λ n. AreFenced from to n marks) callses h))

pub at_marks-more : (sent calls : ℕ) (rans : List Ran) (ran : Ran) → EndAtMarks sent calls rans → EndsAtMark (sent + length (all_sent rans)) (calls + length (all_calls rans)) ran → EndAtMarks sent calls (rans ++ ran ∷ [])
at_marks-more sent calls [] ran tt one = (
  record { before = one.before; mark = one.mark; marks = one.marks; way = one.way; fenced = fenced-at one.before (sent + 0) sent (sent + 0 + length ran.sent) (sent + length ran.sent) (calls + 0) calls (omega arith) (omega arith) (omega arith) one.fenced; settling = one.settling; taken = omega (arith, one.taken); effects = omega (arith, one.effects) },
  tt,
)
at_marks-more sent calls (r ∷ rans) ran (first, more) one = (
  first,
  at_marks-more (sent + length r.sent) (calls + length r.calls) rans ran more (record {
    before = one.before;
    mark = one.mark;
    marks = one.marks;
    way = one.way;
    fenced = fenced-at one.before
        (sent + length (all_sent (r ∷ rans))) (sent + length r.sent + length (all_sent rans))
        (sent + length (all_sent (r ∷ rans)) + length ran.sent) (sent + length r.sent + length (all_sent rans) + length ran.sent)
        (calls + length (all_calls (r ∷ rans))) (calls + length r.calls + length (all_calls rans))
        (omega (arith, length-append r.sent (all_sent rans))) (omega (arith, length-append r.sent (all_sent rans))) (omega (arith, length-append r.calls (all_calls rans))) one.fenced;
    settling = one.settling;
    taken = omega (arith, one.taken, length-append r.sent (all_sent rans));
    effects = omega (arith, one.effects, length-append r.calls (all_calls rans));
  }),
)

-- each round has a mark of its own, so the ends rise
pub ends-rise : (sent calls n : ℕ) (rans : List Ran) → EndAtMarks sent calls rans → AreEndsRising n (ends_from n rans)
ends-rise sent calls n [] at_marks = tt
ends-rise sent calls n (r ∷ rans) (first, more) = (
  omega (arith, ap length first.marks, length-append first.before (first.mark ∷ [])),
  ends-rise (sent + length r.sent) (calls + length r.calls) (n + length r.marks) rans more,
)

pub taken-more : (rans : List Ran) (rounds : List Round) (ran : Ran) (round : Round) → AreTaken rans rounds [] → slice_get rounds (length rans) ≡ Some round → ran.sent ≡ sent_in_round round → AreTaken (rans ++ ran ∷ []) rounds []
taken-more [] [] ran round were at is = cc
taken-more [] (r ∷ rounds) ran round were at is =
    let same : r ≡ round = cc in
    (is ∙ ap sent_in_round (sym same), none rounds)
  where
    none : (rounds : List Round) → AreTaken [] rounds []
    none [] = refl
    none (r ∷ rounds) = (sent_in_round r, refl)
taken-more (x ∷ rans) [] ran round were at is = absurd were
taken-more (x ∷ rans) (r ∷ rounds) ran round (first, more) at is = (first, taken-more rans rounds ran round more at is)

-- the writes of a round that did not end
pub taken-since : (rans : List Ran) (rounds : List Round) (round : Round) (sent rest : List Sent) → AreTaken rans rounds [] → slice_get rounds (length rans) ≡ Some round → sent_in_round round ≡ sent ++ rest → AreTaken rans rounds sent
taken-since [] [] round sent rest were at is = cc
taken-since [] (r ∷ rounds) round sent rest were at is =
    let same : r ≡ round = cc in
    (rest, ap sent_in_round same ∙ is)
taken-since (x ∷ rans) [] round sent rest were at is = absurd were
taken-since (x ∷ rans) (r ∷ rounds) round sent rest (first, more) at is = (first, taken-since rans rounds round sent rest more at is)

pub report-more : (plan : Ports) (capacities : List ℕ) (number : ℕ) (sent : List Sent) (calls : List (Call Rid)) (rans : List Ran) (rounds : List Round) (text : List ℕ) (ran : Ran) (round : Round) (lines : List ℕ) (before : ℕ) (s : List Sent) (c : List (Call Rid))
    → IsReportFrom plan capacities number sent calls rans rounds text → slice_get rounds (length rans) ≡ Some round
    → before ≡ number + length rans → s ≡ sent ++ all_sent rans → c ≡ calls ++ all_calls rans
    → IsRoundText (round_end plan capacities before s c ran) (length c) round.shows lines
    → IsReportFrom plan capacities number sent calls (rans ++ ran ∷ []) rounds (text ++ lines)
report-more plan capacities number sent calls [] [] text ran round lines before s c told at number_is s_is c_is is = cc
report-more plan capacities number sent calls [] (r ∷ rounds) text ran round lines before s c told at number_is s_is c_is is =
    let same : round ≡ r = cc in
    let number_same : before ≡ number = omega (arith, number_is) in
    let moved : IsRoundText (round_end plan capacities number sent calls ran) (length calls) r.shows lines =
    subst (λ n. IsRoundText (round_end plan capacities n sent calls ran) (length calls) r.shows lines) number_same
    (subst (λ x. IsRoundText (round_end plan capacities before x calls ran) (length calls) r.shows lines) (s_is ∙ append-nil sent)
    (subst (λ x. IsRoundText (round_end plan capacities before s x ran) (length x) r.shows lines) (c_is ∙ append-nil calls)
    (subst (λ (x : Round). IsRoundText (round_end plan capacities before s c ran) (length c) x.shows lines) same is))) in
    (lines, [], moved, ap (λ t. t ++ lines) told ∙ sym (append-nil lines), refl)
report-more plan capacities number sent calls (x ∷ rans) [] text ran round lines before s c told at number_is s_is c_is is = absurd told
report-more plan capacities number sent calls (x ∷ rans) (r ∷ rounds) text ran round lines before s c (first, rest, one, text_is, more) at number_is s_is c_is is = (
  first,
  rest ++ lines,
  one,
  ap (λ t. t ++ lines) text_is ∙ append_assoc first rest lines,
  report-more plan capacities (number + 1) (sent ++ x.sent) (calls ++ x.calls) rans rounds rest ran round lines before s c more at
      (omega (arith, number_is))
      (s_is ∙ sym (append_assoc sent x.sent (all_sent rans)))
      (c_is ∙ sym (append_assoc calls x.calls (all_calls rans)))
      is,
)

-- ---- what the calls of rounds are

last-both : (before : Option Mark) (xs ys : List Mark) → last_mark before (xs ++ ys) ≡ last_mark (last_mark before xs) ys
last-both before [] ys = refl
last-both before (x ∷ xs) ys = last-both (Some x) xs ys

pub turned-more : (plan : Ports) (capacities : List ℕ) (before : Option Mark) (taken : List Sent) (effects : List (Call Rid)) (rans : List Ran) (ran : Ran) (b : Option Mark) (s : List Sent) (c : List (Call Rid))
    → AreTurned plan capacities before taken effects rans → b ≡ last_mark before (all_marks rans) → s ≡ taken ++ all_sent rans → c ≡ effects ++ all_calls rans
    → IsRoundTurned plan capacities b s c ran → AreTurned plan capacities before taken effects (rans ++ ran ∷ [])
turned-more plan capacities before taken effects [] ran b s c turned b_is s_is c_is one = (
  subst (λ x. IsRoundTurned plan capacities x taken effects ran) b_is
      (subst (λ x. IsRoundTurned plan capacities b x effects ran) (s_is ∙ append-nil taken) (subst (λ x. IsRoundTurned plan capacities b s x ran) (c_is ∙ append-nil effects) one)),
  tt,
)
turned-more plan capacities before taken effects (r ∷ rans) ran b s c (first, turned) b_is s_is c_is one = (
  first,
  turned-more plan capacities (last_mark before r.marks) (taken ++ r.sent) (effects ++ r.calls) rans ran b s c turned
      (b_is ∙ last-both before r.marks (all_marks rans))
      (s_is ∙ sym (append_assoc taken r.sent (all_sent rans)))
      (c_is ∙ sym (append_assoc effects r.calls (all_calls rans)))
      one,
)

pub drained-more : (plan : Ports) (capacities : List ℕ) (taken : List Sent) (rans : List Ran) (ran : Ran) (s : List Sent) → AreDrained plan capacities taken rans → s ≡ taken ++ all_sent rans → DrainsBehind plan capacities s ran → AreDrained plan capacities taken (rans ++ ran ∷ [])
drained-more plan capacities taken [] ran s drained s_is one = (subst (λ x. DrainsBehind plan capacities x ran) (s_is ∙ append-nil taken) one, tt)
drained-more plan capacities taken (r ∷ rans) ran s (first, drained) s_is one = (first, drained-more plan capacities (taken ++ r.sent) rans ran s drained (s_is ∙ sym (append_assoc taken r.sent (all_sent rans))) one)

-- ---- the restarts of rounds

-- whether the last mark of rounds is that of a fault, where it is so of the marks before them
abbrev pub suspect_then : Bool → List Ran → Bool
suspect_then fault [] = fault
suspect_then fault (r ∷ rans) = suspect_then (is_suspect r.marks) rans

pub suspect-rounds : (xs : List Mark) (rans : List Ran) (sent calls : ℕ) → EndAtMarks sent calls rans → is_suspect (xs ++ all_marks rans) ≡ suspect_then (is_suspect xs) rans
suspect-rounds xs [] sent calls at = ap is_suspect (append-nil xs)
suspect-rounds xs (r ∷ rans) sent calls at =
    ap is_suspect (sym (append_assoc xs r.marks (all_marks rans)))
    ∙ suspect-rounds (xs ++ r.marks) rans (sent + length r.sent) (calls + length r.calls) at.1
    ∙ ap (λ b. suspect_then b rans) one
  where
    one : is_suspect (xs ++ r.marks) ≡ is_suspect r.marks
    one = ap (λ l. is_suspect (xs ++ l)) at.0.marks ∙ suspect-behind xs at.0.before at.0.mark ∙ ap is_suspect (sym at.0.marks)

pub restarted-none : (fault : Bool) (rounds : List Round) → AreRestarted fault [] rounds []
restarted-none fault [] = refl
restarted-none fault (r ∷ rounds) = inl (omega arith)

pub restarted-more : (fault : Bool) (rans : List Ran) (rounds : List Round) (ran : Ran) (round : Round) → AreRestarted fault rans rounds [] → slice_get rounds (length rans) ≡ Some round → HasRestarts (suspect_then fault rans) round ran.marks → AreRestarted fault (rans ++ ran ∷ []) rounds []
restarted-more fault [] [] ran round were at is = cc
restarted-more fault [] (r ∷ rounds) ran round were at is =
    let same : round ≡ r = cc in
    (subst (λ x. HasRestarts fault x ran.marks) same is, restarted-none (is_suspect ran.marks) rounds)
restarted-more fault (x ∷ rans) [] ran round were at is = absurd were
restarted-more fault (x ∷ rans) (r ∷ rounds) ran round (first, more) at is = (first, restarted-more (is_suspect x.marks) rans rounds ran round more at is)

-- of a round that did not end
pub restarted-since : (fault : Bool) (rans : List Ran) (rounds : List Round) (round : Round) (marks : List Mark) → AreRestarted fault rans rounds [] → slice_get rounds (length rans) ≡ Some round → HasFewRestarts (suspect_then fault rans) round marks → AreRestarted fault rans rounds marks
restarted-since fault [] [] round marks were at is = cc
restarted-since fault [] (r ∷ rounds) round marks were at is =
    let same : round ≡ r = cc in
    subst (λ x. HasFewRestarts fault x marks) same is
restarted-since fault (x ∷ rans) [] round marks were at is = absurd were
restarted-since fault (x ∷ rans) (r ∷ rounds) round marks (first, more) at is = (first, restarted-since (is_suspect x.marks) rans rounds round marks more at is)
