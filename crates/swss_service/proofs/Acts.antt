-- the acts of a round that are made, and what they leave
use Rattle.std.proofs.Common.{◌≡◌, ℕ, ◌+◌, List, [], ◌∷◌, ◌++◌, map, Option, Some, None, refl, sym, ap, ◌∙◌, arith}
use Rattle.std.proofs.lemmas.List.{append_assoc, append-nil}
use Rattle.table_schema.specs.declared.write.Sent.{Sent}
use Rattle.table_schema.specs.declared.write.Write.{Write}
use Rattle.session_laws.specs.Core.{CoreState, with_taken}
use Rattle.session_laws.specs.Service.Events.{restarted}
use Rattle.swss_script.specs.Sections.{acts_of, restarts_of}
use Rattle.swss_script.specs.Sent.{next_sent, restarts_in, sent_after, sent_in_round, writes_in}
use Rattle.swss_script.specs.declared.parts.Act.{Act}
use Rattle.swss_script.specs.declared.parts.Act.TheVariants as act
use Rattle.swss_script.specs.declared.parts.Round.{Round}
use Rattle.swss_script.specs.declared.parts.Section.{Section}
use Rattle.swss_service.specs.Made.{restarts_made, with_made, writes_among}
use Rattle.swss_service.specs.Taking.{act_made, acts_by, acts_in, acts_made, sent_then}

-- ---- some acts and then more

sent-then : (before : List Sent) (m : Option Sent) (more : List (Option Sent)) → sent_then before m ++ writes_among more ≡ before ++ writes_among (m ∷ more)
sent-then before (Some s) more = append_assoc before (s ∷ []) (writes_among more)
sent-then before None more = refl

pub made-append : (before : List Sent) (xs ys : List (ℕ × Act)) → acts_made before (xs ++ ys) ≡ acts_made before xs ++ acts_made (before ++ writes_among (acts_made before xs)) ys
made-append before [] ys = ap (λ b. acts_made b ys) (sym (append-nil before))
made-append before (x ∷ xs) ys =
    let m = act_made before x.0 x.1 in
    let then = sent_then before m in
    ap (λ l. m ∷ l) (made-append then xs ys ∙ ap (λ b. acts_made then xs ++ acts_made b ys) (sent-then before m (acts_made then xs)))

pub sent_of-append : (xs ys : List (Option Sent)) → writes_among (xs ++ ys) ≡ writes_among xs ++ writes_among ys
sent_of-append [] ys = refl
sent_of-append (Some s ∷ xs) ys = ap (λ l. s ∷ l) (sent_of-append xs ys)
sent_of-append (None ∷ xs) ys = sent_of-append xs ys

pub restarts_made-append : (xs ys : List (Option Sent)) → restarts_made (xs ++ ys) ≡ restarts_made xs + restarts_made ys
restarts_made-append [] ys = omega arith
restarts_made-append (Some s ∷ xs) ys = restarts_made-append xs ys
restarts_made-append (None ∷ xs) ys = let rest = restarts_made-append xs ys in omega (arith, rest)

pub with_made-append : (effects : ℕ) (c : CoreState) (xs ys : List (Option Sent)) → with_made effects c (xs ++ ys) ≡ with_made effects (with_made effects c xs) ys
with_made-append effects c [] ys = refl
with_made-append effects c (Some s ∷ xs) ys = with_made-append effects (with_taken c s) xs ys
with_made-append effects c (None ∷ xs) ys = with_made-append effects (restarted c effects) xs ys

-- ---- the writes among them

sent-append : (before : List Sent) (xs ys : List (ℕ × Write)) → sent_after before (xs ++ ys) ≡ sent_after (sent_after before xs) ys
sent-append before [] ys = refl
sent-append before (x ∷ xs) ys = sent-append (before ++ next_sent before x ∷ []) xs ys

sent-by : (before : List Sent) (producer : ℕ) (acts : List Act) → sent_after before (map (λ w. (producer, w)) (acts_of acts)) ≡ before ++ writes_among (acts_made before (acts_by producer acts))
sent-by before producer [] = sym (append-nil before)
sent-by before producer (act.Write w ∷ acts) =
    let s = next_sent before (producer, w) in
    sent-by (before ++ s ∷ []) producer acts ∙ append_assoc before (s ∷ []) (writes_among (acts_made (before ++ s ∷ []) (acts_by producer acts)))
sent-by before producer (act.Restart ∷ acts) = sent-by before producer acts

-- the writes of acts one after the other
both-sent : (before : List Sent) (xs ys : List (ℕ × Act)) → before ++ writes_among (acts_made before (xs ++ ys)) ≡ (before ++ writes_among (acts_made before xs)) ++ writes_among (acts_made (before ++ writes_among (acts_made before xs)) ys)
both-sent before xs ys =
    let first = acts_made before xs in
    let next = acts_made (before ++ writes_among first) ys in
    ap (λ l. before ++ writes_among l) (made-append before xs ys) ∙ ap (λ l. before ++ l) (sent_of-append first next) ∙ sym (append_assoc before (writes_among first) (writes_among next))

sent-in : (before : List Sent) (sections : List Section) → sent_after before (writes_in sections) ≡ before ++ writes_among (acts_made before (acts_in sections))
sent-in before [] = sym (append-nil before)
sent-in before (section ∷ sections) =
    let writes = map (λ w. (section.producer, w)) (acts_of section.acts) in
    let acts = acts_by section.producer section.acts in
    sent-append before writes (writes_in sections)
    ∙ ap (λ b. sent_after b (writes_in sections)) (sent-by before section.producer section.acts)
    ∙ sent-in (before ++ writes_among (acts_made before acts)) sections
    ∙ sym (both-sent before acts (acts_in sections))

-- the writes of a round are those of its acts
pub sent-made : (round : Round) → sent_in_round round ≡ writes_among (acts_made [] (acts_in round.sections))
sent-made round = sent-in [] round.sections

-- those of its first acts are a front of them
pub sent-front : (round : Round) (done later : List (ℕ × Act)) → acts_in round.sections ≡ done ++ later → sent_in_round round ≡ writes_among (acts_made [] done) ++ writes_among (acts_made (writes_among (acts_made [] done)) later)
sent-front round done later is = sent-made round ∙ ap (λ l. writes_among (acts_made [] l)) is ∙ both-sent [] done later

-- ---- the restarts among them

restarts-by : (before : List Sent) (producer : ℕ) (acts : List Act) → restarts_made (acts_made before (acts_by producer acts)) ≡ restarts_of acts
restarts-by before producer [] = refl
restarts-by before producer (act.Write w ∷ acts) = restarts-by (before ++ next_sent before (producer, w) ∷ []) producer acts
restarts-by before producer (act.Restart ∷ acts) = let rest = restarts-by before producer acts in omega (arith, rest)

both-restarts : (before : List Sent) (xs ys : List (ℕ × Act)) → restarts_made (acts_made before (xs ++ ys)) ≡ restarts_made (acts_made before xs) + restarts_made (acts_made (before ++ writes_among (acts_made before xs)) ys)
both-restarts before xs ys = ap restarts_made (made-append before xs ys) ∙ restarts_made-append (acts_made before xs) (acts_made (before ++ writes_among (acts_made before xs)) ys)

restarts-in : (before : List Sent) (sections : List Section) → restarts_made (acts_made before (acts_in sections)) ≡ restarts_in sections
restarts-in before [] = refl
restarts-in before (section ∷ sections) =
    let acts = acts_by section.producer section.acts in
    let both = both-restarts before acts (acts_in sections) in
    let first = restarts-by before section.producer section.acts in
    let rest = restarts-in (before ++ writes_among (acts_made before acts)) sections in
    omega (arith, both, first, rest)

-- a round restarts as often as its sections say
pub restarts-made : (round : Round) → restarts_made (acts_made [] (acts_in round.sections)) ≡ restarts_in round.sections
restarts-made round = restarts-in [] round.sections

-- so those of its first acts and of the others are these
pub restarts-front : (round : Round) (done later : List (ℕ × Act)) → acts_in round.sections ≡ done ++ later → restarts_made (acts_made [] done) + restarts_made (acts_made (writes_among (acts_made [] done)) later) ≡ restarts_in round.sections
restarts-front round done later is = sym (both-restarts [] done later) ∙ ap (λ l. restarts_made (acts_made [] l)) (sym is) ∙ restarts-made round
