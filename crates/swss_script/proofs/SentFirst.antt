-- behind an image the first round sends its rows, and then what it sends without one
use Rattle.std.proofs.Common.{◌≡◌, ℕ, ◌+◌, ◌<◌, ◌==◌, cond, List, [], ◌∷◌, ◌++◌, map, count_by, refl, sym, ap, ap₂, ◌∙◌, arith, append_assoc}
use Rattle.std.proofs.lemmas.Bool.{eq-eqb, ne_eqb}
use Rattle.std.proofs.lemmas.List.{append-nil}
use Rattle.std.proofs.lemmas.List.Sums.{sum_by-append}
use Rattle.std.specs.List.{AllByRecursion}
use Rattle.table_schema.specs.Rows.{Rows}
use Rattle.table_schema.specs.declared.write.Sent.{Sent}
use Rattle.table_schema.specs.declared.write.Write.{Write}
use Rattle.swss_script.specs.Behind.{image_section, image_sent, row_act, row_written, rounds_behind}
use Rattle.swss_script.specs.Sections.{acts_of}
use Rattle.swss_script.specs.Sent.{next_sent, sent_after, sent_by, sent_in_round, writes_in}
use Rattle.swss_script.specs.Stage.{AreOfProducers}
use Rattle.swss_script.specs.declared.parts.Round.{Round}
use Rattle.swss_script.specs.declared.parts.Section.{Section}

abbrev count_of : ℕ → List Sent → ℕ
count_of p sent = count_by (λ s. s.from == p) sent

count-both : (p : ℕ) (xs ys : List Sent) → count_of p (xs ++ ys) ≡ count_of p xs + count_of p ys
count-both p xs ys = sum_by-append (λ (s : Sent). cond (s.from == p) 1 0) xs ys

-- ---- what is sent one after the other

after-both : (sent : List Sent) (xs ys : List (ℕ × Write)) → sent_after sent (xs ++ ys) ≡ sent_after (sent_after sent xs) ys
after-both sent [] ys = refl
after-both sent (x ∷ xs) ys = after-both (sent ++ next_sent sent x ∷ []) xs ys

-- what one sender sends
after-one : (sender : ℕ) (sent : List Sent) (writes : List Write) → sent_after sent (map (λ w. (sender, w)) writes) ≡ sent ++ sent_by sender (count_of sender sent) writes
after-one sender sent [] = sym (append-nil sent)
after-one sender sent (w ∷ writes) =
    let here = next_sent sent (sender, w) in
    after-one sender (sent ++ here ∷ []) writes
    ∙ ap (λ n. (sent ++ here ∷ []) ++ sent_by sender n writes) (count-both sender sent (here ∷ []) ∙ ap (λ b. count_of sender sent + (0 + cond b 1 0)) (eq-eqb sender sender refl))
    ∙ append_assoc sent (here ∷ []) (sent_by sender (count_of sender sent + 1) writes)

-- what others send behind it
abbrev AreOthers : List Sent → List (ℕ × Write) → Type 0
AreOthers front writes = AllByRecursion (λ (w : ℕ × Write). count_of w.0 front ≡ 0) writes

after-front : (front sent : List Sent) (writes : List (ℕ × Write)) → AreOthers front writes → sent_after (front ++ sent) writes ≡ front ++ sent_after sent writes
after-front front sent [] others = refl
after-front front sent (w ∷ writes) (other, others) =
    ap (λ n. sent_after ((front ++ sent) ++ record { from = w.0; number = n; write = w.1 } ∷ []) writes) counted
    ∙ ap (λ l. sent_after l writes) (append_assoc front sent (next_sent sent w ∷ []))
    ∙ after-front front (sent ++ next_sent sent w ∷ []) writes others
  where
    counted : count_of w.0 (front ++ sent) ≡ count_of w.0 sent
    counted = let both = count-both w.0 front sent in omega (arith, both, other)

-- ---- the sender of an image

count-image : (p n : ℕ) (writes : List Write) → 0 < p → count_of p (sent_by 0 n writes) ≡ 0
count-image p n [] some = refl
count-image p n (w ∷ writes) some =
    let both = count-both p (record { from = 0; number = n; write = w } ∷ []) (sent_by 0 (n + 1) writes) in
    let first : count_of p (record { from = 0; number = n; write = w } ∷ []) ≡ 0 = ap (λ b. 0 + cond b 1 0) (ne_eqb 0 p (λ same. omega (arith, some, same))) in
    let rest = count-image p (n + 1) writes some in
    omega (arith, both, first, rest)

others-both : (front : List Sent) (xs ys : List (ℕ × Write)) → AreOthers front xs → AreOthers front ys → AreOthers front (xs ++ ys)
others-both front [] ys one more = more
others-both front (x ∷ xs) ys (is, one) more = (is, others-both front xs ys one more)

others-one : (front : List Sent) (sender : ℕ) (writes : List Write) → count_of sender front ≡ 0 → AreOthers front (map (λ w. (sender, w)) writes)
others-one front sender [] other = tt
others-one front sender (w ∷ writes) other = (other, others-one front sender writes other)

-- no producer sends by its number
others-in : (count : ℕ) (writes : List Write) (sections : List Section) → AreOfProducers count sections → AreOthers (sent_by 0 0 writes) (writes_in sections)
others-in count writes [] numbers = tt
others-in count writes (section ∷ sections) (number, numbers) =
    others-both (sent_by 0 0 writes) (map (λ w. (section.producer, w)) (acts_of section.acts)) (writes_in sections)
    (others-one (sent_by 0 0 writes) section.producer (acts_of section.acts) (count-image section.producer 0 writes number.0))
    (others-in count writes sections numbers)

-- ---- rounds

rows-written : (image : Rows) → acts_of (map row_act image) ≡ map row_written image
rows-written [] = refl
rows-written (row ∷ rows) = ap (λ l. row_written row ∷ l) (rows-written rows)

sent-opened : (image : Rows) (round : Round) (count : ℕ) → AreOfProducers count round.sections → sent_in_round (record { sections = image_section image ∷ round.sections; shows = round.shows }) ≡ image_sent image ++ sent_in_round round
sent-opened image round count numbers =
    after-both [] (map (λ w. (0, w)) (acts_of (map row_act image))) (writes_in round.sections)
    ∙ ap (λ l. sent_after (sent_after [] (map (λ w. (0, w)) l)) (writes_in round.sections)) (rows-written image)
    ∙ ap (λ l. sent_after l (writes_in round.sections)) (after-one 0 [] (map row_written image) ∙ sym (append-nil (image_sent image)))
    ∙ after-front (image_sent image) [] (writes_in round.sections) (others-in count (map row_written image) round.sections numbers)

pub opened-first : (image : Rows) (round : Round) (rounds : List Round) (count : ℕ) → AreOfProducers count round.sections → (opened : Round) × (rounds_behind image (round ∷ rounds) ≡ opened ∷ rounds) × (sent_in_round opened ≡ image_sent image ++ sent_in_round round)
opened-first [] round rounds count numbers = (round, refl, refl)
opened-first (row ∷ rows) round rounds count numbers = (record { sections = image_section (row ∷ rows) ∷ round.sections; shows = round.shows }, refl, sent-opened (row ∷ rows) round count numbers)
