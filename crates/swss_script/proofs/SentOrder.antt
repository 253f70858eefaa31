-- what each producer sends in a round
use Rattle.std.proofs.Common.{◌≡◌, ℕ, ◌+◌, ◌==◌, Bool, true, false, cond, ◌&&◌, ◌||◌, List, [], ◌∷◌, ◌++◌, map, count_by, refl, sym, ap, ap₂, ◌∙◌, arith, append_assoc}
use Rattle.std.proofs.lemmas.Bool.{and_parts, eq-eqb, eqb-true}
use Rattle.std.proofs.lemmas.List.{append-nil}
use Rattle.std.proofs.lemmas.List.Elements.{filter-append}
use Rattle.std.proofs.lemmas.List.Folds.{list_all-append, list_any-append}
use Rattle.std.proofs.lemmas.List.Sums.{sum_by-append}
use Rattle.std.specs.List.{list_all}
use Rattle.table_schema.specs.SentBy.{sent_of}
use Rattle.table_schema.specs.declared.write.Sent.{Sent}
use Rattle.table_schema.specs.declared.write.Write.{Write}
use Rattle.swss_script.specs.Sections.{acts_of, sections_by}
use Rattle.swss_script.specs.Sent.{has_section, next_sent, sent_after, sent_by, sent_in_round, writes_in}
use Rattle.swss_script.specs.declared.parts.Round.{Round}
use Rattle.swss_script.specs.declared.parts.Section.{Section}

-- ---- the writes of a producer

-- of writes with their producers, those of one producer
abbrev writes_by : ℕ → List (ℕ × Write) → List Write
writes_by p [] = []
writes_by p (x ∷ xs) = cond (x.0 == p) (x.1 ∷ writes_by p xs) (writes_by p xs)

abbrev count_of : ℕ → List Sent → ℕ
count_of p sent = count_by (λ s. s.from == p) sent

writes_by-append : (p : ℕ) (xs ys : List (ℕ × Write)) → writes_by p (xs ++ ys) ≡ writes_by p xs ++ writes_by p ys
writes_by-append p [] ys = refl
writes_by-append p (x ∷ xs) ys = by (x.0 == p) x.1 (writes_by p (xs ++ ys)) (writes_by p xs) (writes_by p ys) (writes_by-append p xs ys)
  where
    by : (b : Bool) (w : Write) (all first last : List Write) → all ≡ first ++ last → cond b (w ∷ all) all ≡ cond b (w ∷ first) first ++ last
    by true w all first last h = ap (λ ws. w ∷ ws) h
    by false w all first last h = h

writes_by-all : (p q : ℕ) (ws : List Write) → writes_by p (map (λ w. (q, w)) ws) ≡ cond (q == p) ws []
writes_by-all p q [] = none (q == p)
  where
    none : (b : Bool) → writes_by p [] ≡ cond b (writes_by p []) []
    none true = refl
    none false = refl
writes_by-all p q (w ∷ ws) = by (q == p) w (writes_by p (map (λ v. (q, v)) ws)) ws (writes_by-all p q ws)
  where
    by : (b : Bool) (w : Write) (all ws : List Write) → all ≡ cond b ws [] → cond b (w ∷ all) all ≡ cond b (w ∷ ws) []
    by true w all ws h = ap (λ vs. w ∷ vs) h
    by false w all ws h = h

writes_by-sections : (p : ℕ) (sections : List Section) → writes_by p (writes_in sections) ≡ sections_by p sections
writes_by-sections p [] = refl
writes_by-sections p (s ∷ ss) =
    writes_by-append p (map (λ w. (s.producer, w)) (acts_of s.acts)) (writes_in ss)
    ∙ ap₂ (λ xs ys. xs ++ ys) (writes_by-all p s.producer (acts_of s.acts)) (writes_by-sections p ss)

-- ---- their numbers

-- one write more, of the producer or of another
sent-one : (p : ℕ) (sent : List Sent) (next : ℕ × Write) (rest : List Write) (same : Bool) → (next.0 == p) ≡ same
    → (sent_of p sent ++ cond same (next_sent sent next ∷ []) []) ++ sent_by p (count_of p sent + (0 + cond same 1 0)) rest ≡ sent_of p sent ++ sent_by p (count_of p sent) (cond same (next.1 ∷ rest) rest)
sent-one p sent next rest true same =
    append_assoc (sent_of p sent) (next_sent sent next ∷ []) (sent_by p (count_of p sent + 1) rest)
    ∙ ap (λ q. sent_of p sent ++ next_sent sent (q, next.1) ∷ sent_by p (count_of p sent + 1) rest) (eqb-true next.0 p same)
sent-one p sent next rest false same =
    let count : count_of p sent + 0 ≡ count_of p sent = omega arith in
    ap₂ (λ xs n. xs ++ sent_by p n rest) (append-nil (sent_of p sent)) count

sent-after : (p : ℕ) (sent : List Sent) (writes : List (ℕ × Write)) → sent_of p (sent_after sent writes) ≡ sent_of p sent ++ sent_by p (count_of p sent) (writes_by p writes)
sent-after p sent [] = sym (append-nil (sent_of p sent))
sent-after p sent (next ∷ more) =
    let here = next_sent sent next in
    sent-after p (sent ++ here ∷ []) more
    ∙ ap₂ (λ xs n. xs ++ sent_by p n (writes_by p more)) (filter-append (λ (s : Sent). s.from == p) sent (here ∷ [])) (sum_by-append (λ (s : Sent). cond (s.from == p) 1 0) sent (here ∷ []))
    ∙ sent-one p sent next (writes_by p more) (next.0 == p) refl

-- what a producer sends in a round are the writes of its sections in order, numbered from 0
pub sent-by_sections : (round : Round) (p : ℕ) → sent_of p (sent_in_round round) ≡ sent_by p 0 (sections_by p round.sections)
sent-by_sections round p = sent-after p [] (writes_in round.sections) ∙ ap (sent_by p 0) (writes_by-sections p round.sections)

-- ---- the senders

module _ (is_right : ℕ → Bool) where
  right-acts : (q : ℕ) (ws : List Write) → is_right q ≡ true → list_all (λ (x : ℕ × Write). is_right x.0) (map (λ w. (q, w)) ws) ≡ true
  right-acts q [] right = refl
  right-acts q (w ∷ ws) right = ap₂ (λ a b. a && b) right (right-acts q ws right)

  right-writes : (sections : List Section) → list_all (λ (s : Section). is_right s.producer) sections ≡ true → list_all (λ (x : ℕ × Write). is_right x.0) (writes_in sections) ≡ true
  right-writes [] right = refl
  right-writes (s ∷ ss) right =
      let both = and_parts (is_right s.producer) (list_all (λ (s : Section). is_right s.producer) ss) right in
      list_all-append (λ (x : ℕ × Write). is_right x.0) (map (λ w. (s.producer, w)) (acts_of s.acts)) (writes_in ss)
      ∙ ap₂ (λ a b. a && b) (right-acts s.producer (acts_of s.acts) both.0) (right-writes ss both.1)

  right-after : (sent : List Sent) (writes : List (ℕ × Write)) → list_all (λ (s : Sent). is_right s.from) sent ≡ true → list_all (λ (x : ℕ × Write). is_right x.0) writes ≡ true → list_all (λ (s : Sent). is_right s.from) (sent_after sent writes) ≡ true
  right-after sent [] before right = before
  right-after sent (next ∷ more) before right =
      let both = and_parts (is_right next.0) (list_all (λ (x : ℕ × Write). is_right x.0) more) right in
      right-after (sent ++ next_sent sent next ∷ []) more (list_all-append (λ (s : Sent). is_right s.from) sent (next_sent sent next ∷ []) ∙ ap₂ (λ a b. a && (b && true)) before both.0) both.1

-- the sections behind some are among all
own-sections : (front sections : List Section) → list_all (λ (s : Section). has_section (front ++ sections) s.producer) sections ≡ true
own-sections front [] = refl
own-sections front (s ∷ ss) =
    let here : has_section (front ++ s ∷ ss) s.producer ≡ true = list_any-append (λ (t : Section). t.producer == s.producer) front (s ∷ ss) ∙ ap (λ b. has_section front s.producer || (b || has_section ss s.producer)) (eq-eqb s.producer s.producer refl) ∙ or-true (has_section front s.producer) in
    ap₂ (λ a b. a && b) here (ap (λ all. list_all (λ (t : Section). has_section all t.producer) ss) (sym (append_assoc front (s ∷ []) ss)) ∙ own-sections (front ++ s ∷ []) ss)
  where
    or-true : (b : Bool) → (b || true) ≡ true
    or-true true = refl
    or-true false = refl

-- who sends in a round has a section in it
pub senders-have_sections : (round : Round) → list_all (λ (s : Sent). has_section round.sections s.from) (sent_in_round round) ≡ true
senders-have_sections round = right-after (has_section round.sections) [] (writes_in round.sections) refl (right-writes (has_section round.sections) round.sections (own-sections [] round.sections))
