-- Each move keeps the queue's rule, and what passes learn of it.
use Rattle.std.proofs.Common.{◌≡◌, ◌≢◌, ℕ, ◌+◌, ◌<◌, ◌≤◌, true, inl, inr, ⊎_elim, List, [], ◌∷◌, ◌++◌, length, map, set, refl, sym, ap, ◌∙◌, subst, arith, true≢false, length-append, append_assoc, lt_of_not-le}
use mathlib.Core.Option.{Option, some, none, some-ne-none, some-injective}
use lib.ListN.{get_elem?}
use Rattle.crossbeam_queue.proofs.Lists.{at_set}
use Rattle.crossbeam_queue.specs.Fifo.{Pushes, Pops, Forks, Merges, Learns}
use Rattle.table_schema.specs.declared.write.Sent.{Sent}
use Rattle.intake_queue.specs.declared.known.Known.{Known}
use Rattle.table_schema.specs.SentBy.{sent_of}
use Rattle.intake_queue.specs.ReadWrites.{AreReadWrites, IsReadWrite}
use Rattle.intake_queue.specs.Writes.{IsNumbered, IsOther}
use Rattle.intake_queue.specs.Rule.{IsInOrder, FitsProducer, FitsTaker, producer, taker, nobody, without_part, only_part, with_part, one_more, after_send, after_receipt, IsReceived, IsHalfway, IsWholePass, IsNumberedOn, HasNoOthers}
use Rattle.intake_queue.specs.Values.{IsFront}
use Rattle.intake_queue.proofs.Writes.{sent_of-append, sent_of-around, sent_of-grown, sent_of-few, grown, grown-own, grown-other, numbered-at, numbered-grown, not_empty, empty_front}
use Rattle.intake_queue.proofs.Views.{All, all_none, all_set, all_snoc, moved, moved-here, moved-else, moved-stays, moved-free}

-- ---- pushes and pops

read_grown : (ws : List Sent) (x : Sent) → AreReadWrites (map (λ s. s.write) ws) → IsReadWrite x.write → AreReadWrites (map (λ s. s.write) (ws ++ x ∷ []))
read_grown [] x h one = (one, tt)
read_grown (w ∷ ws) x h one = (h.0, read_grown ws x h.1 one)

pub sends : (n pass : ℕ) (v : Known) (x : Sent) → n ≤ 1024 → v.sends ≡ true → x.from ≡ v.from → x.number ≡ length v.sent → IsReadWrite x.write → Pushes IsInOrder n pass v x (λ w. w ≡ after_send v x)
sends n pass v x few may from number read queued views space h at =
    let mine = h.producers pass v at may in
    let sent : ℕ → List Sent = λ p. grown x p (h.sent p) in
    let unsent : (p : ℕ) → (h.seat p ≡ none) × (h.sent p ≡ []) → (h.seat p ≡ none) × (sent p ≡ []) = λ p o.
    (o.0, grown-other x p (h.sent p) (λ same. some-ne-none pass (sym mine.0 ∙ ap h.seat (sym from ∙ same) ∙ o.0)) ∙ o.1) in (
      after_send v x,
      record {
        reader = h.reader;
        seat = h.seat;
        sent = sent;
        received = h.received;
        balance = λ p. sent_of-grown p h.received queued x ∙ ap (grown x p) (h.balance p);
        numbered = λ p. numbered-grown x p (h.sent p) (h.numbered p) (λ s. number ∙ ap length (mine.1 ∙ ap h.sent (sym from ∙ s)));
        room = (let l = length-append queued (x ∷ []) in omega arith);
        read = read_grown queued x h.read read;
        producers = all_set (FitsProducer h.seat sent) views pass (after_send v x) (λ _. (mine.0, ap (λ l. l ++ x ∷ []) mine.1 ∙ sym (grown-own x v.from (h.sent v.from) from)))
            (λ j u other e s. let yours = h.producers j u e s in (yours.0, yours.1 ∙ sym (grown-other x u.from (h.sent u.from) (λ same. other (some-injective j pass (sym yours.0 ∙ ap h.seat (sym same ∙ from) ∙ mine.0))))));
        takers = all_set (FitsTaker h.reader h.seat sent h.received) views pass (after_send v x) (λ t. let its = h.takers pass v at t in (its.0, its.1, λ p o. unsent p (its.2 p o))) (λ j u other e t. let yours = h.takers j u e t in (yours.0, yours.1, λ p o. unsent p (yours.2 p o)));
      },
      refl,
    )

pub pops_in_order : (pass : ℕ) (v : Known) → v.takes ≡ true → Pops IsInOrder pass v (IsReceived v)
pops_in_order pass v may x queued views h at =
    let mine = h.takers pass v at may in
    let received : List Sent = h.received ++ x ∷ [] in
    let around = sent_of-around h.received x queued in
    let no : IsOther v.made x.from → ⊥ = λ o. not_empty (sent_of x.from h.received) x (sent_of x.from queued) (sym around ∙ h.balance x.from ∙ (mine.2 x.from o).1) in (
      after_receipt v x,
      record {
        reader = h.reader;
        seat = h.seat;
        sent = h.sent;
        received = received;
        balance = λ p. ap (sent_of p) (append_assoc h.received (x ∷ []) queued) ∙ h.balance p;
        numbered = h.numbered;
        room = (let r = h.room in omega arith);
        read = h.read.1;
        producers = all_set (FitsProducer h.seat h.sent) views pass (after_receipt v x) (h.producers pass v at) (λ j u other e. h.producers j u e);
        takers = all_set (FitsTaker h.reader h.seat h.sent received) views pass (after_receipt v x) (λ _. (mine.0, ap (λ l. l ++ x ∷ []) mine.1, mine.2))
            (λ j u other e t. absurd (other ((h.takers j u e t).0 ∙ sym mine.0)));
      },
      (
        refl,
        lt_of_not-le (λ (z : x.from ≤ 0). no (inl (omega arith))),
        (let l = lt_of_not-le (λ (z : v.made + 1 ≤ x.from). no (inr (omega arith))) in omega arith),
        (let n = numbered-at 0 (sent_of x.from h.received) x (sent_of x.from queued) (subst (IsNumbered 0) (sym (h.balance x.from) ∙ around) (h.numbered x.from)) in
            let m = ap (λ l. length (sent_of x.from l)) mine.1 in omega arith),
        h.read.0,
      ),
    )

-- ---- lessons

pub halfway : (pass : ℕ) (v : Known) → v.sends ≡ true → Learns IsInOrder pass v (IsHalfway v)
halfway pass v may queued views h at = (h.received, h.balance v.from ∙ sym (h.producers pass v at may).1)

pub numbered_on : (pass : ℕ) (v : Known) → v.takes ≡ true → Learns IsInOrder pass v (IsNumberedOn v)
numbered_on pass v may queued views h at p = subst (IsNumbered 0) (sym (h.balance p) ∙ ap (λ l. sent_of p (l ++ queued)) (sym (h.takers pass v at may).1)) (h.numbered p)

pub whole : (pass : ℕ) (v : Known) → v.takes ≡ true → v.sends ≡ true → Learns IsInOrder pass v (IsWholePass v)
whole pass v takes sends queued views h at = (ap (λ l. sent_of v.from (l ++ queued)) (h.takers pass v at takes).1 ∙ h.balance v.from ∙ sym (h.producers pass v at sends).1, h.room)

pub no_others : (pass : ℕ) (v : Known) → v.takes ≡ true → Learns IsInOrder pass v (HasNoOthers v)
no_others pass v may queued views h at p o = let mine = h.takers pass v at may in
    ap (sent_of p) mine.1 ∙ empty_front (sent_of p h.received) (sent_of p queued) (sym (sent_of-append p h.received queued) ∙ h.balance p ∙ (mine.2 p o).1)

-- what this says of what was received
pub front_of_whole : (v : Known) (queued : List Sent) (from : ℕ) (received sent : List Sent) → IsWholePass v queued → v.from ≡ from → v.received ≡ received → v.sent ≡ sent → IsFront (sent_of from received) sent
front_of_whole v queued from received sent h a b c = let few = sent_of-few from queued in let room = h.1 in record {
  queued = sent_of from queued;
  whole = sym (sent_of-append from received queued) ∙ (λ i. sent_of (sym a i) (sym b i ++ queued)) ∙ h.0 ∙ c;
  few = omega arith;
}

-- ---- passes

pub begins : IsInOrder [] (taker 0 [] ∷ [])
begins = record {
  reader = 0;
  seat = λ _. none;
  sent = λ _. [];
  received = [];
  balance = λ p. refl;
  numbered = λ p. tt;
  room = omega arith;
  read = tt;
  producers = all_snoc (FitsProducer (λ _. none) (λ _. [])) [] (taker 0 []) (λ s. absurd (true≢false (sym s))) (all_none _);
  takers = all_snoc (FitsTaker 0 (λ _. none) (λ _. []) []) [] (taker 0 []) (λ _. (refl, refl, λ p o. (refl, refl))) (all_none _);
}

pub opens : (pass : ℕ) (v : Known) → v.takes ≡ true → Forks IsInOrder pass v (one_more v) (producer (v.made + 1) [])
opens pass v may queued views h at =
    let mine = h.takers pass v at may in
    let free = mine.2 (v.made + 1) (inr (omega arith)) in
    let vs : List Known = set views pass (one_more v) in
    let seat : ℕ → Option ℕ = moved (v.made + 1) (length vs) h.seat in
    let kept : (p j : ℕ) → h.seat p ≡ some j → seat p ≡ some j = λ p j e. moved-else (v.made + 1) (length vs) h.seat p (λ same. some-ne-none j (sym e ∙ ap h.seat (sym same) ∙ free.0)) ∙ e in
    record {
      reader = h.reader;
      seat = seat;
      sent = h.sent;
      received = h.received;
      balance = h.balance;
      numbered = h.numbered;
      room = h.room;
      read = h.read;
      producers = all_snoc (FitsProducer seat h.sent) vs (producer (v.made + 1) []) (λ _. (moved-here (v.made + 1) (length vs) h.seat, sym free.1))
          (all_set (FitsProducer seat h.sent) views pass (one_more v)
          (λ s. let yours = h.producers pass v at s in (kept v.from pass yours.0, yours.1))
          (λ j u other e s. let yours = h.producers j u e s in (kept u.from j yours.0, yours.1)));
      takers = all_snoc (FitsTaker h.reader seat h.sent h.received) vs (producer (v.made + 1) []) (λ s. absurd (true≢false (sym s)))
          (all_set (FitsTaker h.reader seat h.sent h.received) views pass (one_more v)
          (λ _. (
            mine.0,
            mine.1,
            λ p o. let less : IsOther v.made p = ⊎_elim (λ z. inl z) (λ l. inr (omega arith)) o in
                (moved-else (v.made + 1) (length vs) h.seat p (λ same. ⊎_elim (λ (z : p ≡ 0). omega arith) (λ (l : v.made + 1 < p). omega arith) o) ∙ (mine.2 p less).0, (mine.2 p less).1),
          ))
          (λ j u other e t. absurd (other ((h.takers j u e t).0 ∙ sym mine.0))));
    }

pub lends : (pass : ℕ) (v : Known) → v.sends ≡ true → Forks IsInOrder pass v (without_part v) (only_part v)
lends pass v may queued views h at =
    let mine = h.producers pass v at may in
    let vs : List Known = set views pass (without_part v) in
    let seat : ℕ → Option ℕ = moved v.from (length vs) h.seat in
    let Takes : ℕ → Known → Type 0 = FitsTaker h.reader seat h.sent h.received in
    let takes : (j : ℕ) (u : Known) → get_elem? views j ≡ some u → Takes j u = λ j u e t. let its = h.takers j u e t in
    (its.0, its.1, λ p o. (moved-free v.from (length vs) h.seat pass p mine.0 (its.2 p o).0, (its.2 p o).1)) in
    record {
      reader = h.reader;
      seat = seat;
      sent = h.sent;
      received = h.received;
      balance = h.balance;
      numbered = h.numbered;
      room = h.room;
      read = h.read;
      producers = all_snoc (FitsProducer seat h.sent) vs (only_part v) (λ _. (moved-here v.from (length vs) h.seat, mine.1))
          (all_set (FitsProducer seat h.sent) views pass (without_part v) (λ s. absurd (true≢false (sym s)))
          (λ j u other e s. let yours = h.producers j u e s in (moved-stays v.from (length vs) h.seat pass u.from j mine.0 other yours.0, yours.1)));
      takers = all_snoc Takes vs (only_part v) (λ s. absurd (true≢false (sym s))) (all_set Takes views pass (without_part v) (takes pass v at) (λ j u other. takes j u));
    }

pub joins : (pass : ℕ) (v : Known) (other : ℕ) (w : Known) → w.sends ≡ true → Merges IsInOrder pass v other w (with_part v w) nobody
joins pass v other w may queued views h at two at' =
    let vs : List Known = set views pass (with_part v w) in
    let was : get_elem? views other ≡ some w = ⊎_elim (λ x. absurd (two x.0)) (λ x. x.1) (at_set views pass other (with_part v w) w at') in
    let theirs = h.producers other w was may in
    let seat : ℕ → Option ℕ = moved w.from pass h.seat in
    let Sends : ℕ → Known → Type 0 = λ j u. j ≢ other → FitsProducer seat h.sent j u in
    let Takes : ℕ → Known → Type 0 = FitsTaker h.reader seat h.sent h.received in
    let takes : (j : ℕ) (u : Known) → get_elem? views j ≡ some u → Takes j u = λ j u e t. let its = h.takers j u e t in
    (its.0, its.1, λ p o. (moved-free w.from pass h.seat other p theirs.0 (its.2 p o).0, (its.2 p o).1)) in
    let senders : All Sends vs = all_set Sends views pass (with_part v w) (λ _ _. (moved-here w.from pass h.seat, theirs.1))
    (λ j u apart e two' s. let yours = h.producers j u e s in (moved-stays w.from pass h.seat other u.from j theirs.0 two' yours.0, yours.1)) in
    let readers : All Takes vs = all_set Takes views pass (with_part v w) (takes pass v at) (λ j u apart. takes j u) in
    record {
      reader = h.reader;
      seat = seat;
      sent = h.sent;
      received = h.received;
      balance = h.balance;
      numbered = h.numbered;
      room = h.room;
      read = h.read;
      producers = all_set (FitsProducer seat h.sent) vs other nobody (λ s. absurd (true≢false (sym s))) (λ j u apart e. senders j u e apart);
      takers = all_set Takes vs other nobody (λ s. absurd (true≢false (sym s))) (λ j u apart e. readers j u e);
    }
