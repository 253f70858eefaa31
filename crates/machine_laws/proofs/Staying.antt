-- what was true of a log and of the calls that took effect stays true when more follows
use Rattle.std.proofs.Common.{◌≡◌, ◌⊎◌, ◌+◌, ◌≤◌, ◌∷◌, ◌++◌, inl, inr, ℕ, zero, suc, List, [], length, Option, None, Some, refl, sym, ap, subst, arith}
use Rattle.std.proofs.Math.Seq.{take-length}
use Rattle.std.proofs.lemmas.List.{take-append-le}
use Rattle.sai_types.specs.declared.ids.Rid.{Rid}
use Rattle.sai_types.specs.declared.body.Call.{Call}
use Rattle.sai_types.specs.After.{after_call, after_calls, chip_after}
use Rattle.sai_types.specs.Alike.{IsAlike}
use Rattle.sai_types.specs.Made.{AreLegal, made_after, made_after_all}
use Rattle.sai_types.specs.Objects.{Objects}
use Rattle.sai_types.specs.Refusal.{IsLegal}
use Rattle.table_schema.specs.Plan.{Ports}
use Rattle.table_schema.specs.Rows.{rows_of}
use Rattle.table_schema.specs.declared.write.Sent.{Sent}
use Rattle.switch_model.specs.Desired.{IsClosed, IsThingOf}
use Rattle.switch_model.specs.Good.{good_rows}
use Rattle.switch_model.specs.Marks.{NameFirstKinds, ReasonsAreTrue, applied_rows, sent_writes}
use Rattle.switch_model.specs.Promises.{AreTrueMarks, EndsApply, IsTrueMark, applied_at, good_rows_at}
use Rattle.switch_model.specs.Sound.{AreWithin, IsBefore}
use Rattle.switch_model.specs.declared.mark.Mark.{Mark}
use Rattle.switch_model.specs.declared.mark.MarkEvent.{MarkEvent}
use Rattle.switch_model.specs.declared.mark.MarkEvent.TheVariants as event

pub after_calls-grown : (made : ℕ) (objects : Objects) (cs : List (Call Rid)) (c : Call Rid) → after_calls made objects (cs ++ c ∷ []) ≡ after_call (made_after_all made cs + 1) (after_calls made objects cs) c
after_calls-grown made objects [] c = refl
after_calls-grown made objects (d ∷ cs) c = after_calls-grown (made_after made d) (after_call (made + 1) objects d) cs c

pub legal-grown : (capacities : List ℕ) (made : ℕ) (objects : Objects) (cs : List (Call Rid)) (c : Call Rid) → AreLegal capacities made objects cs → IsLegal capacities (after_calls made objects cs) c → AreLegal capacities made objects (cs ++ c ∷ [])
legal-grown capacities made objects [] c legal one = (one, tt)
legal-grown capacities made objects (d ∷ cs) c (first, legal) one = (first, legal-grown capacities (made_after made d) (after_call (made + 1) objects d) cs c legal one)

pub chip_after-all : (cs : List (Call Rid)) → chip_after cs (length cs) ≡ after_calls 0 [] cs
chip_after-all cs = ap (after_calls 0 []) (take-length cs)

pub chip_after-front : (cs ds : List (Call Rid)) (n : ℕ) → n ≤ length cs → chip_after (cs ++ ds) n ≡ chip_after cs n
chip_after-front cs ds n le = ap (after_calls 0 []) (take-append-le n cs ds le)

pub split : (k n : ℕ) → k ≤ n + 1 → (k ≤ n) ⊎ (k ≡ n + 1)
split zero n le = inl (omega arith)
split (suc k) zero le = inr (omega (arith, le))
split (suc k) (suc n) le = split_more k n (split k n (omega (arith, le)))
  where
    split_more : (k n : ℕ) → (k ≤ n) ⊎ (k ≡ n + 1) → (suc k ≤ suc n) ⊎ (suc k ≡ suc n + 1)
    split_more k n (inl le) = inl (omega (arith, le))
    split_more k n (inr is) = inr (omega (arith, is))

-- marks stay within longer lists
pub within-more : (t u e f : ℕ) (marks : List Mark) → t ≤ u → e ≤ f → AreWithin t e marks → AreWithin u f marks
within-more t u e f [] tu ef within = tt
within-more t u e f (m ∷ marks) tu ef (taken, effects, before, within) = (omega (arith, taken, tu), omega (arith, effects, ef), before, within-more t u e f marks tu ef within)

-- what a mark says stays true where the chip after its effects is the same
true-same : (plan : Ports) (capacities : List ℕ) (taken : List Sent) (es fs : List (Call Rid)) (before : Option Mark) (mark : Mark) (e : MarkEvent) → chip_after fs mark.effects ≡ chip_after es mark.effects → IsTrueMark plan capacities taken es before mark e → IsTrueMark plan capacities taken fs before mark e
true-same plan capacities taken es fs before mark (event.Settled waits turns) same h = record {
  alike = subst (λ o. IsAlike o (IsThingOf plan (applied_at plan taken mark waits))) (sym same) h.alike;
  closed = h.closed;
  order = h.order;
  reasons = h.reasons;
  kinds = h.kinds;
}
true-same plan capacities taken es fs before mark (event.ApplyBegan mode waits) same h = h
true-same plan capacities taken es fs None mark event.ApplyEnded same h = h
true-same plan capacities taken es fs (Some began) mark event.ApplyEnded same h = finished began.event h
  where
    finished : (e : MarkEvent) → EndsApply plan taken es mark began e → EndsApply plan taken fs mark began e
    finished (event.ApplyBegan mode waits) h = subst (λ o. IsAlike o (IsThingOf plan (applied_at plan taken began waits))) (sym same) h
    finished (event.Settled waits turns) h = h
    finished (event.Faulted a b) h = h
    finished event.Restarted h = h
    finished event.ApplyEnded h = h
true-same plan capacities taken es fs before mark (event.Faulted a b) same h = h
true-same plan capacities taken es fs before mark event.Restarted same h = h

pub marks-grown : (plan : Ports) (capacities : List ℕ) (taken : List Sent) (es : List (Call Rid)) (c : Call Rid) (n : ℕ) (before : Option Mark) (marks : List Mark) → AreWithin n (length es) marks → AreTrueMarks plan capacities taken es before marks → AreTrueMarks plan capacities taken (es ++ c ∷ []) before marks
marks-grown plan capacities taken es c n before [] within h = tt
marks-grown plan capacities taken es c n before (m ∷ marks) (a, b, behind, within) (one, h) =
    (true-same plan capacities taken es (es ++ c ∷ []) before m m.event (chip_after-front es (c ∷ []) m.effects b) one, marks-grown plan capacities taken es c n (Some m) marks within h)

-- what was true of the first writes stays true when more are taken
pub good-front : (plan : Ports) (taken : List Sent) (s : Sent) (n : ℕ) → n ≤ length taken → good_rows_at plan (taken ++ s ∷ []) n ≡ good_rows_at plan taken n
good-front plan taken s n le = ap (λ ts. good_rows plan (rows_of (sent_writes ts))) (take-append-le n taken (s ∷ []) le)

module _ (plan : Ports) (capacities : List ℕ) (taken : List Sent) (s : Sent) (es : List (Call Rid)) where
  ended-taken : (began : Mark) (mark : Mark) (e : MarkEvent) → good_rows_at plan (taken ++ s ∷ []) began.taken ≡ good_rows_at plan taken began.taken → EndsApply plan taken es mark began e → EndsApply plan (taken ++ s ∷ []) es mark began e
  ended-taken began mark (event.ApplyBegan mode waits) same h = subst (λ g. IsAlike (chip_after es mark.effects) (IsThingOf plan (applied_rows waits g))) (sym same) h
  ended-taken began mark (event.Settled waits turns) same h = h
  ended-taken began mark (event.Faulted a b) same h = h
  ended-taken began mark event.Restarted same h = h
  ended-taken began mark event.ApplyEnded same h = h

  true-taken : (before : Option Mark) (mark : Mark) (e : MarkEvent) → ((b : Mark) → before ≡ Some b → b.taken ≤ length taken) → mark.taken ≤ length taken → IsTrueMark plan capacities taken es before mark e → IsTrueMark plan capacities (taken ++ s ∷ []) es before mark e
  true-taken before mark (event.Settled waits turns) least le h =
      let same = sym (good-front plan taken s mark.taken le) in
      record {
        alike = subst (λ g. IsAlike (chip_after es mark.effects) (IsThingOf plan (applied_rows waits g))) same h.alike;
        closed = subst (λ g. IsClosed (applied_rows waits g)) same h.closed;
        order = h.order;
        reasons = subst (λ g. ReasonsAreTrue plan capacities g (applied_rows waits g) waits) same h.reasons;
        kinds = subst (λ g. NameFirstKinds plan capacities g (applied_rows waits g) waits) same h.kinds;
      }
  true-taken before mark (event.ApplyBegan mode waits) least le h =
      let same = sym (good-front plan taken s mark.taken le) in
      record {
        closed = subst (λ g. IsClosed (applied_rows waits g)) same h.closed;
        order = h.order;
        reasons = subst (λ g. ReasonsAreTrue plan capacities g (applied_rows waits g) waits) same h.reasons;
        absent = h.absent;
      }
  true-taken None mark event.ApplyEnded least le h = h
  true-taken (Some began) mark event.ApplyEnded least le h = ended-taken began mark began.event (good-front plan taken s began.taken (least began refl)) h
  true-taken before mark (event.Faulted a b) least le h = tt
  true-taken before mark event.Restarted least le h = tt

  pub marks-taken : (n : ℕ) (before : Option Mark) (marks : List Mark) → ((b : Mark) → before ≡ Some b → b.taken ≤ length taken) → AreWithin (length taken) n marks → AreTrueMarks plan capacities taken es before marks → AreTrueMarks plan capacities (taken ++ s ∷ []) es before marks
  marks-taken n before [] least within h = tt
  marks-taken n before (m ∷ marks) least (a, b, behind, within) (one, h) =
      (true-taken before m m.event least a one, marks-taken n (Some m) marks (λ b e. subst (λ x. x ≤ length taken) (ap Mark.taken (some-is m b e)) a) within h)
    where
      some-is : (x y : Mark) → Some x ≡ Some y → x ≡ y
      some-is x y e = cc

pub marks-more : (plan : Ports) (capacities : List ℕ) (taken : List Sent) (es : List (Call Rid)) (mark : Mark) (before : Option Mark) (marks : List Mark) → ((b : Option Mark) → IsTrueMark plan capacities taken es b mark mark.event) → AreTrueMarks plan capacities taken es before marks → AreTrueMarks plan capacities taken es before (marks ++ mark ∷ [])
marks-more plan capacities taken es mark before [] one h = (one before, tt)
marks-more plan capacities taken es mark before (m ∷ marks) one (first, h) = (first, marks-more plan capacities taken es mark (Some m) marks one h)

before-mark : (m mark : Mark) (marks : List Mark) → m.taken ≤ mark.taken → m.effects ≤ mark.effects → IsBefore m marks → IsBefore m (marks ++ mark ∷ [])
before-mark m mark [] a b before = (a, b)
before-mark m mark (next ∷ marks) a b before = before

-- a mark that counts all that there is stands behind the others
pub within-mark : (t e : ℕ) (mark : Mark) (marks : List Mark) → mark.taken ≡ t → mark.effects ≡ e → AreWithin t e marks → AreWithin t e (marks ++ mark ∷ [])
within-mark t e mark [] a b within = (omega (arith, a), omega (arith, b), tt, tt)
within-mark t e mark (m ∷ marks) a b (c, d, before, within) = (c, d, before-mark m mark marks (omega (arith, a, c)) (omega (arith, b, d)) before, within-mark t e mark marks a b within)

pub map-more : (taken : List Sent) (s : Sent) → sent_writes (taken ++ s ∷ []) ≡ sent_writes taken ++ (s.write ∷ [])
map-more [] s = refl
map-more (x ∷ xs) s = ap (λ z. x.write ∷ z) (map-more xs s)

pub made-one : (made : ℕ) (cs : List (Call Rid)) (c : Call Rid) → made_after_all made (cs ++ c ∷ []) ≡ made_after (made_after_all made cs) c
made-one made [] c = refl
made-one made (d ∷ cs) c = made-one (made_after made d) cs c
