-- What a producer has made, act after act.
use Rattle.std.specs.Prelude.{MatchBool}
use Rattle.std.proofs.Math.Seq.{drop-cons}
use Rattle.std.proofs.Common.{◌≡◌, Bool, true, false, true≢false, ℕ, suc, ◌+◌, ◌<◌, ◌≤◌, List, [], ◌∷◌, ◌++◌, length, drop, get_or, refl, sym, ap, subst, ◌∙◌, arith, append_assoc, length-append}
use Rattle.std.proofs.lemmas.List.{append-nil}
use Rattle.std.specs.List.{AllByRecursion}
use Rattle.intake_queue.specs.ReadWrites.{AreReadWrites, IsReadWrite}
use Rattle.table_schema.specs.declared.write.Write.{Write}
use Rattle.swss_script.specs.Sections.{acts_of, restarts_of}
use Rattle.swss_script.specs.Sent.{sent_by}
use Rattle.swss_script.specs.declared.parts.Act.{Act}
use Rattle.swss_script.specs.declared.parts.Act.TheVariants as act
use Rattle.intake_queue.specs.Values.{IntakeId}
use Rattle.round_actors.specs.declared.actor.Producer.{Producer}
use Rattle.swss_script.specs.declared.parts.Section.{Section}
use Rattle.round_actors.specs.Acts.{CanAct, HasActed, HasActedSome, HasProduced, HasStopped, IsOnWay, own_acts, section_acts}

-- ---- lists

pub sent_by-append : (p n : ℕ) (a b : List Write) → sent_by p n (a ++ b) ≡ sent_by p n a ++ sent_by p (n + length a) b
sent_by-append p n [] b = ap (λ m. sent_by p m b) (omega arith)
sent_by-append p n (w ∷ a) b = ap (λ l. record { from = p; number = n; write = w } ∷ l) (sent_by-append p (n + 1) a b ∙ ap (λ m. sent_by p (n + 1) a ++ sent_by p m b) (omega arith))

pub sent_by-length : (p n : ℕ) (ws : List Write) → length (sent_by p n ws) ≡ length ws
sent_by-length p n [] = refl
sent_by-length p n (w ∷ ws) = ap suc (sent_by-length p (n + 1) ws)

pub acts_of-append : (a b : List Act) → acts_of (a ++ b) ≡ acts_of a ++ acts_of b
acts_of-append [] b = refl
acts_of-append (act.Write w ∷ a) b = ap (λ l. w ∷ l) (acts_of-append a b)
acts_of-append (act.Restart ∷ a) b = acts_of-append a b

pub restarts_of-append : (a b : List Act) → restarts_of (a ++ b) ≡ restarts_of a + restarts_of b
restarts_of-append [] b = omega arith
restarts_of-append (act.Write w ∷ a) b = restarts_of-append a b
restarts_of-append (act.Restart ∷ a) b = let e = restarts_of-append a b in omega arith

pub acts_of-few : (a : List Act) → length (acts_of a) ≤ length a
acts_of-few [] = omega arith
acts_of-few (act.Write w ∷ a) = let e = acts_of-few a in omega arith
acts_of-few (act.Restart ∷ a) = let e = acts_of-few a in omega arith

-- a fact of each of a list, of its front and of its back
pub all-front : {X : Type 0} (P : X → Type 0) (xs ys : List X) → AllByRecursion P (xs ++ ys) → AllByRecursion P xs
all-front P [] ys h = tt
all-front P (x ∷ xs) ys h = (h.0, all-front P xs ys h.1)

pub all-back : {X : Type 0} (P : X → Type 0) (xs ys : List X) → AllByRecursion P (xs ++ ys) → AllByRecursion P ys
all-back P [] ys h = h
all-back P (x ∷ xs) ys h = all-back P xs ys h.1

pub all-both : {X : Type 0} (P : X → Type 0) (xs ys : List X) → AllByRecursion P xs → AllByRecursion P ys → AllByRecursion P (xs ++ ys)
all-both P [] ys h more = more
all-both P (x ∷ xs) ys h more = (h.0, all-both P xs ys h.1 more)

read-middle : (done next rest : List Act) → AreReadWrites (acts_of (done ++ (next ++ rest))) → AreReadWrites (acts_of next)
read-middle done next rest h =
    let behind = all-back IsReadWrite (acts_of done) (acts_of (next ++ rest)) (subst AreReadWrites (acts_of-append done (next ++ rest)) h) in
    all-front IsReadWrite (acts_of next) (acts_of rest) (subst AreReadWrites (acts_of-append next rest) behind)

pub when-true : (P Q : Type 0) (b : Bool) → b ≡ true → MatchBool b P Q → P
when-true P Q true e h = h
when-true P Q false e h = absurd (true≢false (sym e))

pub when-false : (P Q : Type 0) (b : Bool) → b ≡ false → MatchBool b P Q → Q
when-false P Q true e h = absurd (true≢false e)
when-false P Q false e h = h

pub drop-next : {X : Type 0} (xs : List X) (i : ℕ) (x : X) → i < length xs → x ≡ get_or xs i x → drop i xs ≡ x ∷ drop (i + 1) xs
drop-next xs i x within is = drop-cons xs i x within ∙ (λ k. sym is k ∷ drop (one k) xs)
  where
    one : suc i ≡ i + 1
    one = omega arith

pub section-next : (p : ℕ) (sections : List Section) (i : ℕ) (s : Section) → i < length sections → s ≡ get_or sections i s → own_acts p (drop i sections) ≡ section_acts p s ++ own_acts p (drop (i + 1) sections)
section-next p sections i s within is = ap (own_acts p) (drop-next sections i s within is)

-- ---- acts

module _ {J : Type 0} where
  acted-nothing : (x : Producer J) → HasActed [] x x
  acted-nothing x = record {
    queue = refl;
    from = refl;
    number = refl;
    parts = refl;
    stop_parts = refl;
    sent = sym (append-nil x.pass.sent);
    restarts = omega arith;
  }

  pub acted-then : (a b : List Act) (x y z : Producer J) → HasActed a x y → HasActed b y z → HasActed (a ++ b) x z
  acted-then a b x y z h k =
      let f = x.pass.from in
      let n = length x.pass.sent in
      let A = acts_of a in
      let B = acts_of b in
      let long : length y.pass.sent ≡ n + length A = ap length h.sent ∙ length-append x.pass.sent (sent_by f n A) ∙ ap (λ l. n + l) (sent_by-length f n A) in
      let grown : z.pass.sent ≡ (x.pass.sent ++ sent_by f n A) ++ sent_by f (n + length A) B = k.sent ∙ (λ i. h.sent i ++ sent_by (h.from i) (long i) B) in
      let whole : sent_by f n A ++ sent_by f (n + length A) B ≡ sent_by f n (acts_of (a ++ b)) = sym (sent_by-append f n A B) ∙ ap (sent_by f n) (sym (acts_of-append a b)) in
      record {
        queue = k.queue ∙ h.queue;
        from = k.from ∙ h.from;
        number = k.number ∙ h.number;
        parts = k.parts ∙ h.parts;
        stop_parts = k.stop_parts ∙ h.stop_parts;
        sent = grown ∙ append_assoc x.pass.sent (sent_by f n A) (sent_by f (n + length A) B) ∙ ap (λ l. x.pass.sent ++ l) whole;
        restarts = (let r = restarts_of-append a b in let p = h.restarts in let q = k.restarts in omega arith);
      }

  -- ---- on the way through a list of acts

  pub way-begins : (acts : List Act) (x : Producer J) → IsOnWay acts acts x x
  way-begins acts x = record { done = []; whole = refl; made = acted-nothing x }

  pub way-goes : (acts a left : List Act) (x y z : Producer J) → IsOnWay acts (a ++ left) x y → HasActed a y z → IsOnWay acts left x z
  way-goes acts a left x y z h k = record {
    done = h.done ++ a;
    whole = append_assoc h.done a left ∙ h.whole;
    made = acted-then h.done a x y z h.made k;
  }

  pub way-stops : (acts a left : List Act) (x y z : Producer J) → IsOnWay acts (a ++ left) x y → HasActedSome a y z → HasActedSome acts x z
  way-stops acts a left x y z h k = (
    k.0 ++ left,
    record {
      done = h.done ++ k.1.done;
      whole = append_assoc h.done k.1.done (k.0 ++ left) ∙ ap (λ l. h.done ++ l) (sym (append_assoc k.1.done k.0 left) ∙ ap (λ l. l ++ left) k.1.whole) ∙ h.whole;
      made = acted-then h.done k.1.done x y z h.made k.1.made;
    },
  )

  pub way-ends : (acts left : List Act) (x y : Producer J) → left ≡ [] → IsOnWay acts left x y → HasActed acts x y
  way-ends acts left x y none h = subst (λ a. HasActed a x y) (sym (append-nil h.done) ∙ ap (λ l. h.done ++ l) (sym none) ∙ h.whole) h.made

  -- who is on the way may make the next of what is left
  pub way-can : (intake : IntakeId) (acts next rest : List Act) (x y : Producer J) → CanAct intake acts x → IsOnWay acts (next ++ rest) x y → CanAct intake next y
  way-can intake acts next rest x y can h =
      let long = ap length h.made.sent ∙ length-append x.pass.sent (sent_by x.pass.from (length x.pass.sent) (acts_of h.done)) in
      let made = sent_by-length x.pass.from (length x.pass.sent) (acts_of h.done) in
      let less = acts_of-few h.done in
      let all = sym (length-append h.done (next ++ rest)) ∙ ap length h.whole in
      let parted = length-append next rest in
      let room = can.few in
      record {
        queue = h.made.queue ∙ can.queue;
        few = omega arith;
        read = read-middle h.done next rest (subst (λ a. AreReadWrites (acts_of a)) (sym h.whole) can.read);
        parts = ((let p = h.made.parts in let q = can.parts.0 in omega arith), (let p = h.made.stop_parts in let q = can.parts.1 in omega arith));
        number = (let p = h.made.number in let q = can.number in omega arith);
      }

pub produced : {J : Type 0} (sections : List Section) (all : Bool) (old new : Producer J) → MatchBool all (HasActed (own_acts old.number sections) old new) (HasStopped (own_acts old.number sections) old new) → HasProduced sections old new
produced sections true old new h = record {
  some = ([], record { done = own_acts old.number sections; whole = append-nil (own_acts old.number sections); made = h });
  whole = λ e. h;
}
produced sections false old new h = record { some = h.0; whole = λ e. let more = h.1 in absurd (omega arith) }
