-- each call is paid for: by a write that was taken, or by a key that was listed
use Rattle.std.proofs.Common.{◌≡◌, ◌⊎◌, ◌+◌, ◌*◌, ◌≤◌, ◌<◌, ◌++◌, ◌∷◌, ◌∙◌, inl, inr, ℕ, zero, suc, List, [], length, take, Option, None, Some, refl, sym, ap, subst, arith}
use Rattle.std.proofs.lemmas.List.{length-append}
use Rattle.table_schema.specs.Plan.{IsPlan, Ports}
use Rattle.table_schema.specs.Rows.{fields_at, rows_of}
use Rattle.table_schema.specs.declared.key.Key.{Key}
use Rattle.sai_types.specs.declared.ids.Rid.{Rid}
use Rattle.sai_types.specs.declared.body.Call.{Call}
use Rattle.sai_types.specs.Alike.{IsIn}
use Rattle.switch_model.specs.Marks.{written_key}
use Rattle.switch_model.specs.Placed.{bare_rows, router_in}
use Rattle.row_layout.specs.Operations.{Change, shared_going, take_all}
use Rattle.row_layout.specs.Rows.{Owner}
use Rattle.switch_machine.specs.Events.{AreAnswers, AreEvents, Due, Ended, Follows, IsAnswer, IsBegin, IsDrop, IsDueCall, IsEvent, IsPop, IsQuiet, IsSafe, IsTake, Left, Popped, PopsKey, Retires, Stays, SwitchState, after_events, calls_of, empty_switch, with_made_call}
use Rattle.switch_machine.specs.Flights.{MachineFlight, Machine, put}
use Rattle.switch_machine.specs.Places.{sum_below}
use Rattle.switch_machine.specs.Steps.{finished, left, moved, parted, started}
use Rattle.switch_machine.specs.Written.{HasNoWrite, good_of}
use Rattle.switch_machine.proofs.Roomy.{sum_least, sum_put}
use Rattle.switch_machine.proofs.Runs.{kept-empty, kept-run}
use Rattle.switch_machine.proofs.Splits.{IsSplit, key_split, put_at, put_off}
use Rattle.switch_machine.proofs.Placing.{placed_row}
use Rattle.machine_laws.proofs.Completing.{going_length}
use Rattle.machine_laws.proofs.Few.{HasReadRow, operation-few}
use Rattle.machine_laws.proofs.Sharing.{fields_beside}

-- ---- what is still to be done for operations

-- what is due for an operation, and what it may retire
abbrev pub left_of : Option MachineFlight → List Change → ℕ
left_of None due = 0
left_of (Some f) due = length due + going_length f.leaves

abbrev pub left_for : Machine → ℕ → ℕ
left_for m w = left_of (m.board.flights w) (m.due w)

abbrev pub left_in : ℕ → Machine → ℕ
left_in workers m = sum_below workers (left_for m)

same_parts_left : (f g : Option MachineFlight) (d e : List Change) → f ≡ g → d ≡ e → left_of f d ≡ left_of g e
same_parts_left f g d e a b = ap (λ z. left_of z d) a ∙ ap (left_of g) b

module _ (workers w : ℕ) (below : w < workers) where
  -- of one worker alone it changes
  one_worker : (m later : Machine) → ((v : ℕ) → (v ≡ w → ⊥) → later.board.flights v ≡ m.board.flights v) → ((v : ℕ) → (v ≡ w → ⊥) → later.due v ≡ m.due v) → left_in workers later + left_for m w ≡ left_in workers m + left_for later w
  one_worker m later flights due = sum_put workers w (left_for m) (left_for later) below (λ v other. same_parts_left (m.board.flights v) (later.board.flights v) (m.due v) (later.due v) (sym (flights v other)) (sym (due v other)))

  started_left : (m : Machine) (f : MachineFlight) (due : List Change) → left_in workers (started m w f due) ≤ left_in workers m + (length due + going_length f.leaves)
  started_left m f due =
      let sum = one_worker m (started m w f due) (λ v other. put_off w v (Some f) m.board.flights other) (λ v other. put_off w v due m.due other) in
      let now = same_parts_left (put w (Some f) m.board.flights w) (Some f) (put w due m.due w) due (put_at w w (Some f) m.board.flights refl) (put_at w w due m.due refl) in
      omega (arith, sum, now)

  finished_left : (m : Machine) (f : MachineFlight) → left_in workers (finished m w f) ≤ left_in workers m
  finished_left m f =
      let sum = one_worker m (finished m w f) (λ v other. put_off w v None m.board.flights other) (λ v other. refl) in
      let now = same_parts_left (put w None m.board.flights w) None (m.due w) (m.due w) (put_at w w None m.board.flights refl) refl in
      omega (arith, sum, now)

  left_left : (m : Machine) (f : MachineFlight) (retires : Option Owner) (due : List Change) → m.board.flights w ≡ Some f → length due ≤ going_length f.leaves → left_in workers (left m w f retires due) ≤ left_in workers m
  left_left m f retires due at few =
      let sum = one_worker m (left m w f retires due) (λ v other. put_off w v (Some (parted f retires)) m.board.flights other) (λ v other. put_off w v due m.due other) in
      let was = same_parts_left (m.board.flights w) (Some f) (m.due w) (m.due w) at refl in
      let now = same_parts_left (put w (Some (parted f retires)) m.board.flights w) (Some (parted f retires)) (put w due m.due w) due (put_at w w (Some (parted f retires)) m.board.flights refl) (put_at w w due m.due refl) in
      omega (arith, sum, was, now, few)

  -- what follows an event leaves no more to do
  follows_left : (plan : Ports) (m later : Machine) → Follows plan w m later → left_in workers later ≤ left_in workers m
  follows_left plan m _ (Due c cs at) = omega arith
  follows_left plan m _ (Ended f ends) = finished_left m f
  follows_left plan m _ (Left f o x) =
      let first = left_left m f f.retires [] x.leaving.flying (omega arith) in
      let last = finished_left (left m w f f.retires []) (parted f f.retires) in
      omega (arith, first, last)
  follows_left plan m _ (Retires f o x) = let same = ap going_length x.leaving.leaves in left_left m f (Some o) (take_all (shared_going o) []) x.leaving.flying (omega (arith, same))

  moved_left : (m : Machine) (f : MachineFlight) (c : Change) (cs : List Change) (stands : _) → m.board.flights w ≡ Some f → m.due w ≡ c ∷ cs → left_in workers (moved m w cs stands) + 1 ≤ left_in workers m
  moved_left m f c cs stands at due =
      let sum = one_worker m (moved m w cs stands) (λ v other. refl) (λ v other. put_off w v cs m.due other) in
      let was = same_parts_left (m.board.flights w) (Some f) (m.due w) (c ∷ cs) at due in
      let now = same_parts_left (m.board.flights w) (Some f) (put w cs m.due w) cs at (put_at w w cs m.due refl) in
      omega (arith, sum, was, now)

-- where a call is due something is left to do
pub due-left : (workers : ℕ) (s : SwitchState) (call : Call Rid) → IsDueCall workers call s → 1 ≤ left_in workers s.machine
due-left workers s call x =
    let least = sum_least workers x.worker (left_for s.machine) x.below in
    let is = same_parts_left (s.machine.board.flights x.worker) (Some x.flight) (s.machine.due x.worker) (x.change ∷ x.rest) x.flying x.due in
    omega (arith, least, is)

-- an operation that begins leaves at most so much more to do
pub begun-left : (plan : Ports) (workers : ℕ) (capacities : List ℕ) (s t : SwitchState) → IsSafe plan workers capacities s → IsBegin plan workers capacities s t → left_in workers t.machine ≤ left_in workers s.machine + 259
begun-left plan workers capacities s t kept x =
    let start = started_left workers x.worker x.below s.machine x.flight x.due in
    let follow = follows_left workers x.worker x.below plan (started s.machine x.worker x.flight x.due) t.machine x.follows in
    let few = operation-few plan s.machine x.worker x.flight x.due x.begins old new in
    omega (arith, start, follow, few)
  where
    k : Key
    k = x.flight.key

    old : HasReadRow plan k (s.machine.board.applied k)
    old r at = let y = kept.good k r (inl at) in (fields_at (rows_of (take y.0 s.written.taken)) k, y.2)

    new : HasReadRow plan k x.flight.new
    new r at = (s.written.rows k, placed_row (router_in (bare_rows s.machine.board.applied) k) (good_of plan s.written k) r (sym x.new ∙ at))

-- ---- credit

-- so many calls were made, and so many keys listed: with what is left to do for operations, and an operation for each key that is to sync or of which a write waits, the calls are at most so many for each write taken and each key listed
pub record IsPaid (workers : ℕ) (c : SwitchState) (calls listed : ℕ) : Type 0 where
  pub pending : List Key
  pub begins : List Key
  pub waits : (k : Key) → IsIn k pending ⊎ HasNoWrite c.written k
  pub covers : (k : Key) → IsIn k c.to_sync → IsIn k begins
  pub enough : calls + left_in workers c.machine + 259 * (length begins + length pending) ≤ 259 * (length c.written.taken + listed)

-- one key less
without_key : (k : Key) (ks : List Key) → IsIn k ks → (less : List Key) × (length less + 1 ≡ length ks) × ((q : Key) → IsIn q ks → (q ≡ k) ⊎ IsIn q less)
without_key k [] h = elim h [ ]
without_key k (x ∷ xs) (inl e) = (xs, omega arith, by)
  where
    by : (q : Key) → IsIn q (x ∷ xs) → (q ≡ k) ⊎ IsIn q xs
    by q (inl same) = inl (same ∙ sym e)
    by q (inr h) = inr h
without_key k (x ∷ xs) (inr h) = let r = without_key k xs h in let number = r.1 in (x ∷ r.0, omega (arith, number), by r.0 r.2)
  where
    by : (less : List Key) → ((q : Key) → IsIn q xs → (q ≡ k) ⊎ IsIn q less) → (q : Key) → IsIn q (x ∷ xs) → (q ≡ k) ⊎ IsIn q (x ∷ less)
    by less rest q (inl same) = inr (inl same)
    by less rest q (inr g) = elim (rest q g) [ inl e ↦ inl e | inr there ↦ inr (inr there) ]

in_first : (q : Key) (xs ys : List Key) → IsIn q xs → IsIn q (xs ++ ys)
in_first q [] ys h = elim h [ ]
in_first q (x ∷ xs) ys (inl e) = inl e
in_first q (x ∷ xs) ys (inr h) = inr (in_first q xs ys h)

in_second : (q : Key) (xs ys : List Key) → IsIn q ys → IsIn q (xs ++ ys)
in_second q [] ys h = h
in_second q (x ∷ xs) ys h = inr (in_second q xs ys h)

-- keys of which some are popped
record Parted (s t : SwitchState) (ks : List Key) : Type 0 where
  popped : List Key
  stays : List Key
  number : length popped + length stays ≡ length ks
  each : (q : Key) → IsIn q ks → IsIn q popped ⊎ IsIn q stays
  none : (q : Key) → IsIn q popped → HasNoWrite t.written q
  back : (q : Key) → IsIn q stays → IsIn q t.to_sync → IsIn q s.to_sync

part : (s t : SwitchState) → ((k : Key) → PopsKey s t k) → (ks : List Key) → Parted s t ks
part s t pops [] = record { popped = []; stays = []; number = refl; each = λ q h. elim h [ ]; none = λ q h. elim h [ ]; back = λ q h. elim h [ ] }
part s t pops (k ∷ ks) = by (pops k) (part s t pops ks)
  where
    by : PopsKey s t k → Parted s t ks → Parted s t (k ∷ ks)
    by (Stays same out) x = record { popped = x.popped; stays = k ∷ x.stays; number = (let n = x.number in omega (arith, n)); each = each; none = x.none; back = back }
      where
        each : (q : Key) → IsIn q (k ∷ ks) → IsIn q x.popped ⊎ IsIn q (k ∷ x.stays)
        each q (inl e) = inr (inl e)
        each q (inr h) = elim (x.each q h) [ inl p ↦ inl p | inr n ↦ inr (inr n) ]

        back : (q : Key) → IsIn q (k ∷ x.stays) → IsIn q t.to_sync → IsIn q s.to_sync
        back q (inl e) h = subst (λ z. IsIn z s.to_sync) (sym e) (out (subst (λ z. IsIn z t.to_sync) e h))
        back q (inr n) h = x.back q n h
    by (Popped had now there) x = record { popped = k ∷ x.popped; stays = x.stays; number = (let n = x.number in omega (arith, n)); each = each; none = none; back = x.back }
      where
        each : (q : Key) → IsIn q (k ∷ ks) → IsIn q (k ∷ x.popped) ⊎ IsIn q x.stays
        each q (inl e) = inl (inl e)
        each q (inr h) = elim (x.each q h) [ inl p ↦ inl (inr p) | inr n ↦ inr n ]

        none : (q : Key) → IsIn q (k ∷ x.popped) → HasNoWrite t.written q
        none q (inl e) = subst (HasNoWrite t.written) (sym e) now.none
        none q (inr p) = x.none q p

-- ---- each event is paid for

module _ (plan : Ports) (workers : ℕ) (capacities : List ℕ) (s t : SwitchState) (calls listed : ℕ) (paid : IsPaid workers s calls listed) where
  taken_same : t.written ≡ s.written → length t.written.taken ≡ length s.written.taken
  taken_same e = ap (λ (z : _). length z.taken) e

  pub paid-take : IsTake s t → IsPaid workers t calls listed
  paid-take x = record {
    pending = written_key x.write ∷ paid.pending;
    begins = paid.begins;
    waits = λ k. by k (key_split k (written_key x.write)) (paid.waits k);
    covers = λ k h. paid.covers k (subst (IsIn k) x.to_sync h);
    enough =
        let was = paid.enough in
        let same = ap (left_in workers) x.machine in
        let more = ap length x.taken.taken ∙ length-append s.written.taken (x.write ∷ []) in
        omega (arith, was, same, more);
  }
    where
      by : (k : Key) → IsSplit k (written_key x.write) → IsIn k paid.pending ⊎ HasNoWrite s.written k → IsIn k (written_key x.write ∷ paid.pending) ⊎ HasNoWrite t.written k
      by k (inl e) _ = inl (inl e)
      by k (inr other) (inl h) = inl (inr h)
      by k (inr other) (inr none) = inr (λ o. x.taken.waiting k o ∙ fields_beside x.write k (s.written.waiting k o) (λ e. other (sym e)) ∙ none o)

  pub paid-pop : IsPop s t → IsPaid workers t calls listed
  paid-pop x = record {
    pending = p.stays;
    begins = p.popped ++ paid.begins;
    waits = λ k. waits k (paid.waits k);
    covers = λ k h. covers k h (paid.waits k);
    enough =
        let was = paid.enough in
        let same = ap (left_in workers) x.machine in
        let taken = ap length x.taken in
        let number = p.number in
        let sum = length-append p.popped paid.begins in
        omega (arith, was, same, taken, number, sum);
  }
    where
      p : Parted s t paid.pending
      p = part s t x.keys paid.pending

      waits_none : (k : Key) → HasNoWrite s.written k → PopsKey s t k → HasNoWrite t.written k
      waits_none k none (Stays same out) o = same.waiting o ∙ none o
      waits_none k none (Popped had now there) o = now.none o

      waits : (k : Key) → IsIn k paid.pending ⊎ HasNoWrite s.written k → IsIn k p.stays ⊎ HasNoWrite t.written k
      waits k (inl h) = elim (p.each k h) [ inl popped ↦ inr (p.none k popped) | inr stays ↦ inl stays ]
      waits k (inr none) = inr (waits_none k none (x.keys k))

      covers_none : (k : Key) → IsIn k t.to_sync → HasNoWrite s.written k → PopsKey s t k → IsIn k (p.popped ++ paid.begins)
      covers_none k h none (Stays same out) = in_second k p.popped paid.begins (paid.covers k (out h))
      covers_none k h none (Popped had now there) = absurd (had none)

      covers : (k : Key) → IsIn k t.to_sync → IsIn k paid.pending ⊎ HasNoWrite s.written k → IsIn k (p.popped ++ paid.begins)
      covers k h (inl pending) = elim (p.each k pending) [ inl popped ↦ in_first k p.popped paid.begins popped | inr stays ↦ in_second k p.popped paid.begins (paid.covers k (p.back k stays h)) ]
      covers k h (inr none) = covers_none k h none (x.keys k)

  pub paid-drop : IsDrop plan s t → IsPaid workers t calls listed
  paid-drop x = record {
    pending = paid.pending;
    begins = paid.begins;
    waits = λ k. subst (λ z. IsIn k paid.pending ⊎ HasNoWrite z k) (sym x.written) (paid.waits k);
    covers = λ k h. paid.covers k (x.to_sync.only k h);
    enough =
        let was = paid.enough in
        let same = ap (left_in workers) x.machine in
        let taken = taken_same x.written in
        omega (arith, was, same, taken);
  }

  pub paid-begin : IsSafe plan workers capacities s → IsBegin plan workers capacities s t → IsPaid workers t calls listed
  paid-begin kept x = record {
    pending = paid.pending;
    begins = less.0;
    waits = λ k. subst (λ z. IsIn k paid.pending ⊎ HasNoWrite z k) (sym x.written) (paid.waits k);
    covers = λ k h. by k h (less.2 k (paid.covers k (x.to_sync.only k h)));
    enough =
        let was = paid.enough in
        let begun = begun-left plan workers capacities s t kept x in
        let taken = taken_same x.written in
        let number = less.1 in
        omega (arith, was, begun, taken, number);
  }
    where
      k : Key
      k = x.flight.key

      less : (less : List Key) × (length less + 1 ≡ length paid.begins) × ((q : Key) → IsIn q paid.begins → (q ≡ k) ⊎ IsIn q less)
      less = without_key k paid.begins (paid.covers k x.to_sync.there)

      by : (q : Key) → IsIn q t.to_sync → (q ≡ k) ⊎ IsIn q less.0 → IsIn q less.0
      by q h (inl e) = absurd (x.to_sync.gone (subst (λ z. IsIn z t.to_sync) e h))
      by q h (inr there) = there

  pub paid-answer : (call : Call Rid) → IsAnswer plan workers call s t → IsPaid workers t (calls + 1) listed
  paid-answer call x = record {
    pending = paid.pending;
    begins = paid.begins;
    waits = λ k. subst (λ z. IsIn k paid.pending ⊎ HasNoWrite z k) (sym x.written) (paid.waits k);
    covers = λ k h. paid.covers k (subst (IsIn k) x.to_sync h);
    enough =
        let was = paid.enough in
        let move = moved_left workers x.next.worker x.next.below s.machine x.next.flight x.next.change x.next.rest x.stands x.next.flying x.next.due in
        let follow = follows_left workers x.next.worker x.next.below plan (moved s.machine x.next.worker x.next.rest x.stands) t.machine x.follows in
        let taken = taken_same x.written in
        omega (arith, was, move, follow, taken);
  }

-- the calls that an event makes
abbrev pub made_by : Option (Call Rid) → ℕ
made_by None = 0
made_by (Some call) = 1

pub paid-event : (plan : Ports) (workers : ℕ) (capacities : List ℕ) (s t : SwitchState) (c : Option (Call Rid)) (calls listed : ℕ) → IsSafe plan workers capacities s → IsPaid workers s calls listed → IsEvent plan workers capacities s c t → IsPaid workers t (calls + made_by c) listed
paid-event plan workers capacities s t None calls listed kept paid e = subst (λ n. IsPaid workers t n listed) (let same : calls ≡ calls + 0 = omega arith in same) (by e)
  where
    by : IsEvent plan workers capacities s None t → IsPaid workers t calls listed
    by (inl x) = paid-take plan workers capacities s t calls listed paid x
    by (inr (inl x)) = paid-pop plan workers capacities s t calls listed paid x
    by (inr (inr (inl x))) = paid-drop plan workers capacities s t calls listed paid x
    by (inr (inr (inr x))) = paid-begin plan workers capacities s t calls listed paid kept x
paid-event plan workers capacities s t (Some call) calls listed kept paid x = paid-answer plan workers capacities s t calls listed paid call x

-- ---- runs

pub none-left : (workers : ℕ) (m : Machine) → ((w : ℕ) (f : MachineFlight) → m.board.flights w ≡ Some f → ⊥) → left_in workers m ≡ 0
none-left zero m quiet = refl
none-left (suc n) m quiet =
    let rest = none-left n m quiet in
    let last = none (m.board.flights n) (quiet n) in
    omega (arith, rest, last)
  where
    none : (o : Option MachineFlight) → ((f : MachineFlight) → o ≡ Some f → ⊥) → left_of o (m.due n) ≡ 0
    none None never = refl
    none (Some f) never = absurd (never f refl)

module _ (plan : Ports) (is : IsPlan plan) (workers : ℕ) (capacities : List ℕ) where
  paid_run : (s : SwitchState) (es : List (Option (Call Rid) × SwitchState)) (calls listed : ℕ) → IsSafe plan workers capacities s → IsPaid workers s calls listed → AreEvents plan workers capacities s es → IsPaid workers (after_events s es) (calls + length (calls_of es)) listed
  paid_run s [] calls listed kept paid run = subst (λ n. IsPaid workers s n listed) (let same : calls ≡ calls + 0 = omega arith in same) paid
  paid_run s (e ∷ es) calls listed kept paid run =
      let next = paid-event plan workers capacities s e.1 e.0 calls listed kept paid run.0 in
      let rest = paid_run e.1 es (calls + made_by e.0) listed (kept-run plan is workers capacities s (e ∷ []) kept (run.0, tt)) next run.1 in
      subst (λ n. IsPaid workers (after_events e.1 es) n listed) (count e.0) rest
    where
      count : (c : Option (Call Rid)) → calls + made_by c + length (calls_of es) ≡ calls + length (with_made_call c (calls_of es))
      count None = omega arith
      count (Some call) = omega arith

  pub paid-empty : IsPaid workers empty_switch 0 0
  paid-empty = record { pending = []; begins = []; waits = λ k. inr (λ o. refl); covers = λ k h. h; enough = let none = none-left workers empty_switch.machine (λ w f at. cc) in omega (arith, none) }

  -- from the empty switch at most so many calls are made for each write taken
  pub run-few : (es : List (Option (Call Rid) × SwitchState)) → AreEvents plan workers capacities empty_switch es → length (calls_of es) ≤ 259 * length (after_events empty_switch es).written.taken
  run-few es run =
      let paid = (paid_run empty_switch es 0 0 (kept-empty plan is workers capacities) paid-empty run).enough in
      omega (arith, paid)

-- ---- one operation

alone_few : (plan : Ports) (workers : ℕ) (s : SwitchState) (es : List (Call Rid × SwitchState)) → AreAnswers plan workers s es → length es ≤ left_in workers s.machine
alone_few plan workers s [] run = omega arith
alone_few plan workers s (e ∷ es) run =
    let x = run.0 in
    let move = moved_left workers x.next.worker x.next.below s.machine x.next.flight x.next.change x.next.rest x.stands x.next.flying x.next.due in
    let follow = follows_left workers x.next.worker x.next.below plan (moved s.machine x.next.worker x.next.rest x.stands) e.1.machine x.follows in
    let rest = alone_few plan workers e.1 es run.1 in
    omega (arith, move, follow, rest)

pub operation-alone-few : (plan : Ports) (workers : ℕ) (capacities : List ℕ) (s t : SwitchState) (x : IsBegin plan workers capacities s t) (es : List (Call Rid × SwitchState)) → IsSafe plan workers capacities s → IsQuiet s → AreAnswers plan workers t es → length es ≤ 259
operation-alone-few plan workers capacities s t x es kept quiet run =
    let number = alone_few plan workers t es run in
    let begun = begun-left plan workers capacities s t kept x in
    let none = none-left workers s.machine quiet in
    omega (arith, number, begun, none)
