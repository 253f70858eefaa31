-- what holds between events is kept by each of them, and the call of each is legal
use Rattle.std.proofs.Common.{◌≡◌, ◌⊎◌, ◌+◌, ◌<◌, ◌≤◌, ◌∷◌, ◌∙◌, inl, inr, ℕ, List, [], Option, None, Some, option_map, refl, sym, ap, subst, arith}
use Rattle.table_schema.specs.Plan.{Ports, IsPlan}
use Rattle.table_schema.specs.declared.key.Key.{Key}
use Rattle.sai_types.specs.declared.ids.Rid.{Rid}
use Rattle.sai_types.specs.declared.kind.Kind.{Kind}
use Rattle.sai_types.specs.declared.body.Call.{Call}
use Rattle.sai_types.specs.declared.thing.Thing.{Thing}
use Rattle.sai_types.specs.After.{after_call}
use Rattle.sai_types.specs.Alike.{IsIn}
use Rattle.sai_types.specs.Made.{IsWhole, made_after}
use Rattle.sai_types.specs.Objects.{Objects, used}
use Rattle.sai_types.specs.Refusal.{IsLegal, capacity_of}
use Rattle.sai_types.proofs.Whole.{whole-after_call}
use Rattle.switch_model.specs.Placed.{Placed as Row, bare, bare_rows, router_in}
use Rattle.switch_model.specs.Good.{TypedRows, good_row}
use Rattle.switch_machine.specs.Written.{ArePopped, HasWrittenRows, IsAsBefore, IsGoodOnce, IsPoppedKey, IsTold, good_of}
use Rattle.switch_machine.proofs.Dated.{dated-popped, dated-taken, follows-row, good-once, good-taken, started-row}
use Rattle.switch_machine.proofs.Telling.{told-popped, told-taken}
use Rattle.chip_layout.specs.Layout.{IsLaidOut, listed}
use Rattle.chip_layout.proofs.Shapes.{laid-same}
use Rattle.row_layout.specs.Rows.{Owner}
use Rattle.row_layout.specs.Operations.{Change, Make, Set, Take, shared_going, take_all}
use Rattle.switch_machine.specs.Changes.{IsCall, after, changed_by}
use Rattle.switch_machine.specs.Flights.{MachineBoard, Can, MachineFlight, IsRow, Machine, Runs, StandsIn}
use Rattle.switch_machine.specs.Steps.{Ends, LeavesOthers, Moves, left, moved, parted, started}
use Rattle.switch_machine.specs.Places.{AreCovered, HasPlaces, makes, missing}
use Rattle.switch_machine.specs.Consistent.{IsCurrent, IsConsistent}
use Rattle.switch_machine.specs.Tables.{TableLaws}
use Rattle.switch_machine.specs.Events.{IsAnswer, SwitchState, IsDrop, Due, Ended, Follows, IsDueCall, IsEvent, IsGiven, IsSafe, Left, IsPop, Retires, IsBegin, IsTake, Popped, PopsKey, Stays}
use Rattle.switch_machine.proofs.Beginning.{sound-begun, sound-retired, starts}
use Rattle.switch_machine.proofs.Calling.{make-is_laid, make-is_legal, set-is_laid, set-is_legal, take-is_laid, take-is_legal}
use Rattle.switch_machine.proofs.Ending.{current-ended, sound-ended}
use Rattle.switch_machine.proofs.Leaving.{current-left, sound-left}
use Rattle.switch_machine.proofs.Moving.{sound-moved}
use Rattle.switch_machine.proofs.Roomy.{covered-ended, covered-left, covered-moved, covered-started, places-begun, places-kept, room-covered, room-due}
use Rattle.switch_machine.proofs.Starting.{current-started}
use Rattle.switch_machine.proofs.Placing.{bares, placed_row}
use Rattle.switch_machine.proofs.Splits.{put_at, put_off}
use Rattle.switch_machine.proofs.Tabled.{tabled}

-- what changes of identified things say of things alone
pub moves_by : (m : Machine) (c : Change) (i : Rid) (stands : List (Rid × Thing)) → ((j : Rid) (u : Thing) → listed stands j u → changed_by (listed m.stands) c i j u) → (u : Thing) (j : Rid) → IsIn (j, u) stands → after c (StandsIn m u) u
moves_by m c i stands back u j h = by c (back j u h)
  where
    by : (c : Change) → changed_by (listed m.stands) c i j u → after c (StandsIn m u) u
    by (Make t) (inl h) = inl (j, h)
    by (Make t) (inr h) = inr h.1
    by (Set t) (inl h) = inl ((j, h.0), h.1)
    by (Set t) (inr h) = inr h.1
    by (Take n) h = ((j, h.0), h.1)

pub moves_back : (m : Machine) (c : Change) (i : Rid) (stands : List (Rid × Thing)) → ((j : Rid) (u : Thing) → changed_by (listed m.stands) c i j u → listed stands j u) → (u : Thing) → after c (StandsIn m u) u → (j : Rid) × IsIn (j, u) stands
moves_back m (Make t) i stands into u (inl h) = (h.0, into h.0 u (inl h.1))
moves_back m (Make t) i stands into u (inr is) = (i, into i u (inr (refl, is)))
moves_back m (Set t) i stands into u (inl h) = (h.0.0, into h.0.0 u (inl (h.0.1, h.1)))
moves_back m (Set t) i stands into u (inr is) = (i, into i u (inr (refl, is)))
moves_back m (Take n) i stands into u h = (h.0.0, into h.0.0 u (h.0.1, h.1))

pub no_makes : (kind : Kind) (ts : List Thing) → makes kind (take_all ts []) ≡ 0
no_makes kind [] = refl
no_makes kind (t ∷ ts) = let rest = no_makes kind ts in omega (arith, rest)

module _ (plan : Ports) (is : IsPlan plan) (workers : ℕ) (capacities : List ℕ) where
  abbrev T : TableLaws plan
  T = tabled plan is

  -- ---- what follows in an event

  pub sound-follows : (w : ℕ) (m later : Machine) → IsConsistent plan m → Follows plan w m later → IsConsistent plan later
  sound-follows w m _ sound (Due c cs at) = sound
  sound-follows w m _ sound (Ended f ends) = sound-ended plan T m sound w f ends
  sound-follows w m _ sound (Left f o x) = sound-ended plan T (left m w f f.retires []) (sound-left plan T m sound w f o x) w (parted f f.retires) (left_ends w m f o x)
    where
      left_ends : (w : ℕ) (m : Machine) (f : MachineFlight) (o : Owner) → LeavesOthers plan m w f o → Ends (left m w f f.retires []) w (parted f f.retires)
      left_ends w m f o x = record { flying = put_at w w (Some (parted f f.retires)) m.board.flights refl; done = put_at w w [] m.due refl; left = refl }
  sound-follows w m _ sound (Retires f o x) = sound-retired plan is m sound w f o x

  pub same_stands : (w : ℕ) (m later : Machine) → Follows plan w m later → m.stands ≡ later.stands
  same_stands w m _ (Due c cs at) = refl
  same_stands w m _ (Ended f ends) = refl
  same_stands w m _ (Left f o x) = refl
  same_stands w m _ (Retires f o x) = refl

  -- nothing more is to be made
  same_places : (w : ℕ) (m later : Machine) (objects : Objects) → w < workers → Follows plan w m later → HasPlaces workers capacities objects m → HasPlaces workers capacities objects later
  same_places w m _ objects below (Due c cs at) places = places
  same_places w m _ objects below (Ended f ends) places = places
  same_places w m _ objects below (Left f o x) places = places-begun workers capacities 0 objects m (left m w f f.retires []) w below (λ v other. put_off w v [] m.due other) [] places (put_at w w [] m.due refl) (λ kind more. absurd (omega (arith, more)))
  same_places w m _ objects below (Retires f o x) places =
      places-begun workers capacities 0 objects m (left m w f (Some o) (take_all (shared_going o) [])) w below (λ v other. put_off w v (take_all (shared_going o) []) m.due other) (take_all (shared_going o) []) places (put_at w w (take_all (shared_going o) []) m.due refl) (λ kind more. none kind more (no_makes kind (shared_going o)))
    where
      none : (kind : Kind) → 0 < makes kind (take_all (shared_going o) []) → makes kind (take_all (shared_going o) []) ≡ 0 → used objects kind + missing workers m kind + makes kind (take_all (shared_going o) []) ≤ capacity_of capacities kind
      none kind more nothing = absurd (omega (arith, more, nothing))

  same_current : (w : ℕ) (m later : Machine) (good : TypedRows) (k : Key) → IsConsistent plan m → Follows plan w m later → IsCurrent m.board good k → IsCurrent later.board good k
  same_current w m _ good k sound (Due c cs at) h = h
  same_current w m _ good k sound (Ended f ends) h = current-ended plan T m sound w f ends good k h
  same_current w m _ good k sound (Left f o x) h =
      current-ended plan T (left m w f f.retires []) (sound-left plan T m sound w f o x) w (parted f f.retires)
      (record { flying = put_at w w (Some (parted f f.retires)) m.board.flights refl; done = put_at w w [] m.due refl; left = refl }) good k
      (current-left plan T m sound w f o x.leaving f.retires [] good k h)
  same_current w m _ good k sound (Retires f o x) h = current-left plan T m sound w f o x.leaving (Some o) (take_all (shared_going o) []) good k h

  same_covered : (w : ℕ) (m later : Machine) → Follows plan w m later → AreCovered m → AreCovered later
  same_covered w m _ (Due c cs at) covered = covered
  same_covered w m _ (Ended f ends) covered = covered-ended m w f ends.done covered
  same_covered w m _ (Left f o x) covered = covered-ended (left m w f f.retires []) w (parted f f.retires) (put_at w w [] m.due refl) (covered-left m w f f.retires [] covered)
  same_covered w m _ (Retires f o x) covered = covered-left m w f (Some o) (take_all (shared_going o) []) covered

  laid_as : (a b : List (Rid × Thing)) (objects : Objects) → a ≡ b → IsLaidOut (listed a) objects → IsLaidOut (listed b) objects
  laid_as a b objects e h = subst (λ z. IsLaidOut (listed z) objects) e h

  -- ---- an operation begins
  kept_starting : (s t : SwitchState) → IsSafe plan workers capacities s → IsBegin plan workers capacities s t → IsSafe plan workers capacities t
  kept_starting s t kept x = record {
    sound = sound-follows x.worker first t.machine begun x.follows;
    whole = subst (λ z. IsWhole z t.objects) (sym x.made) (subst (IsWhole s.made) (sym x.objects) kept.whole);
    laid = subst (IsLaidOut (listed t.machine.stands)) (sym x.objects) (laid_as s.machine.stands t.machine.stands s.objects (same_stands x.worker first t.machine x.follows) kept.laid);
    places = subst (λ z. HasPlaces workers capacities z t.machine) (sym x.objects) (same_places x.worker first t.machine s.objects x.below x.follows places);
    synced = λ k. synced k (kept.synced k);
    told = subst IsTold (sym x.written) kept.told;
    covered = same_covered x.worker first t.machine x.follows (covered-started s.machine x.worker x.flight x.due kept.covered);
    dated = subst HasWrittenRows (sym x.written) kept.dated;
    good = λ k r h. subst (λ z. IsGoodOnce plan z.taken k (bare r)) (sym x.written) (good k r (started-row s.machine x.worker x.flight x.due k r (follows-row plan x.worker first t.machine k r x.follows h)));
  }
    where
      good : (k : Key) (r : Row) → IsRow s.machine.board k r ⊎ ((x.flight.key ≡ k) × (x.flight.new ≡ Some r)) → IsGoodOnce plan s.written.taken k (bare r)
      good k r (inl h) = kept.good k r h
      good k r (inr (same, new)) = good-once plan s.written kept.dated k (bare r) (ap (good_of plan s.written) (sym same) ∙ placed_row (router_in (bare_rows s.machine.board.applied) x.flight.key) (good_of plan s.written x.flight.key) r (sym x.new ∙ new))

      first : Machine
      first = started s.machine x.worker x.flight x.due

      begun : IsConsistent plan (started s.machine x.worker x.flight x.due)
      begun = sound-begun plan is s.machine kept.sound x.worker x.flight x.due x.begins

      places : HasPlaces workers capacities s.objects (started s.machine x.worker x.flight x.due)
      places = places-begun workers capacities 0 s.objects s.machine (started s.machine x.worker x.flight x.due) x.worker x.below (λ v other. put_off x.worker v x.due s.machine.due other) x.due kept.places (put_at x.worker x.worker x.due s.machine.due refl) (room-covered workers capacities s.objects s.machine x.due x.room)

      current : (k : Key) → IsCurrent s.machine.board (good_of plan s.written) k ⊎ (k ≡ x.flight.key) → IsCurrent t.machine.board (good_of plan t.written) k
      current k h =
          subst (λ z. IsCurrent t.machine.board (good_of plan z) k) (sym x.written)
          (same_current x.worker (started s.machine x.worker x.flight x.due) t.machine (good_of plan s.written) k (sound-begun plan is s.machine kept.sound x.worker x.flight x.due x.begins) x.follows
          (current-started plan T s.machine kept.sound x.worker x.flight x.due (starts plan is s.machine kept.sound x.worker x.flight x.due x.begins) (good_of plan s.written) k (ap (option_map bare) x.new ∙ bares (router_in (bare_rows s.machine.board.applied) x.flight.key) (good_of plan s.written x.flight.key)) h))

      queued : (k : Key) → (k ≡ x.flight.key) ⊎ IsIn k t.to_sync → IsIn k t.to_sync ⊎ IsCurrent t.machine.board (good_of plan t.written) k
      queued k (inl same) = inr (current k (inr same))
      queued k (inr h) = inl h

      synced : (k : Key) → IsIn k s.to_sync ⊎ IsCurrent s.machine.board (good_of plan s.written) k → IsIn k t.to_sync ⊎ IsCurrent t.machine.board (good_of plan t.written) k
      synced k (inl h) = queued k (x.to_sync.others k h)
      synced k (inr h) = inr (current k (inl h))

  -- ---- a write is taken
  kept_takes : (s t : SwitchState) → IsSafe plan workers capacities s → IsTake s t → IsSafe plan workers capacities t
  kept_takes s t kept x = record {
    sound = subst (IsConsistent plan) (sym x.machine) kept.sound;
    whole = subst (λ z. IsWhole z t.objects) (sym x.made) (subst (IsWhole s.made) (sym x.objects) kept.whole);
    laid = subst (λ z. IsLaidOut (listed z.stands) t.objects) (sym x.machine) (subst (IsLaidOut (listed s.machine.stands)) (sym x.objects) kept.laid);
    places = subst (HasPlaces workers capacities t.objects) (sym x.machine) (subst (λ z. HasPlaces workers capacities z s.machine) (sym x.objects) kept.places);
    synced = λ k. synced k (kept.synced k);
    told = λ k. told-taken x.write s.written t.written x.taken kept.told k;
    covered = subst AreCovered (sym x.machine) kept.covered;
    dated = dated-taken x.write s.written t.written x.taken kept.dated;
    good = λ k r h. good-taken plan x.write s.written t.written x.taken k (bare r) (kept.good k r (subst (λ z. IsRow z.board k r) x.machine h));
  }
    where
      now : (k : Key) → IsCurrent s.machine.board (good_of plan s.written) k → IsCurrent s.machine.board (good_of plan t.written) k
      now k (inl h) = inl (h.0, h.1 ∙ ap (good_row plan k) (sym (x.taken.rows k)))
      now k (inr (w, f, at, is, that)) = inr (w, f, at, is, that ∙ ap (good_row plan k) (sym (x.taken.rows k)))

      synced : (k : Key) → IsIn k s.to_sync ⊎ IsCurrent s.machine.board (good_of plan s.written) k → IsIn k t.to_sync ⊎ IsCurrent t.machine.board (good_of plan t.written) k
      synced k (inl h) = inl (subst (IsIn k) (sym x.to_sync) h)
      synced k (inr h) = inr (subst (λ z. IsCurrent z.board (good_of plan t.written) k) (sym x.machine) (now k h))

  -- ---- keys are popped, and leave those to sync
  kept_pops : (s t : SwitchState) → IsSafe plan workers capacities s → IsPop s t → IsSafe plan workers capacities t
  kept_pops s t kept x = record {
    sound = subst (IsConsistent plan) (sym x.machine) kept.sound;
    whole = subst (λ z. IsWhole z t.objects) (sym x.made) (subst (IsWhole s.made) (sym x.objects) kept.whole);
    laid = subst (λ z. IsLaidOut (listed z.stands) t.objects) (sym x.machine) (subst (IsLaidOut (listed s.machine.stands)) (sym x.objects) kept.laid);
    places = subst (HasPlaces workers capacities t.objects) (sym x.machine) (subst (λ z. HasPlaces workers capacities z s.machine) (sym x.objects) kept.places);
    synced = λ k. synced k (kept.synced k) (x.keys k);
    told = told-popped s.written t.written popped kept.told;
    covered = subst AreCovered (sym x.machine) kept.covered;
    dated = dated-popped s.written t.written kept.told popped kept.dated;
    good = λ k r h. subst (λ ts. IsGoodOnce plan ts k (bare r)) (sym x.taken) (kept.good k r (subst (λ z. IsRow z.board k r) x.machine h));
  }
    where
      keys : (k : Key) → PopsKey s t k → IsAsBefore s.written t.written k ⊎ IsPoppedKey s.written t.written k
      keys k (Stays same none) = inl same
      keys k (Popped had popped at) = inr popped

      popped : ArePopped s.written t.written
      popped = record { taken = x.taken; keys = λ k. keys k (x.keys k) }

      -- the good row of the key is as it was
      same_good : (b : MachineBoard) (old new : TypedRows) (k : Key) → new k ≡ old k → IsCurrent b old k → IsCurrent b new k
      same_good b old new k e (inl h) = inl (h.0, h.1 ∙ sym e)
      same_good b old new k e (inr (w, f, at, is, that)) = inr (w, f, at, is, that ∙ sym e)

      synced : (k : Key) → IsIn k s.to_sync ⊎ IsCurrent s.machine.board (good_of plan s.written) k → PopsKey s t k → IsIn k t.to_sync ⊎ IsCurrent t.machine.board (good_of plan t.written) k
      synced k (inl h) _ = inl (x.kept k h)
      synced k (inr h) (Popped had popped at) = inl at
      synced k (inr h) (Stays same none) = inr (subst (λ z. IsCurrent z.board (good_of plan t.written) k) (sym x.machine) (same_good s.machine.board (good_of plan s.written) (good_of plan t.written) k (ap (good_row plan k) same.row) h))

  pub kept_drops : (s t : SwitchState) → IsSafe plan workers capacities s → IsDrop plan s t → IsSafe plan workers capacities t
  kept_drops s t kept x = record {
    sound = subst (IsConsistent plan) (sym x.machine) kept.sound;
    whole = subst (λ z. IsWhole z t.objects) (sym x.made) (subst (IsWhole s.made) (sym x.objects) kept.whole);
    laid = subst (λ z. IsLaidOut (listed z.stands) t.objects) (sym x.machine) (subst (IsLaidOut (listed s.machine.stands)) (sym x.objects) kept.laid);
    places = subst (HasPlaces workers capacities t.objects) (sym x.machine) (subst (λ z. HasPlaces workers capacities z s.machine) (sym x.objects) kept.places);
    synced = λ k. synced k (kept.synced k);
    told = subst IsTold (sym x.written) kept.told;
    covered = subst AreCovered (sym x.machine) kept.covered;
    dated = subst HasWrittenRows (sym x.written) kept.dated;
    good = λ k r h. subst (λ z. IsGoodOnce plan z.taken k (bare r)) (sym x.written) (kept.good k r (subst (λ z. IsRow z.board k r) x.machine h));
  }
    where
      now : (k : Key) → IsCurrent s.machine.board (good_of plan s.written) k → IsCurrent t.machine.board (good_of plan t.written) k
      now k h = subst (λ z. IsCurrent z.board (good_of plan t.written) k) (sym x.machine) (subst (λ z. IsCurrent s.machine.board (good_of plan z) k) (sym x.written) h)

      queued : (k : Key) → (k ≡ x.key) ⊎ IsIn k t.to_sync → IsIn k t.to_sync ⊎ IsCurrent t.machine.board (good_of plan t.written) k
      queued k (inr h) = inl h
      queued k (inl same) = inr (now k (subst (IsCurrent s.machine.board (good_of plan s.written)) (sym same) (inl (x.rests, x.same))))

      synced : (k : Key) → IsIn k s.to_sync ⊎ IsCurrent s.machine.board (good_of plan s.written) k → IsIn k t.to_sync ⊎ IsCurrent t.machine.board (good_of plan t.written) k
      synced k (inl h) = queued k (x.to_sync.others k h)
      synced k (inr h) = inr (now k h)

  -- ---- a call is made
  module _ (s : SwitchState) (kept : IsSafe plan workers capacities s) (call : Call Rid) (x : IsDueCall workers call s) where
    pub it_can : Can plan x.flight (StandsIn s.machine) x.change
    it_can = (subst (Runs plan x.flight (StandsIn s.machine)) x.due (kept.sound.runs x.worker x.flight x.flying)).0

    legal_by : (c : Change) → s.machine.due x.worker ≡ c ∷ x.rest → Can plan x.flight (StandsIn s.machine) c → IsCall (listed s.machine.stands) c call → IsLegal capacities s.objects call
    legal_by (Make u) due can of = make-is_legal plan is T s.machine kept.sound x.worker x.flight x.flying s.made s.objects kept.whole kept.laid u call capacities can of (room-due workers capacities s.made s.objects s.machine (moved s.machine x.worker x.rest s.machine.stands) x.worker x.below (λ v other. put_off x.worker v x.rest s.machine.due other) u x.rest kept.places due)
    legal_by (Set u) due can of = set-is_legal plan is T s.machine kept.sound x.worker x.flight x.flying s.made s.objects kept.whole kept.laid u call capacities of
    legal_by (Take n) due can of = take-is_legal plan is T s.machine kept.sound x.worker x.flight x.flying s.made s.objects kept.whole kept.laid n call capacities can of

    pub legal-call : IsLegal capacities s.objects call
    legal-call = legal_by x.change x.due it_can x.of

  -- the changed thing has an identifier, and these things stand after the call
  module _ (s : SwitchState) (kept : IsSafe plan workers capacities s) (call : Call Rid) (next : IsDueCall workers call s) (id : Rid) (given : IsGiven (listed s.machine.stands) s.made next.change call next.of id) (stands : List (Rid × Thing)) (into : (i : Rid) (t : Thing) → changed_by (listed s.machine.stands) next.change id i t → listed stands i t) (back : (i : Rid) (t : Thing) → listed stands i t → changed_by (listed s.machine.stands) next.change id i t) where
    moves : Moves s.machine next.worker next.flight next.change next.rest stands
    moves = record {
      flying = next.flying;
      due = next.due;
      into = moves_by s.machine next.change id stands back;
      back = moves_back s.machine next.change id stands into;
    }

    laid_by : (c : Change) → Can plan next.flight (StandsIn s.machine) c → (of : IsCall (listed s.machine.stands) c call) → IsGiven (listed s.machine.stands) s.made c call of id → IsLaidOut (changed_by (listed s.machine.stands) c id) (after_call (s.made + 1) s.objects call)
    laid_by (Make u) can of given = make-is_laid plan is T s.machine kept.sound next.worker next.flight next.flying s.made s.objects kept.whole kept.laid u call id can of given
    laid_by (Set u) can of given = subst (λ i. IsLaidOut (changed_by (listed s.machine.stands) (Set u) i) (after_call (s.made + 1) s.objects call)) (sym given) (set-is_laid plan is T s.machine kept.sound next.worker next.flight next.flying s.made s.objects kept.whole kept.laid u call of)
    laid_by (Take n) can of given = take-is_laid plan is T s.machine kept.sound next.worker next.flight next.flying s.made s.objects kept.whole kept.laid n call can of

    -- they are what stands on the chip
    pub called-laid : IsLaidOut (listed stands) (after_call (s.made + 1) s.objects call)
    called-laid = laid-same (changed_by (listed s.machine.stands) next.change id) (listed stands) (after_call (s.made + 1) s.objects call) into back (laid_by next.change (it_can s kept call next) next.of given)

    pub called-sound : IsConsistent plan (moved s.machine next.worker next.rest stands)
    called-sound = sound-moved plan T s.machine kept.sound next.worker next.flight next.change next.rest stands moves

  module _ (s t : SwitchState) (kept : IsSafe plan workers capacities s) (call : Call Rid) (x : IsAnswer plan workers call s t) where
    abbrev first : Machine
    first = moved s.machine x.next.worker x.next.rest x.stands

    laid_now : IsLaidOut (listed x.stands) (after_call (s.made + 1) s.objects call)
    laid_now = called-laid s kept call x.next x.id x.given x.stands x.into x.back

    sound_first : IsConsistent plan first
    sound_first = called-sound s kept call x.next x.id x.given x.stands x.into x.back

    places_first : HasPlaces workers capacities (after_call (s.made + 1) s.objects call) first
    places_first = places-kept workers capacities s.made s.objects s.machine first x.next.worker x.next.below (λ v other. put_off x.next.worker v x.next.rest s.machine.due other) (listed s.machine.stands) kept.laid x.next.change x.next.rest call kept.whole.sorted kept.places x.next.due (put_at x.next.worker x.next.worker x.next.rest s.machine.due refl) x.next.of

    pub kept-answers : IsSafe plan workers capacities t
    kept-answers = record {
      sound = sound-follows x.next.worker first t.machine sound_first x.follows;
      whole = subst (λ z. IsWhole z t.objects) (sym x.made) (subst (IsWhole (made_after s.made call)) (sym x.objects) (whole-after_call capacities s.made s.objects call kept.whole (legal-call s kept call x.next)));
      laid = subst (IsLaidOut (listed t.machine.stands)) (sym x.objects) (laid_as x.stands t.machine.stands (after_call (s.made + 1) s.objects call) (same_stands x.next.worker first t.machine x.follows) laid_now);
      places = subst (λ z. HasPlaces workers capacities z t.machine) (sym x.objects) (same_places x.next.worker first t.machine (after_call (s.made + 1) s.objects call) x.next.below x.follows places_first);
      synced = λ k. synced k (kept.synced k);
      told = subst IsTold (sym x.written) kept.told;
      covered = same_covered x.next.worker first t.machine x.follows (covered-moved s.machine x.next.worker x.next.change x.next.rest x.stands x.next.due kept.covered);
      dated = subst HasWrittenRows (sym x.written) kept.dated;
      good = λ k r h. subst (λ z. IsGoodOnce plan z.taken k (bare r)) (sym x.written) (kept.good k r (follows-row plan x.next.worker first t.machine k r x.follows h));
    }
      where
        synced : (k : Key) → IsIn k s.to_sync ⊎ IsCurrent s.machine.board (good_of plan s.written) k → IsIn k t.to_sync ⊎ IsCurrent t.machine.board (good_of plan t.written) k
        synced k (inl h) = inl (subst (IsIn k) (sym x.to_sync) h)
        synced k (inr h) = inr (subst (λ z. IsCurrent t.machine.board (good_of plan z) k) (sym x.written) (same_current x.next.worker (moved s.machine x.next.worker x.next.rest x.stands) t.machine (good_of plan s.written) k sound_first x.follows h))

  pub kept-event : (s t : SwitchState) (c : Option (Call Rid)) → IsSafe plan workers capacities s → IsEvent plan workers capacities s c t → IsSafe plan workers capacities t
  kept-event s t None kept (inl x) = kept_takes s t kept x
  kept-event s t None kept (inr (inl x)) = kept_pops s t kept x
  kept-event s t None kept (inr (inr (inl x))) = kept_drops s t kept x
  kept-event s t None kept (inr (inr (inr x))) = kept_starting s t kept x
  kept-event s t (Some call) kept x = kept-answers s t kept call x
