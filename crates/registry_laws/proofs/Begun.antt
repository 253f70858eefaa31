-- the machine when an operation has started
use Rattle.std.proofs.Common.{◌≡◌, ◌⊎◌, ◌∷◌, ◌∙◌, inl, inr, ℕ, true, false, List, [], None, Some, refl, sym, ap, ap₂, subst}
use Rattle.std.proofs.lemmas.Bool.{false≢true}
use Rattle.std.proofs.lemmas.Option.{same_Some}
use Rattle.table_schema.specs.Plan.{IsPlan, Ports}
use Rattle.table_schema.specs.declared.key.Key.{Key}
use Rattle.sai_types.specs.declared.thing.Thing.{Thing}
use Rattle.sai_types.specs.Alike.{IsIn}
use Rattle.sai_types.specs.Names.{name_of}
use Rattle.switch_model.specs.Placed.{Placed as Row}
use Rattle.row_layout.specs.Operations.{Change, Make, Set, Take, uses_of}
use Rattle.row_layout.specs.Rows.{Owner, OfRow}
use Rattle.row_layout.specs.Shared.{shared_things}
use Rattle.switch_machine.specs.Changes.{after, changed_name}
use Rattle.switch_machine.specs.Consistent.{IsConsistent}
use Rattle.switch_machine.specs.Flights.{MachineBoard, Can, Concerns, CountsAsUser, Fits, MachineFlight, Goes, HasChangeOf, IsFirm, IsOwnedBy, IsResting, IsShared, IsUser, Machine, Runs, StandsIn}
use Rattle.switch_machine.specs.Operations.{MayBegin}
use Rattle.switch_machine.specs.Steps.{Starts, started}
use Rattle.switch_machine.specs.Tables.{TableLaws}
use Rattle.switch_machine.proofs.Beginning.{starts, touched_concern}
use Rattle.switch_machine.proofs.Running.{no_flight, one_owner, shared_of, shared_row, stays}
use Rattle.switch_machine.proofs.Splits.{IsPut, IsSplit, New, Old, key_split, put_at, put_by, put_off}
use Rattle.switch_machine.proofs.Tabled.{tabled}
use Rattle.ref_counts.specs.declared.name.NameState.{NameState}
use Rattle.ref_counts.specs.declared.name.NameState.TheVariants as state
use Rattle.ref_counts.specs.declared.pin.Pin.{Pin}
use Rattle.orch_flight.specs.Needing.{row_names}
use Rattle.registry_laws.specs.Known.{IsPinOf, RowStands, SharedStands}
use Rattle.registry_laws.proofs.Listing.{not_some}

-- of what stands whole no change is due
module _ (plan : Ports) (tables : TableLaws plan) (f : MachineFlight) (fit : (r : Row) → f.new ≡ Some r → Fits plan f.key r) (none : f.retires ≡ None) (p : Owner) (shared : IsShared p) where
  not_its : (V : Thing → Type 0) (c : Change) → ((u : Thing) → IsIn u (shared_things p) → V u) → Can plan f V c → IsOwnedBy plan (changed_name c) p → ⊥
  not_its V (Make t) whole can of = can.fresh t (whole t (shared_of plan tables f fit t p of shared can.final).1) refl
  not_its V (Set t) whole can of = shared_row p f.key shared (one_owner plan (name_of t) p (OfRow f.key) of can.own)
  not_its V (Take n) whole can of = by can.goes
    where
      by : Goes plan f n → ⊥
      by (inl own) = shared_row p f.key shared (one_owner plan n p (OfRow f.key) of own.0)
      by (inr x) = not_some x.0 (sym none ∙ x.2)

  pub untouched_whole : (due : List Change) (V : Thing → Type 0) → Runs plan f V due → ((u : Thing) → IsIn u (shared_things p) → V u) → HasChangeOf plan due p → ⊥
  untouched_whole [] V runs whole t = elim t.1 [ ]
  untouched_whole (c ∷ cs) V runs whole (d, inl is, of) = not_its V c whole runs.0 (subst (λ z. IsOwnedBy plan (changed_name z) p) is of)
  untouched_whole (c ∷ cs) V runs whole (d, inr h, of) =
      untouched_whole cs (λ u. after c (V u) u) runs.1 (λ u in_it. stays c (V u) u (λ e. not_its V c whole runs.0 (subst (λ n. IsOwnedBy plan n p) e (tables.shared p u in_it))) (whole u in_it)) (d, h, of)

module _ (plan : Ports) (is : IsPlan plan) (m : Machine) (sound : IsConsistent plan m) (w : ℕ) (f : MachineFlight) (due : List Change) (begins : MayBegin plan m w f due) where
  abbrev pub T : TableLaws plan
  T = tabled plan is

  abbrev pub later : Machine
  later = started m w f due

  abbrev pub b : MachineBoard
  b = m.board

  abbrev pub b' : MachineBoard
  b' = later.board

  pub start : Starts plan m w f due
  start = starts plan is m sound w f due begins

  by : (v : ℕ) (g : MachineFlight) → b'.flights v ≡ Some g → IsPut w v (Some f) b.flights (Some g)
  by v g h = put_by w v (Some f) b.flights (Some g) h

  pub apart : (v : ℕ) (g : MachineFlight) → b.flights v ≡ Some g → v ≡ w → ⊥
  apart v g there same = no_flight g (sym begins.idle ∙ ap b.flights (sym same) ∙ there)

  pub still : (v : ℕ) (g : MachineFlight) → b.flights v ≡ Some g → b'.flights v ≡ Some g
  still v g there = put_off w v (Some f) b.flights (apart v g there) ∙ there

  pub here : b'.flights w ≡ Some f
  here = put_at w w (Some f) b.flights refl

  due_old : (v : ℕ) → (v ≡ w → ⊥) → later.due v ≡ m.due v
  due_old v other = put_off w v due m.due other

  pub due_new : later.due w ≡ due
  due_new = put_at w w due m.due refl

  -- ---- rows

  resting_now : (p : Key) → (f.key ≡ p → ⊥) → IsResting b p → IsResting b' p
  resting_now p other rests v g at same = of (by v g at)
    where
      of : IsPut w v (Some f) b.flights (Some g) → ⊥
      of (New e one) = other (ap (λ (z : MachineFlight). z.key) (same_Some f g one) ∙ same)
      of (Old off there) = rests v g there same

  firm_now : (p : Key) → IsFirm b p → (f.key ≡ p → f.goes ≡ true → ⊥) → IsFirm b' p
  firm_now p firm mine = record { row = firm.row; applied = firm.applied; stays = λ v g at same none. of v g same none (by v g at) }
    where
      of : (v : ℕ) (g : MachineFlight) → g.key ≡ p → g.goes ≡ true → IsPut w v (Some f) b.flights (Some g) → ⊥
      of v g same none (New e one) = let x = same_Some f g one in mine (ap (λ (z : MachineFlight). z.key) x ∙ same) (ap (λ (z : MachineFlight). z.goes) x ∙ none)
      of v g same none (Old off there) = firm.stays v g there same none

  pub row_stands : (p : Key) (st : NameState) → (f.key ≡ p → ⊥) → RowStands m p st → RowStands later p st
  row_stands p state.Absent other (rests, none) = (resting_now p other rests, none)
  row_stands p (state.Building v) other ((g, at, same), none) = ((g, still v g at, same), none)
  row_stands p state.Live other (inl firm) = inl (firm_now p firm (λ e _. other e))
  row_stands p state.Live other (inr made) = inr (record { worker = made.worker; flight = made.flight; flying = still made.worker made.flight made.flying; key = made.key; row = made.row; new = made.new; done = due_old made.worker (apart made.worker made.flight made.flying) ∙ made.done })
  row_stands p (state.Retiring v) other x = record { flight = x.flight; flying = still v x.flight x.flying; key = x.key; goes = x.goes; row = x.row; applied = x.applied }

  -- the key's own name while its applied row does not go
  pub own_stays : (a : Row) (st : NameState) → b.applied f.key ≡ Some a → f.goes ≡ false → RowStands m f.key st → RowStands later f.key st
  own_stays a state.Absent old stays (rests, none) = not_some a (sym none ∙ old)
  own_stays a (state.Building v) old stays (flown, none) = not_some a (sym none ∙ old)
  own_stays a state.Live old stays (inl firm) = inl (firm_now f.key firm (λ _ goes. false≢true (sym stays ∙ goes)))
  own_stays a state.Live old stays (inr made) = absurd (begins.rests made.worker made.flight made.flying made.key)
  own_stays a (state.Retiring v) old stays x = absurd (begins.rests v x.flight x.flying x.key)

  -- ---- pins

  pub pin_was : (p : Key) (q : Pin) → IsPinOf b' p q → IsPinOf b p q ⊎ ((q ≡ record { worker = w; user = f.key }) × ((r : Row) × (f.new ≡ Some r) × IsIn p (row_names f.key r)))
  pin_was p q (g, at, same, (r, new, h)) = of (by q.worker g at)
    where
      pin : ℕ → Key → Pin
      pin v k = record { worker = v; user = k }

      of : IsPut w q.worker (Some f) b.flights (Some g) → IsPinOf b p q ⊎ ((q ≡ record { worker = w; user = f.key }) × ((r : Row) × (f.new ≡ Some r) × IsIn p (row_names f.key r)))
      of (New e one) =
          let x = same_Some f g one in
          let key = ap (λ (z : MachineFlight). z.key) x in
          inr (ap₂ pin e (sym (key ∙ same)), (r, ap (λ (z : MachineFlight). z.new) x ∙ new, subst (λ z. IsIn p (row_names z r)) (sym key) h))
      of (Old off there) = inl (g, there, same, (r, new, h))

  pub pin_now : (p : Key) (q : Pin) → IsPinOf b p q → IsPinOf b' p q
  pin_now p q (g, at, same, brings) = (g, still q.worker g at, same, brings)

  pub pin_new : (p : Key) (r : Row) → f.new ≡ Some r → IsIn p (row_names f.key r) → IsPinOf b' p (record { worker = w; user = f.key })
  pin_new p r new h = (f, here, refl, (r, new, h))

  -- ---- what is shared

  pub user_was : (k : Key) (o : Owner) → IsUser plan b' k o → IsUser plan b k o ⊎ ((f.key ≡ k) × IsIn o (uses_of plan f.key f.new))
  user_was k o (inr (rests, h)) = inl (inr (λ v g at e. rests v g (still v g at) e, h))
  user_was k o (inl (v, g, at, same, counts)) = of (by v g at)
    where
      mine : f.key ≡ k → CountsAsUser plan f o → IsUser plan b k o ⊎ ((f.key ≡ k) × IsIn o (uses_of plan f.key f.new))
      mine e (inl h) = inr (e, h)
      mine e (inr h) = inl (inr (λ v g at x. begins.rests v g at (x ∙ sym e), subst (λ q. IsIn o (uses_of plan q (b.applied q))) e (begins.leaves o h).0))

      of : IsPut w v (Some f) b.flights (Some g) → IsUser plan b k o ⊎ ((f.key ≡ k) × IsIn o (uses_of plan f.key f.new))
      of (New e one) = let x = same_Some f g one in mine (ap (λ (z : MachineFlight). z.key) x ∙ same) (subst (λ z. CountsAsUser plan z o) (sym x) counts)
      of (Old other there) = inl (inl (v, g, there, same, counts))

  pub user_now : (k : Key) (o : Owner) → IsUser plan b k o → IsUser plan b' k o
  user_now k o (inl (v, g, at, same, counts)) = inl (v, g, still v g at, same, counts)
  user_now k o (inr (rests, h)) = of (key_split f.key k)
    where
      of : IsSplit f.key k → IsUser plan b' k o
      of (inl same) = inl (w, f, here, same, begins.covers o (subst (λ q. IsIn o (uses_of plan q (b.applied q))) (sym same) h))
      of (inr other) = inr (resting_now k other rests, h)

  pub user_new : (o : Owner) → IsIn o (uses_of plan f.key f.new) → IsUser plan b' f.key o
  user_new o h = inl (w, f, here, refl, inl h)

  touch_now : (v : ℕ) (o : Owner) → (v ≡ w → ⊥) → HasChangeOf plan (m.due v) o → HasChangeOf plan (later.due v) o
  touch_now v o other t = subst (λ d. HasChangeOf plan d o) (sym (due_old v other)) t

  untouched_now : (o : Owner) → (HasChangeOf plan due o → ⊥) → ((v : ℕ) (g : MachineFlight) → b.flights v ≡ Some g → HasChangeOf plan (m.due v) o → ⊥) → (v : ℕ) (g : MachineFlight) → b'.flights v ≡ Some g → HasChangeOf plan (later.due v) o → ⊥
  untouched_now o mine theirs v g at t = of (by v g at)
    where
      of : IsPut w v (Some f) b.flights (Some g) → ⊥
      of (New e one) = mine (subst (λ d. HasChangeOf plan d o) (ap later.due e ∙ due_new) t)
      of (Old other there) = theirs v g there (subst (λ d. HasChangeOf plan d o) (due_old v other) t)

  -- what no change of the operation is about stands as it did
  pub shared_stands : (o : Owner) (st : NameState) → (HasChangeOf plan due o → ⊥) → ((k : Key) → IsUser plan b' k o → IsUser plan b k o ⊎ (st ≡ state.Live)) → SharedStands plan m o st → SharedStands plan later o st
  shared_stands o state.Absent mine was (none, untouched) = (λ k h. of k (was k h), untouched_now o mine untouched)
    where
      of : (k : Key) → IsUser plan b k o ⊎ (state.Absent ≡ state.Live) → ⊥
      of k (inl h) = none k h
      of k (inr e) = cc
  shared_stands o (state.Building v) mine was (g, at, t, other) = (g, still v g at, touch_now v o (apart v g at) t, other)
  shared_stands o state.Live mine was ((k, user), untouched) = ((k, user_now k o user), untouched_now o mine untouched)
  shared_stands o (state.Retiring v) mine was (g, at, t, retires) = (g, still v g at, touch_now v o (apart v g at) t, retires)

  -- the operation changes nothing of what neither its new row shares nor anybody builds
  pub not_concerned : (o : Owner) → IsShared o → (IsIn o (uses_of plan f.key f.new) → ⊥) → HasChangeOf plan due o → ⊥
  not_concerned o shared none t = of (touched_concern plan T f begins.fit due (StandsIn m) o start.runs t)
    where
      of : Concerns plan f o → ⊥
      of (inl e) = shared_row o f.key shared e
      of (inr (inl h)) = none h
      of (inr (inr e)) = not_some o (sym begins.none ∙ e)

  pub not_touched : (q : Key) (o : Owner) → IsShared o → IsUser plan b q o → ((v : ℕ) (g : MachineFlight) → b.flights v ≡ Some g → HasChangeOf plan (m.due v) o → ⊥) → HasChangeOf plan due o → ⊥
  not_touched q o shared user untouched t = untouched_whole plan T f begins.fit begins.none o shared due (StandsIn m) start.runs (λ u h. sound.whole q o u user untouched h) t

  pub retiring_now : ((v : ℕ) (g : MachineFlight) (o : Owner) (c : Change) → b.flights v ≡ Some g → g.retires ≡ Some o → IsIn c (m.due v) → IsOwnedBy plan (changed_name c) o) → (v : ℕ) (g : MachineFlight) (o : Owner) (c : Change) → b'.flights v ≡ Some g → g.retires ≡ Some o → IsIn c (later.due v) → IsOwnedBy plan (changed_name c) o
  retiring_now was v g o c at retires h = of (by v g at)
    where
      of : IsPut w v (Some f) b.flights (Some g) → IsOwnedBy plan (changed_name c) o
      of (New e one) = not_some o (sym begins.none ∙ ap (λ (z : MachineFlight). z.retires) (same_Some f g one) ∙ retires)
      of (Old other there) = was v g o c there retires (subst (IsIn c) (due_old v other) h)

  pub below_now : (workers : ℕ → Type 0) → workers w → ((v : ℕ) (g : MachineFlight) → b.flights v ≡ Some g → workers v) → (v : ℕ) (g : MachineFlight) → b'.flights v ≡ Some g → workers v
  below_now workers own was v g at = of (by v g at)
    where
      of : IsPut w v (Some f) b.flights (Some g) → workers v
      of (New e one) = subst workers (sym e) own
      of (Old other there) = was v g there
