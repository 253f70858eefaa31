-- what stands for a row whose key is neither begun nor to sync is neither set nor removed
use Rattle.std.proofs.Common.{◌≡◌, ◌⊎◌, ◌∷◌, ◌∙◌, inl, inr, ℕ, true, List, [], Option, None, Some, refl, sym, ap, subst}
use Rattle.std.proofs.lemmas.Option.{same_Some}
use Rattle.table_schema.specs.Plan.{Ports, IsPlan}
use Rattle.table_schema.specs.declared.key.Key.{Key}
use Rattle.sai_types.specs.declared.ids.Rid.{Rid}
use Rattle.sai_types.specs.declared.body.Body.{Body}
use Rattle.sai_types.specs.declared.body.Call.{Call}
use Rattle.sai_types.specs.declared.body.Entry.{Entry}
use Rattle.sai_types.specs.declared.thing.Thing.{Thing}
use Rattle.sai_types.specs.After.{entry_of}
use Rattle.sai_types.specs.Alike.{IsIn}
use Rattle.sai_types.specs.Made.{same_entry}
use Rattle.sai_types.specs.Objects.{Objects}
use Rattle.chip_layout.specs.Bodies.{IsAt, IsBody, first_name, second_name}
use Rattle.chip_layout.specs.Layout.{Has, IsLaidOut, Layout, listed}
use Rattle.sai_types.specs.Names.{ThingName, name_of}
use Rattle.chip_layout.proofs.Entries.{one-entry}
use Rattle.chip_layout.proofs.Laid.{changed}
use Rattle.row_layout.specs.Rows as owner
use Rattle.row_layout.specs.Rows.{Owner, OfRow, own_things}
use Rattle.row_layout.specs.Shared.{IsOf, uses}
use Rattle.row_layout.proofs.Split.{things-split}
use Rattle.row_layout.specs.Operations.{Change, Make, Set, Take, uses_of}
use Rattle.switch_machine.specs.Changes.{IsCall, changed_by}
use Rattle.switch_machine.specs.Changes as change
use Rattle.switch_machine.specs.Events.{IsAnswer, SwitchState, Due, Ended, Follows, IsEvent, IsGiven, IsSafe, AreEvents, Left, Retires, IsBegin, with_made_call, calls_of, after_events}
use Rattle.switch_machine.specs.Steps.{finished, left, moved, parted, started}
use Rattle.switch_machine.specs.Flights.{Can, MachineFlight, Goes, IsResting, IsShared, IsUser, Machine, Runs, StandsIn, put}
use Rattle.switch_machine.specs.Consistent.{IsConsistent}
use Rattle.switch_machine.specs.Tables.{TableLaws}
use Rattle.switch_machine.proofs.Runs.{kept-run}
use Rattle.switch_machine.proofs.Running.{no_flight, row_keys}
use Rattle.switch_machine.proofs.Splits.{IsPut, IsSplit, New, Old, name_split, put_by, row_off}
use Rattle.switch_machine.proofs.Tabled.{tabled}
use Rattle.machine_laws.specs.Quiet.{LeavesAlone, EntryStandsFor, ChangesEntry}

some_owner_once : (o p : Owner) (x : Option Owner) → x ≡ Some o → x ≡ Some p → o ≡ p
some_owner_once o p x a b = cc

-- ---- rest and rows, through what follows

module _ (plan : Ports) (k : Key) where
  record Quiet (e : Entry Rid) (m : Machine) : Type 0 where
    rests : IsResting m.board k
    stood : EntryStandsFor plan k e m

  rests_put : (w : ℕ) (f : MachineFlight) (flights : ℕ → Option MachineFlight) → (f.key ≡ k → ⊥) → ((v : ℕ) (g : MachineFlight) → flights v ≡ Some g → g.key ≡ k → ⊥) → (v : ℕ) (g : MachineFlight) → put w (Some f) flights v ≡ Some g → g.key ≡ k → ⊥
  rests_put w f flights apart rests v g at is = by (put_by w v (Some f) flights (Some g) at)
    where
      by : IsPut w v (Some f) flights (Some g) → ⊥
      by (New same e) = apart (ap (λ (z : MachineFlight). z.key) (same_Some f g e) ∙ is)
      by (Old other there) = rests v g there is

  rests_none : (w : ℕ) (flights : ℕ → Option MachineFlight) → ((v : ℕ) (g : MachineFlight) → flights v ≡ Some g → g.key ≡ k → ⊥) → (v : ℕ) (g : MachineFlight) → put w None flights v ≡ Some g → g.key ≡ k → ⊥
  rests_none w flights rests v g at is = by (put_by w v None flights (Some g) at)
    where
      by : IsPut w v None flights (Some g) → ⊥
      by (New same e) = no_flight g e
      by (Old other there) = rests v g there is

  with_board : (e : Entry Rid) (m later : Machine) → later.stands ≡ m.stands → later.board.applied k ≡ m.board.applied k → EntryStandsFor plan k e m → EntryStandsFor plan k e later
  with_board e m later same rows x = record {
    row = x.row;
    applied = rows ∙ x.applied;
    thing = x.thing;
    of = x.of;
    id = x.id;
    stands = subst (IsIn (x.id, x.thing)) (sym same) x.stands;
    body = x.body;
    is_body = subst (λ z. IsBody (Has (listed z)) x.thing x.body) (sym same) x.is_body;
    entry = x.entry;
  }

  quiet_left : (e : Entry Rid) (m : Machine) (w : ℕ) (f : MachineFlight) (retires : Option Owner) (due : List Change) → m.board.flights w ≡ Some f → Quiet e m → Quiet e (left m w f retires due)
  quiet_left e m w f retires due at x = record {
    rests = rests_put w (parted f retires) m.board.flights (x.rests w f at) x.rests;
    stood = with_board e m (left m w f retires due) refl refl x.stood;
  }

  quiet_ended : (e : Entry Rid) (m : Machine) (w : ℕ) (f : MachineFlight) → (f.key ≡ k → ⊥) → Quiet e m → Quiet e (finished m w f)
  quiet_ended e m w f apart x = record {
    rests = rests_none w m.board.flights x.rests;
    stood = with_board e m (finished m w f) refl (row_off f.key k f.new m.board.applied apart) x.stood;
  }

  quiet_follows : (e : Entry Rid) (w : ℕ) (m later : Machine) → Follows plan w m later → Quiet e m → Quiet e later
  quiet_follows e w m _ (Due c cs at) x = x
  quiet_follows e w m _ (Ended f ends) x = quiet_ended e m w f (x.rests w f ends.flying) x
  quiet_follows e w m _ (Left f o leaves) x = quiet_ended e (left m w f f.retires []) w (parted f f.retires) (x.rests w f leaves.leaving.flying) (quiet_left e m w f f.retires [] leaves.leaving.flying x)
  quiet_follows e w m _ (Retires f o last) x = quiet_left e m w f (Some o) _ last.leaving.flying x

  same_stands : (w : ℕ) (m later : Machine) → Follows plan w m later → later.stands ≡ m.stands
  same_stands w m _ (Due c cs at) = refl
  same_stands w m _ (Ended f ends) = refl
  same_stands w m _ (Left f o x) = refl
  same_stands w m _ (Retires f o x) = refl

-- ---- a call

module _ (plan : Ports) (is : IsPlan plan) (workers : ℕ) (capacities : List ℕ) (k : Key) where
  abbrev T : TableLaws plan
  T = tabled plan is

  -- the change is not about the thing
  spares : (e : Entry Rid) (m : Machine) → IsConsistent plan m → (x : Quiet plan k e m) (w : ℕ) (f : MachineFlight) (c : Change) → m.board.flights w ≡ Some f → Can plan f (StandsIn m) c → name_of x.stood.thing ≡ change.changed_name c → ⊥
  spares e m sound x w f c flying can same = by ((things-split plan k x.stood.row).into x.stood.thing x.stood.of)
    where
      -- it is of the key's row
      mine : (c : Change) → Can plan f (StandsIn m) c → name_of x.stood.thing ≡ change.changed_name c → owner.owner_of plan (name_of x.stood.thing) ≡ Some (OfRow k) → ⊥
      mine (Make t) can same of = can.fresh x.stood.thing (x.stood.id, x.stood.stands) same
      mine (Set t) can same of = x.rests w f flying (sym (row_keys k f.key (some_owner_once (OfRow k) (OfRow f.key) (owner.owner_of plan (name_of x.stood.thing)) of (ap (owner.owner_of plan) same ∙ can.own))))
      mine (Take n) can same of = goes can.goes
        where
          goes : Goes plan f n → ⊥
          goes (inl (own, none)) = x.rests w f flying (sym (row_keys k f.key (some_owner_once (OfRow k) (OfRow f.key) (owner.owner_of plan (name_of x.stood.thing)) of (ap (owner.owner_of plan) same ∙ own))))
          goes (inr (o, at, retires)) =
              let was = sound.board.left w f o flying retires in
              subst IsShared (sym (some_owner_once (OfRow k) o (owner.owner_of plan (name_of x.stood.thing)) of (ap (owner.owner_of plan) same ∙ at))) (T.are_shared f.key was.row o was.used)

      -- it is of what the row shares
      shared : (c : Change) → Can plan f (StandsIn m) c → name_of x.stood.thing ≡ change.changed_name c → (o : Owner) → IsShared o → IsUser plan m.board k o → owner.owner_of plan (name_of x.stood.thing) ≡ Some o → ⊥
      shared (Make t) can same o sh user of = can.fresh x.stood.thing (x.stood.id, x.stood.stands) same
      shared (Set t) can same o sh user of = subst IsShared (some_owner_once o (OfRow f.key) (owner.owner_of plan (name_of x.stood.thing)) of (ap (owner.owner_of plan) same ∙ can.own)) sh
      shared (Take n) can same o sh user of = goes can.goes
        where
          goes : Goes plan f n → ⊥
          goes (inl (own, none)) = subst IsShared (some_owner_once o (OfRow f.key) (owner.owner_of plan (name_of x.stood.thing)) of (ap (owner.owner_of plan) same ∙ own)) sh
          goes (inr (p, at, retires)) = sound.board.unused w f k o flying (subst (λ z. f.retires ≡ Some z) (sym (some_owner_once o p (owner.owner_of plan (name_of x.stood.thing)) of (ap (owner.owner_of plan) same ∙ at))) retires) user

      by : IsOf (own_things plan k x.stood.row) (uses plan k x.stood.row) x.stood.thing → ⊥
      by (inl h) = mine c can same (T.own k x.stood.row x.stood.thing (sound.board.fit k x.stood.row (inl x.stood.applied)) h)
      by (inr (o, h, in_it)) = shared c can same o (T.are_shared k x.stood.row o h) (inr (x.rests, subst (λ z. IsIn o (uses_of plan k z)) (sym x.stood.applied) h)) (T.shared o x.stood.thing in_it)

  -- a call of the change sets or removes no entry of the thing
  untouched : (e : Entry Rid) (s : SwitchState) → IsSafe plan workers capacities s → (x : Quiet plan k e s.machine) (w : ℕ) (f : MachineFlight) (c : Change) → s.machine.board.flights w ≡ Some f → Can plan f (StandsIn s.machine) c → (call : Call Rid) → IsCall (listed s.machine.stands) c call → ChangesEntry call e → ⊥
  untouched e s kept x w f (Make t) flying can call of h = subst (λ z. ChangesEntry z e) of.is h
  untouched e s kept x w f (Set t) flying can call of h =
      let named : name_of t ≡ name_of of.old = (changed (listed s.machine.stands) s.objects kept.laid of.old t of.body of.attr of.of of.change).same in
      let same = one-entry (listed s.machine.stands) s.objects kept.laid of.id x.stood.id of.old x.stood.thing of.body x.stood.body of.stands x.stood.stands of.of x.stood.is_body (subst (λ z. same_entry (entry_of of.id.0 of.body) z ≡ true) x.stood.entry (subst (λ z. ChangesEntry z e) of.is h)) in
      spares e s.machine kept.sound x w f (Set t) flying can (sym same ∙ sym named)
  untouched e s kept x w f (Take n) flying can call of h =
      let same = one-entry (listed s.machine.stands) s.objects kept.laid of.id x.stood.id of.old x.stood.thing of.body x.stood.body of.stands x.stood.stands of.of x.stood.is_body (subst (λ z. same_entry (entry_of of.id.0 of.body) z ≡ true) x.stood.entry (subst (λ z. ChangesEntry z e) of.is h)) in
      spares e s.machine kept.sound x w f (Take n) flying can (sym same ∙ of.named)

  -- ---- and the thing keeps its identifier and its body

  abbrev IsInBody : Thing → ThingName → Type 0
  IsInBody u n = (first_name u ≡ Some n) ⊎ (second_name u ≡ Some n)

  has_in : (layout : Layout Rid) (u : Thing) (b : Body Rid) (n : ThingName) → IsBody (Has layout) u b → IsInBody u n → (j : Rid) × Has layout n j
  has_in layout u b n x (inl h) = (x.first, subst (λ z. IsAt (Has layout) z x.first) h x.first_at)
  has_in layout u b n x (inr h) = (x.second, subst (λ z. IsAt (Has layout) z x.second) h x.second_at)

  module _ (old new : Layout Rid) (objects later : Objects) (laid : IsLaidOut old objects) (laid_later : IsLaidOut new later) (made : ℕ) (call : Call Rid) (id : Rid) (i : Rid) (u : Thing) where
    still : (c : Change) → old i u → (name_of u ≡ change.changed_name c → ⊥) → ((j : Rid) (t : Thing) → changed_by old c id j t → new j t) → new i u
    still (Make t) at apart into = into i u (inl at)
    still (Set t) at apart into = into i u (inl (at, apart))
    still (Take n) at apart into = into i u (at, apart)

    has_still : (c : Change) (of : IsCall old c call) → IsGiven old made c call of id → new i u → ((j : Rid) (t : Thing) → changed_by old c id j t → new j t) → ((j : Rid) (t : Thing) → new j t → changed_by old c id j t) → (n : ThingName) (j : Rid) → IsInBody u n → Has old n j → Has new n j
    has_still (Make t) of given at into back n j refers (v, there, named) = (v, into j v (inl there), named)
    has_still (Set t) of given at into back n j refers (v, there, named) = by (name_split (name_of v) (name_of t))
      where
        by : IsSplit (name_of v) (name_of t) → Has new n j
        by (inr apart) = (v, into j v (inl (there, apart)), named)
        by (inl same) =
            let is = (changed old objects laid of.old t of.body of.attr of.of of.change).same in
            let ids = (laid.one j of.id v of.old there of.stands (same ∙ is)).0 in
            (t, into j t (inr (ids ∙ sym given, refl)), sym same ∙ named)
    has_still (Take m) of given at into back n j refers (v, there, named) = by (name_split (name_of v) m)
      where
        by : IsSplit (name_of v) m → Has new n j
        by (inr apart) = (v, into j v (there, apart), named)
        by (inl same) =
            let b = laid_later.stand i u at in
            let x = has_in new u b.0 n b.1 refers in
            absurd ((back x.0 x.1.0 x.1.1).1 (x.1.2 ∙ sym named ∙ same))

    at_still : (f : (n : ThingName) (j : Rid) → IsInBody u n → Has old n j → Has new n j) (o : Option ThingName) (j : Rid) → ((n : ThingName) → o ≡ Some n → IsInBody u n) → IsAt (Has old) o j → IsAt (Has new) o j
    at_still f None j refers h = tt
    at_still f (Some n) j refers h = f n j (refers n refl) h

    body_still : (f : (n : ThingName) (j : Rid) → IsInBody u n → Has old n j → Has new n j) (b : Body Rid) → IsBody (Has old) u b → IsBody (Has new) u b
    body_still f b x = record {
      first = x.first;
      second = x.second;
      first_at = at_still f (first_name u) x.first (λ n h. inl h) x.first_at;
      second_at = at_still f (second_name u) x.second (λ n h. inr h) x.second_at;
      body_is = x.body_is;
    }

  quiet_answers : (e : Entry Rid) (s t : SwitchState) (call : Call Rid) → IsSafe plan workers capacities s → IsSafe plan workers capacities t → Quiet plan k e s.machine → IsAnswer plan workers call s t → Quiet plan k e t.machine × (ChangesEntry call e → ⊥)
  quiet_answers e s t call kept later q x = (quiet_follows plan k e x.next.worker m t.machine x.follows (record { rests = q.rests; stood = stood }), untouched e s kept q x.next.worker x.next.flight x.next.change x.next.flying can call x.next.of)
    where
      m : Machine
      m = moved s.machine x.next.worker x.next.rest x.stands

      can : Can plan x.next.flight (StandsIn s.machine) x.next.change
      can = (subst (Runs plan x.next.flight (StandsIn s.machine)) x.next.due (kept.sound.runs x.next.worker x.next.flight x.next.flying)).0

      laid_now : IsLaidOut (listed x.stands) t.objects
      laid_now = subst (λ z. IsLaidOut (listed z) t.objects) (same_stands plan k x.next.worker m t.machine x.follows) later.laid

      at : listed x.stands q.stood.id q.stood.thing
      at = still (listed s.machine.stands) (listed x.stands) s.objects t.objects kept.laid laid_now s.made call x.id q.stood.id q.stood.thing x.next.change q.stood.stands (spares e s.machine kept.sound q x.next.worker x.next.flight x.next.change x.next.flying can) x.into

      stood : EntryStandsFor plan k e m
      stood = record {
        row = q.stood.row;
        applied = q.stood.applied;
        thing = q.stood.thing;
        of = q.stood.of;
        id = q.stood.id;
        stands = at;
        body = q.stood.body;
        is_body = body_still (listed s.machine.stands) (listed x.stands) s.objects t.objects kept.laid laid_now s.made call x.id q.stood.id q.stood.thing (has_still (listed s.machine.stands) (listed x.stands) s.objects t.objects kept.laid laid_now s.made call x.id q.stood.id q.stood.thing x.next.change x.next.of x.given at x.into x.back) q.stood.body q.stood.is_body;
        entry = q.stood.entry;
      }

  -- ---- events

  quiet_starting : (e : Entry Rid) (s t : SwitchState) (x : IsBegin plan workers capacities s t) → (x.flight.key ≡ k → ⊥) → Quiet plan k e s.machine → Quiet plan k e t.machine
  quiet_starting e s t x apart q = quiet_follows plan k e x.worker (started s.machine x.worker x.flight x.due) t.machine x.follows (record {
    rests = rests_put plan k x.worker x.flight s.machine.board.flights apart q.rests;
    stood = with_board plan k e s.machine (started s.machine x.worker x.flight x.due) refl refl q.stood;
  })

  abbrev spared : (c : Option (Call Rid)) → Entry Rid → Type 0
  spared None e = Unit {0}
  spared (Some call) e = ChangesEntry call e → ⊥

  quiet_event : (e : Entry Rid) (s t : SwitchState) (c : Option (Call Rid)) → IsSafe plan workers capacities s → IsSafe plan workers capacities t → IsEvent plan workers capacities s c t → (IsIn k s.to_sync → ⊥) → Quiet plan k e s.machine → Quiet plan k e t.machine × spared c e
  quiet_event e s t None kept later (inl x) none q = (subst (Quiet plan k e) (sym x.machine) q, tt)
  quiet_event e s t None kept later (inr (inl x)) none q = (subst (Quiet plan k e) (sym x.machine) q, tt)
  quiet_event e s t None kept later (inr (inr (inl x))) none q = (subst (Quiet plan k e) (sym x.machine) q, tt)
  quiet_event e s t None kept later (inr (inr (inr x))) none q = (quiet_starting e s t x (λ h. none (subst (λ z. IsIn z s.to_sync) h x.to_sync.there)) q, tt)
  quiet_event e s t (Some call) kept later x none q = quiet_answers e s t call kept later q x

  abbrev Spared : Entry Rid → List (Call Rid) → Type 0
  Spared e calls = (call : Call Rid) → IsIn call calls → ChangesEntry call e → ⊥

  spared_called : (e : Entry Rid) (c : Option (Call Rid)) (calls : List (Call Rid)) → spared c e → Spared e calls → Spared e (with_made_call c calls)
  spared_called e None calls one rest = rest
  spared_called e (Some x) calls one rest = λ call at h. by call at h
    where
      by : (call : Call Rid) → IsIn call (x ∷ calls) → ChangesEntry call e → ⊥
      by call (inl same) h = one (subst (λ z. ChangesEntry z e) same h)
      by call (inr at) h = rest call at h

  quiet_run : (e : Entry Rid) (s : SwitchState) (es : List (Option (Call Rid) × SwitchState)) → IsSafe plan workers capacities s → AreEvents plan workers capacities s es → LeavesAlone k s es → (IsIn k s.to_sync → ⊥) → Quiet plan k e s.machine → Quiet plan k e (after_events s es).machine × Spared e (calls_of es)
  quiet_run e s [] kept run alone none q = (q, λ call h. elim h [ ])
  quiet_run e s (x ∷ es) kept run alone none q =
      let later = kept-run plan is workers capacities s (x ∷ []) kept (run.0, tt) in
      let one = quiet_event e s x.1 x.0 kept later run.0 none q in
      let rest = quiet_run e x.1 es later run.1 alone.1 (λ h. none (alone.0 h)) one.0 in
      (rest.0, spared_called e x.0 (calls_of es) one.1 rest.1)

  pub quiet-rows : (s : SwitchState) (es : List (Option (Call Rid) × SwitchState)) (e : Entry Rid) → IsSafe plan workers capacities s → AreEvents plan workers capacities s es → LeavesAlone k s es → IsResting s.machine.board k → (IsIn k s.to_sync → ⊥) → EntryStandsFor plan k e s.machine → IsResting (after_events s es).machine.board k × EntryStandsFor plan k e (after_events s es).machine × ((call : Call Rid) → IsIn call (calls_of es) → ChangesEntry call e → ⊥)
  quiet-rows s es e kept run alone rests none stood = let y = quiet_run e s es kept run alone none (record { rests = rests; stood = stood }) in (y.0.rests, y.0.stood, y.1)
