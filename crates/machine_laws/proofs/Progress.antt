-- at rest a key to sync has a reason to wait, or an operation of it begins
use Rattle.std.proofs.Common.{◌≡◌, ◌⊎◌, ◌<◌, ◌∷◌, ◌∙◌, inl, inr, ℕ, Bool, true, false, not, List, [], Option, None, Some, is_some, option_map, refl, sym, ap, subst}
use Rattle.std.proofs.lemmas.Bool.{false≢true}
use Rattle.swss_types.specs.Vrf.{same_vrf}
use Rattle.swss_types.specs.declared.vrf.Vrf.{Vrf}
use Rattle.swss_types.proofs.Routers.{vrf-refl}
use Rattle.table_schema.specs.Names.{names_of}
use Rattle.table_schema.specs.Plan.{IsPlan, Ports}
use Rattle.table_schema.specs.declared.key.Key.{Key}
use Rattle.table_schema.specs.declared.key.Key.TheVariants as key
use Rattle.table_schema.specs.declared.row.Row.{Row}
use Rattle.table_schema.specs.declared.row.Row.TheVariants as row
use Rattle.sai_types.specs.declared.kind.Kind.{Kind}
use Rattle.sai_types.specs.Alike.{IsIn}
use Rattle.switch_model.specs.Desired.{have_rows}
use Rattle.switch_model.specs.Good.{TypedRows}
use Rattle.switch_model.specs.Marks.{IsHeldBy, IsMoved, first_missing}
use Rattle.switch_model.specs.Placed as placed
use Rattle.switch_model.specs.Placed.{Placed, bare, bare_rows, place, router_in}
use Rattle.switch_model.specs.declared.wait.Wait.TheVariants as wait
use Rattle.switch_model.proofs.Ready.{have_rows-from_missing}
use Rattle.row_layout.specs.Operations.{Change}
use Rattle.switch_machine.specs.Events.{HasLeft, IsBegin, IsQuiet, IsSafe, SwitchState, placed_good}
use Rattle.switch_machine.specs.Flights.{MachineFlight, Machine, goes_over}
use Rattle.switch_machine.specs.Next.{MustWait}
use Rattle.switch_machine.specs.Operations.{MayBegin}
use Rattle.switch_machine.specs.Places.{HasRoomFor}
use Rattle.switch_machine.specs.Reasons.{LacksRoom}
use Rattle.switch_machine.specs.Steps.{started}
use Rattle.switch_machine.specs.Written.{IsGoodOnce, good_of}
use Rattle.switch_machine.proofs.Placing.{row_of}
use Rattle.switch_machine.proofs.Reasoned.{closed}
use Rattle.switch_machine.proofs.Splits.{IsPut, IsSplit, New, Old, key_split, put_at, put_by}
use Rattle.machine_laws.specs.Reading.{IsOnSwitch}
use Rattle.machine_laws.proofs.Completing.{follow}
use Rattle.machine_laws.proofs.Holding.{held-or}
use Rattle.machine_laws.proofs.Places.{room-gone, room-or}
use Rattle.machine_laws.proofs.Possible.{begin-free}
use Rattle.machine_laws.proofs.Rows.{has_row, no_some}
use Rattle.machine_laws.proofs.Sharing.{AreKeys, written-once}

-- ---- a key leaves those to sync

without_by : (k x : Key) → List Key → IsSplit x k → List Key
without_by k x rest (inl e) = rest
without_by k x rest (inr apart) = x ∷ rest

without_key : Key → List Key → List Key
without_key k [] = []
without_key k (x ∷ xs) = without_by k x (without_key k xs) (key_split x k)

without_in : (k q : Key) (xs : List Key) → IsIn q (without_key k xs) → IsIn q xs × (q ≡ k → ⊥)
unfolding without_by without_key
without_in k q [] h = elim h [ ]
without_in k q (x ∷ xs) h = by (key_split x k) (λ g. without_in k q xs g) h
  where
    by : (d : IsSplit x k) → (IsIn q (without_key k xs) → IsIn q xs × (q ≡ k → ⊥)) → IsIn q (without_by k x (without_key k xs) d) → IsIn q (x ∷ xs) × (q ≡ k → ⊥)
    by (inl e) rest g = let y = rest g in (inr y.0, y.1)
    by (inr apart) rest (inl e) = (inl e, λ same. apart (sym e ∙ same))
    by (inr apart) rest (inr g) = let y = rest g in (inr y.0, y.1)

in_without : (k q : Key) (xs : List Key) → IsIn q xs → (q ≡ k) ⊎ IsIn q (without_key k xs)
unfolding without_by without_key
in_without k q [] h = elim h [ ]
in_without k q (x ∷ xs) h = by (key_split x k) (λ g. in_without k q xs g) h
  where
    by : (d : IsSplit x k) → (IsIn q xs → (q ≡ k) ⊎ IsIn q (without_key k xs)) → IsIn q (x ∷ xs) → (q ≡ k) ⊎ IsIn q (without_by k x (without_key k xs) d)
    by (inl e) rest (inl same) = inl (same ∙ e)
    by (inl e) rest (inr g) = rest g
    by (inr apart) rest (inl same) = inr (inl same)
    by (inr apart) rest (inr g) = up (rest g)
      where
        up : (q ≡ k) ⊎ IsIn q (without_key k xs) → (q ≡ k) ⊎ IsIn q (x ∷ without_key k xs)
        up (inl same) = inl same
        up (inr at) = inr (inr at)

has_left : (k : Key) (xs : List Key) → IsIn k xs → HasLeft k xs (without_key k xs)
has_left k xs there = record { there = there; gone = λ h. (without_in k k xs h).1 refl; others = λ q h. in_without k q xs h; only = λ q h. (without_in k q xs h).0 }

-- an interface that goes over has a row in another router
goes_moved : (k : Key) (o : Option Placed) (v : Vrf) (r : Row) → goes_over k o (Some (place v r)) ≡ true → (x : Placed) × (o ≡ Some x) × IsMoved k (bare x) r
goes_moved (key.Intf n) (Some (placed.Intf u)) v (row.Intf w) h = (placed.Intf u, refl, λ e. false≢true (sym (ap not (subst (λ z. same_vrf u z ≡ true) e (vrf-refl u))) ∙ h))
goes_moved k o v r h = absurd (false≢true h)

module _ (plan : Ports) (is : IsPlan plan) (workers : ℕ) (capacities : List ℕ) (s : SwitchState) (kept : IsSafe plan workers capacities s) (quiet : IsQuiet s) (w : ℕ) (below : w < workers) where
  abbrev rows : TypedRows
  rows = bare_rows s.machine.board.applied

  abbrev coming : Key → Option Placed
  coming q = placed_good plan s.machine.board s.written q

  one_begun : (f : MachineFlight) (v : ℕ) (g : MachineFlight) → IsPut w v (Some f) s.machine.board.flights (Some g) → v ≡ w
  one_begun f v g (New same e) = same
  one_begun f v g (Old other at) = absurd (quiet v g at)

  module _ (k : Key) (there : IsIn k s.to_sync) (on : IsOnSwitch k) where
    abbrev Starts : Type 0
    Starts = (t : SwitchState) × (x : IsBegin plan workers capacities s t) × (x.worker ≡ w) × (x.flight.key ≡ k)

    starts : (f : MachineFlight) (due : List Change) → f.key ≡ k → f.new ≡ coming k → MayBegin plan s.machine w f due → HasRoomFor workers capacities s.objects s.machine due → Starts
    starts f due same new begins room =
        let m : Machine = started s.machine w f due in
        let y = follow plan is workers capacities m w f below (put_at w w (Some f) s.machine.board.flights refl) (λ v g at. one_begun f v g (put_by w v (Some f) s.machine.board.flights (Some g) at)) s kept (λ q. refl) (m.due w) refl f.leaves refl in (
          record { machine = y.0; written = s.written; to_sync = without_key f.key s.to_sync; made = s.made; objects = s.objects },
          record {
            worker = w;
            below = below;
            flight = f;
            due = due;
            new = new ∙ ap coming (sym same);
            begins = begins;
            room = room;
            follows = y.1;
            written = refl;
            made = refl;
            objects = refl;
            to_sync = has_left f.key s.to_sync (subst (λ z. IsIn z s.to_sync) (sym same) there);
          },
          refl,
          same,
        )

    abbrev IsFree : Type 0
    IsFree = ((r : Row) → good_of plan s.written k ≡ Some r → have_rows rows (names_of k r) ≡ true) × (goes_over k (s.machine.board.applied k) (coming k) ≡ true → (q : Key) (r : Row) → rows q ≡ Some r → IsIn k (names_of q r) → ⊥)

    no_row : {X : Type 0} (o : Option Row) → o ≡ None → is_some o ≡ true → X
    no_row None e h = absurd cc
    no_row (Some r) e h = absurd cc

    from_free : IsFree → MustWait plan workers capacities s k ⊎ Starts
    from_free free =
        let x = begin-free plan is workers capacities s w k kept quiet on free.0 free.1 in
        by x.0 x.1 x.2 x.3 x.4 (good_of plan s.written k) refl
      where
        roomy : (f : MachineFlight) (due : List Change) → f.key ≡ k → f.new ≡ coming k → MayBegin plan s.machine w f due → HasRoomFor workers capacities s.objects s.machine due ⊎ ((kind : Kind) × LacksRoom plan workers capacities s f.key kind) → MustWait plan workers capacities s k ⊎ Starts
        roomy f due same new begins (inl room) = inr (starts f due same new begins room)
        roomy f due same new begins (inr (kind, lacks)) = inl (wait.NoRoom kind, subst (λ z. LacksRoom plan workers capacities s z kind) same lacks)

        by : (f : MachineFlight) (due : List Change) → f.key ≡ k → f.new ≡ coming k → MayBegin plan s.machine w f due → (o : Option Row) → good_of plan s.written k ≡ o → MustWait plan workers capacities s k ⊎ Starts
        by f due same new begins None e = inr (starts f due same new begins (room-gone plan workers capacities s w f due begins (new ∙ ap (option_map (place (router_in rows k))) e)))
        by f due same new begins (Some r) e = roomy f due same new begins (room-or plan workers capacities s w f due begins r (new ∙ ap (option_map (place (router_in rows k))) e ∙ ap (λ q. Some (place (router_in rows q) r)) (sym same)) (ap (good_of plan s.written) same ∙ e))

    rests : (v : ℕ) (g : MachineFlight) → s.machine.board.flights v ≡ Some g → g.key ≡ k → ⊥
    rests v g at same = quiet v g at

    -- it has a reason to wait, or an operation of it begins
    pub waits-or-begins : MustWait plan workers capacities s k ⊎ Starts
    waits-or-begins = by (good_of plan s.written k) refl
      where
        holders : ((holder : Key) × IsHeldBy rows k holder) ⊎ ((q : Key) (r : Row) → rows q ≡ Some r → IsIn k (names_of q r) → ⊥)
        holders = held-or rows k (AreKeys s.written.taken) (λ q r at. let y = row_of (s.machine.board.applied q) r at in written-once plan s.written.taken q r (subst (IsGoodOnce plan s.written.taken q) y.2 (kept.good q y.0 (inl y.1))))

        same_row : (o : Option Row) (r x : Row) → o ≡ Some r → o ≡ Some x → r ≡ x
        same_row o r x h g = cc

        -- it goes over, and what its good row names is there
        over : (r : Row) → good_of plan s.written k ≡ Some r → have_rows rows (names_of k r) ≡ true → (b : Bool) → goes_over k (s.machine.board.applied k) (coming k) ≡ b → ((holder : Key) × IsHeldBy rows k holder) ⊎ ((q : Key) (r : Row) → rows q ≡ Some r → IsIn k (names_of q r) → ⊥) → MustWait plan workers capacities s k ⊎ Starts
        over r e have false goes _ = from_free ((λ z at. subst (λ v. have_rows rows (names_of k v) ≡ true) (same_row (good_of plan s.written k) r z e at) have), λ other. absurd (false≢true (sym goes ∙ other)))
        over r e have true goes (inr none) = from_free ((λ z at. subst (λ v. have_rows rows (names_of k v) ≡ true) (same_row (good_of plan s.written k) r z e at) have), λ other. none)
        over r e have true goes (inl (holder, held)) =
            let x = goes_moved k (s.machine.board.applied k) (router_in rows k) r (sym (ap (λ o. goes_over k (s.machine.board.applied k) (option_map (place (router_in rows k)) o)) e) ∙ goes) in
            inl (wait.Held holder, (rests, inr (bare x.0, r, ap (option_map bare) x.1, e, have, x.2), (bare x.0, ap (option_map bare) x.1, held)))

        named : (r : Row) → good_of plan s.written k ≡ Some r → (o : Option Key) → first_missing rows (names_of k r) ≡ o → MustWait plan workers capacities s k ⊎ Starts
        named r e (Some n) missing = inl (wait.Missing n, (rests, (r, e, missing)))
        named r e None missing = over r e (have_rows-from_missing rows (names_of k r) missing) (goes_over k (s.machine.board.applied k) (coming k)) refl holders

        gone : good_of plan s.written k ≡ None → (o : Option Row) → rows k ≡ o → ((holder : Key) × IsHeldBy rows k holder) ⊎ ((q : Key) (r : Row) → rows q ≡ Some r → IsIn k (names_of q r) → ⊥) → MustWait plan workers capacities s k ⊎ Starts
        gone e o at (inr none) = from_free ((λ r good. no_some (good_of plan s.written k) r e good), λ same. none)
        gone e (Some r) at (inl (holder, held)) = inl (wait.Held holder, (rests, inl e, (r, at, held)))
        gone e None at (inl (holder, held)) = no_row (rows k) at (has_row rows (names_of holder held.row) k (closed plan is workers capacities s kept holder held.row held.applied_row) held.names)

        by : (o : Option Row) → good_of plan s.written k ≡ o → MustWait plan workers capacities s k ⊎ Starts
        by (Some r) e = named r e (first_missing rows (names_of k r)) refl
        by None e = gone e (rows k) refl holders
