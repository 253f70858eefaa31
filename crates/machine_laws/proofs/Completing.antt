-- an operation that runs alone can be run to its end
use Rattle.std.proofs.Common.{◌≡◌, ◌⊎◌, ◌+◌, ◌<◌, ◌∷◌, ◌++◌, ◌∙◌, inl, inr, ℕ, zero, suc, Bool, true, false, List, [], length, Option, None, Some, refl, sym, ap, ap₂, subst, arith}
use Rattle.std.proofs.lemmas.Option.{same_Some}
use Rattle.table_schema.specs.Plan.{IsPlan, Ports}
use Rattle.table_schema.specs.declared.key.Key.{Key}
use Rattle.switch_model.specs.Placed.{Placed as Row}
use Rattle.sai_types.specs.declared.ids.Rid.{Rid}
use Rattle.sai_types.specs.declared.body.Call.{Call}
use Rattle.sai_types.specs.declared.thing.Thing.{Thing}
use Rattle.sai_types.specs.declared.thing.Thing.TheVariants as thing
use Rattle.sai_types.specs.After.{after_call}
use Rattle.sai_types.specs.Alike.{IsIn}
use Rattle.sai_types.specs.Made.{made_after}
use Rattle.sai_types.specs.Names.{ThingName, name_of}
use Rattle.chip_layout.specs.Layout.{listed, next_rid}
use Rattle.switch_model.specs.Things.{members_of}
use Rattle.row_layout.specs.Operations.{Change, Make, Set, Take, shared_going, take_all, uses_of}
use Rattle.row_layout.specs.Rows as owner
use Rattle.row_layout.specs.Rows.{Owner}
use Rattle.switch_machine.specs.Changes.{IsCall, changed_by}
use Rattle.switch_machine.specs.Events.{AreAnswers, Due, Ended, Follows, IsAnswer, IsBegin, IsDueCall, IsGiven, IsQuiet, IsSafe, Left, Retires, SwitchState, after_answers}
use Rattle.switch_machine.specs.Flights.{MachineFlight, IsShared, IsUser, Machine}
use Rattle.switch_machine.specs.Steps.{finished, left, moved, parted, started}
use Rattle.switch_machine.proofs.Kept.{kept-answers, kept-event}
use Rattle.switch_machine.proofs.Reasoned.{has-call}
use Rattle.switch_machine.proofs.Running.{no_flight}
use Rattle.switch_machine.proofs.Splits.{IsPut, IsSplit, New, Old, key_split, name_split, put_at, put_by, use_row_in}
use Rattle.switch_machine.proofs.Tabled.{tabled}
use Rattle.machine_laws.proofs.Sharing.{others-use, used-by}

-- ---- what stands after a change, as a list

keep_by : (n : ThingName) (x : Rid × Thing) → List (Rid × Thing) → IsSplit (name_of x.1) n → List (Rid × Thing)
keep_by n x rest (inl e) = rest
keep_by n x rest (inr apart) = x ∷ rest

without_name : ThingName → List (Rid × Thing) → List (Rid × Thing)
without_name n [] = []
without_name n (x ∷ xs) = keep_by n x (without_name n xs) (name_split (name_of x.1) n)

kept_in : (n : ThingName) (y : Rid × Thing) (xs : List (Rid × Thing)) → IsIn y (without_name n xs) → IsIn y xs × (name_of y.1 ≡ n → ⊥)
unfolding keep_by without_name
kept_in n y [] h = elim h [ ]
kept_in n y (x ∷ xs) h = by (name_split (name_of x.1) n) (λ g. kept_in n y xs g) h
  where
    by : (d : IsSplit (name_of x.1) n) → (IsIn y (without_name n xs) → IsIn y xs × (name_of y.1 ≡ n → ⊥)) → IsIn y (keep_by n x (without_name n xs) d) → IsIn y (x ∷ xs) × (name_of y.1 ≡ n → ⊥)
    by (inl e) rest g = let z = rest g in (inr z.0, z.1)
    by (inr apart) rest (inl e) = (inl e, λ same. apart (ap (λ (z : Rid × Thing). name_of z.1) (sym e) ∙ same))
    by (inr apart) rest (inr g) = let z = rest g in (inr z.0, z.1)

in_kept : (n : ThingName) (y : Rid × Thing) (xs : List (Rid × Thing)) → IsIn y xs → (name_of y.1 ≡ n → ⊥) → IsIn y (without_name n xs)
unfolding keep_by without_name
in_kept n y [] h other = elim h [ ]
in_kept n y (x ∷ xs) h other = by (name_split (name_of x.1) n) (λ g. in_kept n y xs g other) h
  where
    by : (d : IsSplit (name_of x.1) n) → (IsIn y xs → IsIn y (without_name n xs)) → IsIn y (x ∷ xs) → IsIn y (keep_by n x (without_name n xs) d)
    by (inl e) rest (inl same) = absurd (other (ap (λ (z : Rid × Thing). name_of z.1) same ∙ e))
    by (inl e) rest (inr g) = rest g
    by (inr apart) rest (inl same) = inl same
    by (inr apart) rest (inr g) = inr (rest g)

-- what stands after a call
pub record Changed (stands : List (Rid × Thing)) (made : ℕ) (c : Change) (call : Call Rid) (of : IsCall (listed stands) c call) : Type 0 where
  pub id : Rid
  pub given : IsGiven (listed stands) made c call of id
  pub later : List (Rid × Thing)
  pub into : (i : Rid) (t : Thing) → changed_by (listed stands) c id i t → listed later i t
  pub back : (i : Rid) (t : Thing) → listed later i t → changed_by (listed stands) c id i t

abbrev pair : Rid → Thing → Rid × Thing
pair i t = (i, t)

one_pair : (i j : Rid) (t u : Thing) → i ≡ j → t ≡ u → pair i t ≡ pair j u
one_pair i j t u e h = ap₂ pair e h

pub change_made : (stands : List (Rid × Thing)) (made : ℕ) (c : Change) (call : Call Rid) (of : IsCall (listed stands) c call) → Changed stands made c call of
change_made stands made (Make t) call of = record { id = next_rid made; given = λ h. refl; later = (next_rid made, t) ∷ stands; into = into; back = back }
  where
    into : (i : Rid) (u : Thing) → IsIn (i, u) stands ⊎ ((i ≡ next_rid made) × (u ≡ t)) → IsIn (i, u) ((next_rid made, t) ∷ stands)
    into i u (inl h) = inr h
    into i u (inr (e, same)) = inl (one_pair i (next_rid made) u t e same)

    back : (i : Rid) (u : Thing) → IsIn (i, u) ((next_rid made, t) ∷ stands) → IsIn (i, u) stands ⊎ ((i ≡ next_rid made) × (u ≡ t))
    back i u (inl e) = inr (ap (λ (z : Rid × Thing). z.0) e, ap (λ (z : Rid × Thing). z.1) e)
    back i u (inr h) = inl h
change_made stands made (Set t) call of = record { id = of.id; given = refl; later = (of.id, t) ∷ without_name (name_of t) stands; into = into; back = back }
  where
    into : (i : Rid) (u : Thing) → (IsIn (i, u) stands × (name_of u ≡ name_of t → ⊥)) ⊎ ((i ≡ of.id) × (u ≡ t)) → IsIn (i, u) ((of.id, t) ∷ without_name (name_of t) stands)
    into i u (inl (h, other)) = inr (in_kept (name_of t) (i, u) stands h other)
    into i u (inr (e, same)) = inl (one_pair i of.id u t e same)

    back : (i : Rid) (u : Thing) → IsIn (i, u) ((of.id, t) ∷ without_name (name_of t) stands) → (IsIn (i, u) stands × (name_of u ≡ name_of t → ⊥)) ⊎ ((i ≡ of.id) × (u ≡ t))
    back i u (inl e) = inr (ap (λ (z : Rid × Thing). z.0) e, ap (λ (z : Rid × Thing). z.1) e)
    back i u (inr h) = inl (kept_in (name_of t) (i, u) stands h)
change_made stands made (Take n) call of = record { id = next_rid made; given = tt; later = without_name n stands; into = λ i u h. in_kept n (i, u) stands h.0 h.1; back = λ i u h. kept_in n (i, u) stands h }

-- ---- what follows, and what is left to do

some_going : (o : Owner) → IsShared o → 0 < length (take_all (shared_going o) [])
some_going (owner.OfRow k) h = elim h [ ]
some_going (owner.Bridge lane) h = omega arith
some_going (owner.Own v ip) h = omega arith
some_going (owner.Group hops) h = more (members_of hops hops)
  where
    more : (ts : List Thing) → 0 < length (take_all (ts ++ (thing.Group hops ∷ [])) [])
    more [] = omega arith
    more (t ∷ ts) = omega arith

abbrev pub going_length : Option Owner → ℕ
going_length None = 0
going_length (Some o) = length (take_all (shared_going o) [])

module _ (plan : Ports) (is : IsPlan plan) (workers : ℕ) (capacities : List ℕ) where
  -- one operation is under way, and so many changes are left at most
  pub record Single (m : Machine) (n : ℕ) : Type 0 where
    pub worker : ℕ
    pub below : worker < workers
    pub flight : MachineFlight
    pub there : m.board.flights worker ≡ Some flight
    pub only : (v : ℕ) (g : MachineFlight) → m.board.flights v ≡ Some g → v ≡ worker
    pub some : 0 < length (m.due worker)
    pub size : length (m.due worker) + going_length flight.leaves ≡ n

  abbrev pub IsStill : Machine → Type 0
  IsStill m = (v : ℕ) (g : MachineFlight) → m.board.flights v ≡ Some g → ⊥

  module _ (m : Machine) (w : ℕ) (f : MachineFlight) (below : w < workers) (there : m.board.flights w ≡ Some f) (only : (v : ℕ) (g : MachineFlight) → m.board.flights v ≡ Some g → v ≡ w) where
    one : (v : ℕ) (g : MachineFlight) → m.board.flights v ≡ Some g → g.key ≡ f.key
    one v g at = ap (λ (z : MachineFlight). z.key) (same_Some g f (sym at ∙ ap m.board.flights (only v g at) ∙ there))

    ended : (v : ℕ) (g : MachineFlight) → IsPut w v None m.board.flights (Some g) → ⊥
    ended v g (New same h) = no_flight g h
    ended v g (Old other at) = other (only v g at)

    left_one : (h : MachineFlight) (retires : Option Owner) (due : List Change) (v : ℕ) (g : MachineFlight) → (left m w h retires due).board.flights v ≡ Some g → v ≡ w
    left_one h retires due v g at = by (put_by w v (Some (parted h retires)) m.board.flights (Some g) at)
      where
        by : IsPut w v (Some (parted h retires)) m.board.flights (Some g) → v ≡ w
        by (New same e) = same
        by (Old other at) = only v g at

    left_ended : (h : MachineFlight) (retires : Option Owner) (due : List Change) (v : ℕ) (g : MachineFlight) → IsPut w v None (left m w h retires due).board.flights (Some g) → ⊥
    left_ended h retires due v g (New same e) = no_flight g e
    left_ended h retires due v g (Old other at) = other (left_one h retires due v g at)

    -- what follows is rest, or the operation goes on
    pub goes-on : ((o : Owner) → f.leaves ≡ Some o → IsShared o) → (later : Machine) → Follows plan w m later → IsStill later ⊎ Single later (length (m.due w) + going_length f.leaves)
    goes-on shared _ (Due c cs e) = inr (record { worker = w; below = below; flight = f; there = there; only = only; some = subst (λ z. 0 < length z) (sym e) (omega arith); size = refl })
    goes-on shared _ (Ended g x) = inl (λ v h at. ended v h (put_by w v None m.board.flights (Some h) at))
    goes-on shared _ (Left g o x) = inl (λ v h at. left_ended g g.retires [] v h (put_by w v None (left m w g g.retires []).board.flights (Some h) at))
    goes-on shared _ (Retires g o x) =
        let same : f.leaves ≡ Some o = ap (λ (z : MachineFlight). z.leaves) (same_Some f g (sym there ∙ x.leaving.flying)) ∙ x.leaving.leaves in
        inr (record {
          worker = w;
          below = below;
          flight = parted g (Some o);
          there = put_at w w (Some (parted g (Some o))) m.board.flights refl;
          only = left_one g (Some o) (take_all (shared_going o) []);
          some = subst (λ z. 0 < length z) (sym (put_at w w (take_all (shared_going o) []) m.due refl)) (some_going o (shared o same));
          size = subst (λ z. length z + 0 ≡ length (m.due w) + going_length f.leaves) (sym (put_at w w (take_all (shared_going o) []) m.due refl)) (omega (arith, ap length x.leaving.done, ap going_length same));
        })

    module _ (s : SwitchState) (kept : IsSafe plan workers capacities s) (same_row : (q : Key) → m.board.applied q ≡ s.machine.board.applied q) where
      -- something follows
      pub follow : (d : List Change) → m.due w ≡ d → (l : Option Owner) → f.leaves ≡ l → (later : Machine) × Follows plan w m later
      follow (c ∷ cs) e l leaves = (m, Due c cs e)
      follow [] e None leaves = (finished m w f, Ended f (record { flying = there; done = e; left = leaves }))
      follow [] e (Some o) leaves = by (used-by plan workers capacities s kept f.key o) refl
        where
          by : (b : Bool) → used-by plan workers capacities s kept f.key o ≡ b → (later : Machine) × Follows plan w m later
          by true used =
              let u = (others-use plan workers capacities s kept f.key).yes o used in (
                finished (left m w f f.retires []) w (parted f f.retires),
                Left f o (record { leaving = record { flying = there; done = e; leaves = leaves }; other = u.0; apart = u.2; user = inr ((λ v g at is_it. u.2 (sym is_it ∙ one v g at)), subst (λ z. IsIn o (uses_of plan u.0 z)) (sym (same_row u.0 ∙ u.3)) u.4) }),
              )
          by false not = (left m w f (Some o) (take_all (shared_going o) []), Retires f o (record { leaving = record { flying = there; done = e; leaves = leaves }; last = last }))
            where
              last : (q : Key) → IsUser plan m.board q o → q ≡ f.key
              last q (inl (v, g, at, is_it, counts)) = sym is_it ∙ one v g at
              last q (inr (rests, h)) = apart_or (key_split q f.key)
                where
                  apart_or : IsSplit q f.key → q ≡ f.key
                  apart_or (inl e) = e
                  apart_or (inr apart) = let r = use_row_in plan q (m.board.applied q) o h in absurd ((others-use plan workers capacities s kept f.key).no o not q r.0 apart (sym (same_row q) ∙ r.1) r.2)

  -- what a row shares is shared
  use_shared : (k : Key) (o : Option Row) (p : Owner) → IsIn p (uses_of plan k o) → IsShared p
  use_shared k o p h = let r = use_row_in plan k o p h in (tabled plan is).are_shared k r.0 p r.2

  -- ---- to the end

  record Answered (s : SwitchState) (n : ℕ) : Type 0 where
    call : Call Rid
    then : SwitchState
    answer : IsAnswer plan workers call s then
    is_so : IsStill then.machine ⊎ Single then.machine n

  list_of : (cs : List Change) → 0 < length cs → (c : Change) × (rest : List Change) × (cs ≡ c ∷ rest)
  list_of [] h = absurd (omega (arith, h))
  list_of (c ∷ cs) h = (c, cs, refl)

  answer : (s : SwitchState) (n : ℕ) → IsSafe plan workers capacities s → Single s.machine (suc n) → Answered s n
  answer s n kept x =
      let d = list_of (s.machine.due x.worker) x.some in
      let y = has-call plan is workers capacities s kept x.worker x.flight d.0 d.1 x.below x.there d.2 in
      by y.0 y.1
    where
      by : (call : Call Rid) → IsDueCall workers call s → Answered s n
      by call y =
          let z = change_made s.machine.stands s.made y.change call y.of in
          let at : y.worker ≡ x.worker = x.only y.worker y.flight y.flying in
          let m : Machine = moved s.machine y.worker y.rest z.later in
          let flight : y.flight ≡ x.flight = same_Some y.flight x.flight (sym y.flying ∙ ap s.machine.board.flights at ∙ x.there) in
          let due : s.machine.due x.worker ≡ y.change ∷ y.rest = ap s.machine.due (sym at) ∙ y.due in
          let size : length y.rest + going_length y.flight.leaves ≡ n = omega (arith, subst (λ v. length (y.change ∷ y.rest) + going_length v.leaves ≡ suc n) (sym flight) (subst (λ v. length v + going_length x.flight.leaves ≡ suc n) due x.size)) in
          let only : (v : ℕ) (g : MachineFlight) → m.board.flights v ≡ Some g → v ≡ y.worker = λ v g there. x.only v g there ∙ sym at in
          let f = follow m y.worker y.flight y.below y.flying only s kept (λ q. refl) (m.due y.worker) refl y.flight.leaves refl in
          let due_is : m.due y.worker ≡ y.rest = put_at y.worker y.worker y.rest s.machine.due refl in
          let on = goes-on m y.worker y.flight y.below y.flying only (λ o leaves. let was = (kept.sound.board.leaves y.worker y.flight o y.flying leaves).0 in (tabled plan is).are_shared y.flight.key was.row o was.used) f.0 f.1 in
          record {
            call = call;
            then = record { machine = f.0; written = s.written; to_sync = s.to_sync; made = made_after s.made call; objects = after_call (s.made + 1) s.objects call };
            answer = record { next = y; id = z.id; given = z.given; stands = z.later; into = z.into; back = z.back; follows = f.1; written = refl; to_sync = refl; made = refl; objects = refl };
            is_so = subst (λ z. IsStill f.0 ⊎ Single f.0 z) (ap (λ z. length z + going_length y.flight.leaves) due_is ∙ size) on;
          }

  -- from where one operation is under way, its answers lead to rest
  pub to-rest : (n : ℕ) (s : SwitchState) → IsSafe plan workers capacities s → IsStill s.machine ⊎ Single s.machine n → (es : List (Call Rid × SwitchState)) × AreAnswers plan workers s es × IsQuiet (after_answers s es)
  to-rest n s kept (inl still) = ([], tt, still)
  to-rest zero s kept (inr x) = absurd (omega (arith, x.some, x.size))
  to-rest (suc n) s kept (inr x) =
      let y = answer s n kept x in
      let z = to-rest n y.then (kept-answers plan is workers capacities s y.then kept y.call y.answer) y.is_so in
      ((y.call, y.then) ∷ z.0, (y.answer, z.1), z.2)

  -- an operation that begins at rest can be run to its end
  pub runs-to-end : (s t : SwitchState) → IsSafe plan workers capacities s → IsQuiet s → (x : IsBegin plan workers capacities s t) → (es : List (Call Rid × SwitchState)) × AreAnswers plan workers t es × IsQuiet (after_answers t es)
  runs-to-end s t kept quiet x =
      let m : Machine = started s.machine x.worker x.flight x.due in
      let on = goes-on m x.worker x.flight x.below (put_at x.worker x.worker (Some x.flight) s.machine.board.flights refl) (λ v g at. by v g (put_by x.worker v (Some x.flight) s.machine.board.flights (Some g) at)) (λ o leaves. use_shared x.flight.key (s.machine.board.applied x.flight.key) o (x.begins.leaves o leaves).0) t.machine x.follows in
      to-rest (length (m.due x.worker) + going_length x.flight.leaves) t (kept-event plan is workers capacities s t None kept (inr (inr (inr x)))) on
    where
      by : (v : ℕ) (g : MachineFlight) → IsPut x.worker v (Some x.flight) s.machine.board.flights (Some g) → v ≡ x.worker
      by v g (New same e) = same
      by v g (Old other at) = absurd (quiet v g at)
