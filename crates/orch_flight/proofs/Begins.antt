-- a start, from what its steps tell
use Rattle.std.proofs.Common.{◌≡◌, ℕ, List, [], ◌∷◌, ◌++◌, map, Option, Some, None, option_map, option_and_then, Result, Ok, Err, OnOk, OnErr, IfOk, IfErr, Bool, true, false, if◌then◌else◌, refl, sym, ap, ap₂, subst, ◌∙◌, arith}
use Rattle.swss_types.specs.declared.out_of_memory.OutOfMemory.{OutOfMemory}
use Rattle.table_schema.specs.Plan.{Ports}
use Rattle.table_schema.specs.declared.key.Key.{Key}
use Rattle.sai_types.specs.declared.kind.Kind.{Kind}
use Rattle.sai_types.specs.declared.kind.Kind.TheVariants as kind
use Rattle.sai_types.specs.declared.thing.Thing.{Thing}
use Rattle.sai_types.specs.Kinds.{all_kinds}
use Rattle.switch_model.specs.Placed.{Placed as Row}
use Rattle.switch_model.specs.declared.wait.Wait.{Wait}
use Rattle.switch_model.specs.declared.wait.Wait.TheVariants as wait
use Rattle.row_layout.specs.Operations.{Change, Set, own_changes, same_thing, set_to, take_all}
use Rattle.ref_counts.specs.declared.name.Name.{Name}
use Rattle.ref_counts.specs.declared.name.Name.TheVariants as name
use Rattle.ref_counts.specs.Registered.{Registered, first_of, begun_to_go, held_or, least_worker, pins_but, retire_refusal}
use Rattle.ref_counts.specs.Registry.{Names, changed, retire_refusal_at, registered_at, users_at}
use Rattle.ref_counts.specs.Room.{Reserves, RoomState, lacking, number_of_kind}
use Rattle.switch_machine.specs.Operations.{built_first}
use Rattle.switch_machine.specs.Places.{makes}
use Rattle.orch_flight.specs.Needing.{busy_for, crowded_for, first_unapplied, holder_of, least_of, or_else, pinning, places_for, row_names, row_reason, to_build, wait_of, workers_on}
use Rattle.orch_flight.specs.Sharing.{begun_by, lacks_shared}
use Rattle.orch_flight.specs.Starting.{IsBegunBy, started_by, started_names, started_names_by}
use Rattle.orch_flight.specs.Taking.{to_list}

-- ---- changes that make nothing

abbrev pub no_places : List ℕ
no_places = 0 ∷ 0 ∷ 0 ∷ 0 ∷ 0 ∷ 0 ∷ 0 ∷ 0 ∷ 0 ∷ 0 ∷ 0 ∷ 0 ∷ []

pub places-set : (t u : Thing) (rest : List Change) → places_for (set_to t u rest) ≡ places_for rest
places-set t u rest = elim (same_thing t u) as (λ b. places_for (if b then rest else Set u ∷ rest) ≡ places_for rest) [ true ↦ refl | false ↦ refl ]

makes-none : (k : Kind) (ts : List Thing) → makes k (take_all ts []) ≡ 0
makes-none k [] = refl
makes-none k (t ∷ ts) = let none : makes k (take_all ts []) ≡ 0 = makes-none k ts in omega (arith, none)

all-none : (ts : List Thing) (ks : List Kind) → map (λ k. makes k (take_all ts [])) ks ≡ map (λ k. 0) ks
all-none ts [] = refl
all-none ts (k ∷ ks) = ap₂ (λ n ns. n ∷ ns) (makes-none k ts) (all-none ts ks)

pub places-taken : (ts : List Thing) → places_for (take_all ts []) ≡ no_places
places-taken ts = all-none ts all_kinds

number-none : (k : Kind) → number_of_kind no_places k ≡ 0
number-none kind.Port = refl
number-none kind.Vlan = refl
number-none kind.VirtualRouter = refl
number-none kind.BridgePort = refl
number-none kind.VlanMember = refl
number-none kind.Rif = refl
number-none kind.OwnAddress = refl
number-none kind.Neighbor = refl
number-none kind.NextHop = refl
number-none kind.Group = refl
number-none kind.GroupMember = refl
number-none kind.Route = refl

pub reserves-none : (room : RoomState) (worker : ℕ) (need : List ℕ) → need ≡ no_places → Reserves room worker need room
reserves-none room worker need is = record {
  capacities = refl;
  more = λ k. let none : number_of_kind need k ≡ 0 = ap (λ l. number_of_kind l k) is ∙ number-none k in omega (arith, none);
  others = λ other k apart. refl;
}

lacking-none : (room : RoomState) (used : List ℕ) → lacking room no_places used ≡ None
lacking-none room used = refl

pub lacking-no_need : (room : RoomState) (need used : List ℕ) → need ≡ no_places → lacking room need used ≡ None
lacking-no_need room need used is = ap (λ l. lacking room l used) is ∙ lacking-none room used

-- ---- a row that is to go

retire_refused : (worker : ℕ) (o : Option Registered) → option_and_then (retire_refusal worker) o ≡ or_else (option_map wait.Held (first_of (users_at o))) (option_map wait.Busy (pinning worker o))
retire_refused worker None = refl
retire_refused worker (Some r) = by (first_of r.users) (least_worker (pins_but worker r.pins))
  where
    by : (u : Option Key) (w : Option ℕ) → held_or u w ≡ or_else (option_map wait.Held u) (option_map wait.Busy w)
    by None None = refl
    by None (Some w) = refl
    by (Some u) w = refl

or_else-then : (a b c : Option Wait) → c ≡ None → or_else a (or_else b c) ≡ or_else a b
or_else-then None None c h = h
or_else-then None (Some w) c h = refl
or_else-then (Some w) b c h = refl

-- why a row that is to go has to wait
pub wait-removal : (plan : Ports) (names : Names) (room : RoomState) (used : List ℕ) (worker : ℕ) (k : Key) (old : Option Row) → places_for (own_changes plan k old None) ≡ no_places → wait_of plan names room used worker k old None ≡ retire_refusal_at names worker (name.Row k)
wait-removal plan names room used worker k old none =
    or_else-then (holder_of names k old None) (busy_for plan names worker k old None) (crowded_for plan names room used k old None)
    (ap (option_map wait.NoRoom) (lacking-no_need room (places_for (own_changes plan k old None)) used none))
    ∙ sym (retire_refused worker (registered_at names (name.Row k)))

-- ---- what is left to do, where nothing has to be left

pub started-plain : (names : Names) (worker : ℕ) (k : Key) (old new : Option Row) (due : List Change) → started_by names worker k old new due None ≡ record { worker = worker; key = k; now = old; new = new; due = due; leaves = None; retires = None }
started-plain names worker k old new [] = refl
started-plain names worker k old new (c ∷ cs) = refl

pub names-plain : (names : Names) (worker : ℕ) (k : Key) (due : List Change) → started_names_by names worker k due None ≡ names
names-plain names worker k [] = refl
names-plain names worker k (c ∷ cs) = refl

-- ---- a name that is missing comes before all else

-- where nothing hinders, no name is missing
pub none-missing : (o : Option Key) (other : Option Wait) → or_else (option_map wait.Missing o) other ≡ None → o ≡ None
none-missing None other h = refl
none-missing (Some k) other h = absurd cc

same-or-missing : (o : Option Key) (a b : Option Wait) → (o ≡ None → or_else (option_map wait.Missing o) a ≡ or_else (option_map wait.Missing o) b) → or_else (option_map wait.Missing o) a ≡ or_else (option_map wait.Missing o) b
same-or-missing None a b h = h refl
same-or-missing (Some k) a b h = refl

-- ---- the start, but for the operation

module _ (plan : Ports) (names : Names) (room : RoomState) (used : List ℕ) (worker : ℕ) (k : Key) (old : Option Row) where
  -- the operation of a row that is to be applied
  pub begun-row : (r : Row) (ks : List Key) (applied : Bool) (shared : Option Name) (need : List ℕ) (names' : Names) (room' : RoomState) (res : Result (Result (Unit {0}) Wait) OutOfMemory)
      → wait_of plan names room used worker k old (Some r) ≡ row_reason names room used ks (to_list shared) need
      → started_names plan names worker k old (Some r) ≡ begun_by names worker k ks applied shared (lacks_shared names shared)
      → places_for (built_first (to_build plan names k (Some r)) (own_changes plan k old (Some r))) ≡ need
      → IfOk res (λ a. OnOk a (row_reason names room used ks (to_list shared) need ≡ None))
      → IfOk res (λ a. OnOk a (names' ≡ begun_by names worker k ks applied shared (lacks_shared names shared)))
      → IfOk res (λ a. OnOk a (Reserves room worker need room'))
      → IfOk res (λ a. IfErr a (λ wait. row_reason names room used ks (to_list shared) need ≡ Some wait))
      → IfOk res (λ a. OnErr a (names' ≡ names))
      → IfOk res (λ a. OnErr a (room' ≡ room))
      → IfOk res (λ a. IsBegunBy plan names room used worker k old (Some r) a names' room')
  begun-row r ks applied shared need names' room' (Ok (Ok x)) reason begun places free is reserves wait same same_room =
      (reason ∙ free, is ∙ sym begun, subst (λ n. Reserves room worker n room') (sym places) reserves)
  begun-row r ks applied shared need names' room' (Ok (Err w)) reason begun places free is reserves wait same same_room = (reason ∙ wait, same, same_room)
  begun-row r ks applied shared need names' room' (Err e) reason begun places free is reserves wait same same_room = tt

  -- the same, where the rest is known once nothing is missing
  pub begun-row-when : (r : Row) (applied : Bool) (shared : Option Name) (need : List ℕ) (names' : Names) (room' : RoomState) (res : Result (Result (Unit {0}) Wait) OutOfMemory)
      → (first_unapplied names (row_names k r) ≡ None → wait_of plan names room used worker k old (Some r) ≡ row_reason names room used (row_names k r) (to_list shared) need)
      → (first_unapplied names (row_names k r) ≡ None → started_names plan names worker k old (Some r) ≡ begun_by names worker k (row_names k r) applied shared (lacks_shared names shared))
      → (first_unapplied names (row_names k r) ≡ None → places_for (built_first (to_build plan names k (Some r)) (own_changes plan k old (Some r))) ≡ need)
      → IfOk res (λ a. OnOk a (row_reason names room used (row_names k r) (to_list shared) need ≡ None))
      → IfOk res (λ a. OnOk a (names' ≡ begun_by names worker k (row_names k r) applied shared (lacks_shared names shared)))
      → IfOk res (λ a. OnOk a (Reserves room worker need room'))
      → IfOk res (λ a. IfErr a (λ w. row_reason names room used (row_names k r) (to_list shared) need ≡ Some w))
      → IfOk res (λ a. OnErr a (names' ≡ names))
      → IfOk res (λ a. OnErr a (room' ≡ room))
      → IfOk res (λ a. IsBegunBy plan names room used worker k old (Some r) a names' room')
  begun-row-when r applied shared need names' room' res reason begun places free is reserves waits same same_room =
      by res free is reserves waits same same_room
    where
      reason-now : wait_of plan names room used worker k old (Some r) ≡ row_reason names room used (row_names k r) (to_list shared) need
      reason-now = same-or-missing (first_unapplied names (row_names k r)) (or_else (holder_of names k old (Some r)) (or_else (busy_for plan names worker k old (Some r)) (crowded_for plan names room used k old (Some r)))) (or_else (option_map wait.Busy (least_of (workers_on names (map name.Row (row_names k r) ++ to_list shared)))) (option_map wait.NoRoom (lacking room need used))) reason

      by : (res : Result (Result (Unit {0}) Wait) OutOfMemory)
          → IfOk res (λ a. OnOk a (row_reason names room used (row_names k r) (to_list shared) need ≡ None))
          → IfOk res (λ a. OnOk a (names' ≡ begun_by names worker k (row_names k r) applied shared (lacks_shared names shared)))
          → IfOk res (λ a. OnOk a (Reserves room worker need room'))
          → IfOk res (λ a. IfErr a (λ w. row_reason names room used (row_names k r) (to_list shared) need ≡ Some w))
          → IfOk res (λ a. OnErr a (names' ≡ names))
          → IfOk res (λ a. OnErr a (room' ≡ room))
          → IfOk res (λ a. IsBegunBy plan names room used worker k old (Some r) a names' room')
      by (Ok (Ok x)) free is reserves waits same same_room =
          let none = none-missing (first_unapplied names (row_names k r)) (or_else (option_map wait.Busy (least_of (workers_on names (map name.Row (row_names k r) ++ to_list shared)))) (option_map wait.NoRoom (lacking room need used))) free in
          (reason-now ∙ free, is ∙ sym (begun none), subst (λ n. Reserves room worker n room') (sym (places none)) reserves)
      by (Ok (Err w)) free is reserves waits same same_room = (reason-now ∙ waits, same, same_room)
      by (Err e) free is reserves waits same same_room = tt

  -- and of one that is to go
  pub begun-removal : (names' : Names) (res : Result (Result (Unit {0}) Wait) OutOfMemory)
      → places_for (own_changes plan k old None) ≡ no_places
      → started_names plan names worker k old None ≡ changed names (name.Row k) (begun_to_go worker)
      → IfOk res (λ a. OnOk a (retire_refusal_at names worker (name.Row k) ≡ None))
      → IfOk res (λ a. OnOk a (names' ≡ changed names (name.Row k) (begun_to_go worker)))
      → IfOk res (λ a. IfErr a (λ wait. retire_refusal_at names worker (name.Row k) ≡ Some wait))
      → IfOk res (λ a. OnErr a (names' ≡ names))
      → IfOk res (λ a. IsBegunBy plan names room used worker k old None a names' room)
  begun-removal names' (Ok (Ok x)) places begun free is wait same =
      (wait-removal plan names room used worker k old places ∙ free, is ∙ sym begun, reserves-none room worker (places_for (own_changes plan k old None)) places)
  begun-removal names' (Ok (Err w)) places begun free is wait same = (wait-removal plan names room used worker k old places ∙ wait, same, refl)
  begun-removal names' (Err e) places begun free is wait same = tt
