-- what holds where no reason to wait does
use Rattle.std.proofs.Common.{◌≡◌, ℕ, List, [], ◌∷◌, ◌++◌, map, Option, Some, None, option_map, if◌then◌else◌, refl, ap, ◌∙◌, append-nil}
use Rattle.table_schema.specs.declared.key.Key.{Key}
use Rattle.sai_types.specs.Named.{those}
use Rattle.switch_model.specs.declared.wait.Wait.{Wait}
use Rattle.switch_model.specs.declared.wait.Wait.TheVariants as wait
use Rattle.ref_counts.specs.declared.name.Name.{Name}
use Rattle.ref_counts.specs.declared.name.Name.TheVariants as name
use Rattle.ref_counts.specs.declared.name.NameState.{NameState}
use Rattle.ref_counts.specs.declared.name.NameState.TheVariants as state
use Rattle.ref_counts.specs.Registered.{Registered}
use Rattle.ref_counts.specs.Registry.{Names, first_not_live, is_live, owner_in, registered_at, retire_refusal_at, state_in, state_of}
use Rattle.ref_counts.specs.Room.{RoomState, lacking}
use Rattle.orch_flight.specs.Needing.{first_unapplied, least_of, moved_reason, or_else, refusal_with, row_reason, unapplied_or, workers_on}
use Rattle.orch_flight.specs.Sharing.{IsNameReady, IsLiveOrAbsent, MayShare, shared_state}
use Rattle.orch_flight.specs.Taking.{to_list}

or_else_none : (a b : Option Wait) → or_else a b ≡ None → a ≡ None
or_else_none None b h = refl
or_else_none (Some w) b h = cc

second_none : (a b : Option Wait) → or_else a b ≡ None → b ≡ None
second_none None b h = h
second_none (Some w) b h = cc

unmapped : {X : Type 0} (f : X → Wait) (o : Option X) → option_map f o ≡ None → o ≡ None
unmapped f None h = refl
unmapped f (Some x) h = cc

no_least : (ns : List ℕ) → least_of ns ≡ None → ns ≡ []
no_least [] h = refl
no_least (n ∷ ns) h = cc

-- none of these names has a worker
abbrev pub AreFree : Names → List Name → Type 0
AreFree names [] = Unit {0}
AreFree names (n ∷ ns) = (owner_in (state_of names n) ≡ None) × AreFree names ns

first_free : (o : Option ℕ) (os : List (Option ℕ)) → those (o ∷ os) ≡ [] → o ≡ None
first_free None os h = refl
first_free (Some w) os h = cc

others_free : (o : Option ℕ) (os : List (Option ℕ)) → those (o ∷ os) ≡ [] → those os ≡ []
others_free None os h = h
others_free (Some w) os h = cc

are_free : (names : Names) (ns : List Name) → workers_on names ns ≡ [] → AreFree names ns
are_free names [] h = tt
are_free names (n ∷ ns) h =
    let o = owner_in (state_of names n) in
    let os = map (λ n. owner_in (state_of names n)) ns in
    (first_free o os h, are_free names ns (others_free o os h))

free_tail : (names : Names) (ks : List Key) (ns : List Name) → AreFree names (map name.Row ks ++ ns) → AreFree names ns
free_tail names [] ns h = h
free_tail names (k ∷ ks) ns h = free_tail names ks ns h.1

live_step : (s : NameState) (k : Key) (a b : Option Key) → owner_in s ≡ None → unapplied_or k s a ≡ None → (a ≡ None → b ≡ None) → (if is_live s then b else Some k) ≡ None
live_step state.Absent k a b free h next = cc
live_step state.Live k a b free h next = next h
live_step (state.Building w) k a b free h next = cc
live_step (state.Retiring w) k a b free h next = cc

applied_so_there : (names : Names) (ks : List Key) (ns : List Name) → AreFree names (map name.Row ks ++ ns) → first_unapplied names ks ≡ None → first_not_live names ks ≡ None
applied_so_there names [] ns free h = refl
applied_so_there names (k ∷ ks) ns free h =
    live_step (state_of names (name.Row k)) k (first_unapplied names ks) (first_not_live names ks) free.0 h (applied_so_there names ks ns free.1)

module _ (names : Names) (room : RoomState) (used : List ℕ) (ks : List Key) (ns : List Name) (need : List ℕ) (none : row_reason names room used ks ns need ≡ None) where
  busy_none : or_else (option_map wait.Busy (least_of (workers_on names (map name.Row ks ++ ns)))) (option_map wait.NoRoom (lacking room need used)) ≡ None
  busy_none = second_none (option_map wait.Missing (first_unapplied names ks)) _ none

  free : AreFree names (map name.Row ks ++ ns)
  free = are_free names (map name.Row ks ++ ns) (no_least _ (unmapped wait.Busy _ (or_else_none _ (option_map wait.NoRoom (lacking room need used)) busy_none)))

  -- the keys that are named are live
  pub reason-named : first_not_live names ks ≡ None
  reason-named = applied_so_there names ks ns free (unmapped wait.Missing (first_unapplied names ks) (or_else_none _ _ none))

  -- there is room
  pub reason-room : lacking room need used ≡ None
  reason-room = unmapped wait.NoRoom (lacking room need used) (second_none (option_map wait.Busy (least_of (workers_on names (map name.Row ks ++ ns)))) _ busy_none)

  pub reason-free : AreFree names ns
  reason-free = free_tail names ks ns free

-- ---- and for a row that comes in the place of one that goes

no_refusal : (o : Option Wait) (least : Option ℕ) → refusal_with o least ≡ None → (o ≡ None) × (least ≡ None)
no_refusal None None h = (refl, refl)
no_refusal None (Some w) h = cc
no_refusal (Some (wait.Busy w)) least h = cc
no_refusal (Some (wait.Missing k)) least h = cc
no_refusal (Some (wait.Held k)) least h = cc
no_refusal (Some (wait.NoRoom kind)) least h = cc

module _ (names : Names) (worker : ℕ) (k : Key) (ks : List Key) (none : moved_reason names worker k ks ≡ None) where
  parts : (retire_refusal_at names worker (name.Row k) ≡ None) × (least_of (workers_on names (map name.Row ks)) ≡ None)
  parts = no_refusal (retire_refusal_at names worker (name.Row k)) (least_of (workers_on names (map name.Row ks))) (second_none (option_map wait.Missing (first_unapplied names ks)) _ none)

  -- its applied row may go
  pub moved-free : retire_refusal_at names worker (name.Row k) ≡ None
  moved-free = parts.0

  -- and the keys that are named are live
  pub moved-named : first_not_live names ks ≡ None
  moved-named = applied_so_there names ks [] (are_free names (map name.Row ks ++ []) (ap (workers_on names) (append-nil (map name.Row ks)) ∙ no_least _ parts.1)) (unmapped wait.Missing (first_unapplied names ks) (or_else_none _ _ none))

settled : (o : Option Registered) → owner_in (state_in o) ≡ None → (option_map (λ r. r.state) o ≡ Some state.Absent → ⊥) → IsLiveOrAbsent (option_map (λ r. r.state) o)
settled None free not = tt
settled (Some r) free not = by r.state free (λ e. not (ap Some e))
  where
    by : (s : NameState) → owner_in s ≡ None → (s ≡ state.Absent → ⊥) → s ≡ state.Live
    by state.Absent free not = absurd (not refl)
    by state.Live free not = refl
    by (state.Building w) free not = cc
    by (state.Retiring w) free not = cc

-- what is shared and has no worker is ready
pub unowned-ready : (names : Names) (shared : Option Name) → MayShare names shared → owner_in (shared_state names shared) ≡ None → IsNameReady names shared
unowned-ready names None may unowned = tt
unowned-ready names (Some n) may unowned = (may.0, settled (registered_at names n) unowned may.1)

-- ---- and where all that is needed is there, no reason does

live_applied : (s : NameState) (k : Key) (a b : Option Key) → (if is_live s then b else Some k) ≡ None → (b ≡ None → a ≡ None) → (unapplied_or k s a ≡ None) × ((owner_in s ≡ None) × (b ≡ None))
live_applied state.Live k a b h next = (next h, (refl, h))
live_applied state.Absent k a b h next = cc
live_applied (state.Building w) k a b h next = cc
live_applied (state.Retiring w) k a b h next = cc

there_so_applied : (names : Names) (ks : List Key) → first_not_live names ks ≡ None → first_unapplied names ks ≡ None
there_so_applied names [] h = refl
there_so_applied names (k ∷ ks) h = (live_applied (state_of names (name.Row k)) k (first_unapplied names ks) (first_not_live names ks) h (there_so_applied names ks)).0

there_so_free : (names : Names) (ks : List Key) (ns : List Name) → first_not_live names ks ≡ None → workers_on names ns ≡ [] → workers_on names (map name.Row ks ++ ns) ≡ []
there_so_free names [] ns h none = none
there_so_free names (k ∷ ks) ns h none =
    let live = (live_applied (state_of names (name.Row k)) k (first_unapplied names ks) (first_not_live names ks) h (there_so_applied names ks)).1 in
    ap (λ o. those (o ∷ map (λ n. owner_in (state_of names n)) (map name.Row ks ++ ns))) live.0 ∙ there_so_free names ks ns live.1 none

shared_free : (names : Names) (shared : Option Name) → owner_in (shared_state names shared) ≡ None → workers_on names (to_list shared) ≡ []
shared_free names None h = refl
shared_free names (Some n) h = ap (λ o. those (o ∷ [])) h

none_of : (a b c : Option Wait) → a ≡ None → b ≡ None → c ≡ None → or_else a (or_else b c) ≡ None
none_of a b c x y z = rw (x, y, z) refl

free_shared : (names : Names) (shared : Option Name) → AreFree names (to_list shared) → owner_in (shared_state names shared) ≡ None
free_shared names None h = refl
free_shared names (Some n) h = h.0

module _ (names : Names) (room : RoomState) (used : List ℕ) (ks : List Key) (shared : Option Name) (need : List ℕ) where
  abbrev pub why : Option Wait
  why = row_reason names room used ks (to_list shared) need

  pub no-reason : owner_in (shared_state names shared) ≡ None → lacking room need used ≡ None → first_not_live names ks ≡ None → why ≡ None
  no-reason unowned rooms live =
      none_of _ _ _ (ap (option_map wait.Missing) (there_so_applied names ks live)) (ap (λ ws. option_map wait.Busy (least_of ws)) (there_so_free names ks (to_list shared) live (shared_free names shared unowned))) (ap (option_map wait.NoRoom) rooms)

  pub reason-shared : why ≡ None → owner_in (shared_state names shared) ≡ None
  reason-shared none = free_shared names shared (reason-free names room used ks (to_list shared) need none)
