-- What is known of one name, and what each call makes of it. Own.
use Rattle.std.specs.Prelude.{ℕ, Bool, not, ◌==◌, ◌-◌, min, List, [], ◌∷◌, ◌++◌, length, take, filter, Option, Some, None, if◌then◌else◌}
use Rattle.std.specs.BTreeMap.{is_at}
use Rattle.std.specs.BTreeSet.{insert_key}
use Rattle.table_schema.specs.Key.{key_cmp}
use Rattle.table_schema.specs.declared.key.Key.{Key}
use Rattle.table_schema.specs.declared.key.Key.TheVariants as key
use Rattle.sai_types.specs.declared.ids.Vid.{Vid}
use Rattle.switch_model.specs.declared.wait.Wait.{Wait}
use Rattle.switch_model.specs.declared.wait.Wait.TheVariants as wait
use Rattle.ref_counts.specs.declared.name.NameState.{NameState}
use Rattle.ref_counts.specs.declared.name.NameState.TheVariants as state
use Rattle.ref_counts.specs.declared.pin.Pin.{Pin}

-- how a name stands; its identifiers; for how many identifiers it has places; the keys that use it, in order, each once; its pins, in the order in which they were made
pub record Registered : Type 0 where
  pub state : NameState
  pub ids : List Vid
  pub places : ℕ
  pub users : List Key
  pub pins : List Pin

-- a key that reads as one of the tables': no other key uses anything
abbrev pub IsReadable : Key → Type 0
IsReadable (key.Other text) = ⊥
IsReadable _ = Unit {0}

-- a name whose building begins
abbrev pub begun : ℕ → ℕ → Registered
begun worker places = record { state = state.Building worker; ids = []; places = places; users = []; pins = [] }

-- all of it is there, with these identifiers
abbrev pub made_live : List Vid → Registered → Registered
made_live ids r = record { state = state.Live; ids = ids; places = 0; users = r.users; pins = r.pins }

-- in a state in which a worker builds it, all of it comes to be there, with no identifier
abbrev pub finished_by : NameState → Registered → Registered
finished_by (state.Building worker) r = made_live [] r
finished_by _ r = r

-- it begins to go: nobody but this worker pins it, and this worker's pins go
abbrev pub begun_to_go : ℕ → Registered → Registered
begun_to_go worker r = record { state = state.Retiring worker; ids = r.ids; places = 0; users = r.users; pins = [] }

abbrev pub with_user : Key → Registered → Registered
with_user user r = record { state = r.state; ids = r.ids; places = r.places; users = insert_key key_cmp r.users user; pins = r.pins }

-- the users other than this key
abbrev pub users_but : Key → List Key → List Key
users_but user users = filter (λ other. not (is_at (key_cmp user) other)) users

abbrev pub without_user : Key → Registered → Registered
without_user user r = record { state = r.state; ids = r.ids; places = r.places; users = users_but user r.users; pins = r.pins }

-- a worker pins it for a key
abbrev pub with_pin : ℕ → Key → Registered → Registered
with_pin worker user r = record { state = r.state; ids = r.ids; places = r.places; users = r.users; pins = r.pins ++ record { worker = worker; user = user } ∷ [] }

-- without the pin that was made last
abbrev pub without_last_pin : Registered → Registered
without_last_pin r = record { state = r.state; ids = r.ids; places = r.places; users = r.users; pins = take (length r.pins - 1) r.pins }

-- the pins of a worker, and those of the others
abbrev pub pins_of : ℕ → List Pin → List Pin
pins_of worker pins = filter (λ p. p.worker == worker) pins

abbrev pub pins_but : ℕ → List Pin → List Pin
pins_but worker pins = filter (λ p. not (p.worker == worker)) pins

-- the keys of these pins come to use it
abbrev pub with_users : List Pin → List Key → List Key
with_users [] users = users
with_users (p ∷ ps) users = with_users ps (insert_key key_cmp users p.user)

-- a worker gives up its pins: their keys then use it, or do not
abbrev pub released : ℕ → Bool → Registered → Registered
released worker used r = record { state = r.state; ids = r.ids; places = r.places; users = if used then with_users (pins_of worker r.pins) r.users else r.users; pins = pins_but worker r.pins }

abbrev pub lesser : ℕ → Option ℕ → ℕ
lesser n None = n
lesser n (Some m) = min n m

-- the least worker of some pins
abbrev pub least_worker : List Pin → Option ℕ
least_worker [] = None
least_worker (p ∷ ps) = Some (lesser p.worker (least_worker ps))

abbrev pub first_of : {X : Type 0} → List X → Option X
first_of [] = None
first_of (x ∷ xs) = Some x

abbrev pub held_or : Option Key → Option ℕ → Option Wait
held_or (Some user) other = Some (wait.Held user)
held_or None (Some other) = Some (wait.Busy other)
held_or None None = None

-- why a worker may not take it away: the least key that uses it, or else the least other worker that pins it
abbrev pub retire_refusal : ℕ → Registered → Option Wait
retire_refusal worker r = held_or (first_of r.users) (least_worker (pins_but worker r.pins))
