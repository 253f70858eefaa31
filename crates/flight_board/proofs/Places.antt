-- what the workers have under way, after one is taken out or put in
use Rattle.std.proofs.Common.{◌≡◌, ◌↔◌, inl, inr, ◌⊎◌, ℕ, zero, suc, ◌<◌, ◌≤◌, Bool, IsTrue, List, [], ◌∷◌, get_or, length, Option, None, Some, option_map, refl, sym, ap, subst, ◌∙◌, arith}
use Rattle.std.proofs.lemmas.Bool.{cases_lt}
use Rattle.std.specs.Prelude.{set}
use Rattle.std.proofs.lemmas.Option.{none-some}
use Rattle.table_schema.specs.declared.key.Key.{Key}
use Rattle.sai_types.specs.declared.ids.Vid.{Vid}
use Rattle.ref_counts.specs.Registry.{Names}
use Rattle.registry_laws.specs.Flown.{Flown}
use Rattle.registry_laws.specs.Making.{TookFor}
use Rattle.switch_machine.proofs.Splits.{IsSplit, nat_split}
use Rattle.flight_board.specs.Board.{FlightState, HasKeyAt, TookOn, flight_on}

abbrev pub Under : Type 0
Under = List (Option FlightState)

pub none-beyond : (fs : Under) (v : ℕ) → length fs ≤ v → flight_on fs v ≡ None
none-beyond [] v h = refl
none-beyond (o ∷ os) zero h = absurd (omega arith)
none-beyond (o ∷ os) (suc v) h = none-beyond os v (omega arith)

pub on-same : (fs : Under) (w : ℕ) (o : Option FlightState) → w < length fs → flight_on (set fs w o) w ≡ o
on-same [] w o h = absurd (omega arith)
on-same (x ∷ xs) zero o h = refl
on-same (x ∷ xs) (suc w) o h = on-same xs w o (omega arith)

pub on-other : (fs : Under) (w v : ℕ) (o : Option FlightState) → (v ≡ w → ⊥) → flight_on (set fs w o) v ≡ flight_on fs v
on-other [] w v o apart = refl
on-other (x ∷ xs) zero zero o apart = absurd (apart refl)
on-other (x ∷ xs) zero (suc v) o apart = refl
on-other (x ∷ xs) (suc w) zero o apart = refl
on-other (x ∷ xs) (suc w) (suc v) o apart = on-other xs w v o (λ e. apart (ap suc e))

stands : (fs : Under) (w : ℕ) (o : Option FlightState) → w < length fs → flight_on fs w ≡ get_or fs w o
stands [] w o h = absurd (omega arith)
stands (x ∷ xs) zero o h = refl
stands (x ∷ xs) (suc w) o h = stands xs w o (omega arith)

-- what stands in a worker's place, as the workers are seen
pub got-on : (fs seen : Under) (w : ℕ) (o : Option FlightState) → fs ≡ seen → w < 4 → length seen ≡ 4 → flight_on seen w ≡ get_or fs w o
got-on fs seen w o is below four = stands seen w o (omega (arith, below, four)) ∙ ap (λ l. get_or l w o) (sym is)

-- what holds of what stands in a worker's place
pub is-held : (fs : Under) (w : ℕ) (f : FlightState) (P : FlightState → Type 0) → flight_on fs w ≡ Some f → P f → (g : FlightState) → flight_on fs w ≡ Some g → P g
is-held fs w f P at h g e =
    let is : Some f ≡ Some g = sym at ∙ e in
    let same : f ≡ g = cc in
    subst P same h

-- what is flown is that of what a worker has under way
pub same-flown : (o : Option FlightState) (f : FlightState) (x : Flown) → o ≡ Some f → option_map (λ f. f.flown) o ≡ Some x → f.flown ≡ x
same-flown o f x at e =
    let is : Some f.flown ≡ Some x = sym (ap (option_map (λ z. z.flown)) at) ∙ e in
    cc

-- the flight of what a worker has under way
pub under-way : (o : Option FlightState) (x : Flown) → option_map (λ f. f.flown) o ≡ Some x → (f : FlightState) × (o ≡ Some f) × (f.flown ≡ x)
under-way None x e = absurd (none-some x e)
under-way (Some f) x e = let same : f.flown ≡ x = cc in (f, refl, same)

-- a call takes effect on what stands in a worker's place, and on nothing where nobody has anything there
module _ (old new : Under) (w : ℕ) (made : Option Vid) (names names' : Names) where
  pub took-on : (f g : FlightState) → flight_on old w ≡ Some f → new ≡ set old w (Some g) → TookFor f.flown.operation f.flown.group made names g.flown names' → g.named ≡ f.named → g.shared ≡ f.shared → TookOn old w made names new names'
  took-on f g at is took named shared h e =
      let one : Some f ≡ Some h = sym at ∙ e in
      let same : f ≡ h = cc in
      (g, is, subst (λ z. TookFor z.flown.operation z.flown.group made names g.flown names') same took, named ∙ ap (λ z. z.named) same, shared ∙ ap (λ z. z.shared) same)

  pub took-none : flight_on old w ≡ None → TookOn old w made names new names'
  took-none none f e = absurd (none-some f (sym none ∙ e))

-- the worker has the operation of a key
pub held-by : (fs : Under) (k : Key) (v : ℕ) → HasKeyAt fs k v → (g : FlightState) × (flight_on fs v ≡ Some g) × (g.flown.operation.key ≡ k)
held-by fs k v h = by (flight_on fs v) refl
  where
    by : (o : Option FlightState) → flight_on fs v ≡ o → (g : FlightState) × (flight_on fs v ≡ Some g) × (g.flown.operation.key ≡ k)
    by None e = absurd (none-some h.0 (ap (option_map (λ z. z.flown)) (sym e) ∙ h.1))
    by (Some g) e =
        let is : Some g.flown ≡ Some h.0 = ap (option_map (λ z. z.flown)) (sym e) ∙ h.1 in
        let same : g.flown ≡ h.0 = cc in (g, e, ap (λ z. z.operation.key) same ∙ h.2)

pub holds : (fs : Under) (v : ℕ) (g : FlightState) → flight_on fs v ≡ Some g → HasKeyAt fs g.flown.operation.key v
holds fs v g e = (g.flown, ap (option_map (λ z. z.flown)) e, refl)

-- one that was put in is the one that is there, or the one before
pub put-by : (fs : Under) (w : ℕ) (f : FlightState) (v : ℕ) (g : FlightState) → w < length fs → flight_on (set fs w (Some f)) v ≡ Some g → ((v ≡ w) × (f ≡ g)) ⊎ (flight_on fs v ≡ Some g)
put-by fs w f v g below e = by (nat_split v w)
  where
    by : IsSplit v w → ((v ≡ w) × (f ≡ g)) ⊎ (flight_on fs v ≡ Some g)
    by (inl same) =
        let is : Some f ≡ Some g = sym (on-same fs w (Some f) below) ∙ ap (flight_on (set fs w (Some f))) (sym same) ∙ e in
        let one : f ≡ g = cc in inl (same, one)
    by (inr apart) = inr (sym (on-other fs w v (Some f) apart) ∙ e)

-- and after one was taken out the others are there
pub taken-by : (fs : Under) (w v : ℕ) (g : FlightState) → w < length fs → flight_on (set fs w None) v ≡ Some g → (v ≡ w → ⊥) × (flight_on fs v ≡ Some g)
taken-by fs w v g below e = by (nat_split v w)
  where
    by : IsSplit v w → (v ≡ w → ⊥) × (flight_on fs v ≡ Some g)
    by (inl same) = absurd (none-some g (sym (on-same fs w None below) ∙ ap (flight_on (set fs w None)) (sym same) ∙ e))
    by (inr apart) = (apart, sym (on-other fs w v None apart) ∙ e)

-- whether a worker's operation has a key
pub key-there : (fs : Under) (k : Key) (v : ℕ) (f : FlightState) (r : Bool) → Some f ≡ flight_on fs v → (IsTrue r ↔ (f.flown.operation.key ≡ k)) → IsTrue r ↔ HasKeyAt fs k v
key-there fs k v f r there is = (
  λ t. subst (λ q. HasKeyAt fs q v) (is.0 t) (holds fs v f (sym there)),
  λ h.
      let g = held-by fs k v h in
      let one : Some f ≡ Some g.0 = there ∙ g.1 in
      let same : f ≡ g.0 = cc in is.1 (ap (λ z. z.flown.operation.key) same ∙ g.2),
)

pub key-none : (fs : Under) (k : Key) (v : ℕ) → None ≡ flight_on fs v → HasKeyAt fs k v → ⊥
key-none fs k v none h = let g = held-by fs k v h in none-some g.0 (none ∙ g.1)

-- nobody has it, where no worker below the last has it
pub beyond : (fs : Under) (k : Key) (last : ℕ) → length fs ≤ last → ((v : ℕ) → v < last → HasKeyAt fs k v → ⊥) → (v : ℕ) → HasKeyAt fs k v → ⊥
beyond fs k last all none v h = by (cases_lt v last)
  where
    by : (v < last) ⊎ (last ≤ v) → ⊥
    by (inl below) = none v below h
    by (inr above) = key-none fs k v (sym (none-beyond fs v (omega arith))) h
