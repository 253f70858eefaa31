-- what holds of the operations of all workers stays
use Rattle.std.proofs.Common.{◌≡◌, inl, inr, ◌⊎◌, ℕ, zero, suc, ◌<◌, List, [], ◌∷◌, length, Option, None, Some, option_map, Result, Ok, Err, OnOk, OnErr, refl, sym, ap, ap₂, subst, ◌∙◌}
use Rattle.std.specs.Prelude.{set}
use Rattle.std.proofs.lemmas.List.{length-set, set-set}
use Rattle.std.proofs.lemmas.Option.{none-some}
use Rattle.table_schema.specs.Plan.{Ports}
use Rattle.table_schema.specs.declared.key.Key.{Key}
use Rattle.table_schema.specs.Names.{names_of}
use Rattle.table_schema.specs.declared.row.Row.{Row as BareRow}
use Rattle.swss_types.specs.declared.vrf.Vrf.{Vrf}
use Rattle.sai_types.specs.declared.ids.Vid.{Vid}
use Rattle.switch_model.specs.Placed.{Placed as Row, router_in}
use Rattle.row_layout.specs.Operations.{Change, uses_of}
use Rattle.row_layout.specs.Rows.{Owner}
use Rattle.switch_machine.proofs.Placing.{bare_placed}
use Rattle.ref_counts.specs.Registry.{Names}
use Rattle.orch_flight.specs.Grouping.{GroupOperation}
use Rattle.orch_flight.specs.Operation.{Operation}
use Rattle.orch_flight.specs.Starting.{in_place, started_by}
use Rattle.orch_flight.specs.Taking.{IsTook, operation_by}
use Rattle.registry_laws.specs.Ending.{named_by}
use Rattle.registry_laws.specs.Flown.{Flown, group_in}
use Rattle.registry_laws.specs.Making.{TookFor}
use Rattle.flight_board.specs.Applied.{Entries, HasPlace, KeepsOthers, placed_at, row_at}
use Rattle.flight_board.specs.Board.{AreKept, FlightState, HasKeyAt, IsFlightBegun, IsKeptFlight, flight_on, with_group}
use Rattle.flight_board.proofs.Places.{Under, held-by, holds, put-by, taken-by}

-- what a row names in its table is told by no virtual router
pub same-named : (k : Key) (v w : Vrf) (o p : Option BareRow) → o ≡ p → named_by k (in_place v o) ≡ named_by k (in_place w p)
same-named k v w o p same = by o ∙ ap (λ z. named_by k (in_place w z)) same
  where
    by : (o : Option BareRow) → named_by k (in_place v o) ≡ named_by k (in_place w o)
    by None = refl
    by (Some r) = ap (names_of k) (bare_placed v r ∙ sym (bare_placed w r))

-- ---- of one worker

-- an operation of the same worker, of the same key and to the same row
pub record IsSameOperation (f g : Operation) : Type 0 where
  pub worker : g.worker ≡ f.worker
  pub key : g.key ≡ f.key
  pub new : g.new ≡ f.new

pub alike-itself : (f : Operation) → IsSameOperation f f
alike-itself f = record { worker = refl; key = refl; new = refl }

took-row : (f f' : Operation) (made : Option Vid) (names names' : Names) → IsTook f made names f' names' → IsSameOperation f f'
took-row f f' made names names' t = subst (IsSameOperation f) (sym t.operation) (by _ t.change t.rest f.leaves)
  where
    by : (ns : Names) (c : Change) (rest : List Change) (leaves : Option Owner) → IsSameOperation f (operation_by ns f c rest leaves)
    by ns c [] (Some o) = record { worker = refl; key = refl; new = refl }
    by ns c [] None = record { worker = refl; key = refl; new = refl }
    by ns c (d ∷ ds) leaves = record { worker = refl; key = refl; new = refl }

pub took-alike : (f : Operation) (g : Option GroupOperation) (made : Option Vid) (names : Names) (x : Flown) (names' : Names) → TookFor f g made names x names' → IsSameOperation f x.operation
took-alike f None made names x names' h = subst (λ z. IsSameOperation f z.operation) (sym h.2) (took-row f h.0 made names names' h.1)
took-alike f (Some g) made names x names' h = subst (λ z. IsSameOperation f z.operation) (sym h.2) (alike-itself f)

-- what an operation starts as
pub record IsOperationOf (w : ℕ) (k : Key) (new : Option Row) (f : Operation) : Type 0 where
  pub worker : f.worker ≡ w
  pub key : f.key ≡ k
  pub row : f.new ≡ new

pub starts-as : (names : Names) (w : ℕ) (k : Key) (old new : Option Row) (due : List Change) (leaves : Option Owner) → IsOperationOf w k new (started_by names w k old new due leaves)
starts-as names w k old new [] (Some o) = record { worker = refl; key = refl; row = refl }
starts-as names w k old new [] None = record { worker = refl; key = refl; row = refl }
starts-as names w k old new (c ∷ cs) leaves = record { worker = refl; key = refl; row = refl }

-- nobody has anything under way at first
no-flight : (w : ℕ) → flight_on (None ∷ None ∷ None ∷ None ∷ []) w ≡ None
no-flight zero = refl
no-flight (suc zero) = refl
no-flight (suc (suc zero)) = refl
no-flight (suc (suc (suc zero))) = refl
no-flight (suc (suc (suc (suc w)))) = refl

pub kept-new : (plan : Ports) (applied : Entries) → AreKept plan applied (None ∷ None ∷ None ∷ None ∷ [])
kept-new plan applied = record {
  four = refl;
  each = λ w f is. absurd (none-some f (sym (no-flight w) ∙ is));
  apart = λ w v f g is at same. absurd (none-some f (sym (no-flight w) ∙ is));
}

module _ (plan : Ports) (applied : Entries) (w : ℕ) where
  pub kept-alike : (f g : FlightState) → g.named ≡ f.named → g.shared ≡ f.shared → IsSameOperation f.flown.operation g.flown.operation → IsKeptFlight plan applied w f → IsKeptFlight plan applied w g
  kept-alike f g named shared same is = record {
    worker = same.worker ∙ is.worker;
    named = named ∙ is.named ∙ ap (λ k. named_by k (placed_at applied k)) (sym same.key);
    shared = ap₂ (λ k o. group_in (uses_of plan k o)) same.key same.new ∙ is.shared ∙ sym shared;
    placed = subst (HasPlace applied) (sym same.key) is.placed;
  }

  pub kept-begun : (k : Key) (old new : Option Row) (f : FlightState) → IsOperationOf w k new f.flown.operation → IsFlightBegun plan k old new f → named_by k old ≡ named_by k (placed_at applied k) → HasPlace applied k → IsKeptFlight plan applied w f
  kept-begun k old new f is begun same placed = record {
    worker = is.worker;
    named = begun.named ∙ same ∙ ap (λ q. named_by q (placed_at applied q)) (sym is.key);
    shared = ap₂ (λ k o. group_in (uses_of plan k o)) is.key is.row ∙ begun.shared;
    placed = subst (HasPlace applied) (sym is.key) placed;
  }

-- ---- of all workers

module _ (plan : Ports) (applied : Entries) (fs : Under) (w : ℕ) where
  pub within : w < 4 → AreKept plan applied fs → w < length fs
  within below kept = subst (λ n. w < n) (sym kept.four) below

  pub kept-without : w < 4 → AreKept plan applied fs → AreKept plan applied (set fs w None)
  kept-without below kept =
      let at : (v : ℕ) (f : FlightState) → flight_on (set fs w None) v ≡ Some f → flight_on fs v ≡ Some f = λ v f e. (taken-by fs w v f (within below kept) e).1 in record {
        four = length-set fs w None ∙ kept.four;
        each = λ v f e. kept.each v f (at v f e);
        apart = λ v u f g e d same. kept.apart v u f g (at v f e) (at u g d) same;
      }

  pub free-without : (f : FlightState) → w < 4 → AreKept plan applied fs → flight_on fs w ≡ Some f → (v : ℕ) → HasKeyAt (set fs w None) f.flown.operation.key v → ⊥
  free-without f below kept is v h =
      let g = held-by (set fs w None) f.flown.operation.key v h in
      let there = taken-by fs w v g.0 (within below kept) g.1 in
      there.0 (kept.apart v w g.0 f there.1 is g.2)

  module _ (f : FlightState) (below : w < 4) (is : IsKeptFlight plan applied w f) (free : (v : ℕ) → HasKeyAt fs f.flown.operation.key v → ⊥) (kept : AreKept plan applied fs) where
    abbrev IsPut : ℕ → FlightState → Type 0
    IsPut v g = ((v ≡ w) × (f ≡ g)) ⊎ (flight_on fs v ≡ Some g)

    flight_put_back : (v : ℕ) (g : FlightState) → flight_on (set fs w (Some f)) v ≡ Some g → IsPut v g
    flight_put_back v g e = put-by fs w f v g (within below kept) e

    each : (v : ℕ) (g : FlightState) → IsPut v g → IsKeptFlight plan applied v g
    each v g (inl h) = subst (λ z. IsKeptFlight plan applied z g) (sym h.0) (subst (IsKeptFlight plan applied w) h.1 is)
    each v g (inr e) = kept.each v g e

    apart : (v u : ℕ) (g h : FlightState) → IsPut v g → IsPut u h → g.flown.operation.key ≡ h.flown.operation.key → v ≡ u
    apart v u g h (inl a) (inl b) same = a.0 ∙ sym b.0
    apart v u g h (inl a) (inr b) same = absurd (free u (subst (λ k. HasKeyAt fs k u) (sym same ∙ ap (λ z. z.flown.operation.key) (sym a.1)) (holds fs u h b)))
    apart v u g h (inr a) (inl b) same = absurd (free v (subst (λ k. HasKeyAt fs k v) (same ∙ ap (λ z. z.flown.operation.key) (sym b.1)) (holds fs v g a)))
    apart v u g h (inr a) (inr b) same = kept.apart v u g h a b same

    pub kept-with : AreKept plan applied (set fs w (Some f))
    kept-with = record {
      four = length-set fs w (Some f) ∙ kept.four;
      each = λ v g e. each v g (flight_put_back v g e);
      apart = λ v u g h e d same. apart v u g h (flight_put_back v g e) (flight_put_back u h d) same;
    }

-- what comes in the place of another is alike
pub kept-back : (plan : Ports) (applied : Entries) (fs : Under) (w : ℕ) (f g : FlightState) → w < 4 → AreKept plan applied fs → flight_on fs w ≡ Some f → g.named ≡ f.named → g.shared ≡ f.shared → IsSameOperation f.flown.operation g.flown.operation → AreKept plan applied (set fs w (Some g))
kept-back plan applied fs w f g below kept at named shared same =
    subst (AreKept plan applied) (set-set fs w None (Some g))
    (kept-with plan applied (set fs w None) w g below (kept-alike plan applied w f g named shared same (kept.each w f at)) (λ v h. free-without plan applied fs w f below kept at v (subst (λ k. HasKeyAt (set fs w None) k v) same.key h)) (kept-without plan applied fs w below kept))

-- a group's operation that begins, or does not for want of memory
pub kept-prepared : {E : Type 0} (plan : Ports) (names : Names) (applied : Entries) (fs fs' : Under) (w : ℕ) (r : Result (Unit {0}) E) → w < 4 → OnOk r (fs' ≡ set fs w (option_map (with_group plan names) (flight_on fs w))) → OnErr r (fs' ≡ fs) → AreKept plan applied fs → AreKept plan applied fs'
kept-prepared plan names applied fs fs' w (Err _) below begun same kept = subst (AreKept plan applied) (sym same) kept
kept-prepared plan names applied fs fs' w (Ok _) below begun same kept = subst (AreKept plan applied) (sym begun) (by (flight_on fs w) refl)
  where
    by : (o : Option FlightState) → flight_on fs w ≡ o → AreKept plan applied (set fs w (option_map (with_group plan names) o))
    by None e = kept-without plan applied fs w below kept
    by (Some f) e = kept-back plan applied fs w f (with_group plan names f) below kept e refl refl (alike-itself f.flown.operation)

-- the rows and places of a key that no operation has may change
pub kept-moved : (plan : Ports) (old new : Entries) (fs : Under) (k : Key) → KeepsOthers k old new → ((v : ℕ) → HasKeyAt fs k v → ⊥) → AreKept plan old fs → AreKept plan new fs
kept-moved plan old new fs k others free kept = record {
  four = kept.four;
  each = λ w f e.
      let is = kept.each w f e in
      let apart : f.flown.operation.key ≡ k → ⊥ = λ same. free w (subst (λ q. HasKeyAt fs q w) same (holds fs w f e)) in record {
        worker = is.worker;
        named = is.named ∙ same-named f.flown.operation.key (router_in (row_at old) f.flown.operation.key) (router_in (row_at new) f.flown.operation.key) (row_at old f.flown.operation.key) (row_at new f.flown.operation.key) (sym (others.rows f.flown.operation.key apart));
        shared = is.shared;
        placed = others.places f.flown.operation.key apart is.placed;
      };
  apart = kept.apart;
}
