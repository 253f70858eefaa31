-- The calls of an operation and of turns, over rows and what stands. The orders of calls are those of SONiC's orchestration agent. Own.
use Rattle.std.specs.Prelude.{◌≡◌, ◌⊎◌, ◌<◌, ◌∷◌, ◌++◌, ℕ, zero, suc, Bool, List, [], length, Option, option_map}
use Rattle.table_schema.specs.Plan.{Ports}
use Rattle.table_schema.specs.declared.key.Key.{Key}
use Rattle.table_schema.specs.declared.row.Row.{Row}
use Rattle.sai_types.specs.declared.ids.Rid.{Rid}
use Rattle.sai_types.specs.declared.body.Call.{Call}
use Rattle.sai_types.specs.declared.thing.Thing.{Thing}
use Rattle.sai_types.specs.Made.{made_after, made_after_all}
use Rattle.switch_model.specs.Good.{TypedRows}
use Rattle.switch_model.specs.Placed.{place, placed_rows, router_in}
use Rattle.switch_model.specs.Turns.{HasReason, with_good}
use Rattle.chip_layout.specs.Layout.{listed}
use Rattle.row_layout.specs.Operations.{Change, changes_of}
use Rattle.row_layout.specs.Rows.{Owner}
use Rattle.switch_machine.specs.Changes.{IsCall, changed_by}
use Rattle.switch_machine.specs.Events.{IsGiven}
use Rattle.switch_machine.specs.Operations.{IsUsedByOthers}

-- ---- of an operation

-- the changes that bring a key this row, or take its row away, over these applied rows, each in its place
pub record AreChangesOf (plan : Ports) (applied : TypedRows) (k : Key) (new : Option Row) (changes : List Change) : Type 0 where
  pub used : Owner → Bool
  pub by_others : IsUsedByOthers plan (placed_rows applied) k used
  pub is : changes ≡ changes_of plan k (placed_rows applied k) (option_map (place (router_in applied k)) new) used

-- a call makes this change: it names what stands, what it makes has the next identifier, and this stands after it
pub record IsCallOf (stands : List (Rid × Thing)) (made : ℕ) (c : Change) (call : Call Rid) (later : List (Rid × Thing)) : Type 0 where
  pub of : IsCall (listed stands) c call
  pub id : Rid
  pub given : IsGiven (listed stands) made c call of id
  pub into : (i : Rid) (t : Thing) → changed_by (listed stands) c id i t → listed later i t
  pub back : (i : Rid) (t : Thing) → listed later i t → changed_by (listed stands) c id i t

-- a call for each of the changes, in their order, and no other
abbrev pub AreCallsOf : List (Rid × Thing) → ℕ → List Change → List (Call Rid) → List (Rid × Thing) → Type 0
AreCallsOf stands made [] calls later = (calls ≡ []) × (later ≡ stands)
AreCallsOf stands made (c ∷ cs) calls later = (call : Call Rid) × (rest : List (Call Rid)) × (mid : List (Rid × Thing)) × (calls ≡ call ∷ rest) × IsCallOf stands made c call mid × AreCallsOf mid (made_after made call) cs rest later

-- a call for each of the first of the changes, in their order; the last may be one that failed, so nothing is said of what it left
abbrev pub AreFirstCallsOf : List (Rid × Thing) → ℕ → List Change → List (Call Rid) → Type 0
AreFirstCallsOf stands made changes [] = Unit {0}
AreFirstCallsOf stands made [] (call ∷ rest) = ⊥
AreFirstCallsOf stands made (c ∷ cs) (call ∷ rest) = IsCall (listed stands) c call × ((rest ≡ []) ⊎ ((mid : List (Rid × Thing)) × IsCallOf stands made c call mid × AreFirstCallsOf mid (made_after made call) cs rest))

-- ---- of turns

-- the applied rows, what stands, and the number of identifiers given so far
pub record Situation : Type 0 where
  pub applied : TypedRows
  pub stands : List (Rid × Thing)
  pub made : ℕ

-- a key has its good row, or none, after the calls of its operation
pub record CompletesWith (plan : Ports) (good : TypedRows) (k : Key) (s t : Situation) (calls : List (Call Rid)) : Type 0 where
  pub changes : List Change
  pub are : AreChangesOf plan s.applied k (good k) changes
  pub calls_are : AreCallsOf s.stands s.made changes calls t.stands
  pub applied : t.applied ≡ with_good good s.applied k
  pub made : t.made ≡ made_after_all s.made calls

-- a turn over these keys, with its calls: those of each key that leaves, in key order
abbrev pub IsTurnWith : Ports → List ℕ → TypedRows → Situation → List Key → Situation → List Key → List (Call Rid) → Type 0
IsTurnWith plan capacities good s [] t left calls = (t ≡ s) × (left ≡ []) × (calls ≡ [])
IsTurnWith plan capacities good s (k ∷ ks) t left calls =
    (HasReason plan capacities good s.applied k × (rest : List Key) × (left ≡ k ∷ rest) × IsTurnWith plan capacities good s ks t rest calls)
    ⊎ ((¬ (HasReason plan capacities good s.applied k)) × (mid : Situation) × (own : List (Call Rid)) × (more : List (Call Rid)) × CompletesWith plan good k s mid own × (calls ≡ own ++ more) × IsTurnWith plan capacities good mid ks t left more)

-- so many turns, with their calls
abbrev pub AreTurnsWith : Ports → List ℕ → TypedRows → ℕ → Situation → List Key → Situation → List Key → List (Call Rid) → Type 0
AreTurnsWith plan capacities good zero s keys t left calls = (keys ≡ []) × (t ≡ s) × (left ≡ []) × (calls ≡ [])
AreTurnsWith plan capacities good (suc n) s keys t left calls =
    (0 < length keys) × (mid : Situation) × (rest : List Key) × (own : List (Call Rid)) × IsTurnWith plan capacities good s keys mid rest own
    × (((length rest ≡ length keys) × (n ≡ 0) × (t ≡ mid) × (left ≡ rest) × (calls ≡ own)) ⊎ ((length rest < length keys) × (more : List (Call Rid)) × (calls ≡ own ++ more) × AreTurnsWith plan capacities good n mid rest t left more))

-- ---- of turns that are cut off

-- the operation of a key is begun with these calls
pub record BeginsWith (plan : Ports) (good : TypedRows) (k : Key) (s : Situation) (calls : List (Call Rid)) : Type 0 where
  pub changes : List Change
  pub are : AreChangesOf plan s.applied k (good k) changes
  pub calls_are : AreFirstCallsOf s.stands s.made changes calls

-- a turn over these keys, so far: it is cut off before a key, or in the operation of a key
abbrev pub IsTurnWithSoFar : Ports → List ℕ → TypedRows → Situation → List Key → List (Call Rid) → Type 0
IsTurnWithSoFar plan capacities good s [] calls = calls ≡ []
IsTurnWithSoFar plan capacities good s (k ∷ ks) calls =
    (calls ≡ [])
    ⊎ (((¬ (HasReason plan capacities good s.applied k)) × BeginsWith plan good k s calls)
    ⊎ ((HasReason plan capacities good s.applied k × IsTurnWithSoFar plan capacities good s ks calls)
    ⊎ ((¬ (HasReason plan capacities good s.applied k)) × (mid : Situation) × (own : List (Call Rid)) × (more : List (Call Rid)) × CompletesWith plan good k s mid own × (calls ≡ own ++ more) × IsTurnWithSoFar plan capacities good mid ks more)))

-- so many whole turns, each of which took a key away, and then one so far
abbrev pub AreTurnsWithSoFar : Ports → List ℕ → TypedRows → ℕ → Situation → List Key → List (Call Rid) → Type 0
AreTurnsWithSoFar plan capacities good zero s keys calls = IsTurnWithSoFar plan capacities good s keys calls
AreTurnsWithSoFar plan capacities good (suc n) s keys calls =
    (mid : Situation) × (rest : List Key) × (own : List (Call Rid)) × IsTurnWith plan capacities good s keys mid rest own
    × (length rest < length keys) × (more : List (Call Rid)) × (calls ≡ own ++ more) × AreTurnsWithSoFar plan capacities good n mid rest more
