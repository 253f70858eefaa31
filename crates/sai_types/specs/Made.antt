-- Chip states that legal calls made, and what holds in each of them. Own.
use Rattle.std.specs.Prelude.{false, ◌==◌, slice_index, ◌≡◌, ℕ, ◌+◌, ◌≤◌, Bool, true, List, [], ◌∷◌, Some, if◌then◌else◌}
use Rattle.std.specs.BTreeMap.{is_at}
use Rattle.std.specs.List.{list_any}
use Rattle.std.specs.List.Sorted.{IsStrictlySortedBy}
use Rattle.std.specs.Map.{keys_of}
use Rattle.sai_types.specs.declared.ids.Rid.{Rid}
use Rattle.sai_types.specs.declared.body.Body.{Body}
use Rattle.sai_types.specs.declared.body.Body.TheVariants as body
use Rattle.sai_types.specs.declared.body.Entry.{Entry}
use Rattle.sai_types.specs.declared.body.Call.{Call}
use Rattle.sai_types.specs.declared.body.Call.TheVariants as call
use Rattle.sai_types.specs.declared.thing.Thing.{Thing}
use Rattle.sai_types.specs.Named.{thing_of}
use Rattle.sai_types.specs.Names.{ThingName, name_of}
use Rattle.sai_types.specs.Names as name
use Rattle.sai_types.specs.Objects.{Objects, body_at, entry_cmp}
use Rattle.sai_types.specs.References.{refers_well}
use Rattle.sai_types.specs.Refusal.{clash, IsLegal}
use Rattle.sai_types.specs.After.{after_call, entry_of, makes_id}

abbrev pub same_entry : Entry Rid → Entry Rid → Bool
same_entry a b = is_at (entry_cmp a) b

-- the entry that a call names, which for a create is that of the new object
abbrev pub entry_named : ℕ → Call Rid → Entry Rid
entry_named n (call.Create b) = entry_of n b
entry_named n (call.Set e a) = e
entry_named n (call.Remove e) = e

-- the entries rise, so each stands once
abbrev pub AreSorted : Objects → Type 0
AreSorted objects = IsStrictlySortedBy entry_cmp (keys_of objects)

-- each object has the entry of its body: its key, or one of the identifiers made so far
pub record AreEntered (made : ℕ) (objects : Objects) : Type 0 where
  pub each : (e : Entry Rid) (b : Body Rid) → body_at objects e ≡ Some b → (n : ℕ) × (n ≤ made) × (same_entry e (entry_of n b) ≡ true)

-- two objects that clash are one object: no two have one natural key, but groups, and no two ports have a lane in common
pub record AreApart (objects : Objects) : Type 0 where
  pub each : (e f : Entry Rid) (b d : Body Rid) → body_at objects e ≡ Some b → body_at objects f ≡ Some d → clash b d ≡ true → same_entry e f ≡ true

-- each reference of each object stands and is of the right kind
pub record ReferWell (objects : Objects) : Type 0 where
  pub each : (e : Entry Rid) (b : Body Rid) → body_at objects e ≡ Some b → refers_well objects b ≡ true

-- what holds in each state that legal calls made, after so many identifiers
pub record IsWhole (made : ℕ) (objects : Objects) : Type 0 where
  pub sorted : AreSorted objects
  pub entered : AreEntered made objects
  pub apart : AreApart objects
  pub refer : ReferWell objects

-- how many identifiers are made after a call
abbrev pub made_after : ℕ → Call Rid → ℕ
made_after made c = if makes_id c then made + 1 else made

abbrev pub made_after_all : ℕ → List (Call Rid) → ℕ
made_after_all made [] = made
made_after_all made (c ∷ cs) = made_after_all (made_after made c) cs

-- each of the calls is legal in the state that those before it leave
abbrev pub AreLegal : List ℕ → ℕ → Objects → List (Call Rid) → Type 0
AreLegal capacities made objects [] = Unit {0}
AreLegal capacities made objects (c ∷ cs) = IsLegal capacities objects c × AreLegal capacities (made_after made c) (after_call (made + 1) objects c) cs

-- whether a body has the lane by which it is named, where it is a port
abbrev pub has_first : Body Rid → Bool
has_first (body.Port lanes speed mtu up) = list_any (λ lane. lane == slice_index lanes 0) lanes
has_first _ = true

-- each port has a lane
pub record HaveLanes (objects : Objects) : Type 0 where
  pub each : (e : Entry Rid) (b : Body Rid) → body_at objects e ≡ Some b → has_first b ≡ true

-- whether no two things have this name: groups and their members may have the hops of others
abbrev pub is_one : ThingName → Bool
is_one (name.Group hops) = false
is_one (name.GroupMember hops hop) = false
is_one _ = true

-- two objects that stand for things of one name are one object, but groups and their members
pub record HaveOneEach (objects : Objects) : Type 0 where
  pub each : (e f : Entry Rid) (b d : Body Rid) (x y : Thing) → body_at objects e ≡ Some b → body_at objects f ≡ Some d → thing_of objects (e, b) ≡ Some x → thing_of objects (f, d) ≡ Some y → name_of x ≡ name_of y → is_one (name_of x) ≡ true → same_entry e f ≡ true
