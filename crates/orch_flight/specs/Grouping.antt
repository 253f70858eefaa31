-- The operation of a group of next hops: it is built before the route that is to point at it, and taken away after the last route that left it. Own.
use Rattle.std.specs.Prelude.{◌≡◌, ◌≤◌, ℕ, Bool, true, false, List, [], ◌∷◌, ◌++◌, map, length, Option, Some, None, IsSome, option_map, suc, if◌then◌else◌}
use Rattle.std.specs.List.{AllByRecursion}
use Rattle.table_schema.specs.Plan.{Ports}
use Rattle.table_schema.specs.declared.key.Key.{Key}
use Rattle.table_schema.specs.declared.key.Key.TheVariants as key
use Rattle.sai_types.specs.declared.weight.WHop.{WHop}
use Rattle.sai_types.specs.declared.ids.Vid.{Vid}
use Rattle.sai_types.specs.Named.{those}
use Rattle.sai_types.specs.Names as thing_name
use Rattle.row_layout.specs.Operations.{Change, make_all, shared_going, take_all}
use Rattle.row_layout.specs.Rows.{Group, interface_on}
use Rattle.row_layout.specs.Shared.{shared_things}
use Rattle.ref_counts.specs.declared.name.Name.TheVariants as name
use Rattle.ref_counts.specs.declared.name.NameState.TheVariants as state
use Rattle.ref_counts.specs.declared.next.Next.{Next}
use Rattle.ref_counts.specs.declared.next.Next.TheVariants as next
use Rattle.ref_counts.specs.Registered.{first_of, made_live}
use Rattle.ref_counts.specs.Registry.{Names, changed, gone_from, ids_of, places_of, state_of}
use Rattle.orch_flight.specs.Calling.{HasVid, IsCallFor, member_vid, members_ids}
use Rattle.orch_flight.specs.Taking.{to_list}

-- the worker and the hops; whether the group is built or taken away; where it is built, the neighbours' keys, hop by hop, and the identifiers made so far, the group's own first; and the changes that are due
pub record GroupOperation : Type 0 where
  pub worker : ℕ
  pub hops : List WHop
  pub builds : Bool
  pub neighbours : List Key
  pub made : List Vid
  pub due : List Change

-- the keys of the neighbours that are these hops
abbrev pub neighbour_keys : Ports → List WHop → List Key
neighbour_keys plan hops = those (map (λ h. option_map (λ n. key.Neigh n h.hop.ip) (interface_on plan h.hop.on)) hops)

-- the group comes before its members where it is built, and behind them where it goes
abbrev pub first_group_due : List WHop → Bool → List Change
first_group_due hops true = make_all (shared_things (Group hops)) []
first_group_due hops false = take_all (shared_going (Group hops)) []

-- an operation of which nothing is made
abbrev pub first_group : Ports → ℕ → List WHop → Bool → GroupOperation
first_group plan worker hops builds = record { worker = worker; hops = hops; builds = builds; neighbours = if builds then neighbour_keys plan hops else []; made = []; due = first_group_due hops builds }

-- ---- calls

-- the identifiers of the group and of its members, as far as they stand
abbrev pub group_ids : Names → GroupOperation → List Vid
group_ids names g = if g.builds then g.made else ids_of names (name.Group g.hops)

-- the group that is built is not yet known to the registry
abbrev pub HasGroupVid : Ports → Names → GroupOperation → thing_name.ThingName → Vid → Type 0
HasGroupVid plan names g (thing_name.Group hops) v = (hops ≡ g.hops) × (first_of (group_ids names g) ≡ Some v)
HasGroupVid plan names g (thing_name.GroupMember hops hop) v = (hops ≡ g.hops) × (member_vid hops hop (members_ids (group_ids names g)) ≡ Some v)
HasGroupVid plan names g n v = HasVid plan names n v

-- the call of the change that is due next, and the end where none is
abbrev pub IsGroupNextOf : Ports → Names → GroupOperation → Next → Type 0
IsGroupNextOf plan names g next.End = g.due ≡ []
IsGroupNextOf plan names g (next.Call c) = (change : Change) × (rest : List Change) × (g.due ≡ change ∷ rest) × IsCallFor (HasGroupVid plan names g) (shared_things (Group g.hops)) change c

-- each hop of a group that is built is on an interface of the plan
abbrev pub IsGroupOver : Ports → GroupOperation → Type 0
IsGroupOver plan g = g.builds ≡ true → (g.neighbours ≡ neighbour_keys plan g.hops) × (length g.neighbours ≡ length g.hops)

-- the registry has the identifiers of the neighbours of a group that is built, and those of a group that goes and of its members
pub record KnowsGroupIds (names : Names) (g : GroupOperation) : Type 0 where
  pub neighbours : g.builds ≡ true → AllByRecursion (λ k. IsSome (first_of (ids_of names (name.Row k)))) g.neighbours
  pub group : g.builds ≡ false → length (ids_of names (name.Group g.hops)) ≡ suc (length g.hops)

-- ---- answers

-- once no change is due a group that is built is live, with its identifiers, and one that goes is absent
abbrev pub group_names_by : Names → GroupOperation → List Vid → List Change → Names
group_names_by names g made [] = if g.builds then changed names (name.Group g.hops) (made_live made) else gone_from names (name.Group g.hops)
group_names_by names g made (c ∷ cs) = names

abbrev pub members_with_made : GroupOperation → Option Vid → List Vid
members_with_made g made = if g.builds then g.made ++ to_list made else g.made

-- the change that was due next is made
pub record IsGroupTook (old : GroupOperation) (made : Option Vid) (names : Names) (new : GroupOperation) (names' : Names) : Type 0 where
  pub change : Change
  pub rest : List Change
  pub due : old.due ≡ change ∷ rest
  pub operation : new ≡ record { worker = old.worker; hops = old.hops; builds = old.builds; neighbours = old.neighbours; made = members_with_made old made; due = rest }
  pub names_are : names' ≡ group_names_by names old (members_with_made old made) rest

-- a change is due; an identifier came exactly where the group is built; the worker builds the group, with places for its identifiers, or takes it away
pub record MayTakeGroup (g : GroupOperation) (made : Option Vid) (names : Names) : Type 0 where
  pub some : g.due ≡ [] → ⊥
  pub numbered : g.builds ≡ true → IsSome made
  pub unnumbered : g.builds ≡ false → made ≡ None
  pub builds : g.builds ≡ true → (state_of names (name.Group g.hops) ≡ state.Building g.worker) × (suc (length g.hops) ≤ places_of names (name.Group g.hops))
  pub goes : g.builds ≡ false → state_of names (name.Group g.hops) ≡ state.Retiring g.worker
