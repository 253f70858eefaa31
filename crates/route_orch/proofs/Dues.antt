-- the changes that are due at the start of a route's operation
use Rattle.std.proofs.Common.{◌≡◌, Bool, true, false, ◌&&◌, ◌||◌, List, [], ◌∷◌, Option, Some, None, option_map, if◌then◌else◌, refl, sym, ap, ap₂, subst, ◌∙◌}
use Rattle.std.proofs.lemmas.Bool.{and_parts}
use Rattle.swss_types.specs.declared.address.Prefix.{Prefix}
use Rattle.swss_types.specs.declared.vrf.Vrf.{Vrf}
use Rattle.swss_types.specs.Vrf.{same_vrf}
use Rattle.swss_types.specs.contracts.address.PrefixPartialEq.TheImpl as prefix_eq
use Rattle.table_schema.specs.Plan.{Ports}
use Rattle.table_schema.specs.declared.key.Key.TheVariants as key
use Rattle.switch_model.specs.Placed.{Placed as Row}
use Rattle.switch_model.specs.Placed as row
use Rattle.table_schema.specs.declared.row.RouteRow.{RouteRow}
use Rattle.sai_types.specs.contracts.thing.GoalPartialEq.TheImpl as goal_eq
use Rattle.sai_types.specs.contracts.thing.ThingEq.TheImpl.Laws as equal_thing
use Rattle.sai_types.specs.declared.thing.Goal.{Goal}
use Rattle.sai_types.specs.declared.thing.Goal.TheVariants as goal
use Rattle.sai_types.specs.declared.thing.Thing.TheVariants as thing
use Rattle.row_layout.specs.Operations.{Change, Make, Set, make_all, own_changes, same_thing, set_all, take_all}
use Rattle.row_layout.specs.Rows.{Owner, Group, from, goal_of}
use Rattle.switch_machine.specs.Flights.{Fits}
use Rattle.sai_types.proofs.Equal.{thing-exact}
use Rattle.ref_counts.specs.declared.name.Name.{Name}
use Rattle.ref_counts.specs.declared.name.Name.TheVariants as name
use Rattle.ref_counts.specs.declared.name.NameState.TheVariants as state
use Rattle.ref_counts.specs.Registry.{Names, state_of}
use Rattle.orch_flight.specs.Needing.{absent_or, first_absent}
use Rattle.orch_flight.specs.Sharing.{owners_of}
use Rattle.orch_flight.specs.Starting.{built_here, first_left, leaving}
use Rattle.route_orch.specs.Targets.{AreGroups, IsTargetOf, goal_at}
use Rattle.route_orch.specs.Routes.{first_step, route_due}
use Rattle.route_orch.specs.declared.flight.RouteStep.TheVariants as step
use Rattle.route_orch.specs.declared.target.Target.{Target}
use Rattle.route_orch.proofs.Goals.{goal-same, goal_uses, target-goal, uses-goal}

-- the row points somewhere, where there is one
abbrev pub HasGoal : Ports → Option RouteRow → Type 0
HasGoal plan None = Unit {0}
HasGoal plan (Some r) = (g : Goal) × (goal_of plan r ≡ Some g)

pub fit-goal : (plan : Ports) (v : Vrf) (p : Prefix) (o : Option RouteRow) → ((r : Row) → option_map row.Route o ≡ Some r → Fits plan (key.Route v p) r) → HasGoal plan o
fit-goal plan v p None fits = tt
fit-goal plan v p (Some r) fits = (fits (row.Route r) refl).1

same_route : (v : Vrf) (p : Prefix) (a b : Goal) → same_thing (thing.Route v p a) (thing.Route v p b) ≡ goal_eq.ghosts.eq a b
same_route v p a b =
    let router = and_parts (same_vrf v v) (prefix_eq.ghosts.eq p p && goal_eq.ghosts.eq a a) (equal_thing.laws-law.refl (thing.Route v p a)) in
    ap₂ (λ x y. x && (y && goal_eq.ghosts.eq a b)) router.0 (and_parts (prefix_eq.ghosts.eq p p) (goal_eq.ghosts.eq a a) router.1).0

due_by_set : (v : Vrf) (p : Prefix) (g : Goal) (b : Bool) → (if b then [] else Set (thing.Route v p g) ∷ []) ≡ route_due (if b then step.Ended else step.Set) v p g
due_by_set v p g true = refl
due_by_set v p g false = refl

module _ (plan : Ports) (v : Vrf) (p : Prefix) where
  -- the changes of the route itself
  pub own-due : (o n : Option RouteRow) (was target : Target) → HasGoal plan o → HasGoal plan n → IsTargetOf plan (key.Route v p) (option_map row.Route o) was → IsTargetOf plan (key.Route v p) (option_map row.Route n) target → own_changes plan (key.Route v p) (option_map row.Route o) (option_map row.Route n) ≡ route_due (first_step (option_map row.Route o) (option_map row.Route n) was target) v p (goal_at target)
  own-due None None was target a b of_was of_target = refl
  own-due None (Some r) was target a (g, is) of_was of_target =
      ap (λ o. make_all (from o (λ g. thing.Route v p g ∷ [])) []) is ∙ ap (λ g. Make (thing.Route v p g) ∷ []) (sym (target-goal plan v p r target g of_target is))
  own-due (Some a) None was target (g, is) b of_was of_target = ap (λ o. take_all (from o (λ g. thing.Route v p g ∷ [])) []) is
  own-due (Some a) (Some r) was target (g, is) (h, to) of_was of_target =
      ap₂ (λ x y. set_all (from x (λ g. thing.Route v p g ∷ [])) (from y (λ g. thing.Route v p g ∷ []))) is to
      ∙ ap (λ b. if b then [] else Set (thing.Route v p h) ∷ []) (same_route v p g h)
      ∙ due_by_set v p h (goal_eq.ghosts.eq g h)
      ∙ ap₂ (λ g h. route_due (if goal_eq.ghosts.eq g h then step.Ended else step.Set) v p h) (sym (target-goal plan v p a was g of_was is)) (sym (target-goal plan v p r target h of_target to))

  left_none : (g : Goal) → first_left (goal_uses g) (goal_uses g) ≡ None
  left_none goal.Drop = refl
  left_none (goal.Direct b) = refl
  left_none (goal.Via hop) = refl
  left_none (goal.Group hops) = ap (λ b. if b || false then None else Some (Group hops)) (equal_thing.laws-law.refl (thing.Group hops))

  set_none : (g h : Goal) (b : Bool) → same_thing (thing.Route v p g) (thing.Route v p h) ≡ b → (if b then [] else Set (thing.Route v p h) ∷ []) ≡ [] → g ≡ h
  set_none g h true same none = goal-same v p g h (thing-exact (thing.Route v p g) (thing.Route v p h) same)
  set_none g h false same none = absurd cc

  -- where nothing is due nothing is left
  pub none-left : (o n : Option RouteRow) → HasGoal plan o → HasGoal plan n → own_changes plan (key.Route v p) (option_map row.Route o) (option_map row.Route n) ≡ [] → leaving plan (key.Route v p) (option_map row.Route o) (option_map row.Route n) ≡ None
  none-left None None a b none = refl
  none-left None (Some r) a b none = refl
  none-left (Some a) None (g, is) b none = absurd (made_some (sym (ap (λ o. take_all (from o (λ g. thing.Route v p g ∷ [])) []) is) ∙ none))
    where
      made_some : take_all (thing.Route v p g ∷ []) [] ≡ [] → ⊥
      made_some h = cc
  none-left (Some a) (Some r) (g, is) (h, to) none =
      let same = set_none g h (same_thing (thing.Route v p g) (thing.Route v p h)) refl (sym (ap₂ (λ x y. set_all (from x (λ g. thing.Route v p g ∷ [])) (from y (λ g. thing.Route v p g ∷ []))) is to) ∙ none) in
      ap₂ first_left (uses-goal plan r h to) (uses-goal plan a g is) ∙ subst (λ z. first_left (goal_uses h) (goal_uses z) ≡ None) (sym same) (left_none h)

-- a group is built by an operation of its own
pub built-apart : (names : Names) (us : List Owner) (group : Option Name) (own : List Change) → us ≡ owners_of group → AreGroups group → built_here (first_absent names us) own ≡ own
built-apart names us group own is groups = ap (λ us. built_here (first_absent names us) own) is ∙ by group groups
  where
    by : (group : Option Name) → AreGroups group → built_here (first_absent names (owners_of group)) own ≡ own
    by None groups = refl
    by (Some (name.Group hops)) groups = elim (state_of names (name.Group hops)) as (λ s. built_here (absent_or (Group hops) s None) own ≡ own) [ state.Absent ↦ refl | state.Live ↦ refl | state.Building w ↦ refl | state.Retiring w ↦ refl ]
    by (Some (name.Row k)) groups = elim groups [ ]
    by (Some (name.BridgePort lane)) groups = elim groups [ ]
    by (Some (name.Own v ip)) groups = elim groups [ ]
