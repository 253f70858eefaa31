-- names stay in order, with their places, and none of them absent
use Rattle.std.proofs.Common.{◌≡◌, ◌∷◌, ◌∙◌, inl, inr, ℕ, Bool, true, false, cond, if◌then◌else◌, List, [], Option, None, Some, option_map, refl, sym, ap, subst}
use Rattle.std.specs.BTreeMap.{insert_entry, is_at}
use Rattle.table_schema.specs.Fields.{HasRisingKeys}
use Rattle.table_schema.specs.declared.key.Key.{Key}
use Rattle.table_schema.specs.declared.key.Key.TheVariants as key
use Rattle.std.specs.Map.{remove_entry}
use Rattle.table_schema.proofs.Places.{HasRisingKeys-insert_entry}
use Rattle.table_schema.proofs.RowLists.{HasRisingKeys-remove_entry}
use Rattle.table_schema.specs.Plan.{Ports}
use Rattle.sai_types.specs.declared.ids.Vid.{Vid}
use Rattle.sai_types.specs.declared.thing.Thing.{Thing}
use Rattle.sai_types.specs.declared.thing.Thing.TheVariants as thing
use Rattle.sai_types.specs.Names as thing_name
use Rattle.switch_model.specs.declared.wait.Wait.{Wait}
use Rattle.switch_model.specs.Placed.{Placed as Row}
use Rattle.row_layout.specs.Operations.{Change, Make, Set, Take, uses_of}
use Rattle.row_layout.specs.Rows as owner
use Rattle.row_layout.specs.Rows.{Owner}
use Rattle.switch_machine.proofs.Splits.{IsSplit, owner_split}
use Rattle.switch_machine.specs.Flights.{goes_over}
use Rattle.ref_counts.specs.declared.name.Name.TheVariants as name
use Rattle.ref_counts.specs.declared.name.NameState.{NameState}
use Rattle.ref_counts.specs.declared.name.NameState.TheVariants as state
use Rattle.ref_counts.specs.Registered.{Registered, begun, begun_to_go, made_live, released, with_pin, with_user, without_user}
use Rattle.ref_counts.specs.Registry.{Names, all_released, changed, gone_from, is_retiring, registered_name_cmp, pinned, places_in, retire_refusal_at, registered_at, state_in, state_of}
use Rattle.ref_counts.proofs.Changing.{name_total}
use Rattle.ref_counts.proofs.Found.{found-released}
use Rattle.orch_flight.specs.Grouping.{GroupOperation, group_names_by}
use Rattle.orch_flight.specs.Needing.{name_for, row_names, to_build}
use Rattle.orch_flight.specs.Starting.{begun_names, ids_for, ids_for_row, left_names, parted_by, used_by, with_building, with_own, with_pins}
use Rattle.orch_flight.specs.Taking.{names_after_made, names_after, taken_names, to_list}
use Rattle.registry_laws.specs.Ending.{ended_names, named_by, users_dropped, users_passed, with_own_ended, come_to_be}
use Rattle.registry_laws.specs.Flying.{HavePlacesForIdentifiers, AreThere}
use Rattle.registry_laws.proofs.Finding.{found_at, found_off, gone_off, out_at, put_at_name, put_off_name}
use Rattle.registry_laws.proofs.Passing.{changed_rising, released_rising}

abbrev IsFineAs : Owner → Registered → Type 0
IsFineAs o r = (r.state ≡ state.Absent → ⊥) × ((w : ℕ) → r.state ≡ state.Building w → r.places ≡ ids_for o)

abbrev IsFine : Owner → Option Registered → Type 0
IsFine o None = Unit {0}
IsFine o (Some r) = IsFineAs o r

-- names that are in order, have their places, and are not absent
pub record AreFine (names : Names) : Type 0 where
  pub rising : HasRisingKeys registered_name_cmp names
  pub fine : (o : Owner) → IsFine o (registered_at names (name_for o))

pub fine_of : (names : Names) → HasRisingKeys registered_name_cmp names → HavePlacesForIdentifiers names → AreThere names → AreFine names
fine_of names rising placed there = record { rising = rising; fine = λ o. by o (registered_at names (name_for o)) refl }
  where
    by : (o : Owner) (x : Option Registered) → registered_at names (name_for o) ≡ x → IsFine o x
    by o None e = tt
    by o (Some r) e = (there o r e, λ w h. sym (ap places_in e) ∙ placed o w (ap state_in e ∙ h))

module _ (names : Names) (are : AreFine names) where
  pub placed_of : HavePlacesForIdentifiers names
  placed_of o w h = by (registered_at names (name_for o)) refl (are.fine o)
    where
      by : (x : Option Registered) → registered_at names (name_for o) ≡ x → IsFine o x → places_in (registered_at names (name_for o)) ≡ ids_for o
      by None e f = let z : state.Absent ≡ state.Building w = sym (ap state_in e) ∙ h in absurd cc
      by (Some r) e f = ap places_in e ∙ f.1 w (sym (ap state_in e) ∙ h)

  pub there_of : AreThere names
  there_of o r e absent = (subst (IsFine o) e (are.fine o)).0 absent

-- ---- one change of what is known of a name

module _ (o : Owner) (f : Registered → Registered) (keeps : (r : Registered) → IsFineAs o r → IsFineAs o (f r)) where
  mapped_fine : (x : Option Registered) → IsFine o x → IsFine o (option_map f x)
  mapped_fine None h = tt
  mapped_fine (Some r) h = keeps r h

  pub changed_fine : (names : Names) → AreFine names → AreFine (changed names (name_for o) f)
  changed_fine names are = record { rising = changed_rising (key.Vlan 0) names (name_for o) f are.rising; fine = λ p. by p (owner_split o p) }
    where
      by : (p : Owner) → IsSplit o p → IsFine p (registered_at (changed names (name_for o) f) (name_for p))
      by p (inl same) = subst (λ z. IsFine z (registered_at (changed names (name_for o) f) (name_for z))) same (subst (IsFine o) (sym (found_at names o f)) (mapped_fine (registered_at names (name_for o)) (are.fine o)))
      by p (inr apart) = subst (IsFine p) (sym (found_off names o p f apart)) (are.fine p)

pub put_fine : (o : Owner) (r : Registered) → IsFineAs o r → (names : Names) → AreFine names → AreFine (insert_entry registered_name_cmp names (name_for o) r)
put_fine o r is names are = record { rising = HasRisingKeys-insert_entry registered_name_cmp name_total names (name_for o) r are.rising; fine = λ p. by p (owner_split o p) }
  where
    by : (p : Owner) → IsSplit o p → IsFine p (registered_at (insert_entry registered_name_cmp names (name_for o) r) (name_for p))
    by p (inl same) = subst (λ z. IsFine z (registered_at (insert_entry registered_name_cmp names (name_for o) r) (name_for z))) same (subst (IsFine o) (sym (put_at_name names o r)) is)
    by p (inr apart) = subst (IsFine p) (sym (put_off_name names o p r apart)) (are.fine p)

pub gone_fine : (o : Owner) (names : Names) → AreFine names → AreFine (gone_from names (name_for o))
gone_fine o names are = of (is_retiring (state_of names (name_for o))) refl
  where
    of : (b : Bool) → is_retiring (state_of names (name_for o)) ≡ b → AreFine (gone_from names (name_for o))
    of false e = subst AreFine (sym (ap (λ b. cond b (remove_entry (is_at (registered_name_cmp (name_for o))) names) names) e)) are
    of true e = record {
      rising = subst (HasRisingKeys registered_name_cmp) (sym is) (HasRisingKeys-remove_entry registered_name_cmp (is_at (registered_name_cmp (name_for o))) names are.rising);
      fine = λ p. by p (owner_split o p);
    }
      where
        is : gone_from names (name_for o) ≡ remove_entry (is_at (registered_name_cmp (name_for o))) names
        is = ap (λ b. cond b (remove_entry (is_at (registered_name_cmp (name_for o))) names) names) e

        by : (p : Owner) → IsSplit o p → IsFine p (registered_at (gone_from names (name_for o)) (name_for p))
        by p (inl same) = subst (λ z. IsFine z (registered_at (gone_from names (name_for o)) (name_for z))) same (subst (IsFine o) (sym (ap (λ l. registered_at l (name_for o)) is ∙ out_at names (name_for o) are.rising)) tt)
        by p (inr apart) = subst (IsFine p) (sym (gone_off names o p apart)) (are.fine p)

pub released_fine : (w : ℕ) (names : Names) → AreFine names → AreFine (all_released w true names)
released_fine w names are = record { rising = released_rising w names are.rising; fine = λ o. subst (IsFine o) (sym (found-released names w true (name_for o))) (mapped_fine o (released w true) (λ r h. h) (registered_at names (name_for o)) (are.fine o)) }

-- ---- what begins

is_begun : (o : Owner) (w : ℕ) → IsFineAs o (begun w (ids_for o))
is_begun o w = (λ e. cc, λ v e. refl)

is_going : (o : Owner) (w : ℕ) (r : Registered) → IsFineAs o r → IsFineAs o (begun_to_go w r)
is_going o w r h = (λ e. cc, λ v e. absurd cc)

is_live : (o : Owner) (ids : List Vid) (r : Registered) → IsFineAs o r → IsFineAs o (made_live ids r)
is_live o ids r h = (λ e. cc, λ v e. absurd cc)

pinned_fine : (w : ℕ) (k : Key) (ks : List Key) (names : Names) → AreFine names → AreFine (pinned names w k ks)
pinned_fine w k [] names are = are
pinned_fine w k (q ∷ ks) names are = pinned_fine w k ks (changed names (name.Row q) (with_pin w k)) (changed_fine (owner.OfRow q) (with_pin w k) (λ r h. h) names are)

used_fine : (k : Key) (os : List Owner) (names : Names) → AreFine names → AreFine (used_by names k os)
used_fine k [] names are = are
used_fine k (o ∷ os) names are = used_fine k os (changed names (name_for o) (with_user k)) (changed_fine o (with_user k) (λ r h. h) names are)

pins_fine : (w : ℕ) (k : Key) (new : Option Row) (names : Names) → AreFine names → AreFine (with_pins names w k new)
pins_fine w k None names are = are
pins_fine w k (Some r) names are = pinned_fine w k (row_names k r) names are

own_fine : (w : ℕ) (k : Key) (old new : Option Row) (names : Names) → AreFine names → AreFine (with_own names w k old new)
own_fine w k None new names are = put_fine (owner.OfRow k) (begun w (ids_for_row k)) (is_begun (owner.OfRow k) w) names are
own_fine w k (Some a) new names are = by (goes_over k (Some a) new)
  where
    by : (b : Bool) → AreFine (if b then changed names (name.Row k) (begun_to_go w) else names)
    by true = changed_fine (owner.OfRow k) (begun_to_go w) (is_going (owner.OfRow k) w) names are
    by false = are

building_fine : (w : ℕ) (x : Option Owner) (names : Names) → AreFine names → AreFine (with_building names w x)
building_fine w None names are = are
building_fine w (Some o) names are = put_fine o (begun w (ids_for o)) (is_begun o w) names are

pub begun_fine : (plan : Ports) (names : Names) (w : ℕ) (k : Key) (old new : Option Row) → AreFine names → AreFine (begun_names plan names w k old new)
begun_fine plan names w k old new are =
    let pins = pins_fine w k new names are in
    let own = own_fine w k old new (with_pins names w k new) pins in
    let built = building_fine w (to_build plan names k new) (with_own (with_pins names w k new) w k old new) own in
    used_fine k (uses_of plan k new) (with_building (with_own (with_pins names w k new) w k old new) w (to_build plan names k new)) built

-- ---- what is left

pub left_fine : (names : Names) (w : ℕ) (k : Key) (o : Owner) → AreFine names → AreFine (left_names names w k o)
left_fine names w k o are = by (retire_refusal_at (changed names (name_for o) (without_user k)) w (name_for o))
  where
    later : AreFine (changed names (name_for o) (without_user k))
    later = changed_fine o (without_user k) (λ r h. h) names are

    by : (x : Option Wait) → AreFine (parted_by x (changed names (name_for o) (without_user k)) w o)
    by None = changed_fine o (begun_to_go w) (is_going o w) (changed names (name_for o) (without_user k)) later
    by (Some wait) = later

-- ---- what is made and taken

live_fine : (o : Owner) (ids : List Vid) (names : Names) → AreFine names → AreFine (changed names (name_for o) (made_live ids))
live_fine o ids names are = changed_fine o (made_live ids) (is_live o ids) names are

made_fine : (names : Names) (k : Key) (t : Thing) (made : Option Vid) → AreFine names → AreFine (names_after_made names k t made)
made_fine names k (thing.Port p) made are = live_fine (owner.OfRow k) (to_list made) names are
made_fine names k (thing.Vlan v) made are = live_fine (owner.OfRow k) (to_list made) names are
made_fine names k (thing.VirtualRouter label) made are = live_fine (owner.OfRow k) (to_list made) names are
made_fine names k (thing.BridgePort lane) made are = live_fine (owner.Bridge lane) (to_list made) names are
made_fine names k (thing.VlanMember v lane x) made are = live_fine (owner.OfRow k) (to_list made) names are
made_fine names k (thing.Rif b v) made are = live_fine (owner.OfRow k) (to_list made) names are
made_fine names k (thing.Own v ip) made are = live_fine (owner.Own v ip) [] names are
made_fine names k (thing.Neighbor hop mac) made are = are
made_fine names k (thing.NextHop hop) made are = live_fine (owner.OfRow k) (to_list made) names are
made_fine names k (thing.Group hops) made are = are
made_fine names k (thing.GroupMember hops hop) made are = are
made_fine names k (thing.Route v prefix goal) made are = are

taken_fine : (names : Names) (n : thing_name.ThingName) → AreFine names → AreFine (taken_names names n)
taken_fine names (thing_name.BridgePort lane) are = gone_fine (owner.Bridge lane) names are
taken_fine names (thing_name.Own v ip) are = gone_fine (owner.Own v ip) names are
taken_fine names (thing_name.Port lane) are = are
taken_fine names (thing_name.Vlan v) are = are
taken_fine names (thing_name.VirtualRouter label) are = are
taken_fine names (thing_name.VlanMember v lane) are = are
taken_fine names (thing_name.Rif b) are = are
taken_fine names (thing_name.Neighbor hop) are = are
taken_fine names (thing_name.NextHop hop) are = are
taken_fine names (thing_name.Group hops) are = are
taken_fine names (thing_name.GroupMember hops hop) are = are
taken_fine names (thing_name.Route v prefix) are = are

pub after_fine : (names : Names) (k : Key) (c : Change) (made : Option Vid) → AreFine names → AreFine (names_after names k c made)
after_fine names k (Make t) made are = made_fine names k t made are
after_fine names k (Set u) made are = are
after_fine names k (Take n) made are = taken_fine names n are

pub group_fine : (names : Names) (g : GroupOperation) (ids : List Vid) (rest : List Change) → AreFine names → AreFine (group_names_by names g ids rest)
group_fine names g ids (c ∷ cs) are = are
group_fine names g ids [] are = by g.builds
  where
    by : (b : Bool) → AreFine (if b then changed names (name.Group g.hops) (made_live ids) else gone_from names (name.Group g.hops))
    by true = live_fine (owner.Group g.hops) ids names are
    by false = gone_fine (owner.Group g.hops) names are

-- ---- what ends

pub dropped_fine : (k : Key) (ks : List Key) (names : Names) → AreFine names → AreFine (users_dropped names k ks)
dropped_fine k [] names are = are
dropped_fine k (q ∷ ks) names are = dropped_fine k ks (changed names (name.Row q) (without_user k)) (changed_fine (owner.OfRow q) (without_user k) (λ r h. h) names are)

pub ended_fine : (names : Names) (w : ℕ) (k : Key) (old new : Option Row) → AreFine names → AreFine (ended_names names w k old new)
ended_fine names w k old new are = by new
  where
    passed : AreFine (users_passed names w k old)
    passed = released_fine w (users_dropped names k (named_by k old)) (dropped_fine k (named_by k old) names are)

    at_last : (st : NameState) → AreFine (come_to_be st (users_passed names w k old) (name.Row k))
    at_last state.Absent = passed
    at_last (state.Building v) = live_fine (owner.OfRow k) [] (users_passed names w k old) passed
    at_last state.Live = passed
    at_last (state.Retiring v) = live_fine (owner.OfRow k) [] (users_passed names w k old) passed

    by : (x : Option Row) → AreFine (with_own_ended (users_passed names w k old) k x)
    by None = gone_fine (owner.OfRow k) (users_passed names w k old) passed
    by (Some r) = at_last (state_of (users_passed names w k old) (name.Row k))
