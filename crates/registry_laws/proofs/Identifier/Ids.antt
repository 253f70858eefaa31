-- the identifiers of names after a change of names
use Rattle.std.proofs.Common.{◌≡◌, ◌∙◌, inl, inr, ℕ, Bool, List, [], Option, None, Some, option_map, refl, sym, ap, subst}
use Rattle.std.specs.BTreeMap.{insert_entry}
use Rattle.table_schema.specs.declared.key.Key.{Key}
use Rattle.sai_types.specs.declared.ids.Vid.{Vid}
use Rattle.row_layout.specs.Rows.{Owner}
use Rattle.switch_machine.proofs.Splits.{IsSplit, owner_split}
use Rattle.ref_counts.specs.declared.name.NameState.{NameState}
use Rattle.ref_counts.specs.declared.name.NameState.TheVariants as state
use Rattle.ref_counts.specs.Registered.{Registered, begun_to_go, made_live, released, with_user, without_user}
use Rattle.ref_counts.specs.Registry.{Names, all_released, changed, ids_by, ids_in, ids_of, registered_name_cmp, pinned, registered_at, state_in, state_of}
use Rattle.ref_counts.proofs.Found.{found-released, pinned-kept}
use Rattle.orch_flight.specs.Needing.{name_for}
use Rattle.registry_laws.proofs.Finding.{found_at, found_off, put_at_name, put_off_name}
use Rattle.registry_laws.specs.Identified.{HaveSameIds}

-- no operation builds what has the owner's name
abbrev pub IsUnbuilt : Names → Owner → Type 0
IsUnbuilt names o = (w : ℕ) → state_of names (name_for o) ≡ state.Building w → ⊥

-- a change that keeps a name's identifiers keeps all
module _ (names : Names) (o : Owner) (f : Registered → Registered) where
  changed_at_name : ((r : Registered) → registered_at names (name_for o) ≡ Some r → ids_by (f r).state (f r).ids ≡ ids_by r.state r.ids) → (x : Option Registered) → registered_at names (name_for o) ≡ x → ids_in (option_map f x) ≡ ids_in x
  changed_at_name same None e = refl
  changed_at_name same (Some r) e = same r e

  pub ids_changed : ((r : Registered) → registered_at names (name_for o) ≡ Some r → ids_by (f r).state (f r).ids ≡ ids_by r.state r.ids) → HaveSameIds names (changed names (name_for o) f)
  ids_changed same p = by (owner_split o p)
    where
      by : IsSplit o p → ids_of (changed names (name_for o) f) (name_for p) ≡ ids_of names (name_for p)
      by (inl e) = subst (λ z. ids_of (changed names (name_for o) f) (name_for z) ≡ ids_of names (name_for z)) e (ap ids_in (found_at names o f) ∙ changed_at_name same (registered_at names (name_for o)) refl)
      by (inr apart) = ap ids_in (found_off names o p f apart)

  -- a change leaves the other names' identifiers
  pub ids_off : (p : Owner) → (o ≡ p → ⊥) → ids_of (changed names (name_for o) f) (name_for p) ≡ ids_of names (name_for p)
  ids_off p apart = ap ids_in (found_off names o p f apart)

-- so does a name that is put without identifiers where there were none
pub ids_put : (names : Names) (o : Owner) (r : Registered) → ids_of names (name_for o) ≡ [] → ids_by r.state r.ids ≡ [] → HaveSameIds names (insert_entry registered_name_cmp names (name_for o) r)
ids_put names o r none new p = by (owner_split o p)
  where
    by : IsSplit o p → ids_of (insert_entry registered_name_cmp names (name_for o) r) (name_for p) ≡ ids_of names (name_for p)
    by (inl e) = subst (λ z. ids_of (insert_entry registered_name_cmp names (name_for o) r) (name_for z) ≡ ids_of names (name_for z)) e (ap ids_in (put_at_name names o r) ∙ new ∙ sym none)
    by (inr apart) = ap ids_in (put_off_name names o p r apart)

pub ids_then : (a b c : Names) → HaveSameIds a b → HaveSameIds b c → HaveSameIds a c
ids_then a b c x y o = y o ∙ x o

pub ids_pinned : (names : Names) (w : ℕ) (k : Key) (ks : List Key) → HaveSameIds names (pinned names w k ks)
ids_pinned names w k ks o = pinned-kept ids_in w k (λ r. refl) names ks (name_for o)

pub ids_user : (names : Names) (o : Owner) (k : Key) → HaveSameIds names (changed names (name_for o) (with_user k))
ids_user names o k = ids_changed names o (with_user k) (λ r e. refl)

pub ids_no_user : (names : Names) (o : Owner) (k : Key) → HaveSameIds names (changed names (name_for o) (without_user k))
ids_no_user names o k = ids_changed names o (without_user k) (λ r e. refl)

released_in : (w : ℕ) (used : Bool) (x : Option Registered) → ids_in (option_map (released w used) x) ≡ ids_in x
released_in w used None = refl
released_in w used (Some r) = refl

pub ids_released : (names : Names) (w : ℕ) (used : Bool) → HaveSameIds names (all_released w used names)
ids_released names w used o = ap ids_in (found-released names w used (name_for o)) ∙ released_in w used (registered_at names (name_for o))

-- what is not built keeps its identifiers when it begins to go
unbuilt_ids : (st : NameState) (ids : List Vid) → ((w : ℕ) → st ≡ state.Building w → ⊥) → ids ≡ ids_by st ids
unbuilt_ids (state.Building w) ids h = absurd (h w refl)
unbuilt_ids _ ids h = refl

pub ids_going : (names : Names) (o : Owner) (w : ℕ) → IsUnbuilt names o → HaveSameIds names (changed names (name_for o) (begun_to_go w))
ids_going names o w unbuilt = ids_changed names o (begun_to_go w) (λ r e. unbuilt_ids r.state r.ids (λ v h. unbuilt v (ap state_in e ∙ h)))

-- what has no state has no identifiers
pub ids_absent : (names : Names) (o : Owner) → registered_at names (name_for o) ≡ None → ids_of names (name_for o) ≡ []
ids_absent names o e = ap ids_in e

-- and what is built has none
pub building_in : (x : Option Registered) (w : ℕ) → state_in x ≡ state.Building w → ids_in x ≡ []
building_in None w h = refl
building_in (Some r) w h = ap (λ z. ids_by z r.ids) h

pub ids_building : (names : Names) (o : Owner) (w : ℕ) → state_of names (name_for o) ≡ state.Building w → ids_of names (name_for o) ≡ []
ids_building names o w h = building_in (registered_at names (name_for o)) w h

-- a name that becomes live has the identifiers that it is given
live_in : (x : Option Registered) (ids : List Vid) → (state_in x ≡ state.Absent → ⊥) → ids_in (option_map (made_live ids) x) ≡ ids
live_in None ids h = absurd (h refl)
live_in (Some r) ids h = refl

pub ids_made : (names : Names) (o : Owner) (ids : List Vid) → (state_of names (name_for o) ≡ state.Absent → ⊥) → ids_of (changed names (name_for o) (made_live ids)) (name_for o) ≡ ids
ids_made names o ids h = ap ids_in (found_at names o (made_live ids)) ∙ live_in (registered_at names (name_for o)) ids h

pub ids_live : (names : Names) (o : Owner) (w : ℕ) (ids : List Vid) → state_of names (name_for o) ≡ state.Building w → ids_of (changed names (name_for o) (made_live ids)) (name_for o) ≡ ids
ids_live names o w ids h = ids_made names o ids (λ e. no_state w (sym e ∙ h))
  where
    no_state : (w : ℕ) → state.Absent ≡ state.Building w → ⊥
    no_state w h = cc
