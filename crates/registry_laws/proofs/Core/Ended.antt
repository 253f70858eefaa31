-- each object that stands keeps its identifier when an operation has ended
use Rattle.std.proofs.Common.{◌≡◌, ◌⊎◌, ◌∙◌, inl, inr, ℕ, cond, Option, None, Some, refl, sym, ap, subst}
use Rattle.std.specs.BTreeMap.{is_at}
use Rattle.std.specs.Map.{remove_entry}
use Rattle.table_schema.specs.Plan.{Ports}
use Rattle.table_schema.specs.declared.key.Key.{Key}
use Rattle.table_schema.specs.Fields.{HasRisingKeys}
use Rattle.sai_types.specs.declared.ids.Rid.{Rid}
use Rattle.sai_types.specs.declared.ids.Vid.{Vid}
use Rattle.sai_types.specs.declared.thing.Thing.{Thing}
use Rattle.sai_types.specs.Alike.{IsIn}
use Rattle.sai_types.specs.Names.{name_of}
use Rattle.switch_model.specs.Placed.{Placed as Row}
use Rattle.row_layout.specs.Rows as owner
use Rattle.switch_machine.specs.Consistent.{IsConsistent}
use Rattle.switch_machine.specs.Flights.{IsOwnedBy, Machine, own_of}
use Rattle.ref_counts.specs.declared.name.Name.TheVariants as name
use Rattle.ref_counts.specs.declared.name.NameState.{NameState}
use Rattle.ref_counts.specs.declared.name.NameState.TheVariants as state
use Rattle.ref_counts.specs.Registry.{Names, ids_of, is_retiring, registered_name_cmp, registered_at, state_in, state_of}
use Rattle.orch_flight.specs.Needing.{name_for}
use Rattle.registry_laws.specs.Ending.{ended_names, named_by, users_dropped, users_passed, MayEnd}
use Rattle.registry_laws.specs.Flown.{Flown}
use Rattle.registry_laws.specs.Known.{RowStands}
use Rattle.registry_laws.specs.Registers.{KnowsNames}
use Rattle.registry_laws.proofs.Fine.{AreFine, dropped_fine, released_fine}
use Rattle.registry_laws.proofs.Finding.{gone_at}
use Rattle.registry_laws.specs.Identified.{HaveSameIds, Identified}
use Rattle.registry_laws.proofs.Identifier.Starting.{ids_ended, ids_ended_off, ids_passed}
use Rattle.registry_laws.proofs.Identifier.Staying.{same_identified, vid_kept}

pub passed_rising : (names : Names) (w : ℕ) (k : Key) (old : Option Row) → AreFine names → HasRisingKeys registered_name_cmp (users_passed names w k old)
passed_rising names w k old fine = (released_fine w (users_dropped names k (named_by k old)) (dropped_fine k (named_by k old) names fine)).rising

module _ (plan : Ports) (t : Machine) (sound : IsConsistent plan t) (names : Names) (fine : AreFine names) (w : ℕ) (k : Key) (old : Option Row) where
  abbrev passed : Names
  passed = users_passed names w k old

  abbrev gone : Names
  gone = ended_names names w k old None

  passed_fine : AreFine passed
  passed_fine = released_fine w (users_dropped names k (named_by k old)) (dropped_fine k (named_by k old) names fine)

  -- of a key without a row nothing stands
  nothing_of : RowStands t k state.Absent → (i : Rid) (u : Thing) → IsIn (i, u) t.stands → IsOwnedBy plan (name_of u) (owner.OfRow k) → ⊥
  nothing_of x i u h own = elim (subst (λ z. IsIn u (own_of plan k z)) x.1 ((sound.rest k u x.0 own).0 (i, h))) [ ]

  -- the key's name is gone with its row, or was not to go
  absent_or : (st : NameState) → state_of passed (name.Row k) ≡ st → (registered_at gone (name.Row k) ≡ None) ⊎ HaveSameIds names gone
  absent_or (state.Retiring v) e = inl (gone_at passed (owner.OfRow k) v passed_fine.rising e)
  absent_or state.Absent e = inr (λ o. ap (λ st. ids_of (cond (is_retiring st) (remove_entry (is_at (registered_name_cmp (name.Row k))) passed) passed) (name_for o)) e ∙ ids_passed names w k old o)
  absent_or state.Live e = inr (λ o. ap (λ st. ids_of (cond (is_retiring st) (remove_entry (is_at (registered_name_cmp (name.Row k))) passed) passed) (name_for o)) e ∙ ids_passed names w k old o)
  absent_or (state.Building v) e = inr (λ o. ap (λ st. ids_of (cond (is_retiring st) (remove_entry (is_at (registered_name_cmp (name.Row k))) passed) passed) (name_for o)) e ∙ ids_passed names w k old o)

  module _ (rid : Vid → Option Rid) (flown : ℕ → Option Flown) (known : Identified plan names rid flown t.stands) where
    gone_identified : KnowsNames plan gone t → (registered_at gone (name.Row k) ≡ None) ⊎ HaveSameIds names gone → Identified plan gone rid flown t.stands
    gone_identified knows (inr same) = same_identified plan names rid flown t.stands known gone same
    gone_identified knows (inl absent) = record { each = λ i u h numbered. let x = known.each i u h numbered in (x.0, vid_kept plan names gone flown flown (λ v g at builds. at) (name_of u) x.0 (λ o of. ids_ended_off names w k old o (λ same. none i u h (of ∙ ap Some (sym same)))) x.1, x.2) }
      where
        none : (i : Rid) (u : Thing) → IsIn (i, u) t.stands → IsOwnedBy plan (name_of u) (owner.OfRow k) → ⊥
        none i u h own = nothing_of (subst (RowStands t k) (ap state_in absent) (knows.rows k).stands) i u h own

    pub ended_identified : (new : Option Row) → MayEnd names w k new → KnowsNames plan (ended_names names w k old new) t → Identified plan (ended_names names w k old new) rid flown t.stands
    ended_identified (Some r) may knows = same_identified plan names rid flown t.stands known (ended_names names w k old (Some r)) (ids_ended names w k old r may)
    ended_identified None may knows = gone_identified knows (absent_or (state_of passed (name.Row k)) refl)
