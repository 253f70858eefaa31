-- the name of a group has all of its identifiers, or none
use Rattle.std.proofs.Common.{◌≡◌, ◌⊎◌, ◌∷◌, ◌++◌, ◌∙◌, inl, inr, ℕ, suc, true, false, cond, List, [], length, Option, None, Some, refl, sym, ap, subst}
use Rattle.std.specs.BTreeMap.{is_at}
use Rattle.std.specs.Map.{remove_entry}
use Rattle.std.proofs.lemmas.List.{append-nil}
use Rattle.table_schema.specs.Fields.{HasRisingKeys}
use Rattle.table_schema.specs.declared.key.Key.{Key}
use Rattle.sai_types.specs.declared.weight.WHop.{WHop}
use Rattle.sai_types.specs.declared.ids.Vid.{Vid}
use Rattle.sai_types.specs.declared.thing.Thing.{Thing}
use Rattle.sai_types.specs.declared.thing.Thing.TheVariants as thing
use Rattle.sai_types.specs.Names as thing_name
use Rattle.switch_model.proofs.Members.{members_count}
use Rattle.switch_model.specs.Placed.{Placed as Row}
use Rattle.row_layout.specs.Operations.{Change, Make, Set, Take, make_all}
use Rattle.row_layout.specs.Rows as owner
use Rattle.row_layout.specs.Rows.{Owner}
use Rattle.row_layout.specs.Shared.{shared_things}
use Rattle.switch_machine.proofs.Splits.{IsSplit, owner_split}
use Rattle.ref_counts.specs.declared.name.Name.TheVariants as name
use Rattle.ref_counts.specs.declared.name.NameState.{NameState}
use Rattle.ref_counts.specs.declared.name.NameState.TheVariants as state
use Rattle.ref_counts.specs.Registered.{made_live}
use Rattle.ref_counts.specs.Registry.{Names, changed, gone_from, ids_in, ids_of, is_retiring, registered_name_cmp, state_of}
use Rattle.orch_flight.specs.Grouping.{GroupOperation, IsGroupTook, group_names_by, members_with_made}
use Rattle.orch_flight.specs.Operation.{Operation}
use Rattle.orch_flight.specs.Taking.{IsTook, MayTake, names_after, names_by}
use Rattle.registry_laws.specs.Ending.{ended_names, users_passed}
use Rattle.registry_laws.proofs.Finding.{gone_at, gone_off}
use Rattle.registry_laws.specs.Identified.{HasWholeGroups, HaveSameIds, IsPartlyBuilt}
use Rattle.registry_laws.proofs.Identifier.Changed.{made_off, made_owner}
use Rattle.registry_laws.proofs.Identifier.Ids.{ids_live, ids_off}
use Rattle.registry_laws.proofs.Identifier.Starting.{ids_left, ids_passed}
use Rattle.registry_laws.proofs.Identifier.Took.{live_after}
use Rattle.registry_laws.proofs.Ended.{own_ended_off}

-- the identifiers of a group are all of them, or none
abbrev IsWholeWith : List WHop → List Vid → Type 0
IsWholeWith hops ids = (ids ≡ []) ⊎ (length ids ≡ suc (length hops))

-- groups that have the identifiers that they had
whole_as : (names names' : Names) → HasWholeGroups names → ((hops : List WHop) → ids_of names' (name.Group hops) ≡ ids_of names (name.Group hops)) → HasWholeGroups names'
whole_as names names' whole same = record { each = λ hops. subst (IsWholeWith hops) (sym (same hops)) (whole.each hops) }

pub whole_same : (names names' : Names) → HaveSameIds names names' → HasWholeGroups names → HasWholeGroups names'
whole_same names names' same whole = whole_as names names' whole (λ hops. same (owner.Group hops))

pub whole_ended : (names : Names) (w : ℕ) (k : Key) (old new : Option Row) → HasWholeGroups names → HasWholeGroups (ended_names names w k old new)
whole_ended names w k old new whole = whole_as names (ended_names names w k old new) whole (λ hops. ap ids_in (own_ended_off (users_passed names w k old) k new (owner.Group hops) (λ e. cc)) ∙ ids_passed names w k old (owner.Group hops))

-- ---- a row's operation

no_made_group : (k : Key) (t : Thing) (hops : List WHop) → made_owner k t ≡ Some (owner.Group hops) → ⊥
no_made_group k (thing.BridgePort lane) hops e = cc
no_made_group k _ hops e = cc

after_ids : (names : Names) (k : Key) (c : Change) (made : Option Vid) (hops : List WHop) → ids_of (names_after names k c made) (name.Group hops) ≡ ids_of names (name.Group hops)
after_ids names k (Make t) made hops = made_off names k t made (owner.Group hops) (no_made_group k t hops)
after_ids names k (Set u) made hops = refl
after_ids names k (Take (thing_name.BridgePort lane)) made hops = ap ids_in (gone_off names (owner.Bridge lane) (owner.Group hops) (λ e. cc))
after_ids names k (Take (thing_name.Own v ip)) made hops = ap ids_in (gone_off names (owner.Own v ip) (owner.Group hops) (λ e. cc))
after_ids names k (Take n) made hops = refl

pub whole_took : (names names' : Names) (f f' : Operation) (made : Option Vid) → MayTake f made names → IsTook f made names f' names' → HasWholeGroups names → HasWholeGroups names'
whole_took names names' f f' made may took whole = subst HasWholeGroups (sym took.names_are) (by took.rest f.leaves refl)
  where
    later : Names
    later = names_after names f.key took.change made

    whole_later : HasWholeGroups later
    whole_later = whole_as names later whole (after_ids names f.key took.change made)

    by : (rest : List Change) (leaves : Option Owner) → f.leaves ≡ leaves → HasWholeGroups (names_by later f rest leaves)
    by [] (Some o) e = whole_same later (names_by later f [] (Some o)) (ids_left later f.worker f.key o (live_after names f.key took.change made o (may.leaves o e))) whole_later
    by [] None e = whole_later
    by (c ∷ cs) leaves e = whole_later

-- ---- a group's operation

none_due : (ts : List Thing) → make_all ts [] ≡ [] → ts ≡ []
none_due [] e = refl
none_due (t ∷ ts) e = absurd cc

-- nothing is due: all identifiers are made
whole_made : (g : GroupOperation) → IsPartlyBuilt g → g.due ≡ [] → length g.made ≡ suc (length g.hops)
whole_made g part none =
    let after = none_due part.after (sym part.due ∙ none) in
    let all : shared_things (owner.Group g.hops) ≡ part.before = part.things ∙ ap (λ l. part.before ++ l) after ∙ append-nil part.before in
    part.made ∙ ap length (sym all) ∙ ap suc (members_count g.hops g.hops)

module _ (names : Names) (g : GroupOperation) (made : Option Vid) (whole : HasWholeGroups names) where
  -- what becomes of the group's own name
  group_by_own : (names' : Names) → ((hops : List WHop) → (owner.Group g.hops ≡ owner.Group hops → ⊥) → ids_of names' (name.Group hops) ≡ ids_of names (name.Group hops)) → IsWholeWith g.hops (ids_of names' (name.Group g.hops)) → HasWholeGroups names'
  group_by_own names' off own = record { each = λ hops. by hops (owner_split (owner.Group g.hops) (owner.Group hops)) }
    where
      by : (hops : List WHop) → IsSplit (owner.Group g.hops) (owner.Group hops) → IsWholeWith hops (ids_of names' (name.Group hops))
      by hops (inl e) = let same : g.hops ≡ hops = cc in subst (λ z. IsWholeWith z (ids_of names' (name.Group z))) same own
      by hops (inr apart) = subst (IsWholeWith hops) (sym (off hops apart)) (whole.each hops)

  built_by : (w : ℕ) → state_of names (name.Group g.hops) ≡ state.Building w → length (members_with_made g made) ≡ suc (length g.hops) → HasWholeGroups (changed names (name.Group g.hops) (made_live (members_with_made g made)))
  built_by w state count = group_by_own (changed names (name.Group g.hops) (made_live (members_with_made g made))) (λ hops apart. ids_off names (owner.Group g.hops) (made_live (members_with_made g made)) (owner.Group hops) apart) (inr (ap length (ids_live names (owner.Group g.hops) w (members_with_made g made) state) ∙ count))

  pub whole_built : (names' : Names) (w : ℕ) (g' : GroupOperation) → g.builds ≡ true → state_of names (name.Group g.hops) ≡ state.Building w → IsPartlyBuilt g' → IsGroupTook g made names g' names' → HasWholeGroups names'
  whole_built names' w g' b state part took = subst HasWholeGroups (sym took.names_are) (by took.rest refl)
    where
      by : (rest : List Change) → took.rest ≡ rest → HasWholeGroups (group_names_by names g (members_with_made g made) rest)
      by [] e =
          let count = whole_made g' part (ap (λ (z : GroupOperation). z.due) took.operation ∙ e) in
          let same = ap (λ (z : GroupOperation). z.made) took.operation in
          let hops = ap (λ (z : GroupOperation). z.hops) took.operation in
          subst HasWholeGroups (sym (ap (λ z. cond z (changed names (name.Group g.hops) (made_live (members_with_made g made))) (gone_from names (name.Group g.hops))) b)) (built_by w state (sym (ap length same) ∙ count ∙ ap (λ z. suc (length z)) hops))
      by (c ∷ cs) e = whole

  gone_own : HasRisingKeys registered_name_cmp names → IsWholeWith g.hops (ids_of (gone_from names (name.Group g.hops)) (name.Group g.hops))
  gone_own rising = by (state_of names (name.Group g.hops)) refl
    where
      stays : (st : NameState) → state_of names (name.Group g.hops) ≡ st → is_retiring st ≡ false → IsWholeWith g.hops (ids_of (gone_from names (name.Group g.hops)) (name.Group g.hops))
      stays st e other = subst (λ z. IsWholeWith g.hops (ids_of z (name.Group g.hops))) (sym (ap (λ z. cond z (remove_entry (is_at (registered_name_cmp (name.Group g.hops))) names) names) (ap is_retiring e ∙ other))) (whole.each g.hops)

      by : (st : NameState) → state_of names (name.Group g.hops) ≡ st → IsWholeWith g.hops (ids_of (gone_from names (name.Group g.hops)) (name.Group g.hops))
      by (state.Retiring v) e = inl (ap ids_in (gone_at names (owner.Group g.hops) v rising e))
      by state.Absent e = stays state.Absent e refl
      by state.Live e = stays state.Live e refl
      by (state.Building v) e = stays (state.Building v) e refl

  pub whole_taken : (names' : Names) (g' : GroupOperation) → HasRisingKeys registered_name_cmp names → g.builds ≡ false → IsGroupTook g made names g' names' → HasWholeGroups names'
  whole_taken names' g' rising b took = subst HasWholeGroups (sym took.names_are) (by took.rest)
    where
      by : (rest : List Change) → HasWholeGroups (group_names_by names g (members_with_made g made) rest)
      by [] = subst HasWholeGroups (sym (ap (λ z. cond z (changed names (name.Group g.hops) (made_live (members_with_made g made))) (gone_from names (name.Group g.hops))) b)) (group_by_own (gone_from names (name.Group g.hops)) (λ hops apart. ap ids_in (gone_off names (owner.Group g.hops) (owner.Group hops) apart)) (gone_own rising))
      by (c ∷ cs) = whole
