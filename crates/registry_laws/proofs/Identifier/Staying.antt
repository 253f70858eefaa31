-- each object that stands keeps its identifier
use Rattle.std.proofs.Common.{◌≡◌, ◌∙◌, inl, inr, ℕ, Bool, true, cond, List, [], Option, None, Some, refl, sym, ap, subst}
use Rattle.std.proofs.lemmas.Option.{same_Some}
use Rattle.table_schema.specs.Plan.{Ports}
use Rattle.sai_types.specs.declared.weight.WHop.{WHop}
use Rattle.sai_types.specs.declared.ids.Rid.{Rid}
use Rattle.sai_types.specs.declared.ids.Vid.{Vid}
use Rattle.sai_types.specs.declared.thing.Thing.{Thing}
use Rattle.sai_types.specs.Alike.{IsIn}
use Rattle.sai_types.specs.Names as thing_name
use Rattle.sai_types.specs.Names.{ThingName, name_of}
use Rattle.switch_model.specs.Placed.{Placed as Row}
use Rattle.row_layout.specs.Operations.{uses_of}
use Rattle.row_layout.specs.Rows as owner
use Rattle.row_layout.specs.Shared.{shared_things}
use Rattle.row_layout.specs.Rows.{Owner}
use Rattle.switch_machine.specs.Consistent.{IsConsistent}
use Rattle.switch_machine.specs.Flights.{MachineFlight, IsFinal, IsOwnedBy, Machine, Runs, StandsIn, own_of, put}
use Rattle.switch_machine.specs.Steps.{Ends}
use Rattle.switch_machine.proofs.Splits.{IsSplit, nat_split, put_at, put_off}
use Rattle.ref_counts.specs.declared.name.Name.TheVariants as name
use Rattle.ref_counts.specs.Registered.{first_of}
use Rattle.ref_counts.specs.Registry.{Names, ids_of}
use Rattle.orch_flight.specs.Calling.{member_vid, members_ids}
use Rattle.orch_flight.specs.Grouping.{GroupOperation, HasGroupVid, first_group, first_group_due, group_ids}
use Rattle.orch_flight.specs.Needing.{name_for}
use Rattle.registry_laws.specs.Ending.{ended_names, MayEnd}
use Rattle.registry_laws.specs.Flown.{Flown}
use Rattle.registry_laws.proofs.Listing.{not_some}
use Rattle.registry_laws.specs.Identified.{HaveSameIds, Identified, IsPartlyBuilt, IsUnderWay, IsVidOf, KeepsBuilds}
use Rattle.registry_laws.proofs.Identifier.Owning.{vid_same}
use Rattle.registry_laws.proofs.Identifier.Starting.{ids_ended, ids_ended_off}

-- ---- operations of groups

-- a worker's operation is put that builds the group that it built
pub puts_kept : (flown : ℕ → Option Flown) (w : ℕ) (y : Option Flown) → ((g : GroupOperation) → IsUnderWay flown w g → g.builds ≡ true → (x : Flown) × (y ≡ Some x) × (x.group ≡ Some g)) → KeepsBuilds flown (put w y flown)
puts_kept flown w y mine v g at builds = by (nat_split v w)
  where
    by : IsSplit v w → IsUnderWay (put w y flown) v g
    by (inl same) = let x = mine g (subst (λ z. IsUnderWay flown z g) same at) builds in (x.0, put_at w v y flown same ∙ x.1, x.2)
    by (inr apart) = (at.0, put_off w v y flown apart ∙ at.1, at.2)

pub group_made : (names : Names) (g : GroupOperation) → g.builds ≡ true → group_ids names g ≡ g.made
group_made names g builds = ap (λ b. cond b g.made (ids_of names (name.Group g.hops))) builds

-- ---- identifiers of names

module _ (plan : Ports) (names names' : Names) where
  -- of a group that is built they are its operation's
  pub built_kept : (g : GroupOperation) (n : ThingName) (v : Vid) → g.builds ≡ true → ((o : Owner) → IsOwnedBy plan n o → ids_of names' (name_for o) ≡ ids_of names (name_for o)) → HasGroupVid plan names g n v → HasGroupVid plan names' g n v
  built_kept g (thing_name.Group hops) v builds same x = (x.0, ap first_of (group_made names' g builds ∙ sym (group_made names g builds)) ∙ x.1)
  built_kept g (thing_name.GroupMember hops hop) v builds same x = (x.0, ap (λ z. member_vid hops hop (members_ids z)) (group_made names' g builds ∙ sym (group_made names g builds)) ∙ x.1)
  built_kept g n v builds same x = vid_same plan names names' n same ∙ x

  pub vid_kept : (flown flown' : ℕ → Option Flown) → KeepsBuilds flown flown' → (n : ThingName) (v : Vid) → ((o : Owner) → IsOwnedBy plan n o → ids_of names' (name_for o) ≡ ids_of names (name_for o)) → IsVidOf plan names flown n v → IsVidOf plan names' flown' n v
  vid_kept flown flown' builds n v same (inl x) = inl (vid_same plan names names' n same ∙ x)
  vid_kept flown flown' builds n v same (inr x) = inr (record { worker = x.worker; group = x.group; under_way = builds x.worker x.group x.under_way x.builds; builds = x.builds; of = built_kept x.group n v x.builds same x.of })

-- names that have their identifiers, or other operations that build the same groups
module _ (plan : Ports) (names : Names) (rid : Vid → Option Rid) (flown : ℕ → Option Flown) (stands : List (Rid × Thing)) (known : Identified plan names rid flown stands) where
  pub same_identified : (names' : Names) → HaveSameIds names names' → Identified plan names' rid flown stands
  same_identified names' same = record { each = λ i t h numbered. let x = known.each i t h numbered in (x.0, vid_kept plan names names' flown flown (λ w g at builds. at) (name_of t) x.0 (λ o of. same o) x.1, x.2) }

  pub flown_identified : (flown' : ℕ → Option Flown) → KeepsBuilds flown flown' → Identified plan names rid flown' stands
  flown_identified flown' builds = record { each = λ i t h numbered. let x = known.each i t h numbered in (x.0, vid_kept plan names names flown flown' builds (name_of t) x.0 (λ o of. refl) x.1, x.2) }

  -- the same things stand by other identifiers
  pub tied_identified : (rid' : Vid → Option Rid) (stands' : List (Rid × Thing)) → ((j : Rid) (t : Thing) → IsIn (j, t) stands' → (i : Rid) × IsIn (i, t) stands × ((v : Vid) → rid v ≡ Some i → rid' v ≡ Some j)) → Identified plan names rid' flown stands'
  tied_identified rid' stands' from = record { each = λ j t h numbered. let y = from j t h in let x = known.each y.0 t y.1 numbered in (x.0, x.1, y.2 x.0 x.2) }

  -- the operation of a group begins
  pub begun_identified : (w : ℕ) (x : Flown) → flown w ≡ Some x → x.group ≡ None → (g : GroupOperation) → Identified plan names rid (put w (Some (record { operation = x.operation; group = Some g })) flown) stands
  begun_identified w x here none g = flown_identified (put w (Some (record { operation = x.operation; group = Some g })) flown) (puts_kept flown w (Some (record { operation = x.operation; group = Some g })) (λ h at builds. no_group h at))
    where
      no_group : {X : Type 0} (h : GroupOperation) → IsUnderWay flown w h → X
      no_group h at = not_some h (sym none ∙ ap (λ (z : Flown). z.group) (same_Some x at.0 (sym here ∙ at.1)) ∙ at.2)

-- of which nothing is made
pub first_part : (plan : Ports) (w : ℕ) (hops : List WHop) (builds : Bool) → builds ≡ true → IsPartlyBuilt (first_group plan w hops builds)
first_part plan w hops builds e = record { before = []; after = shared_things (owner.Group hops); things = refl; made = refl; due = ap (first_group_due hops) e }

-- ---- an operation ends

module _ (plan : Ports) (m : Machine) (sound : IsConsistent plan m) (w : ℕ) (f : MachineFlight) (ends : Ends m w f) (names : Names) (rid : Vid → Option Rid) (flown : ℕ → Option Flown) (known : Identified plan names rid flown m.stands) where
  -- of a row that is gone nothing stands
  none_stands : f.new ≡ None → (i : Rid) (t : Thing) → IsIn (i, t) m.stands → IsOwnedBy plan (name_of t) (owner.OfRow f.key) → ⊥
  none_stands none i t h of = by ((subst (Runs plan f (StandsIn m)) ends.done (sound.runs w f ends.flying)) t (owner.OfRow f.key, of, inl refl)).0
    where
      by : (StandsIn m t → IsFinal plan f t) → ⊥
      by final = not_final (final (i, h))
        where
          not_final : IsFinal plan f t → ⊥
          not_final (inl x) = elim (subst (λ z. IsIn t (own_of plan f.key z)) none x) [ ]
          not_final (inr x) = elim (subst (λ z. IsIn x.0 (uses_of plan f.key z)) none x.1) [ ]

  pub ended_identified : (old : Option Row) (v : ℕ) → MayEnd names v f.key f.new → Identified plan (ended_names names v f.key old f.new) rid flown m.stands
  ended_identified old v may = by f.new refl
    where
      by : (x : Option Row) → f.new ≡ x → Identified plan (ended_names names v f.key old x) rid flown m.stands
      by (Some r) e = same_identified plan names rid flown m.stands known (ended_names names v f.key old (Some r)) (ids_ended names v f.key old r (subst (MayEnd names v f.key) e may))
      by None e = record { each = λ i t h numbered. let x = known.each i t h numbered in (x.0, vid_kept plan names (ended_names names v f.key old None) flown flown (λ w g at builds. at) (name_of t) x.0 (λ o of. ids_ended_off names v f.key old o (λ same. none_stands e i t h (of ∙ ap Some (sym same)))) x.1, x.2) }
