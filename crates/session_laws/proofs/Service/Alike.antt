-- a plan to a view is one to any list of the same things
use Rattle.std.proofs.Common.{◌≡◌, ◌&&◌, ◌∙◌, inl, inr, ℕ, Bool, not, List, [], refl, sym, ap, subst}
use Rattle.std.specs.Cmp.{both_ways}
use Rattle.std.specs.List.{list_any}
use Rattle.std.proofs.Math.Path.{fun_ext}
use Rattle.sai_types.specs.declared.ids.Rid.{Rid}
use Rattle.sai_types.specs.declared.ids.Vid.{Vid}
use Rattle.sai_types.specs.declared.body.Call.{Call}
use Rattle.sai_types.specs.declared.body.Object.{Object}
use Rattle.sai_types.specs.declared.kind.Kind.{Kind}
use Rattle.sai_types.specs.declared.plan.Mode.{Mode}
use Rattle.sai_types.specs.declared.plan.Mode.TheVariants as mode
use Rattle.sai_types.specs.declared.plan.Plan.{Plan}
use Rattle.sai_types.specs.declared.thing.Thing.{Thing}
use Rattle.sai_types.specs.declared.thing.Thing.TheVariants as thing
use Rattle.sai_types.specs.Alike.{IsIn}
use Rattle.sai_types.specs.Names.{ThingName}
use Rattle.sai_types.specs.Objects.{Objects}
use Rattle.sai_types.specs.Refusal.{same_id}
use Rattle.chip_names.specs.Naming.{entries_of}
use Rattle.plan_laws.specs.Moments.{MakesChanges}
use Rattle.plan_laws.specs.Old.{chip_groups, is_double, is_group_of, old_things, seen_things, shown_hops, tag_for, tag_of}
use Rattle.plan_laws.specs.Plans.{PlanChange, IsViewPlan, cold_rank, hitless_rank}
use Rattle.plan_laws.specs.Views.{AreLacking, FitsHitless, SameRouters}
use Rattle.plan_laws.proofs.Doubles.{fits-shown, routers-shown, routers-shown-back, shown-lacking}
use Rattle.plan_laws.proofs.Lists.{any-in, in-any}
use Rattle.chip_layout.specs.Seen.{seen}
use Rattle.restart_laws.specs.Planned.{IsPlannedAs, PlansCold, PlansHitless}
use Rattle.apply_laws.specs.Apply.{ComeToNextIds, IsPlannedFrom, calls_by}
use Rattle.apply_laws.specs.Viewed.{things_in}
use Rattle.apply_laws.proofs.Order.Applying.{applies-cold, applies-hitless, cold-all, is-hitless, hitless_changes, cold_back, cold_front, cold_makes, cold_removes}
use Rattle.apply_laws.proofs.Order.Modes.{fits-told, routers-told, told-fits, told-routers}
use Rattle.plan_laws.specs.Calls.{resolve}
use Rattle.chip_layout.specs.Renamed.{call_renamed}
use Rattle.sai_types.specs.declared.plan.PlanCall.{PlanCall}
use Rattle.std.specs.Prelude.{map}

-- ---- lists of the same things

module _ (a b : List Thing) (into : (t : Thing) → IsIn t a → IsIn t b) (back : (t : Thing) → IsIn t b → IsIn t a) where
  any_alike : (p : Thing → Bool) → list_any p a ≡ list_any p b
  any_alike p =
      both_ways (list_any p a) (list_any p b)
      (λ h. let x = any-in p a h in in-any p b x.0 (into x.0 x.1) x.2)
      (λ h. let x = any-in p b h in in-any p a x.0 (back x.0 x.1) x.2)

  module _ (objects : Objects) where
    stays_alike : (g : Rid) → (list_any (same_id g) (chip_groups objects) && (list_any (is_group_of (shown_hops objects g)) a && not (is_double objects g))) ≡ (list_any (same_id g) (chip_groups objects) && (list_any (is_group_of (shown_hops objects g)) b && not (is_double objects g)))
    stays_alike g = ap (λ t. list_any (same_id g) (chip_groups objects) && (t && not (is_double objects g))) (any_alike (is_group_of (shown_hops objects g)))

    tags_alike : tag_of objects a ≡ tag_of objects b
    tags_alike = ap (λ k. tag_for k (shown_hops objects)) (fun_ext stays_alike)

    things_alike : old_things objects a ≡ old_things objects b
    things_alike = ap (λ tag. seen_things tag objects) tags_alike

  view_plan : (rank : PlanChange → ℕ) (old : List Thing) (plan : List PlanChange) → IsViewPlan rank old a plan → IsViewPlan rank old b plan
  view_plan rank old plan x = record {
    makes = λ t i. let m = x.makes t i in (into t m.0, m.1);
    sets = λ t i. let m = x.sets t i in (into t m.0, m.1, m.2, m.3);
    removes = λ k i. let m = x.removes k i in (m.0, m.1, m.2, λ t h. m.3 t (back t h));
    whole = λ t h. x.whole t (back t h);
    gone = λ u i. elim (x.gone u i) [ inl m ↦ inl (m.0, into m.0 m.1, m.2) | inr m ↦ inr m ];
    in_order = x.in_order;
  }

  lacking : (old : List Thing) (kind : Kind) (names : List ThingName) → AreLacking old b kind names → AreLacking old a kind names
  lacking old kind names x = record { distinct = x.distinct; each = λ k i. let m = x.each k i in (m.0, m.1, back m.1 m.2, m.3, m.4) }

  fits_alike : (capacities : List ℕ) (objects : Objects) (old : List Thing) → FitsHitless capacities objects old a → FitsHitless capacities objects old b
  fits_alike capacities objects old fits kind names x = fits kind names (lacking old kind names x)

  fits_back : (capacities : List ℕ) (objects : Objects) (old : List Thing) → FitsHitless capacities objects old b → FitsHitless capacities objects old a
  fits_back capacities objects old fits kind names x = fits kind names (record { distinct = x.distinct; each = λ k i. let m = x.each k i in (m.0, m.1, into m.1 m.2, m.3, m.4) })

  routers_alike : (old : List Thing) → SameRouters old a → SameRouters old b
  routers_alike old same on v w i j = same on v w i (back (thing.Rif on w) j)

  routers_back : (old : List Thing) → SameRouters old b → SameRouters old a
  routers_back old same on v w i j = same on v w i (into (thing.Rif on w) j)

  pub planned-alike : (m : Mode) (capacities : List ℕ) (made : ℕ) (objects : Objects) (calls : List (Call Rid)) → IsPlannedAs m capacities made objects a calls → IsPlannedAs m capacities made objects b calls
  planned-alike mode.Hitless capacities made objects calls x = record {
    steps = x.steps;
    fits = fits_alike capacities objects (old_things objects b) (subst (λ old. FitsHitless capacities objects old a) (things_alike objects) x.fits);
    routers = routers_alike (old_things objects b) (subst (λ old. SameRouters old a) (things_alike objects) x.routers);
    is_plan = view_plan hitless_rank (old_things objects b) x.steps (subst (λ old. IsViewPlan hitless_rank old a x.steps) (things_alike objects) x.is_plan);
    run = subst (λ tag. MakesChanges made (seen tag objects) x.steps calls) (tags_alike objects) x.run;
  }
  planned-alike mode.Cold capacities made objects calls x = record {
    removes = x.removes;
    makes = x.makes;
    front = x.front;
    rest = x.rest;
    lacks = λ fits routers.
        x.lacks (subst (λ old. FitsHitless capacities objects old a) (sym (things_alike objects)) (fits_back capacities objects (old_things objects b) fits))
        (subst (λ old. SameRouters old a) (sym (things_alike objects)) (routers_back (old_things objects b) routers));
    removing = subst (λ old. IsViewPlan cold_rank old [] x.removes) (things_alike objects) x.removing;
    making = view_plan cold_rank [] x.makes x.making;
    first = subst (λ tag. MakesChanges made (seen tag objects) x.removes x.front) (tags_alike objects) x.first;
    second = x.second;
    is = x.is;
  }

-- ---- what the planner gives

module _ {capacities : List ℕ} {made : ℕ} {old : List (Object Rid)} {new : List (Object Vid)} {things : List (Vid × Thing)} {plan : Plan} (x : IsPlannedFrom capacities made old new things plan) (ids : Vid → Rid) (numbered : ComeToNextIds ids made plan.calls) where
  hitless_planned : plan.mode ≡ mode.Hitless → PlansHitless capacities made (entries_of old) (things_in things) (calls_by ids plan)
  hitless_planned e = record {
    steps = hitless_changes x e;
    fits = fits-shown x.chip (things_in things) x.view.view capacities (fits-told old x.chip x.view x.lanes capacities (x.planned.mode.0 e).0);
    routers = routers-shown x.chip (things_in things) x.view.view (routers-told old x.chip x.view x.lanes (x.planned.mode.0 e).1);
    is_plan = (is-hitless x e).is_plan;
    run = (applies-hitless x e ids numbered).run;
  }

  cold_planned : plan.mode ≡ mode.Cold → PlansCold capacities made (entries_of old) (things_in things) (calls_by ids plan)
  cold_planned e =
      let a = applies-cold x e ids numbered in
      record {
        removes = cold_removes x e;
        makes = cold_makes x e;
        front = map (call_renamed (resolve ids)) (map (λ (c : PlanCall). c.call) (cold_front x e));
        rest = map (call_renamed (resolve ids)) (map (λ (c : PlanCall). c.call) (cold_back x e));
        lacks = λ fits routers.
            apart (x.planned.mode.1 (
              told-fits old x.chip x.view x.lanes capacities (λ kind names h. fits kind names (shown-lacking x.chip (things_in things) x.view.view kind names h)),
              told-routers old x.chip x.view x.lanes (routers-shown-back x.chip (things_in things) x.view.view routers),
            ));
        removing = a.planned.removing;
        making = a.planned.making;
        first = a.removing;
        second = a.making;
        is = cold-all x e ids numbered;
      }
    where
      apart : plan.mode ≡ mode.Hitless → ⊥
      apart h = let both : mode.Cold ≡ mode.Hitless = sym e ∙ h in cc

  pub planned-as : IsPlannedAs plan.mode capacities made (entries_of old) (things_in things) (calls_by ids plan)
  planned-as = by plan.mode refl
    where
      by : (m : Mode) → plan.mode ≡ m → IsPlannedAs m capacities made (entries_of old) (things_in things) (calls_by ids plan)
      by mode.Hitless e = hitless_planned e
      by mode.Cold e = cold_planned e
