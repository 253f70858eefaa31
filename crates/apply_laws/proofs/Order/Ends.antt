-- what an apply does, hitless or cold
use Rattle.std.proofs.Common.{◌≡◌, ◌⊎◌, inl, inr, ℕ, suc, ◌+◌, ◌*◌, ◌≤◌, ◌++◌, List, [], ◌∷◌, length, map, refl, sym, ap, ◌∙◌, subst, arith}
use Rattle.std.proofs.lemmas.List.{append-nil, length-append}
use Rattle.sai_types.specs.declared.ids.Rid.{Rid}
use Rattle.sai_types.specs.declared.ids.Vid.{Vid}
use Rattle.sai_types.specs.declared.body.Body.{Body}
use Rattle.sai_types.specs.declared.body.Call.{Call}
use Rattle.sai_types.specs.declared.body.Entry.{Entry}
use Rattle.sai_types.specs.declared.body.Object.{Object}
use Rattle.sai_types.specs.declared.plan.Mode.{Mode}
use Rattle.sai_types.specs.declared.plan.Mode.TheVariants as mode
use Rattle.sai_types.specs.declared.plan.Plan.{Plan}
use Rattle.sai_types.specs.declared.plan.PlanCall.{PlanCall}
use Rattle.sai_types.specs.declared.thing.Thing.{Thing}
use Rattle.sai_types.specs.After.{after_calls}
use Rattle.sai_types.specs.Alike.{IsAlike, IsIn}
use Rattle.sai_types.specs.Made.{AreLegal, made_after_all}
use Rattle.sai_types.specs.Names.{name_of}
use Rattle.sai_types.specs.Objects.{Objects}
use Rattle.chip_names.specs.Naming.{entries_of}
use Rattle.chip_layout.specs.Layout.{Layout}
use Rattle.chip_layout.specs.Renamed.{call_renamed}
use Rattle.plan_laws.specs.Applied.{chip_things, nothing}
use Rattle.plan_laws.specs.Calls.{resolve, viewed}
use Rattle.plan_laws.specs.Old.{old_layout}
use Rattle.plan_laws.specs.Steady.{IsForwarding, IsHitless, IsOldOrNew, StaysNew}
use Rattle.plan_laws.proofs.Applied.{hitless-alike, hitless-end, hitless-kept, hitless-origin, hitless-steady}
use Rattle.plan_laws.proofs.Cold.{cold-alike, cold-legal}
use Rattle.plan_laws.proofs.Counts.{calls-few, old-few}
use Rattle.plan_laws.proofs.Routes.{cold-origin}
use Rattle.apply_laws.specs.Apply.{IsApply, calls_by}
use Rattle.apply_laws.specs.Viewed.{AreObjects, things_in}
use Rattle.apply_laws.proofs.Order.Applying.{applies-cold, applies-hitless, cold-all, cold_back, cold_front, cold_makes, cold_removes, hitless_changes}

length_map : {X Y : Type 0} (f : X → Y) (xs : List X) → length (map f xs) ≡ length xs
length_map f [] = refl
length_map f (x ∷ xs) = ap suc (length_map f xs)

same_length : (view : Layout Vid) (xs : List (Vid × Thing)) (os : List (Object Vid)) → AreObjects view xs os → length xs ≡ length os
same_length view [] [] h = refl
same_length view (x ∷ xs) (o ∷ os) h = ap suc (same_length view xs os h.2)
same_length view [] (o ∷ os) h = elim h [ ]
same_length view (x ∷ xs) [] h = elim h [ ]

hitless_or_cold : (m : Mode) → (m ≡ mode.Hitless) ⊎ (m ≡ mode.Cold)
hitless_or_cold mode.Hitless = inl refl
hitless_or_cold mode.Cold = inr refl

module _ {capacities : List ℕ} {made : ℕ} {old : List (Object Rid)} {new : List (Object Vid)} {things : List (Vid × Thing)} {plan : Plan} {ids : Vid → Rid} (x : IsApply capacities made old new things plan ids) where
  abbrev O : Objects
  O = entries_of old

  abbrev N : List Thing
  N = things_in things

  pub all-legal : AreLegal capacities made O (calls_by ids plan)
  all-legal =
      elim (hitless_or_cold plan.mode) [
        | inl e ↦ (hitless-end (applies-hitless x.of e ids x.numbered)).legal
        | inr e ↦ subst (AreLegal capacities made O) (sym (cold-all x.of e ids x.numbered)) (cold-legal (applies-cold x.of e ids x.numbered))
      ]

  pub all-alike : IsAlike (after_calls made O (calls_by ids plan)) (λ t. IsIn t N)
  all-alike =
      elim (hitless_or_cold plan.mode) [
        | inl e ↦ hitless-alike (applies-hitless x.of e ids x.numbered) refl
        | inr e ↦ subst (λ cs. IsAlike (after_calls made O cs) (λ t. IsIn t N)) (sym (cold-all x.of e ids x.numbered)) (cold-alike (applies-cold x.of e ids x.numbered))
      ]

  pub steady-decided : (front rest : List (Call Rid)) → plan.mode ≡ mode.Hitless → calls_by ids plan ≡ front ++ rest → IsOldOrNew (chip_things O) N (chip_things (after_calls made O front))
  steady-decided front rest e cut = (hitless-steady (applies-hitless x.of e ids x.numbered) front rest cut).0

  pub steady-forwarded : (front rest : List (Call Rid)) → plan.mode ≡ mode.Hitless → calls_by ids plan ≡ front ++ rest → IsHitless (chip_things O) N (chip_things (after_calls made O front))
  steady-forwarded front rest e cut = (hitless-steady (applies-hitless x.of e ids x.numbered) front rest cut).1

  pub steady-stays : (front more rest : List (Call Rid)) → plan.mode ≡ mode.Hitless → calls_by ids plan ≡ front ++ (more ++ rest) → StaysNew N (chip_things (after_calls made O front)) (chip_things (after_calls made O (front ++ more)))
  steady-stays front more rest e cut = hitless-kept (applies-hitless x.of e ids x.numbered) front more rest cut

  pub all-origin : (front rest : List (Call Rid)) (t : Thing) → calls_by ids plan ≡ front ++ rest → IsForwarding (name_of t) → IsIn t (chip_things (after_calls made O front)) → IsIn t (chip_things O) ⊎ IsIn t N
  all-origin front rest t cut fw i =
      elim (hitless_or_cold plan.mode) [
        | inl e ↦ hitless-origin (applies-hitless x.of e ids x.numbered) front rest cut t fw i
        | inr e ↦ cold-origin (applies-cold x.of e ids x.numbered) front rest (sym (cold-all x.of e ids x.numbered) ∙ cut) t fw i
      ]

  few_calls : length (calls_by ids plan) ≤ length O + 3 * length N
  few_calls =
      elim (hitless_or_cold plan.mode) [
        | inl e ↦
            let a = applies-hitless x.of e ids x.numbered in
            let few = calls-few a.planned.is_plan (hitless_changes x.of e) [] refl made (old_layout O N) (calls_by ids plan) a.run in
            let were = old-few O N in
            omega (arith, few, were)
        | inr e ↦
            let a = applies-cold x.of e ids x.numbered in
            let front = map (call_renamed (resolve ids)) (map (λ (c : PlanCall). c.call) (cold_front x.of e)) in
            let back = map (call_renamed (resolve ids)) (map (λ (c : PlanCall). c.call) (cold_back x.of e)) in
            let first = calls-few a.planned.removing (cold_removes x.of e) [] (sym (append-nil (cold_removes x.of e))) made (old_layout O N) front a.removing in
            let second = calls-few a.planned.making (cold_makes x.of e) [] (sym (append-nil (cold_makes x.of e))) (made_after_all made front) nothing back a.making in
            let were = old-few O N in
            let sum = ap length (cold-all x.of e ids x.numbered) ∙ length-append front back in
            omega (arith, first, second, were, sum)
      ]

  pub all-short : length plan.calls ≤ length old + 3 * length new
  all-short =
      let few = few_calls in
      let one = length_map (call_renamed (resolve ids)) (map (λ (c : PlanCall). c.call) plan.calls) in
      let two = length_map (λ (c : PlanCall). c.call) plan.calls in
      let item : Object Rid → Entry Rid × Body Rid = λ o. (o.entry, o.body) in
      let three = length_map item old in
      let four = length_map (λ (y : Vid × Thing). y.1) things in
      let five = same_length (viewed things) things new x.of.view.objects in
      omega (arith, few, one, two, three, four, five)
