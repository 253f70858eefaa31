-- after the last call of an apply the view stands for the chip
use Rattle.std.proofs.Common.{◌≡◌, ◌⊎◌, inl, inr, ℕ, ◌+◌, Bool, true, false, cond, List, [], ◌∷◌, map, Option, None, Some, refl, sym, ap, ◌∙◌, subst}
use Rattle.std.specs.BTreeMap.{insert_entry, is_at}
use Rattle.std.specs.List.{slice_get}
use Rattle.std.specs.Map.{lookup}
use Rattle.std.specs.Ordering.{nat_cmp}
use Rattle.std.proofs.lemmas.List.{append-nil}
use Rattle.sai_types.specs.declared.ids.Rid.{Rid}
use Rattle.sai_types.specs.declared.ids.Vid.{Vid}
use Rattle.sai_types.specs.declared.body.Entry.{Entry}
use Rattle.sai_types.specs.declared.body.Entry.TheVariants as entry
use Rattle.sai_types.specs.declared.body.Object.{Object}
use Rattle.sai_types.specs.declared.plan.Mode.{Mode}
use Rattle.sai_types.specs.declared.plan.Mode.TheVariants as mode
use Rattle.sai_types.specs.declared.plan.Plan.{Plan}
use Rattle.sai_types.specs.declared.plan.PlanCall.{PlanCall}
use Rattle.sai_types.specs.declared.plan.PlanId.TheVariants as plan_id
use Rattle.sai_types.specs.declared.thing.Thing.{Thing}
use Rattle.sai_types.specs.After.{after_calls, makes_id}
use Rattle.sai_types.specs.Alike.{IsIn}
use Rattle.sai_types.specs.Made.{made_after_all}
use Rattle.sai_types.specs.Names.{name_of}
use Rattle.sai_types.specs.Objects.{entry_cmp}
use Rattle.sai_types.proofs.Membership.{in-map}
use Rattle.chip_names.specs.Naming.{entries_of}
use Rattle.chip_layout.specs.Layout.{Has, Layout, has_number}
use Rattle.chip_layout.specs.Renamed.{body_renamed, call_renamed, entry_renamed}
use Rattle.plan_laws.specs.Applied.{nothing}
use Rattle.plan_laws.specs.Calls.{Resolves, plan_layout, resolve, viewed}
use Rattle.plan_laws.specs.Old.{old_layout}
use Rattle.plan_laws.proofs.Applied.{plan-comes, plan-safe}
use Rattle.plan_laws.proofs.Calling.{plan-called}
use Rattle.plan_laws.proofs.Cold.{half-room, halfway, makes-safe}
use Rattle.plan_laws.proofs.Running.{after-append, new-stand, stands-new}
use Rattle.view_match.specs.Pairs.{pairs_of}
use Rattle.apply_order.specs.Naming.{id_by, names_from}
use Rattle.asic_view.specs.View.{ViewObjects, entry_at, rid_at, shown_by, vid_cmp, with_tie}
use Rattle.syncd_core.specs.Begun.{objects_listed, tied_entries, tied_in, tied_objects, tied_pairs}
use Rattle.syncd_core.specs.Run.{made_by, tied_after, view_by}
use Rattle.syncd_core.specs.Synced.{tied_by}
use Rattle.syncd_core.specs.Tied.{rid_or_none, tie_of}
use Rattle.syncd_core.proofs.Ties.{tie_kept_through}
use Rattle.apply_laws.specs.Apply.{ComeToNextIds, IsPlannedFrom, calls_by, plan_calls}
use Rattle.apply_laws.specs.Viewed.{things_in}
use Rattle.apply_laws.proofs.Order.Applying.{applies-cold, cold-all, cold-making, cold_back, cold_front, cold_makes, hitless-calls, hitless_changes, is-cold, is-hitless}
use Rattle.apply_laws.proofs.Order.Ids.{hitless-named, named-has, one-named}
use Rattle.apply_laws.proofs.Order.Puts.{IsNamed, names-from}
use Rattle.apply_laws.proofs.Sync.InTime.{plan-in_time}
use Rattle.apply_laws.proofs.Sync.Numbered.{apply-by_ties, last_ties}
use Rattle.apply_laws.proofs.Sync.Standing.{stands-for-chip}
use Rattle.apply_laws.proofs.Sync.Started.{there-first}
use Rattle.apply_laws.proofs.Sync.Ties.{IsThere, objects-there, tied-apart, tied-same, vid-or}

-- ---- a new object is tied to its partner

module _ (old : List (Object Rid)) (objects : ViewObjects) (v : Vid) (r : Rid) where
  entries_tied : (os : ViewObjects) (e : Entry Rid) (f : Entry Vid) → IsThere os v → ((s : Rid) → e ≡ entry.Oid s → f ≡ entry.Oid v → s ≡ r) → (rid_at os v ≡ Some r) ⊎ ((e ≡ entry.Oid r) × (f ≡ entry.Oid v)) → rid_at (tied_entries os e f) v ≡ Some r
  entries_tied os (entry.Oid s) (entry.Oid w) there one h =
      elim (vid-or v w) [
        | inl same ↦ subst (λ z. rid_at (tied_entries os (entry.Oid s) (entry.Oid z)) v ≡ Some r) same (tied-same os v s there ∙ ap Some (one s refl (ap entry.Oid (sym same))))
        | inr apart ↦ elim h [
          | inl tied ↦ tied-apart os v w s apart ∙ tied
          | inr both ↦ let wrong = both.1 in absurd (apart (oids v w (sym wrong)))
        ]
      ]
    where
      oids : (a b : Vid) → entry.Oid a ≡ entry.Oid b → a ≡ b
      oids a b e = cc
  entries_tied os (entry.Oid s) (entry.Own w ip) there one (inl tied) = tied
  entries_tied os (entry.Oid s) (entry.Own w ip) there one (inr both) = let wrong = both.1 in absurd cc
  entries_tied os (entry.Oid s) (entry.Neigh w ip) there one (inl tied) = tied
  entries_tied os (entry.Oid s) (entry.Neigh w ip) there one (inr both) = let wrong = both.1 in absurd cc
  entries_tied os (entry.Oid s) (entry.Route w p) there one (inl tied) = tied
  entries_tied os (entry.Oid s) (entry.Route w p) there one (inr both) = let wrong = both.1 in absurd cc
  entries_tied os (entry.Own w ip) f there one (inl tied) = tied
  entries_tied os (entry.Own w ip) f there one (inr both) = let wrong = both.0 in absurd cc
  entries_tied os (entry.Neigh w ip) f there one (inl tied) = tied
  entries_tied os (entry.Neigh w ip) f there one (inr both) = let wrong = both.0 in absurd cc
  entries_tied os (entry.Route w p) f there one (inl tied) = tied
  entries_tied os (entry.Route w p) f there one (inr both) = let wrong = both.0 in absurd cc

  -- two objects of a pair with these identifiers
  abbrev AreBoth : Option (Object Rid) → Option (Object Vid) → Rid → Type 0
  AreBoth o n s = (a : Object Rid) × (b : Object Vid) × (o ≡ Some a) × (n ≡ Some b) × (a.entry ≡ entry.Oid s) × (b.entry ≡ entry.Oid v)

  objects_tied : (os : ViewObjects) (o : Option (Object Rid)) (n : Option (Object Vid)) → IsThere os v → ((s : Rid) → AreBoth o n s → s ≡ r) → (rid_at os v ≡ Some r) ⊎ AreBoth o n r → rid_at (tied_objects os o n) v ≡ Some r
  objects_tied os (Some a) (Some b) there one h =
      entries_tied os a.entry b.entry there (λ s x y. one s (a, b, refl, refl, x, y)) (elim h [
        | inl tied ↦ inl tied
        | inr both ↦
            let first : both.0 ≡ a = cc (both.2) in
            let second : both.1 ≡ b = cc (both.3) in
            inr (ap (λ (z : Object Rid). z.entry) (sym first) ∙ both.4, ap (λ (z : Object Vid). z.entry) (sym second) ∙ both.5)
      ])
  objects_tied os (Some a) None there one (inl tied) = tied
  objects_tied os (Some a) None there one (inr both) = let wrong = both.3 in absurd cc
  objects_tied os None n there one (inl tied) = tied
  objects_tied os None n there one (inr both) = let wrong = both.2 in absurd cc

  abbrev IsPairOf : ℕ × ℕ → Rid → Type 0
  IsPairOf p s = AreBoth (slice_get old p.0) (slice_get (objects_listed objects) p.1) s

  pub pairs-tied : (ps : List (ℕ × ℕ)) (os : ViewObjects) → IsThere os v → ((p : ℕ × ℕ) (s : Rid) → IsIn p ps → IsPairOf p s → s ≡ r) → (rid_at os v ≡ Some r) ⊎ ((p : ℕ × ℕ) × IsIn p ps × IsPairOf p r) → rid_at (tied_pairs os old (objects_listed objects) ps) v ≡ Some r
  pairs-tied [] os there one (inl tied) = tied
  pairs-tied [] os there one (inr h) = elim h.1 [ ]
  pairs-tied (p ∷ ps) os there one h =
      let o = slice_get old p.0 in
      let n = slice_get (objects_listed objects) p.1 in
      let there' = objects-there v os o n there in
      let rest = pairs-tied ps (tied_objects os o n) there' (λ q s i. one q s (inr i)) in
      let here = λ (x : (rid_at os v ≡ Some r) ⊎ AreBoth o n r). rest (inl (objects_tied os o n there (λ s. one p s (inl refl)) x)) in
      elim h [
        | inl tied ↦ here (inl tied)
        | inr x ↦ elim x.1 [
          | inl is ↦ here (inr (subst (λ q. IsPairOf q r) is x.2))
          | inr i ↦ rest (inr (x.0, i, x.2))
        ]
      ]

-- ---- ties change no object

module _ (f : Vid → Rid) where
  shown-tie : (os : ViewObjects) (v : Vid) (r : Rid) → shown_by f (with_tie os v r) ≡ shown_by f os
  shown-tie [] v r = refl
  shown-tie (y ∷ ys) v r = by (is_at (vid_cmp v) y.0) (shown-tie ys v r)
    where
      by : (b : Bool) → shown_by f (with_tie ys v r) ≡ shown_by f ys → shown_by f (cond b (y.0, record { body = y.1.body; rid = Some r }) y ∷ with_tie ys v r) ≡ shown_by f (y ∷ ys)
      by true rest = ap (λ os. insert_entry entry_cmp os (entry_renamed f (entry_at y.0 y.1.body)) (body_renamed f y.1.body)) rest
      by false rest = ap (λ os. insert_entry entry_cmp os (entry_renamed f (entry_at y.0 y.1.body)) (body_renamed f y.1.body)) rest

  shown-entries : (os : ViewObjects) (e : Entry Rid) (g : Entry Vid) → shown_by f (tied_entries os e g) ≡ shown_by f os
  shown-entries os (entry.Oid r) (entry.Oid v) = shown-tie os v r
  shown-entries os (entry.Oid r) (entry.Own w ip) = refl
  shown-entries os (entry.Oid r) (entry.Neigh w ip) = refl
  shown-entries os (entry.Oid r) (entry.Route w p) = refl
  shown-entries os (entry.Own w ip) g = refl
  shown-entries os (entry.Neigh w ip) g = refl
  shown-entries os (entry.Route w p) g = refl

  shown-objects : (os : ViewObjects) (o : Option (Object Rid)) (n : Option (Object Vid)) → shown_by f (tied_objects os o n) ≡ shown_by f os
  shown-objects os (Some a) (Some b) = shown-entries os a.entry b.entry
  shown-objects os (Some a) None = refl
  shown-objects os None n = refl

  shown-pairs : (old : List (Object Rid)) (new : List (Object Vid)) (ps : List (ℕ × ℕ)) (os : ViewObjects) → shown_by f (tied_pairs os old new ps) ≡ shown_by f os
  shown-pairs old new [] os = refl
  shown-pairs old new (p ∷ ps) os = shown-pairs old new ps (tied_objects os (slice_get old p.0) (slice_get new p.1)) ∙ shown-objects os (slice_get old p.0) (slice_get new p.1)

  shown-in : (m : Mode) (old : List (Object Rid)) (new : List (Object Vid)) (ps : List (ℕ × ℕ)) (os : ViewObjects) → shown_by f (tied_in m os old new ps) ≡ shown_by f os
  shown-in mode.Hitless old new ps os = shown-pairs old new ps os
  shown-in mode.Cold old new ps os = refl

  shown-call : (made : ℕ) (os : ViewObjects) (c : PlanCall) → shown_by f (view_by made os c) ≡ shown_by f os
  shown-call made os c = by (makes_id c.call) c.makes
    where
      by : (b : Bool) (o : Option Vid) → shown_by f (cond b (tied_by os o (record { 0 = made + 1 })) os) ≡ shown_by f os
      by true (Some v) = shown-tie os v (record { 0 = made + 1 })
      by true None = refl
      by false o = refl

  shown-after : (made : ℕ) (os : ViewObjects) (cs : List PlanCall) → shown_by f (tied_after made os cs) ≡ shown_by f os
  shown-after made os [] = refl
  shown-after made os (c ∷ cs) = shown-after (made_by made c) (view_by made os c) cs ∙ shown-call made os c

-- ---- the end

module _ {capacities : List ℕ} {made : ℕ} {old : List (Object Rid)} (objects : ViewObjects) {things : List (Vid × Thing)} {plan : Plan} (x : IsPlannedFrom capacities made old (objects_listed objects) things plan) (free : (v : Vid) → rid_at objects v ≡ None) where
  abbrev f : Vid → Rid
  f = tie_of (last_ties objects x free)

  numbered : ComeToNextIds (tie_of (last_ties objects x free)) made plan.calls
  numbered = (apply-by_ties objects x free).numbered

  pub in_view : (v : Vid) (u : Thing) → IsIn (v, u) things → IsIn u (things_in things)
  in_view v u i = in-map (λ (z : Vid × Thing). z.1) things (v, u) i

  -- a paired object is tied to its partner to the end
  partner_tied : plan.mode ≡ mode.Hitless → (v : Vid) (u : Thing) (r : Rid) → IsIn (v, u) things → has_number u ≡ true → IsNamed old (objects_listed objects) (pairs_of old (objects_listed objects)) v r → tie_of (last_ties objects x free) v ≡ r
  partner_tied e v u r i number y =
      let pairs = pairs_of old (objects_listed objects) in
      let first = pairs-tied old objects v r pairs objects (there-first old objects x.chip x.view v u i number) (λ p s k b. one-named old x.chip x.view v u s r (record { one = b.0; other = b.1; i = p.0; j = p.1; among = k; one_at = b.2; other_at = b.3; one_is = b.4; other_is = b.5 }) y i number) (inr ((y.i, y.j), y.among, (y.one, y.other, y.one_at, y.other_at, y.one_is, y.other_is))) in
      let begun = subst (λ m. rid_at (tied_in m objects old (objects_listed objects) pairs) v ≡ Some r) (sym e) first in
      ap rid_or_none (tie_kept_through made (tied_in plan.mode objects old (objects_listed objects) pairs) plan.calls v r (plan-in_time objects x free) begun)

  pub hitless_tied : plan.mode ≡ mode.Hitless → (L : Layout Rid) → Resolves (old_layout (entries_of old) (things_in things)) (viewed things) (tie_of (last_ties objects x free)) L → ((t : Thing) → IsIn t (things_in things) → (j : Rid) × L j t) → (v : Vid) (u : Thing) → IsIn (v, u) things → has_number u ≡ true → Has L (name_of u) (tie_of (last_ties objects x free) v)
  hitless_tied e L res all v u i number = by (lookup (is_at (nat_cmp v.0)) (names_from [] old (objects_listed objects) (pairs_of old (objects_listed objects)))) refl
    where
      by : (o : Option Rid) → lookup (is_at (nat_cmp v.0)) (names_from [] old (objects_listed objects) (pairs_of old (objects_listed objects))) ≡ o → Has L (name_of u) (tie_of (last_ties objects x free) v)
      by (Some r) h =
          let y = names-from old (objects_listed objects) (pairs_of old (objects_listed objects)) v r h in
          let has = named-has old x.chip x.view v u r y i number in
          let j = all u (in_view v u i) in
          subst (Has L (name_of u)) (sym (partner_tied e v u r i number y)) (res.old (name_of u) r has j.0 (u, j.1, refl))
      by None h =
          let named = hitless-named old x.chip x.view x.lanes v u i number in
          let fact : plan_layout (old_layout (entries_of old) (things_in things)) (viewed things) (plan_id.New v) u = subst (λ o. plan_layout (old_layout (entries_of old) (things_in things)) (viewed things) (id_by o v) u) h named in
          let j = all u (in_view v u i) in
          res.new v u i number fact.1 j.0 (u, j.1, refl)

  hitless_end : plan.mode ≡ mode.Hitless → shown_by (tie_of (last_ties objects x free)) objects ≡ after_calls made (entries_of old) (calls_by (tie_of (last_ties objects x free)) plan)
  hitless_end e =
      let planned = is-hitless x e in
      let ids = tie_of (last_ties objects x free) in
      let c = plan-comes planned (hitless_changes x e) [] (sym (append-nil (hitless_changes x e))) things ids (plan_calls plan) (hitless-calls x e ids numbered) in
      let all = new-stand (plan-safe planned) c.end.at in
      stands-for-chip ids old objects x.chip x.view c.end.layout (after_calls made (entries_of old) (calls_by ids plan)) c.end.at.laid c.end.at.whole (stands-new (plan-safe planned) c.end.at) all (hitless_tied e c.end.layout c.resolves all)

  cold_end : plan.mode ≡ mode.Cold → shown_by (tie_of (last_ties objects x free)) objects ≡ after_calls made (entries_of old) (calls_by (tie_of (last_ties objects x free)) plan)
  cold_end e =
      let ids = tie_of (last_ties objects x free) in
      let planned = is-cold x e in
      let front = map (call_renamed (resolve ids)) (map (λ (c : PlanCall). c.call) (cold_front x e)) in
      let back = map (call_renamed (resolve ids)) (map (λ (c : PlanCall). c.call) (cold_back x e)) in
      let a = applies-cold x e ids numbered in
      let c = plan-called nothing (viewed things) ids (makes-safe planned) (halfway planned front a.removing) capacities (half-room planned front a.removing) (cold_makes x e) [] (sym (append-nil (cold_makes x e))) (map (λ (c : PlanCall). c.call) (cold_back x e)) (cold-making x e ids numbered) in
      let all = new-stand (makes-safe planned) c.end.at in
      stands-for-chip ids old objects x.chip x.view c.end.layout (after_calls (made_after_all made front) (after_calls made (entries_of old) front) back) c.end.at.laid c.end.at.whole (stands-new (makes-safe planned) c.end.at) all (λ v u i number. let j = all u (in_view v u i) in c.resolves.new v u i number (λ r h. h.1) j.0 (u, j.1, refl))
      ∙ sym (after-append made (entries_of old) front back)
      ∙ ap (after_calls made (entries_of old)) (sym (cold-all x e ids numbered))

  pub view-stands : shown_by (tie_of (last_ties objects x free)) (last_ties objects x free) ≡ after_calls made (entries_of old) (calls_by (tie_of (last_ties objects x free)) plan)
  view-stands =
      let ids = tie_of (last_ties objects x free) in
      let pairs = pairs_of old (objects_listed objects) in
      shown-after ids made (tied_in plan.mode objects old (objects_listed objects) pairs) plan.calls ∙ shown-in ids plan.mode old (objects_listed objects) pairs objects ∙ by plan.mode refl
    where
      by : (m : Mode) → plan.mode ≡ m → shown_by (tie_of (last_ties objects x free)) objects ≡ after_calls made (entries_of old) (calls_by (tie_of (last_ties objects x free)) plan)
      by mode.Hitless e = hitless_end e
      by mode.Cold e = cold_end e
