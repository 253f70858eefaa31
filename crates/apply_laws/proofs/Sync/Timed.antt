-- each step's calls are in time
use Rattle.std.proofs.Common.{◌≡◌, ◌⊎◌, inl, inr, ℕ, ◌+◌, ◌++◌, Bool, true, false, cond, List, [], ◌∷◌, map, Option, None, Some, refl, sym, ap, ◌∙◌, subst}
use Rattle.std.specs.BTreeMap.{is_at}
use Rattle.std.specs.List.{slice_get}
use Rattle.std.specs.Map.{lookup}
use Rattle.std.specs.Ordering.{nat_cmp}
use Rattle.std.proofs.lemmas.List.{append_assoc, map-append}
use Rattle.std.proofs.lemmas.Option.{same_Some}
use Rattle.sai_types.specs.declared.ids.Rid.{Rid}
use Rattle.sai_types.specs.declared.ids.Vid.{Vid}
use Rattle.sai_types.specs.declared.body.Body.{Body}
use Rattle.sai_types.specs.declared.body.Call.TheVariants as call
use Rattle.sai_types.specs.declared.body.Entry.{Entry}
use Rattle.sai_types.specs.declared.body.Entry.TheVariants as entry
use Rattle.sai_types.specs.declared.body.Object.{Object}
use Rattle.sai_types.specs.declared.plan.Mode.{Mode}
use Rattle.sai_types.specs.declared.plan.PlanCall.{PlanCall}
use Rattle.sai_types.specs.declared.plan.PlanId.TheVariants as plan_id
use Rattle.sai_types.specs.declared.thing.Thing.{Thing}
use Rattle.sai_types.specs.declared.thing.Thing.TheVariants as thing
use Rattle.sai_types.specs.After.{has_id, makes_id}
use Rattle.sai_types.specs.Alike.{IsIn}
use Rattle.sai_types.specs.Names.{ThingName, name_kind, name_of}
use Rattle.sai_types.proofs.Membership.{in-either, in-left, in-right}
use Rattle.chip_names.specs.Naming.{entries_of}
use Rattle.chip_layout.specs.Bodies.{IsAt, body_with, first_name, is_numbered, second_name}
use Rattle.chip_layout.specs.Layout.{Has, Layout, has_number}
use Rattle.chip_layout.specs.Renamed.{body_renamed}
use Rattle.chip_layout.proofs.Bodies.{first-numbered, first-refers, second-numbered, second-refers}
use Rattle.chip_layout.proofs.Shapes.{renamed_with}
use Rattle.plan_laws.specs.Applied.{IsListedChip}
use Rattle.plan_laws.specs.Calls.{old_entry, plan_layout, viewed}
use Rattle.plan_laws.specs.Old.{tag_of}
use Rattle.plan_laws.specs.Plans.{PlanChange, Make, Remove, Set, outcome, stands_after_all}
use Rattle.plan_laws.proofs.Allowed.{IsSafePlan, make-refers, set-refers}
use Rattle.plan_laws.proofs.Following.{HasNamed, before, done-in, due-in, origin}
use Rattle.asic_view.specs.View.{ViewObjects, rid_at, with_tie}
use Rattle.syncd_core.specs.Run.{AreInTime, HasComeToChip, IsUntied, NamesTied, made_by, view_by}
use Rattle.syncd_core.specs.Synced.{tied_by}
use Rattle.apply_order.specs.Attributes.{differing, set_call}
use Rattle.apply_order.specs.Calls.{both_calls, make_calls, made_id, remove_calls, step_calls, steps_calls}
use Rattle.apply_order.specs.Naming.{OldIds, id_by, new_id}
use Rattle.apply_order.specs.declared.ranks.Timed.{Timed}
use Rattle.apply_laws.specs.Viewed.{IsViewOf, things_in}
use Rattle.apply_laws.proofs.Order.Changes.{IsDueStep, IsMadeDue, IsSetDue, change_of, due-pair, name-is, new_thing, old_name, place_old, thing-is}
use Rattle.apply_laws.proofs.Order.Partners.{in-place, place-in}
use Rattle.apply_laws.proofs.Order.Placed.{new-in, new-place, pair-at}
use Rattle.apply_laws.proofs.Sync.Names.{AreAttrsTied, body-tied, differing-tied, remove-tied, sets-time}
use Rattle.apply_laws.proofs.Sync.Ties.{IsThere, there-kept, tied-apart, tied-kept, tied-same}

pub has_number_with : {I : Type 0} (t : Thing) (i j : I) → has_id (body_with t i j) ≡ has_number t
has_number_with (thing.Own v ip) i j = refl
has_number_with (thing.Neighbor h m) i j = refl
has_number_with (thing.Route v p g) i j = refl
has_number_with (thing.Port p) i j = refl
has_number_with _ i j = refl

-- the identifier that a call makes is that of its object
pub made-id : (f : Entry Vid) (v : Vid) → made_id f ≡ Some v → f ≡ entry.Oid v
made-id (entry.Oid w) v e = ap entry.Oid (same_Some w v e)
made-id (entry.Own w ip) v e = absurd cc
made-id (entry.Neigh r ip) v e = absurd cc
made-id (entry.Route w p) v e = absurd cc

apart_set : (t u : Thing) → Set t ≡ Make u → ⊥
apart_set t u e = cc

apart_remove : (k : ThingName) (u : Thing) → Remove k ≡ Make u → ⊥
apart_remove k u e = cc

one_made : (t u : Thing) → Make t ≡ Make u → t ≡ u
one_made t u e = cc

module _ (olds : List Thing) {made' : ℕ} (old : List (Object Rid)) {new : List (Object Vid)} {things : List (Vid × Thing)} (chip : IsListedChip made' (entries_of old)) (view : IsViewOf things new) (m : Mode) (names : OldIds) (start : Layout Rid) (named : (v : Vid) (u : Thing) → viewed things v u → has_number u ≡ true → plan_layout start (viewed things) (new_id names v) u) (stand : (u : Thing) → IsIn u olds → (r : Rid) × start r u) where
  abbrev N : List Thing
  N = things_in things

  abbrev change : Timed → PlanChange
  change t = change_of (new_thing things) (old_name (tag_of (entries_of old) N) (entries_of old)) t.step

  -- what is tied after these steps: what they made, and nothing else that no old thing has the name of
  pub record AreTied (front : List Timed) (V : ViewObjects) : Type 0 where
    pub there : (v : Vid) (u : Thing) → IsIn (v, u) things → has_number u ≡ true → IsThere V v
    pub tied : (v : Vid) (u : Thing) → IsIn (v, u) things → has_number u ≡ true → IsIn (Make u) (map change front) → (r : Rid) × (rid_at V v ≡ Some r)
    pub free : (v : Vid) (u : Thing) → IsIn (v, u) things → has_number u ≡ true → (IsIn (Make u) (map change front) → ⊥) → ((w : Thing) → IsIn w olds → name_of w ≡ name_of u → ⊥) → rid_at V v ≡ None

  one_thing : (v : Vid) (u : Thing) (j : ℕ) (x : Vid × Thing) → IsIn (v, u) things → slice_get things j ≡ Some x → name_of u ≡ name_of x.1 → (v, u) ≡ x
  one_thing v u j x i there same =
      let k = in-place things (v, u) i in
      let at = new-place old chip view k.0 j (v, u) x k.1 there same in
      same_Some (v, u) x (sym k.1 ∙ ap (slice_get things) at ∙ there)

  module _ {order : PlanChange → ℕ} (steps : List Timed) (safe : IsSafePlan order olds N (map change steps)) where
    module _ (front back : List Timed) (cut : steps ≡ front ++ back) where
      changes_cut : map change steps ≡ map change front ++ map change back
      changes_cut = ap (map change) cut ∙ map-append change front back

      -- what stands by then has come
      come : (V : ViewObjects) → AreTied front V → (k : ThingName) (i : Vid) → Has (viewed things) k i → is_numbered (name_kind k) ≡ true → HasNamed (stands_after_all (map change front) (λ u. IsIn u olds)) k → HasComeToChip V (new_id names i)
      come V tied k i has number standing = by (lookup (is_at (nat_cmp i.0)) names) refl
        where
          u : Thing
          u = has.0

          numbered : has_number has.0 ≡ true
          numbered = ap (λ z. is_numbered (name_kind z)) has.2 ∙ number

          by_old : (w : Thing) → IsIn w olds → name_of w ≡ k → plan_layout start (viewed things) (plan_id.New i) has.0 → ⊥
          by_old w h same fact = let s = stand w h in fact.1 s.0 (w, s.1, same ∙ sym has.2)

          by_change : (c : PlanChange) → IsIn c (map change front) → (w : Thing) → outcome c ≡ Some w → name_of w ≡ k → plan_layout start (viewed things) (plan_id.New i) has.0 → (r : Rid) × (rid_at V i ≡ Some r)
          by_change (Make t) h w is same fact =
              let t_is : t ≡ w = same_Some t w is in
              let new_one = (safe.is_plan.makes t (done-in safe.is_plan (map change front) (map change back) changes_cut (Make t) h)).0 in
              let k' = in-place things (i, has.0) has.1 in
              let u_in = new-in old chip view k'.0 (i, has.0) k'.1 in
              let u_is : t ≡ has.0 = safe.new_named.one t has.0 new_one u_in (ap name_of t_is ∙ same ∙ sym has.2) in
              tied.tied i has.0 has.1 numbered (subst (λ z. IsIn (Make z) (map change front)) u_is h)
          by_change (Set t) h w is same fact =
              let s = safe.is_plan.sets t (done-in safe.is_plan (map change front) (map change back) changes_cut (Set t) h) in
              absurd (by_old s.1 s.2 (s.3 ∙ ap name_of (same_Some t w is) ∙ same) fact)
          by_change (Remove l) h w is same fact = absurd cc

          by : (o : Option Rid) → lookup (is_at (nat_cmp i.0)) names ≡ o → HasComeToChip V (id_by o i)
          by (Some r) e = tt
          by None e =
              let fact : plan_layout start (viewed things) (plan_id.New i) has.0 = subst (λ o. plan_layout start (viewed things) (id_by o i) has.0) e (named i has.0 has.1 numbered) in
              elim (origin (map change front) (λ x. IsIn x olds) standing.0 standing.1) [
                | inl h ↦ absurd (by_old standing.0 h.0 standing.2 fact)
                | inr c ↦ by_change c.0 c.1 standing.0 c.2 standing.2 fact
              ]

      come_at : (V : ViewObjects) → AreTied front V → (o : Option ThingName) (i : Vid) → IsAt (Has (viewed things)) o i → ((k : ThingName) → o ≡ Some k → is_numbered (name_kind k) ≡ true) → ((k : ThingName) → o ≡ Some k → HasNamed (stands_after_all (map change front) (λ u. IsIn u olds)) k) → (k : ThingName) → o ≡ Some k → HasComeToChip V (new_id names i)
      come_at V tied None i at number standing k e = absurd cc
      come_at V tied (Some l) i at number standing k e = come V tied l i at (number l refl) (standing l refl)

      -- ---- what a step that makes an object leaves

      made_next : (V : ViewObjects) → AreTied front V → (t : Timed) (ts : List Timed) → back ≡ t ∷ ts → (d : IsMadeDue old chip view m t) → (r : Rid) → AreTied (front ++ t ∷ []) (cond (has_number d.x.1) (tied_by V (made_id d.n.entry) r) V)
      made_next V tied t ts is d r = by (has_number d.x.1) refl
        where
          change_is : change t ≡ Make d.x.1
          change_is = ap (change_of (new_thing things) (old_name (tag_of (entries_of old) N) (entries_of old))) d.step ∙ ap Make (thing-is old chip view m d.j d.x d.there)

          split : (u : Thing) → IsIn (Make u) (map change (front ++ t ∷ [])) → IsIn (Make u) (map change front) ⊎ (u ≡ d.x.1)
          split u i =
              elim (in-either (Make u) (map change front) (change t ∷ []) (subst (IsIn (Make u)) (map-append change front (t ∷ [])) i)) [
                | inl before ↦ inl before
                | inr here ↦ elim here [ inl same ↦ inr (one_made u d.x.1 (same ∙ change_is)) | inr none ↦ elim none [ ] ]
              ]

          join : (u : Thing) → IsIn (Make u) (map change front) ⊎ (u ≡ d.x.1) → IsIn (Make u) (map change (front ++ t ∷ []))
          join u (inl i) = subst (IsIn (Make u)) (sym (map-append change front (t ∷ []))) (in-left (Make u) (map change front) (change t ∷ []) i)
          join u (inr e) = subst (IsIn (Make u)) (sym (map-append change front (t ∷ []))) (in-right (Make u) (map change front) (change t ∷ []) (inl (ap Make e ∙ sym change_is)))

          by : (b : Bool) → has_number d.x.1 ≡ b → AreTied (front ++ t ∷ []) (cond b (tied_by V (made_id d.n.entry) r) V)
          by false e = record {
            there = tied.there;
            tied = λ v u i number h. elim (split u h) [
              | inl before ↦ tied.tied v u i number before
              | inr same ↦ absurd (never (sym number ∙ ap has_number same ∙ e))
            ];
            free = λ v u i number none apart. tied.free v u i number (λ h. none (join u (inl h))) apart;
          }
            where
              never : true ≡ false → ⊥
              never h = cc
          by true e =
              let made : made_id d.n.entry ≡ Some d.x.0 = ap made_id (d.entry.some e) in
              subst (λ o. AreTied (front ++ t ∷ []) (tied_by V o r)) (sym made) (record {
                there = λ v u i number. there-kept V v d.x.0 r (tied.there v u i number);
                tied = λ v u i number h. elim (split u h) [
                  | inl before ↦ let s = tied.tied v u i number before in tied-kept V v d.x.0 r s.0 (tied.there v u i number) s.1
                  | inr same ↦
                      let both = one_thing v u d.j d.x i d.there (ap name_of same) in
                      let mine : v ≡ d.x.0 = ap (λ (z : Vid × Thing). z.0) both in
                      (r, ap (λ z. rid_at (with_tie V z r) v) (sym mine) ∙ tied-same V v r (tied.there v u i number))
                ];
                free = λ v u i number none apart.
                    tied-apart V v d.x.0 r (λ same. none (join u (inr (view.ids v u d.x.1 i (subst (λ z. IsIn (z, d.x.1) things) (sym same) (place-in things d.j d.x d.there)) number e))))
                    ∙ tied.free v u i number (λ h. none (join u (inl h))) apart;
              })

      -- one that makes none leaves what is tied
      plain_next : (V : ViewObjects) → AreTied front V → (t : Timed) → ((u : Thing) → change t ≡ Make u → ⊥) → AreTied (front ++ t ∷ []) V
      plain_next V tied t none = record {
        there = tied.there;
        tied = λ v u i number h. tied.tied v u i number (back_in u h);
        free = λ v u i number not apart. tied.free v u i number (λ h. not (subst (IsIn (Make u)) (sym (map-append change front (t ∷ []))) (in-left (Make u) (map change front) (change t ∷ []) h))) apart;
      }
        where
          back_in : (u : Thing) → IsIn (Make u) (map change (front ++ t ∷ [])) → IsIn (Make u) (map change front)
          back_in u h =
              elim (in-either (Make u) (map change front) (change t ∷ []) (subst (IsIn (Make u)) (map-append change front (t ∷ [])) h)) [
                | inl before ↦ before
                | inr here ↦ elim here [ inl same ↦ absurd (none u (sym same)) | inr other ↦ elim other [ ] ]
              ]

      -- ---- what is due next

      module _ (t : Timed) (ts : List Timed) (is : back ≡ t ∷ ts) where
        next_cut : (c : PlanChange) → change t ≡ c → map change steps ≡ map change front ++ (c ∷ map change ts)
        next_cut c e = changes_cut ∙ ap (λ l. map change front ++ map change l) is ∙ ap (λ d. map change front ++ (d ∷ map change ts)) e

        made_is : (d : IsMadeDue old chip view m t) → change t ≡ Make d.x.1
        made_is d = ap (change_of (new_thing things) (old_name (tag_of (entries_of old) N) (entries_of old))) d.step ∙ ap Make (thing-is old chip view m d.j d.x d.there)

        set_is : (d : IsSetDue old chip view m t) → change t ≡ Set d.x.1
        set_is d = ap (change_of (new_thing things) (old_name (tag_of (entries_of old) N) (entries_of old))) d.step ∙ ap Set (thing-is old chip view m d.j d.x d.there)

        made_tied : (V : ViewObjects) → AreTied front V → (d : IsMadeDue old chip view m t) → NamesTied V (call.Create (body_renamed (new_id names) d.n.body))
        made_tied V tied d =
            let x = d.of in
            let standing = make-refers safe d.x.1 (map change front) (map change ts) (next_cut (Make d.x.1) (made_is d)) in
            body-tied V d.x.1 (new_id names x.first) (new_id names x.second) (body_renamed (new_id names) d.n.body) (ap (body_renamed (new_id names)) x.body_is ∙ renamed_with (new_id names) d.x.1 x.first x.second)
            (come_at V tied (first_name d.x.1) x.first x.first_at (first-numbered d.x.1) (λ k e. standing k (first-refers d.x.1 k e)))
            (come_at V tied (second_name d.x.1) x.second x.second_at (second-numbered d.x.1) (λ k e. standing k (second-refers d.x.1 k e)))

        untied : (V : ViewObjects) → AreTied front V → (d : IsMadeDue old chip view m t) → IsUntied V (made_id d.n.entry)
        untied V tied d = by (made_id d.n.entry) refl
          where
            numbered : (b : Bool) → has_number d.x.1 ≡ b → (v : Vid) → d.n.entry ≡ entry.Oid v → has_number d.x.1 ≡ true
            numbered true e v f = e
            numbered false e v f = absurd (d.entry.none e v f)

            oids : (v w : Vid) → entry.Oid v ≡ entry.Oid w → v ≡ w
            oids v w e = cc

            by : (o : Option Vid) → made_id d.n.entry ≡ o → IsUntied V o
            by None e = tt
            by (Some v) e =
                let f = made-id d.n.entry v e in
                let number = numbered (has_number d.x.1) refl v f in
                let mine : d.x.0 ≡ v = oids d.x.0 v (sym (d.entry.some number) ∙ f) in
                let made_in = due-in safe.is_plan (map change front) (Make d.x.1 ∷ map change ts) (next_cut (Make d.x.1) (made_is d)) (Make d.x.1) (inl refl) in
                subst (λ z. rid_at V z ≡ None) mine (tied.free d.x.0 d.x.1 (place-in things d.j d.x d.there) number (λ h. (before safe.is_plan (map change front) (Make d.x.1 ∷ map change ts) (next_cut (Make d.x.1) (made_is d)) (Make d.x.1) (Make d.x.1) h (inl refl)).1 refl) (safe.is_plan.makes d.x.1 made_in).1)

        set_tied : (V : ViewObjects) → AreTied front V → (d : IsSetDue old chip view m t) → (b : Body Rid) → AreAttrsTied V (differing names b d.n.body)
        set_tied V tied d b =
            let x = d.of in
            let standing = set-refers safe d.x.1 (map change front) (map change ts) (next_cut (Set d.x.1) (set_is d)) in
            subst (λ z. AreAttrsTied V (differing names b z)) (sym x.body_is)
            (differing-tied V names b d.x.1 x.first x.second (λ g n v p t_is e. come_at V tied (first_name d.x.1) x.first x.first_at (first-numbered d.x.1) (λ k f. standing k (first-refers d.x.1 k f)) n (ap first_name t_is ∙ e)))

    -- ---- all steps

    pub in-time : (back front : List Timed) (V : ViewObjects) (made : ℕ) → steps ≡ front ++ back → ((t : Timed) → IsIn t back → IsDueStep old chip view m t) → AreTied front V → AreInTime made V (steps_calls names old new back)
    in-time [] front V made cut due tied = tt
    in-time (t ∷ ts) front V made cut due tied =
        let next : steps ≡ (front ++ t ∷ []) ++ ts = cut ∙ sym (append_assoc front (t ∷ []) ts) in
        let later = λ (s : Timed) (i : IsIn s ts). due s (inr i) in
        elim (due t (inl refl)) [
          | inl d ↦
              let c : PlanCall = record { call = call.Create (body_renamed (new_id names) d.n.body); makes = made_id d.n.entry } in
              let call_is : step_calls names old new t.step ≡ c ∷ [] = ap (step_calls names old new) d.step ∙ ap (make_calls names) d.at in
              let numbered : makes_id c.call ≡ has_number d.x.1 = ap (λ b. has_id (body_renamed (new_id names) b)) d.of.body_is ∙ ap has_id (renamed_with (new_id names) d.x.1 d.of.first d.of.second) ∙ has_number_with d.x.1 (new_id names d.of.first) (new_id names d.of.second) in
              let tied' = made_next front (t ∷ ts) cut V tied t ts refl d (record { 0 = made + 1 }) in
              let rest = in-time ts (front ++ t ∷ []) (view_by made V c) (made_by made c) next later (subst (λ b. AreTied (front ++ t ∷ []) (cond b (tied_by V c.makes (record { 0 = made + 1 })) V)) (sym numbered) tied') in
              subst (λ cs. AreInTime made V (cs ++ steps_calls names old new ts)) (sym call_is) (made_tied front (t ∷ ts) cut t ts refl V tied d, untied front (t ∷ ts) cut t ts refl V tied d, rest)
          | inr r ↦ elim r [
            | inl d ↦
                let p = pair-at old chip view d.i d.j (due-pair old chip view m (d.i, d.j) d.pair) in
                let o = place_old old chip view m d.i p.entry p.body p.was.at in
                let call_is : step_calls names old new t.step ≡ map (set_call o.0.entry) (differing names o.0.body d.n.body) = ap (step_calls names old new) d.step ∙ ap (λ z. both_calls names z (slice_get new d.j)) o.1 ∙ ap (both_calls names (Some o.0)) d.at in
                let tied' = plain_next front (t ∷ ts) cut V tied t (λ u e. apart_set d.x.1 u (sym (set_is front (t ∷ ts) cut t ts refl d) ∙ e)) in
                let rest = in-time ts (front ++ t ∷ []) V made next later tied' in
                subst (λ cs. AreInTime made V (cs ++ steps_calls names old new ts)) (sym call_is) (sets-time V o.0.entry (differing names o.0.body d.n.body) (steps_calls names old new ts) made (set_tied front (t ∷ ts) cut t ts refl V tied d o.0.body) rest)
            | inr d ↦
                let c : PlanCall = record { call = call.Remove (old_entry d.o.entry); makes = None } in
                let call_is : step_calls names old new t.step ≡ c ∷ [] = ap (step_calls names old new) d.step ∙ ap remove_calls d.at in
                let change_is : change t ≡ Remove (name_of d.was.thing) = ap (change_of (new_thing things) (old_name (tag_of (entries_of old) N) (entries_of old))) d.step ∙ ap Remove (name-is old chip view m d.i d.o.entry d.o.body d.was) in
                let tied' = plain_next front (t ∷ ts) cut V tied t (λ u e. apart_remove (name_of d.was.thing) u (sym change_is ∙ e)) in
                let rest = in-time ts (front ++ t ∷ []) V made next later tied' in
                subst (λ cs. AreInTime made V (cs ++ steps_calls names old new ts)) (sym call_is) (remove-tied V d.o.entry, tt, rest)
          ]
        ]
