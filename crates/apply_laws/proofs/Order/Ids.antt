-- a plan names each new object by its partner's identifier, or where it has no partner by its own
use Rattle.std.proofs.Common.{◌≡◌, ℕ, true, false, Bool, List, [], Option, None, Some, refl, sym, ap, ◌∙◌, subst}
use Rattle.std.specs.BTreeMap.{is_at}
use Rattle.std.specs.List.{slice_get}
use Rattle.std.specs.Map.{lookup}
use Rattle.std.specs.Ordering.{nat_cmp}
use Rattle.std.proofs.lemmas.Option.{same_Some}
use Rattle.sai_types.specs.declared.ids.Rid.{Rid}
use Rattle.sai_types.specs.declared.ids.Vid.{Vid}
use Rattle.sai_types.specs.declared.body.Entry.{Entry}
use Rattle.sai_types.specs.declared.body.Entry.TheVariants as entry
use Rattle.sai_types.specs.declared.body.Object.{Object}
use Rattle.sai_types.specs.declared.plan.Mode.TheVariants as mode
use Rattle.sai_types.specs.declared.thing.Thing.{Thing}
use Rattle.sai_types.specs.Alike.{IsIn}
use Rattle.sai_types.specs.Names.{name_kind, name_of}
use Rattle.sai_types.specs.Objects.{Objects}
use Rattle.chip_names.specs.Naming.{entries_of}
use Rattle.chip_layout.specs.Bodies.{is_numbered}
use Rattle.chip_layout.specs.Layout.{Has, Layout, has_number}
use Rattle.chip_layout.proofs.Bodies.{entry-body}
use Rattle.plan_laws.specs.Applied.{IsListedChip, nothing}
use Rattle.plan_laws.specs.Calls.{plan_layout, viewed}
use Rattle.plan_laws.specs.Old.{old_layout}
use Rattle.plan_laws.proofs.Starting.{old-laid}
use Rattle.view_match.specs.Pairs.{pairs_of}
use Rattle.apply_order.specs.Naming.{id_by, names_from, new_id}
use Rattle.apply_laws.specs.Viewed.{HaveOneLanes, IsEntry, IsViewOf, things_in}
use Rattle.apply_laws.proofs.Order.Changes.{place_old}
use Rattle.apply_laws.proofs.Order.Partners.{in-place, place-in}
use Rattle.apply_laws.proofs.Order.Placed.{IsOldAt, matched, object-at, old-place, pair-at, thing-at}
use Rattle.apply_laws.proofs.Order.Puts.{IsNamed, names-from, names-to}

module _ {made : ℕ} (old : List (Object Rid)) {new : List (Object Vid)} {things : List (Vid × Thing)} (chip : IsListedChip made (entries_of old)) (view : IsViewOf things new) where
  abbrev O : Objects
  O = entries_of old

  abbrev N : List Thing
  N = things_in things

  abbrev start : Layout Rid
  start = old_layout O N

  abbrev pairs : List (ℕ × ℕ)
  pairs = pairs_of old new

  oids : {I : Type 0} (r s : I) → entry.Oid r ≡ entry.Oid s → r ≡ s
  oids r s e = cc

  numbered : (t u : Thing) → name_of t ≡ name_of u → has_number u ≡ true → has_number t ≡ true
  numbered t u e h = ap (λ k. is_numbered (name_kind k)) e ∙ h

  -- the identifier of an old object is that of its thing
  id-of : (i : ℕ) (o : Object Rid) (r : Rid) → slice_get old i ≡ Some o → o.entry ≡ entry.Oid r → (e : Entry Rid) (b : _) → (w : IsOldAt old chip view i e b) → has_number w.thing ≡ true → w.id ≡ r
  id-of i o r at is e b w h =
      let p = place_old old chip view mode.Hitless i e b w.at in
      let same : p.0 ≡ o = same_Some p.0 o (sym p.1 ∙ at) in
      let mine : e ≡ entry.Oid r = sym p.2 ∙ ap (λ (z : Object Rid). z.entry) same ∙ is in
      oids w.id r (sym (entry-body (Has start) w.id.0 w.thing b w.of h) ∙ sym w.entry ∙ mine)

  has_one : (w : Vid) (t : Thing) (f : Entry Vid) (v : Vid) → IsEntry w t f → f ≡ entry.Oid v → has_number t ≡ true
  has_one w t f v x is = by (has_number t) refl
    where
      by : (b : Bool) → has_number t ≡ b → b ≡ true
      by true e = refl
      by false e = absurd (x.none e v is)

  -- what a new identifier comes to has its name
  pub named-has : (v : Vid) (u : Thing) (r : Rid) → IsNamed old new pairs v r → IsIn (v, u) things → has_number u ≡ true → Has start (name_of u) r
  named-has v u r x there number =
      let n = object-at old chip view x.j x.other x.other_at in
      let p = pair-at old chip view x.i x.j x.among in
      let news : p.now ≡ n.0 = same_Some p.now n.0 (sym p.there ∙ n.1) in
      let e = has_one n.0.0 n.0.1 x.other.entry v n.3 x.other_is in
      let mine : v ≡ n.0.0 = oids v n.0.0 (sym x.other_is ∙ n.3.some e) in
      let same : u ≡ n.0.1 = view.ids v u n.0.1 there (subst (λ z. IsIn (z, n.0.1) things) (sym mine) (place-in things x.j n.0 n.1)) number e in
      let names : name_of p.was.thing ≡ name_of u = p.same ∙ ap (λ (z : Vid × Thing). name_of z.1) news ∙ ap name_of (sym same) in
      let id = id-of x.i x.one r x.one_at x.one_is p.entry p.body p.was (numbered p.was.thing u names number) in
      (p.was.thing, subst (λ z. start z p.was.thing) id p.was.stands, names)

  pub one-named : (v : Vid) (u : Thing) (r s : Rid) → IsNamed old new pairs v r → IsNamed old new pairs v s → IsIn (v, u) things → has_number u ≡ true → r ≡ s
  one-named v u r s x y there number =
      let a = named-has v u r x there number in
      let b = named-has v u s y there number in
      ((old-laid chip N).one r s a.0 b.0 a.1 b.1 (a.2 ∙ sym b.2)).0

  module _ (lanes : HaveOneLanes O N) where
    -- and where an old object has the name, it is named by it
    has-named : (v : Vid) (u : Thing) (r : Rid) → IsIn (v, u) things → has_number u ≡ true → Has start (name_of u) r → IsNamed old new pairs v r
    has-named v u r there number has =
        let w = old-place old chip view r has.0 has.1 in
        let k = in-place things (v, u) there in
        let n = thing-at old chip view k.0 (v, u) k.1 in
        let names : name_of w.was.thing ≡ name_of u = ap name_of w.thing ∙ has.2 in
        let o = place_old old chip view mode.Hitless w.place w.entry w.body w.was.at in
        record {
          one = o.0;
          other = n.0;
          i = w.place;
          j = k.0;
          among = matched old chip view lanes w.place k.0 w.entry w.body w.was (v, u) k.1 names;
          one_at = o.1;
          other_at = n.1;
          one_is = o.2 ∙ w.was.entry ∙ entry-body (Has start) w.was.id.0 w.was.thing w.body w.was.of (numbered w.was.thing u names number) ∙ ap entry.Oid w.id;
          other_is = n.3.some number;
        }

    pub hitless-named : (v : Vid) (u : Thing) → viewed things v u → has_number u ≡ true → plan_layout start (viewed things) (new_id (names_from [] old new pairs) v) u
    hitless-named v u there number = by (lookup (is_at (nat_cmp v.0)) (names_from [] old new pairs)) refl
      where
        by : (o : Option Rid) → lookup (is_at (nat_cmp v.0)) (names_from [] old new pairs) ≡ o → plan_layout start (viewed things) (id_by o v) u
        by (Some r) e = ((v, there), named-has v u r (names-from old new pairs v r e) there number)
        by None e = (
          there,
          λ r has.
              let x = has-named v u r there number has in
              let found = names-to old new pairs v r (λ s y. one-named v u s r y x there number) x in
              absurd cc,
        )

-- a cold plan names each new object by its own
pub cold-named : (things : List (Vid × Thing)) (v : Vid) (u : Thing) → viewed things v u → has_number u ≡ true → plan_layout nothing (viewed things) (new_id [] v) u
cold-named things v u there number = (there, λ r has. has.1)
