-- the natural keys of objects that are laid out by whole groups are apart
use Rattle.std.proofs.Common.{◌≡◌, ◌∙◌, inl, inr, ℕ, [], ◌∷◌, map, Some, option_map, refl, sym, ap, subst, IsPermutation}
use Rattle.std.proofs.lemmas.Option.{same_Some}
use Rattle.sai_types.specs.declared.ids.Rid.{Rid}
use Rattle.sai_types.specs.declared.body.Body.{Body}
use Rattle.sai_types.specs.declared.body.Entry.{Entry}
use Rattle.sai_types.specs.declared.thing.Thing.{Thing}
use Rattle.sai_types.specs.After.{entry_of}
use Rattle.sai_types.specs.Alike.{IsIn}
use Rattle.sai_types.specs.Named.{thing_of, things_among, those}
use Rattle.sai_types.specs.Names.{name_of}
use Rattle.sai_types.specs.Objects.{Objects, body_at}
use Rattle.sai_types.proofs.Exact.{entry-exact}
use Rattle.sai_types.proofs.Listed.{object-of_thing}
use Rattle.sai_types.proofs.Membership.{in-map, map-in}
use Rattle.chip_layout.specs.Bodies.{IsBody}
use Rattle.chip_layout.specs.Counted.{AreDistinct}
use Rattle.chip_layout.specs.Grouped.{AreGrouped}
use Rattle.chip_layout.specs.Layout.{Has, IsLaidOut, Layout}
use Rattle.chip_layout.proofs.Answering.{those_in}
use Rattle.chip_layout.proofs.Entries.{same-entry}
use Rattle.chip_layout.proofs.Naming.{thing-laid}
use Rattle.plan_laws.specs.Applied.{IsListedChip}
use Rattle.view_match.specs.Keys.{natural_key_of, keys_of_objects}
use Rattle.apply_laws.proofs.Order.Partners.{key-name}
use Rattle.apply_laws.proofs.Order.Raw.{found-raw, thing-raw}

abbrev Item : Type 0
Item = Entry Rid × Body Rid

-- objects with entries of their own, of which no two have things of one key
keys_apart : (objects os : Objects) → AreDistinct (map (λ (o : Item). o.0) os) → ((o : Item) → IsIn o os → (t : Thing) × (thing_of objects o ≡ Some t)) → ((o p : Item) (t u : Thing) → IsIn o os → IsIn p os → thing_of objects o ≡ Some t → thing_of objects p ≡ Some u → natural_key_of t ≡ natural_key_of u → o.0 ≡ p.0) → AreDistinct (those (map (option_map natural_key_of) (things_among objects os)))
keys_apart objects [] once shows one = tt
keys_apart objects (o ∷ os) once shows one =
    let t = shows o (inl refl) in
    subst (λ z. AreDistinct (those (option_map natural_key_of z ∷ map (option_map natural_key_of) (things_among objects os)))) (sym t.1)
    (apart t.0 t.1, keys_apart objects os once.1 (λ p i. shows p (inr i)) (λ p q a b i j. one p q a b (inr i) (inr j)))
  where
    apart : (t : Thing) → thing_of objects o ≡ Some t → IsIn (natural_key_of t) (those (map (option_map natural_key_of) (things_among objects os))) → ⊥
    apart t is h =
        let m = map-in (option_map natural_key_of) (things_among objects os) (Some (natural_key_of t)) (those_in (natural_key_of t) (map (option_map natural_key_of) (things_among objects os)) h) in
        let p = object-of_thing objects os m.0 m.1 in
        let u = shows (p.0, p.1) (inr p.2) in
        let keys : natural_key_of t ≡ natural_key_of u.0 = same_Some (natural_key_of t) (natural_key_of u.0) (m.2 ∙ ap (option_map natural_key_of) (p.3 ∙ u.1)) in
        once.0 (subst (λ e. IsIn e (map (λ (z : Item). z.0) os)) (sym (one o (p.0, p.1) t u.0 (inl refl) (inr p.2) is u.1 keys)) (in-map (λ (z : Item). z.0) os (p.0, p.1) p.2))

-- the same objects in another order
module _ {made : ℕ} {S : Objects} (chip : IsListedChip made S) (R : Objects) (same : IsPermutation R S) (once : AreDistinct (map (λ (o : Item). o.0) R)) (L : Layout Rid) (laid : IsLaidOut L S) (grouped : AreGrouped L) where
  record IsThing (o : Item) : Type 0 where
    id : Rid
    thing : Thing
    layout : L id thing
    of : IsBody (Has L) thing o.1
    entry : o.0 ≡ entry_of id.0 o.1
    shows : thing_of S o ≡ Some thing

  owner : (e : Entry Rid) (b : Body Rid) → body_at S e ≡ Some b → IsThing (e, b)
  owner e b found =
      let x = laid.tied e b found in
      record { id = x.0; thing = x.1; layout = x.2; of = x.3; entry = entry-exact e (entry_of x.0.0 b) x.4; shows = thing-laid L S laid made chip.whole grouped x.0 x.1 e b x.2 x.3 x.4 }

  raw : (o : Item) → IsIn o R → IsThing o
  raw o i = owner o.0 o.1 (found-raw chip R same [] o.0 o.1 i)

  one_key : (o p : Item) (t u : Thing) → IsIn o R → IsIn p R → thing_of R o ≡ Some t → thing_of R p ≡ Some u → natural_key_of t ≡ natural_key_of u → o.0 ≡ p.0
  one_key o p t u i j a b keys =
      let x = raw o i in
      let y = raw p j in
      let t_is : t ≡ x.thing = same_Some t x.thing (sym a ∙ thing-raw chip R same [] o.0 o.1 ∙ x.shows) in
      let u_is : u ≡ y.thing = same_Some u y.thing (sym b ∙ thing-raw chip R same [] p.0 p.1 ∙ y.shows) in
      let names : name_of x.thing ≡ name_of y.thing = key-name x.thing y.thing (ap natural_key_of (sym t_is) ∙ keys ∙ ap natural_key_of u_is) in
      x.entry ∙ same-entry L S laid x.id y.id x.thing y.thing o.1 p.1 x.layout y.layout x.of y.of names ∙ sym y.entry

  pub natural-apart : AreDistinct (those (keys_of_objects R))
  natural-apart = keys_apart R R once (λ o i. let x = raw o i in (x.thing, thing-raw chip R same [] o.0 o.1 ∙ x.shows)) one_key
