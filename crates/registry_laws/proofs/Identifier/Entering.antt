-- what a call makes has an identifier where its thing has one; what it removes by an identifier has that one
use Rattle.std.proofs.Common.{◌≡◌, ◌∙◌, true, List, refl, sym, ap, subst}
use Rattle.sai_types.specs.declared.ids.Vid.{Vid}
use Rattle.sai_types.specs.declared.body.Body.{Body}
use Rattle.sai_types.specs.declared.body.Call.{Call}
use Rattle.sai_types.specs.declared.body.Call.TheVariants as call
use Rattle.sai_types.specs.declared.body.Entry.{Entry}
use Rattle.sai_types.specs.declared.body.Entry.TheVariants as entry
use Rattle.sai_types.specs.declared.thing.Thing.{Thing}
use Rattle.sai_types.specs.declared.thing.Thing.TheVariants as thing
use Rattle.sai_types.specs.After.{has_id}
use Rattle.sai_types.specs.Names.{ThingName, name_of}
use Rattle.chip_layout.specs.Bodies.{body_with}
use Rattle.chip_layout.specs.Layout.{has_number}
use Rattle.orch_flight.specs.Calling.{IsMaking, IsTaking, entry_by}

number_with : (t : Thing) (i j : Vid) → has_id (body_with t i j) ≡ has_number t
number_with (thing.Port p) i j = refl
number_with _ i j = refl

created_bodies : (a b : Body Vid) → call.Create a ≡ call.Create b → a ≡ b
created_bodies a b e = cc

removed_entries : (a b : Entry Vid) → call.Remove a ≡ call.Remove b → a ≡ b
removed_entries a b e = cc

entry_by_with : (t : Thing) (v i j u : Vid) → entry_by v (body_with t i j) ≡ entry.Oid u → (has_number t ≡ true) × (v ≡ u)
entry_by_with (thing.Own w ip) v i j u e = absurd cc
entry_by_with (thing.Neighbor hop mac) v i j u e = absurd cc
entry_by_with (thing.Route w prefix goal) v i j u e = absurd cc
entry_by_with _ v i j u e = let same : v ≡ u = cc in (refl, same)

module _ (at : ThingName → Vid → Type 0) where
  pub made_number : (t : Thing) (c : Call Vid) (b : Body Vid) → IsMaking at t c → c ≡ call.Create b → has_id b ≡ has_number t
  made_number t c b x e = ap has_id (created_bodies b x.body (sym e ∙ x.is) ∙ x.of.body_is) ∙ number_with t x.of.first x.of.second

  pub taken_entry : (things : List Thing) (n : ThingName) (c : Call Vid) (v : Vid) → IsTaking at things n c → c ≡ call.Remove (entry.Oid v) → at n v
  taken_entry things n c v x e =
      let same = sym (x.of.is ∙ ap (entry_by x.of.id) x.of.of.body_is) ∙ removed_entries x.entry (entry.Oid v) (sym x.is ∙ e) in
      let y = entry_by_with x.old x.of.id x.of.of.first x.of.of.second v same in
      subst (λ z. at z v) x.same (subst (at (name_of x.old)) y.1 (x.of.numbered y.0))
