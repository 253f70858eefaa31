-- whether each interface stays in its virtual router, pair by pair
use Rattle.std.proofs.Common.{◌≡◌, ◌↔◌, ℕ, Bool, true, List, [], Option, None, Some, slice_get, refl, sym, ap₂, ◌∙◌, subst}
use Rattle.std.specs.List.{list_all}
use Rattle.sai_types.specs.declared.ids.Rid.{Rid}
use Rattle.sai_types.specs.declared.ids.Vid.{Vid}
use Rattle.sai_types.specs.declared.body.Object.{Object}
use Rattle.sai_types.specs.Alike.{IsIn}
use Rattle.apply_order.specs.Naming.{OldIds, names_from}
use Rattle.apply_order.specs.Routers.{KeepRouters, both_stay, pair_stays, stays_in_router}
use Rattle.apply_order.proofs.Members.{all-from, all-of}

module _ (old : List (Object Rid)) (new : List (Object Vid)) (pairs : List (ℕ × ℕ)) where
  -- the interfaces of the pairs stay, by these names
  abbrev Stay : OldIds → Type 0
  Stay names = (p : ℕ × ℕ) (o : Object Rid) (n : Object Vid) → IsIn p pairs → slice_get old p.0 ≡ Some o → slice_get new p.1 ≡ Some n → stays_in_router names o.body n.body ≡ true

  both-stay : (names : OldIds) (x : Option (Object Rid)) (y : Option (Object Vid)) → ((o : Object Rid) (n : Object Vid) → x ≡ Some o → y ≡ Some n → stays_in_router names o.body n.body ≡ true) → both_stay names x y ≡ true
  both-stay names (Some o) (Some n) h = h o n refl refl
  both-stay names (Some o) None h = refl
  both-stay names None y h = refl

  pub stay-each : (names : OldIds) (stay : Bool) → names ≡ names_from [] old new pairs → stay ≡ list_all (λ p. pair_stays names old new p) pairs → (stay ≡ true) ↔ KeepRouters old new pairs
  stay-each names stay named is = subst (λ ns. (stay ≡ true) ↔ Stay ns) named (
    λ h p o n i e f. sym (ap₂ (both_stay names) e f) ∙ all-of (λ q. pair_stays names old new q) pairs p (sym is ∙ h) i,
    λ h. is ∙ all-from (λ q. pair_stays names old new q) pairs (λ p i. both-stay names (slice_get old p.0) (slice_get new p.1) (λ o n e f. h p o n i e f)),
  )
