-- the rank of a step is that of its change
use Rattle.std.proofs.Common.{◌≡◌, refl, sym, ap, ◌∙◌, subst}
use Rattle.swss_types.specs.Address.{IsProperPrefix}
use Rattle.swss_types.specs.declared.address.Prefix.{Prefix}
use Rattle.swss_types.specs.declared.vrf.Vrf.{Vrf}
use Rattle.sai_types.specs.declared.thing.Goal.{Goal}
use Rattle.sai_types.specs.declared.body.Body.{Body}
use Rattle.sai_types.specs.declared.plan.Mode.TheVariants as mode
use Rattle.sai_types.specs.declared.thing.Thing.{Thing}
use Rattle.sai_types.specs.declared.thing.Thing.TheVariants as thing
use Rattle.sai_types.specs.Names.{ThingName, name_of}
use Rattle.chip_layout.specs.Bodies.{IsBody, body_with}
use Rattle.plan_laws.specs.Plans.{Make, Remove, Set, hitless_rank}
use Rattle.plan_laws.proofs.Deciders.{len_within}
use Rattle.apply_order.specs.Ranks.{make_rank, remove_rank, set_rank}
use Rattle.apply_laws.proofs.Order.Ranked.{IsHitlessRank, hitless_value}

-- the prefix of a route is proper
abbrev pub IsProperThing : Thing → Type 0
IsProperThing t = (v : Vrf) (p : Prefix) (g : Goal) → t ≡ thing.Route v p g → IsProperPrefix p

-- ---- a hitless plan

module _ {I : Type 0} where
  make_value : (t : Thing) (i j : I) → hitless_value (make_rank mode.Hitless (body_with t i j)) ≡ hitless_rank (Make t)
  make_value (thing.Route v p g) i j = refl
  make_value (thing.Port p) i j = refl
  make_value _ i j = refl

  set_value : (t : Thing) (i j : I) → hitless_value (set_rank (body_with t i j)) ≡ hitless_rank (Set t)
  set_value (thing.Route v p g) i j = refl
  set_value (thing.Port p) i j = refl
  set_value _ i j = refl

  remove_value : (t : Thing) (i j : I) → hitless_value (remove_rank mode.Hitless (body_with t i j)) ≡ hitless_rank (Remove (name_of t))
  remove_value (thing.Route v p g) i j = refl
  remove_value (thing.Port p) i j = refl
  remove_value _ i j = refl

  make_good : (t : Thing) (i j : I) → IsProperThing t → IsHitlessRank (make_rank mode.Hitless (body_with t i j))
  make_good (thing.Route v p g) i j proper = len_within p (proper v p g refl)
  make_good (thing.Port p) i j proper = tt
  make_good _ i j proper = tt

  set_good : (t : Thing) (i j : I) → IsHitlessRank (set_rank (body_with t i j))
  set_good (thing.Route v p g) i j = tt
  set_good (thing.Port p) i j = tt
  set_good _ i j = tt

  remove_good : (t : Thing) (i j : I) → IsProperThing t → IsHitlessRank (remove_rank mode.Hitless (body_with t i j))
  remove_good (thing.Route v p g) i j proper = len_within p (proper v p g refl)
  remove_good (thing.Port p) i j proper = tt
  remove_good _ i j proper = tt

  module _ (at : ThingName → I → Type 0) (t : Thing) (b : Body I) (x : IsBody at t b) where
    pub make-value : hitless_value (make_rank mode.Hitless b) ≡ hitless_rank (Make t)
    make-value = ap (λ z. hitless_value (make_rank mode.Hitless z)) x.body_is ∙ make_value t x.first x.second

    pub set-value : hitless_value (set_rank b) ≡ hitless_rank (Set t)
    set-value = ap (λ z. hitless_value (set_rank z)) x.body_is ∙ set_value t x.first x.second

    pub remove-value : hitless_value (remove_rank mode.Hitless b) ≡ hitless_rank (Remove (name_of t))
    remove-value = ap (λ z. hitless_value (remove_rank mode.Hitless z)) x.body_is ∙ remove_value t x.first x.second

    pub make-good : IsProperThing t → IsHitlessRank (make_rank mode.Hitless b)
    make-good proper = subst (λ z. IsHitlessRank (make_rank mode.Hitless z)) (sym x.body_is) (make_good t x.first x.second proper)

    pub set-good : IsHitlessRank (set_rank b)
    set-good = subst (λ z. IsHitlessRank (set_rank z)) (sym x.body_is) (set_good t x.first x.second)

    pub remove-good : IsProperThing t → IsHitlessRank (remove_rank mode.Hitless b)
    remove-good proper = subst (λ z. IsHitlessRank (remove_rank mode.Hitless z)) (sym x.body_is) (remove_good t x.first x.second proper)
