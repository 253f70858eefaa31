-- how many objects of a kind stand on the chip of effects, where one legal effect more comes
use Rattle.std.proofs.Common.{◌≡◌, ℕ, ◌+◌, ◌-◌, ◌==◌, Bool, false, cond, List, [], ◌∷◌, ◌++◌, count_by, Option, Some, None, option_map, refl, ap, ◌∙◌}
use Rattle.sai_types.specs.declared.ids.Rid.{Rid}
use Rattle.sai_types.specs.declared.kind.Kind.{Kind}
use Rattle.sai_types.specs.declared.body.Attr.{Attr}
use Rattle.sai_types.specs.declared.body.Body.{Body}
use Rattle.sai_types.specs.declared.body.Call.{Call}
use Rattle.sai_types.specs.declared.body.Call.TheVariants as call
use Rattle.sai_types.specs.declared.body.Entry.{Entry}
use Rattle.sai_types.specs.After.{makes_id, next_id}
use Rattle.sai_types.specs.Made.{AreLegal, IsWhole}
use Rattle.sai_types.specs.Objects.{Objects, body_at, kind_of, level, used}
use Rattle.sai_types.specs.Refusal.{IsLegal, remove_refusal}
use Rattle.sai_types.proofs.Legal.{fresh, legal-create}
use Rattle.crm_counts.specs.Effects.{chip_of, kind_changed}
use Rattle.crm_counts.proofs.Chips.{chip_of-append, whole-behind}
use Rattle.crm_counts.proofs.Uses.{used-made, used-removed, used-set}

pub stood_by : (objects : Objects) (e : Entry Rid) (o : Option (Body Rid)) → remove_refusal objects e o ≡ None → (b : Body Rid) × (o ≡ Some b)
stood_by objects e None legal = absurd cc
stood_by objects e (Some b) legal = (b, refl)

-- whether this is the kind of the object that a call made or removed
abbrev pub is_touched : Option Kind → Kind → Bool
is_touched None k = false
is_touched (Some l) k = level l == level k

module _ (capacities : List ℕ) (effects : List (Call Rid)) (legal : AreLegal capacities 0 [] effects) where
  whole : IsWhole (count_by makes_id effects) (chip_of effects)
  whole = whole-behind capacities effects legal

  -- an object that is made counts for one more
  pub counted-made : (b : Body Rid) → IsLegal capacities (chip_of effects) (call.Create b) → (k : Kind) → used (chip_of (effects ++ call.Create b ∷ [])) k ≡ cond (level (kind_of b) == level k) (used (chip_of effects) (kind_of b) + 1) (used (chip_of effects) k)
  counted-made b next k =
      ap (λ objects. used objects k) (chip_of-append effects (call.Create b))
      ∙ used-made k (chip_of effects) (next_id effects) b whole.sorted (fresh (count_by makes_id effects) (chip_of effects) b whole.entered (legal-create capacities (chip_of effects) b next).1)

  -- one that is set for as many
  pub counted-set : (e : Entry Rid) (a : Attr Rid) (k : Kind) → used (chip_of (effects ++ call.Set e a ∷ [])) k ≡ used (chip_of effects) k
  counted-set e a k = ap (λ objects. used objects k) (chip_of-append effects (call.Set e a)) ∙ used-set k (chip_of effects) (next_id effects) e a whole.sorted

  module _ (e : Entry Rid) (next : IsLegal capacities (chip_of effects) (call.Remove e)) where
    -- the object that is removed
    abbrev pub stood : (b : Body Rid) × (body_at (chip_of effects) e ≡ Some b)
    stood = stood_by (chip_of effects) e (body_at (chip_of effects) e) next

    -- counts no longer
    pub counted-removed : (k : Kind) → used (chip_of (effects ++ call.Remove e ∷ [])) k ≡ cond (level (kind_of stood.0) == level k) (used (chip_of effects) (kind_of stood.0) - 1) (used (chip_of effects) k)
    counted-removed k =
        ap (λ objects. used objects k) (chip_of-append effects (call.Remove e))
        ∙ used-removed k (chip_of effects) (next_id effects) e stood.0 stood.1

  -- the other kinds keep their counts
  pub counted-others : (c : Call Rid) → IsLegal capacities (chip_of effects) c → (k : Kind) → is_touched (kind_changed (chip_of effects) c) k ≡ false → used (chip_of (effects ++ c ∷ [])) k ≡ used (chip_of effects) k
  counted-others (call.Create b) next k apart = counted-made b next k ∙ ap (λ t. cond t (used (chip_of effects) (kind_of b) + 1) (used (chip_of effects) k)) apart
  counted-others (call.Set e a) next k apart = counted-set e a k
  counted-others (call.Remove e) next k apart =
      let other = ap (λ o. is_touched (option_map kind_of o) k) (stood e next).1 in
      let same : (level (kind_of (stood e next).0) == level k) ≡ false = cc in
      counted-removed e next k ∙ ap (λ t. cond t (used (chip_of effects) (kind_of (stood e next).0) - 1) (used (chip_of effects) k)) same
