-- each port keeps the lane by which it is named
use Rattle.std.proofs.Common.{◌≡◌, ℕ, ◌<◌, ◌==◌, Bool, true, false, ◌||◌, List, [], ◌∷◌, length, slice_index, Option, None, Some, option_map, refl, sym, ap, ◌∙◌, arith}
use Rattle.std.specs.List.{list_any}
use Rattle.std.proofs.lemmas.Bool.{eq-eqb}
use Rattle.sai_types.specs.declared.ids.Rid.{Rid}
use Rattle.sai_types.specs.declared.body.Attr.{Attr}
use Rattle.sai_types.specs.declared.body.Attr.TheVariants as attr
use Rattle.sai_types.specs.declared.body.Body.{Body}
use Rattle.sai_types.specs.declared.body.Body.TheVariants as body
use Rattle.sai_types.specs.declared.body.Call.{Call}
use Rattle.sai_types.specs.declared.body.Call.TheVariants as call
use Rattle.sai_types.specs.declared.body.Entry.{Entry}
use Rattle.sai_types.specs.After.{after_call, entry_of, with_attr}
use Rattle.sai_types.specs.Made.{AreSorted, HaveLanes, entry_named, has_first, same_entry}
use Rattle.sai_types.specs.Objects.{Objects, body_at}
use Rattle.sai_chip.specs.SimChip.{makes_first}

-- lanes of which there are some have the first
pub first-lane : (lanes : List ℕ) → 0 < length lanes → list_any (λ lane. lane == slice_index lanes 0) lanes ≡ true
first-lane [] some = absurd (omega (arith, some))
first-lane (l ∷ ls) some = ap (λ b. b || list_any (λ lane. lane == l) ls) (eq-eqb l l refl)

pub lanes-empty : HaveLanes []
lanes-empty = record { each = λ e b there. absurd cc }

first-with_attr : (b : Body Rid) (a : Attr Rid) → has_first (with_attr b a) ≡ has_first b
first-with_attr (body.Port lanes speed mtu up) (attr.Speed s) = refl
first-with_attr (body.Port lanes speed mtu up) (attr.Mtu m) = refl
first-with_attr (body.Port lanes speed mtu up) (attr.Up u) = refl
first-with_attr (body.VlanMember vlan bridge_port tagging) (attr.Tagging t) = refl
first-with_attr (body.Neighbor rif ip mac) (attr.Mac m) = refl
first-with_attr (body.Route vr prefix to) (attr.To t) = refl
first-with_attr b a = refl

module _ (made : (n : ℕ) (objects : Objects) (b : Body Rid) → body_at (after_call n objects (call.Create b)) (entry_of n b) ≡ Some b) (set : (n : ℕ) (objects : Objects) (e : Entry Rid) (a : Attr Rid) → body_at (after_call n objects (call.Set e a)) e ≡ option_map (λ b. with_attr b a) (body_at objects e)) (gone : (n : ℕ) (objects : Objects) (e : Entry Rid) → AreSorted objects → body_at (after_call n objects (call.Remove e)) e ≡ None) (n : ℕ) (objects : Objects) (sorted : AreSorted objects) (have : HaveLanes objects) where
  set_first : (e : Entry Rid) (a : Attr Rid) (o : Option (Body Rid)) (b : Body Rid) → body_at objects e ≡ o → option_map (λ b. with_attr b a) o ≡ Some b → has_first b ≡ true
  set_first e a None b there h = absurd cc
  set_first e a (Some d) b there h = let same : with_attr d a ≡ b = cc in ap has_first (sym same) ∙ first-with_attr d a ∙ have.each e d there

  named_first : (c : Call Rid) (b : Body Rid) → makes_first c ≡ true → body_at (after_call n objects c) (entry_named n c) ≡ Some b → has_first b ≡ true
  named_first (call.Create d) b first there = let is = made n objects d in let same : d ≡ b = cc in ap has_first (sym same) ∙ first
  named_first (call.Set e a) b first there = set_first e a (body_at objects e) b refl (sym (set n objects e a) ∙ there)
  named_first (call.Remove e) b first there = let none = gone n objects e sorted in absurd cc

  module _ (others : (n : ℕ) (objects : Objects) (c : Call Rid) (e : Entry Rid) → AreSorted objects → same_entry e (entry_named n c) ≡ false → body_at (after_call n objects c) e ≡ body_at objects e) (alike : (objects : Objects) (e f : Entry Rid) → same_entry e f ≡ true → body_at objects e ≡ body_at objects f) where
    by_entry : (t : Bool) (c : Call Rid) (e : Entry Rid) (b : Body Rid) → same_entry e (entry_named n c) ≡ t → makes_first c ≡ true → body_at (after_call n objects c) e ≡ Some b → has_first b ≡ true
    by_entry true c e b same first there = named_first c b first (sym (alike (after_call n objects c) e (entry_named n c) same) ∙ there)
    by_entry false c e b other first there = have.each e b (sym (others n objects c e sorted other) ∙ there)

    pub lanes-after : (c : Call Rid) → makes_first c ≡ true → HaveLanes (after_call n objects c)
    lanes-after c first = record { each = λ e b there. by_entry (same_entry e (entry_named n c)) c e b refl first there }
