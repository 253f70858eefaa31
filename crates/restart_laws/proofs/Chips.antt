-- a legal call of a planned body leaves what holds of every chip
use Rattle.std.proofs.Common.{◌≡◌, ◌⊎◌, ◌+◌, ◌≤◌, ◌<◌, ◌==◌, ◌∙◌, inl, inr, ℕ, Bool, true, false, cond, not, List, [], Option, None, Some, refl, sym, ap, subst, arith}
use Rattle.std.specs.Prelude.{nat_le, count_by}
use Rattle.std.specs.BTreeMap.{insert_entry, is_at}
use Rattle.std.specs.List.{list_any}
use Rattle.std.specs.Map.{remove_entry}
use Rattle.std.proofs.lemmas.Bool.{eqb-true, leb-false}
use Rattle.table_schema.specs.Plan.{Ports}
use Rattle.sai_types.specs.declared.ids.Rid.{Rid}
use Rattle.sai_types.specs.declared.answer.ChipAnswer.TheVariants.{BadReference, Exists, Full}
use Rattle.sai_types.specs.declared.kind.Kind.{Kind}
use Rattle.sai_types.specs.declared.body.Attr.{Attr}
use Rattle.sai_types.specs.declared.body.Attr.TheVariants as attr
use Rattle.sai_types.specs.declared.body.Body.{Body}
use Rattle.sai_types.specs.declared.body.Body.TheVariants as body
use Rattle.sai_types.specs.declared.body.Call.{Call}
use Rattle.sai_types.specs.declared.body.Call.TheVariants as call
use Rattle.sai_types.specs.declared.body.Entry.{Entry}
use Rattle.sai_types.specs.After.{after_call, after_set, entry_of, with_attr}
use Rattle.sai_types.specs.Made.{AreSorted, made_after, same_entry}
use Rattle.sai_types.specs.Objects.{Objects, body_at, entry_cmp, kind_of, level, used}
use Rattle.sai_types.specs.Refusal.{IsLegal, capacity_of, clash, create_refusal, first_refusal, refers_well, remove_refusal}
use Rattle.sai_types.proofs.Found.{body_at-insert, body_at-remove}
use Rattle.sai_types.proofs.Whole.{whole-after_call, whole-empty}
use Rattle.sai_types.proofs.Legal.{first_of-none}
use Rattle.switch_machine.proofs.Roomy.{used-made, used-set, used-taken}
use Rattle.restart_laws.specs.Chips.{IsPlannedChip, IsPlannedBody, IsPlannedCall}

put_or_found : (t : Bool) (b d : Body Rid) (rest : Option (Body Rid)) → cond t (Some b) rest ≡ Some d → (d ≡ b) ⊎ (rest ≡ Some d)
put_or_found true b d rest h = inl cc
put_or_found false b d rest h = inr h

was_before_removal : (t : Bool) (d : Body Rid) (rest : Option (Body Rid)) → cond t None rest ≡ Some d → rest ≡ Some d
was_before_removal true d rest h = cc
was_before_removal false d rest h = h

-- setting an attribute leaves what is planned
with_planned : (plan : Ports) (b : Body Rid) (a : Attr Rid) → IsPlannedBody plan b → IsPlannedBody plan (with_attr b a)
with_planned plan (body.Port lanes speed mtu up) (attr.Speed s) h = h
with_planned plan (body.Port lanes speed mtu up) (attr.Mtu s) h = h
with_planned plan (body.Port lanes speed mtu up) (attr.Up s) h = h
with_planned plan (body.VlanMember vlan bp tagging) (attr.Tagging t) h = h
with_planned plan (body.Neighbor rif ip mac) (attr.Mac m) h = h
with_planned plan (body.Route vr prefix to) (attr.To t) h = h
with_planned plan b _ h = h

-- where a create is legal there is room
room_of : (capacities : List ℕ) (objects : Objects) (b : Body Rid) → create_refusal capacities objects b ≡ None → used objects (kind_of b) < capacity_of capacities (kind_of b)
room_of capacities objects b h =
    let one = first_of-none (not (refers_well objects b)) BadReference (first_refusal (list_any (λ o. clash b o.1) objects) Exists (first_refusal (nat_le (capacity_of capacities (kind_of b)) (used objects (kind_of b))) Full None)) h in
    let two = first_of-none (list_any (λ o. clash b o.1) objects) Exists (first_refusal (nat_le (capacity_of capacities (kind_of b)) (used objects (kind_of b))) Full None) one.1 in
    leb-false _ _ (first_of-none (nat_le (capacity_of capacities (kind_of b)) (used objects (kind_of b))) Full None two.1).0

fits_made : (capacities : List ℕ) (objects : Objects) (b : Body Rid) (kind : Kind) (x : Bool) → (level (kind_of b) == level kind) ≡ x → used objects kind ≤ capacity_of capacities kind → used objects (kind_of b) < capacity_of capacities (kind_of b) → used objects kind + cond x 1 0 ≤ capacity_of capacities kind
fits_made capacities objects b kind false e fits room = omega (arith, fits)
fits_made capacities objects b kind true e fits room =
    let same : level (kind_of b) ≡ level kind = eqb-true (level (kind_of b)) (level kind) e in
    let many : used objects (kind_of b) ≡ used objects kind = ap (λ (l : ℕ). count_by (λ (o : Entry Rid × Body Rid). level (kind_of o.1) == l) objects) same in
    let cap : capacity_of capacities (kind_of b) ≡ capacity_of capacities kind = ap (λ (l : ℕ). Rattle.std.specs.Prelude.slice_index capacities l) same in
    omega (arith, many, cap, room)

module _ (plan : Ports) (capacities : List ℕ) (made : ℕ) (objects : Objects) (chip : IsPlannedChip plan capacities made objects) where
  sorted : AreSorted objects
  sorted = chip.whole.sorted

  planned_put : (e q : Entry Rid) (b d : Body Rid) → IsPlannedBody plan b → body_at (insert_entry entry_cmp objects e b) q ≡ Some d → IsPlannedBody plan d
  planned_put e q b d new h = by (put_or_found (same_entry q e) b d (body_at objects q) (sym (body_at-insert objects e b q) ∙ h))
    where
      by : (d ≡ b) ⊎ (body_at objects q ≡ Some d) → IsPlannedBody plan d
      by (inl same) = subst (IsPlannedBody plan) (sym same) new
      by (inr there) = chip.planned q d there

  planned_set : (e q : Entry Rid) (a : Attr Rid) (d : Body Rid) (o : Option (Body Rid)) → body_at objects e ≡ o → body_at (after_set objects e a o) q ≡ Some d → IsPlannedBody plan d
  planned_set e q a d None at h = chip.planned q d h
  planned_set e q a d (Some b) at h = planned_put e q (with_attr b a) d (with_planned plan b a (chip.planned e b at)) h

  planned_by : (c : Call Rid) → IsPlannedCall plan c → (q : Entry Rid) (d : Body Rid) → body_at (after_call (made + 1) objects c) q ≡ Some d → IsPlannedBody plan d
  planned_by (call.Create b) new q d h = planned_put (entry_of (made + 1) b) q b d new h
  planned_by (call.Set e a) new q d h = planned_set e q a d (body_at objects e) refl h
  planned_by (call.Remove e) new q d h = chip.planned q d (was_before_removal (same_entry e q) d (body_at objects q) (sym (body_at-remove objects e q sorted) ∙ h))

  fits_by : (c : Call Rid) → IsLegal capacities objects c → (kind : Kind) → used (after_call (made + 1) objects c) kind ≤ capacity_of capacities kind
  fits_by (call.Create b) legal kind =
      let most = used-made kind objects (made + 1) b sorted in
      let fits = fits_made capacities objects b kind (level (kind_of b) == level kind) refl (chip.fits kind) (room_of capacities objects b legal) in
      omega (arith, most, fits)
  fits_by (call.Set e a) legal kind =
      let most = used-set kind objects (made + 1) e a (body_at objects e) sorted refl in
      let fits = chip.fits kind in
      omega (arith, most, fits)
  fits_by (call.Remove e) legal kind = taken (body_at objects e) refl legal
    where
      taken : (o : Option (Body Rid)) → body_at objects e ≡ o → remove_refusal objects e o ≡ None → used (after_call (made + 1) objects (call.Remove e)) kind ≤ capacity_of capacities kind
      taken None at h = absurd cc
      taken (Some b) at h =
          let most = used-taken kind objects (made + 1) e b at in
          let fits = chip.fits kind in
          omega (arith, most, fits)

  pub chip-call : (c : Call Rid) → IsLegal capacities objects c → IsPlannedCall plan c → IsPlannedChip plan capacities (made_after made c) (after_call (made + 1) objects c)
  chip-call c legal new = record {
    whole = whole-after_call capacities made objects c chip.whole legal;
    planned = planned_by c new;
    fits = fits_by c legal;
  }

pub chip-empty : (plan : Ports) (capacities : List ℕ) → IsPlannedChip plan capacities 0 []
chip-empty plan capacities = record { whole = whole-empty; planned = λ e b h. absurd cc; fits = λ kind. omega arith }
