-- bodies that are found by their identifiers
use Rattle.std.proofs.Common.{◌≡◌, ℕ, false, cond, List, [], ◌∷◌, Some, refl, ap, rules}
use Rattle.std.specs.Ordering.{is_eq}
use Rattle.std.specs.BTreeMap.{is_at}
use Rattle.std.specs.Map.{lookup}
use Rattle.std.proofs.lemmas.Map.Lookups.{CmpEqualImpliesEq, exact_unsigned}
use Rattle.sai_types.specs.declared.ids.Rid.{Rid}
use Rattle.sai_types.specs.declared.body.Body.{Body}
use Rattle.sai_types.specs.declared.body.Entry.{Entry}
use Rattle.sai_types.specs.declared.body.Entry.TheVariants as entry
use Rattle.sai_types.specs.Objects.{body_at, entry_cmp}
use Rattle.sai_types.specs.Refusal.{same_id}
use Rattle.chip_names.specs.Naming.{numbered, rid_cmp}

pub rid_exact : CmpEqualImpliesEq rid_cmp
rid_exact x y h = let made : ℕ → Rid = λ n. record { 0 = n } in ap made (exact_unsigned x.0 y.0 h)

pub rid_tied : (a b : Rid) → same_id b a ≡ is_eq (rid_cmp a b)
rid_tied a b = search rules

-- bodies with identifiers alone
pub at-numbered : (ids : List (Rid × Body Rid)) (r : Rid) → body_at (numbered ids) (entry.Oid r) ≡ lookup (is_at (rid_cmp r)) ids
at-numbered [] r = refl
at-numbered (e ∷ ids) r = ap (cond (is_at (rid_cmp r) e.0) (Some e.1)) (at-numbered ids r)

pub not_oid : (e : Entry Rid) → ((r : Rid) → e ≡ entry.Oid r → ⊥) → (r : Rid) → is_at (entry_cmp e) (entry.Oid r) ≡ false
not_oid (entry.Oid s) not r = absurd (not s refl)
not_oid (entry.Own v ip) not r = refl
not_oid (entry.Neigh s ip) not r = refl
not_oid (entry.Route v p) not r = refl
