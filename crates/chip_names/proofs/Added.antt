-- what is found where a body is added, if none with its identifier is there
use Rattle.std.proofs.Common.{◌≡◌, Bool, true, false, cond, List, Option, None, Some, refl, sym, ap, subst, ◌∙◌}
use Rattle.std.specs.BTreeMap.{insert_entry, is_at}
use Rattle.std.specs.Cmp.{eq_by_cmp_equiv}
use Rattle.std.specs.Map.{lookup}
use Rattle.std.specs.Option.{is_some, option_or}
use Rattle.swss_types.proofs.Maps.{lookup-insert_entry}
use Rattle.swss_types.proofs.Tied.{tied as equal_by}
use Rattle.sai_types.specs.declared.ids.Rid.{Rid}
use Rattle.sai_types.specs.declared.body.Body.{Body}
use Rattle.sai_types.specs.declared.body.Entry.TheVariants as entry
use Rattle.sai_types.specs.contracts.ids.RidOrd.TheImpl.Laws as rids
use Rattle.sai_types.specs.Objects.{body_at}
use Rattle.chip_names.specs.Naming.{numbered, rid_cmp}
use Rattle.chip_names.proofs.Ids.{at-numbered, rid_exact}

pub option_or-none : {X : Type 0} (o : Option X) → o ≡ option_or o None
option_or-none None = refl
option_or-none (Some y) = refl

option_or-there : {X : Type 0} (o : Option X) (x : X) → is_some o ≡ true → o ≡ option_or o (Some x)
option_or-there None x h = absurd cc
option_or-there (Some y) x h = refl

option_or-new : {X : Type 0} (o : Option X) (x : X) → is_some o ≡ false → Some x ≡ option_or o (Some x)
option_or-new None x h = refl
option_or-new (Some y) x h = absurd cc

module _ (ids : List (Rid × Body Rid)) (id : Rid) (b : Body Rid) where
  abbrev found : Rid → Option (Body Rid)
  found r = lookup (is_at (rid_cmp r)) ids

  there_at : is_some (found id) ≡ true → (r : Rid) (t : Bool) → is_at (rid_cmp id) r ≡ t → found r ≡ option_or (found r) (cond t (Some b) None)
  there_at there r true is = option_or-there (found r) b (subst (λ q. is_some (found q) ≡ true) (rid_exact id r (equal_by _ is)) there)
  there_at there r false is = option_or-none (found r)

  new_at : is_some (found id) ≡ false → (r : Rid) (t : Bool) → is_at (rid_cmp id) r ≡ t → cond t (Some b) (found r) ≡ option_or (found r) (cond t (Some b) None)
  new_at none r true is = option_or-new (found r) b (subst (λ q. is_some (found q) ≡ false) (rid_exact id r (equal_by _ is)) none)
  new_at none r false is = option_or-none (found r)

  numbered_or : (r : Rid) → option_or (found r) (cond (is_at (rid_cmp id) r) (Some b) None) ≡ option_or (body_at (numbered ids) (entry.Oid r)) (cond (is_at (rid_cmp id) r) (Some b) None)
  numbered_or r = ap (λ o. option_or o (cond (is_at (rid_cmp id) r) (Some b) None)) (sym (at-numbered ids r))

  -- one is there, and stays
  pub body-there : is_some (found id) ≡ true → (r : Rid) → body_at (numbered ids) (entry.Oid r) ≡ option_or (body_at (numbered ids) (entry.Oid r)) (cond (is_at (rid_cmp id) r) (Some b) None)
  body-there there r = at-numbered ids r ∙ there_at there r _ refl ∙ numbered_or r

  -- none is there
  pub body-new : is_some (found id) ≡ false → (r : Rid) → body_at (numbered (insert_entry rid_cmp ids id b)) (entry.Oid r) ≡ option_or (body_at (numbered ids) (entry.Oid r)) (cond (is_at (rid_cmp id) r) (Some b) None)
  body-new none r =
      at-numbered (insert_entry rid_cmp ids id b) r
      ∙ lookup-insert_entry rid_cmp rids.total-law ids id b r
      ∙ ap (λ t. cond t (Some b) (found r)) ((eq_by_cmp_equiv rids.total-law).symm r id)
      ∙ new_at none r _ refl
      ∙ numbered_or r
