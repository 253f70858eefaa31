-- as many objects of each kind stand in a view as on the chip
use Rattle.std.proofs.Common.{◌≡◌, ℕ, ◌+◌, ◌==◌, cond, [], ◌∷◌, map, None, option_map, refl, sym, ap, ◌∙◌, arith}
use Rattle.std.specs.BTreeMap.{is_at}
use Rattle.std.specs.List.{sum_by}
use Rattle.std.specs.Map.{lookup, values_of}
use Rattle.std.specs.Option.{unwrap_or}
use Rattle.std.proofs.lemmas.List.Sums.{sum_by-cons}
use Rattle.std.proofs.lemmas.Map.Entries.{sum_by-insert_entry}
use Rattle.sai_types.specs.declared.ids.Rid.{Rid}
use Rattle.sai_types.specs.declared.ids.Vid.{Vid}
use Rattle.sai_types.specs.declared.kind.Kind.{Kind}
use Rattle.sai_types.specs.declared.body.Body.{Body}
use Rattle.sai_types.specs.declared.body.Body.TheVariants as body
use Rattle.sai_types.specs.declared.body.Entry.{Entry}
use Rattle.sai_types.specs.Objects.{Objects, entry_cmp, is_of, kind_of, level, used}
use Rattle.sai_types.proofs.Entries.{entry_total}
use Rattle.chip_layout.specs.Counted.{AreDistinct}
use Rattle.chip_layout.specs.Renamed.{body_renamed}
use Rattle.asic_view.specs.declared.object.ViewObject.{ViewObject}
use Rattle.asic_view.specs.View.{ViewObjects, shown_by, used_of}
use Rattle.asic_view.proofs.Shown.{shown_body, shown_entry, sorted-shown}
use Rattle.apply_laws.proofs.Tying.Lists.{none-behind}
use Rattle.apply_laws.proofs.Tying.Shown.{shown-none}

kind_same : (f : Vid → Rid) (b : Body Vid) → kind_of (body_renamed f b) ≡ kind_of b
kind_same f (body.Port lanes speed mtu up) = refl
kind_same f (body.Vlan vlan) = refl
kind_same f _ = refl

module _ (k : Kind) where
  abbrev one : Body Rid → ℕ
  one b = cond (is_of k b) 1 0

  by_values : (os : Objects) → used os k ≡ sum_by one (values_of os)
  by_values [] = refl
  by_values (o ∷ os) = sum_by-cons (λ (x : Entry Rid × Body Rid). cond (is_of k x.1) 1 0) o os ∙ ap (λ n. one o.1 + n) (by_values os) ∙ sym (sum_by-cons one o.1 (values_of os))

  pub counted : (t : Vid → Rid) (os : ViewObjects) → AreDistinct (map (shown_entry t) os) → used_of os k ≡ used (shown_by t os) k
  counted t [] d = refl
  counted t (x ∷ xs) d =
      let none : lookup (is_at (entry_cmp (shown_entry t x))) (shown_by t xs) ≡ None = shown-none t xs (shown_entry t x) (λ y h same. none-behind (shown_entry t) x xs y d h same) in
      let put = sum_by-insert_entry one entry_total (shown_by t xs) (shown_entry t x) (shown_body t x) (sorted-shown t xs) in
      let nothing : unwrap_or (option_map one (lookup (is_at (entry_cmp (shown_entry t x))) (shown_by t xs))) 0 ≡ 0 = ap (λ o. unwrap_or (option_map one o) 0) none in
      let more = sum_by-cons (λ (y : ViewObject). cond (is_of k y.body) 1 0) x.1 (values_of xs) in
      let kind : one (shown_body t x) ≡ cond (is_of k x.1.body) 1 0 = ap (λ z. cond (level z == level k) 1 0) (kind_same t x.1.body) in
      let rest = counted t xs d.1 in
      let chip = by_values (shown_by t (x ∷ xs)) in
      let chip_rest = by_values (shown_by t xs) in
      omega (arith, put, nothing, more, kind, rest, chip, chip_rest)
