-- one pair more of those that are left
use Rattle.std.proofs.Common.{◌≡◌, ℕ, ◌+◌, ◌<◌, List, length, drop, get_or, sym, ap, ◌∙◌}
use Rattle.std.specs.BTreeMap.{insert_entry}
use Rattle.std.specs.List.{slice_get}
use Rattle.std.specs.Ordering.{nat_cmp}
use Rattle.std.proofs.lemmas.List.{drop_more}
use Rattle.sai_types.specs.declared.ids.Rid.{Rid}
use Rattle.sai_types.specs.declared.ids.Vid.{Vid}
use Rattle.sai_types.specs.declared.body.Object.{Object}
use Rattle.apply_order.specs.Naming.{OldIds, names_from, with_objects}
use Rattle.apply_order.specs.Places.{Places, with_new, with_old}

pub with_new-step : (places later : Places) (pairs : List (ℕ × ℕ)) (n : ℕ) (d : ℕ × ℕ) (want : Places) → n < length pairs → later ≡ insert_entry nat_cmp places (get_or pairs n d).1 (get_or pairs n d).0 → with_new places (drop n pairs) ≡ want → with_new later (drop (n + 1) pairs) ≡ want
with_new-step places later pairs n d want within is h = ap (λ es. with_new es (drop (n + 1) pairs)) is ∙ sym (ap (with_new places) (drop_more pairs n d within)) ∙ h

pub with_old-step : (places later : Places) (pairs : List (ℕ × ℕ)) (n : ℕ) (d : ℕ × ℕ) (want : Places) → n < length pairs → later ≡ insert_entry nat_cmp places (get_or pairs n d).0 (get_or pairs n d).1 → with_old places (drop n pairs) ≡ want → with_old later (drop (n + 1) pairs) ≡ want
with_old-step places later pairs n d want within is h = ap (λ es. with_old es (drop (n + 1) pairs)) is ∙ sym (ap (with_old places) (drop_more pairs n d within)) ∙ h

pub names-step : (names later : OldIds) (old : List (Object Rid)) (new : List (Object Vid)) (pairs : List (ℕ × ℕ)) (n : ℕ) (d : ℕ × ℕ) (want : OldIds) → n < length pairs → later ≡ with_objects names (slice_get old (get_or pairs n d).0) (slice_get new (get_or pairs n d).1) → names_from names old new (drop n pairs) ≡ want → names_from later old new (drop (n + 1) pairs) ≡ want
names-step names later old new pairs n d want within is h = ap (λ es. names_from es old new (drop (n + 1) pairs)) is ∙ sym (ap (names_from names old new) (drop_more pairs n d within)) ∙ h
