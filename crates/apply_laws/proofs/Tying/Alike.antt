-- a view is tied to a chip where each object of the one has its object of the other
use Rattle.std.proofs.Common.{◌≡◌, ℕ, ◌<◌, ◌≤◌, List, [], map, Option, None, Some, refl, sym, ap, ◌∙◌, subst}
use Rattle.std.specs.List.{AllByRecursion}
use Rattle.std.specs.List.Sorted.{IsStrictlySortedBy}
use Rattle.std.specs.Map.{keys_of}
use Rattle.std.proofs.lemmas.Option.{none-some}
use Rattle.sai_types.specs.declared.ids.Rid.{Rid}
use Rattle.sai_types.specs.declared.ids.Vid.{Vid}
use Rattle.sai_types.specs.declared.body.Body.{Body}
use Rattle.sai_types.specs.declared.body.Entry.{Entry}
use Rattle.sai_types.specs.declared.thing.Thing.{Thing}
use Rattle.sai_types.specs.Alike.{IsIn}
use Rattle.sai_types.specs.Made.{AreSorted, IsWhole}
use Rattle.sai_types.specs.Objects.{Objects, body_at}
use Rattle.chip_layout.specs.Counted.{AreDistinct}
use Rattle.chip_layout.specs.Layout.{IsLaidOut, listed}
use Rattle.asic_view.specs.Things.{StandFor}
use Rattle.asic_view.specs.View.{ViewObjects, rid_at, shown_by, vid_cmp}
use Rattle.asic_view.proofs.Same.{same-objects}
use Rattle.asic_view.proofs.Shown.{sorted-shown}
use Rattle.syncd_core.specs.Tied.{tie_of}
use Rattle.apply_laws.specs.Standing.{AreThingsOf}
use Rattle.apply_laws.specs.Ties.{AreTied, HasTie, body_tied, entry_tied}
use Rattle.apply_laws.proofs.Tying.Shown.{Item, shown-from, shown-none, shown-there}
use Rattle.apply_laws.proofs.Tying.Standing.{stand-tied}
use Rattle.apply_laws.proofs.Tying.Tied.{is-own, tied-once}

pub none-tied : AreTied [] 0 []
unfolding IsStrictlySortedBy
none-tied = record { rising = tt; ties = tt; once = tt; shown = refl }

module _ (view : ViewObjects) (made : ℕ) (objects : Objects) where
  module _ (tied : AreTied view made objects) where
    -- a view that is tied to a chip is tied to what it shows itself
    pub own-chip : AreTied view made (shown_by (tie_of view) view)
    own-chip = record { rising = tied.rising; ties = tied.ties; once = tied.once; shown = refl }

    pub found-there : (x : Item) → IsIn x view → body_at objects (entry_tied view x) ≡ Some (body_tied view x)
    found-there x h = ap (λ o. body_at o (entry_tied view x)) (sym tied.shown) ∙ shown-there (tie_of view) view x tied.once h

    pub found-back : (e : Entry Rid) (b : Body Rid) → body_at objects e ≡ Some b → (x : Item) × IsIn x view × (e ≡ entry_tied view x) × (b ≡ body_tied view x)
    found-back e b found = shown-from (tie_of view) view e b (ap (λ o. body_at o e) tied.shown ∙ found)

    pub tie-once : (v w : Vid) (r : Rid) → rid_at view v ≡ Some r → rid_at view w ≡ Some r → v ≡ w
    tie-once = tied-once view made own-chip

    pub tie-within : (v : Vid) (r : Rid) → rid_at view v ≡ Some r → (0 < r.0) × (r.0 ≤ made)
    tie-within v r is = let of = is-own view made own-chip v r is in (of.3, of.4)

  pub alike-tied : IsStrictlySortedBy vid_cmp (keys_of view) → AllByRecursion (HasTie made) view → AreDistinct (map (entry_tied view) view) → AreSorted objects → ((x : Item) → IsIn x view → body_at objects (entry_tied view x) ≡ Some (body_tied view x)) → ((e : Entry Rid) (b : Body Rid) → body_at objects e ≡ Some b → (x : Item) × IsIn x view × (e ≡ entry_tied view x)) → AreTied view made objects
  alike-tied rising ties once sorted there back = record { rising = rising; ties = ties; once = once; shown = same-objects (shown_by (tie_of view) view) objects (sorted-shown (tie_of view) view) sorted (λ e. by e (body_at objects e) refl) }
    where
      by : (e : Entry Rid) (o : Option (Body Rid)) → body_at objects e ≡ o → body_at (shown_by (tie_of view) view) e ≡ body_at objects e
      by e None at = shown-none (tie_of view) view e (λ x h is. none-some (body_tied view x) (sym at ∙ ap (body_at objects) is ∙ there x h)) ∙ sym at
      by e (Some b) at =
          let from = back e b at in
          ap (body_at (shown_by (tie_of view) view)) from.2 ∙ shown-there (tie_of view) view from.0 once from.1 ∙ sym (there from.0 from.1) ∙ ap (body_at objects) (sym from.2)

pub stand-for : (view : ViewObjects) (made : ℕ) (objects : Objects) (stands : List (Rid × Thing)) → AreTied view made objects → IsWhole made objects → IsLaidOut (listed stands) objects → (things : List (Vid × Thing)) × StandFor (listed things) view × AreThingsOf view stands things
stand-for view made objects stands tied whole laid = stand-tied view made (own-chip view made objects tied) (subst (IsWhole made) (sym tied.shown) whole) stands (subst (IsLaidOut (listed stands)) (sym tied.shown) laid)
