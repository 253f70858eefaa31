-- what becomes of a group's operation when the call that is due has taken effect
use Rattle.std.proofs.Common.{◌≡◌, ◌≤◌, ◌<◌, ◌+◌, ℕ, suc, Bool, true, false, List, [], ◌∷◌, ◌++◌, drop, length, Option, Some, None, IsSome, if◌then◌else◌, refl, sym, ap, subst, ◌∙◌, arith, length-append, append-nil}
use Rattle.std.proofs.lemmas.Bool.{false≢true}
use Rattle.table_schema.specs.declared.key.Key.{Key}
use Rattle.sai_types.specs.declared.ids.Vid.{Vid}
use Rattle.row_layout.specs.Operations.{Change}
use Rattle.ref_counts.specs.declared.name.Name.{Name}
use Rattle.ref_counts.specs.declared.name.Name.TheVariants as name
use Rattle.ref_counts.specs.Registry.{Names, places_of}
use Rattle.orch_flight.specs.Grouping.{GroupOperation, IsGroupTook, MayTakeGroup, first_group_due, group_names_by, members_with_made}
use Rattle.orch_flight.specs.Taking.{to_list}
use Rattle.nexthop_orch.specs.Groups.{IsGroupKept, group_operation, hops_named}
use Rattle.nexthop_orch.proofs.Dues.{drop-step, due-over, over-due, still-due}

some-one : {X : Type 0} (o : Option X) → IsSome o → length (to_list o) ≡ 1
some-one None h = absurd (false≢true h)
some-one (Some x) h = refl

module _ (names : Names) (w : ℕ) (n : Name) (keys : List Key) (made : List Vid) (d : ℕ) (given : Option Vid) where
  abbrev Before : Bool → GroupOperation
  Before b = group_operation w n b keys made d

  -- a call is due
  pub may-due : (b : Bool) (f : GroupOperation) → Before b ≡ f → MayTakeGroup f given names → d < suc (length (hops_named n))
  may-due b f is may = still-due (hops_named n) b d (λ none. may.some (ap (λ z. z.due) (sym is) ∙ none))

  one : (b : Bool) → MayTakeGroup (Before b) given names → length (to_list given) ≡ (if b then 1 else 0)
  one true may = some-one given (may.numbered refl)
  one false may = ap (λ o. length (to_list o)) (may.unnumbered refl)

  -- there is memory for one identifier more
  pub room : (b : Bool) (capacity : ℕ) (f : GroupOperation) → Before b ≡ f → IsGroupKept n b made capacity d → MayTakeGroup f given names → length made + length (to_list given) ≤ capacity
  room b capacity f is kept may = subst (λ z. MayTakeGroup z given names → length made + length (to_list given) ≤ capacity) is (by b kept) may
    where
      by : (b : Bool) → IsGroupKept n b made capacity d → MayTakeGroup (Before b) given names → length made + length (to_list given) ≤ capacity
      by true kept may =
          let added = one true may in
          let number = kept.numbered refl in
          let within = may-due true (Before true) refl may in
          let most = kept.room refl in
          omega (arith, added, number, within, most)
      by false kept may =
          let added = one false may in
          let fit = kept.fit in
          omega (arith, added, fit)

  longer : (made' : List Vid) → made' ≡ made ++ to_list given → length made' ≡ length made + length (to_list given)
  longer made' more = ap length more ∙ length-append made (to_list given)

  numbered-on : (b : Bool) (made' : List Vid) → (b ≡ true → length made ≡ d) → MayTakeGroup (Before b) given names → made' ≡ made ++ to_list given → b ≡ true → length made' ≡ d + 1
  numbered-on true made' number may more h =
      let long = longer made' more in
      let added = one true may in
      let before = number refl in
      omega (arith, long, added, before)
  numbered-on false made' number may more h = absurd (false≢true h)

  -- and it is kept so
  pub kept-on : (b : Bool) (made' : List Vid) (capacity capacity' : ℕ) (f : GroupOperation) → Before b ≡ f → IsGroupKept n b made capacity d → MayTakeGroup f given names → made' ≡ made ++ to_list given → capacity' ≡ capacity → IsGroupKept n b made' capacity' (d + 1)
  kept-on b made' capacity capacity' f is kept may more same =
      let within = may-due b f is may in
      let fits = room b capacity f is kept may in
      let long = longer made' more in
      record {
        group = kept.group;
        within = omega (arith, within);
        numbered = numbered-on b made' kept.numbered (subst (λ z. MayTakeGroup z given names) (sym is) may) more;
        fit = omega (arith, fits, long, same);
        room = λ h. let most = kept.room h in omega (arith, most, same);
      }

  -- there are places for the identifiers
  pub places : (b : Bool) (made' : List Vid) (f : GroupOperation) → Before b ≡ f → (b ≡ true → length made ≡ d) → MayTakeGroup f given names → made' ≡ made ++ to_list given → b ≡ true → length made' ≤ places_of names (name.Group (hops_named n))
  places b made' f is number may more h =
      let may : MayTakeGroup (Before b) given names = subst (λ z. MayTakeGroup z given names) (sym is) may in
      let long = numbered-on b made' number may more h in
      let within = may-due b (Before b) refl may in
      let most = (may.builds h).1 in
      omega (arith, long, within, most)

  with-made : (b : Bool) → MayTakeGroup (Before b) given names → members_with_made (Before b) given ≡ made ++ to_list given
  with-made true may = refl
  with-made false may = sym (ap (λ o. made ++ to_list o) (may.unnumbered refl) ∙ append-nil made)

  one_more_done : d + 1 ≡ suc d
  one_more_done = omega arith

  took : (b : Bool) (made' : List Vid) (names' : Names) → MayTakeGroup (Before b) given names → made' ≡ made ++ to_list given → names' ≡ group_names_by names (Before b) made' (drop (suc d) (first_group_due (hops_named n) b)) → IsGroupTook (Before b) given names (group_operation w n b keys made' (d + 1)) names'
  took b made' names' may more later =
      let step = drop-step d (first_group_due (hops_named n) b) may.some in
      let same = more ∙ sym (with-made b may) in
      record {
        change = step.0;
        rest = drop (suc d) (first_group_due (hops_named n) b);
        due = step.1;
        operation = ap (group_operation w n b keys made') one_more_done ∙ ap (λ l. group_operation w n b keys l (suc d)) same;
        names_are = later ∙ ap (λ l. group_names_by names (Before b) l (drop (suc d) (first_group_due (hops_named n) b))) same;
      }

  -- the last call has taken effect
  pub took-last : (b : Bool) (made' : List Vid) (names' : Names) (f : GroupOperation) → Before b ≡ f → MayTakeGroup f given names → made' ≡ made ++ to_list given → length (hops_named n) < d + 1 → names' ≡ group_names_by names (group_operation w n b keys made' (d + 1)) made' [] → IsGroupTook f given names (group_operation w n b keys made' (d + 1)) names'
  took-last b made' names' f is may more past later =
      subst (λ z. MayTakeGroup z given names → IsGroupTook z given names (group_operation w n b keys made' (d + 1)) names') is
      (λ may. took b made' names' may more (later ∙ ap (group_names_by names (Before b) made') (sym (due-over (hops_named n) b (suc d) (subst (λ m. length (hops_named n) < m) one_more_done past))))) may

  kept-names : (b : Bool) (made' : List Vid) (due : List Change) → (due ≡ [] → ⊥) → group_names_by names (Before b) made' due ≡ names
  kept-names b made' [] some = absurd (some refl)
  kept-names b made' (c ∷ cs) some = refl

  -- one before the last has
  pub took-one : (b : Bool) (made' : List Vid) (f : GroupOperation) → Before b ≡ f → MayTakeGroup f given names → made' ≡ made ++ to_list given → (length (hops_named n) < d + 1 → ⊥) → IsGroupTook f given names (group_operation w n b keys made' (d + 1)) names
  took-one b made' f is may more not =
      subst (λ z. MayTakeGroup z given names → IsGroupTook z given names (group_operation w n b keys made' (d + 1)) names) is
      (λ may. took b made' names may more (sym (kept-names b made' (drop (suc d) (first_group_due (hops_named n) b)) (λ none. not (subst (λ m. length (hops_named n) < m) (sym one_more_done) (over-due (hops_named n) b (suc d) none)))))) may
