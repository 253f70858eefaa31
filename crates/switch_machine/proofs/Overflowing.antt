-- without operations a kind has no room for a row exactly where the applied things and the row's are too many
use Rattle.std.proofs.Common.{◌≡◌, ◌==◌, ◌⊎◌, ◌+◌, ◌<◌, ◌≤◌, ◌∷◌, ◌++◌, ◌∙◌, inl, inr, ℕ, suc, Bool, true, false, not, cond, if◌then◌else◌, List, [], length, Option, None, Some, refl, sym, ap, ap₂, subst, arith}
use Rattle.std.proofs.lemmas.Bool.{eq-eqb, eqb-true, false≢true}
use Rattle.std.proofs.lemmas.Option.{none-some}
use Rattle.swss_types.specs.declared.interface.IfName.{IfName}
use Rattle.swss_types.specs.declared.vrf.Vrf.{Vrf}
use Rattle.swss_types.specs.Vrf.{same_vrf}
use Rattle.table_schema.specs.Plan.{Ports, IsPlan}
use Rattle.table_schema.specs.declared.row.Row.{Row as BareRow}
use Rattle.table_schema.specs.declared.key.Key.TheVariants as key
use Rattle.switch_model.specs.Placed as placed
use Rattle.switch_model.specs.Placed.{Placed as Row, bare_rows, place, router_in}
use Rattle.switch_model.specs.Good.{TypedRows}
use Rattle.table_schema.specs.declared.key.Key.{Key}
use Rattle.sai_types.specs.declared.hop.Base.{Base}
use Rattle.sai_types.specs.declared.thing.Thing.TheVariants as thing
use Rattle.sai_types.specs.Names as name
use Rattle.sai_types.specs.declared.kind.Kind.{Kind}
use Rattle.sai_types.specs.declared.thing.Thing.{Thing}
use Rattle.sai_types.specs.Alike.{IsIn}
use Rattle.sai_types.specs.Made.{IsWhole}
use Rattle.sai_types.specs.Objects.{Objects, level, used}
use Rattle.sai_types.specs.Refusal.{capacity_of}
use Rattle.switch_model.specs.Desired.{IsThingOf}
use Rattle.switch_model.specs.Marks as marks
use Rattle.switch_model.specs.Marks.{Overflows}
use Rattle.switch_model.specs.Things.{base_of, things_of}
use Rattle.chip_layout.specs.Counted.{AreAll, AreDistinct}
use Rattle.chip_layout.specs.Layout.{IsLaidOut, listed}
use Rattle.sai_types.specs.Names.{ThingName, name_kind, name_of}
use Rattle.sai_types.proofs.Membership.{in-either}
use Rattle.chip_layout.proofs.Counting.{counted, no-longer}
use Rattle.row_layout.specs.Rows.{Owner, from, own_things}
use Rattle.row_layout.specs.Shared.{IsOf, uses}
use Rattle.row_layout.proofs.Split.{things-split}
use Rattle.row_layout.specs.Operations.{Change, Make, Set, Take, make_all, own_changes, take_all, uses_of}
use Rattle.switch_machine.specs.Changes.{after}
use Rattle.switch_machine.specs.Flights.{CanMake, CanSet, MachineFlight, Goes, HasName, IsConcern, IsFinal, Machine, Runs, StandsIn, goes_over, own_of}
use Rattle.switch_machine.specs.Operations.{MayBegin, built_first}
use Rattle.switch_machine.specs.Places.{makes}
use Rattle.switch_machine.specs.Consistent.{IsConsistent}
use Rattle.switch_machine.specs.Tables.{TableLaws}
use Rattle.switch_machine.proofs.Beginning.{starts}
use Rattle.switch_machine.proofs.Calling.{sort_of}
use Rattle.switch_machine.proofs.Placing.{row_of_thing}
use Rattle.switch_machine.proofs.Resting.{back_by, into_by}
use Rattle.switch_machine.proofs.Running.{final-concern, settable_name}
use Rattle.switch_machine.proofs.Splits.{IsSplit, name_split}
use Rattle.switch_machine.proofs.Tabled.{tabled}

abbrev after_all : List Change → (Thing → Type 0) → Thing → Type 0
after_all [] V = V
after_all (c ∷ cs) V = after_all cs (λ u. after c (V u) u)

-- the names of a kind that changes make
record MadeNames (plan : Ports) (f : MachineFlight) (kind : Kind) (V : Thing → Type 0) (due : List Change) : Type 0 where
  names : List ThingName
  distinct : AreDistinct names
  count : length names ≡ makes kind due
  fresh : (n : ThingName) → IsIn n names → HasName V n → ⊥
  final : (n : ThingName) → IsIn n names → (t : Thing) × IsFinal plan f t × (name_of t ≡ n)
  kinds : (n : ThingName) → IsIn n names → level (name_kind n) ≡ level kind
  all : (n : ThingName) → level (name_kind n) ≡ level kind → HasName (after_all due V) n → HasName V n ⊎ IsIn n names

module _ (plan : Ports) (f : MachineFlight) (r : Row) (new : f.new ≡ Some r) (none : f.retires ≡ None) (kind : Kind) where
  make_step : (t : Thing) (cs : List Change) (V : Thing → Type 0) (b : Bool) → (level (name_kind (name_of t)) == level kind) ≡ b → CanMake plan f V t → MadeNames plan f kind (λ u. V u ⊎ (u ≡ t)) cs → MadeNames plan f kind V (Make t ∷ cs)
  make_step t cs V true e can rest = record {
    names = name_of t ∷ rest.names;
    distinct = (λ h. rest.fresh (name_of t) h (t, inr refl, refl), rest.distinct);
    count = count;
    fresh = fresh;
    final = final;
    kinds = kinds;
    all = λ n at h. widen n (rest.all n at h);
  }
    where
      count : suc (length rest.names) ≡ cond (level (name_kind (name_of t)) == level kind) 1 0 + makes kind cs
      count =
          let one = ap {B = ℕ} (λ x. cond x 1 0) e in
          let more = rest.count in
          omega (arith, one, more)

      fresh : (n : ThingName) → IsIn n (name_of t ∷ rest.names) → HasName V n → ⊥
      fresh n (inl same) h = can.fresh h.0 h.1 (h.2 ∙ same)
      fresh n (inr in_it) h = rest.fresh n in_it (h.0, inl h.1, h.2)

      final : (n : ThingName) → IsIn n (name_of t ∷ rest.names) → (x : Thing) × IsFinal plan f x × (name_of x ≡ n)
      final n (inl same) = (t, can.final, sym same)
      final n (inr in_it) = rest.final n in_it

      kinds : (n : ThingName) → IsIn n (name_of t ∷ rest.names) → level (name_kind n) ≡ level kind
      kinds n (inl same) = ap (λ z. level (name_kind z)) same ∙ eqb-true (level (name_kind (name_of t))) (level kind) e
      kinds n (inr in_it) = rest.kinds n in_it

      widen : (n : ThingName) → HasName (λ u. V u ⊎ (u ≡ t)) n ⊎ IsIn n rest.names → HasName V n ⊎ IsIn n (name_of t ∷ rest.names)
      widen n (inr h) = inr (inr h)
      widen n (inl (u, inl v, is)) = inl (u, v, is)
      widen n (inl (u, inr same, is)) = inr (inl (sym is ∙ ap name_of same))
  make_step t cs V false e can rest = record {
    names = rest.names;
    distinct = rest.distinct;
    count = count;
    fresh = λ n in_it h. rest.fresh n in_it (h.0, inl h.1, h.2);
    final = rest.final;
    kinds = rest.kinds;
    all = λ n at h. narrow n at (rest.all n at h);
  }
    where
      count : length rest.names ≡ cond (level (name_kind (name_of t)) == level kind) 1 0 + makes kind cs
      count =
          let one = ap {B = ℕ} (λ x. cond x 1 0) e in
          let more = rest.count in
          omega (arith, one, more)

      narrow : (n : ThingName) → level (name_kind n) ≡ level kind → HasName (λ u. V u ⊎ (u ≡ t)) n ⊎ IsIn n rest.names → HasName V n ⊎ IsIn n rest.names
      narrow n at (inr h) = inr h
      narrow n at (inl (u, inl v, is)) = inl (u, v, is)
      narrow n at (inl (u, inr same, is)) = absurd (false≢true (sym e ∙ eq-eqb (level (name_kind (name_of t))) (level kind) (ap (λ z. level (name_kind z)) (sym (ap name_of same) ∙ is) ∙ at)))

  set_name : (t : Thing) (V : Thing → Type 0) (n : ThingName) → IsSplit n (name_of t) → HasName V n → HasName (λ u. (V u × (name_of u ≡ name_of t → ⊥)) ⊎ (u ≡ t)) n
  set_name t V n (inl same) h = (t, inr refl, sym same)
  set_name t V n (inr other) h = (h.0, inl (h.1, λ e. other (sym h.2 ∙ e)), h.2)

  set_step : (t : Thing) (cs : List Change) (V : Thing → Type 0) → CanSet plan f V t → MadeNames plan f kind (λ u. (V u × (name_of u ≡ name_of t → ⊥)) ⊎ (u ≡ t)) cs → MadeNames plan f kind V (Set t ∷ cs)
  set_step t cs V can rest = record {
    names = rest.names;
    distinct = rest.distinct;
    count = rest.count;
    fresh = λ n in_it h. rest.fresh n in_it (set_name t V n (name_split n (name_of t)) h);
    final = rest.final;
    kinds = rest.kinds;
    all = λ n at h. back n (rest.all n at h);
  }
    where
      back : (n : ThingName) → HasName (λ u. (V u × (name_of u ≡ name_of t → ⊥)) ⊎ (u ≡ t)) n ⊎ IsIn n rest.names → HasName V n ⊎ IsIn n rest.names
      back n (inr h) = inr h
      back n (inl (u, inl v, is)) = inl (u, v.0, is)
      back n (inl (u, inr same, is)) = inl (can.old, can.stands, sym (settable_name can.old t can.settable) ∙ sym (ap name_of same) ∙ is)

  no_take : {X : Type 0} (stays : f.goes ≡ true → ⊥) (n : ThingName) → Goes plan f n → X
  no_take stays n (inl h) = absurd (stays h.1)
  no_take stays n (inr h) = absurd (none-some h.0 (sym none ∙ h.2))

  made_names : (stays : f.goes ≡ true → ⊥) (due : List Change) (V : Thing → Type 0) → Runs plan f V due → MadeNames plan f kind V due
  made_names stays [] V runs = record { names = []; distinct = tt; count = refl; fresh = λ n h. elim h [ ]; final = λ n h. elim h [ ]; kinds = λ n h. elim h [ ]; all = λ n at h. inl h }
  made_names stays (Make t ∷ cs) V runs = make_step t cs V (level (name_kind (name_of t)) == level kind) refl runs.0 (made_names stays cs (λ u. V u ⊎ (u ≡ t)) runs.1)
  made_names stays (Set t ∷ cs) V runs = set_step t cs V runs.0 (made_names stays cs (λ u. (V u × (name_of u ≡ name_of t → ⊥)) ⊎ (u ≡ t)) runs.1)
  made_names stays (Take n ∷ cs) V runs = no_take stays n runs.0.goes

  -- an interface that goes over makes no name that was not there
  moved_names : (o : Option Base) (v w : Vrf) (V : Thing → Type 0) → Runs plan f V (take_all (from o (λ b. thing.Rif b v ∷ [])) (make_all (from o (λ b. thing.Rif b w ∷ [])) [])) → MadeNames plan f kind V (take_all (from o (λ b. thing.Rif b v ∷ [])) (make_all (from o (λ b. thing.Rif b w ∷ [])) []))
  moved_names None v w V runs = record { names = []; distinct = tt; count = refl; fresh = λ n h. elim h [ ]; final = λ n h. elim h [ ]; kinds = λ n h. elim h [ ]; all = λ n at h. inl h }
  moved_names (Some b) v w V runs = record {
    names = [];
    distinct = tt;
    count = omega arith;
    fresh = λ n h. elim h [ ];
    final = λ n h. elim h [ ];
    kinds = λ n h. elim h [ ];
    all = λ n at h. inl (was n h);
  }
    where
      was : (n : ThingName) → HasName (λ u. (V u × (name_of u ≡ name.Rif b → ⊥)) ⊎ (u ≡ thing.Rif b w)) n → HasName V n
      was n (u, inl h, is) = (u, h.0, is)
      was n (u, inr same, is) = let t = runs.0.there in (t.0, t.1, t.2 ∙ sym (ap name_of same) ∙ is)

  runs_end : (due : List Change) (V : Thing → Type 0) → Runs plan f V due → (u : Thing) → IsConcern plan f (name_of u) → IsFinal plan f u → after_all due V u
  runs_end [] V runs u c h = (runs u c).1 h
  runs_end (d ∷ ds) V runs u c h = runs_end ds (λ x. after d (V x) x) runs.1 u c h

-- ---- lists of names

append_left : (xs ys : List ThingName) (n : ThingName) → IsIn n xs → IsIn n (xs ++ ys)
append_left (x ∷ xs) ys n (inl e) = inl e
append_left (x ∷ xs) ys n (inr h) = inr (append_left xs ys n h)
append_left [] ys n h = elim h [ ]

append_right : (xs ys : List ThingName) (n : ThingName) → IsIn n ys → IsIn n (xs ++ ys)
append_right [] ys n h = h
append_right (x ∷ xs) ys n h = inr (append_right xs ys n h)

distinct_append : (xs ys : List ThingName) → AreDistinct xs → AreDistinct ys → ((n : ThingName) → IsIn n xs → IsIn n ys → ⊥) → AreDistinct (xs ++ ys)
distinct_append [] ys dx dy apart = dy
distinct_append (x ∷ xs) ys dx dy apart = (λ h. by (in-either x xs ys h), distinct_append xs ys dx.1 dy (λ n h g. apart n (inr h) g))
  where
    by : IsIn x xs ⊎ IsIn x ys → ⊥
    by (inl h) = dx.0 h
    by (inr h) = apart x (inl refl) h

length_append : (xs ys : List ThingName) → length (xs ++ ys) ≡ length xs + length ys
length_append [] ys = omega arith
length_append (x ∷ xs) ys = let rest = length_append xs ys in omega (arith, rest)

-- the two words for names of which no two are equal
pub counted_distinct : (ns : List ThingName) → marks.AreDistinctNames ns → AreDistinct ns
counted_distinct [] d = tt
counted_distinct (n ∷ ns) d = (d.0, counted_distinct ns d.1)

pub marked_distinct : (ns : List ThingName) → AreDistinct ns → marks.AreDistinctNames ns
marked_distinct [] d = tt
marked_distinct (n ∷ ns) d = (d.0, marked_distinct ns d.1)

-- ---- the kinds for which there is no room

module _ (plan : Ports) (is : IsPlan plan) (capacities : List ℕ) (m : Machine) (sound : IsConsistent plan m) (quiet : (w : ℕ) (f : MachineFlight) → m.board.flights w ≡ Some f → ⊥) (made : ℕ) (objects : Objects) (whole : IsWhole made objects) (laid : IsLaidOut (listed m.stands) objects) (w : ℕ) (f : MachineFlight) (due : List Change) (begins : MayBegin plan m w f due) (row : BareRow) (new : f.new ≡ Some (place (router_in (bare_rows m.board.applied) f.key) row)) (kind : Kind) where
  T : TableLaws plan
  T = tabled plan is

  abbrev rows : TypedRows
  rows = bare_rows m.board.applied

  abbrev r : Row
  r = place (router_in rows f.key) row

  runs : Runs plan f (StandsIn m) due
  runs = (starts plan is m sound w f due begins).runs

  over : (k : Key) (old : Option Row) (n : Row) → goes_over k old (Some n) ≡ true → (i : IfName) × (v : Vrf) × (w : Vrf) × (k ≡ key.Intf i) × (old ≡ Some (placed.Intf v)) × (n ≡ placed.Intf w) × (not (same_vrf v w) ≡ true)
  over (key.Intf i) (Some (placed.Intf v)) (placed.Intf w) h = (i, v, w, refl, refl, refl, h)
  over k old n h = absurd (false≢true h)

  falsed : (b : Bool) → not b ≡ true → b ≡ false
  falsed true h = absurd (false≢true h)
  falsed false h = refl

  -- the changes of an interface that goes over
  moved_due : f.goes ≡ true → (i : IfName) × (v : Vrf) × (w : Vrf) × (due ≡ take_all (from (base_of plan i) (λ b. thing.Rif b v ∷ [])) (make_all (from (base_of plan i) (λ b. thing.Rif b w ∷ [])) []))
  moved_due goes =
      let x = over f.key (m.board.applied f.key) r (sym (ap (goes_over f.key (m.board.applied f.key)) new) ∙ sym begins.goes ∙ goes) in
      let new_is : f.new ≡ Some (placed.Intf x.2) = new ∙ ap Some x.5 in
      let own = ap₂ (own_changes plan f.key) x.4 new_is ∙ ap (λ k. own_changes plan k (Some (placed.Intf x.1)) (Some (placed.Intf x.2))) x.3 ∙ ap (λ b. if b then [] else take_all (own_things plan (key.Intf x.0) (placed.Intf x.1)) (make_all (own_things plan (key.Intf x.0) (placed.Intf x.2)) [])) (falsed (same_vrf x.1 x.2) x.6) in
      (x.0, x.1, x.2, begins.operation.is ∙ ap₂ built_first (none x.0 x.2 x.3 new_is begins.operation.builds refl) own)
    where
      none : (i : IfName) (w : Vrf) → f.key ≡ key.Intf i → f.new ≡ Some (placed.Intf w) → (b : Option Owner) → begins.operation.builds ≡ b → begins.operation.builds ≡ None
      none i w is new_is None e = e
      none i w is new_is (Some o) e = elim (subst (λ k. IsIn o (uses_of plan k (Some (placed.Intf w)))) is (subst (λ z. IsIn o (uses_of plan f.key z)) new_is (begins.operation.built o e).0)) [ ]

  makes_names : MadeNames plan f kind (StandsIn m) due
  makes_names = by f.goes refl
    where
      by : (b : Bool) → f.goes ≡ b → MadeNames plan f kind (StandsIn m) due
      by false e = made_names plan f r new begins.none kind (λ goes. false≢true (sym e ∙ goes)) due (StandsIn m) runs
      by true e =
          let x = moved_due e in
          subst (MadeNames plan f kind (StandsIn m)) (sym x.3) (moved_names plan f r new begins.none kind (base_of plan x.0) x.1 x.2 (StandsIn m) (subst (Runs plan f (StandsIn m)) x.3 runs))

  standing : (names : List ThingName) × AreAll (listed m.stands) kind names × (length names ≡ used objects kind)
  standing = counted (listed m.stands) objects laid kind made whole

  abbrev IsOne : Thing → Type 0
  IsOne t = IsThingOf plan rows t ⊎ IsIn t (things_of plan f.key r)

  final_of : (t : Thing) → IsFinal plan f t → IsIn t (things_of plan f.key r)
  final_of t (inl h) = (things-split plan f.key r).back t (inl (subst (λ z. IsIn t (own_of plan f.key z)) new h))
  final_of t (inr h) = (things-split plan f.key r).back t (inr (h.0, subst (λ z. IsIn h.0 (uses_of plan f.key z)) new h.1, h.2))

  of_final : (t : Thing) → IsIn t (things_of plan f.key r) → IsFinal plan f t
  of_final t h = by ((things-split plan f.key r).into t h)
    where
      by : IsOf (own_things plan f.key r) (uses plan f.key r) t → IsFinal plan f t
      by (inl h) = inl (subst (λ z. IsIn t (own_of plan f.key z)) (sym new) h)
      by (inr (o, at, in_it)) = inr (o, subst (λ z. IsIn o (uses_of plan f.key z)) (sym new) at, in_it)

  stands_of : (t : Thing) → StandsIn m t → IsThingOf plan rows t
  stands_of t h = let o = sound.owned t h in into_by plan (tabled plan is) m sound quiet t h o.0 o.1 (sort_of o.0)

  of_applied : (t : Thing) → IsThingOf plan rows t → StandsIn m t
  of_applied t h = let y = row_of_thing plan m.board sound.board t h in back_by plan (tabled plan is) m sound quiet t y.0 y.1 y.2 ((things-split plan y.0 y.1).into t y.3)

  pub overflows : capacity_of capacities kind < used objects kind + makes kind due → Overflows plan capacities rows f.key row kind
  overflows many = with_names standing makes_names
    where
      with_names : ((names : List ThingName) × AreAll (listed m.stands) kind names × (length names ≡ used objects kind)) → MadeNames plan f kind (StandsIn m) due → Overflows plan capacities rows f.key row kind
      with_names (names, all, count) x = record {
        keys = names ++ x.names;
        distinct = marked_distinct (names ++ x.names) (distinct_append names x.names all.distinct x.distinct (λ n h g. x.fresh n g (stood n h)));
        things = λ n h. let t = source_by n (in-either n names x.names h) in (t.0, t.2, ap (λ z. level (name_kind z)) t.2 ∙ level_by n (in-either n names x.names h), t.1);
        many = enough;
      }
        where
          stood : (n : ThingName) → IsIn n names → HasName (StandsIn m) n
          stood n h = let y = (all.sound n h).1 in let z = (all.sound n h).2 in (z.0, (y, z.1), z.2)

          source_by : (n : ThingName) → IsIn n names ⊎ IsIn n x.names → (t : Thing) × IsOne t × (name_of t ≡ n)
          source_by n (inl h) = let y = stood n h in (y.0, inl (stands_of y.0 y.1), y.2)
          source_by n (inr h) = let y = x.final n h in (y.0, inr (final_of y.0 y.1), y.2)

          level_by : (n : ThingName) → IsIn n names ⊎ IsIn n x.names → level (name_kind n) ≡ level kind
          level_by n (inl h) = (all.sound n h).0
          level_by n (inr h) = x.kinds n h

          enough : capacity_of capacities kind < length (names ++ x.names)
          enough =
              let two = length_append names x.names in
              let three = x.count in
              omega (arith, many, two, three, count)

  pub no-overflow : used objects kind + makes kind due ≤ capacity_of capacities kind → Overflows plan capacities rows f.key row kind → ⊥
  no-overflow fits x = by standing makes_names
    where
      by : ((names : List ThingName) × AreAll (listed m.stands) kind names × (length names ≡ used objects kind)) → MadeNames plan f kind (StandsIn m) due → ⊥
      by (names, all, count) y =
          let one = no-longer x.keys (names ++ y.names) (counted_distinct x.keys x.distinct) within in
          let three = length_append names y.names in
          let four = y.count in
          let five = x.many in
          absurd (omega (arith, one, three, four, five, count, fits))
        where
          found : (n : ThingName) → level (name_kind n) ≡ level kind → HasName (StandsIn m) n ⊎ IsIn n y.names → IsIn n (names ++ y.names)
          found n at (inl h) = append_left names y.names n (all.all n (at, h.1.0, (h.0, h.1.1, h.2)))
          found n at (inr h) = append_right names y.names n h

          of_thing : (t : Thing) → level (name_kind (name_of t)) ≡ level kind → IsOne t → IsIn (name_of t) (names ++ y.names)
          of_thing t at (inl h) = found (name_of t) at (inl (t, of_applied t h, refl))
          of_thing t at (inr h) =
              let final = of_final t h in
              found (name_of t) at (y.all (name_of t) at (t, runs_end plan f r new begins.none kind due (StandsIn m) runs t (final-concern plan (tabled plan is) f begins.fit t final) final, refl))

          within : (n : ThingName) → IsIn n x.keys → IsIn n (names ++ y.names)
          within n h = let t = x.things n h in subst (λ z. IsIn z (names ++ y.names)) t.1 (of_thing t.0 t.2 t.3)
