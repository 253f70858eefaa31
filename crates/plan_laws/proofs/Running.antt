-- a plan's changes, made on the chip one after another
use Rattle.std.proofs.Common.{◌≡◌, inl, inr, ◌⊎◌, ℕ, ◌+◌, ◌++◌, List, [], ◌∷◌, refl, sym, ap, ◌∙◌, subst}
use Rattle.std.proofs.lemmas.List.{append-nil, append_assoc}
use Rattle.sai_types.specs.declared.ids.Rid.{Rid}
use Rattle.sai_types.specs.declared.body.Call.{Call}
use Rattle.sai_types.specs.declared.body.Call.TheVariants as call
use Rattle.sai_types.specs.declared.thing.Thing.{Thing}
use Rattle.sai_types.specs.After.{after_call, after_calls, entry_of}
use Rattle.sai_types.specs.Alike.{IsAlike, IsIn}
use Rattle.sai_types.specs.Made.{AreLegal, made_after, made_after_all}
use Rattle.sai_types.specs.Names.{ThingName, name_of}
use Rattle.sai_types.specs.Objects.{Objects}
use Rattle.chip_layout.specs.Layout.{Has, IsUnused, Layout, next_rid, with_changed, with_thing, without}
use Rattle.chip_layout.proofs.Naming.{alike-laid}
use Rattle.plan_laws.specs.Moments.{IsMoment, MakesChange, MakesChanges, SetsThing, layout_after}
use Rattle.plan_laws.specs.Plans.{PlanChange, Make, Remove, Set, stands_after_all}
use Rattle.plan_laws.specs.Views.{HasRoomForPlan, HaveWholeGroups}
use Rattle.plan_laws.proofs.Allowed.{IsSafePlan, ends-new, make-free, make-refers, new-ends, remove-there, remove-unused, set-refers, set-there}
use Rattle.plan_laws.proofs.Following.{HasNamed}
use Rattle.plan_laws.proofs.Lists.{cuts}
use Rattle.plan_laws.proofs.Rooms.{room-for}
use Rattle.plan_laws.proofs.Stepping.{IsAllowed, IsChangeMade, IsMidMoment, IsPortName, done-same, make-done, moment-shown, one-set, port-shown, remove-done, set-done, set-layout, sets-front}

pub legal-append : (capacities : List ℕ) (made : ℕ) (objects : Objects) (xs ys : List (Call Rid)) → AreLegal capacities made objects xs → AreLegal capacities (made_after_all made xs) (after_calls made objects xs) ys → AreLegal capacities made objects (xs ++ ys)
legal-append capacities made objects [] ys a b = b
legal-append capacities made objects (x ∷ xs) ys a b = (a.0, legal-append capacities (made_after made x) (after_call (made + 1) objects x) xs ys a.1 b)

pub made-append : (made : ℕ) (xs ys : List (Call Rid)) → made_after_all made (xs ++ ys) ≡ made_after_all (made_after_all made xs) ys
made-append made [] ys = refl
made-append made (x ∷ xs) ys = made-append (made_after made x) xs ys

pub after-append : (made : ℕ) (objects : Objects) (xs ys : List (Call Rid)) → after_calls made objects (xs ++ ys) ≡ after_calls (made_after_all made xs) (after_calls made objects xs) ys
after-append made objects [] ys = refl
after-append made objects (x ∷ xs) ys = after-append (made_after made x) (after_call (made + 1) objects x) xs ys

pub one_then_rest : (xs : List PlanChange) (y : PlanChange) (ys : List PlanChange) → xs ++ (y ∷ ys) ≡ (xs ++ (y ∷ [])) ++ ys
one_then_rest xs y ys = sym (append_assoc xs (y ∷ []) ys)

-- the calls before some of one call
one_cut : (xs m : List (Call Rid)) (x : Call Rid) → xs ++ m ≡ x ∷ [] → (xs ≡ []) ⊎ ((xs ≡ x ∷ []) × (m ≡ []))
one_cut [] m x e = inl refl
one_cut (y ∷ []) [] x e = let head : y ≡ x = cc in inr (ap (λ z. z ∷ []) head, refl)
one_cut (y ∷ []) (z ∷ m) x e = absurd cc
one_cut (y ∷ (z ∷ xs)) m x e = absurd cc

pub moment-same : (old : List Thing) (d e : List PlanChange) (l : Layout Rid) (m n : ℕ) (o p : Objects) → d ≡ e → m ≡ n → o ≡ p → IsMoment old d l m o → IsMoment old e l n p
moment-same old d e l m n o p x y z at = subst (λ q. IsMoment old e l n q) z (subst (λ q. IsMoment old e l q o) y (subst (λ q. IsMoment old q l m o) x at))

-- the moment after the calls of some changes, which are legal
pub record IsEnd (capacities : List ℕ) (old : List Thing) (done : List PlanChange) (made : ℕ) (objects : Objects) (calls : List (Call Rid)) : Type 1 where
  pub legal : AreLegal capacities made objects calls
  pub layout : Layout Rid
  pub at : IsMoment old done layout (made_after_all made calls) (after_calls made objects calls)

abbrev pub end-append : (capacities : List ℕ) (old : List Thing) (done later : List PlanChange) (made : ℕ) (objects : Objects) (xs ys : List (Call Rid)) → done ≡ later → AreLegal capacities made objects xs → IsEnd capacities old done (made_after_all made xs) (after_calls made objects xs) ys → IsEnd capacities old later made objects (xs ++ ys)
end-append capacities old done later made objects xs ys same legal end = record {
  legal = legal-append capacities made objects xs ys legal end.legal;
  layout = end.layout;
  at = moment-same old done later end.layout _ _ _ _ same (sym (made-append made xs ys)) (sym (after-append made objects xs ys)) end.at;
}

-- the last moment before so many calls, and what stands after them
pub record IsBreak (old : List Thing) (done todo : List PlanChange) (made : ℕ) (objects : Objects) (xs ys : List (Call Rid)) : Type 1 where
  pub more : List PlanChange
  pub left : List PlanChange
  pub all : todo ≡ more ++ left
  pub before : List (Call Rid)
  pub part : List (Call Rid)
  pub parts : xs ≡ before ++ part
  pub layout : Layout Rid
  pub at : IsMoment old (done ++ more) layout (made_after_all made before) (after_calls made objects before)
  pub run : MakesChanges (made_after_all made before) layout left (part ++ ys)
  pub amid : Layout Rid
  pub amid_made : ℕ
  pub shown : IsMidMoment old (done ++ more) amid amid_made (after_calls made objects xs)

module _ {order : PlanChange → ℕ} {old new : List Thing} {plan : List PlanChange} (p : IsSafePlan order old new plan) where
  module _ (done due : List PlanChange) {layout : Layout Rid} {made : ℕ} {objects : Objects} (at : IsMoment old done layout made objects) where
    has_named : (k : ThingName) → HasNamed (stands_after_all done (λ u. IsIn u old)) k → (i : Rid) × Has layout k i
    has_named k h = let i = at.all h.0 h.1 in (i.0, (h.0, i.1, h.2))

    -- each change may be made when its turn has come
    pub allowed : (c : PlanChange) → plan ≡ done ++ (c ∷ due) → IsAllowed layout c
    allowed (Make t) cut = (λ i u h meet. make-free p t done due cut u (at.sound i u h) meet, λ k r. has_named k (make-refers p t done due cut k r))
    allowed (Set t) cut = (has_named (name_of t) (set-there p t done due cut), λ k r. has_named k (set-refers p t done due cut k r))
    allowed (Remove k) cut = (has_named k (remove-there p k done due cut), λ i u h r. remove-unused p k done due cut u (at.sound i u h) r)

  module _ {start : Layout Rid} {made' : ℕ} {objects' : Objects} (first : IsMoment old [] start made' objects') (capacities : List ℕ) (room : HasRoomForPlan capacities objects' plan) where
    -- the calls of the next change are legal, and then it is done
    pub plan-step : (done due : List PlanChange) {layout : Layout Rid} {made : ℕ} {objects : Objects} (at : IsMoment old done layout made objects) (c : PlanChange) → plan ≡ done ++ (c ∷ due) → (calls : List (Call Rid)) → MakesChange layout c calls → IsChangeMade at capacities c calls (layout_after made layout c)
    plan-step done due {layout} {made} at (Make t) cut calls is =
        let space = room-for p.is_plan done due t cut first at capacities room in
        subst (λ cs. IsChangeMade at capacities (Make t) cs (with_thing layout (next_rid made) t)) (sym is.2) (make-done at capacities t is.0 is.1 (allowed done due at (Make t) cut) space)
    plan-step done due {layout} {made} at (Set t) cut calls is =
        let same = set-layout at capacities t is.1 is.0 is.2 is.3 in
        done-same at capacities (Set t) calls (with_changed layout is.0 t) (layout_after made layout (Set t)) same.0 same.1 (set-done at capacities t is.1 is.0 calls is.2 is.4)
    plan-step done due {layout} at (Remove k) cut calls is =
        let unused : IsUnused layout (name_of is.1) = subst (IsUnused layout) (sym is.4) (allowed done due at (Remove k) cut).1 in
        subst (λ cs. IsChangeMade at capacities (Remove k) cs (without layout k)) (sym is.6) (subst (λ m. IsChangeMade at capacities (Remove m) (call.Remove (entry_of is.0.0 is.2) ∷ []) (without layout m)) is.4 (remove-done at capacities is.1 is.0 is.2 is.3 is.5 unused))

    run_from : (todo due done : List PlanChange) → plan ≡ done ++ (todo ++ due) → {layout : Layout Rid} {made : ℕ} {objects : Objects} → IsMoment old done layout made objects → (calls : List (Call Rid)) → MakesChanges made layout todo calls → IsEnd capacities old (done ++ todo) made objects calls
    run_from [] due done cut {layout} {made} {objects} at calls run = subst (IsEnd capacities old (done ++ []) made objects) (sym run) (record { legal = tt; layout = layout; at = subst (λ d. IsMoment old d layout made objects) (sym (append-nil done)) at })
    run_from (c ∷ cs) due done cut {layout} {made} {objects} at calls run =
        let step = plan-step done (cs ++ due) at c cut run.0 run.3 in
        subst (IsEnd capacities old (done ++ (c ∷ cs)) made objects) (sym run.2)
        (end-append capacities old _ _ made objects run.0 run.1 (sym (one_then_rest done c cs)) step.legal (run_from cs due (done ++ (c ∷ [])) (cut ∙ one_then_rest done c (cs ++ due)) step.next run.1 run.4))

    -- the calls of the first changes are legal, and lead to a moment
    pub run-end : (todo due : List PlanChange) → plan ≡ todo ++ due → (calls : List (Call Rid)) → MakesChanges made' start todo calls → IsEnd capacities old todo made' objects' calls
    run-end todo due cut calls run = run_from todo due [] cut first calls run

    -- ---- the place of a call in a run

    -- before the calls of a run
    cut_here : (done todo : List PlanChange) {layout : Layout Rid} {made : ℕ} {objects : Objects} → IsMoment old done layout made objects → (ys : List (Call Rid)) → MakesChanges made layout todo ys → IsBreak old done todo made objects [] ys
    cut_here done todo {layout} {made} {objects} at ys run =
        let at' = subst (λ d. IsMoment old d layout made objects) (sym (append-nil done)) at in
        record { more = []; left = todo; all = refl; before = []; part = []; parts = refl; layout = layout; at = at'; run = run; amid = layout; amid_made = made; shown = moment-shown at' capacities }

    nothing_before : (xs m : List (Call Rid)) → xs ++ m ≡ [] → xs ≡ []
    nothing_before [] m e = refl
    nothing_before (x ∷ xs) m e = absurd cc

    module _ (c : PlanChange) (cs due done : List PlanChange) (cut : plan ≡ done ++ (c ∷ (cs ++ due))) {layout : Layout Rid} {made : ℕ} {objects : Objects} (at : IsMoment old done layout made objects) (front rest : List (Call Rid)) (is : MakesChange layout c front) (run : MakesChanges (made_after_all made front) (layout_after made layout c) cs rest) where
      step : IsChangeMade at capacities c front (layout_after made layout c)
      step = plan-step done (cs ++ due) at c cut front is

      -- after the calls of the first change
      cut_after : (xs ys : List (Call Rid)) → xs ≡ front → ys ≡ rest → IsBreak old done (c ∷ cs) made objects xs ys
      cut_after xs ys e f = record {
        more = c ∷ [];
        left = cs;
        all = refl;
        before = front;
        part = [];
        parts = e ∙ sym (append-nil front);
        layout = layout_after made layout c;
        at = step.next;
        run = subst (MakesChanges (made_after_all made front) (layout_after made layout c) cs) (sym f) run;
        amid = layout_after made layout c;
        amid_made = made_after_all made front;
        shown = subst (IsMidMoment old (done ++ (c ∷ [])) (layout_after made layout c) (made_after_all made front)) (ap (after_calls made objects) (sym e)) (moment-shown step.next capacities);
      }

      -- between them
      cut_amid : (xs m ys : List (Call Rid)) → front ≡ xs ++ m → ys ≡ m ++ rest → (amid : Layout Rid) → IsMidMoment old done amid made (after_calls made objects xs) → IsBreak old done (c ∷ cs) made objects xs ys
      cut_amid xs m ys part after amid shown = record {
        more = [];
        left = c ∷ cs;
        all = refl;
        before = [];
        part = xs;
        parts = refl;
        layout = layout;
        at = subst (λ d. IsMoment old d layout made objects) (sym (append-nil done)) at;
        run = (front, rest, ap (λ l. xs ++ l) after ∙ sym (append_assoc xs m rest) ∙ ap (λ l. l ++ rest) (sym part), is, run);
        amid = amid;
        amid_made = made;
        shown = subst (λ d. IsMidMoment old d amid made (after_calls made objects xs)) (sym (append-nil done)) shown;
      }

      before_any : (xs : List (Call Rid)) → xs ≡ [] → IsMidMoment old done layout made (after_calls made objects xs)
      before_any xs none = subst (λ l. IsMidMoment old done layout made (after_calls made objects l)) (sym none) (moment-shown at capacities)

      abbrev SetsPort : Type 0
      SetsPort = (i : Rid) × (u : Thing) × (t : Thing) × layout i u × IsPortName (name_of u) × SetsThing i 0 front layout u t

      -- a change has at most one call, but a port's attributes
      few : (d : PlanChange) → MakesChange layout d front → SetsPort ⊎ ((front ≡ []) ⊎ ((x : Call Rid) × (front ≡ x ∷ [])))
      few (Make t) is = inr (inr (call.Create is.0, is.2))
      few (Remove k) is = inr (inr (call.Remove (entry_of is.0.0 is.2), is.6))
      few (Set t) is = elim (one-set is.0 front layout is.1 t is.4) [ inl port ↦ inl (is.0, is.1, t, is.2, port, is.4) | inr one ↦ inr one ]

      cut_within : (xs m ys : List (Call Rid)) → front ≡ xs ++ m → ys ≡ m ++ rest → IsBreak old done (c ∷ cs) made objects xs ys
      cut_within xs m ys part after =
          elim (few c is) [
            | inl set ↦
                let v = sets-front set.0 0 xs m layout set.1 set.2 (subst (λ l. SetsThing set.0 0 l layout set.1 set.2) part set.5) in
                cut_amid xs m ys part after (with_changed layout set.0 v.0) (port-shown at capacities set.1 v.0 set.0 xs set.3 set.4 v.1)
            | inr calls ↦ elim calls [
              | inl none ↦ cut_amid xs m ys part after layout (before_any xs (nothing_before xs m (sym part ∙ none)))
              | inr one ↦ elim (one_cut xs m one.0 (sym part ∙ one.1)) [
                | inl none ↦ cut_amid xs m ys part after layout (before_any xs none)
                | inr all ↦ cut_after xs ys (all.0 ∙ sym one.1) (after ∙ ap (λ l. l ++ rest) all.1)
              ]
            ]
          ]

      -- behind them
      cut_behind : (xs ms ys : List (Call Rid)) → xs ≡ front ++ ms → IsBreak old (done ++ (c ∷ [])) cs (made_after_all made front) (after_calls made objects front) ms ys → IsBreak old done (c ∷ cs) made objects xs ys
      cut_behind xs ms ys e r =
          let changes = sym (one_then_rest done c r.more) in
          let calls = sym (after-append made objects front ms) ∙ ap (after_calls made objects) (sym e) in
          let count = sym (made-append made front r.before) in record {
            more = c ∷ r.more;
            left = r.left;
            all = ap (λ l. c ∷ l) r.all;
            before = front ++ r.before;
            part = r.part;
            parts = e ∙ ap (λ l. front ++ l) r.parts ∙ sym (append_assoc front r.before r.part);
            layout = r.layout;
            at = moment-same old _ _ r.layout _ _ _ _ changes count (sym (after-append made objects front r.before)) r.at;
            run = subst (λ n. MakesChanges n r.layout r.left (r.part ++ ys)) count r.run;
            amid = r.amid;
            amid_made = r.amid_made;
            shown = subst (IsMidMoment old (done ++ (c ∷ r.more)) r.amid r.amid_made) calls (subst (λ d. IsMidMoment old d r.amid r.amid_made (after_calls (made_after_all made front) (after_calls made objects front) ms)) changes r.shown);
          }

    cut_from : (todo due done : List PlanChange) → plan ≡ done ++ (todo ++ due) → {layout : Layout Rid} {made : ℕ} {objects : Objects} → IsMoment old done layout made objects → (calls xs ys : List (Call Rid)) → MakesChanges made layout todo calls → calls ≡ xs ++ ys → IsBreak old done todo made objects xs ys
    cut_from [] due done cut at calls [] ys run part = cut_here done [] at ys (sym part ∙ run)
    cut_from [] due done cut at calls (x ∷ xs) ys run part = let no = sym run ∙ part in absurd cc
    cut_from (c ∷ cs) due done cut at calls xs ys run part =
        elim (cuts run.0 run.1 xs ys (sym run.2 ∙ part)) [
          | inl m ↦ cut_within c cs due done cut at run.0 run.1 run.3 run.4 xs m.0 ys m.1 m.2
          | inr m ↦ cut_behind c cs due done cut at run.0 run.1 run.3 run.4 xs m.0 ys m.1 (cut_from cs due (done ++ (c ∷ [])) (cut ∙ one_then_rest done c (cs ++ due)) (step c cs due done cut at run.0 run.1 run.3 run.4).next run.1 m.0 ys run.4 m.2)
        ]

    pub run-cut : (todo due : List PlanChange) → plan ≡ todo ++ due → (calls xs ys : List (Call Rid)) → MakesChanges made' start todo calls → calls ≡ xs ++ ys → IsBreak old [] todo made' objects' xs ys
    run-cut todo due cut calls xs ys run part = cut_from todo due [] cut first calls xs ys run part

    -- what stands so many calls later
    pub later-cut : (todo due : List PlanChange) → plan ≡ todo ++ due → (xs ms zs : List (Call Rid)) (c : IsBreak old [] todo made' objects' xs (ms ++ zs)) → IsBreak old c.more c.left (made_after_all made' c.before) (after_calls made' objects' c.before) (c.part ++ ms) zs
    later-cut todo due cut xs ms zs c = cut_from c.left due c.more (cut ∙ ap (λ l. l ++ due) c.all ∙ append_assoc c.more c.left due) c.at (c.part ++ (ms ++ zs)) (c.part ++ ms) zs c.run (sym (append_assoc c.part ms zs))

    pub later-same : (todo : List PlanChange) (xs ms zs : List (Call Rid)) (c : IsBreak old [] todo made' objects' xs (ms ++ zs)) → after_calls (made_after_all made' c.before) (after_calls made' objects' c.before) (c.part ++ ms) ≡ after_calls made' objects' (xs ++ ms)
    later-same todo xs ms zs c = sym (after-append made' objects' c.before (c.part ++ ms)) ∙ ap (after_calls made' objects') (sym (append_assoc c.before c.part ms) ∙ ap (λ l. l ++ ms) (sym c.parts))

  -- ---- the end

  module _ {layout : Layout Rid} {made : ℕ} {objects : Objects} (at : IsMoment old plan layout made objects) where
    pub stands-new : (i : Rid) (t : Thing) → layout i t → IsIn t new
    stands-new i t h = ends-new p t (at.sound i t h)

    pub new-stand : (t : Thing) → IsIn t new → (i : Rid) × layout i t
    new-stand t h = at.all t (new-ends p t h)

    -- after the plan the chip is alike to the new things
    pub plan-alike : HaveWholeGroups new → IsAlike objects (λ t. IsIn t new)
    plan-alike grouped =
        let alike = alike-laid layout objects at.laid made at.whole (record {
          rising = λ i hops h. grouped.rising hops (stands-new i _ h);
          have = λ i hops hop h there. new-stand _ (grouped.have hops hop (stands-new i _ h) there);
          only = λ i hops hop h. grouped.only hops hop (stands-new i _ h);
        }) in record {
          each = λ t h. let x = alike.each t h in (x.0, x.1, stands-new x.2.0 x.0 x.2.1);
          once = λ t h. alike.once t (new-stand t h);
        }
