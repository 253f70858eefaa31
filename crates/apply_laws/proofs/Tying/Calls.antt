-- calls that are made on a view and on the chip to which it is tied
use Rattle.std.proofs.Common.{◌≡◌, ℕ, ◌+◌, Bool, true, false, List, [], None, Option, Some, ◌++◌, ◌∷◌, if◌then◌else◌, refl, sym, ap, ◌∙◌, subst, arith}
use Rattle.std.proofs.lemmas.Bool.{false≢true}
use Rattle.sai_types.specs.declared.answer.ChipAnswer.{ChipAnswer}
use Rattle.sai_types.specs.declared.answer.ChipAnswer.TheVariants as answer
use Rattle.sai_types.specs.declared.answer.SyncAnswer.{SyncAnswer}
use Rattle.sai_types.specs.declared.answer.SyncAnswer.TheVariants as sync
use Rattle.sai_types.specs.declared.ids.Rid.{Rid}
use Rattle.sai_types.specs.declared.ids.Vid.{Vid}
use Rattle.sai_types.specs.declared.kind.Kind.{Kind}
use Rattle.sai_types.specs.declared.body.Body.{Body}
use Rattle.sai_types.specs.declared.body.Body.TheVariants as body
use Rattle.sai_types.specs.declared.body.Call.{Call}
use Rattle.sai_types.specs.declared.body.Call.TheVariants as call
use Rattle.sai_types.specs.declared.body.Entry.TheVariants as entry
use Rattle.sai_types.specs.After.{after_call, has_id, next_id}
use Rattle.sai_types.specs.ChipState.{Answers, ChipState}
use Rattle.sai_types.specs.Made.{IsWhole, made_after}
use Rattle.sai_types.specs.Objects.{Objects, used}
use Rattle.sai_types.specs.Refusal.{IsLegal}
use Rattle.chip_layout.specs.Renamed.{body_renamed, call_renamed}
use Rattle.asic_view.specs.declared.object.ViewObject.{ViewObject}
use Rattle.asic_view.specs.View.{IsLegalOn, IsLegalWith, IsNew, ViewObjects, after_create, rid_at, shown_by, untied, used_of, with_tie}
use Rattle.syncd_core.specs.Synced.{CanCall, AnswerFollows, IsMadeOnChip, SyncState, current, view_in}
use Rattle.syncd_core.specs.Tied.{tie_of}
use Rattle.apply_laws.specs.Following.{IsDone, LosesTie, TiesFollow}
use Rattle.apply_laws.specs.Named.{InCall}
use Rattle.apply_laws.specs.Ties.{AreTied, IsTie, IsTied}
use Rattle.apply_laws.proofs.Tying.Alike.{own-chip}
use Rattle.apply_laws.proofs.Tying.Counted.{counted}
use Rattle.apply_laws.proofs.Tying.Making.{after-made, changed-last, none-yet, rid-new, rid-old, rid-untied}
use Rattle.apply_laws.proofs.Tying.Removing.{after-removed, id-untied, key-alike}
use Rattle.apply_laws.proofs.Tying.Renamed.{call-tied, legal-with}
use Rattle.apply_laws.proofs.Tying.Setting.{after-set, rid-set}

id_renamed : (f : Vid → Rid) (b : Body Vid) → has_id (body_renamed f b) ≡ has_id b
id_renamed f (body.Port lanes speed mtu up) = refl
id_renamed f (body.Vlan vlan) = refl
id_renamed f _ = refl

tie_made : (made : ℕ) (r : Rid) (id : Bool) → id ≡ true → r.0 ≡ made + 1 → IsTie (if id then made + 1 else made) id (Some r)
tie_made made r true is number = (omega (arith, number), omega (arith, number))
tie_made made r false is number = absurd (false≢true is)

no_tie : (made : ℕ) (id : Bool) → id ≡ false → IsTie (if id then made + 1 else made) id None
no_tie made false is = tt
no_tie made true is = absurd (false≢true (sym is))

-- an object that was made and tied
tied_last : (view : ViewObjects) (v : Vid) (b : Body Vid) (r : Rid) (view' : ViewObjects) → IsNew v view → view' ≡ with_tie (after_create view v b) v r → view' ≡ view ++ (v, record { body = b; rid = Some r }) ∷ []
tied_last view v b r view' new is = is ∙ changed-last view v (untied b) (λ (x : ViewObject). record { body = x.body; rid = Some r }) new.above

abbrev chip_of : ViewObjects → Objects
chip_of view = shown_by (tie_of view) view

-- ---- beside the chip that the view itself shows

module _ (view view' : ViewObjects) (made : ℕ) (capacities : List ℕ) (tied : AreTied view made (chip_of view)) (whole : IsWhole made (chip_of view)) (a : SyncAnswer) where
  abbrev t : Vid → Rid
  t = tie_of view

  abbrev IsKept : Call Rid → Type 0
  IsKept c = AreTied view' (made_after made c) (after_call (made + 1) (chip_of view) c)

  made_kept : (b : Body Vid) (v : Vid) (o : Option Rid) → IsNew v view → view' ≡ view ++ (v, record { body = b; rid = o }) ∷ [] → AreTied (view ++ (v, record { body = b; rid = o }) ∷ []) (if has_id b then made + 1 else made) (after_call (made + 1) (chip_of view) (call.Create (body_renamed t b))) → IsKept (call.Create (body_renamed t b))
  made_kept b v o new is after =
      subst (λ l. AreTied l (made_after made (call.Create (body_renamed t b))) (after_call (made + 1) (chip_of view) (call.Create (body_renamed t b)))) (sym is)
      (subst (λ id. AreTied (view ++ (v, record { body = b; rid = o }) ∷ []) (if id then made + 1 else made) (after_call (made + 1) (chip_of view) (call.Create (body_renamed t b)))) (sym (id_renamed t b)) after)

  following : (c : Call Vid) (chip : ChipAnswer) → IsLegal capacities (chip_of view) (call_renamed (tie_of view) c) → IsDone made (call_renamed (tie_of view) c) chip → AnswerFollows view c chip a view' → IsKept (call_renamed (tie_of view) c)
  following (call.Create b) (answer.Made r) legal done (v, new, is, said) =
      made_kept b v (Some r) new (tied_last view v b r view' new is)
      (after-made view made tied whole capacities b legal v new (Some r) (λ id. done.1) (tie_made made r (has_id b) (sym (id_renamed t b) ∙ done.0) done.1))
  following (call.Create b) answer.Done legal done (v, new, is, said) =
      let none = sym (id_renamed t b) ∙ done in
      made_kept b v None new is (after-made view made tied whole capacities b legal v new None (λ id. absurd (false≢true (sym none ∙ id))) (no_tie made (has_id b) none))
  following (call.Set e x) answer.Done legal done f = subst (λ l. AreTied l made (after_call (made + 1) (chip_of view) (call_renamed t (call.Set e x)))) (sym f.0) (after-set e x view made tied whole capacities legal)
  following (call.Remove e) answer.Done legal done f = subst (λ l. AreTied l made (after_call (made + 1) (chip_of view) (call_renamed t (call.Remove e)))) (sym f.0) (after-removed view made tied whole capacities e legal)
  following (call.Set e x) (answer.Made r) legal done f = absurd f
  following (call.Remove e) (answer.Made r) legal done f = absurd f
  following c _ legal done f = absurd done

  staying : (c : Call Vid) (chip : ChipAnswer) → IsLegal capacities (chip_of view) (call_renamed (tie_of view) c) → AnswerFollows view c chip a view' → TiesFollow view c chip a view'
  staying (call.Create b) (answer.Made r) legal (v, new, is, said) =
      let last = tied_last view v b r view' new is in
      let x : ViewObject = record { body = b; rid = Some r } in
      (v, said, record { new = new; none = none-yet view v new; tied = ap (λ l. rid_at l v) last ∙ rid-new view v new x; others = λ w apart. ap (λ l. rid_at l w) last ∙ rid-old view v new x w apart })
  staying (call.Create b) answer.Done legal (v, new, is, said) = λ w. ap (λ l. rid_at l w) is ∙ rid-untied view v new (untied b) refl w
  staying (call.Set e x) answer.Done legal f = λ w. ap (λ l. rid_at l w) f.0 ∙ rid-set e x view w
  staying (call.Remove (entry.Oid v)) answer.Done legal f = subst (LosesTie view v) (sym f.0) (id-untied view made tied whole capacities (entry.Oid v) legal v refl)
  staying (call.Remove (entry.Own r ip)) answer.Done legal f = λ w. ap (λ l. rid_at l w) f.0 ∙ key-alike view made tied whole capacities (entry.Own r ip) legal refl w
  staying (call.Remove (entry.Neigh v ip)) answer.Done legal f = λ w. ap (λ l. rid_at l w) f.0 ∙ key-alike view made tied whole capacities (entry.Neigh v ip) legal refl w
  staying (call.Remove (entry.Route r prefix)) answer.Done legal f = λ w. ap (λ l. rid_at l w) f.0 ∙ key-alike view made tied whole capacities (entry.Route r prefix) legal refl w
  staying (call.Create b) answer.Failed legal f = λ w. ap (λ l. rid_at l w) f.0
  staying (call.Set e x) answer.Failed legal f = λ w. ap (λ l. rid_at l w) f.0
  staying (call.Remove (entry.Oid v)) answer.Failed legal f = λ w. ap (λ l. rid_at l w) f.0
  staying (call.Remove e) answer.Failed legal f = λ w. ap (λ l. rid_at l w) f.0
  staying (call.Create b) _ legal f = absurd f
  staying (call.Set e x) _ legal f = absurd f
  staying (call.Remove (entry.Oid v)) _ legal f = absurd f
  staying (call.Remove e) _ legal f = absurd f

-- ---- and beside the chip whose objects these are

module _ (view : ViewObjects) (made : ℕ) (objects : Objects) (tied : AreTied view made objects) where
  abbrev own : AreTied view made (chip_of view)
  own = own-chip view made objects tied

  pub used-alike : (k : Kind) → used_of view k ≡ used objects k
  used-alike k = counted k (tie_of view) view tied.once ∙ ap (λ o. used o k) tied.shown

  module _ (whole : IsWhole made objects) where
    own_whole : IsWhole made (chip_of view)
    own_whole = subst (IsWhole made) (sym tied.shown) whole

    module _ (capacities : List ℕ) (c : Call Vid) (legal : IsLegal capacities objects (call_renamed (tie_of view) c)) where
      own_legal : IsLegal capacities (chip_of view) (call_renamed (tie_of view) c)
      own_legal = subst (λ o. IsLegal capacities o (call_renamed (tie_of view) c)) (sym tied.shown) legal

      pub known : InCall (IsTied view) c
      known = call-tied view made own own_whole capacities c own_legal

      pub legal-here : IsLegalWith capacities view c
      legal-here = legal-with view made own own_whole capacities c own_legal

      pub legal-on : IsLegalOn view c
      legal-on = record { capacities = capacities; legal = legal-here }

      module _ (view' : ViewObjects) (chip : ChipAnswer) (a : SyncAnswer) (f : AnswerFollows view c chip a view') where
        pub tied-after : IsDone made (call_renamed (tie_of view) c) chip → AreTied view' (made_after made (call_renamed (tie_of view) c)) (after_call (made + 1) objects (call_renamed (tie_of view) c))
        tied-after done = subst (λ o. AreTied view' (made_after made (call_renamed (tie_of view) c)) (after_call (made + 1) o (call_renamed (tie_of view) c))) tied.shown (following view view' made capacities own own_whole a c chip own_legal done f)

        pub ties-after : TiesFollow view c chip a view'
        ties-after = staying view view' made capacities own own_whole a c chip own_legal f

-- ---- with syncd and the chip

pub can-call : (s : SyncState) (made : ℕ) (chip : ChipState) (c : Call Vid) → s.temporary ≡ None → AreTied s.view made chip.objects → IsWhole made chip.objects → IsLegal chip.capacities chip.objects (call_renamed (tie_of s.view) c) → CanCall s s.temporary chip c
can-call s made chip c none tied whole legal = subst (λ o. CanCall s o chip c) (sym none) (legal-on s.view made chip.objects tied whole chip.capacities c legal, legal)

pub current-used : (s : SyncState) (made : ℕ) (objects : Objects) (k : Kind) → s.temporary ≡ None → AreTied s.view made objects → used_of (current s) k ≡ used objects k
current-used s made objects k none tied = ap (λ o. used_of (view_in s.view o) k) none ∙ used-alike s.view made objects tied k

record IsGood (made : ℕ) (chip : ChipState) (c : Call Rid) (a : ChipAnswer) (chip' : ChipState) : Type 0 where
  pub done : IsDone made c a
  pub legal : IsLegal chip.capacities chip.objects c
  pub objects : chip'.objects ≡ after_call (made + 1) chip.objects c

module _ (view view' : ViewObjects) (made : ℕ) (chip chip' : ChipState) (a : SyncAnswer) (next : next_id chip.effects ≡ made + 1) (went : a ≡ sync.Failed → ⊥) where
  good : (c : Call Vid) (d : Call Rid) (said : ChipAnswer) → Answers chip d said chip' → AnswerFollows view c said a view' → IsGood made chip d said chip'
  good c d (answer.Made r) h f = record { done = (h.1, h.2 ∙ next); legal = h.0.legal; objects = h.0.objects ∙ ap (λ n. after_call n chip.objects d) next }
  good c d answer.Done h f = record { done = h.1; legal = h.0.legal; objects = h.0.objects ∙ ap (λ n. after_call n chip.objects d) next }
  good (call.Create b) d answer.Failed h f = absurd (went f.1)
  good (call.Set e x) d answer.Failed h f = absurd (went f.1)
  good (call.Remove e) d answer.Failed h f = absurd (went f.1)
  good (call.Create b) d _ h f = absurd f
  good (call.Set e x) d _ h f = absurd f
  good (call.Remove e) d _ h f = absurd f

  pub tied-made : (c : Call Vid) → AreTied view made chip.objects → IsWhole made chip.objects → IsMadeOnChip view chip c a view' chip' → AreTied view' (made_after made (call_renamed (tie_of view) c)) chip'.objects
  tied-made c tied whole is =
      let went_well = good c (call_renamed (tie_of view) c) is.answer is.answered.answer is.follows in
      subst (AreTied view' (made_after made (call_renamed (tie_of view) c))) (sym went_well.objects) (tied-after view made chip.objects tied whole chip.capacities c went_well.legal view' is.answer a is.follows went_well.done)
