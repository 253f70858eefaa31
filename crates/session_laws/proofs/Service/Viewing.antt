-- a call on a temporary view, seen as one on a chip of its own to which the view is tied
use Rattle.std.proofs.Common.{◌≡◌, ◌&&◌, ◌<◌, ◌+◌, ◌++◌, ◌∷◌, ◌∙◌, ℕ, Bool, true, false, not, cond, [], None, refl, sym, ap, ap₂, subst}
use Rattle.std.specs.BTreeMap.{insert_entry}
use Rattle.std.specs.List.{AllByRecursion}
use Rattle.std.specs.Map.{values_of}
use Rattle.std.proofs.lemmas.List.{map-append}
use Rattle.std.proofs.lemmas.List.Sums.{sum_by-cons}
use Rattle.sai_types.specs.declared.answer.ChipAnswer.{ChipAnswer}
use Rattle.sai_types.specs.declared.answer.ChipAnswer.TheVariants as answer
use Rattle.sai_types.specs.declared.answer.SyncAnswer.{SyncAnswer}
use Rattle.sai_types.specs.declared.answer.SyncAnswer.TheVariants as sync
use Rattle.sai_types.specs.declared.body.Attr.{Attr}
use Rattle.sai_types.specs.declared.body.Body.{Body}
use Rattle.sai_types.specs.declared.body.Call.{Call}
use Rattle.sai_types.specs.declared.body.Call.TheVariants as call
use Rattle.sai_types.specs.declared.body.Entry.{Entry}
use Rattle.sai_types.specs.declared.ids.Rid.{Rid}
use Rattle.sai_types.specs.declared.ids.Vid.{Vid}
use Rattle.sai_types.specs.declared.kind.Kind.{Kind}
use Rattle.sai_types.specs.After.{after_call, has_id, makes_id, next_id}
use Rattle.sai_types.specs.ChipState.{ChipState, IsAnswered, calls_after}
use Rattle.sai_types.specs.Objects.{entry_cmp, is_of}
use Rattle.sai_types.specs.Refusal.{IsLegal, is_legal}
use Rattle.chip_layout.specs.Renamed.{body_renamed, call_renamed, entry_renamed}
use Rattle.asic_view.specs.declared.object.ViewObject.{ViewObject}
use Rattle.asic_view.specs.View.{IsLegalOn, IsNew, ViewObjects, after_create, after_remove, view_after_set, as_rid, body_set, entry_at, is_named, set_in, shown_by, untied, used_of, with_tie}
use Rattle.syncd_core.specs.Synced.{Changes, IsMadeOnChip, answer_made}
use Rattle.syncd_core.specs.Tied.{tie_of}
use Rattle.apply_laws.proofs.Order.Called.{makes_renamed}
use Rattle.session_laws.specs.Service.Built.{untied_view}
use Rattle.session_laws.proofs.Service.Ending.{tie-alike}

abbrev Item : Type 0
Item = Vid × ViewObject

abbrev bare : Item → Item
bare x = (x.0, untied x.1.body)

-- ---- a view without its ties

pub untied-shown : (f : Vid → Rid) (os : ViewObjects) → shown_by f (untied_view os) ≡ shown_by f os
untied-shown f [] = refl
untied-shown f (x ∷ xs) = ap (λ z. insert_entry entry_cmp z (entry_renamed f (entry_at x.0 x.1.body)) (body_renamed f x.1.body)) (untied-shown f xs)

-- how many there are with one more
pub used-more : (x : Item) (xs : ViewObjects) (kind : Kind) → used_of (x ∷ xs) kind ≡ cond (is_of kind x.1.body) 1 0 + used_of xs kind
used-more x xs kind = sum_by-cons (λ (y : ViewObject). cond (is_of kind y.body) 1 0) x.1 (values_of xs)

pub untied-used : (os : ViewObjects) (kind : Kind) → used_of (untied_view os) kind ≡ used_of os kind
untied-used [] kind = refl
untied-used (x ∷ xs) kind = used-more (bare x) (untied_view xs) kind ∙ ap (λ n. cond (is_of kind x.1.body) 1 0 + n) (untied-used xs kind) ∙ sym (used-more x xs kind)

pub untied-legal : (os : ViewObjects) (c : Call Vid) → IsLegalOn os c → IsLegalOn (untied_view os) c
untied-legal os c x = record { capacities = x.capacities; legal = subst (λ z. IsLegal x.capacities z (call_renamed as_rid c)) (sym (untied-shown as_rid os)) x.legal }

untied_new : (v : Vid) (os : ViewObjects) → AllByRecursion (λ x. x.0.0 < v.0) (untied_view os) → AllByRecursion (λ x. x.0.0 < v.0) os
untied_new v [] h = tt
untied_new v (x ∷ xs) h = (h.0, untied_new v xs h.1)

untied_created : (os : ViewObjects) (v : Vid) (b : Body Vid) → untied_view (after_create os v b) ≡ after_create (untied_view os) v b
untied_created os v b = map-append bare os ((v, untied b) ∷ [])

untied_tie : (os : ViewObjects) (v : Vid) (r : Rid) → untied_view (with_tie os v r) ≡ untied_view os
untied_tie os v r = tie-alike bare (λ w b o p. refl) os v r

untied_set : (os : ViewObjects) (e : Entry Vid) (a : Attr Vid) → untied_view (view_after_set os e a) ≡ view_after_set (untied_view os) e a
untied_set [] e a = refl
untied_set (x ∷ xs) e a = ap₂ (λ y ys. y ∷ ys) (by (is_named e x) refl) (untied_set xs e a)
  where
    by : (b : Bool) → is_named e x ≡ b → bare (set_in e a x) ≡ set_in e a (bare x)
    by true h = ap (λ b. bare (cond b (x.0, record { body = body_set x.1.body a; rid = x.1.rid }) x)) h ∙ ap (λ b. cond b (x.0, record { body = body_set x.1.body a; rid = None }) (bare x)) (sym h)
    by false h = ap (λ b. bare (cond b (x.0, record { body = body_set x.1.body a; rid = x.1.rid }) x)) h ∙ ap (λ b. cond b (x.0, record { body = body_set x.1.body a; rid = None }) (bare x)) (sym h)

untied_removed : (os : ViewObjects) (e : Entry Vid) → untied_view (after_remove os e) ≡ after_remove (untied_view os) e
untied_removed [] e = refl
untied_removed (x ∷ xs) e = by (not (is_named e x)) (untied_removed xs e)
  where
    by : (b : Bool) → untied_view (after_remove xs e) ≡ after_remove (untied_view xs) e → untied_view (cond b (x ∷ after_remove xs e) (after_remove xs e)) ≡ cond b (bare x ∷ after_remove (untied_view xs) e) (after_remove (untied_view xs) e)
    by true rest = ap (λ l. bare x ∷ l) rest
    by false rest = rest

-- ---- the call on a chip of its own

abbrev said_by : Bool → ℕ → ChipAnswer
said_by b n = cond b (answer.Made (record { 0 = n })) answer.Done

-- the chip after a call with effect
abbrev pub chip_then : ChipState → Call Rid → ChipState
chip_then chip d = record {
  objects = after_call (next_id chip.effects) chip.objects d;
  effects = chip.effects ++ d ∷ [];
  capacities = chip.capacities;
  fails = chip.fails;
  clean = chip.clean && is_legal chip.capacities chip.objects d;
  faults = chip.faults;
  before_fault = chip.before_fault;
  calls = calls_after chip.calls;
}

answered_then : (chip : ChipState) (d : Call Rid) → IsLegal chip.capacities chip.objects d → (b : Bool) → makes_id d ≡ b → IsAnswered chip d (said_by b (next_id chip.effects)) (chip_then chip d)
answered_then chip d legal true makes = record { answer = (record { legal = legal; objects = refl; effects = refl }, makes, refl, refl); clean = refl; fault = refl; calls = refl; capacities = refl; fails = refl }
answered_then chip d legal false makes = record { answer = (record { legal = legal; objects = refl; effects = refl }, makes, refl); clean = refl; fault = refl; calls = refl; capacities = refl; fails = refl }

-- the tied view after a call on the temporary one
pub record IsMadeOver (view : ViewObjects) (chip : ChipState) (c : Call Vid) (a : SyncAnswer) (later : ViewObjects) : Type 0 where
  pub view' : ViewObjects
  pub made : IsMadeOnChip view chip c a view' (chip_then chip (call_renamed (tie_of view) c))
  pub same : later ≡ untied_view view'
  pub went : a ≡ sync.Failed → ⊥

made_failed : (v : Vid) → sync.Made v ≡ sync.Failed → ⊥
made_failed v h = cc

done_failed : sync.Done ≡ sync.Failed → ⊥
done_failed h = cc

module _ (view : ViewObjects) (chip : ChipState) where
  created : (b : Body Vid) (v : Vid) (a : SyncAnswer) (later : ViewObjects) → IsLegal chip.capacities chip.objects (call_renamed (tie_of view) (call.Create b)) → IsNew v (untied_view view) → later ≡ after_create (untied_view view) v b → a ≡ answer_made b v → IsMadeOver view chip (call.Create b) a later
  created b v a later legal new is said = by (has_id b) refl
    where
      fresh : IsNew v view
      fresh = record { counted = new.counted; above = untied_new v view new.above }

      by : (t : Bool) → has_id b ≡ t → IsMadeOver view chip (call.Create b) a later
      by true id =
          let r : Rid = record { 0 = next_id chip.effects } in
          let made : a ≡ sync.Made v = said ∙ ap (λ t. cond t (sync.Made v) sync.Done) id in
          record {
            view' = with_tie (after_create view v b) v r;
            made = record { answer = answer.Made r; answered = answered_then chip (call_renamed (tie_of view) (call.Create b)) legal true (makes_renamed (tie_of view) (call.Create b) ∙ id); follows = (v, fresh, refl, made) };
            same = is ∙ sym (untied_created view v b) ∙ sym (untied_tie (after_create view v b) v r);
            went = λ h. made_failed v (sym made ∙ h);
          }
      by false id =
          let done : a ≡ sync.Done = said ∙ ap (λ t. cond t (sync.Made v) sync.Done) id in
          record {
            view' = after_create view v b;
            made = record { answer = answer.Done; answered = answered_then chip (call_renamed (tie_of view) (call.Create b)) legal false (makes_renamed (tie_of view) (call.Create b) ∙ id); follows = (v, fresh, refl, done) };
            same = is ∙ sym (untied_created view v b);
            went = λ h. done_failed (sym done ∙ h);
          }

  pub made-over : (c : Call Vid) (a : SyncAnswer) (later : ViewObjects) → IsLegal chip.capacities chip.objects (call_renamed (tie_of view) c) → Changes (untied_view view) c a later → IsMadeOver view chip c a later
  made-over (call.Create b) a later legal x = created b x.0 a later legal x.1 x.2 x.3
  made-over (call.Set e y) a later legal x = record {
    view' = view_after_set view e y;
    made = record { answer = answer.Done; answered = answered_then chip (call_renamed (tie_of view) (call.Set e y)) legal false refl; follows = (refl, x.1) };
    same = x.0 ∙ sym (untied_set view e y);
    went = λ h. done_failed (sym x.1 ∙ h);
  }
  made-over (call.Remove e) a later legal x = record {
    view' = after_remove view e;
    made = record { answer = answer.Done; answered = answered_then chip (call_renamed (tie_of view) (call.Remove e)) legal false refl; follows = (refl, x.1) };
    same = x.0 ∙ sym (untied_removed view e);
    went = λ h. done_failed (sym x.1 ∙ h);
  }
