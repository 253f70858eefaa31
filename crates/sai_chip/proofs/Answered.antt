-- a call of the simulated chip is one of a chip
use Rattle.std.proofs.Common.{◌≡◌, inl, inr, ℕ, ◌+◌, Bool, true, false, if◌then◌else◌, List, length, Option, None, Some, refl, subst, arith}
use Rattle.sai_types.specs.declared.ids.Rid.{Rid}
use Rattle.sai_types.specs.declared.body.Body.{Body}
use Rattle.sai_types.specs.declared.body.Entry.{Entry}
use Rattle.sai_types.specs.declared.body.Attr.{Attr}
use Rattle.sai_types.specs.declared.body.Call.{Call}
use Rattle.sai_types.specs.declared.body.Call.TheVariants as call
use Rattle.sai_types.specs.declared.answer.ChipAnswer.{ChipAnswer}
use Rattle.sai_types.specs.declared.answer.ChipAnswer.TheVariants as answer
use Rattle.sai_types.specs.ChipState.{ChipState, Answers, IsAnswered, StaysSame, TakesEffect, fault_behind}
use Rattle.sai_types.specs.Objects.{Objects, body_at}
use Rattle.sai_types.specs.After.{makes_id, next_id}
use Rattle.sai_types.specs.Refusal.{first_refusal, refusal_of, set_refusal, remove_refusal, is_legal}
use Rattle.sai_chip.specs.Sim.{ResultsBy, counted, effect_answer, is_failed, refusal_at}

abbrev is_refusal : ChipAnswer → Bool
is_refusal answer.Exists = true
is_refusal answer.BadReference = true
is_refusal answer.NotFound = true
is_refusal answer.InUse = true
is_refusal answer.Full = true
is_refusal _ = false

refusal-first_of : (b : Bool) (a r : ChipAnswer) (rest : Option ChipAnswer) → is_refusal a ≡ true → (rest ≡ Some r → is_refusal r ≡ true) → first_refusal b a rest ≡ Some r → is_refusal r ≡ true
refusal-first_of true a r rest k f e = let same : a ≡ r = cc in subst (λ x. is_refusal x ≡ true) same k
refusal-first_of false a r rest k f e = f e

refusal-set : (objects : Objects) (o : Option (Body Rid)) (a : Attr Rid) (r : ChipAnswer) → set_refusal objects o a ≡ Some r → is_refusal r ≡ true
refusal-set objects None a r e = let same : answer.NotFound ≡ r = cc in subst (λ x. is_refusal x ≡ true) same refl
refusal-set objects (Some b) a r e = refusal-first_of _ answer.NotFound r _ refl (refusal-first_of _ answer.BadReference r None refl (λ n. cc)) e

refusal-remove : (objects : Objects) (x : Entry Rid) (o : Option (Body Rid)) (r : ChipAnswer) → remove_refusal objects x o ≡ Some r → is_refusal r ≡ true
refusal-remove objects x None r e = let same : answer.NotFound ≡ r = cc in subst (λ x. is_refusal x ≡ true) same refl
refusal-remove objects x (Some b) r e = refusal-first_of _ answer.InUse r None refl (λ n. cc) e

-- what the table refuses with
is_refusal-refusal_of : (capacities : List ℕ) (objects : Objects) (c : Call Rid) (r : ChipAnswer) → refusal_of capacities objects c ≡ Some r → is_refusal r ≡ true
is_refusal-refusal_of capacities objects (call.Create b) r e = refusal-first_of _ answer.BadReference r _ refl (refusal-first_of _ answer.Exists r _ refl (refusal-first_of _ answer.Full r None refl (λ n. cc))) e
is_refusal-refusal_of capacities objects (call.Set x a) r e = refusal-set objects (body_at objects x) a r e
is_refusal-refusal_of capacities objects (call.Remove x) r e = refusal-remove objects x (body_at objects x) r e

refused : (old new : ChipState) (c : Call Rid) (r : ChipAnswer) → is_refusal r ≡ true → refusal_of old.capacities old.objects c ≡ Some r → StaysSame old new → new.faults ≡ old.faults → Answers old c r new
refused old new c answer.Exists k e s f = (e, s, f)
refused old new c answer.BadReference k e s f = (e, s, f)
refused old new c answer.NotFound k e s f = (e, s, f)
refused old new c answer.InUse k e s f = (e, s, f)
refused old new c answer.Full k e s f = (e, s, f)
refused old new c (answer.Made id) k e s f = absurd cc
refused old new c answer.Done k e s f = absurd cc
refused old new c answer.Failed k e s f = absurd cc
refused old new c answer.NoMemory k e s f = absurd cc

took_effect : (old new : ChipState) (c : Call Rid) (b : Bool) → makes_id c ≡ b → TakesEffect old c new → new.faults ≡ old.faults → Answers old c (if b then answer.Made (record { 0 = next_id old.effects }) else answer.Done) new
took_effect old new c true e t f = (t, e, refl, f)
took_effect old new c false e t f = (t, e, f)

id_not_failed : (b : Bool) (id : Rid) → is_failed (if b then answer.Made id else answer.Done) ≡ false
id_not_failed true id = refl
id_not_failed false id = refl

refusal_not_failed : (r : ChipAnswer) → is_refusal r ≡ true → is_failed r ≡ false
refusal_not_failed answer.Failed k = cc
refusal_not_failed answer.Exists k = refl
refusal_not_failed answer.BadReference k = refl
refusal_not_failed answer.NotFound k = refl
refusal_not_failed answer.InUse k = refl
refusal_not_failed answer.Full k = refl
refusal_not_failed (answer.Made id) k = refl
refusal_not_failed answer.Done k = refl
refusal_not_failed answer.NoMemory k = refl

as_many : (failed : Bool) (n : ℕ) → failed ≡ false → (n + (if failed then 1 else 0)) ≡ n
as_many true n e = absurd cc
as_many false n e = omega arith

-- what came before the last failing call is counted as the answer says
fault_is : (a : ChipAnswer) (old : ChipState) → (if is_failed a then length old.effects else old.before_fault) ≡ fault_behind old a
fault_is answer.Failed old = refl
fault_is (answer.Made id) old = refl
fault_is answer.Done old = refl
fault_is answer.Exists old = refl
fault_is answer.BadReference old = refl
fault_is answer.NotFound old = refl
fault_is answer.InUse old = refl
fault_is answer.Full old = refl
fault_is answer.NoMemory old = refl

answered_by : (fault : Option Bool) (refusal : Option ChipAnswer) (old left new : ChipState) (c : Call Rid) (a : ChipAnswer) → refusal_at old c ≡ refusal → ResultsBy fault refusal old c a left → new ≡ counted (is_legal old.capacities old.objects c) (is_failed a) (length old.effects) left → IsAnswered old c a new
answered_by fault refusal old left new c a e (inr (ea, el)) counts = rw (counts, el, ea) (record {
  answer = (record { objects = refl; effects = refl }, omega arith);
  clean = refl;
  fault = refl;
  calls = refl;
  capacities = refl;
  fails = refl;
})
answered_by None None old left new c a e (inl (ea, el)) counts = rw (counts, el, ea) (record {
  answer = took_effect old _ c (makes_id c) refl (record { legal = e; objects = refl; effects = refl }) (as_many _ old.faults (id_not_failed (makes_id c) _));
  clean = refl;
  fault = fault_is (effect_answer old c) old;
  calls = refl;
  capacities = refl;
  fails = refl;
})
answered_by None (Some r) old left new c a e (inl (ea, el)) counts = rw (counts, el, ea) (record {
  answer = refused old _ c r (is_refusal-refusal_of old.capacities old.objects c r e) e (record { objects = refl; effects = refl }) (as_many _ old.faults (refusal_not_failed r (is_refusal-refusal_of old.capacities old.objects c r e)));
  clean = refl;
  fault = fault_is r old;
  calls = refl;
  capacities = refl;
  fails = refl;
})
answered_by (Some true) None old left new c a e (inl (ea, el)) counts = rw (counts, el, ea) (record {
  answer = (inr (record { legal = e; objects = refl; effects = refl }), omega arith);
  clean = refl;
  fault = refl;
  calls = refl;
  capacities = refl;
  fails = refl;
})
answered_by (Some false) None old left new c a e (inl (ea, el)) counts = rw (counts, el, ea) (record {
  answer = (inl (record { objects = refl; effects = refl }), omega arith);
  clean = refl;
  fault = refl;
  calls = refl;
  capacities = refl;
  fails = refl;
})
answered_by (Some after) (Some r) old left new c a e (inl (ea, el)) counts = rw (counts, el, ea) (record {
  answer = (inl (record { objects = refl; effects = refl }), omega arith);
  clean = refl;
  fault = refl;
  calls = refl;
  capacities = refl;
  fails = refl;
})

pub answered : (fault : Option Bool) (old left new : ChipState) (c : Call Rid) (a : ChipAnswer) → ResultsBy fault (refusal_at old c) old c a left → new ≡ counted (is_legal old.capacities old.objects c) (is_failed a) (length old.effects) left → IsAnswered old c a new
answered fault old left new c a results counts = answered_by fault (refusal_at old c) old left new c a refl results counts
