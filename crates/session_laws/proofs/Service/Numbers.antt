-- the identifiers of a chip's objects are numbers from 1 on, after each step too
use Rattle.std.proofs.Common.{◌≡◌, ◌+◌, ◌<◌, ◌∙◌, inl, inr, ℕ, Bool, true, false, cond, List, Option, None, Some, refl, sym, ap, subst, arith}
use Rattle.std.specs.BTreeMap.{insert_entry}
use Rattle.table_schema.specs.Plan.{Ports}
use Rattle.sai_types.specs.declared.ids.Rid.{Rid}
use Rattle.sai_types.specs.declared.body.Attr.{Attr}
use Rattle.sai_types.specs.declared.body.Body.{Body}
use Rattle.sai_types.specs.declared.body.Body.TheVariants as body
use Rattle.sai_types.specs.declared.body.Call.{Call}
use Rattle.sai_types.specs.declared.body.Call.TheVariants as call
use Rattle.sai_types.specs.declared.body.Entry.{Entry}
use Rattle.sai_types.specs.declared.body.Entry.TheVariants as entry
use Rattle.sai_types.specs.After.{after_call, after_set, entry_of, with_attr}
use Rattle.sai_types.specs.Made.{AreSorted, same_entry}
use Rattle.sai_types.specs.Objects.{Objects, body_at, entry_cmp}
use Rattle.sai_types.proofs.Exact.{entry-exact}
use Rattle.sai_types.proofs.Found.{body_at-insert, body_at-remove}
use Rattle.switch_machine.specs.Events.{IsEvent, SwitchState}
use Rattle.restart_laws.specs.Invariant.{Holds}
use Rattle.restart_laws.specs.Logged.{IsLoggedStep, LoggedService, OfMachine, OfService}
use Rattle.restart_laws.specs.Service.{HasFailed, IsServiceEvent, OfApply, OfFault, OfFinish, OfList, OfListFault, OfRestart, OfRestore, OfTake, OfWork}
use Rattle.session_laws.specs.Service.Standing.{HaveNumbers}

-- a new identifier is its number
own_number : (r : Rid) (n : ℕ) (b : Body Rid) → entry.Oid r ≡ entry_of n b → r.0 ≡ n
own_number r n (body.OwnAddress vr ip) h = absurd cc
own_number r n (body.Neighbor rif ip mac) h = absurd cc
own_number r n (body.Route vr prefix to) h = absurd cc
own_number r n (body.Port lanes speed mtu up) h = let is : r ≡ record { 0 = n } = cc in ap (λ (z : Rid). z.0) is
own_number r n _ h = let is : r ≡ record { 0 = n } = cc in ap (λ (z : Rid). z.0) is

module _ (objects : Objects) (have : HaveNumbers objects) where
  put : (e : Entry Rid) (b : Body Rid) → ((r : Rid) → entry.Oid r ≡ e → 0 < r.0) → HaveNumbers (insert_entry entry_cmp objects e b)
  put e b own r d found = by (same_entry (entry.Oid r) e) refl (sym (body_at-insert objects e b (entry.Oid r)) ∙ found)
    where
      by : (t : Bool) → same_entry (entry.Oid r) e ≡ t → cond t (Some b) (body_at objects (entry.Oid r)) ≡ Some d → 0 < r.0
      by true same h = own r (entry-exact (entry.Oid r) e same)
      by false same h = have r d h

  set : (e : Entry Rid) (a : Attr Rid) (o : Option (Body Rid)) → body_at objects e ≡ o → HaveNumbers (after_set objects e a o)
  set e a None at = have
  set e a (Some b) at = put e (with_attr b a) (λ r is. have r b (ap (body_at objects) is ∙ at))

  removed : (e : Entry Rid) (r : Rid) (d : Body Rid) (t : Bool) → cond t None (body_at objects (entry.Oid r)) ≡ Some d → 0 < r.0
  removed e r d true h = absurd cc
  removed e r d false h = have r d h

  pub called-numbers : AreSorted objects → (n : ℕ) (c : Call Rid) → HaveNumbers (after_call (n + 1) objects c)
  called-numbers sorted n (call.Create b) = put (entry_of (n + 1) b) b (λ r is. let same = own_number r (n + 1) b is in omega (arith, same))
  called-numbers sorted n (call.Set e a) = set e a (body_at objects e) refl
  called-numbers sorted n (call.Remove e) = λ r d found. removed e r d (same_entry e (entry.Oid r)) (sym (body_at-remove objects e (entry.Oid r) sorted) ∙ found)

module _ (s t : SwitchState) (sorted : AreSorted s.objects) (have : HaveNumbers s.objects) where
  same : t.objects ≡ s.objects → HaveNumbers t.objects
  same h = subst HaveNumbers (sym h) have

  called : (c : Call Rid) → t.objects ≡ after_call (s.made + 1) s.objects c → HaveNumbers t.objects
  called c h = subst HaveNumbers (sym h) (called-numbers s.objects have sorted s.made c)

  event_numbers : (plan : Ports) (capacities : List ℕ) (c : Option (Call Rid)) → IsEvent plan 4 capacities s c t → HaveNumbers t.objects
  event_numbers plan capacities None (inl x) = same x.objects
  event_numbers plan capacities None (inr (inl x)) = same x.objects
  event_numbers plan capacities None (inr (inr (inl x))) = same x.objects
  event_numbers plan capacities None (inr (inr (inr x))) = same x.objects
  event_numbers plan capacities (Some c) x = called c x.objects

  failed_numbers : (c : Call Rid) (effect : Option (Call Rid)) → HasFailed c s effect t → HaveNumbers t.objects
  failed_numbers c None x = same x.1
  failed_numbers c (Some e) x = called c x.2

module _ (plan : Ports) (capacities : List ℕ) (s t : LoggedService) (holds : Holds plan 4 capacities s.service) (have : HaveNumbers s.service.core.objects) where
  sorted : AreSorted s.service.core.objects
  sorted = holds.safe.chip.whole.sorted

  as_before : t.service.core ≡ s.service.core → HaveNumbers t.service.core.objects
  as_before h = subst (λ (z : SwitchState). HaveNumbers z.objects) (sym h) have

  service_numbers : (c : Option (Call Rid)) → IsServiceEvent plan 4 capacities s.service c t.service → HaveNumbers t.service.core.objects
  service_numbers _ (OfTake _ x) = same s.service.core t.service.core sorted have x.core.objects
  service_numbers _ (OfWork c _ x) = event_numbers s.service.core t.service.core sorted have plan capacities c x.event
  service_numbers _ (OfFault c _ x) = failed_numbers s.service.core t.service.core sorted have x.call c x.chip
  service_numbers _ (OfListFault _ x) = as_before x.core
  service_numbers _ (OfRestart _ x) = subst (λ (z : SwitchState). HaveNumbers z.objects) (sym x.core) have
  service_numbers _ (OfList _ x) = as_before x.core
  service_numbers _ (OfRestore _ x) = same s.service.core t.service.core sorted have x.objects
  service_numbers _ (OfApply c _ x) = called s.service.core t.service.core sorted have c x.objects
  service_numbers _ (OfFinish _ x) = same s.service.core t.service.core sorted have x.objects

  pub step-numbers : IsLoggedStep plan 4 capacities s t → HaveNumbers t.service.core.objects
  step-numbers (OfService c e effects records) = service_numbers c e
  step-numbers (OfMachine at later (inl x)) = same s.service.core t.service.core sorted have x.takes.objects
  step-numbers (OfMachine at later (inr (inl x))) = event_numbers s.service.core t.service.core sorted have plan capacities x.call x.event
  step-numbers (OfMachine at later (inr (inr x))) = as_before x.switch
