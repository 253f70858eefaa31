-- one pass over the rows against an empty view is a run of the machine, and ends without operations
use Rattle.std.proofs.Common.{◌≡◌, ◌∷◌, inl, inr, ℕ, List, [], None, Some, sym, subst}
use Rattle.table_schema.specs.Plan.{Ports, IsPlan}
use Rattle.table_schema.specs.declared.key.Key.{Key}
use Rattle.sai_types.specs.declared.ids.Rid.{Rid}
use Rattle.sai_types.specs.declared.body.Call.{Call}
use Rattle.switch_model.specs.declared.wait.Wait.{Wait}
use Rattle.switch_machine.specs.Events.{AreAnswers, SwitchState, IsDrop, IsSafe, IsQuiet, after_answers, fresh_view}
use Rattle.switch_machine.specs.Flights.{MachineFlight, Machine}
use Rattle.switch_machine.specs.Written.{HasWrittenRows, IsTold, Written}
use Rattle.switch_machine.proofs.Dated.{dated-popped}
use Rattle.switch_machine.proofs.Kept.{kept-answers, kept_drops}
use Rattle.switch_machine.proofs.Runs.{kept-run, safe-fresh}
use Rattle.switch_machine.proofs.Telling.{told-popped}
use Rattle.restart_laws.specs.Restored.{IsAlone, IsPass, IsRestored}

module _ (plan : Ports) (is : IsPlan plan) (workers : ℕ) (capacities : List ℕ) where
  answers_keep : (s : SwitchState) (es : List (Call Rid × SwitchState)) → IsSafe plan workers capacities s → AreAnswers plan workers s es → IsSafe plan workers capacities (after_answers s es)
  answers_keep s [] kept run = kept
  answers_keep s (e ∷ es) kept run = answers_keep e.1 es (kept-answers plan is workers capacities s e.1 kept e.0 run.0) run.1

  pub alone-keeps : (s t : SwitchState) (k : Key) → IsSafe plan workers capacities s → IsAlone plan workers capacities s k t → IsSafe plan workers capacities t
  alone-keeps s t k kept x =
      subst (IsSafe plan workers capacities) (sym x.ends)
      (answers_keep x.first x.answers (kept-run plan is workers capacities s ((None, x.first) ∷ []) kept (inr (inr (inr x.starting)), tt)) x.run)

  pub drops-quiet : (s t : SwitchState) → IsQuiet s → IsDrop plan s t → IsQuiet t
  drops-quiet s t quiet x = subst (λ (z : Machine). (w : ℕ) (f : MachineFlight) → z.board.flights w ≡ Some f → ⊥) (sym x.machine) quiet

  pub pass-keeps : (s t : SwitchState) (ks : List Key) (waits : List (Key × Wait)) → IsSafe plan workers capacities s → IsQuiet s → IsPass plan workers capacities s ks waits t → IsSafe plan workers capacities t × IsQuiet t
  pass-keeps s t [] waits kept quiet x = (subst (IsSafe plan workers capacities) (sym x.1) kept, subst IsQuiet (sym x.1) quiet)
  pass-keeps s t (k ∷ ks) waits kept quiet (inl x) = pass-keeps s t ks x.0.rest kept quiet x.1
  pass-keeps s t (k ∷ ks) waits kept quiet (inr (mid, inl x, rest)) = pass-keeps mid t ks waits (kept_drops plan is workers capacities s mid kept x.0) (drops-quiet s mid quiet x.0) rest
  pass-keeps s t (k ∷ ks) waits kept quiet (inr (mid, inr x, rest)) = pass-keeps mid t ks waits (alone-keeps s mid k kept x) x.quiet rest

  -- the rows are restored from a safe beginning
  pub restored-fresh : (s : Written) (view : SwitchState) → IsTold s → HasWrittenRows s → (x : IsRestored plan workers capacities s view) → IsSafe plan workers capacities (fresh_view x.written x.keys)
  restored-fresh s view told dated x = safe-fresh plan is workers capacities x.written x.keys (told-popped s x.written x.popped told) (dated-popped s x.written told x.popped dated) x.all

  -- what is restored is safe, and no operation is under way
  pub restored-keeps : (s : Written) (view : SwitchState) → IsTold s → HasWrittenRows s → IsRestored plan workers capacities s view → IsSafe plan workers capacities view × IsQuiet view
  restored-keeps s view told dated x = pass-keeps (fresh_view x.written x.keys) view x.keys x.waits (restored-fresh s view told dated x) (λ w f at. cc) x.pass
