-- the operation with which a start leaves
use Rattle.std.proofs.Common.{◌≡◌, ℕ, List, Option, None, is_some, Result, sym, ap, ◌∙◌}
use Rattle.table_schema.specs.Plan.{Ports}
use Rattle.table_schema.specs.declared.key.Key.{Key}
use Rattle.switch_model.specs.Placed.{Placed as Row}
use Rattle.switch_model.specs.declared.wait.Wait.{Wait}
use Rattle.row_layout.specs.Operations.{Change}
use Rattle.row_layout.specs.Rows.{Owner}
use Rattle.ref_counts.specs.Registry.{Names}
use Rattle.ref_counts.specs.Room.{RoomState}
use Rattle.orch_flight.specs.Operation.{Operation}
use Rattle.orch_flight.specs.Starting.{IsStartedBy, answered, begun_names, first_due, leaving, started_by, started_operation}
use Rattle.orch_flight.proofs.Begins.{started-plain}
use Rattle.intf_orch.specs.Interfaces.{due_of, intf_operation, retires_of, row_where, subject_key, subject_new, subject_old}
use Rattle.intf_orch.specs.declared.stage.Subject.{Subject}

-- a subject's operation, by its parts
pub operation-is : (worker : ℕ) (s : Subject) (old new : Option Row) (due : List Change) (retires : Option Owner) → row_where (is_some old) (subject_old s) ≡ old → row_where (is_some new) (subject_new s) ≡ new → due_of s ≡ due → retires_of s ≡ retires
    → intf_operation worker (is_some old) (is_some new) s ≡ record { worker = worker; key = subject_key s; now = old; new = new; due = due; leaves = None; retires = retires }
operation-is worker s old new due retires is_old is_new is_due is_retires =
    let made : Option Row → Option Row → List Change → Option Owner → Operation = λ o n d x. record { worker = worker; key = subject_key s; now = o; new = n; due = d; leaves = None; retires = x } in
    ap (λ o. made o (row_where (is_some new) (subject_new s)) (due_of s) (retires_of s)) is_old ∙ ap (λ n. made old n (due_of s) (retires_of s)) is_new ∙ ap (λ d. made old new d (retires_of s)) is_due ∙ ap (made old new due) is_retires

-- the operation of a start that leaves nothing
pub operation-plain : (plan : Ports) (names : Names) (worker : ℕ) (s : Subject) (old new : Option Row) → row_where (is_some old) (subject_old s) ≡ old → row_where (is_some new) (subject_new s) ≡ new → due_of s ≡ first_due plan names (subject_key s) old new → retires_of s ≡ None → leaving plan (subject_key s) old new ≡ None
    → intf_operation worker (is_some old) (is_some new) s ≡ started_operation plan names worker (subject_key s) old new
operation-plain plan names worker s old new is_old is_new is_due is_retires leaves =
    let later = begun_names plan names worker (subject_key s) old new in
    let due = first_due plan names (subject_key s) old new in
    operation-is worker s old new due None is_old is_new is_due is_retires ∙ sym (ap (started_by later worker (subject_key s) old new due) leaves ∙ started-plain later worker (subject_key s) old new due)

module _ (plan : Ports) (names : Names) (room : RoomState) (used : List ℕ) (worker : ℕ) (answer : Result Subject Wait) (names' : Names) (room' : RoomState) where
  -- the start of a subject's operation
  abbrev pub Starts : Key → Option Row → Option Row → Type 0
  Starts k old new = IsStartedBy plan names room used worker k old new (answered (intf_operation worker (is_some old) (is_some new)) answer) names' room'
