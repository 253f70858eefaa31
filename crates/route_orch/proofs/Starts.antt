-- the start of a route's operation
use Rattle.std.proofs.Common.{◌≡◌, ℕ, List, [], ◌∷◌, Option, None, refl, sym, ap, ◌∙◌}
use Rattle.table_schema.specs.declared.key.Key.{Key}
use Rattle.switch_model.specs.Placed.{Placed as Row}
use Rattle.row_layout.specs.Operations.{Change}
use Rattle.row_layout.specs.Rows.{Owner}
use Rattle.ref_counts.specs.Registry.{Names}
use Rattle.orch_flight.specs.Starting.{started_by, started_names_by}

-- an operation with nothing due has nothing to leave
pub names-due : (names : Names) (worker : ℕ) (k : Key) (due : List Change) (leaves : Option Owner) → (due ≡ [] → leaves ≡ None) → started_names_by names worker k due leaves ≡ names
names-due names worker k [] leaves none = ap (started_names_by names worker k []) (none refl)
names-due names worker k (c ∷ cs) leaves none = refl

pub started-due : (names : Names) (worker : ℕ) (k : Key) (old new : Option Row) (due : List Change) (leaves : Option Owner) → (due ≡ [] → leaves ≡ None) → started_by names worker k old new due leaves ≡ record { worker = worker; key = k; now = old; new = new; due = due; leaves = leaves; retires = None }
started-due names worker k old new [] leaves none = ap (started_by names worker k old new []) (none refl) ∙ ap (λ o. record { worker = worker; key = k; now = old; new = new; due = []; leaves = o; retires = None }) (sym (none refl))
started-due names worker k old new (c ∷ cs) leaves none = refl
