-- What is left of the operation of a row. Own.
use Rattle.std.specs.Prelude.{ℕ, Bool, true, false, List, ◌∷◌, Option, Some}
use Rattle.table_schema.specs.declared.key.Key.{Key}
use Rattle.table_schema.specs.declared.key.Key.TheVariants as key
use Rattle.sai_types.specs.declared.thing.Thing.TheVariants as thing
use Rattle.switch_model.specs.Placed.{Placed as Row}
use Rattle.row_layout.specs.Operations.{Change, Make}
use Rattle.row_layout.specs.Rows.{Owner}

-- the worker and the key; the row for which the key's own things stand now, and the one that it is to have; the changes that are due; what it shares no more once they are made, and has to leave then; and what it takes away since it was the last to leave it. The group of a route is built and taken away by an operation of its own
pub record Operation : Type 0 where
  pub worker : ℕ
  pub key : Key
  pub now : Option Row
  pub new : Option Row
  pub due : List Change
  pub leaves : Option Owner
  pub retires : Option Owner

-- whether an interface that goes over to another router has gone, and is to be made there
abbrev pub is_between_for : Key → Option Row → List Change → Bool
is_between_for (key.Intf n) (Some r) (Make (thing.Rif b v) ∷ cs) = true
is_between_for k now due = false

-- the operation stands between the removal and the creation of its interface
abbrev pub is_between : Operation → Bool
is_between f = is_between_for f.key f.now f.due
