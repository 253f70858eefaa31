-- Rows that a round leaves alone. Own.
use Rattle.std.specs.Prelude.{◌≡◌, length, Some}
use Rattle.table_schema.specs.Plan.{Ports}
use Rattle.table_schema.specs.declared.key.Key.{Key}
use Rattle.table_schema.specs.declared.row.Row.{Row}
use Rattle.sai_types.specs.declared.body.Body.{Body}
use Rattle.sai_types.specs.declared.body.Call.{Call}
use Rattle.sai_types.specs.declared.body.Entry.{Entry}
use Rattle.sai_types.specs.declared.ids.Rid.{Rid}
use Rattle.sai_types.specs.declared.thing.Thing.{Thing}
use Rattle.sai_types.specs.After.{chip_after}
use Rattle.sai_types.specs.Alike.{IsIn}
use Rattle.sai_types.specs.Named.{thing_of}
use Rattle.sai_types.specs.Objects.{Objects, body_at}
use Rattle.switch_model.specs.Desired.{placed_things}
use Rattle.switch_model.specs.Good.{TypedRows}
use Rattle.machine_laws.specs.Quiet.{ChangesEntry}
use Rattle.round_laws.specs.Ended.{EndedRound, IsToTry, rows_before}

-- the object with this entry stands for a thing that the key's row has among these rows
pub record StandsForRow (plan : Ports) (rows : TypedRows) (objects : Objects) (k : Key) (row : Row) (e : Entry Rid) : Type 0 where
  pub body : Body Rid
  pub there : body_at objects e ≡ Some body
  pub thing : Thing
  pub is : thing_of objects (e, body) ≡ Some thing
  pub of : IsIn thing (placed_things plan rows k row)

-- no call of the round sets or removes an entry that stood, when it began, for a thing of the applied row of a key that it does not try
abbrev pub LeavesQuietRows : Ports → EndedRound → Type 0
LeavesQuietRows plan r = (k : Key) (row : Row) (e : Entry Rid) → rows_before plan r k ≡ Some row → (IsToTry r k → ⊥) → StandsForRow plan (rows_before plan r) (chip_after r.effects (length r.effects)) k row e → (call : Call Rid) → IsIn call r.calls → ChangesEntry call e → ⊥
