use Rattle.std.proofs.lemmas.Result.{IfOk-weaker}
use Rattle.sync_tables.proofs.RowKeys.{keys-listed}
use Rattle.sync_tables.proofs.rows.keys_of_rows.Goals as goal

pub returns : goal.returns
returns c = IfOk-weaker c.of_keys.result _ _ (λ to_sync found. keys-listed c.args.rows.now c.in_ok-keys.field-0.items to_sync c.in_ok-keys.ensures found) c.of_keys.ensures.ops
