-- The keys that writes name. Own.
use Rattle.std.specs.Prelude.{List, [], ◌∷◌}
use Rattle.std.specs.BTreeSet.{insert_key}
use Rattle.table_schema.specs.Key.{key_cmp}
use Rattle.table_schema.specs.declared.key.Key.{Key}
use Rattle.table_schema.specs.declared.write.Sent.{Sent}
use Rattle.switch_model.specs.Marks.{written_key}

-- in key order, each once
abbrev pub keys_named : List Sent → List Key
keys_named [] = []
keys_named (sent ∷ more) = insert_key key_cmp (keys_named more) (written_key sent.write)
