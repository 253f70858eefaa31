-- What a mark lists of keys that are to sync, by the list of those that wait. Own.
use Rattle.std.specs.Prelude.{◌≡◌, List, [], ◌∷◌, Option, Some, None}
use Rattle.table_schema.specs.declared.key.Key.{Key}
use Rattle.table_schema.specs.declared.row.Row.{Row}
use Rattle.switch_model.specs.Marks.{Waiting}
use Rattle.switch_model.specs.declared.wait.Wait.{Wait}
use Rattle.retry_list.specs.Reasons.{Reasons, reason_at}

-- a key is listed with its reason and this row
abbrev pub IsListedWith : Reasons → (Key → Option Row) → Key → Key × Wait × Option Row → Type 0
IsListedWith reasons rows k w = (w.0 ≡ k) × (reason_at reasons k ≡ Some w.1) × (w.2 ≡ rows k)

-- these keys are listed so, in their order
abbrev pub AreListedWith : Reasons → (Key → Option Row) → List Key → Waiting → Type 0
AreListedWith reasons rows [] [] = Unit {0}
AreListedWith reasons rows (k ∷ ks) (w ∷ ws) = IsListedWith reasons rows k w × AreListedWith reasons rows ks ws
AreListedWith reasons rows _ _ = ⊥

-- no key has a row
abbrev pub without_row : Key → Option Row
without_row k = None
