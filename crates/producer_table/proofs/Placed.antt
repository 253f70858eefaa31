-- an entry that was put, or was not, since memory was refused
use Rattle.std.proofs.Common.{◌≡◌, List, Ordering, Result, Ok, Err, Some, OnOk, OnErr, sym, subst}
use Rattle.std.specs.BTreeMap.{insert_entry, is_at}
use Rattle.std.specs.Cmp.{IsTotalOrder}
use Rattle.std.specs.List.Sorted.{IsStrictlySortedBy}
use Rattle.std.specs.Map.{keys_of, lookup, set_value}
use Rattle.table_schema.proofs.Places.{HasRisingKeys-from_sorted}
use Rattle.table_schema.proofs.Restored.{set-put}

-- what holds of a value holds of the new one where it is this one or the old one
pub kept : {A T E : Type 0} (P : A → Type 0) (r : Result T E) (old made new : A) → OnOk r (new ≡ made) → OnErr r (new ≡ old) → P old → P made → P new
kept P (Ok x) old made new ok err before after = subst P (sym ok) after
kept P (Err x) old made new ok err before after = subst P (sym err) before

-- a value written over that of a key that has one is put there
pub set-found : {K X : Type 0} (cmp : K → K → Ordering) → IsTotalOrder cmp → (es : List (K × X)) (k : K) (v x : X) → IsStrictlySortedBy cmp (keys_of es) → lookup (is_at (cmp k)) es ≡ Some x → set_value (is_at (cmp k)) es v ≡ insert_entry cmp es k v
set-found cmp o es k v x h there = set-put cmp o es k v x (HasRisingKeys-from_sorted cmp es h) there
