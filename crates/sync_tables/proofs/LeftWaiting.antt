-- which keys are left waiting after pops
use Rattle.std.proofs.Common.{◌≡◌, ◌<◌, ◌-◌, ℕ, List, [], ◌∷◌, drop, length, length-drop, arith, refl, ap}
use Rattle.producer_table.specs.Pending.{PendingKeys, pending_at, row_with_pending}
use Rattle.switch_machine.specs.Written.{HasNoWrite, IsAsBefore}
use Rattle.table_schema.specs.declared.key.Key.{Key}
use Rattle.table_schema.specs.declared.write.Write.{Write}
use Rattle.sync_tables.specs.Tables.{IsPoppedIn, Popped, PopsKeys, PopsSome, Stays, TablesState, written_in}

-- where one was popped some waited
some-waits : (old new : TablesState) → PopsSome old new → old.waiting ≡ [] → ⊥
some-waits old new some none = some.1 [] (λ o. ap (λ w. row_with_pending o (pending_at w some.0)) none)

shorter : (waiting : PendingKeys) (n : ℕ) → (waiting ≡ [] → ⊥) → 0 < n → length (drop n waiting) < length waiting
shorter [] n some more = absurd (some refl)
shorter (e ∷ es) n some more =
    let left : length (drop n (e ∷ es)) ≡ length (e ∷ es) - n = length-drop n (e ∷ es) in
    omega (arith, left, more)

-- and fewer wait
pub fewer-wait : (old new : TablesState) (n : ℕ) → 0 < n → PopsSome old new → new.waiting ≡ drop n old.waiting → length new.waiting < length old.waiting
fewer-wait old new n more some left = rw left (shorter old.waiting n (some-waits old new some) more)

-- a key of which a write waits still is not popped
key_as_before : (old new : TablesState) (taken : List Write) (k : Key) → IsPoppedIn old new k → (HasNoWrite (written_in taken new) k → ⊥) → IsAsBefore (written_in taken old) (written_in taken new) k
key_as_before old new taken k (Stays same only) waits = same taken
key_as_before old new taken k (Popped some popped there) waits = absurd (waits (popped taken).none)

pub as_before : (old new : TablesState) (taken : List Write) (k : Key) → PopsKeys old new → (HasNoWrite (written_in taken new) k → ⊥) → IsAsBefore (written_in taken old) (written_in taken new) k
as_before old new taken k h = key_as_before old new taken k (h.keys k)
