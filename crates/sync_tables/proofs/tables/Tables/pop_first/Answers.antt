use Rattle.std.proofs.Common.{◌≡◌, Some, None, slice_get, rules, refl}
use Rattle.sync_tables.specs.Tables.{PopsNone}
use Rattle.sync_tables.proofs.Batches.{batch-first, batch-none}
use Rattle.sync_tables.proofs.Popped.{PopsKeys-first, PopsKeys-none, PopsSome-first}
use Rattle.sync_tables.proofs.Waits.{first-gone, no-first}
use Rattle.sync_tables.proofs.tables.Tables.pop_first.Goals as goal

pub returns-in_default-clause-batch : goal.returns-in_default-clause-batch
returns-in_default-clause-batch c =
    let none : slice_get c.self.inside.waiting 0 ≡ None = search rules in
    rw (← c.self.view_is) (batch-none _ 1 (no-first c.self.inside.waiting none))

pub returns-in_default-clause-empty : goal.returns-in_default-clause-empty
returns-in_default-clause-empty c =
    let none : slice_get c.self.inside.waiting 0 ≡ None = search rules in
    rw (← c.self.view_is) (no-first c.self.inside.waiting none)

pub returns-in_err-take_in-clause-none : goal.returns-in_err-take_in-clause-none
returns-in_err-take_in-clause-none c =
    let first : slice_get c.self.inside.waiting 0 ≡ Some (c.in-Some.key.now, c.in-Some.pending.now) = search rules in
    let none : PopsNone (record { rows = c.self.inside.rows; waiting = c.self.inside.waiting; ops = c.self.inside.to_sync }) (record { rows = c.take_in.new.rows; waiting = c.self.inside.waiting; ops = c.take_in.new.to_sync }) =
    record { first = (c.in-Some.key.now, c.in-Some.pending.now); waits = first; waiting = refl; rows = c.in_err-take_in.ensures.err; ops = c.in_err-take_in.ensures.kept } in
    rw (← c.self.view_is) (search rules)

pub returns-in_err-take_in-clause-keys : goal.returns-in_err-take_in-clause-keys
returns-in_err-take_in-clause-keys c =
    let first : slice_get c.self.inside.waiting 0 ≡ Some (c.in-Some.key.now, c.in-Some.pending.now) = search rules in
    rw (← c.self.view_is) (PopsKeys-none _ _ (record { first = (c.in-Some.key.now, c.in-Some.pending.now); waits = first; waiting = refl; rows = c.in_err-take_in.ensures.err; ops = c.in_err-take_in.ensures.kept }) c.self.invariant)

pub returns-clause-batch : goal.returns-clause-batch
returns-clause-batch c =
    let first : slice_get c.self.inside.waiting 0 ≡ Some (c.in-Some.key.now, c.in-Some.pending.now) = search rules in
    let gone = first-gone c.self.inside.waiting c.pop_first.new.self (c.in-Some.key.now, c.in-Some.pending.now) c.pop_first.result first c.pop_first.ensures.some c.pop_first.ensures.none in
    rw (← c.self.view_is) (batch-first _ _ (record { first = (c.in-Some.key.now, c.in-Some.pending.now); waiting = gone; rows = c.in_ok-take_in.ensures.merged; ops = c.in_ok-take_in.ensures.added }))

pub returns-clause-keys : goal.returns-clause-keys
returns-clause-keys c =
    let first : slice_get c.self.inside.waiting 0 ≡ Some (c.in-Some.key.now, c.in-Some.pending.now) = search rules in
    let gone = first-gone c.self.inside.waiting c.pop_first.new.self (c.in-Some.key.now, c.in-Some.pending.now) c.pop_first.result first c.pop_first.ensures.some c.pop_first.ensures.none in
    rw (← c.self.view_is) (PopsKeys-first _ _ (record { first = (c.in-Some.key.now, c.in-Some.pending.now); waiting = gone; rows = c.in_ok-take_in.ensures.merged; ops = c.in_ok-take_in.ensures.added }) c.is_empty-order.ensures.order c.self.invariant)

pub returns-clause-some : goal.returns-clause-some
returns-clause-some c =
    let first : slice_get c.self.inside.waiting 0 ≡ Some (c.in-Some.key.now, c.in-Some.pending.now) = search rules in
    let gone = first-gone c.self.inside.waiting c.pop_first.new.self (c.in-Some.key.now, c.in-Some.pending.now) c.pop_first.result first c.pop_first.ensures.some c.pop_first.ensures.none in
    rw (← c.self.view_is) (PopsSome-first _ _ (record { first = (c.in-Some.key.now, c.in-Some.pending.now); waiting = gone; rows = c.in_ok-take_in.ensures.merged; ops = c.in_ok-take_in.ensures.added }) c.is_empty-order.ensures.order c.self.invariant)
