use Rattle.std.proofs.Common.{◌≡◌, inl, inr, true, false, is_some, rules, ap, ◌∙◌}
use Rattle.producer_table.specs.Pending.{op_of}
use Rattle.consumer_table.specs.Ops.{op_at, ops_with, without_op}
use Rattle.sync_tables.proofs.Laid.{ops_with-off}
use Rattle.sync_tables.proofs.Membership.{found-in}
use Rattle.sync_tables.proofs.merging.take_in.Goals as goal

pub returns-then-not-there-clause-kept : goal.returns-then-not-there-clause-kept
returns-then-not-there-clause-kept c =
    let old = c.args.to_sync.now in
    let key = c.args.key.now in
    let now : c.put.new.self ≡ ops_with old (op_of (key, c.args.pending.now)) = search rules in
    let none : is_some (op_at old key) ≡ false = search rules in
    inl (c.done.ensures ∙ ap (λ n. without_op n key) now ∙ ops_with-off old key c.args.pending.now none)

pub returns-else-not-there-clause-kept : goal.returns-else-not-there-clause-kept
returns-else-not-there-clause-kept c =
    let old = c.args.to_sync.now in
    let key = c.args.key.now in
    let now : c.put.new.self ≡ ops_with old (op_of (key, c.args.pending.now)) = search rules in
    let there : is_some (op_at old key) ≡ true = search rules in
    inr (found-in key old there, now)
