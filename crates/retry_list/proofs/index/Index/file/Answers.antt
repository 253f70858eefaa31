use Rattle.std.proofs.Common.{◌≡◌, true, cond, None, Some, rules, ap, ◌∙◌}
use Rattle.std.specs.BTreeMap.{insert_entry, is_at}
use Rattle.std.specs.List.{list_any}
use Rattle.swss_types.proofs.Fronts.{on_err}
use Rattle.table_schema.specs.Key.{key_cmp}
use Rattle.retry_list.specs.Event.{event_cmp}
use Rattle.retry_list.proofs.Filed.{has-changed, has-unchanged, sets-inserted, sets-set, under}
use Rattle.retry_list.proofs.index.Index.file.Goals as goal

pub returns-in_err-insert-in-Some-clause-err : goal.returns-in_err-insert-in-Some-clause-err
returns-in_err-insert-in-Some-clause-err c =
    let es = c.args.self.now.keys in
    let keys = c.insert.new.self in
    let was = c.in-Some.keys.now in
    let new = c.get_mut.follows.lender keys in
    let there : under es c.args.event ≡ Some was = search rules in
    let set = sets-set es new c.args.event keys was there (c.get_mut.follows.holds keys) in
    on_err c.from_residual.result (λ e q. has-unchanged es new c.args.event e q keys was there set c.in_err-insert-in-Some.ensures.err)

pub returns-in_ok-insert-in-Some-clause-ok : goal.returns-in_ok-insert-in-Some-clause-ok
returns-in_ok-insert-in-Some-clause-ok c =
    let es = c.args.self.now.keys in
    let keys = c.insert.new.self in
    let was = c.in-Some.keys.now in
    let new = c.get_mut.follows.lender keys in
    let there : under es c.args.event ≡ Some was = search rules in
    let set = sets-set es new c.args.event keys was there (c.get_mut.follows.holds keys) in
    λ e q. has-changed es new c.args.event e q (is_at (key_cmp c.args.key) q) true keys (Some was) there set (c.in_ok-insert-in-Some.ensures.updates.0 q)

pub returns-in_ok-insert-in-Ok-clause-ok : goal.returns-in_ok-insert-in-Ok-clause-ok
returns-in_ok-insert-in-Ok-clause-ok c =
    let es = c.args.self.now.keys in
    let keys = c.insert-in-None.new.self in
    let new = c.insert-in-Ok.new.self in
    let none : under es c.args.event ≡ None = search rules in
    let set = sets-inserted es new c.args.event keys (c.in_ok-insert-in-Ok.ensures.entries ∙ ap (λ m. insert_entry event_cmp m c.args.event keys) c.get_mut.follows.holds-at-none) in
    λ e q. has-changed es new c.args.event e q (is_at (key_cmp c.args.key) q) true keys None none set
    (c.in-Ok.ensures.updates.0 q ∙ ap (λ ks. cond (is_at (key_cmp c.args.key) q) true (list_any (is_at (key_cmp q)) ks)) c.new-keys.ensures.empty)
