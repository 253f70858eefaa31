use Rattle.std.proofs.Common.{◌≡◌, false, None, Some, rules, ap, ◌∙◌}
use Rattle.std.specs.BTreeMap.{is_at}
use Rattle.table_schema.specs.Key.{key_cmp}
use Rattle.retry_list.proofs.Filed.{has, has-changed, has-no_key, has-none, sets-set, under}
use Rattle.retry_list.proofs.index.Index.take.Goals as goal

pub returns-in-Some-clause-taken : goal.returns-in-Some-clause-taken
returns-in-Some-clause-taken c =
    let es = c.args.self.now.keys in
    let event = c.args.event.now in
    let keys = c.remove.new.self in
    let was = c.in-Some.keys.now in
    let new = c.get_mut.follows.lender keys in
    let there : under es event ≡ Some was = search rules in
    let set = sets-set es new event keys was there (c.get_mut.follows.holds keys) in
    λ e q. has-changed es new event e q (is_at (key_cmp c.args.key.now) q) false keys (Some was) there set (c.remove.ensures.updates.0 q)

pub returns-in-Some-clause-last : goal.returns-in-Some-clause-last
returns-in-Some-clause-last c =
    let es = c.args.self.now.keys in
    let event = c.args.event.now in
    let keys = c.remove.new.self in
    let was = c.in-Some.keys.now in
    let new = c.get_mut.follows.lender keys in
    let there : under es event ≡ Some was = search rules in
    has-no_key _ es new event keys (sets-set es new event keys was there (c.get_mut.follows.holds keys)) (λ last. search rules)

pub returns-in-None-clause-taken : goal.returns-in-None-clause-taken
returns-in-None-clause-taken c =
    let es = c.args.self.now.keys in
    let none : under es c.args.event.now ≡ None = search rules in
    λ e q. ap (λ m. has (under m e) q) c.get_mut.follows.holds-at-none ∙ has-none es c.args.event.now e q (is_at (key_cmp c.args.key.now) q) none
