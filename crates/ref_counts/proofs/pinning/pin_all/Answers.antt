use Rattle.std.proofs.Common.{◌≡◌, Some, IsSome, refl, ap, rules}
use Rattle.std.specs.BTreeMap.{is_at}
use Rattle.std.specs.Map.{lookup}
use Rattle.std.specs.Ordering.{nat_cmp}
use Rattle.ref_counts.specs.Registry.{items_in}
use Rattle.ref_counts.proofs.Noting.{noted-same, noted-set, noted-tried}
use Rattle.ref_counts.proofs.pinning.pin_all.Goals as goal

pub returns-then-is_err-clause-noted : goal.returns-then-is_err-clause-noted
returns-then-is_err-clause-noted c = λ h. noted-same c.args.noted.now.entries c.note_worker.new.noted.entries c.note_worker.ensures.same c.args.names.now h

pub returns-clause-noted : goal.returns-clause-noted
returns-clause-noted c =
    let start = c.note_worker.new.noted.entries in
    let end = (c.get_mut.follows.lender c.pin_noted.new.noted).entries in
    let there : lookup (is_at (nat_cmp c.args.worker)) start ≡ Some c.in-Some.noted.now = search rules in
    let some : IsSome (lookup (is_at (nat_cmp c.args.worker)) start) = rw there refl in
    let set = noted-set start end c.args.worker c.pin_noted.new.noted ((c.get_mut.follows.holds c.pin_noted.new.noted).3 some).0 in
    λ h. noted-tried c.pin_noted.result start end c.args.worker c.args.user.now c.args.keys.now c.args.names.now c.pin_noted.new.names c.in-Some.noted.now.items c.pin_noted.new.noted.items (ap items_in there) set.0 set.1 c.pin_noted.ensures.ok c.pin_noted.ensures.noted c.pin_noted.ensures.err c.pin_noted.ensures.noted_err
    (noted-same c.args.noted.now.entries start c.note_worker.ensures.same c.args.names.now h)
