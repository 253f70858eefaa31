use Rattle.std.proofs.Common.{◌≡◌, Some, None, IsSome, rules, refl, sym, ap, subst, ◌∙◌}
use Rattle.std.specs.BTreeMap.{is_at}
use Rattle.std.specs.Map.{lookup}
use Rattle.std.specs.Ordering.{nat_cmp}
use Rattle.ref_counts.specs.Registry.{AreNoted, all_released, each_released, items_in}
use Rattle.ref_counts.proofs.Noting.{noted-set}
use Rattle.ref_counts.proofs.Releasing.{noted-released, released-noted}
use Rattle.ref_counts.proofs.pinning.release_all.Goals as goal

pub returns-in-Some-clause-released : goal.returns-in-Some-clause-released
returns-in-Some-clause-released c =
    let there : lookup (is_at (nat_cmp c.args.worker)) c.args.noted.now.entries ≡ Some c.in-Some.noted.now = search rules in
    c.release_each.ensures
    ∙ ap (each_released c.args.names.now c.args.worker c.args.used) (c.as_slice.ensures.value ∙ sym (ap items_in there))
    ∙ released-noted c.args.noted.now.entries c.args.worker c.args.used c.args.names.now c.requires

pub returns-in-Some-clause-noted : goal.returns-in-Some-clause-noted
returns-in-Some-clause-noted c =
    let there : lookup (is_at (nat_cmp c.args.worker)) c.args.noted.now.entries ≡ Some c.in-Some.noted.now = search rules in
    let some : IsSome (lookup (is_at (nat_cmp c.args.worker)) c.args.noted.now.entries) = rw there refl in
    let end = (c.get_mut.follows.lender c.clear.new.self).entries in
    let set = noted-set c.args.noted.now.entries end c.args.worker c.clear.new.self ((c.get_mut.follows.holds c.clear.new.self).3 some).0 in
    let released : c.release_each.new.names ≡ all_released c.args.worker c.args.used c.args.names.now =
    c.release_each.ensures
    ∙ ap (each_released c.args.names.now c.args.worker c.args.used) (c.as_slice.ensures.value ∙ sym (ap items_in there))
    ∙ released-noted c.args.noted.now.entries c.args.worker c.args.used c.args.names.now c.requires in
    subst (AreNoted end) (sym released) (noted-released c.args.noted.now.entries end c.args.worker c.args.used set.1 c.args.names.now c.requires)

pub returns-in_default-clause-released : goal.returns-in_default-clause-released
returns-in_default-clause-released c =
    let none : lookup (is_at (nat_cmp c.args.worker)) c.args.noted.now.entries ≡ None = search rules in
    ap (each_released c.args.names.now c.args.worker c.args.used) (sym (ap items_in none))
    ∙ released-noted c.args.noted.now.entries c.args.worker c.args.used c.args.names.now c.requires
