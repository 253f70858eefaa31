use Rattle.std.proofs.Common.{◌≡◌, [], ◌∷◌, None, Some, sym, ap, ◌∙◌, rules}
use Rattle.std.specs.BTreeMap.{insert_entry, is_at}
use Rattle.std.specs.BTreeSet.{insert_key}
use Rattle.std.specs.Map.{lookup, set_value}
use Rattle.std.proofs.lemmas.Map.Steps.{set_value_same}
use Rattle.swss_types.specs.AddressOrder.{prefix_cmp}
use Rattle.lpm_table.proofs.Steps.{err_weaker, ok_weaker}
use Rattle.sai_chip.specs.Bodies.{route_cmp}
use Rattle.sai_chip.specs.Tables.{keyed}
use Rattle.sai_chip.proofs.Keyed.{keyed_new, keyed_put, vr_cmp}
use Rattle.sai_chip.proofs.tables.Tables.put.Goals as goal

pub returns-in-Some-clause-ok : goal.returns-in-Some-clause-ok
returns-in-Some-clause-ok c =
    let es = c.self.inside.by_router.entries in
    let key = c.args.key.now in
    let there : lookup (is_at (vr_cmp key.0)) es ≡ Some c.in-Some.table.now = sym c.in-Some.ensures.value in
    ok_weaker c.put.result (λ e. ap keyed ((c.get_mut.follows.holds c.put.new.self).0 ∙ ap (set_value (is_at (vr_cmp key.0)) es) e) ∙ keyed_put key.0 key.1 es c.in-Some.table.now c.get_mut.ensures.ordered there ∙ ap (λ l. insert_key route_cmp l key) c.self.view_is) c.put.ensures.ok

pub returns-in-Some-clause-err : goal.returns-in-Some-clause-err
returns-in-Some-clause-err c =
    let es = c.self.inside.by_router.entries in
    let key = c.args.key.now in
    let there : lookup (is_at (vr_cmp key.0)) es ≡ Some c.in-Some.table.now = sym c.in-Some.ensures.value in
    err_weaker c.put.result (λ e. ap keyed ((c.get_mut.follows.holds c.put.new.self).0 ∙ ap (set_value (is_at (vr_cmp key.0)) es) e ∙ set_value_same (is_at (vr_cmp key.0)) es c.in-Some.table.now there) ∙ c.self.view_is) c.put.ensures.err

pub returns-clause-ok : goal.returns-clause-ok
returns-clause-ok c =
    let es = c.self.inside.by_router.entries in
    let key = c.args.key.now in
    let none : None ≡ lookup (is_at (vr_cmp key.0)) es = search rules in
    let one : c.put-2.new.self ≡ key.1 ∷ [] = c.in_ok-put.ensures.ok ∙ ap (λ l. insert_key prefix_cmp l key.1) c.new-table.ensures in
    ap keyed (c.in_ok-insert.ensures.entries ∙ ap (λ m. insert_entry vr_cmp m.entries key.0 c.put-2.new.self) c.get_mut.follows.holds-at-none ∙ ap (insert_entry vr_cmp es key.0) one) ∙ keyed_new key.0 key.1 es c.get_mut.ensures.ordered (sym none) ∙ ap (λ l. insert_key route_cmp l key) c.self.view_is
