use Rattle.std.proofs.Common.{◌≡◌, Some, sym, ap, ◌∙◌}
use Rattle.std.specs.BTreeMap.{is_at}
use Rattle.std.specs.Map.{lookup, set_value}
use Rattle.swss_types.specs.Vrf.{vrf_cmp}
use Rattle.lpm_table.proofs.Steps.{ok_weaker}
use Rattle.packet_walk.specs.Tables.{put_into, put_row}
use Rattle.packet_walk.proofs.fib.Fib.put.Goals as goal

pub returns-in-Some : goal.returns-in-Some
returns-in-Some c =
    let es = c.self.inside.tables.entries in
    let there : lookup (is_at (vrf_cmp c.args.vrf)) es ≡ Some c.in-Some.table.now = sym c.in-Some.ensures.value in
    ok_weaker c.put.result
    (λ e. (c.get_mut.follows.holds c.put.new.self).0
    ∙ ap (set_value (is_at (vrf_cmp c.args.vrf)) es) e
    ∙ sym (ap (λ o. put_into o es c.args.vrf c.args.row) there)
    ∙ ap (λ ts. put_row ts c.args.vrf c.args.row) c.self.view_is)
    c.put.ensures
