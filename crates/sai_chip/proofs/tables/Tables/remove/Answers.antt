use Rattle.std.proofs.Common.{◌≡◌, None, Some, sym, ap, ◌∙◌, rules}
use Rattle.std.specs.BTreeMap.{is_at}
use Rattle.std.specs.Map.{lookup, set_value}
use Rattle.std.specs.Set.{remove_key}
use Rattle.sai_chip.specs.Bodies.{route_cmp}
use Rattle.sai_chip.specs.Tables.{keyed}
use Rattle.sai_chip.proofs.Keyed.{keyed_removed, keyed_without, vr_cmp}
use Rattle.sai_chip.proofs.tables.Tables.remove.Goals as goal
use Rattle.sai_chip.proofs.tables.Tables.remove.Goals.{in-Some, in_default}

pub returns : goal.returns
returns c =
    let es = c.self.inside.by_router.entries in
    let key = c.args.key.now in
    elim c.match-get_mut.branch [
      | in-Some w ↦
          let there : lookup (is_at (vr_cmp key.0)) es ≡ Some w.in-Some.table.now = sym w.in-Some.ensures.value in
          ap (λ i. keyed i.by_router.entries) w.self-inside-is
          ∙ ap keyed ((c.get_mut.follows.holds w.remove.new.self).0 ∙ ap (set_value (is_at (vr_cmp key.0)) es) w.remove.ensures.removed)
          ∙ keyed_removed key.0 key.1 es w.in-Some.table.now c.get_mut.ensures.ordered there
          ∙ ap (remove_key (is_at (route_cmp key))) c.self.view_is
      | in_default w ↦
          let none : None ≡ lookup (is_at (vr_cmp key.0)) es = search rules in
          ap (λ i. keyed i.by_router.entries) w.self-inside-is
          ∙ ap (λ m. keyed m.entries) c.get_mut.follows.holds-at-none
          ∙ sym (keyed_without key.0 key.1 es (sym none))
          ∙ ap (remove_key (is_at (route_cmp key))) c.self.view_is
    ]
