use Rattle.std.proofs.Common.{◌≡◌, ◌∷◌, None, sym, ap, ◌∙◌, rules}
use Rattle.lpm_table.specs.Longest.{best_prefix}
use Rattle.chip_names.specs.Naming.{numbered}
use Rattle.sai_chip.specs.Tables.{best_key, keyed, longer_key}
use Rattle.sai_chip.proofs.BestKeys.{step_elsewhere, step_found, step_none}
use Rattle.sai_chip.proofs.tables.Tables.best.Goals as goal
use Rattle.sai_chip.proofs.tables.Tables.best.Goals.{else-is_router-via-else-is_router, else-is_router-via-then-is_router+in-None-1}

pub loop-vr-preserved-in-loop-vr : goal.loop-vr-preserved-in-loop-vr
loop-vr-preserved-in-loop-vr c =
    let objects = numbered c.args.bodies.now in
    let a = c.args.packet.now in
    let split : c.loop-vr.vr-iterator ≡ (c.in-Some.vr.now, c.in-Some.table.now) ∷ c.next.new.self = search rules in
    let kept = ap (λ l. longer_key c.loop-vr.best (best_key objects a (keyed l))) (sym split) ∙ c.loop-vr.invariant in
    step_found objects a c.loop-vr.best (c.in-Some.vr.now, c.in-Some.table.now) c.next.new.self (best_key objects a c.args.self.now) kept c.in-Some-best.prefix c.longer-best.result (sym c.if-is_router.ensures) (sym c.in-Some-best.ensures) c.longer-best.ensures

pub loop-vr-preserved : goal.loop-vr-preserved
loop-vr-preserved c =
    let objects = numbered c.args.bodies.now in
    let a = c.args.packet.now in
    let split : c.loop-vr.vr-iterator ≡ (c.in-Some.vr.now, c.in-Some.table.now) ∷ c.next.new.self = search rules in
    let kept = ap (λ l. longer_key c.loop-vr.best (best_key objects a (keyed l))) (sym split) ∙ c.loop-vr.invariant in
    elim c.else-is_router.branch [
      | else-is_router-via-else-is_router w ↦ step_elsewhere objects a c.loop-vr.best (c.in-Some.vr.now, c.in-Some.table.now) c.next.new.self (best_key objects a c.args.self.now) kept (sym w.if-is_router.ensures)
      | else-is_router-via-then-is_router+in-None-1 w ↦
          let none : best_prefix c.in-Some.table.now a.to ≡ None = search rules in
          step_none objects a c.loop-vr.best (c.in-Some.vr.now, c.in-Some.table.now) c.next.new.self (best_key objects a c.args.self.now) kept (sym w.if-is_router.ensures) none
    ]
