use Rattle.std.proofs.Common.{◌++◌, ap, arith, flat_map, sym, ◌∙◌}
use Rattle.std.proofs.lemmas.List.{append_assoc}
use Rattle.table_schema.specs.Fields.{Pairs}
use Rattle.table_schema.specs.declared.key.Key.{Key}
use Rattle.swss_report.specs.Ignored.{bad_rows, ignored_line}
use Rattle.swss_report.proofs.BadRows.{count-first, few-bad_rows, lines-first}
use Rattle.swss_report.proofs.ignored.write_bad_rows.Goals as goal

pub overflow_add-count : goal.overflow_add-count
overflow_add-count c =
    let first = count-first c.args.plan.now c.loop-key.key-iterator c.next.new.self (c.in-Some.key.now, c.in-Some.fields.now) c.in-Some.ensures.steps in
    let all = c.loop-key.invariant.1 in
    let one = c.in_ok-count.ensures.count in
    let few = few-bad_rows c.args.plan.now c.args.rows.now in
    let most = c.len-most.ensures.count in
    let fits = c.len-most.type_inv in
    omega (arith, first, all, one, few, most, fits)

pub loop-key-preserved : goal.loop-key-preserved
loop-key-preserved c =
    let row : Key × Pairs = (c.in-Some.key.now, c.in-Some.fields.now) in
    let bad = bad_rows c.args.plan.now c.next.new.self in
    let first = count-first c.args.plan.now c.loop-key.key-iterator c.next.new.self row c.in-Some.ensures.steps in
    let lines = lines-first c.args.plan.now c.loop-key.key-iterator c.next.new.self row c.in-Some.ensures.steps in
    let all = c.loop-key.invariant.1 in
    let one = c.in_ok-count.ensures.count in (
      ap (λ out. out ++ flat_map ignored_line bad) c.in_ok-count.ensures.lines
          ∙ append_assoc c.loop-key.out.items _ (flat_map ignored_line bad)
          ∙ ap (λ l. c.loop-key.out.items ++ l) (sym lines)
          ∙ c.loop-key.invariant.0,
      omega (arith, first, all, one),
    )
