use Rattle.std.proofs.Common.{◌≡◌, true, None, Some, rules, sym, subst, subst₂}
use Rattle.retry_list.specs.Index.{IsFiledAs, IsFiledUnless, AreReasonsFiled}
use Rattle.retry_list.specs.Reasons.{event_of, reason_at}
use Rattle.retry_list.proofs.Indexed.{IsIndexed-moved, IsIndexed-new, IsIndexed-restored}
use Rattle.retry_list.proofs.retry.exchange.Goals as goal

pub returns-in-Ok-None-clause-indexed : goal.returns-in-Ok-None-clause-indexed
returns-in-Ok-None-clause-indexed c =
    let reasons = c.args.reasons.now in
    let old = c.requires.filed.was in
    let new = c.args.index.now in
    let filed = subst₂ (λ e k. IsFiledAs true old new e k) c.requires.about c.requires.named c.requires.filed.filed in
    let none : reason_at reasons c.args.key ≡ None = search rules in
    subst (λ r. AreReasonsFiled r new) (sym c.in-Ok-None.ensures.entries) (IsIndexed-new reasons old new c.args.key c.args.wait c.requires.filed.indexed filed none)

pub returns-in-Ok-Some-clause-indexed : goal.returns-in-Ok-Some-clause-indexed
returns-in-Ok-Some-clause-indexed c =
    let reasons = c.args.reasons.now in
    let old = c.requires.filed.was in
    let mid = c.args.index.now in
    let new = c.unfile_unless.new.self in
    let filed = subst₂ (λ e k. IsFiledAs true old mid e k) c.requires.about c.requires.named c.requires.filed.filed in
    let unfiled = subst₂ (λ f k. IsFiledUnless mid new (event_of c.in-Ok-Some.old) f k) c.requires.about c.requires.named (subst (λ e. IsFiledUnless mid new e c.args.event.now c.args.name.now) c.of.ensures c.unfile_unless.ensures) in
    let there : reason_at reasons c.args.key ≡ Some c.in-Ok-Some.old = search rules in
    subst (λ r. AreReasonsFiled r new) (sym c.in-Ok-Some.ensures.entries) (IsIndexed-moved reasons old mid new c.args.key c.args.wait c.in-Ok-Some.old c.requires.filed.indexed filed unfiled there)

pub returns-in-Err-clause-indexed : goal.returns-in-Err-clause-indexed
returns-in-Err-clause-indexed c =
    let old = c.requires.filed.was in
    let mid = c.args.index.now in
    let new = c.unfile.new.self in
    IsIndexed-restored c.args.reasons.now c.insert.new.self old mid new c.args.event.now c.args.name.now c.requires.filed.indexed c.requires.filed.filed c.unfile.ensures c.requires.filed.other c.in-Err.ensures.err
