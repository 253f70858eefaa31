use Rattle.std.proofs.Common.{cond, None, Some, ◌∙◌, ap, sym}
use Rattle.std.specs.Option.{option_or}
use Rattle.sai_types.specs.declared.body.Entry.TheVariants as entry
use Rattle.sai_types.specs.Objects.{body_at}
use Rattle.chip_names.specs.Naming.{numbered}
use Rattle.chip_names.proofs.Added.{body-new, body-there, option_or-none}
use Rattle.chip_names.proofs.Ids.{not_oid}
use Rattle.chip_names.proofs.things.add_body.Goals as goal

pub returns-in_default : goal.returns-in_default
returns-in_default c = λ r. option_or-none _ ∙ ap (λ t. option_or (body_at (numbered c.args.bodies.now) (entry.Oid r)) (cond t (Some c.args.object.now.body) None)) (sym (not_oid c.args.object.now.entry c.in_default.not-Oid r))

pub returns-in_ok-insert-in-Oid : goal.returns-in_ok-insert-in-Oid
returns-in_ok-insert-in-Oid c = rw (c.in-Oid.is, ← c.in_ok-copy-in-Oid.ensures) (λ r. ap (λ l. body_at (numbered l) (entry.Oid r)) c.in_ok-insert-in-Oid.ensures.entries ∙ body-new c.args.bodies.now c.in-Oid.id c.in_ok-copy-in-Oid.field-0 (sym c.if-not-contains_key.ensures) r)

pub returns-else-not-contains_key : goal.returns-else-not-contains_key
returns-else-not-contains_key c = rw c.in-Oid.is (body-there c.args.bodies.now c.in-Oid.id c.args.object.now.body (sym c.if-not-contains_key.ensures))
