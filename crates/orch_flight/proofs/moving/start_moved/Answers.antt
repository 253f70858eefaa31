use Rattle.std.proofs.Common.{◌≡◌, None, Some, rules, sym, ap, ap₂, ◌∙◌}
use Rattle.std.proofs.lemmas.Option.{none-some}
use Rattle.ref_counts.specs.declared.name.Name.TheVariants as name
use Rattle.ref_counts.specs.Registry.{first_not_live, pinned, retire_refusal_at, state_of}
use Rattle.orch_flight.specs.Needing.{moved_reason}
use Rattle.orch_flight.proofs.Stages.{refusal-pinned, state-pinned}
use Rattle.orch_flight.proofs.Unhindered.{moved-free, moved-named}
use Rattle.orch_flight.proofs.moving.start_moved.Goals as goal

pub unreachable-requires : goal.unreachable-requires
unreachable-requires c =
    let none : moved_reason c.args.reg.now c.args.worker c.args.key.now c.args.keys.now ≡ None = search rules in
    let missing : first_not_live c.args.reg.now c.args.keys.now ≡ Some c.in-Err.field-0.0 = search rules in
    none-some _ (sym (moved-named c.args.reg.now c.args.worker c.args.key.now c.args.keys.now none) ∙ missing)

pub try_retire-requires : goal.try_retire-requires
try_retire-requires c =
    let pins : c.pin.new.self ≡ pinned c.args.reg.now c.args.worker c.args.key.now c.args.keys.now = search rules in
    ap₂ (λ l k. state_of l (name.Row k)) pins c.copied.ensures ∙ state-pinned c.args.worker c.args.key.now c.args.keys.now c.args.reg.now (name.Row c.args.key.now) ∙ c.requires.live

pub unreachable-requires-in-Err-try_retire : goal.unreachable-requires-in-Err-try_retire
unreachable-requires-in-Err-try_retire c =
    let none : moved_reason c.args.reg.now c.args.worker c.args.key.now c.args.keys.now ≡ None = search rules in
    let pins : c.pin.new.self ≡ pinned c.args.reg.now c.args.worker c.args.key.now c.args.keys.now = search rules in
    let free = ap₂ (λ l k. retire_refusal_at l c.args.worker (name.Row k)) pins c.copied.ensures ∙ refusal-pinned c.args.worker c.args.key.now c.args.keys.now c.args.reg.now (name.Row c.args.key.now) ∙ moved-free c.args.reg.now c.args.worker c.args.key.now c.args.keys.now none in
    none-some _ (sym free ∙ c.in-Err-try_retire.ensures.refusal)
