use Rattle.std.proofs.Common.{◌≡◌, ◌∙◌, length, Err, ap, subst, sym}
use Rattle.session_laws.specs.Core.{IsFullFor}
use Rattle.swss_script.specs.declared.parts.Act.TheVariants as act
use Rattle.swss_service.specs.CoreAndChip.{CoreAndChip}
use Rattle.swss_service.proofs.Parts.{refused-act}
use Rattle.swss_service.proofs.alone.take_write.Goals as goal

pub returns-in-Err-clause-made : goal.returns-in-Err-clause-made
returns-in-Err-clause-made g c = λ before counted.
    let same : c.take.new.self.core ≡ c.args.locked.now.core = ap (λ (z : CoreAndChip). z.core) c.in-Err.ensures.err in
    refused-act (length c.args.locked.now.chip.effects) before c.args.producer (act.Write c.args.write) c.args.locked.now.core c.take.new.self.core _ c.kept.result c.kept.ensures.refused same
    (λ full. subst (λ z. IsFullFor z (length c.args.locked.now.chip.effects) 1) (sym same) (c.take.ensures.full (c.in-Err.is ∙ ap Err (c.kept.ensures.full.0 full))))
