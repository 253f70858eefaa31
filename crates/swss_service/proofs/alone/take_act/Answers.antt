use Rattle.std.proofs.Common.{ℕ, List, [], ◌∷◌, length, refl, sym, subst}
use Rattle.std.proofs.lemmas.List.{append-nil}
use Rattle.table_schema.specs.declared.write.Sent.{Sent}
use Rattle.session_laws.specs.Core.{CoreState}
use Rattle.swss_script.specs.declared.parts.Act.TheVariants as act
use Rattle.round_actors.specs.declared.answers.Kept.{Kept}
use Rattle.round_actors.specs.declared.answers.Kept.TheVariants as keeps
use Rattle.swss_service.specs.Taking.{AreCounted, Counts, HaveReadKeys, IsMade, IsRestartMade, writes_by}
use Rattle.swss_service.proofs.alone.take_act.Goals as goal

-- a restart is what is made of its act
restart-made : (effects : ℕ) (before : List Sent) (producer : ℕ) (old : CoreState) (r : Kept) (new : CoreState) (counts : Counts) → AreCounted counts before → IsRestartMade effects old r new → IsMade effects before ((producer, act.Restart) ∷ []) old r new counts
restart-made effects before producer old keeps.Nothing new counts counted made = (made, subst (AreCounted counts) (sym (append-nil before)) counted)
restart-made effects before producer old keeps.LogFull new counts counted (same, full) = ([], (producer, act.Restart), [], refl, same, full)
restart-made effects before producer old keeps.NoMemory new counts counted same = ([], (producer, act.Restart) ∷ [], refl, same)

pub take_write-requires : goal.take_write-requires
take_write-requires g c = record { read = (subst (λ a. HaveReadKeys (writes_by c.args.producer (a ∷ []))) c.in-Write.is c.requires.read).0 }

pub returns-in-Write-clause-made : goal.returns-in-Write-clause-made
returns-in-Write-clause-made g c = λ before counted.
    subst (λ a. IsMade (length c.args.locked.now.chip.effects) before ((c.args.producer, a) ∷ []) c.args.locked.now.core c.take_write.result c.take_write.new.locked.core c.take_write.new.counts.entries) (sym c.in-Write.is) (c.take_write.ensures.made before counted)

pub returns-in-Restart-clause-made : goal.returns-in-Restart-clause-made
returns-in-Restart-clause-made g c = λ before counted.
    subst (λ a. IsMade (length c.args.locked.now.chip.effects) before ((c.args.producer, a) ∷ []) c.args.locked.now.core c.restart.result c.restart.new.locked.core c.args.counts.now.entries) (sym c.in-Restart.is)
    (restart-made (length c.args.locked.now.chip.effects) before c.args.producer c.args.locked.now.core c.restart.result c.restart.new.locked.core c.args.counts.now.entries counted c.restart.ensures.made)
