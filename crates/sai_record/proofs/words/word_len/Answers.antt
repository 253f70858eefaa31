use Rattle.std.proofs.Common.{◌==◌, sym, ◌∙◌}
use Rattle.sai_record.proofs.Cut.{place-none, place-some}
use Rattle.sai_record.proofs.words.word_len.Goals as goal

pub returns-in-Some-clause-len : goal.returns-in-Some-clause-len
returns-in-Some-clause-len c = place-some (λ b. b == 32) c.args.text.now c.in-Some.at (sym c.space.ensures ∙ c.in-Some.is)

pub returns-in-None-clause-len : goal.returns-in-None-clause-len
returns-in-None-clause-len c = place-none (λ b. b == 32) c.args.text.now (sym c.space.ensures ∙ c.in-None.is)
