use Rattle.chip_layout.proofs.Answering.{decided-once, forwarded-once, hops-reached}
use Rattle.chip_layout.proofs.laws.answers_once.Goals as goal

pub returns-clause-decided : goal.returns-clause-decided
returns-clause-decided c = λ made objects others a whole have prefixes same. decided-once made objects whole have prefixes others same a

pub returns-clause-forwarded : goal.returns-clause-forwarded
returns-clause-forwarded c = λ made objects others a whole have prefixes same. forwarded-once made objects whole have prefixes others same a

pub returns-clause-reached : goal.returns-clause-reached
returns-clause-reached c = λ made objects others a whole have prefixes same. hops-reached made objects whole have prefixes others same a
