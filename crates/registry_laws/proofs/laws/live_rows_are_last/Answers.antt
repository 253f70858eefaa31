use Rattle.registry_laws.proofs.Lasting.{lasting}
use Rattle.registry_laws.proofs.laws.live_rows_are_last.Goals as goal

pub returns : goal.returns
returns c = λ plan k old new o before d cs e h. lasting new plan k old o before d cs e h
