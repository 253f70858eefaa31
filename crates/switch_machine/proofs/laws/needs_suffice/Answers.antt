use Rattle.switch_machine.proofs.Needing.{call-needs, list-needs, mark-needs, write-needs}
use Rattle.switch_machine.proofs.laws.needs_suffice.Goals as goal

pub returns-clause-writes : goal.returns-clause-writes
returns-clause-writes c = write-needs

pub returns-clause-calls : goal.returns-clause-calls
returns-clause-calls c = call-needs

pub returns-clause-lists : goal.returns-clause-lists
returns-clause-lists c = list-needs

pub returns-clause-marks : goal.returns-clause-marks
returns-clause-marks c = mark-needs
