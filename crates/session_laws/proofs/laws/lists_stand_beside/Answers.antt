use Rattle.session_laws.proofs.Beside.{makes_with, stands_with}
use Rattle.session_laws.proofs.laws.lists_stand_beside.Goals as goal

pub returns-clause-stands : goal.returns-clause-stands
returns-clause-stands c = stands_with

pub returns-clause-makes : goal.returns-clause-makes
returns-clause-makes c = makes_with
