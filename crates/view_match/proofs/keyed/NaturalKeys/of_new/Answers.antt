use Rattle.chip_names.specs.Naming.{entries_of}
use Rattle.view_match.specs.Listed.{objects_as}
use Rattle.view_match.proofs.Routeless.{routeless-names}
use Rattle.view_match.proofs.keyed.NaturalKeys.of_new.Goals as goal

pub returns : goal.returns
returns c = λ new are. c.in_ok-key.ensures (entries_of (objects_as new)) (routeless-names new c.args.self.now.new_names are)
