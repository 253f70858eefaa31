use Rattle.table_schema.proofs.ProperNames.{AreProperKeys-names_of}
use Rattle.table_schema.proofs.laws.names_are_proper.Goals as goal

pub returns : goal.returns
returns c = AreProperKeys-names_of
