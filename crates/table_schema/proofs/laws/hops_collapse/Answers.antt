use Rattle.table_schema.proofs.Hops.{AreRisingHops-put_row_hop, put_row_hop-there}
use Rattle.table_schema.proofs.laws.hops_collapse.Goals as goal

pub returns-clause-rising : goal.returns-clause-rising
returns-clause-rising c = AreRisingHops-put_row_hop

pub returns-clause-once : goal.returns-clause-once
returns-clause-once c = put_row_hop-there
