use Rattle.table_schema.proofs.Plans.{IsPlan-plan_of}
use Rattle.table_schema.proofs.laws.plans_are_plans.Goals as goal

pub returns : goal.returns
returns c = IsPlan-plan_of
