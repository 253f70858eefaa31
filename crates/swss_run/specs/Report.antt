-- What the sink took of a report. Own.
use Rattle.std.specs.Prelude.{ℕ, List, Option}
use Rattle.swss_types.specs.Outside.{Takes}
use Rattle.table_schema.specs.Plan.{Ports}
use Rattle.swss_script.specs.declared.parts.Round.{Round}
use Rattle.swss_run.specs.Output.{TakesFront, TakesPart}
use Rattle.swss_run.specs.Rounds.{IsReport, Ran}

-- the sink took the whole report of these rounds
pub record TookReport (plan : Ports) (capacities : List ℕ) (rans : List Ran) (rounds : List Round) (held held' : Option (List ℕ)) : Type 0 where
  pub text : List ℕ
  pub report : IsReport plan capacities rans rounds text
  pub took : Takes held text held'

-- the sink took a front of the report of these rounds
pub record TookFront (plan : Ports) (capacities : List ℕ) (rans : List Ran) (rounds : List Round) (held held' : Option (List ℕ)) : Type 0 where
  pub text : List ℕ
  pub report : IsReport plan capacities rans rounds text
  pub took : TakesFront held text held'

-- the sink took a front of the report of these rounds, and not all of it
pub record TookPart (plan : Ports) (capacities : List ℕ) (rans : List Ran) (rounds : List Round) (held held' : Option (List ℕ)) : Type 0 where
  pub text : List ℕ
  pub report : IsReport plan capacities rans rounds text
  pub took : TakesPart held text held'
