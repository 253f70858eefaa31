use Rattle.registry_laws.proofs.Allowed.{may_start}
use Rattle.registry_laws.proofs.flying.starts_are_allowed.Goals as goal

pub returns : goal.returns
returns c = λ plan capacities s names room flown w k is kept board less free readable rests differs fits. may_start plan is capacities s kept names room flown board w free k rests less readable differs fits
