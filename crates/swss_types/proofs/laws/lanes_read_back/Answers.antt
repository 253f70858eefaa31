use Rattle.swss_types.specs.Lanes.{lanes_of, lanes_text, IsLaneList}
use Rattle.swss_types.proofs.LaneLists.{lanes_of-lanes_text}
use Rattle.swss_types.proofs.Proper.{IsLaneList-lanes_of}
use Rattle.swss_types.proofs.WrittenOnce.{IsWrittenOnce-from_back}
use Rattle.swss_types.proofs.laws.lanes_read_back.Goals as goal

pub returns-clause-back : goal.returns-clause-back
returns-clause-back c = lanes_of-lanes_text

pub returns-clause-once : goal.returns-clause-once
returns-clause-once c = IsWrittenOnce-from_back IsLaneList lanes_text lanes_of lanes_of-lanes_text

pub returns-clause-proper : goal.returns-clause-proper
returns-clause-proper c = IsLaneList-lanes_of
