use Rattle.swss_types.specs.Interface.{if_name_of, if_name_text, IsProperIfName}
use Rattle.swss_types.proofs.Names.{if_name_of-if_name_text}
use Rattle.swss_types.proofs.Proper.{IsProperIfName-if_name_of}
use Rattle.swss_types.proofs.WrittenOnce.{IsWrittenOnce-from_back}
use Rattle.swss_types.proofs.laws.interface_names_read_back.Goals as goal

pub returns-clause-back : goal.returns-clause-back
returns-clause-back c = if_name_of-if_name_text

pub returns-clause-once : goal.returns-clause-once
returns-clause-once c = IsWrittenOnce-from_back IsProperIfName if_name_text if_name_of if_name_of-if_name_text

pub returns-clause-proper : goal.returns-clause-proper
returns-clause-proper c = IsProperIfName-if_name_of
