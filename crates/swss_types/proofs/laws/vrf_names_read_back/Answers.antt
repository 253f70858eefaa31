use Rattle.swss_types.specs.VrfNames.{vrf_name_of, vrf_name_text, IsProperVrfName}
use Rattle.swss_types.proofs.VrfNames.{vrf_name_of-vrf_name_text, IsProperVrfName-vrf_name_of}
use Rattle.swss_types.proofs.WrittenOnce.{IsWrittenOnce-from_back}
use Rattle.swss_types.proofs.laws.vrf_names_read_back.Goals as goal

pub returns-clause-back : goal.returns-clause-back
returns-clause-back c = vrf_name_of-vrf_name_text

pub returns-clause-once : goal.returns-clause-once
returns-clause-once c = IsWrittenOnce-from_back IsProperVrfName vrf_name_text vrf_name_of vrf_name_of-vrf_name_text

pub returns-clause-proper : goal.returns-clause-proper
returns-clause-proper c = IsProperVrfName-vrf_name_of
