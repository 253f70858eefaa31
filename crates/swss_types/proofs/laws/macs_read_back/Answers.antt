use Rattle.swss_types.specs.Mac.{mac_of, mac_text, IsProperMac}
use Rattle.swss_types.proofs.Macs.{mac_of-mac_text}
use Rattle.swss_types.proofs.Proper.{IsProperMac-mac_of}
use Rattle.swss_types.proofs.WrittenOnce.{IsWrittenOnce-from_back}
use Rattle.swss_types.proofs.laws.macs_read_back.Goals as goal

pub returns-clause-back : goal.returns-clause-back
returns-clause-back c = mac_of-mac_text

pub returns-clause-once : goal.returns-clause-once
returns-clause-once c = IsWrittenOnce-from_back IsProperMac mac_text mac_of mac_of-mac_text

pub returns-clause-proper : goal.returns-clause-proper
returns-clause-proper c = IsProperMac-mac_of
