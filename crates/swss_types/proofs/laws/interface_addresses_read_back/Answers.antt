use Rattle.swss_types.specs.Prefix.{interface_address_of, interface_address_text, IsProperInterfaceAddress}
use Rattle.swss_types.proofs.PrefixTexts.{interface_address_of-text}
use Rattle.swss_types.proofs.Proper.{IsProper-interface_address_of}
use Rattle.swss_types.proofs.WrittenOnce.{IsWrittenOnce-from_back}
use Rattle.swss_types.proofs.laws.interface_addresses_read_back.Goals as goal

pub returns-clause-back : goal.returns-clause-back
returns-clause-back c = interface_address_of-text

pub returns-clause-once : goal.returns-clause-once
returns-clause-once c = IsWrittenOnce-from_back IsProperInterfaceAddress (λ a. interface_address_text a.0 a.1) interface_address_of interface_address_of-text

pub returns-clause-proper : goal.returns-clause-proper
returns-clause-proper c = IsProper-interface_address_of
