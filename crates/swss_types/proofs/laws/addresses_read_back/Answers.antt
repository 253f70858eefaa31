use Rattle.swss_types.specs.Address.{IsProperIp}
use Rattle.swss_types.specs.Ip.{ip_of, ip_text, groups_in}
use Rattle.swss_types.proofs.Gaps.{IsRecommended-hex_groups_text}
use Rattle.swss_types.proofs.Groups.{IsGroupText-hex}
use Rattle.swss_types.proofs.IpTexts.{ip_of-ip_text}
use Rattle.swss_types.proofs.Proper.{IsProperIp-ip_of}
use Rattle.swss_types.proofs.WrittenOnce.{IsWrittenOnce-from_back}
use Rattle.swss_types.proofs.laws.addresses_read_back.Goals as goal

pub returns-clause-back : goal.returns-clause-back
returns-clause-back c = ip_of-ip_text

pub returns-clause-once : goal.returns-clause-once
returns-clause-once c = IsWrittenOnce-from_back IsProperIp ip_text ip_of ip_of-ip_text

pub returns-clause-proper : goal.returns-clause-proper
returns-clause-proper c = IsProperIp-ip_of

pub returns-clause-recommended : goal.returns-clause-recommended
returns-clause-recommended c = λ bits. IsRecommended-hex_groups_text (groups_in bits)

pub returns-clause-groups : goal.returns-clause-groups
returns-clause-groups c = λ group small. (IsGroupText-hex group small).plain
