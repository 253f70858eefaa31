use Rattle.swss_types.specs.Address.{IsProperPrefix}
use Rattle.swss_types.specs.Prefix.{prefix_of, prefix_text}
use Rattle.swss_types.proofs.PrefixTexts.{prefix_of-prefix_text}
use Rattle.swss_types.proofs.Proper.{IsProperPrefix-prefix_of}
use Rattle.swss_types.proofs.WrittenOnce.{IsWrittenOnce-from_back}
use Rattle.swss_types.proofs.laws.prefixes_read_back.Goals as goal

pub returns-clause-back : goal.returns-clause-back
returns-clause-back c = prefix_of-prefix_text

pub returns-clause-once : goal.returns-clause-once
returns-clause-once c = IsWrittenOnce-from_back IsProperPrefix prefix_text prefix_of prefix_of-prefix_text

pub returns-clause-proper : goal.returns-clause-proper
returns-clause-proper c = IsProperPrefix-prefix_of
