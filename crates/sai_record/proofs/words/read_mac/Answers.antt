use Rattle.swss_types.specs.Mac.{IsProperMac, mac_of}
use Rattle.swss_types.proofs.Proper.{IsProperMac-mac_of}
use Rattle.sai_record.proofs.Proper.{if-proper}
use Rattle.sai_record.proofs.words.read_mac.Goals as goal

pub returns-clause-proper : goal.returns-clause-proper
returns-clause-proper c = let word = c.in_ok-next_word.field-0.now in if-proper IsProperMac c.read.result (mac_of word) c.read.ensures (IsProperMac-mac_of word)
