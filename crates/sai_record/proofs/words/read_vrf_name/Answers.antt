use Rattle.swss_types.specs.VrfNames.{IsProperVrfName, vrf_name_of}
use Rattle.swss_types.proofs.VrfNames.{IsProperVrfName-vrf_name_of}
use Rattle.sai_record.proofs.Proper.{if-proper}
use Rattle.sai_record.proofs.words.read_vrf_name.Goals as goal

pub returns-clause-proper : goal.returns-clause-proper
returns-clause-proper c =
    let word = c.in_ok-next_word.field-0.now in
    if-proper IsProperVrfName c.read.result (vrf_name_of word) c.read.ensures (IsProperVrfName-vrf_name_of word)
