use Rattle.std.proofs.Common.{[], ◌∷◌, codes}
use Rattle.swss_types.specs.Tagging.{tagging_text}
use Rattle.sai_record.specs.Line.{id_word}
use Rattle.sai_record.proofs.Written.{last-word, three-words}
use Rattle.sai_record.proofs.line.write_vlan_member.Goals as goal

pub returns : goal.returns
returns c =
    let out = c.args.out.now.items in
    let one = c.extend_from_slice.new.self.items in
    let two = c.write_id.new.out.items in
    let three = c.write_id-2.new.out.items in
    let kind = codes "VLAN_MEMBER" in
    let vlan = id_word c.args.vlan in
    let port = id_word c.args.bridge_port in
    last-word c.write_tagging.result out three c.write_tagging.new.out.items (kind ∷ vlan ∷ port ∷ []) (tagging_text c.args.tagging)
    (three-words out one two three kind vlan port c.in_ok-extend_from_slice.ensures.items c.in_ok-write_id.ensures c.in_ok-write_id-2.ensures) c.write_tagging.ensures
