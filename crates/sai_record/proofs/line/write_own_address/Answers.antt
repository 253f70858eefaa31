use Rattle.std.proofs.Common.{[], ◌∷◌, codes}
use Rattle.swss_types.specs.Ip.{ip_text}
use Rattle.sai_record.specs.Line.{id_or_none}
use Rattle.sai_record.proofs.Written.{last-word, more-words, one-word}
use Rattle.sai_record.proofs.line.write_own_address.Goals as goal

pub returns : goal.returns
returns c =
    let out = c.args.out.now.items in
    let one = c.extend_from_slice.new.self.items in
    let two = c.write_id_or_none.new.out.items in
    let kind = codes "OWN_ADDRESS" in
    let vr = id_or_none c.args.vr in
    last-word c.write_ip.result out two c.write_ip.new.out.items (kind ∷ vr ∷ []) (ip_text c.args.ip)
    (more-words out one two (kind ∷ []) vr (one-word out one kind c.in_ok-extend_from_slice.ensures.items) c.in_ok-write_id_or_none.ensures) c.write_ip.ensures
