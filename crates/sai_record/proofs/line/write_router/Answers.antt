use Rattle.std.proofs.Common.{[], ◌∷◌, codes}
use Rattle.swss_types.specs.VrfNames.{vrf_name_text}
use Rattle.sai_record.proofs.Written.{last-word, one-word}
use Rattle.sai_record.proofs.line.write_router.Goals as goal

pub returns : goal.returns
returns c =
    let out = c.args.out.now.items in
    let one = c.extend_from_slice.new.self.items in
    let kind = codes "VIRTUAL_ROUTER" in
    last-word c.write_vrf_name.result out one c.write_vrf_name.new.out.items (kind ∷ []) (vrf_name_text c.args.label) (one-word out one kind c.in_ok-extend_from_slice.ensures.items) c.write_vrf_name.ensures
