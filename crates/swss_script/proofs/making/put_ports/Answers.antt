use Rattle.std.proofs.Common.{◌≡◌, ◌∙◌, ap, arith, sym}
use Rattle.swss_script.specs.Generated.{each_from, port_in_plan}
use Rattle.swss_script.proofs.Eaches.{each-none}
use Rattle.swss_script.proofs.making.put_ports.Goals as goal

pub loop-k-init : goal.loop-k-init
loop-k-init c = (c.requires ∙ sym (each-none port_in_plan 0), omega arith)

pub returns : goal.returns
returns c =
    let last : c.loop-k.k ≡ 64 = omega (arith, c.loop-k.invariant.1, c.loop-k-test.false) in
    c.loop-k.invariant.0 ∙ ap (each_from port_in_plan 0) last
