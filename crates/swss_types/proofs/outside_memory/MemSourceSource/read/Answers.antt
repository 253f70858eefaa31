use Rattle.std.proofs.Common.{◌≡◌, ◌<◌, ◌≤◌, ◌-◌, length, take, drop, ◌+◌, refl, sym, ap, ◌∙◌, arith, length-take, length-drop}
use Rattle.swss_types.proofs.Fronts.{gives-front}
use Rattle.swss_types.proofs.outside_memory.MemSourceSource.read.Goals as goal

pub returns-clause-gives : goal.returns-clause-gives
returns-clause-gives c =
    let count = c.copy_front-count.result in
    let at = c.self.inside.given in
    let all = c.deref-2.result.now in
    let left : length (take (length all - at) (drop at all)) ≡ length all - at = length-take (length all - at) (drop at all) ∙ omega (arith, length-drop at all) in
    let some : 0 < count = omega (arith, left, c.copy_front-count.ensures.count, c.deref-2.ensures.len, c.len.ensures, c.if-self-len.false, c.self.invariant.0, c.self.invariant.1, c.requires) in
    let fits : count ≤ length c.copy_front-count.new.into = omega (arith, c.copy_front-count.ensures.count, c.copy_front-count.auto.into) in (
      some,
      fits,
      (
        drop (at + count) c.self.inside.bytes.items,
        refl,
        ap (λ s. s.left) (sym c.self.view_is) ∙ rw c.deref-2.ensures.value at (gives-front all c.copy_front-count.new.into at count c.copy_front-count.ensures.front),
      ),
      ap (λ s. s.faults) c.self.view_is,
    )
