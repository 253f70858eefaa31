use Rattle.std.proofs.Common.{◌≡◌, ◌++◌, ◌∷◌, take, flat_map}
use Rattle.swss_report.specs.ChipLine.{whop_text}
use Rattle.swss_report.proofs.chip_line.write_behind.Given as goal

-- the hops so far are appended
abbrev pub invariant-loop-hop : goal.invariant-loop-hop
invariant-loop-hop l = l.out.items ≡ l.fn.out.items ++ flat_map (λ h. 44 ∷ whop_text l.plan h) (take l.hop-index l.hops)
