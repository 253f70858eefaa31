use Rattle.std.proofs.Common.{◌≡◌, ◌++◌, ◌∷◌, take, flat_map}
use Rattle.swss_types.specs.Mac.{pair_text}
use Rattle.swss_types.proofs.mac.write_behind.Given as goal

-- the bytes so far are appended
abbrev pub invariant-loop-byte : goal.invariant-loop-byte
invariant-loop-byte l = l.out.items ≡ l.fn.out.items ++ flat_map (λ byte. 58 ∷ pair_text byte) (take l.byte-index l.bytes)
