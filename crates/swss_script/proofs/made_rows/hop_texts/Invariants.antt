use Rattle.std.proofs.Common.{◌≡◌, ◌+◌, ◌++◌, string_bytes}
use Rattle.swss_script.specs.Generated.{hop_address, hop_interface, hops_from, texts_joined}
use Rattle.swss_script.proofs.Eaches.{texts_left}
use Rattle.swss_script.proofs.made_rows.hop_texts.Given as goal

-- the texts so far, with those of the hops that are left, are those of all hops
abbrev pub invariant-loop-number : goal.invariant-loop-number
invariant-loop-number l =
    (string_bytes l.addresses ++ texts_left hop_address l.number (l.first + 1 + l.others) ≡ texts_joined hop_address (hops_from l.first (1 + l.others)))
    × (string_bytes l.interfaces ++ texts_left hop_interface l.number (l.first + 1 + l.others) ≡ texts_joined hop_interface (hops_from l.first (1 + l.others)))
