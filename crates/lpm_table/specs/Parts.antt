-- The parts of a prefix. Own.
use Rattle.std.specs.Prelude.{ℕ}
use Rattle.swss_types.specs.declared.address.Family.{Family}
use Rattle.swss_types.specs.declared.address.Prefix.{Prefix}
use Rattle.lpm_table.specs.declared.parts.Parts.{Parts}

abbrev pub node_of : ℕ → Family → ℕ → Prefix
node_of bits family len = record { ip = record { family = family; bits = bits }; len = len }

-- the prefix of these parts
abbrev pub whole : Parts → Prefix
whole p = node_of p.bits p.family p.len
