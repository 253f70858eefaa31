-- a written name reads as the name
use Rattle.std.proofs.Common.{◌≡◌, Some, refl, arith}
use Rattle.std.proofs.lemmas.Bool.{lt-ltb}
use Rattle.swss_types.specs.Interface.{if_name_of, if_name_text, IsProperIfName}
use Rattle.swss_types.specs.declared.interface.IfName.{IfName}
use Rattle.swss_types.specs.declared.interface.IfName.TheVariants.{Ethernet, Vlan, Loopback}
use Rattle.swss_types.proofs.Decimals.{number_within-decimal}

pub if_name_of-if_name_text : (name : IfName) → IsProperIfName name → if_name_of (if_name_text name) ≡ Some name
if_name_of-if_name_text (Ethernet n) h = rw (number_within-decimal 999999 n h (omega arith)) refl
if_name_of-if_name_text (Vlan n) h = rw (number_within-decimal 4094 n h.1 (omega arith), lt-ltb 0 n h.0) refl
if_name_of-if_name_text (Loopback n) h = rw (number_within-decimal 999999 n h (omega arith)) refl
