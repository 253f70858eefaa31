-- Names of virtual routers, as SONiC's VRF_TABLE spells them: `Vrf`, and a label of at most 12 ASCII letters, digits, `_` and `-` behind it.
use Rattle.std.specs.Prelude.{◌≡◌, ℕ, ◌-◌, ◌≤◌, ◌==◌, nat_le, Bool, true, ◌&&◌, ◌||◌, List, [], ◌∷◌, ◌++◌, length, replicate, Option, Some, None, codes, if◌then◌else◌}
use Rattle.std.specs.Char.{is_ascii_alphanumeric}
use Rattle.std.specs.List.{list_all}
use Rattle.swss_types.specs.Interface.{behind}
use Rattle.swss_types.specs.Parts.{parts_at}
use Rattle.swss_types.specs.declared.vrf.VrfName.{VrfName}

-- a letter, a digit, `_` or `-`
abbrev pub is_label_byte : ℕ → Bool
is_label_byte byte = is_ascii_alphanumeric byte || byte == 95 || byte == 45

abbrev pub are_label_bytes : List ℕ → Bool
are_label_bytes bytes = list_all is_label_byte bytes

-- a label, filled up with zeros to 12 bytes
abbrev pub filled_label : List ℕ → List ℕ
filled_label label = label ++ replicate (12 - length label) 0

-- the name with a label
abbrev pub vrf_name_with : List ℕ → Option VrfName
vrf_name_with label = if nat_le (length label) 12 && are_label_bytes label then Some (record { 0 = filled_label label }) else None

abbrev pub vrf_name_or_none : Option (List ℕ) → Option VrfName
vrf_name_or_none None = None
vrf_name_or_none (Some label) = vrf_name_with label

-- the name that a text writes
abbrev pub vrf_name_of : List ℕ → Option VrfName
vrf_name_of text = vrf_name_or_none (behind (codes "Vrf") text)

abbrev pub first_part : List (List ℕ) → List ℕ
first_part [] = []
first_part (part ∷ parts) = part

-- the label of a name: its bytes before the first zero
abbrev pub label_of : VrfName → List ℕ
label_of name = first_part (parts_at 0 name.0)

-- the written name
abbrev pub vrf_name_text : VrfName → List ℕ
vrf_name_text name = codes "Vrf" ++ label_of name

abbrev pub IsLabel : List ℕ → Type 0
IsLabel label = (length label ≤ 12) × (are_label_bytes label ≡ true)

-- the bytes of a label, filled up with zeros
abbrev pub IsProperVrfName : VrfName → Type 0
IsProperVrfName name = IsLabel (label_of name) × (name.0 ≡ filled_label (label_of name))
