-- written keys read as the same keys
use Rattle.std.proofs.Common.{◌≡◌, ℕ, append_assoc, ◌/◌, ◌%◌, ◌^◌, ◌<◌, ◌≤◌, true, List, [], ◌∷◌, ◌++◌, Some, codes, Contains, option_map, inl, inr, refl, ap, ◌∙◌, arith}
use Rattle.std.specs.Fmt.{decimal}
use Rattle.std.specs.Net.Text.{hex_groups_text}
use Rattle.std.specs.Str.{IsAscii}
use Rattle.std.proofs.NetLemmas.Alphabet.{IsHexOrColon, All-hex_groups_text}
use Rattle.std.proofs.lemmas.Fmt.{IsAscii-decimal}
use Rattle.std.proofs.lemmas.Str.{IsAscii-append, IsUtf8-from_ascii}
use Rattle.std.proofs.lemmas.Str.Ascii.{IsAscii-from_all}
use Rattle.swss_types.specs.Address.{width}
use Rattle.swss_types.specs.Interface.{if_name_text, IsProperIfName}
use Rattle.swss_types.specs.Ip.{ip_text, text_in, groups_in}
use Rattle.swss_types.specs.Prefix.{interface_address_text, prefix_text}
use Rattle.swss_types.specs.declared.address.Family.{Family}
use Rattle.swss_types.specs.declared.address.Family.TheVariants.{V4, V6}
use Rattle.swss_types.specs.declared.address.Ip.{Ip}
use Rattle.swss_types.specs.declared.interface.IfName.{IfName}
use Rattle.swss_types.specs.declared.interface.IfName.TheVariants as name
use Rattle.swss_types.specs.VrfNames.{vrf_name_text}
use Rattle.swss_types.proofs.Decimals.{IsFree-decimal}
use Rattle.swss_types.proofs.IpTexts.{AllBelow-groups_in, AllSegments-below, ip_of-ip_text}
use Rattle.swss_types.proofs.Joins.{IsFree}
use Rattle.swss_types.proofs.Names.{if_name_of-if_name_text}
use Rattle.swss_types.proofs.PrefixTexts.{interface_address_of-text, prefix_of-prefix_text}
use Rattle.swss_types.proofs.VrfNames.{vrf_name_of-vrf_name_text}
use Rattle.table_schema.specs.KeyText.{key_of, key_text, key_at, known_key, table_of, or_other, on_switch, router_text, key_of_route, vlan_key, port_key}
use Rattle.table_schema.specs.ProperKey.{HasProperParts, IsProperKey}
use Rattle.table_schema.specs.declared.key.Key.{Key}
use Rattle.table_schema.specs.declared.key.Key.TheVariants.{Port, Vlan, Vrf, Member, Intf, Addr, Neigh, Route, Other}
use Rattle.table_schema.proofs.Routers.{IsAscii-router_text, IsAscii-vrf_name_text, route_parts-written}
use Rattle.table_schema.proofs.Texts.{IsFree-tested, IsFree-append, split_once-first, split_once-none, Contains-middle, is_ascii, IsAscii-tested}

-- ---- names

free_decimal : (n : ℕ) → n < 2 ^ 64 → IsFree 58 (decimal n)
free_decimal n small = IsFree-decimal 58 n (λ r. absurd (omega arith)) small

IsFree-if_name_text : (on : IfName) → IsProperIfName on → IsFree 58 (if_name_text on)
IsFree-if_name_text (name.Ethernet n) h = IsFree-append 58 (codes "Ethernet") (decimal n) (IsFree-tested 58 (codes "Ethernet") refl) (free_decimal n (omega arith))
IsFree-if_name_text (name.Vlan n) h = IsFree-append 58 (codes "Vlan") (decimal n) (IsFree-tested 58 (codes "Vlan") refl) (free_decimal n (omega arith))
IsFree-if_name_text (name.Loopback n) h = IsFree-append 58 (codes "Loopback") (decimal n) (IsFree-tested 58 (codes "Loopback") refl) (free_decimal n (omega arith))

IsAscii-if_name_text : (on : IfName) → IsProperIfName on → IsAscii (if_name_text on)
IsAscii-if_name_text (name.Ethernet n) h = IsAscii-append (codes "Ethernet") (decimal n) (IsAscii-tested (codes "Ethernet") refl) (IsAscii-decimal n (omega arith))
IsAscii-if_name_text (name.Vlan n) h = IsAscii-append (codes "Vlan") (decimal n) (IsAscii-tested (codes "Vlan") refl) (IsAscii-decimal n (omega arith))
IsAscii-if_name_text (name.Loopback n) h = IsAscii-append (codes "Loopback") (decimal n) (IsAscii-tested (codes "Loopback") refl) (IsAscii-decimal n (omega arith))

-- ---- addresses

hex_is_ascii : (c : ℕ) → IsHexOrColon c → c < 128
hex_is_ascii c (inl digit) = omega arith
hex_is_ascii c (inr letter) = omega arith

IsAscii-text_in : (family : Family) (bits : ℕ) → IsAscii (text_in family bits)
IsAscii-text_in V4 bits =
    let dot = IsAscii-tested (codes ".") refl in
    let a = decimal (bits / 2 ^ 24 % 256) in
    let b = decimal (bits / 2 ^ 16 % 256) in
    let c = decimal (bits / 2 ^ 8 % 256) in
    let d = decimal (bits % 256) in
    let one = IsAscii-append a (codes ".") (IsAscii-decimal (bits / 2 ^ 24 % 256) (omega arith)) dot in
    let two = IsAscii-append (a ++ codes ".") b one (IsAscii-decimal (bits / 2 ^ 16 % 256) (omega arith)) in
    let three = IsAscii-append (a ++ codes "." ++ b) (codes ".") two dot in
    let four = IsAscii-append (a ++ codes "." ++ b ++ codes ".") c three (IsAscii-decimal (bits / 2 ^ 8 % 256) (omega arith)) in
    let five = IsAscii-append (a ++ codes "." ++ b ++ codes "." ++ c) (codes ".") four dot in
    IsAscii-append (a ++ codes "." ++ b ++ codes "." ++ c ++ codes ".") d five (IsAscii-decimal (bits % 256) (omega arith))
IsAscii-text_in V6 bits = IsAscii-from_all (hex_groups_text (groups_in bits)) (λ k d within. hex_is_ascii _ (All-hex_groups_text (groups_in bits) (AllSegments-below (groups_in bits) (AllBelow-groups_in bits)) k d within))

IsAscii-ip_text : (ip : Ip) → IsAscii (ip_text ip)
IsAscii-ip_text ip = IsAscii-text_in ip.family ip.bits

IsAscii-interface_address_text : (ip : Ip) (len : ℕ) → len < 2 ^ 64 → IsAscii (interface_address_text ip len)
IsAscii-interface_address_text ip len small = IsAscii-append (ip_text ip) (47 ∷ decimal len) (IsAscii-ip_text ip) (IsAscii-append (47 ∷ []) (decimal len) (IsAscii-tested (47 ∷ []) refl) (IsAscii-decimal len small))

len_small : (family : Family) (len : ℕ) → len ≤ width family → len < 2 ^ 64
len_small V4 len h = omega arith
len_small V6 len h = omega arith

-- ---- keys that a table has

-- a key of a table with its parts in their ranges
abbrev pub IsTyped : Key → Type 0
IsTyped (Port port) = HasProperParts (Port port)
IsTyped (Vlan vlan) = HasProperParts (Vlan vlan)
IsTyped (Vrf n) = HasProperParts (Vrf n)
IsTyped (Member vlan port) = HasProperParts (Member vlan port)
IsTyped (Intf on) = HasProperParts (Intf on)
IsTyped (Addr on ip len) = HasProperParts (Addr on ip len)
IsTyped (Neigh on ip) = HasProperParts (Neigh on ip) × (on_switch (Some on) ≡ Some on)
IsTyped (Route v prefix) = HasProperParts (Route v prefix)
IsTyped (Other text) = ⊥

pub parts_typed : (k : Key) → IsTyped k → HasProperParts k
parts_typed (Port port) h = h
parts_typed (Vlan vlan) h = h
parts_typed (Vrf n) h = h
parts_typed (Member vlan port) h = h
parts_typed (Intf on) h = h
parts_typed (Addr on ip len) h = h
parts_typed (Neigh on ip) h = h.0
parts_typed (Route v prefix) h = h
parts_typed (Other text) h = absurd h

-- a table's name, a colon and a text that the table reads
reads_in : (word rest : List ℕ) (k : Key) → IsFree 58 word → key_at (table_of word) rest ≡ Some k → key_of (word ++ 58 ∷ rest) ≡ k
reads_in word rest k free reads = ap (λ o. or_other (word ++ 58 ∷ rest) (known_key o)) (split_once-first 58 word rest free) ∙ ap (or_other (word ++ 58 ∷ rest)) reads

pub key_of-key_text : (k : Key) → IsTyped k → key_of (key_text k) ≡ k
key_of-key_text (Port port) h =
    reads_in (codes "PORT_TABLE") (if_name_text (name.Ethernet port)) (Port port) (IsFree-tested 58 (codes "PORT_TABLE") refl) (ap port_key (if_name_of-if_name_text (name.Ethernet port) h))
key_of-key_text (Vlan vlan) h =
    reads_in (codes "VLAN_TABLE") (if_name_text (name.Vlan vlan)) (Vlan vlan) (IsFree-tested 58 (codes "VLAN_TABLE") refl) (ap vlan_key (if_name_of-if_name_text (name.Vlan vlan) h))
key_of-key_text (Vrf n) h =
    reads_in (codes "VRF_TABLE") (vrf_name_text n) (Vrf n) (IsFree-tested 58 (codes "VRF_TABLE") refl) (ap (option_map Vrf) (vrf_name_of-vrf_name_text n h))
key_of-key_text (Member vlan port) h =
    ap key_of (append_assoc (codes "VLAN_MEMBER_TABLE:") (if_name_text (name.Vlan vlan)) (codes ":" ++ if_name_text (name.Ethernet port)))
    ∙ reads_in (codes "VLAN_MEMBER_TABLE") (if_name_text (name.Vlan vlan) ++ 58 ∷ if_name_text (name.Ethernet port)) (Member vlan port) (IsFree-tested 58 (codes "VLAN_MEMBER_TABLE") refl)
    (rw (split_once-first 58 (if_name_text (name.Vlan vlan)) (if_name_text (name.Ethernet port)) (IsFree-if_name_text (name.Vlan vlan) h.0), if_name_of-if_name_text (name.Vlan vlan) h.0, if_name_of-if_name_text (name.Ethernet port) h.1) refl)
key_of-key_text (Intf on) h =
    reads_in (codes "INTF_TABLE") (if_name_text on) (Intf on) (IsFree-tested 58 (codes "INTF_TABLE") refl)
    (rw (split_once-none 58 (if_name_text on) (IsFree-if_name_text on h), if_name_of-if_name_text on h) refl)
key_of-key_text (Addr on ip len) h =
    ap key_of (append_assoc (codes "INTF_TABLE:") (if_name_text on) (codes ":" ++ interface_address_text ip len))
    ∙ reads_in (codes "INTF_TABLE") (if_name_text on ++ 58 ∷ interface_address_text ip len) (Addr on ip len) (IsFree-tested 58 (codes "INTF_TABLE") refl)
    (rw (split_once-first 58 (if_name_text on) (interface_address_text ip len) (IsFree-if_name_text on h.0), if_name_of-if_name_text on h.0, interface_address_of-text (ip, len) h.1) refl)
key_of-key_text (Neigh on ip) h =
    ap key_of (append_assoc (codes "NEIGH_TABLE:") (if_name_text on) (codes ":" ++ ip_text ip))
    ∙ reads_in (codes "NEIGH_TABLE") (if_name_text on ++ 58 ∷ ip_text ip) (Neigh on ip) (IsFree-tested 58 (codes "NEIGH_TABLE") refl)
    (rw (split_once-first 58 (if_name_text on) (ip_text ip) (IsFree-if_name_text on h.0.0), if_name_of-if_name_text on h.0.0, h.1, ip_of-ip_text ip h.0.1) refl)
key_of-key_text (Route v prefix) h =
    ap key_of (append_assoc (codes "ROUTE_TABLE:") (router_text v) (prefix_text prefix))
    ∙ reads_in (codes "ROUTE_TABLE") (router_text v ++ prefix_text prefix) (Route v prefix) (IsFree-tested 58 (codes "ROUTE_TABLE") refl)
    (ap key_of_route (route_parts-written v prefix h.0 h.1) ∙ ap (option_map (Route v)) (prefix_of-prefix_text prefix h.1))
key_of-key_text (Other text) h = absurd h

word_ascii : (word rest : List ℕ) → is_ascii word ≡ true → IsAscii rest → IsAscii (word ++ rest)
word_ascii word rest w r = IsAscii-append word rest (IsAscii-tested word w) r

IsAscii-key_text : (k : Key) → IsTyped k → IsAscii (key_text k)
IsAscii-key_text (Port port) h = word_ascii (codes "PORT_TABLE:") (if_name_text (name.Ethernet port)) refl (IsAscii-if_name_text (name.Ethernet port) h)
IsAscii-key_text (Vlan vlan) h = word_ascii (codes "VLAN_TABLE:") (if_name_text (name.Vlan vlan)) refl (IsAscii-if_name_text (name.Vlan vlan) h)
IsAscii-key_text (Vrf n) h = word_ascii (codes "VRF_TABLE:") (vrf_name_text n) refl (IsAscii-vrf_name_text n h)
IsAscii-key_text (Member vlan port) h =
    IsAscii-append (codes "VLAN_MEMBER_TABLE:" ++ if_name_text (name.Vlan vlan)) (codes ":" ++ if_name_text (name.Ethernet port))
    (word_ascii (codes "VLAN_MEMBER_TABLE:") (if_name_text (name.Vlan vlan)) refl (IsAscii-if_name_text (name.Vlan vlan) h.0))
    (word_ascii (codes ":") (if_name_text (name.Ethernet port)) refl (IsAscii-if_name_text (name.Ethernet port) h.1))
IsAscii-key_text (Intf on) h = word_ascii (codes "INTF_TABLE:") (if_name_text on) refl (IsAscii-if_name_text on h)
IsAscii-key_text (Addr on ip len) h =
    let small : len < 2 ^ 64 = len_small ip.family len h.1.1 in
    IsAscii-append (codes "INTF_TABLE:" ++ if_name_text on) (codes ":" ++ interface_address_text ip len)
    (word_ascii (codes "INTF_TABLE:") (if_name_text on) refl (IsAscii-if_name_text on h.0))
    (word_ascii (codes ":") (interface_address_text ip len) refl (IsAscii-interface_address_text ip len small))
IsAscii-key_text (Neigh on ip) h =
    IsAscii-append (codes "NEIGH_TABLE:" ++ if_name_text on) (codes ":" ++ ip_text ip)
    (word_ascii (codes "NEIGH_TABLE:") (if_name_text on) refl (IsAscii-if_name_text on h.0.0))
    (word_ascii (codes ":") (ip_text ip) refl (IsAscii-ip_text ip))
IsAscii-key_text (Route v prefix) h =
    IsAscii-append (codes "ROUTE_TABLE:" ++ router_text v) (prefix_text prefix)
    (word_ascii (codes "ROUTE_TABLE:") (router_text v) refl (IsAscii-router_text v h.0))
    (IsAscii-interface_address_text prefix.ip prefix.len (len_small prefix.ip.family prefix.len h.1.1))
IsAscii-key_text (Other text) h = absurd h

colon-key_text : (k : Key) → IsTyped k → Contains (key_text k) 58
colon-key_text (Port port) h = Contains-middle 58 (codes "PORT_TABLE") (if_name_text (name.Ethernet port))
colon-key_text (Vlan vlan) h = Contains-middle 58 (codes "VLAN_TABLE") (if_name_text (name.Vlan vlan))
colon-key_text (Vrf n) h = Contains-middle 58 (codes "VRF_TABLE") (vrf_name_text n)
colon-key_text (Member vlan port) h = Contains-middle 58 (codes "VLAN_MEMBER_TABLE") (if_name_text (name.Vlan vlan) ++ (codes ":" ++ if_name_text (name.Ethernet port)))
colon-key_text (Intf on) h = Contains-middle 58 (codes "INTF_TABLE") (if_name_text on)
colon-key_text (Addr on ip len) h = Contains-middle 58 (codes "INTF_TABLE") (if_name_text on ++ (codes ":" ++ interface_address_text ip len))
colon-key_text (Neigh on ip) h = Contains-middle 58 (codes "NEIGH_TABLE") (if_name_text on ++ (codes ":" ++ ip_text ip))
colon-key_text (Route v prefix) h = Contains-middle 58 (codes "ROUTE_TABLE") (router_text v ++ prefix_text prefix)
colon-key_text (Other text) h = absurd h

-- a key of a table with its parts in their ranges is proper
pub IsProperKey-typed : (k : Key) → IsTyped k → IsProperKey k
IsProperKey-typed k h = record {
  parts = parts_typed k h;
  utf8 = IsUtf8-from_ascii (key_text k) (IsAscii-key_text k h);
  colon = colon-key_text k h;
  reads = key_of-key_text k h;
}
