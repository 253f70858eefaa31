-- what reads is proper
use Rattle.std.proofs.Common.{◌≡◌, ℕ, ◌+◌, ◌-◌, ◌≤◌, ◌==◌, ◌&&◌, nat_lt, leb, take, drop, List, [], ◌∷◌, ◌++◌, length, replicate, Option, None, Some, option_map, IfSome, codes, refl, ◌∙◌, subst, arith, lit≤}
use Rattle.std.proofs.lemmas.Bool.{eqb-true, leb-true, ltb-true, and_parts}
use Rattle.std.proofs.lemmas.Option.{cond_some}
use Rattle.swss_types.specs.Address.{width, IsProperIp, IsProperPrefix}
use Rattle.swss_types.specs.Hex.{hex_within}
use Rattle.swss_types.specs.Interface.{behind, vlan_of, loopback_of, vlan_or_other, ethernet_or_other, if_name_of, IsProperIfName}
use Rattle.swss_types.specs.Ip.{joined, ipv4_from, ipv4_of, side_of, gap_at, ipv6_from, filled, filled_between, eight_of, ipv6_of, ip_or, ip_of}
use Rattle.swss_types.specs.Lanes.{lanes_in, rising, in_order, lanes_of, IsLaneList}
use Rattle.swss_types.specs.Mac.{mac_from, mac_of, IsProperMac}
use Rattle.swss_types.specs.Number.{number_within}
use Rattle.swss_types.specs.Parts.{parts_at, each_of, AllBelow}
use Rattle.swss_types.specs.Prefix.{with_width, with_length, address_in, interface_address_of, is_clean, prefix_from, prefix_of, IsProperInterfaceAddress}
use Rattle.swss_types.specs.declared.address.Family.TheVariants.{V4, V6}
use Rattle.swss_types.specs.declared.address.Ip.{Ip}
use Rattle.swss_types.specs.declared.address.Mac.{Mac}
use Rattle.swss_types.specs.declared.address.Prefix.{Prefix}
use Rattle.swss_types.specs.declared.interface.IfName.{IfName}
use Rattle.swss_types.specs.declared.interface.IfName.TheVariants.{Ethernet, Vlan, Loopback}
use Rattle.swss_types.proofs.Addresses.{joined-lt, AllBelow-append, AllBelow-replicate, AllBelow-groups_of, AllBelow-side_of}
use Rattle.swss_types.proofs.Decimals.{number_within-le}
use Rattle.swss_types.proofs.Each.{AllBelow-each_of}
use Rattle.swss_types.proofs.Hexes.{hex_within-lt}
use Rattle.swss_types.proofs.Lists.{IsLaneList-rising}

pub mapped : {A B : Type 0} (f : A → B) (o : Option A) (y : B) → option_map f o ≡ Some y → (x : A) × (o ≡ Some x) × (f x ≡ y)
mapped f None y h = cc
mapped f (Some x) y h = (x, refl, cc)

-- names
IsProper-ethernet : (o : Option ℕ) (name : IfName) → ((n : ℕ) → o ≡ Some n → n ≤ 999999) → option_map Ethernet o ≡ Some name → IsProperIfName name
IsProper-ethernet o name small h = let (n, same, is) = mapped Ethernet o name h in subst IsProperIfName is (small n same)

IsProper-loopback : (o : Option ℕ) (name : IfName) → ((n : ℕ) → o ≡ Some n → n ≤ 999999) → option_map Loopback o ≡ Some name → IsProperIfName name
IsProper-loopback o name small h = let (n, same, is) = mapped Loopback o name h in subst IsProperIfName is (small n same)

IsProper-vlan : (o : Option ℕ) (name : IfName) → ((n : ℕ) → o ≡ Some n → n ≤ 4094) → vlan_of o ≡ Some name → IsProperIfName name
IsProper-vlan None name small h = cc
IsProper-vlan (Some n) name small h =
    let (some, is) = cond_some (nat_lt 0 n) (Vlan n) name h in
    subst IsProperIfName is (ltb-true 0 n some, small n refl)

IsProper-loopback_of : (text : List ℕ) (o : Option (List ℕ)) (name : IfName) → loopback_of text o ≡ Some name → IsProperIfName name
IsProper-loopback_of text None name h = cc
IsProper-loopback_of text (Some number) name h = IsProper-loopback (number_within 999999 number) name (λ n e. number_within-le 999999 n number e) h

IsProper-vlan_or_other : (text : List ℕ) (o : Option (List ℕ)) (name : IfName) → vlan_or_other text o ≡ Some name → IsProperIfName name
IsProper-vlan_or_other text None name h = IsProper-loopback_of text (behind (codes "Loopback") text) name h
IsProper-vlan_or_other text (Some number) name h = IsProper-vlan (number_within 4094 number) name (λ n e. number_within-le 4094 n number e) h

IsProper-ethernet_or_other : (text : List ℕ) (o : Option (List ℕ)) (name : IfName) → ethernet_or_other text o ≡ Some name → IsProperIfName name
IsProper-ethernet_or_other text None name h = IsProper-vlan_or_other text (behind (codes "Vlan") text) name h
IsProper-ethernet_or_other text (Some number) name h = IsProper-ethernet (number_within 999999 number) name (λ n e. number_within-le 999999 n number e) h

pub IsProperIfName-if_name_of : (text : List ℕ) (name : IfName) → if_name_of text ≡ Some name → IsProperIfName name
IsProperIfName-if_name_of text name h = IsProper-ethernet_or_other text (behind (codes "Ethernet") text) name h

-- lanes
IsLaneList-in_order : (text : List ℕ) (o : Option (List ℕ)) (lanes : List ℕ) → lanes_in (parts_at 44 text) ≡ o → in_order o ≡ Some lanes → IsLaneList lanes
IsLaneList-in_order text None lanes all h = cc
IsLaneList-in_order text (Some ns) lanes all h =
    let (fits, is) = cond_some (length (rising [] ns) == length ns && leb (length ns) 8) (rising [] ns) lanes h in
    let (same, few) = and_parts (length (rising [] ns) == length ns) (leb (length ns) 8) fits in
    subst IsLaneList is (IsLaneList-rising text ns all (eqb-true _ _ same) (leb-true _ _ few))

pub IsLaneList-lanes_of : (text lanes : List ℕ) → lanes_of text ≡ Some lanes → IsLaneList lanes
IsLaneList-lanes_of text lanes h = IsLaneList-in_order text (lanes_in (parts_at 44 text)) lanes refl h

-- MACs
IsProperMac-mac_from : (text : List ℕ) (o : Option (List ℕ)) (mac : Mac) → each_of (hex_within 2 2) (parts_at 58 text) ≡ o → mac_from o ≡ Some mac → IsProperMac mac
IsProperMac-mac_from text None mac all h = cc
IsProperMac-mac_from text (Some bytes) mac all h =
    let (six, is) = cond_some (length bytes == 6) (record { 0 = bytes }) mac h in
    let below = AllBelow-each_of 256 (hex_within 2 2) (λ part n e. hex_within-lt 2 2 part n e) (parts_at 58 text) bytes all in
    subst IsProperMac is (eqb-true _ _ six, below.0)

pub IsProperMac-mac_of : (text : List ℕ) (mac : Mac) → mac_of text ≡ Some mac → IsProperMac mac
IsProperMac-mac_of text mac h = IsProperMac-mac_from text (each_of (hex_within 2 2) (parts_at 58 text)) mac refl h

-- addresses
IsProper-ipv4_from : (text : List ℕ) (o : Option (List ℕ)) (ip : Ip) → each_of (number_within 255) (parts_at 46 text) ≡ o → ipv4_from o ≡ Some ip → IsProperIp ip
IsProper-ipv4_from text None ip all h = cc
IsProper-ipv4_from text (Some bytes) ip all h =
    let (four, is) = cond_some (length bytes == 4) (record { family = V4; bits = joined 256 0 bytes }) ip h in
    let below = AllBelow-each_of 256 (number_within 255) (λ part n e. let le = number_within-le 255 n part e in omega arith) (parts_at 46 text) bytes all in
    let len : length bytes ≡ 4 = eqb-true _ _ four in
    let small = rw len at (joined-lt 256 0 bytes below.0) in
    subst IsProperIp is (omega arith)

AllBelow-filled : (front back values : List ℕ) → AllBelow 65536 front → AllBelow 65536 back → filled front back ≡ Some values → AllBelow 65536 values
AllBelow-filled front back values hf hb h =
    let zeros = replicate (8 - (length front + length back)) 0 in
    let (few, is) = cond_some (leb (length front + length back) 7) (front ++ zeros ++ back) values h in
    subst (AllBelow 65536) is (AllBelow-append 65536 (front ++ zeros) back (AllBelow-append 65536 front zeros hf (AllBelow-replicate 65536 (8 - (length front + length back)) (lit≤ tt))) hb)

AllBelow-between : (front back : Option (List ℕ)) (values : List ℕ) → ((ns : List ℕ) → front ≡ Some ns → AllBelow 65536 ns) → ((ns : List ℕ) → back ≡ Some ns → AllBelow 65536 ns) → filled_between front back ≡ Some values → AllBelow 65536 values
AllBelow-between None back values hf hb h = cc
AllBelow-between (Some front) None values hf hb h = cc
AllBelow-between (Some front) (Some back) values hf hb h = AllBelow-filled front back values (hf front refl) (hb back refl) h

AllBelow-eight_of : (text : List ℕ) (gap : Option ℕ) (values : List ℕ) → eight_of text gap ≡ Some values → AllBelow 65536 values
AllBelow-eight_of text None values h = AllBelow-groups_of text values h
AllBelow-eight_of text (Some at) values h = AllBelow-between (side_of (take at text)) (side_of (drop (at + 2) text)) values (AllBelow-side_of (take at text)) (AllBelow-side_of (drop (at + 2) text)) h

IsProper-ipv6_from : (text : List ℕ) (o : Option (List ℕ)) (ip : Ip) → eight_of text (gap_at text) ≡ o → ipv6_from o ≡ Some ip → IsProperIp ip
IsProper-ipv6_from text None ip all h = cc
IsProper-ipv6_from text (Some groups) ip all h =
    let (eight, is) = cond_some (length groups == 8) (record { family = V6; bits = joined 65536 0 groups }) ip h in
    let len : length groups ≡ 8 = eqb-true _ _ eight in
    let small = rw len at (joined-lt 65536 0 groups (AllBelow-eight_of text (gap_at text) groups all)) in
    subst IsProperIp is (omega arith)

pub IsProperIp-ipv4_of : (text : List ℕ) (ip : Ip) → ipv4_of text ≡ Some ip → IsProperIp ip
IsProperIp-ipv4_of text ip h = IsProper-ipv4_from text (each_of (number_within 255) (parts_at 46 text)) ip refl h

pub IfSome-ipv6_of : (text : List ℕ) (o : Option Ip) → ipv6_of text ≡ o → IfSome o IsProperIp
IfSome-ipv6_of text None h = tt
IfSome-ipv6_of text (Some ip) h = IsProper-ipv6_from text (eight_of text (gap_at text)) ip refl h

IsProper-ip_or : (text : List ℕ) (o : Option Ip) (ip : Ip) → ipv4_of text ≡ o → ip_or o (ipv6_of text) ≡ Some ip → IsProperIp ip
IsProper-ip_or text None ip v4 h = IsProper-ipv6_from text (eight_of text (gap_at text)) ip refl h
IsProper-ip_or text (Some i) ip v4 h = IsProperIp-ipv4_of text ip (v4 ∙ h)

pub IsProperIp-ip_of : (text : List ℕ) (ip : Ip) → ip_of text ≡ Some ip → IsProperIp ip
IsProperIp-ip_of text ip h = IsProper-ip_or text (ipv4_of text) ip refl h

-- interface addresses and prefixes
IsProper-with_width : (o : Option Ip) (a : Ip × ℕ) → ((ip : Ip) → o ≡ Some ip → IsProperIp ip) → with_width o ≡ Some a → IsProperInterfaceAddress a
IsProper-with_width None a proper h = cc
IsProper-with_width (Some ip) a proper h = let is : (ip, width ip.family) ≡ a = cc in subst IsProperInterfaceAddress is (proper ip refl, omega arith)

IsProper-with_length : (len : List ℕ) (o : Option Ip) (a : Ip × ℕ) → ((ip : Ip) → o ≡ Some ip → IsProperIp ip) → with_length len o ≡ Some a → IsProperInterfaceAddress a
IsProper-with_length len None a proper h = cc
IsProper-with_length len (Some ip) a proper h =
    let (n, same, is) = mapped (λ n. (ip, n)) (number_within (width ip.family) len) a h in
    subst IsProperInterfaceAddress is (proper ip refl, number_within-le (width ip.family) n len same)

IsProper-address_in : (parts : List (List ℕ)) (a : Ip × ℕ) → address_in parts ≡ Some a → IsProperInterfaceAddress a
IsProper-address_in [] a h = cc
IsProper-address_in (ip ∷ []) a h = IsProper-with_width (ip_of ip) a (IsProperIp-ip_of ip) h
IsProper-address_in (ip ∷ len ∷ []) a h = IsProper-with_length len (ip_of ip) a (IsProperIp-ip_of ip) h
IsProper-address_in (ip ∷ len ∷ other ∷ others) a h = cc

pub IsProper-interface_address_of : (text : List ℕ) (a : Ip × ℕ) → interface_address_of text ≡ Some a → IsProperInterfaceAddress a
IsProper-interface_address_of text a h = IsProper-address_in (parts_at 47 text) a h

IsProper-prefix_from : (text : List ℕ) (o : Option (Ip × ℕ)) (p : Prefix) → interface_address_of text ≡ o → prefix_from o ≡ Some p → IsProperPrefix p
IsProper-prefix_from text None p all h = cc
IsProper-prefix_from text (Some a) p all h =
    let (clean, is) = cond_some (is_clean a.0 a.1) (record { ip = a.0; len = a.1 }) p h in
    let proper = IsProper-interface_address_of text a all in
    subst IsProperPrefix is (proper.0, proper.1, eqb-true _ _ clean)

pub IsProperPrefix-prefix_of : (text : List ℕ) (p : Prefix) → prefix_of text ≡ Some p → IsProperPrefix p
IsProperPrefix-prefix_of text p h = IsProper-prefix_from text (interface_address_of text) p refl h
