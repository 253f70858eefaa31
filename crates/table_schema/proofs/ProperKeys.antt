-- keys that were read are proper
use Rattle.std.proofs.Common.{◌≡◌, ℕ, List, Option, None, Some, option_map, Contains, refl, sym, ap, ◌∙◌, subst}
use Rattle.std.specs.Str.{IsUtf8}
use Rattle.swss_types.specs.Address.{IsProperIp, IsProperPrefix}
use Rattle.swss_types.specs.Interface.{if_name_of, IsProperIfName}
use Rattle.swss_types.specs.Ip.{ip_of}
use Rattle.swss_types.specs.Prefix.{interface_address_of, prefix_of, IsProperInterfaceAddress}
use Rattle.swss_types.specs.declared.address.Ip.{Ip}
use Rattle.swss_types.specs.declared.address.Prefix.{Prefix}
use Rattle.swss_types.specs.declared.interface.IfName.{IfName}
use Rattle.swss_types.specs.declared.interface.IfName.TheVariants as name
use Rattle.swss_types.specs.VrfNames.{vrf_name_of, IsProperVrfName}
use Rattle.swss_types.specs.declared.vrf.Vrf.{Vrf}
use Rattle.swss_types.specs.declared.vrf.VrfName.{VrfName}
use Rattle.swss_types.proofs.Proper.{IsProperIfName-if_name_of, IsProperIp-ip_of, IsProper-interface_address_of, IsProperPrefix-prefix_of}
use Rattle.swss_types.proofs.VrfNames.{IsProperVrfName-vrf_name_of}
use Rattle.table_schema.specs.KeyText.{key_of, key_at, known_key, table_of, or_other, on_switch, vlan_key, port_key, member_of, member_key, intf_key, addr_key, neigh_of, neigh_key, in_named, router_before, route_parts}
use Rattle.table_schema.specs.ProperKey.{IsProperKey, IsProperVrf, IsReadKey}
use Rattle.table_schema.specs.Split.{split_once}
use Rattle.table_schema.specs.declared.key.Key.{Key}
use Rattle.table_schema.specs.declared.key.Key.TheVariants.{Port, Vlan, Vrf as Router, Member, Intf, Addr, Neigh, Route}
use Rattle.table_schema.specs.declared.table.Table.{Table}
use Rattle.table_schema.specs.declared.table.Table.TheVariants as table
use Rattle.table_schema.proofs.KeyTexts.{IsTyped, IsProperKey-typed}

-- each name that there is is proper
abbrev pub IsProperName : Option IfName → Type 0
IsProperName o = (on : IfName) → o ≡ Some on → IsProperIfName on

typed_port : (o : Option IfName) (k : Key) → IsProperName o → port_key o ≡ Some k → IsTyped k
typed_port None k proper h = cc
typed_port (Some (name.Ethernet port)) k proper h = let is : Port port ≡ k = cc in subst IsTyped is (proper (name.Ethernet port) refl)
typed_port (Some (name.Vlan vlan)) k proper h = cc
typed_port (Some (name.Loopback number)) k proper h = cc

typed_vlan : (o : Option IfName) (k : Key) → IsProperName o → vlan_key o ≡ Some k → IsTyped k
typed_vlan None k proper h = cc
typed_vlan (Some (name.Ethernet port)) k proper h = cc
typed_vlan (Some (name.Vlan vlan)) k proper h = let is : Vlan vlan ≡ k = cc in subst IsTyped is (proper (name.Vlan vlan) refl)
typed_vlan (Some (name.Loopback number)) k proper h = cc

typed_member : (a b : Option Key) (k : Key) → ((l : Key) → a ≡ Some l → IsTyped l) → ((l : Key) → b ≡ Some l → IsTyped l) → member_of a b ≡ Some k → IsTyped k
typed_member (Some (Vlan vlan)) (Some (Port port)) k ha hb h = let is : Member vlan port ≡ k = cc in subst IsTyped is (ha (Vlan vlan) refl, hb (Port port) refl)
typed_member _ _ k ha hb h = cc

typed_member_in : (o : Option (List ℕ × List ℕ)) (k : Key) → member_key o ≡ Some k → IsTyped k
typed_member_in None k h = cc
typed_member_in (Some parts) k h = typed_member (vlan_key (if_name_of parts.0)) (port_key (if_name_of parts.1)) k (λ l. typed_vlan (if_name_of parts.0) l (IsProperIfName-if_name_of parts.0)) (λ l. typed_port (if_name_of parts.1) l (IsProperIfName-if_name_of parts.1)) h

typed_intf : (o : Option IfName) (k : Key) → IsProperName o → option_map Intf o ≡ Some k → IsTyped k
typed_intf None k proper h = cc
typed_intf (Some on) k proper h = let is : Intf on ≡ k = cc in subst IsTyped is (proper on refl)

typed_addr : (o : Option IfName) (a : Option (Ip × ℕ)) (k : Key) → IsProperName o → ((b : Ip × ℕ) → a ≡ Some b → IsProperInterfaceAddress b) → addr_key o a ≡ Some k → IsTyped k
typed_addr None a k proper ha h = cc
typed_addr (Some on) None k proper ha h = cc
typed_addr (Some on) (Some a) k proper ha h = let is : Addr on a.0 a.1 ≡ k = cc in subst IsTyped is (proper on refl, ha a refl)

typed_intf_in : (rest : List ℕ) (o : Option (List ℕ × List ℕ)) (k : Key) → intf_key rest o ≡ Some k → IsTyped k
typed_intf_in rest None k h = typed_intf (if_name_of rest) k (IsProperIfName-if_name_of rest) h
typed_intf_in rest (Some parts) k h = typed_addr (if_name_of parts.0) (interface_address_of parts.1) k (IsProperIfName-if_name_of parts.0) (IsProper-interface_address_of parts.1) h

-- what is on the switch stays so
pub on_switch_stays : (o : Option IfName) (on : IfName) → on_switch o ≡ Some on → (o ≡ Some on) × (on_switch (Some on) ≡ Some on)
on_switch_stays None on h = cc
on_switch_stays (Some (name.Ethernet port)) on h = (h, ap on_switch (sym h) ∙ h)
on_switch_stays (Some (name.Vlan vlan)) on h = (h, ap on_switch (sym h) ∙ h)
on_switch_stays (Some (name.Loopback number)) on h = cc

typed_neigh : (o : Option IfName) (a : Option Ip) (k : Key) → ((on : IfName) → o ≡ Some on → IsProperIfName on × (on_switch (Some on) ≡ Some on)) → ((ip : Ip) → a ≡ Some ip → IsProperIp ip) → neigh_of o a ≡ Some k → IsTyped k
typed_neigh None a k proper ha h = cc
typed_neigh (Some on) None k proper ha h = cc
typed_neigh (Some on) (Some ip) k proper ha h = let is : Neigh on ip ≡ k = cc in subst IsTyped is (((proper on refl).0, ha ip refl), (proper on refl).1)

-- a name of the switch that a text writes
pub proper_on_switch : (text : List ℕ) (on : IfName) → on_switch (if_name_of text) ≡ Some on → IsProperIfName on × (on_switch (Some on) ≡ Some on)
proper_on_switch text on h = let both = on_switch_stays (if_name_of text) on h in (IsProperIfName-if_name_of text on both.0, both.1)

typed_neigh_in : (o : Option (List ℕ × List ℕ)) (k : Key) → neigh_key o ≡ Some k → IsTyped k
typed_neigh_in None k h = cc
typed_neigh_in (Some parts) k h = typed_neigh (on_switch (if_name_of parts.0)) (ip_of parts.1) k (proper_on_switch parts.0) (IsProperIp-ip_of parts.1) h

typed_vrf : (o : Option VrfName) (k : Key) → ((n : VrfName) → o ≡ Some n → IsProperVrfName n) → option_map Router o ≡ Some k → IsTyped k
typed_vrf None k proper h = cc
typed_vrf (Some n) k proper h = let is : Router n ≡ k = cc in subst IsTyped is (proper n refl)

-- the router that a text begins with is proper
proper_named : (text behind : List ℕ) (o : Option VrfName) → ((n : VrfName) → o ≡ Some n → IsProperVrfName n) → IsProperVrf (in_named text o behind).0
proper_named text behind None proper = tt
proper_named text behind (Some n) proper = proper n refl

proper_routed : (text : List ℕ) (o : Option (List ℕ × List ℕ)) → IsProperVrf (router_before text o).0
proper_routed text None = tt
proper_routed text (Some parts) = proper_named text parts.1 (vrf_name_of parts.0) (IsProperVrfName-vrf_name_of parts.0)

typed_route : (v : Vrf) (o : Option Prefix) (k : Key) → IsProperVrf v → ((p : Prefix) → o ≡ Some p → IsProperPrefix p) → option_map (Route v) o ≡ Some k → IsTyped k
typed_route v None k routed proper h = cc
typed_route v (Some p) k routed proper h = let is : Route v p ≡ k = cc in subst IsTyped is (routed, proper p refl)

typed_at : (t : Option Table) (rest : List ℕ) (k : Key) → key_at t rest ≡ Some k → IsTyped k
typed_at None rest k h = cc
typed_at (Some table.Port) rest k h = typed_port (if_name_of rest) k (IsProperIfName-if_name_of rest) h
typed_at (Some table.Vlan) rest k h = typed_vlan (if_name_of rest) k (IsProperIfName-if_name_of rest) h
typed_at (Some table.Vrf) rest k h = typed_vrf (vrf_name_of rest) k (IsProperVrfName-vrf_name_of rest) h
typed_at (Some table.Member) rest k h = typed_member_in (split_once 58 rest) k h
typed_at (Some table.Intf) rest k h = typed_intf_in rest (split_once 58 rest) k h
typed_at (Some table.Neigh) rest k h = typed_neigh_in (split_once 58 rest) k h
typed_at (Some table.Route) rest k h = let parts = route_parts rest in typed_route parts.0 (prefix_of parts.1) k (proper_routed rest (split_once 58 rest)) (IsProperPrefix-prefix_of parts.1) h

typed_known : (o : Option (List ℕ × List ℕ)) (k : Key) → known_key o ≡ Some k → IsTyped k
typed_known None k h = cc
typed_known (Some parts) k h = typed_at (table_of parts.0) parts.1 k h

proper_by : (text : List ℕ) (o : Option Key) → known_key (split_once 58 text) ≡ o → IsUtf8 text → Contains text 58 → IsProperKey (or_other text o)
proper_by text None reads utf8 colon = record { parts = tt; utf8 = utf8; colon = colon; reads = ap (or_other text) reads }
proper_by text (Some k) reads utf8 colon = IsProperKey-typed k (typed_known (split_once 58 text) k reads)

-- each key that a text is is proper
pub IsProperKey-key_of : (text : List ℕ) → IsUtf8 text → Contains text 58 → IsProperKey (key_of text)
IsProperKey-key_of text utf8 colon = proper_by text (known_key (split_once 58 text)) refl utf8 colon

read_by : (text : List ℕ) (o : Option Key) → known_key (split_once 58 text) ≡ o → IsReadKey (or_other text o)
read_by text None reads = record { parts = tt; reads = ap (or_other text) reads }
read_by text (Some k) reads = let proper = IsProperKey-typed k (typed_known (split_once 58 text) k reads) in record { parts = proper.parts; reads = proper.reads }

-- whatever the bytes are, the parts of their key are in their ranges, and it is written as it reads
pub IsReadKey-key_of : (text : List ℕ) → IsReadKey (key_of text)
IsReadKey-key_of text = read_by text (known_key (split_once 58 text)) refl
