-- Keys that the tables can have (own): a key whose written text reads as this key again.
use Rattle.std.specs.Prelude.{◌≡◌, List, Contains}
use Rattle.std.specs.List.{AllByRecursion}
use Rattle.std.specs.Str.{IsUtf8}
use Rattle.swss_types.specs.Address.{IsProperIp, IsProperPrefix}
use Rattle.swss_types.specs.Interface.{IsProperIfName}
use Rattle.swss_types.specs.Prefix.{IsProperInterfaceAddress}
use Rattle.swss_types.specs.VrfNames.{IsProperVrfName}
use Rattle.swss_types.specs.declared.interface.IfName.TheVariants as name
use Rattle.swss_types.specs.declared.vrf.Vrf.{Vrf}
use Rattle.swss_types.specs.declared.vrf.Vrf.TheVariants as vrf
use Rattle.table_schema.specs.KeyText.{key_of, key_text}
use Rattle.table_schema.specs.declared.key.Key.{Key}
use Rattle.table_schema.specs.declared.key.Key.TheVariants as key

-- the default router, or one with a proper name
abbrev pub IsProperVrf : Vrf → Type 0
IsProperVrf vrf.Default = Unit {0}
IsProperVrf (vrf.Named n) = IsProperVrfName n

-- the parts in their ranges
abbrev pub HasProperParts : Key → Type 0
HasProperParts (key.Port port) = IsProperIfName (name.Ethernet port)
HasProperParts (key.Vlan vlan) = IsProperIfName (name.Vlan vlan)
HasProperParts (key.Vrf n) = IsProperVrfName n
HasProperParts (key.Member vlan port) = IsProperIfName (name.Vlan vlan) × IsProperIfName (name.Ethernet port)
HasProperParts (key.Intf on) = IsProperIfName on
HasProperParts (key.Addr on ip len) = IsProperIfName on × IsProperInterfaceAddress (ip, len)
HasProperParts (key.Neigh on ip) = IsProperIfName on × IsProperIp ip
HasProperParts (key.Route v prefix) = IsProperVrf v × IsProperPrefix prefix
HasProperParts (key.Other text) = Unit {0}

-- a key as it is read, of whatever bytes: its parts are in their ranges, and its text reads as the key
pub record IsReadKey (k : Key) : Type 0 where
  pub parts : HasProperParts k
  pub reads : key_of (key_text k) ≡ k

-- a proper key: its text is UTF-8, has a colon and reads as the key
pub record IsProperKey (k : Key) : Type 0 where
  pub parts : HasProperParts k
  pub utf8 : IsUtf8 (key_text k)
  pub colon : Contains (key_text k) 58
  pub reads : key_of (key_text k) ≡ k

-- each of the keys is proper
abbrev pub AreProperKeys : List Key → Type 0
AreProperKeys keys = AllByRecursion IsProperKey keys
