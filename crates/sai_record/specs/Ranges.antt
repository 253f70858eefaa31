-- Which values a recording has. Own ranges, those of the rows that calls come from; identifiers and capacities are those of 64 bits.
use Rattle.std.specs.Prelude.{◌≡◌, ℕ, ◌^◌, length, Option, None, Some}
use Rattle.std.specs.Int.{IsInRange}
use Rattle.std.specs.List.{AllByRecursion}
use Rattle.std.specs.Option.{is_some}
use Rattle.swss_types.specs.Address.{IsProperIp, IsProperPrefix}
use Rattle.swss_types.specs.Lanes.{IsLaneList}
use Rattle.swss_types.specs.Mac.{IsProperMac}
use Rattle.swss_types.specs.Parts.{AllBelow}
use Rattle.swss_types.specs.VrfNames.{IsProperVrfName}
use Rattle.sai_types.specs.After.{makes_id}
use Rattle.sai_types.specs.declared.ids.Rid.{Rid}
use Rattle.sai_types.specs.declared.caps.Caps.{Caps}
use Rattle.sai_types.specs.declared.kind.TheConstants.{KINDS}
use Rattle.sai_types.specs.declared.body.Attr.{Attr}
use Rattle.sai_types.specs.declared.body.Attr.TheVariants as attr
use Rattle.sai_types.specs.declared.body.Body.{Body}
use Rattle.sai_types.specs.declared.body.Body.TheVariants as body
use Rattle.sai_types.specs.declared.body.Call.{Call}
use Rattle.sai_types.specs.declared.body.Call.TheVariants as call
use Rattle.sai_types.specs.declared.body.Entry.{Entry}
use Rattle.sai_types.specs.declared.body.Entry.TheVariants as entry
use Rattle.sai_types.specs.declared.body.RifOn.{RifOn}
use Rattle.sai_types.specs.declared.body.RifOn.TheVariants as on
use Rattle.sai_types.specs.declared.body.To.{To}
use Rattle.sai_types.specs.declared.body.To.TheVariants as to
use Rattle.sai_record.specs.declared.recording.Recorded.{Recorded}
use Rattle.sai_record.specs.declared.recording.Recording.{Recording}

-- an identifier is not 0, and has 64 bits
abbrev pub IsId : Rid → Type 0
IsId i = IsInRange 1 18446744073709551615 i.0

abbrev pub IsIdOrNone : Option Rid → Type 0
IsIdOrNone None = Unit {0}
IsIdOrNone (Some i) = IsId i

abbrev pub IsBase : RifOn Rid → Type 0
IsBase (on.Port i) = IsId i
IsBase (on.Vlan i) = IsId i

abbrev pub IsTarget : To Rid → Type 0
IsTarget to.Drop = Unit {0}
IsTarget (to.Rif i) = IsId i
IsTarget (to.NextHop i) = IsId i
IsTarget (to.Group i) = IsId i

-- megabits a second
abbrev pub IsSpeed : ℕ → Type 0
IsSpeed n = IsInRange 1 1600000 n

-- bytes of a frame
abbrev pub IsMtu : ℕ → Type 0
IsMtu n = IsInRange 68 9216 n

abbrev pub IsBodyInRange : Body Rid → Type 0
IsBodyInRange (body.Port lanes speed mtu up) = IsLaneList lanes × IsSpeed speed × IsMtu mtu
IsBodyInRange (body.Vlan vlan) = IsInRange 1 4094 vlan
IsBodyInRange (body.VirtualRouter label) = IsProperVrfName label
IsBodyInRange (body.BridgePort port) = IsId port
IsBodyInRange (body.VlanMember vlan bridge_port tagging) = IsId vlan × IsId bridge_port
IsBodyInRange (body.Rif vr on) = IsIdOrNone vr × IsBase on
IsBodyInRange (body.OwnAddress vr ip) = IsIdOrNone vr × IsProperIp ip
IsBodyInRange (body.Neighbor rif ip mac) = IsId rif × IsProperIp ip × IsProperMac mac
IsBodyInRange (body.NextHop rif ip) = IsId rif × IsProperIp ip
IsBodyInRange body.Group = Unit {0}
IsBodyInRange (body.GroupMember group next_hop weight) = IsId group × IsId next_hop × IsInRange 1 255 weight
IsBodyInRange (body.Route vr prefix to) = IsIdOrNone vr × IsProperPrefix prefix × IsTarget to

abbrev pub IsEntryInRange : Entry Rid → Type 0
IsEntryInRange (entry.Oid i) = IsId i
IsEntryInRange (entry.Own vr ip) = IsIdOrNone vr × IsProperIp ip
IsEntryInRange (entry.Neigh rif ip) = IsId rif × IsProperIp ip
IsEntryInRange (entry.Route vr prefix) = IsIdOrNone vr × IsProperPrefix prefix

abbrev pub IsAttrInRange : Attr Rid → Type 0
IsAttrInRange (attr.Speed speed) = IsSpeed speed
IsAttrInRange (attr.Mtu mtu) = IsMtu mtu
IsAttrInRange (attr.Up up) = Unit {0}
IsAttrInRange (attr.Tagging tagging) = Unit {0}
IsAttrInRange (attr.Mac mac) = IsProperMac mac
IsAttrInRange (attr.To to) = IsTarget to

abbrev pub IsCallInRange : Call Rid → Type 0
IsCallInRange (call.Create b) = IsBodyInRange b
IsCallInRange (call.Set e a) = IsEntryInRange e × IsAttrInRange a
IsCallInRange (call.Remove e) = IsEntryInRange e

-- the values of a call are in their ranges, no identifier is 0, and it makes one exactly where it creates a kind that has one
pub record IsRecorded (r : Recorded) : Type 0 where
  pub makes : is_some r.made ≡ makes_id r.call
  pub made : IsIdOrNone r.made
  pub call : IsCallInRange r.call

-- a capacity for each kind, of 64 bits
abbrev pub AreCaps : Caps → Type 0
AreCaps caps = (length caps.0 ≡ KINDS) × AllBelow (2 ^ 64) caps.0

pub record IsRecording (r : Recording) : Type 0 where
  pub caps : AreCaps r.caps
  pub calls : AllByRecursion IsRecorded r.calls
