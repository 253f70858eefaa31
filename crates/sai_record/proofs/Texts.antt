-- the words of each part of a call are plain
use Rattle.std.proofs.Common.{List, [], ◌++◌, codes, Option, refl, arith, ℕ}
use Rattle.std.specs.List.{AllByRecursion}
use Rattle.sai_types.specs.declared.ids.Rid.{Rid}
use Rattle.sai_types.specs.declared.body.Attr.{Attr}
use Rattle.sai_types.specs.declared.body.Attr.TheVariants as attr
use Rattle.sai_types.specs.declared.body.Body.{Body}
use Rattle.sai_types.specs.declared.body.Body.TheVariants as body
use Rattle.sai_types.specs.declared.body.Call.{Call}
use Rattle.sai_types.specs.declared.body.Call.TheVariants as call
use Rattle.sai_types.specs.declared.body.Entry.{Entry}
use Rattle.sai_types.specs.declared.body.Entry.TheVariants as entry
use Rattle.sai_types.specs.declared.body.RifOn.{RifOn}
use Rattle.sai_types.specs.declared.body.RifOn.TheVariants as on
use Rattle.sai_types.specs.declared.body.To.{To}
use Rattle.sai_types.specs.declared.body.To.TheVariants as to
use Rattle.sai_record.specs.Line.{attr_words, base_words, body_words, call_words, entry_words, target_words}
use Rattle.sai_record.specs.Ranges.{IsAttrInRange, IsBase, IsBodyInRange, IsCallInRange, IsEntryInRange, IsIdOrNone, IsTarget}
use Rattle.sai_record.proofs.Plain.{IsPlain, plain-codes, plain-decimal, plain-ip, plain-lanes, plain-mac, plain-prefix, plain-tagging, plain-vrf_name}
use Rattle.sai_record.proofs.Values.{plain-admin, plain-id, plain-id_or_none}

abbrev pub ArePlain : List (List ℕ) → Type 0
ArePlain words = AllByRecursion IsPlain words

base_plain : (b : RifOn Rid) → IsBase b → ArePlain (base_words b)
base_plain (on.Port i) h = (plain-codes (codes "port") refl, (plain-id i h, tt))
base_plain (on.Vlan i) h = (plain-codes (codes "vlan") refl, (plain-id i h, tt))

target_plain : (t : To Rid) → IsTarget t → ArePlain (target_words t)
target_plain to.Drop h = (plain-codes (codes "drop") refl, tt)
target_plain (to.Rif i) h = (plain-codes (codes "rif") refl, (plain-id i h, tt))
target_plain (to.NextHop i) h = (plain-codes (codes "hop") refl, (plain-id i h, tt))
target_plain (to.Group i) h = (plain-codes (codes "group") refl, (plain-id i h, tt))

body_plain : (b : Body Rid) → IsBodyInRange b → ArePlain (body_words b)
body_plain (body.Port lanes speed mtu up) h = (plain-codes (codes "PORT") refl, (plain-lanes lanes h.0, (plain-decimal speed (omega (arith, h.1)), (plain-decimal mtu (omega (arith, h.2)), (plain-admin up, tt)))))
body_plain (body.Vlan vlan) h = (plain-codes (codes "VLAN") refl, (plain-decimal vlan (omega (arith, h)), tt))
body_plain (body.VirtualRouter label) h = (plain-codes (codes "VIRTUAL_ROUTER") refl, (plain-vrf_name label h, tt))
body_plain (body.BridgePort port) h = (plain-codes (codes "BRIDGE_PORT") refl, (plain-id port h, tt))
body_plain (body.VlanMember vlan bridge_port tagging) h = (plain-codes (codes "VLAN_MEMBER") refl, (plain-id vlan h.0, (plain-id bridge_port h.1, (plain-tagging tagging, tt))))
body_plain (body.Rif vr b) h = (plain-codes (codes "RIF") refl, (plain-id_or_none vr h.0, base_plain b h.1))
body_plain (body.OwnAddress vr ip) h = (plain-codes (codes "OWN_ADDRESS") refl, (plain-id_or_none vr h.0, (plain-ip ip, tt)))
body_plain (body.Neighbor rif ip mac) h = (plain-codes (codes "NEIGHBOR") refl, (plain-id rif h.0, (plain-ip ip, (plain-mac mac h.2, tt))))
body_plain (body.NextHop rif ip) h = (plain-codes (codes "NEXT_HOP") refl, (plain-id rif h.0, (plain-ip ip, tt)))
body_plain body.Group h = (plain-codes (codes "GROUP") refl, tt)
body_plain (body.GroupMember group next_hop weight) h = (plain-codes (codes "GROUP_MEMBER") refl, (plain-id group h.0, (plain-id next_hop h.1, (plain-decimal weight (omega (arith, h.2)), tt))))
body_plain (body.Route vr prefix t) h = (plain-codes (codes "ROUTE") refl, (plain-id_or_none vr h.0, (plain-prefix prefix h.1, target_plain t h.2)))

attr_plain : (a : Attr Rid) → IsAttrInRange a → ArePlain (attr_words a)
attr_plain (attr.Speed speed) h = (plain-codes (codes "speed") refl, (plain-decimal speed (omega (arith, h)), tt))
attr_plain (attr.Mtu mtu) h = (plain-codes (codes "mtu") refl, (plain-decimal mtu (omega (arith, h)), tt))
attr_plain (attr.Up up) h = (plain-admin up, tt)
attr_plain (attr.Tagging tagging) h = (plain-codes (codes "tagging") refl, (plain-tagging tagging, tt))
attr_plain (attr.Mac mac) h = (plain-codes (codes "mac") refl, (plain-mac mac h, tt))
attr_plain (attr.To t) h = (plain-codes (codes "to") refl, target_plain t h)

-- the words of an entry, and plain ones behind them
entry_plain : (e : Entry Rid) (words : List (List ℕ)) → IsEntryInRange e → ArePlain words → ArePlain (entry_words e ++ words)
entry_plain (entry.Oid i) words h behind = (plain-codes (codes "oid") refl, (plain-id i h, behind))
entry_plain (entry.Own vr ip) words h behind = (plain-codes (codes "own") refl, (plain-id_or_none vr h.0, (plain-ip ip, behind)))
entry_plain (entry.Neigh rif ip) words h behind = (plain-codes (codes "neigh") refl, (plain-id rif h.0, (plain-ip ip, behind)))
entry_plain (entry.Route vr prefix) words h behind = (plain-codes (codes "route") refl, (plain-id_or_none vr h.0, (plain-prefix prefix h.1, behind)))

entry_alone : (e : Entry Rid) → IsEntryInRange e → ArePlain (entry_words e)
entry_alone (entry.Oid i) h = entry_plain (entry.Oid i) [] h tt
entry_alone (entry.Own vr ip) h = entry_plain (entry.Own vr ip) [] h tt
entry_alone (entry.Neigh rif ip) h = entry_plain (entry.Neigh rif ip) [] h tt
entry_alone (entry.Route vr prefix) h = entry_plain (entry.Route vr prefix) [] h tt

pub plain-call : (made : Option Rid) (c : Call Rid) → IsIdOrNone made → IsCallInRange c → ArePlain (call_words made c)
plain-call made (call.Create b) m h = (plain-codes (codes "c") refl, (plain-id_or_none made m, body_plain b h))
plain-call made (call.Set e a) m h = (plain-codes (codes "s") refl, entry_plain e (attr_words a) h.0 (attr_plain a h.1))
plain-call made (call.Remove e) m h = (plain-codes (codes "r") refl, entry_alone e h)
