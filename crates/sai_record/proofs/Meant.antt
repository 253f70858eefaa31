-- the words of a call mean the call
use Rattle.std.proofs.Common.{◌≡◌, Bool, true, false, cond, List, [], ◌∷◌, ◌++◌, codes, Option, None, Some, refl, sym, ap, ◌∙◌, arith, ℕ}
use Rattle.std.specs.Bool.{beq}
use Rattle.std.specs.Fmt.{decimal}
use Rattle.std.specs.Option.{is_some}
use Rattle.std.proofs.lemmas.Bool.{false≢true}
use Rattle.swss_types.specs.Ip.{ip_text}
use Rattle.swss_types.specs.Mac.{mac_text}
use Rattle.swss_types.specs.Prefix.{prefix_text}
use Rattle.swss_types.specs.Tagging.{tagging_text}
use Rattle.swss_types.specs.VrfNames.{vrf_name_text}
use Rattle.swss_types.specs.Lanes.{lanes_text}
use Rattle.swss_types.proofs.LaneLists.{lanes_of-lanes_text}
use Rattle.sai_types.specs.After.{has_id, makes_id}
use Rattle.sai_types.specs.declared.ids.Rid.{Rid}
use Rattle.sai_types.specs.declared.body.Attr.{Attr}
use Rattle.sai_types.specs.declared.body.Attr.TheVariants as attr
use Rattle.sai_types.specs.declared.body.Body.{Body}
use Rattle.sai_types.specs.declared.body.Body.TheVariants as body
use Rattle.sai_types.specs.declared.body.Call.{Call}
use Rattle.sai_types.specs.declared.body.Call.TheVariants as call
use Rattle.sai_types.specs.declared.body.Entry.{Entry}
use Rattle.sai_types.specs.declared.body.Entry.TheVariants as entry
use Rattle.sai_types.specs.declared.body.RifOn.{RifOn}
use Rattle.sai_types.specs.declared.body.RifOn.TheVariants as on
use Rattle.sai_types.specs.declared.body.To.{To}
use Rattle.sai_types.specs.declared.body.To.TheVariants as to
use Rattle.sai_record.specs.Line.{admin_word, attr_words, base_words, body_words, call_line, entry_words, id_or_none, id_word, spaced, target_words}
use Rattle.sai_record.specs.Meaning.{attr_at, base_at, body_at, bridge_port_at, call_at, create_at, entry_at, group_member_at, neigh_at, neighbor_at, next_hop_at, oid_at, own_address_at, own_at, port_at, port_behind, remove_at, rif_at, route_at, route_entry_at, router_at, set_at, target_at, target_by, vlan_at, vlan_member_at}
use Rattle.sai_record.specs.Ranges.{IsAttrInRange, IsBase, IsBodyInRange, IsCallInRange, IsEntryInRange, IsIdOrNone, IsRecorded, IsTarget}
use Rattle.sai_record.specs.declared.recording.Recorded.{Recorded}
use Rattle.sai_record.proofs.Plain.{plain-codes, plain-lanes}
use Rattle.sai_record.proofs.Values.{admin-spaced, id-spaced, id_or_none-spaced, ip-spaced, mac-spaced, number-spaced, plain-admin, prefix-spaced, tagging-spaced, vrf_name-spaced, word-spaced}

base_means : (b : RifOn Rid) → IsBase b → base_at (spaced (base_words b)) ≡ Some b
unfolding base_at
base_means (on.Port i) h = rw (word-spaced (codes "port") (id_word i ∷ []) (plain-codes (codes "port") refl), id-spaced i [] h) refl
base_means (on.Vlan i) h = rw (word-spaced (codes "vlan") (id_word i ∷ []) (plain-codes (codes "vlan") refl), id-spaced i [] h) refl

target_means : (t : To Rid) → IsTarget t → target_at (spaced (target_words t)) ≡ Some t
unfolding target_at target_by
target_means to.Drop h = rw (word-spaced (codes "drop") [] (plain-codes (codes "drop") refl)) refl
target_means (to.Rif i) h = rw (word-spaced (codes "rif") (id_word i ∷ []) (plain-codes (codes "rif") refl), id-spaced i [] h) refl
target_means (to.NextHop i) h = rw (word-spaced (codes "hop") (id_word i ∷ []) (plain-codes (codes "hop") refl), id-spaced i [] h) refl
target_means (to.Group i) h = rw (word-spaced (codes "group") (id_word i ∷ []) (plain-codes (codes "group") refl), id-spaced i [] h) refl

-- ---- bodies

port_means : (lanes : List ℕ) (speed mtu : ℕ) (up : Bool) → IsBodyInRange (body.Port lanes speed mtu up) → port_at (spaced (lanes_text lanes ∷ decimal speed ∷ decimal mtu ∷ admin_word up ∷ [])) ≡ Some (body.Port lanes speed mtu up)
unfolding port_at port_behind
port_means lanes speed mtu up h =
    rw (word-spaced (lanes_text lanes) (decimal speed ∷ decimal mtu ∷ admin_word up ∷ []) (plain-lanes lanes h.0), lanes_of-lanes_text lanes h.0, number-spaced 1 1600000 speed (decimal mtu ∷ admin_word up ∷ []) h.1.0 h.1.1 (omega (arith, h.1)), number-spaced 68 9216 mtu (admin_word up ∷ []) h.2.0 h.2.1 (omega (arith, h.2)), admin-spaced up [])
    refl

body_means : (b : Body Rid) → IsBodyInRange b → body_at (spaced (body_words b)) ≡ Some b
unfolding body_at vlan_at router_at bridge_port_at vlan_member_at rif_at own_address_at neighbor_at next_hop_at group_member_at route_at
body_means (body.Port lanes speed mtu up) h = rw (word-spaced (codes "PORT") (lanes_text lanes ∷ decimal speed ∷ decimal mtu ∷ admin_word up ∷ []) (plain-codes (codes "PORT") refl)) (port_means lanes speed mtu up h)
body_means (body.Vlan vlan) h = rw (word-spaced (codes "VLAN") (decimal vlan ∷ []) (plain-codes (codes "VLAN") refl), number-spaced 1 4094 vlan [] h.0 h.1 (omega (arith, h))) refl
body_means (body.VirtualRouter label) h = rw (word-spaced (codes "VIRTUAL_ROUTER") (vrf_name_text label ∷ []) (plain-codes (codes "VIRTUAL_ROUTER") refl), vrf_name-spaced label [] h) refl
body_means (body.BridgePort port) h = rw (word-spaced (codes "BRIDGE_PORT") (id_word port ∷ []) (plain-codes (codes "BRIDGE_PORT") refl), id-spaced port [] h) refl
body_means (body.VlanMember vlan bridge_port tagging) h =
    rw (word-spaced (codes "VLAN_MEMBER") (id_word vlan ∷ id_word bridge_port ∷ tagging_text tagging ∷ []) (plain-codes (codes "VLAN_MEMBER") refl), id-spaced vlan (id_word bridge_port ∷ tagging_text tagging ∷ []) h.0, id-spaced bridge_port (tagging_text tagging ∷ []) h.1, tagging-spaced tagging [])
    refl
body_means (body.Rif vr b) h = rw (word-spaced (codes "RIF") (id_or_none vr ∷ base_words b) (plain-codes (codes "RIF") refl), id_or_none-spaced vr (base_words b) h.0, base_means b h.1) refl
body_means (body.OwnAddress vr ip) h = rw (word-spaced (codes "OWN_ADDRESS") (id_or_none vr ∷ ip_text ip ∷ []) (plain-codes (codes "OWN_ADDRESS") refl), id_or_none-spaced vr (ip_text ip ∷ []) h.0, ip-spaced ip [] h.1) refl
body_means (body.Neighbor rif ip mac) h = rw (word-spaced (codes "NEIGHBOR") (id_word rif ∷ ip_text ip ∷ mac_text mac ∷ []) (plain-codes (codes "NEIGHBOR") refl), id-spaced rif (ip_text ip ∷ mac_text mac ∷ []) h.0, ip-spaced ip (mac_text mac ∷ []) h.1, mac-spaced mac [] h.2) refl
body_means (body.NextHop rif ip) h = rw (word-spaced (codes "NEXT_HOP") (id_word rif ∷ ip_text ip ∷ []) (plain-codes (codes "NEXT_HOP") refl), id-spaced rif (ip_text ip ∷ []) h.0, ip-spaced ip [] h.1) refl
body_means body.Group h = rw (word-spaced (codes "GROUP") [] (plain-codes (codes "GROUP") refl)) refl
body_means (body.GroupMember group next_hop weight) h =
    rw (word-spaced (codes "GROUP_MEMBER") (id_word group ∷ id_word next_hop ∷ decimal weight ∷ []) (plain-codes (codes "GROUP_MEMBER") refl), id-spaced group (id_word next_hop ∷ decimal weight ∷ []) h.0, id-spaced next_hop (decimal weight ∷ []) h.1, number-spaced 1 255 weight [] h.2.0 h.2.1 (omega (arith, h.2)))
    refl
body_means (body.Route vr prefix t) h =
    rw (word-spaced (codes "ROUTE") (id_or_none vr ∷ prefix_text prefix ∷ target_words t) (plain-codes (codes "ROUTE") refl), id_or_none-spaced vr (prefix_text prefix ∷ target_words t) h.0, prefix-spaced prefix (target_words t) h.1, target_means t h.2)
    refl

-- ---- entries and attributes

-- an entry, whatever words stand behind it
entry_means : (e : Entry Rid) (words : List (List ℕ)) → IsEntryInRange e → entry_at (spaced (entry_words e ++ words)) ≡ Some (e, spaced words)
unfolding entry_at oid_at own_at neigh_at route_entry_at
entry_means (entry.Oid i) words h = rw (word-spaced (codes "oid") (id_word i ∷ words) (plain-codes (codes "oid") refl), id-spaced i words h) refl
entry_means (entry.Own vr ip) words h = rw (word-spaced (codes "own") (id_or_none vr ∷ ip_text ip ∷ words) (plain-codes (codes "own") refl), id_or_none-spaced vr (ip_text ip ∷ words) h.0, ip-spaced ip words h.1) refl
entry_means (entry.Neigh rif ip) words h = rw (word-spaced (codes "neigh") (id_word rif ∷ ip_text ip ∷ words) (plain-codes (codes "neigh") refl), id-spaced rif (ip_text ip ∷ words) h.0, ip-spaced ip words h.1) refl
entry_means (entry.Route vr prefix) words h = rw (word-spaced (codes "route") (id_or_none vr ∷ prefix_text prefix ∷ words) (plain-codes (codes "route") refl), id_or_none-spaced vr (prefix_text prefix ∷ words) h.0, prefix-spaced prefix words h.1) refl

alone : (e : Entry Rid) → entry_words e ++ [] ≡ entry_words e
alone (entry.Oid i) = refl
alone (entry.Own vr ip) = refl
alone (entry.Neigh rif ip) = refl
alone (entry.Route vr prefix) = refl

attr_means : (a : Attr Rid) → IsAttrInRange a → attr_at (spaced (attr_words a)) ≡ Some a
unfolding attr_at
attr_means (attr.Speed speed) h = rw (word-spaced (codes "speed") (decimal speed ∷ []) (plain-codes (codes "speed") refl), number-spaced 1 1600000 speed [] h.0 h.1 (omega (arith, h))) refl
attr_means (attr.Mtu mtu) h = rw (word-spaced (codes "mtu") (decimal mtu ∷ []) (plain-codes (codes "mtu") refl), number-spaced 68 9216 mtu [] h.0 h.1 (omega (arith, h))) refl
attr_means (attr.Up true) h = rw (word-spaced (codes "up") [] (plain-admin true)) refl
attr_means (attr.Up false) h = rw (word-spaced (codes "down") [] (plain-admin false)) refl
attr_means (attr.Tagging tagging) h = rw (word-spaced (codes "tagging") (tagging_text tagging ∷ []) (plain-codes (codes "tagging") refl), tagging-spaced tagging []) refl
attr_means (attr.Mac mac) h = rw (word-spaced (codes "mac") (mac_text mac ∷ []) (plain-codes (codes "mac") refl), mac-spaced mac [] h) refl
attr_means (attr.To t) h = rw (word-spaced (codes "to") (target_words t) (plain-codes (codes "to") refl), target_means t h) refl

-- ---- calls

beq-self : (b : Bool) → beq b b ≡ true
beq-self true = refl
beq-self false = refl

-- a call that makes nothing has no identifier
none_made : (made : Option Rid) → is_some made ≡ false → made ≡ None
none_made None h = refl
none_made (Some i) h = absurd (false≢true (sym h))

create_means : (made : Option Rid) (b : Body Rid) → is_some made ≡ has_id b → IsIdOrNone made → IsBodyInRange b → create_at (spaced (id_or_none made ∷ body_words b)) ≡ Some (record { made = made; call = call.Create b })
unfolding create_at
create_means made b makes m h =
    rw (id_or_none-spaced made (body_words b) m, body_means b h)
    (ap (λ t. cond t (Some (record { made = made; call = call.Create b })) None) (ap (λ t. beq t (has_id b)) makes ∙ beq-self (has_id b)))

by_call : (made : Option Rid) (c : Call Rid) → is_some made ≡ makes_id c → IsIdOrNone made → IsCallInRange c → call_at (call_line (record { made = made; call = c })) ≡ Some (record { made = made; call = c })
unfolding set_at remove_at
by_call made (call.Create b) makes m h = create_means made b makes m h
by_call made (call.Set e a) makes m h =
    rw (entry_means e (attr_words a) h.0, attr_means a h.1, none_made made makes) refl
by_call made (call.Remove e) makes m h =
    rw (← alone e, entry_means e [] h, none_made made makes) refl

-- a call's line means the call
pub call-means : (r : Recorded) → IsRecorded r → call_at (call_line r) ≡ Some r
call-means r h = by_call r.made r.call h.makes h.made h.call
