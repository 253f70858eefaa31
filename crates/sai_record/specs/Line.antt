-- The text of a recording: the one form of each line, in words that are separated by one space. Own form; the words are those of the SAI object types.
use Rattle.std.specs.Prelude.{ℕ, Bool, true, false, List, [], ◌∷◌, ◌++◌, flat_map, map, codes, Option, None, Some}
use Rattle.std.specs.Fmt.{decimal}
use Rattle.swss_types.specs.Ip.{ip_text}
use Rattle.swss_types.specs.Lanes.{lanes_text}
use Rattle.swss_types.specs.Mac.{mac_text}
use Rattle.swss_types.specs.Prefix.{prefix_text}
use Rattle.swss_types.specs.Tagging.{tagging_text}
use Rattle.swss_types.specs.VrfNames.{vrf_name_text}
use Rattle.sai_types.specs.declared.ids.Rid.{Rid}
use Rattle.sai_types.specs.declared.caps.Caps.{Caps}
use Rattle.sai_types.specs.declared.body.Attr.{Attr}
use Rattle.sai_types.specs.declared.body.Attr.TheVariants as attr
use Rattle.sai_types.specs.declared.body.Body.{Body}
use Rattle.sai_types.specs.declared.body.Body.TheVariants as body
use Rattle.sai_types.specs.declared.body.Call.{Call}
use Rattle.sai_types.specs.declared.body.Call.TheVariants as call
use Rattle.sai_types.specs.declared.body.Entry.{Entry}
use Rattle.sai_types.specs.declared.body.Entry.TheVariants as entry
use Rattle.sai_types.specs.declared.body.RifOn.{RifOn}
use Rattle.sai_types.specs.declared.body.RifOn.TheVariants as on
use Rattle.sai_types.specs.declared.body.To.{To}
use Rattle.sai_types.specs.declared.body.To.TheVariants as to
use Rattle.sai_record.specs.declared.recording.Recorded.{Recorded}
use Rattle.sai_record.specs.declared.recording.Recording.{Recording}

-- words, each behind a space
abbrev pub spaced : List (List ℕ) → List ℕ
spaced [] = []
spaced (word ∷ words) = 32 ∷ word ++ spaced words

-- words with a space between each and the next
abbrev pub words_text : List (List ℕ) → List ℕ
words_text [] = []
words_text (word ∷ words) = word ++ spaced words

abbrev pub id_word : Rid → List ℕ
id_word i = decimal i.0

-- an identifier, or `-` where there is none
abbrev pub id_or_none : Option Rid → List ℕ
id_or_none None = codes "-"
id_or_none (Some i) = id_word i

abbrev pub admin_word : Bool → List ℕ
admin_word true = codes "up"
admin_word false = codes "down"

abbrev pub base_words : RifOn Rid → List (List ℕ)
base_words (on.Port i) = codes "port" ∷ id_word i ∷ []
base_words (on.Vlan i) = codes "vlan" ∷ id_word i ∷ []

abbrev pub target_words : To Rid → List (List ℕ)
target_words to.Drop = codes "drop" ∷ []
target_words (to.Rif i) = codes "rif" ∷ id_word i ∷ []
target_words (to.NextHop i) = codes "hop" ∷ id_word i ∷ []
target_words (to.Group i) = codes "group" ∷ id_word i ∷ []

abbrev pub body_words : Body Rid → List (List ℕ)
body_words (body.Port lanes speed mtu up) = codes "PORT" ∷ lanes_text lanes ∷ decimal speed ∷ decimal mtu ∷ admin_word up ∷ []
body_words (body.Vlan vlan) = codes "VLAN" ∷ decimal vlan ∷ []
body_words (body.VirtualRouter label) = codes "VIRTUAL_ROUTER" ∷ vrf_name_text label ∷ []
body_words (body.BridgePort port) = codes "BRIDGE_PORT" ∷ id_word port ∷ []
body_words (body.VlanMember vlan bridge_port tagging) = codes "VLAN_MEMBER" ∷ id_word vlan ∷ id_word bridge_port ∷ tagging_text tagging ∷ []
body_words (body.Rif vr on) = codes "RIF" ∷ id_or_none vr ∷ base_words on
body_words (body.OwnAddress vr ip) = codes "OWN_ADDRESS" ∷ id_or_none vr ∷ ip_text ip ∷ []
body_words (body.Neighbor rif ip mac) = codes "NEIGHBOR" ∷ id_word rif ∷ ip_text ip ∷ mac_text mac ∷ []
body_words (body.NextHop rif ip) = codes "NEXT_HOP" ∷ id_word rif ∷ ip_text ip ∷ []
body_words body.Group = codes "GROUP" ∷ []
body_words (body.GroupMember group next_hop weight) = codes "GROUP_MEMBER" ∷ id_word group ∷ id_word next_hop ∷ decimal weight ∷ []
body_words (body.Route vr prefix to) = codes "ROUTE" ∷ id_or_none vr ∷ prefix_text prefix ∷ target_words to

abbrev pub entry_words : Entry Rid → List (List ℕ)
entry_words (entry.Oid i) = codes "oid" ∷ id_word i ∷ []
entry_words (entry.Own vr ip) = codes "own" ∷ id_or_none vr ∷ ip_text ip ∷ []
entry_words (entry.Neigh rif ip) = codes "neigh" ∷ id_word rif ∷ ip_text ip ∷ []
entry_words (entry.Route vr prefix) = codes "route" ∷ id_or_none vr ∷ prefix_text prefix ∷ []

abbrev pub attr_words : Attr Rid → List (List ℕ)
attr_words (attr.Speed speed) = codes "speed" ∷ decimal speed ∷ []
attr_words (attr.Mtu mtu) = codes "mtu" ∷ decimal mtu ∷ []
attr_words (attr.Up up) = admin_word up ∷ []
attr_words (attr.Tagging tagging) = codes "tagging" ∷ tagging_text tagging ∷ []
attr_words (attr.Mac mac) = codes "mac" ∷ mac_text mac ∷ []
attr_words (attr.To to) = codes "to" ∷ target_words to

abbrev pub call_words : Option Rid → Call Rid → List (List ℕ)
call_words made (call.Create b) = codes "c" ∷ id_or_none made ∷ body_words b
call_words made (call.Set e a) = codes "s" ∷ entry_words e ++ attr_words a
call_words made (call.Remove e) = codes "r" ∷ entry_words e

-- the line of a call, without its end
abbrev pub call_line : Recorded → List ℕ
call_line r = words_text (call_words r.made r.call)

-- the first line, without its end
abbrev pub head_line : Caps → List ℕ
head_line caps = words_text (codes "recording" ∷ codes "1" ∷ map decimal caps.0)

-- a line's end is a newline
abbrev pub closed : List ℕ → List ℕ
closed line = line ++ 10 ∷ []

abbrev pub closed_call : Recorded → List ℕ
closed_call r = closed (call_line r)

-- the text of a recording
abbrev pub recording_text : Recording → List ℕ
recording_text r = closed (head_line r.caps) ++ flat_map closed_call r.calls
