-- The call that the words of a line write. Of a line of the grammar it is that line's call; a line that is not in the grammar may have one too, whose own line is then another.
use Rattle.std.specs.Bool.{beq}
use Rattle.std.specs.Prelude.{ℕ, ◌==◌, List, [], ◌∷◌, bytes_eq, codes, Option, None, Some, option_map, if◌then◌else◌}
use Rattle.std.specs.Option.{is_some}
use Rattle.swss_types.specs.Ip.{ip_of}
use Rattle.swss_types.specs.Lanes.{lanes_of}
use Rattle.swss_types.specs.Mac.{mac_of}
use Rattle.swss_types.specs.Prefix.{prefix_of}
use Rattle.swss_types.specs.Tagging.{tagging_of}
use Rattle.swss_types.specs.VrfNames.{vrf_name_of}
use Rattle.sai_types.specs.After.{has_id}
use Rattle.sai_types.specs.declared.ids.Rid.{Rid}
use Rattle.sai_types.specs.declared.body.Attr.{Attr}
use Rattle.sai_types.specs.declared.body.Attr.TheVariants as attr
use Rattle.sai_types.specs.declared.body.Body.{Body}
use Rattle.sai_types.specs.declared.body.Body.TheVariants as body
use Rattle.sai_types.specs.declared.body.Call.TheVariants as call
use Rattle.sai_types.specs.declared.body.Entry.{Entry}
use Rattle.sai_types.specs.declared.body.Entry.TheVariants as entry
use Rattle.sai_types.specs.declared.body.RifOn.{RifOn}
use Rattle.sai_types.specs.declared.body.RifOn.TheVariants as on
use Rattle.sai_types.specs.declared.body.To.{To}
use Rattle.sai_types.specs.declared.body.To.TheVariants as to
use Rattle.sai_record.specs.Words.{◌>>=◌, id_of, id_or_none_of, mtu_of, speed_of, admin_of, value_at, vlan_number_of, weight_number_of, word_at}
use Rattle.sai_record.specs.declared.recording.Recorded.{Recorded}

-- ---- what several kinds have

abbrev pub base_by : List ℕ → Rid → Option (RifOn Rid)
base_by kind i = if bytes_eq kind (codes "port") then Some (on.Port i) else (if bytes_eq kind (codes "vlan") then Some (on.Vlan i) else None)

unfoldable pub base_at : List ℕ → Option (RifOn Rid)
base_at text = do
  k ← word_at text
  i ← value_at id_of k.1
  base_by k.0 i.0

abbrev pub target_with : List ℕ → Rid → Option (To Rid)
target_with kind i =
    if bytes_eq kind (codes "rif") then Some (to.Rif i)
    else (if bytes_eq kind (codes "hop") then Some (to.NextHop i)
    else (if bytes_eq kind (codes "group") then Some (to.Group i) else None))

unfoldable pub target_by : List ℕ → List ℕ → Option (To Rid)
target_by kind rest = do
  i ← value_at id_of rest
  target_with kind i.0

unfoldable pub target_at : List ℕ → Option (To Rid)
target_at text = do
  k ← word_at text
  if bytes_eq k.0 (codes "drop") then Some to.Drop else target_by k.0 k.1

-- ---- bodies

unfoldable pub port_behind : List ℕ → List ℕ → Option (Body Rid)
port_behind lanes text = do
  s ← value_at speed_of text
  m ← value_at mtu_of s.1
  u ← value_at admin_of m.1
  Some (body.Port lanes s.0 m.0 u.0)

unfoldable pub port_at : List ℕ → Option (Body Rid)
port_at text = do
  w ← word_at text
  l ← lanes_of w.0
  port_behind l w.1

unfoldable pub vlan_at : List ℕ → Option (Body Rid)
vlan_at text = do
  v ← value_at vlan_number_of text
  Some (body.Vlan v.0)

unfoldable pub router_at : List ℕ → Option (Body Rid)
router_at text = do
  n ← value_at vrf_name_of text
  Some (body.VirtualRouter n.0)

unfoldable pub bridge_port_at : List ℕ → Option (Body Rid)
bridge_port_at text = do
  p ← value_at id_of text
  Some (body.BridgePort p.0)

unfoldable pub vlan_member_at : List ℕ → Option (Body Rid)
vlan_member_at text = do
  v ← value_at id_of text
  b ← value_at id_of v.1
  t ← value_at tagging_of b.1
  Some (body.VlanMember v.0 b.0 t.0)

unfoldable pub rif_at : List ℕ → Option (Body Rid)
rif_at text = do
  v ← value_at id_or_none_of text
  b ← base_at v.1
  Some (body.Rif v.0 b)

unfoldable pub own_address_at : List ℕ → Option (Body Rid)
own_address_at text = do
  v ← value_at id_or_none_of text
  a ← value_at ip_of v.1
  Some (body.OwnAddress v.0 a.0)

unfoldable pub neighbor_at : List ℕ → Option (Body Rid)
neighbor_at text = do
  i ← value_at id_of text
  a ← value_at ip_of i.1
  m ← value_at mac_of a.1
  Some (body.Neighbor i.0 a.0 m.0)

unfoldable pub next_hop_at : List ℕ → Option (Body Rid)
next_hop_at text = do
  i ← value_at id_of text
  a ← value_at ip_of i.1
  Some (body.NextHop i.0 a.0)

unfoldable pub group_member_at : List ℕ → Option (Body Rid)
group_member_at text = do
  g ← value_at id_of text
  n ← value_at id_of g.1
  w ← value_at weight_number_of n.1
  Some (body.GroupMember g.0 n.0 w.0)

unfoldable pub route_at : List ℕ → Option (Body Rid)
route_at text = do
  v ← value_at id_or_none_of text
  p ← value_at prefix_of v.1
  t ← target_at p.1
  Some (body.Route v.0 p.0 t)

-- the body of a kind, but of a port
abbrev pub plain_body_by : List ℕ → List ℕ → Option (Body Rid)
plain_body_by kind rest =
    if bytes_eq kind (codes "VLAN") then vlan_at rest
    else (if bytes_eq kind (codes "VIRTUAL_ROUTER") then router_at rest
    else (if bytes_eq kind (codes "BRIDGE_PORT") then bridge_port_at rest
    else (if bytes_eq kind (codes "VLAN_MEMBER") then vlan_member_at rest
    else (if bytes_eq kind (codes "RIF") then rif_at rest
    else (if bytes_eq kind (codes "OWN_ADDRESS") then own_address_at rest
    else (if bytes_eq kind (codes "NEIGHBOR") then neighbor_at rest
    else (if bytes_eq kind (codes "NEXT_HOP") then next_hop_at rest
    else (if bytes_eq kind (codes "GROUP") then Some body.Group
    else (if bytes_eq kind (codes "GROUP_MEMBER") then group_member_at rest
    else (if bytes_eq kind (codes "ROUTE") then route_at rest else None))))))))))

unfoldable pub body_at : List ℕ → Option (Body Rid)
body_at text = do
  k ← word_at text
  if bytes_eq k.0 (codes "PORT") then port_at k.1 else plain_body_by k.0 k.1

-- ---- entries and attributes

unfoldable pub oid_at : List ℕ → Option (Entry Rid × List ℕ)
oid_at text = do
  i ← value_at id_of text
  Some (entry.Oid i.0, i.1)

unfoldable pub own_at : List ℕ → Option (Entry Rid × List ℕ)
own_at text = do
  v ← value_at id_or_none_of text
  a ← value_at ip_of v.1
  Some (entry.Own v.0 a.0, a.1)

unfoldable pub neigh_at : List ℕ → Option (Entry Rid × List ℕ)
neigh_at text = do
  i ← value_at id_of text
  a ← value_at ip_of i.1
  Some (entry.Neigh i.0 a.0, a.1)

unfoldable pub route_entry_at : List ℕ → Option (Entry Rid × List ℕ)
route_entry_at text = do
  v ← value_at id_or_none_of text
  p ← value_at prefix_of v.1
  Some (entry.Route v.0 p.0, p.1)

unfoldable pub entry_at : List ℕ → Option (Entry Rid × List ℕ)
entry_at text = do
  k ← word_at text
  if bytes_eq k.0 (codes "oid") then oid_at k.1
      else (if bytes_eq k.0 (codes "own") then own_at k.1
      else (if bytes_eq k.0 (codes "neigh") then neigh_at k.1
      else (if bytes_eq k.0 (codes "route") then route_entry_at k.1 else None)))

-- an attribute whose value is the word behind its own
abbrev pub attr_with : {A : Type 0} → (A → Attr Rid) → (List ℕ → Option A) → List ℕ → Option (Attr Rid)
attr_with attr_of value_of text = option_map (λ v. attr_of v.0) (value_at value_of text)

unfoldable pub attr_at : List ℕ → Option (Attr Rid)
attr_at text = do
  k ← word_at text
  if bytes_eq k.0 (codes "speed") then attr_with attr.Speed speed_of k.1
      else (if bytes_eq k.0 (codes "mtu") then attr_with attr.Mtu mtu_of k.1
      else (if bytes_eq k.0 (codes "tagging") then attr_with attr.Tagging tagging_of k.1
      else (if bytes_eq k.0 (codes "mac") then attr_with attr.Mac mac_of k.1
      else (if bytes_eq k.0 (codes "to") then option_map attr.To (target_at k.1) else option_map attr.Up (admin_of k.0)))))

-- ---- calls

-- a create names an identifier exactly where its kind has one
abbrev pub created : Option Rid → Body Rid → Option Recorded
created made b = if beq (is_some made) (has_id b) then Some (record { made = made; call = call.Create b }) else None

unfoldable pub create_at : List ℕ → Option Recorded
create_at text = do
  m ← value_at id_or_none_of text
  b ← body_at m.1
  created m.0 b

unfoldable pub set_at : List ℕ → Option Recorded
set_at text = do
  e ← entry_at text
  a ← attr_at e.1
  Some (record { made = None; call = call.Set e.0 a })

unfoldable pub remove_at : List ℕ → Option Recorded
remove_at text = do
  e ← entry_at text
  Some (record { made = None; call = call.Remove e.0 })

-- the call of a line
abbrev pub call_at : List ℕ → Option Recorded
call_at [] = None
call_at (b ∷ bs) = if b == 99 then create_at bs else (if b == 115 then set_at bs else (if b == 114 then remove_at bs else None))
