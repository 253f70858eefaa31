-- what a row that reads is, by its key
use Rattle.std.proofs.Common.{◌≡◌, ℕ, Bool, true, false, cond, List, Option, None, Some, Result, Ok, Err, codes, refl, sym, ap, ◌∙◌}
use Rattle.std.proofs.lemmas.Slice.Eq.{bytes_eq-Decides}
use Rattle.std.specs.Str.{bytes_eq}
use Rattle.swss_types.specs.Lanes.{lanes_of}
use Rattle.swss_types.specs.Mac.{mac_of}
use Rattle.swss_types.specs.declared.address.Mac.{Mac}
use Rattle.swss_types.specs.declared.vrf.Vrf.{Vrf}
use Rattle.swss_types.specs.declared.vrf.Vrf.TheVariants as vrf
use Rattle.table_schema.specs.Broken.{bad}
use Rattle.table_schema.specs.Fields.{Pairs, value_of}
use Rattle.table_schema.specs.Plan.{Ports, lanes_in_plan}
use Rattle.table_schema.specs.Rows.{Rows, fields_at}
use Rattle.table_schema.specs.Rules.{in_router, intf_in, lladdr_row, mac_row, number_or, planned, port_lanes, port_row_with, row_of, up_of, vrf_of}
use Rattle.table_schema.specs.declared.key.Key.{Key}
use Rattle.table_schema.specs.declared.key.Key.TheVariants as key
use Rattle.table_schema.specs.declared.row.BadRow.{BadRow}
use Rattle.table_schema.specs.declared.row.BadWhy.TheVariants.{LanesDiffer}
use Rattle.table_schema.specs.declared.row.PortRow.{PortRow}
use Rattle.table_schema.specs.declared.row.Row.{Row}
use Rattle.table_schema.specs.declared.row.Row.TheVariants as row
use Rattle.table_schema.proofs.ProperNames.{both_hold}
use Rattle.switch_model.specs.Good.{good_row, good_rows, row_read}

-- the row reads from some fields
abbrev pub IsRead : Ports → Key → Row → Type 0
IsRead plan k r = (fields : Pairs) × (row_of plan k fields ≡ Ok r)

pub row_read_ok : (o : Result Row BadRow) (r : Row) → row_read o ≡ Some r → o ≡ Ok r
row_read_ok (Err bad) r h = cc
row_read_ok (Ok x) r h = cc

good_by : (plan : Ports) (k : Key) (o : Option Pairs) (r : Row) → good_row plan k o ≡ Some r → IsRead plan k r
good_by plan k None r h = cc
good_by plan k (Some fields) r h = (fields, row_read_ok (row_of plan k fields) r h)

-- a good row reads
pub IsRead-good : (plan : Ports) (rows : Rows) (k : Key) (r : Row) → good_rows plan rows k ≡ Some r → IsRead plan k r
IsRead-good plan rows k r h = good_by plan k (fields_at rows k) r h

-- the lanes that a port's row has are those of the plan
same_lanes : (there lanes taken : List ℕ) (t : Bool) → bytes_eq there lanes ≡ t → cond t (Ok lanes) (bad LanesDiffer 1) ≡ Ok taken → there ≡ taken
same_lanes there lanes taken true e h = let is : lanes ≡ taken = cc in (bytes_eq-Decides there lanes).0 e ∙ is
same_lanes there lanes taken false e h = cc

pub planned-is : (there lanes : Option (List ℕ)) (taken : List ℕ) → planned there lanes ≡ Ok taken → there ≡ Some taken
planned-is there None taken h = cc
planned-is None (Some lanes) taken h = cc
planned-is (Some there) (Some lanes) taken h = ap Some (same_lanes there lanes taken (bytes_eq there lanes) refl h)

pub port_lanes-is : (there text : Option (List ℕ)) (taken : List ℕ) → port_lanes there text ≡ Ok taken → there ≡ Some taken
port_lanes-is there None taken h = cc
port_lanes-is there (Some text) taken h = planned-is there (lanes_of text) taken h

abbrev IsPortWith : List ℕ → Row → Type 0
IsPortWith lanes r = (p : PortRow) × (r ≡ row.Port p) × (p.lanes ≡ lanes)

port_row-is : (lanes : List ℕ) (fields : Pairs) (r : Row) → port_row_with lanes fields ≡ Ok r → IsPortWith lanes r
port_row-is lanes fields r h =
    let speed = both_hold (number_or 2 1 1600000 100000 (value_of (codes "speed") fields)) _ r h in
    let mtu = both_hold (number_or 3 68 9216 9100 (value_of (codes "mtu") fields)) _ r speed.2 in
    let up = both_hold (up_of (value_of (codes "admin_status") fields)) _ r mtu.2 in
    let made : PortRow = record { lanes = lanes; speed = speed.0; mtu = mtu.0; up = up.0 } in
    let is : row.Port made ≡ r = cc in
    (made, sym is, refl)

pub port_read : (plan : Ports) (port : ℕ) (r : Row) → IsRead plan (key.Port port) r → (p : PortRow) × (r ≡ row.Port p) × (lanes_in_plan plan port ≡ Some p.lanes)
port_read plan port r (fields, h) =
    let lanes = both_hold (port_lanes (lanes_in_plan plan port) (value_of (codes "lanes") fields)) (λ lanes. port_row_with lanes fields) r h in
    let is = port_row-is lanes.0 fields r lanes.2 in
    (is.0, is.1, port_lanes-is (lanes_in_plan plan port) (value_of (codes "lanes") fields) lanes.0 lanes.1 ∙ ap Some (sym is.2))

pub vlan_read : (plan : Ports) (vlan : ℕ) (r : Row) → IsRead plan (key.Vlan vlan) r → r ≡ row.Vlan
vlan_read plan vlan r (fields, h) = cc

pub vrf_read : (plan : Ports) (n : _) (r : Row) → IsRead plan (key.Vrf n) r → r ≡ row.Vrf
vrf_read plan n r (fields, h) = cc

intf_in-is : (o : Option Vrf) (r : Row) → intf_in o ≡ Ok r → (v : Vrf) × (r ≡ row.Intf v)
intf_in-is None r h = cc
intf_in-is (Some v) r h = (v, cc)

pub in_router-is : (o : Option (List ℕ)) (r : Row) → in_router o ≡ Ok r → (v : Vrf) × (r ≡ row.Intf v)
in_router-is None r h = (vrf.Default, cc)
in_router-is (Some text) r h = intf_in-is (vrf_of text) r h

pub intf_read : (plan : Ports) (on : _) (r : Row) → IsRead plan (key.Intf on) r → (v : Vrf) × (r ≡ row.Intf v)
intf_read plan on r (fields, h) = in_router-is (value_of (codes "vrf_name") fields) r h

pub mac_row-is : (o : Option Mac) (r : Row) → mac_row o ≡ Ok r → (mac : Mac) × (r ≡ row.Neigh mac)
mac_row-is None r h = cc
mac_row-is (Some mac) r h = (mac, cc)

pub lladdr_row-is : (o : Option (List ℕ)) (r : Row) → lladdr_row o ≡ Ok r → (mac : Mac) × (r ≡ row.Neigh mac)
lladdr_row-is None r h = cc
lladdr_row-is (Some text) r h = mac_row-is (mac_of text) r h

pub neigh_read : (plan : Ports) (on : _) (ip : _) (r : Row) → IsRead plan (key.Neigh on ip) r → (mac : Mac) × (r ≡ row.Neigh mac)
neigh_read plan on ip r (fields, h) = lladdr_row-is (value_of (codes "neigh") fields) r h
