-- The rows that do not read, as the report lists them. Own.
use Rattle.std.specs.Prelude.{ℕ, ◌==◌, List, [], ◌∷◌, ◌++◌, length, flat_map, codes, Result, Ok, Err, if◌then◌else◌}
use Rattle.table_schema.specs.KeyText.{key_text}
use Rattle.table_schema.specs.Plan.{Ports}
use Rattle.table_schema.specs.Rows.{Rows}
use Rattle.table_schema.specs.Rules.{row_of}
use Rattle.table_schema.specs.declared.key.Key.{Key}
use Rattle.table_schema.specs.declared.row.BadRow.{BadRow}
use Rattle.table_schema.specs.declared.row.BadWhy.{BadWhy}
use Rattle.table_schema.specs.declared.row.BadWhy.TheVariants as why
use Rattle.table_schema.specs.declared.row.Row.{Row}
use Rattle.swss_report.specs.Counted.{count_line}
use Rattle.swss_report.specs.Escaped.{escaped}

-- a key in front of others, where its row does not read
abbrev pub with_bad : Key → Result Row BadRow → List (Key × BadRow) → List (Key × BadRow)
with_bad key (Ok row) others = others
with_bad key (Err bad) others = (key, bad) ∷ others

-- the keys of the rows that do not read, in key order, each with the first rule that its row breaks
abbrev pub bad_rows : Ports → Rows → List (Key × BadRow)
bad_rows plan [] = []
bad_rows plan (row ∷ rows) = with_bad row.0 (row_of plan row.0 row.1) (bad_rows plan rows)

abbrev pub ignored_why : BadWhy → List ℕ
ignored_why why.Unsupported = codes "unsupported"
ignored_why why.MissingField = codes "missing"
ignored_why why.BadValue = codes "bad-value"
ignored_why why.LanesDiffer = codes "lanes-differ"
ignored_why why.CountsDiffer = codes "counts-differ"
ignored_why why.HostBits = codes "host-bits"
ignored_why why.TooManyHops = codes "too-many-hops"

-- the name of the field with this number
abbrev pub field_name : ℕ → List ℕ
field_name n =
    if n == 0 then codes "key"
    else if n == 1 then codes "lanes"
    else if n == 2 then codes "speed"
    else if n == 3 then codes "mtu"
    else if n == 4 then codes "admin_status"
    else if n == 5 then codes "tagging_mode"
    else if n == 6 then codes "neigh"
    else if n == 7 then codes "nexthop"
    else if n == 8 then codes "ifname"
    else if n == 9 then codes "blackhole"
    else if n == 10 then codes "nexthop_group"
    else if n == 11 then codes "mpls_nh"
    else if n == 12 then codes "vni_label"
    else if n == 13 then codes "router_mac"
    else if n == 14 then codes "segment"
    else if n == 15 then codes "weight"
    else if n == 16 then codes "vrf_name"
    else []

-- a key, what is wrong with its row, and in which field
abbrev pub ignored_line : (Key × BadRow) → List ℕ
ignored_line bad = escaped (key_text bad.0) ++ 32 ∷ ignored_why bad.1.why ++ 32 ∷ field_name bad.1.field ++ 10 ∷ []

-- how many rows do not read, and their lines in key order
abbrev pub ignored_text : Ports → Rows → List ℕ
ignored_text plan rows = count_line (codes "ignored ") (length (bad_rows plan rows)) ++ flat_map ignored_line (bad_rows plan rows)
