-- Rules of a row, one behind the other: the first that is broken is told (own). A field is known by its number: 0 the
-- key, 1 lanes, 2 speed, 3 mtu, 4 admin_status, 5 tagging_mode, 6 neigh, 7 nexthop, 8 ifname, 9 blackhole,
-- 10 nexthop_group, 11 mpls_nh, 12 vni_label, 13 router_mac, 14 segment, 15 weight, 16 vrf_name.
use Rattle.std.specs.Prelude.{ℕ, Result, Ok, Err}
use Rattle.table_schema.specs.declared.row.BadRow.{BadRow}
use Rattle.table_schema.specs.declared.row.BadWhy.{BadWhy}

-- a rule that is broken
abbrev pub bad : {T : Type 0} → BadWhy → ℕ → Result T BadRow
bad why field = Err (record { why = why; field = field })

-- the rules behind, where those before hold
abbrev pub and_then : {T U : Type 0} → Result T BadRow → (T → Result U BadRow) → Result U BadRow
and_then (Err e) f = Err e
and_then (Ok x) f = f x
