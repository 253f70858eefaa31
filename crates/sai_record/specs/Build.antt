-- Building what a recording tells, from a chip without objects. Own.
use Rattle.std.specs.Prelude.{ℕ, ◌+◌, List, [], ◌∷◌, ◌++◌, Option, None, Some, option_map, unwrap_or, Result, Ok, Err, if◌then◌else◌}
use Rattle.std.specs.BTreeMap.{insert_entry, is_at}
use Rattle.std.specs.Map.{lookup}
use Rattle.std.specs.Option.{is_some}
use Rattle.std.specs.Ordering.{nat_cmp}
use Rattle.chip_layout.specs.Renamed.{call_renamed}
use Rattle.sai_types.specs.After.{after_call, makes_id}
use Rattle.sai_types.specs.Objects.{Objects}
use Rattle.sai_types.specs.Refusal.{refusal_of}
use Rattle.sai_types.specs.declared.ids.Rid.{Rid}
use Rattle.sai_types.specs.declared.body.Attr.{Attr}
use Rattle.sai_types.specs.declared.body.Attr.TheVariants as attr
use Rattle.sai_types.specs.declared.body.Body.{Body}
use Rattle.sai_types.specs.declared.body.Body.TheVariants as body
use Rattle.sai_types.specs.declared.body.Call.{Call}
use Rattle.sai_types.specs.declared.body.Call.TheVariants as call
use Rattle.sai_types.specs.declared.body.Entry.{Entry}
use Rattle.sai_types.specs.declared.body.Entry.TheVariants as entry
use Rattle.sai_types.specs.declared.body.RifOn.{RifOn}
use Rattle.sai_types.specs.declared.body.RifOn.TheVariants as on
use Rattle.sai_types.specs.declared.body.To.{To}
use Rattle.sai_types.specs.declared.body.To.TheVariants as to
use Rattle.sai_record.specs.declared.recording.Recorded.{Recorded}
use Rattle.sai_record.specs.declared.replaying.StopWhy.{StopWhy}
use Rattle.sai_record.specs.declared.replaying.StopWhy.TheVariants as why

-- ---- the identifiers that a call names, in the order of its line

abbrev pub router_ids : Option Rid → List Rid
router_ids None = []
router_ids (Some i) = i ∷ []

abbrev pub base_ids : RifOn Rid → List Rid
base_ids (on.Port i) = i ∷ []
base_ids (on.Vlan i) = i ∷ []

abbrev pub target_ids : To Rid → List Rid
target_ids to.Drop = []
target_ids (to.Rif i) = i ∷ []
target_ids (to.NextHop i) = i ∷ []
target_ids (to.Group i) = i ∷ []

abbrev pub body_ids : Body Rid → List Rid
body_ids (body.BridgePort port) = port ∷ []
body_ids (body.VlanMember vlan bridge_port tagging) = vlan ∷ bridge_port ∷ []
body_ids (body.Rif vr on) = router_ids vr ++ base_ids on
body_ids (body.OwnAddress vr ip) = router_ids vr
body_ids (body.Neighbor rif ip mac) = rif ∷ []
body_ids (body.NextHop rif ip) = rif ∷ []
body_ids (body.GroupMember group next_hop weight) = group ∷ next_hop ∷ []
body_ids (body.Route vr prefix to) = router_ids vr ++ target_ids to
body_ids _ = []

abbrev pub entry_ids : Entry Rid → List Rid
entry_ids (entry.Oid i) = i ∷ []
entry_ids (entry.Own vr ip) = router_ids vr
entry_ids (entry.Neigh rif ip) = rif ∷ []
entry_ids (entry.Route vr prefix) = router_ids vr

abbrev pub attr_ids : Attr Rid → List Rid
attr_ids (attr.To to) = target_ids to
attr_ids _ = []

abbrev pub call_ids : Call Rid → List Rid
call_ids (call.Create b) = body_ids b
call_ids (call.Set e a) = entry_ids e ++ attr_ids a
call_ids (call.Remove e) = entry_ids e

-- ---- what they stand for

-- the identifiers of the recording that were made, rising, each with the number that stands for it
abbrev pub Numbers : Type 0
Numbers = List (ℕ × ℕ)

abbrev pub number_at : Numbers → Rid → Option ℕ
number_at numbers i = lookup (is_at (nat_cmp i.0)) numbers

-- what an identifier stands for, where it was made
abbrev pub made_as : Numbers → Rid → Rid
made_as numbers i = record { 0 = unwrap_or (number_at numbers i) 0 }

-- how much was built: how many identifiers were made, what those of the recording stand for, and the objects
pub record Built : Type 0 where
  pub made : ℕ
  pub numbers : Numbers
  pub objects : Objects

-- nothing, on a chip that made so many identifiers before
abbrev pub nothing_built : ℕ → Built
nothing_built made = record { made = made; numbers = []; objects = [] }

-- a call by what its identifiers stand for
abbrev pub call_meant : Built → Recorded → Call Rid
call_meant b r = call_renamed (made_as b.numbers) r.call

-- ---- why building stops

abbrev pub first_unknown : Numbers → List Rid → Option StopWhy
first_unknown numbers [] = None
first_unknown numbers (i ∷ is) = if is_some (number_at numbers i) then first_unknown numbers is else Some (why.UnknownId i.0)

abbrev pub made_twice : Numbers → Option Rid → Option StopWhy
made_twice numbers None = None
made_twice numbers (Some i) = if is_some (number_at numbers i) then Some (why.TwiceId i.0) else None

abbrev pub first_why : Option StopWhy → Option StopWhy → Option StopWhy
first_why None others = others
first_why (Some w) others = Some w

-- an identifier that no call made, else one that was made before, else what the chip's table refuses
abbrev pub stop_of : List ℕ → Built → Recorded → Option StopWhy
stop_of capacities b r =
    first_why (first_unknown b.numbers (call_ids r.call))
    (first_why (made_twice b.numbers r.made) (option_map why.Refused (refusal_of capacities b.objects (call_meant b r))))

-- ---- building

abbrev pub with_number : Numbers → Option Rid → ℕ → Numbers
with_number numbers None n = numbers
with_number numbers (Some i) n = insert_entry nat_cmp numbers i.0 n

-- a new number for the identifier of a call that makes one
abbrev pub numbers_after : Numbers → Recorded → ℕ → Numbers
numbers_after numbers r n = if makes_id r.call then with_number numbers r.made n else numbers

abbrev pub after_recorded : Built → Recorded → Built
after_recorded b r = record {
  made = if makes_id r.call then b.made + 1 else b.made;
  numbers = numbers_after b.numbers r (b.made + 1);
  objects = after_call (b.made + 1) b.objects (call_meant b r);
}

abbrev pub unless_stopped : Option StopWhy → ℕ → Result Built (ℕ × StopWhy) → Result Built (ℕ × StopWhy)
unless_stopped None at built = built
unless_stopped (Some w) at built = Err (at, w)

abbrev pub built_from : List ℕ → ℕ → Built → List Recorded → Result Built (ℕ × StopWhy)
built_from capacities at b [] = Ok b
built_from capacities at b (r ∷ rs) = unless_stopped (stop_of capacities b r) at (built_from capacities (at + 1) (after_recorded b r) rs)

-- what the calls build, from nothing and under these capacities, or the first call, counted from 1, at which building stops
abbrev pub build : List ℕ → List Recorded → Result Built (ℕ × StopWhy)
build capacities calls = built_from capacities 1 (nothing_built 0) calls
