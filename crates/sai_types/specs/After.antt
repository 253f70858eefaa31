-- What calls leave on a chip (OCP SAI headers; own for the numbers of identifiers).
use Rattle.std.specs.Prelude.{ℕ, ◌+◌, Bool, true, false, List, [], ◌∷◌, Option, Some, None, count_by, take, if◌then◌else◌}
use Rattle.std.specs.BTreeMap.{insert_entry, is_at}
use Rattle.std.specs.Map.{remove_entry}
use Rattle.sai_types.specs.declared.ids.Rid.{Rid}
use Rattle.sai_types.specs.declared.body.Body.{Body}
use Rattle.sai_types.specs.declared.body.Body.TheVariants as body
use Rattle.sai_types.specs.declared.body.Entry.{Entry}
use Rattle.sai_types.specs.declared.body.Entry.TheVariants as entry
use Rattle.sai_types.specs.declared.body.Attr.{Attr}
use Rattle.sai_types.specs.declared.body.Attr.TheVariants as attr
use Rattle.sai_types.specs.declared.body.Call.{Call}
use Rattle.sai_types.specs.declared.body.Call.TheVariants as call
use Rattle.sai_types.specs.Objects.{Objects, body_at, entry_cmp}

-- own addresses, neighbours and routes have no identifier
abbrev pub has_id : {I : Type 0} → Body I → Bool
has_id (body.OwnAddress vr ip) = false
has_id (body.Neighbor rif ip mac) = false
has_id (body.Route vr prefix to) = false
has_id _ = true

-- whether a call makes an object with an identifier
abbrev pub makes_id : {I : Type 0} → Call I → Bool
makes_id (call.Create b) = has_id b
makes_id _ = false

-- the entry of a new object: its key, or the identifier with this number
abbrev pub entry_of : ℕ → Body Rid → Entry Rid
entry_of n (body.OwnAddress vr ip) = entry.Own vr ip
entry_of n (body.Neighbor rif ip mac) = entry.Neigh rif ip
entry_of n (body.Route vr prefix to) = entry.Route vr prefix
entry_of n _ = entry.Oid (record { 0 = n })

-- a body with a new value of an attribute that its kind has
abbrev pub with_attr : Body Rid → Attr Rid → Body Rid
with_attr (body.Port lanes speed mtu up) (attr.Speed s) = body.Port lanes s mtu up
with_attr (body.Port lanes speed mtu up) (attr.Mtu m) = body.Port lanes speed m up
with_attr (body.Port lanes speed mtu up) (attr.Up u) = body.Port lanes speed mtu u
with_attr (body.VlanMember vlan bridge_port tagging) (attr.Tagging t) = body.VlanMember vlan bridge_port t
with_attr (body.Neighbor rif ip mac) (attr.Mac m) = body.Neighbor rif ip m
with_attr (body.Route vr prefix to) (attr.To t) = body.Route vr prefix t
with_attr b _ = b

abbrev pub after_set : Objects → Entry Rid → Attr Rid → Option (Body Rid) → Objects
after_set objects e a None = objects
after_set objects e a (Some b) = insert_entry entry_cmp objects e (with_attr b a)

-- the objects after a call that took effect; n is the number of the identifier that it makes, where it makes one
abbrev pub after_call : ℕ → Objects → Call Rid → Objects
after_call n objects (call.Create b) = insert_entry entry_cmp objects (entry_of n b) b
after_call n objects (call.Set e a) = after_set objects e a (body_at objects e)
after_call n objects (call.Remove e) = remove_entry (is_at (entry_cmp e)) objects

-- the number of the next identifier: one more than the number of effects that made one
abbrev pub next_id : List (Call Rid) → ℕ
next_id effects = count_by makes_id effects + 1

-- the objects after calls that took effect one after another, where so many identifiers were made before
abbrev pub after_calls : ℕ → Objects → List (Call Rid) → Objects
after_calls made objects [] = objects
after_calls made objects (c ∷ cs) = after_calls (if makes_id c then made + 1 else made) (after_call (made + 1) objects c) cs

-- the chip after the first k effects, from an empty chip
abbrev pub chip_after : List (Call Rid) → ℕ → Objects
chip_after effects k = after_calls 0 [] (take k effects)
