-- What stands after a change of a thing, and the call of a change. Own.
use Rattle.std.specs.Prelude.{◌≡◌, ◌⊎◌, Bool, ℕ}
use Rattle.swss_types.specs.declared.address.Mac.{Mac}
use Rattle.swss_types.specs.declared.tagging.Tagging.{Tagging}
use Rattle.sai_types.specs.declared.ids.Rid.{Rid}
use Rattle.sai_types.specs.declared.body.Attr.{Attr}
use Rattle.sai_types.specs.declared.body.Body.{Body}
use Rattle.sai_types.specs.declared.body.Call.{Call}
use Rattle.sai_types.specs.declared.body.Call.TheVariants as call
use Rattle.sai_types.specs.declared.thing.Goal.{Goal}
use Rattle.sai_types.specs.declared.thing.Thing.{Thing}
use Rattle.sai_types.specs.declared.thing.Thing.TheVariants as thing
use Rattle.sai_types.specs.After.{entry_of}
use Rattle.chip_layout.specs.Bodies.{IsBody, IsChange}
use Rattle.chip_layout.specs.Layout.{Has, Layout, with_changed, with_thing, without}
use Rattle.sai_types.specs.Names.{ThingName, Refers, name_of}
use Rattle.row_layout.specs.Operations.{Change, Make, Set, Take}

-- the name that a change is about
abbrev pub changed_name : Change → ThingName
changed_name (Make t) = name_of t
changed_name (Set t) = name_of t
changed_name (Take n) = n

-- a change sets or takes away what has this name
abbrev pub Disturbs : Change → ThingName → Type 0
Disturbs (Make t) n = ⊥
Disturbs (Set t) n = name_of t ≡ n
Disturbs (Take m) n = m ≡ n

-- whether a thing stands after a change, where X says whether it stood before
abbrev pub after : Change → Type 0 → Thing → Type 0
after (Make t) X u = X ⊎ (u ≡ t)
after (Set t) X u = (X × (name_of u ≡ name_of t → ⊥)) ⊎ (u ≡ t)
after (Take n) X u = X × (name_of u ≡ n → ⊥)

-- one call can set the one thing to be the other
abbrev pub IsSettable : Thing → Thing → Type 0
IsSettable (thing.Port p) u = ((s : ℕ) × (u ≡ thing.Port (record { lanes = p.lanes; speed = s; mtu = p.mtu; up = p.up }))) ⊎ (((m : ℕ) × (u ≡ thing.Port (record { lanes = p.lanes; speed = p.speed; mtu = m; up = p.up }))) ⊎ ((x : Bool) × (u ≡ thing.Port (record { lanes = p.lanes; speed = p.speed; mtu = p.mtu; up = x }))))
IsSettable (thing.VlanMember vlan lane tagging) u = (x : Tagging) × (u ≡ thing.VlanMember vlan lane x)
IsSettable (thing.Neighbor hop mac) u = (m : Mac) × (u ≡ thing.Neighbor hop m)
IsSettable (thing.Route v prefix goal) u = (g : Goal) × (u ≡ thing.Route v prefix g)
IsSettable _ u = ⊥

-- two ports with the same lanes
abbrev pub IsSamePort : Thing → Thing → Type 0
IsSamePort (thing.Port p) (thing.Port q) = p.lanes ≡ q.lanes
IsSamePort _ _ = ⊥

-- a thing is another one, but for values of a port that are set one after the other; and it refers to no more
pub record Resembles (u t : Thing) : Type 0 where
  pub same : (u ≡ t) ⊎ IsSamePort u t
  pub refers : (n : ThingName) → Refers u n → Refers t n

-- the call of a change
pub record IsMakeCall (layout : Layout Rid) (t : Thing) (c : Call Rid) : Type 0 where
  pub body : Body Rid
  pub of : IsBody (Has layout) t body
  pub is : c ≡ call.Create body

pub record IsSetCall (layout : Layout Rid) (u : Thing) (c : Call Rid) : Type 0 where
  pub id : Rid
  pub old : Thing
  pub stands : layout id old
  pub body : Body Rid
  pub of : IsBody (Has layout) old body
  pub attr : Attr Rid
  pub change : IsChange (Has layout) old attr u
  pub is : c ≡ call.Set (entry_of id.0 body) attr

pub record IsTakeCall (layout : Layout Rid) (n : ThingName) (c : Call Rid) : Type 0 where
  pub id : Rid
  pub old : Thing
  pub stands : layout id old
  pub named : name_of old ≡ n
  pub body : Body Rid
  pub of : IsBody (Has layout) old body
  pub is : c ≡ call.Remove (entry_of id.0 body)

abbrev pub IsCall : Layout Rid → Change → Call Rid → Type 0
IsCall layout (Make t) c = IsMakeCall layout t c
IsCall layout (Set u) c = IsSetCall layout u c
IsCall layout (Take n) c = IsTakeCall layout n c

-- what stands after a change that made or set the thing with this identifier
abbrev pub changed_by : Layout Rid → Change → Rid → Layout Rid
changed_by layout (Make t) i = with_thing layout i t
changed_by layout (Set t) i = with_changed layout i t
changed_by layout (Take n) i = without layout n
