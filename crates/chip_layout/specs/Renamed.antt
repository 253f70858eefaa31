-- Objects by other identifiers. Own.
use Rattle.std.specs.Prelude.{◌≡◌, List, [], ◌∷◌, Some, option_map}
use Rattle.sai_types.specs.declared.ids.Rid.{Rid}
use Rattle.sai_types.specs.declared.body.Attr.{Attr}
use Rattle.sai_types.specs.declared.body.Attr.TheVariants as attr
use Rattle.sai_types.specs.declared.body.Call.{Call}
use Rattle.sai_types.specs.declared.body.Call.TheVariants as call
use Rattle.sai_types.specs.declared.body.Entry.{Entry}
use Rattle.sai_types.specs.declared.body.Entry.TheVariants as entry
use Rattle.sai_types.specs.declared.thing.Thing.{Thing}
use Rattle.sai_types.specs.Objects.{Objects, body_at}
use Rattle.sai_types.specs.declared.body.Body.{Body}
use Rattle.sai_types.specs.declared.body.Body.TheVariants as body
use Rattle.sai_types.specs.declared.body.RifOn.{RifOn}
use Rattle.sai_types.specs.declared.body.RifOn.TheVariants as on
use Rattle.sai_types.specs.declared.body.To.{To}
use Rattle.sai_types.specs.declared.body.To.TheVariants as to

abbrev pub on_renamed : {I J : Type 0} → (I → J) → RifOn I → RifOn J
on_renamed f (on.Port i) = on.Port (f i)
on_renamed f (on.Vlan i) = on.Vlan (f i)

abbrev pub to_renamed : {I J : Type 0} → (I → J) → To I → To J
to_renamed f to.Drop = to.Drop
to_renamed f (to.Rif i) = to.Rif (f i)
to_renamed f (to.NextHop i) = to.NextHop (f i)
to_renamed f (to.Group i) = to.Group (f i)

abbrev pub body_renamed : {I J : Type 0} → (I → J) → Body I → Body J
body_renamed f (body.Port lanes speed mtu up) = body.Port lanes speed mtu up
body_renamed f (body.Vlan vlan) = body.Vlan vlan
body_renamed f (body.VirtualRouter label) = body.VirtualRouter label
body_renamed f (body.BridgePort i) = body.BridgePort (f i)
body_renamed f (body.VlanMember i j tagging) = body.VlanMember (f i) (f j) tagging
body_renamed f (body.Rif vr on) = body.Rif (option_map f vr) (on_renamed f on)
body_renamed f (body.OwnAddress vr ip) = body.OwnAddress (option_map f vr) ip
body_renamed f (body.Neighbor i ip mac) = body.Neighbor (f i) ip mac
body_renamed f (body.NextHop i ip) = body.NextHop (f i) ip
body_renamed f body.Group = body.Group
body_renamed f (body.GroupMember i j weight) = body.GroupMember (f i) (f j) weight
body_renamed f (body.Route vr prefix to) = body.Route (option_map f vr) prefix (to_renamed f to)

abbrev pub entry_renamed : {I J : Type 0} → (I → J) → Entry I → Entry J
entry_renamed f (entry.Oid i) = entry.Oid (f i)
entry_renamed f (entry.Own vr ip) = entry.Own (option_map f vr) ip
entry_renamed f (entry.Neigh i ip) = entry.Neigh (f i) ip
entry_renamed f (entry.Route vr prefix) = entry.Route (option_map f vr) prefix

abbrev pub attr_renamed : {I J : Type 0} → (I → J) → Attr I → Attr J
attr_renamed f (attr.Speed s) = attr.Speed s
attr_renamed f (attr.Mtu m) = attr.Mtu m
attr_renamed f (attr.Up x) = attr.Up x
attr_renamed f (attr.Tagging t) = attr.Tagging t
attr_renamed f (attr.Mac m) = attr.Mac m
attr_renamed f (attr.To to) = attr.To (to_renamed f to)

abbrev pub call_renamed : {I J : Type 0} → (I → J) → Call I → Call J
call_renamed f (call.Create b) = call.Create (body_renamed f b)
call_renamed f (call.Set e a) = call.Set (entry_renamed f e) (attr_renamed f a)
call_renamed f (call.Remove e) = call.Remove (entry_renamed f e)

-- one chip's objects are another's with each identifier renamed, no two to one
pub record AreRenamed (f : Rid → Rid) (objects others : Objects) : Type 0 where
  pub one : (i j : Rid) → f i ≡ f j → i ≡ j
  pub each : (e : Entry Rid) (b : Body Rid) → body_at objects e ≡ Some b → body_at others (entry_renamed f e) ≡ Some (body_renamed f b)
  pub only : (e : Entry Rid) (b : Body Rid) → body_at others e ≡ Some b → (d : Entry Rid) × (c : Body Rid) × (body_at objects d ≡ Some c) × (e ≡ entry_renamed f d) × (b ≡ body_renamed f c)

abbrev pub things_renamed : (Rid → Rid) → List (Rid × Thing) → List (Rid × Thing)
things_renamed f [] = []
things_renamed f (x ∷ xs) = (f x.0, x.1) ∷ things_renamed f xs
