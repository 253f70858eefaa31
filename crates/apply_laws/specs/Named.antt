-- Each identifier that a call names has a property. Own.
use Rattle.std.specs.Prelude.{Option, None, Some}
use Rattle.sai_types.specs.declared.ids.Vid.{Vid}
use Rattle.sai_types.specs.declared.body.Attr.{Attr}
use Rattle.sai_types.specs.declared.body.Attr.TheVariants as attr
use Rattle.sai_types.specs.declared.body.Body.{Body}
use Rattle.sai_types.specs.declared.body.Body.TheVariants as body
use Rattle.sai_types.specs.declared.body.Call.{Call}
use Rattle.sai_types.specs.declared.body.Call.TheVariants as call
use Rattle.sai_types.specs.declared.body.Entry.{Entry}
use Rattle.sai_types.specs.declared.body.Entry.TheVariants as entry
use Rattle.sai_types.specs.declared.body.RifOn.{RifOn}
use Rattle.sai_types.specs.declared.body.RifOn.TheVariants as on
use Rattle.sai_types.specs.declared.body.To.{To}
use Rattle.sai_types.specs.declared.body.To.TheVariants as to

abbrev pub InOn : (Vid → Type 0) → RifOn Vid → Type 0
InOn P (on.Port i) = P i
InOn P (on.Vlan i) = P i

abbrev pub InTo : (Vid → Type 0) → To Vid → Type 0
InTo P to.Drop = Unit {0}
InTo P (to.Rif i) = P i
InTo P (to.NextHop i) = P i
InTo P (to.Group i) = P i

-- that of a virtual router, unless it is the default one
abbrev pub InRouter : (Vid → Type 0) → Option Vid → Type 0
InRouter P None = Unit {0}
InRouter P (Some i) = P i

abbrev pub InBody : (Vid → Type 0) → Body Vid → Type 0
InBody P (body.BridgePort i) = P i
InBody P (body.VlanMember i j tagging) = P i × P j
InBody P (body.Rif vr on) = InRouter P vr × InOn P on
InBody P (body.OwnAddress vr ip) = InRouter P vr
InBody P (body.Neighbor i ip mac) = P i
InBody P (body.NextHop i ip) = P i
InBody P (body.GroupMember i j weight) = P i × P j
InBody P (body.Route vr prefix to) = InRouter P vr × InTo P to
InBody P _ = Unit {0}

abbrev pub InAttr : (Vid → Type 0) → Attr Vid → Type 0
InAttr P (attr.To to) = InTo P to
InAttr P _ = Unit {0}

abbrev pub InEntry : (Vid → Type 0) → Entry Vid → Type 0
InEntry P (entry.Oid i) = P i
InEntry P (entry.Own vr ip) = InRouter P vr
InEntry P (entry.Neigh i ip) = P i
InEntry P (entry.Route vr prefix) = InRouter P vr

abbrev pub InCall : (Vid → Type 0) → Call Vid → Type 0
InCall P (call.Create b) = InBody P b
InCall P (call.Set e a) = InEntry P e × InAttr P a
InCall P (call.Remove e) = InEntry P e
