-- equal rows make no change
use Rattle.std.proofs.Common.{◌≡◌, inl, inr, Bool, true, ◌||◌, List, [], ◌∷◌, ◌++◌, Some, if◌then◌else◌, refl, sym, ap, ◌∙◌}
use Rattle.std.specs.Cmp.{eq_by_cmp_equiv}
use Rattle.std.specs.List.{list_any}
use Rattle.std.proofs.lemmas.Bool.{and_from, eq-eqb, or_right}
use Rattle.swss_types.specs.Vrf.{same_vrf}
use Rattle.swss_types.specs.contracts.address.IpEq.TheImpl.Laws as equal_ip
use Rattle.swss_types.proofs.Routers.{vrf-refl}
use Rattle.table_schema.specs.Plan.{Ports}
use Rattle.table_schema.specs.declared.key.Key.{Key}
use Rattle.table_schema.specs.declared.key.Key.TheVariants as key
use Rattle.table_schema.proofs.Keys.{key_total}
use Rattle.sai_types.specs.contracts.thing.ThingEq.TheImpl.Laws as equal_thing
use Rattle.sai_types.specs.declared.thing.Thing.{Thing}
use Rattle.sai_types.specs.declared.thing.Thing.TheVariants as thing
use Rattle.sai_types.specs.Alike.{IsIn}
use Rattle.sai_types.specs.Refusal.{same_ip}
use Rattle.switch_model.specs.Placed as row
use Rattle.switch_model.specs.Placed.{Placed as Row}
use Rattle.row_layout.specs.Operations.{Change, Set, changes_of, make_all, own_sets, build_all, take_all, thing_of_port, retire_all, same_owner, set_all, set_to, unshared}
use Rattle.row_layout.specs.Rows.{Owner, OfRow, Bridge, Own, Group, own_things}
use Rattle.row_layout.specs.Shared.{uses}

pub set_none : (t : Thing) (rest : List Change) → set_to t t rest ≡ rest
set_none t rest = ap (λ b. if b then rest else Set t ∷ rest) (equal_thing.laws-law.refl t)

pub set_same : (ts : List Thing) → set_all ts ts ≡ []
set_same [] = refl
set_same (t ∷ ts) = set_none t (set_all ts ts) ∙ set_same ts

pub own_same : (plan : Ports) (k : Key) (r : Row) → own_sets plan k r r ≡ []
own_same plan (key.Port port) (row.Port r) =
    let t = thing_of_port r.lanes r.speed r.mtu r.up in
    set_none t (set_to t t (set_to t t [])) ∙ set_none t (set_to t t []) ∙ set_none t []
own_same plan (key.Intf n) (row.Intf v) = ap (λ b. if b then [] else take_all (own_things plan (key.Intf n) (row.Intf v)) (make_all (own_things plan (key.Intf n) (row.Intf v)) [])) (vrf-refl v)
own_same plan k r = set_same (own_things plan k r)

owner_same : (o : Owner) → same_owner o o ≡ true
owner_same (OfRow k) = (eq_by_cmp_equiv key_total).refl k
owner_same (Bridge lane) = eq-eqb lane lane refl
owner_same (Own v ip) = and_from (same_vrf v v) (same_ip ip ip) (vrf-refl v) (equal_ip.laws-law.refl ip)
owner_same (Group hops) = equal_thing.laws-law.refl (thing.Group hops)

pub among : (o : Owner) (os : List Owner) → IsIn o os → list_any (same_owner o) os ≡ true
among o [] h = elim h [ ]
among o (p ∷ os) (inl is) = ap (λ b. b || list_any (same_owner o) os) (ap (same_owner o) (sym is) ∙ owner_same o)
among o (p ∷ os) (inr h) = or_right (same_owner o p) (list_any (same_owner o) os) (among o os h)

none_left : (used : Owner → Bool) (others os : List Owner) → ((o : Owner) → IsIn o os → list_any (same_owner o) others ≡ true) → unshared used others os ≡ []
none_left used others [] f = refl
none_left used others (o ∷ os) f =
    ap (λ b. if b then unshared used others os else o ∷ unshared used others os) (or_right (used o) (list_any (same_owner o) others) (f o (inl refl)))
    ∙ none_left used others os (λ p h. f p (inr h))

pub changes-same : (plan : Ports) (k : Key) (r : Row) (used : Owner → Bool) → changes_of plan k (Some r) (Some r) used ≡ []
changes-same plan k r used =
    let none = none_left used (uses plan k r) (uses plan k r) (λ o h. among o (uses plan k r) h) in
    ap (λ os. build_all os (own_sets plan k r r ++ retire_all os)) none ∙ ap (λ cs. cs ++ []) (own_same plan k r)
