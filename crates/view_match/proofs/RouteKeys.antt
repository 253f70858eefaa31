-- the natural key of a route, told without its goal
use Rattle.std.proofs.Common.{◌≡◌, Bool, cond, Option, None, Some, option_map, refl, ap₂, ◌∙◌}
use Rattle.std.specs.Option.{is_some}
use Rattle.swss_types.specs.declared.address.Prefix.{Prefix}
use Rattle.swss_types.specs.declared.vrf.Vrf.{Vrf}
use Rattle.sai_types.specs.declared.ids.Rid.{Rid}
use Rattle.sai_types.specs.declared.body.Body.TheVariants as body
use Rattle.sai_types.specs.declared.body.Entry.{Entry}
use Rattle.sai_types.specs.declared.body.To.{To}
use Rattle.sai_types.specs.declared.thing.Goal.{Goal}
use Rattle.sai_types.specs.declared.thing.Thing.TheVariants as thing
use Rattle.sai_types.specs.Named.{both, goal_by, hops_at, router_at}
use Rattle.sai_types.specs.Objects.{Objects}
use Rattle.view_match.specs.declared.key.NaturalKey.{NaturalKey}
use Rattle.view_match.specs.declared.key.NaturalKey.TheVariants as key
use Rattle.view_match.specs.Keys.{key_among, natural_key_of}

-- the key of a route with this prefix, where it has this router, and leads somewhere or not
abbrev pub key_if : Prefix → Option Vrf → Bool → Option NaturalKey
key_if prefix router leads = cond leads (option_map (λ v. key.Route v prefix) router) None

key_by : (prefix : Prefix) (router : Option Vrf) (to : Option Goal) → key_if prefix router (is_some to) ≡ option_map natural_key_of (both (λ v g. thing.Route v prefix g) router to)
key_by prefix None None = refl
key_by prefix None (Some g) = refl
key_by prefix (Some v) None = refl
key_by prefix (Some v) (Some g) = refl

pub route-key : (objects : Objects) (e : Entry Rid) (vr : Option Rid) (prefix : Prefix) (to : To Rid) (router : Option Vrf) (leads : Bool) → router ≡ router_at objects vr → leads ≡ is_some (goal_by (hops_at objects) objects to) → key_if prefix router leads ≡ key_among objects (e, body.Route vr prefix to)
route-key objects e vr prefix to router leads r l = ap₂ (key_if prefix) r l ∙ key_by prefix (router_at objects vr) (goal_by (hops_at objects) objects to)
