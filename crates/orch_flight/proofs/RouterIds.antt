-- the identifier of a virtual router
use Rattle.std.proofs.Common.{◌≡◌, List, [], ◌∷◌, ◌++◌, map, Option, None, Some, IsSome, refl, ◌∙◌}
use Rattle.std.proofs.lemmas.Bool.{false≢true}
use Rattle.swss_types.specs.declared.vrf.Vrf.{Vrf}
use Rattle.swss_types.specs.declared.vrf.Vrf.TheVariants as vrf
use Rattle.table_schema.specs.Names.{router_names}
use Rattle.table_schema.specs.Plan.{Ports}
use Rattle.table_schema.specs.declared.key.Key.TheVariants as key
use Rattle.sai_types.specs.declared.ids.Vid.{Vid}
use Rattle.chip_layout.specs.Bodies.{IsAt, router_name, vr_with}
use Rattle.ref_counts.specs.declared.name.Name.{Name}
use Rattle.ref_counts.specs.declared.name.Name.TheVariants as name
use Rattle.ref_counts.specs.Registered.{first_of}
use Rattle.ref_counts.specs.Registry.{Names, ids_of}
use Rattle.orch_flight.specs.Calling.{HasVid, HaveIds, router_vid}

pub have_both : (names : Names) (v : Vrf) (ns : List Name) → HaveIds names (map name.Row (router_names v) ++ ns) → HaveIds names (map name.Row (router_names v)) × HaveIds names ns
have_both names vrf.Default ns h = (tt, h)
have_both names (vrf.Named label) ns h = ((h.0, tt), h.1)

pub router_at : (plan : Ports) (names : Names) (v : Vrf) (vr : Option Vid) → vr ≡ router_vid names v → HaveIds names (map name.Row (router_names v)) → (j : Vid) × IsAt (HasVid plan names) (router_name v) j × (vr ≡ vr_with v j)
router_at plan names vrf.Default vr is have = (record { 0 = 0 }, tt, is)
router_at plan names (vrf.Named label) vr is have = by (first_of (ids_of names (name.Row (key.Vrf label)))) refl have.0
  where
    by : (o : Option Vid) → first_of (ids_of names (name.Row (key.Vrf label))) ≡ o → IsSome o → (j : Vid) × (first_of (ids_of names (name.Row (key.Vrf label))) ≡ Some j) × (vr ≡ Some j)
    by None e some = absurd (false≢true some)
    by (Some j) e some = (j, e, is ∙ e)
