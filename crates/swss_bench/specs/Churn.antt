-- Routes by their numbers, as a benchmark makes them. Own.
use Rattle.std.specs.Prelude.{◌≡◌, ℕ, ◌<◌, ◌+◌, ◌*◌, None}
use Rattle.std.specs.List.{AllByRecursion}
use Rattle.swss_types.specs.declared.address.Family.TheVariants as family
use Rattle.swss_types.specs.declared.address.Prefix.{Prefix}
use Rattle.sai_types.specs.declared.ids.Vid.{Vid}
use Rattle.sai_types.specs.declared.body.Body.TheVariants as body
use Rattle.sai_types.specs.declared.body.To.TheVariants as to
use Rattle.asic_view.specs.View.{ViewObjects}
use Rattle.asic_view.specs.declared.object.ViewObject.{ViewObject}

-- 256 addresses, from 11.0.0.0 on
abbrev pub nth_prefix : ℕ → Prefix
nth_prefix n = record { ip = record { family = family.V4; bits = 184549376 + n * 256 }; len = 24 }

-- a route to nowhere of a number below this one
abbrev pub IsRouteBelow : ℕ → Vid × ViewObject → Type 0
IsRouteBelow n x = (j : ℕ) × (j < n) × (x.1.body ≡ body.Route None (nth_prefix j) to.Drop)

abbrev pub AreRoutesBelow : ℕ → ViewObjects → Type 0
AreRoutesBelow n objects = AllByRecursion (IsRouteBelow n) objects
