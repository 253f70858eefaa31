-- What a port plan keeps beside its ports, so that a lane is found at once. Own.
use Rattle.std.specs.Prelude.{◌≡◌, ℕ, ◌<◌, Bool, true, false, List, [], ◌∷◌, length, slice_index_or, slice_set, Option, None}
use Rattle.swss_types.specs.declared.lanes.TheConstants.{LANE_BOUND}
use Rattle.table_schema.specs.Plan.{Ports, IsPlan, has_lane, port_named}

-- the table with these lanes taken
abbrev pub marked : List Bool → List ℕ → List Bool
marked taken [] = taken
marked taken (lane ∷ lanes) = marked (slice_set taken lane true) lanes

-- the ports are a plan, and the two tables agree with it at each lane
pub record IsIndexed (ports : Ports) (taken : List Bool) (names : List (Option ℕ)) : Type 0 where
  pub plan : IsPlan ports
  pub taken_count : length taken ≡ LANE_BOUND
  pub names_count : length names ≡ LANE_BOUND
  pub takes : (lane : ℕ) → lane < LANE_BOUND → slice_index_or taken lane false ≡ has_lane ports lane
  pub named : (lane : ℕ) → lane < LANE_BOUND → slice_index_or names lane None ≡ port_named ports lane
