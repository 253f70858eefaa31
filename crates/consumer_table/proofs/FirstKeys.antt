-- the first key, as the first entry has it
use Rattle.std.proofs.Common.{◌≡◌, [], ◌∷◌, option_map, slice_get, refl}
use Rattle.std.specs.Map.{keys_of}
use Rattle.consumer_table.specs.Ops.{Ops, first_in}

pub first_key : (ops : Ops) → option_map (λ e. e.0) (slice_get ops 0) ≡ first_in (keys_of ops)
first_key [] = refl
first_key (e ∷ ops) = refl
