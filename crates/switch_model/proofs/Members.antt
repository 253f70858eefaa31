-- the members of a group
use Rattle.std.proofs.Common.{◌≡◌, suc, List, [], ◌∷◌, length, refl, ap}
use Rattle.sai_types.specs.declared.weight.WHop.{WHop}
use Rattle.switch_model.specs.Things.{members_of}

pub members_count : (all hops : List WHop) → length (members_of all hops) ≡ length hops
members_count all [] = refl
members_count all (hop ∷ hops) = ap suc (members_count all hops)
