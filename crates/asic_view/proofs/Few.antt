-- of each kind there are no more objects than there are in all
use Rattle.std.proofs.Common.{◌≡◌, ◌<◌, ◌^◌, ℕ, length, arith}
use Rattle.std.specs.Map.{values_of}
use Rattle.std.proofs.lemmas.List.Sums.{count_by-le-length}
use Rattle.std.proofs.lemmas.Map.Entries.{length-values_of}
use Rattle.sai_types.specs.declared.kind.Kind.{Kind}
use Rattle.sai_types.specs.Objects.{is_of}
use Rattle.asic_view.specs.declared.object.ViewObject.{ViewObject}
use Rattle.asic_view.specs.View.{ViewObjects, used_of}

pub used_few : (n : ℕ) (objects : ViewObjects) → n < 2 ^ 63 → n ≡ length objects → (k : Kind) → used_of objects k < 2 ^ 63
used_few n objects few same k =
    let most = count_by-le-length (λ (x : ViewObject). is_of k x.body) (values_of objects) in
    let all = length-values_of objects in
    omega (arith, few, same, most, all)
