-- orders that tie
use Rattle.std.proofs.Common.{◌≡◌, true, refl, Ordering}
use Rattle.std.specs.Ordering.{is_eq, ordering_then}
use Rattle.std.specs.declared.cmp.Ordering.TheVariants.{Less, Equal, Greater}

pub tied : (o : Ordering) → is_eq o ≡ true → o ≡ Equal
tied Less h = cc
tied Equal h = refl
tied Greater h = cc

pub then_first : (a b : Ordering) → ordering_then a b ≡ Equal → a ≡ Equal
then_first Less b h = h
then_first Equal b h = refl
then_first Greater b h = h

pub then_last : (a b : Ordering) → ordering_then a b ≡ Equal → b ≡ Equal
then_last Less b h = cc
then_last Equal b h = h
then_last Greater b h = cc
