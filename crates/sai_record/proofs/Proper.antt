-- what reads is proper
use Rattle.std.proofs.Common.{◌≡◌, Option, None, Some, IfSome, sym}

pub if-proper : {A : Type 0} (P : A → Type 0) (o p : Option A) → o ≡ p → ((a : A) → p ≡ Some a → P a) → IfSome o P
if-proper P None p same proper = tt
if-proper P (Some a) p same proper = proper a (sym same)
