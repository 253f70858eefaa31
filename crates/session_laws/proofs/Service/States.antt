-- the warm states are apart
use Rattle.std.proofs.Common.{◌≡◌, ◌∙◌, sym}
use Rattle.warm_state.specs.declared.warm.Warm.{Warm}
use Rattle.warm_state.specs.declared.warm.Warm.TheVariants.{Initialized, Restored, Applying, Reconciled, Suspect}

-- one state is no other
pub not-in : {X : Type 0} (a b : Warm) (w : Warm) → w ≡ a → (a ≡ b → ⊥) → w ≡ b → X
not-in a b w at apart other = absurd (apart (sym at ∙ other))

pub suspect-reconciled : Suspect ≡ Reconciled → ⊥
suspect-reconciled h = cc

pub suspect-initialized : Suspect ≡ Initialized → ⊥
suspect-initialized h = cc

pub suspect-restored : Suspect ≡ Restored → ⊥
suspect-restored h = cc

pub suspect-applying : Suspect ≡ Applying → ⊥
suspect-applying h = cc

pub initialized-reconciled : Initialized ≡ Reconciled → ⊥
initialized-reconciled h = cc

pub initialized-restored : Initialized ≡ Restored → ⊥
initialized-restored h = cc

pub initialized-applying : Initialized ≡ Applying → ⊥
initialized-applying h = cc

pub restored-reconciled : Restored ≡ Reconciled → ⊥
restored-reconciled h = cc

pub restored-initialized : Restored ≡ Initialized → ⊥
restored-initialized h = cc

pub restored-applying : Restored ≡ Applying → ⊥
restored-applying h = cc

pub applying-reconciled : Applying ≡ Reconciled → ⊥
applying-reconciled h = cc

pub applying-initialized : Applying ≡ Initialized → ⊥
applying-initialized h = cc

pub applying-restored : Applying ≡ Restored → ⊥
applying-restored h = cc

pub reconciled-initialized : Reconciled ≡ Initialized → ⊥
reconciled-initialized h = cc

pub reconciled-restored : Reconciled ≡ Restored → ⊥
reconciled-restored h = cc

pub reconciled-applying : Reconciled ≡ Applying → ⊥
reconciled-applying h = cc
