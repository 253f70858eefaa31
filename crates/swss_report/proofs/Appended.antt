-- texts that were appended one after the other
use Rattle.std.proofs.Common.{◌≡◌, ◌∙◌, ℕ, List, ◌++◌, ap, append_assoc}

-- two texts are appended as one
pub both-appended : (old one two mid new : List ℕ) → mid ≡ old ++ one → new ≡ mid ++ two → new ≡ old ++ (one ++ two)
both-appended old one two mid new first second = second ∙ (ap (λ l. l ++ two) first ∙ append_assoc old one two)
