-- texts that are appended part by part
use Rattle.std.proofs.Common.{◌≡◌, List, ◌++◌, append_assoc, ap, ◌∙◌, Result, Ok, Err, OnOk}

-- what a call appends behind what was appended
pub behind_others : {X T E : Type 0} (r : Result T E) (old mid new x y : List X) → mid ≡ old ++ x → OnOk r (new ≡ mid ++ y) → OnOk r (new ≡ old ++ (x ++ y))
behind_others (Ok v) old mid new x y first last = last ∙ ap (λ m. m ++ y) first ∙ append_assoc old x y
behind_others (Err e) old mid new x y first last = tt
