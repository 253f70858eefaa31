-- The numbers of the chip calls that fail. Own.
use Rattle.std.specs.Prelude.{◌≡◌, ℕ, ◌==◌, List}
use Rattle.std.specs.BTreeMap.{is_at}
use Rattle.std.specs.List.{list_any}
use Rattle.std.specs.Ordering.{nat_cmp}
use Rattle.swss_script.specs.declared.parts.Fail2.{Fail2}

-- these are the numbers of the calls
abbrev pub AreNumbers : List Fail2 → List ℕ → Type 0
AreNumbers fails numbers = (at : ℕ) → list_any (is_at (nat_cmp at)) numbers ≡ list_any (λ fail. fail.at == at) fails
