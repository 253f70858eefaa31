-- Entries of a part of a map, as they stand in the whole. Own.
use Rattle.std.specs.Prelude.{List, map}

-- entries under other keys
abbrev pub renamed : {K L X : Type 0} → (K → L) → List (K × X) → List (L × X)
renamed g es = map (λ e. (g e.0, e.1)) es
