-- The counts of the session, as the report lists them. Own.
use Rattle.std.specs.Prelude.{ℕ, List, [], ◌∷◌, ◌++◌, length, flat_map, codes, Option, Some, None}
use Rattle.std.specs.Fmt.{decimal}
use Rattle.sai_types.specs.Objects.{Objects, used}
use Rattle.sai_types.specs.Refusal.{capacity_of}
use Rattle.sai_types.specs.declared.kind.Kind.{Kind}
use Rattle.swss_report.specs.Counted.{count_line}
use Rattle.swss_report.specs.Ended.{Ended}
use Rattle.swss_report.specs.Ending.{turns_at_end}
use Rattle.sai_types.specs.Kinds.{all_kinds}
use Rattle.swss_report.specs.Kinds.{kind_name}

-- the number of turns of the settling, or `-` where the round ended with a fault
abbrev pub turns_text : Option ℕ → List ℕ
turns_text (Some turns) = count_line (codes " turns ") turns
turns_text None = codes " turns -" ++ 10 ∷ []

-- how many writes were taken and how many calls took effect so far, and how many turns the settling made
abbrev pub totals_line : ℕ → ℕ → Option ℕ → List ℕ
totals_line taken effects turns = codes "counts taken " ++ decimal taken ++ codes " effects " ++ decimal effects ++ turns_text turns

-- a kind, how many objects of it stand, and how many have room
abbrev pub kind_line : Objects → List ℕ → Kind → List ℕ
kind_line objects capacities kind = kind_name kind ++ 32 ∷ decimal (used objects kind) ++ 32 ∷ decimal (capacity_of capacities kind) ++ 10 ∷ []

abbrev pub counts_text : Ended → List ℕ
counts_text e = totals_line e.taken (length e.effects) (turns_at_end e.marks) ++ flat_map (kind_line e.objects e.capacities) all_kinds
