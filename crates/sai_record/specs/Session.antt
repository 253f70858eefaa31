-- The recording of a session: its chip's effects, in order. Own.
use Rattle.std.specs.Prelude.{ℕ, ◌+◌, List, [], ◌∷◌, None, Some, if◌then◌else◌}
use Rattle.sai_types.specs.After.{makes_id}
use Rattle.sai_types.specs.declared.ids.Rid.{Rid}
use Rattle.sai_types.specs.declared.body.Call.{Call}
use Rattle.sai_record.specs.declared.recording.Recorded.{Recorded}

-- an effect, behind others that made so many identifiers
abbrev pub recorded_effect : ℕ → Call Rid → Recorded
recorded_effect made c = record { made = if makes_id c then Some (record { 0 = made + 1 }) else None; call = c }

-- effects behind others that made so many identifiers: those that make one make 1, 2, 3 and so on
abbrev pub recorded_behind : ℕ → List (Call Rid) → List Recorded
recorded_behind made [] = []
recorded_behind made (c ∷ cs) = recorded_effect made c ∷ recorded_behind (if makes_id c then made + 1 else made) cs

-- the calls of the recording of a session with these effects
abbrev pub recording_of : List (Call Rid) → List Recorded
recording_of effects = recorded_behind 0 effects
