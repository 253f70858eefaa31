-- What a replay comes to. Own.
use Rattle.std.specs.Prelude.{◌≡◌, ◌⊎◌, ℕ, ◌+◌, ◌-◌, ◌≤◌, List, length, take, count_by, None, Some, Result, Ok, Err}
use Rattle.sai_types.specs.After.{makes_id}
use Rattle.sai_types.specs.ChipState.{ChipState}
use Rattle.sai_types.specs.Named.{named}
use Rattle.sai_types.specs.Objects.{Objects}
use Rattle.sai_record.specs.Build.{Built, Numbers, after_recorded, build, stop_of}
use Rattle.sai_record.specs.declared.recording.Recorded.{Recorded}
use Rattle.sai_record.specs.declared.replaying.Replayed.{Replayed}
use Rattle.sai_record.specs.declared.replaying.Replayed.TheVariants as replayed
use Rattle.sai_record.specs.declared.replaying.StopWhy.{StopWhy}
use Rattle.sai_record.specs.declared.replaying.StopWhy.TheVariants as why

-- how much stands built on a chip, where the identifiers of the recording stand for these numbers
abbrev pub built_on : Numbers → ChipState → Built
built_on numbers chip = record { made = count_by makes_id chip.effects; numbers = numbers; objects = chip.objects }

-- the objects of a chip on which a call failed: as they were, or with the call, where it is legal
abbrev pub HasPerhaps : Numbers → ChipState → Recorded → Objects → Type 0
HasPerhaps ns old r objects = (objects ≡ old.objects) ⊎ ((stop_of old.capacities (built_on ns old) r ≡ None) × (objects ≡ (after_recorded (built_on ns old) r).objects))

-- one call of a recording: it was built; the chip failed; or building stops there, and nothing changed
abbrev pub IsCallMade : Numbers → ChipState → Recorded → Result (Unit {0}) StopWhy → Numbers → ChipState → Type 0
IsCallMade ns old r (Ok u) ns' new = (stop_of old.capacities (built_on ns old) r ≡ None) × (built_on ns' new ≡ after_recorded (built_on ns old) r) × (new.faults ≡ old.faults)
IsCallMade ns old r (Err why.Failed) ns' new = HasPerhaps ns old r new.objects × (new.faults ≡ old.faults + 1)
IsCallMade ns old r (Err w) ns' new = (stop_of old.capacities (built_on ns old) r ≡ Some w) × (new.objects ≡ old.objects) × (new.faults ≡ old.faults)

-- what stands is what these calls build under these capacities, up to identifiers
abbrev pub StandsBuilt : List ℕ → List Recorded → Objects → Type 0
StandsBuilt capacities calls objects = (b : Built) × (build capacities calls ≡ Ok b) × (named objects ≡ named b.objects)

-- what a replay says of the calls that a chip was given. It is done: what stands is what they build. The chip failed at a call: what stands is what the calls before it build, or these and it. Building stops at a call, for this reason: what stands is what the calls before it build. The chip's faults rose only where it failed
abbrev pub IsReplayed : ChipState → List Recorded → Replayed → ChipState → Type 0
IsReplayed old calls replayed.Done new = StandsBuilt old.capacities calls new.objects × (new.faults ≡ old.faults)
IsReplayed old calls (replayed.Stopped at why.Failed) new = (1 ≤ at) × (at ≤ length calls) × (StandsBuilt old.capacities (take (at - 1) calls) new.objects ⊎ StandsBuilt old.capacities (take at calls) new.objects) × (new.faults ≡ old.faults + 1)
IsReplayed old calls (replayed.Stopped at w) new = (build old.capacities calls ≡ Err (at, w)) × StandsBuilt old.capacities (take (at - 1) calls) new.objects × (new.faults ≡ old.faults)
