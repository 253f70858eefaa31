-- The objects of a chip as of an earlier moment, and what each effect was about. Own.
use Rattle.std.specs.Prelude.{◌≡◌, ℕ, ◌+◌, ◌-◌, ◌≤◌, List, [], Option, count_by, length, take}
use Rattle.std.specs.Option.{option_and_then}
use Rattle.sai_types.specs.declared.ids.Rid.{Rid}
use Rattle.sai_types.specs.declared.body.Call.{Call}
use Rattle.sai_types.specs.declared.body.Call.TheVariants as call
use Rattle.sai_types.specs.declared.body.Entry.{Entry}
use Rattle.sai_types.specs.declared.thing.Thing.{Thing}
use Rattle.sai_types.specs.Objects.{Objects, body_at}
use Rattle.sai_types.specs.Named.{thing_of}
use Rattle.sai_types.specs.After.{after_call, chip_after, makes_id, next_id}
use Rattle.sai_types.specs.Made.{entry_named, made_after}
use Rattle.sai_chip.specs.SimChip.{effect_at}

-- how many effects were made, how many identifiers these made, and the objects behind them
pub record Remade : Type 0 where
  pub at : ℕ
  pub made : ℕ
  pub objects : Objects

-- no effect was made
abbrev pub new_remade : Remade
new_remade = record { at = 0; made = 0; objects = [] }

-- so many of these effects were made
pub record IsRemadeOf (r : Remade) (effects : List (Call Rid)) : Type 0 where
  pub at : r.at ≤ length effects
  pub made : r.made ≡ count_by makes_id (take r.at effects)
  pub objects : r.objects ≡ chip_after effects r.at

-- one more call was made
abbrev pub with_call : Remade → Call Rid → Remade
with_call r c = record { at = r.at + 1; made = made_after r.made c; objects = after_call (r.made + 1) r.objects c }

-- what the object with this entry stands for
abbrev pub thing_at : Objects → Entry Rid → Option Thing
thing_at objects e = option_and_then (λ b. thing_of objects (e, b)) (body_at objects e)

-- what a call was about: the object as it stands behind a create or a set, and as it stood before a removal. n is the number of the identifier that the call makes, where it makes one
abbrev pub call_thing : ℕ → Objects → Objects → Call Rid → Option Thing
call_thing n before after (call.Remove e) = thing_at before e
call_thing n before after c = thing_at after (entry_named n c)

-- what effect k, counted from 1, was about
abbrev pub effect_thing : List (Call Rid) → ℕ → Option Thing
effect_thing effects k = option_and_then (call_thing (next_id (take (k - 1) effects)) (chip_after effects (k - 1)) (chip_after effects k)) (effect_at effects k)

-- how many effects were followed, and those of them that were made
pub record Replayed : Type 0 where
  pub at : ℕ
  pub remade : Remade

-- no effect was followed
abbrev pub new_replay : Replayed
new_replay = record { at = 0; remade = new_remade }

-- the replay stands behind so many of these effects
pub record IsReplayOf (r : Replayed) (effects : List (Call Rid)) : Type 0 where
  pub at : r.at ≤ length effects
  pub behind : r.remade.at ≤ r.at
  pub remade : IsRemadeOf r.remade effects
