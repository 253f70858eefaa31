-- the calls of a round that was cut off are those of turns so far
use Rattle.std.proofs.Common.{◌≡◌, ◌++◌, ◌∙◌, inl, inr, ℕ, List, [], Option, sym, ap, subst}
use Rattle.std.proofs.lemmas.List.{append-nil}
use Rattle.table_schema.specs.Plan.{Ports}
use Rattle.table_schema.specs.Rows.{rows_of}
use Rattle.table_schema.specs.declared.key.Key.{Key}
use Rattle.table_schema.specs.declared.write.Sent.{Sent}
use Rattle.sai_types.specs.declared.ids.Rid.{Rid}
use Rattle.sai_types.specs.declared.body.Call.{Call}
use Rattle.sai_types.specs.Alike.{IsIn}
use Rattle.sai_types.specs.ChipState.{ChipState}
use Rattle.switch_model.specs.Good.{good_rows}
use Rattle.switch_model.specs.Marks.{sent_writes}
use Rattle.switch_model.specs.declared.mark.Mark.{Mark}
use Rattle.switch_machine.specs.Events.{SwitchState}
use Rattle.switch_machine.specs.Written.{HasNoWrite, good_of}
use Rattle.machine_laws.specs.Logged.{InPops, InTurns, IsInTurns, IsSettlingSoFar, LoggedSwitch, after_pops}
use Rattle.machine_laws.specs.Settling.{situation}
use Rattle.machine_laws.proofs.Alone.{AreTried, DueCall, NoCall}
use Rattle.machine_laws.proofs.Deciding.{IsDecided}
use Rattle.machine_laws.proofs.Logging.{pops-good, pops-keys, so-far-calls, so-far-pops}
use Rattle.machine_laws.proofs.Sharing.{key_listed_decided}
use Rattle.session_laws.specs.Core.{CoreState}
use Rattle.session_laws.specs.Leading.{with_calls}
use Rattle.round_laws.specs.Between.{IsInRound, round_from}
use Rattle.round_laws.specs.Ended.{EndedRound, IsToTry, rows_wanted}
use Rattle.round_laws.specs.Named.{keys_named}
use Rattle.round_laws.specs.Turns.{IsCutInTurns, IsMadeSoFar}
use Rattle.round_laws.proofs.Resting.{core-stands, core-taken}
use Rattle.round_laws.proofs.Turned.{before, round-free, round-named, round-quiet, round-rows, round-safe, round-synced, round-taken, round-unnamed, round-warm, synced-round}

module _ {workers : ℕ} (since : Option Mark) (old c : CoreState) (chip : ChipState) (sent : List Sent) (x : IsInRound workers since old chip sent c) where
  abbrev core : SwitchState
  core = before since old c chip sent x

  abbrev plan : Ports
  plan = c.board.plan

  abbrev room : List ℕ
  room = c.sync.capacities

  abbrev round : List (Call Rid) → Mark → EndedRound
  round calls mark = round_from since old chip sent calls mark

  module _ (t : LoggedSwitch) (y : IsInTurns plan 4 room (with_calls core []) t) (failed : List (Call Rid)) (are : AreTried 4 t.switch failed) (mark : Mark) where
    abbrev calls : List (Call Rid)
    calls = y.calls ++ failed

    keys : (k : Key) → (IsIn k core.to_sync → IsIn k y.keys) × ((HasNoWrite core.written k → ⊥) → IsIn k y.keys) × (IsIn k y.keys → HasNoWrite core.written k → IsIn k core.to_sync)
    keys k = pops-keys plan 4 room core y.pops y.are_pops y.popped y.keys y.all y.only k

    tried : (k : Key) → IsIn k y.keys → IsToTry (round calls mark) k
    tried k i = by (key_listed_decided k (keys_named sent))
      where
        by : IsDecided (IsIn k (keys_named sent)) → IsToTry (round calls mark) k
        by (inl named) = inr named
        by (inr none) = inl (x.began.to_sync k (round-synced since old c chip sent x k ((keys k).2 i (round-unnamed since old c chip sent x k none))))

    all : (k : Key) → IsToTry (round calls mark) k → IsIn k y.keys
    all k (inl listed) = (keys k).0 (synced-round since old c chip sent x k (x.began.listed k listed))
    all k (inr named) = (keys k).1 (λ none. round-named since old c chip sent x k named none)

    wanted : (k : Key) → good_of plan (after_pops core y.pops).written k ≡ rows_wanted plan (round calls mark) k
    wanted k =
        pops-good plan 4 room core y.pops y.are_pops y.popped (round-safe since old c chip sent x) k
        ∙ ap (λ ts. good_rows plan (rows_of ts) k) (core-taken c chip x.within (round-warm since old c chip sent x) (round-free since old c chip sent x))
        ∙ ap (λ ts. good_rows plan (rows_of (sent_writes ts)) k) (round-taken since old c chip sent x)

    in-turns : IsCutInTurns plan room (round calls mark)
    in-turns = record {
      start = situation core;
      applied = round-rows since old c chip sent x;
      begins = core-stands c chip x.within (round-warm since old c chip sent x) (round-free since old c chip sent x);
      good = good_of plan (after_pops core y.pops).written;
      wanted = wanted;
      keys = y.keys;
      order = y.order;
      tried = tried;
      all = all;
      turns = y.turns;
      are = so-far-calls plan 4 room x.within.stands.always.plan (with_calls core []) t y failed (round-safe since old c chip sent x) (round-quiet since old c chip sent x) are;
    }

  -- cut off in its pops or in its turns
  pub made-so-far : (t : SwitchState) (calls : List (Call Rid)) → IsSettlingSoFar plan 4 room (with_calls core []) (with_calls t calls) → (failed : List (Call Rid)) → AreTried 4 t failed → (mark : Mark) → IsMadeSoFar plan room (round (calls ++ failed) mark)
  made-so-far t calls (InPops y) _ NoCall mark = inl (append-nil calls ∙ y.effects)
  made-so-far t calls (InPops y) _ (DueCall call due) mark = absurd ((so-far-pops plan 4 room (with_calls core []) (with_calls t calls) y (round-quiet since old c chip sent x)).1 call due)
  made-so-far t calls (InTurns y) failed are mark = inr (subst (λ l. IsCutInTurns plan room (round (l ++ failed) mark)) (sym y.effects) (in-turns (with_calls t calls) y failed are mark))
