use Rattle.std.proofs.Common.{rules, ◌≡◌, ◌∙◌, ◌∷◌, ◌++◌, List, [], Ok, ap, reverse, subst, sym}
use Rattle.std.proofs.lemmas.List.{reverse-append, reverse-reverse}
use Rattle.std.specs.Map.{keys_of}
use Rattle.table_schema.specs.declared.key.Key.{Key}
use Rattle.sai_types.specs.ChipState.{ChipState}
use Rattle.restart_laws.specs.Logged.{LoggedService}
use Rattle.session_laws.specs.Core.{CoreState}
use Rattle.session_laws.specs.Turning.{IsTurning}
use Rattle.orch_core.specs.Outcomes.{KeepsChip}
use Rattle.orch_core.specs.Settled.{Brings}
use Rattle.orch_core.proofs.Turns.{IsTurnAt, turn_err, turn_first, turn_key, turn_next, turn_short, turn_stops, turn_unbegun}
use Rattle.orch_core.proofs.state.Core.turn.Goals as goal

-- the last of a list is the first of it turned round
last_first : (ks ms : List Key) (k : Key) → ks ≡ ms ++ k ∷ [] → reverse ks ≡ k ∷ reverse ms
last_first ks ms k is = ap reverse is ∙ reverse-append ms (k ∷ [])

-- the turn so far, with the key that is next
next_is : (c : CoreState) (chip : ChipState) (d : CoreState) (dchip : ChipState) (k : Key) (more rest : List Key) → rest ≡ k ∷ more → (s : LoggedService) → (left : List Key) × IsTurning (keys_of c.tables.ops) c s left rest d dchip × KeepsChip c chip d dchip → (left : List Key) × IsTurning (keys_of c.tables.ops) c s left (k ∷ more) d dchip × KeepsChip c chip d dchip
next_is c chip d dchip k more rest is s x = subst (λ l. (left : List Key) × IsTurning (keys_of c.tables.ops) c s left l d dchip × KeepsChip c chip d dchip) is x

pub loop-key-init : goal.loop-key-init
loop-key-init g c = turn_first c.args.self.now (g.C.Chip.state c.args.chip.now) c.requires.rest (reverse c.reverse.new.self.items) (ap reverse c.reverse.ensures.items ∙ reverse-reverse c.in_ok-keys.keys.items ∙ c.in_ok-keys.ensures.keys)

pub returns-in_err-keys : goal.returns-in_err-keys
returns-in_err-keys g c = λ s is. turn_unbegun s c.args.self.now (g.C.Chip.state c.args.chip.now) is c.requires.rest c.from_residual.result c.from_residual.ensures.0

pub bring-requires-clause-key : goal.bring-requires-clause-key
bring-requires-clause-key g c =
    let split : c.loop-key.keys.items ≡ c.pop.new.self.items ++ c.in-Some.key ∷ [] = search rules in
    let left = last_first c.loop-key.keys.items c.pop.new.self.items c.in-Some.key split in
    let s = c.requires.session in
    let y = next_is c.args.self.now (g.C.Chip.state c.args.chip.now) c.loop-key.self (g.C.Chip.state c.loop-key.chip) c.in-Some.key (reverse c.pop.new.self.items) (reverse c.loop-key.keys.items) left s.0 (c.loop-key.invariant s.0 s.1) in
    turn_key (keys_of c.args.self.now.tables.ops) y.0 (reverse c.pop.new.self.items) c.in-Some.key c.args.self.now c.loop-key.self (g.C.Chip.state c.loop-key.chip) s.0 y.1

pub returns-in_err-stopped : goal.returns-in_err-stopped
returns-in_err-stopped g c = λ s is.
    let split : c.loop-key.keys.items ≡ c.pop.new.self.items ++ c.in-Some.key ∷ [] = search rules in
    let left = last_first c.loop-key.keys.items c.pop.new.self.items c.in-Some.key split in
    let y = next_is c.args.self.now (g.C.Chip.state c.args.chip.now) c.loop-key.self (g.C.Chip.state c.loop-key.chip) c.in-Some.key (reverse c.pop.new.self.items) (reverse c.loop-key.keys.items) left s (c.loop-key.invariant s is) in
    let b = subst (λ r. Brings y.1.later c.in-Some.key c.loop-key.self (g.C.Chip.state c.loop-key.chip) r c.bring.new.self (g.C.Chip.state c.bring.new.chip)) (c.in_err-stopped.was) (c.bring.ensures y.1.later y.1.leads.stands) in
    turn_err s c.args.self.now (g.C.Chip.state c.args.chip.now) c.bring.new.self (g.C.Chip.state c.bring.new.chip) c.from_residual-in_err-stopped.result c.from_residual-in_err-stopped.ensures.0 (turn_short s c.args.self.now (g.C.Chip.state c.args.chip.now) is y.0 (reverse c.pop.new.self.items) c.in-Some.key c.loop-key.self (g.C.Chip.state c.loop-key.chip) y.1 y.2 c.bring.new.self (g.C.Chip.state c.bring.new.chip) b)

pub loop-key-preserved : goal.loop-key-preserved
loop-key-preserved g c =
    let split : c.loop-key.keys.items ≡ c.pop.new.self.items ++ c.in-Some.key ∷ [] = search rules in
    subst (λ l. IsTurnAt c.args.self.now (g.C.Chip.state c.args.chip.now) (reverse l) c.bring.new.self (g.C.Chip.state c.bring.new.chip)) (sym {A = List Key} c.give_back.ensures)
    (turn_next c.args.self.now (g.C.Chip.state c.args.chip.now) c.in-Some.key (reverse c.pop.new.self.items) (reverse c.loop-key.keys.items) c.loop-key.self (g.C.Chip.state c.loop-key.chip) (last_first c.loop-key.keys.items c.pop.new.self.items c.in-Some.key split) c.count-count.ensures.order c.loop-key.invariant c.bring.new.self (g.C.Chip.state c.bring.new.chip)
    (λ s is. subst (λ r. Brings s c.in-Some.key c.loop-key.self (g.C.Chip.state c.loop-key.chip) r c.bring.new.self (g.C.Chip.state c.bring.new.chip)) (c.in_ok-stopped.was ∙ ap Ok c.in-Whole.is) (c.bring.ensures s is)))

pub returns-in_default-2 : goal.returns-in_default-2
returns-in_default-2 g c = λ s is.
    let split : c.loop-key.keys.items ≡ c.pop.new.self.items ++ c.in-Some.key ∷ [] = search rules in
    let left = last_first c.loop-key.keys.items c.pop.new.self.items c.in-Some.key split in
    let y = next_is c.args.self.now (g.C.Chip.state c.args.chip.now) c.loop-key.self (g.C.Chip.state c.loop-key.chip) c.in-Some.key (reverse c.pop.new.self.items) (reverse c.loop-key.keys.items) left s (c.loop-key.invariant s is) in
    turn_stops s c.args.self.now (g.C.Chip.state c.args.chip.now) is y.0 (reverse c.pop.new.self.items) c.in-Some.key c.loop-key.self (g.C.Chip.state c.loop-key.chip) y.1 y.2 c.in_ok-stopped.stopped c.in_default-2.not-Whole c.bring.new.self (g.C.Chip.state c.bring.new.chip) (subst (λ r. Brings y.1.later c.in-Some.key c.loop-key.self (g.C.Chip.state c.loop-key.chip) r c.bring.new.self (g.C.Chip.state c.bring.new.chip)) (c.in_ok-stopped.was) (c.bring.ensures y.1.later y.1.leads.stands))
