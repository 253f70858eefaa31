-- a settling ends at its mark
use Rattle.std.proofs.Common.{◌≡◌, ◌+◌, ◌<◌, ◌∷◌, ◌++◌, ◌∙◌, ℕ, List, [], length, None, Some, refl, sym, ap, subst}
use Rattle.std.specs.Map.{keys_of}
use Rattle.table_schema.specs.declared.key.Key.{Key}
use Rattle.sai_types.specs.declared.body.Call.{Call}
use Rattle.sai_types.specs.declared.ids.Rid.{Rid}
use Rattle.sai_types.specs.Alike.{IsIn}
use Rattle.sai_types.specs.ChipState.{ChipState}
use Rattle.switch_model.specs.History.{History, with_end, with_mark}
use Rattle.switch_model.specs.Marks.{AreInOrder, Waiting}
use Rattle.switch_model.specs.declared.mark.MarkEvent.{MarkEvent}
use Rattle.switch_model.specs.declared.mark.MarkEvent.TheVariants as event
use Rattle.consumer_table.specs.Ops.{AreOpsInOrder}
use Rattle.switch_machine.specs.Events.{IsQuiet, SwitchState, after_answers}
use Rattle.switch_machine.specs.Flights.{MachineFlight, Machine}
use Rattle.switch_machine.specs.Written.{IsPopped}
use Rattle.machine_laws.specs.Logged.{AreListed, ArePops, InPops, InTurns, IsSettlingSoFar, IsWholeSettling, ListsKey, LogsMark, after_pops}
use Rattle.machine_laws.specs.Settling.{AreMachineTurns, AreMachineTurnsSoFar}
use Rattle.machine_laws.specs.ToSync.{AreInKeyOrder}
use Rattle.restart_laws.specs.Logged.{LoggedService, mark_now, switch_of}
use Rattle.flight_board.specs.Board.{flown_at}
use Rattle.warm_state.specs.declared.warm.Warm.TheVariants as warm
use Rattle.session_laws.specs.Core.{CoreState, mark_at}
use Rattle.session_laws.specs.Events.{HaveReasons, MakesOne}
use Rattle.session_laws.proofs.Marking.{marks_told, popped}
use Rattle.session_laws.specs.Leading.{LeadsTo, PopsTo, RunsTo, SettlesTo, switch_answered, with_calls}
use Rattle.session_laws.specs.Turning.{IsAtRest, TurnsTo}
use Rattle.session_laws.specs.Workers.{StaysByFirst}
use Rattle.session_laws.proofs.ByFirst.{by_any, same_machine_stays}
use Rattle.session_laws.proofs.Settling.Leading.{plan_led_back, leads_more, leads_one}
use Rattle.session_laws.proofs.Settling.Popping.{machine_stays}
use Rattle.session_laws.proofs.Settling.Turning.{free_quiet, quiet}
use Rattle.session_laws.proofs.Settling.Walking.{in_key_order}

module _ (c c1 c2 : CoreState) (chip1 chip2 : ChipState) (s : LoggedService) (x : RunsTo c s c1 chip1) (y : PopsTo c1 x.later c2 chip2) where
  -- ---- what workers left, and pops

  popped_from : LeadsTo c s y.later c2 chip2
  popped_from = leads_more c c1 c2 chip1 chip2 s x.later y.later x.leads y.leads

  abbrev answered : SwitchState
  answered = after_answers s.service.core x.answers

  after : y.later.service.core ≡ after_pops answered y.pops
  after = y.core ∙ ap (λ t. after_pops t y.pops) x.core

  pops_answered : ArePops answered y.pops
  pops_answered = subst (λ t. ArePops t y.pops) x.core y.are

  -- pops leave the machine as the answers left it, where no worker has anything under way
  pub free_answered : c1.warm ≡ warm.Reconciled → ((v : ℕ) → v < 4 → flown_at c1.board v ≡ None) → IsQuiet answered
  free_answered at free = subst (λ (t : SwitchState). IsQuiet t) x.core (free_quiet c1 chip1 x.later x.leads.stands at free)

  pub quiet_answered : IsAtRest c2 → IsQuiet answered
  quiet_answered rest =
      let same = ap (λ (t : SwitchState). t.machine) y.core ∙ machine_stays x.later.service.core y.pops y.are ∙ ap (λ (t : SwitchState). t.machine) x.core in
      subst (λ (m : Machine). (w : ℕ) (f : MachineFlight) → m.board.flights w ≡ Some f → ⊥) same (quiet c2 chip2 y.later y.leads.stands rest)

  -- cut off in the pops
  pub pops_cut : IsSettlingSoFar c.board.plan 4 c.sync.capacities (with_calls answered []) (with_calls y.later.service.core [])
  pops_cut = InPops (record { pops = y.pops; are_pops = pops_answered; switch = after; effects = refl; log = refl })

  module _ (rest : IsAtRest c2) where
    pub all_popped : IsPopped (after_pops answered y.pops).written
    all_popped = subst (λ (t : SwitchState). IsPopped t.written) after (popped c2 chip2 y.later y.leads.stands rest.warm rest.popped)

    pub all_keys : (k : Key) → IsIn k (after_pops answered y.pops).to_sync → IsIn k (keys_of c2.tables.ops)
    all_keys k i = subst (IsIn k) y.leads.stands.to_sync (subst (λ (t : SwitchState). IsIn k t.to_sync) (sym after) i)

    pub only_keys : (k : Key) → IsIn k (keys_of c2.tables.ops) → IsIn k (after_pops answered y.pops).to_sync
    only_keys k i = subst (λ (t : SwitchState). IsIn k t.to_sync) after (subst (IsIn k) (sym y.leads.stands.to_sync) i)

    -- cut off in the turns
    pub turns_cut : AreInKeyOrder (keys_of c2.tables.ops) → (n : ℕ) (u : SwitchState) (calls : List (Call Rid)) → AreMachineTurnsSoFar c2.board.plan 4 c2.sync.capacities n y.later.service.core (keys_of c2.tables.ops) u calls → IsSettlingSoFar c.board.plan 4 c.sync.capacities (with_calls answered []) (with_calls u calls)
    turns_cut order n u calls turns = InTurns (record {
      pops = y.pops;
      are_pops = pops_answered;
      popped = all_popped;
      keys = keys_of c2.tables.ops;
      order = order;
      all = all_keys;
      only = only_keys;
      turns = n;
      calls = calls;
      turns_are = subst (λ t. AreMachineTurnsSoFar c.board.plan 4 c.sync.capacities n t (keys_of c2.tables.ops) u calls) after
          (plan_led_back (λ p l. AreMachineTurnsSoFar p 4 l n y.later.service.core (keys_of c2.tables.ops) u calls) popped_from turns);
      effects = refl;
      log = refl;
    })

module _ (n : ℕ) (c c1 c2 c3 : CoreState) (chip1 chip2 chip3 : ChipState) (s : LoggedService) (x : RunsTo c s c1 chip1) (y : PopsTo c1 x.later c2 chip2) (z : TurnsTo n c2 y.later c3 chip3) where
  -- ---- up to the mark

  abbrev led : LeadsTo c s y.later c2 chip2
  led = popped_from c c1 c2 chip1 chip2 s x y

  pub turned_from : LeadsTo c s z.later c3 chip3
  turned_from = leads_more c c2 c3 chip2 chip3 s y.later z.later led z.leads

  log_same : c3.log ≡ s.log
  log_same = sym z.leads.stands.log ∙ z.log ∙ y.log ∙ x.log

  effects_more : z.later.effects ≡ (switch_answered s x.answers).effects ++ z.calls
  effects_more = z.effects ∙ ap (λ l. l ++ z.calls) (y.effects ∙ x.effects)

  -- each listed key has its applied row
  are_listed : (waits : Waiting) → HaveReasons c3 z.later.service.core waits → AreListed c3.board.plan 4 c3.sync.capacities z.later.service.core waits
  are_listed [] h = tt
  are_listed (w ∷ ws) h = (h.0, h.1 ∙ sym ((z.leads.stands.working z.at_rest.warm).rows w.0), are_listed ws h.2)

  -- ---- the mark

  module _ (waits : Waiting) (rest : IsAtRest c2) (order : AreOpsInOrder c2.tables.ops) (reasons : HaveReasons c3 z.later.service.core waits) (all : (k : Key) → IsIn k (keys_of c3.tables.ops) → ListsKey k waits) (only : (k : Key) → ListsKey k waits → IsIn k (keys_of c3.tables.ops)) (rise : AreInOrder waits) where
    abbrev settled : MarkEvent
    settled = event.Settled waits n

    abbrev marked : CoreState
    marked = record c3 { log = with_end (with_mark c3.log (mark_at c3 (length chip3.effects) settled)); listed = c3.listed + length waits }

    pub mark : (m : MakesOne c3 z.later marked chip3) × LogsMark c3.board.plan 4 c3.sync.capacities (switch_of z.later) (switch_of m.later)
    mark = marks_told c3 chip3 z.later z.leads.stands z.at_rest.warm waits n z.at_rest.popped z.at_rest.free reasons all rise

    abbrev later : LoggedService
    later = mark.0.later

    core_same : z.later.service.core ≡ later.service.core
    core_same = sym mark.1.switch

    log_now : later.log ≡ with_end (with_mark s.log (mark_now s.log later.effects settled))
    log_now =
        mark.0.stands.log
        ∙ ap (λ (h : History). with_end (with_mark h (mark_now h chip3.effects settled))) log_same
        ∙ ap (λ e. with_end (with_mark s.log (mark_now s.log e settled))) (sym mark.0.stands.effects)

    pub mark_stays : StaysByFirst 0 z.later later
    mark_stays = by_any 0 z.later later (same_machine_stays z.later later (mark.0.stands.warm_is ∙ sym z.leads.stands.warm_is) (ap (λ (t : SwitchState). t.machine) mark.1.switch))

    pub whole : IsWholeSettling c.board.plan 4 c.sync.capacities (switch_answered s x.answers) (switch_of later)
    whole = record {
      pops = y.pops;
      are_pops = pops_answered c c1 c2 chip1 chip2 s x y;
      popped = all_popped c c1 c2 chip1 chip2 s x y rest;
      keys = keys_of c2.tables.ops;
      order = in_key_order c2.tables.ops order.keys;
      all = all_keys c c1 c2 chip1 chip2 s x y rest;
      only = only_keys c c1 c2 chip1 chip2 s x y rest;
      turns = n;
      left = keys_of c3.tables.ops;
      calls = z.calls;
      turns_are =
          subst (λ t. AreMachineTurns c.board.plan 4 c.sync.capacities n t (keys_of c2.tables.ops) later.service.core (keys_of c3.tables.ops) z.calls) (after c c1 c2 chip1 chip2 s x y)
          (subst (λ t. AreMachineTurns c.board.plan 4 c.sync.capacities n y.later.service.core (keys_of c2.tables.ops) t (keys_of c3.tables.ops) z.calls) core_same
          (plan_led_back (λ p l. AreMachineTurns p 4 l n y.later.service.core (keys_of c2.tables.ops) z.later.service.core (keys_of c3.tables.ops) z.calls) led z.turns));
      waits = waits;
      listed = subst (λ t. AreListed c.board.plan 4 c.sync.capacities t waits) core_same (plan_led_back (λ p l. AreListed p 4 l z.later.service.core waits) turned_from (are_listed waits reasons));
      lists = all;
      lists_only = only;
      in_order = rise;
      effects = mark.1.effects ∙ effects_more;
      log = log_now;
    }

    abbrev pub settling_ends : SettlesTo c s marked chip3
    settling_ends = record {
      later = later;
      leads = leads_more c c3 marked chip3 chip3 s z.later later turned_from (leads_one c3 marked chip3 z.later mark.0 mark_stays);
      answers = x.answers;
      are = x.are;
      quiet = quiet_answered c c1 c2 chip1 chip2 s x y rest;
      settling = whole;
      free = z.at_rest.free;
      popped = z.at_rest.popped;
      warm = z.at_rest.warm;
    }
