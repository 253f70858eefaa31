-- core and chip go on since an opening
use Rattle.std.proofs.Common.{◌≡◌, ℕ, List, [], ◌∷◌, ◌++◌, length, refl, sym, ap, ◌∙◌, subst, arith}
use Rattle.std.proofs.lemmas.List.{append-nil, append_assoc, length-append}
use Rattle.table_schema.specs.declared.write.Sent.{Sent}
use Rattle.sai_types.specs.ChipState.{ChipState}
use Rattle.switch_model.specs.History.{History}
use Rattle.switch_model.specs.declared.mark.Mark.{Mark}
use Rattle.switch_model.specs.declared.mark.MarkEvent.TheVariants as event
use Rattle.restart_laws.specs.Logged.{LoggedService, session_after}
use Rattle.session_laws.specs.Core.{CoreState, IsFullFor, mark_at, with_taken}
use Rattle.session_laws.specs.Service.Events.{MakesNext, restarted}
use Rattle.session_laws.specs.Service.Standing.{IsServiceOf}
use Rattle.session_laws.proofs.ByFirst.{by_any}
use Rattle.session_laws.proofs.Service.ByFirst.{board-stays, core-away}
use Rattle.session_laws.proofs.Service.Joining.{both-more, none-more, one-more}
use Rattle.session_laws.proofs.Service.States.{initialized-reconciled}
use Rattle.orch_core.specs.Restarting.{IsInService}
use Rattle.swss_service.specs.CoreAndChip.{CoreAndChip, beside}
use Rattle.swss_service.specs.Faults.{FaultsRise, faults_then}
use Rattle.swss_service.specs.Going.{HasGoneOn}

-- the counts of faults over marks and then more
pub rise-both : (n m k : ℕ) (xs ys : List Mark) → FaultsRise n xs m → FaultsRise m ys k → FaultsRise n (xs ++ ys) k
rise-both n m k [] ys h more = subst (λ z. FaultsRise z ys k) h more
rise-both n m k (x ∷ xs) ys h more = (h.0, rise-both (faults_then n x.event) m k xs ys h.1 more)

-- a log by its three lists, to which more was added twice
log-both : (h g f : History) (ts us : List Sent) (ms ns : List Mark)
    → g ≡ record { taken = f.taken ++ ts; marks = f.marks ++ ms; ends = f.ends } → h ≡ record { taken = g.taken ++ us; marks = g.marks ++ ns; ends = g.ends }
    → h ≡ record { taken = f.taken ++ (ts ++ us); marks = f.marks ++ (ms ++ ns); ends = f.ends }
log-both h g f ts us ms ns first next =
    next
    ∙ ap (λ (z : History). record { taken = z.taken ++ us; marks = z.marks ++ ns; ends = z.ends }) first
    ∙ ap (λ l. record { taken = l; marks = (f.marks ++ ms) ++ ns; ends = f.ends }) (append_assoc f.taken ts us)
    ∙ ap (λ l. record { taken = f.taken ++ (ts ++ us); marks = l; ends = f.ends }) (append_assoc f.marks ms ns)

log-none : (h : History) → h ≡ record { taken = h.taken ++ []; marks = h.marks ++ []; ends = h.ends }
log-none h =
    ap (λ l. record { taken = l; marks = h.marks; ends = h.ends }) (sym (append-nil h.taken))
    ∙ ap (λ l. record { taken = h.taken ++ []; marks = l; ends = h.ends }) (sym (append-nil h.marks))

module _ (last : ℕ) where
  -- whoever has gone on stands for a session
  pub gone-in : (o : CoreAndChip) (c : CoreState) (chip : ChipState) (ts : List Sent) (ms : List Mark) → HasGoneOn last o c chip ts ms → IsInService c chip
  gone-in o c chip ts ms x = let more = x.steps x.began.0 x.began.1 in (session_after x.began.0 more.steps, more.stands)

  -- nothing was done
  pub gone-none : (c : CoreState) (chip : ChipState) → IsInService c chip → HasGoneOn last (beside c chip) c chip [] []
  gone-none c chip x = record {
    began = x;
    steps = λ s is. none-more last c chip s is;
    log = log-none c.log;
    faults = refl;
    places = λ h. h;
    fails = refl;
  }

  -- one after the other
  pub gone-both : (o : CoreAndChip) (c d : CoreState) (chip dchip : ChipState) (ts us : List Sent) (ms ns : List Mark) → HasGoneOn last o c chip ts ms → HasGoneOn last (beside c chip) d dchip us ns → HasGoneOn last o d dchip (ts ++ us) (ms ++ ns)
  gone-both o c d chip dchip ts us ms ns x y = record {
    began = x.began;
    steps = λ s is. let first = x.steps s is in both-more last o.core c d chip dchip s first (y.steps (session_after s first.steps) first.stands);
    log = log-both d.log c.log o.core.log ts us ms ns x.log y.log;
    faults = rise-both o.chip.faults chip.faults dchip.faults ms ns x.faults y.faults;
    places = λ h. y.places (x.places h);
    fails = y.fails ∙ x.fails;
  }

  -- ---- a write, and a restart

  pub gone-taken : (c : CoreState) (chip : ChipState) (sent : Sent) → IsInService c chip → (IsFullFor c (length chip.effects) 1 → ⊥) → ((s : LoggedService) → IsServiceOf c chip s → MakesNext c s (with_taken c sent) chip) → HasGoneOn last (beside c chip) (with_taken c sent) chip (sent ∷ []) []
  gone-taken c chip sent x room next = record {
    began = x;
    steps = λ s is. let y = next s is in one-more last c (with_taken c sent) chip s y (by_any last s y.later (board-stays c (with_taken c sent) chip chip s y.later is y.stands refl refl));
    log = ap (λ l. record { taken = c.log.taken ++ sent ∷ []; marks = l; ends = c.log.ends }) (sym (append-nil c.log.marks));
    faults = refl;
    places = λ h. let longer = length-append c.log.taken (sent ∷ []) in omega (arith, room, h, longer);
    fails = refl;
  }

  pub gone-restarted : (c : CoreState) (chip : ChipState) (effects : ℕ) → effects ≡ length chip.effects → IsInService c chip → (IsFullFor c effects 1 → ⊥) → ((s : LoggedService) → IsServiceOf c chip s → MakesNext c s (restarted c effects) chip) → HasGoneOn last (beside c chip) (restarted c effects) chip [] (mark_at c effects event.Restarted ∷ [])
  gone-restarted c chip effects same x room next = record {
    began = x;
    steps = λ s is. let y = next s is in one-more last c (restarted c effects) chip s y (by_any last s y.later (core-away c (restarted c effects) chip chip s y.later is y.stands initialized-reconciled));
    log = ap (λ l. record { taken = l; marks = c.log.marks ++ mark_at c effects event.Restarted ∷ []; ends = c.log.ends }) (sym (append-nil c.log.taken));
    faults = (tt, refl);
    places = λ h. let longer = length-append c.log.marks (mark_at c effects event.Restarted ∷ []) in omega (arith, room, h, same, longer);
    fails = refl;
  }
