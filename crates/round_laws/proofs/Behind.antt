-- behind an apply a core is at rest since the mark of its beginning
use Rattle.std.proofs.Common.{◌≡◌, ◌<◌, ◌≤◌, ◌++◌, ◌∷◌, ◌∙◌, ℕ, List, [], length, map, None, Some, sym, ap, subst}
use Rattle.std.specs.Map.{keys_of}
use Rattle.std.proofs.lemmas.Option.{same_Some}
use Rattle.table_schema.specs.declared.key.Key.{Key}
use Rattle.sai_types.specs.Alike.{IsIn}
use Rattle.sai_types.specs.ChipState.{ChipState}
use Rattle.sai_types.specs.declared.plan.Mode.{Mode}
use Rattle.switch_model.specs.History.{History}
use Rattle.switch_model.specs.Marks.{Waiting}
use Rattle.switch_model.specs.Promises.{applied_at}
use Rattle.switch_model.specs.declared.mark.Mark.{Mark}
use Rattle.switch_model.specs.declared.mark.MarkEvent.TheVariants as event
use Rattle.machine_laws.specs.Logged.{ListsKey}
use Rattle.restart_laws.specs.Logged.{last_mark}
use Rattle.restart_laws.proofs.Logged.{HasBegun}
use Rattle.restart_laws.proofs.Marking.{last-more}
use Rattle.sync_tables.specs.Tables.{TablesState}
use Rattle.flight_board.specs.Applied.{row_at}
use Rattle.flight_board.specs.Board.{BoardState, flown_at}
use Rattle.warm_state.specs.declared.warm.Warm.TheVariants as warm
use Rattle.session_laws.specs.Core.{CoreState}
use Rattle.round_laws.specs.Between.{IsAtRestSince}
use Rattle.round_laws.specs.Ended.{CountsCalls, TellsRows, applied_by, waits_by}
use Rattle.round_laws.specs.Sessions.{InSession}
use Rattle.round_laws.proofs.Awaited.{listed-in, lists-in}
use Rattle.round_laws.proofs.Sessions.{its_plan, told_of}

-- ---- a core that had just begun its apply

module _ {workers : ℕ} (begun : CoreState) (chip : ChipState) (x : InSession workers begun chip) (applying : begun.warm ≡ warm.Applying) (earlier : List Mark) (mark : Mark) (marks : begun.log.marks ≡ earlier ++ mark ∷ []) where
  abbrev its : HasBegun begun.board.plan (its_plan begun chip x) 4 begun.sync.capacities x.session
  its = (told_of begun chip x).begun (x.stands.always.warm_is ∙ applying)

  pub begun-mark : its.mark ≡ mark
  begun-mark = same_Some its.mark mark (sym its.last ∙ ap (λ (h : History). last_mark None h.marks) x.stands.always.log ∙ ap (λ l. last_mark None l) marks ∙ last-more None earlier mark)

  module _ (mode : Mode) (waits : Waiting) (is : mark.event ≡ event.ApplyBegan mode waits) where
    same_waits : (m n : Mode) (a b : Waiting) → event.ApplyBegan m a ≡ event.ApplyBegan n b → a ≡ b
    same_waits m n a b e = cc

    -- the rows that are applied are those that its mark tells
    pub begun-applied : (k : Key) → row_at begun.board.applied k ≡ applied_at begun.board.plan begun.log.taken mark waits k
    begun-applied k =
        sym ((x.stands.applying applying).1.rows k)
        ∙ sym (its.rows k)
        ∙ ap (λ (h : History). applied_at begun.board.plan h.taken its.mark its.waits k) x.stands.always.log
        ∙ ap (λ m. applied_at begun.board.plan begun.log.taken m its.waits k) begun-mark
        ∙ ap (λ ws. applied_at begun.board.plan begun.log.taken mark ws k) (same_waits its.mode mode its.waits waits (sym its.event_is ∙ ap (λ (m : Mark). m.event) begun-mark ∙ is))

    -- ---- the core behind it

    module _ (counts : mark.taken ≡ length begun.log.taken) (popped : begun.tables.waiting ≡ []) (lists : map (λ w. w.0) waits ≡ keys_of begun.tables.ops) (c : CoreState) (later : ChipState) (y : InSession workers c later) (at : c.warm ≡ warm.Reconciled) (free : (v : ℕ) → v < 4 → flown_at c.board v ≡ None) (taken : c.log.taken ≡ begun.log.taken) (board : c.board ≡ begun.board) (tables : c.tables ≡ begun.tables) (counted : mark.effects ≤ length later.effects) where
      pub by_mark : (P : Mark → Type 0) → P mark → (m : Mark) → Some mark ≡ Some m → P m
      by_mark P h m e = subst P (same_Some mark m e) h

      pub applied : (k : Key) → row_at c.board.applied k ≡ applied_at c.board.plan c.log.taken mark waits k
      applied k =
          ap (λ (b : BoardState). row_at b.applied k) board
          ∙ begun-applied k
          ∙ ap (λ (b : BoardState). applied_at b.plan begun.log.taken mark waits k) (sym board)
          ∙ ap (λ ts. applied_at c.board.plan ts mark waits k) (sym taken)

      pub same_ops : keys_of c.tables.ops ≡ map (λ w. w.0) waits
      same_ops = ap (λ (t : TablesState). keys_of t.ops) tables ∙ sym lists

      pub none-some : Some mark ≡ None → ⊥
      none-some e = cc

      abbrev pub behind-rests : IsAtRestSince workers (Some mark) c later
      behind-rests = record {
        within = y;
        rest = record { free = free; popped = ap (λ (t : TablesState). t.waiting) tables ∙ popped; warm = at };
        tells = subst TellsRows (sym is) tt;
        first = λ e. absurd (none-some e);
        taken = by_mark (λ m. m.taken ≡ length c.log.taken) (counts ∙ ap length (sym taken));
        effects = by_mark (λ m. CountsCalls m.event m.effects (length later.effects)) (subst (λ e. CountsCalls e mark.effects (length later.effects)) (sym is) counted);
        applied = λ k. subst (λ e. row_at c.board.applied k ≡ applied_by c.board.plan c.log.taken mark e k) (sym is) (applied k);
        to_sync = λ k i. subst (λ e. ListsKey k (waits_by e)) (sym is) (lists-in waits k (subst (IsIn k) same_ops i));
        listed = λ k i. subst (IsIn k) (sym same_ops) (listed-in waits k (subst (λ e. ListsKey k (waits_by e)) is i));
      }
