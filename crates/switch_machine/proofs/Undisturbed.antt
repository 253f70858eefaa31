-- no change that is due disturbs what stands for an applied row of a key without an operation
use Rattle.std.proofs.Common.{◌≡◌, ◌⊎◌, inl, inr, ℕ, List, Some, sym, subst}
use Rattle.table_schema.specs.Plan.{IsPlan, Ports}
use Rattle.table_schema.specs.declared.key.Key.{Key}
use Rattle.sai_types.specs.declared.ids.Rid.{Rid}
use Rattle.sai_types.specs.declared.body.Call.{Call}
use Rattle.sai_types.specs.declared.thing.Thing.{Thing}
use Rattle.sai_types.specs.Alike.{IsIn}
use Rattle.sai_types.specs.Names.{ThingName, name_of}
use Rattle.switch_model.specs.Placed.{Placed as Row}
use Rattle.switch_model.specs.Things.{things_of}
use Rattle.row_layout.specs.Operations.{Change, Make, Set, Take, uses_of}
use Rattle.row_layout.specs.Rows.{Owner, OfRow, own_things}
use Rattle.row_layout.specs.Shared.{IsOf, uses}
use Rattle.row_layout.proofs.Split.{things-split}
use Rattle.switch_machine.specs.Changes.{Disturbs}
use Rattle.switch_machine.specs.Events.{IsDueCall, IsSafe, SwitchState}
use Rattle.switch_machine.specs.Flights.{Can, Goes, IsOwnedBy, IsResting}
use Rattle.switch_machine.specs.Tables.{TableLaws}
use Rattle.switch_machine.proofs.Kept.{it_can}
use Rattle.switch_machine.proofs.Running.{one_owner, row_keys, shared_row}
use Rattle.switch_machine.proofs.Tabled.{tabled}

module _ (plan : Ports) (is : IsPlan plan) (workers : ℕ) (capacities : List ℕ) (s : SwitchState) (kept : IsSafe plan workers capacities s) (call : Call Rid) (x : IsDueCall workers call s) (q : Key) (r : Row) (rests : IsResting s.machine.board q) (applied : s.machine.board.applied q ≡ Some r) where
  abbrev T : TableLaws plan
  T = tabled plan is

  -- what stands for the row belongs to its key, or to what it shares
  abbrev IsHis : ThingName → Type 0
  IsHis n = IsOwnedBy plan n (OfRow q) ⊎ ((o : Owner) × IsOwnedBy plan n o × IsIn o (uses plan q r))

  his : (u : Thing) → IsIn u (things_of plan q r) → IsHis (name_of u)
  his u h = by ((things-split plan q r).into u h)
    where
      by : IsOf (own_things plan q r) (uses plan q r) u → IsHis (name_of u)
      by (inl own) = inl (T.own q r u (kept.sound.board.fit q r (inl applied)) own)
      by (inr (o, used, shared)) = inr (o, T.shared o u shared, used)

  other_key : q ≡ x.flight.key → ⊥
  other_key e = rests x.worker x.flight x.flying (sym e)

  not_own : (n : ThingName) → IsHis n → IsOwnedBy plan n (OfRow x.flight.key) → ⊥
  not_own n (inl mine) own = other_key (row_keys q x.flight.key (one_owner plan n (OfRow q) (OfRow x.flight.key) mine own))
  not_own n (inr (o, of, used)) own = shared_row o x.flight.key (T.are_shared q r o used) (one_owner plan n o (OfRow x.flight.key) of own)

  not_retired : (n : ThingName) (p : Owner) → IsHis n → IsOwnedBy plan n p → x.flight.retires ≡ Some p → ⊥
  not_retired n p (inl mine) of retires =
      let was = kept.sound.board.left x.worker x.flight p x.flying retires in
      shared_row p q (T.are_shared x.flight.key was.row p was.used) (one_owner plan n p (OfRow q) of mine)
  not_retired n p (inr (o, his, used)) of retires =
      let same = one_owner plan n o p his of in
      kept.sound.board.unused x.worker x.flight q p x.flying retires (inr (rests, subst (λ z. IsIn p (uses_of plan q z)) (sym applied) (subst (λ z. IsIn z (uses plan q r)) same used)))

  pub undisturbed : (u : Thing) → IsIn u (things_of plan q r) → Disturbs x.change (name_of u) → ⊥
  undisturbed u h disturbs = by x.change (it_can plan is workers capacities s kept call x) disturbs
    where
      goes : (n : ThingName) → name_of u ≡ n → Goes plan x.flight n → ⊥
      goes n e (inl own) = not_own n (subst IsHis e (his u h)) own.0
      goes n e (inr (p, of, retires)) = not_retired n p (subst IsHis e (his u h)) of retires

      by : (c : Change) → Can plan x.flight (λ t. (i : Rid) × IsIn (i, t) s.machine.stands) c → Disturbs c (name_of u) → ⊥
      by (Make t) can none = none
      by (Set t) can same = not_own (name_of u) (his u h) (subst (λ n. IsOwnedBy plan n (OfRow x.flight.key)) same can.own)
      by (Take n) can same = goes n (sym same) can.goes
