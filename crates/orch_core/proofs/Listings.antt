-- what a mark lists, from the keys to sync
use Rattle.std.proofs.Common.{◌∷◌, ◌∙◌, inl, inr, List, [], refl, sym, ap, subst}
use Rattle.std.specs.List.Sorted.{IsStrictlySortedBy}
use Rattle.std.specs.Map.{keys_of}
use Rattle.std.proofs.lemmas.Option.{same_Some}
use Rattle.table_schema.specs.Key.{key_cmp}
use Rattle.table_schema.specs.declared.key.Key.{Key}
use Rattle.sai_types.specs.Alike.{IsIn}
use Rattle.producer_table.proofs.Found.{sorted_from_rising}
use Rattle.consumer_table.specs.Ops.{AreOpsInOrder, Ops}
use Rattle.switch_model.specs.Marks.{AreInOrder, Waiting}
use Rattle.switch_machine.specs.Events.{SwitchState}
use Rattle.switch_machine.specs.Reasons.{IsReason}
use Rattle.machine_laws.specs.Logged.{ListsKey}
use Rattle.flight_board.specs.Applied.{row_at}
use Rattle.mark_lists.proofs.Listings.{listed_keys}
use Rattle.session_laws.specs.Core.{CoreState}
use Rattle.session_laws.specs.Events.{HaveReasons}
use Rattle.session_laws.specs.Turning.{HaveListed}
use Rattle.orch_core.specs.Marked.{AreListedFrom}

module _ (c : CoreState) where
  pub listed_all : (ks : List Key) (ws : Waiting) → AreListedFrom c ks ws → (k : Key) → IsIn k ks → ListsKey k ws
  listed_all (p ∷ ks) (w ∷ ws) h k (inl is) = inl (h.0.0 ∙ sym is)
  listed_all (p ∷ ks) (w ∷ ws) h k (inr i) = inr (listed_all ks ws h.1 k i)
  listed_all (p ∷ ks) [] h k i = absurd h
  listed_all [] ws h k i = elim i [ ]

  pub listed_only : (ks : List Key) (ws : Waiting) → AreListedFrom c ks ws → (k : Key) → ListsKey k ws → IsIn k ks
  listed_only (p ∷ ks) (w ∷ ws) h k (inl is) = inl (sym is ∙ h.0.0)
  listed_only (p ∷ ks) (w ∷ ws) h k (inr i) = inr (listed_only ks ws h.1 k i)
  listed_only (p ∷ ks) [] h k i = absurd h
  listed_only [] [] h k i = elim i [ ]
  listed_only [] (w ∷ ws) h k i = absurd h

  pub listed_reasons : (s : SwitchState) (ks : List Key) (ws : Waiting) → HaveListed c s c.waiting ks → AreListedFrom c ks ws → HaveReasons c s ws
  listed_reasons s [] [] lists h = tt
  listed_reasons s (k ∷ ks) (w ∷ ws) lists h =
      let one = lists k (inl refl) in (
        subst (λ q. IsReason c.board.plan 4 c.sync.capacities s q w.1) (sym h.0.0) (subst (IsReason c.board.plan 4 c.sync.capacities s k) (same_Some one.0 w.1 (sym one.1 ∙ h.0.1)) one.2),
        h.0.2 ∙ ap (row_at c.board.applied) (sym h.0.0),
        listed_reasons s ks ws (λ q i. lists q (inr i)) h.1,
      )
  listed_reasons s [] (w ∷ ws) lists h = absurd h
  listed_reasons s (k ∷ ks) [] lists h = absurd h

  pub listed_order : (ops : Ops) (ws : Waiting) → AreOpsInOrder ops → AreListedFrom c (keys_of ops) ws → AreInOrder ws
  listed_order ops ws order h = subst (IsStrictlySortedBy key_cmp) (sym (listed_keys c.waiting (row_at c.board.applied) (keys_of ops) ws h)) (sorted_from_rising key_cmp ops order.keys)
