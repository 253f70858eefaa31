-- the applied rows after an event of a worker
use Rattle.std.proofs.Common.{◌≡◌, ◌∷◌, ◌∙◌, inl, inr, ℕ, List, [], Option, None, Some, refl, sym, ap, subst}
use Rattle.std.proofs.lemmas.Option.{same_Some}
use Rattle.table_schema.specs.Plan.{Ports}
use Rattle.table_schema.specs.declared.key.Key.{Key}
use Rattle.table_schema.specs.declared.row.Row.{Row}
use Rattle.sai_types.specs.declared.ids.Vid.{Vid}
use Rattle.row_layout.specs.Operations.{Change}
use Rattle.row_layout.specs.Rows.{Owner}
use Rattle.switch_machine.specs.Events.{Due, Ended, Follows, Left, Retires}
use Rattle.switch_machine.specs.Flights.{MachineFlight, Machine}
use Rattle.switch_machine.specs.Steps.{left, parted, with_row}
use Rattle.switch_machine.proofs.Splits.{IsSplit, key_split, put_at, row_at as row_here, row_off}
use Rattle.ref_counts.specs.Registry.{Names}
use Rattle.orch_flight.specs.Grouping.{GroupOperation}
use Rattle.orch_flight.specs.Operation.{Operation}
use Rattle.orch_flight.specs.Taking.{names_after, operation_by}
use Rattle.registry_laws.specs.Flown.{Flown}
use Rattle.registry_laws.specs.Making.{TookFor}
use Rattle.registry_laws.proofs.Listing.{not_some}

-- while the worker has an operation they stay
pub rows_kept : (plan : Ports) (w : ℕ) (m t : Machine) (g : MachineFlight) → Follows plan w m t → t.board.flights w ≡ Some g → (q : Key) → t.board.applied q ≡ m.board.applied q
rows_kept plan w m t g (Due d ds due) there q = refl
rows_kept plan w m t g (Ended f ends) there q = not_some g (sym (put_at w w None m.board.flights refl) ∙ there)
rows_kept plan w m t g (Left f o leaves) there q = not_some g (sym (put_at w w None (left m w f f.retires []).board.flights refl) ∙ there)
rows_kept plan w m t g (Retires f o last) there q = refl

-- where it has none any more its key has the new row
pub rows_ended : (plan : Ports) (w : ℕ) (m t : Machine) (g : MachineFlight) → Follows plan w m t → m.board.flights w ≡ Some g → t.board.flights w ≡ None → (q : Key) → t.board.applied q ≡ with_row g.key g.new m.board.applied q
rows_ended plan w m t g (Due d ds due) flying none q = not_some g (sym none ∙ flying)
rows_ended plan w m t g (Ended f ends) flying none q = ap (λ (z : MachineFlight). with_row z.key z.new m.board.applied q) (same_Some f g (sym ends.flying ∙ flying))
rows_ended plan w m t g (Left f o leaves) flying none q = ap (λ (z : MachineFlight). with_row z.key z.new m.board.applied q) (same_Some f g (sym leaves.leaving.flying ∙ flying))
rows_ended plan w m t g (Retires f o last) flying none q = not_some (parted f (Some o)) (sym none ∙ put_at w w (Some (parted f (Some o))) m.board.flights refl)

-- the rows of which one is the key's new one
pub rows_by : (k : Key) (new : Option Row) (old now : Key → Option Row) → now k ≡ new → ((q : Key) → (q ≡ k → ⊥) → now q ≡ old q) → (q : Key) → with_row k new old q ≡ now q
rows_by k new old now own others q = by (key_split k q)
  where
    by : IsSplit k q → with_row k new old q ≡ now q
    by (inl same) = row_here k q new old same ∙ sym own ∙ ap now same
    by (inr apart) = row_off k q new old apart ∙ sym (others q (λ h. apart (sym h)))

-- the operation has its key and its new row still, once an answer was taken
abbrev IsSameKey : Operation → Operation → Type 0
IsSameKey f g = (g.key ≡ f.key) × (g.new ≡ f.new)

by_kept : (names : Names) (f : Operation) (d : Change) (rest : List Change) (leaves : Option Owner) → IsSameKey f (operation_by names f d rest leaves)
by_kept names f d [] (Some o) = (refl, refl)
by_kept names f d [] None = (refl, refl)
by_kept names f d (e ∷ es) leaves = (refl, refl)

pub key_kept : (f : Operation) (g : Option GroupOperation) (made : Option Vid) (names : Names) (x : Flown) (names' : Names) → TookFor f g made names x names' → IsSameKey f x.operation
key_kept f None made names x names' (h, took, is) =
    subst (λ (z : Flown). IsSameKey f z.operation) (sym is) (subst (IsSameKey f) (sym took.operation) (by_kept (names_after names f.key took.change made) f took.change took.rest f.leaves))
key_kept f (Some g) made names x names' (h, took, is) = subst (λ (z : Flown). IsSameKey f z.operation) (sym is) (refl, refl)
