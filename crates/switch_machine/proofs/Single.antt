-- a key has one reason to wait
use Rattle.std.proofs.Common.{zero, suc, ◌≡◌, ◌⊎◌, ◌<◌, ◌≤◌, ◌∷◌, ◌∙◌, inl, inr, ℕ, true, List, [], Option, Some, Ordering, get_or, is_some, option_map, if◌then◌else◌, refl, sym, ap, subst, arith}
use Rattle.std.proofs.lemmas.Bool.{and_parts, cases_order, false≢true}
use Rattle.std.proofs.lemmas.Option.{same_Some}
use Rattle.std.specs.Ordering.{is_le, ordering_reverse}
use Rattle.std.specs.declared.cmp.Ordering.TheVariants.{Less, Equal, Greater}
use Rattle.table_schema.specs.Key.{key_cmp}
use Rattle.table_schema.specs.Plan.{IsPlan, Ports}
use Rattle.table_schema.specs.Names.{names_of}
use Rattle.table_schema.specs.declared.key.Key.{Key}
use Rattle.table_schema.specs.declared.row.Row.{Row as BareRow}
use Rattle.table_schema.proofs.Keys.{key_exact, key_total}
use Rattle.sai_types.specs.declared.kind.Kind.{Kind}
use Rattle.sai_types.specs.declared.kind.Kind.TheVariants as kind
use Rattle.sai_types.specs.Kinds.{all_kinds}
use Rattle.sai_types.specs.Objects.{level}
use Rattle.switch_model.specs.Placed.{bare_rows, place, router_in}
use Rattle.switch_model.specs.Desired.{have_rows}
use Rattle.switch_model.specs.Good.{TypedRows}
use Rattle.switch_model.specs.Marks.{IsToGo, first_missing}
use Rattle.switch_model.specs.declared.wait.Wait.{Wait}
use Rattle.switch_model.specs.declared.wait.Wait.TheVariants as wait
use Rattle.switch_machine.specs.Events.{IsSafe, SwitchState, placed_good}
use Rattle.switch_machine.specs.Flights.{MachineFlight}
use Rattle.switch_machine.specs.Places.{makes}
use Rattle.switch_machine.specs.Reasons.{IsFirstInTheWay, IsFlownBy, IsRowPrepared, IsReason, LacksRoom}
use Rattle.switch_machine.specs.Written.{good_of}
use Rattle.switch_machine.proofs.Hindered.{not-busy, not_held, not_missing, operation-one, some_none}
use Rattle.switch_machine.proofs.Ordered.{ordered}
use Rattle.switch_machine.proofs.Placing.{to_goes}

one_row : (o : Option BareRow) (r x : BareRow) → o ≡ Some r → o ≡ Some x → r ≡ x
one_row o r x h g = cc

-- where all names have rows, none is missing
have_all_rows : (rows : TypedRows) (ks : List Key) (n : Key) → have_rows rows ks ≡ true → first_missing rows ks ≡ Some n → ⊥
have_all_rows rows [] n h g = absurd cc
have_all_rows rows (k ∷ ks) n h g =
    let parts = and_parts (is_some (rows k)) (have_rows rows ks) h in
    have_all_rows rows ks n parts.1 (sym (ap (λ b. if b then first_missing rows ks else Some k) parts.0) ∙ g)

ties : (o : Ordering) → is_le o ≡ true → is_le (ordering_reverse o) ≡ true → o ≡ Equal
ties Equal h g = refl
ties Less h g = absurd (false≢true g)
ties Greater h g = absurd (false≢true h)

-- two keys neither of which stands behind the other are one
both_least : (a b : Key) → is_le (key_cmp a b) ≡ true → is_le (key_cmp b a) ≡ true → a ≡ b
both_least a b h g = key_exact a b (ties (key_cmp a b) h (sym (ap is_le (key_total.antisymm b a)) ∙ g))

equal_from_both : (v u : ℕ) → v ≤ u → u ≤ v → v ≡ u
equal_from_both v u h g = omega (arith, h, g)

-- a kind is told by its place among all
pub kinds : List Kind
kinds = all_kinds

pub kind_at : (k : Kind) → get_or kinds (level k) kind.Port ≡ k
unfolding kinds
kind_at kind.Port = refl
kind_at kind.Vlan = refl
kind_at kind.VirtualRouter = refl
kind_at kind.BridgePort = refl
kind_at kind.VlanMember = refl
kind_at kind.Rif = refl
kind_at kind.OwnAddress = refl
kind_at kind.Neighbor = refl
kind_at kind.NextHop = refl
kind_at kind.Group = refl
kind_at kind.GroupMember = refl
kind_at kind.Route = refl

-- no kind of the list stands above its place
pub kind_low : (n : ℕ) → level (get_or kinds n kind.Port) ≤ n
unfolding kinds
kind_low zero = omega arith
kind_low (suc zero) = omega arith
kind_low (suc (suc zero)) = omega arith
kind_low (suc (suc (suc zero))) = omega arith
kind_low (suc (suc (suc (suc zero)))) = omega arith
kind_low (suc (suc (suc (suc (suc zero))))) = omega arith
kind_low (suc (suc (suc (suc (suc (suc zero)))))) = omega arith
kind_low (suc (suc (suc (suc (suc (suc (suc zero))))))) = omega arith
kind_low (suc (suc (suc (suc (suc (suc (suc (suc zero)))))))) = omega arith
kind_low (suc (suc (suc (suc (suc (suc (suc (suc (suc zero))))))))) = omega arith
kind_low (suc (suc (suc (suc (suc (suc (suc (suc (suc (suc zero)))))))))) = omega arith
kind_low (suc (suc (suc (suc (suc (suc (suc (suc (suc (suc (suc n))))))))))) = above n
  where
    above : (n : ℕ) → level (get_or kinds (suc (suc (suc (suc (suc (suc (suc (suc (suc (suc (suc n))))))))))) kind.Port) ≤ suc (suc (suc (suc (suc (suc (suc (suc (suc (suc (suc n))))))))))
    above zero = omega arith
    above (suc n) = omega arith

level_exact : (a b : Kind) → level a ≡ level b → a ≡ b
level_exact a b h = sym (kind_at a) ∙ ap (λ n. get_or kinds n kind.Port) h ∙ kind_at b

module _ (plan : Ports) (is : IsPlan plan) (workers : ℕ) (capacities : List ℕ) (s : SwitchState) (kept : IsSafe plan workers capacities s) (k : Key) where
  abbrev Is : Wait → Type 0
  Is w = IsReason plan workers capacities s k w

  abbrev rows : TypedRows
  rows = bare_rows s.machine.board.applied

  abbrev good : Option BareRow
  good = good_of plan s.written k

  -- what lacks room has no other reason
  module _ (kind : Kind) (l : LacksRoom plan workers capacities s k kind) where
    new : l.flight.new ≡ placed_good plan s.machine.board s.written l.flight.key
    new = l.new ∙ sym (ap (placed_good plan s.machine.board s.written) l.is ∙ ap (option_map (place (router_in rows k))) l.good)

    at : (w : Wait) → Is w → IsReason plan workers capacities s l.flight.key w
    at w h = subst (λ q. IsReason plan workers capacities s q w) (sym l.is) h

    no_missing : (n : Key) → Is (wait.Missing n) → ⊥
    no_missing n h = not_missing plan is workers capacities s l.worker l.flight l.due l.begins new n (at (wait.Missing n) h)

    no_held : (q : Key) → Is (wait.Held q) → ⊥
    no_held q h = not_held plan is workers capacities s l.worker l.flight l.due l.begins new q (at (wait.Held q) h)

    no_busy : (v : ℕ) → Is (wait.Busy v) → ⊥
    no_busy v h = not-busy plan is workers capacities s l.worker l.flight l.due l.begins new v (at (wait.Busy v) h)

  -- of two kinds without room neither stands before the other
  not_lower : (a b : Kind) → LacksRoom plan workers capacities s k a → LacksRoom plan workers capacities s k b → level a < level b → ⊥
  not_lower a b x y less =
      let one = operation-one plan (ordered plan is) s.machine x.flight y.flight (x.is ∙ sym y.is) (x.new ∙ ap (λ r. Some (place (router_in rows k) r)) (one_row good x.row y.row x.good y.good) ∙ sym y.new) x.due y.due x.begins.operation y.begins.operation in
      let count = ap (makes a) one in
      let some = x.some in
      let many = x.many in
      let room = y.lower a less (omega (arith, some, count)) in
      omega (arith, count, many, room)

  one_kind : (a b : Kind) → LacksRoom plan workers capacities s k a → LacksRoom plan workers capacities s k b → a ≡ b
  one_kind a b x y = by (cases_order (level a) (level b))
    where
      by : (level a ≡ level b) ⊎ ((level a < level b) ⊎ (level b < level a)) → a ≡ b
      by (inl same) = level_exact a b same
      by (inr (inl less)) = absurd (not_lower a b x y less)
      by (inr (inr more)) = absurd (not_lower b a y x more)

  no_flown : (v : ℕ) → ((w : ℕ) (f : MachineFlight) → s.machine.board.flights w ≡ Some f → f.key ≡ k → ⊥) → IsFlownBy s.machine.board k v → ⊥
  no_flown v rests (f, at, same) = rests v f at same

  abbrev IsSecond : ℕ → Type 0
  IsSecond v = IsRowPrepared plan s k × IsFirstInTheWay plan s.machine k (placed_good plan s.machine.board s.written k) v

  one_busy : (v u : ℕ) → IsFlownBy s.machine.board k v ⊎ IsSecond v → IsFlownBy s.machine.board k u ⊎ IsSecond u → v ≡ u
  one_busy v u (inl (f, at, same)) (inl (g, there, that)) = kept.sound.board.one v u f g at there (same ∙ sym that)
  one_busy v u (inl x) (inr (prepared, first)) = absurd (no_flown v prepared.rests x)
  one_busy v u (inr (prepared, first)) (inl x) = absurd (no_flown u prepared.rests x)
  one_busy v u (inr (p, first)) (inr (q, other)) = equal_from_both v u (first.least u other.way) (other.least v first.way)

  missing_busy : (n : Key) (v : ℕ) → Is (wait.Missing n) → IsFlownBy s.machine.board k v ⊎ IsSecond v → ⊥
  missing_busy n v (rests, _) (inl x) = no_flown v rests x
  missing_busy n v (rests, (row, at, missing)) (inr (prepared, first)) = have_all_rows rows (names_of k row) n (prepared.named row at) missing

  held_busy : (h : Key) (v : ℕ) → Is (wait.Held h) → IsFlownBy s.machine.board k v ⊎ IsSecond v → ⊥
  held_busy h v (rests, to_go, _) (inl x) = no_flown v rests x
  held_busy h v (rests, to_go, (row, at, by)) (inr (prepared, first)) = prepared.unheld (to_goes s.machine.board k (router_in rows k) (good_of plan s.written) to_go) h by.row by.applied_row by.names

  -- where a name is missing no row goes over
  missing_held : {X : Type 0} (m : Key) (row : BareRow) → good ≡ Some row → first_missing rows (names_of k row) ≡ Some m → IsToGo (good_of plan s.written) rows k → X
  missing_held m row at missing (inl none) = some_none row good at none
  missing_held m row at missing (inr (old, new, at_old, at_new, have, moved)) = absurd (have_all_rows rows (names_of k new) m have (ap (λ r. first_missing rows (names_of k r)) (one_row good new row at_new at) ∙ missing))

  pub reason-one : (a b : Wait) → Is a → Is b → a ≡ b
  reason-one (wait.Missing m) (wait.Missing n) (_, (row, at, missing)) (_, (other, there, that)) = ap wait.Missing (same_Some m n (sym missing ∙ ap (λ r. first_missing rows (names_of k r)) (one_row good row other at there) ∙ that))
  reason-one (wait.Missing m) (wait.Held h) (_, (row, at, missing)) (_, to_go, _) = missing_held m row at missing to_go
  reason-one (wait.Held h) (wait.Missing m) (_, to_go, _) (_, (row, at, missing)) = missing_held m row at missing to_go
  reason-one (wait.Missing m) (wait.Busy v) x y = absurd (missing_busy m v x y)
  reason-one (wait.Busy v) (wait.Missing m) y x = absurd (missing_busy m v x y)
  reason-one (wait.Missing m) (wait.NoRoom kind) x l = absurd (no_missing kind l m x)
  reason-one (wait.NoRoom kind) (wait.Missing m) l x = absurd (no_missing kind l m x)
  reason-one (wait.Held g) (wait.Held h) (_, _, (row, at, x)) (_, _, (other, there, y)) = ap wait.Held (both_least g h (x.least h y.row y.applied_row y.names) (y.least g x.row x.applied_row x.names))
  reason-one (wait.Held h) (wait.Busy v) x y = absurd (held_busy h v x y)
  reason-one (wait.Busy v) (wait.Held h) y x = absurd (held_busy h v x y)
  reason-one (wait.Held h) (wait.NoRoom kind) x l = absurd (no_held kind l h x)
  reason-one (wait.NoRoom kind) (wait.Held h) l x = absurd (no_held kind l h x)
  reason-one (wait.Busy v) (wait.Busy u) x y = ap wait.Busy (one_busy v u x y)
  reason-one (wait.Busy v) (wait.NoRoom kind) x l = absurd (no_busy kind l v x)
  reason-one (wait.NoRoom kind) (wait.Busy v) l x = absurd (no_busy kind l v x)
  reason-one (wait.NoRoom a) (wait.NoRoom b) x y = ap wait.NoRoom (one_kind a b x y)
