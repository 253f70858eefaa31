-- before the first event, and between events
use Rattle.std.proofs.Common.{◌≡◌, ◌+◌, ◌*◌, ◌≤◌, ◌∙◌, inl, inr, ℕ, zero, suc, List, [], replicate, slice_index, None, Some, refl, sym, ap, subst}
use Rattle.table_schema.specs.Plan.{IsPlan, Ports}
use Rattle.table_schema.specs.declared.key.Key.{Key}
use Rattle.sai_types.specs.declared.ids.Rid.{Rid}
use Rattle.sai_types.specs.declared.thing.Thing.{Thing}
use Rattle.sai_types.specs.Alike.{IsIn}
use Rattle.sai_types.specs.Objects.{level}
use Rattle.row_layout.specs.Operations.{Change, shared_going, take_all}
use Rattle.row_layout.specs.Rows.{Owner}
use Rattle.switch_machine.specs.Consistent.{IsConsistent}
use Rattle.switch_machine.specs.Events.{Due, Ended, Follows, Left, Retires, empty_machine}
use Rattle.switch_machine.specs.Flights.{MachineFlight, IsUser, Machine}
use Rattle.switch_machine.specs.Steps.{left, moved, parted, started}
use Rattle.switch_machine.proofs.Splits.{IsPut, IsSplit, New, Old, nat_split, put_at, put_by, put_off}
use Rattle.ref_counts.specs.Room.{all_free, kinds_in_all}
use Rattle.registry_laws.specs.Registers.{HaveDue, OthersHaveDue, Registers}
use Rattle.registry_laws.proofs.Listing.{none_rising, not_some, some_of_due}
use Rattle.registry_laws.proofs.Parting as parting

-- ---- nothing

nought : (n i : ℕ) → slice_index (replicate n 0) i ≡ 0
nought zero i = refl
nought (suc n) zero = refl
nought (suc n) (suc i) = nought n i

no_user : (plan : Ports) (k : Key) (o : Owner) → IsUser plan empty_machine.board k o → ⊥
no_user plan k o (inl (w, f, at, same, counts)) = not_some f at
no_user plan k o (inr (rests, h)) = h

pub registers_nothing : (plan : Ports) (workers : ℕ) (capacities : List ℕ) → workers ≤ 4 → Registers plan workers capacities [] (all_free capacities) empty_machine
registers_nothing plan workers capacities few = record {
  names_known = record {
    rows = λ k. record {
      stands = (λ w f at same. not_some f at, refl);
      users = λ q. (λ h. elim h [ ], λ h. not_some h.0 h.1);
      pins = λ p. (λ h. elim h [ ], λ h. not_some h.0 h.1);
      rising = none_rising;
    };
    shared = λ o h. record {
      stands = (λ k user. no_user plan k o user, λ w f at t. not_some f at);
      users = λ q. (λ h. elim h [ ], λ user. absurd (no_user plan q o user));
      pins = λ p h. h;
      rising = none_rising;
    };
  };
  room_known = record { capacities_are = refl; places = λ w kind less. nought (4 * kinds_in_all) (kinds_in_all * w + level kind) };
  few = few;
  below = λ w f at. not_some f at;
  retiring = λ w f o c at. not_some f at;
}

-- ---- the changes of operations

pub due_started : (m : Machine) (w : ℕ) (f : MachineFlight) (due : List Change) → HaveDue m → OthersHaveDue (started m w f due) w
due_started m w f due have v g other at none = have v g (sym (put_off w v (Some f) m.board.flights other) ∙ at) (sym (put_off w v due m.due other) ∙ none)

pub due_moved : (m : Machine) (w : ℕ) (cs : List Change) (stands : List (Rid × Thing)) → HaveDue m → OthersHaveDue (moved m w cs stands) w
due_moved m w cs stands have v g other at none = have v g at (sym (put_off w v cs m.due other) ∙ none)

pub due_follows : (plan : Ports) (m : Machine) (w : ℕ) (t : Machine) → IsPlan plan → IsConsistent plan m → OthersHaveDue m w → Follows plan w m t → HaveDue t
due_follows plan m w _ is sound have (Due c cs at) v g flying none = by (nat_split v w)
  where
    by : IsSplit v w → ⊥
    by (inl same) = some_of_due c cs (sym at ∙ ap m.due (sym same) ∙ none)
    by (inr apart) = have v g apart flying none
due_follows plan m w _ is sound have (Ended f ends) v g flying none = by (put_by w v None m.board.flights (Some g) flying)
  where
    by : IsPut w v None m.board.flights (Some g) → ⊥
    by (New same e) = not_some g e
    by (Old apart there) = have v g apart there none
due_follows plan m w _ is sound have (Left f o x) v g flying none = by (put_by w v None (left m w f f.retires []).board.flights (Some g) flying)
  where
    by : IsPut w v None (left m w f f.retires []).board.flights (Some g) → ⊥
    by (New same e) = not_some g e
    by (Old apart there) = have v g apart (sym (put_off w v (Some (parted f f.retires)) m.board.flights apart) ∙ there) (sym (put_off w v [] m.due apart) ∙ none)
due_follows plan m w _ is sound have (Retires f o x) v g flying none = by (nat_split v w)
  where
    by : IsSplit v w → ⊥
    by (inl same) =
        let t = parting.some_removal plan is o (parting.shared plan is m sound w f o x.leaving) in
        subst (IsIn t.0) (sym (put_at w v (take_all (shared_going o) []) m.due same) ∙ none) t.1
    by (inr apart) = have v g apart (sym (put_off w v (Some (parted f (Some o))) m.board.flights apart) ∙ flying) (sym (put_off w v (take_all (shared_going o) []) m.due apart) ∙ none)
