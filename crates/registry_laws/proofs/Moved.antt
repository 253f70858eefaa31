-- the registry stands for the machine when a change has taken effect
use Rattle.std.proofs.Common.{◌≡◌, ◌∷◌, ◌∙◌, inl, inr, ℕ, List, [], Option, None, Some, option_map, refl, sym, ap, subst}
use Rattle.std.proofs.lemmas.Option.{same_Some}
use Rattle.table_schema.specs.Fields.{HasRisingKeys}
use Rattle.table_schema.specs.Plan.{IsPlan, Ports}
use Rattle.table_schema.specs.declared.key.Key.{Key}
use Rattle.sai_types.specs.declared.ids.Rid.{Rid}
use Rattle.sai_types.specs.declared.ids.Vid.{Vid}
use Rattle.sai_types.specs.declared.thing.Thing.{Thing}
use Rattle.sai_types.specs.Alike.{IsIn}
use Rattle.switch_model.specs.Placed.{Placed as Row}
use Rattle.row_layout.specs.Operations.{Change}
use Rattle.row_layout.specs.Rows as owner
use Rattle.row_layout.specs.Rows.{Owner}
use Rattle.switch_machine.specs.Changes.{changed_name}
use Rattle.switch_machine.specs.Consistent.{IsConsistent}
use Rattle.switch_machine.specs.Flights.{Concerns, MachineFlight, HasChangeOf, IsOwnedBy, IsShared, IsUser, Machine, StandsIn}
use Rattle.switch_machine.specs.Steps.{Moves, moved}
use Rattle.switch_machine.proofs.Moving.{fit_of}
use Rattle.switch_machine.proofs.Running.{one_owner, row_keys, shared_row}
use Rattle.switch_machine.proofs.Splits.{IsSplit, key_split, nat_split, owner_split, put_at, put_off}
use Rattle.switch_machine.proofs.Tabled.{tabled}
use Rattle.switch_machine.proofs.Beginning.{touched_concern}
use Rattle.ref_counts.specs.declared.name.Name.TheVariants as name
use Rattle.ref_counts.specs.declared.name.NameState.{NameState}
use Rattle.ref_counts.specs.declared.name.NameState.TheVariants as state
use Rattle.ref_counts.specs.Registered.{Registered, made_live}
use Rattle.ref_counts.specs.Registry as registry
use Rattle.ref_counts.specs.Registry.{gone_from, registered_name_cmp, registered_at, state_in, state_of}
use Rattle.ref_counts.specs.Room.{RoomState}
use Rattle.orch_flight.specs.Needing.{name_for}
use Rattle.registry_laws.specs.Known.{IsKnownRow, IsKnownShared, RowStands, SharedStands}
use Rattle.registry_laws.specs.Registers.{KnowsNames, Registers, made_live_at}
use Rattle.registry_laws.proofs.Finding.{found_at, found_off, gone_at, gone_off}
use Rattle.registry_laws.proofs.Listing.{none_rising, some_of_due}
use Rattle.registry_laws.proofs.Listing.{never_none}
use Rattle.registry_laws.proofs.Telling.{touched-one}

module _ (plan : Ports) (m : Machine) (w : ℕ) (f : MachineFlight) (c : Change) (cs : List Change) (stands : List (Rid × Thing)) (moves : Moves m w f c cs stands) where
  abbrev pub later : Machine
  later = moved m w cs stands

  due_new : (v : ℕ) → v ≡ w → later.due v ≡ cs
  due_new v same = put_at w v cs m.due same

  due_old : (v : ℕ) → (v ≡ w → ⊥) → later.due v ≡ m.due v
  due_old v apart = put_off w v cs m.due apart

  due_was : (v : ℕ) (d : Change) → IsSplit v w → IsIn d (later.due v) → IsIn d (m.due v)
  due_was v d (inl same) h = subst (IsIn d) (sym (ap m.due same ∙ moves.due)) (inr (subst (IsIn d) (due_new v same) h))
  due_was v d (inr apart) h = subst (IsIn d) (due_old v apart) h

  touch_was : (v : ℕ) (o : Owner) → HasChangeOf plan (later.due v) o → HasChangeOf plan (m.due v) o
  touch_was v o (d, h, of) = (d, due_was v d (nat_split v w) h, of)

  -- a change of an owner is due still, unless it was the one that was made
  touch_now : (v : ℕ) (o : Owner) → (IsOwnedBy plan (changed_name c) o → HasChangeOf plan cs o) → IsSplit v w → HasChangeOf plan (m.due v) o → HasChangeOf plan (later.due v) o
  touch_now v o more (inr apart) t = subst (λ d. HasChangeOf plan d o) (sym (due_old v apart)) t
  touch_now v o more (inl same) (d, h, of) = subst (λ x. HasChangeOf plan x o) (sym (due_new v same)) (by (subst (IsIn d) (ap m.due same ∙ moves.due) h))
    where
      by : IsIn d (c ∷ cs) → HasChangeOf plan cs o
      by (inl e) = more (subst (λ z. IsOwnedBy plan (changed_name z) o) e of)
      by (inr i) = (d, i, of)

  pub row_stands : (p : Key) (st : NameState) → RowStands m p st → RowStands later p st
  row_stands p state.Absent h = h
  row_stands p (state.Building v) h = h
  row_stands p state.Live (inl firm) = inl (record { row = firm.row; applied = firm.applied; stays = firm.stays })
  row_stands p state.Live (inr made) = inr (record { worker = made.worker; flight = made.flight; flying = made.flying; key = made.key; row = made.row; new = made.new; done = due_old made.worker (λ e. some_of_due c cs (sym moves.due ∙ ap m.due (sym e) ∙ made.done)) ∙ made.done })
  row_stands p (state.Retiring v) x = record { flight = x.flight; flying = x.flying; key = x.key; goes = x.goes; row = x.row; applied = x.applied }

  pub shared_stands : (o : Owner) (st : NameState) → (IsOwnedBy plan (changed_name c) o → HasChangeOf plan cs o) → SharedStands plan m o st → SharedStands plan later o st
  shared_stands o state.Absent more (none, untouched) = (none, λ v g at t. untouched v g at (touch_was v o t))
  shared_stands o (state.Building v) more (g, at, t, other) = (g, at, touch_now v o more (nat_split v w) t, other)
  shared_stands o state.Live more (user, untouched) = (user, λ v g at t. untouched v g at (touch_was v o t))
  shared_stands o (state.Retiring v) more (g, at, t, retires) = (g, at, touch_now v o more (nat_split v w) t, retires)

  row_kept : (p : Key) (x : Option Registered) → IsKnownRow m p x → IsKnownRow later p x
  row_kept p x known = record { stands = row_stands p (state_in x) known.stands; users = known.users; pins = known.pins; rising = known.rising }

  shared_kept : (o : Owner) (x : Option Registered) → (IsOwnedBy plan (changed_name c) o → HasChangeOf plan cs o) → IsKnownShared plan m o x → IsKnownShared plan later o x
  shared_kept o x more known = record { stands = shared_stands o (state_in x) more known.stands; users = known.users; pins = known.pins; rising = known.rising }

  module _ (workers : ℕ) (capacities : List ℕ) (names : registry.Names) (room : RoomState) (known : Registers plan workers capacities names room m) where
    abbrev pub IsStill : registry.Names → Type 0
    IsStill names' = Registers plan workers capacities names' room later

    -- with other names
    with_names : (names' : registry.Names) → KnowsNames plan names' later → IsStill names'
    with_names names' h = record {
      names_known = h;
      room_known = record { capacities_are = known.room_known.capacities_are; places = known.room_known.places };
      few = known.few;
      below = known.below;
      retiring = λ v g o d at retires h. known.retiring v g o d at retires (due_was v d (nat_split v w) h);
    }

    pub same_moved : ((o : Owner) → IsShared o → IsOwnedBy plan (changed_name c) o → HasChangeOf plan cs o) → IsStill names
    same_moved more = with_names names (record {
      rows = λ p. row_kept p (registered_at names (name.Row p)) (known.names_known.rows p);
      shared = λ o h. shared_kept o (registered_at names (name_for o)) (more o h) (known.names_known.shared o h);
    })

    -- the names of other owners than this one are as they were, and this one's is known
    one_changed : (names' : registry.Names) (o : Owner) → ((p : Owner) → (o ≡ p → ⊥) → registered_at names' (name_for p) ≡ registered_at names (name_for p)) → IsShared o → IsOwnedBy plan (changed_name c) o → IsKnownShared plan later o (registered_at names' (name_for o)) → IsStill names'
    one_changed names' o same shared of now = with_names names' (record {
      rows = λ p. subst (IsKnownRow later p) (sym (same (owner.OfRow p) (λ e. shared_row o p shared e))) (row_kept p (registered_at names (name.Row p)) (known.names_known.rows p));
      shared = λ p h. by p h (owner_split o p);
    })
      where
        by : (p : Owner) → IsShared p → IsSplit o p → IsKnownShared plan later p (registered_at names' (name_for p))
        by p h (inl e) = subst (λ z. IsKnownShared plan later z (registered_at names' (name_for z))) e now
        by p h (inr apart) = subst (IsKnownShared plan later p) (sym (same p apart)) (shared_kept p (registered_at names (name_for p)) (λ x. absurd (apart (one_owner plan (changed_name c) o p of x))) (known.names_known.shared p h))

    module _ (is : IsPlan plan) (sound : IsConsistent plan m) (o : Owner) (shared : IsShared o) (of : IsOwnedBy plan (changed_name c) o) (none : HasChangeOf plan cs o → ⊥) where
      touched : HasChangeOf plan (m.due w) o
      touched = subst (λ d. HasChangeOf plan d o) (sym moves.due) (c, inl refl, of)

      was : IsKnownShared plan m o (registered_at names (name_for o))
      was = known.names_known.shared o shared

      only : (v : ℕ) (g : MachineFlight) → m.board.flights v ≡ Some g → HasChangeOf plan (m.due v) o → v ≡ w
      only v g at t = touched-one plan is m sound v w g f o at moves.flying t touched

      untouched : (v : ℕ) (g : MachineFlight) → m.board.flights v ≡ Some g → HasChangeOf plan (later.due v) o → ⊥
      untouched v g at t = none (subst (λ d. HasChangeOf plan d o) (due_new v (only v g at (touch_was v o t))) t)

      registered : (x : Option Registered) → SharedStands plan m o (state_in x) → x ≡ None → ⊥
      registered None stands e = stands.1 w f moves.flying touched
      registered (Some r) stands e = never_none r e

      pub shared_moved : (f.retires ≡ Some o → ⊥) → (ids : List Vid) → IsStill (made_live_at names (name_for o) ids)
      shared_moved other ids = one_changed (made_live_at names (name_for o) ids) o (λ p apart. found_off names o p (made_live ids) apart) shared of (subst (IsKnownShared plan later o) (sym (found_at names o (made_live ids))) (by (registered_at names (name_for o)) was))
        where
          user : Concerns plan f o → IsUser plan m.board f.key o
          user (inl e) = absurd (shared_row o f.key shared e)
          user (inr (inl h)) = inl (w, f, moves.flying, refl, inl h)
          user (inr (inr e)) = absurd (other e)

          by : (x : Option Registered) → IsKnownShared plan m o x → IsKnownShared plan later o (option_map (made_live ids) x)
          by None x = absurd (registered None x.stands refl)
          by (Some r) x = record {
            stands = ((f.key, user (touched_concern plan (tabled plan is) f (fit_of plan (tabled plan is) m sound w f moves.flying) (m.due w) (StandsIn m) o (sound.runs w f moves.flying) touched)), untouched);
            users = x.users;
            pins = x.pins;
            rising = x.rising;
          }

      pub gone_moved : f.retires ≡ Some o → HasRisingKeys registered_name_cmp names → IsStill (gone_from names (name_for o))
      gone_moved retires rising = one_changed (gone_from names (name_for o)) o (λ p apart. gone_off names o p apart) shared of (subst (IsKnownShared plan later o) (sym (gone_at names o w rising (going (state_of names (name_for o)) was.stands))) (record {
        stands = (nobody, untouched);
        users = λ q. (λ h. elim h [ ], λ h. absurd (nobody q h));
        pins = λ p h. h;
        rising = none_rising;
      }))
        where
          nobody : (q : Key) → IsUser plan m.board q o → ⊥
          nobody q h = sound.board.unused w f q o moves.flying retires h

          going : (st : NameState) → SharedStands plan m o st → st ≡ state.Retiring w
          going state.Absent (_, still) = absurd (still w f moves.flying touched)
          going (state.Building v) (g, at, t, other) = absurd (other (subst (λ z. z.retires ≡ Some o) (same_Some f g (sym moves.flying ∙ ap m.board.flights (sym (only v g at t)) ∙ at)) retires))
          going state.Live (_, still) = absurd (still w f moves.flying touched)
          going (state.Retiring v) (g, at, t, r) = ap state.Retiring (only v g at t)

module _ (plan : Ports) (m : Machine) (w : ℕ) (f : MachineFlight) (c : Change) (stands : List (Rid × Thing)) (moves : Moves m w f c [] stands) (workers : ℕ) (capacities : List ℕ) (names : registry.Names) (room : RoomState) (known : Registers plan workers capacities names room m) where
  -- all of the key's row is made
  pub row_moved : IsOwnedBy plan (changed_name c) (owner.OfRow f.key) → (r : Row) → f.new ≡ Some r → (ids : List Vid) → Registers plan workers capacities (made_live_at names (name.Row f.key) ids) room (moved m w [] stands)
  row_moved of r new ids = with_names plan m w f c [] stands moves workers capacities names room known (made_live_at names (name.Row f.key) ids) (record {
    rows = λ p. row p (key_split f.key p);
    shared = λ o h. subst (IsKnownShared plan (moved m w [] stands) o) (sym (found_off names (owner.OfRow f.key) o (made_live ids) (λ e. shared_row o f.key h (sym e)))) (shared_kept plan m w f c [] stands moves o (registered_at names (name_for o)) (λ x. absurd (shared_row o f.key h (one_owner plan (changed_name c) o (owner.OfRow f.key) x of))) (known.names_known.shared o h));
  })
    where
      at : (x : Option Registered) → IsKnownRow m f.key x → IsKnownRow (moved m w [] stands) f.key (option_map (made_live ids) x)
      at None x = absurd (x.stands.0 w f moves.flying refl)
      at (Some y) x = record {
        stands = inr (record { worker = w; flight = f; flying = moves.flying; key = refl; row = r; new = new; done = put_at w w [] m.due refl });
        users = x.users;
        pins = x.pins;
        rising = x.rising;
      }

      row : (p : Key) → IsSplit f.key p → IsKnownRow (moved m w [] stands) p (registered_at (made_live_at names (name.Row f.key) ids) (name.Row p))
      row p (inl same) = subst (λ z. IsKnownRow (moved m w [] stands) z (registered_at (made_live_at names (name.Row f.key) ids) (name.Row z))) same (subst (IsKnownRow (moved m w [] stands) f.key) (sym (found_at names (owner.OfRow f.key) (made_live ids))) (at (registered_at names (name.Row f.key)) (known.names_known.rows f.key)))
      row p (inr apart) = subst (IsKnownRow (moved m w [] stands) p) (sym (found_off names (owner.OfRow f.key) (owner.OfRow p) (made_live ids) (λ e. apart (row_keys f.key p e)))) (row_kept plan m w f c [] stands moves p (registered_at names (name.Row p)) (known.names_known.rows p))
