-- the registry stands for the machine when an operation has started
use Rattle.std.proofs.Common.{◌≡◌, ◌⊎◌, ◌∷◌, ◌<◌, ◌∙◌, inl, inr, ℕ, Bool, true, false, if◌then◌else◌, List, [], Option, None, Some, option_map, refl, sym, ap, ap₂, subst, arith}
use Rattle.std.specs.List.Sorted.{IsStrictlySortedBy}
use Rattle.std.specs.BTreeSet.{insert_key}
use Rattle.table_schema.specs.Key.{key_cmp}
use Rattle.table_schema.specs.Plan.{IsPlan, Ports}
use Rattle.table_schema.specs.declared.key.Key.{Key}
use Rattle.table_schema.proofs.Keys.{key_exact, key_total}
use Rattle.sai_types.specs.declared.kind.Kind.{Kind}
use Rattle.sai_types.specs.declared.thing.Thing.{Thing}
use Rattle.sai_types.specs.Alike.{IsIn}
use Rattle.sai_types.proofs.Rising.{in-back, in-insert, in-kept, rising-insert}
use Rattle.switch_model.specs.Placed.{Placed as Row}
use Rattle.row_layout.specs.Operations.{Change, Make, make_all, own_changes, uses_of}
use Rattle.row_layout.specs.Rows as owner
use Rattle.row_layout.specs.Rows.{Owner}
use Rattle.row_layout.specs.Shared.{shared_things, uses}
use Rattle.switch_machine.specs.Consistent.{IsConsistent}
use Rattle.switch_machine.specs.Flights.{MachineFlight, HasChangeOf, IsShared, IsUser, Machine, goes_over, put}
use Rattle.switch_machine.specs.Operations.{MayBegin, built_first}
use Rattle.switch_machine.specs.Places.{AreCovered, makes}
use Rattle.switch_machine.specs.Steps.{started}
use Rattle.switch_machine.proofs.Ordered.{ordered}
use Rattle.switch_machine.proofs.Running.{row_keys, shared_row}
use Rattle.switch_machine.proofs.Sequence.{IsShort, uses_short}
use Rattle.switch_machine.proofs.Splits.{IsSplit, key_split, nat_split, owner_split, put_at, put_off, use_row_in}
use Rattle.switch_machine.proofs.Tabled.{are_shared_by, tabled}
use Rattle.switch_machine.proofs.Freeing.{first_shared}
use Rattle.switch_machine.proofs.Placing.{names_in}
use Rattle.ref_counts.specs.declared.name.Name.TheVariants as name
use Rattle.ref_counts.specs.declared.name.NameState.{NameState}
use Rattle.ref_counts.specs.declared.name.NameState.TheVariants as state
use Rattle.ref_counts.specs.declared.pin.Pin.{Pin}
use Rattle.ref_counts.specs.Registered.{Registered, begun, begun_to_go, with_user}
use Rattle.ref_counts.specs.Registry as registry
use Rattle.ref_counts.specs.Registry.{registered_at, state_in, state_of, users_at, changed}
use Rattle.ref_counts.specs.Room.{Reserves, RoomState, places_by}
use Rattle.orch_flight.specs.Needing.{name_for, places_for, row_names, to_build}
use Rattle.orch_flight.specs.Starting.{begun_names, ids_for_row, with_building, with_own, with_pins}
use Rattle.registry_laws.specs.Known.{IsKnownRow, IsKnownShared, IsPinOf, RowStands, SharedStands, pins_at}
use Rattle.registry_laws.specs.Registers.{KnowsNames, KnowsRoom, Registers, beginning, due_first}
use Rattle.registry_laws.proofs.Begun as begun_facts
use Rattle.registry_laws.proofs.Finding.{IsPinned, NamesNew, building_at, building_off, found_at, own_off, pins_off, pins_row, put_at_name, used_off, used_one}
use Rattle.registry_laws.proofs.Listing.{never_none, none_rising, not_some}
use Rattle.registry_laws.proofs.Rooming.{number_for}
use Rattle.registry_laws.proofs.Sharing.{absent_first, absent_none}

in_made : (ts : List Thing) (own : List Change) (t : Thing) → IsIn t ts → IsIn (Make t) (make_all ts own)
in_made [] own t h = elim h [ ]
in_made (x ∷ ts) own t (inl e) = inl (ap Make e)
in_made (x ∷ ts) own t (inr h) = inr (in_made ts own t h)

module _ (plan : Ports) (is : IsPlan plan) (m : Machine) (sound : IsConsistent plan m) (names : registry.Names) (known : KnowsNames plan names m) (w : ℕ) (k : Key) (n : Option Row) (begins : MayBegin plan m w (beginning plan k (m.board.applied k) n) (due_first plan names k (m.board.applied k) n)) (differs : m.board.applied k ≡ None → n ≡ None → ⊥) where
  abbrev pub old : Option Row
  old = m.board.applied k

  abbrev pub f : MachineFlight
  f = beginning plan k old n

  abbrev pub due : List Change
  due = due_first plan names k old n

  abbrev pub later : Machine
  later = started m w f due

  abbrev pinned_names : registry.Names
  pinned_names = with_pins names w k n

  abbrev owned_names : registry.Names
  owned_names = with_own pinned_names w k old n

  abbrev built_names : registry.Names
  built_names = with_building owned_names w (to_build plan names k n)

  abbrev pub new_names : registry.Names
  new_names = begun_names plan names w k old n

  no_self : (r : Row) (p : Key) → IsIn p (row_names k r) → p ≡ k → ⊥
  no_self r p h = (ordered plan is).no_self k p r (names_in k r p h)

  shared_use : (o : Owner) → IsIn o (uses_of plan k n) → IsShared o
  shared_use o h = let r = use_row_in plan k n o h in are_shared_by plan is k r.0 o r.2

  build_use : (o : Owner) → to_build plan names k n ≡ Some o → IsIn o (uses_of plan k n)
  build_use o h = by n h
    where
      by : (x : Option Row) → to_build plan names k x ≡ Some o → IsIn o (uses_of plan k x)
      by None h = not_some o h
      by (Some r) h = (absent_first names (uses plan k r) o h).0

  build_absent : (o : Owner) → to_build plan names k n ≡ Some o → state_of names (name_for o) ≡ state.Absent
  build_absent o h = by n h
    where
      by : (x : Option Row) → to_build plan names k x ≡ Some o → state_of names (name_for o) ≡ state.Absent
      by None h = not_some o h
      by (Some r) h = (absent_first names (uses plan k r) o h).1

  not_built : (x : Option Row) (o : Owner) → to_build plan names k x ≡ None → IsIn o (uses_of plan k x) → state_of names (name_for o) ≡ state.Absent → ⊥
  not_built None o h i e = elim i [ ]
  not_built (Some r) o h i e = absent_none names (uses plan k r) o h i e

  -- ---- the names of rows

  row_same : (p : Key) → registered_at new_names (name.Row p) ≡ registered_at owned_names (name.Row p)
  row_same p =
      used_off w k built_names (uses_of plan k n) (owner.OfRow p) (λ h. shared_row (owner.OfRow p) p (shared_use (owner.OfRow p) h) refl)
      ∙ building_off w k owned_names (to_build plan names k n) (owner.OfRow p) (λ e. shared_row (owner.OfRow p) p (shared_use (owner.OfRow p) (build_use (owner.OfRow p) e)) refl)

  -- what is named is applied, so it is registered
  is_registered : (p : Key) (o : Option Registered) → RowStands m p (state_in o) → (r : Row) → m.board.applied p ≡ Some r → o ≡ None → ⊥
  is_registered p None stands r at e = not_some r (sym stands.1 ∙ at)
  is_registered p (Some x) stands r at e = never_none x e

  other_row : (p : Key) (a c : Option Registered) → (k ≡ p → ⊥) → IsKnownRow m p a → IsPinned w k (NamesNew w k n p) a c → IsKnownRow later p c
  other_row p a c other was pinned = record {
    stands = subst (RowStands later p) (sym pinned.state) (begun_facts.row_stands plan is m sound w f due begins p (state_in a) other was.stands);
    users = λ q. (λ h. (was.users q).0 (subst (IsIn q) pinned.users h), λ h. subst (IsIn q) (sym pinned.users) ((was.users q).1 h));
    pins = λ q. (λ h. into q (pinned.into q h), λ h. back q (begun_facts.pin_was plan is m sound w f due begins p q h));
    rising = subst (IsStrictlySortedBy key_cmp) (sym pinned.users) was.rising;
  }
    where
      into : (q : Pin) → IsIn q (pins_at a) ⊎ ((q ≡ record { worker = w; user = k }) × NamesNew w k n p) → IsPinOf later.board p q
      into q (inl h) = begun_facts.pin_now plan is m sound w f due begins p q ((was.pins q).0 h)
      into q (inr (e, (r, new, h))) = subst (IsPinOf later.board p) (sym e) (begun_facts.pin_new plan is m sound w f due begins p r new h)

      back : (q : Pin) → IsPinOf m.board p q ⊎ ((q ≡ record { worker = w; user = k }) × NamesNew w k n p) → IsIn q (pins_at c)
      back q (inl h) = pinned.kept q ((was.pins q).1 h)
      back q (inr (e, (r, new, h))) = let firm = begins.named p r new (names_in k r p h) in subst (λ z. IsIn z (pins_at c)) (sym e) (pinned.more (r, new, h) (is_registered p a was.stands firm.row firm.applied))

  -- nobody but the key's operation brings a row that names the key, where it had none or its applied row goes
  no_pin : (q : Pin) → (old ≡ None) ⊎ (goes_over k old n ≡ true) → IsPinOf later.board k q → ⊥
  no_pin q gone h = by gone (begun_facts.pin_was plan is m sound w f due begins k q h)
    where
      by : (old ≡ None) ⊎ (goes_over k old n ≡ true) → IsPinOf m.board k q ⊎ ((q ≡ record { worker = w; user = k }) × NamesNew w k n k) → ⊥
      by (inl none) (inl (g, at, same, (r, new, h))) = let firm = sound.board.named g.key k r (inr (q.worker, g, at, refl, new)) (names_in g.key r k h) in not_some firm.row (sym none ∙ firm.applied)
      by (inr goes) (inl (g, at, same, (r, new, h))) = begins.unnamed goes g.key r (inr (q.worker, g, at, refl, new)) (names_in g.key r k h)
      by _ (inr (e, (r, new, h))) = no_self r k h refl

  pinned_own : registered_at pinned_names (name.Row k) ≡ registered_at names (name.Row k)
  pinned_own = pins_off w k names n (owner.OfRow k) (λ r q e h same. no_self r q h (row_keys q k same))

  own_row : (x y : Option Row) → old ≡ x → n ≡ y → IsKnownRow later k (registered_at (with_own pinned_names w k x y) (name.Row k))
  own_row None y was new = subst (IsKnownRow later k) (sym (put_at_name pinned_names (owner.OfRow k) (begun w (ids_for_row k)))) (record {
    stands = ((f, begun_facts.here plan is m sound w f due begins, refl), was);
    users = λ q. (λ h. elim h [ ], λ h. let firm = sound.board.named q k h.0 (inl h.1) (names_in q h.0 k h.2) in not_some firm.row (sym was ∙ firm.applied));
    pins = λ q. (λ h. elim h [ ], λ h. no_pin q (inl was) h);
    rising = none_rising;
  })
  own_row (Some a) y was new = by (goes_over k (Some a) y) refl
    where
      told : goes_over k old n ≡ goes_over k (Some a) y
      told = ap₂ (goes_over k) was new

      back : (q : Pin) → IsPinOf m.board k q ⊎ ((q ≡ record { worker = w; user = k }) × NamesNew w k n k) → IsIn q (pins_at (registered_at names (name.Row k)))
      back q (inl h) = ((known.rows k).pins q).1 h
      back q (inr (e, (r, new, h))) = absurd (no_self r k h refl)

      gone : goes_over k (Some a) y ≡ true → (o : Option Registered) → registered_at names (name.Row k) ≡ o → IsKnownRow m k o → IsKnownRow later k (registered_at (changed pinned_names (name.Row k) (begun_to_go w)) (name.Row k))
      gone goes None e x = not_some a (sym x.stands.1 ∙ was)
      gone goes (Some r) e x = subst (IsKnownRow later k) (sym (found_at pinned_names (owner.OfRow k) (begun_to_go w) ∙ ap (option_map (begun_to_go w)) (pinned_own ∙ e))) (record {
        stands = record { flight = f; flying = begun_facts.here plan is m sound w f due begins; key = refl; goes = told ∙ goes; row = a; applied = was };
        users = x.users;
        pins = λ q. (λ h. elim h [ ], λ h. no_pin q (inr (told ∙ goes)) h);
        rising = x.rising;
      })

      stays : goes_over k (Some a) y ≡ false → IsKnownRow later k (registered_at pinned_names (name.Row k))
      stays none =
          let x = known.rows k in
          subst (IsKnownRow later k) (sym pinned_own) (record {
            stands = begun_facts.own_stays plan is m sound w f due begins a (state_in (registered_at names (name.Row k))) was (told ∙ none) x.stands;
            users = x.users;
            pins = λ q. (λ h. begun_facts.pin_now plan is m sound w f due begins k q ((x.pins q).0 h), λ h. back q (begun_facts.pin_was plan is m sound w f due begins k q h));
            rising = x.rising;
          })

      by : (b : Bool) → goes_over k (Some a) y ≡ b → IsKnownRow later k (registered_at (if b then changed pinned_names (name.Row k) (begun_to_go w) else pinned_names) (name.Row k))
      by true e = gone e (registered_at names (name.Row k)) refl (known.rows k)
      by false e = stays e

  pub rows_now : (p : Key) → IsKnownRow later p (registered_at new_names (name.Row p))
  rows_now p = subst (IsKnownRow later p) (sym (row_same p)) (by (key_split k p))
    where
      by : IsSplit k p → IsKnownRow later p (registered_at owned_names (name.Row p))
      by (inl same) = subst (λ z. IsKnownRow later z (registered_at owned_names (name.Row z))) same (own_row old n refl refl)
      by (inr apart) = subst (IsKnownRow later p) (sym (own_off w k pinned_names old n (owner.OfRow p) (λ e. apart (row_keys k p e)))) (other_row p (registered_at names (name.Row p)) (registered_at pinned_names (name.Row p)) apart (known.rows p) (pins_row w k names n p))

  -- ---- the names of what is shared

  module _ (o : Owner) (shared : IsShared o) where
    not_row : (q : Key) → owner.OfRow q ≡ o → ⊥
    not_row q e = shared_row o q shared (sym e)

    owned_same : registered_at owned_names (name_for o) ≡ registered_at names (name_for o)
    owned_same = own_off w k pinned_names old n o (not_row k) ∙ pins_off w k names n o (λ r q e h. not_row q)

    was : IsKnownShared plan m o (registered_at names (name_for o))
    was = known.shared o shared

    -- not used
    unused : (IsIn o (uses_of plan k n) → ⊥) → IsKnownShared plan later o (registered_at new_names (name_for o))
    unused none = subst (IsKnownShared plan later o) (sym (used_off w k built_names (uses_of plan k n) o none ∙ building_off w k owned_names (to_build plan names k n) o (λ e. none (build_use o e)) ∙ owned_same)) (record {
      stands = begun_facts.shared_stands plan is m sound w f due begins o (state_in (registered_at names (name_for o))) (begun_facts.not_concerned plan is m sound w f due begins o shared none) (λ q h. inl (user q h)) was.stands;
      users = λ q. (λ h. begun_facts.user_now plan is m sound w f due begins q o ((was.users q).0 h), λ h. (was.users q).1 (user q h));
      pins = was.pins;
      rising = was.rising;
    })
      where
        user : (q : Key) → IsUser plan later.board q o → IsUser plan m.board q o
        user q h = of (begun_facts.user_was plan is m sound w f due begins q o h)
          where
            of : IsUser plan m.board q o ⊎ ((k ≡ q) × IsIn o (uses_of plan k n)) → IsUser plan m.board q o
            of (inl x) = x
            of (inr x) = absurd (none x.1)

    module _ (used : IsIn o (uses_of plan k n)) where
      alone : uses_of plan k n ≡ o ∷ []
      alone = by (uses_short plan k n)
        where
          by : IsShort (uses_of plan k n) → uses_of plan k n ≡ o ∷ []
          by (inl e) = elim (subst (IsIn o) e used) [ ]
          by (inr (p, e)) = e ∙ ap (λ z. z ∷ []) (sym (only (subst (IsIn o) e used)))
            where
              only : IsIn o (p ∷ []) → o ≡ p
              only (inl same) = same
              only (inr h) = elim h [ ]

      one_use : (p : Owner) → IsIn p (uses_of plan k n) → p ≡ o
      one_use p h = only (subst (IsIn p) alone h)
        where
          only : IsIn p (o ∷ []) → p ≡ o
          only (inl same) = same
          only (inr h) = elim h [ ]

      new_user : IsUser plan later.board k o
      new_user = begun_facts.user_new plan is m sound w f due begins o used

      users_by : (us : List Key) → ((q : Key) → (IsIn q us → IsUser plan m.board q o) × (IsUser plan m.board q o → IsIn q us)) → (q : Key) → (IsIn q (insert_key key_cmp us k) → IsUser plan later.board q o) × (IsUser plan later.board q o → IsIn q (insert_key key_cmp us k))
      users_by us h q = (λ i. into (in-back key_cmp key_total key_exact us k q i), λ i. back (begun_facts.user_was plan is m sound w f due begins q o i))
        where
          into : (q ≡ k) ⊎ IsIn q us → IsUser plan later.board q o
          into (inl e) = subst (λ z. IsUser plan later.board z o) (sym e) new_user
          into (inr i) = begun_facts.user_now plan is m sound w f due begins q o ((h q).0 i)

          back : IsUser plan m.board q o ⊎ ((k ≡ q) × IsIn o (uses_of plan k n)) → IsIn q (insert_key key_cmp us k)
          back (inl x) = in-kept key_cmp key_total key_exact us k q ((h q).1 x)
          back (inr x) = subst (λ z. IsIn z (insert_key key_cmp us k)) x.0 (in-insert key_cmp key_total key_exact us k)

      -- it begins to be built
      built : to_build plan names k n ≡ Some o → IsKnownShared plan later o (registered_at new_names (name_for o))
      built e = subst (IsKnownShared plan later o) (sym (used_one w k built_names (uses_of plan k n) o alone ∙ ap (option_map (with_user k)) (building_at w k owned_names (to_build plan names k n) o e))) (record {
        stands = (f, begun_facts.here plan is m sound w f due begins, touched, λ h. not_some o h);
        users = users_by [] (λ q. (λ h. elim h [ ], λ h. elim (nobody q h) [ ]));
        pins = λ q h. h;
        rising = rising-insert key_cmp key_total key_exact [] k none_rising;
      })
        where
          nobody : (q : Key) → IsUser plan m.board q o → ⊥
          nobody = (subst (SharedStands plan m o) (build_absent o e) was.stands).0

          touched : HasChangeOf plan (later.due w) o
          touched =
              let x = first_shared o shared in
              let first : IsIn (Make x.0) due = subst (λ z. IsIn (Make x.0) (built_first z (own_changes plan k old n))) (sym e) (in_made (shared_things o) (own_changes plan k old n) x.0 x.1) in
              subst (λ d. HasChangeOf plan d o) (sym (begun_facts.due_new plan is m sound w f due begins)) (Make x.0, first, (tabled plan is).shared o x.0 x.1)

      -- it stands already
      found : to_build plan names k n ≡ None → IsKnownShared plan later o (registered_at new_names (name_for o))
      found e = of (registered_at names (name_for o)) refl was
        where
          names_at : registered_at new_names (name_for o) ≡ option_map (with_user k) (registered_at names (name_for o))
          names_at = used_one w k built_names (uses_of plan k n) o alone ∙ ap (option_map (with_user k)) (building_off w k owned_names (to_build plan names k n) o (λ h. not_some o (sym e ∙ h)) ∙ owned_same)

          of : (x : Option Registered) → registered_at names (name_for o) ≡ x → IsKnownShared plan m o x → IsKnownShared plan later o (registered_at new_names (name_for o))
          of None a x = absurd (not_built n o e used (ap state_in a))
          of (Some r) a x = subst (IsKnownShared plan later o) (sym (names_at ∙ ap (option_map (with_user k)) a)) (record {
            stands = by r.state refl x.stands;
            users = users_by r.users x.users;
            pins = x.pins;
            rising = rising-insert key_cmp key_total key_exact r.users k x.rising;
          })
            where
              by : (st : NameState) → r.state ≡ st → SharedStands plan m o st → SharedStands plan later o r.state
              by state.Absent at stands = absurd (not_built n o e used (ap state_in a ∙ at))
              by (state.Building u) at (g, flying, t, other) = absurd ((begins.free o used u g flying).0 t)
              by state.Live at ((q, user), untouched) = begun_facts.shared_stands plan is m sound w f due begins o r.state (begun_facts.not_touched plan is m sound w f due begins q o shared user untouched) (λ q h. inr at) x.stands
              by (state.Retiring u) at (g, flying, t, retires) = absurd ((begins.free o used u g flying).0 t)

    pub shared_now : IsKnownShared plan later o (registered_at new_names (name_for o))
    shared_now = by (uses_short plan k n)
      where
        of : IsIn o (uses_of plan k n) → (x : Option Owner) → to_build plan names k n ≡ x → IsKnownShared plan later o (registered_at new_names (name_for o))
        of used None e = found used e
        of used (Some p) e = built used (e ∙ ap Some (one_use used p (build_use p e)))

        by : IsShort (uses_of plan k n) → IsKnownShared plan later o (registered_at new_names (name_for o))
        by (inl e) = unused (λ h. elim (subst (IsIn o) e h) [ ])
        by (inr (p, e)) = at (owner_split o p)
          where
            only : IsIn o (p ∷ []) → o ≡ p
            only (inl same) = same
            only (inr h) = elim h [ ]

            at : IsSplit o p → IsKnownShared plan later o (registered_at new_names (name_for o))
            at (inl same) = let used : IsIn o (uses_of plan k n) = subst (IsIn o) (sym e) (inl same) in of used (to_build plan names k n) refl
            at (inr apart) = unused (λ h. apart (only (subst (IsIn o) e h)))

  pub names_now : KnowsNames plan new_names later
  names_now = record { rows = rows_now; shared = shared_now }

-- ---- the room

pub room_now : (capacities : List ℕ) (m : Machine) (w : ℕ) (f : MachineFlight) (due : List Change) (room room' : RoomState) → AreCovered m → m.board.flights w ≡ None → KnowsRoom capacities room m → Reserves room w (places_for due) room' → KnowsRoom capacities room' (started m w f due)
room_now capacities m w f due room room' covered idle known reserves = record {
  capacities_are = reserves.capacities ∙ known.capacities_are;
  places = λ v kind less. by v kind less (nat_split v w);
}
  where
    by : (v : ℕ) (kind : Kind) → v < 4 → IsSplit v w → places_by room'.reserved v kind ≡ makes kind (put w due m.reserved v)
    by v kind less (inl same) =
        let more = reserves.more kind in
        let was : places_by room.reserved w kind ≡ makes kind (m.reserved w) = known.places w kind (subst (λ z. z < 4) same less) in
        let none : makes kind (m.reserved w) ≡ 0 = ap (makes kind) (covered.idle w idle) in
        let number = number_for due kind in
        let now : places_by room'.reserved w kind ≡ makes kind due = omega (arith, more, was, none, number) in
        ap (λ z. places_by room'.reserved z kind) same ∙ now ∙ sym (ap (makes kind) (put_at w v due m.reserved same))
    by v kind less (inr apart) = reserves.others v kind apart ∙ known.places v kind less ∙ sym (ap (makes kind) (put_off w v due m.reserved apart))

-- ---- both

pub registers_started : (plan : Ports) (is : IsPlan plan) (workers : ℕ) (capacities : List ℕ) (m : Machine) (sound : IsConsistent plan m) (covered : AreCovered m) (names : registry.Names) (room room' : RoomState) (known : Registers plan workers capacities names room m) (w : ℕ) (k : Key) (n : Option Row) → w < workers → (begins : MayBegin plan m w (beginning plan k (m.board.applied k) n) (due_first plan names k (m.board.applied k) n)) → (m.board.applied k ≡ None → n ≡ None → ⊥) → Reserves room w (places_for (due_first plan names k (m.board.applied k) n)) room' → Registers plan workers capacities (begun_names plan names w k (m.board.applied k) n) room' (started m w (beginning plan k (m.board.applied k) n) (due_first plan names k (m.board.applied k) n))
registers_started plan is workers capacities m sound covered names room room' known w k n less begins differs reserves = record {
  names_known = names_now plan is m sound names known.names_known w k n begins differs;
  room_known = room_now capacities m w (beginning plan k (m.board.applied k) n) (due_first plan names k (m.board.applied k) n) room room' covered begins.idle known.room_known reserves;
  few = known.few;
  below = begun_facts.below_now plan is m sound w (beginning plan k (m.board.applied k) n) (due_first plan names k (m.board.applied k) n) begins (λ v. v < workers) less known.below;
  retiring = begun_facts.retiring_now plan is m sound w (beginning plan k (m.board.applied k) n) (due_first plan names k (m.board.applied k) n) begins known.retiring;
}
