-- the registry stands for the machine with the names after a change
use Rattle.std.proofs.Common.{◌≡◌, ◌∷◌, ◌∙◌, inl, inr, ℕ, List, [], Option, None, Some, option_map, refl, sym, ap, subst}
use Rattle.std.proofs.lemmas.Option.{same_Some}
use Rattle.swss_types.proofs.Proper.{mapped}
use Rattle.table_schema.specs.Fields.{HasRisingKeys}
use Rattle.table_schema.specs.Plan.{IsPlan, Ports, port_named}
use Rattle.table_schema.specs.declared.key.Key.{Key}
use Rattle.table_schema.specs.declared.key.Key.TheVariants as key
use Rattle.sai_types.specs.declared.ids.Rid.{Rid}
use Rattle.sai_types.specs.declared.ids.Vid.{Vid}
use Rattle.sai_types.specs.declared.thing.Thing.{Thing}
use Rattle.sai_types.specs.declared.thing.Thing.TheVariants as thing
use Rattle.sai_types.specs.Alike.{IsIn}
use Rattle.sai_types.specs.Names as thing_name
use Rattle.sai_types.specs.Names.{ThingName, name_of}
use Rattle.switch_model.specs.Placed.{Placed as Row}
use Rattle.row_layout.specs.Operations.{Change, Make, Set, Take, uses_of}
use Rattle.row_layout.specs.Rows as owner
use Rattle.row_layout.specs.Rows.{Owner, interface_on}
use Rattle.row_layout.specs.Shared.{shared_things}
use Rattle.switch_machine.specs.Changes.{after, changed_name}
use Rattle.switch_machine.specs.Consistent.{IsConsistent}
use Rattle.switch_machine.specs.Flights.{Can, Fits, MachineFlight, Goes, HasChangeOf, IsConcern, IsOwnedBy, IsShared, Machine, Runs, StandsIn}
use Rattle.switch_machine.specs.Steps.{Moves, moved}
use Rattle.switch_machine.specs.Tables.{TableLaws}
use Rattle.switch_machine.proofs.Moving.{fit_of}
use Rattle.switch_machine.proofs.Running.{final-concern, one_owner, shared_of, shared_row}
use Rattle.switch_machine.proofs.Splits.{use_row_in}
use Rattle.switch_machine.proofs.Tabled.{are_shared_by, tabled}
use Rattle.ref_counts.specs.Registry as registry
use Rattle.ref_counts.specs.Registry.{gone_from, registered_name_cmp}
use Rattle.ref_counts.specs.declared.name.Name.TheVariants as name
use Rattle.orch_flight.specs.Needing.{name_for}
use Rattle.ref_counts.specs.Room.{RoomState}
use Rattle.orch_flight.specs.Taking.{names_after, to_list}
use Rattle.registry_laws.specs.Answering.{IsOfGroup, MakesRowLive}
use Rattle.registry_laws.specs.Registers.{Registers, made_live_at}
use Rattle.registry_laws.proofs.Begun.{untouched_whole}
use Rattle.registry_laws.proofs.Moved.{gone_moved, row_moved, same_moved, shared_moved}

-- of what is gone nothing more is due
module _ (plan : Ports) (tables : TableLaws plan) (f : MachineFlight) (fit : (r : Row) → f.new ≡ Some r → Fits plan f.key r) (o : Owner) (shared : IsShared o) (unused : IsIn o (uses_of plan f.key f.new) → ⊥) where
  abbrev IsGone : (Thing → Type 0) → Type 0
  IsGone V = (u : Thing) → V u → IsOwnedBy plan (name_of u) o → ⊥

  not_its : (V : Thing → Type 0) (c : Change) → IsGone V → Can plan f V c → IsOwnedBy plan (changed_name c) o → ⊥
  not_its V (Make t) gone can of = unused (shared_of plan tables f fit t o of shared can.final).0
  not_its V (Set t) gone can of = shared_row o f.key shared (one_owner plan (name_of t) o (owner.OfRow f.key) of can.own)
  not_its V (Take n) gone can of = let there = can.there in gone there.0 there.1 (subst (λ z. IsOwnedBy plan z o) (sym there.2) of)

  gone_after : (V : Thing → Type 0) (c : Change) → IsGone V → Can plan f V c → IsGone (λ u. after c (V u) u)
  gone_after V (Make t) gone can u (inl h) of = gone u h of
  gone_after V (Make t) gone can u (inr e) of = not_its V (Make t) gone can (subst (λ z. IsOwnedBy plan (name_of z) o) e of)
  gone_after V (Set t) gone can u (inl h) of = gone u h.0 of
  gone_after V (Set t) gone can u (inr e) of = not_its V (Set t) gone can (subst (λ z. IsOwnedBy plan (name_of z) o) e of)
  gone_after V (Take n) gone can u h of = gone u h.0 of

  untouched_gone : (cs : List Change) (V : Thing → Type 0) → Runs plan f V cs → IsGone V → HasChangeOf plan cs o → ⊥
  untouched_gone [] V runs gone t = elim t.1 [ ]
  untouched_gone (c ∷ cs) V runs gone (d, inl is, of) = not_its V c gone runs.0 (subst (λ z. IsOwnedBy plan (changed_name z) o) is of)
  untouched_gone (c ∷ cs) V runs gone (d, inr h, of) = untouched_gone cs (λ u. after c (V u) u) runs.1 (gone_after V c gone runs.0) (d, h, of)

-- a name of a row's things
module _ (plan : Ports) where
  abbrev pub IsRowName : ThingName → Type 0
  IsRowName n = (o : Owner) → IsShared o → IsOwnedBy plan n o → ⊥

  pub mapped_row : {X : Type 0} (g : X → Key) (x : Option X) (o : Owner) → IsShared o → option_map (λ z. owner.OfRow (g z)) x ≡ Some o → ⊥
  mapped_row g x o shared h = let m = mapped (λ z. owner.OfRow (g z)) x o h in shared_row o (g m.0) shared (sym m.2)

  pub some_row : (k : Key) (o : Owner) → IsShared o → Some (owner.OfRow k) ≡ Some o → ⊥
  some_row k o shared h = shared_row o k shared (sym (same_Some (owner.OfRow k) o h))

module _ (plan : Ports) (is : IsPlan plan) (workers : ℕ) (capacities : List ℕ) (m : Machine) (sound : IsConsistent plan m) (names : registry.Names) (room : RoomState) (known : Registers plan workers capacities names room m) (rising : HasRisingKeys registered_name_cmp names) (w : ℕ) (f : MachineFlight) (cs : List Change) (stands : List (Rid × Thing)) where
  abbrev T : TableLaws plan
  T = tabled plan is

  abbrev IsStill : registry.Names → Type 0
  IsStill names' = Registers plan workers capacities names' room (moved m w cs stands)

  module _ (c : Change) (moves : Moves m w f c cs stands) where
    fit : (r : Row) → f.new ≡ Some r → Fits plan f.key r
    fit = fit_of plan T m sound w f moves.flying

    runs : Runs plan f (StandsIn m) (c ∷ cs)
    runs = subst (Runs plan f (StandsIn m)) moves.due (sound.runs w f moves.flying)

    -- of a row
    of_row : IsRowName plan (changed_name c) → IsStill names
    of_row row = same_moved plan m w f c cs stands moves workers capacities names room known (λ o shared of. absurd (row o shared of))

    unused : (o : Owner) → f.retires ≡ Some o → IsIn o (uses_of plan f.key f.new) → ⊥
    unused o retires h = sound.board.unused w f f.key o moves.flying retires (inl (w, f, moves.flying, refl, inl h))

    -- the only thing of what is shared is made
    not_retired : (o : Owner) → IsOwnedBy plan (changed_name c) o → IsIn o (uses_of plan f.key f.new) → f.retires ≡ None
    not_retired o of used = by f.retires refl
      where
        by : (x : Option Owner) → f.retires ≡ x → f.retires ≡ None
        by None e = e
        by (Some p) e =
            let its = known.retiring w f p c moves.flying e (subst (IsIn c) (sym moves.due) (inl refl)) in
            absurd (unused o (e ∙ ap Some (one_owner plan (changed_name c) p o its of)) used)

    made_whole : (o : Owner) → IsShared o → IsOwnedBy plan (changed_name c) o → IsIn o (uses_of plan f.key f.new) → ((u : Thing) → IsIn u (shared_things o) → after c (StandsIn m u) u) → HasChangeOf plan cs o → ⊥
    made_whole o shared of used whole t = untouched_whole plan T f fit (not_retired o of used) o shared cs (λ u. after c (StandsIn m u) u) runs.1 whole t

    own_name : IsRowName plan (changed_name c) → IsConcern plan f (changed_name c) → IsOwnedBy plan (changed_name c) (owner.OfRow f.key)
    own_name row (o, of, inl e) = subst (IsOwnedBy plan (changed_name c)) e of
    own_name row (o, of, inr (inl h)) = let r = use_row_in plan f.key f.new o h in absurd (row o (are_shared_by plan is f.key r.0 o r.2) of)
    own_name row (o, of, inr (inr e)) = let was = sound.board.left w f o moves.flying e in absurd (row o (are_shared_by plan is f.key was.row o was.used) of)

  -- a thing of a row is made, by which its name becomes live
  live_row : (t : Thing) (moves : Moves m w f (Make t) cs stands) (ids : List Vid) → IsRowName plan (name_of t) → (cs ≡ []) × (r : Row) × (f.new ≡ Some r) → IsStill (made_live_at names (name.Row f.key) ids)
  live_row t moves ids row (e, r, new) =
      let own = own_name (Make t) moves row (final-concern plan T f (fit (Make t) moves) t (runs (Make t) moves).0.final) in
      by (λ last. row_moved plan m w f (Make t) stands last workers capacities names room known own r new ids) e moves
    where
      by : (Moves m w f (Make t) [] stands → Registers plan workers capacities (made_live_at names (name.Row f.key) ids) room (moved m w [] stands)) → cs ≡ [] → Moves m w f (Make t) cs stands → IsStill (made_live_at names (name.Row f.key) ids)
      by g e = subst (λ z. Moves m w f (Make t) z stands → Registers plan workers capacities (made_live_at names (name.Row f.key) ids) room (moved m w z stands)) (sym e) g

  -- the only thing of what is shared is made
  live_shared : (t : Thing) (moves : Moves m w f (Make t) cs stands) (o : Owner) (ids : List Vid) → IsShared o → IsOwnedBy plan (name_of t) o → shared_things o ≡ t ∷ [] → IsStill (made_live_at names (name_for o) ids)
  live_shared t moves o ids shared of one =
      let final = shared_of plan T f (fit (Make t) moves) t o of shared (runs (Make t) moves).0.final in
      shared_moved plan m w f (Make t) cs stands moves workers capacities names room known is sound o shared of
      (made_whole (Make t) moves o shared of final.0 (λ u h. inr (only u (subst (IsIn u) one h))))
      (λ retires. unused (Make t) moves o retires final.0) ids
    where
      only : (u : Thing) → IsIn u (t ∷ []) → u ≡ t
      only u (inl e) = e
      only u (inr h) = elim h [ ]

  -- the only thing of what is shared is taken away
  gone_shared : (n : ThingName) (moves : Moves m w f (Take n) cs stands) (o : Owner) (t : Thing) → IsShared o → IsOwnedBy plan n o → shared_things o ≡ t ∷ [] → name_of t ≡ n → IsStill (gone_from names (name_for o))
  gone_shared n moves o t shared of one named =
      let retires = goes (runs (Take n) moves).0.goes in
      gone_moved plan m w f (Take n) cs stands moves workers capacities names room known is sound o shared of
      (untouched_gone plan T f (fit (Take n) moves) o shared (unused (Take n) moves o retires) cs (λ u. after (Take n) (StandsIn m u) u) (runs (Take n) moves).1 (λ u h at. h.1 (ap name_of (only u (subst (IsIn u) one (sound.held o u h.0 at shared).0)) ∙ named)))
      retires rising
    where
      only : (u : Thing) → IsIn u (t ∷ []) → u ≡ t
      only u (inl e) = e
      only u (inr h) = elim h [ ]

      goes : Goes plan f n → f.retires ≡ Some o
      goes (inl own) = absurd (shared_row o f.key shared (one_owner plan n o (owner.OfRow f.key) of own.0))
      goes (inr (p, its, e)) = e ∙ ap Some (one_owner plan n p o its of)

  made_answered : (t : Thing) (moves : Moves m w f (Make t) cs stands) (made : Option Vid) → (IsOfGroup plan (Make t) → ⊥) → (MakesRowLive (Make t) → (cs ≡ []) × (r : Row) × (f.new ≡ Some r)) → IsStill (names_after names f.key (Make t) made)
  made_answered (thing.Port p) moves made group last = live_row (thing.Port p) moves (to_list made) (λ o shared h. mapped_row plan key.Port (port_named plan _) o shared h) (last tt)
  made_answered (thing.Vlan v) moves made group last = live_row (thing.Vlan v) moves (to_list made) (λ o shared h. some_row plan (key.Vlan v) o shared h) (last tt)
  made_answered (thing.VirtualRouter label) moves made group last = live_row (thing.VirtualRouter label) moves (to_list made) (λ o shared h. some_row plan (key.Vrf label) o shared h) (last tt)
  made_answered (thing.BridgePort lane) moves made group last = live_shared (thing.BridgePort lane) moves (owner.Bridge lane) (to_list made) tt refl refl
  made_answered (thing.VlanMember v lane x) moves made group last = live_row (thing.VlanMember v lane x) moves (to_list made) (λ o shared h. mapped_row plan (key.Member v) (port_named plan lane) o shared h) (last tt)
  made_answered (thing.Rif b v) moves made group last = live_row (thing.Rif b v) moves (to_list made) (λ o shared h. mapped_row plan key.Intf (interface_on plan b) o shared h) (last tt)
  made_answered (thing.Own v ip) moves made group last = live_shared (thing.Own v ip) moves (owner.Own v ip) [] tt refl refl
  made_answered (thing.Neighbor hop mac) moves made group last = of_row (Make (thing.Neighbor hop mac)) moves (λ o shared h. mapped_row plan (λ n. key.Neigh n hop.ip) (interface_on plan hop.on) o shared h)
  made_answered (thing.NextHop hop) moves made group last = live_row (thing.NextHop hop) moves (to_list made) (λ o shared h. mapped_row plan (λ n. key.Neigh n hop.ip) (interface_on plan hop.on) o shared h) (last tt)
  made_answered (thing.Group hops) moves made group last = absurd (group (hops, refl))
  made_answered (thing.GroupMember hops hop) moves made group last = absurd (group (hops, refl))
  made_answered (thing.Route v prefix goal) moves made group last = of_row (Make (thing.Route v prefix goal)) moves (λ o shared h. some_row plan (key.Route v prefix) o shared h)

  taken_answered : (n : ThingName) (moves : Moves m w f (Take n) cs stands) (made : Option Vid) → (IsOfGroup plan (Take n) → ⊥) → IsStill (names_after names f.key (Take n) made)
  taken_answered (thing_name.Port lane) moves made group = of_row (Take (thing_name.Port lane)) moves (λ o shared h. mapped_row plan key.Port (port_named plan lane) o shared h)
  taken_answered (thing_name.Vlan v) moves made group = of_row (Take (thing_name.Vlan v)) moves (λ o shared h. some_row plan (key.Vlan v) o shared h)
  taken_answered (thing_name.VirtualRouter label) moves made group = of_row (Take (thing_name.VirtualRouter label)) moves (λ o shared h. some_row plan (key.Vrf label) o shared h)
  taken_answered (thing_name.BridgePort lane) moves made group = gone_shared (thing_name.BridgePort lane) moves (owner.Bridge lane) (thing.BridgePort lane) tt refl refl refl
  taken_answered (thing_name.VlanMember v lane) moves made group = of_row (Take (thing_name.VlanMember v lane)) moves (λ o shared h. mapped_row plan (key.Member v) (port_named plan lane) o shared h)
  taken_answered (thing_name.Rif b) moves made group = of_row (Take (thing_name.Rif b)) moves (λ o shared h. mapped_row plan key.Intf (interface_on plan b) o shared h)
  taken_answered (thing_name.Own v ip) moves made group = gone_shared (thing_name.Own v ip) moves (owner.Own v ip) (thing.Own v ip) tt refl refl refl
  taken_answered (thing_name.Neighbor hop) moves made group = of_row (Take (thing_name.Neighbor hop)) moves (λ o shared h. mapped_row plan (λ n. key.Neigh n hop.ip) (interface_on plan hop.on) o shared h)
  taken_answered (thing_name.NextHop hop) moves made group = of_row (Take (thing_name.NextHop hop)) moves (λ o shared h. mapped_row plan (λ n. key.Neigh n hop.ip) (interface_on plan hop.on) o shared h)
  taken_answered (thing_name.Group hops) moves made group = absurd (group (hops, refl))
  taken_answered (thing_name.GroupMember hops hop) moves made group = absurd (group (hops, refl))
  taken_answered (thing_name.Route v prefix) moves made group = of_row (Take (thing_name.Route v prefix)) moves (λ o shared h. some_row plan (key.Route v prefix) o shared h)

  pub registers_answered : (c : Change) (moves : Moves m w f c cs stands) (made : Option Vid) → (IsOfGroup plan c → ⊥) → (MakesRowLive c → (cs ≡ []) × (r : Row) × (f.new ≡ Some r)) → IsStill (names_after names f.key c made)
  registers_answered (Make t) moves made group last = made_answered t moves made group last
  registers_answered (Set u) moves made group last = of_row (Set u) moves (λ o shared of. shared_row o f.key shared (one_owner plan (name_of u) o (owner.OfRow f.key) of (runs (Set u) moves).0.own))
  registers_answered (Take n) moves made group last = taken_answered n moves made group
