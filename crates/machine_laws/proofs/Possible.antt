-- at rest a key waits with a reason, or can begin
use Rattle.std.proofs.Common.{◌≡◌, ◌⊎◌, ◌∷◌, ◌∙◌, inl, inr, ℕ, true, List, [], Option, None, Some, is_some, option_map, refl, sym, ap, subst}
use Rattle.std.proofs.lemmas.Option.{same_Some}
use Rattle.swss_types.specs.declared.address.Ip.{Ip}
use Rattle.swss_types.specs.declared.interface.IfName.{IfName}
use Rattle.swss_types.specs.declared.vrf.Vrf.{Vrf}
use Rattle.swss_types.specs.declared.vrf.Vrf.TheVariants as vrf
use Rattle.swss_types.proofs.Choices.{some_by as there}
use Rattle.table_schema.specs.Fields.{Pairs}
use Rattle.table_schema.specs.Names as written
use Rattle.table_schema.specs.Names.{base_names, router_names}
use Rattle.table_schema.specs.Plan.{IsPlan, Ports}
use Rattle.table_schema.specs.declared.key.Key.{Key}
use Rattle.table_schema.specs.declared.key.Key.TheVariants as key
use Rattle.table_schema.specs.declared.row.Row.{Row as BareRow}
use Rattle.table_schema.specs.declared.row.Row.TheVariants as bare_row
use Rattle.sai_types.specs.declared.ids.Rid.{Rid}
use Rattle.sai_types.specs.declared.thing.Thing.{Thing}
use Rattle.sai_types.specs.declared.thing.Thing.TheVariants as thing
use Rattle.sai_types.specs.Alike.{IsIn}
use Rattle.switch_model.specs.Desired.{have_rows}
use Rattle.switch_model.specs.Good.{TypedRows, good_row}
use Rattle.switch_model.specs.Placed as row
use Rattle.switch_model.specs.Placed.{Placed as Row, bare, bare_rows, place, placed_names as names_of, router_in, router_of_row}
use Rattle.sai_types.specs.Names.{name_of}
use Rattle.sai_types.proofs.Membership.{in-right}
use Rattle.row_layout.specs.Rows as owner
use Rattle.row_layout.specs.Rows.{Owner}
use Rattle.row_layout.specs.Shared.{shared_things}
use Rattle.row_layout.specs.Operations.{Change, own_changes, uses_of}
use Rattle.switch_machine.specs.Events.{SwitchState, IsSafe, IsQuiet, placed_good}
use Rattle.switch_machine.specs.Flights.{Fits, MachineFlight, IsFirm, IsRow, IsShared, IsUser, Machine, goes_over}
use Rattle.switch_machine.specs.Operations.{MayBegin, built_first}
use Rattle.switch_machine.specs.Consistent.{IsUsedOrRetired, IsConsistent}
use Rattle.switch_machine.specs.Tables.{TableLaws}
use Rattle.switch_machine.specs.Written.{good_of}
use Rattle.switch_machine.proofs.Ordered.{ordered}
use Rattle.switch_machine.proofs.Placing.{IsInRouter, held_bare, names_in, names_out, placed_row, router_row, row_of}
use Rattle.switch_machine.proofs.Reasoned.{closed}
use Rattle.switch_machine.proofs.Splits.{name_split}
use Rattle.switch_machine.proofs.Tabled.{tabled}
use Rattle.machine_laws.specs.Reading.{IsOnSwitch}
use Rattle.machine_laws.proofs.Deciding.{IsDecided, any_decided, in_split}
use Rattle.machine_laws.proofs.Fitting.{fits-good}
use Rattle.machine_laws.proofs.Rows.{has_row}

module _ (plan : Ports) (is : IsPlan plan) (m : Machine) (sound : IsConsistent plan m) (quiet : (w : ℕ) (f : MachineFlight) → m.board.flights w ≡ Some f → ⊥) where
  T : TableLaws plan
  T = tabled plan is

  first_shared : (o : Owner) → IsShared o → (x : Thing) × IsIn x (shared_things o)
  first_shared (owner.OfRow k) h = elim h [ ]
  first_shared (owner.Bridge lane) h = (thing.BridgePort lane, inl refl)
  first_shared (owner.Own v ip) h = (thing.Own v ip, inl refl)
  first_shared (owner.Group hops) h = (thing.Group hops, inl refl)

  -- whether what is shared has a user shows in what stands
  user_or : (o : Owner) → IsShared o → ((k : Key) × IsUser plan m.board k o) ⊎ ((k : Key) → IsUser plan m.board k o → ⊥)
  user_or o shared = by (first_shared o shared)
    where
      held : IsUsedOrRetired plan m.board o → (k : Key) × IsUser plan m.board k o
      held (inl h) = h
      held (inr (w, f, at, h)) = absurd (quiet w f at)

      by : ((x : Thing) × IsIn x (shared_things o)) → ((k : Key) × IsUser plan m.board k o) ⊎ ((k : Key) → IsUser plan m.board k o → ⊥)
      by (x, in_it) = found (any_decided (λ (v : Rid × Thing). name_of v.1 ≡ name_of x) (λ v. name_split (name_of v.1) (name_of x)) m.stands)
        where
          found : IsDecided ((v : Rid × Thing) × IsIn v m.stands × (name_of v.1 ≡ name_of x)) → ((k : Key) × IsUser plan m.board k o) ⊎ ((k : Key) → IsUser plan m.board k o → ⊥)
          found (inl (v, at, named)) = inl (held (sound.held o v.1 (v.0, at) (ap (owner.owner_of plan) named ∙ T.shared o x in_it) shared).1)
          found (inr out) = inr (λ k user. let y = sound.whole k o x user (λ w f at t. quiet w f at) in_it in out ((y.0, x), y.1, refl))

  abbrev AreOne : List Owner → Type 0
  AreOne xs = (o p : Owner) → IsIn o xs → IsIn p xs → o ≡ p

  no_owner : {X : Type 0} (o : Owner) → None ≡ Some o → X
  no_owner o h = absurd cc

  -- what it has to leave
  record Leaving (xs ys : List Owner) : Type 0 where
    leaves : Option Owner
    of : (o : Owner) → leaves ≡ Some o → IsIn o xs × (IsIn o ys → ⊥)
    covers : (o : Owner) → IsIn o xs → IsIn o ys ⊎ (leaves ≡ Some o)

  leaving : (xs ys : List Owner) → AreOne xs → Leaving xs ys
  leaving [] ys one = record { leaves = None; of = λ o h. no_owner o h; covers = λ o h. elim h [ ] }
  leaving (x ∷ xs) ys one = by (in_split x ys)
    where
      by : IsDecided (IsIn x ys) → Leaving (x ∷ xs) ys
      by (inl h) = record { leaves = None; of = λ o e. no_owner o e; covers = λ o at. inl (subst (λ z. IsIn z ys) (one x o (inl refl) at) h) }
      by (inr out) = record { leaves = Some x; of = λ o e. (inl (sym (same_Some x o e)), λ h. out (subst (λ z. IsIn z ys) (sym (same_Some x o e)) h)); covers = λ o at. inr (ap Some (one x o (inl refl) at)) }

  -- what it has to build
  record Building (ys : List Owner) : Type 0 where
    builds : Option Owner
    built : (o : Owner) → builds ≡ Some o → IsIn o ys × ((k : Key) → IsUser plan m.board k o → ⊥)
    found : builds ≡ None → (o : Owner) → IsIn o ys → (k : Key) × IsUser plan m.board k o

  building : (ys : List Owner) → AreOne ys → ((o : Owner) → IsIn o ys → IsShared o) → Building ys
  building [] one shared = record { builds = None; built = λ o e. no_owner o e; found = λ e o h. elim h [ ] }
  building (y ∷ ys) one shared = by (user_or y (shared y (inl refl)))
    where
      by : ((k : Key) × IsUser plan m.board k y) ⊎ ((k : Key) → IsUser plan m.board k y → ⊥) → Building (y ∷ ys)
      by (inl (k, user)) = record { builds = None; built = λ o e. no_owner o e; found = λ e o at. (k, subst (IsUser plan m.board k) (one y o (inl refl) at) user) }
      by (inr out) = record { builds = Some y; built = λ o e. (inl (sym (same_Some y o e)), λ k user. out k (subst (IsUser plan m.board k) (sym (same_Some y o e)) user)); found = λ e. no_owner y (sym e) }

  flies_never : (o : Option MachineFlight) → ((f : MachineFlight) → o ≡ Some f → ⊥) → o ≡ None
  flies_never None never = refl
  flies_never (Some f) never = absurd (never f refl)

  one_of : (k : Key) (o : Option Row) → AreOne (uses_of plan k o)
  one_of k None a b h g = elim h [ ]
  one_of k (Some r) a b h g = (ordered plan is).one_use k r a b h g

  shared_of : (k : Key) (o : Option Row) (p : Owner) → IsIn p (uses_of plan k o) → IsShared p
  shared_of k None p h = elim h [ ]
  shared_of k (Some r) p h = T.are_shared k r p h

  -- at rest a key whose row fits, and whose names are applied or which nothing names, can begin, where its own changes are given
  pub can-begin : (w : ℕ) (k : Key) (new : Option Row) → ((r : Row) → new ≡ Some r → Fits plan k r) → ((p : Key) (r : Row) → new ≡ Some r → IsIn p (names_of k r) → is_some (m.board.applied p) ≡ true) → ((n : IfName) (ip : Ip) (len : ℕ) (v u : Vrf) → k ≡ key.Addr n ip len → new ≡ Some (row.Addr v) → m.board.applied (key.Intf n) ≡ Some (row.Intf u) → v ≡ u) → (goes_over k (m.board.applied k) new ≡ true → (q : Key) (r : Row) → m.board.applied q ≡ Some r → IsIn k (names_of q r) → ⊥) → (f : MachineFlight) × (due : List Change) × (f.key ≡ k) × (f.new ≡ new) × MayBegin plan m w f due
  can-begin w k new fit named inside unnamed =
      let l = leaving (uses_of plan k (m.board.applied k)) (uses_of plan k new) (one_of k (m.board.applied k)) in
      let b = building (uses_of plan k new) (one_of k new) (shared_of k new) in (
        record { key = k; new = new; leaves = l.leaves; retires = None; goes = goes_over k (m.board.applied k) new },
        built_first b.builds (own_changes plan k (m.board.applied k) new),
        refl,
        refl,
        record {
          idle = flies_never (m.board.flights w) (quiet w);
          rests = λ v f at e. quiet v f at;
          fit = fit;
          named = λ p r e h. firm p (there (m.board.applied p) (named p r e h));
          goes = refl;
          inside = inside;
          unnamed = λ goes q r at h. unnamed_by goes q r h at;
          free = λ o h v g at. absurd (quiet v g at);
          none = refl;
          leaves = l.of;
          covers = l.covers;
          operation = record { builds = b.builds; is = refl; built = b.built; found = b.found };
        },
      )
    where
      firm : (p : Key) → ((r : Row) × (m.board.applied p ≡ Some r)) → IsFirm m.board p
      firm p (r, at) = record { row = r; applied = at; stays = λ v f there e none. quiet v f there }

      unnamed_by : goes_over k (m.board.applied k) new ≡ true → (q : Key) (r : Row) → IsIn k (names_of q r) → IsRow m.board q r → ⊥
      unnamed_by goes q r h (inl at) = unnamed goes q r at h
      unnamed_by goes q r h (inr (v, f, at, same, that)) = quiet v f at

-- what a good row names fits, where all of it is applied
module _ (plan : Ports) (is : IsPlan plan) (workers : ℕ) (capacities : List ℕ) (s : SwitchState) (k : Key) (kept : IsSafe plan workers capacities s) (on : IsOnSwitch k) where
  abbrev rows_applied : TypedRows
  rows_applied = bare_rows s.machine.board.applied

  bare_fit : (q : Key) (y : Row) → Fits plan q y → Fits plan q (place vrf.Default (bare y))
  bare_fit (key.Addr n ip len) (row.Addr v) h = h
  bare_fit q (row.Addr v) h = elim h [ ]
  bare_fit q _ h = h

  fit_rows : (q : Key) (x : BareRow) → rows_applied q ≡ Some x → Fits plan q (place vrf.Default x)
  fit_rows q x at = let y = row_of (s.machine.board.applied q) x at in subst (λ z. Fits plan q (place vrf.Default z)) y.2 (bare_fit q y.0 (kept.sound.board.fit q y.0 (inl y.1)))

  fit_by : (o : Option Pairs) (x : BareRow) → good_row plan k o ≡ Some x → have_rows rows_applied (written.names_of k x) ≡ true → Fits plan k (place (router_in rows_applied k) x)
  fit_by None x h names = absurd cc
  fit_by (Some fields) x h names = fits-good plan rows_applied fit_rows (closed plan is workers capacities s kept) k fields x (router_in rows_applied k) on h names

  pub fits-placed : (r : Row) → placed_good plan s.machine.board s.written k ≡ Some r → have_rows rows_applied (written.names_of k (bare r)) ≡ true → Fits plan k r
  fits-placed r at names =
      let good = placed_row (router_in rows_applied k) (good_of plan s.written k) r at in
      subst (Fits plan k) (same_Some (place (router_in rows_applied k) (bare r)) r (ap (option_map (place (router_in rows_applied k))) (sym good) ∙ at)) (fit_by (s.written.rows k) (bare r) good names)

-- at rest a key that is neither missing a name nor held can begin
pub begin-free : (plan : Ports) (is : IsPlan plan) (workers : ℕ) (capacities : List ℕ) (s : SwitchState) (w : ℕ) (k : Key) → IsSafe plan workers capacities s → IsQuiet s → IsOnSwitch k → ((r : BareRow) → good_of plan s.written k ≡ Some r → have_rows (bare_rows s.machine.board.applied) (written.names_of k r) ≡ true) → (goes_over k (s.machine.board.applied k) (placed_good plan s.machine.board s.written k) ≡ true → (q : Key) (r : BareRow) → bare_rows s.machine.board.applied q ≡ Some r → IsIn k (written.names_of q r) → ⊥) → (f : MachineFlight) × (due : List Change) × (f.key ≡ k) × (f.new ≡ placed_good plan s.machine.board s.written k) × MayBegin plan s.machine w f due
begin-free plan is workers capacities s w k kept quiet on ready free =
    can-begin plan is s.machine kept.sound quiet w k (placed_good plan s.machine.board s.written k) fit named inside unnamed
  where
    rows : TypedRows
    rows = bare_rows s.machine.board.applied

    fit : (r : Row) → placed_good plan s.machine.board s.written k ≡ Some r → Fits plan k r
    fit r at = fits-placed plan is workers capacities s k kept on r at (ready (bare r) (placed_row (router_in rows k) (good_of plan s.written k) r at))

    router_is : (o : Option BareRow) (r : Row) (v : Vrf) → option_map (place (router_in rows k)) o ≡ Some r → r ≡ row.Addr v → router_in rows k ≡ v
    router_is None r v e is = absurd cc
    router_is (Some bare_row.Addr) r v e is = let same : row.Addr (router_in rows k) ≡ row.Addr v = same_Some (row.Addr (router_in rows k)) r e ∙ is in cc
    router_is (Some x) r v e is = absurd cc

    named : (p : Key) (r : Row) → placed_good plan s.machine.board s.written k ≡ Some r → IsIn p (names_of k r) → is_some (s.machine.board.applied p) ≡ true
    named p r e h = by (names_out k r p h)
      where
        good : good_of plan s.written k ≡ Some (bare r)
        good = placed_row (router_in rows k) (good_of plan s.written k) r e

        bared : (o : Option Row) → is_some (option_map bare o) ≡ true → is_some o ≡ true
        bared None h = h
        bared (Some y) h = refl

        by : IsIn p (written.names_of k (bare r)) ⊎ IsInRouter k r p → is_some (s.machine.board.applied p) ≡ true
        by (inl h) = bared (s.machine.board.applied p) (has_row rows (written.names_of k (bare r)) p (ready (bare r) good) h)
        by (inr x) =
            let is_router : router_in rows k ≡ x.router = router_is (good_of plan s.written k) r x.router e x.row_is in
            let there : IsIn p (router_names (router_of_row (rows (key.Intf x.on)))) = subst (λ v. IsIn p (router_names v)) (sym (sym (ap (router_in rows) x.key_is) ∙ is_router)) x.named in
            let y = router_row (rows (key.Intf x.on)) p there in
            let z = row_of (s.machine.board.applied (key.Intf x.on)) (bare_row.Intf y.0) y.1 in
            ap is_some (kept.sound.board.named (key.Intf x.on) p z.0 (inl z.1) (names_in (key.Intf x.on) z.0 p (subst (λ r. IsIn p (written.names_of (key.Intf x.on) r)) (sym z.2) (in-right p (base_names x.on) (router_names y.0) y.2)))).applied

    inside : (n : IfName) (ip : Ip) (len : ℕ) (v u : Vrf) → k ≡ key.Addr n ip len → placed_good plan s.machine.board s.written k ≡ Some (row.Addr v) → s.machine.board.applied (key.Intf n) ≡ Some (row.Intf u) → v ≡ u
    inside n ip len v u same e at = sym (router_is (good_of plan s.written k) (row.Addr v) v e refl) ∙ ap (router_in rows) same ∙ ap (λ o. router_of_row (option_map bare o)) at

    unnamed : goes_over k (s.machine.board.applied k) (placed_good plan s.machine.board s.written k) ≡ true → (q : Key) (r : Row) → s.machine.board.applied q ≡ Some r → IsIn k (names_of q r) → ⊥
    unnamed goes q r at h = let x = held_bare plan s.machine.board kept.sound.board q k r at h in free goes x.0 x.1 x.2 x.3
