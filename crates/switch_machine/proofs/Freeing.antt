-- a key that nothing hinders may begin, and there is room for it or a first kind lacks it
use Rattle.std.proofs.Common.{◌≡◌, ◌⊎◌, ◌+◌, ◌<◌, ◌≤◌, ◌∷◌, ◌∙◌, inl, inr, ℕ, zero, suc, Bool, true, false, List, [], length, Option, None, Some, get_or, is_some, option_map, refl, sym, ap, ap₂, subst, arith}
use Rattle.std.proofs.lemmas.Bool.{and_parts, cases_order}
use Rattle.std.proofs.lemmas.Option.{same_Some}
use Rattle.swss_types.specs.declared.address.Ip.{Ip}
use Rattle.swss_types.specs.declared.interface.IfName.{IfName}
use Rattle.swss_types.specs.declared.vrf.Vrf.{Vrf}
use Rattle.table_schema.specs.Names as written
use Rattle.table_schema.specs.Names.{base_names, router_names}
use Rattle.table_schema.specs.declared.row.Row.{Row as BareRow}
use Rattle.table_schema.specs.declared.row.Row.TheVariants as bare_row
use Rattle.table_schema.specs.declared.key.Key.TheVariants as key
use Rattle.sai_types.proofs.Membership.{in-right}
use Rattle.table_schema.specs.Plan.{IsPlan, Ports}
use Rattle.table_schema.specs.declared.key.Key.{Key}
use Rattle.sai_types.specs.declared.ids.Rid.{Rid}
use Rattle.sai_types.specs.declared.kind.Kind.{Kind}
use Rattle.sai_types.specs.declared.kind.Kind.TheVariants as kind
use Rattle.sai_types.specs.declared.thing.Thing.{Thing}
use Rattle.sai_types.specs.declared.thing.Thing.TheVariants as thing
use Rattle.sai_types.specs.contracts.thing.ThingEq.TheImpl.Laws as equal_thing
use Rattle.sai_types.specs.Alike.{IsIn}
use Rattle.sai_types.specs.Kinds.{all_kinds}
use Rattle.sai_types.specs.Objects.{level, used}
use Rattle.sai_types.specs.Refusal.{capacity_of}
use Rattle.sai_types.proofs.Levels.{level_within}
use Rattle.switch_model.specs.Placed as row
use Rattle.switch_model.specs.Placed.{Placed as Row, bare, bare_rows, place, placed_names as names_of, router_in, router_of_row}
use Rattle.switch_model.specs.Desired.{have_rows}
use Rattle.switch_model.specs.Good.{TypedRows}
use Rattle.row_layout.specs.Operations.{Change, going, own_changes, same_thing, uses_of}
use Rattle.row_layout.specs.Rows as owner
use Rattle.row_layout.specs.Rows.{Owner}
use Rattle.row_layout.specs.Shared.{shared_things}
use Rattle.switch_machine.specs.Consistent.{IsUsedOrRetired}
use Rattle.switch_machine.specs.Events.{IsSafe, SwitchState, placed_good}
use Rattle.switch_machine.specs.Flights.{Fits, MachineFlight, HasChangeOf, IsFirm, IsRow, IsShared, IsUser, StandsIn, goes_over}
use Rattle.switch_machine.specs.Operations.{MayBegin, built_first}
use Rattle.switch_machine.specs.Places.{HasRoomFor, makes, places_kept}
use Rattle.switch_machine.specs.Reasons.{IsInTheWay, IsRowPrepared, LacksRoom}
use Rattle.switch_machine.specs.Written.{good_of}
use Rattle.sai_types.proofs.Equal.{thing-exact}
use Rattle.switch_machine.proofs.Kept.{no_makes}
use Rattle.switch_machine.proofs.Placing.{IsInRouter, held_bare, names_in, names_out, placed_row, router_row, row_of}
use Rattle.switch_machine.proofs.Sequence.{IsShort, uses_short}
use Rattle.switch_machine.proofs.Single.{kind_at, kind_low, kinds}
use Rattle.switch_machine.proofs.Splits.{IsSplit, owner_split, use_row_in}
use Rattle.switch_machine.proofs.Tabled.{are_shared_by, tabled}

abbrev IsOr : Type 0 → Type 0
IsOr X = X ⊎ (X → ⊥)

-- whether a thing stands
thing_split : (t u : Thing) → IsOr (t ≡ u)
thing_split t u = by (same_thing t u) refl
  where
    by : (b : Bool) → same_thing t u ≡ b → IsOr (t ≡ u)
    by true e = inl (thing-exact t u e)
    by false e = inr (λ h. true_false (sym (equal_thing.laws-law.refl t) ∙ ap (same_thing t) h ∙ e))
      where
        true_false : true ≡ false → ⊥
        true_false h = cc

listed_split : (xs : List (Rid × Thing)) (u : Thing) → IsOr ((i : Rid) × IsIn (i, u) xs)
listed_split [] u = inr (λ h. h.1)
listed_split (x ∷ xs) u = by (thing_split x.1 u) (listed_split xs u)
  where
    pair : Rid → Thing → Rid × Thing
    pair i t = (i, t)

    by : IsOr (x.1 ≡ u) → IsOr ((i : Rid) × IsIn (i, u) xs) → IsOr ((i : Rid) × IsIn (i, u) (x ∷ xs))
    by (inl e) _ = inl (x.0, inl (ap (pair x.0) (sym e)))
    by (inr apart) (inl (i, h)) = inl (i, inr h)
    by (inr apart) (inr out) = inr (λ h. neither h.0 h.1)
      where
        neither : (i : Rid) → ((i, u) ≡ x) ⊎ IsIn (i, u) xs → ⊥
        neither i (inl e) = apart (sym (ap (λ (y : Rid × Thing). y.1) e))
        neither i (inr h) = out (i, h)

-- what is shared has a thing
pub first_shared : (o : Owner) → IsShared o → (u : Thing) × IsIn u (shared_things o)
first_shared (owner.OfRow k) h = elim h [ ]
first_shared (owner.Bridge lane) h = (thing.BridgePort lane, inl refl)
first_shared (owner.Own v ip) h = (thing.Own v ip, inl refl)
first_shared (owner.Group hops) h = (thing.Group hops, inl refl)

owner_in_split : (o : Owner) (os : List Owner) → IsShort os → IsOr (IsIn o os)
owner_in_split o os (inl e) = inr (λ h. subst (IsIn o) e h)
owner_in_split o os (inr (p, e)) = by (owner_split o p)
  where
    by : IsSplit o p → IsOr (IsIn o os)
    by (inl same) = inl (subst (IsIn o) (sym e) (inl same))
    by (inr apart) = inr (λ h. only (subst (IsIn o) e h))
      where
        only : IsIn o (p ∷ []) → ⊥
        only (inl same) = apart same
        only (inr none) = none

all_have : (rows : TypedRows) (ks : List Key) (p : Key) → have_rows rows ks ≡ true → IsIn p ks → (r : BareRow) × (rows p ≡ Some r)
all_have rows [] p h g = elim g [ ]
all_have rows (k ∷ ks) p h (inr g) = all_have rows ks p (and_parts (is_some (rows k)) (have_rows rows ks) h).1 g
all_have rows (k ∷ ks) p h (inl e) = by (rows k) refl (and_parts (is_some (rows k)) (have_rows rows ks) h).0
  where
    by : (o : Option BareRow) → rows k ≡ o → is_some (rows k) ≡ true → (r : BareRow) × (rows p ≡ Some r)
    by None at t = let z = sym (ap is_some at) ∙ t in absurd cc
    by (Some r) at t = (r, ap rows e ∙ at)

none_owner : {X : Type 0} (o : Owner) → None ≡ Some o → X
none_owner o h = absurd cc

module _ (plan : Ports) (is : IsPlan plan) (workers : ℕ) (capacities : List ℕ) (s : SwitchState) (kept : IsSafe plan workers capacities s) (w : ℕ) (idle : s.machine.board.flights w ≡ None) (k : Key) (prepared : IsRowPrepared plan s k) (clear : (v : ℕ) → IsInTheWay plan s.machine k (placed_good plan s.machine.board s.written k) v → ⊥) (fits : (r : Row) → placed_good plan s.machine.board s.written k ≡ Some r → Fits plan k r) where
  abbrev rows : TypedRows
  rows = bare_rows s.machine.board.applied

  abbrev pub new : Option Row
  new = placed_good plan s.machine.board s.written k

  abbrev pub was : List Owner
  was = uses_of plan k (s.machine.board.applied k)

  abbrev pub now : List Owner
  now = uses_of plan k new

  -- what it has to leave
  pub record Leaving : Type 0 where
    pub leaves : Option Owner
    pub apart : (o : Owner) → leaves ≡ Some o → IsIn o was × (IsIn o now → ⊥)
    pub covers : (o : Owner) → IsIn o was → IsIn o now ⊎ (leaves ≡ Some o)

  pub leaving : Leaving
  leaving = by (uses_short plan k (s.machine.board.applied k))
    where
      by : IsShort was → Leaving
      by (inl e) = record { leaves = None; apart = λ o h. none_owner o h; covers = λ o h. elim (subst (IsIn o) e h) [ ] }
      by (inr (p, e)) = of (owner_in_split p now (uses_short plan k new))
        where
          one : (o : Owner) → IsIn o was → o ≡ p
          one o h = only (subst (IsIn o) e h)
            where
              only : IsIn o (p ∷ []) → o ≡ p
              only (inl same) = same
              only (inr none) = elim none [ ]

          of : IsOr (IsIn p now) → Leaving
          of (inl shares) = record { leaves = None; apart = λ o h. none_owner o h; covers = λ o h. inl (subst (λ z. IsIn z now) (sym (one o h)) shares) }
          of (inr leaves) = record {
            leaves = Some p;
            apart = λ o h. let same = same_Some p o h in (subst (λ z. IsIn z was) same (subst (IsIn p) (sym e) (inl refl)), λ g. leaves (subst (λ z. IsIn z now) (sym same) g));
            covers = λ o h. inr (ap Some (sym (one o h)));
          }

  -- nobody builds or retires what the new row shares
  free_by : (o : Owner) (n : Option Row) → new ≡ n → IsIn o (uses_of plan k n) → (v : ℕ) (g : MachineFlight) → s.machine.board.flights v ≡ Some g → (HasChangeOf plan (s.machine.due v) o → ⊥) × (g.retires ≡ Some o → ⊥)
  free_by o None e h v g at = elim h [ ]
  free_by o (Some r) e h v g at = (
    λ touched. clear v (g, at, inr (r, e, inr (o, h, inl touched))),
    λ retires. clear v (g, at, inr (r, e, inr (o, h, inr retires))),
  )

  free : (o : Owner) → IsIn o now → (v : ℕ) (g : MachineFlight) → s.machine.board.flights v ≡ Some g → (HasChangeOf plan (s.machine.due v) o → ⊥) × (g.retires ≡ Some o → ⊥)
  free o h = free_by o new refl h

  -- what it has to build
  pub record Building : Type 0 where
    pub builds : Option Owner
    pub built : (o : Owner) → builds ≡ Some o → IsIn o now × ((q : Key) → IsUser plan s.machine.board q o → ⊥)
    pub found : builds ≡ None → (o : Owner) → IsIn o now → (q : Key) × IsUser plan s.machine.board q o

  pub building : Building
  building = by (uses_short plan k new)
    where
      by : IsShort now → Building
      by (inl e) = record { builds = None; built = λ o h. none_owner o h; found = λ _ o h. elim (subst (IsIn o) e h) [ ] }
      by (inr (p, e)) = of (listed_split s.machine.stands first.0)
        where
          there : IsIn p now
          there = subst (IsIn p) (sym e) (inl refl)

          shared : IsShared p
          shared = let r = use_row_in plan k new p there in are_shared_by plan is k r.0 p r.2

          first : (u : Thing) × IsIn u (shared_things p)
          first = first_shared p shared

          user : IsUsedOrRetired plan s.machine.board p → (q : Key) × IsUser plan s.machine.board q p
          user (inl h) = h
          user (inr (v, g, at, retires)) = absurd ((free p there v g at).1 retires)

          of : IsOr (StandsIn s.machine first.0) → Building
          of (inl stands) = record {
            builds = None;
            built = λ o h. none_owner o h;
            found = λ _ o h. subst (λ z. (q : Key) × IsUser plan s.machine.board q z) (sym (only o (subst (IsIn o) e h))) (user (kept.sound.held p first.0 stands ((tabled plan is).shared p first.0 first.1) shared).1);
          }
            where
              only : (o : Owner) → IsIn o (p ∷ []) → o ≡ p
              only o (inl same) = same
              only o (inr none) = elim none [ ]
          of (inr absent) = record {
            builds = Some p;
            built = λ o h. subst (λ z. IsIn z now × ((q : Key) → IsUser plan s.machine.board q z → ⊥)) (same_Some p o h) (there, λ q u. absent (kept.sound.whole q p first.0 u (λ v g at touched. (free p there v g at).0 touched) first.1));
            found = λ h. absurd (some_not p h);
          }
            where
              some_not : (o : Owner) → Some o ≡ None → ⊥
              some_not o h = cc

  abbrev pub flight : MachineFlight
  flight = record { key = k; new = new; leaves = leaving.leaves; retires = None; goes = goes_over k (s.machine.board.applied k) new }

  abbrev pub due : List Change
  due = built_first building.builds (own_changes plan k (s.machine.board.applied k) new)

  firm : (p : Key) (r : Row) → new ≡ Some r → IsIn p (names_of k r) → IsFirm s.machine.board p
  firm p r e h = let x = there (names_out k r p h) in record {
    row = x.0;
    applied = x.1;
    stays = λ v g at same goes. clear v (g, at, inr (r, e, inl (goes, subst (λ z. IsIn z (names_of k r)) (sym same) h)));
  }
    where
      good : good_of plan s.written k ≡ Some (bare r)
      good = placed_row (router_in rows k) (good_of plan s.written k) r e

      have : (q : Key) → IsIn q (written.names_of k (bare r)) → (x : BareRow) × (rows q ≡ Some x)
      have q h = all_have rows (written.names_of k (bare r)) q (prepared.named (bare r) good) h

      there : IsIn p (written.names_of k (bare r)) ⊎ IsInRouter k r p → (y : Row) × (s.machine.board.applied p ≡ Some y)
      there (inl h) = let x = have p h in let y = row_of (s.machine.board.applied p) x.0 x.1 in (y.0, y.1)
      -- the router of an address is that of its interface's applied row, which names it
      there (inr x) =
          let is_router : router_in rows k ≡ x.router = router_is (good_of plan s.written k) e x.key_is x.row_is in
          let named : IsIn p (router_names (router_of_row (rows (key.Intf x.on)))) = subst (λ v. IsIn p (router_names v)) (sym (sym (ap (router_in rows) x.key_is) ∙ is_router)) x.named in
          let y = router_row (rows (key.Intf x.on)) p named in
          let z = row_of (s.machine.board.applied (key.Intf x.on)) (bare_row.Intf y.0) y.1 in
          let firm = kept.sound.board.named (key.Intf x.on) p z.0 (inl z.1) (names_in (key.Intf x.on) z.0 p (subst (λ r. IsIn p (written.names_of (key.Intf x.on) r)) (sym z.2) (in-right p (base_names x.on) (router_names y.0) y.2))) in
          (firm.row, firm.applied)
        where
          router_is : (o : Option BareRow) → option_map (place (router_in rows k)) o ≡ Some r → k ≡ key.Addr x.on x.ip x.len → r ≡ row.Addr x.router → router_in rows k ≡ x.router
          router_is None e is row_is = absurd cc
          router_is (Some bare_row.Addr) e is row_is = let same : row.Addr (router_in rows k) ≡ row.Addr x.router = same_Some (row.Addr (router_in rows k)) r e ∙ row_is in cc
          router_is (Some b) e is row_is = absurd cc

  unnamed : goes_over k (s.machine.board.applied k) new ≡ true → (q : Key) (r : Row) → IsRow s.machine.board q r → IsIn k (names_of q r) → ⊥
  unnamed goes q r (inl at) h = let x = held_bare plan s.machine.board kept.sound.board q k r at h in prepared.unheld goes x.0 x.1 x.2 x.3
  unnamed goes q r (inr (v, g, at, same, brings)) h = clear v (g, at, inl (goes, (r, brings, subst (λ z. IsIn k (names_of z r)) (sym same) h)))

  -- an address is to be in the router of its interface's applied row
  inside : (n : IfName) (ip : Ip) (len : ℕ) (v u : Vrf) → k ≡ key.Addr n ip len → new ≡ Some (row.Addr v) → s.machine.board.applied (key.Intf n) ≡ Some (row.Intf u) → v ≡ u
  inside n ip len v u is e at = sym (of (good_of plan s.written k) e) ∙ ap (router_in rows) is ∙ ap (λ o. router_of_row (option_map bare o)) at
    where
      of : (o : Option BareRow) → option_map (place (router_in rows k)) o ≡ Some (row.Addr v) → router_in rows k ≡ v
      of None e = absurd cc
      of (Some bare_row.Addr) e = let same : row.Addr (router_in rows k) ≡ row.Addr v = same_Some (row.Addr (router_in rows k)) (row.Addr v) e in cc
      of (Some b) e = absurd cc

  pub may-begin : MayBegin plan s.machine w flight due
  may-begin = record {
    idle = idle;
    rests = prepared.rests;
    fit = fits;
    named = firm;
    goes = refl;
    inside = inside;
    unnamed = unnamed;
    free = free;
    none = refl;
    leaves = leaving.apart;
    covers = leaving.covers;
    operation = record { builds = building.builds; is = refl; built = building.built; found = building.found };
  }

  -- ---- room

  abbrev IsRoomy : Kind → Type 0
  IsRoomy low = 0 < makes low due → used s.objects low + places_kept workers s.machine low + makes low due ≤ capacity_of capacities low

  abbrev IsFirstLacking : Kind → Type 0
  IsFirstLacking low = (0 < makes low due) × (capacity_of capacities low < used s.objects low + places_kept workers s.machine low + makes low due) × ((lower : Kind) → level lower < level low → IsRoomy lower)

  roomy_split : (low : Kind) → IsRoomy low ⊎ ((0 < makes low due) × (capacity_of capacities low < used s.objects low + places_kept workers s.machine low + makes low due))
  roomy_split low = by (cases_order (makes low due) 0) (cases_order (used s.objects low + places_kept workers s.machine low + makes low due) (capacity_of capacities low))
    where
      by : (makes low due ≡ 0) ⊎ ((makes low due < 0) ⊎ (0 < makes low due)) → ((used s.objects low + places_kept workers s.machine low + makes low due) ≡ capacity_of capacities low) ⊎ (((used s.objects low + places_kept workers s.machine low + makes low due) < capacity_of capacities low) ⊎ (capacity_of capacities low < (used s.objects low + places_kept workers s.machine low + makes low due))) → IsRoomy low ⊎ ((0 < makes low due) × (capacity_of capacities low < used s.objects low + places_kept workers s.machine low + makes low due))
      by (inl none) _ = inl (λ some. absurd (omega (arith, none, some)))
      by (inr (inl less)) _ = inl (λ some. absurd (omega (arith, less)))
      by (inr (inr some)) (inl same) = inl (λ _. omega (arith, same))
      by (inr (inr some)) (inr (inl less)) = inl (λ _. omega (arith, less))
      by (inr (inr some)) (inr (inr more)) = inr (some, more)

  search_kinds : (n : ℕ) → ((low : Kind) → level low < n → IsRoomy low) ⊎ ((low : Kind) × IsFirstLacking low)
  search_kinds zero = inl (λ low h. absurd (omega (arith, h)))
  search_kinds (suc n) = by (search_kinds n)
    where
      is_at : (low : Kind) → level low ≡ n → low ≡ get_or kinds n kind.Port
      is_at low e = sym (kind_at low) ∙ ap (λ z. get_or kinds z kind.Port) e

      by : ((low : Kind) → level low < n → IsRoomy low) ⊎ ((low : Kind) × IsFirstLacking low) → ((low : Kind) → level low < suc n → IsRoomy low) ⊎ ((low : Kind) × IsFirstLacking low)
      by (inr found) = inr found
      by (inl below) = of (roomy_split (get_or kinds n kind.Port))
        where
          place : (low : Kind) → level low < suc n → (level low ≡ n) ⊎ ((level low < n) ⊎ (n < level low)) → IsRoomy (get_or kinds n kind.Port) → IsRoomy low
          place low h (inl e) roomy = subst IsRoomy (sym (is_at low e)) roomy
          place low h (inr (inl less)) roomy = below low less
          place low h (inr (inr more)) roomy = absurd (omega (arith, h, more))

          lower_than : (low : Kind) → level low < level (get_or kinds n kind.Port) → (level (get_or kinds n kind.Port) ≡ n) ⊎ ((level (get_or kinds n kind.Port) < n) ⊎ (n < level (get_or kinds n kind.Port))) → IsRoomy low ⊎ ((n < level (get_or kinds n kind.Port)))
          lower_than low h (inl e) = inl (below low (omega (arith, h, e)))
          lower_than low h (inr (inl less)) = inl (below low (omega (arith, h, less)))
          lower_than low h (inr (inr more)) = inr more

          of : IsRoomy (get_or kinds n kind.Port) ⊎ ((0 < makes (get_or kinds n kind.Port) due) × (capacity_of capacities (get_or kinds n kind.Port) < used s.objects (get_or kinds n kind.Port) + places_kept workers s.machine (get_or kinds n kind.Port) + makes (get_or kinds n kind.Port) due)) → ((low : Kind) → level low < suc n → IsRoomy low) ⊎ ((low : Kind) × IsFirstLacking low)
          of (inl roomy) = inl (λ low h. place low h (cases_order (level low) n) roomy)
          of (inr (some, many)) = inr (get_or kinds n kind.Port, (some, many, λ low h. lower low h (lower_than low h (cases_order (level (get_or kinds n kind.Port)) n))))
            where
              lower : (low : Kind) → level low < level (get_or kinds n kind.Port) → IsRoomy low ⊎ (n < level (get_or kinds n kind.Port)) → IsRoomy low
              lower low h (inl roomy) = roomy
              lower low h (inr more) = absurd (omega (arith, more, kind_low n))

  none_made : (low : Kind) → new ≡ None → makes low due ≡ 0
  none_made low e = ap (makes low) (ap₂ built_first (no_build building.builds refl) (ap (own_changes plan k (s.machine.board.applied k)) e)) ∙ taken (s.machine.board.applied k)
    where
      no_build : (b : Option Owner) → building.builds ≡ b → building.builds ≡ None
      no_build None h = h
      no_build (Some o) h = elim (subst (λ z. IsIn o (uses_of plan k z)) e (building.built o h).0) [ ]

      taken : (old : Option Row) → makes low (own_changes plan k old None) ≡ 0
      taken None = refl
      taken (Some a) = no_makes low (going plan k a)

  pub room-or-none : HasRoomFor workers capacities s.objects s.machine due ⊎ ((low : Kind) × LacksRoom plan workers capacities s k low)
  room-or-none = by new refl (search_kinds (length all_kinds))
    where
      by : (n : Option Row) → new ≡ n → ((low : Kind) → level low < length all_kinds → IsRoomy low) ⊎ ((low : Kind) × IsFirstLacking low) → HasRoomFor workers capacities s.objects s.machine due ⊎ ((low : Kind) × LacksRoom plan workers capacities s k low)
      by n e (inl roomy) = inl (λ low some. roomy low (level_within low) some)
      by None e (inr (low, (some, many, lower))) = let none = none_made low e in absurd (omega (arith, none, some))
      by (Some r) e (inr (low, (some, many, lower))) =
          let good = placed_row (router_in rows k) (good_of plan s.written k) r e in
          inr (low, record { worker = w; flight = flight; due = due; begins = may-begin; is = refl; row = bare r; new = ap (option_map (place (router_in rows k))) good; good = good; some = some; many = many; lower = lower })
