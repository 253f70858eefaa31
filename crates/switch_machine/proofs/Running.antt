-- changes that can be made one after the other
use Rattle.std.proofs.Common.{None, ◌≡◌, ◌⊎◌, ◌∷◌, ◌∙◌, inl, inr, List, Option, [], Some, refl, sym, ap, subst}
use Rattle.std.proofs.lemmas.Option.{same_Some}
use Rattle.table_schema.specs.Plan.{Ports}
use Rattle.table_schema.specs.declared.key.Key.{Key}
use Rattle.sai_types.specs.declared.thing.Thing.{Thing}
use Rattle.sai_types.specs.declared.thing.Thing.TheVariants as thing
use Rattle.sai_types.specs.Alike.{IsIn}
use Rattle.sai_types.specs.Names.{ThingName, name_of}
use Rattle.switch_model.specs.Placed.{Placed as Row}
use Rattle.row_layout.specs.Rows.{Owner, OfRow, own_things}
use Rattle.row_layout.specs.Shared.{shared_things}
use Rattle.row_layout.specs.Operations.{Change, Make, Set, Take, uses_of}
use Rattle.switch_machine.specs.Changes.{IsSettable, Resembles, after, changed_name}
use Rattle.switch_machine.specs.Flights.{Can, Concerns, Fits, MachineFlight, Goes, IsConcern, IsFinal, IsOwnedBy, IsShared, HasChangeOf, Runs}
use Rattle.switch_machine.specs.Tables.{TableLaws}
use Rattle.switch_machine.proofs.Splits.{own_row_in, use_row_in}

pub one_owner : (plan : Ports) (n : ThingName) (o p : Owner) → IsOwnedBy plan n o → IsOwnedBy plan n p → o ≡ p
one_owner plan n o p x y = same_Some o p (sym x ∙ y)

pub no_flight : {X : Type 0} (f : MachineFlight) → None ≡ Some f → X
no_flight f h = absurd cc

pub shared_row : (o : Owner) (k : Key) → IsShared o → o ≡ OfRow k → ⊥
shared_row o k h e = subst IsShared e h

pub row_keys : (k q : Key) → OfRow k ≡ OfRow q → k ≡ q
row_keys k q h = cc

pub in_or : {X : Type 0} (x y : X) (ys : List X) → IsIn x (y ∷ ys) → (x ≡ y) ⊎ IsIn x ys
in_or x y ys h = h

abbrev pub resembles_self : (t : Thing) → Resembles t t
resembles_self t = record { same = inl refl; refers = λ n h. h }

-- a change leaves a thing of another name as it was
pub stays : (c : Change) (X : Type 0) (u : Thing) → (name_of u ≡ changed_name c → ⊥) → X → after c X u
stays (Make t) X u h x = inl x
stays (Set t) X u h x = inl (x, h)
stays (Take n) X u h x = (x, h)

pub stood : (c : Change) (X : Type 0) (u : Thing) → (name_of u ≡ changed_name c → ⊥) → after c X u → X
stood (Make t) X u h (inl x) = x
stood (Make t) X u h (inr is) = absurd (h (ap name_of is))
stood (Set t) X u h (inl x) = x.0
stood (Set t) X u h (inr is) = absurd (h (ap name_of is))
stood (Take n) X u h x = x.0

-- what a change leaves depends on what stood
pub carry : (c : Change) (X Y : Type 0) (u : Thing) → (X → Y) → after c X u → after c Y u
carry (Make t) X Y u f (inl x) = inl (f x)
carry (Make t) X Y u f (inr is) = inr is
carry (Set t) X Y u f (inl x) = inl (f x.0, x.1)
carry (Set t) X Y u f (inr is) = inr is
carry (Take n) X Y u f x = (f x.0, x.1)

-- what can be set has the name that it had
pub settable_name : (t u : Thing) → IsSettable t u → name_of u ≡ name_of t
settable_name (thing.Port p) u (inl h) = ap name_of h.1
settable_name (thing.Port p) u (inr (inl h)) = ap name_of h.1
settable_name (thing.Port p) u (inr (inr h)) = ap name_of h.1
settable_name (thing.VlanMember v l x) u h = ap name_of h.1
settable_name (thing.Neighbor hop m) u h = ap name_of h.1
settable_name (thing.Route v p g) u h = ap name_of h.1
settable_name _ u h = elim h [ ]

-- two views say the same
pub record Agree (V W : Thing → Type 0) (P : Thing → Type 0) : Type 0 where
  pub into : (u : Thing) → P u → V u → W u
  pub back : (u : Thing) → P u → W u → V u

module _ (plan : Ports) (tables : TableLaws plan) (f : MachineFlight) (fit : (r : Row) → f.new ≡ Some r → Fits plan f.key r) where
  pub final-concern : (u : Thing) → IsFinal plan f u → IsConcern plan f (name_of u)
  final-concern u (inl h) =
      let r = own_row_in plan f.key f.new u h in
      (OfRow f.key, tables.own f.key r.0 u (fit r.0 r.1) r.2, inl refl)
  final-concern u (inr h) = (h.0, tables.shared h.0 u h.2, inr (inl h.1))

  pub own_row : (u : Thing) (k : Key) → IsOwnedBy plan (name_of u) (OfRow k) → IsFinal plan f u → (r : Row) × (f.new ≡ Some r) × (f.key ≡ k) × IsIn u (own_things plan k r)
  own_row u k is (inl h) =
      let r = own_row_in plan f.key f.new u h in
      let same = row_keys f.key k (one_owner plan (name_of u) (OfRow f.key) (OfRow k) (tables.own f.key r.0 u (fit r.0 r.1) r.2) is) in
      (r.0, r.1, same, subst (λ q. IsIn u (own_things plan q r.0)) same r.2)
  own_row u k is (inr h) =
      let r = use_row_in plan f.key f.new h.0 h.1 in
      absurd (shared_row h.0 k (tables.are_shared f.key r.0 h.0 r.2) (one_owner plan (name_of u) h.0 (OfRow k) (tables.shared h.0 u h.2) is))

  pub shared_of : (u : Thing) (o : Owner) → IsOwnedBy plan (name_of u) o → IsShared o → IsFinal plan f u → IsIn o (uses_of plan f.key f.new) × IsIn u (shared_things o)
  shared_of u o is shared (inl h) =
      let r = own_row_in plan f.key f.new u h in
      absurd (shared_row o f.key shared (one_owner plan (name_of u) o (OfRow f.key) is (tables.own f.key r.0 u (fit r.0 r.1) r.2)))
  shared_of u o is shared (inr h) =
      let same = one_owner plan (name_of u) h.0 o (tables.shared h.0 u h.2) is in
      (subst (λ p. IsIn p (uses_of plan f.key f.new)) same h.1, subst (λ p. IsIn u (shared_things p)) same h.2)

  abbrev IsMine : Thing → Type 0
  IsMine u = IsConcern plan f (name_of u)

  concern_by : (m n : ThingName) → m ≡ n → IsConcern plan f n → IsConcern plan f m
  concern_by m n e h = subst (IsConcern plan f) (sym e) h

  can_stay : (V W : Thing → Type 0) (c : Change) → Agree V W IsMine → Can plan f V c → Can plan f W c
  can_stay V W (Make t) same can = record {
    final = can.final;
    fresh = λ u h e. can.fresh u (same.back u (concern_by (name_of u) (name_of t) e (final-concern t can.final)) h) e;
    near = λ n refers concern. let x = can.near n refers concern in (x.0, same.into x.0 (concern_by (name_of x.0) n x.2 concern) x.1, x.2);
    whole = λ own o x usage h. same.into x (o, tables.shared o x h, inr (inl usage)) (can.whole own o x usage h);
  }
  can_stay V W (Set t) same can = record {
    own = can.own;
    old = can.old;
    stands = same.into can.old (concern_by (name_of can.old) (name_of t) (sym (settable_name can.old t can.settable)) (OfRow f.key, can.own, inl refl)) can.stands;
    settable = can.settable;
    like = can.like;
    final = can.final;
    resembles = can.resembles;
    near = λ n refers concern. let x = can.near n refers concern in (x.0, same.into x.0 (concern_by (name_of x.0) n x.2 concern) x.1, x.2);
    whole = λ o x usage h. same.into x (o, tables.shared o x h, inr (inl usage)) (can.whole o x usage h);
  }
  can_stay V W (Take n) same can = record {
    goes = can.goes;
    there = let x = can.there in (x.0, same.into x.0 (concern_by (name_of x.0) n x.2 (goes_concern n can.goes)) x.1, x.2);
    unused = λ u concern h refers. can.unused u concern (same.back u concern h) refers;
  }
    where
      goes_concern : (n : ThingName) → Goes plan f n → IsConcern plan f n
      goes_concern n (inl h) = (OfRow f.key, h.0, inl refl)
      goes_concern n (inr h) = (h.0, h.1, inr (inr h.2))

  pub runs-same : (V W : Thing → Type 0) (due : List Change) → Agree V W IsMine → Runs plan f V due → Runs plan f W due
  runs-same V W [] same runs = λ u concern. (λ h. (runs u concern).0 (same.back u concern h), λ h. same.into u concern ((runs u concern).1 h))
  runs-same V W (c ∷ cs) same runs = (
    can_stay V W c same runs.0,
    runs-same (λ u. after c (V u) u) (λ u. after c (W u) u) cs (record {
      into = λ u concern h. carry c (V u) (W u) u (same.into u concern) h;
      back = λ u concern h. carry c (W u) (V u) u (same.back u concern) h;
    }) runs.1,
  )

  -- of an owner of which nothing is due all stands as it is to
  pub untouched : (V : Thing → Type 0) (due : List Change) (o : Owner) → Concerns plan f o → (HasChangeOf plan due o → ⊥) → Runs plan f V due → (u : Thing) → IsOwnedBy plan (name_of u) o → (V u → IsFinal plan f u) × (IsFinal plan f u → V u)
  untouched V [] o concern apart runs u is = runs u (o, is, concern)
  untouched V (c ∷ cs) o concern apart runs u is =
      let other : name_of u ≡ changed_name c → ⊥ = λ e. apart (c, inl refl, subst (λ n. IsOwnedBy plan n o) e is) in
      let rest = untouched (λ x. after c (V x) x) cs o concern (λ t. apart (t.0, inr t.1, t.2)) runs.1 u is in
      (λ h. rest.0 (stays c (V u) u other h), λ h. stood c (V u) u other (rest.1 h))

pub no_retire : (r : Option Owner) (o : Owner) → r ≡ None → r ≡ Some o → ⊥
no_retire r o h g = absurd cc
