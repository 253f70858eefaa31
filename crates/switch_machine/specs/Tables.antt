-- What the events need to know of each table's rows, with no table in sight. Own.
use Rattle.std.specs.Prelude.{◌≡◌, ◌⊎◌, ◌∷◌, List, []}
use Rattle.table_schema.specs.Plan.{Ports}
use Rattle.table_schema.specs.declared.key.Key.{Key}
use Rattle.sai_types.specs.declared.thing.Thing.{Thing}
use Rattle.sai_types.specs.Alike.{IsIn}
use Rattle.sai_types.specs.Names.{ThingName, Refers, name_of}
use Rattle.chip_layout.specs.Answered.{AreSame}
use Rattle.switch_model.specs.Placed.{Placed as Row, placed_names as names_of}
use Rattle.row_layout.specs.Operations.{going, shared_going}
use Rattle.row_layout.specs.Rows.{Owner, OfRow, own_things}
use Rattle.row_layout.specs.Shared.{shared_things, uses}
use Rattle.switch_machine.specs.Flights.{Fits, IsOwnedBy, IsShared, own_names}

-- a name is one that a named row gives
pub record IsNamed (plan : Ports) (k : Key) (r : Row) (n : ThingName) : Type 0 where
  pub by : Key
  pub named : IsIn by (names_of k r)
  pub own : IsIn n (own_names plan by)

pub record TableLaws (plan : Ports) : Type 0 where
  pub names : (k : Key) (r : Row) (n : ThingName) → Fits plan k r → IsIn n (own_names plan k) → (t : Thing) × IsIn t (own_things plan k r) × (name_of t ≡ n)
  pub names_own : (k : Key) (n : ThingName) → IsIn n (own_names plan k) → IsOwnedBy plan n (OfRow k)
  pub own : (k : Key) (r : Row) (t : Thing) → Fits plan k r → IsIn t (own_things plan k r) → IsOwnedBy plan (name_of t) (OfRow k)
  pub shared : (o : Owner) (u : Thing) → IsIn u (shared_things o) → IsOwnedBy plan (name_of u) o
  pub are_shared : (k : Key) (r : Row) (o : Owner) → IsIn o (uses plan k r) → IsShared o
  -- what the things of a row refer to is of a row that it names, of the row itself, or of what it shares
  pub own_refers : (k : Key) (r : Row) (t : Thing) (n : ThingName) → Fits plan k r → IsIn t (own_things plan k r) → Refers t n → IsNamed plan k r n ⊎ (IsOwnedBy plan n (OfRow k) ⊎ ((o : Owner) × IsOwnedBy plan n o × IsIn o (uses plan k r)))
  -- and what the things refer to that it shares, of a row that it names or shared too
  pub shared_refers : (k : Key) (r : Row) (o : Owner) (u : Thing) (n : ThingName) → Fits plan k r → IsIn o (uses plan k r) → IsIn u (shared_things o) → Refers u n → IsNamed plan k r n ⊎ IsOwnedBy plan n o

-- a thing of this name comes before the thing
abbrev pub ComesBefore : ThingName → Thing → List Thing → Type 0
ComesBefore n t [] = ⊥
ComesBefore n t (x ∷ xs) = ((name_of x ≡ n) × IsIn t xs) ⊎ ComesBefore n t xs

-- no two of the things have one name
abbrev pub AreNamedApart : List Thing → Type 0
AreNamedApart [] = Unit {0}
AreNamedApart (x ∷ xs) = ((y : Thing) → IsIn y xs → name_of y ≡ name_of x → ⊥) × AreNamedApart xs

-- what the orders of changes need to know
pub record Orders (plan : Ports) : Type 0 where
  pub no_self : (k p : Key) (r : Row) → IsIn p (names_of k r) → p ≡ k → ⊥
  pub one_use : (k : Key) (r : Row) (o p : Owner) → IsIn o (uses plan k r) → IsIn p (uses plan k r) → o ≡ p
  pub own_apart : (k : Key) (r : Row) → Fits plan k r → AreNamedApart (own_things plan k r)
  pub own_before : (k : Key) (r : Row) (t : Thing) (n : ThingName) → Fits plan k r → IsIn t (own_things plan k r) → Refers t n → IsOwnedBy plan n (OfRow k) → ComesBefore n t (own_things plan k r)
  pub going_same : (k : Key) (r : Row) → AreSame (going plan k r) (own_things plan k r)
  pub going_apart : (k : Key) (r : Row) → Fits plan k r → AreNamedApart (going plan k r)
  pub going_before : (k : Key) (r : Row) (u t : Thing) → Fits plan k r → IsIn u (own_things plan k r) → IsIn t (own_things plan k r) → Refers u (name_of t) → ComesBefore (name_of u) t (going plan k r)
  -- what a row's thing refers to of what it shares is of it
  pub shared_has : (k : Key) (r : Row) (t : Thing) (n : ThingName) (o : Owner) → Fits plan k r → IsIn t (own_things plan k r) → Refers t n → IsIn o (uses plan k r) → IsOwnedBy plan n o → (u : Thing) × IsIn u (shared_things o) × (name_of u ≡ n)
  pub shared_apart : (k : Key) (r : Row) (o : Owner) → IsIn o (uses plan k r) → AreNamedApart (shared_things o)
  pub shared_before : (k : Key) (r : Row) (o : Owner) (u : Thing) (n : ThingName) → Fits plan k r → IsIn o (uses plan k r) → IsIn u (shared_things o) → Refers u n → IsOwnedBy plan n o → ComesBefore n u (shared_things o)
  pub shared_going_same : (o : Owner) → AreSame (shared_going o) (shared_things o)
  pub shared_going_apart : (k : Key) (r : Row) (o : Owner) → IsIn o (uses plan k r) → AreNamedApart (shared_going o)
  pub shared_going_before : (o : Owner) (u t : Thing) → IsIn u (shared_things o) → IsIn t (shared_things o) → Refers u (name_of t) → ComesBefore (name_of u) t (shared_going o)
