-- a row that reads, all of whose names are ready, is ready
use Rattle.std.proofs.Common.{◌≡◌, ℕ, zero, suc, ◌<◌, ◌≤◌, true, List, [], ◌∷◌, Option, None, Some, refl, ap, arith}
use Rattle.std.proofs.lemmas.Bool.{and_from, and_parts}
use Rattle.std.proofs.lemmas.Option.{cond_some}
use Rattle.std.specs.Option.{is_some}
use Rattle.table_schema.specs.Names.{names_of}
use Rattle.table_schema.specs.declared.key.Key.{Key}
use Rattle.table_schema.specs.declared.row.Row.{Row}
use Rattle.switch_model.specs.Desired.{have_rows, ready_below, ready_rows, where_named}
use Rattle.switch_model.specs.Good.{TypedRows}
use Rattle.switch_model.specs.Levels.{level_of}
use Rattle.switch_model.proofs.Ready.{AreBelow, low, names_below}

-- below a level, whatever one has rows of the other has a row of
abbrev AreMoreBelow : ℕ → TypedRows → TypedRows → Type 0
AreMoreBelow n f g = (q : Key) (r : Row) → level_of q < n → f q ≡ Some r → g q ≡ Some r

some_more : (o p : Option Row) → ((r : Row) → o ≡ Some r → p ≡ Some r) → is_some o ≡ true → is_some p ≡ true
some_more None p up h = cc
some_more (Some r) p up h = rw (up r refl) refl

have_more : (f g : TypedRows) (m n : ℕ) → m ≤ n → AreMoreBelow n f g → (ks : List Key) → AreBelow m ks → have_rows f ks ≡ true → have_rows g ks ≡ true
have_more f g m n le up [] below h = refl
have_more f g m n le up (k ∷ ks) below h =
    let parts = and_parts (is_some (f k)) (have_rows f ks) h in
    and_from (is_some (g k)) (have_rows g ks) (some_more (f k) (g k) (λ r e. up k r (omega (arith, below.0, le)) e) parts.0) (have_more f g m n le up ks below.1 parts.1)

named_more : (f g : TypedRows) (n : ℕ) (k : Key) (o : Option Row) (r : Row) → level_of k ≤ n → AreMoreBelow n f g → where_named f k o ≡ Some r → where_named g k o ≡ Some r
named_more f g n k None r le up h = cc
named_more f g n k (Some s) r le up h =
    let c = cond_some (have_rows f (names_of k s)) s r h in
    rw (have_more f g (level_of k) n le up (names_of k s) (names_below k s) c.0) (ap Some c.1)

-- rows of a level are ready from the next one on, or never
settled : (n : ℕ) (rows : TypedRows) → AreMoreBelow n (ready_below (suc n) rows) (ready_below n rows)
settled zero rows k r less h = absurd (omega (arith, less))
settled (suc n) rows k r less h = named_more (ready_below (suc n) rows) (ready_below n rows) n k (rows k) r (omega (arith, less)) (settled n rows) h

at_last : (rows : TypedRows) (k : Key) (r : Row) (o : Option Row) → o ≡ Some r → have_rows (ready_below 3 rows) (names_of k r) ≡ true → where_named (ready_below 3 rows) k o ≡ Some r
at_last rows k r None e h = cc
at_last rows k r (Some s) e h = let same : s ≡ r = cc in rw (same, h) refl

pub ready_rows-fixed : (rows : TypedRows) (k : Key) (r : Row) → rows k ≡ Some r → have_rows (ready_rows rows) (names_of k r) ≡ true → ready_rows rows k ≡ Some r
ready_rows-fixed rows k r e h =
    let bound : level_of k ≤ 3 = let l = low k in omega (arith, l) in
    at_last rows k r (rows k) e (have_more (ready_below 4 rows) (ready_below 3 rows) (level_of k) 3 bound (settled 3 rows) (names_of k r) (names_below k r) h)
