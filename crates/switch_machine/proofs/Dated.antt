-- rows of the tables were written, and applied rows were good once
use Rattle.std.proofs.Common.{◌≡◌, ◌⊎◌, ◌≤◌, ◌∷◌, ◌++◌, ◌∙◌, inl, inr, ℕ, List, [], length, take, Option, None, Some, refl, sym, ap, subst, arith}
use Rattle.std.proofs.Math.Seq.{take-length}
use Rattle.std.proofs.lemmas.List.{length-append, take-append-le}
use Rattle.std.proofs.lemmas.Option.{same_Some}
use Rattle.table_schema.specs.Fields.{Pairs}
use Rattle.table_schema.specs.Plan.{Ports}
use Rattle.table_schema.specs.Rows.{fields_at, rows_of}
use Rattle.table_schema.specs.declared.key.Key.{Key}
use Rattle.table_schema.specs.declared.row.Row.{Row as BareRow}
use Rattle.table_schema.specs.declared.write.Write.{Write}
use Rattle.switch_model.specs.Placed.{Placed as Row}
use Rattle.switch_model.specs.Good.{good_row, good_rows}
use Rattle.row_layout.specs.Operations.{Change, shared_going, take_all}
use Rattle.row_layout.specs.Rows.{Owner}
use Rattle.switch_machine.specs.Events.{Due, Ended, Follows, Left, Retires}
use Rattle.switch_machine.specs.Flights.{MachineFlight, IsRow, Machine}
use Rattle.switch_machine.specs.Steps.{finished, left, parted, started}
use Rattle.switch_machine.specs.Written.{ArePopped, HasWrittenRows, IsAsBefore, IsGoodOnce, IsPoppedKey, IsTold, TakesWrite, Written, good_of}
use Rattle.switch_machine.proofs.Running.{no_flight}
use Rattle.switch_machine.proofs.Splits.{IsPut, IsSplit, New, Old, key_split, put_at, put_by, row_at, row_off}

-- ---- a row of the board was one before

finished_row : (m : Machine) (w : ℕ) (f : MachineFlight) (k : Key) (r : Row) → m.board.flights w ≡ Some f → IsRow (finished m w f).board k r → IsRow m.board k r
finished_row m w f k r at (inl h) = by (key_split f.key k)
  where
    by : IsSplit f.key k → IsRow m.board k r
    by (inl e) = inr (w, f, at, e, sym (row_at f.key k f.new m.board.applied e) ∙ h)
    by (inr apart) = inl (sym (row_off f.key k f.new m.board.applied apart) ∙ h)
finished_row m w f k r at (inr (v, g, there, is, new)) = by (put_by w v None m.board.flights (Some g) there)
  where
    by : IsPut w v None m.board.flights (Some g) → IsRow m.board k r
    by (New same e) = no_flight g e
    by (Old other old) = inr (v, g, old, is, new)

left_row : (m : Machine) (w : ℕ) (f : MachineFlight) (retires : Option Owner) (due : List Change) (k : Key) (r : Row) → m.board.flights w ≡ Some f → IsRow (left m w f retires due).board k r → IsRow m.board k r
left_row m w f retires due k r at (inl h) = inl h
left_row m w f retires due k r at (inr (v, g, there, is, new)) = by (put_by w v (Some (parted f retires)) m.board.flights (Some g) there)
  where
    by : IsPut w v (Some (parted f retires)) m.board.flights (Some g) → IsRow m.board k r
    by (New same e) = let one = same_Some (parted f retires) g e in inr (w, f, at, ap (λ (z : MachineFlight). z.key) one ∙ is, ap (λ (z : MachineFlight). z.new) one ∙ new)
    by (Old other old) = inr (v, g, old, is, new)

pub follows-row : (plan : Ports) (w : ℕ) (m later : Machine) (k : Key) (r : Row) → Follows plan w m later → IsRow later.board k r → IsRow m.board k r
follows-row plan w m _ k r (Due c cs at) h = h
follows-row plan w m _ k r (Ended f ends) h = finished_row m w f k r ends.flying h
follows-row plan w m _ k r (Left f o x) h = left_row m w f f.retires [] k r x.leaving.flying (finished_row (left m w f f.retires []) w (parted f f.retires) k r (put_at w w (Some (parted f f.retires)) m.board.flights refl) h)
follows-row plan w m _ k r (Retires f o x) h = left_row m w f (Some o) (take_all (shared_going o) []) k r x.leaving.flying h

pub started-row : (m : Machine) (w : ℕ) (f : MachineFlight) (due : List Change) (k : Key) (r : Row) → IsRow (started m w f due).board k r → IsRow m.board k r ⊎ ((f.key ≡ k) × (f.new ≡ Some r))
started-row m w f due k r (inl h) = inl (inl h)
started-row m w f due k r (inr (v, g, there, is, new)) = by (put_by w v (Some f) m.board.flights (Some g) there)
  where
    by : IsPut w v (Some f) m.board.flights (Some g) → IsRow m.board k r ⊎ ((f.key ≡ k) × (f.new ≡ Some r))
    by (New same e) = let one = same_Some f g e in inr (ap (λ (z : MachineFlight). z.key) one ∙ is, ap (λ (z : MachineFlight). z.new) one ∙ new)
    by (Old other old) = inl (inr (v, g, old, is, new))

-- ---- what was written

abbrev IsWrittenOnce : List Write → Key → Option Pairs → Type 0
IsWrittenOnce taken k o = (n : ℕ) × (n ≤ length taken) × (o ≡ fields_at (rows_of (take n taken)) k)

written_later : (taken : List Write) (w : Write) (k : Key) (o : Option Pairs) → IsWrittenOnce taken k o → IsWrittenOnce (taken ++ w ∷ []) k o
written_later taken w k o (n, le, h) = (n, (omega (arith, le, length-append taken (w ∷ []))), h ∙ ap (λ ts. fields_at (rows_of ts) k) (sym (take-append-le n taken (w ∷ []) le)))

good_later : (plan : Ports) (taken : List Write) (w : Write) (k : Key) (r : BareRow) → IsGoodOnce plan taken k r → IsGoodOnce plan (taken ++ w ∷ []) k r
good_later plan taken w k r (n, le, h) = (n, (omega (arith, le, length-append taken (w ∷ []))), ap (λ ts. good_rows plan (rows_of ts) k) (take-append-le n taken (w ∷ []) le) ∙ h)

pub dated-taken : (w : Write) (old new : Written) → TakesWrite w old new → HasWrittenRows old → HasWrittenRows new
dated-taken w old new x dated k = subst (λ ts. IsWrittenOnce ts k (new.rows k)) (sym x.taken) (subst (IsWrittenOnce (old.taken ++ w ∷ []) k) (sym (x.rows k)) (written_later old.taken w k (old.rows k) (dated k)))

pub good-taken : (plan : Ports) (w : Write) (old new : Written) → TakesWrite w old new → (k : Key) (r : BareRow) → IsGoodOnce plan old.taken k r → IsGoodOnce plan new.taken k r
good-taken plan w old new x k r h = subst (λ ts. IsGoodOnce plan ts k r) (sym x.taken) (good_later plan old.taken w k r h)

pub dated-popped : (old new : Written) → IsTold old → ArePopped old new → HasWrittenRows old → HasWrittenRows new
dated-popped old new told x dated k = subst (λ ts. IsWrittenOnce ts k (new.rows k)) (sym x.taken) (by (x.keys k))
  where
    by : IsAsBefore old new k ⊎ IsPoppedKey old new k → IsWrittenOnce old.taken k (new.rows k)
    by (inl same) = subst (IsWrittenOnce old.taken k) (sym same.row) (dated k)
    by (inr popped) = (length old.taken, omega arith, popped.row ∙ sym (told k) ∙ ap (λ ts. fields_at (rows_of ts) k) (sym (take-length old.taken)))

-- the good row of a key was good once
pub good-once : (plan : Ports) (written : Written) → HasWrittenRows written → (k : Key) (r : BareRow) → good_of plan written k ≡ Some r → IsGoodOnce plan written.taken k r
good-once plan written dated k r h = let x = dated k in (x.0, x.1, sym (ap (good_row plan k) x.2) ∙ h)
