-- the mark at the beginning of an apply is true
use Rattle.std.proofs.Common.{◌≡◌, ◌⊎◌, ◌∷◌, ◌∙◌, inl, inr, ℕ, Bool, true, false, List, [], None, Some, if◌then◌else◌, refl, sym, ap}
use Rattle.std.specs.Prelude.{take}
use Rattle.std.specs.BTreeMap.{is_at}
use Rattle.std.proofs.lemmas.Bool.{false≢true}
use Rattle.table_schema.specs.Key.{key_cmp}
use Rattle.table_schema.specs.Names.{names_of}
use Rattle.table_schema.specs.Plan.{Ports, IsPlan}
use Rattle.table_schema.specs.Rows.{fields_at, rows_of}
use Rattle.table_schema.specs.declared.key.Key.{Key}
use Rattle.table_schema.specs.declared.row.Row.TheVariants as row
use Rattle.table_schema.specs.declared.write.Sent.{Sent}
use Rattle.table_schema.proofs.Keys.{tied_keys_same}
use Rattle.sai_types.specs.Alike.{IsIn}
use Rattle.switch_model.specs.Good.{TypedRows, good_row}
use Rattle.switch_model.specs.Marks.{IsTrueReason, ListsNoRow, ReasonsAreTrue, applied_rows, sent_writes}
use Rattle.switch_model.specs.Placed.{bare_rows}
use Rattle.switch_model.specs.Promises.{IsBegun, applied_at, good_rows_at}
use Rattle.switch_model.specs.declared.mark.Mark.{Mark}
use Rattle.switch_model.specs.declared.wait.Wait.{Wait}
use Rattle.switch_machine.specs.Events.{SwitchState, fresh_view}
use Rattle.switch_machine.specs.Written.{HasWrittenRows, IsTold, Written, good_of}
use Rattle.switch_machine.proofs.Splits.{row_at}
use Rattle.restart_laws.specs.Restored.{IsRestored, waiting_of}
use Rattle.switch_machine.proofs.Telling.{told-popped}
use Rattle.restart_laws.proofs.Rising.{pass-rising}
use Rattle.restart_laws.proofs.Reasons.{have-same, reason-stays}
use Rattle.restart_laws.proofs.Restoring.{IsWaiting, restored-closed, restored-good, restored-waits, restored-written}

is_there : (q k : Key) (b : Bool) → is_at (key_cmp q) k ≡ b → q ≡ k → b ≡ true
is_there q k true e same = refl
is_there q k false e same = absurd (no_row (sym (ap (λ z. if z then None else Some row.Vlan) e) ∙ row_at q k None (λ p. Some row.Vlan) same))
  where
    no_row : Some row.Vlan ≡ None → ⊥
    no_row h = cc

-- what the mark lists gives the rows that are applied
rows_at : (ws : List (Key × Wait)) (good rows : TypedRows) (q : Key) → ((w : Wait) → IsIn (q, w) ws → rows q ≡ None) → ((w : Wait) × IsIn (q, w) ws) ⊎ (rows q ≡ good q) → applied_rows (waiting_of ws) good q ≡ rows q
rows_at [] good rows q absent (inl h) = elim h.1 [ ]
rows_at [] good rows q absent (inr e) = sym e
rows_at ((k, w) ∷ ws) good rows q absent or = by (is_at (key_cmp q) k) refl (λ other. rows_at ws good rows q (λ v h. absent v (inr h)) other)
  where
    smaller : is_at (key_cmp q) k ≡ false → ((v : Wait) × IsIn (q, v) ((k, w) ∷ ws)) ⊎ (rows q ≡ good q) → ((v : Wait) × IsIn (q, v) ws) ⊎ (rows q ≡ good q)
    smaller e (inl (v, inl h)) = absurd (false≢true (sym e ∙ is_there q k (is_at (key_cmp q) k) refl (ap (λ (z : Key × Wait). z.0) h)))
    smaller e (inl (v, inr h)) = inl (v, h)
    smaller e (inr h) = inr h

    by : (b : Bool) → is_at (key_cmp q) k ≡ b → (((v : Wait) × IsIn (q, v) ws) ⊎ (rows q ≡ good q) → applied_rows (waiting_of ws) good q ≡ rows q) → (if b then None else applied_rows (waiting_of ws) good q) ≡ rows q
    by true e again = sym (absent w (inl (ap (λ (z : Key). (z, w)) (tied_keys_same q k e))))
    by false e again = again (smaller e or)

no_rows : (ws : List (Key × Wait)) → ListsNoRow (waiting_of ws)
no_rows [] = tt
no_rows (w ∷ ws) = (refl, no_rows ws)

all_true : (plan : Ports) (capacities : List ℕ) (good rows : TypedRows) (ws : List (Key × Wait)) → ((q : Key) (w : Wait) → IsIn (q, w) ws → IsTrueReason plan capacities good rows q w) → ReasonsAreTrue plan capacities good rows (waiting_of ws)
all_true plan capacities good rows [] h = tt
all_true plan capacities good rows ((k, w) ∷ ws) h = (h k w (inl refl), all_true plan capacities good rows ws (λ q v i. h q v (inr i)))

module _ (plan : Ports) (is : IsPlan plan) (workers : ℕ) (capacities : List ℕ) (s : Written) (view : SwitchState) (told : IsTold s) (dated : HasWrittenRows s) (x : IsRestored plan workers capacities s view) (taken : List Sent) (mark : Mark) (same : sent_writes (take mark.taken taken) ≡ s.taken) where
  abbrev rows : TypedRows
  rows = bare_rows view.machine.board.applied

  goods : (k : Key) → good_rows_at plan taken mark.taken k ≡ good_of plan x.written k
  goods k =
      ap (λ z. good_row plan k (fields_at (rows_of z) k)) (same ∙ sym x.popped.taken)
      ∙ ap (good_row plan k) (told-popped s x.written x.popped told k ∙ x.none k (x.written.rows k))

  written : view.written ≡ x.written
  written = restored-written plan is workers capacities s view told dated x

  waits : (q : Key) (w : Wait) → IsIn (q, w) x.waits → IsWaiting plan is workers capacities view x.keys q w
  waits q w h = restored-waits plan is workers capacities s view told dated x q w h

  pub same_rows : (q : Key) → applied_at plan taken mark (waiting_of x.waits) q ≡ rows q
  same_rows q = rows_at x.waits (good_rows_at plan taken mark.taken) rows q (λ w h. (waits q w h).absent) (by (restored-good plan is workers capacities s view told dated x q))
    where
      by : ((w : Wait) × IsIn (q, w) x.waits) ⊎ (rows q ≡ good_of plan x.written q) → ((w : Wait) × IsIn (q, w) x.waits) ⊎ (rows q ≡ good_rows_at plan taken mark.taken q)
      by (inl h) = inl h
      by (inr h) = inr (h ∙ sym (goods q))

  -- what each applied row names is applied, and the keys that wait stand in their order, each with its true reason, and none of them is applied
  pub restored-begun : IsBegun plan capacities taken mark (waiting_of x.waits)
  restored-begun = record {
    closed = λ k r at. have-same rows (applied_at plan taken mark (waiting_of x.waits)) (names_of k r) (λ p h. same_rows p) ∙ restored-closed plan is workers capacities s view told dated x k r (sym (same_rows k) ∙ at);
    reasons = all_true plan capacities (good_rows_at plan taken mark.taken) (applied_at plan taken mark (waiting_of x.waits)) x.waits
        (λ q w h. reason-stays plan capacities (good_of plan view.written) (good_rows_at plan taken mark.taken) rows (applied_at plan taken mark (waiting_of x.waits)) q w (restored-closed plan is workers capacities s view told dated x) (waits q w h).absent (goods q ∙ ap (λ z. good_of plan z q) (sym written)) (λ p r i. same_rows p) (λ p r at. same_rows p ∙ at) (waits q w h).reason);
    order = pass-rising plan workers capacities (fresh_view x.written x.keys) view x.keys x.waits x.rising x.pass;
    absent = no_rows x.waits;
  }
