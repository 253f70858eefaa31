-- the rows are gone over, key by key, on the temporary view
use Rattle.std.proofs.Common.{◌≡◌, ◌∷◌, ◌++◌, ◌∙◌, inl, inr, ℕ, Bool, true, false, List, [], Option, None, Some, option_map, is_some, Result, Ok, Err, refl, sym, ap, subst, arith}
use Rattle.std.specs.Map.{keys_of}
use Rattle.std.specs.Option.{IsSome}
use Rattle.std.specs.Result.{IsErr, OnErr, OnOk}
use Rattle.std.proofs.lemmas.Bool.{false≢true}
use Rattle.swss_types.specs.declared.out_of_memory.OutOfMemory.{OutOfMemory}
use Rattle.table_schema.specs.declared.key.Key.{Key}
use Rattle.table_schema.specs.declared.row.Row.{Row}
use Rattle.sai_types.specs.declared.answer.SyncAnswer.{SyncAnswer}
use Rattle.sai_types.specs.declared.body.Call.{Call}
use Rattle.sai_types.specs.declared.ids.Vid.{Vid}
use Rattle.sai_types.specs.Alike.{IsIn}
use Rattle.sai_types.specs.ChipState.{ChipState}
use Rattle.switch_model.specs.declared.wait.Wait.{Wait}
use Rattle.retry_list.specs.Reasons.{reason_at, with_reason}
use Rattle.consumer_table.specs.Ops.{AreOpsInOrder, without_op}
use Rattle.registry_laws.specs.Flown.{Flown}
use Rattle.registry_laws.specs.Making.{IsNextCall, MayTakeFor, with_group_begun}
use Rattle.registry_laws.specs.Standing.{HasBegun}
use Rattle.syncd_core.specs.Synced.{CanCall, Calls, SyncState}
use Rattle.ref_counts.specs.Room.{number_of_kind}
use Rattle.flight_board.specs.Applied.{row_at}
use Rattle.flight_board.specs.Board.{BoardState, IsBegunFor, IsCallReady, IsPrepared, IsSameBoard, IsTakenFor, IsUnflown, MayEndThen, flown_at}
use Rattle.session_laws.specs.Core.{CoreState, good_in}
use Rattle.session_laws.specs.Events.{vid_made_by}
use Rattle.restart_laws.specs.Restored.{keys_waiting}
use Rattle.session_laws.specs.Service.Built.{AreReasons, IsBeside, IsBringing, IsBuilt}
use Rattle.session_laws.proofs.Service.Building.{begun-prepared, bringing-called, bringing-ends, bringing-first, bringing-prepared, built-wait, can-bring, ends-called, may-take-called, ready-prepared, same-chip}
use Rattle.orch_core.specs.Outcomes.{AreKindsCounted}
use Rattle.orch_core.specs.Restarting.{CallsView, GoesOver, calls_left}
use Rattle.orch_core.proofs.OnView.{fewer_called, fewer_prepared}

-- ---- by the answer

pub over_err : (first : CoreState) (rest : List Key) (chip chip' : ChipState) (r : Result (Unit {0}) OutOfMemory) (d : CoreState) → IsErr r → IsBeside first d → chip' ≡ chip → GoesOver first rest chip r d chip'
over_err first rest chip chip' (Err e) d h x same = (x, same)
over_err first rest chip chip' (Ok u) d h x same = absurd (false≢true h)

-- the same beside, with a board that is the same
pub beside_board : (first c : CoreState) (b : BoardState) → IsBeside first c → IsSameBoard c.board b → IsBeside first (record c { board = b })
beside_board first c b x same = record { rows = x.rows; popped = x.popped; plan = same.plan ∙ x.plan; capacities = x.capacities; seen = x.seen; log = x.log; listed = x.listed; limit = x.limit; warm = x.warm }

-- ---- a call on the view

module _ (first c : CoreState) (rest : List Key) (x : IsBringing first c rest) (b : BoardState) (prepared : IsPrepared c.board 0 b) (f : Flown) (there : flown_at c.board 0 ≡ Some f) (d : CoreState) (is_with : d ≡ record c { board = b }) where
  abbrev f_now : Flown
  f_now = with_group_begun c.board.plan c.board.names f

  there_now : flown_at b 0 ≡ Some f_now
  there_now = prepared.own ∙ ap (option_map (with_group_begun c.board.plan c.board.names)) there

  pub bringing_now : IsBringing first d rest
  bringing_now = subst (λ z. IsBringing first z rest) (sym is_with) (bringing-prepared first c rest x b prepared f there)

  pub ready_now : (g : Flown) × (flown_at d.board 0 ≡ Some g) × IsCallReady d.board.plan d.board.names g
  ready_now = subst (λ (z : CoreState). (g : Flown) × (flown_at z.board 0 ≡ Some g) × IsCallReady z.board.plan z.board.names g) (sym is_with) (f_now, there_now, ready-prepared first c rest x b prepared f there f_now there_now)

  module _ (call : Call Vid) (told : (g : Flown) → flown_at d.board 0 ≡ Some g → IsNextCall d.board.plan d.board.names g.operation g.group call) where
    abbrev there_d : flown_at d.board 0 ≡ Some f_now
    there_d = ap (λ (z : CoreState). flown_at z.board 0) is_with ∙ there_now

    begun_d : HasBegun d.board.plan d.board.names f_now
    begun_d = subst (λ (z : CoreState). HasBegun z.board.plan z.board.names f_now) (sym is_with) (begun-prepared first c rest x b prepared f there f_now there_now)

    pub can_now : (chip : ChipState) → CanCall d.sync d.sync.temporary chip call
    can_now chip = can-bring first d rest bringing_now f_now there_d begun_d call (told f_now there_d) chip

    module _ (chip : ChipState) (a : SyncAnswer) (y : SyncState) (chip' : ChipState) (calls : Calls d.sync d.sync.temporary chip call a y chip') (e : CoreState) (is_called : e ≡ record d { sync = y }) where
      pub may_now : (g : Flown) × (flown_at e.board 0 ≡ Some g) × MayTakeFor g.operation g.group (vid_made_by a) e.board.names
      may_now = subst (λ (z : CoreState). (g : Flown) × (flown_at z.board 0 ≡ Some g) × MayTakeFor g.operation g.group (vid_made_by a) z.board.names) (sym is_called)
          (f_now, there_d, may-take-called first d rest bringing_now f_now there_d begun_d call (told f_now there_d) chip a y chip' calls)

      pub ends_now : MayEndThen e.board 0 (vid_made_by a)
      ends_now = subst (λ (z : CoreState). MayEndThen z.board 0 (vid_made_by a)) (sym is_called) (ends-called first d rest bringing_now f_now there_d begun_d call (told f_now there_d) chip a y chip' calls)

      called : (b' : BoardState) → IsTakenFor d.board 0 (vid_made_by a) b' → CallsView first rest c chip (Ok tt) (record d { board = b'; sync = y }) chip'
      called b' taken =
          let same : calls_left d.board ≡ calls_left c.board = ap (λ (z : CoreState). calls_left z.board) is_with ∙ fewer_prepared first c rest x b prepared f there in
          let fewer = fewer_called first d rest bringing_now f_now there_d begun_d call (told f_now there_d) a chip y chip' calls b' taken in
          (bringing-called first d rest bringing_now f_now there_d begun_d call (told f_now there_d) chip a y chip' calls b' taken, same-chip first d rest bringing_now f_now there_d begun_d call (told f_now there_d) chip a y chip' calls, omega (arith, same, fewer))

      pub called_now : (b' : BoardState) → IsTakenFor e.board 0 (vid_made_by a) b' → (h : CoreState) → h ≡ record e { board = b' } → CallsView first rest c chip (Ok tt) h chip'
      called_now b' taken h is_taken =
          subst (λ z. CallsView first rest c chip (Ok tt) z chip') (sym (is_taken ∙ ap (λ (z : CoreState). record z { board = b' }) is_called))
          (called b' (subst (λ (z : CoreState). IsTakenFor z.board 0 (vid_made_by a) b') is_called taken))

-- where nothing is under way, the operation has ended
none_of : (o : Option Flown) → (IsSome o → ⊥) → o ≡ None
none_of None not = refl
none_of (Some x) not = absurd (not refl)

pub ends_over : (first c : CoreState) (rest : List Key) → IsBringing first c rest → (b : Bool) → b ≡ false → (b ≡ true → IsSome (flown_at c.board 0)) × (IsSome (flown_at c.board 0) → b ≡ true) → IsBuilt first c rest
ends_over first c rest x b off h = bringing-ends first c rest x (none_of (flown_at c.board 0) (λ some. false≢true (sym off ∙ h.1 some)))

-- ---- a key

module _ (first c : CoreState) (k : Key) (rest : List Key) (x : IsBuilt first c (k ∷ rest)) (order : AreOpsInOrder c.tables.ops) (differs : IsUnflown c.board k → row_at c.board.applied k ≡ good_in c k → ⊥) (numbers : List ℕ) (are : AreKindsCounted c.sync (number_of_kind numbers)) where
  -- its operation has begun
  pub key_begun : {new : Option Row} (b : BoardState) → IsBegunFor c.board numbers 0 k new (Ok tt) b → new ≡ good_in c k → (d : CoreState) → d ≡ record c { board = b } → (e : CoreState) → e ≡ record d { tables = record d.tables { ops = without_op d.tables.ops k } } → IsBringing first e rest
  key_begun b begun good d is_with e is_left =
      subst (λ z. IsBringing first z rest) (sym (is_left ∙ ap (λ (z : CoreState). record z { tables = record z.tables { ops = without_op z.tables.ops k } }) is_with))
      (bringing-first first c k rest x order differs numbers are b tt (subst (λ r. IsBegunFor c.board numbers 0 k r (Ok tt) b) good begun))

  -- it waits, and is put on the list, or memory was refused for that
  pub key_waits : {new : Option Row} (w : Wait) (b : BoardState) → IsBegunFor c.board numbers 0 k new (Err w) b → new ≡ good_in c k → (d : CoreState) → d ≡ record c { board = b } → (chip : ChipState) (r : Result (Unit {0}) OutOfMemory) (e : CoreState) → OnOk r (e ≡ record d { waiting = with_reason d.waiting k w }) → OnErr r (e ≡ d) → GoesOver first rest chip r e chip
  key_waits w b begun good d is_with chip (Ok u) e on short =
      (subst (λ z. IsBuilt first z rest) (sym (on ∙ ap (λ (z : CoreState). record z { waiting = with_reason z.waiting k w }) is_with)) (built-wait first c k rest x order differs numbers are b w (subst (λ r. IsBegunFor c.board numbers 0 k r (Err w) b) good begun)), refl)
  key_waits w b begun good d is_with chip (Err o) e on short =
      (subst (IsBeside first) (sym (short ∙ is_with)) (beside_board first c b x.beside begun.0), refl)

-- ---- the walk over the keys

-- these keys are left
abbrev pub IsOverAt : CoreState → ChipState → List Key → CoreState → ChipState → Type 0
IsOverAt c chip rest d chip' = (first : CoreState) → IsBuilt first c (keys_of c.tables.ops) → IsBuilt first d rest × (chip' ≡ chip)

pub over_first : (c : CoreState) (chip : ChipState) (keys : List Key) → keys ≡ keys_of c.tables.ops → IsOverAt c chip keys c chip
over_first c chip keys are first x = (subst (IsBuilt first c) (sym are) x, refl)

pub over_left : (c : CoreState) (chip : ChipState) (rest more : List Key) (d : CoreState) (chip' : ChipState) → rest ≡ more → IsOverAt c chip rest d chip' → IsOverAt c chip more d chip'
over_left c chip rest more d chip' same over first x = subst (λ l. IsBuilt first d l × (chip' ≡ chip)) same (over first x)

-- ---- after the last key each one that is to sync is on the list

some_reason : (k : Key) (ws : List (Key × Wait)) (c : CoreState) → AreReasons c.waiting ws → IsIn k (keys_waiting ws) → IsSome (reason_at c.waiting k)
some_reason k (w ∷ ws) c have (inl is) = subst (λ q. IsSome (reason_at c.waiting q)) (sym is) (ap is_some have.0)
some_reason k (w ∷ ws) c have (inr i) = some_reason k ws c have.1 i
some_reason k [] c have i = elim i [ ]

no_rest : (ks : List Key) → ks ++ [] ≡ ks
no_rest [] = refl
no_rest (k ∷ ks) = ap (λ l. k ∷ l) (no_rest ks)

pub built_listed : (first c : CoreState) → IsBuilt first c [] → (k : Key) → IsIn k (keys_of c.tables.ops) → IsSome (reason_at c.waiting k)
built_listed first c x k i = some_reason k x.waits c x.reasons (subst (IsIn k) (x.ops ∙ no_rest (keys_waiting x.waits)) i)
