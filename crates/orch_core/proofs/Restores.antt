-- a restore, from the view that was built to the mark
use Rattle.std.proofs.Common.{◌≡◌, ◌⊎◌, ◌+◌, ◌∷◌, ◌++◌, ◌∙◌, inl, inr, ℕ, List, [], take, length, map, suc, Option, None, Some, Result, Ok, Err, refl, sym, ap, subst, arith}
use Rattle.std.specs.Map.{keys_of}
use Rattle.std.specs.Option.{IsSome}
use Rattle.std.specs.Result.{IsErr}
use Rattle.std.proofs.lemmas.Bool.{false≢true}
use Rattle.std.proofs.lemmas.List.{append-nil, take-append-drop}
use Rattle.std.proofs.lemmas.Map.Entries.{length-keys_of}
use Rattle.swss_types.specs.declared.out_of_memory.OutOfMemory.{OutOfMemory}
use Rattle.table_schema.specs.declared.key.Key.{Key}
use Rattle.sai_types.specs.declared.plan.Mode.{Mode}
use Rattle.sai_types.specs.Alike.{IsIn}
use Rattle.sai_types.specs.ChipState.{ChipState}
use Rattle.table_schema.specs.Rows.{fields_at}
use Rattle.consumer_table.specs.Ops.{AreOpsInOrder, Ops}
use Rattle.switch_model.specs.History.{History, with_mark}
use Rattle.switch_model.specs.Marks.{Waiting}
use Rattle.switch_model.specs.declared.wait.Wait.{Wait}
use Rattle.switch_model.specs.declared.mark.MarkEvent.TheVariants as event
use Rattle.restart_laws.specs.Logged.{LoggedService}
use Rattle.restart_laws.specs.Restored.{keys_waiting, waiting_of}
use Rattle.sync_tables.specs.Tables.{PopsBatch, PopsKeys, TablesState, ops_popped, row_popped}
use Rattle.sync_tables.specs.declared.tables.TheConstants.{BATCH}
use Rattle.sync_tables.proofs.Batches.{batch-then}
use Rattle.syncd_core.specs.Begun.{Begins}
use Rattle.syncd_core.specs.Synced.{SyncState}
use Rattle.warm_state.specs.declared.warm.Warm.TheVariants as warm
use Rattle.session_laws.specs.Core.{CoreState, IsFullFor, mark_at, size_beside}
use Rattle.session_laws.specs.Service.Built.{AreBareWaits, IsBeside, IsBuilt, building, given_up}
use Rattle.session_laws.specs.Service.Events.{MakesNext}
use Rattle.session_laws.specs.Service.Standing.{IsServiceOf}
use Rattle.session_laws.proofs.Service.Building.{built-first}
use Rattle.session_laws.proofs.Service.Giving.{given-up}
use Rattle.session_laws.proofs.Service.Popping.{pops-stay}
use Rattle.session_laws.proofs.Service.Restoring.{listed-waits, restored-step}
use Rattle.round_laws.proofs.Listed.{waiting_keys}
use Rattle.orch_core.specs.Restarting.{BeginsOut, BuildsOut, IsFullForRestore, IsFullOncePopped, PopsAll, PopsBare, PopsForRestore, RestoresOut, RestoresRows, StaysInService}
use Rattle.orch_core.specs.declared.answer.Step.{Step}
use Rattle.orch_core.specs.declared.answer.Step.TheVariants as step
use Rattle.retry_list.specs.Listed.{without_row}
use Rattle.mark_lists.proofs.Listings.{listed_length}

-- ---- pops for a restore

pub bare_first : (c : CoreState) → PopsForRestore c c
bare_first c = (c.tables, refl, λ chip s is. is)

pub bare_on : (c d : CoreState) → c.warm ≡ warm.Restored → PopsForRestore c d → (e : CoreState) (t : TablesState) → PopsKeys d.tables t → e ≡ record d { tables = t } → PopsForRestore c e
bare_on c d at (u, is_with, stays) e t keys same = (
  t,
  same ∙ ap (λ (z : CoreState). record z { tables = t }) is_with,
  λ chip s is. subst (λ z. IsServiceOf z chip s) (sym same) (pops-stay d t keys chip s (stays chip s is) (ap (λ (z : CoreState). z.warm) is_with ∙ at)),
)

-- keys were popped so far, batch after batch; once none waits it is all that waited
abbrev pub PopsSoFar : CoreState → CoreState → Type 0
PopsSoFar c d = (n : ℕ) × PopsBatch n c.tables d.tables

pub batch_first : (c : CoreState) → PopsSoFar c c
batch_first c = (0, record { waiting = refl; rows = λ q. refl; ops = refl })

pub batch_on : (c d e : CoreState) → PopsSoFar c d → PopsBatch BATCH d.tables e.tables → PopsSoFar c e
batch_on c d e (n, before) batch = (n + BATCH, batch-then c.tables d.tables e.tables n BATCH before batch)

pub all_popped : (c d : CoreState) → PopsSoFar c d → d.tables.waiting ≡ [] → PopsAll c.tables d.tables
all_popped c d (n, batch) none =
    let whole : take n c.tables.waiting ≡ c.tables.waiting =
    sym (append-nil (take n c.tables.waiting)) ∙ ap (λ l. take n c.tables.waiting ++ l) (sym none ∙ batch.waiting) ∙ take-append-drop n c.tables.waiting in
    record {
      waiting = none;
      rows = λ q. batch.rows q ∙ ap (row_popped q (fields_at c.tables.rows q)) whole;
      ops = batch.ops ∙ ap (ops_popped c.tables.ops) whole;
    }

pub bare_err : (c d : CoreState) (r : Result (Unit {0}) OutOfMemory) → IsErr r → PopsForRestore c d → PopsBare c r d
bare_err c d (Err e) h x = x
bare_err c d (Ok u) h x = absurd (false≢true h)

-- ---- the beginning of a building

none_some : {X : Type 0} (o : Option X) → IsSome o → o ≡ None → ⊥
none_some None some none = false≢true some
none_some (Some x) some none = cc

none_or : {X P : Type 0} (o : Option X) → (IsSome o → P) → (o ≡ None) ⊎ P
none_or None on = inl refl
none_or (Some x) on = inr (on refl)

pub build_first : (first : CoreState) (chip : ChipState) (s : LoggedService) → IsServiceOf first chip s → first.warm ≡ warm.Restored → first.tables.waiting ≡ [] → (ops : Ops) → AreOpsInOrder ops → ((k : Key) → (IsIn k (keys_of ops) → IsSome (fields_at first.tables.rows k)) × (IsSome (fields_at first.tables.rows k) → IsIn k (keys_of ops))) → (d : CoreState) → d ≡ building first ops → IsBuilt first d (keys_of d.tables.ops)
build_first first chip s is at popped ops order are d same =
    subst (λ (z : CoreState). IsBuilt first z (keys_of z.tables.ops)) (sym same)
    (built-first first chip s is at popped ops order (λ k i none. none_some (fields_at first.tables.rows k) ((are k).0 i) none) (λ k. none_or (fields_at first.tables.rows k) (are k).1))

pub beside_first : (first d : CoreState) → d ≡ first → IsBeside first d
beside_first first d same = subst (IsBeside first) (sym same) (record { rows = refl; popped = refl; plan = refl; capacities = refl; seen = refl; log = refl; listed = refl; limit = refl; warm = refl })

-- ---- the end of a building

beside_size : (first c : CoreState) → IsBeside first c → (n : ℕ) → size_beside c n ≡ size_beside first n
beside_size first c x n =
    let listed : c.listed ≡ first.listed = x.listed in
    let taken : length c.log.taken ≡ length first.log.taken = ap (λ (h : History). length h.taken) x.log in
    let marks : length c.log.marks ≡ length first.log.marks = ap (λ (h : History). length h.marks) x.log in
    omega (arith, listed, taken, marks)

beside_full : (first c : CoreState) → IsBeside first c → (n need : ℕ) → IsFullFor c n need → IsFullFor first n need
beside_full first c x n need full = let size = beside_size first c x n in let limit = x.limit in omega (arith, size, limit, full)

beside_room : (first c : CoreState) → IsBeside first c → (n need : ℕ) → (IsFullFor c n need → ⊥) → IsFullFor first n need → ⊥
beside_room first c x n need room full = let size = beside_size first c x n in let limit = x.limit in room (omega (arith, size, limit, full))

keys_long : (ws : List (Key × Wait)) → length (keys_waiting ws ++ []) ≡ length ws
keys_long [] = refl
keys_long (w ∷ ws) = ap (λ n. suc n) (keys_long ws)

module _ (first : CoreState) (chip : ChipState) (s : LoggedService) (is : IsServiceOf first chip s) (at : first.warm ≡ warm.Restored) (popped : first.tables.waiting ≡ []) (d : CoreState) (x : IsBuilt first d []) where
  -- as many keys are to sync as wait
  ops_long : length d.tables.ops ≡ length x.waits
  ops_long = sym (length-keys_of d.tables.ops) ∙ ap length x.ops ∙ keys_long x.waits

  pub full_for : (effects count : ℕ) → effects ≡ length chip.effects → count ≡ length d.tables.ops → IsFullFor d effects (1 + count) → IsFullForRestore first chip
  full_for effects count many long full = record {
    built = d;
    all = x;
    full = beside_full first d x.beside (length chip.effects) (1 + length x.waits) (subst (λ n. IsFullFor d (length chip.effects) (1 + n)) (long ∙ ops_long) (subst (λ n. IsFullFor d n (1 + count)) many full));
  }

  module _ (listing : Waiting) (bare : AreBareWaits d.waiting (keys_of d.tables.ops) listing) (m : Mode) (y : SyncState) (begins : Begins d.sync m y) where
    abbrev marked : Waiting → ℕ → CoreState
    marked l n = record d { sync = y; log = with_mark d.log (mark_at d (length chip.effects) (event.ApplyBegan m l)); listed = d.listed + n; warm = warm.Applying }

    is_listing : listing ≡ waiting_of x.waits
    is_listing = listed-waits first d x listing bare

    makes : MakesNext first s (marked listing (length listing)) chip
    makes = subst (λ l. MakesNext first s (marked l (length l)) chip) (sym is_listing) (restored-step first chip s is at popped d x m y begins)

    listing_long : length listing ≡ length d.tables.ops
    listing_long = listed_length d.waiting without_row (keys_of d.tables.ops) listing bare ∙ length-keys_of d.tables.ops

    restored : (IsFullFor d (length chip.effects) (1 + length d.tables.ops) → ⊥) → RestoresRows s first chip (marked listing (length listing))
    restored room = record {
      makes = makes;
      warm = refl;
      popped = x.beside.popped ∙ popped;
      free = x.free;
      mode = m;
      waits = listing;
      lists = ap (λ (l : Waiting). map (λ w. w.0) l) is_listing ∙ waiting_keys x.waits ∙ sym (x.ops ∙ append-nil (keys_waiting x.waits));
      log = ap (λ (h : History). with_mark h (record { taken = length h.taken; effects = length chip.effects; event = event.ApplyBegan m listing })) x.beside.log;
      room = beside_room first d x.beside (length chip.effects) (1 + length listing) (subst (λ n. IsFullFor d (length chip.effects) (1 + n) → ⊥) (sym listing_long) room);
    }

    -- in the code's words
    pub begun : (effects count : ℕ) → effects ≡ length chip.effects → count ≡ length d.tables.ops → (IsFullFor d effects (1 + count) → ⊥) → (h : History) → h ≡ d.log → (e : CoreState) → e ≡ record d { sync = y; log = with_mark h (record { taken = length h.taken; effects = effects; event = event.ApplyBegan m listing }); listed = d.listed + count; warm = warm.Applying } → RestoresRows s first chip e
    begun effects count many long room h same e is_marked =
        let mark : ℕ → History → ℕ → CoreState = λ n l k. record d { sync = y; log = with_mark l (record { taken = length l.taken; effects = n; event = event.ApplyBegan m listing }); listed = d.listed + k; warm = warm.Applying } in
        subst (RestoresRows s first chip) (sym (is_marked ∙ ap (λ n. mark n h count) many ∙ ap (λ l. mark (length chip.effects) l count) same ∙ ap (λ k. mark (length chip.effects) d.log k) (long ∙ sym listing_long)))
        (restored (subst (λ n. IsFullFor d (length chip.effects) (1 + n) → ⊥) long (subst (λ n. IsFullFor d n (1 + count) → ⊥) many room)))

pub begins_err : (s : LoggedService) (first : CoreState) (chip : ChipState) (r : Result Step OutOfMemory) (d : CoreState) → IsErr r → IsBeside first d → BeginsOut s first chip r d
begins_err s first chip (Err e) d h x = x
begins_err s first chip (Ok r) d h x = absurd (false≢true h)

-- ---- the whole restore

module _ (s : LoggedService) (c : CoreState) (chip : ChipState) (is : IsServiceOf c chip s) (at : c.warm ≡ warm.Restored) (first : CoreState) (pops : PopsForRestore c first) (all : PopsAll c.tables first.tables) where
  is_first : IsServiceOf first chip s
  is_first = pops.2 chip s is

  at_first : first.warm ≡ warm.Restored
  at_first = ap (λ (z : CoreState). z.warm) pops.1 ∙ at

  full_once : IsFullForRestore first chip → IsFullOncePopped s c chip
  full_once full = record {
    tables = pops.0;
    stands = subst (λ z. IsServiceOf z chip s) pops.1 is_first;
    popped = subst (λ (z : CoreState). PopsAll c.tables z.tables) pops.1 all;
    full = subst (λ z. IsFullForRestore z chip) pops.1 full;
  }

  -- a view that is given up leaves the session
  given : (d : CoreState) → IsBeside first d → StaysInService s c (given_up d) chip
  given d x = record {
    stands = given-up first chip s is_first at_first d x;
    plan = x.plan ∙ ap (λ (z : CoreState). z.board.plan) pops.1;
    capacities = x.capacities ∙ ap (λ (z : CoreState). z.sync.capacities) pops.1;
    limit = x.limit ∙ ap (λ (z : CoreState). z.limit) pops.1;
    warm = x.warm ∙ ap (λ (z : CoreState). z.warm) pops.1;
    log = x.log ∙ ap (λ (z : CoreState). z.log) pops.1;
  }

  -- keys that were popped leave it too
  pub popped_stays : StaysInService s c first chip
  popped_stays = record {
    stands = is_first;
    plan = ap (λ (z : CoreState). z.board.plan) pops.1;
    capacities = ap (λ (z : CoreState). z.sync.capacities) pops.1;
    limit = ap (λ (z : CoreState). z.limit) pops.1;
    warm = ap (λ (z : CoreState). z.warm) pops.1;
    log = ap (λ (z : CoreState). z.log) pops.1;
  }

  rows_from : (t : TablesState) (e : CoreState) → RestoresRows s (record c { tables = t }) chip e → RestoresRows s c chip e
  rows_from t e x = record {
    makes = record { later = x.makes.later; makes = x.makes.makes; stands = x.makes.stands; plan = x.makes.plan; capacities = x.makes.capacities; limit = x.makes.limit };
    warm = x.warm;
    popped = x.popped;
    free = x.free;
    mode = x.mode;
    waits = x.waits;
    lists = x.lists;
    log = x.log;
    room = x.room;
  }

  pub built_whole : (e : CoreState) (chip' : ChipState) → BuildsOut s first chip (Ok step.Did) e chip' → RestoresOut s c chip (Ok step.Did) e chip'
  built_whole e chip' x = (x.0, rows_from pops.0 e (subst (λ z. RestoresRows s z chip e) pops.1 x.1))

  pub built_stops : (r : Result Step OutOfMemory) (d : CoreState) (chip' : ChipState) → (r ≡ Ok step.Did → ⊥) → (IsFullFor c (length chip.effects) 1 → ⊥) → BuildsOut s first chip r d chip' → (e : CoreState) → e ≡ given_up d → RestoresOut s c chip r e chip'
  built_stops (Ok step.Did) d chip' not room x e same = absurd (not refl)
  built_stops (Ok step.LogFull) d chip' not room x e same = (x.0, subst (λ z. StaysInService s c z chip) (sym same) (given d x.1.0), inr (full_once x.1.1))
  built_stops (Ok step.Faulted) d chip' not room x e same = absurd x.1
  built_stops (Ok step.Idle) d chip' not room x e same = absurd x.1
  built_stops (Ok step.Suspect) d chip' not room x e same = absurd x.1
  built_stops (Err o) d chip' not room x e same = (x.0, subst (λ z. StaysInService s c z chip) (sym same) (given d x.1), room)

pub restores_err : (s : LoggedService) (c : CoreState) (chip : ChipState) (r : Result Step OutOfMemory) (d : CoreState) → IsErr r → (IsFullFor c (length chip.effects) 1 → ⊥) → StaysInService s c d chip → RestoresOut s c chip r d chip
restores_err s c chip (Err e) d h room x = (refl, x, room)
restores_err s c chip (Ok r) d h room x = absurd (false≢true h)

pub builds_err : (s : LoggedService) (first : CoreState) (chip chip' : ChipState) (r : Result Step OutOfMemory) (d : CoreState) → IsErr r → chip' ≡ chip → IsBeside first d → BuildsOut s first chip r d chip'
builds_err s first chip chip' (Err e) d h same x = (same, x)
builds_err s first chip chip' (Ok r) d h same x = absurd (false≢true h)
