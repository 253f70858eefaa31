-- each row and each route on the chip is of some number of the writes taken
use Rattle.std.proofs.Common.{◌≡◌, ◌⊎◌, ◌+◌, ◌≤◌, ◌∷◌, ◌++◌, ◌∙◌, inl, inr, ℕ, zero, suc, List, [], length, take, Option, None, Some, refl, sym, ap, subst, arith}
use Rattle.std.proofs.lemmas.List.{length-map, take-map, append-nil, length-append}
use Rattle.table_schema.specs.Plan.{IsPlan, Ports}
use Rattle.table_schema.specs.Rows.{rows_of}
use Rattle.table_schema.specs.declared.key.Key.{Key}
use Rattle.table_schema.specs.declared.key.Key.TheVariants as key
use Rattle.table_schema.specs.declared.row.Row.{Row}
use Rattle.table_schema.specs.declared.write.Sent.{Sent}
use Rattle.sai_types.specs.declared.ids.Rid.{Rid}
use Rattle.sai_types.specs.declared.body.Call.{Call}
use Rattle.sai_types.specs.declared.thing.Thing.{Thing}
use Rattle.sai_types.specs.declared.thing.Thing.TheVariants as thing
use Rattle.swss_types.specs.declared.address.Prefix.{Prefix}
use Rattle.swss_types.specs.declared.vrf.Vrf.{Vrf}
use Rattle.sai_types.specs.declared.thing.Goal.{Goal}
use Rattle.sai_types.specs.After.{after_call, chip_after}
use Rattle.sai_types.specs.Made.{made_after}
use Rattle.sai_types.proofs.Whole.{whole-after_call}
use Rattle.switch_model.specs.Things.{things_of}
use Rattle.row_layout.specs.Rows.{own_things}
use Rattle.sai_types.specs.Alike.{IsIn}
use Rattle.sai_types.specs.Named.{named}
use Rattle.sai_types.specs.Objects.{Objects}
use Rattle.switch_model.specs.Good.{good_rows, TypedRows}
use Rattle.switch_model.specs.Marks.{sent_writes}
use Rattle.switch_model.specs.Placed as placed
use Rattle.switch_model.specs.Placed.{Placed, bare, place}
use Rattle.switch_model.specs.Sound.{AreWithin}
use Rattle.table_schema.specs.declared.write.Write.{Write}
use Rattle.switch_model.specs.Promises.{EffectsAreLegal, MarksAreTrue, RoutesAreOfRows, good_rows_at}
use Rattle.row_layout.proofs.Split.{things-split}
use Rattle.switch_machine.specs.Events.{IsDueCall, IsSafe, SwitchState, with_made_call}
use Rattle.switch_machine.specs.Flights.{IsRow, Machine}
use Rattle.switch_machine.specs.Steps.{moved}
use Rattle.switch_machine.specs.Written.{IsGoodOnce}
use Rattle.switch_machine.proofs.Reasoned.{route-row, row-of_route}
use Rattle.switch_machine.proofs.Kept.{called-laid, called-sound, legal-call}
use Rattle.machine_laws.specs.Logged.{AreLoggedEvents, IsLoggedEvent, LoggedSwitch, new_switch, after_logged}
use Rattle.switch_model.specs.declared.mark.MarkEvent.TheVariants as event
use Rattle.machine_laws.specs.Order.{IsOrdered}
use Rattle.machine_laws.proofs.Completing.{change_made}
use Rattle.machine_laws.proofs.Ordering.{Rounds, ordered-rounds, rounds-more}
use Rattle.machine_laws.proofs.Named.{route-stands}
use Rattle.machine_laws.proofs.Staying.{chip_after-all, chip_after-front, good-front, split}
use Rattle.machine_laws.proofs.Telling.{Told, told-new, told_event}

module _ (plan : Ports) (is : IsPlan plan) (workers : ℕ) (capacities : List ℕ) where
  abbrev pub IsDated : List Sent → Key → Row → Type 0
  IsDated taken k r = (n : ℕ) × (n ≤ length taken) × (good_rows_at plan taken n k ≡ Some r)

  -- a row that was good after some of the writes, counted in the log
  pub logged_once : (taken : List Sent) (writes : List Write) (k : Key) (r : Row) → writes ≡ sent_writes taken → IsGoodOnce plan writes k r → IsDated taken k r
  logged_once taken writes k r same (n, le, h) = (
    n,
    subst (λ z. n ≤ z) (ap length same ∙ length-map taken (λ (x : Sent). x.write)) le,
    ap (λ z. good_rows plan (rows_of z) k) (sym (take-map (λ (x : Sent). x.write) n taken) ∙ ap (take n) (sym same)) ∙ h,
  )

  -- each row that is applied or to be applied was good after some of the writes taken
  board_dated : (s : LoggedSwitch) → Told plan is workers capacities s → (k : Key) (r : Placed) → IsRow s.switch.machine.board k r → IsDated s.log.taken k (bare r)
  board_dated s told k r h = logged_once s.log.taken s.switch.written.taken k (bare r) told.taken (told.kept.good k r h)

  record Dated (s : LoggedSwitch) : Type 0 where
    told : Told plan is workers capacities s
    routes : (j : ℕ) → j ≤ length s.effects → RoutesAreOfRows plan s.log.taken (chip_after s.effects j)
    rounds : Rounds s.log

  -- a row with a route of its own is in its place in any router
  route_place : (v : Vrf) (prefix : Prefix) (t : Thing) (r : Placed) → IsIn t (own_things plan (key.Route v prefix) r) → r ≡ place v (bare r)
  route_place v prefix t (placed.Addr u) h = elim h [ ]
  route_place v prefix t _ h = refl

  -- a route of a row that was good once is of a row that was written
  pub route_dated : (taken : List Sent) (writes : List Write) (v : Vrf) (prefix : Prefix) (goal : Goal) (r : Placed) → writes ≡ sent_writes taken → IsGoodOnce plan writes (key.Route v prefix) (bare r) → IsIn (thing.Route v prefix goal) (own_things plan (key.Route v prefix) r) → (n : ℕ) × (row : Row) × (n ≤ length taken) × (good_rows_at plan taken n (key.Route v prefix) ≡ Some row) × IsIn (thing.Route v prefix goal) (things_of plan (key.Route v prefix) (place v row))
  route_dated taken writes v prefix goal r same good in_it =
      let when = logged_once taken writes (key.Route v prefix) (bare r) same good in
      (when.0, bare r, when.1, when.2, subst (λ z. IsIn (thing.Route v prefix goal) (things_of plan (key.Route v prefix) z)) (route_place v prefix (thing.Route v prefix goal) r in_it) ((things-split plan (key.Route v prefix) r).back (thing.Route v prefix goal) (inl in_it)))

  -- the routes on the chip are of rows that are applied or to be
  pub routes-now : (c : SwitchState) (taken : List Sent) → IsSafe plan workers capacities c → c.written.taken ≡ sent_writes taken → RoutesAreOfRows plan taken c.objects
  routes-now c taken kept same v prefix goal h =
      let stands = route-stands plan c.machine kept.sound c.made c.objects kept.whole kept.laid v prefix goal h in
      let row = route-row plan is workers capacities c kept v prefix goal stands in
      route_dated taken c.written.taken v prefix goal row.0 same (kept.good (key.Route v prefix) row.0 row.1) row.2

  -- and so they are after a call that was due took effect, whether it was answered so or not
  pub routes-called : (c : SwitchState) (taken : List Sent) (call : Call Rid) → IsSafe plan workers capacities c → IsDueCall workers call c → c.written.taken ≡ sent_writes taken → RoutesAreOfRows plan taken (after_call (c.made + 1) c.objects call)
  routes-called c taken call kept due same v prefix goal h =
      let z = change_made c.machine.stands c.made due.change call due.of in
      let m : Machine = moved c.machine due.worker due.rest z.later in
      let sound = called-sound plan is workers capacities c kept call due z.id z.given z.later z.into z.back in
      let laid = called-laid plan is workers capacities c kept call due z.id z.given z.later z.into z.back in
      let whole = whole-after_call capacities c.made c.objects call kept.whole (legal-call plan is workers capacities c kept call due) in
      let stands = route-stands plan m sound (made_after c.made call) (after_call (c.made + 1) c.objects call) whole laid v prefix goal h in
      let row = row-of_route plan m sound v prefix goal stands in
      route_dated taken c.written.taken v prefix goal row.0 same (kept.good (key.Route v prefix) row.0 row.1) row.2

  pub later_routes : (taken : List Sent) (sent : Sent) (objects : Objects) → RoutesAreOfRows plan taken objects → RoutesAreOfRows plan (taken ++ sent ∷ []) objects
  later_routes taken sent objects f v prefix goal h =
      let x = f v prefix goal h in
      (x.0, x.1, (let le = x.2 in omega (arith, le, length-append taken (sent ∷ []))), ap (λ (z : TypedRows). z (key.Route v prefix)) (good-front plan taken sent x.0 x.2) ∙ x.3, x.4)

  -- routes that were of rows are so of a log that holds as many writes, over the same effects
  pub same_routes : (taken later : List Sent) (es fs : List (Call Rid)) → later ≡ taken → fs ≡ es → ((j : ℕ) → j ≤ length es → RoutesAreOfRows plan taken (chip_after es j)) → (j : ℕ) → j ≤ length fs → RoutesAreOfRows plan later (chip_after fs j)
  same_routes taken later es fs same effects f = subst (λ (z : List Sent). (j : ℕ) → j ≤ length fs → RoutesAreOfRows plan z (chip_after fs j)) (sym same) (subst (λ (z : List (Call Rid)). (j : ℕ) → j ≤ length z → RoutesAreOfRows plan taken (chip_after z j)) (sym effects) f)

  -- routes after one more event, where those that are there now are of rows
  pub routes_grown : (taken : List Sent) (es fs : List (Call Rid)) (c : Option (Call Rid)) → fs ≡ es ++ with_made_call c [] → ((j : ℕ) → j ≤ length es → RoutesAreOfRows plan taken (chip_after es j)) → RoutesAreOfRows plan taken (chip_after fs (length fs)) → (j : ℕ) → j ≤ length fs → RoutesAreOfRows plan taken (chip_after fs j)
  routes_grown taken es fs None same f now j le = same_routes taken taken es fs refl (same ∙ append-nil es) f j le
  routes_grown taken es fs (Some call) same f now j le = by (split j (length es) (omega (arith, le, ap length same, length-append es (call ∷ []))))
    where
      by : (j ≤ length es) ⊎ (j ≡ length es + 1) → RoutesAreOfRows plan taken (chip_after fs j)
      by (inl less) = subst (RoutesAreOfRows plan taken) (sym (ap (λ z. chip_after z j) same ∙ chip_after-front es (call ∷ []) j less)) (f j less)
      by (inr last) = subst (λ z. RoutesAreOfRows plan taken (chip_after fs z)) (ap length same ∙ length-append es (call ∷ []) ∙ sym last) now

  dated_event : (s t : LoggedSwitch) → Dated s → IsLoggedEvent plan workers capacities s t → Dated t
  dated_event s t x (inl e) = record {
    told = told_event plan is workers capacities s t x.told (inl e);
    routes = same_routes (s.log.taken ++ e.sent ∷ []) t.log.taken s.effects t.effects (ap (λ z. z.taken) e.log) e.effects (λ j le. later_routes s.log.taken e.sent (chip_after s.effects j) (x.routes j le));
    rounds = subst Rounds (sym e.log) (record { settled = x.rounds.settled; ends = x.rounds.ends });
  }
  dated_event s t x (inr (inl e)) = record { told = told; routes = routes_grown t.log.taken s.effects t.effects e.call e.effects (same_routes s.log.taken t.log.taken s.effects s.effects (ap (λ z. z.taken) e.log) refl x.routes) (subst (RoutesAreOfRows plan t.log.taken) (told.objects ∙ sym (chip_after-all t.effects)) (routes-now t.switch t.log.taken told.kept told.taken)); rounds = subst Rounds (sym e.log) x.rounds }
    where
      told : Told plan is workers capacities t
      told = told_event plan is workers capacities s t x.told (inr (inl e))
  dated_event s t x (inr (inr e)) = record { told = told_event plan is workers capacities s t x.told (inr (inr e)); routes = same_routes s.log.taken t.log.taken s.effects t.effects (ap (λ z. z.taken) e.log) e.effects x.routes; rounds = subst Rounds (sym e.log) (rounds-more s.log (record { taken = length s.log.taken; effects = length s.effects; event = event.Settled e.waits e.turns }) tt x.rounds) }

  dated_log : (s : LoggedSwitch) (ts : List LoggedSwitch) → Dated s → AreLoggedEvents plan workers capacities s ts → Dated (after_logged s ts)
  dated_log s [] x run = x
  dated_log s (t ∷ ts) x run = dated_log t ts (dated_event s t x run.0) run.1

  dated_new : Dated new_switch
  dated_new = record { told = told-new plan is workers capacities; routes = λ j le v prefix goal h. elim (subst (λ z. IsIn (Some (thing.Route v prefix goal)) (named z)) (nothing j) h) [ ]; rounds = record { settled = tt; ends = refl } }
    where
      nothing : (n : ℕ) → chip_after [] n ≡ []
      nothing zero = refl
      nothing (suc n) = refl

  pub true-log : (ts : List LoggedSwitch) → AreLoggedEvents plan workers capacities new_switch ts → MarksAreTrue plan capacities (after_logged new_switch ts).log (after_logged new_switch ts).effects × EffectsAreLegal plan capacities (after_logged new_switch ts).log.taken (after_logged new_switch ts).effects
  true-log ts run = let x = dated_log new_switch ts dated_new run in (x.told.marks, record { legal = x.told.legal; routes = x.routes })

  pub dated-rows : (ts : List LoggedSwitch) → AreLoggedEvents plan workers capacities new_switch ts → (k : Key) (r : Placed) → IsRow (after_logged new_switch ts).switch.machine.board k r → IsDated (after_logged new_switch ts).log.taken k (bare r)
  dated-rows ts run k r h = board_dated (after_logged new_switch ts) (dated_log new_switch ts dated_new run).told k r h

  pub counts-within : (ts : List LoggedSwitch) → AreLoggedEvents plan workers capacities new_switch ts → AreWithin (length (after_logged new_switch ts).log.taken) (length (after_logged new_switch ts).effects) (after_logged new_switch ts).log.marks
  counts-within ts run = (dated_log new_switch ts dated_new run).told.within

  pub safe-log : (ts : List LoggedSwitch) → AreLoggedEvents plan workers capacities new_switch ts → IsSafe plan workers capacities (after_logged new_switch ts).switch
  safe-log ts run = (dated_log new_switch ts dated_new run).told.kept

  pub ordered-log : (ts : List LoggedSwitch) → AreLoggedEvents plan workers capacities new_switch ts → IsOrdered (after_logged new_switch ts).log
  ordered-log ts run = ordered-rounds (after_logged new_switch ts).log (dated_log new_switch ts dated_new run).rounds
