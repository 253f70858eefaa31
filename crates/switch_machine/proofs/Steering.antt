-- where packets go while a route's operation runs: as before but for what its prefix covers, and that changes once
use Rattle.std.proofs.Common.{◌≡◌, ◌⊎◌, ◌<◌, ◌≤◌, ◌∷◌, ◌++◌, ◌∙◌, inl, inr, ℕ, zero, suc, Bool, false, List, [], length, map, take, Option, None, Some, refl, sym, ap, ap₂, subst, arith}
use Rattle.std.proofs.Math.Seq.{take-length}
use Rattle.std.proofs.lemmas.Bool.{and_from, false≢true}
use Rattle.swss_types.specs.Address.{IsProperPrefix, covers}
use Rattle.swss_types.specs.Vrf.{covers_in, same_vrf}
use Rattle.swss_types.specs.declared.vrf.Packet.{Packet}
use Rattle.swss_types.specs.declared.address.Mac.{Mac}
use Rattle.swss_types.specs.declared.address.Prefix.{Prefix}
use Rattle.swss_types.specs.declared.vrf.Vrf.{Vrf}
use Rattle.swss_types.proofs.Proper.{mapped}
use Rattle.swss_types.proofs.Routers.{vrf-refl}
use Rattle.table_schema.specs.Plan.{IsPlan, Ports}
use Rattle.table_schema.specs.declared.key.Key.TheVariants as key
use Rattle.sai_types.specs.declared.hop.Hop.{Hop}
use Rattle.sai_types.specs.declared.weight.WHop.{WHop}
use Rattle.sai_types.specs.declared.ids.Rid.{Rid}
use Rattle.sai_types.specs.declared.body.Call.{Call}
use Rattle.sai_types.specs.declared.thing.Goal.{Goal}
use Rattle.sai_types.specs.declared.thing.Thing.{Thing}
use Rattle.sai_types.specs.declared.thing.Thing.TheVariants as thing
use Rattle.sai_types.specs.Alike.{IsIn}
use Rattle.sai_types.specs.Decided.{AreRoutes}
use Rattle.sai_types.specs.Forwarding.{Decision, decide, forward, forwarding_of, hop_mac}
use Rattle.sai_types.specs.Forwarding as decision
use Rattle.sai_types.specs.Names as name
use Rattle.sai_types.specs.Names.{ThingName, name_of}
use Rattle.sai_types.proofs.Decided.{decide-alike}
use Rattle.chip_layout.proofs.Answering.{IsFront, front, mac_in}
use Rattle.switch_model.specs.Placed as row
use Rattle.switch_model.specs.Placed.{Placed as Row}
use Rattle.row_layout.specs.Operations.{Change, Make, Set, Take, changes_of, uses_of}
use Rattle.row_layout.specs.Rows as owner
use Rattle.row_layout.specs.Rows.{Owner, OfRow}
use Rattle.row_layout.proofs.Members.{in_map}
use Rattle.switch_machine.specs.Bearing.{Bears, BearsOn, NoneBears, SwitchesOnce, standing_things}
use Rattle.switch_machine.specs.Changes.{after, changed_name}
use Rattle.switch_machine.specs.Events.{AreAnswers, IsAnswer, IsBegin, IsDueCall, IsQuiet, IsSafe, SwitchState, after_answers, changes_made}
use Rattle.switch_machine.specs.Flights.{Can, Fits, Goes, IsFinal, IsOwnedBy, Machine, StandsIn}
use Rattle.switch_machine.specs.Operations.{IsUsedByOthers}
use Rattle.switch_machine.specs.Steps.{started}
use Rattle.switch_machine.specs.Tables.{TableLaws}
use Rattle.switch_machine.proofs.Bearing.{bears-once, route_groups}
use Rattle.switch_machine.proofs.Kept.{it_can, kept-answers, kept-event, moves_back, moves_by, same_stands}
use Rattle.switch_machine.proofs.Reasoned.{route-row}
use Rattle.switch_machine.proofs.Running.{Agree, stays, stood}
use Rattle.switch_machine.proofs.Sequence.{sequence}
use Rattle.switch_machine.proofs.Splits.{own_row_in}
use Rattle.switch_machine.proofs.Tabled.{tabled}

-- ---- what a decision rests on

mac_from : (ts : List Thing) (hop : Hop) (m : Mac) → hop_mac ts hop ≡ Some m → IsIn (thing.Neighbor hop m) ts
mac_from [] hop m h = absurd cc
mac_from (t ∷ ts) hop m h = by (front t ts hop) (λ g. mac_from ts hop m g)
  where
    one_mac : (x y : Mac) → Some x ≡ Some y → x ≡ y
    one_mac x y e = cc

    by : IsFront t ts hop → (hop_mac ts hop ≡ Some m → IsIn (thing.Neighbor hop m) ts) → IsIn (thing.Neighbor hop m) (t ∷ ts)
    by (inl (n, is, at)) rest = inl (ap (thing.Neighbor hop) (one_mac m n (sym h ∙ at)) ∙ sym is)
    by (inr (same, none)) rest = inr (rest (sym same ∙ h))

abbrev HaveOneMac : List Thing → Type 0
HaveOneMac ts = (hop : Hop) (m n : Mac) → IsIn (thing.Neighbor hop m) ts → IsIn (thing.Neighbor hop n) ts → m ≡ n

module _ (ts us : List Thing) (a : Packet) (routes : AreRoutes us) (macs : HaveOneMac us) (same : Agree (λ u. IsIn u ts) (λ u. IsIn u us) (λ u. BearsOn a (name_of u))) where
  decided : decide ts a ≡ decide us a
  decided = decide-alike ts us a routes (record {
    own = same.into (thing.Own a.vrf a.to) tt;
    own_back = same.back (thing.Own a.vrf a.to) tt;
    routes = λ p g covering. same.into (thing.Route a.vrf p g) (and_from (same_vrf a.vrf a.vrf) (covers p a.to) (vrf-refl a.vrf) covering);
    routes_back = λ p g covering. same.back (thing.Route a.vrf p g) (and_from (same_vrf a.vrf a.vrf) (covers p a.to) (vrf-refl a.vrf) covering);
  })

  mac_same : (hop : Hop) → hop_mac ts hop ≡ hop_mac us hop
  mac_same hop = by (hop_mac ts hop) refl (hop_mac us hop) refl
    where
      by : (o : Option Mac) → hop_mac ts hop ≡ o → (p : Option Mac) → hop_mac us hop ≡ p → o ≡ p
      by None e None h = refl
      by (Some m) e p h =
          let there = same.into (thing.Neighbor hop m) tt (mac_from ts hop m e) in
          sym (mac_in us hop m there (λ n g. macs hop n m g there)) ∙ h
      by None e (Some n) h =
          let here = same.back (thing.Neighbor hop n) tt (mac_from us hop n h) in
          sym e ∙ mac_in ts hop n here (λ m g. macs hop m n (same.into (thing.Neighbor hop m) tt g) (mac_from us hop n h))

  abbrev with_mac : List Thing → WHop → WHop × Option Mac
  with_mac xs h = (h, hop_mac xs h.hop)

  hops_same : (hops : List WHop) → map (with_mac ts) hops ≡ map (with_mac us) hops
  hops_same [] = refl
  hops_same (h ∷ hops) = let pair : Option Mac → List (WHop × Option Mac) → List (WHop × Option Mac) = λ m rest. (h, m) ∷ rest in ap₂ pair (mac_same h.hop) (hops_same hops)

  forwards : (d : Decision) → forwarding_of ts d ≡ forwarding_of us d
  forwards decision.Cpu = refl
  forwards decision.Drop = refl
  forwards (decision.Direct base) = refl
  forwards (decision.Via hops) = ap decision.Through (hops_same hops)

  same-for : (decide ts a ≡ decide us a) × (forward ts a ≡ forward us a)
  same-for = (decided, forwards (decide ts a) ∙ ap (forwarding_of us) decided)

-- ---- the list of what stands

in_standing : (m : Machine) (u : Thing) → StandsIn m u → IsIn u (standing_things m)
in_standing m u (i, h) = in_map (λ (x : Rid × Thing). x.1) (i, u) m.stands h

from_list : (xs : List (Rid × Thing)) (u : Thing) → IsIn u (map (λ (x : Rid × Thing). x.1) xs) → (i : Rid) × IsIn (i, u) xs
from_list [] u h = elim h [ ]
from_list (x ∷ xs) u (inl e) = let pair : Thing → Rid × Thing = λ t. (x.0, t) in (x.0, inl (ap pair e))
from_list (x ∷ xs) u (inr h) = let y = from_list xs u h in (y.0, inr y.1)

from_standing : (m : Machine) (u : Thing) → IsIn u (standing_things m) → StandsIn m u
from_standing m u h = from_list m.stands u h

bears_on : (a : Packet) (n : ThingName) → BearsOn a n → Bears n
bears_on a (name.Route v p) h = tt
bears_on a (name.Own v ip) h = tt
bears_on a (name.Neighbor hop) h = tt
bears_on a _ h = elim h [ ]

module _ (plan : Ports) (is : IsPlan plan) (workers : ℕ) (capacities : List ℕ) where
  abbrev T : TableLaws plan
  T = tabled plan is

  proper_by : (v : Vrf) (p : Prefix) (r : Row) → Fits plan (key.Route v p) r → IsProperPrefix p
  proper_by v p (row.Route r) fit = fit.0
  proper_by v p _ fit = elim fit [ ]

  routes_stand : (s : SwitchState) → IsSafe plan workers capacities s → AreRoutes (standing_things s.machine)
  routes_stand s kept = record {
    proper = λ v p g h. let x = route-row plan is workers capacities s kept v p g (from_standing s.machine (thing.Route v p g) h) in proper_by v p x.0 (kept.sound.board.fit (key.Route v p) x.0 x.1);
    one = λ v p g h x y. one v p g h (from_standing s.machine (thing.Route v p g) x) (from_standing s.machine (thing.Route v p h) y);
  }
    where
      one : (v : Vrf) (p : Prefix) (g h : Goal) → StandsIn s.machine (thing.Route v p g) → StandsIn s.machine (thing.Route v p h) → g ≡ h
      one v p g h (i, x) (j, y) = let same = (kept.laid.one i j (thing.Route v p g) (thing.Route v p h) x y refl).1 in cc

  macs_stand : (s : SwitchState) → IsSafe plan workers capacities s → HaveOneMac (standing_things s.machine)
  macs_stand s kept hop m n x y = one (from_standing s.machine (thing.Neighbor hop m) x) (from_standing s.machine (thing.Neighbor hop n) y)
    where
      one : StandsIn s.machine (thing.Neighbor hop m) → StandsIn s.machine (thing.Neighbor hop n) → m ≡ n
      one (i, x) (j, y) = let same = (kept.laid.one i j (thing.Neighbor hop m) (thing.Neighbor hop n) x y refl).1 in cc

  -- a change that doesn't bear on an address leaves its packets where they go
  step : (s t : SwitchState) (call : Call Rid) (x : IsAnswer plan workers call s t) (a : Packet) → IsSafe plan workers capacities s → (BearsOn a (changed_name x.next.change) → ⊥) → (decide (standing_things t.machine) a ≡ decide (standing_things s.machine) a) × (forward (standing_things t.machine) a ≡ forward (standing_things s.machine) a)
  step s t call x a kept none =
      same-for (standing_things t.machine) (standing_things s.machine) a (routes_stand s kept) (macs_stand s kept) (record {
        into = λ u b h. in_standing s.machine u (stood x.next.change (StandsIn s.machine u) u (apart u b) (was u (from_standing t.machine u h)));
        back = λ u b h. in_standing t.machine u (now u (stays x.next.change (StandsIn s.machine u) u (apart u b) (from_standing s.machine u h)));
      })
    where
      apart : (u : Thing) → BearsOn a (name_of u) → name_of u ≡ changed_name x.next.change → ⊥
      apart u b e = none (subst (BearsOn a) e b)

      later : x.stands ≡ t.machine.stands
      later = same_stands plan is workers capacities x.next.worker _ t.machine x.follows

      was : (u : Thing) → StandsIn t.machine u → after x.next.change (StandsIn s.machine u) u
      was u (i, h) = moves_by s.machine x.next.change x.id x.stands x.back u i (subst (IsIn (i, u)) (sym later) h)

      now : (u : Thing) → after x.next.change (StandsIn s.machine u) u → StandsIn t.machine u
      now u h = let y = moves_back s.machine x.next.change x.id x.stands x.into u h in (y.0, subst (IsIn (y.0, u)) later y.1)

  -- ---- the changes of a route's operation

  bears_route : (v : Vrf) (prefix : Prefix) (n : ThingName) → IsOwnedBy plan n (OfRow (key.Route v prefix)) → Bears n → n ≡ name.Route v prefix
  bears_route v prefix (name.Route w p) of b = cc
  bears_route v prefix (name.Own w ip) of b = absurd cc
  bears_route v prefix (name.Neighbor hop) of b = let m = mapped (λ n. OfRow (key.Neigh n hop.ip)) _ (OfRow (key.Route v prefix)) of in let e = m.2 in absurd cc
  bears_route v prefix _ of b = elim b [ ]

  bears_group : (hops : List WHop) (n : ThingName) → IsOwnedBy plan n (owner.Group hops) → Bears n → ⊥
  bears_group hops (name.Route v p) of b = cc
  bears_group hops (name.Own v ip) of b = cc
  bears_group hops (name.Neighbor hop) of b = let m = mapped (λ n. OfRow (key.Neigh n hop.ip)) _ (owner.Group hops) of in let e = m.2 in cc
  bears_group hops _ of b = elim b [ ]

  route_change : (s : SwitchState) (call : Call Rid) (x : IsDueCall workers call s) (v : Vrf) (prefix : Prefix) → IsSafe plan workers capacities s → x.flight.key ≡ key.Route v prefix → Bears (changed_name x.change) → changed_name x.change ≡ name.Route v prefix
  route_change s call x v prefix kept route bears = by x.change (it_can plan is workers capacities s kept call x) bears
    where
      of_row : (n : ThingName) → IsOwnedBy plan n (OfRow x.flight.key) → Bears n → n ≡ name.Route v prefix
      of_row n of b = bears_route v prefix n (of ∙ ap (λ k. Some (OfRow k)) route) b

      of_used : (n : ThingName) (o : Owner) (r : Option Row) → IsOwnedBy plan n o → IsIn o (uses_of plan x.flight.key r) → Bears n → n ≡ name.Route v prefix
      of_used n o r of used b = let g = route_groups plan v prefix r o (subst (λ k. IsIn o (uses_of plan k r)) route used) in absurd (bears_group g.0 n (of ∙ ap Some g.1) b)

      final : (t : Thing) → IsFinal plan x.flight t → Bears (name_of t) → name_of t ≡ name.Route v prefix
      final t (inl own) b = let r = own_row_in plan x.flight.key x.flight.new t own in of_row (name_of t) (T.own x.flight.key r.0 t (kept.sound.board.fit x.flight.key r.0 (inr (x.worker, x.flight, x.flying, refl, r.1))) r.2) b
      final t (inr (o, used, h)) b = of_used (name_of t) o x.flight.new (T.shared o t h) used b

      goes : (n : ThingName) → Goes plan x.flight n → Bears n → n ≡ name.Route v prefix
      goes n (inl own) b = of_row n own.0 b
      goes n (inr (o, of, retires)) b = let was = kept.sound.board.left x.worker x.flight o x.flying retires in of_used n o (Some was.row) of was.used b

      by : (c : Change) → Can plan x.flight (StandsIn s.machine) c → Bears (changed_name c) → changed_name c ≡ name.Route v prefix
      by (Make t) can b = final t can.final b
      by (Set t) can b = of_row (name_of t) can.own b
      by (Take n) can b = goes n can.goes b

  -- a packet that the prefix in its router doesn't cover goes on as before
  pub outside : (s t : SwitchState) (call : Call Rid) (x : IsAnswer plan workers call s t) (v : Vrf) (prefix : Prefix) (a : Packet) → IsSafe plan workers capacities s → x.next.flight.key ≡ key.Route v prefix → covers_in v prefix a ≡ false → (decide (standing_things t.machine) a ≡ decide (standing_things s.machine) a) × (forward (standing_things t.machine) a ≡ forward (standing_things s.machine) a)
  outside s t call x v prefix a kept route out = step s t call x a kept (λ b. false≢true (sym out ∙ subst (BearsOn a) (route_change s call x.next v prefix kept route (bears_on a (changed_name x.next.change) b)) b))

  -- ---- what a run of answers does to a value that only bearing changes move

  module _ {X : Type 0} (F : SwitchState → X) (moves_none : (s t : SwitchState) (call : Call Rid) (x : IsAnswer plan workers call s t) → IsSafe plan workers capacities s → (Bears (changed_name x.next.change) → ⊥) → F t ≡ F s) where
    abbrev later : SwitchState → List (Call Rid × SwitchState) → ℕ → X
    later s es n = F (after_answers s (take n es))

    head_none : (c : Change) (cs ds : List Change) → c ∷ cs ≡ ds → NoneBears ds → (Bears (changed_name c) → ⊥) × NoneBears cs
    head_none c cs ds e none = (none c (subst (IsIn c) e (inl refl)), λ d h. none d (subst (IsIn d) e (inr h)))

    rests : (s : SwitchState) (es : List (Call Rid × SwitchState)) (run : AreAnswers plan workers s es) → IsSafe plan workers capacities s → NoneBears (changes_made plan workers s es run) → (n : ℕ) → later s es n ≡ F s
    rests s [] run kept none zero = refl
    rests s [] run kept none (suc n) = refl
    rests s (e ∷ es) run kept none zero = refl
    rests s (e ∷ es) run kept none (suc n) =
        let parts = head_none run.0.next.change (changes_made plan workers e.1 es run.1) _ refl none in
        rests e.1 es run.1 (kept-answers plan is workers capacities s e.1 kept e.0 run.0) parts.1 n ∙ moves_none s e.1 e.0 run.0 kept parts.0

    at_end : (s : SwitchState) (es : List (Call Rid × SwitchState)) → later s es (length es) ≡ F (after_answers s es)
    at_end s es = ap (λ z. F (after_answers s z)) (take-length es)

    tail_is : (c d : Change) (cs ds : List Change) → c ∷ cs ≡ d ∷ ds → (c ≡ d) × (cs ≡ ds)
    tail_is c d cs ds e = (cc, cc)

    no_changes : {Y : Type 0} (d : Change) (ds : List Change) → [] ≡ d ∷ ds → Y
    no_changes d ds e = absurd cc

    abbrev Switches : SwitchState → List (Call Rid × SwitchState) → Type 0
    Switches s es = SwitchesOnce (later s es) (F s) (F (after_answers s es))

    from_middle : (s : SwitchState) (es : List (Call Rid × SwitchState)) (run : AreAnswers plan workers s es) → IsSafe plan workers capacities s → (middle behind : List Change) → changes_made plan workers s es run ≡ middle ++ behind → (middle ≡ []) ⊎ ((c : Change) × (middle ≡ c ∷ [])) → NoneBears behind → Switches s es
    from_middle s es run kept middle behind parts (inl none) free = record { moment = 0; before = before; behind = λ n more. still n ∙ sym (still (length es)) ∙ at_end s es }
      where
        still : (n : ℕ) → later s es n ≡ F s
        still n = rests s es run kept (subst NoneBears (sym (parts ∙ ap (λ z. z ++ behind) none)) free) n

        before : (n : ℕ) → n ≤ 0 → later s es n ≡ F s
        before n less = still n
    from_middle s [] run kept middle behind parts (inr (c, one)) free = no_changes c behind (parts ∙ ap (λ z. z ++ behind) one)
    from_middle s (e ∷ es) run kept middle behind parts (inr (c, one)) free = record { moment = 0; before = before; behind = λ n more. now n more }
      where
        still : (n : ℕ) → later e.1 es n ≡ F e.1
        still n = rests e.1 es run.1 (kept-answers plan is workers capacities s e.1 kept e.0 run.0) (subst NoneBears (sym (tail_is run.0.next.change c (changes_made plan workers e.1 es run.1) behind (parts ∙ ap (λ z. z ++ behind) one)).1) free) n

        before : (n : ℕ) → n ≤ 0 → later s (e ∷ es) n ≡ F s
        before zero less = refl
        before (suc n) less = absurd (omega (arith, less))

        now : (n : ℕ) → 0 < n → later s (e ∷ es) n ≡ F (after_answers s (e ∷ es))
        now zero more = absurd (omega (arith, more))
        now (suc n) more = still n ∙ sym (still (length es)) ∙ at_end e.1 es

    pub switches : (s : SwitchState) (es : List (Call Rid × SwitchState)) (run : AreAnswers plan workers s es) → IsSafe plan workers capacities s → (front middle behind : List Change) → changes_made plan workers s es run ≡ front ++ (middle ++ behind) → NoneBears front → (middle ≡ []) ⊎ ((c : Change) × (middle ≡ c ∷ [])) → NoneBears behind → Switches s es
    switches s es run kept [] middle behind parts first once last = from_middle s es run kept middle behind parts once last
    switches s [] run kept (d ∷ front) middle behind parts first once last = no_changes d (front ++ (middle ++ behind)) parts
    switches s (e ∷ es) run kept (d ∷ front) middle behind parts first once last =
        more (switches e.1 es run.1 (kept-answers plan is workers capacities s e.1 kept e.0 run.0) front middle behind both.1 (λ c h. first c (inr h)) once last)
      where
        both : (run.0.next.change ≡ d) × (changes_made plan workers e.1 es run.1 ≡ front ++ (middle ++ behind))
        both = tail_is run.0.next.change d (changes_made plan workers e.1 es run.1) (front ++ (middle ++ behind)) parts

        same : F e.1 ≡ F s
        same = moves_none s e.1 e.0 run.0 kept (λ b. first d (inl refl) (subst (λ c. Bears (changed_name c)) both.0 b))

        more : Switches e.1 es → Switches s (e ∷ es)
        more x = record { moment = suc x.moment; before = before; behind = behind_it }
          where
            before : (n : ℕ) → n ≤ suc x.moment → later s (e ∷ es) n ≡ F s
            before zero less = refl
            before (suc n) less = x.before n (omega (arith, less)) ∙ same

            behind_it : (n : ℕ) → suc x.moment < n → later s (e ∷ es) n ≡ F (after_answers s (e ∷ es))
            behind_it zero far = absurd (omega (arith, far))
            behind_it (suc n) far = x.behind n (omega (arith, far))

  -- ---- a route's operation that runs alone

  pub route-switches : {X : Type 0} (F : Machine → X) → ((m later : Machine) → m.stands ≡ later.stands → F m ≡ F later) → ((s t : SwitchState) (call : Call Rid) (x : IsAnswer plan workers call s t) → IsSafe plan workers capacities s → (Bears (changed_name x.next.change) → ⊥) → F t.machine ≡ F s.machine) → (s t : SwitchState) (x : IsBegin plan workers capacities s t) (es : List (Call Rid × SwitchState)) (run : AreAnswers plan workers t es) (used : Owner → Bool) (v : Vrf) (prefix : Prefix) → IsSafe plan workers capacities s → x.flight.key ≡ key.Route v prefix → IsQuiet s → IsQuiet (after_answers t es) → IsUsedByOthers plan s.machine.board.applied x.flight.key used → SwitchesOnce (λ n. F (after_answers t (take n es)).machine) (F s.machine) (F (after_answers t es).machine)
  route-switches F same moves s t x es run used v prefix kept route quiet end by =
      let once = bears-once plan v prefix (s.machine.board.applied x.flight.key) x.flight.new used in
      let parts = sequence plan workers capacities s t x es run used quiet end by ∙ ap (λ k. changes_of plan k (s.machine.board.applied x.flight.key) x.flight.new used) route ∙ once.parts in
      let later = switches (λ u. F u.machine) moves t es run (kept-event plan is workers capacities s t None kept (inr (inr (inr x)))) once.before once.middle once.after parts once.first (one once.once) once.last in
      let start = same t.machine s.machine (sym (same_stands plan is workers capacities x.worker (started s.machine x.worker x.flight x.due) t.machine x.follows)) in
      record { moment = later.moment; before = λ n h. later.before n h ∙ start; behind = later.behind }
    where
      one : {cs : List Change} → (cs ≡ []) ⊎ ((c : Change) × (cs ≡ c ∷ []) × (changed_name c ≡ name.Route v prefix)) → (cs ≡ []) ⊎ ((c : Change) × (cs ≡ c ∷ []))
      one (inl e) = inl e
      one (inr (c, e, _)) = inr (c, e)

  bears_none : (s t : SwitchState) (call : Call Rid) (x : IsAnswer plan workers call s t) (a : Packet) → IsSafe plan workers capacities s → (Bears (changed_name x.next.change) → ⊥) → (decide (standing_things t.machine) a ≡ decide (standing_things s.machine) a) × (forward (standing_things t.machine) a ≡ forward (standing_things s.machine) a)
  bears_none s t call x a kept none = step s t call x a kept (λ b. none (bears_on a (changed_name x.next.change) b))

  pub decides-once : (s t : SwitchState) (x : IsBegin plan workers capacities s t) (es : List (Call Rid × SwitchState)) (run : AreAnswers plan workers t es) (used : Owner → Bool) (v : Vrf) (prefix : Prefix) (a : Packet) → IsSafe plan workers capacities s → x.flight.key ≡ key.Route v prefix → IsQuiet s → IsQuiet (after_answers t es) → IsUsedByOthers plan s.machine.board.applied x.flight.key used → SwitchesOnce (λ n. decide (standing_things (after_answers t (take n es)).machine) a) (decide (standing_things s.machine) a) (decide (standing_things (after_answers t es).machine) a)
  decides-once s t x es run used v prefix a kept route quiet end by =
      route-switches (λ m. decide (standing_things m) a) (λ m later e. ap (λ ts. decide (map (λ (y : Rid × Thing). y.1) ts) a) e) (λ s t call x kept none. (bears_none s t call x a kept none).0) s t x es run used v prefix kept route quiet end by

  pub forwards-once : (s t : SwitchState) (x : IsBegin plan workers capacities s t) (es : List (Call Rid × SwitchState)) (run : AreAnswers plan workers t es) (used : Owner → Bool) (v : Vrf) (prefix : Prefix) (a : Packet) → IsSafe plan workers capacities s → x.flight.key ≡ key.Route v prefix → IsQuiet s → IsQuiet (after_answers t es) → IsUsedByOthers plan s.machine.board.applied x.flight.key used → SwitchesOnce (λ n. forward (standing_things (after_answers t (take n es)).machine) a) (forward (standing_things s.machine) a) (forward (standing_things (after_answers t es).machine) a)
  forwards-once s t x es run used v prefix a kept route quiet end by =
      route-switches (λ m. forward (standing_things m) a) (λ m later e. ap (λ ts. forward (map (λ (y : Rid × Thing). y.1) ts) a) e) (λ s t call x kept none. (bears_none s t call x a kept none).1) s t x es run used v prefix kept route quiet end by
