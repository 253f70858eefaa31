-- a port plan with one port more
use Rattle.std.proofs.Common.{◌≡◌, ℕ, zero, suc, ◌+◌, ◌<◌, ◌≤◌, Bool, true, false, cond, ◌||◌, eqb, ltb, List, [], ◌∷◌, length, get_or, set, slice_index, Option, None, Some, Result, Ok, Err, is_some, subst, inl, inr, refl, sym, ap, ◌∙◌, arith, length-set, get_or-set_same, get_or-set_other, eq-eqb}
use Rattle.std.specs.BTreeMap.{insert_entry}
use Rattle.std.specs.List.{AllByRecursion, All, find}
use Rattle.std.specs.Ordering.{match_ordering, is_eq, nat_cmp}
use Rattle.std.specs.declared.cmp.Ordering.{Ordering}
use Rattle.std.specs.declared.cmp.Ordering.TheVariants.{Less, Equal, Greater}
use Rattle.std.proofs.lemmas.Bool.{cases_eq, eqb-false, eqb-true, ltb-true, ne_eqb, or_parts}
use Rattle.std.proofs.lemmas.Cmp.{nat_cmp_total}
use Rattle.std.proofs.lemmas.List.Elements.{All-tail}
use Rattle.swss_types.specs.Interface.{if_name_of}
use Rattle.swss_types.proofs.Proper.{IsLaneList-lanes_of}
use Rattle.swss_types.proofs.Truths.{or_swap}
use Rattle.swss_types.specs.Lanes.{lanes_of, IsLaneList, AreRising}
use Rattle.table_schema.specs.Split.{split_once}
use Rattle.table_schema.specs.declared.plan.PlanWhy.{PlanWhy}
use Rattle.table_schema.specs.Plan.{IsPlan, line_of, line_parts, plan_from, plan_of, plan_step, port_of, port_with, unless, with_line, Ports, has, has_lane, first_taken, port_named, lanes_in_plan, HaveOwnLanes, port_fault, lane_fault}
use Rattle.table_schema.specs.PlanIndex.{marked, IsIndexed}
use Rattle.table_schema.specs.declared.plan.PlanWhy.TheVariants.{NameTwice, TooManyPorts}
use Rattle.table_schema.proofs.Places.{HasRisingKeys-insert_entry}

-- ---- lists of lanes

below_512 : (low : ℕ) (lanes : List ℕ) (k d : ℕ) → AreRising low lanes → k < length lanes → get_or lanes k d < 512
below_512 low [] k d h lt = absurd (omega arith)
below_512 low (lane ∷ lanes) zero d h lt = h.1
below_512 low (lane ∷ lanes) (suc k) d h lt = below_512 (lane + 1) lanes k d h.2 (omega arith)

-- each lane of a list is below 512
pub All-lanes : (lanes : List ℕ) → IsLaneList lanes → All (λ lane. lane < 512) lanes
All-lanes lanes h k d lt = below_512 0 lanes k d h.rising lt

-- the table's first lane that is taken is the plan's
pub first_taken_is : (ports : Ports) (taken : List Bool) (lanes : List ℕ) → ((lane : ℕ) → lane < 512 → get_or taken lane false ≡ has_lane ports lane) → All (λ l. l < 512) lanes → find (λ lane. get_or taken lane false) lanes ≡ first_taken ports lanes
first_taken_is ports taken [] takes h = refl
first_taken_is ports taken (lane ∷ lanes) takes h =
    ap (λ b. cond b (Some lane) (find (λ l. get_or taken l false) lanes)) (takes lane (h zero lane (omega arith)))
    ∙ ap (λ o. cond (has_lane ports lane) (Some lane) o) (first_taken_is ports taken lanes takes (All-tail (λ l. l < 512) lane lanes h))

first_has : (lanes : List ℕ) → 0 < length lanes → has lanes (slice_index lanes 0) ≡ true
first_has [] some = absurd (omega arith)
first_has (lane ∷ lanes) some = ap (λ b. b || has lanes lane) (eq-eqb lane lane refl)

-- no port has its first lane at 512 or more
pub port_named-past : (ports : Ports) (lane : ℕ) → AllByRecursion (λ p. IsLaneList p.1) ports → 512 ≤ lane → port_named ports lane ≡ None
port_named-past [] lane h past = refl
port_named-past (p ∷ ps) lane h past =
    let small : slice_index p.1 0 < 512 = All-lanes p.1 h.0 0 0 h.0.some in
    ap (λ b. cond b (Some p.0) (port_named ps lane)) (ne_eqb _ _ (λ e. omega arith)) ∙ port_named-past ps lane h.1 past

-- ---- what holds where a port can be added

absent_step : (b : Bool) (v : List ℕ) (o : Option (List ℕ)) → is_some (cond b (Some v) o) ≡ false → (b ≡ false) × (is_some o ≡ false)
absent_step true v o h = cc
absent_step false v o h = (refl, h)

abbrev pub IsAbsent : Ports → ℕ → Type 0
IsAbsent ports port = is_some (lanes_in_plan ports port) ≡ false

fault_parts : (b : Bool) (count : ℕ) (o : Option ℕ) → cond b (Some NameTwice) (lane_fault count o) ≡ None → (b ≡ false) × (o ≡ None) × (ltb count 256 ≡ true)
fault_parts true count o h = cc
fault_parts false count (Some lane) h = cc
fault_parts false count None h = (refl, refl, less (ltb count 256) h)
  where
    less : (b : Bool) → cond b None (Some TooManyPorts) ≡ None → b ≡ true
    less true e = refl
    less false e = cc

none_taken_head : (b : Bool) (lane : ℕ) (o : Option ℕ) → cond b (Some lane) o ≡ None → (b ≡ false) × (o ≡ None)
none_taken_head true lane o h = cc
none_taken_head false lane o h = (refl, h)

-- where none of the lanes is taken, no port has one of them
free_lane : (ports : Ports) (lanes : List ℕ) (lane : ℕ) → first_taken ports lanes ≡ None → has lanes lane ≡ true → has_lane ports lane ≡ false
free_lane ports [] lane none has_it = cc
free_lane ports (l ∷ ls) lane none has_it =
    let parts = none_taken_head (has_lane ports l) l (first_taken ports ls) none in
    elim (cases_eq l lane) [
      | inl same ↦ ap (has_lane ports) (sym same) ∙ parts.0
      | inr other ↦ free_lane ports ls lane parts.1 (ap (λ b. b || has ls lane) (sym (ne_eqb l lane other)) ∙ has_it)
    ]

free_behind : (p : ℕ × List ℕ) (ps : Ports) (lanes : List ℕ) → first_taken (p ∷ ps) lanes ≡ None → first_taken ps lanes ≡ None
free_behind p ps [] none = refl
free_behind p ps (l ∷ ls) none =
    let parts = none_taken_head (has_lane (p ∷ ps) l) l (first_taken (p ∷ ps) ls) none in
    ap (λ b. cond b (Some l) (first_taken ps ls)) (or_parts (has p.1 l) (has_lane ps l) parts.0).1 ∙ free_behind p ps ls parts.1

module _ (port : ℕ) (lanes : List ℕ) where
  -- the ports with one more, of which no other has a lane
  abbrev pub with_port : Ports → Ports
  with_port ports = insert_entry nat_cmp ports port lanes

  length-with_port : (ports : Ports) → length (with_port ports) ≤ length ports + 1
  length-with_port [] = omega arith
  length-with_port (p ∷ ps) =
      let rest = length-with_port ps in
      elim (nat_cmp port p.0) as (λ r. length (match_ordering r ((port, lanes) ∷ p ∷ ps) ((p.0, lanes) ∷ ps) (p ∷ with_port ps)) ≤ suc (length ps) + 1) [ Less ↦ omega arith | Equal ↦ omega arith | Greater ↦ omega (arith, rest) ]

  lists-with_port : (ports : Ports) → IsLaneList lanes → AllByRecursion (λ p. IsLaneList p.1) ports → AllByRecursion (λ p. IsLaneList p.1) (with_port ports)
  lists-with_port [] new h = (new, tt)
  lists-with_port (p ∷ ps) new h =
      let rest = lists-with_port ps new h.1 in
      elim (nat_cmp port p.0) as (λ r. AllByRecursion (λ p. IsLaneList p.1) (match_ordering r ((port, lanes) ∷ p ∷ ps) ((p.0, lanes) ∷ ps) (p ∷ with_port ps))) [ Less ↦ (new, h) | Equal ↦ (new, h.1) | Greater ↦ (h.0, rest) ]

  -- a fact of the ports with one more, by the place of the new one
  by_place : (P : Ports → Type 0) (p : ℕ × List ℕ) (ps : Ports) (r : Ordering) → is_eq r ≡ false → P ((port, lanes) ∷ p ∷ ps) → P (p ∷ with_port ps) → P (match_ordering r ((port, lanes) ∷ p ∷ ps) ((p.0, lanes) ∷ ps) (p ∷ with_port ps))
  by_place P p ps Less absent less more = less
  by_place P p ps Equal absent less more = cc
  by_place P p ps Greater absent less more = more

  has_lane-with_port : (ports : Ports) (lane : ℕ) → IsAbsent ports port → has_lane (with_port ports) lane ≡ (has lanes lane || has_lane ports lane)
  has_lane-with_port [] lane absent = refl
  has_lane-with_port (p ∷ ps) lane absent =
      let parts = absent_step (is_eq (nat_cmp port p.0)) p.1 (lanes_in_plan ps port) absent in
      by_place (λ q. has_lane q lane ≡ (has lanes lane || (has p.1 lane || has_lane ps lane))) p ps (nat_cmp port p.0) parts.0 refl
      (ap (λ b. has p.1 lane || b) (has_lane-with_port ps lane parts.1) ∙ or_swap (has p.1 lane) (has lanes lane) (has_lane ps lane))

  port_named-with_port : (ports : Ports) (lane : ℕ) → IsAbsent ports port → AllByRecursion (λ p. IsLaneList p.1) ports → has_lane ports (slice_index lanes 0) ≡ false → port_named (with_port ports) lane ≡ cond (eqb (slice_index lanes 0) lane) (Some port) (port_named ports lane)
  port_named-with_port [] lane absent h free = refl
  port_named-with_port (p ∷ ps) lane absent h free =
      let parts = absent_step (is_eq (nat_cmp port p.0)) p.1 (lanes_in_plan ps port) absent in
      let frees = or_parts (has p.1 (slice_index lanes 0)) (has_lane ps (slice_index lanes 0)) free in
      let rest = port_named-with_port ps lane parts.1 h.1 frees.1 in
      by_place (λ q. port_named q lane ≡ cond (eqb (slice_index lanes 0) lane) (Some port) (port_named (p ∷ ps) lane)) p ps (nat_cmp port p.0) parts.0 refl
      (ap (λ o. cond (eqb (slice_index p.1 0) lane) (Some p.0) o) rest
      ∙ swapped (eqb (slice_index p.1 0) lane) (eqb (slice_index lanes 0) lane) (Some p.0) (Some port) (port_named ps lane)
      (λ here there. let at : has p.1 (slice_index p.1 0) ≡ true = first_has p.1 h.0.some in let one : slice_index p.1 0 ≡ lane = eqb-true _ _ here in let two : slice_index lanes 0 ≡ lane = eqb-true _ _ there in cc))
    where
      swapped : (a b : Bool) (x y z : Option ℕ) → (a ≡ true → b ≡ true → ⊥) → cond a x (cond b y z) ≡ cond b y (cond a x z)
      swapped true true x y z never = absurd (never refl refl)
      swapped true false x y z never = refl
      swapped false true x y z never = refl
      swapped false false x y z never = refl

  apart-with_port : (ports : Ports) → IsAbsent ports port → first_taken ports lanes ≡ None → HaveOwnLanes ports → HaveOwnLanes (with_port ports)
  apart-with_port [] absent free h = ((λ lane in_it. refl), tt)
  apart-with_port (p ∷ ps) absent free h =
      let parts = absent_step (is_eq (nat_cmp port p.0)) p.1 (lanes_in_plan ps port) absent in
      by_place HaveOwnLanes p ps (nat_cmp port p.0) parts.0
      ((λ lane in_it. free_lane (p ∷ ps) lanes lane free in_it), h) (
        (λ lane in_it. has_lane-with_port ps lane parts.1 ∙ both_false (has lanes lane) (has_lane ps lane) (λ e. let gone : has p.1 lane ≡ false = (or_parts (has p.1 lane) (has_lane ps lane) (free_lane (p ∷ ps) lanes lane free e)).0 in cc) (h.0 lane in_it)),
        apart-with_port ps parts.1 (free_behind p ps lanes free) h.1,
      )
    where
      both_false : (a b : Bool) → (a ≡ true → ⊥) → b ≡ false → (a || b) ≡ false
      both_false true b never h = absurd (never refl)
      both_false false b never h = h

-- ---- the tables

-- the table has its length, and a lane more is taken where it is one of these
length-marked : (taken : List Bool) (lanes : List ℕ) → length (marked taken lanes) ≡ length taken
length-marked taken [] = refl
length-marked taken (lane ∷ lanes) = length-marked (set taken lane true) lanes ∙ length-set taken lane true

marked_at : (taken : List Bool) (lanes : List ℕ) (lane : ℕ) → length taken ≡ 512 → All (λ l. l < 512) lanes → get_or (marked taken lanes) lane false ≡ (has lanes lane || get_or taken lane false)
marked_at taken [] lane count h = refl
marked_at taken (l ∷ ls) lane count h =
    let small : l < length taken = omega (arith, h zero l (omega arith)) in
    let rest = marked_at (set taken l true) ls lane (length-set taken l true ∙ count) (All-tail (λ l. l < 512) l ls h) in
    elim (cases_eq l lane) [
      | inl same ↦ rest ∙ ap (λ b. has ls lane || b) (subst (λ k. get_or (set taken l true) k false ≡ true) same (get_or-set_same taken l true false small)) ∙ or_true (has ls lane) ∙ ap (λ b. (b || has ls lane) || get_or taken lane false) (sym (eq-eqb l lane same))
      | inr other ↦ rest ∙ ap (λ b. has ls lane || b) (get_or-set_other taken l lane true false (λ e. other (sym e))) ∙ ap (λ b. (b || has ls lane) || get_or taken lane false) (sym (ne_eqb l lane other))
    ]
  where
    or_true : (b : Bool) → (b || true) ≡ true
    or_true true = refl
    or_true false = refl

-- a plan with one port more, where it can be added
pub IsPlan-with_port : (ports : Ports) (port : ℕ) (lanes : List ℕ) → IsPlan ports → IsLaneList lanes → port_fault ports (port, lanes) ≡ None → IsPlan (insert_entry nat_cmp ports port lanes)
IsPlan-with_port ports port lanes h list none =
    let parts = fault_parts (is_some (lanes_in_plan ports port)) (length ports) (first_taken ports lanes) none in
    let room : length ports < 256 = ltb-true _ _ parts.2 in
    record {
      few = omega (arith, length-with_port port lanes ports);
      rising = HasRisingKeys-insert_entry nat_cmp nat_cmp_total ports port lanes h.rising;
      lanes = lists-with_port port lanes ports list h.lanes;
      apart = apart-with_port port lanes ports parts.0 parts.1 h.apart;
    }

-- the tables agree with the plan that has one port more
pub IsIndexed-with_port : (ports : Ports) (taken : List Bool) (names : List (Option ℕ)) (port : ℕ) (lanes : List ℕ) → IsIndexed ports taken names → IsLaneList lanes → port_fault ports (port, lanes) ≡ None → IsIndexed (insert_entry nat_cmp ports port lanes) (marked taken lanes) (set names (slice_index lanes 0) (Some port))
IsIndexed-with_port ports taken names port lanes h list none =
    let parts = fault_parts (is_some (lanes_in_plan ports port)) (length ports) (first_taken ports lanes) none in
    let free : has_lane ports (slice_index lanes 0) ≡ false = free_lane ports lanes (slice_index lanes 0) parts.1 (first_has lanes list.some) in
    let small : slice_index lanes 0 < length names = omega (arith, All-lanes lanes list 0 0 list.some, h.names_count) in
    record {
      plan = IsPlan-with_port ports port lanes h.plan list none;
      taken_count = length-marked taken lanes ∙ h.taken_count;
      names_count = length-set names (slice_index lanes 0) (Some port) ∙ h.names_count;
      takes = λ lane lt. marked_at taken lanes lane h.taken_count (All-lanes lanes list) ∙ ap (λ b. has lanes lane || b) (h.takes lane lt) ∙ sym (has_lane-with_port port lanes ports lane parts.0);
      named = λ lane lt. named_at lane lt (eqb (slice_index lanes 0) lane) refl ∙ sym (port_named-with_port port lanes ports lane parts.0 h.plan.lanes free);
    }
  where
    named_at : (lane : ℕ) → lane < 512 → (b : Bool) → eqb (slice_index lanes 0) lane ≡ b → get_or (set names (slice_index lanes 0) (Some port)) lane None ≡ cond (eqb (slice_index lanes 0) lane) (Some port) (port_named ports lane)
    named_at lane lt true e =
        let same : slice_index lanes 0 ≡ lane = eqb-true _ _ e in
        let small : slice_index lanes 0 < length names = omega (arith, All-lanes lanes list 0 0 list.some, h.names_count) in
        subst (λ k. get_or (set names (slice_index lanes 0) (Some port)) k None ≡ Some port) same (get_or-set_same names (slice_index lanes 0) (Some port) None small)
        ∙ ap (λ b. cond b (Some port) (port_named ports lane)) (sym e)
    named_at lane lt false e =
        get_or-set_other names (slice_index lanes 0) lane (Some port) None (λ same. eqb-false (slice_index lanes 0) lane e (sym same))
        ∙ h.named lane lt ∙ ap (λ b. cond b (Some port) (port_named ports lane)) (sym e)

pub IsIndexed-added : (ports new_ports : Ports) (taken new_taken : List Bool) (names : List (Option ℕ)) (port at : ℕ) (lanes : List ℕ) → new_ports ≡ insert_entry nat_cmp ports port lanes → new_taken ≡ marked taken lanes → at ≡ slice_index lanes 0 → IsIndexed ports taken names → IsLaneList lanes → port_fault ports (port, lanes) ≡ None → IsIndexed new_ports new_taken (set names at (Some port))
IsIndexed-added ports new_ports taken new_taken names port at lanes p t a h list none = rw (p, t, a) (IsIndexed-with_port ports taken names port lanes h list none)

-- ---- plans that are read

IsPlan-unless : (o : Option PlanWhy) (ports new : Ports) → (o ≡ None → IsPlan ports) → unless o ports ≡ Ok new → IsPlan new
IsPlan-unless None ports new h e = let is : ports ≡ new = cc in subst IsPlan is (h refl)
IsPlan-unless (Some why) ports new h e = cc

list_in_line : (p : Option ℕ) (o : Option (List ℕ)) (port : ℕ × List ℕ) → ((lanes : List ℕ) → o ≡ Some lanes → IsLaneList lanes) → port_with p o ≡ Ok port → IsLaneList port.1
list_in_line None o port h e = cc
list_in_line (Some n) None port h e = cc
list_in_line (Some n) (Some lanes) port h e = let is : lanes ≡ port.1 = ok_lanes n lanes port e in subst IsLaneList is (h lanes refl)
  where
    ok_lanes : (n : ℕ) (lanes : List ℕ) (port : ℕ × List ℕ) → port_with (Some n) (Some lanes) ≡ Ok port → lanes ≡ port.1
    ok_lanes n lanes port e = let is : (n, lanes) ≡ port = cc in ap (λ p. p.1) is

list_of_parts : (line : List ℕ) (o : Option (List ℕ × List ℕ)) (port : ℕ × List ℕ) → line_parts line o ≡ Ok port → IsLaneList port.1
list_of_parts line None port e = list_in_line (port_of (if_name_of line)) None port (λ lanes h. cc) e
list_of_parts line (Some parts) port e = list_in_line (port_of (if_name_of parts.0)) (lanes_of parts.1) port (IsLaneList-lanes_of parts.1) e

IsPlan-with_line : (ports new : Ports) (r : Result (ℕ × List ℕ) PlanWhy) → ((port : ℕ × List ℕ) → r ≡ Ok port → IsLaneList port.1) → IsPlan ports → with_line ports r ≡ Ok new → IsPlan new
IsPlan-with_line ports new (Err why) lists h e = cc
IsPlan-with_line ports new (Ok port) lists h e = IsPlan-unless (port_fault ports port) (insert_entry nat_cmp ports port.0 port.1) new (λ none. IsPlan-with_port ports port.0 port.1 h (lists port refl) none) e

-- a plan with the port of a line more
pub IsPlan-plan_step : (ports new : Ports) (line : List ℕ) → IsPlan ports → plan_step ports line ≡ Ok new → IsPlan new
IsPlan-plan_step ports new line h e = IsPlan-with_line ports new (line_of line) (list_of_parts line (split_once 32 line)) h e

IsPlan-plan_from : (r : Result Ports PlanWhy) (number : ℕ) (lines : List (List ℕ)) (new : Ports) → ((ports : Ports) → r ≡ Ok ports → IsPlan ports) → plan_from r number lines ≡ Ok new → IsPlan new
IsPlan-plan_from (Err why) number lines new h e = cc
IsPlan-plan_from (Ok ports) number [] new h e = let is : ports ≡ new = cc in subst IsPlan is (h ports refl)
IsPlan-plan_from (Ok ports) number (line ∷ lines) new h e =
    IsPlan-plan_from (plan_step ports line) (number + 1) lines new (λ next is. IsPlan-plan_step ports next line (h ports refl) is) e

-- the plan without a port
pub IsPlan-none : IsPlan []
IsPlan-none = record { few = omega arith; rising = tt; lanes = tt; apart = tt }

-- what lines read as is a plan
pub IsPlan-plan_of : (lines : List (List ℕ)) (ports : Ports) → plan_of lines ≡ Ok ports → IsPlan ports
IsPlan-plan_of lines ports e = IsPlan-plan_from (Ok []) 0 lines ports (λ q is. let same : [] ≡ q = cc in subst IsPlan same IsPlan-none) e
