-- the ports of a script that is made, and its forms
use Rattle.std.proofs.Common.{◌≡◌, ℕ, zero, suc, ◌+◌, ◌*◌, ◌<◌, ◌≤◌, ◌==◌, ◌||◌, false, cond, List, [], ◌∷◌, length, codes, Some, None, is_some, Result, Ok, Err, MatchResult, refl, sym, ap, ap₂, ◌∙◌, arith}
use Rattle.std.proofs.lemmas.Bool.{lt-ltb, ne_eqb}
use Rattle.std.specs.BTreeMap.{insert_entry}
use Rattle.std.specs.Cmp.{nat_cmp_is}
use Rattle.std.specs.Ordering.{is_eq, match_ordering, nat_cmp}
use Rattle.std.specs.declared.cmp.Ordering.TheVariants.{Greater}
use Rattle.std.specs.Fmt.{decimal}
use Rattle.swss_types.specs.Lanes.{IsLaneList, lanes_text}
use Rattle.swss_types.specs.Interface.{if_name_text}
use Rattle.swss_types.proofs.Decimals.{IsFree-decimal}
use Rattle.swss_types.proofs.Joins.{IsFree}
use Rattle.swss_types.proofs.LaneLists.{lanes_of-lanes_text}
use Rattle.swss_types.proofs.Names.{if_name_of-if_name_text}
use Rattle.table_schema.specs.Plan.{IsPlan, Ports, first_taken, has, has_lane, lane_fault, lanes_in_plan, line_of, line_parts, plan_step, port_fault, port_of, port_with, unless, with_line}
use Rattle.table_schema.specs.declared.plan.PlanWhy.{PlanWhy}
use Rattle.table_schema.specs.declared.plan.PlanWhy.TheVariants.{NameTwice, TooManyPorts}
use Rattle.table_schema.proofs.Plans.{IsPlan-none, IsPlan-plan_step}
use Rattle.table_schema.proofs.Texts.{IsFree-append, IsFree-tested, split_once-first}
use Rattle.swss_script.specs.Generated.{each_from, generated, generated_plan, port_in_plan, four_lanes, planned_line, port_name}
use Rattle.swss_script.specs.Stage.{IsOfStage}
use Rattle.swss_script.proofs.Eaches.{length-each}

-- ---- the line of a port

lanes-list : (k : ℕ) → k < 64 → IsLaneList (four_lanes k)
lanes-list k small = record {
  some = omega arith;
  few = omega arith;
  rising = (omega arith, omega (arith, small), (omega arith, omega (arith, small), (omega arith, omega (arith, small), (omega arith, omega (arith, small), tt))));
}

name-free : (k : ℕ) → k < 64 → IsFree 32 (if_name_text (port_name k))
name-free k small = IsFree-append 32 (codes "Ethernet") (decimal (4 * k)) (IsFree-tested 32 (codes "Ethernet") refl) (IsFree-decimal 32 (4 * k) (λ r. absurd (omega arith)) (omega (arith, small)))

line-port : (k : ℕ) → k < 64 → line_of (planned_line k) ≡ Ok (port_in_plan k)
line-port k small =
    ap (line_parts (planned_line k)) (split_once-first 32 (if_name_text (port_name k)) (lanes_text (four_lanes k)) (name-free k small))
    ∙ ap₂ port_with (ap port_of (if_name_of-if_name_text (port_name k) (omega (arith, small)))) (lanes_of-lanes_text (four_lanes k) (lanes-list k small))

-- ---- a port behind those before it

abbrev before : ℕ → ℕ → Ports
before a n = each_from port_in_plan a n

greater-port : (k a : ℕ) → a < k → nat_cmp (4 * k) (4 * a) ≡ Greater
greater-port k a less = sym (nat_cmp_is (4 * k) (4 * a) Greater (omega (arith, less)))

absent-port : (k a n : ℕ) → a + n ≤ k → lanes_in_plan (before a n) (4 * k) ≡ None
unfolding each_from
absent-port k a zero within = refl
absent-port k a (suc n) within =
    ap (λ o. cond (is_eq o) (Some (four_lanes a)) (lanes_in_plan (before (a + 1) n) (4 * k))) (greater-port k a (omega (arith, within)))
    ∙ absent-port k (a + 1) n (omega (arith, within))

-- a lane behind those of a port
no-lane : (a lane : ℕ) → 4 * a + 3 < lane → has (four_lanes a) lane ≡ false
no-lane a lane past =
    let one : (4 * a == lane) ≡ false = ne_eqb (4 * a) lane (λ e. omega (arith, e, past)) in
    let two : (4 * a + 1 == lane) ≡ false = ne_eqb (4 * a + 1) lane (λ e. omega (arith, e, past)) in
    let three : (4 * a + 2 == lane) ≡ false = ne_eqb (4 * a + 2) lane (λ e. omega (arith, e, past)) in
    let four : (4 * a + 3 == lane) ≡ false = ne_eqb (4 * a + 3) lane (λ e. omega (arith, e, past)) in
    ap₂ (λ x y. x || (y || ((4 * a + 2 == lane) || ((4 * a + 3 == lane) || false)))) one two ∙ ap₂ (λ x y. x || (y || false)) three four

free-lane : (k a n lane : ℕ) → a + n ≤ k → 4 * k ≤ lane → has_lane (before a n) lane ≡ false
unfolding each_from
free-lane k a zero lane within high = refl
free-lane k a (suc n) lane within high = ap₂ (λ x y. x || y) (no-lane a lane (omega (arith, within, high))) (free-lane k (a + 1) n lane (omega (arith, within)) high)

none-taken : (k : ℕ) → first_taken (before 0 k) (four_lanes k) ≡ None
none-taken k =
    let free : (lane : ℕ) → 4 * k ≤ lane → has_lane (before 0 k) lane ≡ false = λ lane high. free-lane k 0 k lane (omega arith) high in
    ap (λ b. cond b (Some (4 * k)) (first_taken (before 0 k) ((4 * k + 1) ∷ (4 * k + 2) ∷ (4 * k + 3) ∷ []))) (free (4 * k) (omega arith))
    ∙ ap (λ b. cond b (Some (4 * k + 1)) (first_taken (before 0 k) ((4 * k + 2) ∷ (4 * k + 3) ∷ []))) (free (4 * k + 1) (omega arith))
    ∙ ap (λ b. cond b (Some (4 * k + 2)) (first_taken (before 0 k) ((4 * k + 3) ∷ []))) (free (4 * k + 2) (omega arith))
    ∙ ap (λ b. cond b (Some (4 * k + 3)) None) (free (4 * k + 3) (omega arith))

no-fault : (k : ℕ) → k < 64 → port_fault (before 0 k) (port_in_plan k) ≡ None
no-fault k small =
    let long = length-each port_in_plan 0 k in
    ap (λ o. cond (is_some o) (Some NameTwice) (lane_fault (length (before 0 k)) (first_taken (before 0 k) (four_lanes k)))) (absent-port k 0 k (omega arith))
    ∙ ap (lane_fault (length (before 0 k))) (none-taken k)
    ∙ ap (λ b. cond b None (Some TooManyPorts)) (lt-ltb (length (before 0 k)) 256 (omega (arith, small, long)))

put-behind : (k a n : ℕ) → a + n ≡ k → insert_entry nat_cmp (before a n) (4 * k) (four_lanes k) ≡ before a (suc n)
unfolding each_from
put-behind k a zero is = let same : k ≡ a = omega (arith, is) in ap (λ x. port_in_plan x ∷ []) same
put-behind k a (suc n) is =
    ap (λ o. match_ordering o (port_in_plan k ∷ before a (suc n)) ((4 * a, four_lanes k) ∷ before (a + 1) n) (port_in_plan a ∷ insert_entry nat_cmp (before (a + 1) n) (4 * k) (four_lanes k))) (greater-port k a (omega (arith, is)))
    ∙ ap (λ l. port_in_plan a ∷ l) (put-behind k (a + 1) n (omega (arith, is)))

port-added : (k : ℕ) → k < 64 → plan_step (before 0 k) (planned_line k) ≡ Ok (before 0 (suc k))
port-added k small =
    ap (with_line (before 0 k)) (line-port k small)
    ∙ ap (λ o. unless o (insert_entry nat_cmp (before 0 k) (4 * k) (four_lanes k))) (no-fault k small)
    ∙ ap Ok (put-behind k 0 k (omega arith))

step-is : (k : ℕ) (old : Ports) (line : List ℕ) → k < 64 → old ≡ before 0 k → line ≡ planned_line k → plan_step old line ≡ Ok (before 0 (suc k))
step-is k old line small is said = ap₂ plan_step is said ∙ port-added k small

-- what a plan answers to a line
abbrev Says : Ports → List ℕ → Ports → Result (Unit {0}) PlanWhy → Type 0
Says old line new answer = MatchResult answer (λ _. plan_step old line ≡ Ok new) (λ why. (plan_step old line ≡ Err why) × (new ≡ old))

never-refused : (k : ℕ) (old : Ports) (line : List ℕ) (why : PlanWhy) → k < 64 → old ≡ before 0 k → line ≡ planned_line k → plan_step old line ≡ Err why → ⊥
never-refused k old line why small is said refused = let both : Err why ≡ Ok (before 0 (suc k)) = sym refused ∙ step-is k old line small is said in cc

-- the plan takes the line of the port
pub port-fits : (k : ℕ) (old new : Ports) (line : List ℕ) (answer : Result (Unit {0}) PlanWhy) (why : PlanWhy) → k < 64 → old ≡ before 0 k → line ≡ planned_line k → Says old line new answer → answer ≡ Err why → ⊥
port-fits k old new line (Ok done) why small is said says refused = cc
port-fits k old new line (Err other) why small is said says refused = never-refused k old line other small is said says.0

pub port-put : (k : ℕ) (old new : Ports) (line : List ℕ) (answer : Result (Unit {0}) PlanWhy) → k < 64 → old ≡ before 0 k → line ≡ planned_line k → Says old line new answer → new ≡ before 0 (k + 1)
port-put k old new line (Err why) small is said says = absurd (never-refused k old line why small is said says.0)
port-put k old new line (Ok done) small is said says =
    let both : Ok new ≡ Ok (before 0 (suc k)) = sym says ∙ step-is k old line small is said in
    let same : new ≡ before 0 (suc k) = cc in
    let next : suc k ≡ k + 1 = omega arith in
    same ∙ ap (before 0) next

-- ---- the plan

plan-before : (k : ℕ) → k ≤ 64 → IsPlan (before 0 k)
unfolding each_from
plan-before zero within = IsPlan-none
plan-before (suc k) within = IsPlan-plan_step (before 0 k) (before 0 (suc k)) (planned_line k) (plan-before k (omega (arith, within))) (port-added k (omega (arith, within)))

pub IsPlan-made : IsPlan generated_plan
IsPlan-made = plan-before 64 (omega arith)

-- a script that is made has the forms of this stage alone
pub stage-made : (n seed : ℕ) → IsOfStage (generated n seed)
stage-made n seed = record {
  fails = tt;
  image = tt;
  plan = IsPlan-made;
  producers = omega arith;
  several = omega arith;
  numbers = (((omega arith, omega arith), ((omega arith, omega arith), tt)), (((omega arith, omega arith), tt), tt));
}
