-- the run of zero groups that is written as a double colon
use Rattle.std.proofs.Common.{◌≡◌, ℕ, ◌+◌, ◌<◌, ◌≤◌, ◌-◌, List, ◌++◌, length, take, drop, codes, refl, sym, ap, arith}
use Rattle.std.proofs.NetLemmas.Texts.{IsZeroRun-longest_zero_run, longest_zero_run_first}
use Rattle.std.proofs.lemmas.List.{take_rest}
use Rattle.std.proofs.lemmas.Bool.{lt-ltb, le-ltb}
use Rattle.std.specs.Net.Text.{groups_text, hex_groups_text, longest_zero_run}
use Rattle.swss_types.specs.Ip.{IsGap, IsRecommended}

-- a single zero group stays
pub hex_groups_text_whole : (groups : List ℕ) → (longest_zero_run groups).1 < 2 → hex_groups_text groups ≡ groups_text groups
unfolding hex_groups_text
hex_groups_text_whole groups few = let le : (longest_zero_run groups).1 ≤ 1 = omega arith in rw (le-ltb 1 (longest_zero_run groups).1 le) refl

pub hex_groups_text_long : (groups : List ℕ) → 2 ≤ (longest_zero_run groups).1 → hex_groups_text groups ≡ groups_text (take (longest_zero_run groups).0 groups) ++ codes "::" ++ groups_text (drop ((longest_zero_run groups).0 + (longest_zero_run groups).1) groups)
unfolding hex_groups_text
hex_groups_text_long groups many = let lt : 1 < (longest_zero_run groups).1 = omega arith in rw (lt-ltb 1 (longest_zero_run groups).1 lt) refl

-- a longer run is written as a double colon
pub hex_groups_text_around : (groups : List ℕ) (run : ℕ × ℕ) → run ≡ longest_zero_run groups → 2 ≤ run.1 → hex_groups_text groups ≡ groups_text (take run.0 groups) ++ codes "::" ++ groups_text (take (length groups - (run.0 + run.1)) (drop (run.0 + run.1) groups))
hex_groups_text_around groups run same many =
    let many' : 2 ≤ (longest_zero_run groups).1 = omega (arith, ap (λ r. r.1) same) in
    rw (take_rest groups (run.0 + run.1), same) (hex_groups_text_long groups many')

around : (groups : List ℕ) (start len : ℕ) → IsGap groups start len → hex_groups_text groups ≡ groups_text (take start groups) ++ codes "::" ++ groups_text (drop (start + len) groups)
around groups start len gap =
    let run = longest_zero_run groups in
    let zeros = IsZeroRun-longest_zero_run groups in
    let best = longest_zero_run_first groups start len gap.zeros in
    let most = gap.longest run.0 run.1 zeros in
    let same : run.1 ≡ len = omega (arith, best.0) in
    let early = gap.first run.0 (rw (← same) zeros) in
    let late = best.1 (sym same) in
    let first : run.0 ≡ start = omega arith in
    rw (← first, ← same) (hex_groups_text_long groups (omega (arith, gap.many)))

-- the written form of eight groups is the recommended one
pub IsRecommended-hex_groups_text : (groups : List ℕ) → IsRecommended groups (hex_groups_text groups)
IsRecommended-hex_groups_text groups = record {
  gap = λ start len is. around groups start len is;
  whole = λ none. let few : (longest_zero_run groups).1 ≤ 1 = none (longest_zero_run groups).0 (longest_zero_run groups).1 (IsZeroRun-longest_zero_run groups) in hex_groups_text_whole groups (omega arith);
}
