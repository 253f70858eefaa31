-- the hops at the pairs of two lists that are read part by part
use Rattle.std.proofs.Common.{◌≡◌, ℕ, ◌+◌, ◌≤◌, ◌==◌, Bool, true, false, cond, leb, List, ◌∷◌, [], length, Option, None, Some, Result, Ok, Err, Bor, refl, sym, ap, ap₂, ◌∙◌, arith}
use Rattle.std.proofs.lemmas.Bool.{leb-true}
use Rattle.std.proofs.lemmas.List.Splits.{length-slice_split}
use Rattle.swss_types.specs.Parts.{IsCutInto, parts_at}
use Rattle.swss_types.specs.VrfNames.{first_part}
use Rattle.table_schema.specs.Broken.{bad, and_then}
use Rattle.table_schema.specs.Hop.{put_row_hop}
use Rattle.table_schema.specs.RouteRules.{are_weights_of, counts_of, hops_with, other_parts, parts_left, weighted_hop}
use Rattle.table_schema.specs.declared.row.BadRow.{BadRow}
use Rattle.table_schema.specs.declared.row.BadWhy.TheVariants.{CountsDiffer, TooManyHops}
use Rattle.table_schema.specs.declared.row_hop.RowHop.{RowHop}

-- counts that are as they have to be are small
counts_few : (m n : ℕ) (weights : List ℕ) (u : Unit {0}) → counts_of m n weights ≡ Ok u → m ≤ 128
counts_few m n weights u h = same (m == n) h
  where
    most : (b : Bool) → leb m 128 ≡ b → cond b (Ok tt) (bad TooManyHops 7) ≡ Ok u → m ≤ 128
    most true few h = leb-true m 128 few
    most false few h = absurd cc

    weighed : (b : Bool) → cond b (cond (leb m 128) (Ok tt) (bad TooManyHops 7)) (bad CountsDiffer 15) ≡ Ok u → m ≤ 128
    weighed true h = most (leb m 128) refl h
    weighed false h = absurd cc

    same : (b : Bool) → cond b (cond (are_weights_of weights m) (cond (leb m 128) (Ok tt) (bad TooManyHops 7)) (bad CountsDiffer 15)) (bad CountsDiffer 8) ≡ Ok u → m ≤ 128
    same true h = weighed (are_weights_of weights m) h
    same false h = absurd cc

-- they are not where a part is left behind so many
pub too_many : {P : Type 0} (m n count : ℕ) (weights : List ℕ) (left : Option (Bor (List ℕ))) (text : Bor (List ℕ)) → left ≡ Some text → m ≡ count + length (parts_left left) → count ≡ 128 → counts_of m n weights ≡ Ok tt → P
too_many m n count weights left text is all full h =
    let few = counts_few m n weights tt h in
    let here : m ≡ count + length (parts_at 44 text.now) = all ∙ ap (λ l. count + length (parts_left l)) is in
    let some = length-slice_split (λ b. b == 44) text.now in
    absurd (omega (arith, some))

-- the parts of what is left, cut at the first
parts_cut : (left rest : Option (Bor (List ℕ))) (text : Bor (List ℕ)) (part : List ℕ) → left ≡ Some text → IsCutInto 44 text.now part rest → parts_left left ≡ part ∷ parts_left rest
parts_cut left None text part is cut = ap parts_left is ∙ cut.1 ∙ ap (λ p. p ∷ []) (sym cut.0)
parts_cut left (Some rest) text part is cut = ap parts_left is ∙ cut.1

pub count_more : (m count : ℕ) (left rest : Option (Bor (List ℕ))) (text : Bor (List ℕ)) (part : List ℕ) → left ≡ Some text → IsCutInto 44 text.now part rest → m ≡ count + length (parts_left left) → m ≡ count + 1 + length (parts_left rest)
count_more m count left rest text part is cut all =
    let one : length (parts_left left) ≡ length (part ∷ parts_left rest) = ap length (parts_cut left rest text part is cut) in
    omega (arith, one)

-- a hop more, and those at the pairs that are left
abbrev with_more : Bool → List (RowHop × ℕ) → Option (Bor (List ℕ)) → Option (Bor (List ℕ)) → Option (Bor (List ℕ)) → RowHop × ℕ → Result (List (RowHop × ℕ)) BadRow
with_more several hops ips ons weights hop = hops_with several (put_row_hop hops hop.0 hop.1) (parts_left ips) (parts_left ons) (parts_left weights)

-- the hop at the first pair, and those at the others
module _ (several : Bool) (hops : List (RowHop × ℕ)) (ips ons weights ips_left ons_left weights_left : Option (Bor (List ℕ))) (addresses names : Bor (List ℕ)) (ip on weight : List ℕ) (ips_is : ips ≡ Some addresses) (ons_is : ons ≡ Some names) (ip_cut : IsCutInto 44 addresses.now ip ips_left) (on_cut : IsCutInto 44 names.now on ons_left) (weight_first : weight ≡ first_part (parts_left weights)) (weight_others : parts_left weights_left ≡ other_parts (parts_left weights)) where
  at_first : hops_with several hops (parts_left ips) (parts_left ons) (parts_left weights) ≡ and_then (weighted_hop several ip on weight) (with_more several hops ips_left ons_left weights_left)
  at_first =
      rw (parts_cut ips ips_left addresses ip ips_is ip_cut, parts_cut ons ons_left names on ons_is on_cut)
      (ap₂ (λ w rest. and_then (weighted_hop several ip on w) (λ hop. hops_with several (put_row_hop hops hop.0 hop.1) (parts_left ips_left) (parts_left ons_left) rest)) (sym weight_first) (sym weight_others))

  pub hop_put : (new : List (RowHop × ℕ)) (hop : RowHop × ℕ) → weighted_hop several ip on weight ≡ Ok hop → new ≡ put_row_hop hops hop.0 hop.1 → hops_with several new (parts_left ips_left) (parts_left ons_left) (parts_left weights_left) ≡ hops_with several hops (parts_left ips) (parts_left ons) (parts_left weights)
  hop_put new hop reads put =
      sym (at_first ∙ ap (λ r. and_then r (with_more several hops ips_left ons_left weights_left)) reads ∙ ap (λ hs. hops_with several hs (parts_left ips_left) (parts_left ons_left) (parts_left weights_left)) (sym put))

  pub hop_broken : (broken : BadRow) → weighted_hop several ip on weight ≡ Err broken → hops_with several hops (parts_left ips) (parts_left ons) (parts_left weights) ≡ Err broken
  hop_broken broken reads = at_first ∙ ap (λ r. and_then r (with_more several hops ips_left ons_left weights_left)) reads
