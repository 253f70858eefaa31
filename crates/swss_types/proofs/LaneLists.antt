-- lanes that are written read as the same lanes
use Rattle.std.proofs.Common.{◌≡◌, ℕ, ◌+◌, ◌<◌, ◌≤◌, List, [], ◌∷◌, ◌++◌, length, Option, None, Some, Ordering, refl, sym, ap, ◌∙◌, arith, append_assoc}
use Rattle.std.proofs.lemmas.Bool.{eq-eqb, le-leb}
use Rattle.std.proofs.lemmas.List.{append-nil}
use Rattle.std.specs.BTreeSet.{insert_key}
use Rattle.std.specs.Cmp.{ranks}
use Rattle.std.specs.Fmt.{decimal}
use Rattle.std.specs.Ordering.{nat_cmp, match_ordering, MatchOrdering}
use Rattle.std.specs.declared.cmp.Ordering.TheVariants.{Less, Equal, Greater}
use Rattle.swss_types.specs.Lanes.{lanes_in, with_lane, rising, in_order, lanes_of, lanes_text, AreRising, IsLaneList}
use Rattle.swss_types.specs.Number.{number_within}
use Rattle.swss_types.specs.Parts.{parts_at, each_of, with_value, AllBelow}
use Rattle.swss_types.proofs.Decimals.{IsFree-decimal, number_within-decimal}
use Rattle.swss_types.proofs.Joins.{each_of-joined}

with_lane-with_value : (o : Option ℕ) (others : Option (List ℕ)) → with_lane o others ≡ with_value o others
with_lane-with_value None others = refl
with_lane-with_value (Some n) None = refl
with_lane-with_value (Some n) (Some ns) = refl

lanes_in-each_of : (parts : List (List ℕ)) → lanes_in parts ≡ each_of (number_within 511) parts
lanes_in-each_of [] = refl
lanes_in-each_of (part ∷ parts) = ap (with_lane (number_within 511 part)) (lanes_in-each_of parts) ∙ with_lane-with_value (number_within 511 part) (each_of (number_within 511) parts)

AllBelow-rising : (low : ℕ) (lanes : List ℕ) → AreRising low lanes → AllBelow 512 lanes
AllBelow-rising low [] h = tt
AllBelow-rising low (lane ∷ lanes) h = (h.1, AllBelow-rising (lane + 1) lanes h.2)

at_greater : (x y : ℕ) (o : Ordering) (a b c : List ℕ) → MatchOrdering o (x < y) (x ≡ y) (y < x) → y < x → match_ordering o a b c ≡ c
at_greater x y Less a b c o h = absurd (omega arith)
at_greater x y Equal a b c o h = absurd (omega arith)
at_greater x y Greater a b c o h = refl

insert_key-last : (n bound : ℕ) (ns : List ℕ) → AllBelow bound ns → bound ≤ n → insert_key nat_cmp ns n ≡ ns ++ n ∷ []
insert_key-last n bound [] h le = refl
insert_key-last n bound (m ∷ ns) h le =
    let above : m < n = omega (arith, h.0) in
    at_greater n m (nat_cmp n m) _ _ _ (ranks n m) above ∙ ap (λ r. m ∷ r) (insert_key-last n bound ns h.1 le)

AllBelow-more : (low high : ℕ) (ns : List ℕ) → low ≤ high → AllBelow low ns → AllBelow high ns
AllBelow-more low high [] le h = tt
AllBelow-more low high (n ∷ ns) le h = (omega (arith, h.0), AllBelow-more low high ns le h.1)

AllBelow-push : (bound n : ℕ) (ns : List ℕ) → AllBelow bound ns → n < bound → AllBelow bound (ns ++ n ∷ [])
AllBelow-push bound n [] h lt = (lt, tt)
AllBelow-push bound n (m ∷ ns) h lt = (h.0, AllBelow-push bound n ns h.1 lt)

rising-same : (bound : ℕ) (done lanes : List ℕ) → AllBelow bound done → AreRising bound lanes → rising done lanes ≡ done ++ lanes
rising-same bound done [] below h = sym (append-nil done)
rising-same bound done (n ∷ ns) below h =
    let more = AllBelow-push (n + 1) n done (AllBelow-more bound (n + 1) done (omega (arith, h.0)) below) (omega arith) in
    ap (λ l. rising l ns) (insert_key-last n bound done below h.0) ∙ rising-same (n + 1) (done ++ n ∷ []) ns more h.2 ∙ append_assoc done (n ∷ []) ns

in_order-rising : (lanes : List ℕ) → IsLaneList lanes → in_order (Some lanes) ≡ Some lanes
in_order-rising lanes h =
    let same : rising [] lanes ≡ lanes = rising-same 0 [] lanes tt h.rising in
    rw (same, eq-eqb (length lanes) (length lanes) refl, le-leb (length lanes) 8 h.few) refl

pub lanes_of-lanes_text : (lanes : List ℕ) → IsLaneList lanes → lanes_of (lanes_text lanes) ≡ Some lanes
lanes_of-lanes_text [] h = let some = h.some in absurd (omega arith)
lanes_of-lanes_text (lane ∷ lanes) h =
    let below = AllBelow-rising 0 (lane ∷ lanes) h.rising in
    let each = each_of-joined 44 512 decimal (number_within 511) (λ v small. IsFree-decimal 44 v (λ r. absurd (omega arith)) (omega arith)) (λ v small. number_within-decimal 511 v (omega arith) (omega arith)) lane lanes below in
    ap in_order (lanes_in-each_of (parts_at 44 (lanes_text (lane ∷ lanes))) ∙ each) ∙ in_order-rising (lane ∷ lanes) h
