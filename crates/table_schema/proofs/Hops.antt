-- hops that rise
use Rattle.std.proofs.Common.{◌≡◌, ℕ, zero, suc, ◌<◌, ◌≤◌, true, false, cond, ltb, length, get_or, set, take, drop, Contains, arith, List, [], ◌∷◌, ◌++◌, Result, Ok, Err, OnOk, OnErr, refl, sym, ap, ap₂, ◌∙◌, subst}
use Rattle.std.specs.List.{AllByRecursion}
use Rattle.std.specs.Ordering.{match_ordering, ordering_reverse}
use Rattle.std.specs.Cmp.{IsTotalOrder}
use Rattle.std.specs.declared.cmp.Ordering.{Ordering}
use Rattle.std.specs.declared.cmp.Ordering.TheVariants.{Less, Equal, Greater}
use Rattle.std.proofs.lemmas.Bool.{le-ltb, lt-ltb}
use Rattle.std.proofs.lemmas.Cmp.{tied_itself}
use Rattle.std.proofs.lemmas.Map.Lookups.{CmpEqualImpliesEq}
use Rattle.swss_types.specs.declared.address.Ip.{Ip}
use Rattle.swss_types.specs.declared.interface.IfName.{IfName}
use Rattle.swss_types.proofs.AddressOrders.{ip_exact}
use Rattle.swss_types.proofs.Tied.{then_first, then_last}
use Rattle.table_schema.specs.contracts.row_hop.RowHopOrd.TheImpl.Laws as hop_laws
use Rattle.table_schema.specs.Hop.{row_hop_cmp, greater_weight, put_row_hop, AreRisingRowHops, HaveWeights}
use Rattle.table_schema.specs.declared.row_hop.RowHop.{RowHop}
use Rattle.table_schema.proofs.Keys.{name_exact}

pub row_hop_total : IsTotalOrder row_hop_cmp
row_hop_total = hop_laws.total-law

-- hops that compare equal are equal
pub row_hop_exact : CmpEqualImpliesEq row_hop_cmp
row_hop_exact x y h = let made : IfName → Ip → RowHop = λ on ip. record { on = on; ip = ip } in ap₂ made (name_exact x.on y.on (then_first _ _ h)) (ip_exact x.ip y.ip (then_last _ _ h))

-- an item with the greater of its weight and another
abbrev pub raised_row : RowHop × ℕ → ℕ → RowHop × ℕ
raised_row x weight = (x.0, greater_weight x.1 weight)

-- a hop before, in or behind the head of a list
abbrev pub placed_row : Ordering → RowHop × ℕ → List (RowHop × ℕ) → RowHop → ℕ → List (RowHop × ℕ)
placed_row r x hops hop weight = match_ordering r ((hop, weight) ∷ x ∷ hops) (raised_row x weight ∷ hops) (x ∷ put_row_hop hops hop weight)

-- the greater of two weights, where both are greater than 0, where the first is no less and where it is less
greater_weight-some : (a b : ℕ) → 0 < a → 0 < b → 0 < greater_weight a b
greater_weight-some a b p q = elim (ltb a b) as (λ c. 0 < cond c b a) [ true ↦ q | false ↦ p ]

greater_weight-first : (a b : ℕ) → b ≤ a → greater_weight a b ≡ a
greater_weight-first a b h = rw (le-ltb a b h) refl

greater_weight-last : (a b : ℕ) → a < b → greater_weight a b ≡ b
greater_weight-last a b h = rw (lt-ltb a b h) refl

above_more : (a b : RowHop) (hops : List (RowHop × ℕ)) → row_hop_cmp a b ≡ Less → AllByRecursion (λ h. row_hop_cmp b h.0 ≡ Less) hops → AllByRecursion (λ h. row_hop_cmp a h.0 ≡ Less) hops
above_more a b [] less h = tt
above_more a b (x ∷ hops) less h = (row_hop_total.trans a b x.0 less h.0, above_more a b hops less h.1)

-- what holds of hops and of one more, and of each with the greater of two weights, holds of all
pub AllByRecursion-put_row_hop : (P : RowHop × ℕ → Type 0) (hops : List (RowHop × ℕ)) (hop : RowHop) (weight : ℕ) → P (hop, weight) → ((x : RowHop × ℕ) → P x → P (raised_row x weight)) → AllByRecursion P hops → AllByRecursion P (put_row_hop hops hop weight)
AllByRecursion-put_row_hop P [] hop weight p more h = (p, tt)
AllByRecursion-put_row_hop P (x ∷ hops) hop weight p more h =
    let rest = AllByRecursion-put_row_hop P hops hop weight p more h.1 in
    elim (row_hop_cmp hop x.0) as (λ r. AllByRecursion P (placed_row r x hops hop weight)) [ Less ↦ (p, h) | Equal ↦ (more x h.0, h.1) | Greater ↦ (h.0, rest) ]

-- a hop in its place keeps hops rising
pub AreRisingHops-put_row_hop : (hops : List (RowHop × ℕ)) (hop : RowHop) (weight : ℕ) → AreRisingRowHops hops → AreRisingRowHops (put_row_hop hops hop weight)
AreRisingHops-put_row_hop [] hop weight h = (tt, tt)
AreRisingHops-put_row_hop (x ∷ hops) hop weight h =
    let rest = AreRisingHops-put_row_hop hops hop weight h.1 in
    let by : (r : Ordering) → row_hop_cmp hop x.0 ≡ r → AreRisingRowHops (placed_row r x hops hop weight) =
    λ r. elim r as (λ r. row_hop_cmp hop x.0 ≡ r → AreRisingRowHops (placed_row r x hops hop weight)) [
      | Less ↦ λ is. ((is, above_more hop x.0 hops is h.0), h)
      | Equal ↦ λ is. h
      | Greater ↦ λ is. (AllByRecursion-put_row_hop (λ g. row_hop_cmp x.0 g.0 ≡ Less) hops hop weight (row_hop_total.antisymm x.0 hop ∙ ap ordering_reverse is) (λ g less. less) h.0, rest)
    ] in
    by (row_hop_cmp hop x.0) refl

-- a put or none keeps hops rising, and their weights greater than 0
pub kept_rising : {T E : Type 0} (r : Result T E) (old new : List (RowHop × ℕ)) (hop : RowHop) (weight : ℕ) → OnOk r (new ≡ put_row_hop old hop weight) → OnErr r (new ≡ old) → AreRisingRowHops old → AreRisingRowHops new
kept_rising (Ok x) old new hop weight ok err h = subst AreRisingRowHops (sym ok) (AreRisingHops-put_row_hop old hop weight h)
kept_rising (Err e) old new hop weight ok err h = subst AreRisingRowHops (sym err) h

pub HaveWeights-put_row_hop : (hops : List (RowHop × ℕ)) (hop : RowHop) (weight : ℕ) → 0 < weight → HaveWeights hops → HaveWeights (put_row_hop hops hop weight)
HaveWeights-put_row_hop hops hop weight some h = AllByRecursion-put_row_hop (λ x. 0 < x.1) hops hop weight some (λ x there. greater_weight-some x.1 weight there some) h

pub kept_weights : {T E : Type 0} (r : Result T E) (old new : List (RowHop × ℕ)) (hop : RowHop) (weight : ℕ) → OnOk r (new ≡ put_row_hop old hop weight) → OnErr r (new ≡ old) → 0 < weight → HaveWeights old → HaveWeights new
kept_weights (Ok x) old new hop weight ok err some h = subst HaveWeights (sym ok) (HaveWeights-put_row_hop old hop weight some h)
kept_weights (Err e) old new hop weight ok err some h = subst HaveWeights (sym err) h

less_at : (x : RowHop) (hops : List (RowHop × ℕ)) (k : ℕ) (d : RowHop × ℕ) → k < length hops → AllByRecursion (λ h. row_hop_cmp x h.0 ≡ Less) hops → row_hop_cmp x (get_or hops k d).0 ≡ Less
less_at x [] k d lt h = absurd (omega arith)
less_at x (y ∷ hops) zero d lt h = h.0
less_at x (y ∷ hops) (suc k) d lt h = less_at x hops k d (omega arith) h.1

stays_at : (hops : List (RowHop × ℕ)) (hop : RowHop) (weight there k : ℕ) → AreRisingRowHops hops → k < length hops → get_or hops k (hop, there) ≡ (hop, there) → weight ≤ there → put_row_hop hops hop weight ≡ hops
stays_at [] hop weight there k h lt is most = absurd (omega arith)
stays_at (x ∷ hops) hop weight there zero h lt is most =
    let same : row_hop_cmp hop x.0 ≡ Equal = ap (λ (y : RowHop × ℕ). row_hop_cmp hop y.0) is ∙ tied_itself row_hop_total hop in
    let most_here : weight ≤ x.1 = subst (λ n. weight ≤ n) (sym (ap (λ (y : RowHop × ℕ). y.1) is)) most in
    let weighed : ℕ → List (RowHop × ℕ) = λ n. (x.0, n) ∷ hops in
    ap (λ r. placed_row r x hops hop weight) same ∙ ap weighed (greater_weight-first x.1 weight most_here)
stays_at (x ∷ hops) hop weight there (suc k) h lt is most =
    let less : row_hop_cmp x.0 hop ≡ Less = ap (λ (y : RowHop × ℕ). row_hop_cmp x.0 y.0) (sym is) ∙ less_at x.0 hops k (hop, there) (omega arith) h.0 in
    let more : row_hop_cmp hop x.0 ≡ Greater = row_hop_total.antisymm hop x.0 ∙ ap ordering_reverse less in
    ap (λ r. placed_row r x hops hop weight) more ∙ ap (λ l. x ∷ l) (stays_at hops hop weight there k h.1 (omega arith) is most)

-- a hop that is there changes nothing, unless its new weight is greater
pub put_row_hop-there : (hops : List (RowHop × ℕ)) (hop : RowHop) (weight there : ℕ) → AreRisingRowHops hops → Contains hops (hop, there) → weight ≤ there → put_row_hop hops hop weight ≡ hops
put_row_hop-there hops hop weight there h found most = stays_at hops hop weight there found.0 h found.1 found.2 most

-- where an item of a list has the hop and a lesser weight, that item takes the weight
pub put_row_hop-set : (xs : List (RowHop × ℕ)) (at : ℕ) (hop : RowHop) (weight : ℕ) (x y z : RowHop × ℕ) → at < length xs → x ≡ get_or xs at x → row_hop_cmp hop x.0 ≡ Equal → y ≡ get_or xs at y → y.1 < weight → z ≡ get_or xs at z → take at xs ++ put_row_hop (drop at xs) hop weight ≡ set xs at (z.0, weight)
put_row_hop-set [] at hop weight x y z lt read is again less there = absurd (omega arith)
put_row_hop-set (v ∷ xs) zero hop weight x y z lt read is again less there =
    let same : row_hop_cmp hop v.0 ≡ Equal = ap (λ (u : RowHop × ℕ). row_hop_cmp hop u.0) (sym read) ∙ is in
    let heavy : greater_weight v.1 weight ≡ weight = greater_weight-last v.1 weight (subst (λ (u : RowHop × ℕ). u.1 < weight) again less) in
    let made : RowHop → ℕ → List (RowHop × ℕ) = λ h n. (h, n) ∷ xs in
    ap (λ r. placed_row r v xs hop weight) same ∙ ap₂ made (ap (λ (u : RowHop × ℕ). u.0) (sym there)) heavy
put_row_hop-set (v ∷ xs) (suc k) hop weight x y z lt read is again less there = ap (λ l. v ∷ l) (put_row_hop-set xs k hop weight x y z (omega arith) read is again less there)
