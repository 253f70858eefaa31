-- the parts of packets, put together
use native.Mathlib.Numerals.{unary_clauses}
use Rattle.std.proofs.Common.{◌≡◌, ◌≤◌, ◌<◌, ℕ, ◌+◌, ◌-◌, ◌*◌, ◌/◌, ◌%◌, min, List, [], ◌∷◌, ◌++◌, length, drop, map, Result, Ok, Err, IfOk, slice_index_or, ⊎_elim, refl, sym, ap, ap₂, ◌∙◌, subst, arith}
use Rattle.std.specs.Global.{Vec}
use Rattle.std.specs.List.{AllByRecursion}
use Rattle.std.proofs.Math.Nat.{div-add-mod, min-eq_left, min_comm, mod-lt, zero-min}
use Rattle.std.proofs.Math.Seq.{drop-length}
use Rattle.std.proofs.lemmas.List.{map-append}
use Rattle.std.proofs.lemmas.Bool.{cases_lt}
use Rattle.std.proofs.lemmas.Simd.{chunk-drop}
use Rattle.swss_types.specs.declared.vrf.Packet.{Packet}
use Rattle.swss_types.specs.declared.out_of_memory.OutOfMemory.{OutOfMemory}
use Rattle.sai_types.specs.declared.thing.Thing.{Thing}
use Rattle.sai_types.specs.Forwarding.{forward}
use Rattle.sai_chip.specs.Forward.{answer_of}
use Rattle.sai_chip.specs.declared.forward.Forward.{Forward}
use Rattle.packet_walk.specs.Tables.{AreTablesOf, Tables, answer}
use Rattle.packet_walk.specs.Walk.{HasAnswers, Part, joined_parts, part_of, part_start}

-- a longer part ends later
min-rises : (w r : ℕ) → min w r ≤ min (w + 1) r
min-rises w r = ⊎_elim
    (λ lt. let a : min w r ≡ w = min-eq_left (omega (arith, lt)) in let b : min (w + 1) r ≡ w + 1 = min-eq_left (omega (arith, lt)) in omega (arith, a, b))
    (λ ge. let a : min w r ≡ r = min_comm w r ∙ min-eq_left ge in let b : min (w + 1) r ≡ r = min_comm (w + 1) r ∙ min-eq_left (omega (arith, ge)) in omega (arith, a, b))
    (cases_lt w r)

index-past : (x : Part) (rs : List Part) (k : ℕ) (d : Part) → slice_index_or (x ∷ rs) (k + 1) d ≡ slice_index_or rs k d
index-past x rs k d = simp unary_clauses refl

module _ (ps : List Packet) (workers : ℕ) (some : 0 < workers) where
  abbrev start : ℕ → ℕ
  start w = part_start (length ps) workers w

  rises : (w : ℕ) → start w ≤ start (w + 1)
  rises w = let m = min-rises w (length ps % workers) in grind (arith, m)

  ends : start workers ≡ length ps
  ends =
      let less = mod-lt (length ps) some in
      let rest : min workers (length ps % workers) ≡ length ps % workers = min_comm workers (length ps % workers) ∙ min-eq_left (omega (arith, less)) in
      ap (λ r. workers * (length ps / workers) + r) rest ∙ div-add-mod (length ps) workers

  module _ (f : Packet → Forward) where
    -- what a part has, and then the parts behind it
    one-more : (i : ℕ) → map f (part_of ps workers i) ++ map f (drop (start (i + 1)) ps) ≡ map f (drop (start i) ps)
    one-more i =
        sym (map-append f (part_of ps workers i) (drop (start (i + 1)) ps))
        ∙ ap (map f) (ap (λ n. part_of ps workers i ++ drop n ps) (let r = rises i in omega (arith, r)) ∙ sym (chunk-drop (start i) (start (i + 1) - start i) ps))

    behind : (i : ℕ) (v : Vec Forward) (rs : List Part) (k : ℕ) (r : Part) → IfOk (slice_index_or {A = Part} (Ok v ∷ rs) (k + 1) r) (λ v. v.items ≡ map f (part_of ps workers (i + (k + 1)))) → IfOk (slice_index_or rs k r) (λ v. v.items ≡ map f (part_of ps workers (i + 1 + k)))
    behind i v rs k r h =
        let moved : i + (k + 1) ≡ i + 1 + k = omega arith in
        subst (λ m. IfOk (slice_index_or rs k r) (λ v. v.items ≡ map f (part_of ps workers m))) moved
        (subst (λ o. IfOk o (λ v. v.items ≡ map f (part_of ps workers (i + (k + 1))))) (index-past (Ok v) rs k r) h)

    -- the parts from one on are those of all packets from its begin on
    parts-from : (i : ℕ) (rs : List Part) → i + length rs ≡ workers → AllByRecursion HasAnswers rs → ((k : ℕ) (r : Part) → k < length rs → IfOk (slice_index_or rs k r) (λ v. v.items ≡ map f (part_of ps workers (i + k)))) → joined_parts rs ≡ map f (drop (start i) ps)
    parts-from i [] n all each = sym (ap (map f) (ap (λ w. drop (start w) ps) (sym (omega (arith, n))) ∙ ap (λ m. drop m ps) ends ∙ drop-length ps))
    parts-from i (Ok v ∷ rs) n all each =
        ap₂ (λ xs ys. xs ++ ys)
        (subst (λ m. v.items ≡ map f (part_of ps workers m)) (omega arith) (each 0 (Ok v) (omega arith)))
        (parts-from (i + 1) rs (omega (arith, n)) all.1 (λ k r lt. behind i v rs k r (each (k + 1) r (omega (arith, lt)))))
        ∙ one-more i
    parts-from i (Err e ∷ rs) n all each = absurd all.0

  starts : start 0 ≡ 0
  starts = omega (arith, zero-min (length ps % workers))

  pub parts-joined : (f : Packet → Forward) (rs : List Part) → length rs ≡ workers → AllByRecursion HasAnswers rs → ((k : ℕ) (r : Part) → k < length rs → IfOk (slice_index_or rs k r) (λ v. v.items ≡ map f (part_of ps workers k))) → joined_parts rs ≡ map f ps
  parts-joined f rs n all each = parts-from f 0 rs (omega (arith, n)) all (λ k r lt. subst (λ m. IfOk (slice_index_or rs k r) (λ v. v.items ≡ map f (part_of ps workers m))) (omega arith) (each k r lt)) ∙ ap (λ m. map f (drop m ps)) starts

map-same : {A B : Type 0} (f g : A → B) → ((x : A) → f x ≡ g x) → (xs : List A) → map f xs ≡ map g xs
map-same f g same [] = refl
map-same f g same (x ∷ xs) = ap₂ (λ y ys. y ∷ ys) (same x) (map-same f g same xs)

-- what was walked in parts is the answer to each packet
pub walked : (r : Result (Vec Forward) OutOfMemory) (tables : Tables) (ps : List Packet) (workers : ℕ) → 0 < workers → (parts : List Part) → IfOk r (λ all. (all.items ≡ joined_parts parts) × AllByRecursion HasAnswers parts) → length parts ≡ workers → ((k : ℕ) (d : Part) → k < length parts → IfOk (slice_index_or parts k d) (λ v. v.items ≡ map (answer tables) (part_of ps workers k))) → IfOk r (λ v. (things : List Thing) → AreTablesOf things tables → v.items ≡ map (λ a. answer_of (forward things a)) ps)
walked (Ok v) tables ps workers some parts h len each = λ things are. h.0 ∙ parts-joined ps workers some (answer tables) parts len h.1 each ∙ map-same (answer tables) (λ a. answer_of (forward things a)) are.each ps
walked (Err e) tables ps workers some parts h len each = tt
