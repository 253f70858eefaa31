-- room by kinds and workers
use Rattle.std.proofs.Common.{◌≡◌, ℕ, zero, suc, ◌+◌, ◌*◌, ◌<◌, ◌≤◌, ◌⊎◌, inl, inr, ⊎_elim, nat_lt, true, false, ◌&&◌, cond, List, [], ◌∷◌, None, Some, refl, sym, ◌∙◌, subst, arith}
use Rattle.std.specs.List.{AllByRecursion}
use Rattle.std.proofs.lemmas.Bool.{cases_eq, cases_lt}
use Rattle.std.proofs.lemmas.Bool.Decides.{nat_tests}
use Rattle.std.proofs.lemmas.Option.{none-some}
use Rattle.sai_types.specs.declared.kind.Kind.{Kind}
use Rattle.sai_types.specs.declared.kind.Kind.TheVariants as kind
use Rattle.sai_types.specs.Kinds.{all_kinds}
use Rattle.sai_types.specs.Objects.{level}
use Rattle.sai_types.specs.Refusal.{capacity_of}
use Rattle.sai_types.proofs.Levels.{level_within}
use Rattle.ref_counts.specs.Room.{IsWithin, RoomState, first_lacking, kinds_in_all, lacking, lacks, number_of_kind, places_by, places_in_all}

-- what holds of each kind of the list holds of each kind
each_kind : (P : Kind → Type 0) → AllByRecursion P all_kinds → (k : Kind) → P k
each_kind P h kind.Port = h.0
each_kind P h kind.Vlan = h.1.0
each_kind P h kind.VirtualRouter = h.1.1.0
each_kind P h kind.BridgePort = h.1.1.1.0
each_kind P h kind.VlanMember = h.1.1.1.1.0
each_kind P h kind.Rif = h.1.1.1.1.1.0
each_kind P h kind.OwnAddress = h.1.1.1.1.1.1.0
each_kind P h kind.Neighbor = h.1.1.1.1.1.1.1.0
each_kind P h kind.NextHop = h.1.1.1.1.1.1.1.1.0
each_kind P h kind.Group = h.1.1.1.1.1.1.1.1.1.0
each_kind P h kind.GroupMember = h.1.1.1.1.1.1.1.1.1.1.0
each_kind P h kind.Route = h.1.1.1.1.1.1.1.1.1.1.1.0

-- what holds of the place of each kind holds of each place
pub each_place : (P : ℕ → Type 0) → ((k : Kind) → P (level k)) → (j : ℕ) → j < kinds_in_all → P j
each_place P h zero lt = h kind.Port
each_place P h (suc zero) lt = h kind.Vlan
each_place P h (suc (suc zero)) lt = h kind.VirtualRouter
each_place P h (suc (suc (suc zero))) lt = h kind.BridgePort
each_place P h (suc (suc (suc (suc zero)))) lt = h kind.VlanMember
each_place P h (suc (suc (suc (suc (suc zero))))) lt = h kind.Rif
each_place P h (suc (suc (suc (suc (suc (suc zero)))))) lt = h kind.OwnAddress
each_place P h (suc (suc (suc (suc (suc (suc (suc zero))))))) lt = h kind.Neighbor
each_place P h (suc (suc (suc (suc (suc (suc (suc (suc zero)))))))) lt = h kind.NextHop
each_place P h (suc (suc (suc (suc (suc (suc (suc (suc (suc zero))))))))) lt = h kind.Group
each_place P h (suc (suc (suc (suc (suc (suc (suc (suc (suc (suc zero)))))))))) lt = h kind.GroupMember
each_place P h (suc (suc (suc (suc (suc (suc (suc (suc (suc (suc (suc zero))))))))))) lt = h kind.Route
each_place P h (suc (suc (suc (suc (suc (suc (suc (suc (suc (suc (suc (suc j)))))))))))) lt = absurd (omega arith)

none_lacks : (room : RoomState) (need used : List ℕ) (ks : List Kind) → first_lacking room need used ks ≡ None → AllByRecursion (λ k. lacks room need used k ≡ false) ks
none_lacks room need used [] h = tt
none_lacks room need used (k ∷ ks) h =
    let rest = none_lacks room need used ks in
    elim (lacks room need used k) as (λ b. lacks room need used k ≡ b → cond b (Some k) (first_lacking room need used ks) ≡ None → AllByRecursion (λ k. lacks room need used k ≡ false) (k ∷ ks)) [
      | true ↦ λ is none. absurd (none-some k (sym none))
      | false ↦ λ is none. (is, rest none)
    ] refl h

within_after : (n c u a : ℕ) → (nat_lt 0 n && nat_lt c (u + a + n)) ≡ false → a ≤ c → a + n ≤ c
within_after n c u a h le = grind (arith, nat_tests)

-- where no room is lacking, what is needed fits beside what is reserved
pub all_fits : (room : RoomState) (need used : List ℕ) → IsWithin room → lacking room need used ≡ None → (k : Kind) → places_in_all room.reserved k + number_of_kind need k ≤ capacity_of room.capacities k
all_fits room need used within none k = within_after (number_of_kind need k) (capacity_of room.capacities k) (number_of_kind used k) (places_in_all room.reserved k) (each_kind (λ k. lacks room need used k ≡ false) (none_lacks room need used all_kinds none) k) (within k)

four : (w : ℕ) → w < 4 → (w ≡ 0) ⊎ ((w ≡ 1) ⊎ ((w ≡ 2) ⊎ (w ≡ 3)))
four zero lt = inl refl
four (suc zero) lt = inr (inl refl)
four (suc (suc zero)) lt = inr (inr (inl refl))
four (suc (suc (suc zero))) lt = inr (inr (inr refl))
four (suc (suc (suc (suc w)))) lt = absurd (omega arith)

-- the places of one worker are some of all
pub some_of_all : (reserved : List ℕ) (w : ℕ) (k : Kind) → w < 4 → places_by reserved w k ≤ places_in_all reserved k
some_of_all reserved w k lt =
    let by : (v : ℕ) → w ≡ v → places_by reserved v k ≤ places_in_all reserved k → places_by reserved w k ≤ places_in_all reserved k = λ v e h. subst (λ x. places_by reserved x k ≤ places_in_all reserved k) (sym e) h in
    ⊎_elim (λ e. by 0 e (omega arith)) (⊎_elim (λ e. by 1 e (omega arith)) (⊎_elim (λ e. by 2 e (omega arith)) (λ e. by 3 e (omega arith)))) (four w lt)

-- the places of all after a worker's have changed
module _ (old new : List ℕ) (w : ℕ) (k : Kind) (n : ℕ) (others : (other : ℕ) → ¬ (other ≡ w) → places_by new other k ≡ places_by old other k) where
  pub all_more : w < 4 → places_by new w k ≡ places_by old w k + n → places_in_all new k ≡ places_in_all old k + n
  all_more lt more =
      let at : (v : ℕ) → w ≡ v → places_by new v k ≡ places_by old v k + n = λ v e. subst (λ x. places_by new x k ≡ places_by old x k + n) e more in
      let off : (v : ℕ) (o : ℕ) → w ≡ v → ¬ (o ≡ v) → places_by new o k ≡ places_by old o k = λ v o e no_. others o (λ s. no_ (s ∙ e)) in
      ⊎_elim (λ e. let a = at 0 e in let b = off 0 1 e (λ x. omega arith) in let c = off 0 2 e (λ x. omega arith) in let d = off 0 3 e (λ x. omega arith) in omega arith)
      (⊎_elim (λ e. let a = off 1 0 e (λ x. omega arith) in let b = at 1 e in let c = off 1 2 e (λ x. omega arith) in let d = off 1 3 e (λ x. omega arith) in omega arith)
      (⊎_elim (λ e. let a = off 2 0 e (λ x. omega arith) in let b = off 2 1 e (λ x. omega arith) in let c = at 2 e in let d = off 2 3 e (λ x. omega arith) in omega arith)
      (λ e. let a = off 3 0 e (λ x. omega arith) in let b = off 3 1 e (λ x. omega arith) in let c = off 3 2 e (λ x. omega arith) in let d = at 3 e in omega arith))) (four w lt)

  less_each : places_by new w k ≡ 0 → (v : ℕ) → places_by new v k ≤ places_by old v k
  less_each none v = ⊎_elim
      (λ e. let mine : places_by new v k ≡ 0 = subst (λ x. places_by new x k ≡ 0) (sym e) none in omega arith)
      (λ ne. let same = others v ne in omega arith)
      (cases_eq v w)

  pub all_less : places_by new w k ≡ 0 → places_in_all new k ≤ places_in_all old k
  all_less none = let a = less_each none 0 in let b = less_each none 1 in let c = less_each none 2 in let d = less_each none 3 in omega arith

-- the places of another worker stand elsewhere
pub elsewhere : (other w : ℕ) (k : Kind) → ¬ (other ≡ w) → kinds_in_all * other + level k < kinds_in_all * w ⊎ kinds_in_all * w + kinds_in_all ≤ kinds_in_all * other + level k
elsewhere other w k ne =
    let lt = level_within k in
    elim (cases_lt other w) [ inl less ↦ inl (omega arith) | inr from ↦ inr (omega arith) ]
