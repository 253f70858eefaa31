-- over a log, while applies are broken off one after the other
use Rattle.std.proofs.Common.{◌≡◌, ◌⊎◌, ◌≤◌, ◌∷◌, ◌++◌, ◌∙◌, inl, inr, ℕ, zero, suc, List, [], refl, sym, subst, arith}
use Rattle.swss_types.specs.Address.{IsProperIp}
use Rattle.swss_types.specs.declared.vrf.Packet.{Packet}
use Rattle.table_schema.specs.Plan.{Ports}
use Rattle.table_schema.specs.declared.write.Sent.{Sent}
use Rattle.sai_types.specs.declared.ids.Rid.{Rid}
use Rattle.sai_types.specs.declared.body.Call.{Call}
use Rattle.sai_types.specs.declared.thing.Thing.{Thing}
use Rattle.sai_types.specs.Alike.{IsIn}
use Rattle.sai_types.specs.Forwarding.{Decision, Forwarding, decide, forward}
use Rattle.switch_model.specs.Steady.{things_after}
use Rattle.switch_model.specs.declared.mark.Mark.{Mark}
use Rattle.switch_model.specs.declared.mark.MarkEvent.{MarkEvent}
use Rattle.switch_model.specs.declared.mark.MarkEvent.TheVariants as event
use Rattle.restart_laws.specs.Applied.{AreFollowed, IsFollowed, until_next}
use Rattle.restart_laws.specs.BrokenOff.{AreOfBroken, AreSteadyOverBreaks, IsDecidedByView, IsOfBroken, IsViewAt}

le_either : (a b : ℕ) → (a ≤ b) ⊎ (b ≤ a)
le_either zero b = inl (omega arith)
le_either (suc a) zero = inr (omega arith)
le_either (suc a) (suc b) = up (le_either a b)
  where
    up : (a ≤ b) ⊎ (b ≤ a) → (suc a ≤ suc b) ⊎ (suc b ≤ suc a)
    up (inl h) = inl (omega (arith, h))
    up (inr h) = inr (omega (arith, h))

module _ (plan : Ports) (capacities : List ℕ) (taken : List Sent) (es : List (Call Rid)) (all : List Mark) (a : Packet) (proper : IsProperIp a.to) where
  -- what holds after so many effects is carried from each mark to the next
  module _ (Q : ℕ → Type 0) (step : (m : Mark) (to : ℕ) → IsIn m all → IsOfBroken m.event → IsFollowed plan capacities taken es m m.event to → Q m.effects → (k : ℕ) → m.effects ≤ k → k ≤ to → Q k) where
    rises : (m : Mark) (e : MarkEvent) (to : ℕ) → IsOfBroken e → IsFollowed plan capacities taken es m e to → m.effects ≤ to
    rises m (event.ApplyBegan mode waits) to b x = let long = x.long in omega (arith, long)
    rises m (event.Faulted c d) to b x = omega (arith, x)
    rises m event.Restarted to b x = omega (arith, x)
    rises m (event.Settled waits turns) to b x = elim b [ ]
    rises m event.ApplyEnded to b x = elim b [ ]

    pub walk : (m : Mark) (ms behind : List Mark) → ((n : Mark) → IsIn n (m ∷ ms) → IsIn n all) → AreFollowed plan capacities taken es ((m ∷ ms) ++ behind) → AreOfBroken (m ∷ ms) → Q m.effects → (k : ℕ) → m.effects ≤ k → k ≤ until_next behind es → Q k
    walk m [] behind within x b q k least most = step m (until_next behind es) (within m (inl refl)) b.0 x.0 q k least most
    walk m (n ∷ ms) behind within x b q k least most =
        elim (le_either k n.effects) [
          | inl less ↦ step m n.effects (within m (inl refl)) b.0 x.0 q k least less
          | inr more ↦ walk n ms behind (λ o i. within o (inr i)) x.1 b.1 (step m n.effects (within m (inl refl)) b.0 x.0 q n.effects (rises m m.event n.effects b.0 x.0) (omega arith)) k more most
        ]

  still : (m : Mark) (Q : ℕ → Type 0) (to k : ℕ) → to ≡ m.effects → m.effects ≤ k → k ≤ to → Q m.effects → Q k
  still m Q to k same least most q = subst Q (let e : m.effects ≡ k = omega (arith, same, least, most) in e) q

  -- where its packets go
  abbrev Decided : Decision → ℕ → Type 0
  Decided d k = (decide (things_after es k) a ≡ d) ⊎ IsDecidedByView plan taken all k a (decide (things_after es k) a)

  decided_step : (d : Decision) (m : Mark) (e : MarkEvent) (to : ℕ) → m.event ≡ e → IsIn m all → IsOfBroken e → IsFollowed plan capacities taken es m e to → Decided d m.effects → (k : ℕ) → m.effects ≤ k → k ≤ to → Decided d k
  decided_step d m (event.ApplyBegan mode waits) to is i b x q k least most = by ((x.steady b).decided a k proper least most) q
    where
      same_by : decide (things_after es k) a ≡ decide (things_after es m.effects) a → Decided d m.effects → Decided d k
      same_by e (inl old) = inl (e ∙ old)
      same_by e (inr y) = let before = y.least in inr (record { mark = y.mark; view = y.view; of = y.of; least = omega (arith, before, least); decides = y.decides ∙ sym e })

      by : (decide (things_after es k) a ≡ decide (things_after es m.effects) a) ⊎ (decide (things_after es k) a ≡ decide x.view a) → Decided d m.effects → Decided d k
      by (inl same) q = same_by same q
      by (inr new) q = inr (record { mark = m; view = x.view; of = record { one = i; mode = mode; waits = waits; began = is; into = x.into; back = x.back; apart = x.apart }; least = least; decides = sym new })
  decided_step d m (event.Faulted c f) to is i b x q k least most = still m (Decided d) to k x least most q
  decided_step d m event.Restarted to is i b x q k least most = still m (Decided d) to k x least most q
  decided_step d m (event.Settled waits turns) to is i b x q k least most = elim b [ ]
  decided_step d m event.ApplyEnded to is i b x q k least most = elim b [ ]

  -- what all views forward alike
  abbrev Forwarded : Forwarding → ℕ → Type 0
  Forwarded f k = forward (things_after es k) a ≡ f

  forwarded_step : (f : Forwarding) → ((mark : Mark) (view : List Thing) → IsViewAt plan taken all mark view → forward view a ≡ f) → (m : Mark) (e : MarkEvent) (to : ℕ) → m.event ≡ e → IsIn m all → IsOfBroken e → IsFollowed plan capacities taken es m e to → Forwarded f m.effects → (k : ℕ) → m.effects ≤ k → k ≤ to → Forwarded f k
  forwarded_step f views m (event.ApplyBegan mode waits) to is i b x q k least most =
      let new = views m x.view (record { one = i; mode = mode; waits = waits; began = is; into = x.into; back = x.back; apart = x.apart }) in
      (x.steady b).forwarded a k proper least most (q ∙ sym new) ∙ q
  forwarded_step f views m (event.Faulted c d) to is i b x q k least most = still m (Forwarded f) to k x least most q
  forwarded_step f views m event.Restarted to is i b x q k least most = still m (Forwarded f) to k x least most q
  forwarded_step f views m (event.Settled waits turns) to is i b x q k least most = elim b [ ]
  forwarded_step f views m event.ApplyEnded to is i b x q k least most = elim b [ ]

  followed_behind : (front rest : List Mark) → AreFollowed plan capacities taken es (front ++ rest) → AreFollowed plan capacities taken es rest
  followed_behind [] rest x = x
  followed_behind (m ∷ front) rest x = followed_behind front rest x.1

  broken-decided : (front ms behind : List Mark) (m : Mark) → AreFollowed plan capacities taken es (front ++ ((m ∷ ms) ++ behind)) → ((n : Mark) → IsIn n (m ∷ ms) → IsIn n all) → AreOfBroken (m ∷ ms) → (k : ℕ) → m.effects ≤ k → k ≤ until_next behind es → Decided (decide (things_after es m.effects) a) k
  broken-decided front ms behind m x within b k least most =
      let d = decide (things_after es m.effects) a in
      walk (Decided d) (λ n to i broken y q j low high. decided_step d n n.event to refl i broken y q j low high) m ms behind within (followed_behind front ((m ∷ ms) ++ behind) x) b (inl refl) k least most

  broken-forwarded : (front ms behind : List Mark) (m : Mark) (f : Forwarding) → AreFollowed plan capacities taken es (front ++ ((m ∷ ms) ++ behind)) → ((n : Mark) → IsIn n (m ∷ ms) → IsIn n all) → AreOfBroken (m ∷ ms) → Forwarded f m.effects → ((mark : Mark) (view : List Thing) → IsViewAt plan taken all mark view → forward view a ≡ f) → (k : ℕ) → m.effects ≤ k → k ≤ until_next behind es → Forwarded f k
  broken-forwarded front ms behind m f x within b old views k least most = walk (Forwarded f) (λ n to i broken y q j low high. forwarded_step f views n n.event to refl i broken y q j low high) m ms behind within (followed_behind front ((m ∷ ms) ++ behind) x) b old k least most

pub steady-breaks : (plan : Ports) (capacities : List ℕ) (taken : List Sent) (effects : List (Call Rid)) (marks : List Mark) → AreFollowed plan capacities taken effects marks → AreSteadyOverBreaks plan taken effects marks
steady-breaks plan capacities taken effects marks followed = record {
  decided = λ front ms behind m a k is broken proper least most. broken-decided plan capacities taken effects (m ∷ ms) a proper front ms behind m (subst (AreFollowed plan capacities taken effects) is followed) (λ n i. i) broken k least most;
  forwarded = λ front ms behind m a f k is broken proper old views least most. broken-forwarded plan capacities taken effects (m ∷ ms) a proper front ms behind m f (subst (AreFollowed plan capacities taken effects) is followed) (λ n i. i) broken old views k least most;
}
