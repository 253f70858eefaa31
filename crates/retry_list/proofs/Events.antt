-- the order of events, and that reasons that compare equal are equal
use Rattle.std.proofs.Common.{◌≡◌, Bool, true, false, refl, sym, ap, ◌∙◌}
use Rattle.std.specs.BTreeMap.{is_at}
use Rattle.std.specs.Cmp.{IsTotalOrder}
use Rattle.std.specs.Ordering.{is_eq}
use Rattle.std.proofs.lemmas.Bool.{eqb-true, false≢true}
use Rattle.std.proofs.lemmas.Cmp.{eq_by_cmp_equiv}
use Rattle.std.proofs.lemmas.Map.Lookups.{CmpEqualImpliesEq, exact_unsigned}
use Rattle.swss_types.proofs.Tied.{tied}
use Rattle.table_schema.specs.Key.{key_cmp}
use Rattle.table_schema.specs.declared.key.Key.{Key}
use Rattle.table_schema.specs.contracts.key.KeyPartialEq.TheImpl as key_eq
use Rattle.table_schema.specs.contracts.key.KeyOrd.TheImpl.Laws as key_laws
use Rattle.table_schema.proofs.Keys.{key_exact}
use Rattle.switch_model.specs.declared.wait.Wait.{Wait}
use Rattle.switch_model.specs.declared.wait.Wait.TheVariants as wait
use Rattle.switch_model.specs.contracts.wait.WaitPartialEq.TheImpl as wait_eq
use Rattle.switch_model.specs.contracts.wait.WaitEq.TheImpl.Laws as equal_wait
use Rattle.sai_types.specs.declared.kind.Kind.TheVariants as kind
use Rattle.sai_types.specs.contracts.kind.KindOrd.TheImpl as kind_ord
use Rattle.sai_types.specs.contracts.kind.KindOrd.TheImpl.Laws as kind_laws
use Rattle.retry_list.specs.declared.event.Event.{Event}
use Rattle.retry_list.specs.declared.event.Event.TheVariants.{Applied, Gone, Freed, Ended}
use Rattle.retry_list.specs.contracts.event.EventOrd.TheImpl.Laws as event_laws
use Rattle.retry_list.specs.Event.{event_cmp}
use Rattle.retry_list.specs.Reasons.{event_of, is_about}

kind_exact : CmpEqualImpliesEq kind_ord.ghosts.cmp
kind_exact kind.Port kind.Port h = refl
kind_exact kind.Vlan kind.Vlan h = refl
kind_exact kind.VirtualRouter kind.VirtualRouter h = refl
kind_exact kind.BridgePort kind.BridgePort h = refl
kind_exact kind.VlanMember kind.VlanMember h = refl
kind_exact kind.Rif kind.Rif h = refl
kind_exact kind.OwnAddress kind.OwnAddress h = refl
kind_exact kind.Neighbor kind.Neighbor h = refl
kind_exact kind.NextHop kind.NextHop h = refl
kind_exact kind.Group kind.Group h = refl
kind_exact kind.GroupMember kind.GroupMember h = refl
kind_exact kind.Route kind.Route h = refl
kind_exact x y h = absurd (false≢true (kind_laws.matches_eq-law x y ∙ ap is_eq h))

-- events that compare equal are equal
pub event_exact : CmpEqualImpliesEq event_cmp
event_exact (Applied k) (Applied j) h = ap Applied (key_exact k j h)
event_exact (Gone k) (Gone j) h = ap Gone (key_exact k j h)
event_exact (Freed a) (Freed b) h = ap Freed (kind_exact a b h)
event_exact (Ended m) (Ended n) h = ap Ended (exact_unsigned m n h)
event_exact x y h = cc

pub event_total : IsTotalOrder event_cmp
event_total = event_laws.total-law

pub same_event : (e f : Event) → is_at (event_cmp e) f ≡ true → e ≡ f
same_event e f h = event_exact e f (tied (event_cmp e f) h)

pub event-itself : (e : Event) → is_at (event_cmp e) e ≡ true
event-itself e = (eq_by_cmp_equiv event_total).refl e

pub event-turned : (e f : Event) → is_at (event_cmp e) f ≡ is_at (event_cmp f) e
event-turned e f = (eq_by_cmp_equiv event_total).symm e f

same-key : (k j : Key) → key_eq.ghosts.eq k j ≡ true → k ≡ j
same-key k j h = key_exact k j (tied (key_cmp k j) (sym (key_laws.matches_eq-law k j) ∙ h))

-- reasons that compare equal are equal
pub wait_exact : (w v : Wait) → wait_eq.ghosts.eq w v ≡ true → w ≡ v
wait_exact (wait.Missing k) (wait.Missing j) h = ap wait.Missing (same-key k j h)
wait_exact (wait.Held k) (wait.Held j) h = ap wait.Held (same-key k j h)
wait_exact (wait.NoRoom a) (wait.NoRoom b) h = ap wait.NoRoom (kind_exact a b (tied (kind_ord.ghosts.cmp a b) (sym (kind_laws.matches_eq-law a b) ∙ h)))
wait_exact (wait.Busy m) (wait.Busy n) h = ap wait.Busy (eqb-true m n h)
wait_exact _ _ h = absurd (false≢true h)

-- the reason that is about an event
reason_about : Event → Wait
reason_about (Applied k) = wait.Missing k
reason_about (Gone k) = wait.Held k
reason_about (Freed kind) = wait.NoRoom kind
reason_about (Ended worker) = wait.Busy worker

reason_about-event_of : (w : Wait) → reason_about (event_of w) ≡ w
unfolding reason_about
reason_about-event_of (wait.Missing k) = refl
reason_about-event_of (wait.Held k) = refl
reason_about-event_of (wait.NoRoom kind) = refl
reason_about-event_of (wait.Busy worker) = refl

-- another reason is about another event
pub other_about : (w own : Wait) → wait_eq.ghosts.eq own w ≡ false → is_about (event_of w) own ≡ false
other_about w own apart =
    let by : (b : Bool) → is_about (event_of w) own ≡ b → b ≡ false =
    λ b. elim b as (λ b. is_about (event_of w) own ≡ b → b ≡ false) [
      | true ↦ λ here.
          let one : w ≡ own = sym (reason_about-event_of w) ∙ ap reason_about (same_event (event_of w) (event_of own) here) ∙ reason_about-event_of own in
          absurd (false≢true (sym apart ∙ ap (wait_eq.ghosts.eq own) one ∙ equal_wait.laws-law.refl own))
      | false ↦ λ here. refl
    ] in
    by (is_about (event_of w) own) refl
