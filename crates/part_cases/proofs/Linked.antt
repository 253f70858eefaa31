-- a chip that holds the temporary view, and one object more on both
use Rattle.std.proofs.Common.{◌≡◌, ℕ, ◌+◌, Bool, true, false, cond, List, [], ◌∷◌, ◌++◌, count_by, Option, None, Some, if◌then◌else◌, refl, sym, ap, ap₂, ◌∙◌, subst, arith}
use Rattle.std.specs.BTreeMap.{insert_entry}
use Rattle.std.proofs.lemmas.List.{map-append}
use Rattle.std.proofs.lemmas.List.Sums.{sum_by-append}
use Rattle.sai_types.specs.declared.ids.Rid.{Rid}
use Rattle.sai_types.specs.declared.ids.Vid.{Vid}
use Rattle.sai_types.specs.declared.body.Body.{Body}
use Rattle.sai_types.specs.declared.body.Body.TheVariants as body
use Rattle.sai_types.specs.declared.body.Call.{Call}
use Rattle.sai_types.specs.declared.body.Call.TheVariants as call
use Rattle.sai_types.specs.declared.body.Entry.{Entry}
use Rattle.sai_types.specs.declared.body.Entry.TheVariants as entry
use Rattle.sai_types.specs.declared.body.Object.{Object}
use Rattle.sai_types.specs.After.{after_call, entry_of, has_id, makes_id, next_id}
use Rattle.sai_types.specs.declared.answer.SyncAnswer.{SyncAnswer}
use Rattle.sai_types.specs.declared.answer.SyncAnswer.TheVariants as sync
use Rattle.sai_types.specs.ChipState.{ChipState, IsAnswered, TakesEffect, objects_of}
use Rattle.sai_types.specs.Made.{IsWhole, made_after, same_entry}
use Rattle.sai_types.specs.Named.{those}
use Rattle.sai_types.specs.Objects.{body_at, entry_cmp}
use Rattle.sai_types.specs.Refusal.{IsLegal}
use Rattle.sai_types.proofs.Found.{body_at-insert, body_at-remove, body_at-same, same-symm}
use Rattle.sai_types.proofs.Legal.{fresh, legal-create}
use Rattle.sai_types.proofs.Whole.{whole-after_call, whole-empty}
use Rattle.chip_layout.specs.Renamed.{body_renamed, call_renamed}
use Rattle.asic_view.specs.View.{IsLegalOn, IsNew, ViewObjects, after_create, as_chip, as_rid, entry_at, object_of, untied}
use Rattle.asic_view.proofs.Same.{same-objects}
use Rattle.chip_layout.specs.Counted.{AreDistinct}
use Rattle.view_match.specs.Pairs.{new_keys}
use Rattle.syncd_core.specs.Begun.{CanBegin, objects_listed}
use Rattle.syncd_core.specs.Synced.{Calls, CanCall, SyncState, TakesList, with_temporary}
use Rattle.syncd_core.specs.declared.answer.Listed.TheVariants as listed
use Rattle.part_cases.specs.Tested.{AreLinked, IsWholeChip, tested_answer}

-- a call that was answered so took effect
takes_answered_effect : (a a' : ChipState) (c : Call Rid) (m : Option Rid) → IsAnswered a c (tested_answer m) a' → TakesEffect a c a'
takes_answered_effect a a' c None h = h.answer.0
takes_answered_effect a a' c (Some r) h = h.answer.0

count-one : (b : Bool) (n : ℕ) → n + (0 + cond b 1 0) ≡ (if b then n + 1 else n)
count-one true n = omega arith
count-one false n = omega arith

made-grown : (cs : List (Call Rid)) (c : Call Rid) → count_by makes_id (cs ++ c ∷ []) ≡ made_after (count_by makes_id cs) c
made-grown cs c = sum_by-append (λ x. cond (makes_id x) 1 0) cs (c ∷ []) ∙ count-one (makes_id c) (count_by makes_id cs)

-- a call leaves whole what legal calls made
pub whole-follows : (a a' : ChipState) (c : Call Rid) (m : Option Rid) → IsWholeChip a → IsAnswered a c (tested_answer m) a' → IsWholeChip a'
whole-follows a a' c m whole h =
    let x = takes_answered_effect a a' c m h in
    subst (λ es. IsWhole (count_by makes_id es) a'.objects) (sym x.effects)
    (subst (λ n. IsWhole n a'.objects) (sym (made-grown a.effects c))
    (subst (IsWhole (made_after (count_by makes_id a.effects) c)) (sym x.objects)
    (whole-after_call a.capacities (count_by makes_id a.effects) a.objects c whole x.legal)))

-- a VLAN that is made and removed again leaves the objects as they were
pub used-up : (a b c : ChipState) (vlan : ℕ) (r : Rid) (m : Option Rid) → IsWholeChip a → IsAnswered a (call.Create (body.Vlan vlan)) (tested_answer (Some r)) b → IsAnswered b (call.Remove (entry.Oid r)) (tested_answer m) c → c.objects ≡ a.objects
used-up a b c vlan r m whole made gone = same-objects c.objects a.objects (whole-follows b c _ m middle gone).sorted whole.sorted found
  where
    middle : IsWholeChip b
    middle = whole-follows a b _ (Some r) whole made

    id : Rid
    id = record { 0 = next_id a.effects }

    is : r ≡ id
    is = let number : ℕ → Rid = λ n. record { 0 = n } in ap number made.answer.2

    new : body_at a.objects (entry.Oid id) ≡ None
    new = fresh (count_by makes_id a.effects) a.objects (body.Vlan vlan) whole.entered (legal-create a.capacities a.objects (body.Vlan vlan) made.answer.0.legal).1

    by : (q : Entry Rid) (t : Bool) → same_entry (entry.Oid id) q ≡ t → cond t None (cond t (Some (body.Vlan vlan)) (body_at a.objects q)) ≡ body_at a.objects q
    by q true h = sym (sym (body_at-same a.objects (entry.Oid id) q h) ∙ new)
    by q false h = refl

    found : (q : Entry Rid) → body_at c.objects q ≡ body_at a.objects q
    found q =
        ap (λ os. body_at os q) (takes_answered_effect b c _ m gone).objects
        ∙ body_at-remove b.objects (entry.Oid r) q middle.sorted
        ∙ ap (λ i. cond (same_entry (entry.Oid i) q) None (body_at b.objects q)) is
        ∙ ap (cond (same_entry (entry.Oid id) q) None) (ap (λ os. body_at os q) made.answer.0.objects ∙ body_at-insert a.objects (entry.Oid id) (body.Vlan vlan) q ∙ ap (λ t. cond t (Some (body.Vlan vlan)) (body_at a.objects q)) (same-symm q (entry.Oid id)))
        ∙ by q (same_entry (entry.Oid id) q) refl

-- ---- the temporary view

-- what the law of asic_view says of a view with one object more
abbrev pub ViewsGrow : Type 0
ViewsGrow = (objects : ViewObjects) (v : Vid) (b : Body Vid) → IsNew v objects → IsLegalOn objects (call.Create b) → as_chip (after_create objects v b) ≡ after_call v.0 (as_chip objects) (call_renamed as_rid (call.Create b))

-- an empty chip and an empty view
pub linked-empty : (s : SyncState) (chip : ChipState) → s.temporary ≡ Some [] → chip.objects ≡ [] → chip.effects ≡ [] → AreLinked s [] chip
linked-empty s chip temporary objects effects = record {
  view = [];
  temporary = temporary;
  listed = refl;
  same = objects;
  whole = subst (λ es. IsWhole (count_by makes_id es) chip.objects) (sym effects) (subst (IsWhole 0) (sym objects) whole-empty);
}

linked-legal : (s : SyncState) (objects : List (Object Vid)) (chip chip' : ChipState) (b : Body Vid) (m : Option Rid) (linked : AreLinked s objects chip) → IsAnswered chip (call_renamed as_rid (call.Create b)) (tested_answer m) chip' → IsLegalOn linked.view (call.Create b)
linked-legal s objects chip chip' b m linked h = record {
  capacities = chip.capacities;
  legal = subst (λ os. IsLegal chip.capacities os (call_renamed as_rid (call.Create b))) linked.same (takes_answered_effect chip chip' _ m h).legal;
}

-- what the chip made can be made in the view
pub can-call : (s : SyncState) (objects : List (Object Vid)) (chip chip' : ChipState) (b : Body Vid) (m : Option Rid) → AreLinked s objects chip → IsAnswered chip (call_renamed as_rid (call.Create b)) (tested_answer m) chip' → CanCall s s.temporary chip' (call.Create b)
can-call s objects chip chip' b m linked h = subst (λ t. CanCall s t chip' (call.Create b)) (sym linked.temporary) (linked-legal s objects chip chip' b m linked h)

called : (s s' : SyncState) (objects : List (Object Vid)) (chip z z' : ChipState) (c : Call Vid) (a : SyncAnswer) (linked : AreLinked s objects chip) → Calls s s.temporary z c a s' z' → Calls s (Some linked.view) z c a s' z'
called s s' objects chip z z' c a linked calls = subst (λ t. Calls s t z c a s' z') linked.temporary calls

pub linked-whole : (s s' : SyncState) (objects : List (Object Vid)) (chip chip' chip'' : ChipState) (b : Body Vid) (m : Option Rid) (a : SyncAnswer) → AreLinked s objects chip → IsAnswered chip (call_renamed as_rid (call.Create b)) (tested_answer m) chip' → Calls s s.temporary chip' (call.Create b) a s' chip'' → IsWholeChip chip''
linked-whole s s' objects chip chip' chip'' b m a linked h calls = subst IsWholeChip (sym (called s s' objects chip chip' chip'' _ a linked calls).3) (whole-follows chip chip' _ m linked.whole h)

linked-more : (s s' : SyncState) (view later : ViewObjects) (objects : List (Object Vid)) (chip : ChipState) (b : Body Vid) (v w : Vid) → s' ≡ with_temporary s later → later ≡ after_create view v b → objects ≡ objects_listed view → chip.objects ≡ as_chip (after_create view v b) → IsWholeChip chip → entry_at w b ≡ entry_at v b → AreLinked s' (objects ++ (record { entry = entry_at w b; body = b }) ∷ []) chip
linked-more s s' view later objects chip b v w next is listed same whole named = record {
  view = after_create view v b;
  temporary = ap (λ z. z.temporary) next ∙ ap Some is;
  listed = ap₂ (λ os e. os ++ (record { entry = e; body = b }) ∷ []) listed named ∙ sym (map-append object_of view ((v, untied b) ∷ []));
  same = same;
  whole = whole;
}

same_vid : (b : Bool) (v w : Vid) → sync.Made w ≡ (if b then sync.Made v else sync.Done) → (b ≡ true) × (w ≡ v)
same_vid true v w h = (refl, cc)
same_vid false v w h = absurd cc

no_vid : (b : Bool) (v : Vid) → sync.Done ≡ (if b then sync.Made v else sync.Done) → b ≡ false
no_vid true v h = absurd cc
no_vid false v h = refl

-- an object that has an identifier, the same on the chip and in the view
pub linked-numbered : ViewsGrow → (s s' : SyncState) (objects : List (Object Vid)) (chip chip' chip'' : ChipState) (b : Body Vid) (w : Vid) (r : Rid) → AreLinked s objects chip → IsAnswered chip (call_renamed as_rid (call.Create b)) (tested_answer (Some r)) chip' → Calls s s.temporary chip' (call.Create b) (sync.Made w) s' chip'' → w.0 ≡ r.0 → AreLinked s' (objects ++ (record { entry = entry_at w b; body = b }) ∷ []) chip''
linked-numbered grow s s' objects chip chip' chip'' b w r linked h calls number =
    let did = called s s' objects chip chip' chip'' _ _ linked calls in
    let change = did.2 in
    let v = change.0 in
    let is : w ≡ v = (same_vid (has_id b) v w change.3).1 in
    let legal = linked-legal s objects chip chip' b (Some r) linked h in
    let at : next_id chip.effects ≡ v.0 = sym h.answer.2 ∙ sym number ∙ ap (λ (x : Vid). x.0) is in
    let made : chip'.objects ≡ as_chip (after_create linked.view v b) = h.answer.0.objects ∙ ap₂ (λ n os. after_call n os (call_renamed as_rid (call.Create b))) at linked.same ∙ sym (grow linked.view v b change.1 legal) in
    linked-more s s' linked.view did.0 objects chip'' b v w did.1 change.2 linked.listed (ap (λ (z : ChipState). z.objects) did.3 ∙ made) (linked-whole s s' objects chip chip' chip'' b (Some r) _ linked h calls) (ap (λ x. entry_at x b) is)

unnumbered : {I : Type 0} (b : Body I) (v w : I) → has_id b ≡ false → entry_at w b ≡ entry_at v b
unnumbered (body.OwnAddress vr ip) v w h = refl
unnumbered (body.Neighbor rif ip mac) v w h = refl
unnumbered (body.Route vr prefix to) v w h = refl
unnumbered (body.Port lanes speed mtu up) v w h = absurd cc
unnumbered (body.Vlan vlan) v w h = absurd cc
unnumbered (body.VirtualRouter label) v w h = absurd cc
unnumbered (body.BridgePort port) v w h = absurd cc
unnumbered (body.VlanMember vlan bridge_port tagging) v w h = absurd cc
unnumbered (body.Rif vr on) v w h = absurd cc
unnumbered (body.NextHop rif ip) v w h = absurd cc
unnumbered body.Group v w h = absurd cc
unnumbered (body.GroupMember group next_hop weight) v w h = absurd cc

keyed_alike : (b : Body Vid) (n m : ℕ) → has_id b ≡ false → entry_of n (body_renamed as_rid b) ≡ entry_of m (body_renamed as_rid b)
keyed_alike (body.OwnAddress vr ip) n m h = refl
keyed_alike (body.Neighbor rif ip mac) n m h = refl
keyed_alike (body.Route vr prefix to) n m h = refl
keyed_alike (body.Port lanes speed mtu up) n m h = absurd cc
keyed_alike (body.Vlan vlan) n m h = absurd cc
keyed_alike (body.VirtualRouter label) n m h = absurd cc
keyed_alike (body.BridgePort port) n m h = absurd cc
keyed_alike (body.VlanMember vlan bridge_port tagging) n m h = absurd cc
keyed_alike (body.Rif vr on) n m h = absurd cc
keyed_alike (body.NextHop rif ip) n m h = absurd cc
keyed_alike body.Group n m h = absurd cc
keyed_alike (body.GroupMember group next_hop weight) n m h = absurd cc

-- an object that is known by its key, behind which the chip used up an identifier
pub linked-keyed : ViewsGrow → (s s' : SyncState) (objects : List (Object Vid)) (chip chip' chip'' last : ChipState) (b : Body Vid) (w : Vid) → AreLinked s objects chip → IsAnswered chip (call_renamed as_rid (call.Create b)) (tested_answer None) chip' → Calls s s.temporary chip' (call.Create b) sync.Done s' chip'' → last.objects ≡ chip''.objects → IsWholeChip last → AreLinked s' (objects ++ (record { entry = entry_at w b; body = b }) ∷ []) last
linked-keyed grow s s' objects chip chip' chip'' last b w linked h calls same whole =
    let did = called s s' objects chip chip' chip'' _ _ linked calls in
    let change = did.2 in
    let v = change.0 in
    let none : has_id b ≡ false = no_vid (has_id b) v change.3 in
    let legal = linked-legal s objects chip chip' b None linked h in
    let made : chip'.objects ≡ as_chip (after_create linked.view v b) = h.answer.0.objects ∙ ap₂ (λ e os. insert_entry entry_cmp os e (body_renamed as_rid b)) (keyed_alike b (next_id chip.effects) v.0 none) linked.same ∙ sym (grow linked.view v b change.1 legal) in
    linked-more s s' linked.view did.0 objects last b v w did.1 change.2 linked.listed (same ∙ ap (λ (z : ChipState). z.objects) did.3 ∙ made) whole (unnumbered b v w none)

-- a view whose natural keys are distinct, beside a list of the chip, can be applied
pub can-begin : (s s' : SyncState) (chip z z' : ChipState) (objects : List (Object Vid)) → AreLinked s objects chip → TakesList s z listed.Done s' z' → AreDistinct (those (new_keys objects)) → CanBegin s'
can-begin s s' chip z z' objects linked takes distinct = record {
  old = objects_of z.objects;
  new = linked.view;
  listed = ap (λ (x : SyncState). x.listed) takes.0;
  temporary = ap (λ (x : SyncState). x.temporary) takes.0 ∙ linked.temporary;
  distinct = subst (λ os. AreDistinct (those (new_keys os))) linked.listed distinct;
}
