-- an interface that stands between its removal and its creation keeps a place beyond those reserved
use Rattle.std.proofs.Common.{◌≡◌, ◌⊎◌, ◌∷◌, ◌++◌, ◌+◌, ◌-◌, ◌≤◌, ◌==◌, ◌&&◌, ◌∙◌, inl, inr, ℕ, Bool, true, false, cond, if◌then◌else◌, List, [], Option, None, Some, refl, sym, ap, ap₂, subst, arith}
use Rattle.swss_types.specs.declared.interface.IfName.{IfName}
use Rattle.swss_types.specs.declared.vrf.Vrf.{Vrf}
use Rattle.swss_types.specs.Vrf.{same_vrf}
use Rattle.table_schema.specs.Plan.{Ports}
use Rattle.table_schema.specs.declared.key.Key.{Key}
use Rattle.table_schema.specs.declared.key.Key.TheVariants as key
use Rattle.sai_types.specs.declared.hop.Base.{Base}
use Rattle.sai_types.specs.declared.kind.Kind.{Kind}
use Rattle.sai_types.specs.declared.kind.Kind.TheVariants as kind
use Rattle.sai_types.specs.declared.thing.Thing.{Thing}
use Rattle.sai_types.specs.declared.thing.Thing.TheVariants as thing
use Rattle.sai_types.specs.Names as thing_name
use Rattle.sai_types.specs.Objects.{level}
use Rattle.switch_model.specs.Placed as row
use Rattle.switch_model.specs.Placed.{Placed as Row}
use Rattle.switch_model.specs.Things.{base_of}
use Rattle.row_layout.specs.Operations.{Change, Make, Set, Take, make_all, take_all}
use Rattle.row_layout.specs.Rows as owner
use Rattle.row_layout.specs.Rows.{Owner, from}
use Rattle.switch_machine.specs.Flights.{Fits, IsOwnedBy}
use Rattle.switch_machine.specs.Places.{makes}
use Rattle.ref_counts.specs.Registry.{Names}
use Rattle.orch_flight.specs.Operation.{is_between_for}
use Rattle.orch_flight.specs.Starting.{first_due, taken_here}
use Rattle.registry_laws.specs.Answering.{MakesRowLive}
use Rattle.registry_laws.proofs.Going.{GoesOver}
use Rattle.registry_laws.proofs.Listing.{never_none}
use Rattle.registry_laws.proofs.Rests.{AreInOrder, AreTaken}

-- the place of a router interface, where it counts as still there
abbrev pub place_if : Bool → Kind → ℕ
place_if b k = if b && (level kind.Rif == level k) then 1 else 0

pub less_itself : (n : ℕ) → n - n ≡ 0
less_itself n = omega arith

pub none_less : (n d r : ℕ) → n ≤ d → d - r ≡ 0 → n - r ≡ 0
none_less n d r less e = omega (arith, less, e)

pub nothing_less : (n r : ℕ) → n ≡ 0 → n - r ≡ 0
nothing_less n r e = omega (arith, e)

-- ---- when an operation does not stand between

pub apart_by : (k : Key) (now : Option Row) (due : List Change) → ((b : Base) (v : Vrf) (cs : List Change) (n : IfName) (a : Row) → due ≡ Make (thing.Rif b v) ∷ cs → k ≡ key.Intf n → now ≡ Some a → ⊥) → is_between_for k now due ≡ false
apart_by (key.Intf n) (Some a) (Make (thing.Rif b v) ∷ cs) none = absurd (none b v cs n a refl refl refl)
apart_by k now due none = refl

-- one that has nothing to make
pub end_apart : (k : Key) (now : Option Row) → is_between_for k now [] ≡ false
end_apart k now = apart_by k now [] (λ b v cs n a e _ _. cc)

pub removing_apart : (k : Key) (now : Option Row) (cs : List Change) → AreTaken cs → is_between_for k now cs ≡ false
removing_apart k now cs taken = apart_by k now cs (λ b v ds n a e _ _. subst AreTaken e taken)

pub taken_here_taken : (x : Option Owner) → AreTaken (taken_here x)
taken_here_taken None = tt
taken_here_taken (Some (owner.OfRow k)) = tt
taken_here_taken (Some (owner.Bridge lane)) = tt
taken_here_taken (Some (owner.Own v ip)) = tt
taken_here_taken (Some (owner.Group hops)) = tt

pub taken_behind : (before due : List Change) → AreTaken (before ++ due) → AreTaken due
taken_behind [] due h = h
taken_behind (Take n ∷ before) due h = taken_behind before due h
taken_behind (Make t ∷ before) due h = elim h [ ]
taken_behind (Set t ∷ before) due h = elim h [ ]

pub taken_tail : (c : Change) (cs : List Change) → AreTaken (c ∷ cs) → AreTaken cs
taken_tail c cs h = taken_behind (c ∷ []) cs h

pub taken_both : (xs ys : List Change) → AreTaken xs → AreTaken ys → AreTaken (xs ++ ys)
taken_both [] ys h i = i
taken_both (Take n ∷ xs) ys h i = taken_both xs ys h i
taken_both (Make t ∷ xs) ys h i = elim h [ ]
taken_both (Set t ∷ xs) ys h i = elim h [ ]

pub taken_makes : (k : Kind) (cs : List Change) → AreTaken cs → makes k cs ≡ 0
taken_makes k [] h = refl
taken_makes k (Take n ∷ cs) h = let rest = taken_makes k cs h in omega (arith, rest)
taken_makes k (Make t ∷ cs) h = elim h [ ]
taken_makes k (Set t ∷ cs) h = elim h [ ]

-- one that begins
pub first_apart : (plan : Ports) (names : Names) (k : Key) (old new : Option Row) → ((r : Row) → old ≡ Some r → Fits plan k r) → ((r : Row) → new ≡ Some r → Fits plan k r) → is_between_for k old (first_due plan names k old new) ≡ false
first_apart plan names (key.Intf n) (Some (row.Intf v)) None fo fn = by (base_of plan n)
  where
    by : (o : Option Base) → is_between_for (key.Intf n) (Some (row.Intf v)) (take_all (from o (λ b. thing.Rif b v ∷ [])) []) ≡ false
    by None = refl
    by (Some b) = refl
first_apart plan names (key.Intf n) (Some (row.Intf v)) (Some (row.Intf w)) fo fn = by (same_vrf v w) (base_of plan n)
  where
    by : (t : Bool) (o : Option Base) → is_between_for (key.Intf n) (Some (row.Intf v)) (if t then [] else take_all (from o (λ b. thing.Rif b v ∷ [])) (make_all (from o (λ b. thing.Rif b w ∷ [])) [])) ≡ false
    by true o = refl
    by false None = refl
    by false (Some b) = refl
first_apart plan names (key.Intf n) (Some (row.Intf v)) (Some r) fo fn = elim (fn r refl) [ ]
first_apart plan names (key.Intf n) (Some a) new fo fn = elim (fo a refl) [ ]
first_apart plan names k old new fo fn = refl

-- ---- a change takes effect

-- what is made while it stands between is the last
between_live : (k : Key) (now : Option Row) (t : Thing) (cs : List Change) → is_between_for k now (Make t ∷ cs) ≡ true → MakesRowLive (Make t)
between_live (key.Intf n) (Some a) (thing.Rif b v) cs e = tt
between_live k now t cs e = absurd cc

made_some : (t : Thing) (b : Base) (v : Vrf) (ds : List Change) → makes kind.Rif (Make t ∷ Make (thing.Rif b v) ∷ ds) ≡ 0 → ⊥
made_some t b v ds e = omega (arith, e)

module _ (plan : Ports) (k : Key) (old new now' : Option Row) (c : Change) (cs : List Change) (order : AreInOrder plan k old new (c ∷ cs)) (reserved : Kind → ℕ) (none : GoesOver k old new → (q : Kind) → reserved q ≡ 0) (stays : (a : Row) → now' ≡ Some a → old ≡ None → ⊥) (own : (b : Base) (v : Vrf) (ds : List Change) → cs ≡ Make (thing.Rif b v) ∷ ds → IsOwnedBy plan (thing_name.Rif b) (owner.OfRow k)) where
  abbrev Goal : Kind → Type 0
  Goal q = makes q cs - reserved q ≡ place_if (is_between_for k now' cs) q

  ended : cs ≡ [] → (q : Kind) → Goal q
  ended e q = ap (λ l. makes q l - reserved q) e ∙ nothing_less 0 (reserved q) refl ∙ sym (ap (λ b. place_if b q) (ap (is_between_for k now') e ∙ end_apart k now'))

  -- nothing that was kept beyond is to be made behind another change
  none_behind : makes kind.Rif (c ∷ cs) - reserved kind.Rif ≡ 0 → ((b : Base) (v : Vrf) (ds : List Change) → makes kind.Rif (c ∷ Make (thing.Rif b v) ∷ ds) ≡ 0 → ⊥) → is_between_for k now' cs ≡ false
  none_behind zero some = apart_by k now' cs (λ b v ds n a e _ at. by b v ds e a at ((subst (AreInOrder plan k old new) e order.2).1 (own b v ds e)))
    where
      by : (b : Base) (v : Vrf) (ds : List Change) → cs ≡ Make (thing.Rif b v) ∷ ds → (a : Row) → now' ≡ Some a → (old ≡ None) ⊎ GoesOver k old new → ⊥
      by b v ds e a at (inl nothing) = stays a at nothing
      by b v ds e a at (inr over) =
          let free = none over kind.Rif in
          let all : makes kind.Rif (c ∷ cs) ≡ 0 = omega (arith, zero, free) in
          some b v ds (sym (ap (λ l. makes kind.Rif (c ∷ l)) e) ∙ all)

  unmade : (q : Kind) → makes q cs ≤ makes q (c ∷ cs) → ((s : Kind) → makes s (c ∷ cs) - reserved s ≡ 0) → ((b : Base) (v : Vrf) (ds : List Change) → makes kind.Rif (c ∷ Make (thing.Rif b v) ∷ ds) ≡ 0 → ⊥) → Goal q
  unmade q less zero some = none_less (makes q cs) (makes q (c ∷ cs)) (reserved q) less (zero q) ∙ sym (ap (λ b. place_if b q) (none_behind (zero kind.Rif) some))

-- so it is once a change has taken effect
pub after_beyond : (plan : Ports) (k : Key) (old new now now' : Option Row) (c : Change) (cs : List Change) (order : AreInOrder plan k old new (c ∷ cs)) (reserved : Kind → ℕ) (was : (q : Kind) → makes q (c ∷ cs) - reserved q ≡ place_if (is_between_for k now (c ∷ cs)) q) (none : GoesOver k old new → (q : Kind) → reserved q ≡ 0) (last : MakesRowLive c → cs ≡ []) (there : (old ≡ None → ⊥) → (a : Row) × (now' ≡ Some a)) (stays : (a : Row) → now' ≡ Some a → old ≡ None → ⊥) (own : (b : Base) (v : Vrf) (ds : List Change) → cs ≡ Make (thing.Rif b v) ∷ ds → IsOwnedBy plan (thing_name.Rif b) (owner.OfRow k)) (q : Kind) → makes q cs - reserved q ≡ place_if (is_between_for k now' cs) q
after_beyond plan k old new now now' (Make t) cs order reserved was none last there stays own q = by (is_between_for k now (Make t ∷ cs)) refl
  where
    by : (b : Bool) → is_between_for k now (Make t ∷ cs) ≡ b → makes q cs - reserved q ≡ place_if (is_between_for k now' cs) q
    by true e = ended plan k old new now' (Make t) cs order reserved none stays own (last (between_live k now t cs e)) q
    by false e = unmade plan k old new now' (Make t) cs order reserved none stays own q (omega arith) (λ s. was s ∙ ap (λ b. place_if b s) e) (made_some t)
after_beyond plan k old new now now' (Set u) cs order reserved was none last there stays own q =
    unmade plan k old new now' (Set u) cs order reserved none stays own q (omega arith)
    (λ s. was s ∙ ap (λ b. place_if b s) (apart_by k now (Set u ∷ cs) (λ b v ds n a e _ _. cc)))
    (λ b v ds e. omega (arith, e))
after_beyond plan k old new now now' (Take n) cs order reserved was none last there stays own q = by order.1.1
  where
    one : (b : Bool) (r : ℕ) → r ≡ 0 → cond b 1 0 + 0 - r ≡ (if true && b then 1 else 0)
    one true r e = omega (arith, e)
    one false r e = omega (arith, e)

    by : AreTaken cs ⊎ (GoesOver k old new × ((b : Base) × (v : Vrf) × (cs ≡ Make (thing.Rif b v) ∷ []))) → makes q cs - reserved q ≡ place_if (is_between_for k now' cs) q
    by (inl taken) = nothing_less (makes q cs) (reserved q) (taken_makes q cs taken) ∙ sym (ap (λ b. place_if b q) (removing_apart k now' cs taken))
    by (inr (over, (b, v, e))) =
        let at = there (λ nothing. never_none (row.Intf over.router_was) (sym over.old_is ∙ nothing)) in
        let between : is_between_for k now' cs ≡ true = ap₂ (λ x y. is_between_for x y cs) over.key_is at.1 ∙ ap (is_between_for (key.Intf over.on) (Some at.0)) e in
        ap (λ l. makes q l - reserved q) e ∙ one (level kind.Rif == level q) (reserved q) (none over q) ∙ sym (ap (λ b. place_if b q) between)
