-- what becomes of a port's operation when the call that is due has taken effect
use Rattle.std.proofs.Common.{◌≡◌, ◌≤◌, ℕ, Bool, true, false, List, [], ◌∷◌, length, Option, Some, None, is_some, refl, sym, ap, subst, ◌∙◌}
use Rattle.std.proofs.lemmas.Bool.{false≢true}
use Rattle.table_schema.specs.declared.key.Key.TheVariants as key
use Rattle.table_schema.specs.declared.row.PortRow.{PortRow}
use Rattle.sai_types.specs.Named.{first_lane}
use Rattle.sai_types.specs.Names as thing_name
use Rattle.sai_types.specs.declared.ids.Vid.{Vid}
use Rattle.sai_types.specs.declared.body.Attr.{Attr}
use Rattle.row_layout.specs.Operations.{Change, Make, Set, Take}
use Rattle.ref_counts.specs.declared.name.Name.TheVariants as name
use Rattle.ref_counts.specs.declared.name.NameState.TheVariants as state
use Rattle.ref_counts.specs.Registered.{made_live}
use Rattle.ref_counts.specs.Registry.{Names, changed, places_of, state_of}
use Rattle.orch_flight.specs.Operation.{Operation}
use Rattle.orch_flight.specs.Taking.{IsTook, MayTake, names_by, now_after, operation_by, to_list}
use Rattle.port_orch.specs.Ports.{first_attr, port_operation, port_sets, port_thing, stepped}
use Rattle.port_orch.proofs.Sets.{Leads, leads}

operation-plain : (names : Names) (f : Operation) (c : Change) (rest : List Change) → operation_by names f c rest None ≡ record { worker = f.worker; key = f.key; now = now_after c f.now f.new; new = f.new; due = rest; leaves = None; retires = f.retires }
operation-plain names f c [] = refl
operation-plain names f c (d ∷ ds) = refl

names-plain : (names : Names) (f : Operation) (rest : List Change) → names_by names f rest None ≡ names
names-plain names f [] = refl
names-plain names f (d ∷ ds) = refl

module _ (names : Names) (worker p : ℕ) where
  abbrev Becomes : Option Vid → Operation → Names → Operation → Type 0
  Becomes made new names' f = MayTake f made names → IsTook f made names new names'

  -- a value is set
  pub took-set : (made : Option Vid) (done : Bool) (a r q : PortRow) (f : Operation) → f ≡ port_operation worker p done (Some a) (Some r) → q ≡ stepped a r → Becomes made (port_operation worker p done (Some q) (Some r)) names f
  took-set made done a r q f is step = subst (Becomes made (port_operation worker p done (Some q) (Some r)) names) (sym is) (by done)
    where
      by : (b : Bool) → Becomes made (port_operation worker p b (Some q) (Some r)) names (port_operation worker p b (Some a) (Some r))
      by true may = absurd (may.some refl)
      by false may = of (first_attr a r) (leads (λ n v. Unit {0}) a r)
        where
          of : (x : Option (Attr Vid)) → Leads (λ n v. Unit {0}) a r x (stepped a r) → IsTook (port_operation worker p false (Some a) (Some r)) made names (port_operation worker p false (Some q) (Some r)) names
          of None none = absurd (may.some none)
          of (Some x) to = record {
            change = Set (port_thing (stepped a r));
            rest = port_sets (stepped a r) r;
            due = to.0;
            operation = ap (λ z. port_operation worker p false (Some z) (Some r)) step ∙ sym (operation-plain names (port_operation worker p false (Some a) (Some r)) (Set (port_thing (stepped a r))) (port_sets (stepped a r) r));
            names_are = sym (names-plain names (port_operation worker p false (Some a) (Some r)) (port_sets (stepped a r) r));
          }

  -- the port may be made live
  pub builds : (made : Option Vid) (v : Vid) (done : Bool) (r : PortRow) (f : Operation) → f ≡ port_operation worker p done None (Some r) → made ≡ Some v → MayTake f made names → (state_of names (name.Row (key.Port p)) ≡ state.Building worker) × (1 ≤ places_of names (name.Row (key.Port p)))
  builds made v done r f is some = subst (λ z. MayTake z made names → (state_of names (name.Row (key.Port p)) ≡ state.Building worker) × (1 ≤ places_of names (name.Row (key.Port p)))) (sym is) (by done)
    where
      by : (b : Bool) → MayTake (port_operation worker p b None (Some r)) made names → (state_of names (name.Row (key.Port p)) ≡ state.Building worker) × (1 ≤ places_of names (name.Row (key.Port p)))
      by true may = absurd (may.some refl)
      by false may =
          let built = may.builds (port_thing r) [] (name.Row (key.Port p)) refl refl in
          (built.0, subst (λ m. length (to_list m) ≤ places_of names (name.Row (key.Port p))) some built.1)

  -- the port is made
  pub took-made : (made : Option Vid) (v : Vid) (done : Bool) (r : PortRow) (names' : Names) (f : Operation) → f ≡ port_operation worker p done None (Some r) → made ≡ Some v → names' ≡ changed names (name.Row (key.Port p)) (made_live (v ∷ [])) → Becomes made (port_operation worker p true None (Some r)) names' f
  took-made made v done r names' f is some later = subst (Becomes made (port_operation worker p true None (Some r)) names') (sym is) (by done)
    where
      by : (b : Bool) → Becomes made (port_operation worker p true None (Some r)) names' (port_operation worker p b None (Some r))
      by true may = absurd (may.some refl)
      by false may = record {
        change = Make (port_thing r);
        rest = [];
        due = refl;
        operation = refl;
        names_are = later ∙ ap (λ m. changed names (name.Row (key.Port p)) (made_live (to_list m))) (sym some);
      }

  -- nothing is made without an identifier
  pub never-unmade : (made : Option Vid) (done : Bool) (r : PortRow) (f : Operation) → f ≡ port_operation worker p done None (Some r) → made ≡ None → MayTake f made names → ⊥
  never-unmade made done r f is none = subst (λ z. MayTake z made names → ⊥) (sym is) (by done)
    where
      by : (b : Bool) → MayTake (port_operation worker p b None (Some r)) made names → ⊥
      by true may = may.some refl
      by false may = false≢true (sym (ap is_some none) ∙ may.numbered (port_thing r) [] refl)

  -- the port is removed
  pub took-removed : (made : Option Vid) (done : Bool) (now next : Option PortRow) (f : Operation) → f ≡ port_operation worker p done now next → next ≡ None → Becomes made (port_operation worker p true now next) names f
  took-removed made done now next f is none =
      subst (λ n. f ≡ port_operation worker p done now n → Becomes made (port_operation worker p true now n) names f) (sym none)
      (λ e. subst (Becomes made (port_operation worker p true now None) names) (sym e) (by done now)) is
    where
      by : (b : Bool) (o : Option PortRow) → Becomes made (port_operation worker p true o None) names (port_operation worker p b o None)
      by true o may = absurd (may.some refl)
      by false None may = absurd (may.some refl)
      by false (Some a) may = record {
        change = Take (thing_name.Port (first_lane a.lanes));
        rest = [];
        due = refl;
        operation = refl;
        names_are = refl;
      }
