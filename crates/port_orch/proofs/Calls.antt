-- the call that is due of a port's operation
use Rattle.std.proofs.Common.{◌≡◌, inl, ℕ, Bool, true, false, [], ◌∷◌, ◌++◌, Option, Some, None, IsSome, option_map, refl, sym, ap, subst, ◌∙◌}
use Rattle.std.proofs.lemmas.Bool.{false≢true}
use Rattle.table_schema.specs.Plan.{IsPlan, Ports, lanes_in_plan}
use Rattle.table_schema.specs.declared.key.Key.TheVariants as key
use Rattle.table_schema.specs.declared.row.PortRow.{PortRow}
use Rattle.switch_model.specs.Placed as row
use Rattle.sai_types.specs.Alike.{IsIn}
use Rattle.sai_types.specs.Named.{first_lane}
use Rattle.sai_types.specs.Names as thing_name
use Rattle.sai_types.specs.declared.ids.Vid.{Vid}
use Rattle.sai_types.specs.declared.body.Attr.{Attr}
use Rattle.sai_types.specs.declared.body.Body.{Body}
use Rattle.sai_types.specs.declared.body.Entry.{Entry}
use Rattle.sai_types.specs.declared.body.Entry.TheVariants as entry
use Rattle.sai_types.specs.declared.body.Call.TheVariants as call
use Rattle.row_layout.specs.Operations.{Make, Set, Take}
use Rattle.row_layout.specs.Rows.{from}
use Rattle.row_layout.proofs.Owners.{port_by}
use Rattle.ref_counts.specs.declared.name.Name.TheVariants as name
use Rattle.ref_counts.specs.declared.next.Next.{Next}
use Rattle.ref_counts.specs.declared.next.Next.TheVariants as next
use Rattle.ref_counts.specs.Registered.{first_of}
use Rattle.ref_counts.specs.Registry.{Names, ids_of}
use Rattle.orch_flight.specs.Calling.{HasVid, IsEntryOf, IsNextOf, IsOver, KnowsIds, knows_for, row_vid, things_held}
use Rattle.orch_flight.specs.Operation.{Operation}
use Rattle.port_orch.specs.Ports.{first_attr, port_body, port_operation, port_sets, port_thing, stepped}
use Rattle.port_orch.proofs.Sets.{Leads, leads}

-- a port's operation, from what its fields are known to be
pub port_operation_told : (f : Operation) (worker p : ℕ) (done done' : Bool) (now now' next next' : Option PortRow) → port_operation worker p done now next ≡ f → done ≡ done' → now ≡ now' → next ≡ next' → f ≡ port_operation worker p done' now' next'
port_operation_told f worker p done done' now now' next next' is d n x =
    sym is ∙ ap (λ z. port_operation worker p z now next) d ∙ ap (λ z. port_operation worker p done' z next) n ∙ ap (port_operation worker p done' now') x

pub due-none : (f : Operation) (worker p : ℕ) → f ≡ port_operation worker p false None None → f.due ≡ []
due-none f worker p is = ap (λ z. z.due) is

pub due-done : (f : Operation) (worker p : ℕ) (now next : Option PortRow) → f ≡ port_operation worker p true now next → f.due ≡ []
due-done f worker p now next is = ap (λ z. z.due) is

-- the registry tells the identifier of the operation's port
abbrev pub KnowsPort : Names → Operation → Type 0
KnowsPort names f = IsSome (first_of (ids_of names (name.Row f.key)))

-- this is the entry of the operation's port
abbrev pub IsPortEntry : Names → Operation → Entry Vid → Type 0
IsPortEntry names f e = (v : Vid) → first_of (ids_of names (name.Row f.key)) ≡ Some v → e ≡ entry.Oid v

module _ (names : Names) (worker p : ℕ) where
  led : (at : thing_name.ThingName → Vid → Type 0) (a r : PortRow) (x : Option (Attr Vid)) → x ≡ first_attr a r → Leads at a r x (stepped a r)
  led at a r x is = subst (λ o. Leads at a r o (stepped a r)) (sym is) (leads at a r)

  pub due-alike : (a r : PortRow) (f : Operation) → f ≡ port_operation worker p false (Some a) (Some r) → None ≡ first_attr a r → f.due ≡ []
  due-alike a r f is none = ap (λ z. z.due) is ∙ led (HasVid [] names) a r None none

  pub knows-set : (a r : PortRow) (x : Attr Vid) (f : Operation) → f ≡ port_operation worker p false (Some a) (Some r) → Some x ≡ first_attr a r → KnowsIds names f → KnowsPort names f
  knows-set a r x f is some = subst (λ z. KnowsIds names z → KnowsPort names z) (sym is) (λ h. (subst (knows_for names (key.Port p) (Some (row.Port r))) (led (HasVid [] names) a r (Some x) some).0 h).0)

  pub knows-take : (a : PortRow) (f : Operation) → f ≡ port_operation worker p false (Some a) None → KnowsIds names f → KnowsPort names f
  knows-take a f is = subst (λ z. KnowsIds names z → KnowsPort names z) (sym is) (λ h. h.0)

  module _ (plan : Ports) where
    is-entry : (a : PortRow) (e : Entry Vid) → IsPlan plan → lanes_in_plan plan p ≡ Some a.lanes → IsSome (first_of (ids_of names (name.Row (key.Port p)))) → ((v : Vid) → first_of (ids_of names (name.Row (key.Port p))) ≡ Some v → e ≡ entry.Oid v) → IsEntryOf (HasVid plan names) (port_thing a) e
    is-entry a e plans lanes some is = by (first_of (ids_of names (name.Row (key.Port p)))) refl some
      where
        by : (o : Option Vid) → first_of (ids_of names (name.Row (key.Port p))) ≡ o → IsSome o → IsEntryOf (HasVid plan names) (port_thing a) e
        by None at h = absurd (false≢true h)
        by (Some v) at h = record {
          body = port_body a;
          of = record { first = v; second = v; first_at = tt; second_at = tt; body_is = refl };
          id = v;
          numbered = λ n. ap (λ o. row_vid names (option_map key.Port o)) (port_by plan plans p (first_lane a.lanes) (ap (option_map first_lane) lanes)) ∙ at;
          is = is v at;
        }

    held : (a : PortRow) (due : Option PortRow) → lanes_in_plan plan p ≡ Some a.lanes → IsIn (port_thing a) (things_held plan (port_operation worker p false (Some a) due))
    held a due lanes = subst (IsIn (port_thing a)) (sym (ap (λ o. from (option_map first_lane o) (λ lane. port_thing a ∷ []) ++ []) lanes)) (inl refl)

    pub next-make : (r : PortRow) (b : Body Vid) (f : Operation) → f ≡ port_operation worker p false None (Some r) → b ≡ port_body r → IsNextOf plan names f (next.Call (call.Create b))
    next-make r b f is made = subst (λ z. IsNextOf plan names z (next.Call (call.Create b))) (sym is) (
      Make (port_thing r),
      [],
      refl,
      record {
        body = port_body r;
        of = record { first = record { 0 = 0 }; second = record { 0 = 0 }; first_at = tt; second_at = tt; body_is = refl };
        is = ap call.Create made;
      },
    )

    abbrev IsNextFor : Entry Vid → Next → Operation → Type 0
    IsNextFor e n f = KnowsPort names f → IsPortEntry names f e → IsOver plan f → IsNextOf plan names f n

    pub next-set : (a r : PortRow) (x : Attr Vid) (e : Entry Vid) (f : Operation) → f ≡ port_operation worker p false (Some a) (Some r) → Some x ≡ first_attr a r → IsNextFor e (next.Call (call.Set e x)) f
    next-set a r x e f is some = subst (IsNextFor e (next.Call (call.Set e x))) (sym is) by
      where
        by : IsNextFor e (next.Call (call.Set e x)) (port_operation worker p false (Some a) (Some r))
        by known at over =
            let lanes : lanes_in_plan plan p ≡ Some a.lanes = over.now (row.Port a) refl in
            let to = led (HasVid plan names) a r (Some x) some in (
              Set (port_thing (stepped a r)),
              port_sets (stepped a r) r,
              to.0,
              record {
                old = port_thing a;
                there = held a (Some r) lanes;
                same = ap (λ l. thing_name.Port (first_lane l)) (sym to.2);
                entry = e;
                of = is-entry a e over.plans lanes known at;
                attr = x;
                change = to.1;
                is = refl;
              },
            )

    pub next-take : (a : PortRow) (e : Entry Vid) (f : Operation) → f ≡ port_operation worker p false (Some a) None → IsNextFor e (next.Call (call.Remove e)) f
    next-take a e f is = subst (IsNextFor e (next.Call (call.Remove e))) (sym is) by
      where
        by : IsNextFor e (next.Call (call.Remove e)) (port_operation worker p false (Some a) None)
        by known at over =
            let lanes : lanes_in_plan plan p ≡ Some a.lanes = over.now (row.Port a) refl in (
              Take (thing_name.Port (first_lane a.lanes)),
              [],
              refl,
              record {
                old = port_thing a;
                there = held a None lanes;
                same = refl;
                entry = e;
                of = is-entry a e over.plans lanes known at;
                is = refl;
              },
            )
