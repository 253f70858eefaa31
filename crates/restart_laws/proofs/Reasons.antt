-- a reason stays true where rows are added that the row does not name
use Rattle.std.proofs.Common.{◌≡◌, ◌⊎◌, ◌&&◌, ◌∷◌, ◌∙◌, inl, inr, ℕ, true, List, [], Option, None, Some, is_some, refl, sym, ap, subst, if◌then◌else◌}
use Rattle.std.proofs.lemmas.Bool.{false≢true}
use Rattle.table_schema.specs.Names.{names_of}
use Rattle.table_schema.specs.Plan.{Ports}
use Rattle.table_schema.specs.declared.key.Key.{Key}
use Rattle.table_schema.specs.declared.key.Key.TheVariants as key
use Rattle.table_schema.specs.declared.row.Row.{Row}
use Rattle.sai_types.specs.declared.kind.Kind.{Kind}
use Rattle.sai_types.specs.declared.thing.Thing.{Thing}
use Rattle.sai_types.specs.Alike.{IsIn}
use Rattle.switch_model.specs.Desired.{IsClosed, IsThingOf, have_rows, placed_things}
use Rattle.switch_model.specs.Good.{TypedRows}
use Rattle.switch_model.specs.Marks.{IsTrueReason, Overflows, first_missing}
use Rattle.switch_model.specs.declared.wait.Wait.{Wait}
use Rattle.switch_model.specs.declared.wait.Wait.TheVariants as wait
use Rattle.switch_model.specs.Placed.{place, router_in, router_of_row}
use Rattle.switch_model.specs.Things.{things_of}
use Rattle.machine_laws.proofs.Rows.{has_row}

missing_same : (rows later : TypedRows) (ps : List Key) → ((p : Key) → IsIn p ps → later p ≡ rows p) → first_missing later ps ≡ first_missing rows ps
missing_same rows later [] same = refl
missing_same rows later (p ∷ ps) same =
    ap (λ (o : Option Row). if is_some o then first_missing later ps else Some p) (same p (inl refl))
    ∙ ap (λ z. if is_some (rows p) then z else Some p) (missing_same rows later ps (λ q h. same q (inr h)))

pub have-same : (rows later : TypedRows) (ps : List Key) → ((p : Key) → IsIn p ps → later p ≡ rows p) → have_rows later ps ≡ have_rows rows ps
have-same rows later [] same = refl
have-same rows later (p ∷ ps) same =
    ap (λ (o : Option Row). is_some o && have_rows later ps) (same p (inl refl))
    ∙ ap (λ z. is_some (rows p) && z) (have-same rows later ps (λ q h. same q (inr h)))

-- an address whose interface is applied is in the router that it was in
same_router : (rows later : TypedRows) (k : Key) (r : Row) → have_rows rows (names_of k r) ≡ true → ((p : Key) (x : Row) → rows p ≡ Some x → later p ≡ Some x) → router_in rows k ≡ router_in later k
same_router rows later (key.Addr on ip len) r have grows = by (rows (key.Intf on)) refl (has_row rows (names_of (key.Addr on ip len) r) (key.Intf on) have (inl refl))
  where
    by : (o : Option Row) → rows (key.Intf on) ≡ o → is_some (rows (key.Intf on)) ≡ true → router_of_row (rows (key.Intf on)) ≡ router_of_row (later (key.Intf on))
    by None e there = absurd (false≢true (sym (ap is_some e) ∙ there))
    by (Some x) e there = ap router_of_row (e ∙ sym (grows (key.Intf on) x e))
same_router rows later _ r have grows = refl

more_overflows : (plan : Ports) (capacities : List ℕ) (rows later : TypedRows) (k : Key) (r : Row) (kind : Kind) → IsClosed rows → have_rows rows (names_of k r) ≡ true → ((p : Key) (x : Row) → rows p ≡ Some x → later p ≡ Some x) → Overflows plan capacities rows k r kind → Overflows plan capacities later k r kind
more_overflows plan capacities rows later k r kind closed have grows x = record {
  keys = x.keys;
  distinct = x.distinct;
  things = λ n h. let y = x.things n h in (y.0, y.1, y.2, by y.0 y.3);
  many = x.many;
}
  where
    there : (t : Thing) (p : Key) (y : Row) → have_rows rows (names_of p y) ≡ true → IsIn t (placed_things plan rows p y) → IsIn t (placed_things plan later p y)
    there t p y known h = subst (λ v. IsIn t (things_of plan p (place v y))) (same_router rows later p y known grows) h

    by : (t : Thing) → IsThingOf plan rows t ⊎ IsIn t (placed_things plan rows k r) → IsThingOf plan later t ⊎ IsIn t (placed_things plan later k r)
    by t (inl (p, y, at, h)) = inl (p, y, grows p y at, there t p y (closed p y at) h)
    by t (inr h) = inr (there t k r have h)

-- a reason of a key that is not applied stays true where rows are added that its row does not name
pub reason-stays : (plan : Ports) (capacities : List ℕ) (good other rows later : TypedRows) (k : Key) (w : Wait) → IsClosed rows → rows k ≡ None → other k ≡ good k → ((p : Key) (r : Row) → IsIn p (names_of k r) → later p ≡ rows p) → ((p : Key) (x : Row) → rows p ≡ Some x → later p ≡ Some x) → IsTrueReason plan capacities good rows k w → IsTrueReason plan capacities other later k w
reason-stays plan capacities good other rows later k (wait.Missing name) closed none at same grows (r, is, first) = (r, at ∙ is, missing_same rows later (names_of k r) (λ p h. same p r h) ∙ first)
reason-stays plan capacities good other rows later k (wait.Held holder) closed none at same grows (gone, r, there, held) = absurd (no_row r (sym none ∙ there))
  where
    no_row : (r : Row) → None ≡ Some r → ⊥
    no_row r e = cc
reason-stays plan capacities good other rows later k (wait.NoRoom kind) closed none at same grows (r, is, has, over) = (r, at ∙ is, have-same rows later (names_of k r) (λ p h. same p r h) ∙ has, more_overflows plan capacities rows later k r kind closed has grows over)
reason-stays plan capacities good other rows later k (wait.Busy worker) closed none at same grows h = h
