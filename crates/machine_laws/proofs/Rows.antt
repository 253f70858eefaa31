-- rows, and the keys that they name: what the other proofs say of them
use Rattle.std.specs.BTreeMap.{is_at}
use Rattle.std.proofs.Common.{◌≡◌, ◌⊎◌, ◌&&◌, ◌∷◌, ◌∙◌, inl, inr, ℕ, Bool, true, if◌then◌else◌, List, [], Option, None, Some, is_some, refl, sym, ap, ap₂, subst, false, option_map}
use Rattle.std.proofs.lemmas.Bool.{and_parts}
use Rattle.table_schema.specs.Names.{names_of}
use Rattle.table_schema.specs.Plan.{Ports}
use Rattle.table_schema.specs.declared.key.Key.{Key}
use Rattle.table_schema.specs.declared.row.Row.{Row}
use Rattle.table_schema.specs.Key.{key_cmp}
use Rattle.table_schema.specs.declared.key.Key.TheVariants as key
use Rattle.sai_types.specs.declared.kind.Kind.{Kind}
use Rattle.sai_types.specs.declared.thing.Thing.{Thing}
use Rattle.sai_types.specs.Alike.{IsIn}
use Rattle.switch_model.specs.Desired.{IsThingOf, have_rows, placed_things}
use Rattle.switch_model.specs.Good.{TypedRows}
use Rattle.switch_model.specs.Marks.{IsTrueReason, NamesFirstKind, Overflows, first_missing, IsToGo}
use Rattle.switch_model.specs.Things.{things_of}
use Rattle.switch_model.specs.declared.wait.Wait.{Wait}
use Rattle.switch_model.specs.declared.wait.Wait.TheVariants as wait
use Rattle.switch_model.specs.Placed.{place, router_in, router_of_row, Placed, bare, bare_rows}
use Rattle.switch_machine.specs.Steps.{with_row}

pub has_row : (rows : TypedRows) (ks : List Key) (p : Key) → have_rows rows ks ≡ true → IsIn p ks → is_some (rows p) ≡ true
has_row rows [] p h at = elim at [ ]
has_row rows (k ∷ ks) p h (inl e) = subst (λ z. is_some (rows z) ≡ true) (sym e) (and_parts (is_some (rows k)) (have_rows rows ks) h).0
has_row rows (k ∷ ks) p h (inr at) = has_row rows ks p (and_parts (is_some (rows k)) (have_rows rows ks) h).1 at

pub none_missing : (rows : TypedRows) (ks : List Key) → ((p : Key) → IsIn p ks → is_some (rows p) ≡ true) → first_missing rows ks ≡ None
none_missing rows [] f = refl
none_missing rows (k ∷ ks) f = rw (f k (inl refl)) (none_missing rows ks (λ p h. f p (inr h)))

pub no_some : {A X : Type 0} (o : Option A) (x : A) → o ≡ None → o ≡ Some x → X
no_some o x a b = absurd cc

-- ---- the same rows, key by key

abbrev pub AreSameRows : TypedRows → TypedRows → Type 0
AreSameRows a b = (q : Key) → a q ≡ b q

pub have_same : (a b : TypedRows) → AreSameRows a b → (ks : List Key) → have_rows a ks ≡ have_rows b ks
have_same a b f [] = refl
have_same a b f (k ∷ ks) = ap₂ (λ x y. x && y) (ap is_some (f k)) (have_same a b f ks)

same_choice_by : (x y : Bool) (p : Key) (o u : Option Key) → x ≡ y → o ≡ u → (if x then o else Some p) ≡ (if y then u else Some p)
same_choice_by x y p o u e h = ap₂ (λ (b : Bool) (z : Option Key). if b then z else Some p) e h

first_same : (a b : TypedRows) → AreSameRows a b → (ks : List Key) → first_missing a ks ≡ first_missing b ks
first_same a b f [] = refl
first_same a b f (k ∷ ks) = same_choice_by (is_some (a k)) (is_some (b k)) k (first_missing a ks) (first_missing b ks) (ap is_some (f k)) (first_same a b f ks)

pub router_same : (a b : TypedRows) → AreSameRows a b → (k : Key) → router_in a k ≡ router_in b k
router_same a b f (key.Addr on ip len) = ap router_of_row (f (key.Intf on))
router_same a b f _ = refl

in_same : (plan : Ports) (a b : TypedRows) → AreSameRows a b → (k : Key) (r : Row) (t : Thing) → IsIn t (placed_things plan a k r) → IsIn t (placed_things plan b k r)
in_same plan a b f k r t h = subst (λ v. IsIn t (things_of plan k (place v r))) (router_same a b f k) h

pub thing_same : (plan : Ports) (a b : TypedRows) → AreSameRows a b → (t : Thing) → IsThingOf plan a t → IsThingOf plan b t
thing_same plan a b f t (k, r, at, h) = (k, r, sym (f k) ∙ at, in_same plan a b f k r t h)

pub overflows-same : (plan : Ports) (capacities : List ℕ) (a b : TypedRows) → AreSameRows a b → (k : Key) (r : Row) (kind : Kind) → Overflows plan capacities a k r kind → Overflows plan capacities b k r kind
overflows-same plan capacities a b f k r kind x = record {
  keys = x.keys;
  distinct = x.distinct;
  things = λ n h. let y = x.things n h in (y.0, y.1, y.2, by y.0 y.3);
  many = x.many;
}
  where
    by : (t : Thing) → IsThingOf plan a t ⊎ IsIn t (placed_things plan a k r) → IsThingOf plan b t ⊎ IsIn t (placed_things plan b k r)
    by t (inl h) = inl (thing_same plan a b f t h)
    by t (inr h) = inr (in_same plan a b f k r t h)

go_same : (good a b : TypedRows) → AreSameRows a b → (k : Key) → IsToGo good a k → IsToGo good b k
go_same good a b f k (inl none) = inl none
go_same good a b f k (inr (old, new, at, is, have, moved)) = inr (old, new, sym (f k) ∙ at, is, sym (have_same a b f (names_of k new)) ∙ have, moved)

pub reason-same : (plan : Ports) (capacities : List ℕ) (good a b : TypedRows) → AreSameRows a b → (k : Key) (w : Wait) → IsTrueReason plan capacities good a k w → IsTrueReason plan capacities good b k w
reason-same plan capacities good a b f k (wait.Missing p) (r, at, h) = (r, at, sym (first_same a b f (names_of k r)) ∙ h)
reason-same plan capacities good a b f k (wait.Held h) (to_go, r, at, x) = (
  go_same good a b f k to_go,
  r,
  sym (f k) ∙ at,
  record {
    row = x.row;
    applied_row = sym (f h) ∙ x.applied_row;
    names = x.names;
    least = λ other q at. x.least other q (f other ∙ at);
  },
)
reason-same plan capacities good a b f k (wait.NoRoom kind) (r, at, have, over) = (r, at, sym (have_same a b f (names_of k r)) ∙ have, overflows-same plan capacities a b f k r kind over)
reason-same plan capacities good a b f k (wait.Busy w) h = h

pub good-same : (plan : Ports) (capacities : List ℕ) (g h a : TypedRows) (k : Key) (w : Wait) → g k ≡ h k → IsTrueReason plan capacities g a k w → IsTrueReason plan capacities h a k w
good-same plan capacities g h a k (wait.Missing p) e (r, at, m) = (r, sym e ∙ at, m)
good-same plan capacities g h a k (wait.Held q) e (inl none, x, at, held) = (inl (sym e ∙ none), x, at, held)
good-same plan capacities g h a k (wait.Held q) e (inr (old, new, there, is, have, moved), x, at, held) = (inr (old, new, there, sym e ∙ is, have, moved), x, at, held)
good-same plan capacities g h a k (wait.NoRoom kind) e (r, at, have, over) = (r, sym e ∙ at, have, over)
good-same plan capacities g h a k (wait.Busy v) e x = x

pub kind-same : (plan : Ports) (capacities : List ℕ) (g h a b : TypedRows) (k : Key) (w : Wait) → AreSameRows a b → g k ≡ h k → NamesFirstKind plan capacities g a k w → NamesFirstKind plan capacities h b k w
kind-same plan capacities g h a b k (wait.Missing p) same e x = tt
kind-same plan capacities g h a b k (wait.Held q) same e x = tt
kind-same plan capacities g h a b k (wait.Busy v) same e x = tt
kind-same plan capacities g h a b k (wait.NoRoom kind) same e x = λ row lower at less over. x row lower (e ∙ at) less (overflows-same plan capacities b a (λ q. sym (same q)) k row lower over)

-- a row that is put among rows in their places is put among the rows as they are
pub bare_with : (k : Key) (o : Option Placed) (rows : Key → Option Placed) (q : Key) → option_map bare (with_row k o rows q) ≡ with_row k (option_map bare o) (bare_rows rows) q
bare_with k o rows q = by (is_at (key_cmp k) q)
  where
    by : (b : Bool) → option_map bare (if b then o else rows q) ≡ (if b then option_map bare o else bare_rows rows q)
    by true = refl
    by false = refl
