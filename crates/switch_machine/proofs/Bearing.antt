-- of a route's changes one at most bears on where packets go
use Rattle.std.proofs.Common.{◌≡◌, ◌⊎◌, ◌∷◌, ◌++◌, ◌∙◌, inl, inr, Bool, true, false, List, [], Option, None, Some, if◌then◌else◌, refl, sym, ap, ap₂, subst}
use Rattle.swss_types.specs.declared.address.Prefix.{Prefix}
use Rattle.swss_types.specs.declared.vrf.Vrf.{Vrf}
use Rattle.table_schema.specs.Plan.{Ports}
use Rattle.table_schema.specs.declared.key.Key.TheVariants as key
use Rattle.table_schema.specs.declared.row.RouteRow.TheVariants as route
use Rattle.sai_types.specs.declared.weight.WHop.{WHop}
use Rattle.sai_types.specs.declared.thing.Goal.{Goal}
use Rattle.sai_types.specs.declared.thing.Thing.{Thing}
use Rattle.sai_types.specs.declared.thing.Thing.TheVariants as thing
use Rattle.sai_types.specs.Alike.{IsIn}
use Rattle.sai_types.specs.Names as name
use Rattle.sai_types.specs.Names.{name_of}
use Rattle.sai_types.proofs.Membership.{in-either}
use Rattle.switch_model.specs.Placed as row
use Rattle.switch_model.specs.Placed.{Placed as Row}
use Rattle.switch_model.specs.Things.{hops_of, members_of}
use Rattle.row_layout.specs.Operations.{Change, Make, Set, Take, build_all, changes_of, make_all, own_changes, retire_all, same_thing, set_all, shared_going, take_all, unshared, uses_of}
use Rattle.row_layout.specs.Rows as owner
use Rattle.row_layout.specs.Rows.{Owner, from, goal_of, own_things}
use Rattle.row_layout.specs.Shared.{shared_things}
use Rattle.switch_machine.specs.Bearing.{BearsOnce, Bears, NoneBears}
use Rattle.switch_machine.specs.Changes.{changed_name}
use Rattle.switch_machine.proofs.Tabled.{group_use}
use Rattle.switch_machine.proofs.Sequence.{make_append}

-- groups and their members
abbrev IsOfGroup : Thing → Type 0
IsOfGroup t = (hops : List WHop) × ((t ≡ thing.Group hops) ⊎ ((hop : WHop) × (t ≡ thing.GroupMember hops hop)))

bears_not : (t : Thing) → IsOfGroup t → Bears (name_of t) → ⊥
bears_not t (hops, inl e) h = subst (λ z. Bears (name_of z)) e h
bears_not t (hops, inr (hop, e)) h = subst (λ z. Bears (name_of z)) e h

member_group : (hops some : List WHop) (t : Thing) → IsIn t (members_of hops some) → IsOfGroup t
member_group hops [] t h = elim h [ ]
member_group hops (hop ∷ some) t (inl e) = (hops, inr (hop, e))
member_group hops (hop ∷ some) t (inr h) = member_group hops some t h

things_group : (hops : List WHop) (t : Thing) → IsIn t (shared_things (owner.Group hops)) → IsOfGroup t
things_group hops t (inl e) = (hops, inl e)
things_group hops t (inr h) = member_group hops hops t h

going_group : (hops : List WHop) (t : Thing) → IsIn t (shared_going (owner.Group hops)) → IsOfGroup t
going_group hops t h = by (in-either t (members_of hops hops) (thing.Group hops ∷ []) h)
  where
    by : IsIn t (members_of hops hops) ⊎ IsIn t (thing.Group hops ∷ []) → IsOfGroup t
    by (inl g) = member_group hops hops t g
    by (inr (inl e)) = (hops, inl e)
    by (inr (inr g)) = elim g [ ]

make_none : (ts : List Thing) (rest : List Change) → ((t : Thing) → IsIn t ts → IsOfGroup t) → NoneBears rest → NoneBears (make_all ts rest)
make_none [] rest group none c h = none c h
make_none (t ∷ ts) rest group none c (inl e) = λ b. bears_not t (group t (inl refl)) (subst (λ z. Bears (changed_name z)) e b)
make_none (t ∷ ts) rest group none c (inr h) = make_none ts rest (λ u g. group u (inr g)) none c h

take_none : (ts : List Thing) (rest : List Change) → ((t : Thing) → IsIn t ts → IsOfGroup t) → NoneBears rest → NoneBears (take_all ts rest)
take_none [] rest group none c h = none c h
take_none (t ∷ ts) rest group none c (inl e) = λ b. bears_not t (group t (inl refl)) (subst (λ z. Bears (changed_name z)) e b)
take_none (t ∷ ts) rest group none c (inr h) = take_none ts rest (λ u g. group u (inr g)) none c h

abbrev AreGroups : List Owner → Type 0
AreGroups os = (o : Owner) → IsIn o os → (hops : List WHop) × (o ≡ owner.Group hops)

nothing_bears : NoneBears []
nothing_bears c h = elim h [ ]

build_none : (os : List Owner) → AreGroups os → NoneBears (build_all os [])
build_none [] groups = nothing_bears
build_none (o ∷ os) groups = make_none (shared_things o) (build_all os []) (λ t h. let g = groups o (inl refl) in things_group g.0 t (subst (λ z. IsIn t (shared_things z)) g.1 h)) (build_none os (λ p h. groups p (inr h)))

retire_none : (os : List Owner) → AreGroups os → NoneBears (retire_all os)
retire_none [] groups = nothing_bears
retire_none (o ∷ os) groups = take_none (shared_going o) (retire_all os) (λ t h. let g = groups o (inl refl) in going_group g.0 t (subst (λ z. IsIn t (shared_going z)) g.1 h)) (retire_none os (λ p h. groups p (inr h)))

unshared_in : (used : Owner → Bool) (others os : List Owner) → AreGroups os → AreGroups (unshared used others os)
unshared_in used others [] groups = groups
unshared_in used others (o ∷ os) groups = by _ (unshared_in used others os (λ p h. groups p (inr h)))
  where
    by : (b : Bool) → AreGroups (unshared used others os) → AreGroups (if b then unshared used others os else o ∷ unshared used others os)
    by true rest p h = rest p h
    by false rest p (inl e) = groups p (inl e)
    by false rest p (inr h) = rest p h

pub route_groups : (plan : Ports) (v : Vrf) (prefix : Prefix) (r : Option Row) → AreGroups (uses_of plan (key.Route v prefix) r)
route_groups plan v prefix None o h = elim h [ ]
route_groups plan v prefix (Some (row.Route (route.Hops hops))) o h = let x = group_use o (hops_of plan hops) h in (x.0, x.2)
route_groups plan v prefix (Some (row.Route route.Drop)) o h = elim h [ ]
route_groups plan v prefix (Some (row.Route (route.Direct n))) o h = elim h [ ]
route_groups plan v prefix (Some _) o h = elim h [ ]

build_apart : (os : List Owner) (rest : List Change) → build_all os rest ≡ build_all os [] ++ rest
build_apart [] rest = refl
build_apart (o ∷ os) rest = ap (make_all (shared_things o)) (build_apart os rest) ∙ sym (make_append (shared_things o) (build_all os []) rest)

-- ---- the route itself

module _ (plan : Ports) (v : Vrf) (prefix : Prefix) where
  abbrev IsOne : List Thing → Type 0
  IsOne ts = (ts ≡ []) ⊎ ((g : Goal) × (ts ≡ thing.Route v prefix g ∷ []))

  from_goal : (o : Option Goal) → IsOne (from o (λ g. thing.Route v prefix g ∷ []))
  from_goal None = inl refl
  from_goal (Some g) = inr (g, refl)

  own_one : (r : Row) → IsOne (own_things plan (key.Route v prefix) r)
  own_one (row.Route r) = from_goal (goal_of plan r)
  own_one _ = inl refl

  abbrev IsOnce : List Change → Type 0
  IsOnce cs = (cs ≡ []) ⊎ ((c : Change) × (cs ≡ c ∷ []) × (changed_name c ≡ name.Route v prefix))

  made : (ts : List Thing) → IsOne ts → IsOnce (make_all ts [])
  made ts (inl e) = inl (ap (λ z. make_all z []) e)
  made ts (inr (g, e)) = inr (Make (thing.Route v prefix g), ap (λ z. make_all z []) e, refl)

  taken : (ts : List Thing) → IsOne ts → IsOnce (take_all ts [])
  taken ts (inl e) = inl (ap (λ z. take_all z []) e)
  taken ts (inr (g, e)) = inr (Take (name.Route v prefix), ap (λ z. take_all z []) e, refl)

  set_one : (b : Bool) (g : Goal) → IsOnce (if b then [] else Set (thing.Route v prefix g) ∷ [])
  set_one true g = inl refl
  set_one false g = inr (Set (thing.Route v prefix g), refl, refl)

  sets : (ts us : List Thing) → IsOne ts → IsOne us → IsOnce (set_all ts us)
  sets ts us (inl e) _ = inl (ap (λ z. set_all z us) e)
  sets ts us (inr (g, e)) (inl h) = inl (ap₂ set_all e h)
  sets ts us (inr (g, e)) (inr (i, h)) = subst IsOnce (sym (ap₂ set_all e h)) (set_one (same_thing (thing.Route v prefix g) (thing.Route v prefix i)) i)

  own_once : (old new : Option Row) → IsOnce (own_changes plan (key.Route v prefix) old new)
  own_once None None = inl refl
  own_once None (Some r) = made (own_things plan (key.Route v prefix) r) (own_one r)
  own_once (Some a) None = taken (own_things plan (key.Route v prefix) a) (own_one a)
  own_once (Some a) (Some r) = sets (own_things plan (key.Route v prefix) a) (own_things plan (key.Route v prefix) r) (own_one a) (own_one r)

  pub bears-once : (old new : Option Row) (used : Owner → Bool) → BearsOnce (name.Route v prefix) (changes_of plan (key.Route v prefix) old new used)
  bears-once old new used = record {
    before = build_all builds [];
    middle = own_changes plan (key.Route v prefix) old new;
    after = retire_all retires;
    parts = build_apart builds (own_changes plan (key.Route v prefix) old new ++ retire_all retires);
    first = build_none builds (unshared_in used (uses_of plan (key.Route v prefix) old) (uses_of plan (key.Route v prefix) new) (route_groups plan v prefix new));
    once = own_once old new;
    last = retire_none retires (unshared_in used (uses_of plan (key.Route v prefix) new) (uses_of plan (key.Route v prefix) old) (route_groups plan v prefix old));
  }
    where
      builds : List Owner
      builds = unshared used (uses_of plan (key.Route v prefix) old) (uses_of plan (key.Route v prefix) new)

      retires : List Owner
      retires = unshared used (uses_of plan (key.Route v prefix) new) (uses_of plan (key.Route v prefix) old)
