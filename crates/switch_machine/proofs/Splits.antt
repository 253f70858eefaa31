-- whether two workers, keys, owners or names are one
use Rattle.std.proofs.Common.{◌≡◌, ◌==◌, ◌⊎◌, ◌∷◌, ◌∙◌, inl, inr, ℕ, Bool, true, false, List, [], if◌then◌else◌, Option, None, Some, refl, sym, ap, ap₂, subst}
use Rattle.std.proofs.lemmas.Bool.{eqb-true, eq-eqb, false≢true}
use Rattle.std.specs.BTreeMap.{is_at}
use Rattle.std.specs.Cmp.{eq_by_cmp_equiv}
use Rattle.swss_types.specs.declared.address.Ip.{Ip}
use Rattle.swss_types.specs.declared.address.Prefix.{Prefix}
use Rattle.swss_types.specs.declared.vrf.Vrf.{Vrf}
use Rattle.swss_types.specs.declared.vrf.VrfName.{VrfName}
use Rattle.swss_types.specs.Vrf.{same_vrf, same_vrf_name}
use Rattle.swss_types.proofs.Routers.{vrf-exact, vrf-refl, vrf_name-exact, vrf_name-refl}
use Rattle.swss_types.proofs.Tied.{tied}
use Rattle.table_schema.specs.Key.{key_cmp}
use Rattle.table_schema.specs.Plan.{Ports}
use Rattle.table_schema.specs.declared.key.Key.{Key}
use Rattle.table_schema.proofs.Keys.{key_exact, key_total}
use Rattle.sai_types.specs.declared.hop.Base.{Base}
use Rattle.sai_types.specs.declared.hop.Base.TheVariants as base
use Rattle.sai_types.specs.declared.hop.Hop.{Hop}
use Rattle.sai_types.specs.declared.weight.WHop.{WHop}
use Rattle.sai_types.specs.declared.thing.Thing.{Thing}
use Rattle.sai_types.specs.Named.{hop_cmp, whop_cmp}
use Rattle.sai_types.specs.Alike.{IsIn}
use Rattle.sai_types.proofs.Rising.{hop_exact, hop_total, whop_exact, whop_total}
use Rattle.sai_types.specs.Names as name
use Rattle.sai_types.specs.Names.{ThingName}
use Rattle.switch_model.specs.Placed.{Placed as Row}
use Rattle.row_layout.specs.Rows as owner
use Rattle.row_layout.specs.Rows.{Owner, own_things}
use Rattle.row_layout.specs.Operations.{uses_of}
use Rattle.row_layout.specs.Shared.{uses}
use Rattle.switch_machine.specs.Flights.{own_of, put}
use Rattle.switch_machine.specs.Steps.{with_row}

abbrev pub IsSplit : {X : Type 0} → X → X → Type 0
IsSplit x y = (x ≡ y) ⊎ (x ≡ y → ⊥)

by_bool : {X : Type 0} (x y : X) (b : Bool) → (b ≡ true → x ≡ y) → (x ≡ y → b ≡ true) → IsSplit x y
by_bool x y true exact same = inl (exact refl)
by_bool x y false exact same = inr (λ h. false≢true (same h))

pub nat_split : (x y : ℕ) → IsSplit x y
nat_split x y = by_bool x y (x == y) (eqb-true x y) (eq-eqb x y)

pub key_split : (k q : Key) → IsSplit k q
key_split k q = by_bool k q (is_at (key_cmp k) q) (λ h. key_exact k q (tied (key_cmp k q) h)) (λ h. subst (λ z. is_at (key_cmp k) z ≡ true) h ((eq_by_cmp_equiv key_total).refl k))

hop_split : (x y : Hop) → IsSplit x y
hop_split x y = by_bool x y (is_at (hop_cmp x) y) (λ h. hop_exact x y (tied (hop_cmp x y) h)) (λ h. subst (λ z. is_at (hop_cmp x) z ≡ true) h ((eq_by_cmp_equiv hop_total).refl x))

whop_split : (x y : WHop) → IsSplit x y
whop_split x y = by_bool x y (is_at (whop_cmp x) y) (λ h. whop_exact x y (tied (whop_cmp x y) h)) (λ h. subst (λ z. is_at (whop_cmp x) z ≡ true) h ((eq_by_cmp_equiv whop_total).refl x))

router_split : (x y : Vrf) → IsSplit x y
router_split x y = by_bool x y (same_vrf x y) (vrf-exact x y) (λ h. subst (λ z. same_vrf x z ≡ true) h (vrf-refl x))

label_split : (x y : VrfName) → IsSplit x y
label_split x y = by_bool x y (same_vrf_name x y) (vrf_name-exact x y) (λ h. subst (λ z. same_vrf_name x z ≡ true) h (vrf_name-refl x))

carried : {X Y : Type 0} (f : X → Y) (x y : X) → (f x ≡ f y → x ≡ y) → IsSplit x y → IsSplit (f x) (f y)
carried f x y back (inl h) = inl (ap f h)
carried f x y back (inr h) = inr (λ e. h (back e))

carried_both : {X Y Z : Type 0} (f : X → Y → Z) (x y : X) (a b : Y) → (f x a ≡ f y b → x ≡ y) → (f x a ≡ f y b → a ≡ b) → IsSplit x y → IsSplit a b → IsSplit (f x a) (f y b)
carried_both f x y a b back next (inl h) (inl g) = inl (ap₂ f h g)
carried_both f x y a b back next (inr h) _ = inr (λ e. h (back e))
carried_both f x y a b back next (inl h) (inr g) = inr (λ e. g (next e))

abbrev cons : WHop → List WHop → List WHop
cons x xs = x ∷ xs

hops_split : (xs ys : List WHop) → IsSplit xs ys
hops_split [] [] = inl refl
hops_split [] (y ∷ ys) = inr (λ h. cc)
hops_split (x ∷ xs) [] = inr (λ h. cc)
hops_split (x ∷ xs) (y ∷ ys) = carried_both cons x y xs ys (λ h. cc) (λ h. cc) (whop_split x y) (hops_split xs ys)

-- an address is told by its hop
abbrev hop_with : Ip → Hop
hop_with ip = record { on = base.Vlan 0; ip = ip }

ip_split : (x y : Ip) → IsSplit x y
ip_split x y = by_hop (hop_split (hop_with x) (hop_with y))
  where
    by_hop : IsSplit (hop_with x) (hop_with y) → IsSplit x y
    by_hop (inl h) = inl (ap (λ (z : Hop). z.ip) h)
    by_hop (inr h) = inr (λ e. h (ap hop_with e))

pub owner_split : (o p : Owner) → IsSplit o p
owner_split (owner.OfRow k) (owner.OfRow q) = carried owner.OfRow k q (λ h. cc) (key_split k q)
owner_split (owner.Bridge x) (owner.Bridge y) = carried owner.Bridge x y (λ h. cc) (nat_split x y)
owner_split (owner.Own v x) (owner.Own w y) = carried_both owner.Own v w x y (λ h. cc) (λ h. cc) (router_split v w) (ip_split x y)
owner_split (owner.Group x) (owner.Group y) = carried owner.Group x y (λ h. cc) (hops_split x y)
owner_split o p = inr (λ h. cc)

base_split : (x y : Base) → IsSplit x y
base_split (base.Port x) (base.Port y) = carried base.Port x y (λ h. cc) (nat_split x y)
base_split (base.Vlan x) (base.Vlan y) = carried base.Vlan x y (λ h. cc) (nat_split x y)
base_split x y = inr (λ h. cc)

prefix_split : (x y : Prefix) → IsSplit x y
prefix_split x y = parts (ip_split x.ip y.ip) (nat_split x.len y.len)
  where
    parts : IsSplit x.ip y.ip → IsSplit x.len y.len → IsSplit x y
    parts (inl h) (inl g) = let made : Ip → ℕ → Prefix = λ a b. record { ip = a; len = b } in inl (ap₂ made h g)
    parts (inr h) _ = inr (λ e. h (ap (λ (z : Prefix). z.ip) e))
    parts (inl h) (inr g) = inr (λ e. g (ap (λ (z : Prefix). z.len) e))

pub name_split : (m n : ThingName) → IsSplit m n
name_split (name.Port x) (name.Port y) = carried name.Port x y (λ h. cc) (nat_split x y)
name_split (name.Vlan x) (name.Vlan y) = carried name.Vlan x y (λ h. cc) (nat_split x y)
name_split (name.VirtualRouter x) (name.VirtualRouter y) = carried name.VirtualRouter x y (λ h. cc) (label_split x y)
name_split (name.BridgePort x) (name.BridgePort y) = carried name.BridgePort x y (λ h. cc) (nat_split x y)
name_split (name.VlanMember x a) (name.VlanMember y b) = carried_both name.VlanMember x y a b (λ h. cc) (λ h. cc) (nat_split x y) (nat_split a b)
name_split (name.Rif x) (name.Rif y) = carried name.Rif x y (λ h. cc) (base_split x y)
name_split (name.Own v x) (name.Own w y) = carried_both name.Own v w x y (λ h. cc) (λ h. cc) (router_split v w) (ip_split x y)
name_split (name.Neighbor x) (name.Neighbor y) = carried name.Neighbor x y (λ h. cc) (hop_split x y)
name_split (name.NextHop x) (name.NextHop y) = carried name.NextHop x y (λ h. cc) (hop_split x y)
name_split (name.Group x) (name.Group y) = carried name.Group x y (λ h. cc) (hops_split x y)
name_split (name.GroupMember x a) (name.GroupMember y b) = carried_both name.GroupMember x y a b (λ h. cc) (λ h. cc) (hops_split x y) (whop_split a b)
name_split (name.Route v x) (name.Route w y) = carried_both name.Route v w x y (λ h. cc) (λ h. cc) (router_split v w) (prefix_split x y)
name_split m n = inr (λ h. cc)

-- ---- values that are put

pub put_at : {X : Type 0} (w v : ℕ) (x : X) (f : ℕ → X) → v ≡ w → put w x f v ≡ x
put_at w v x f h = ap (λ b. if b then x else f v) (eq-eqb v w h)

off : (v w : ℕ) (b : Bool) → (b ≡ true → v ≡ w) → (v ≡ w → ⊥) → b ≡ false
off v w true exact apart = absurd (apart (exact refl))
off v w false exact apart = refl

pub put_off : {X : Type 0} (w v : ℕ) (x : X) (f : ℕ → X) → (v ≡ w → ⊥) → put w x f v ≡ f v
put_off w v x f h = ap (λ b. if b then x else f v) (off v w (v == w) (eqb-true v w) h)

-- a value that is there after another was put
pub data IsPut {X : Type 0} (w v : ℕ) (x : X) (f : ℕ → X) (y : X) : Type 0 where
  New : v ≡ w → x ≡ y → IsPut w v x f y
  Old : (v ≡ w → ⊥) → f v ≡ y → IsPut w v x f y

pub put_by : {X : Type 0} (w v : ℕ) (x : X) (f : ℕ → X) (y : X) → put w x f v ≡ y → IsPut w v x f y
put_by w v x f y h = by (nat_split v w)
  where
    by : IsSplit v w → IsPut w v x f y
    by (inl same) = New same (sym (put_at w v x f same) ∙ h)
    by (inr apart) = Old apart (sym (put_off w v x f apart) ∙ h)

pub row_at : {X : Type 0} (k q : Key) (o : Option X) (rows : Key → Option X) → k ≡ q → with_row k o rows q ≡ o
row_at k q o rows h = ap (λ b. if b then o else rows q) (subst (λ z. is_at (key_cmp k) z ≡ true) h ((eq_by_cmp_equiv key_total).refl k))

off_key : (k q : Key) (b : Bool) → (b ≡ true → k ≡ q) → (k ≡ q → ⊥) → b ≡ false
off_key k q true exact apart = absurd (apart (exact refl))
off_key k q false exact apart = refl

pub row_off : {X : Type 0} (k q : Key) (o : Option X) (rows : Key → Option X) → (k ≡ q → ⊥) → with_row k o rows q ≡ rows q
row_off k q o rows h = ap (λ b. if b then o else rows q) (off_key k q (is_at (key_cmp k) q) (λ e. key_exact k q (tied (key_cmp k q) e)) h)

-- what belongs to a key's row belongs to a row
pub own_row_in : (plan : Ports) (k : Key) (o : Option Row) (t : Thing) → IsIn t (own_of plan k o) → (r : Row) × (o ≡ Some r) × IsIn t (own_things plan k r)
own_row_in plan k None t h = elim h [ ]
own_row_in plan k (Some r) t h = (r, refl, h)

pub use_row_in : (plan : Ports) (k : Key) (o : Option Row) (p : Owner) → IsIn p (uses_of plan k o) → (r : Row) × (o ≡ Some r) × IsIn p (uses plan k r)
use_row_in plan k None p h = elim h [ ]
use_row_in plan k (Some r) p h = (r, refl, h)
