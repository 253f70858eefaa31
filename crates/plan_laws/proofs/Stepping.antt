-- one change of a plan on the chip
use Rattle.std.proofs.Common.{◌≡◌, inl, inr, ◌⊎◌, ℕ, ◌+◌, ◌++◌, List, [], ◌∷◌, Some, refl, sym, ap, ◌∙◌, subst, arith}
use Rattle.sai_types.specs.declared.ids.Rid.{Rid}
use Rattle.sai_types.specs.declared.body.Attr.{Attr}
use Rattle.sai_types.specs.declared.body.Attr.TheVariants as attr
use Rattle.sai_types.specs.declared.body.Body.{Body}
use Rattle.sai_types.specs.declared.body.Call.{Call}
use Rattle.sai_types.specs.declared.body.Call.TheVariants as call
use Rattle.sai_types.specs.declared.thing.PortThing.{PortThing}
use Rattle.sai_types.specs.declared.thing.Thing.{Thing}
use Rattle.sai_types.specs.declared.thing.Thing.TheVariants as thing
use Rattle.sai_types.specs.After.{after_call, after_calls, entry_of}
use Rattle.sai_types.specs.Alike.{IsIn}
use Rattle.sai_types.specs.Made.{AreLegal, IsWhole, made_after_all}
use Rattle.sai_types.specs.Names as name
use Rattle.sai_types.specs.Names.{ThingName, name_of}
use Rattle.sai_types.specs.Objects.{Objects}
use Rattle.sai_types.proofs.Whole.{whole-after_call, whole-after_calls}
use Rattle.chip_layout.specs.Bodies.{IsBody, IsChange}
use Rattle.chip_layout.specs.Layout.{Has, HasRoom, IsFree, IsLaidOut, IsUnused, Layout, RefersWell, next_rid, with_changed, with_thing, without}
use Rattle.chip_layout.proofs.Entries.{one-id}
use Rattle.chip_layout.proofs.Laid.{changed}
use Rattle.chip_layout.proofs.Making.{make-laid, make-legal}
use Rattle.chip_layout.proofs.Removing.{remove-laid, remove-legal}
use Rattle.chip_layout.proofs.Setting.{set-laid, set-legal}
use Rattle.chip_layout.proofs.Shapes.{IsWithin, laid-same}
use Rattle.plan_laws.specs.Moments.{IsMoment, SetsThing, attr_place, layout_after}
use Rattle.plan_laws.specs.Plans.{PlanChange, Make, Remove, Set, stands_after, stands_after_all}
use Rattle.plan_laws.proofs.Named.{same-or}

snoc_to : (xs : List PlanChange) (c : PlanChange) (now : Thing → Type 0) (t : Thing) → stands_after_all (xs ++ (c ∷ [])) now t → stands_after c (stands_after_all xs now) t
snoc_to [] c now t h = h
snoc_to (x ∷ xs) c now t h = snoc_to xs c (stands_after x now) t h

snoc_from : (xs : List PlanChange) (c : PlanChange) (now : Thing → Type 0) (t : Thing) → stands_after c (stands_after_all xs now) t → stands_after_all (xs ++ (c ∷ [])) now t
snoc_from [] c now t h = h
snoc_from (x ∷ xs) c now t h = snoc_from xs c (stands_after x now) t h

-- ---- sets of one thing

same_changed : (layout : Layout Rid) (objects : Objects) (i : Rid) (u : Thing) → IsLaidOut layout objects → layout i u → IsLaidOut (with_changed layout i u) objects
same_changed layout objects i u laid there =
    laid-same layout (with_changed layout i u) objects
    (λ j w h. elim (same-or (name_of w) (name_of u)) [ inl same ↦ inr (laid.one j i w u h there same) | inr apart ↦ inl (h, apart) ])
    (λ j w h. elim h [ inl old ↦ old.0 | inr is ↦ subst (λ x. layout j x) (sym is.1) (subst (λ x. layout x u) (sym is.0) there) ])
    laid

twice_to : (layout : Layout Rid) (i : Rid) (v t : Thing) → name_of v ≡ name_of t → IsWithin (with_changed (with_changed layout i v) i t) (with_changed layout i t)
twice_to layout i v t same j w (inl (inl h, apart)) = inl (h.0, apart)
twice_to layout i v t same j w (inl (inr h, apart)) = absurd (apart (ap name_of h.1 ∙ same))
twice_to layout i v t same j w (inr h) = inr h

twice_from : (layout : Layout Rid) (i : Rid) (v t : Thing) → name_of v ≡ name_of t → IsWithin (with_changed layout i t) (with_changed (with_changed layout i v) i t)
twice_from layout i v t same j w (inl (h, apart)) = inl (inl (h, λ e. apart (e ∙ same)), apart)
twice_from layout i v t same j w (inr h) = inr h

-- what sets of a thing come to
record IsSetTo (i : Rid) (calls : List (Call Rid)) (layout : Layout Rid) (objects : Objects) (u t : Thing) (capacities : List ℕ) (made : ℕ) : Type 0 where
  legal : AreLegal capacities made objects calls
  laid : IsLaidOut (with_changed layout i t) (after_calls made objects calls)
  named : name_of u ≡ name_of t
  none_made : made_after_all made calls ≡ made

sets_named : (i : Rid) (place : ℕ) (calls : List (Call Rid)) (layout : Layout Rid) (objects : Objects) (u t : Thing) → IsLaidOut layout objects → layout i u → SetsThing i place calls layout u t → (capacities : List ℕ) (made : ℕ) → IsSetTo i calls layout objects u t capacities made
sets_named i place [] layout objects u t laid there is capacities made = record { legal = tt; laid = subst (λ z. IsLaidOut (with_changed layout i z) objects) is (same_changed layout objects i u laid there); named = ap name_of is; none_made = refl }
sets_named i place (c ∷ cs) layout objects u t laid there is capacities made =
    let b = is.0 in
    let a = is.1 in
    let v = is.2 in
    let set : Call Rid = call.Set (entry_of i.0 b) a in
    let laid' = set-laid layout made objects laid i u v b a there is.3 is.4 in
    let rest = sets_named i (attr_place a + 1) cs (with_changed layout i v) (after_call (made + 1) objects set) v t laid' (inr (refl, refl)) is.7 capacities made in
    let same : name_of u ≡ name_of v = sym ((changed layout objects laid u v b a is.3 is.4).same) in
    subst (λ z. IsSetTo i (z ∷ cs) layout objects u t capacities made) (sym is.5) (record {
      legal = (set-legal layout made objects laid i u v b a there is.3 is.4 capacities, rest.legal);
      laid = laid-same (with_changed (with_changed layout i v) i t) (with_changed layout i t) (after_calls made objects (set ∷ cs)) (twice_to layout i v t rest.named) (twice_from layout i v t rest.named) rest.laid;
      named = same ∙ rest.named;
      none_made = rest.none_made;
    })

-- ---- how many sets

abbrev pub IsPortName : ThingName → Type 0
IsPortName (name.Port lane) = Unit {0}
IsPortName _ = ⊥

pub is-port : (u : Thing) → IsPortName (name_of u) → (p : PortThing) × (u ≡ thing.Port p)
is-port (thing.Port p) h = (p, refl)
is-port _ h = elim h [ ]

-- the one attribute of a thing that is no port has the first place
pub first-place : {I : Type 0} (at : ThingName → I → Type 0) (u : Thing) (a : Attr I) (v : Thing) → IsChange at u a v → IsPortName (name_of u) ⊎ ((attr_place a ≡ 0) × (IsPortName (name_of v) → ⊥))
first-place at (thing.Port p) a v h = inl tt
first-place at (thing.VlanMember vlan lane tagging) (attr.Tagging x) v h = inr (refl, subst IsPortName (ap name_of h))
first-place at (thing.Neighbor hop mac) (attr.Mac m) v h = inr (refl, subst IsPortName (ap name_of h))
first-place at (thing.Route z prefix goal) (attr.To x) v h = inr (refl, subst IsPortName (ap name_of h.4))
first-place at _ _ v h = elim h [ ]

-- so at most one is set
pub one-set : (i : Rid) (calls : List (Call Rid)) (layout : Layout Rid) (u t : Thing) → SetsThing i 0 calls layout u t → IsPortName (name_of u) ⊎ ((calls ≡ []) ⊎ ((c : Call Rid) × (calls ≡ c ∷ [])))
one-set i [] layout u t is = inr (inl refl)
one-set i (c ∷ []) layout u t is = inr (inr (c, refl))
one-set i (c ∷ d ∷ cs) layout u t is =
    elim (first-place (Has layout) u is.1 is.2 is.4) [
      | inl port ↦ inl port
      | inr one ↦ elim (first-place (Has (with_changed layout i is.2)) is.2 is.7.1 is.7.2 is.7.4) [ inl port ↦ absurd (one.1 port) | inr first ↦ let zero = first.0 in let later = is.7.6 in absurd (omega (arith, zero, later)) ]
    ]

-- ---- a change

-- what stands between the calls of a change: all but ports is as it was before
pub record IsMidMoment (old : List Thing) (done : List PlanChange) (layout : Layout Rid) (made : ℕ) (objects : Objects) : Type 0 where
  pub whole : IsWhole made objects
  pub laid : IsLaidOut layout objects
  pub sound : (i : Rid) (t : Thing) → (IsPortName (name_of t) → ⊥) → layout i t → stands_after_all done (λ u. IsIn u old) t
  pub all : (t : Thing) → (IsPortName (name_of t) → ⊥) → stands_after_all done (λ u. IsIn u old) t → (i : Rid) × layout i t

-- a change may be made
abbrev pub IsAllowed : Layout Rid → PlanChange → Type 0
IsAllowed layout (Make t) = IsFree layout t × RefersWell layout t
IsAllowed layout (Set t) = ((i : Rid) × Has layout (name_of t) i) × RefersWell layout t
IsAllowed layout (Remove k) = ((i : Rid) × Has layout k i) × IsUnused layout k

module _ {old : List Thing} {done : List PlanChange} {layout : Layout Rid} {made : ℕ} {objects : Objects} (at : IsMoment old done layout made objects) (capacities : List ℕ) where
  pub record IsChangeMade (c : PlanChange) (calls : List (Call Rid)) (later : Layout Rid) : Type 0 where
    pub legal : AreLegal capacities made objects calls
    pub next : IsMoment old (done ++ (c ∷ [])) later (made_after_all made calls) (after_calls made objects calls)
    pub keeps : (k : ThingName) (j : Rid) → Has layout k j → (i : Rid) → Has later k i → Has later k j
    pub fresh : (k : ThingName) (i : Rid) → Has later k i → ((j : Rid) × Has layout k j) ⊎ ((t : Thing) × (c ≡ Make t) × (name_of t ≡ k) × Has later k (next_rid made))

  has_within : (x y : Layout Rid) → IsWithin x y → (k : ThingName) (j : Rid) → Has x k j → Has y k j
  has_within x y to k j h = (h.0, to j h.0 h.1, h.2)

  pub done-same : (c : PlanChange) (calls : List (Call Rid)) (later other : Layout Rid) → IsWithin later other → IsWithin other later → IsChangeMade c calls later → IsChangeMade c calls other
  done-same c calls later other to back is = record {
    legal = is.legal;
    next = record {
      whole = is.next.whole;
      laid = laid-same later other (after_calls made objects calls) to back is.next.laid;
      sound = λ i t h. is.next.sound i t (back i t h);
      all = λ t h. let has = is.next.all t h in (has.0, to has.0 t has.1);
    };
    keeps = λ k j h i g. has_within later other to k j (is.keeps k j h i (has_within other later back k i g));
    fresh = λ k i h. elim (is.fresh k i (has_within other later back k i h)) [ inl stood ↦ inl stood | inr new ↦ inr (new.0, new.1, new.2, has_within later other to k (next_rid made) new.3) ];
  }

  pub set-layout : (t u : Thing) (i : Rid) → layout i u → name_of u ≡ name_of t → IsWithin (with_changed layout i t) (layout_after made layout (Set t)) × IsWithin (layout_after made layout (Set t)) (with_changed layout i t)
  set-layout t u i there same = (
    λ j w h. elim h [ inl old ↦ inl old | inr is ↦ inr ((u, subst (λ z. layout z u) (sym is.0) there, same), is.1) ],
    λ j w h. elim h [ inl old ↦ inl old | inr is ↦ inr (one-id layout objects at.laid (name_of t) j i is.0 (u, there, same), is.1) ],
  )

  pub make-done : (t : Thing) (b : Body Rid) → IsBody (Has layout) t b → IsAllowed layout (Make t) → HasRoom capacities objects t → IsChangeMade (Make t) (call.Create b ∷ []) (with_thing layout (next_rid made) t)
  make-done t b of allowed room =
      let legal = make-legal layout made objects at.whole at.laid t b of allowed.0 capacities allowed.1 room in record {
        legal = (legal, tt);
        keeps = λ k j h i g. (h.0, inl h.1, h.2);
        fresh = λ k i h. elim h.1 [ inl there ↦ inl (i, (h.0, there, h.2)) | inr is ↦ let same : name_of t ≡ k = ap name_of (sym is.1) ∙ h.2 in inr (t, refl, same, (t, inr (refl, refl), same)) ];
        next = record {
          whole = whole-after_call capacities made objects (call.Create b) at.whole legal;
          laid = make-laid layout made objects at.whole at.laid t b of allowed.0 (next_rid made) (λ e. refl);
          sound = λ i u h. snoc_from done (Make t) (λ x. IsIn x old) u (elim h [ inl there ↦ inl (at.sound i u there, λ same. allowed.0 i u there (inl (sym same))) | inr is ↦ inr (ap Some (sym is.1)) ]);
          all = λ u h. elim (snoc_to done (Make t) (λ x. IsIn x old) u h) [ inl there ↦ let has = at.all u there.0 in (has.0, inl has.1) | inr is ↦ (next_rid made, inr (refl, let same : u ≡ t = cc in same)) ];
        };
      }

  pub set-done : (t u : Thing) (i : Rid) (calls : List (Call Rid)) → layout i u → SetsThing i 0 calls layout u t → IsChangeMade (Set t) calls (with_changed layout i t)
  set-done t u i calls there sets =
      let is = sets_named i 0 calls layout objects u t at.laid there sets capacities made in record {
        legal = is.legal;
        keeps = λ k j h n g. elim (same-or (name_of h.0) (name_of t)) [
          | inl same ↦ let ids = (at.laid.one i j u h.0 there h.1 (is.named ∙ sym same)).0 in (t, inr (sym ids, refl), sym same ∙ h.2)
          | inr apart ↦ (h.0, inl (h.1, apart), h.2)
        ];
        fresh = λ k n h. elim h.1 [ inl old ↦ inl (n, (h.0, old.0, h.2)) | inr same ↦ inl (i, (u, there, is.named ∙ ap name_of (sym same.1) ∙ h.2)) ];
        next = record {
          whole = whole-after_calls capacities made objects calls at.whole is.legal;
          laid = is.laid;
          sound = λ j w h. snoc_from done (Set t) (λ x. IsIn x old) w (elim h [ inl there ↦ inl (at.sound j w there.0, there.1) | inr same ↦ inr (ap Some (sym same.1)) ]);
          all = λ w h. elim (snoc_to done (Set t) (λ x. IsIn x old) w h) [ inl there ↦ let has = at.all w there.0 in (has.0, inl (has.1, there.1)) | inr same ↦ (i, inr (refl, let e : w ≡ t = cc in e)) ];
        };
      }

  pub remove-done : (u : Thing) (i : Rid) (b : Body Rid) → layout i u → IsBody (Has layout) u b → IsUnused layout (name_of u) → IsChangeMade (Remove (name_of u)) (call.Remove (entry_of i.0 b) ∷ []) (without layout (name_of u))
  remove-done u i b there of unused =
      let legal = remove-legal layout made objects at.whole at.laid i u b there of unused capacities in record {
        legal = (legal, tt);
        keeps = λ k j h i g. (h.0, (h.1, λ same. g.1.1 (g.2 ∙ sym h.2 ∙ same)), h.2);
        fresh = λ k i h. inl (i, (h.0, h.1.0, h.2));
        next = record {
          whole = whole-after_call capacities made objects (call.Remove (entry_of i.0 b)) at.whole legal;
          laid = remove-laid layout made objects at.whole at.laid i u b there of unused;
          sound = λ j w h. snoc_from done (Remove (name_of u)) (λ x. IsIn x old) w (inl (at.sound j w h.0, h.1));
          all = λ w h. elim (snoc_to done (Remove (name_of u)) (λ x. IsIn x old) w h) [ inl there ↦ let has = at.all w there.0 in (has.0, (has.1, there.1)) | inr same ↦ absurd cc ];
        };
      }

  -- ---- between the calls of a change

  pub moment-shown : IsMidMoment old done layout made objects
  moment-shown = record { whole = at.whole; laid = at.laid; sound = λ i t no h. at.sound i t h; all = λ t no h. at.all t h }

  -- so many calls that set a port leave all but the port as it was
  pub port-shown : (u v : Thing) (i : Rid) (calls : List (Call Rid)) → layout i u → IsPortName (name_of u) → SetsThing i 0 calls layout u v → IsMidMoment old done (with_changed layout i v) made (after_calls made objects calls)
  port-shown u v i calls there port sets =
      let is = sets_named i 0 calls layout objects u v at.laid there sets capacities made in record {
        whole = subst (λ m. IsWhole m (after_calls made objects calls)) is.none_made (whole-after_calls capacities made objects calls at.whole is.legal);
        laid = is.laid;
        sound = λ j w no h. elim h [ inl old ↦ at.sound j w old.0 | inr same ↦ absurd (no (subst IsPortName (is.named ∙ ap name_of (sym same.1)) port)) ];
        all = λ w no h. let has = at.all w h in (has.0, inl (has.1, λ same. no (subst IsPortName (is.named ∙ sym same) port)));
      }

pub sets-front : (i : Rid) (place : ℕ) (cs ds : List (Call Rid)) (layout : Layout Rid) (u t : Thing) → SetsThing i place (cs ++ ds) layout u t → (v : Thing) × SetsThing i place cs layout u v
sets-front i place [] ds layout u t is = (u, refl)
sets-front i place (c ∷ cs) ds layout u t is =
    let rest = sets-front i (attr_place is.1 + 1) cs ds (with_changed layout i is.2) is.2 t is.7 in
    (rest.0, (is.0, is.1, is.2, is.3, is.4, is.5, is.6, rest.1))
