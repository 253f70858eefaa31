-- the objects of a view as those of a chip, by whatever ties: what is found there, and by which identifiers
use Rattle.std.proofs.Common.{◌≡◌, inl, inr, Bool, true, false, cond, List, [], ◌∷◌, map, Option, None, Some, option_map, refl, sym, ap, ap₂, ◌∙◌, ◌&&◌}
use Rattle.std.specs.BTreeMap.{insert_entry}
use Rattle.std.specs.List.{list_all}
use Rattle.std.proofs.lemmas.Bool.{and_parts, false≢true}
use Rattle.sai_types.specs.declared.ids.Rid.{Rid}
use Rattle.sai_types.specs.declared.ids.Vid.{Vid}
use Rattle.sai_types.specs.declared.kind.Kind.{Kind}
use Rattle.sai_types.specs.declared.kind.Kind.TheVariants as kind
use Rattle.sai_types.specs.declared.body.Attr.{Attr}
use Rattle.sai_types.specs.declared.body.Attr.TheVariants as attr
use Rattle.sai_types.specs.declared.body.Body.{Body}
use Rattle.sai_types.specs.declared.body.Body.TheVariants as body
use Rattle.sai_types.specs.declared.body.Entry.{Entry}
use Rattle.sai_types.specs.declared.body.Entry.TheVariants as entry
use Rattle.sai_types.specs.declared.body.RifOn.{RifOn}
use Rattle.sai_types.specs.declared.body.RifOn.TheVariants as on
use Rattle.sai_types.specs.declared.body.To.{To}
use Rattle.sai_types.specs.declared.body.To.TheVariants as to
use Rattle.sai_types.specs.After.{has_id}
use Rattle.sai_types.specs.Alike.{IsIn}
use Rattle.sai_types.specs.Made.{same_entry}
use Rattle.sai_types.specs.Objects.{body_at, entry_cmp, is_kind_of}
use Rattle.sai_types.specs.References.{Reference, attr_refers_well, base_reference, beside_router, refers_well, stands, target_references}
use Rattle.sai_types.proofs.Exact.{entry-exact}
use Rattle.sai_types.proofs.Found.{body_at-insert, same-refl}
use Rattle.chip_layout.specs.Counted.{AreDistinct}
use Rattle.chip_layout.specs.Renamed.{attr_renamed, body_renamed, entry_renamed, on_renamed, to_renamed}
use Rattle.asic_view.specs.declared.object.ViewObject.{ViewObject}
use Rattle.asic_view.specs.View.{ViewObjects, entry_at, shown_by}
use Rattle.asic_view.proofs.Shown.{shown_body, shown_entry}
use Rattle.apply_laws.specs.Named.{InAttr, InBody, InEntry, InOn, InRouter, InTo}
use Rattle.apply_laws.proofs.Tying.Lists.{none-behind}

abbrev pub Item : Type 0
Item = Vid × ViewObject

-- ---- the identifiers that bodies, attributes and entries name

module _ (P Q : Vid → Type 0) (f : (v : Vid) → P v → Q v) where
  more-on : (o : RifOn Vid) → InOn P o → InOn Q o
  more-on (on.Port i) h = f i h
  more-on (on.Vlan i) h = f i h

  more-to : (t : To Vid) → InTo P t → InTo Q t
  more-to to.Drop h = tt
  more-to (to.Rif i) h = f i h
  more-to (to.NextHop i) h = f i h
  more-to (to.Group i) h = f i h

  more-router : (r : Option Vid) → InRouter P r → InRouter Q r
  more-router None h = tt
  more-router (Some i) h = f i h

  pub more-body : (b : Body Vid) → InBody P b → InBody Q b
  more-body (body.BridgePort i) h = f i h
  more-body (body.VlanMember i j tagging) h = (f i h.0, f j h.1)
  more-body (body.Rif r o) h = (more-router r h.0, more-on o h.1)
  more-body (body.OwnAddress r ip) h = more-router r h
  more-body (body.Neighbor i ip mac) h = f i h
  more-body (body.NextHop i ip) h = f i h
  more-body (body.GroupMember i j weight) h = (f i h.0, f j h.1)
  more-body (body.Route r prefix t) h = (more-router r h.0, more-to t h.1)
  more-body (body.Port lanes speed mtu up) h = tt
  more-body _ h = tt

  pub more-attr : (a : Attr Vid) → InAttr P a → InAttr Q a
  more-attr (attr.To t) h = more-to t h
  more-attr _ h = tt

  pub more-entry : (e : Entry Vid) → InEntry P e → InEntry Q e
  more-entry (entry.Oid i) h = f i h
  more-entry (entry.Own r ip) h = more-router r h
  more-entry (entry.Neigh i ip) h = f i h
  more-entry (entry.Route r prefix) h = more-router r h

pub entry-id : (v : Vid) (b : Body Vid) → has_id b ≡ true → entry_at v b ≡ entry.Oid v
entry-id v (body.OwnAddress r ip) h = absurd (false≢true h)
entry-id v (body.Neighbor rif ip mac) h = absurd (false≢true h)
entry-id v (body.Route r prefix t) h = absurd (false≢true h)
entry-id v _ h = refl

-- the entry of an object names its own identifier, where its kind has one, or those of its key
pub in-entry : (P : Vid → Type 0) (v : Vid) (b : Body Vid) → (has_id b ≡ true → P v) → InBody P b → InEntry P (entry_at v b)
in-entry P v (body.OwnAddress r ip) own h = h
in-entry P v (body.Neighbor rif ip mac) own h = h
in-entry P v (body.Route r prefix t) own h = h.0
in-entry P v (body.Port lanes speed mtu up) own h = own refl
in-entry P v _ own h = own refl

-- ---- by ties that say the same of what is named

module _ (s t : Vid → Rid) where
  abbrev pub IsSame : Vid → Type 0
  IsSame v = s v ≡ t v

  same_on : (o : RifOn Vid) → InOn IsSame o → on_renamed s o ≡ on_renamed t o
  same_on (on.Port i) h = ap on.Port h
  same_on (on.Vlan i) h = ap on.Vlan h

  same-to : (x : To Vid) → InTo IsSame x → to_renamed s x ≡ to_renamed t x
  same-to to.Drop h = refl
  same-to (to.Rif i) h = ap to.Rif h
  same-to (to.NextHop i) h = ap to.NextHop h
  same-to (to.Group i) h = ap to.Group h

  same_router : (r : Option Vid) → InRouter IsSame r → option_map s r ≡ option_map t r
  same_router None h = refl
  same_router (Some i) h = ap Some h

  pub same-body : (b : Body Vid) → InBody IsSame b → body_renamed s b ≡ body_renamed t b
  same-body (body.BridgePort i) h = ap body.BridgePort h
  same-body (body.VlanMember i j tagging) h = ap₂ (λ x y. body.VlanMember x y tagging) h.0 h.1
  same-body (body.Rif r o) h = ap₂ (λ x y. body.Rif x y) (same_router r h.0) (same_on o h.1)
  same-body (body.Neighbor i ip mac) h = ap (λ x. body.Neighbor x ip mac) h
  same-body (body.NextHop i ip) h = ap (λ x. body.NextHop x ip) h
  same-body (body.GroupMember i j weight) h = ap₂ (λ x y. body.GroupMember x y weight) h.0 h.1
  same-body (body.Route r prefix x) h = ap₂ (λ z y. body.Route z prefix y) (same_router r h.0) (same-to x h.1)
  same-body (body.Port lanes speed mtu up) h = refl
  same-body (body.Vlan vlan) h = refl
  same-body (body.VirtualRouter label) h = refl
  same-body (body.OwnAddress r ip) h = ap (λ x. body.OwnAddress x ip) (same_router r h)
  same-body body.Group h = refl

  pub same-attr : (a : Attr Vid) → InAttr IsSame a → attr_renamed s a ≡ attr_renamed t a
  same-attr (attr.To x) h = ap attr.To (same-to x h)
  same-attr (attr.Speed x) h = refl
  same-attr (attr.Mtu x) h = refl
  same-attr (attr.Up x) h = refl
  same-attr (attr.Tagging x) h = refl
  same-attr (attr.Mac x) h = refl

  pub same-entry : (e : Entry Vid) → InEntry IsSame e → entry_renamed s e ≡ entry_renamed t e
  same-entry (entry.Oid i) h = ap entry.Oid h
  same-entry (entry.Own r ip) h = ap (λ x. entry.Own x ip) (same_router r h)
  same-entry (entry.Neigh i ip) h = ap (λ x. entry.Neigh x ip) h
  same-entry (entry.Route r prefix) h = ap (λ x. entry.Route x prefix) (same_router r h)

  pub same-shown : (os : ViewObjects) → ((x : Item) → IsIn x os → (shown_entry s x ≡ shown_entry t x) × (shown_body s x ≡ shown_body t x)) → shown_by s os ≡ shown_by t os
  same-shown [] same = refl
  same-shown (x ∷ xs) same =
      let here = same x (inl refl) in
      ap₂ (λ e b. insert_entry entry_cmp (shown_by s xs) e b) here.0 here.1
      ∙ ap (λ os. insert_entry entry_cmp os (shown_entry t x) (shown_body t x)) (same-shown xs (λ y h. same y (inr h)))

-- ---- what is found

module _ (t : Vid → Rid) where
  -- what is found there is an object's
  pub shown-from : (os : ViewObjects) (q : Entry Rid) (b : Body Rid) → body_at (shown_by t os) q ≡ Some b → (x : Item) × IsIn x os × (q ≡ shown_entry t x) × (b ≡ shown_body t x)
  shown-from [] q b found = absurd cc
  shown-from (y ∷ ys) q b found = by (same_entry q (shown_entry t y)) refl (sym (body_at-insert (shown_by t ys) (shown_entry t y) (shown_body t y) q) ∙ found) (shown-from ys q b)
    where
      by : (c : Bool) → same_entry q (shown_entry t y) ≡ c → cond c (Some (shown_body t y)) (body_at (shown_by t ys) q) ≡ Some b → (body_at (shown_by t ys) q ≡ Some b → (x : Item) × IsIn x ys × (q ≡ shown_entry t x) × (b ≡ shown_body t x)) → (x : Item) × IsIn x (y ∷ ys) × (q ≡ shown_entry t x) × (b ≡ shown_body t x)
      by true at h behind = (y, inl refl, entry-exact q (shown_entry t y) at, cc)
      by false at h behind = let rest = behind h in (rest.0, inr rest.1, rest.2, rest.3)

  pub shown-none : (os : ViewObjects) (q : Entry Rid) → ((x : Item) → IsIn x os → q ≡ shown_entry t x → ⊥) → body_at (shown_by t os) q ≡ None
  shown-none os q apart = by (body_at (shown_by t os) q) refl
    where
      by : (o : Option (Body Rid)) → body_at (shown_by t os) q ≡ o → o ≡ None
      by None at = refl
      by (Some b) at = let from = shown-from os q b at in absurd (apart from.0 from.1 from.2)

  -- and each object is found, where no two have one entry
  pub shown-there : (os : ViewObjects) (x : Item) → AreDistinct (map (shown_entry t) os) → IsIn x os → body_at (shown_by t os) (shown_entry t x) ≡ Some (shown_body t x)
  shown-there [] x d h = absurd h
  shown-there (y ∷ ys) x d (inl is) =
      body_at-insert (shown_by t ys) (shown_entry t y) (shown_body t y) (shown_entry t x)
      ∙ ap (λ c. cond c (Some (shown_body t y)) (body_at (shown_by t ys) (shown_entry t x))) (ap (λ (z : Item). same_entry (shown_entry t x) (shown_entry t z)) (sym is) ∙ same-refl (shown_entry t x))
      ∙ ap (λ (z : Item). Some (shown_body t z)) (sym is)
  shown-there (y ∷ ys) x d (inr h) = body_at-insert (shown_by t ys) (shown_entry t y) (shown_body t y) (shown_entry t x) ∙ by (same_entry (shown_entry t x) (shown_entry t y)) refl ∙ shown-there ys x d.1 h
    where
      by : (c : Bool) → same_entry (shown_entry t x) (shown_entry t y) ≡ c → cond c (Some (shown_body t y)) (body_at (shown_by t ys) (shown_entry t x)) ≡ body_at (shown_by t ys) (shown_entry t x)
      by true at = absurd (none-behind (shown_entry t) y ys x d h (sym (entry-exact (shown_entry t x) (shown_entry t y) at)))
      by false at = refl

  -- ---- what is named stands

  module _ (os : ViewObjects) where
    -- an identifier comes to that of an object whose kind has one
    abbrev pub IsShown : Vid → Type 0
    IsShown v = (x : Item) × IsIn x os × (has_id x.1.body ≡ true) × (t v ≡ t x.0)

    pub oid-of : (r : Rid) (w : Vid) (b : Body Vid) → entry.Oid r ≡ entry_renamed t (entry_at w b) → (has_id b ≡ true) × (r ≡ t w)
    oid-of r w (body.OwnAddress vr ip) h = absurd cc
    oid-of r w (body.Neighbor rif ip mac) h = absurd cc
    oid-of r w (body.Route vr prefix x) h = absurd cc
    oid-of r w (body.Port lanes speed mtu up) h = (refl, cc)
    oid-of r w (body.Vlan vlan) h = (refl, cc)
    oid-of r w (body.VirtualRouter label) h = (refl, cc)
    oid-of r w (body.BridgePort i) h = (refl, cc)
    oid-of r w (body.VlanMember i j tagging) h = (refl, cc)
    oid-of r w (body.Rif vr o) h = (refl, cc)
    oid-of r w (body.NextHop i ip) h = (refl, cc)
    oid-of r w body.Group h = (refl, cc)
    oid-of r w (body.GroupMember i j weight) h = (refl, cc)

    pub found-shown : (v : Vid) (d : Body Rid) → body_at (shown_by t os) (entry.Oid (t v)) ≡ Some d → IsShown v
    found-shown v d found =
        let from = shown-from os (entry.Oid (t v)) d found in
        let of = oid-of (t v) from.0.0 from.0.1.body from.2 in
        (from.0, from.1, of.0, of.1)

    kind_found : (k : Kind) (o : Option (Body Rid)) → is_kind_of k o ≡ true → (d : Body Rid) × (o ≡ Some d)
    kind_found k None h = absurd (false≢true h)
    kind_found k (Some d) h = (d, refl)

    at_kind : (k : Kind) (v : Vid) → stands (shown_by t os) (k, entry.Oid (t v)) ≡ true → IsShown v
    at_kind k v h = let found = kind_found k (body_at (shown_by t os) (entry.Oid (t v))) h in found-shown v found.0 found.1

    at_first : (k : Kind) (v : Vid) (more : Bool) → (stands (shown_by t os) (k, entry.Oid (t v)) && more) ≡ true → IsShown v
    at_first k v more h = at_kind k v (and_parts _ more h).0

    -- the virtual router stands, and what is named beside it
    router_shown : (r : Option Vid) (rs : List (Reference Rid)) → list_all (stands (shown_by t os)) (beside_router (option_map t r) rs) ≡ true → InRouter IsShown r × (list_all (stands (shown_by t os)) rs ≡ true)
    router_shown None rs h = (tt, h)
    router_shown (Some i) rs h = let parts = and_parts _ _ h in (at_kind kind.VirtualRouter i parts.0, parts.1)

    on_shown : (o : RifOn Vid) → list_all (stands (shown_by t os)) (base_reference (on_renamed t o) ∷ []) ≡ true → InOn IsShown o
    on_shown (on.Port i) h = at_first kind.Port i true h
    on_shown (on.Vlan i) h = at_first kind.Vlan i true h

    to_shown : (x : To Vid) → list_all (stands (shown_by t os)) (target_references (to_renamed t x)) ≡ true → InTo IsShown x
    to_shown to.Drop h = tt
    to_shown (to.Rif i) h = at_first kind.Rif i true h
    to_shown (to.NextHop i) h = at_first kind.NextHop i true h
    to_shown (to.Group i) h = at_first kind.Group i true h

    pub body-shown : (b : Body Vid) → refers_well (shown_by t os) (body_renamed t b) ≡ true → InBody IsShown b
    body-shown (body.BridgePort i) h = at_first kind.Port i true h
    body-shown (body.VlanMember i j tagging) h = let parts = and_parts _ _ h in (at_kind kind.Vlan i parts.0, at_first kind.BridgePort j true parts.1)
    body-shown (body.Rif r o) h = let parts = router_shown r (base_reference (on_renamed t o) ∷ []) h in (parts.0, on_shown o parts.1)
    body-shown (body.OwnAddress r ip) h = (router_shown r [] h).0
    body-shown (body.Neighbor i ip mac) h = at_first kind.Rif i true h
    body-shown (body.NextHop i ip) h = at_first kind.Rif i _ h
    body-shown (body.GroupMember i j weight) h = let parts = and_parts _ _ h in (at_kind kind.Group i parts.0, at_first kind.NextHop j true parts.1)
    body-shown (body.Route r prefix x) h = let parts = router_shown r (target_references (to_renamed t x)) h in (parts.0, to_shown x parts.1)
    body-shown (body.Port lanes speed mtu up) h = tt
    body-shown _ h = tt

    pub attr-shown : (a : Attr Vid) → attr_refers_well (shown_by t os) (attr_renamed t a) ≡ true → InAttr IsShown a
    attr-shown (attr.To x) h = to_shown x h
    attr-shown _ h = tt
