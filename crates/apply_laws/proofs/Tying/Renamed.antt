-- the chip's objects are those of the view by number, with each identifier renamed: so what is legal on the one is legal on the other
use Rattle.std.proofs.Common.{◌≡◌, ℕ, ◌+◌, List, map, Option, None, Some, option_map, refl, sym, ap, ap₂, ◌∙◌, arith}
use Rattle.std.specs.Cmp.{both_ways}
use Rattle.std.proofs.lemmas.Option.{same_Some}
use Rattle.sai_types.specs.declared.ids.Rid.{Rid}
use Rattle.sai_types.specs.declared.ids.Vid.{Vid}
use Rattle.sai_types.specs.declared.body.Attr.{Attr}
use Rattle.sai_types.specs.declared.body.Attr.TheVariants as attr
use Rattle.sai_types.specs.declared.body.Body.{Body}
use Rattle.sai_types.specs.declared.body.Body.TheVariants as body
use Rattle.sai_types.specs.declared.body.Call.{Call}
use Rattle.sai_types.specs.declared.body.Call.TheVariants as call
use Rattle.sai_types.specs.declared.body.Entry.{Entry}
use Rattle.sai_types.specs.declared.body.Entry.TheVariants as entry
use Rattle.sai_types.specs.declared.body.RifOn.{RifOn}
use Rattle.sai_types.specs.declared.body.RifOn.TheVariants as on
use Rattle.sai_types.specs.declared.body.To.{To}
use Rattle.sai_types.specs.declared.body.To.TheVariants as to
use Rattle.sai_types.specs.Alike.{IsIn}
use Rattle.sai_types.specs.Made.{IsWhole, same_entry}
use Rattle.sai_types.specs.Objects.{body_at}
use Rattle.sai_types.specs.Refusal.{IsLegal, refusal_of, remove_refusal}
use Rattle.sai_types.proofs.Exact.{entry-exact}
use Rattle.sai_types.proofs.Found.{same-refl}
use Rattle.sai_types.proofs.Legal.{legal-create, legal-set}
use Rattle.sai_types.proofs.Membership.{all-in}
use Rattle.chip_layout.specs.Counted.{AreDistinct}
use Rattle.chip_layout.specs.Renamed.{AreRenamed, attr_renamed, body_renamed, call_renamed, entry_renamed, on_renamed, to_renamed}
use Rattle.chip_layout.proofs.Legality.{neighs, oids, refusal-renamed}
use Rattle.chip_layout.proofs.Distinct.{distinct-by}
use Rattle.asic_view.specs.View.{IsLegalWith, ViewObjects, as_chip, as_rid, as_vid, entry_at, is_named, rid_at, same_key, shown_by}
use Rattle.asic_view.proofs.Keeping.{key-refl}
use Rattle.asic_view.proofs.Naming.{key-exact}
use Rattle.asic_view.proofs.Shown.{Tells, shown_body, shown_entry, sorted-shown}
use Rattle.syncd_core.specs.Tied.{rid_or_none, tie_of}
use Rattle.apply_laws.specs.Named.{InAttr, InBody, InCall, InEntry}
use Rattle.apply_laws.specs.Ties.{AreTied, IsTied}
use Rattle.apply_laws.proofs.Tying.Shown.{IsSame, IsShown, Item, attr-shown, body-shown, more-attr, more-body, more-entry, same-attr, same-body, same-entry, shown-from, shown-there}
use Rattle.apply_laws.proofs.Tying.Tied.{body-tied, entry-tied, found-tied, is-own, shown-tied, tied-once}

-- ---- one renaming after another

module _ (h : Vid → Rid) (g : Rid → Rid) where
  on_twice : (o : RifOn Vid) → on_renamed g (on_renamed h o) ≡ on_renamed (λ v. g (h v)) o
  on_twice (on.Port i) = refl
  on_twice (on.Vlan i) = refl

  to_twice : (x : To Vid) → to_renamed g (to_renamed h x) ≡ to_renamed (λ v. g (h v)) x
  to_twice to.Drop = refl
  to_twice (to.Rif i) = refl
  to_twice (to.NextHop i) = refl
  to_twice (to.Group i) = refl

  router_twice : (r : Option Vid) → option_map g (option_map h r) ≡ option_map (λ v. g (h v)) r
  router_twice None = refl
  router_twice (Some i) = refl

  pub body-twice : (b : Body Vid) → body_renamed g (body_renamed h b) ≡ body_renamed (λ v. g (h v)) b
  body-twice (body.Rif r o) = ap₂ (λ x y. body.Rif x y) (router_twice r) (on_twice o)
  body-twice (body.OwnAddress r ip) = ap (λ x. body.OwnAddress x ip) (router_twice r)
  body-twice (body.Route r prefix x) = ap₂ (λ z y. body.Route z prefix y) (router_twice r) (to_twice x)
  body-twice (body.Port lanes speed mtu up) = refl
  body-twice _ = refl

  pub entry-twice : (e : Entry Vid) → entry_renamed g (entry_renamed h e) ≡ entry_renamed (λ v. g (h v)) e
  entry-twice (entry.Oid i) = refl
  entry-twice (entry.Own r ip) = ap (λ x. entry.Own x ip) (router_twice r)
  entry-twice (entry.Neigh i ip) = refl
  entry-twice (entry.Route r prefix) = ap (λ x. entry.Route x prefix) (router_twice r)

  attr_twice : (a : Attr Vid) → attr_renamed g (attr_renamed h a) ≡ attr_renamed (λ v. g (h v)) a
  attr_twice (attr.To x) = ap attr.To (to_twice x)
  attr_twice (attr.Speed s) = refl
  attr_twice (attr.Mtu m) = refl
  attr_twice (attr.Up x) = refl
  attr_twice (attr.Tagging x) = refl
  attr_twice (attr.Mac m) = refl

-- ---- a number for each identifier, also for those that are not tied: they get numbers beyond all ties

abbrev by_tie : ℕ → Rid → Option Rid → Rid
by_tie made i None = record { 0 = made + 1 + i.0 }
by_tie made i (Some r) = r

removed_was_there : (view : ViewObjects) (e : Entry Rid) (o : Option (Body Rid)) → remove_refusal (shown_by (tie_of view) view) e o ≡ None → (d : Body Rid) × (o ≡ Some d)
removed_was_there view e None h = absurd cc
removed_was_there view e (Some d) h = (d, refl)

module _ (view : ViewObjects) (made : ℕ) (tied : AreTied view made (shown_by (tie_of view) view)) (whole : IsWhole made (shown_by (tie_of view) view)) where
  abbrev t : Vid → Rid
  t = tie_of view

  abbrev number : Rid → Rid
  number i = by_tie made i (rid_at view (as_vid i))

  abbrev all : Vid → Rid
  all v = number (as_rid v)

  all_is : (v : Vid) → IsTied view v → IsSame all t v
  all_is v (r, is) = ap (by_tie made (as_rid v)) is ∙ sym (ap rid_or_none is)

  number_one : (i j : Rid) → number i ≡ number j → i ≡ j
  number_one i j same = by (rid_at view (as_vid i)) (rid_at view (as_vid j)) refl refl same
    where
      back : as_vid i ≡ as_vid j → i ≡ j
      back h = ap as_rid h

      by : (o p : Option Rid) → rid_at view (as_vid i) ≡ o → rid_at view (as_vid j) ≡ p → by_tie made i o ≡ by_tie made j p → i ≡ j
      by (Some r) (Some s) at there h = back (tied-once view made tied (as_vid i) (as_vid j) s (at ∙ ap Some h) there)
      by None None at there h =
          let numbers : made + 1 + i.0 ≡ made + 1 + j.0 = ap (λ (x : Rid). x.0) h in
          let is : i.0 ≡ j.0 = omega (arith, numbers) in
          let rid : ℕ → Rid = λ n. record { 0 = n } in ap rid is
      by (Some r) None at there h =
          let most = (is-own view made tied (as_vid i) r at).4 in
          let numbers : r.0 ≡ made + 1 + j.0 = ap (λ (x : Rid). x.0) h in absurd (omega (arith, most, numbers))
      by None (Some s) at there h =
          let most = (is-own view made tied (as_vid j) s there).4 in
          let numbers : made + 1 + i.0 ≡ s.0 = ap (λ (x : Rid). x.0) h in absurd (omega (arith, most, numbers))

  all_one : (v w : Vid) → all v ≡ all w → v ≡ w
  all_one v w h = ap as_vid (number_one (as_rid v) (as_rid w) h)

  router_one : (v w : Option Vid) → option_map all v ≡ option_map all w → v ≡ w
  router_one None None h = refl
  router_one (Some i) (Some j) h = ap Some (all_one i j (same_Some (all i) (all j) h))
  router_one None (Some j) h = absurd cc
  router_one (Some i) None h = absurd cc

  entry_one : (e d : Entry Vid) → entry_renamed all e ≡ entry_renamed all d → e ≡ d
  entry_one (entry.Oid i) (entry.Oid j) h = ap entry.Oid (all_one i j (oids (all i) (all j) h))
  entry_one (entry.Own v a) (entry.Own w b) h = let routers : option_map all v ≡ option_map all w = cc h in let same : a ≡ b = cc h in ap₂ (λ x y. entry.Own x y) (router_one v w routers) same
  entry_one (entry.Neigh r a) (entry.Neigh s b) h = let parts = neighs (all r) (all s) a b h in ap₂ (λ x y. entry.Neigh x y) (all_one r s parts.0) parts.1
  entry_one (entry.Route v p) (entry.Route w q) h = let routers : option_map all v ≡ option_map all w = cc h in let same : p ≡ q = cc h in ap₂ (λ x y. entry.Route x y) (router_one v w routers) same
  entry_one _ _ h = absurd cc

  entry_is : (e : Entry Vid) → InEntry (IsTied view) e → entry_renamed number (entry_renamed as_rid e) ≡ entry_renamed t e
  entry_is e h = entry-twice as_rid number e ∙ same-entry all t e (more-entry (IsTied view) (IsSame all t) all_is e h)

  body_is : (b : Body Vid) → InBody (IsTied view) b → body_renamed number (body_renamed as_rid b) ≡ body_renamed t b
  body_is b h = body-twice as_rid number b ∙ same-body all t b (more-body (IsTied view) (IsSame all t) all_is b h)

  attr_is : (a : Attr Vid) → InAttr (IsTied view) a → attr_renamed number (attr_renamed as_rid a) ≡ attr_renamed t a
  attr_is a h = attr_twice as_rid number a ∙ same-attr all t a (more-attr (IsTied view) (IsSame all t) all_is a h)

  -- tied entries are told apart on the chip as in the view
  pub told-tied : (e d : Entry Vid) → InEntry (IsTied view) e → InEntry (IsTied view) d → same_entry (entry_renamed t e) (entry_renamed t d) ≡ same_key e d
  told-tied e d h g =
      let one = same-entry all t e (more-entry (IsTied view) (IsSame all t) all_is e h) in
      let two = same-entry all t d (more-entry (IsTied view) (IsSame all t) all_is d g) in
      both_ways (same_entry (entry_renamed t e) (entry_renamed t d)) (same_key e d)
      (λ same. ap (same_key e) (sym (entry_one e d (one ∙ entry-exact (entry_renamed t e) (entry_renamed t d) same ∙ sym two))) ∙ key-refl e)
      (λ same. ap (λ z. same_entry (entry_renamed t e) (entry_renamed t z)) (sym (key-exact e d same)) ∙ same-refl (entry_renamed t e))

  pub tells-tied : (e : Entry Vid) → InEntry (IsTied view) e → Tells (tie_of view) e view
  tells-tied e known = all-in (λ x. same_entry (entry_renamed t e) (shown_entry t x) ≡ is_named e x) view (λ x h. told-tied e (entry_at x.0 x.1.body) known (entry-tied view made tied whole x h))

  -- ---- the chip is the view by number, renamed

  shown_is : (x : Item) → IsIn x view → (entry_renamed number (shown_entry as_rid x) ≡ shown_entry t x) × (body_renamed number (shown_body as_rid x) ≡ shown_body t x)
  shown_is x h = (entry_is (entry_at x.0 x.1.body) (entry-tied view made tied whole x h), body_is x.1.body (body-tied view made tied whole x h))

  -- by number no two objects have one entry
  pub once-number : AreDistinct (map (shown_entry as_rid) view)
  once-number = distinct-by (shown_entry t) (shown_entry as_rid) view (λ x y h g same. sym (shown_is x h).0 ∙ ap (entry_renamed number) same ∙ (shown_is y g).0) tied.once

  are_renamed : AreRenamed number (as_chip view) (shown_by t view)
  are_renamed = record {
    one = number_one;
    each = λ e b found.
        let from = shown-from as_rid view e b found in
        let is = shown_is from.0 from.1 in
        ap (body_at (shown_by t view)) (ap (entry_renamed number) from.2 ∙ is.0) ∙ shown-there t view from.0 tied.once from.1 ∙ ap Some (sym (ap (body_renamed number) from.3 ∙ is.1));
    only = λ e b found.
        let from = shown-from t view e b found in
        let is = shown_is from.0 from.1 in
        (shown_entry as_rid from.0, shown_body as_rid from.0, shown-there as_rid view from.0 once-number from.1, from.2 ∙ sym is.0, from.3 ∙ sym is.1);
  }

  -- ---- what a call names that is legal on the chip is tied

  module _ (capacities : List ℕ) where
    pub created-tied : (b : Body Vid) → IsLegal capacities (shown_by (tie_of view) view) (call.Create (body_renamed (tie_of view) b)) → InBody (IsTied view) b
    created-tied b legal = more-body (IsShown t view) (IsTied view) (shown-tied view made tied) b (body-shown t view b (legal-create capacities (shown_by t view) (body_renamed t b) legal).0)

    pub set-tied : (e : Entry Vid) (a : Attr Vid) → IsLegal capacities (shown_by (tie_of view) view) (call.Set (entry_renamed (tie_of view) e) (attr_renamed (tie_of view) a)) → InEntry (IsTied view) e × InAttr (IsTied view) a
    set-tied e a legal =
        let found = legal-set (shown_by t view) (attr_renamed t a) (body_at (shown_by t view) (entry_renamed t e)) legal in
        (found-tied view made tied whole e found.0 found.1, more-attr (IsShown t view) (IsTied view) (shown-tied view made tied) a (attr-shown t view a found.2))

    pub removed-tied : (e : Entry Vid) → IsLegal capacities (shown_by (tie_of view) view) (call.Remove (entry_renamed (tie_of view) e)) → InEntry (IsTied view) e
    removed-tied e legal =
        let found = removed_was_there view (entry_renamed t e) (body_at (shown_by t view) (entry_renamed t e)) legal in
        found-tied view made tied whole e found.0 found.1

    pub call-tied : (c : Call Vid) → IsLegal capacities (shown_by (tie_of view) view) (call_renamed (tie_of view) c) → InCall (IsTied view) c
    call-tied (call.Create b) legal = created-tied b legal
    call-tied (call.Set e a) legal = set-tied e a legal
    call-tied (call.Remove e) legal = removed-tied e legal

    call_is : (c : Call Vid) → IsLegal capacities (shown_by (tie_of view) view) (call_renamed (tie_of view) c) → call_renamed number (call_renamed as_rid c) ≡ call_renamed t c
    call_is (call.Create b) legal = ap call.Create (body_is b (created-tied b legal))
    call_is (call.Set e a) legal = let known = set-tied e a legal in ap₂ (λ x y. call.Set x y) (entry_is e known.0) (attr_is a known.1)
    call_is (call.Remove e) legal = ap call.Remove (entry_is e (removed-tied e legal))

    pub legal-with : (c : Call Vid) → IsLegal capacities (shown_by (tie_of view) view) (call_renamed (tie_of view) c) → IsLegalWith capacities view c
    legal-with c legal =
        sym (refusal-renamed number (as_chip view) (shown_by t view) are_renamed (sorted-shown as_rid view) (sorted-shown t view) capacities (call_renamed as_rid c))
        ∙ ap (λ z. refusal_of capacities (shown_by t view) z) (call_is c legal)
        ∙ legal
