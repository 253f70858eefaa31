-- what is known of a view that is tied to a whole chip
use Rattle.std.proofs.Common.{◌≡◌, ℕ, ◌<◌, ◌≤◌, Bool, true, false, Option, None, Some, option_map, refl, sym, ap, ◌∙◌, arith}
use Rattle.std.specs.BTreeMap.{is_at}
use Rattle.std.specs.Map.{lookup}
use Rattle.std.proofs.lemmas.Bool.{false≢true}
use Rattle.std.proofs.lemmas.Option.{none-some, same_Some}
use Rattle.swss_types.specs.declared.address.Ip.{Ip}
use Rattle.swss_types.specs.declared.address.Prefix.{Prefix}
use Rattle.sai_types.specs.declared.ids.Rid.{Rid}
use Rattle.sai_types.specs.declared.ids.Vid.{Vid}
use Rattle.sai_types.specs.declared.body.Body.{Body}
use Rattle.sai_types.specs.declared.body.Entry.{Entry}
use Rattle.sai_types.specs.declared.body.Entry.TheVariants as entry
use Rattle.sai_types.specs.After.{has_id}
use Rattle.sai_types.specs.Alike.{IsIn}
use Rattle.sai_types.specs.Made.{IsWhole}
use Rattle.sai_types.specs.Objects.{body_at}
use Rattle.chip_layout.specs.Renamed.{entry_renamed}
use Rattle.chip_layout.proofs.Distinct.{one-of}
use Rattle.asic_view.specs.declared.object.ViewObject.{ViewObject}
use Rattle.asic_view.specs.View.{ViewObjects, entry_at, rid_at, rid_in, shown_by, vid_cmp}
use Rattle.asic_view.proofs.Keeping.{found-key, in-all, in-key}
use Rattle.asic_view.proofs.Shown.{shown_body, shown_entry}
use Rattle.syncd_core.specs.Tied.{rid_or_none, tie_of}
use Rattle.apply_laws.specs.Named.{InBody, InEntry, InRouter}
use Rattle.apply_laws.specs.Ties.{AreTied, HasTie, IsTie, IsTied}
use Rattle.apply_laws.proofs.Tying.Shown.{IsShown, Item, body-shown, entry-id, found-shown, in-entry, more-body, shown-from, shown-there}

tie_by : (made : ℕ) (id : Bool) (o : Option Rid) → IsTie made id o → id ≡ true → (r : Rid) × (o ≡ Some r) × (0 < r.0) × (r.0 ≤ made)
tie_by made true (Some r) h is = (r, refl, h.0, h.1)
tie_by made true None h is = absurd h
tie_by made false o h is = absurd (false≢true is)

id_by : (made : ℕ) (id : Bool) (o : Option Rid) (r : Rid) → IsTie made id o → o ≡ Some r → (id ≡ true) × (0 < r.0) × (r.0 ≤ made)
id_by made true (Some s) r h is =
    let same : s ≡ r = cc is in
    let number : s.0 ≡ r.0 = ap (λ (x : Rid). x.0) same in
    let some = h.0 in
    let most = h.1 in (refl, omega (arith, some, number), omega (arith, most, number))
id_by made true None r h is = absurd h
id_by made false (Some s) r h is = absurd h
id_by made false None r h is = absurd (none-some r is)

pub none-by : (made : ℕ) (id : Bool) (o : Option Rid) → IsTie made id o → id ≡ false → o ≡ None
none-by made false None h is = refl
none-by made false (Some r) h is = absurd h
none-by made true o h is = absurd (false≢true (sym is))

rid_by : (o : Option Rid) (r : Rid) → rid_or_none o ≡ r → 0 < r.0 → o ≡ Some r
rid_by (Some s) r h some = ap Some h
rid_by None r h some = let number : 0 ≡ r.0 = ap (λ (x : Rid). x.0) h in absurd (omega (arith, number, some))

-- ---- the ties of a view

module _ (view : ViewObjects) (made : ℕ) (tied : AreTied view made (shown_by (tie_of view) view)) where
  abbrev t : Vid → Rid
  t = tie_of view

  pub rid-is : (x : Item) → IsIn x view → rid_at view x.0 ≡ x.1.rid
  rid-is x h = ap rid_in (found-key view x tied.rising h)

  -- an object whose kind has an identifier is tied
  pub own-tie : (x : Item) → IsIn x view → has_id x.1.body ≡ true → (r : Rid) × (rid_at view x.0 ≡ Some r) × (0 < r.0) × (r.0 ≤ made)
  own-tie x h id = let tie = tie_by made (has_id x.1.body) x.1.rid (in-all (HasTie made) view x tied.ties h) id in (tie.0, rid-is x h ∙ tie.1, tie.2, tie.3)

  -- and no other
  pub no-tie : (x : Item) → IsIn x view → has_id x.1.body ≡ false → rid_at view x.0 ≡ None
  no-tie x h id = rid-is x h ∙ none-by made (has_id x.1.body) x.1.rid (in-all (HasTie made) view x tied.ties h) id

  -- what is tied is the identifier of such an object
  pub is-own : (v : Vid) (r : Rid) → rid_at view v ≡ Some r → (o : ViewObject) × IsIn (v, o) view × (has_id o.body ≡ true) × (0 < r.0) × (r.0 ≤ made)
  is-own v r h = by (lookup (is_at (vid_cmp v)) view) refl h
    where
      by : (o : Option ViewObject) → lookup (is_at (vid_cmp v)) view ≡ o → rid_in o ≡ Some r → (o : ViewObject) × IsIn (v, o) view × (has_id o.body ≡ true) × (0 < r.0) × (r.0 ≤ made)
      by None at is = absurd (none-some r is)
      by (Some o) at is =
          let among = in-key view v o at in
          let of = id_by made (has_id o.body) o.rid r (in-all (HasTie made) view (v, o) tied.ties among) is in
          (o, among, of.0, of.1, of.2)

  pub tied-at : (v : Vid) (r : Rid) → t v ≡ r → 0 < r.0 → rid_at view v ≡ Some r
  tied-at v r h some = rid_by (rid_at view v) r h some

  own_entry : (v : Vid) (o : ViewObject) (r : Rid) → has_id o.body ≡ true → rid_at view v ≡ Some r → shown_entry t (v, o) ≡ entry.Oid r
  own_entry v o r id is = ap (entry_renamed t) (entry-id v o.body id) ∙ ap (λ z. entry.Oid (rid_or_none z)) is

  -- no two are tied to one
  pub tied-once : (v w : Vid) (r : Rid) → rid_at view v ≡ Some r → rid_at view w ≡ Some r → v ≡ w
  tied-once v w r h g =
      let x = is-own v r h in
      let y = is-own w r g in
      ap (λ (z : Item). z.0) (one-of (shown_entry t) view (v, x.0) (w, y.0) tied.once x.1 y.1 (own_entry v x.0 r x.2 h ∙ sym (own_entry w y.0 r y.2 g)))

  pub shown-tied : (v : Vid) → IsShown t view v → IsTied view v
  shown-tied v (x, among, id, same) = let own = own-tie x among id in (own.0, tied-at v own.0 (same ∙ ap rid_or_none own.1) own.2)

  neigh_of : (r : Rid) (ip : Ip) (e : Entry Vid) → entry.Neigh r ip ≡ entry_renamed t e → InEntry (IsTied view) e → (w : Vid) × IsTied view w × (r ≡ t w)
  neigh_of r ip (entry.Neigh w other) h known = (w, known, cc)
  neigh_of r ip (entry.Oid w) h known = absurd cc
  neigh_of r ip (entry.Own v other) h known = absurd cc
  neigh_of r ip (entry.Route v prefix) h known = absurd cc

  own_of : (r : Option Rid) (ip : Ip) (e : Entry Vid) → entry.Own r ip ≡ entry_renamed t e → InEntry (IsTied view) e → (w : Option Vid) × InRouter (IsTied view) w × (r ≡ option_map t w)
  own_of r ip (entry.Own w other) h known = (w, known, cc)
  own_of r ip (entry.Oid w) h known = absurd cc
  own_of r ip (entry.Neigh w other) h known = absurd cc
  own_of r ip (entry.Route w prefix) h known = absurd cc

  route_of : (r : Option Rid) (p : Prefix) (e : Entry Vid) → entry.Route r p ≡ entry_renamed t e → InEntry (IsTied view) e → (w : Option Vid) × InRouter (IsTied view) w × (r ≡ option_map t w)
  route_of r p (entry.Route w other) h known = (w, known, cc)
  route_of r p (entry.Oid w) h known = absurd cc
  route_of r p (entry.Own w ip) h known = absurd cc
  route_of r p (entry.Neigh w ip) h known = absurd cc

  -- what comes to the same as what is tied is tied
  same_tied : (v w : Vid) → IsTied view w → t v ≡ t w → IsTied view v
  same_tied v w known same = let own = is-own w known.0 known.1 in (known.0, tied-at v known.0 (same ∙ ap rid_or_none known.1) own.3)

  router_tied : (v w : Option Vid) → InRouter (IsTied view) w → option_map t v ≡ option_map t w → InRouter (IsTied view) v
  router_tied None w known same = tt
  router_tied (Some v) (Some w) known same = same_tied v w known (same_Some (t v) (t w) same)
  router_tied (Some v) None known same = absurd cc

  module _ (whole : IsWhole made (shown_by (tie_of view) view)) where
    -- each identifier that an object names is tied
    pub body-tied : (x : Item) → IsIn x view → InBody (IsTied view) x.1.body
    body-tied x h = more-body (IsShown t view) (IsTied view) shown-tied x.1.body (body-shown t view x.1.body (whole.refer.each (shown_entry t x) (shown_body t x) (shown-there t view x tied.once h)))

    pub entry-tied : (x : Item) → IsIn x view → InEntry (IsTied view) (entry_at x.0 x.1.body)
    entry-tied x h = in-entry (IsTied view) x.0 x.1.body (λ id. let own = own-tie x h id in (own.0, own.1)) (body-tied x h)

    -- and each that an entry names, under which there is an object on the chip
    pub found-tied : (e : Entry Vid) (d : Body Rid) → body_at (shown_by (tie_of view) view) (entry_renamed (tie_of view) e) ≡ Some d → InEntry (IsTied view) e
    found-tied (entry.Oid v) d found = shown-tied v (found-shown t view v d found)
    found-tied (entry.Neigh v ip) d found =
        let from = shown-from t view (entry.Neigh (t v) ip) d found in
        let of = neigh_of (t v) ip (entry_at from.0.0 from.0.1.body) from.2 (entry-tied from.0 from.1) in
        same_tied v of.0 of.1 of.2
    found-tied (entry.Own v ip) d found =
        let from = shown-from t view (entry.Own (option_map t v) ip) d found in
        let of = own_of (option_map t v) ip (entry_at from.0.0 from.0.1.body) from.2 (entry-tied from.0 from.1) in
        router_tied v of.0 of.1 of.2
    found-tied (entry.Route v prefix) d found =
        let from = shown-from t view (entry.Route (option_map t v) prefix) d found in
        let of = route_of (option_map t v) prefix (entry_at from.0.0 from.0.1.body) from.2 (entry-tied from.0 from.1) in
        router_tied v of.0 of.1 of.2
