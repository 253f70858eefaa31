-- a view that is tied to a chip stands for the chip's things
use Rattle.std.proofs.Common.{◌≡◌, inl, inr, ℕ, ◌+◌, ◌≤◌, Bool, true, false, not, ◌&&◌, cond, List, [], ◌∷◌, map, Option, None, Some, option_map, refl, sym, ap, ap₂, ◌∙◌, subst, arith}
use Rattle.std.specs.Bool.{nat_le}
use Rattle.std.specs.Cmp.{both_ways}
use Rattle.std.specs.List.{list_any}
use Rattle.std.proofs.lemmas.Bool.{eq-eqb, false≢true}
use Rattle.std.proofs.lemmas.Option.{none-some}
use Rattle.sai_types.specs.declared.answer.ChipAnswer.{ChipAnswer}
use Rattle.sai_types.specs.declared.answer.ChipAnswer.TheVariants.{BadReference, Exists, Full}
use Rattle.sai_types.specs.declared.ids.Rid.{Rid}
use Rattle.sai_types.specs.declared.ids.Vid.{Vid}
use Rattle.sai_types.specs.declared.body.Body.{Body}
use Rattle.sai_types.specs.declared.body.Body.TheVariants as body
use Rattle.sai_types.specs.declared.body.Call.TheVariants as call
use Rattle.sai_types.specs.declared.body.Entry.TheVariants as entry
use Rattle.sai_types.specs.declared.body.RifOn.{RifOn}
use Rattle.sai_types.specs.declared.body.RifOn.TheVariants as on
use Rattle.sai_types.specs.declared.thing.Thing.{Thing}
use Rattle.sai_types.specs.After.{entry_of, has_id}
use Rattle.sai_types.specs.Alike.{IsIn}
use Rattle.sai_types.specs.Made.{IsWhole, same_entry}
use Rattle.sai_types.specs.Objects.{body_at, kind_of, used}
use Rattle.sai_types.specs.References.{refers_well}
use Rattle.sai_types.specs.Refusal.{capacity_of, clash, first_refusal, same_base, same_id, same_ip, same_prefix, same_router}
use Rattle.sai_types.proofs.Exact.{entry-exact, id-exact}
use Rattle.sai_types.proofs.Found.{same-refl}
use Rattle.sai_types.proofs.Membership.{all-in, in-map, map-in}
use Rattle.chip_layout.specs.Bodies.{is_numbered}
use Rattle.chip_layout.specs.Layout.{Has, IsLaidOut, has_number, listed}
use Rattle.chip_layout.specs.Renamed.{AreRenamed, body_renamed, entry_renamed, on_renamed, things_renamed}
use Rattle.chip_layout.proofs.Bodies.{kind-body}
use Rattle.chip_layout.proofs.Legality.{refusal-renamed}
use Rattle.chip_layout.proofs.Renaming.{renamed-laid}
use Rattle.chip_layout.proofs.Shapes.{laid-same}
use Rattle.chip_layout.proofs.Distinct.{one-of}
use Rattle.asic_view.specs.Things.{StandFor, by_number}
use Rattle.asic_view.specs.View.{ViewObjects, as_chip, as_rid, as_vid, entry_at, rid_at, shown_by}
use Rattle.asic_view.proofs.Naming.{entered-below}
use Rattle.asic_view.proofs.Shown.{shown_body, shown_entry, sorted-shown}
use Rattle.syncd_core.specs.Tied.{rid_or_none, tie_of}
use Rattle.apply_laws.specs.Standing.{AreThingsOf}
use Rattle.apply_laws.specs.Ties.{AreTied, IsTied}
use Rattle.apply_laws.proofs.Tying.Renamed.{body-twice, entry-twice, once-number}
use Rattle.apply_laws.proofs.Tying.Shown.{IsSame, Item, more-body, more-entry, oid-of, same-body, same-entry, shown-from, shown-there}
use Rattle.apply_laws.proofs.Tying.Tied.{body-tied, entry-tied, is-own, own-tie, rid-is, tied-once}

-- ---- what clashes, with identifiers renamed one to one

module _ (f : Rid → Rid) (one : (i j : Rid) → f i ≡ f j → i ≡ j) where
  id_same : (i j : Rid) → same_id (f i) (f j) ≡ same_id i j
  id_same i j =
      both_ways (same_id (f i) (f j)) (same_id i j)
      (λ h. eq-eqb i.0 j.0 (ap (λ (r : Rid). r.0) (one i j (id-exact (f i) (f j) h))))
      (λ h. eq-eqb (f i).0 (f j).0 (ap (λ (r : Rid). (f r).0) (id-exact i j h)))

  base_same : (a b : RifOn Rid) → same_base (on_renamed f a) (on_renamed f b) ≡ same_base a b
  base_same (on.Port a) (on.Port b) = id_same a b
  base_same (on.Vlan a) (on.Vlan b) = id_same a b
  base_same (on.Port a) (on.Vlan b) = refl
  base_same (on.Vlan a) (on.Port b) = refl

  router_same : (v w : Option Rid) → same_router (option_map f v) (option_map f w) ≡ same_router v w
  router_same None None = refl
  router_same None (Some j) = refl
  router_same (Some i) None = refl
  router_same (Some i) (Some j) = id_same i j

  clash_same : (b d : Body Rid) → clash (body_renamed f b) (body_renamed f d) ≡ clash b d
  clash_same (body.Port lanes speed mtu up) (body.Port others s m u) = refl
  clash_same (body.Vlan v) (body.Vlan w) = refl
  clash_same (body.VirtualRouter m) (body.VirtualRouter n) = refl
  clash_same (body.OwnAddress v a) (body.OwnAddress w b) = ap (λ x. x && same_ip a b) (router_same v w)
  clash_same (body.Route v p t) (body.Route w q u) = ap (λ x. x && same_prefix p q) (router_same v w)
  clash_same (body.BridgePort p) (body.BridgePort q) = id_same p q
  clash_same (body.VlanMember v p t) (body.VlanMember w q u) = ap₂ (λ x y. x && y) (id_same v w) (id_same p q)
  clash_same (body.Rif v a) (body.Rif w b) = base_same a b
  clash_same (body.Neighbor r ip mac) (body.Neighbor s other mac') = ap (λ x. x && same_ip ip other) (id_same r s)
  clash_same (body.NextHop r ip) (body.NextHop s other) = ap (λ x. x && same_ip ip other) (id_same r s)
  clash_same (body.GroupMember g n weight) (body.GroupMember h m weight') = ap₂ (λ x y. x && y) (id_same g h) (id_same n m)
  clash_same _ _ = refl

-- a body that is not refused for its references refers well
well_by : (w x y : Bool) (rest : Option ChipAnswer) → first_refusal (not w) BadReference rest ≡ first_refusal x Exists (first_refusal y Full None) → w ≡ true
well_by true x y rest h = refl
well_by false true y rest h = absurd cc
well_by false false true rest h = absurd cc
well_by false false false rest h = absurd cc

-- ---- the identifier that is tied to one of the chip

abbrev is_rid : Rid → Option Rid → Bool
is_rid r None = false
is_rid r (Some s) = same_id s r

abbrev vid_of : ViewObjects → Rid → Option Vid
vid_of [] r = None
vid_of (x ∷ xs) r = cond (is_rid r x.1.rid) (Some x.0) (vid_of xs r)

is_rid_exact : (r : Rid) (o : Option Rid) → is_rid r o ≡ true → o ≡ Some r
is_rid_exact r None h = absurd (false≢true h)
is_rid_exact r (Some s) h = ap Some (id-exact s r h)

exact_rid : (r : Rid) (o : Option Rid) → o ≡ Some r → is_rid r o ≡ true
exact_rid r o h = ap (is_rid r) h ∙ eq-eqb r.0 r.0 refl

vid_from : (os : ViewObjects) (r : Rid) (v : Vid) → vid_of os r ≡ Some v → (x : Item) × IsIn x os × (x.0 ≡ v) × (x.1.rid ≡ Some r)
vid_from [] r v h = absurd (none-some v h)
vid_from (y ∷ ys) r v h = by (is_rid r y.1.rid) refl h (vid_from ys r v)
  where
    by : (c : Bool) → is_rid r y.1.rid ≡ c → cond c (Some y.0) (vid_of ys r) ≡ Some v → (vid_of ys r ≡ Some v → (x : Item) × IsIn x ys × (x.0 ≡ v) × (x.1.rid ≡ Some r)) → (x : Item) × IsIn x (y ∷ ys) × (x.0 ≡ v) × (x.1.rid ≡ Some r)
    by true at g behind = (y, inl refl, cc g, is_rid_exact r y.1.rid at)
    by false at g behind = let rest = behind g in (rest.0, inr rest.1, rest.2, rest.3)

vid_found : (os : ViewObjects) (r : Rid) (x : Item) → IsIn x os → x.1.rid ≡ Some r → (v : Vid) × (vid_of os r ≡ Some v)
vid_found [] r x h is = absurd h
vid_found (y ∷ ys) r x h is = by (is_rid r y.1.rid) refl h (λ g. vid_found ys r x g is)
  where
    by : (c : Bool) → is_rid r y.1.rid ≡ c → IsIn x (y ∷ ys) → (IsIn x ys → (v : Vid) × (vid_of ys r ≡ Some v)) → (v : Vid) × (cond c (Some y.0) (vid_of ys r) ≡ Some v)
    by true at g behind = (y.0, refl)
    by false at (inl same) behind = absurd (false≢true (sym at ∙ exact_rid r y.1.rid (ap (λ (z : Item). z.1.rid) (sym same) ∙ is)))
    by false at (inr g) behind = behind g

-- a number above all identifiers
abbrev top : ViewObjects → ℕ
top [] = 0
top (x ∷ xs) = x.0.0 + top xs

top_above : (os : ViewObjects) (x : Item) → IsIn x os → x.0.0 ≤ top os
top_above [] x h = absurd h
top_above (y ∷ ys) x (inl is) = let number : x.0.0 ≡ y.0.0 = ap (λ (z : Item). z.0.0) is in omega (arith, number)
top_above (y ∷ ys) x (inr h) = let rest = top_above ys x h in omega (arith, rest)

abbrev by_vid : ℕ → Rid → Option Vid → Rid
by_vid n r None = record { 0 = n + 1 + r.0 }
by_vid n r (Some v) = as_rid v

numbered_has_id : (b : Body Rid) → is_numbered (kind_of b) ≡ has_id b
numbered_has_id (body.Port lanes speed mtu up) = refl
numbered_has_id (body.Vlan vlan) = refl
numbered_has_id _ = refl

pub own_id : (i : Rid) (b : Body Rid) → has_id b ≡ true → entry_of i.0 b ≡ entry.Oid i
own_id i (body.OwnAddress r ip) h = absurd (false≢true h)
own_id i (body.Neighbor rif ip mac) h = absurd (false≢true h)
own_id i (body.Route r prefix to) h = absurd (false≢true h)
own_id i _ h = refl

module _ (view : ViewObjects) (made : ℕ) (tied : AreTied view made (shown_by (tie_of view) view)) (whole : IsWhole made (shown_by (tie_of view) view)) where
  abbrev t : Vid → Rid
  t = tie_of view

  abbrev back : Rid → Rid
  back r = by_vid (top view) r (vid_of view r)

  rid_from : (r : Rid) (v : Vid) → vid_of view r ≡ Some v → rid_at view v ≡ Some r
  rid_from r v h = let from = vid_from view r v h in ap (rid_at view) (sym from.2) ∙ rid-is view made tied from.0 from.1 ∙ from.3

  back_tied : (x : Item) (r : Rid) → IsIn x view → x.1.rid ≡ Some r → back r ≡ as_rid x.0
  back_tied x r h is =
      let found = vid_found view r x h is in
      let same = tied-once view made tied found.0 x.0 r (rid_from r found.0 found.1) (rid-is view made tied x h ∙ is) in
      ap (by_vid (top view) r) found.1 ∙ ap as_rid same

  back_is : (v : Vid) → IsTied view v → IsSame (λ w. back (t w)) as_rid v
  back_is v (r, is) =
      let own = is-own view made tied v r is in
      ap back (ap rid_or_none is) ∙ back_tied (v, own.0) r own.1 (sym (rid-is view made tied (v, own.0) own.1) ∙ is)

  back_one : (r s : Rid) → back r ≡ back s → r ≡ s
  back_one r s same = by (vid_of view r) (vid_of view s) refl refl same
    where
      by : (o p : Option Vid) → vid_of view r ≡ o → vid_of view s ≡ p → by_vid (top view) r o ≡ by_vid (top view) s p → r ≡ s
      by (Some v) (Some w) at there h =
          let both : Some r ≡ Some s = sym (rid_from r v at) ∙ ap (λ z. rid_at view (as_vid z)) h ∙ rid_from s w there in
          cc both
      by None None at there h =
          let numbers : top view + 1 + r.0 ≡ top view + 1 + s.0 = ap (λ (x : Rid). x.0) h in
          let is : r.0 ≡ s.0 = omega (arith, numbers) in
          let rid : ℕ → Rid = λ n. record { 0 = n } in ap rid is
      by (Some v) None at there h =
          let from = vid_from view r v at in
          let most = top_above view from.0 from.1 in
          let key : from.0.0.0 ≡ v.0 = ap (λ (x : Vid). x.0) from.2 in
          let numbers : v.0 ≡ top view + 1 + s.0 = ap (λ (x : Rid). x.0) h in absurd (omega (arith, most, key, numbers))
      by None (Some w) at there h =
          let from = vid_from view s w there in
          let most = top_above view from.0 from.1 in
          let key : from.0.0.0 ≡ w.0 = ap (λ (x : Vid). x.0) from.2 in
          let numbers : top view + 1 + r.0 ≡ w.0 = ap (λ (x : Rid). x.0) h in absurd (omega (arith, most, key, numbers))

  -- ---- the view by number is the chip, renamed

  shown_back : (x : Item) → IsIn x view → (entry_renamed back (shown_entry t x) ≡ shown_entry as_rid x) × (body_renamed back (shown_body t x) ≡ shown_body as_rid x)
  shown_back x h = (
    entry-twice t back (entry_at x.0 x.1.body) ∙ same-entry (λ v. back (t v)) as_rid (entry_at x.0 x.1.body) (more-entry (IsTied view) (IsSame (λ v. back (t v)) as_rid) back_is (entry_at x.0 x.1.body) (entry-tied view made tied whole x h)),
    body-twice t back x.1.body ∙ same-body (λ v. back (t v)) as_rid x.1.body (more-body (IsTied view) (IsSame (λ v. back (t v)) as_rid) back_is x.1.body (body-tied view made tied whole x h)),
  )

  are_back : AreRenamed back (shown_by t view) (as_chip view)
  are_back = record {
    one = back_one;
    each = λ e b found.
        let from = shown-from t view e b found in
        let is = shown_back from.0 from.1 in
        ap (body_at (as_chip view)) (ap (entry_renamed back) from.2 ∙ is.0) ∙ shown-there as_rid view from.0 (once-number view made tied whole) from.1 ∙ ap Some (sym (ap (body_renamed back) from.3 ∙ is.1));
    only = λ e b found.
        let from = shown-from as_rid view e b found in
        let is = shown_back from.0 from.1 in
        (shown_entry t from.0, shown_body t from.0, shown-there t view from.0 tied.once from.1, from.2 ∙ sym is.0, from.3 ∙ sym is.1);
  }

  apart : (x y : Item) → IsIn x view → IsIn y view → clash (shown_body as_rid x) (shown_body as_rid y) ≡ true → x ≡ y
  apart x y h g meet =
      let chip_meet = sym (clash_same back back_one (shown_body t x) (shown_body t y)) ∙ ap₂ clash (shown_back x h).1 (shown_back y g).1 ∙ meet in
      let same = whole.apart.each (shown_entry t x) (shown_entry t y) (shown_body t x) (shown_body t y) (shown-there t view x tied.once h) (shown-there t view y tied.once g) chip_meet in
      one-of (shown_entry t) view x y tied.once h g (entry-exact (shown_entry t x) (shown_entry t y) same)

  refer : (x : Item) → IsIn x view → refers_well (as_chip view) (shown_body as_rid x) ≡ true
  refer x h =
      let b = shown_body t x in
      let well = whole.refer.each (shown_entry t x) b (shown-there t view x tied.once h) in
      let chip_clash = list_any (λ o. clash b o.1) (shown_by t view) in
      let chip_full = nat_le (capacity_of [] (kind_of b)) (used (shown_by t view) (kind_of b)) in
      let alike = refusal-renamed back (shown_by t view) (as_chip view) are_back (sorted-shown t view) (sorted-shown as_rid view) [] (call.Create b) in
      ap (refers_well (as_chip view)) (sym (shown_back x h).1)
      ∙ well_by (refers_well (as_chip view) (body_renamed back b)) chip_clash chip_full _ (alike ∙ ap (λ w. first_refusal (not w) BadReference (first_refusal chip_clash Exists (first_refusal chip_full Full None))) well)

  whole_number : IsWhole (top view) (as_chip view)
  whole_number = record {
    sorted = sorted-shown as_rid view;
    entered = entered-below (top view) view (all-in (λ x. x.0.0 ≤ top view) view (top_above view));
    apart = record {
      each = λ e f b d found there meet.
          let x = shown-from as_rid view e b found in
          let y = shown-from as_rid view f d there in
          let same = apart x.0 y.0 x.1 y.1 (ap₂ clash (sym x.3) (sym y.3) ∙ meet) in
          ap₂ same_entry x.2 (y.2 ∙ ap (shown_entry as_rid) (sym same)) ∙ same-refl (shown_entry as_rid x.0);
    };
    refer = record {
      each = λ e b found.
          let x = shown-from as_rid view e b found in
          ap (refers_well (as_chip view)) x.3 ∙ refer x.0 x.1;
    };
  }

  -- ---- the things

  module _ (stands : List (Rid × Thing)) (laid : IsLaidOut (listed stands) (shown_by (tie_of view) view)) where
    abbrev untied_thing : Rid × Thing → Vid × Thing
    untied_thing s = (as_vid (back s.0), s.1)

    abbrev things : List (Vid × Thing)
    things = map untied_thing stands

    into : (ss : List (Rid × Thing)) (i : Rid) (u : Thing) → IsIn (i, u) (things_renamed back ss) → IsIn (as_vid i, u) (map untied_thing ss)
    into [] i u h = absurd h
    into (s ∷ ss) i u (inl is) = inl (ap (λ (z : Rid × Thing). (as_vid z.0, z.1)) is)
    into (s ∷ ss) i u (inr h) = inr (into ss i u h)

    out : (ss : List (Rid × Thing)) (i : Rid) (u : Thing) → IsIn (as_vid i, u) (map untied_thing ss) → IsIn (i, u) (things_renamed back ss)
    out [] i u h = absurd h
    out (s ∷ ss) i u (inl is) = inl (ap (λ (z : Vid × Thing). (as_rid z.0, z.1)) is)
    out (s ∷ ss) i u (inr h) = inr (out ss i u h)

    -- a thing of a kind with identifiers is on the chip by one that is tied
    is_tied : (i : Rid) (u : Thing) → IsIn (i, u) stands → has_number u ≡ true → rid_at view (as_vid (back i)) ≡ Some i
    is_tied i u h number =
        let on_chip = laid.stand i u h in
        let id : has_id on_chip.0 ≡ true = sym (numbered_has_id on_chip.0) ∙ ap is_numbered (kind-body (Has (listed stands)) u on_chip.0 on_chip.1) ∙ number in
        let from = shown-from t view (entry_of i.0 on_chip.0) on_chip.0 on_chip.2 in
        let of = oid-of t view i from.0.0 from.0.1.body (sym (own_id i on_chip.0 id) ∙ from.2) in
        let own = own-tie view made tied from.0 from.1 of.0 in
        let is : rid_at view from.0.0 ≡ Some i = own.1 ∙ ap Some (sym (ap rid_or_none own.1) ∙ sym of.1) in
        ap (λ r. rid_at view (as_vid r)) (back_tied from.0 i from.1 (sym (rid-is view made tied from.0 from.1) ∙ is)) ∙ is

    pub stand-tied : (things : List (Vid × Thing)) × StandFor (listed things) view × AreThingsOf view stands things
    stand-tied = (
      things,
      record {
        made = top view;
        whole = whole_number;
        laid = laid-same (listed (things_renamed back stands)) (by_number (listed things)) (as_chip view) (into stands) (out stands) (renamed-laid back stands (shown_by t view) (as_chip view) are_back laid);
      },
      record {
        into = λ v u h.
            let m = map-in untied_thing stands (v, u) h in
            let thing : u ≡ m.0.1 = ap (λ (z : Vid × Thing). z.1) m.2 in
            let pair : Thing → Rid × Thing = λ z. (m.0.0, z) in
            let there : IsIn (m.0.0, u) stands = subst (λ z. IsIn z stands) (sym (ap pair thing)) m.1 in
            (m.0.0, there, λ number. ap (rid_at view) (ap (λ (z : Vid × Thing). z.0) m.2) ∙ is_tied m.0.0 u there number);
        back = λ i u h. (as_vid (back i), in-map untied_thing stands (i, u) h, is_tied i u h);
      },
    )
