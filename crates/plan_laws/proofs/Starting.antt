-- the moment before a plan
use Rattle.std.proofs.Common.{◌≡◌, ℕ, Bool, true, false, cond, List, [], ◌∷◌, map, Option, None, Some, refl, sym, ap, ap₂, ◌∙◌, subst}
use Rattle.std.proofs.lemmas.Bool.{false≢true}
use Rattle.sai_types.specs.declared.ids.Rid.{Rid}
use Rattle.sai_types.specs.declared.weight.WHop.{WHop}
use Rattle.sai_types.specs.declared.body.Body.{Body}
use Rattle.sai_types.specs.declared.body.Body.TheVariants as body
use Rattle.sai_types.specs.declared.body.Entry.{Entry}
use Rattle.sai_types.specs.declared.body.Entry.TheVariants as entry
use Rattle.sai_types.specs.declared.thing.Goal.TheVariants as goal
use Rattle.sai_types.specs.declared.thing.Thing.{Thing}
use Rattle.sai_types.specs.declared.thing.Thing.TheVariants as thing
use Rattle.sai_types.specs.After.{entry_of}
use Rattle.sai_types.specs.Alike.{IsIn}
use Rattle.sai_types.specs.Made.{IsWhole, same_entry}
use Rattle.sai_types.specs.Hop.{AreRisingHops}
use Rattle.sai_types.specs.Named.{both, hops_among, hops_at, put_hop, thing_by, whop_at, with_member}
use Rattle.sai_types.specs.Names as name
use Rattle.sai_types.specs.Names.{name_of}
use Rattle.sai_types.specs.Objects.{Objects, body_at}
use Rattle.sai_types.specs.Refusal.{same_id}
use Rattle.sai_types.proofs.Exact.{entry-exact}
use Rattle.sai_types.proofs.Found.{same-symm}
use Rattle.sai_types.proofs.Listed.{found-in, in-found}
use Rattle.sai_types.proofs.Things.{both_mapped}
use Rattle.sai_types.proofs.Weights.{rising-none, rising-put}
use Rattle.sai_types.proofs.Membership.{in-map, map-in}
use Rattle.chip_layout.specs.Answered.{HasPrefix}
use Rattle.chip_layout.specs.Bodies.{IsBody}
use Rattle.chip_layout.specs.Layout.{Has, IsLaidOut, has_number}
use Rattle.chip_layout.specs.Seen.{no_id, seen, tagged}
use Rattle.chip_layout.proofs.Answering.{in_those, those_in}
use Rattle.chip_layout.proofs.Bodies.{entry-same}
use Rattle.chip_layout.proofs.Naming.{IsAmong, among}
use Rattle.chip_layout.proofs.Seeing.{body-seen, seen-laid}
use Rattle.plan_laws.specs.Applied.{IsListedChip}
use Rattle.plan_laws.specs.Moments.{IsMoment}
use Rattle.plan_laws.specs.Old.{group_stays, chip_groups, hops_or_none, old_layout, old_things, seen_things, shown_hops, tag_of}
use Rattle.plan_laws.specs.Views.{HaveOwnNames}
use Rattle.plan_laws.proofs.Tagging.{all-groups, hops-of_tag, hops-rising, hops_for, stays-apart, tags-apart}
use Rattle.plan_laws.proofs.Targets.{AreTagged, is-group}

-- ---- the hops of members rise

rising_member : (t : Bool) (o : Option (List WHop)) (p : Option WHop) (hs : List WHop) → ((xs : List WHop) → o ≡ Some xs → AreRisingHops xs) → cond t (both put_hop o p) o ≡ Some hs → AreRisingHops hs
rising_member true o p hs up h =
    let m = both_mapped put_hop o p hs h in
    subst AreRisingHops m.4 (rising-put m.1 m.0 (up m.0 m.2))
rising_member false o p hs up h = up hs h

no_hops_rising : (hs : List WHop) → Some [] ≡ Some hs → AreRisingHops hs
no_hops_rising hs h = let is : [] ≡ hs = cc in subst AreRisingHops is rising-none

member_rising : (objects : Objects) (g : Rid) (b : Body Rid) (others : Option (List WHop)) (hs : List WHop) → ((xs : List WHop) → others ≡ Some xs → AreRisingHops xs) → with_member objects g b others ≡ Some hs → AreRisingHops hs
member_rising objects g (body.GroupMember group next weight) others hs up h = rising_member (same_id group g) others (whop_at objects next weight) hs up h
member_rising objects g (body.Port l s m u) others hs up h = up hs h
member_rising objects g _ others hs up h = up hs h

among_rising : (objects : Objects) (g : Rid) (os : Objects) (hs : List WHop) → hops_among objects g os ≡ Some hs → AreRisingHops hs
among_rising objects g [] hs h = no_hops_rising hs h
among_rising objects g (o ∷ os) hs h = member_rising objects g o.1 (hops_among objects g os) hs (among_rising objects g os) h

rising_or_none : (objects : Objects) (g : Rid) (o : Option (List WHop)) → hops_at objects g ≡ o → AreRisingHops (hops_or_none o)
rising_or_none objects g None e = rising-none
rising_or_none objects g (Some hs) e = among_rising objects g objects hs e

pub hops-rise : (objects : Objects) (g : Rid) → AreRisingHops (shown_hops objects g)
hops-rise objects g = rising_or_none objects g (hops_at objects g) refl

-- ---- what a chip shows

module _ (tag : Rid → List WHop) (objects : Objects) (made : ℕ) (whole : IsWhole made objects) where
  see_by : (x : Bool) (e : Entry Rid) (b : Body Rid) (n : ℕ) (t : Thing) → body_at objects e ≡ Some b → same_entry e (entry_of n b) ≡ true → thing_by (tagged tag) objects (e, b) ≡ Some t → has_number t ≡ x → IsBody (Has (seen tag objects)) t b → (i : Rid) × seen tag objects i t
  see_by true e b n t found at is numbered of = (record { 0 = n }, record { entry = e; body = b; found = found; at = at; thing = is; none = λ h. absurd (false≢true (sym h ∙ numbered)) })
  see_by false e b n t found at is numbered of =
      let at' : same_entry e (entry_of 0 b) ≡ true = ap (same_entry e) (entry-same (Has (seen tag objects)) 0 n t b of (λ h. absurd (false≢true (sym numbered ∙ h)))) ∙ at in
      (no_id, record { entry = e; body = b; found = found; at = at'; thing = is; none = λ h. refl })

  pub in-seen : (t : Thing) → IsIn t (seen_things tag objects) → (i : Rid) × seen tag objects i t
  in-seen t i =
      let o = map-in (thing_by (tagged tag) objects) objects (Some t) (those_in t (map (thing_by (tagged tag) objects) objects) i) in
      let e = o.0.0 in
      let b = o.0.1 in
      let found = found-in objects e b whole.sorted o.1 in
      let at = whole.entered.each e b found in
      see_by (has_number t) e b at.0 t found at.2 (sym o.2) refl (body-seen tag made objects whole e b t found (sym o.2))

  pub object-seen : (e : Entry Rid) (b : Body Rid) (t : Thing) → body_at objects e ≡ Some b → thing_by (tagged tag) objects (e, b) ≡ Some t → IsIn t (seen_things tag objects)
  object-seen e b t found thing =
      let o = in-found objects e b found in
      let is : thing_by (tagged tag) objects (o.0, b) ≡ Some t = ap (λ d. thing_by (tagged tag) objects (d, b)) (sym (entry-exact e o.0 o.1)) ∙ thing in
      in_those t (map (thing_by (tagged tag) objects) objects) (subst (λ x. IsIn x (map (thing_by (tagged tag) objects) objects)) is (in-map (thing_by (tagged tag) objects) objects (o.0, b) o.2))

-- ---- the moment before the plan

module _ {made : ℕ} {objects : Objects} (chip : IsListedChip made objects) (new : List Thing) where
  abbrev old : List Thing
  old = old_things objects new

  abbrev start : Rid → Thing → Type 0
  start = old_layout objects new

  abbrev tag : Rid → List WHop
  tag = tag_of objects new

  abbrev stays : Rid → Bool
  stays = group_stays objects new

  pub rises : (g : Rid) → stays g ≡ true → AreRisingHops (shown_hops objects g)
  rises g h = hops-rise objects g

  pub old-laid : IsLaidOut start objects
  old-laid = seen-laid tag made objects chip.whole (tags-apart stays (shown_hops objects) rises (stays-apart objects new)) chip.lanes

  pub old-seen : (t : Thing) → IsIn t old → (i : Rid) × start i t
  old-seen t i = in-seen tag objects made chip.whole t i

  pub seen-old : (i : Rid) (t : Thing) → start i t → IsIn t old
  seen-old i t s = object-seen tag objects made chip.whole s.entry s.body t s.found s.thing

  pub first-moment : IsMoment old [] start made objects
  first-moment = record { whole = chip.whole; laid = old-laid; sound = seen-old; all = old-seen }

  pub old-named : HaveOwnNames old
  old-named = record {
    one = λ t u i j same. let x = old-seen t i in let y = old-seen u j in (old-laid.one x.0 y.0 t u x.1 y.1 same).1;
    proper = λ v p g i.
        let s = (old-seen (thing.Route v p g) i).1 in
        subst HasPrefix (body-seen tag made objects chip.whole s.entry s.body (thing.Route v p g) s.found s.thing).body_is (chip.prefixes.each s.entry s.body s.found);
  }

  abbrev pub hops_by_tag : List WHop → List WHop
  hops_by_tag = hops_for (shown_hops objects)

  group_hops : (a b : List WHop) → Some (thing.Group a) ≡ Some (thing.Group b) → b ≡ a
  group_hops a b e = cc

  pub group-seen : (g : Rid) (t : List WHop) → start g (thing.Group t) → (t ≡ tag g) × IsIn g (chip_groups objects)
  group-seen g t s =
      let is : s.body ≡ body.Group = (body-seen tag made objects chip.whole s.entry s.body (thing.Group t) s.found s.thing).body_is in
      let at = entry-exact s.entry (entry.Oid g) (ap (λ z. same_entry s.entry (entry_of g.0 z)) (sym is) ∙ s.at) in
      let shows = ap₂ (λ x y. thing_by (tagged tag) objects (x, y)) (sym at) (sym is) ∙ s.thing in
      (group_hops (tag g) t shows, all-groups objects g (ap (body_at objects) (sym at) ∙ s.found ∙ ap Some is))

  module _ (g : Rid) (t : List WHop) (s : start g (thing.Group t)) where
    these : IsAmong start objects old-laid g t (thing.Group t, s, refl) objects
    these = among start objects old-laid g t (thing.Group t, s, refl) chip.whole.apart objects (λ e b i. found-in objects e b chip.whole.sorted i)

    pub hops-there : hops_at objects g ≡ Some (shown_hops objects g)
    hops-there = these.is ∙ ap Some (sym (ap hops_or_none these.is))

    those_are : these.those ≡ hops_by_tag t
    those_are =
        let at = group-seen g t s in
        sym (ap hops_or_none these.is) ∙ sym (hops-of_tag stays (shown_hops objects) rises g) ∙ ap hops_by_tag (sym at.0)

    group_rising : AreRisingHops (hops_by_tag t)
    group_rising = subst AreRisingHops those_are these.rising

    group_have : (hop : WHop) → IsIn hop (hops_by_tag t) → IsIn (thing.GroupMember t hop) old
    group_have hop i = let m = these.sound hop (subst (IsIn hop) (sym those_are) i) in seen-old m.0 (thing.GroupMember t hop) m.1

    group_only : (j : Rid) (hop : WHop) → start j (thing.GroupMember t hop) → IsIn hop (hops_by_tag t)
    group_only j hop m =
        let has = old-laid.stand j (thing.GroupMember t hop) m in
        let object = in-found objects (entry_of j.0 has.0) has.0 has.2 in
        subst (IsIn hop) those_are (these.all object.0 has.0 j hop object.2 m has.1 (same-symm object.0 (entry_of j.0 has.0) ∙ object.1))

  pub group-there : (t : List WHop) (g : Rid) → Has start (name.Group t) g → start g (thing.Group t)
  group-there t g h = subst (start g) (is-group h.0 t h.2) h.1

  pub old-tagged : AreTagged hops_by_tag old
  old-tagged = record {
    rising = λ t i. let x = old-seen (thing.Group t) i in group_rising x.0 t x.1;
    have = λ t hop i h. let x = old-seen (thing.Group t) i in group_have x.0 t x.1 hop h;
    only = λ t hop i.
        let m = old-seen (thing.GroupMember t hop) i in
        let has = old-laid.stand m.0 (thing.GroupMember t hop) m.1 in
        group_only has.1.first t (group-there t has.1.first has.1.first_at) m.0 hop m.1;
    there = λ v p t i.
        let r = old-seen (thing.Route v p (goal.Group t)) i in
        let has = old-laid.stand r.0 (thing.Route v p (goal.Group t)) r.1 in
        seen-old has.1.first (thing.Group t) (group-there t has.1.first has.1.first_at);
  }

  pub hops-same : (hops : List WHop) → AreRisingHops hops → hops_by_tag hops ≡ hops
  hops-same hops up = hops-rising (shown_hops objects) hops up
