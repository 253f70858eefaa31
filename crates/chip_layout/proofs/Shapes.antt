-- layouts that say the same, layouts by other identifiers, and what follows from a layout
use Rattle.std.proofs.Common.{◌≡◌, [], Option, None, Some, option_map, refl, ap, ◌∙◌}
use Rattle.sai_types.specs.declared.ids.Rid.{Rid}
use Rattle.sai_types.specs.declared.hop.Base.TheVariants as base
use Rattle.swss_types.specs.declared.vrf.Vrf.{Vrf}
use Rattle.swss_types.specs.declared.vrf.Vrf.TheVariants as vrf
use Rattle.sai_types.specs.declared.body.Body.{Body}
use Rattle.sai_types.specs.declared.body.Body.TheVariants as body
use Rattle.sai_types.specs.declared.body.RifOn.TheVariants as on
use Rattle.sai_types.specs.declared.body.To.TheVariants as to
use Rattle.sai_types.specs.declared.thing.Goal.TheVariants as goal
use Rattle.sai_types.specs.declared.thing.Thing.{Thing}
use Rattle.sai_types.specs.declared.thing.Thing.TheVariants as thing
use Rattle.sai_types.specs.Objects.{Objects}
use Rattle.sai_types.specs.Names.{ThingName, Refers}
use Rattle.chip_layout.specs.Bodies.{first_name, second_name}
use Rattle.chip_layout.specs.Bodies.{IsAt, IsBody, body_with, vr_with}
use Rattle.chip_layout.specs.Layout.{Has, IsLaidOut, Layout}
use Rattle.chip_layout.specs.Renamed.{body_renamed}
use Rattle.chip_layout.proofs.Bodies.{body-kept, first-refers, second-refers}

-- ---- two layouts that say the same

-- what the one says the other says
abbrev pub IsWithin : {I : Type 0} → Layout I → Layout I → Type 0
IsWithin {I} layout other = (i : I) (t : Thing) → layout i t → other i t

has_within : {I : Type 0} (layout other : Layout I) → IsWithin layout other → (k : ThingName) (i : I) → Has layout k i → Has other k i
has_within layout other f k i x = (x.0, f i x.0 x.1, x.2)

pub body-within : {I : Type 0} (layout other : Layout I) (t : Thing) (b : Body I) → IsWithin layout other → IsBody (Has layout) t b → IsBody (Has other) t b
body-within layout other t b f x = body-kept (Has layout) (Has other) t b (λ k i refers at. has_within layout other f k i at) x

pub laid-same : (layout other : Layout Rid) (objects : Objects) → IsWithin layout other → IsWithin other layout → IsLaidOut layout objects → IsLaidOut other objects
laid-same layout other objects f g laid = record {
  stand = λ i t h. let old = laid.stand i t (g i t h) in (old.0, body-within layout other t old.0 f old.1, old.2);
  tied = λ e b h. let old = laid.tied e b h in (old.0, old.1, f old.0 old.1 old.2, body-within layout other old.1 b f old.3, old.4);
  one = λ i j t u x y e. laid.one i j t u (g i t x) (g j u y) e;
  ids = λ i t u x y a b. laid.ids i t u (g i t x) (g i u y) a b;
}

-- ---- a body for each thing whose references stand

at_some : {I : Type 0} (layout : Layout I) (o : Option ThingName) (none : I) → ((k : ThingName) → o ≡ Some k → (i : I) × Has layout k i) → (i : I) × IsAt (Has layout) o i
at_some layout None none f = (none, tt)
at_some layout (Some k) none f = f k refl

pub has-body : {I : Type 0} (layout : Layout I) (t : Thing) (none : I) → ((k : ThingName) → Refers t k → (i : I) × Has layout k i) → (b : Body I) × IsBody (Has layout) t b
has-body layout t none f =
    let one = at_some layout (first_name t) none (λ k e. f k (first-refers t k e)) in
    let two = at_some layout (second_name t) none (λ k e. f k (second-refers t k e)) in
    (body_with t one.0 two.0, record { first = one.0; second = two.0; first_at = one.1; second_at = two.1; body_is = refl })

-- ---- other identifiers

-- the things, each by the new name of its identifier
abbrev pub renamed : {I J : Type 0} → (I → J) → Layout I → Layout J
renamed {I} f layout j t = (i : I) × layout i t × (f i ≡ j)

vr_renamed : {I J : Type 0} (f : I → J) (v : Vrf) (j : I) → option_map f (vr_with v j) ≡ vr_with v (f j)
vr_renamed f vrf.Default j = refl
vr_renamed f (vrf.Named label) j = refl

pub renamed_with : {I J : Type 0} (f : I → J) (t : Thing) (i j : I) → body_renamed f (body_with t i j) ≡ body_with t (f i) (f j)
renamed_with f (thing.Rif (base.Port lane) v) i j = ap (λ x. body.Rif x (on.Port (f i))) (vr_renamed f v j)
renamed_with f (thing.Rif (base.Vlan vlan) v) i j = ap (λ x. body.Rif x (on.Vlan (f i))) (vr_renamed f v j)
renamed_with f (thing.Own v ip) i j = ap (λ x. body.OwnAddress x ip) (vr_renamed f v j)
renamed_with f (thing.Route v prefix goal.Drop) i j = ap (λ x. body.Route x prefix to.Drop) (vr_renamed f v j)
renamed_with f (thing.Route v prefix (goal.Direct on)) i j = ap (λ x. body.Route x prefix (to.Rif (f i))) (vr_renamed f v j)
renamed_with f (thing.Route v prefix (goal.Via hop)) i j = ap (λ x. body.Route x prefix (to.NextHop (f i))) (vr_renamed f v j)
renamed_with f (thing.Route v prefix (goal.Group hops)) i j = ap (λ x. body.Route x prefix (to.Group (f i))) (vr_renamed f v j)
renamed_with f _ i j = refl

at_renamed : {I J : Type 0} (f : I → J) (layout : Layout I) (o : Option ThingName) (i : I) → IsAt (Has layout) o i → IsAt (Has (renamed f layout)) o (f i)
at_renamed f layout None i h = tt
at_renamed f layout (Some k) i h = (h.0, (i, h.1, refl), h.2)

-- a body with its identifiers renamed is that of the same thing in the renamed layout
pub body-renamed : {I J : Type 0} (f : I → J) (layout : Layout I) (t : Thing) (b : Body I) → IsBody (Has layout) t b → IsBody (Has (renamed f layout)) t (body_renamed f b)
body-renamed f layout t b x = record {
  first = f x.first;
  second = f x.second;
  first_at = at_renamed f layout (first_name t) x.first x.first_at;
  second_at = at_renamed f layout (second_name t) x.second x.second_at;
  body_is = ap (body_renamed f) x.body_is ∙ renamed_with f t x.first x.second;
}

-- ---- an empty chip

pub laid-none : (layout : Layout Rid) → ((i : Rid) (t : Thing) → layout i t → ⊥) → IsLaidOut layout []
laid-none layout none = record {
  stand = λ i t h. absurd (none i t h);
  tied = λ e b h. absurd cc;
  one = λ i j t u h g e. absurd (none i t h);
  ids = λ i t u h g a b. absurd (none i t h);
}
