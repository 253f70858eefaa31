-- an object of a chip, and the thing that it stands for
use Rattle.std.proofs.Common.{◌≡◌, ℕ, Some, sym, ap, ap₂, ◌∙◌, List}
use Rattle.sai_types.specs.declared.ids.Rid.{Rid}
use Rattle.sai_types.specs.declared.body.Body.{Body}
use Rattle.sai_types.specs.declared.body.Entry.{Entry}
use Rattle.sai_types.specs.declared.weight.WHop.{WHop}
use Rattle.sai_types.specs.declared.thing.Thing.{Thing}
use Rattle.sai_types.specs.After.{entry_of}
use Rattle.sai_types.specs.Named.{thing_by}
use Rattle.sai_types.specs.Objects.{Objects, body_at}
use Rattle.sai_types.proofs.Exact.{entry-exact}
use Rattle.chip_layout.specs.Bodies.{IsBody}
use Rattle.chip_layout.specs.Layout.{Has, Layout}
use Rattle.chip_layout.specs.Seen.{tagged}
use Rattle.chip_layout.proofs.Laid.{body-one}
use Rattle.chip_layout.proofs.Seeing.{body-seen}
use Rattle.plan_laws.specs.Applied.{IsListedChip}
use Rattle.plan_laws.specs.Old.{old_layout, tag_of}
use Rattle.plan_laws.proofs.Starting.{old-laid}

module _ {made : ℕ} {objects : Objects} (chip : IsListedChip made objects) (new : List Thing) where
  abbrev tag : Rid → List WHop
  tag = tag_of objects new

  abbrev start : Layout Rid
  start = old_layout objects new

  pub record IsStood (e : Entry Rid) (b : Body Rid) : Type 0 where
    pub id : Rid
    pub thing : Thing
    pub stands : start id thing
    pub of : IsBody (Has start) thing b
    pub is : thing_by (tagged tag) objects (e, b) ≡ Some thing
    pub entry : e ≡ entry_of id.0 b

  pub stood : (e : Entry Rid) (b : Body Rid) → body_at objects e ≡ Some b → IsStood e b
  stood e b found =
      let o = (old-laid chip new).tied e b found in
      let s = o.2 in
      let bodies : s.body ≡ b = body-one start objects (old-laid chip new) o.1 s.body b (body-seen tag made objects chip.whole s.entry s.body o.1 s.found s.thing) o.3 in
      let here : e ≡ entry_of o.0.0 b = entry-exact e (entry_of o.0.0 b) o.4 in
      let entries : s.entry ≡ e = entry-exact s.entry (entry_of o.0.0 s.body) s.at ∙ ap (entry_of o.0.0) bodies ∙ sym here in
      record { id = o.0; thing = o.1; stands = s; of = o.3; is = ap₂ (λ x y. thing_by (tagged tag) objects (x, y)) (sym entries) (sym bodies) ∙ s.thing; entry = here }
