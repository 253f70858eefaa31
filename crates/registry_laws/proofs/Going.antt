-- a row goes where there is no new one, or where it is an interface that goes over to another router
use Rattle.std.proofs.Common.{◌≡◌, ◌⊎◌, ◌∷◌, ◌∙◌, inl, inr, Bool, true, false, not, if◌then◌else◌, [], Option, None, Some, refl, ap, ap₂, arith}
use Rattle.std.proofs.lemmas.Bool.{false≢true}
use Rattle.swss_types.specs.Vrf.{same_vrf}
use Rattle.swss_types.specs.declared.interface.IfName.{IfName}
use Rattle.swss_types.specs.declared.vrf.Vrf.{Vrf}
use Rattle.table_schema.specs.Plan.{Ports}
use Rattle.table_schema.specs.declared.key.Key.{Key}
use Rattle.table_schema.specs.declared.key.Key.TheVariants as key
use Rattle.sai_types.specs.declared.hop.Base.{Base}
use Rattle.sai_types.specs.declared.kind.Kind.{Kind}
use Rattle.sai_types.specs.declared.thing.Thing.TheVariants as thing
use Rattle.switch_model.specs.Placed as row
use Rattle.switch_model.specs.Placed.{Placed as Row}
use Rattle.switch_model.specs.Things.{base_of}
use Rattle.row_layout.specs.Operations.{make_all, own_changes, take_all}
use Rattle.row_layout.specs.Rows.{from, own_things}
use Rattle.switch_machine.specs.Flights.{goes_over}
use Rattle.switch_machine.specs.Places.{makes}

-- an interface goes over from one router to another
pub record GoesOver (k : Key) (old new : Option Row) : Type 0 where
  pub on : IfName
  pub router_was : Vrf
  pub router_is : Vrf
  pub key_is : k ≡ key.Intf on
  pub old_is : old ≡ Some (row.Intf router_was)
  pub new_is : new ≡ Some (row.Intf router_is)
  pub apart : same_vrf router_was router_is ≡ false

falsed : (b : Bool) → not b ≡ true → b ≡ false
falsed true h = absurd (false≢true h)
falsed false h = refl

over_by : (k : Key) (old : Option Row) (n : Row) → goes_over k old (Some n) ≡ true → GoesOver k old (Some n)
over_by (key.Intf i) (Some (row.Intf v)) (row.Intf w) h = record { on = i; router_was = v; router_is = w; key_is = refl; old_is = refl; new_is = refl; apart = falsed (same_vrf v w) h }
over_by k old n h = absurd (false≢true h)

pub going_how : (k : Key) (old new : Option Row) → goes_over k old new ≡ true → (new ≡ None) ⊎ GoesOver k old new
going_how k old None h = inl refl
going_how k old (Some n) h = inr (over_by k old n h)

pub goes_by : (k : Key) (old new : Option Row) → GoesOver k old new → goes_over k old new ≡ true
goes_by k old new x = ap (λ z. goes_over z old new) x.key_is ∙ ap₂ (goes_over (key.Intf x.on)) x.old_is x.new_is ∙ ap not x.apart

-- its router interface is taken away and made again, where it has one
pub over_changes : (plan : Ports) (k : Key) (old new : Option Row) (x : GoesOver k old new) → own_changes plan k old new ≡ take_all (from (base_of plan x.on) (λ b. thing.Rif b x.router_was ∷ [])) (make_all (from (base_of plan x.on) (λ b. thing.Rif b x.router_is ∷ [])) [])
over_changes plan k old new x =
    ap (λ z. own_changes plan z old new) x.key_is ∙ ap₂ (own_changes plan (key.Intf x.on)) x.old_is x.new_is
    ∙ ap (λ b. if b then [] else take_all (own_things plan (key.Intf x.on) (row.Intf x.router_was)) (make_all (own_things plan (key.Intf x.on) (row.Intf x.router_is)) [])) x.apart

-- so it needs no place
pub over_makes : (plan : Ports) (k : Key) (old new : Option Row) → GoesOver k old new → (kind : Kind) → makes kind (own_changes plan k old new) ≡ 0
over_makes plan k old new x kind = ap (makes kind) (over_changes plan k old new x) ∙ by (base_of plan x.on)
  where
    by : (o : Option Base) → makes kind (take_all (from o (λ b. thing.Rif b x.router_was ∷ [])) (make_all (from o (λ b. thing.Rif b x.router_is ∷ [])) [])) ≡ 0
    by None = refl
    by (Some b) = omega arith
