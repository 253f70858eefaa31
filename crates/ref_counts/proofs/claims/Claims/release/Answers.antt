use Rattle.std.proofs.Common.{◌≡◌, ◌==◌, List, not, ap, ap₂, ◌∙◌, rules}
use Rattle.std.proofs.lemmas.Fn.{filter_same}
use Rattle.table_schema.specs.declared.key.Key.{Key}
use Rattle.ref_counts.specs.declared.pin.Pin.{Pin}
use Rattle.ref_counts.specs.Kept.{users_in}
use Rattle.ref_counts.specs.Claimed.{Claimed}
use Rattle.ref_counts.specs.Registered.{pins_but}
use Rattle.ref_counts.proofs.claims.Claims.release.Goals as goal

pub invariant_of-self : goal.invariant_of-self
invariant_of-self c =
    let gone : c.retain.new.self.items ≡ pins_but c.args.worker c.self.inside.pins.items = filter_same _ (λ p. not (p.worker == c.args.worker)) _ (λ x b f' k. search rules) _ _ c.retain.ensures.filtered in
    rw (gone, ← c.as_slice.ensures.value) c.leave_places.ensures.places

pub returns : goal.returns
returns c =
    let gone : c.retain.new.self.items ≡ pins_but c.args.worker c.self.inside.pins.items = filter_same _ (λ p. not (p.worker == c.args.worker)) _ (λ x b f' k. search rules) _ _ c.retain.ensures.filtered in
    let users = rw c.as_slice.ensures.value at c.leave_places.ensures.users in
    let made : List Key → List Pin → Claimed = λ us ps. record { users = us; pins = ps } in
    rw (← c.self.view_is) (ap₂ made (ap (users_in c.leave_places.new.users) gone ∙ users) gone)
