use Rattle.std.proofs.Common.{◌≡◌, ◌∷◌, ◌++◌, [], rules}
use Rattle.ref_counts.specs.Kept.{HasKeptPlace, HavePlaces}
use Rattle.ref_counts.specs.declared.pin.Pin.{Pin}
use Rattle.ref_counts.proofs.Pins.{places-kept, places-push}
use Rattle.ref_counts.proofs.claims.Claims.pin.Goals as goal

pub invariant_of-self-in_err-keep_place : goal.invariant_of-self-in_err-keep_place
invariant_of-self-in_err-keep_place c =
    let new = c.keep_place.new.places in
    let kept : HavePlaces new c.self.inside.pins.items = places-kept c.self.inside.users new c.keep_place.ensures.others c.self.inside.pins.items c.self.invariant in
    rw c.reserve.ensures.items kept

pub invariant_of-self-2 : goal.invariant_of-self-2
invariant_of-self-2 c =
    let new = c.keep_place.new.places in
    let kept : HavePlaces new c.self.inside.pins.items = places-kept c.self.inside.users new c.keep_place.ensures.others c.self.inside.pins.items c.self.invariant in
    let has : HasKeptPlace new c.copied.result = rw c.copied.ensures c.in_ok-keep_place.ensures.placed in
    let p : Pin = record { worker = c.args.worker; user = c.copied.result } in
    let pushed : c.push.new.self.items ≡ c.self.inside.pins.items ++ p ∷ [] = search rules in
    rw pushed (places-push new c.self.inside.pins.items p kept has)
