use Rattle.std.proofs.Common.{◌≡◌, ◌∷◌, ◌++◌, [], refl, sym, ◌∙◌, rules}
use Rattle.ref_counts.specs.Kept.{users_in}
use Rattle.ref_counts.proofs.Settling.{users-push}
use Rattle.ref_counts.proofs.claims.Claims.unpin_last.Goals as goal

pub returns-in-Some : goal.returns-in-Some
returns-in-Some c =
    let pushed : c.self.inside.pins.items ≡ c.pop.new.self.items ++ c.in-Some.pin ∷ [] = search rules in
    let ended = rw c.as_slice.ensures.value at c.end_place_of.ensures.users in
    let users : users_in c.end_place_of.new.users c.pop.new.self.items ≡ users_in c.self.inside.users c.self.inside.pins.items = rw pushed (ended c.in-Some.pin refl ∙ sym (users-push c.self.inside.users c.in-Some.pin c.pop.new.self.items)) in
    search rules
