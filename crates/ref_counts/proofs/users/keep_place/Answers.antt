use Rattle.std.proofs.Common.{◌≡◌, ◌∷◌, ◌++◌, [], None, Some, false, not, ◌||◌, rules, sym, ap, ◌∙◌}
use Rattle.std.specs.BTreeMap.{insert_entry, is_at}
use Rattle.std.specs.Map.{lookup}
use Rattle.table_schema.specs.Key.{key_cmp}
use Rattle.ref_counts.specs.Kept.{is_pinned, users_in}
use Rattle.ref_counts.proofs.Keeping.{place-own, place-put, place-set}
use Rattle.ref_counts.proofs.Settling.{users-keep, users-keep_put}
use Rattle.ref_counts.proofs.users.keep_place.Goals as goal

pub returns-in-None-clause-users : goal.returns-in-None-clause-users
returns-in-None-clause-users c =
    let put : c.put.new.self ≡ insert_entry key_cmp c.args.places.now c.args.user.now false = rw (← c.copied.ensures) c.in_ok-put.ensures.ok in
    let none : lookup (is_at (key_cmp c.args.user.now)) c.args.places.now ≡ None = rw (← c.copied.ensures) (sym c.in_ok-put.ensures.old ∙ c.in-None.is) in
    λ p same. ap (λ es. users_in es (c.args.pins.now ++ p ∷ [])) put ∙ users-keep c.args.places.now c.args.user.now p c.args.pins.now same none

pub returns-in-None-clause-placed : goal.returns-in-None-clause-placed
returns-in-None-clause-placed c =
    let put : c.put.new.self ≡ insert_entry key_cmp c.args.places.now c.args.user.now false = rw (← c.copied.ensures) c.in_ok-put.ensures.ok in
    rw put (place-own c.args.places.now c.args.user.now false)

pub returns-in-None-clause-others : goal.returns-in-None-clause-others
returns-in-None-clause-others c = λ q h. rw c.in_ok-put.ensures.ok (place-put c.args.places.now c.copied.result false q h)

pub returns-after-uses-clause-users : goal.returns-after-uses-clause-users
returns-after-uses-clause-users c =
    let put : c.put.new.self ≡ insert_entry key_cmp c.args.places.now c.args.user.now false = rw (← c.copied.ensures) c.in_ok-put.ensures.ok in
    let there : lookup (is_at (key_cmp c.args.user.now)) c.args.places.now ≡ Some c.in-Some.uses = rw (← c.copied.ensures) (sym c.in_ok-put.ensures.old ∙ c.in-Some.is) in
    let value : c.if-uses.set ≡ (c.in-Some.uses || not (is_pinned c.args.pins.now c.args.user.now)) = search rules in
    λ p same. rw (c.set.ensures, put, value) (users-keep_put c.args.places.now c.args.user.now p c.args.pins.now false c.in-Some.uses same c.rise.ensures there)

pub returns-after-uses-clause-placed : goal.returns-after-uses-clause-placed
returns-after-uses-clause-placed c =
    let put : c.put.new.self ≡ insert_entry key_cmp c.args.places.now c.args.user.now false = rw (← c.copied.ensures) c.in_ok-put.ensures.ok in
    rw (c.set.ensures, put) (place-set (is_at (key_cmp c.args.user.now)) (insert_entry key_cmp c.args.places.now c.args.user.now false) c.if-uses.set c.args.user.now (place-own c.args.places.now c.args.user.now false))

pub returns-after-uses-clause-others : goal.returns-after-uses-clause-others
returns-after-uses-clause-others c = λ q h. rw (c.set.ensures, c.in_ok-put.ensures.ok) (place-set (is_at (key_cmp c.args.user.now)) (insert_entry key_cmp c.args.places.now c.copied.result false) c.if-uses.set q (place-put c.args.places.now c.copied.result false q h))
