use Rattle.std.proofs.Common.{◌≡◌, None, rules, sym, ◌∙◌}
use Rattle.std.specs.BTreeMap.{is_at}
use Rattle.std.specs.Map.{lookup}
use Rattle.std.proofs.lemmas.Map.{keys-set_value}
use Rattle.table_schema.specs.Key.{key_cmp}
use Rattle.table_schema.proofs.Restored.{set-none}
use Rattle.ref_counts.specs.Destinations.{destination_cmp}
use Rattle.ref_counts.proofs.KeptRoutes.{route-stands, row-set}
use Rattle.ref_counts.proofs.places.Places.set.Goals as goal

pub invariant_of-self-in-Some-get_mut : goal.invariant_of-self-in-Some-get_mut
invariant_of-self-in-Some-get_mut c = rw (c.get_mut-in_default.follows.holds c.args.uses, keys-set_value (is_at (key_cmp c.args.key.now)) c.self.inside.rows c.args.uses) c.self.invariant

pub returns-in-Some : goal.returns-in-Some
returns-in-Some c = rw (c.in-Route.is, ← c.self.view_is) ((route-stands c.self.inside c.self.invariant (record { vrf = c.in-Route.vrf; prefix = c.in-Route.prefix })).set (c.get_mut.follows.lender c.args.uses) c.args.uses (c.get_mut.follows.holds c.args.uses))

pub returns-in_default-get_mut : goal.returns-in_default-get_mut
returns-in_default-get_mut c =
    let none : lookup (is_at (destination_cmp (record { vrf = c.in-Route.vrf; prefix = c.in-Route.prefix }))) c.self.inside.routes ≡ None = search rules in
    rw (c.in-Route.is, ← c.self.view_is) ((route-stands c.self.inside c.self.invariant (record { vrf = c.in-Route.vrf; prefix = c.in-Route.prefix })).set c.get_mut.follows.lender-at-none c.args.uses (c.get_mut.follows.holds-at-none ∙ sym (set-none (is_at (destination_cmp (record { vrf = c.in-Route.vrf; prefix = c.in-Route.prefix }))) c.self.inside.routes c.args.uses none)))

pub returns-in-Some-get_mut : goal.returns-in-Some-get_mut
returns-in-Some-get_mut c = rw (← c.self.view_is) (row-set c.self.inside c.self.invariant c.args.key.now c.in_default.not-Route (c.get_mut-in_default.follows.lender c.args.uses) c.args.uses (c.get_mut-in_default.follows.holds c.args.uses))

pub returns-in_default-get_mut-2 : goal.returns-in_default-get_mut-2
returns-in_default-get_mut-2 c =
    let none : lookup (is_at (key_cmp c.args.key.now)) c.self.inside.rows ≡ None = search rules in
    rw (← c.self.view_is) (row-set c.self.inside c.self.invariant c.args.key.now c.in_default.not-Route c.get_mut-in_default.follows.lender-at-none c.args.uses (c.get_mut-in_default.follows.holds-at-none ∙ sym (set-none (is_at (key_cmp c.args.key.now)) c.self.inside.rows c.args.uses none)))
