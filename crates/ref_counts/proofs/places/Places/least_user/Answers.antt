use Rattle.std.proofs.Common.{◌≡◌, None, Some, rules, ◌∙◌}
use Rattle.ref_counts.specs.Kept.{is_pinned, settled, users_in}
use Rattle.ref_counts.specs.Parted.{route_key}
use Rattle.late_maps.specs.Segments.{renamed}
use Rattle.ref_counts.specs.Registered.{first_of}
use Rattle.ref_counts.proofs.Keeping.{readable-first}
use Rattle.ref_counts.proofs.KeptRoutes.{least-before, least-behind, rows-readable}
use Rattle.ref_counts.proofs.Settling.{readable-settled}
use Rattle.ref_counts.proofs.places.Places.least_user.Goals as goal

pub copied-requires : goal.copied-requires
copied-requires c =
    let least : Some c.in-Some.key.now ≡ first_of (users_in c.self.inside.rows c.args.pins.now) = search rules in
    readable-first (settled (is_pinned c.args.pins.now) c.self.inside.rows) c.in-Some.key.now (readable-settled (is_pinned c.args.pins.now) c.self.inside.rows (rows-readable c.self.inside c.self.invariant)) least

pub returns-in-Some : goal.returns-in-Some
returns-in-Some c =
    let least : Some c.in-Some.key.now ≡ first_of (users_in c.self.inside.rows c.args.pins.now) = search rules in
    rw (c.copied.ensures, ← c.self.view_is) (least-before c.in-Some.key.now c.self.inside.rows (renamed route_key c.self.inside.routes) c.args.pins.now least)

pub returns-in-None : goal.returns-in-None
returns-in-None c =
    let none : None ≡ first_of (users_in c.self.inside.rows c.args.pins.now) = search rules in
    rw (← c.self.view_is) (c.least_route.ensures ∙ least-behind c.self.inside.rows (renamed route_key c.self.inside.routes) c.args.pins.now none)
