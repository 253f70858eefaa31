use Rattle.std.proofs.Common.{◌&&◌, ap₂, ◌∙◌}
use Rattle.std.proofs.lemmas.Bool.{and_parts}
use Rattle.apply_order.specs.Places.{by_new}
use Rattle.apply_order.proofs.Staying.{stay-each}
use Rattle.apply_order.proofs.room.mode_of.Goals as goal

pub returns : goal.returns
returns c =
    let is = c.mode_if.ensures in
    let fits = c.fits-room.ensures (by_new c.args.pairs.now) c.in_ok-paired.ensures.each in
    let keeps = stay-each c.args.old.now c.args.new.now c.args.pairs.now c.args.names.now c.keep_routers-kept.result c.requires.named c.keep_routers-kept.ensures in (
      λ h. let both = and_parts c.fits-room.result c.keep_routers-kept.result (is.0 h) in (fits.0 both.0, keeps.0 both.1),
      λ both. is.1 (ap₂ (λ room kept. room && kept) (fits.1 both.0) (keeps.1 both.1)),
    )
