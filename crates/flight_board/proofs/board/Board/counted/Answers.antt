use Rattle.std.proofs.Common.{◌<◌, ◌+◌, ℕ, length, set, rules, ap, ◌∙◌, sym, subst}
use Rattle.std.specs.Prelude.{slice_index}
use Rattle.sai_types.specs.declared.kind.Kind.TheVariants as kind
use Rattle.registry_laws.specs.Flown.{still_there_in_all}
use Rattle.flight_board.specs.Board.{AreCountedWith, BoardState, flown_at}
use Rattle.flight_board.proofs.Counted.{counts}
use Rattle.flight_board.proofs.board.Board.counted.Goals as goal

pub returns : goal.returns
returns c =
    let five : 5 < length c.args.used.now = search rules in
    subst (λ (place : ℕ). AreCountedWith c.args.self.now c.args.used.now (set c.args.used.now place (slice_index c.args.used.now place + c.between.result))) (sym c.index-place.ensures.place)
    (counts c.args.used.now (flown_at c.args.self.now) c.between.result five (c.between.ensures.value ∙ ap (λ (z : BoardState). still_there_in_all (flown_at z) kind.Rif) c.self.view_is))
