use Rattle.std.proofs.Common.{◌≡◌, drop}
use Rattle.std.specs.List.{fold}
use Rattle.swss_run.proofs.Applied.{after_round}
use Rattle.swss_run.proofs.view.apply_rounds.Given as goal

-- the rounds that are left, applied to what stands now, come to all rounds applied to what stood at the beginning
abbrev pub invariant-loop-round : goal.invariant-loop-round
invariant-loop-round l = fold after_round l.rows (drop l.round-index l.rounds) ≡ fold after_round l.fn.rows l.rounds
