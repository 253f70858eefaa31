use Rattle.std.proofs.Common.{◌+◌, ◌*◌, refl, arith}
use Rattle.sai_types.specs.Objects.{level}
use Rattle.sai_types.proofs.Levels.{level_within}
use Rattle.ref_counts.specs.Room.{kinds_in_all}
use Rattle.ref_counts.proofs.Rooms.{all_less, elsewhere}
use Rattle.ref_counts.proofs.room.Room.give_back.Goals as goal

pub returns : goal.returns
returns c = rw (← c.self.view_is) (record {
  capacities = refl;
  none = λ k. c.clear.ensures.none (level k) (level_within k);
  others = λ other k ne. c.clear.ensures.others (kinds_in_all * other + level k) (elsewhere other c.args.worker k ne);
})

pub invariant_of-self : goal.invariant_of-self
invariant_of-self c = λ k.
    let less = all_less c.self.inside.reserved c.clear.new.reserved c.args.worker k 0 (λ other ne. c.clear.ensures.others (kinds_in_all * other + level k) (elsewhere other c.args.worker k ne)) (c.clear.ensures.none (level k) (level_within k)) in
    let within = c.self.invariant k in
    omega arith
