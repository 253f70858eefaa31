use Rattle.std.proofs.Common.{◌≡◌, ◌+◌, ◌*◌, ◌≤◌, None, slice_index, refl, rules, arith}
use Rattle.sai_types.specs.Objects.{level}
use Rattle.sai_types.proofs.Levels.{level_within}
use Rattle.ref_counts.specs.Room.{RoomState, kinds_in_all, lacking, number_of_kind}
use Rattle.ref_counts.proofs.Rooms.{all_fits, all_more, each_place, elsewhere, some_of_all}
use Rattle.ref_counts.proofs.room.Room.reserve.Goals as goal

pub add-requires : goal.add-requires
add-requires c =
    let room : RoomState = record { capacities = c.self.inside.capacities; reserved = c.self.inside.reserved } in
    let none : lacking room c.args.need.now c.args.used.now ≡ None = search rules in
    record {
      within = omega arith;
      bounds = each_place (λ j. slice_index c.self.inside.reserved (kinds_in_all * c.args.worker + j) + slice_index c.args.need.now j ≤ slice_index c.self.inside.capacities j)
          (λ k. let all = all_fits room c.args.need.now c.args.used.now c.self.invariant none k in let some = some_of_all c.self.inside.reserved c.args.worker k c.requires in omega arith);
    }

pub returns-clause-none : goal.returns-clause-none
returns-clause-none c = rw (← c.self.view_is) (record {
  capacities = refl;
  more = λ k. c.add.ensures.sums (level k) (level_within k);
  others = λ other k ne. c.add.ensures.others (kinds_in_all * other + level k) (elsewhere other c.args.worker k ne);
})

pub invariant_of-self : goal.invariant_of-self
invariant_of-self c =
    let room : RoomState = record { capacities = c.self.inside.capacities; reserved = c.self.inside.reserved } in
    let none : lacking room c.args.need.now c.args.used.now ≡ None = search rules in
    λ k.
    let all = all_fits room c.args.need.now c.args.used.now c.self.invariant none k in
    let more = all_more c.self.inside.reserved c.add.new.reserved c.args.worker k (number_of_kind c.args.need.now k) (λ other ne. c.add.ensures.others (kinds_in_all * other + level k) (elsewhere other c.args.worker k ne)) c.requires (c.add.ensures.sums (level k) (level_within k)) in
    omega arith
