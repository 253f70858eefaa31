use Rattle.std.proofs.Common.{◌≡◌, None, Some, rules, sym, ap, ◌∙◌}
use Rattle.std.proofs.lemmas.Bool.{false≢true}
use Rattle.std.proofs.lemmas.Option.{none-some}
use Rattle.ref_counts.specs.Registry.{first_not_live, owner_in}
use Rattle.ref_counts.specs.Room.{lacking}
use Rattle.orch_flight.specs.Taking.{to_list}
use Rattle.orch_flight.proofs.Unhindered.{no-reason, reason-named, reason-room, reason-shared, unowned-ready}
use Rattle.orch_flight.proofs.starting.start.Goals as goal

pub wait_for-requires : goal.wait_for-requires
wait_for-requires c = λ none.
    let free : owner_in c.args.state ≡ None = ap owner_in c.requires.stands ∙ reason-shared c.args.reg.now c.args.room.now c.args.used.now c.args.keys.now c.args.shared.now c.args.need.now none in
    let room : lacking c.args.room.now c.args.need.now c.args.used.now ≡ None = reason-room c.args.reg.now c.args.room.now c.args.used.now c.args.keys.now (to_list c.args.shared.now) c.args.need.now none in
    false≢true (sym c.if-not-may_begin.true ∙ c.may_begin.ensures.1 (free, room))

pub begin-requires-clause-shared : goal.begin-requires-clause-shared
begin-requires-clause-shared c =
    let free : owner_in c.args.state ≡ None = search rules in
    unowned-ready c.args.reg.now c.args.shared.now c.requires.shared (sym (ap owner_in c.requires.stands) ∙ free)

pub wait_for-requires-in-Err : goal.wait_for-requires-in-Err
wait_for-requires-in-Err c = λ none.
    let live : first_not_live c.begin.new.reg c.args.keys.now ≡ None = reason-named c.begin.new.reg c.args.room.now c.args.used.now c.args.keys.now (to_list c.args.shared.now) c.args.need.now none in
    let same : c.begin.new.reg ≡ c.args.reg.now = search rules in
    let missing : first_not_live c.args.reg.now c.args.keys.now ≡ Some c.in-Err.field-0.0 = search rules in
    none-some _ (sym live ∙ ap (λ l. first_not_live l c.args.keys.now) same ∙ missing)

pub returns-clause-free : goal.returns-clause-free
returns-clause-free c =
    let free : owner_in c.args.state ≡ None = search rules in
    let room : lacking c.args.room.now c.args.need.now c.args.used.now ≡ None = search rules in
    let live : first_not_live c.args.reg.now c.args.keys.now ≡ None = search rules in
    no-reason c.args.reg.now c.args.room.now c.args.used.now c.args.keys.now c.args.shared.now c.args.need.now (sym (ap owner_in c.requires.stands) ∙ free) room live
