-- the changes of groups and those of rows' operations
use Rattle.std.proofs.Common.{◌≡◌, ◌++◌, List, [], Option, None, Some, refl, sym}
use Rattle.std.proofs.lemmas.List.{append-nil}
use Rattle.row_layout.specs.Operations.{Change, shared_going, take_all}
use Rattle.row_layout.specs.Rows as owner
use Rattle.row_layout.specs.Rows.{Owner}
use Rattle.row_layout.specs.Shared.{shared_things}
use Rattle.switch_machine.specs.Operations.{built_first}
use Rattle.switch_machine.proofs.Sequence.{make_append}
use Rattle.orch_flight.specs.Starting.{built_here, taken_here}
use Rattle.registry_laws.specs.Registers.{group_built, group_taken}

pub built_apart : (o : Option Owner) (own : List Change) → built_first o own ≡ group_built o ++ built_here o own
built_apart None own = refl
built_apart (Some (owner.OfRow k)) own = refl
built_apart (Some (owner.Bridge lane)) own = refl
built_apart (Some (owner.Own v ip)) own = refl
built_apart (Some (owner.Group hops)) own = sym (make_append (shared_things (owner.Group hops)) [] own)

pub taken_apart : (o : Owner) → take_all (shared_going o) [] ≡ group_taken o ++ taken_here (Some o)
taken_apart (owner.OfRow k) = refl
taken_apart (owner.Bridge lane) = refl
taken_apart (owner.Own v ip) = refl
taken_apart (owner.Group hops) = sym (append-nil (take_all (shared_going (owner.Group hops)) []))
