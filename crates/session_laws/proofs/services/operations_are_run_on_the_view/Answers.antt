use Rattle.session_laws.proofs.Service.Building.{begun-prepared, bringing-called, bringing-ends, bringing-prepared, can-bring, ends-called, may-take-called, ready-prepared, same-chip}
use Rattle.session_laws.proofs.services.operations_are_run_on_the_view.Goals as goal

pub returns-clause-prepared : goal.returns-clause-prepared
returns-clause-prepared c = λ first core rest b f x prepared there. bringing-prepared first core rest x b prepared f there

pub returns-clause-begun : goal.returns-clause-begun
returns-clause-begun c = λ first core rest b f g x prepared there now. begun-prepared first core rest x b prepared f there g now

pub returns-clause-ready : goal.returns-clause-ready
returns-clause-ready c = λ first core rest b f g x prepared there now. ready-prepared first core rest x b prepared f there g now

pub returns-clause-can : goal.returns-clause-can
returns-clause-can c = λ first core rest f call chip x there begun told. can-bring first core rest x f there begun call told chip

pub returns-clause-may : goal.returns-clause-may
returns-clause-may c = λ first core rest f call chip a y chip' x there begun told calls. may-take-called first core rest x f there begun call told chip a y chip' calls

pub returns-clause-over : goal.returns-clause-over
returns-clause-over c = λ first core rest f call chip a y chip' x there begun told calls. ends-called first core rest x f there begun call told chip a y chip' calls

pub returns-clause-called : goal.returns-clause-called
returns-clause-called c = λ first core rest f call chip a y chip' b x there begun told calls taken. (bringing-called first core rest x f there begun call told chip a y chip' calls b taken, same-chip first core rest x f there begun call told chip a y chip' calls)

pub returns-clause-ends : goal.returns-clause-ends
returns-clause-ends c = λ first core rest x none. bringing-ends first core rest x none
