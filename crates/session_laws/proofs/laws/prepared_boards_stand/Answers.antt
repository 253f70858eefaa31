use Rattle.session_laws.proofs.Preparing.{has_begun, prepared_stands, ready}
use Rattle.session_laws.proofs.laws.prepared_boards_stand.Goals as goal

pub returns-clause-stands : goal.returns-clause-stands
returns-clause-stands c = λ core chip s w b x is prepared there. prepared_stands core chip s is w b prepared x there

pub returns-clause-begun : goal.returns-clause-begun
returns-clause-begun c = λ core chip s w b x y is prepared there at. has_begun core chip s is w b prepared x there y at

pub returns-clause-ready : goal.returns-clause-ready
returns-clause-ready c = λ core chip s w b x y is at prepared there now. ready (record core { board = b }) chip s (prepared_stands core chip s is w b prepared x there) at w y now (has_begun core chip s is w b prepared x there y now)
