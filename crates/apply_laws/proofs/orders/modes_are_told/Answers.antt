use Rattle.apply_laws.proofs.Order.Modes.{fits-told, routers-told, told-fits, told-routers}
use Rattle.apply_laws.proofs.orders.modes_are_told.Goals as goal

pub returns : goal.returns
returns c = λ capacities made old new things plan x. (
  λ e. let both = x.planned.mode.0 e in (fits-told old x.chip x.view x.lanes capacities both.0, routers-told old x.chip x.view x.lanes both.1),
  λ both. x.planned.mode.1 (told-fits old x.chip x.view x.lanes capacities both.0, told-routers old x.chip x.view x.lanes both.1),
)
