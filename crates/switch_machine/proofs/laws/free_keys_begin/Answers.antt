use Rattle.std.proofs.Common.{refl}
use Rattle.switch_machine.proofs.Freeing.{due, flight, may-begin, room-or-none}
use Rattle.switch_machine.proofs.laws.free_keys_begin.Goals as goal

pub returns : goal.returns
returns c = λ plan workers capacities s w k is kept idle prepared clear fits. (
  flight plan is workers capacities s kept w idle k prepared clear fits,
  due plan is workers capacities s kept w idle k prepared clear fits,
  refl,
  refl,
  may-begin plan is workers capacities s kept w idle k prepared clear fits,
  room-or-none plan is workers capacities s kept w idle k prepared clear fits,
)
