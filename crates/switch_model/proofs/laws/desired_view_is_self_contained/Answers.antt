use Rattle.switch_model.proofs.References.{IsSelfContained-desired_view}
use Rattle.switch_model.proofs.laws.desired_view_is_self_contained.Goals as goal

pub returns : goal.returns
returns c = IsSelfContained-desired_view
