use Rattle.swss_image.proofs.Images.{row_name-proper}
use Rattle.swss_image.proofs.laws.rows_are_named_by_their_keys.Goals as goal

pub returns : goal.returns
returns c = row_name-proper
