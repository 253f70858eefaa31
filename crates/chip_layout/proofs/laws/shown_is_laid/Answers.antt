use Rattle.chip_layout.proofs.Seeing.{seen-laid}
use Rattle.chip_layout.proofs.laws.shown_is_laid.Goals as goal

pub returns : goal.returns
returns c = λ tag made objects apart whole have. seen-laid tag made objects whole apart have
