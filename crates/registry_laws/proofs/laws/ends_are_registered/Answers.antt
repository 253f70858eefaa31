use Rattle.registry_laws.proofs.Ended.{registers_ended}
use Rattle.registry_laws.proofs.laws.ends_are_registered.Goals as goal

pub returns : goal.returns
returns c = λ plan workers capacities m names room room' w f sound rising known ends gives some. registers_ended plan m sound w f ends workers capacities names room room' known rising gives some
