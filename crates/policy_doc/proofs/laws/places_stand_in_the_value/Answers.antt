use Rattle.policy_doc.proofs.PlacesStand.{places_stand}
use Rattle.policy_doc.proofs.laws.places_stand_in_the_value.Goals as goal

pub returns : goal.returns
returns c = places_stand
