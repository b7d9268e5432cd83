use Rattle.table.proofs.LowestPlace.{lowest_place_law}
use Rattle.table.proofs.places.lowest_place_is_lowest.Goals as goal

pub returns : goal.returns
returns c = lowest_place_law
