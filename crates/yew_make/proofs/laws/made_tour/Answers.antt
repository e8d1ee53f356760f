use Rattle.yew_make.proofs.TourFiles.{made_tour_law}
use Rattle.yew_make.proofs.laws.made_tour.Goals as goal

pub returns : goal.returns
returns c = made_tour_law c.file_laws.ensures
