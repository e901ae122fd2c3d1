use Rattle.range_bounds.proofs.Covers.{all_covered}
use Rattle.range_bounds.proofs.laws.bounds_cover.Goals as goal

pub returns : goal.returns
returns c = λ kind priors range docs leaves stats bounds d w formed counted is has in_it. all_covered kind priors range docs d w formed has in_it leaves stats bounds counted is
