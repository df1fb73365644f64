use Rattle.rules.proofs.Matches.{matching_pairs_mirrors}
use Rattle.rules.proofs.matching_pairs_mirrors.Goals as goal

pub returns : goal.returns
returns c = matching_pairs_mirrors
