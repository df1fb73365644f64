use Rattle.daywriter.proofs.WholeAgain.{read_is_written_again}
use Rattle.daywriter.proofs.read_files_are_written_again.Goals as goal

pub returns : goal.returns
returns c = read_is_written_again
