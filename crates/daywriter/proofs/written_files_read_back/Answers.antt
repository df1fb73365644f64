use Rattle.daywriter.proofs.WholeFile.{written_reads_back}
use Rattle.daywriter.proofs.written_files_read_back.Goals as goal

pub returns : goal.returns
returns c = written_reads_back
