use Rattle.std.proofs.Common.{◌≡◌, vec_items}
use Rattle.rules.specs.FileWriting.{day_bytes}
use Rattle.daywriter.specs.Meaning.{day_of}
use Rattle.daywriter.proofs.Faultless.{few_enough}
use Rattle.daywriter.proofs.WholeFile.{written_reads_back}
use Rattle.daywriter.proofs.records.DayRecords.write.Goals as goal

pub put_records-requires : goal.put_records-requires
put_records-requires c = few_enough (day_of c.args.self) c.in_default.ensures

pub returns : goal.returns
returns c =
    let day = day_of c.args.self in
    let put = c.in_ok-put_records.ensures in
    let bytes : vec_items c.put_records.new.out ≡ day_bytes day = simp c.new-out.ensures.items at put.0 in
    let none = c.in_default.ensures in
    (none, bytes, rw bytes (written_reads_back day none put.1))
