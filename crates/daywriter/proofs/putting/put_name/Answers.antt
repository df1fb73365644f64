use Rattle.std.proofs.Common.{length, rules}
use Rattle.std.proofs.lemmas.List.{append_assoc}
use Rattle.daywriter.proofs.PutMore.{spaces_left}
use Rattle.daywriter.proofs.putting.put_name.Goals as goal

pub returns : goal.returns
returns c =
    let spaces = spaces_left (length c.args.name.now) c.min.result c.min.ensures in
    search (rules, spaces, append_assoc)
