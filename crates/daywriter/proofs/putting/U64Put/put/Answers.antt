use Rattle.std.proofs.Common.{◌≡◌, ◌∙◌, rules}
use Rattle.rules.specs.FileWriting.{number_bytes}
use Rattle.daywriter.proofs.Numbers.{le_bytes}
use Rattle.daywriter.proofs.putting.U64Put.put.Goals as goal

pub returns : goal.returns
returns c =
    let bytes : c.to_le_bytes.result ≡ number_bytes 8 c.args.self.now = c.to_le_bytes.ensures ∙ le_bytes 8 c.args.self.now in
    search (rules, bytes)
