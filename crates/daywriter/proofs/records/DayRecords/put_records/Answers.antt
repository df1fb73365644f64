use Rattle.std.proofs.Common.{vec_items}
use Rattle.std.proofs.ByRecursion.{All-map}
use Rattle.std.proofs.lemmas.Result.{on_ok_weaker}
use Rattle.dayfile.specs.Meaning.{currency_of, instruction_of, step_of}
use Rattle.rules.specs.FileAgain.{CurrencyFits, MemberFits, InstructionFits, StepFits}
use Rattle.daywriter.specs.Meaning.{member_of}
use Rattle.daywriter.proofs.PutMore.{day_put}
use Rattle.daywriter.proofs.records.DayRecords.put_records.Goals as goal

pub returns : goal.returns
returns c =
    let self = c.args.self in
    let cs = c.in_ok-put_all-2.ensures in
    let ms = c.in_ok-put_all-3.ensures in
    let xs = c.in_ok-put_all-4.ensures in
    on_ok_weaker
    c.put_all-5.result
    (λ ss. (
      day_put self (vec_items c.args.out.now) (vec_items c.put_all.new.out) (vec_items c.put_all-2.new.out) (vec_items c.put_all-3.new.out) (vec_items c.put_all-4.new.out) (vec_items c.put_all-5.new.out)
          (rw c.counts.ensures at c.in_ok-put_all.ensures.0) cs.0 ms.0 xs.0 ss.0,
      record {
        currencies = All-map CurrencyFits currency_of self.currencies.now cs.1;
        members = All-map MemberFits member_of self.members.now ms.1;
        instructions = All-map InstructionFits instruction_of self.instructions.now xs.1;
        steps = All-map StepFits step_of self.steps.now ss.1;
      },
    ))
    c.put_all-5.ensures
