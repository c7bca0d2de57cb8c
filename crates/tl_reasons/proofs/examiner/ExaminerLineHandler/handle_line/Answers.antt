use Rattle.std.proofs.Common.{◌≡◌, refl}
use Rattle.std.specs.Prelude.{Ok, Some}
use Rattle.tl_reasons.proofs.Examining.{examined, examined-end, ok_is}
use Rattle.tl_reasons.proofs.examiner.ExaminerLineHandler.handle_line.Goals as goal

pub returns-clause-judges : goal.returns-clause-judges
returns-clause-judges c =
    examined c.args.self.now _ c.args.line.now c.in_ok-fault.ensures.purpose c.args._out.now.items
    c.args._out.now.items c.in_ok-fault.fault c.block_at_fault-block.result
    (c.in_ok-fault.ensures.judges c.args._out.now.items) c.in_ok-fault.ensures.watches c.in_ok-note.ensures

pub returns-clause-ends : goal.returns-clause-ends
returns-clause-ends c = λ fault is.
    let same : c.in_ok-fault.fault ≡ Some fault = ok_is (Ok c.in_ok-fault.fault) c.in_ok-fault.fault (Some fault) refl is in
    examined-end c.args.self.now
    (record c.args.self.now {
      link_lines = c.judge_line.new.self;
      ledger = record c.args.self.now.ledger { now = c.note.new.ledger };
      found = record c.args.self.now.found { now = c.note.new.self };
    })
    c.args.line.now c.in_ok-fault.ensures.purpose fault c.block_at_fault-block.result
    (rw same at c.in_ok-fault.ensures.watches) (c.block_at_fault-block.ensures c.args.self.now.link_lines.together fault same)
    (rw same at c.in_ok-note.ensures)
