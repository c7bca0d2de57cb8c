use Rattle.std.proofs.Common.{rules}
use Rattle.tl_explain.proofs.Waiting.{heading-told}
use Rattle.tl_explain.proofs.ledger.append_heading.Goals as goal

pub returns : goal.returns
returns c =
    heading-told c.args.count c.args.out.now.items c.extend_from_slice.new.self.items
    c.extend_from_slice-2.new.self.items c.extend_from_slice-3.new.self.items c.as_bytes.result.now
    c.in_ok-extend_from_slice.ensures.items (search rules) c.in_ok-extend_from_slice-2.ensures.items
    c.in_ok-extend_from_slice-3.ensures.items
