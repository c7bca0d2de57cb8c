use Rattle.tl_evidence.proofs.Setting.{set-fresh}
use Rattle.tl_evidence.proofs.set_lines.SetLines.new.Goals as goal

pub returns : goal.returns
returns c = λ w values now.
    set-fresh values (record { values = c.args.now; counts = c.in_ok-counts.counts }) c.in_ok-counts.ensures.long
    (λ i lt. c.in_ok-counts.ensures.none i) now
