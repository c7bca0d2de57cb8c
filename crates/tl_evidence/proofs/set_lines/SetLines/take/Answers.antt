use Rattle.tl_evidence.proofs.Setting.{set-next}
use Rattle.tl_evidence.proofs.set_lines.SetLines.take.Goals as goal

pub returns : goal.returns
returns c = λ w values x e k at now.
    let kept = c.renew.ensures.kept k.long in
    set-next values c.args.self.now (record { values = c.args.now; counts = c.renew.new.self.counts }) c.args.count x e k
    at kept.0 (rw c.as_slice.ensures.value at kept.1) now
