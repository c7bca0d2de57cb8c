use Rattle.tl_engine.specs.declared.run_lines.RunLines.TheVariants.{Four, Eight, Sixteen}
use Rattle.tl_engine.proofs.Playing.{judged}
use Rattle.tl_engine.proofs.run_lines.RunLinesLineHandler.handle_line.Goals as goal

pub returns-in-Waiting-clause-judges : goal.returns-in-Waiting-clause-judges
returns-in-Waiting-clause-judges g c = rw c.in-Waiting.is c.start.ensures

pub returns-in-Four-clause-judges : goal.returns-in-Four-clause-judges
returns-in-Four-clause-judges g c = rw c.in-Four.is (judged {n = g.row.FORM} Four (λ m lines text k. k)
    (λ m lines text k. k) c.in-Four.player c.play.new.player c.args.line.now c.args.out.now.items c.play.new.out.items
    c.play.result (rw c.form_of-form.ensures at c.play.ensures))

pub returns-in-Eight-clause-judges : goal.returns-in-Eight-clause-judges
returns-in-Eight-clause-judges g c = rw c.in-Eight.is (judged {n = g.row.FORM} Eight (λ m lines text k. k)
    (λ m lines text k. k) c.in-Eight.player c.play-in-Eight.new.player c.args.line.now c.args.out.now.items c.play-in-Eight.new.out.items
    c.play-in-Eight.result (rw c.form_of-form.ensures at c.play-in-Eight.ensures))

pub returns-in-Sixteen-clause-judges : goal.returns-in-Sixteen-clause-judges
returns-in-Sixteen-clause-judges g c = rw c.in-Sixteen.is (judged {n = g.row.FORM} Sixteen (λ m lines text k. k)
    (λ m lines text k. k) c.in-Sixteen.player c.play-in-Sixteen.new.player c.args.line.now c.args.out.now.items c.play-in-Sixteen.new.out.items
    c.play-in-Sixteen.result (rw c.form_of-form.ensures at c.play-in-Sixteen.ensures))
