use Rattle.std.proofs.Common.{◌≡◌, ◌∙◌, Bool, ap, subst}
use Rattle.tl_chart.specs.declared.window.Window.{Window}
use Rattle.tl_wide_event_lines.specs.statement.JudgedWideEvents.{JudgedAny}
use Rattle.tl_lines.specs.statement.Lines.{lines_of}
use Rattle.tl_lines.specs.statement.Run.{EndsAs}
use Rattle.tl_params.specs.declared.liberties.Liberties.{Liberties}
use Rattle.tl_event_chart.proofs.Drawing.{drawn-at-end, if-both}
use Rattle.tl_event_chart.specs.code.Drawing.{HasNotes}
use Rattle.tl_event_chart.proofs.chart.gather.Goals as goal

pub judged-requires-clause-begins : goal.judged-requires-clause-begins
judged-requires-clause-begins g c = (c.in_ok-handler.ensures.knows, c.in_ok-handler.ensures.notes)

pub returns-clause-ok : goal.returns-clause-ok
returns-clause-ok g c = if-both c.judged.result (λ both ok purpose.
    let (read, consumed, judged, ended, has) = ok in
    let asked : both.0.window ≡ c.args.window =
    ap (λ (p : (Bool × Liberties) × Window). p.1) purpose ∙ c.in_ok-handler.ensures.asked in (
      read,
      consumed,
      subst (λ (p : Bool × Liberties). JudgedAny p.0 p.1 (lines_of read) c.judged.new.text.items both.1)
          c.in_ok-handler.ensures.purpose judged,
      subst (λ (p : Bool × Liberties). EndsAs (JudgedAny p.0 p.1) (g.R.Read.remaining c.judged.new.reader) read
          c.judged.new.text.items both.1)
          c.in_ok-handler.ensures.purpose ended,
      subst (λ (w : Window). HasNotes both.0.canvas w (lines_of read)) asked
          (drawn-at-end both.0 (lines_of read) both.1 has),
    )) c.judged.ensures.ok c.judged.ensures.purpose
