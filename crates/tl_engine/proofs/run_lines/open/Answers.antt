use Rattle.std.proofs.Common.{sym, ◌∙◌}
use Rattle.tl_params.specs.declared.width.Width.TheVariants.{Four, Eight, Sixteen}
use Rattle.tl_engine.specs.statement.Played.{header_text}
use Rattle.tl_engine.specs.code.Playing.{form_of}
use Rattle.tl_engine.proofs.Playing.{header-plays}
use Rattle.tl_engine.proofs.run_lines.open.Goals as goal
use Rattle.tl_engine.proofs.run_lines.open.Goals.{in-Four+in_ok-player_of-in-Four, in-Eight+in_ok-player_of-in-Eight}
use Rattle.tl_engine.proofs.run_lines.open.Goals.{in-Sixteen+in_ok-player_of-in-Sixteen}

pub returns : goal.returns
returns g c =
    let s = c.in-Some.schedule in
    elim c.match-width.branch [
      | in-Four+in_ok-player_of-in-Four w ↦ rw w.run_lines-is (
        header_text (form_of g.row.FORM) s.version s.config.clients.items,
        rw c.form_of.ensures at c.in_ok-append_header.ensures,
        header-plays (form_of g.row.FORM) c.args.line.now s.version Four s.config _
            (record { spelled = c.in-Some.ensures.spelled; of_profile = c.in-Some.ensures.of_profile })
            (sym w.in-Four.is ∙ c.width.ensures) (w.in_ok-player_of-in-Four.ensures (form_of g.row.FORM)),
      )
      | in-Eight+in_ok-player_of-in-Eight w ↦ rw w.run_lines-is (
        header_text (form_of g.row.FORM) s.version s.config.clients.items,
        rw c.form_of.ensures at c.in_ok-append_header.ensures,
        header-plays (form_of g.row.FORM) c.args.line.now s.version Eight s.config _
            (record { spelled = c.in-Some.ensures.spelled; of_profile = c.in-Some.ensures.of_profile })
            (sym w.in-Eight.is ∙ c.width.ensures) (w.in_ok-player_of-in-Eight.ensures (form_of g.row.FORM)),
      )
      | in-Sixteen+in_ok-player_of-in-Sixteen w ↦ rw w.run_lines-is (
        header_text (form_of g.row.FORM) s.version s.config.clients.items,
        rw c.form_of.ensures at c.in_ok-append_header.ensures,
        header-plays (form_of g.row.FORM) c.args.line.now s.version Sixteen s.config _
            (record { spelled = c.in-Some.ensures.spelled; of_profile = c.in-Some.ensures.of_profile })
            (sym w.in-Sixteen.is ∙ c.width.ensures) (w.in_ok-player_of-in-Sixteen.ensures (form_of g.row.FORM)),
      )
    ]
