use Rattle.std.proofs.Common.{◌≡◌, ◌∷◌, ◌++◌, [], List, ℕ, ap, ◌∙◌}
use Rattle.tl_beat.specs.statement.Line.{spaced}
use Rattle.tl_events.specs.statement.CommitLine.{commit_fields, commit_line}
use Rattle.tl_schedule.proofs.CommitTexts.{appended, begin-line, valued-line}
use Rattle.tl_schedule.proofs.commit.append_commit.Goals as goal
use Rattle.tl_schedule.proofs.commit.append_commit.Goals.{in-Store, in-Load, in-Begin}

pub returns-clause-text : goal.returns-clause-text
returns-clause-text c =
    let fields : c.match-commit.text.items ≡ spaced (commit_fields c.args.link c.args.commit) =
    elim c.match-commit.branch [
      | in-Store w ↦ rw (w.text-is, w.in-Store.is, w.append_value.ensures.text, w.append_piece.ensures.text)
          (valued-line c.args.link 83 w.in-Store.piece w.in-Store.value)
      | in-Load w ↦ rw (
        w.text-is,
        w.in-Load.is,
        w.append_value-in-Load.ensures.text,
        w.append_piece-in-Load.ensures.text,
      )
          (valued-line c.args.link 76 w.in-Load.piece w.in-Load.value)
      | in-Begin w ↦ rw (w.text-is, w.in-Begin.is, w.append_piece-in-Begin.ensures.text)
          (begin-line c.args.link 73 w.in-Begin.piece)
    ] in
    let line : c.deref.result.now ≡ commit_line c.args.link c.args.commit =
    c.deref.ensures.0 ∙ c.push.ensures.items ∙ ap (λ (t : List ℕ). t ++ 10 ∷ []) fields in
    appended c.extend_from_slice.result c.args.out.now.items c.deref.result.now c.extend_from_slice.new.self.items _ line
    c.extend_from_slice.ensures.items
