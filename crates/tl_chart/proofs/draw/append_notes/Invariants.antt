use Rattle.std.proofs.Common.{◌≡◌, ◌++◌, drop}
use Rattle.std.specs.List.{flat_map}
use Rattle.tl_chart.specs.statement.Picture.{note_text}
use Rattle.tl_chart.proofs.draw.append_notes.Given as goal

abbrev pub invariant-loop-note : goal.invariant-loop-note
invariant-loop-note l =
    l.out.items ++ flat_map (note_text l.sheet.rows.now l.sheet.links.now) (drop l.note-index l.notes)
    ≡ l.initial.out.items ++ flat_map (note_text l.sheet.rows.now l.sheet.links.now) l.notes
