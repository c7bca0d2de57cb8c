use Rattle.tl_coherence.proofs.lines.Delivered.{are-in_range, have-room}
use Rattle.tl_coherence.proofs.law.delivers_what_a_line_spells.Goals as goal

pub returns-clause-room : goal.returns-clause-room
returns-clause-room g c = λ config log given link. have-room config log given link

pub returns-clause-range : goal.returns-clause-range
returns-clause-range g c = λ config log given ranged link. are-in_range config log given ranged link
