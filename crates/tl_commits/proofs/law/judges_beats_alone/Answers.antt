use Rattle.tl_commits.proofs.JudgedAlone.{alone-judged, beats-judged}
use Rattle.tl_commits.proofs.law.judges_beats_alone.Goals as goal

pub returns-clause-alone : goal.returns-clause-alone
returns-clause-alone g c = alone-judged g.row.W

pub returns-clause-beats : goal.returns-clause-beats
returns-clause-beats g c = beats-judged g.row.W
