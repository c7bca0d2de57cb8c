use Rattle.tl_coherence.proofs.theorem.LoneAcquireEnds.{alone, alone_whole}
use Rattle.tl_coherence.proofs.law.brings_what_is_asked_alone.Goals as goal

pub returns-clause-asked : goal.returns-clause-asked
returns-clause-asked g c = λ config log client block source n grow none given drains. alone config log client block
    source n grow none given drains

pub returns-clause-whole : goal.returns-clause-whole
returns-clause-whole g c = λ config log client block source n bytes none given drains. alone_whole config log client
    block source n bytes none given drains
