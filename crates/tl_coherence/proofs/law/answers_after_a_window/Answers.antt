use Rattle.tl_coherence.proofs.flow.Windowed.{in_time}
use Rattle.tl_coherence.proofs.law.answers_after_a_window.Goals as goal

pub returns : goal.returns
returns g c = λ config log given. in_time config log given
