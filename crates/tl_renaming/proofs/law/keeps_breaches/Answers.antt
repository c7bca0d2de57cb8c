use Rattle.tl_renaming.proofs.Together.{first-breach-kept, together-kept}
use Rattle.tl_renaming.proofs.law.keeps_breaches.Goals as goal

pub returns-clause-beats : goal.returns-clause-beats
returns-clause-beats g c = λ l r levels x t faithful kept typed.
    together-kept l r faithful c.requires levels x t kept typed

pub returns-clause-traces : goal.returns-clause-traces
returns-clause-traces g c = λ l r levels trace faithful typed.
    first-breach-kept l r faithful c.requires levels trace typed
