-- The state of a new judge of all links, and the result of making one.
use Rattle.std.specs.Prelude.{ℕ, false, List, [], length, map, Result, Ok, Err}
use Rattle.tl_params.specs.declared.liberties.Liberties.{Liberties}
use Rattle.tl_params.specs.statement.Config.{IsCount}
use Rattle.tl_together.specs.declared.judge.Judge.{Judge}
use Rattle.tl_together.specs.statement.Knows.{Knows}
use Rattle.tl_pictures.specs.declared.answer.Answer.{Answer}
use Rattle.tl_sessions.specs.statement.Opened.{IsRefusal}
use Rattle.tl_pictures.specs.statement.Codes.{level_at}

-- a new judge has these levels and liberties, and no beats
abbrev pub IsFreshJudge : {w : ℕ} → List ℕ → Liberties → Judge w → Type 0
IsFreshJudge codes l j = Knows j (map level_at codes) l [] false

-- the result of making a judge: a new one, or a refusal
abbrev pub MakesJudge : {w : ℕ} → List ℕ → Liberties → Result (Judge w) Answer → Type 0
MakesJudge codes l (Ok j) = IsFreshJudge codes l j
MakesJudge codes l (Err answer) = IsRefusal (IsCount (length codes)) answer
