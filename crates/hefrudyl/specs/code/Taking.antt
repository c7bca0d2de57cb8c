-- What a handle makes of a session that was opened for it.
use Rattle.std.specs.Prelude.{◌≡◌, Option, Some, None, Result, Ok, Err}
use Rattle.tl_pictures.specs.declared.answer.Answer.{Answer}
use Rattle.tl_pictures.specs.statement.Answer.{IsBad, no_memory, ok}
use Rattle.tl_sessions.specs.declared.session.Session.{Session}

-- A full handle stays, and the call is bad input. An empty one takes the session, if it was opened and there is memory.
abbrev pub Takes : Result Session Answer → Option Session → Option Session → Answer → Type 0
Takes opened (Some session) new answer = IsBad answer (Some session) new
Takes (Err refused) None new answer = (answer ≡ refused) × (new ≡ None)
Takes (Ok session) None None answer = answer ≡ no_memory
Takes (Ok session) None (Some taken) answer = (answer ≡ ok) × (taken ≡ session)
