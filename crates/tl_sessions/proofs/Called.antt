-- Calls of a client and of a manager by the fields that C shows.
use mir.Val.{bool_byte}
use Rattle.std.proofs.Common.{◌≡◌, ℕ, Bool, true, false, refl, subst}
use Rattle.std.specs.Prelude.{Some}
use Rattle.tl_beat.specs.declared.beat.Beat.{Beat}
use Rattle.tl_beat.specs.declared.beat.Link.{Link}
use Rattle.tl_client.specs.declared.operation.Op.{Op}
use Rattle.tl_ports.specs.declared.client.ClientPort.{ClientPort}
use Rattle.tl_ports.specs.declared.manager.ManagerPort.{ManagerPort}
use Rattle.tl_pictures.specs.declared.answer.Answer.{Answer}
use Rattle.tl_pictures.specs.declared.operation.Operation.{Operation}
use Rattle.tl_pictures.specs.declared.outcome.Outcome.{Outcome}
use Rattle.tl_pictures.specs.declared.outcome.Reception.{Reception}
use Rattle.tl_pictures.specs.declared.picture.Picture.{Picture}
use Rattle.tl_sessions.specs.statement.Client.{Asked, AskedFor, OfferedOf, OfferedBeat}
use Rattle.tl_sessions.specs.statement.Manager.{Admitted, AdmittedBeat}
use Rattle.tl_pictures.specs.statement.Codes.{link_at}
use Rattle.tl_pictures.specs.statement.Depicted.{flag}
use Rattle.tl_pictures.specs.statement.Operation.{asked_for}
use Rattle.tl_pictures.specs.statement.Picture.{shown}

pub asked_as : {w : ℕ} (old new : ClientPort w) (x : Operation) (operation : Op w) (was outcome : Outcome)
    (answer : Answer)
    → Some operation ≡ asked_for w x → AskedFor old new (Some operation) was outcome answer
    → Asked w old new x was outcome answer
asked_as old new x operation was outcome answer e h = subst (λ o. AskedFor old new o was outcome answer) e h

pub offered_as : {w : ℕ} (old new : ClientPort w) (x : Picture) (beat : Beat w) (was reception : Reception)
    (answer : Answer)
    → Some beat ≡ shown w x → OfferedBeat old new (Some beat) was reception answer
    → OfferedOf w old new x was reception answer
offered_as old new x beat was reception answer e h = subst (λ o. OfferedBeat old new o was reception answer) e h

pub admitted_as : {w : ℕ} (old new : ManagerPort w) (code : ℕ) (x : Picture) (link : Link) (beat : Beat w)
    (was taken : ℕ) (answer : Answer)
    → Some link ≡ link_at code → Some beat ≡ shown w x → AdmittedBeat old new (Some link) (Some beat) was taken answer
    → Admitted w old new code x was taken answer
admitted_as old new code x link beat was taken answer e f h =
    subst (λ o. AdmittedBeat old new (link_at code) o was taken answer) f
    (subst (λ l. AdmittedBeat old new l (Some beat) was taken answer) e h)

pub byte_flag : (b : Bool) → bool_byte b ≡ flag b
byte_flag true = refl
byte_flag false = refl
