-- An answer of few bytes stands for each answer of a client.
use Rattle.tl_client.proofs.Imports.{Beat, BeatD, Channel, Message, OpD, Rule}
use Rattle.tl_client.proofs.Imports.{block_at, ends, held_at, unfinished, request_of, payload_of}
use Rattle.tl_client.proofs.Imports.{Verdict, Stalled, Taken, EndConfig, Endpoint, with_past, copy_at}
use Rattle.tl_client.proofs.Imports.{asked, offered, judged, judged_later, taken, silent, responded, ended, granted, waits}
use Rattle.tl_client.proofs.Imports.{broken_before, broken_later, report_for, Op, Reply}
use Rattle.std.proofs.Common.{◌≡◌, ℕ, Bool, true, false, List, [], ◌∷◌, Option, Some, None, Result, Ok, Err, refl, subst, sym}
use Rattle.std.specs.Prelude.{if◌then◌else◌, is_some, unwrap_or, ⊤}
use Rattle.tl_beat.specs.declared.beat.Beat.TheVariants as beat
use Rattle.tl_beat.specs.declared.channel.Channel.TheVariants as channel
use Rattle.tl_beat.specs.declared.opcode.OpD.TheVariants as d
use Rattle.tl_client.specs.declared.answer.Answer.TheVariants as answer
use Rattle.tl_client.specs.declared.answer.Ending.TheVariants as ending
use Rattle.tl_client.specs.declared.reply.Reply.TheVariants as reply
use Rattle.tl_client.specs.laws.After.{IsStarted}
use Rattle.tl_client.specs.code.Telling.{bytes_of}
use Rattle.tl_client.specs.statement.Answer.{handed, IsTellable}
use Rattle.tl_client.specs.statement.Offer.{finish_of, address_asked}
use Rattle.tl_client.proofs.messages.Calls.{started-asked}

-- ---- each answer is one

abbrev pub IsTold : {w : ℕ} → Result (Verdict × Option (Message w)) Rule → Type 0
IsTold (Ok v) = IsTellable v.0 v.1
IsTold (Err rule) = ⊤

ended-told : {w : ℕ} (o : OpD) (x : BeatD w) (param size address : ℕ) (payload : List ℕ) (e : Endpoint w)
    → IsTold (ended o x (finish_of w o param size address payload) e).answer
ended-told d.AccessAck x param size address payload e = (answer.Ended x.source ending.Ack, [], refl)
ended-told {w} d.AccessAckData x param size address payload e =
    (answer.Ended x.source (ending.Data size), bytes_of (finish_of w d.AccessAckData param size address payload) [], refl)
ended-told d.HintAck x param size address payload e = (answer.Ended x.source ending.Hint, [], refl)
ended-told d.Grant x param size address payload e = (answer.Granted x.source _ x.sink, [], refl)
ended-told d.GrantData x param size address payload e = (answer.Granted x.source _ x.sink, [], refl)
ended-told d.ReleaseAck x param size address payload e = (answer.Ended x.source ending.Released, [], refl)

taken-told : {w : ℕ} (x : Beat w) (e : Endpoint w) → IsTold (taken x e).answer
taken-told (beat.A x) e = (answer.Taken, [], refl)
taken-told (beat.B x) e = (
  answer.Probed x.opcode (held_at e (block_at x.address)) (report_for x (held_at e (block_at x.address))) x.address,
  copy_at e (block_at x.address),
  refl,
)
taken-told (beat.C x) e = (answer.Taken, [], refl)
taken-told {w} (beat.D x) e = go (ends (beat.D x) e.past)
  where
    payload : List ℕ
    payload = payload_of (beat.D x ∷ unfinished channel.D e.past)

    go : (over : Bool) → IsTold (if over then responded x (request_of x.source e.past) payload e else silent Taken
        (with_past (beat.D x ∷ e.past) e)).answer
    go true = ended-told x.opcode x x.param x.size (address_asked (request_of x.source e.past)) payload
        (granted x.opcode (request_of x.source e.past) payload (with_past (beat.D x ∷ e.past) e))
    go false = (answer.Taken, [], refl)
taken-told (beat.E x) e = (answer.Taken, [], refl)

pub offered-told : {w : ℕ} (terms : EndConfig) (ch : Channel) (x : Beat w) (e : Endpoint w)
    → IsTold (offered terms ch x e).answer
unfolding offered
offered-told terms ch x e = before (broken_before terms ch x e)
  where
    later : (o : Option Rule) → IsTold (judged_later o x e).answer
    later (Some rule) = tt
    later None = taken-told x e

    waiting : (stays : Bool) → IsTold (if stays then silent Stalled e else judged_later (broken_later terms x e) x e).answer
    waiting true = (answer.Stalled, [], refl)
    waiting false = later (broken_later terms x e)

    before : (o : Option Rule) → IsTold (judged o terms x e).answer
    before (Some rule) = tt
    before None = waiting (waits x e.past)

-- an answer that was told of a beat
pub tellable : {w : ℕ} (terms : EndConfig) (ch : Channel) (x : Beat w) (e : Endpoint w) (v : Verdict)
    (m : Option (Message w)) → Ok (v, m) ≡ (offered terms ch x e).answer → IsTellable v m
tellable terms ch x e v m is = subst IsTold (sym is) (offered-told terms ch x e)

-- ---- the message of a reply

-- the message of an operation, by the reply: none where it didn't start
pub handed-asked : {w : ℕ} (terms : EndConfig) (op : Op w) (e : Endpoint w) (r : Reply) (m : Option (Message w)) (old : Message w)
    → r ≡ (asked terms op e).reply → m ≡ (asked terms op e).message → handed r (unwrap_or m old) ≡ m
handed-asked {w} terms op e r m old said given =
    go r m (rw (said, given) (started-asked terms op e))
  where
    go : (r : Reply) (m : Option (Message w)) → IsStarted r m e.past → handed r (unwrap_or m old) ≡ m
    go (reply.Started source) (Some m) is = refl
    go (reply.Started source) None is = absurd is
    go (reply.Value number) None is = refl
    go (reply.Value number) (Some m) is = absurd is
    go reply.Stored None is = refl
    go reply.Stored (Some m) is = absurd is
    go reply.Miss None is = refl
    go reply.Miss (Some m) is = absurd is
    go (reply.Busy why) None is = refl
    go (reply.Busy why) (Some m) is = absurd is

-- with a reply that starts nothing there is none
pub unhanded : {w : ℕ} (r : Reply) (m : Option (Message w)) (old : Message w) → is_some (handed r old) ≡ false
    → handed r (unwrap_or m old) ≡ m → handed r old ≡ m
unhanded (reply.Started source) m old none is = absurd cc
unhanded (reply.Value number) m old none is = is
unhanded reply.Stored m old none is = is
unhanded reply.Miss m old none is = is
unhanded (reply.Busy why) m old none is = is
