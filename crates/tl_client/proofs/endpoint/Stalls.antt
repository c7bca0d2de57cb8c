-- A beat is stalled exactly where it is answered so.
use Rattle.tl_client.proofs.Imports.{Beat, BeatD, Channel, OpD, Rule, ends, Finish, Stalled, Taken, EndConfig, Endpoint}
use Rattle.tl_client.proofs.Imports.{with_past, Offered, offered, stalls, broken_before, broken_later, waits, taken}
use Rattle.tl_client.proofs.Imports.{ended, silent, judged, judged_later}
use Rattle.std.proofs.Common.{◌≡◌, Bool, true, false, cond, ◌&&◌, ◌∷◌, Option, Some, None, refl, sym}
use Rattle.std.specs.Prelude.{ℕ, is_none}
use Rattle.tl_beat.specs.declared.beat.Beat.TheVariants.{A, B, C, D, E}
use Rattle.tl_beat.specs.declared.opcode.OpD.TheVariants as d
use Rattle.tl_client.specs.statement.Offer.{is_stalled}

ended_now : {w : ℕ} (opcode : OpD) (x : BeatD w) (f : Finish) (e : Endpoint w)
    → is_stalled (ended opcode x f e).answer ≡ false
ended_now d.AccessAck x f e = refl
ended_now d.AccessAckData x f e = refl
ended_now d.HintAck x f e = refl
ended_now d.Grant x f e = refl
ended_now d.GrantData x f e = refl
ended_now d.ReleaseAck x f e = refl

pub taken_now : {w : ℕ} (x : Beat w) (e : Endpoint w) → is_stalled (taken x e).answer ≡ false
taken_now (A x) e = refl
taken_now (B x) e = refl
taken_now (C x) e = refl
taken_now (E x) e = refl
taken_now {w} (D x) e = go (ends (D x) e.past) _ (ended_now x.opcode x _ _)
  where
    go : (b : Bool) (o : Offered w) → is_stalled o.answer ≡ false
        → is_stalled (cond b o (silent Taken (with_past (D x ∷ e.past) e))).answer ≡ false
    go true o last = last
    go false o last = refl

judged_now : {w : ℕ} (o : Option Rule) (x : Beat w) (e : Endpoint w) → is_stalled (judged_later o x e).answer ≡ false
judged_now (Some r) x e = refl
judged_now None x e = taken_now x e

before_now : {w : ℕ} (o : Option Rule) (terms : EndConfig) (x : Beat w) (e : Endpoint w)
    → (is_none o && waits x e.past) ≡ is_stalled (judged o terms x e).answer
before_now (Some r) terms x e = refl
before_now {w} None terms x e = go (waits x e.past)
  where
    go : (b : Bool) → b ≡ is_stalled (cond b (silent Stalled e) (judged_later (broken_later terms x e) x e)).answer
    go true = refl
    go false = sym (judged_now (broken_later terms x e) x e)

pub stalls-offered : {w : ℕ} (terms : EndConfig) (ch : Channel) (x : Beat w) (e : Endpoint w)
    → stalls terms ch x e ≡ is_stalled (offered terms ch x e).answer
unfolding stalls offered
stalls-offered terms ch x e = before_now (broken_before terms ch x e) terms x e
