-- What a call on one of several clients does.
use Rattle.std.specs.Prelude.{ℕ, List, ◌≡◌, ◌≢◌, length, slice_index_or, Option, Result}
use Rattle.tl_beat.specs.declared.beat.Beat.{Beat}
use Rattle.tl_beat.specs.declared.channel.Channel.{Channel}
use Rattle.tl_burst.specs.declared.message.Message.{Message}
use Rattle.tl_params.specs.declared.rule.Rule.{Rule}
use Rattle.tl_client.specs.declared.operation.Op.{Op}
use Rattle.tl_client.specs.declared.reply.Reply.{Reply}
use Rattle.tl_client.specs.declared.verdict.Verdict.{Verdict}
use Rattle.tl_client.specs.statement.Ask.{asked}
use Rattle.tl_client.specs.statement.Endpoint.{EndConfig, Endpoint}
use Rattle.tl_client.specs.statement.Offer.{offered}

-- client i was asked, and the others are as before
pub record IsAsked {w : ℕ} {A : Type 0} (knows : A → Endpoint w → Type 0) (terms : A → EndConfig) (old new : List A)
    (i : ℕ) (op : Op w) (answer : Reply × Option (Message w)) : Type 0 where
  pub reply : (e : Endpoint w) (d : A) → knows (slice_index_or old i d) e
      → answer.0 ≡ (asked (terms (slice_index_or old i d)) op e).reply
  pub message : (e : Endpoint w) (d : A) → knows (slice_index_or old i d) e
      → answer.1 ≡ (asked (terms (slice_index_or old i d)) op e).message
  pub after : (e : Endpoint w) (d : A) → knows (slice_index_or old i d) e
      → knows (slice_index_or new i d) (asked (terms (slice_index_or old i d)) op e).after
  pub same_terms : (d : A) → terms (slice_index_or new i d) ≡ terms (slice_index_or old i d)
  pub others : (k : ℕ) (d : A) → k ≢ i → slice_index_or new k d ≡ slice_index_or old k d
  pub same_number : length new ≡ length old

-- client i was offered a beat, and the others are as before
pub record IsOffered {w : ℕ} {A : Type 0} (knows : A → Endpoint w → Type 0) (terms : A → EndConfig) (old new : List A)
    (i : ℕ) (ch : Channel) (x : Beat w)
    (answer : Result (Verdict × Option (Message w)) Rule) : Type 0 where
  pub answer_is : (e : Endpoint w) (d : A) → knows (slice_index_or old i d) e
      → answer ≡ (offered (terms (slice_index_or old i d)) ch x e).answer
  pub after : (e : Endpoint w) (d : A) → knows (slice_index_or old i d) e
      → knows (slice_index_or new i d) (offered (terms (slice_index_or old i d)) ch x e).after
  pub same_terms : (d : A) → terms (slice_index_or new i d) ≡ terms (slice_index_or old i d)
  pub others : (k : ℕ) (d : A) → k ≢ i → slice_index_or new k d ≡ slice_index_or old k d
  pub same_number : length new ≡ length old
