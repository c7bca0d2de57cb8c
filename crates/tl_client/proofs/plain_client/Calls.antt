-- What the parts of a plain client's calls answer.
use Rattle.tl_client.proofs.Imports.{IsWidth, Beat, Message, beat_of, Rule, payload_of}
use Rattle.std.proofs.Common.{◌≡◌, ℕ, zero, suc, List, ◌∷◌, length, Ok, Err, sym}
use Rattle.std.specs.Prelude.{Result, OnOk, ⊤}
use Rattle.tl_burst.specs.declared.message.Message.TheVariants as message
use Rattle.tl_burst.specs.declared.message.MessageD.{MessageD}
use Rattle.tl_burst.specs.statement.Burst.{begun, IsBurst}
use Rattle.tl_burst.specs.statement.Part.{IsTakeable}
use Rattle.tl_rules.proofs.Payload.{payload-d}

-- ---- what is refused

pub takeable_response : {w : ℕ} (r : Result ⊤ Rule) (x : Beat w) → IsTakeable x → OnOk r (IsTakeable x)
takeable_response (Ok u) x takeable = takeable
takeable_response (Err rule) x takeable = tt

-- ---- a response that is complete

pub payload_here : {w : ℕ} (m : MessageD w) (beats : List (Beat w)) → IsWidth w → IsBurst (message.D m) beats
    → length m.payload ≡ 64 → m.payload ≡ payload_of beats
payload_here m beats is burst long = sym (payload-d m beats is long burst)

pub newest_of : {w : ℕ} (m : Message w) (x : Beat w) (burst : List (Beat w)) (n : ℕ) → (x ∷ burst) ≡ begun m n
    → (i : ℕ) × (x ≡ beat_of m i)
newest_of m x burst zero is = absurd cc
newest_of m x burst (suc i) is = (i, cc)
