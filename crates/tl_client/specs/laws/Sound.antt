-- Facts about each message that a client hands out.
use Rattle.std.specs.Prelude.{ℕ, false, ◌≡◌, ◌<◌, ◌++◌, Option, Some, None, Result, Ok, Err, ⊤}
use Rattle.tl_burst.specs.declared.message.Message.{Message}
use Rattle.tl_burst.specs.declared.message.Message.TheVariants as message
use Rattle.tl_burst.specs.statement.Burst.{beats_of, beat_of, begun, IsBlankAfter}
use Rattle.tl_burst.specs.statement.Messages.{History, channel_of}
use Rattle.tl_params.specs.declared.level.Level.{Level}
use Rattle.tl_params.specs.declared.profile.Profile.{Profile}
use Rattle.tl_params.specs.declared.rule.Rule.{Rule}
use Rattle.tl_rules.specs.statement.Admission.{is_outside}
use Rattle.tl_rules.specs.statement.Conformance.{broken_in_order, broken_after}
use Rattle.tl_rules.specs.statement.Legality.{illegal_message}
use Rattle.tl_rules.specs.laws.Typed.{HasBlock}
use Rattle.tl_client.specs.declared.verdict.Verdict.{Verdict}

-- the corrupt bits of a message; 0 for a GrantAck
abbrev pub corrupt_in : {w : ℕ} → Message w → ℕ
corrupt_in (message.A m) = m.corrupt
corrupt_in (message.B m) = m.corrupt
corrupt_in (message.C m) = m.corrupt
corrupt_in (message.D m) = m.corrupt
corrupt_in (message.E m) = 0

-- the message breaks no L rule at this level, and no corrupt bit is set
pub record IsSound {w : ℕ} (l : Level) (m : Message w) : Type 0 where
  pub is_legal : illegal_message l (channel_of (beat_of m 0)) m ≡ None
  pub is_clean : corrupt_in m ≡ 0

-- the message is sound, if there is one
abbrev pub IsSoundIfAny : {w : ℕ} → Level → Option (Message w) → Type 0
IsSoundIfAny l None = ⊤
IsSoundIfAny l (Some m) = IsSound l m

-- the message that is handed out with an answer is sound, if there is one
abbrev pub IsSoundAnswer : {w : ℕ} → Level → Result (Verdict × Option (Message w)) Rule → Type 0
IsSoundAnswer l (Ok v) = IsSoundIfAny l v.1
IsSoundAnswer l (Err rule) = ⊤

-- its payload has 64 bytes, the parts that no beat carries are zero, and its address is inside the map
pub record IsProper {w : ℕ} (blocks : ℕ) (m : Message w) : Type 0 where
  pub has_block : HasBlock m
  pub is_blank : IsBlankAfter (beats_of m) m
  pub is_inside : is_outside blocks (beat_of m 0) ≡ false

-- the message is proper, if there is one
abbrev pub IsProperIfAny : {w : ℕ} → ℕ → Option (Message w) → Type 0
IsProperIfAny blocks None = ⊤
IsProperIfAny blocks (Some m) = IsProper blocks m

-- the message that is handed out with an answer is proper, if there is one
abbrev pub IsProperAnswer : {w : ℕ} → ℕ → Result (Verdict × Option (Message w)) Rule → Type 0
IsProperAnswer blocks (Ok v) = IsProperIfAny blocks v.1
IsProperAnswer blocks (Err rule) = ⊤

-- the first beat of the message breaks no rule of order after this history
abbrev pub IsInOrder : {w : ℕ} → Profile → Option (Message w) → History w → Type 0
IsInOrder p None t = ⊤
IsInOrder p (Some m) t = broken_in_order p (beat_of m 0) t ≡ None

-- no beat of the message breaks a rule after this history
abbrev pub IsLegalAfter : {w : ℕ} → Level → Profile → Option (Message w) → History w → Type 0
IsLegalAfter l p None t = ⊤
IsLegalAfter l p (Some m) t = (i : ℕ) → i < beats_of m → broken_after l p (beat_of m i) (begun m i ++ t) ≡ None
