-- The arguments from which C makes a client, and the state of a new client.
use Rattle.std.specs.Prelude.{ℕ, Bool, ◌&&◌, ◌≡◌, [], nat_lt, nat_le, None, Result, Ok, Err}
use Rattle.tl_beat.specs.declared.channel.Channel.{Channel}
use Rattle.tl_client.specs.code.KnowsAny.{KnowsAny, any_terms}
use Rattle.tl_client.specs.statement.Endpoint.{fresh}
use Rattle.tl_ports.specs.declared.client.ClientPort.{ClientPort}
use Rattle.tl_ports.specs.statement.Client.{to_send}
use Rattle.tl_pictures.specs.declared.answer.Answer.{Answer}
use Rattle.tl_params.specs.statement.Config.{client_fault}
use Rattle.tl_sessions.specs.statement.Opened.{IsRefusal}
use Rattle.tl_pictures.specs.statement.Codes.{level_at, profile_at, is_width, is_profile}

-- the arguments fit: a level, 1 to 1,024 blocks, 1 to 8 sources, a width and a profile
abbrev pub may_open_client : ℕ → ℕ → ℕ → ℕ → ℕ → Bool
may_open_client level blocks sources width profile =
    nat_lt level 3 && nat_le 1 blocks && nat_le blocks 1024 && nat_le 1 sources && nat_le sources 8
    && is_width width && is_profile profile

-- a new client has these terms, has sent and taken nothing, and has nothing to send
abbrev pub IsFreshClient : {w : ℕ} → ℕ → ℕ → ℕ → ℕ → ClientPort w → Type 0
IsFreshClient level blocks sources profile port =
    KnowsAny port.client fresh
    × (any_terms port.client
    ≡ record { level = level_at level; profile = profile_at profile; sources = sources; blocks = blocks })
    × ((ch : Channel) → to_send ch port ≡ [])

-- the result of making a client: a new one, or a refusal
abbrev pub MakesClient : {w : ℕ} → ℕ → ℕ → ℕ → ℕ → Result (ClientPort w) Answer → Type 0
MakesClient level blocks sources profile (Ok port) = IsFreshClient level blocks sources profile port
MakesClient level blocks sources profile (Err answer) =
    IsRefusal (client_fault (record { level = level_at level; sources = sources }) blocks ≡ None) answer
