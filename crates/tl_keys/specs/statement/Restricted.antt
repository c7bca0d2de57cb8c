-- The part of a link's history with one source, one sink or one block.
use Rattle.std.specs.Prelude.{ℕ, Bool, false, not, [], ◌∷◌, ◌==◌, if◌then◌else◌}
use Rattle.tl_beat.specs.declared.beat.Beat.{Beat}
use Rattle.tl_beat.specs.declared.beat.Beat.TheVariants as beat
use Rattle.tl_burst.specs.statement.Messages.{History, channel_of, unfinished}
use Rattle.tl_burst.specs.statement.Part.{is_empty}
use Rattle.tl_rules.specs.statement.History.{asks_for, begins, block_at, grant_sink, is_release_ack, is_sink, release_of}
use Rattle.tl_rules.specs.statement.History.{releases, request_of}

-- a source, a sink or a block
pub data Name : Type 0 where
  OfSource : ℕ → Name
  OfSink : ℕ → Name
  OfBlock : ℕ → Name

-- A message that begins with this beat after t has this source, sink or block: by its fields, a response by the request
-- or Release that it answers, a GrantAck by the Grant that it acknowledges.
abbrev pub names : {w : ℕ} → Name → Beat w → History w → Bool
names (OfSource s) (beat.A x) t = x.source == s
names (OfSource s) (beat.C x) t = x.source == s
names (OfSource s) (beat.D x) t = x.source == s
names (OfSink k) (beat.D x) t = x.sink == k
names (OfSink k) (beat.E x) t = x.sink == k
names (OfBlock b) (beat.A x) t = block_at x.address == b
names (OfBlock b) (beat.B x) t = block_at x.address == b
names (OfBlock b) (beat.C x) t = block_at x.address == b
names (OfBlock b) (beat.D x) t =
    if is_release_ack x.opcode then releases b (release_of x.source t) else asks_for b (request_of x.source t)
names (OfBlock b) (beat.E x) t = is_sink x.sink (grant_sink b t)
names _ _ t = false

-- The beat is kept after t, of which the beats `kept` are kept. A beat that begins a message is kept if the message has
-- the source, sink or block. A later beat is kept if the first beat of its message is.
abbrev pub is_kept : {w : ℕ} → Name → Beat w → History w → History w → Bool
is_kept n x t kept = if begins x t then names n x t else not (is_empty (unfinished (channel_of x) kept))

-- the beats of the messages with this source, sink or block
unfoldable pub restricted : {w : ℕ} → Name → History w → History w
restricted n [] = []
restricted n (x ∷ t) = if is_kept n x t (restricted n t) then x ∷ restricted n t else restricted n t
