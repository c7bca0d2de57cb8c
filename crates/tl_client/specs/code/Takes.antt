-- How a beat that a caching client takes changes its state.
use Rattle.std.specs.Prelude.{ℕ, Bool, true, false, not, List, [], ◌∷◌, ◌≡◌, ◌<◌, ◌==◌, ◌&&◌, if◌then◌else◌, IfSome}
use Rattle.std.specs.Prelude.{Option, Some, None, Result, Ok, Err, ⊤}
use Rattle.tl_beat.specs.declared.beat.Beat.{Beat}
use Rattle.tl_beat.specs.declared.beat.Beat.TheVariants as beat
use Rattle.tl_beat.specs.declared.beat.BeatB.{BeatB}
use Rattle.tl_beat.specs.declared.beat.BeatD.{BeatD}
use Rattle.tl_beat.specs.declared.channel.Channel.{Channel}
use Rattle.tl_beat.specs.declared.opcode.OpD.{OpD}
use Rattle.tl_beat.specs.declared.opcode.OpD.TheVariants as d
use Rattle.tl_burst.specs.declared.message.Message.{Message}
use Rattle.tl_params.specs.statement.Param.{report_right}
use Rattle.tl_params.specs.declared.param.Report.{Report}
use Rattle.tl_params.specs.declared.rule.Rule.{Rule}
use Rattle.tl_burst.specs.statement.Part.{completes}
use Rattle.tl_rules.specs.statement.History.{block_at, capped, is_grant, is_release_ack}
use Rattle.tl_client.specs.declared.caching.Caching.{Caching}
use Rattle.tl_client.specs.declared.caching.Granting.{Granting}
use Rattle.tl_client.specs.declared.request.Request.{Request}
use Rattle.tl_client.specs.declared.verdict.Verdict.{Verdict}
use Rattle.tl_client.specs.declared.verdict.Verdict.TheVariants.{Stalled, Taken}
use Rattle.tl_client.specs.code.Caching.{bytes_in}
use Rattle.tl_client.specs.statement.Endpoint.{EndConfig, Endpoint}
use Rattle.tl_client.specs.statement.EndpointInvariant.{holds, is_acquire_perm}
use Rattle.tl_client.specs.code.KnowsCaching.{caching_terms}
use Rattle.tl_client.specs.statement.Offer.{report_for, offered, refused, silent, waits, broken_before, broken_later}
use Rattle.tl_client.specs.statement.Send.{probe_ack, grant_ack}
use Rattle.tl_client.specs.code.Response.{Response, in_beats, done_with}
use Rattle.tl_client.specs.code.Sources.{open_at}
use Rattle.tl_client.specs.code.Table.{held_in, copy_in, waiting_in}

-- ---- Probes

-- the report with which a Probe is answered
abbrev pub report_by : {w : ℕ} → Caching w → BeatB w → Report
report_by c x = report_for x (held_in c.table (block_at x.address))

-- the Probe was answered, and its permission fell
pub record Probes {w : ℕ} (c d : Caching w) (x : BeatB w) (r : Verdict × Option (Message w)) : Type 0 where
  pub answer : r ≡ (
    Taken,
    Some (probe_ack x.opcode (held_in c.table (block_at x.address)) (report_by c x)
        (block_at x.address) (bytes_in c (block_at x.address))),
  )
  pub holdings : (k : ℕ) → held_in d.table k ≡ (if k == block_at x.address then report_right (report_by c x) else
      held_in c.table k)
  pub copies : (k : ℕ) → copy_in d.table k ≡ (if (k == block_at x.address) && not (holds (report_right (report_by c x)))
      then None else copy_in c.table k)
  pub waiting : (k : ℕ) → waiting_in d.table k ≡ waiting_in c.table k
  pub requests : d.requests ≡ c.requests
  pub releases : d.releases ≡ c.releases
  pub response : d.responses ≡ c.responses
  pub granting : d.granting ≡ c.granting
  pub closed : d.closed ≡ c.closed
  pub terms : caching_terms d ≡ caching_terms c

-- ---- complete responses

-- the request is for the block
abbrev pub is_for : ℕ → Option Request → Bool
is_for k None = false
is_for k (Some r) = k == block_at r.address

abbrev pub copy_after : OpD → Option Request → List ℕ → ℕ → Option (List ℕ) → Option (List ℕ) → Option (List ℕ)
copy_after d.GrantData (Some r) payload k copy waiting = if k == block_at r.address then Some payload else copy
copy_after d.Grant (Some r) payload k copy waiting = if (k == block_at r.address) && is_acquire_perm r.opcode then
    waiting else copy
copy_after _ _ payload k copy waiting = copy

abbrev pub waiting_after : OpD → Option Request → ℕ → Option (List ℕ) → Option (List ℕ)
waiting_after d.Grant (Some r) k waiting = if (k == block_at r.address) && is_acquire_perm r.opcode then None else
    waiting
waiting_after _ _ k waiting = waiting

abbrev pub ack_after : {w : ℕ} → OpD → ℕ → Option (Message w)
ack_after d.Grant sink = Some (grant_ack sink)
ack_after d.GrantData sink = Some (grant_ack sink)
ack_after _ sink = None

-- a Grant with these fields to this request took effect, if its block is one of the map
pub record Grants {w : ℕ} (c d : Caching w) (m : Response) (r : Request) : Type 0 where
  pub holdings : block_at r.address < c.blocks → (k : ℕ)
      → held_in d.table k ≡ (if k == block_at r.address then capped m.param else held_in c.table k)
  pub copies : block_at r.address < c.blocks → (k : ℕ) → copy_in d.table k ≡ copy_after m.opcode (Some r) m.payload k
      (copy_in c.table k) (waiting_in c.table k)
  pub waiting : block_at r.address < c.blocks → (k : ℕ) → waiting_in d.table k ≡ waiting_after m.opcode (Some r) k
      (waiting_in c.table k)
  pub requests : d.requests ≡ c.requests
  pub releases : d.releases ≡ c.releases
  pub response : d.responses ≡ c.responses
  pub granting : d.granting ≡ c.granting
  pub closed : d.closed ≡ c.closed
  pub terms : caching_terms d ≡ caching_terms c

-- if the response is a Grant, its request is for a block of the map
abbrev pub GrantsInside : {w : ℕ} → Caching w → Response → Type 0
GrantsInside c m = is_grant m.opcode ≡ true → IfSome (open_at c.requests m.source) (λ r. block_at r.address < c.blocks)

-- the response is complete: what it answers isn't open any more, and a Grant took effect
pub record Finishes {w : ℕ} (c d : Caching w) (m : Response) (r : Verdict × Option (Message w)) : Type 0 where
  pub answer : r ≡ (done_with m w (open_at c.requests m.source), ack_after m.opcode m.sink)
  pub holdings : (k : ℕ) → held_in d.table k ≡ (if is_grant m.opcode && is_for k (open_at c.requests m.source) then
      capped m.param else held_in c.table k)
  pub copies : (k : ℕ) → copy_in d.table k ≡ copy_after m.opcode (open_at c.requests m.source) m.payload k
      (copy_in c.table k) (waiting_in c.table k)
  pub waiting : (k : ℕ) → waiting_in d.table k ≡ waiting_after m.opcode (open_at c.requests m.source) k
      (waiting_in c.table k)
  pub requests : (s : ℕ) → open_at d.requests s ≡ (if not (is_release_ack m.opcode) && (m.source == s) then None else
      open_at c.requests s)
  pub releases : (s : ℕ) → open_at d.releases s ≡ (if is_release_ack m.opcode && (m.source == s) then None else open_at
      c.releases s)
  pub closed : d.closed ≡ c.closed
  pub terms : caching_terms d ≡ caching_terms c

-- ---- beats of a response

abbrev pub granting_to : {w : ℕ} → BeatD w → Option Request → Option Granting
granting_to x None = None
granting_to x (Some r) = Some (record { block = block_at r.address; sink = x.sink })

-- the Grant that a beat leaves unfinished
abbrev pub granting_by : {w : ℕ} → Caching w → BeatD w → Option Granting
granting_by c x = if is_grant x.opcode then granting_to x (open_at c.requests x.source) else None

-- a beat that doesn't complete its response
pub record Goes {w : ℕ} (c d : Caching w) (x : BeatD w) (r : Verdict × Option (Message w)) : Type 0 where
  pub answer : r ≡ (Taken, None)
  pub table : d.table ≡ c.table
  pub requests : d.requests ≡ c.requests
  pub releases : d.releases ≡ c.releases
  pub response : d.responses ≡ beat.D x ∷ c.responses
  pub granting : d.granting ≡ granting_by c x
  pub closed : d.closed ≡ c.closed
  pub terms : caching_terms d ≡ caching_terms c

-- a beat that completes its response
pub record Ends {w : ℕ} (c d : Caching w) (x : BeatD w) (r : Verdict × Option (Message w)) : Type 0 where
  pub finishes : Finishes c d (in_beats x c.responses) r
  pub response : d.responses ≡ []
  pub granting : d.granting ≡ None

-- ---- any beat that comes

-- the beat was taken
abbrev pub Takes : {w : ℕ} → Caching w → Caching w → Beat w → Verdict × Option (Message w) → Type 0
Takes c d (beat.B x) r = Probes c d x r
Takes c d (beat.D x) r =
    (completes (beat.D x) c.responses ≡ false → Goes c d x r)
    × (completes (beat.D x) c.responses ≡ true → GrantsInside c (in_beats x c.responses) → Ends c d x r)
Takes c d _ r = ⊤

-- what is judged of a beat: the rule that it breaks, that it has to wait, or that it is taken
abbrev pub IsJudged : {w : ℕ} → EndConfig → Channel → Beat w → Endpoint w → Result Bool Rule → Type 0
IsJudged terms ch x e (Err rule) = offered terms ch x e ≡ refused rule e
IsJudged terms ch x e (Ok true) = offered terms ch x e ≡ silent Stalled e
IsJudged terms ch x e (Ok false) = (broken_before terms ch x e ≡ None) × (waits x e.past ≡ false)
    × (broken_later terms x e ≡ None)
