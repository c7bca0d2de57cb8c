-- The lines about bytes that a response has and can't have, in a trace with commits.
use Rattle.std.specs.Prelude.{ℕ, [], List, find, Option, Some, None}
use Rattle.tl_beat.specs.declared.beat.Beat.TheVariants as beat
use Rattle.tl_beat.specs.declared.beat.BeatD.{BeatD}
use Rattle.tl_beat.specs.declared.opcode.OpD.{OpD}
use Rattle.tl_beat.specs.declared.opcode.OpD.TheVariants as d
use Rattle.tl_bytes.specs.statement.Bytes.{Access, is_of, pending_accesses}
use Rattle.tl_commits.specs.statement.Completeness.{Completeness}
use Rattle.tl_commits.specs.statement.Copies.{link_beats}
use Rattle.tl_commits.specs.statement.Events.{Events, beats_of}
use Rattle.tl_commits.specs.statement.ResponseBytes.{answered_from, granted_from, may_be_answered, may_be_granted}
use Rattle.tl_rules.specs.declared.past.Request.{Request}
use Rattle.tl_rules.specs.statement.Admission.{lanes_of}
use Rattle.tl_rules.specs.statement.OpenMessages.{open_request}
use Rattle.tl_witness.specs.statement.Naming.{Naming}
use Rattle.tl_witness.specs.statement.Strays.{strays_text}
use Rattle.tl_evidence.specs.statement.CopyLines.{set_in_copy}

-- M2: the bytes of a beat of a GrantData that answers this request, which they can't have had at its first beat, each with
-- all that it may have had
abbrev pub granted_lines : {w : ℕ} → Naming → Completeness → ℕ → ℕ → BeatD w → Option Request → Events w → List ℕ
granted_lines names complete n link x None e = []
granted_lines names complete n link x (Some asked) e =
    strays_text names (may_be_granted complete n link e) (set_in_copy complete n link e) 0
    (granted_from link asked e) (lanes_of (beat.D x))

-- M3: the bytes of a beat of the answer to this access, which it can't have found by then, each with all that it may have
-- found
abbrev pub answered_lines : {w : ℕ} → Naming → Completeness → ℕ → ℕ → BeatD w → Option (Access w) → Events w → List ℕ
answered_lines names complete n link x None e = []
answered_lines names complete n link x (Some access) e =
    strays_text names (may_be_answered complete n link access e) (set_in_copy complete n link e) 0
    (answered_from link access e) (lanes_of (beat.D x))

-- the bytes of a beat of a response with this opcode
abbrev pub bytes_lines : {w : ℕ} → Naming → OpD → Completeness → ℕ → ℕ → BeatD w → Events w → List ℕ
bytes_lines names d.GrantData complete n link x e =
    granted_lines names complete n link x (open_request x.source (link_beats link e)) e
bytes_lines names d.AccessAckData complete n link x e =
    answered_lines names complete n link x (find (is_of link x.source) (pending_accesses (beats_of e))) e
bytes_lines names _ complete n link x e = []

-- the lines for a beat of a response on one of n links
abbrev pub response_lines : {w : ℕ} → Naming → Completeness → ℕ → ℕ → BeatD w → Events w → List ℕ
response_lines names complete n link x e = bytes_lines names x.opcode complete n link x e
