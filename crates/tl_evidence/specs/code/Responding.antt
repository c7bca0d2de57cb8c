-- The values that the bytes of a response may have, by its opcode.
use Rattle.std.specs.Prelude.{ℕ, find, Some}
use Rattle.tl_beat.specs.declared.beat.BeatD.{BeatD}
use Rattle.tl_beat.specs.declared.opcode.OpD.{OpD}
use Rattle.tl_beat.specs.declared.opcode.OpD.TheVariants as d
use Rattle.tl_bytes.specs.statement.Bytes.{is_of, pending_accesses}
use Rattle.tl_commits.specs.declared.responding.ResponseBytes.{ResponseBytes}
use Rattle.tl_commits.specs.statement.Completeness.{Completeness}
use Rattle.tl_commits.specs.statement.Copies.{link_beats}
use Rattle.tl_commits.specs.statement.Events.{Events, beats_of}
use Rattle.tl_commits.specs.code.Responding.{AreAnswered, AreGranted}
use Rattle.tl_rules.specs.statement.OpenMessages.{open_request}

-- these are the values of the bytes of a response with this opcode, whose bytes are judged
abbrev pub AreOf : {w : ℕ} → ResponseBytes → OpD → Completeness → ℕ → ℕ → BeatD w → Events w → Type 0
AreOf b d.GrantData complete n link x e =
    AreGranted (Some b) complete n link (open_request x.source (link_beats link e)) e
AreOf b d.AccessAckData complete n link x e =
    AreAnswered (Some b) complete n link (find (is_of link x.source) (pending_accesses (beats_of e))) e
AreOf b _ complete n link x e = ⊥
