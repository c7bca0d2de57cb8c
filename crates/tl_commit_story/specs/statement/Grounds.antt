-- The grounds for a breach of a rule: of one of stores and loads the permission held, the data under way, the last
-- stores, and the values of bytes; of one of beats those of a trace of beats, with the numbers of these lines.
use Rattle.std.specs.Prelude.{◌≡◌, ◌==◌, ◌+◌, ◌*◌, ◌++◌, ℕ, zero, suc, Bool, true, false, List, [], ◌∷◌, codes}
use Rattle.std.specs.Prelude.{Option, Some, None, if◌then◌else◌, length, slice_get}
use Rattle.tl_allowed.specs.statement.Allowed.{allowed_under}
use Rattle.tl_beat.specs.declared.beat.Beat.{Beat}
use Rattle.tl_beat.specs.declared.beat.Beat.TheVariants as beat
use Rattle.tl_beat.specs.declared.beat.BeatD.{BeatD}
use Rattle.tl_beat.specs.declared.beat.Link.{Link}
use Rattle.tl_beat.specs.declared.channel.Channel.TheVariants as channel
use Rattle.tl_beat.specs.statement.Digits.{digits}
use Rattle.tl_commit_lines.specs.statement.MarkedHeader.{MarkedLinks, complete_of, levels_of}
use Rattle.tl_commits.specs.statement.Completeness.{Completeness}
use Rattle.tl_commits.specs.statement.Events.{Events, beats_of}
use Rattle.tl_lines.specs.declared.fault.Fault.{Fault}
use Rattle.tl_lines.specs.declared.fault.Fault.TheVariants.{Rule as Breaks, MemoryRule as BreaksTogether, CommitRule}
use Rattle.tl_events.specs.declared.commit.Commit.TheVariants as commit
use Rattle.tl_events.specs.declared.commit.Event.{Event}
use Rattle.tl_events.specs.declared.commit.Event.TheVariants as event
use Rattle.tl_evidence.specs.statement.Convicted.{IsConvicted}
use Rattle.tl_evidence.specs.statement.CopyLines.{copy_lines}
use Rattle.tl_evidence.specs.statement.ResponseLines.{response_lines}
use Rattle.tl_explain.specs.statement.Sentences.{perm_name}
use Rattle.tl_links.specs.statement.Allowed.{allowed_line}
use Rattle.tl_params.specs.declared.level.Level.{Level}
use Rattle.tl_params.specs.declared.level.Level.TheVariants.{UL, UH, C}
use Rattle.tl_params.specs.declared.liberties.Liberties.{Liberties}
use Rattle.tl_params.specs.declared.memory_rule.MemoryRule.{MemoryRule}
use Rattle.tl_params.specs.declared.memory_rule.MemoryRule.TheVariants.{M1, M4}
use Rattle.tl_params.specs.declared.perm.Perm.{Perm}
use Rattle.tl_params.specs.declared.rule.Rule.{Rule}
use Rattle.tl_witness.specs.statement.Grounds.{grounds_text}
use Rattle.tl_witness.specs.statement.Naming.{Naming, as_recorded}
use Rattle.tl_commit_story.specs.declared.cached.Cached.{Cached}
use Rattle.tl_commit_story.specs.statement.BeatLines.{event_names}
use Rattle.tl_commit_story.specs.statement.Cached.{Stored, begun_by, block_of, came, cited, held_since, holding}
use Rattle.tl_commit_story.specs.statement.Cached.{last_store, places_of}
use Rattle.tl_commit_story.specs.statement.Numbered.{numbered}
use Rattle.tl_commit_story.specs.statement.Words.{commit_text, sentence_of}

-- ---- the permission held

-- since an event with these words, or since the start of the trace if there are none
abbrev pub since_words : List ℕ → List ℕ
since_words [] = codes " since the start of the trace\n"
since_words (b ∷ words) = codes " since:\n" ++ (b ∷ words)

-- the link holds this permission of the block
abbrev pub holds_words : Cached → Perm → List ℕ
holds_words c perm =
    codes "  link " ++ (digits 2 c.link.0 ++ (codes " holds " ++ (perm_name perm
    ++ (codes " of block " ++ digits 8 (64 * c.block)))))

-- ---- data under way

-- data are under way since a beat with these words, if there are any
abbrev pub begun_words : List ℕ → List ℕ → List ℕ
begun_words label [] = []
begun_words label (b ∷ words) = label ++ (b ∷ words)

-- ---- stores

-- the words of a store, unless it is the one of line n
abbrev pub store_words : ℕ → Option Stored → List ℕ
store_words n None = []
store_words n (Some s) = if s.number == n then [] else commit_text s.number s.link (commit.Store s.piece s.value)

-- the number of its line, or n if there is no store
abbrev pub number_or : ℕ → Option Stored → ℕ
number_or n None = n
number_or n (Some s) = s.number

-- The stores to as many bytes from a place on, by the last one to each. One that reached several bytes in a row is listed
-- once. Line n is the last that was listed.
unfoldable pub stores_from : (ℕ → Option Stored) → ℕ → ℕ → ℕ → List ℕ
stores_from last place zero n = []
stores_from last place (suc count) n =
    store_words n (last place) ++ stores_from last (place + 1) count (number_or n (last place))

-- these stores, if there are any
abbrev pub stored_words : List ℕ → List ℕ
stored_words [] = codes "  no store before it reached these bytes\n"
stored_words (b ∷ words) = codes "  the last stores to these bytes:\n" ++ (b ∷ words)

-- ---- all grounds

-- The grounds, for an event that is about the bytes at these places, after the events of e.
unfoldable pub grounds_at : {w : ℕ} → Liberties → List Level → Cached → ℕ × ℕ → Events w → List ℕ
grounds_at may levels c places e =
    holds_words c (holding may levels c e) ++ (since_words (held_since may levels c e)
    ++ (begun_words (codes "  a GrantData of the block is under way since:\n") (begun_by channel.D levels c e)
    ++ (begun_words (codes "  a ProbeAckData or ReleaseData of the block is under way since:\n") (begun_by channel.C levels c e)
    ++ stored_words (stores_from (λ place. last_store c.block place e) places.0 places.1 0))))

-- the block that an event of a link is about
abbrev pub cached_by : {w : ℕ} → Link → Event w → Cached
cached_by link x = record { link = link; block = block_of x }

-- the grounds for the breach of a rule of stores and loads by an event of a link
abbrev pub copy_grounds : {w : ℕ} → Liberties → List Level → Link → Event w → Events w → List ℕ
copy_grounds may levels link x e =
    grounds_at may levels (cached_by link x) (places_of (came channel.C (cached_by link x) e) x) e

-- ---- rules of a link

-- the words for a commit of a link without a cache
abbrev pub no_cache_words : Option Level → List ℕ
no_cache_words None = codes "  the header names no such link\n"
no_cache_words (Some UL) =
    codes "  the link is of level UL; stores and loads are those of caches, on links of level C\n"
no_cache_words (Some UH) =
    codes "  the link is of level UH; stores and loads are those of caches, on links of level C\n"
no_cache_words (Some C) = []

-- the line that names the liberties of which each alone would allow a beat, if each link is judged by itself
abbrev pub allowance : {w : ℕ} → Bool → List Level → Liberties → Link → Beat w → Events w → List ℕ
allowance true levels may link x e = []
allowance false levels may link x e = allowed_line (allowed_under may levels (link, x) (beats_of e))

-- A beat breaks the rule of its link: by itself, or by a reason whose claim is true of the beats before it, each on the
-- line that is cited. Its grounds end with the liberties that would allow it. Those of a commit are that its link has no
-- cache.
abbrev pub AreLinkGrounds : {w : ℕ} → Bool → Rule → Liberties → List Level → Link → Event w → Events w → List ℕ
    → Type 0
AreLinkGrounds together rule may levels link (event.Beat x) e grounds =
    IsConvicted may (slice_get levels link.0) link rule x (numbered e)
    × ((evidence : List ℕ) × (grounds ≡ evidence ++ allowance together levels may link x e))
AreLinkGrounds together rule may levels link (event.Commit x) e grounds =
    grounds ≡ no_cache_words (slice_get levels link.0)

-- ---- rules of memory

-- The lines for a response that breaks M1 or M4: those for the beats alone, with the lines of these events. For M2 and M3
-- the bytes that it can't have, with all that each may be and the line that set each value. Lines and addresses are named
-- so.
abbrev pub response_grounds : {w : ℕ} → Naming → MemoryRule → Completeness → ℕ → Link → BeatD w → Events w → List ℕ
response_grounds names M1 complete n link x e = grounds_text (event_names names e) M1 n link.0 x (beats_of e)
response_grounds names M4 complete n link x e = grounds_text (event_names names e) M4 n link.0 x (beats_of e)
response_grounds names _ complete n link x e = response_lines names complete n link.0 x e

-- no other event breaks such a rule
abbrev pub memory_grounds : {w : ℕ} → Naming → MemoryRule → Completeness → ℕ → Link → Event w → Events w → List ℕ
memory_grounds names rule complete n link (event.Beat (beat.D x)) e = response_grounds names rule complete n link x e
memory_grounds names rule complete n link _ e = []

-- ---- all rules

-- these are the grounds for the fault of an event after those of e
abbrev pub AreGrounds : {w : ℕ} → Bool → Fault → Liberties → MarkedLinks → Link → Event w → Events w → List ℕ
    → Type 0
AreGrounds together (Breaks rule) may links link x e grounds =
    AreLinkGrounds together rule may (levels_of links) link x e grounds
AreGrounds together (CommitRule rule) may links link x e grounds =
    grounds ≡ copy_grounds may (levels_of links) link x e
    ++ copy_lines as_recorded rule (complete_of links) (length (levels_of links)) link.0 x e
AreGrounds together (BreaksTogether rule) may links link x e grounds =
    grounds ≡ memory_grounds as_recorded rule (complete_of links) (length (levels_of links)) link x e
AreGrounds together _ may links link x e grounds = grounds ≡ []

-- The reasons begin with the sentence of the rule that the event breaks, and the event.
abbrev pub front_of : {w : ℕ} → Fault → Link → Event w → Events w → List ℕ
front_of fault link x e = codes "  " ++ (sentence_of fault ++ cited link x e)
