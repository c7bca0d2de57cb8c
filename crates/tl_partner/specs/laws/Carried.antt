-- The beats that the links carried, compared with the end of a manager whose clients have liberties.
use Rattle.std.specs.Prelude.{ℕ, Bool, true, false, List, [], ◌≡◌, ◌∷◌, ◌++◌, map, length, slice_index_or, ⊤, Option}
use Rattle.std.specs.Prelude.{Some, None}
use Rattle.tl_beat.specs.declared.beat.Beat.{Beat}
use Rattle.tl_beat.specs.declared.beat.Beat.TheVariants as beat
use Rattle.tl_beat.specs.declared.beat.BeatB.{BeatB}
use Rattle.tl_beat.specs.declared.beat.BeatC.{BeatC}
use Rattle.tl_beat.specs.declared.beat.Link.{Link}
use Rattle.tl_beat.specs.declared.channel.Channel.TheVariants as channel
use Rattle.tl_burst.specs.statement.Messages.{History, unfinished}
use Rattle.tl_params.specs.declared.config.Config.{Config}
use Rattle.tl_params.specs.declared.key.Key.TheVariants.{AcquireOf, GrantSink, ProbeOf, RequestSource}
use Rattle.tl_rules.specs.statement.Conformance.{Trace, on_link}
use Rattle.tl_rules.specs.statement.History.{block_at, held, pending, probe_of, request_of}
use Rattle.tl_rules.specs.statement.Liberties.{held_under, releases_from}
use Rattle.tl_manager.specs.code.Releases.{IsAnswered}
use Rattle.tl_manager.specs.statement.Handing.{with_handed}
use Rattle.tl_manager.specs.statement.Offer.{Reception, Refused, Stalled, Sent}
use Rattle.tl_partner.specs.declared.terms.Terms.{Terms}
use Rattle.tl_partner.specs.statement.Cleaning.{PartnerEnd, is_cleaning}
use Rattle.tl_partner.specs.statement.Granting.{granted}
use Rattle.tl_partner.specs.statement.Naming.{is_misnamed, plain, probe_source}

-- the trace after this answer to a beat: with the beat if it was taken, and with the messages handed out
abbrev pub carried_after : {w : ℕ} → Link → Beat w → Reception w → Trace w → Trace w
carried_after link x (Refused rule) t = t
carried_after link x Stalled t = t
carried_after link x (Sent handed) t = with_handed handed ((link, x) ∷ t)

-- ---- one link

-- The history t that a link carried leaves the same permissions, under these liberties, as the manager's history e of
-- the link. Both have the same requests and the same unfinished messages, except for the sources of ProbeAcks and for
-- the unfinished cleaning, whose beats are only in t.
pub record AreAlike {w : ℕ} (terms : Terms) (cleaning : List (Beat w)) (t e : History w) : Type 0 where
  pub requests : unfinished channel.A t ≡ unfinished channel.A e
  pub named : (s : ℕ) → request_of s t ≡ request_of s e
  pub reports : map (plain terms) (unfinished channel.C t) ≡ cleaning ++ unfinished channel.C e
  pub answers : unfinished channel.D t ≡ unfinished channel.D e
  pub held : (k : ℕ) → held_under (granted terms) k t ≡ held k e

-- An unfinished cleaning starts from the permission recorded of its block. No Acquire of the block is pending, and the
-- manager's history has no other unfinished message of channel C.
pub record IsUnderway {w : ℕ} (terms : Terms) (x : BeatC w) (e : History w) : Type 0 where
  pub cleans : is_cleaning (granted terms) (beat.C x) ≡ true
  pub alone : unfinished channel.C e ≡ []
  pub free : pending (AcquireOf (block_at x.address)) e ≡ false
  pub starts : releases_from (granted terms) x.param (held (block_at x.address) e) ≡ true

-- this is true of the cleaning with these beats, if there is one
abbrev pub IsUnderwayIfAny : {w : ℕ} → Terms → List (Beat w) → History w → Type 0
IsUnderwayIfAny terms [] e = ⊤
IsUnderwayIfAny terms (beat.C x ∷ burst) e = IsUnderway terms x e
IsUnderwayIfAny terms (x ∷ burst) e = ⊥

-- the Probes have the same opcode and cap; under `ids` the first has the source of its link
abbrev pub AreSameProbe : {w : ℕ} → Terms → ℕ → Option (BeatB w) → Option (BeatB w) → Type 0
AreSameProbe terms client None None = ⊤
AreSameProbe terms client (Some x) (Some y) =
    (x.opcode ≡ y.opcode) × (x.param ≡ y.param) × (terms.ids ≡ true → x.source ≡ probe_source terms client)
AreSameProbe terms client _ _ = ⊥

-- the newest beat is a ProbeAck with another source than the link's Probes
abbrev pub is_newest_misnamed : {w : ℕ} → Terms → ℕ → List (Beat w) → Bool
is_newest_misnamed terms client [] = false
is_newest_misnamed terms client (x ∷ burst) = is_misnamed terms (record { 0 = client }) x

-- In the history t that a link carried, the same sources of requests, Acquires, sinks and Probes are pending as in the
-- manager's history e of it. The last Probe of each block is the same, except for its source. No burst of B is
-- unfinished, and an unfinished ProbeAck has the source of the link's Probes.
pub record ArePendingAlike {w : ℕ} (terms : Terms) (client : ℕ) (t e : History w) : Type 0 where
  pub sources : (s : ℕ) → pending (RequestSource s) t ≡ pending (RequestSource s) e
  pub acquires : (k : ℕ) → pending (AcquireOf k) t ≡ pending (AcquireOf k) e
  pub sinks : (s : ℕ) → pending (GrantSink s) t ≡ pending (GrantSink s) e
  pub probes : (k : ℕ) → pending (ProbeOf k) t ≡ pending (ProbeOf k) e
  pub probe : (k : ℕ) → AreSameProbe terms client (probe_of k t) (probe_of k e)
  pub quiet : unfinished channel.B t ≡ []
  pub named : is_newest_misnamed terms client (unfinished channel.C t) ≡ false

-- ---- all links

-- this is true of each link, with these cleanings
abbrev pub AreAllAlike : {w : ℕ} → Terms → List (List (Beat w)) → Trace w → Trace w → Type 0
AreAllAlike terms cleanings t e =
    (client : ℕ) → AreAlike terms (slice_index_or cleanings client []) (on_link client t) (on_link client e)

-- this is true of each link's unfinished cleaning
abbrev pub AreAllUnderway : {w : ℕ} → Terms → List (List (Beat w)) → Trace w → Type 0
AreAllUnderway terms cleanings e =
    (client : ℕ) → IsUnderwayIfAny terms (slice_index_or cleanings client []) (on_link client e)

-- the pending keys agree on each link
abbrev pub AreAllPendingAlike : {w : ℕ} → Terms → Trace w → Trace w → Type 0
AreAllPendingAlike terms t e = (client : ℕ) → ArePendingAlike terms client (on_link client t) (on_link client e)

-- the trace t that the links carried fits this end of a manager, which has a cleaning, or none, for each client
pub record IsCarried {w : ℕ} (terms : Terms) (config : Config) (t : Trace w) (e : PartnerEnd w) : Type 0 where
  pub links : length e.cleanings ≡ length config.clients.items
  pub alike : AreAllAlike terms e.cleanings t e.manager.trace
  pub underway : AreAllUnderway terms e.cleanings e.manager.trace
  pub pendings : AreAllPendingAlike terms t e.manager.trace
  pub answered : (client : ℕ) → IsAnswered (on_link client t)
