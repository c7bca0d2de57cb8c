-- The messages that are open at an end of a link: what later messages depend on of them.
use Rattle.std.specs.Prelude.{◌≡◌, ℕ, Bool, false, not, ◌&&◌, ◌==◌, if◌then◌else◌, Option, Some, None}
use Rattle.tl_beat.specs.declared.beat.BeatB.{BeatB}
use Rattle.tl_beat.specs.declared.beat.BeatC.{BeatC}
use Rattle.tl_beat.specs.declared.channel.Channel.TheVariants as channel
use Rattle.tl_burst.specs.statement.Messages.{History, unfinished}
use Rattle.tl_params.specs.declared.liberties.Liberties.{Liberties}
use Rattle.tl_params.specs.declared.profile.Profile.{Profile}
use Rattle.tl_params.specs.statement.Liberties.{liberties_of}
use Rattle.tl_params.specs.declared.key.Key.TheVariants.{RequestSource, ReleaseSource, GrantSink, ProbeOf}
use Rattle.tl_rules.specs.declared.past.Request.{Request}
use Rattle.tl_rules.specs.declared.past.Probe.{Probe}
use Rattle.tl_rules.specs.statement.History.{request_of, release_of, probe_of, pending}
use Rattle.tl_rules.specs.statement.Conformance.{comes_in_request, comes_in_release, comes_in_grant}
pub use Rattle.tl_rules.specs.statement.OpenMessages.{request_fields, probe_fields, open_request, open_probe}

abbrev pub release_size : {w : ℕ} → Option (BeatC w) → Option ℕ
release_size None = None
release_size (Some x) = Some x.size

-- the size of the Release with this source that is pending and complete
abbrev pub open_release : {w : ℕ} → ℕ → History w → Option ℕ
open_release s t = if pending (ReleaseSource s) t && not (comes_in_release s (unfinished channel.C t)) then release_size
    (release_of s t) else None

-- a Grant with this sink is pending and complete
abbrev pub has_open_grant : {w : ℕ} → ℕ → History w → Bool
has_open_grant s t = pending (GrantSink s) t && not (comes_in_grant s (unfinished channel.D t))

-- ---- under liberties: with `early` an open message needn't be complete

-- the request with this source that is pending and complete or, if `early`, may be unfinished
abbrev pub open_request_if : {w : ℕ} → Bool → ℕ → History w → Option Request
open_request_if early s t =
    if pending (RequestSource s) t && not (not early && comes_in_request s (unfinished channel.A t)) then
    request_fields (request_of s t) else None

abbrev pub open_request_under : {w : ℕ} → Liberties → ℕ → History w → Option Request
open_request_under l s t = open_request_if l.early s t

abbrev pub open_release_under : {w : ℕ} → Liberties → ℕ → History w → Option ℕ
open_release_under l s t =
    if pending (ReleaseSource s) t && not (not l.early && comes_in_release s (unfinished channel.C t)) then
    release_size (release_of s t) else None

abbrev pub has_open_grant_under : {w : ℕ} → Liberties → ℕ → History w → Bool
has_open_grant_under l s t =
    pending (GrantSink s) t && not (not l.early && comes_in_grant s (unfinished channel.D t))

abbrev pub source_of : {w : ℕ} → Option (BeatB w) → Option ℕ
source_of None = None
source_of (Some x) = Some x.source

-- the source of the Probe of the block that is pending
abbrev pub probe_source : {w : ℕ} → ℕ → History w → Option ℕ
probe_source k t = if pending (ProbeOf k) t then source_of (probe_of k t) else None

-- the number, if there is one, is this
abbrev pub is_number : ℕ → Option ℕ → Bool
is_number n None = false
is_number n (Some m) = n == m

-- these are the liberties of a profile
abbrev pub IsOfProfile : Liberties → Type 0
IsOfProfile l = (p : Profile) × (l ≡ liberties_of p)
