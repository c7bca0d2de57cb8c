-- What is pending, by what a caching client keeps.
use Rattle.tl_client.proofs.Imports.{Beat, BeatB, History, Key, RequestSource, ReleaseSource, AcquireOf, ReleaseOf}
use Rattle.tl_client.proofs.Imports.{block_at, is_probe, pending, Caching, KnowsCaching, waits, Endpoint, open_at}
use Rattle.std.proofs.Common.{◌≡◌, ℕ, Bool, true, refl, ◌∙◌, ap}
use Rattle.std.specs.Prelude.{is_some}
use Rattle.std.specs.List.{list_any}
use Rattle.tl_beat.specs.declared.beat.Beat.TheVariants as beat
use Rattle.tl_client.specs.code.KnowsCaching.{KnowsCachingPast}
use Rattle.tl_client.specs.statement.Requests.{acquires_block, releases_block}
use Rattle.tl_client.proofs.caching_client.Answered.{is_some-request, is_some-release}
use Rattle.tl_client.proofs.pending.Claims.{acquiring, releasing}

pub request_pending : {w : ℕ} (c : Caching w) (t : History w) (key : Key) (s : ℕ) (b : Bool) → KnowsCachingPast c t
    → key ≡ RequestSource s → b ≡ is_some (open_at c.requests s) → b ≡ pending key t
request_pending c t key s b knows of is = is ∙ ap is_some (knows.1.requests_are s) ∙ is_some-request s knows.0.past ∙ rw
    (of, knows.2) refl

pub release_pending : {w : ℕ} (c : Caching w) (t : History w) (key : Key) (s : ℕ) (b : Bool) → KnowsCachingPast c t
    → key ≡ ReleaseSource s → b ≡ is_some (open_at c.releases s) → b ≡ pending key t
release_pending c t key s b knows of is = is ∙ ap is_some (knows.1.releases_are s) ∙ is_some-release s knows.0.past ∙ rw
    (of, knows.2) refl

pub acquire_pending : {w : ℕ} (c : Caching w) (t : History w) (key : Key) (k : ℕ) (b : Bool) → KnowsCachingPast c t
    → key ≡ AcquireOf k → b ≡ list_any (acquires_block k) c.requests.with_source
    → b ≡ pending key t
acquire_pending c t key k b knows of is = is ∙ acquiring c knows.0 k knows.1 ∙ rw (of, knows.2) refl

pub release_of_pending : {w : ℕ} (c : Caching w) (t : History w) (key : Key) (k : ℕ) (b : Bool) → KnowsCachingPast c t
    → key ≡ ReleaseOf k → b ≡ list_any (releases_block k) c.releases.with_source
    → b ≡ pending key t
release_of_pending c t key k b knows of is = is ∙ releasing c knows.0 k knows.1 ∙ rw (of, knows.2) refl

-- a Probe waits where a Release of its block is open
pub waits_known : {w : ℕ} (c : Caching w) (e : Endpoint w) (x : Beat w) (p : BeatB w) (b : Bool) → KnowsCaching c e
    → x ≡ beat.B p → is_probe p.opcode ≡ true
    → b ≡ list_any (releases_block (block_at p.address)) c.releases.with_source → b ≡ waits x e.past
waits_known c e x p b knows own probe is = is ∙ releasing c e (block_at p.address) knows ∙ rw (own, probe) refl
