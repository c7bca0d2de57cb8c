-- The sources with pending requests and Releases, with one more beat.
use Rattle.std.proofs.Common.{◌≡◌, ℕ, Bool, true, false, ◌==◌, ◌&&◌, [], ◌∷◌, refl, ◌∙◌, ap}
use Rattle.std.specs.Prelude.{if◌then◌else◌, not, Option, Some, None, is_some}
use Rattle.tl_beat.specs.declared.beat.Beat.{Beat}
use Rattle.tl_beat.specs.declared.beat.Beat.TheVariants as beat
use Rattle.tl_beat.specs.declared.beat.BeatA.{BeatA}
use Rattle.tl_burst.specs.statement.Messages.{History}
use Rattle.tl_cover.specs.code.Open.{KnowsOpen, OpenTaken, asked_open, is_asked, release_open}
use Rattle.tl_cover.specs.declared.open.Open.{Open}
use Rattle.tl_cover.specs.declared.situation.Pending.{Pending}
use Rattle.tl_cover.specs.declared.situation.Pending.TheVariants as kind
use Rattle.tl_cover.specs.statement.Kinds.{asks}
use Rattle.tl_cover.specs.statement.Scene.{asks_so}
use Rattle.tl_monitor.specs.statement.Count.{at}
use Rattle.tl_params.specs.declared.key.Key.TheVariants.{ReleaseSource, RequestSource}
use Rattle.tl_rules.proofs.Tables.{neither}
use Rattle.tl_rules.specs.statement.History.{begins, ends, is_release, is_release_ack, pending, request_of}

-- nothing is pending on a link that has carried nothing
pub open_none : (w : ℕ) (o : Open) → ((s : ℕ) → at o.acquires s ≡ None) → ((s : ℕ) → at o.gets s ≡ None)
    → ((s : ℕ) → at o.puts s ≡ None) → ((s : ℕ) → at o.atomics s ≡ None) → ((s : ℕ) → at o.releases s ≡ None)
    → KnowsOpen {w = w} o []
unfolding pending request_of
open_none w o acquires gets puts atomics releases = record {
  acquires_are = λ s. ap is_some (acquires s);
  gets_are = λ s. ap is_some (gets s);
  puts_are = λ s. ap is_some (puts s);
  atomics_are = λ s. ap is_some (atomics s);
  releases_are = λ s. ap is_some (releases s);
}

begun : {w : ℕ} (opened last before : Bool) (k : Pending) (x : BeatA w) (r : Option (BeatA w))
    → (if opened then asks k x.opcode else before && asks_so k r)
    ≡ ((if opened then true else if last && false then false else before) && asks_so k (if opened then Some x else r))
begun true last before k x r = refl
begun false true before k x r = refl
begun false false before k x r = refl

answered : (first closed before asked : Bool) → (if closed then false else before && asked)
    ≡ ((if first && false then true else if closed then false else before) && asked)
answered true true before asked = refl
answered true false before asked = refl
answered false true before asked = refl
answered false false before asked = refl

unmoved : (first last before asked : Bool)
    → (before && asked) ≡ ((if first && false then true else if last && false then false else before) && asked)
unmoved first last before asked = rw (neither first last before) refl

asked-next : {w : ℕ} (k : Pending) (x : Beat w) (h : History w) (s : ℕ)
    → asked_open k (begins x h) (ends x h) x s (is_asked k s h) ≡ is_asked k s (x ∷ h)
unfolding pending request_of
asked-next k (beat.A x) h s = begun (begins (beat.A x) h && (x.source == s)) (ends (beat.A x) h)
    (pending (RequestSource s) h) k x (request_of s h)
asked-next k (beat.B x) h s = unmoved (begins (beat.B x) h) (ends (beat.B x) h) (pending (RequestSource s) h)
    (asks_so k (request_of s h))
asked-next k (beat.C x) h s = unmoved (begins (beat.C x) h) (ends (beat.C x) h) (pending (RequestSource s) h)
    (asks_so k (request_of s h))
asked-next k (beat.D x) h s = answered (begins (beat.D x) h)
    (ends (beat.D x) h && (not (is_release_ack x.opcode) && (x.source == s))) (pending (RequestSource s) h)
    (asks_so k (request_of s h))
asked-next k (beat.E x) h s = unmoved (begins (beat.E x) h) (ends (beat.E x) h) (pending (RequestSource s) h)
    (asks_so k (request_of s h))

opens_only : (opened last before : Bool) → (if opened then true else before)
    ≡ (if opened then true else if last && false then false else before)
opens_only true last before = refl
opens_only false true before = refl
opens_only false false before = refl

closes_only : (first closed before : Bool) → (if closed then false else before)
    ≡ (if first && false then true else if closed then false else before)
closes_only true closed before = refl
closes_only false closed before = refl

neither_moves : (first last before : Bool)
    → before ≡ (if first && false then true else if last && false then false else before)
neither_moves first last before = rw (neither first last before) refl

release-next : {w : ℕ} (x : Beat w) (h : History w) (s : ℕ)
    → release_open (begins x h) (ends x h) x s (pending (ReleaseSource s) h) ≡ pending (ReleaseSource s) (x ∷ h)
unfolding pending
release-next (beat.A x) h s =
    neither_moves (begins (beat.A x) h) (ends (beat.A x) h) (pending (ReleaseSource s) h)
release-next (beat.B x) h s =
    neither_moves (begins (beat.B x) h) (ends (beat.B x) h) (pending (ReleaseSource s) h)
release-next (beat.C x) h s = opens_only (begins (beat.C x) h && (is_release x.opcode && (x.source == s)))
    (ends (beat.C x) h) (pending (ReleaseSource s) h)
release-next (beat.D x) h s = closes_only (begins (beat.D x) h)
    (ends (beat.D x) h && (is_release_ack x.opcode && (x.source == s))) (pending (ReleaseSource s) h)
release-next (beat.E x) h s =
    neither_moves (begins (beat.E x) h) (ends (beat.E x) h) (pending (ReleaseSource s) h)

pub open_taken : {w : ℕ} (old new : Open) (x : Beat w) (h : History w) (first last : Bool) → first ≡ begins x h
    → last ≡ ends x h → KnowsOpen old h → OpenTaken old new first last x → KnowsOpen new (x ∷ h)
open_taken old new x h first last from complete had taken = record {
  acquires_are = λ s. taken.acquires s ∙ rw (from, complete, had.acquires_are s) (asked-next kind.Acquire x h s);
  gets_are = λ s. taken.gets s ∙ rw (from, complete, had.gets_are s) (asked-next kind.Get x h s);
  puts_are = λ s. taken.puts s ∙ rw (from, complete, had.puts_are s) (asked-next kind.Put x h s);
  atomics_are = λ s. taken.atomics s ∙ rw (from, complete, had.atomics_are s) (asked-next kind.Atomic x h s);
  releases_are = λ s. taken.releases s ∙ rw (from, complete, had.releases_are s) (release-next x h s);
}
