-- The sources with pending requests and Releases say the same as the history of the link.
use Rattle.std.specs.Prelude.{ℕ, Bool, false, true, ◌≡◌, ◌==◌, ◌&&◌, not, if◌then◌else◌, is_some}
use Rattle.tl_beat.specs.declared.beat.Beat.{Beat}
use Rattle.tl_beat.specs.declared.beat.Beat.TheVariants as beat
use Rattle.tl_burst.specs.statement.Messages.{History}
use Rattle.tl_cover.specs.declared.open.Open.{Open}
use Rattle.tl_cover.specs.declared.situation.Pending.{Pending}
use Rattle.tl_cover.specs.declared.situation.Pending.TheVariants as kind
use Rattle.tl_cover.specs.statement.Kinds.{asks}
use Rattle.tl_cover.specs.statement.Scene.{asks_so}
use Rattle.tl_monitor.specs.statement.Count.{at}
use Rattle.tl_params.specs.declared.key.Key.TheVariants.{ReleaseSource, RequestSource}
use Rattle.tl_rules.specs.statement.History.{is_release, is_release_ack, pending, request_of}

-- a request of the kind is pending with this source, with one more beat
abbrev pub asked_open : {w : ℕ} → Pending → Bool → Bool → Beat w → ℕ → Bool → Bool
asked_open kind first last (beat.A x) s before = if first && (x.source == s) then asks kind x.opcode else before
asked_open kind first last (beat.D x) s before =
    if last && (not (is_release_ack x.opcode) && (x.source == s)) then false else before
asked_open kind first last _ s before = before

-- a Release is pending with this source, with one more beat
abbrev pub release_open : {w : ℕ} → Bool → Bool → Beat w → ℕ → Bool → Bool
release_open first last (beat.C x) s before = if first && (is_release x.opcode && (x.source == s)) then true else before
release_open first last (beat.D x) s before =
    if last && (is_release_ack x.opcode && (x.source == s)) then false else before
release_open first last _ s before = before

-- a request of the kind is pending with this source
abbrev pub is_asked : {w : ℕ} → Pending → ℕ → History w → Bool
is_asked kind s h = pending (RequestSource s) h && asks_so kind (request_of s h)

pub record KnowsOpen {w : ℕ} (o : Open) (h : History w) : Type 0 where
  pub acquires_are : (s : ℕ) → is_some (at o.acquires s) ≡ is_asked kind.Acquire s h
  pub gets_are : (s : ℕ) → is_some (at o.gets s) ≡ is_asked kind.Get s h
  pub puts_are : (s : ℕ) → is_some (at o.puts s) ≡ is_asked kind.Put s h
  pub atomics_are : (s : ℕ) → is_some (at o.atomics s) ≡ is_asked kind.Atomic s h
  pub releases_are : (s : ℕ) → is_some (at o.releases s) ≡ pending (ReleaseSource s) h

-- what is kept after a beat
pub record OpenTaken {w : ℕ} (old new : Open) (first last : Bool) (x : Beat w) : Type 0 where
  pub acquires : (s : ℕ) → is_some (at new.acquires s)
      ≡ asked_open kind.Acquire first last x s (is_some (at old.acquires s))
  pub gets : (s : ℕ) → is_some (at new.gets s) ≡ asked_open kind.Get first last x s (is_some (at old.gets s))
  pub puts : (s : ℕ) → is_some (at new.puts s) ≡ asked_open kind.Put first last x s (is_some (at old.puts s))
  pub atomics : (s : ℕ) → is_some (at new.atomics s)
      ≡ asked_open kind.Atomic first last x s (is_some (at old.atomics s))
  pub releases : (s : ℕ) → is_some (at new.releases s)
      ≡ release_open first last x s (is_some (at old.releases s))
