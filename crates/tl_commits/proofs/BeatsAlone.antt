-- What a trace without commits says of bytes is what its beats say.
use Rattle.std.proofs.Common.{◌≡◌, ℕ, zero, suc, ◌+◌, ◌*◌, ◌/◌, Bool, true}
use Rattle.std.proofs.Common.{false, not, ◌&&◌, ◌||◌, List, [], ◌∷◌, length}
use Rattle.std.proofs.Common.{refl, ap, ap₂}
use Rattle.std.specs.Prelude.{if◌then◌else◌, find, Option, Some, None, ◌==◌}
use Rattle.tl_beat.specs.declared.beat.Beat.TheVariants as beat
use Rattle.tl_beat.specs.declared.beat.BeatD.{BeatD}
use Rattle.tl_beat.specs.declared.channel.Channel.TheVariants as channel
use Rattle.tl_beat.specs.declared.opcode.OpD.{OpD}
use Rattle.tl_beat.specs.declared.opcode.OpD.TheVariants as d
use Rattle.tl_burst.specs.statement.Burst.{reaches}
use Rattle.tl_burst.specs.statement.Messages.{on, unfinished}
use Rattle.tl_bytes.specs.declared.telling.Telling.{Telling}
use Rattle.tl_bytes.specs.statement.Bytes.{Access, after_beat, after_settling, before_last}
use Rattle.tl_bytes.specs.statement.Bytes.{each_from, found_after, grants_truly}
use Rattle.tl_bytes.specs.statement.Bytes.{is_get, is_of, is_true, is_true_grant}
use Rattle.tl_bytes.specs.statement.Bytes.{is_true_read, may_be, may_find, may_grant}
use Rattle.tl_bytes.specs.statement.Bytes.{may_read, pending_accesses, reads_truly, tells}
use Rattle.tl_bytes.specs.statement.Early.{is_overtaken}
use Rattle.tl_rules.specs.code.Open.{open_request}
use Rattle.tl_rules.specs.declared.past.Request.{Request}
use Rattle.tl_rules.specs.statement.Admission.{is_spoiled, lanes_of}
use Rattle.tl_rules.specs.statement.Conformance.{Trace, on_link}
use Rattle.tl_rules.specs.statement.History.{block_at}
use Rattle.tl_commits.specs.statement.Completeness.{with_stores}
use Rattle.tl_commits.specs.statement.Alone.{alone}
use Rattle.tl_commits.specs.statement.Events.{Events, beats_of}
use Rattle.tl_commits.specs.statement.Seen.{Seen, seen, told_by, values_seen}
use Rattle.tl_commits.specs.statement.True.{before_last_seen, found_after_seen, grants_truly_seen, is_true_grant_seen}
use Rattle.tl_commits.specs.statement.True.{is_true_read_seen, is_true_seen}
use Rattle.tl_commits.specs.statement.True.{may_find_seen, may_grant_seen, may_read_seen}
use Rattle.tl_commits.specs.statement.True.{reads_truly_seen}

pub beats-alone : {w : ℕ} (t : Trace w) → beats_of (alone t) ≡ t
unfolding beats_of
beats-alone [] = refl
beats-alone (x ∷ t) = ap (λ (rest : Trace _). x ∷ rest) (beats-alone t)

-- what beats say of a byte, none of it stored
abbrev said : List Telling → Seen
said values = record { values = values; stored = false }

-- the values of a byte
seen-alone : {w : ℕ} (stores : List Bool) (n address : ℕ) (t : Trace w)
    → seen (with_stores stores) n address (alone t) ≡ said (may_be n address t)
unfolding seen may_be
seen-alone stores n address [] = refl
seen-alone stores n address (x ∷ t) =
    rw (seen-alone stores n address t, beats-alone t)
    (go (tells (block_at address) x.1 (on_link x.0.0 t)))
  where
    told : List Telling
    told = told_by address x.1 (on_link x.0.0 t) (length t)

    later : List Telling
    later = after_settling address x t (after_beat n address x.0.0 x.1 t (may_be n address t))

    go : (b : Bool) → (if b then said told else said later) ≡ said (if b then told else later)
    go true = refl
    go false = refl

pub values-alone : {w : ℕ} (stores : List Bool) (n address : ℕ) (t : Trace w)
    → values_seen (with_stores stores) n address (alone t) ≡ may_be n address t
values-alone stores n address t = ap (λ (s : Seen). s.values) (seen-alone stores n address t)

may_grant-alone : {w : ℕ} (stores : List Bool) (n : ℕ) (t : Trace w) (address v : ℕ)
    → may_grant_seen (with_stores stores) n (alone t) address v ≡ may_grant n t address v
may_grant-alone stores n t address v = rw (values-alone stores n address t, beats-alone t) refl

may_find-alone : {w : ℕ} (stores : List Bool) (n : ℕ) (access : Access w) (t : Trace w) (address v : ℕ)
    → may_find_seen (with_stores stores) n access (alone t) address v ≡ may_find n access t address v
may_find-alone stores n access t address v = rw (values-alone stores n address t, beats-alone t) refl

may_read-alone : {w : ℕ} (stores : List Bool) (n : ℕ) (access : Access w) (t : Trace w) (address v : ℕ)
    → may_read_seen (with_stores stores) n access (alone t) address v ≡ may_read n access t address v
unfolding may_read_seen may_read
may_read-alone stores n access [] address v = refl
may_read-alone stores n access (x ∷ t) address v =
    rw (
      may_read-alone stores n access t address v,
      may_find-alone stores n access (x ∷ t) address v,
      beats-alone (x ∷ t),
      beats-alone t,
    ) refl

-- two tests that say the same of each byte
each-same : (test other : ℕ → ℕ → Bool) (address : ℕ) (bytes : List ℕ)
    → ((at v : ℕ) → test at v ≡ other at v) → each_from test address bytes ≡ each_from other address bytes
unfolding each_from
each-same test other address [] same = refl
each-same test other address (v ∷ bytes) same =
    ap₂ (λ (a b : Bool). a && b) (same address v) (each-same test other (address + 1) bytes same)

before-alone : {w : ℕ} (link k : ℕ) (t : Trace w) → before_last_seen link k (alone t) ≡ alone (before_last link k t)
unfolding before_last_seen before_last
before-alone link zero t = refl
before-alone link (suc k) [] = refl
before-alone {w} link (suc k) (x ∷ t) =
    go ((x.0.0 == link) && on channel.D x.1) _ _ _ _ (before-alone link k t) (before-alone link (suc k) t)
  where
    go : (b : Bool) (p q : Events w) (r s : Trace w) → p ≡ alone r → q ≡ alone s
        → (if b then p else q) ≡ alone (if b then r else s)
    go true p q r s e f = e
    go false p q r s e f = f

grants-alone : {w : ℕ} (stores : List Bool) (n block k : ℕ) (x : BeatD w) (t : Trace w)
    → grants_truly_seen (with_stores stores) n block k x (alone t) ≡ grants_truly n block k x t
grants-alone {w} stores n block k x t =
    each-same (may_grant_seen (with_stores stores) n (alone t)) (may_grant n t) (64 * block + w * k) (lanes_of (beat.D x))
    (λ at v. may_grant-alone stores n t at v)

reads-alone : {w : ℕ} (stores : List Bool) (n : ℕ) (o : Option (Access w)) (k : ℕ) (x : BeatD w) (t : Trace w)
    → reads_truly_seen (with_stores stores) n o k x (alone t) ≡ reads_truly n o k x t
reads-alone stores n None k x t = refl
reads-alone {w} stores n (Some access) k x t =
    each-same (λ at v. not (reaches access.request.address access.request.size at)
    || may_read_seen (with_stores stores) n access (alone t) at v)
    (λ at v. not (reaches access.request.address access.request.size at) || may_read n access t at v)
    (w * (access.request.address / w) + w * k) (lanes_of (beat.D x))
    (λ at v. ap (λ (b : Bool). not (reaches access.request.address access.request.size at) || b)
    (may_read-alone stores n access t at v))

found-alone : {w : ℕ} (o : Option (Access w)) (link k : ℕ) (t : Trace w)
    → found_after_seen o link k (alone t) ≡ alone (found_after o link k t)
found-alone None link k t = refl
found-alone {w} (Some access) link k t = go (is_get access.request.opcode) _ _ (before-alone link k t)
  where
    go : (b : Bool) (p : Events w) (r : Trace w) → p ≡ alone r
        → (if b then alone t else p) ≡ alone (if b then t else r)
    go true p r e = refl
    go false p r e = e

grant-alone : {w : ℕ} (stores : List Bool) (n link : ℕ) (x : BeatD w) (asked : Option Request) (t : Trace w)
    → is_true_grant_seen (with_stores stores) n link x asked (alone t) ≡ is_true_grant n link x asked t
grant-alone stores n link x None t = refl
grant-alone stores n link x (Some asked) t =
    let k = length (unfinished channel.D (on_link link t)) in
    rw (beats-alone t, before-alone link k t)
    (ap (λ (b : Bool). is_overtaken asked.block x (on_link link t) || b)
    (grants-alone stores n asked.block k x (before_last link k t)))

read-alone : {w : ℕ} (stores : List Bool) (n link : ℕ) (x : BeatD w) (t : Trace w)
    → is_true_read_seen (with_stores stores) n link x (alone t) ≡ is_true_read n link x t
read-alone stores n link x t =
    let k = length (unfinished channel.D (on_link link t)) in
    let access = find (is_of link x.source) (pending_accesses t) in
    rw (beats-alone t, found-alone access link k t) (reads-alone stores n access k x (found_after access link k t))

pub true-alone : {w : ℕ} (stores : List Bool) (opcode : OpD) (n link : ℕ) (x : BeatD w) (t : Trace w)
    → is_true_seen (with_stores stores) opcode n link x (alone t) ≡ is_true opcode n link x t
true-alone stores d.GrantData n link x t =
    ap (λ (b : Bool). is_spoiled (beat.D x) || b)
    (rw (beats-alone t) (grant-alone stores n link x (open_request x.source (on_link link t)) t))
true-alone stores d.AccessAckData n link x t =
    ap (λ (b : Bool). is_spoiled (beat.D x) || b) (read-alone stores n link x t)
true-alone stores d.AccessAck n link x t = refl
true-alone stores d.HintAck n link x t = refl
true-alone stores d.Grant n link x t = refl
true-alone stores d.ReleaseAck n link x t = refl
