-- The step from a history to one with one more beat, as far as what is kept of it goes.
use Rattle.std.proofs.Common.{◌≡◌, ℕ, Bool, true, false, ◌&&◌, ◌||◌, refl, sym, ap, ◌∙◌, inl, inr}
use Rattle.std.specs.Prelude.{if◌then◌else◌, [], ◌∷◌, not, Option, Some, None, is_some, ◌==◌, unwrap_or}
use Rattle.std.proofs.lemmas.Bool.{cases_Bool}
use Rattle.tl_beat.specs.declared.beat.Beat.{Beat}
use Rattle.tl_beat.specs.declared.beat.Beat.TheVariants.{A, B, C, D, E}
use Rattle.tl_beat.specs.declared.beat.BeatC.{BeatC}
use Rattle.tl_beat.specs.declared.opcode.OpD.{OpD}
use Rattle.tl_beat.specs.declared.opcode.OpD.TheVariants as d
use Rattle.tl_burst.specs.statement.Messages.{History}
use Rattle.tl_params.specs.declared.key.Key.TheVariants.{RequestSource, ReleaseSource, AcquireOf, ReleaseOf, GrantSink}
use Rattle.tl_params.specs.declared.key.Key.TheVariants.{GrantAckOf, ProbeOf}
use Rattle.tl_params.specs.declared.liberties.Liberties.{Liberties}
use Rattle.tl_params.specs.declared.perm.Perm.{Perm}
use Rattle.tl_params.specs.declared.perm.Perm.TheVariants as perm
use Rattle.tl_rules.specs.declared.past.Probe.{Probe}
use Rattle.tl_rules.specs.declared.table.Block.{Block}
use Rattle.tl_rules.specs.declared.table.PendingProbe.{PendingProbe}
use Rattle.tl_beat.specs.declared.beat.BeatB.{BeatB}
use Rattle.tl_rules.specs.statement.History.{begins, ends, block_at, is_acquire, is_probe, is_probe_ack, is_release}
use Rattle.tl_rules.specs.statement.History.{is_grant, is_release_ack, asks_for, releases}
use Rattle.tl_rules.specs.statement.History.{is_sink, request_of, release_of, probe_of, grant_sink, grants, pending}
use Rattle.tl_rules.specs.statement.History.{reported, capped}
use Rattle.tl_rules.specs.statement.Liberties.{grows_from_none, held_under}
use Rattle.tl_rules.proofs.Open.{never, still, release-begun, probe-begun}
use Rattle.tl_rules.specs.code.Open.{request_fields, release_size, probe_fields, open_probe, probe_source, source_of}
use Rattle.tl_rules.specs.code.Tables.{release_fields, kept_request, kept_release, kept_grant, kept_block, request_next}
use Rattle.tl_rules.specs.code.Tables.{release_next, sink_next, block_next, bears_on, came, came_early, kept_probe, probe_kept}

-- ---- plain steps of what is pending

pub neither : (first last before : Bool) → (if first && false then true else if last && false then false else before)
    ≡ before
neither true true before = refl
neither true false before = refl
neither false true before = refl
neither false false before = refl

only_opened : (first now last before : Bool) → (if first && now then true else if last && false then false else before)
    ≡ (if first && now then true else before)
only_opened true true last before = refl
only_opened true false true before = refl
only_opened true false false before = refl
only_opened false now true before = refl
only_opened false now false before = refl

only_closed : (first last now before : Bool) → (if first && false then true else if last && now then false else before)
    ≡ (if last && now then false else before)
only_closed true last now before = refl
only_closed false last now before = refl

-- ---- the same, with the message that opened it

module _ {X : Type 0} where
  -- opened with a new message, where the beat opens, and otherwise as before
  opened : (first now last before : Bool) (new old : Option X)
      → (if (if first && now then true else if last && false then false else before) then
      (if first && now then new else old) else None)
      ≡ (if first && now then new else if before then old else None)
  opened true true last before new old = refl
  opened true false true before new old = refl
  opened true false false before new old = refl
  opened false now true before new old = refl
  opened false now false before new old = refl

  -- closed
  closed : (first last now before : Bool) (old : Option X)
      → (if (if first && false then true else if last && now then false else before) then old else None)
      ≡ (if last && now then None else if before then old else None)
  closed true true true before old = refl
  closed true true false before old = refl
  closed true false now before old = refl
  closed false true true before old = refl
  closed false true false before old = refl
  closed false false now before old = refl

  -- neither
  unmoved : (first last before : Bool) (old : Option X)
      → (if (if first && false then true else if last && false then false else before) then old else None)
      ≡ (if before then old else None)
  unmoved true true before old = refl
  unmoved true false before old = refl
  unmoved false true before old = refl
  unmoved false false before old = refl

-- of fields of an optional message
fields_if : {X Y : Type 0} (f : Option X → Option Y) (b : Bool) (o p : Option X)
    → f (if b then o else p) ≡ (if b then f o else f p)
fields_if f true o p = refl
fields_if f false o p = refl

-- ---- by source

pub request-next : {w : ℕ} (s : ℕ) (x : Beat w) (t : History w) → kept_request s (x ∷ t) ≡ request_next (begins x t)
    (ends x t) x s (kept_request s t)
unfolding pending request_of
request-next s (A x) t =
    rw (fields_if request_fields (begins (A x) t && (x.source == s)) (Some x) (request_of s t))
    (opened (begins (A x) t) (x.source == s) (ends (A x) t) (pending (RequestSource s) t) (request_fields (Some x))
    (request_fields (request_of s t)))
request-next s (B x) t = unmoved (begins (B x) t) (ends (B x) t) (pending (RequestSource s) t)
    (request_fields (request_of s t))
request-next s (C x) t = unmoved (begins (C x) t) (ends (C x) t) (pending (RequestSource s) t)
    (request_fields (request_of s t))
request-next s (D x) t = closed (begins (D x) t) (ends (D x) t) (not (is_release_ack x.opcode) && (x.source == s))
    (pending (RequestSource s) t) (request_fields (request_of s t))
request-next s (E x) t = unmoved (begins (E x) t) (ends (E x) t) (pending (RequestSource s) t)
    (request_fields (request_of s t))

pub release-next : {w : ℕ} (s : ℕ) (x : Beat w) (t : History w) → kept_release s (x ∷ t) ≡ release_next (begins x t)
    (ends x t) x s (kept_release s t)
unfolding pending release_of
release-next s (A x) t = unmoved (begins (A x) t) (ends (A x) t) (pending (ReleaseSource s) t)
    (release_fields (release_of s t))
release-next s (B x) t = unmoved (begins (B x) t) (ends (B x) t) (pending (ReleaseSource s) t)
    (release_fields (release_of s t))
release-next s (C x) t =
    rw (fields_if release_fields (begins (C x) t && (is_release x.opcode && (x.source == s))) (Some x) (release_of s t))
    (opened (begins (C x) t) (is_release x.opcode && (x.source == s)) (ends (C x) t) (pending (ReleaseSource s) t)
    (release_fields (Some x))
    (release_fields (release_of s t)))
release-next s (D x) t = closed (begins (D x) t) (ends (D x) t) (is_release_ack x.opcode && (x.source == s))
    (pending (ReleaseSource s) t) (release_fields (release_of s t))
release-next s (E x) t = unmoved (begins (E x) t) (ends (E x) t) (pending (ReleaseSource s) t)
    (release_fields (release_of s t))

-- ---- by sink

pub sink-next : {w : ℕ} (s : ℕ) (x : Beat w) (t : History w) → pending (GrantSink s) (x ∷ t) ≡ sink_next (begins x t)
    (ends x t) x s (pending (GrantSink s) t)
unfolding pending
sink-next s (A x) t = neither (begins (A x) t) (ends (A x) t) (pending (GrantSink s) t)
sink-next s (B x) t = neither (begins (B x) t) (ends (B x) t) (pending (GrantSink s) t)
sink-next s (C x) t = neither (begins (C x) t) (ends (C x) t) (pending (GrantSink s) t)
sink-next s (D x) t = only_opened (begins (D x) t) (is_grant x.opcode && (x.sink == s)) (ends (D x) t)
    (pending (GrantSink s) t)
sink-next s (E x) t = only_closed (begins (E x) t) (ends (E x) t) (x.sink == s) (pending (GrantSink s) t)

-- ---- what is pending was begun

-- a request that is pending has begun
pub request-begun : {w : ℕ} (s : ℕ) (t : History w) → pending (RequestSource s) t ≡ true
    → request_fields (request_of s t) ≡ None → ⊥
unfolding pending request_of
request-begun s [] p none = absurd cc
request-begun s (A y ∷ t) p none = elim (cases_Bool (begins (A y) t && (y.source == s))) [
  | inl now ↦ let none' : request_fields (Some y) ≡ None = rw now at none in absurd cc
  | inr before ↦ request-begun s t (still _ (ends (A y) t && false) (pending (RequestSource s) t) before p)
      (rw before at none)
]
request-begun s (B y ∷ t) p none =
    request-begun s t (sym (neither (begins (B y) t) (ends (B y) t) (pending (RequestSource s) t)) ∙ p) none
request-begun s (C y ∷ t) p none =
    request-begun s t (sym (neither (begins (C y) t) (ends (C y) t) (pending (RequestSource s) t)) ∙ p) none
request-begun s (D y ∷ t) p none =
    request-begun s t (still (begins (D y) t && false)
    (ends (D y) t && (not (is_release_ack y.opcode) && (y.source == s))) (pending (RequestSource s) t)
    (never (begins (D y) t)) p) none
request-begun s (E y ∷ t) p none =
    request-begun s t (sym (neither (begins (E y) t) (ends (E y) t) (pending (RequestSource s) t)) ∙ p) none

-- a GrantAck that is pending is of a Grant that has begun
pub grant-begun : {w : ℕ} (k : ℕ) (t : History w) → pending (GrantAckOf k) t ≡ true → grant_sink k t ≡ None → ⊥
unfolding pending grant_sink
grant-begun k [] p none = absurd cc
grant-begun k (A y ∷ t) p none =
    grant-begun k t (sym (neither (begins (A y) t) (ends (A y) t) (pending (GrantAckOf k) t)) ∙ p) none
grant-begun k (B y ∷ t) p none =
    grant-begun k t (sym (neither (begins (B y) t) (ends (B y) t) (pending (GrantAckOf k) t)) ∙ p) none
grant-begun k (C y ∷ t) p none =
    grant-begun k t (sym (neither (begins (C y) t) (ends (C y) t) (pending (GrantAckOf k) t)) ∙ p) none
grant-begun k (D y ∷ t) p none = elim (cases_Bool (begins (D y) t && grants k y t)) [
  | inl now ↦ let none' : Some y.sink ≡ None = rw now at none in absurd cc
  | inr before ↦ grant-begun k t (still _ (ends (D y) t && false) (pending (GrantAckOf k) t) before p)
      (rw before at none)
]
grant-begun k (E y ∷ t) p none =
    grant-begun k t (still (begins (E y) t && false) (ends (E y) t && is_sink y.sink (grant_sink k t))
    (pending (GrantAckOf k) t) (never (begins (E y) t)) p) none

-- ---- what is pending, by what is kept of it

there : {X : Type 0} (p : Bool) (o : Option X) → (p ≡ true → o ≡ None → ⊥) → p ≡ is_some (if p then o else None)
there true None begun = absurd (begun refl refl)
there true (Some x) begun = refl
there false o begun = refl

sized : {w : ℕ} (o : Option (BeatC w)) → release_fields o ≡ None → release_size o ≡ None
sized None e = refl
sized (Some x) e = absurd cc

pub pending-request : {w : ℕ} (s : ℕ) (t : History w) → pending (RequestSource s) t ≡ is_some (kept_request s t)
pending-request s t = there (pending (RequestSource s) t) (request_fields (request_of s t)) (request-begun s t)

pub pending-release : {w : ℕ} (s : ℕ) (t : History w) → pending (ReleaseSource s) t ≡ is_some (kept_release s t)
pending-release s t = there (pending (ReleaseSource s) t) (release_fields (release_of s t))
    (λ p none. release-begun s t p (sized (release_of s t) none))

probed : {w : ℕ} (o : Option (BeatB w)) → probe_kept o ≡ None → probe_fields o ≡ None
probed None e = refl
probed (Some x) e = absurd cc

pub pending-probe : {w : ℕ} (k : ℕ) (t : History w) → pending (ProbeOf k) t ≡ is_some (kept_probe k t)
pending-probe k t = there (pending (ProbeOf k) t) (probe_kept (probe_of k t))
    (λ p none. probe-begun k t p (probed (probe_of k t) none))

-- the parts of a Probe that is kept
abbrev pub probe_in : Option PendingProbe → Option Probe
probe_in None = None
probe_in (Some p) = Some p.probe

abbrev pub source_in : Option PendingProbe → Option ℕ
source_in None = None
source_in (Some p) = Some p.source

probe_parts : {w : ℕ} (b : Bool) (o : Option (BeatB w))
    → (probe_in (if b then probe_kept o else None) ≡ (if b then probe_fields o else None))
    × (source_in (if b then probe_kept o else None) ≡ (if b then source_of o else None))
probe_parts true None = (refl, refl)
probe_parts true (Some x) = (refl, refl)
probe_parts false o = (refl, refl)

pub probe-kept : {w : ℕ} (k : ℕ) (t : History w) → (probe_in (kept_probe k t) ≡ open_probe k t)
    × (source_in (kept_probe k t) ≡ probe_source k t)
probe-kept k t = probe_parts (pending (ProbeOf k) t) (probe_of k t)

pub pending-grant : {w : ℕ} (k : ℕ) (t : History w) → pending (GrantAckOf k) t ≡ is_some (kept_grant k t)
pending-grant k t = there (pending (GrantAckOf k) t) (grant_sink k t) (grant-begun k t)

-- ---- by block

-- what a message of this block makes of one of its parts, where `here` says that it is of the block
chosen : {X : Type 0} (at now here : Bool) (new old : X)
    → (if at && (now && here) then new else old) ≡ (if here then (if at && now then new else old) else old)
chosen true true true new old = refl
chosen true true false new old = refl
chosen true false true new old = refl
chosen true false false new old = refl
chosen false now true new old = refl
chosen false now false new old = refl

either : {X : Type 0} (here : Bool) (x : X) → x ≡ (if here then x else x)
either true x = refl
either false x = refl

unsaid : (last : Bool) (h : Perm) → (if last then unwrap_or None h else h) ≡ h
unsaid true h = refl
unsaid false h = refl

-- what an Acquire says of what is held
grown : (grows last here : Bool) (h : Perm)
    → (if last then unwrap_or (if grows then (if here then Some perm.None else None) else None) h else h)
    ≡ (if here then (if grows then (if last then perm.None else h) else h) else h)
grown true true true h = refl
grown true true false h = refl
grown true false true h = refl
grown true false false h = refl
grown false last true h = unsaid last h
grown false last false h = unsaid last h

-- what a report or a prune says, where the message wasn't answered before
said : (answered last now here : Bool) (p h : Perm)
    → (if last then unwrap_or (if answered then None else (if now && here then Some p else None)) h else h)
    ≡ (if here then (if answered then h else if last && now then p else h) else h)
said true last now true p h = unsaid last h
said true last now false p h = unsaid last h
said false true true true p h = refl
said false true true false p h = refl
said false true false true p h = refl
said false true false false p h = refl
said false false now true p h = refl
said false false now false p h = refl

-- what a Grant or a ReleaseAck says
granted_or : (grant here : Bool) (p h : Perm)
    → unwrap_or (if grant && here then Some p else None) h ≡ (if here then (if grant then p else h) else h)
granted_or true true p h = refl
granted_or true false p h = refl
granted_or false true p h = refl
granted_or false false p h = refl

left_or : (here : Bool) (o : Option Perm) (h : Perm)
    → unwrap_or (if here then o else None) h ≡ (if here then unwrap_or o h else h)
left_or true o h = refl
left_or false o h = refl

still_held : (here denied answered ack : Bool) (h : Perm)
    → h ≡ (if here then (if denied then h else if answered then h else if ack then h else h) else h)
still_held false denied answered ack h = refl
still_held true true answered ack h = refl
still_held true false true ack h = refl
still_held true false false true h = refl
still_held true false false false h = refl

responded : (last denied answered early ack grant released asked : Bool) (o : Option Perm) (p h : Perm)
    → (if last then unwrap_or (if denied then None else if answered then None else if early && ack then
    (if released then o else None) else (if grant && (if ack then released else asked) then Some p else None)) h else h)
    ≡ (if (if ack then released else asked) then (if denied then h else if answered then h else if early && ack then
    (if last then unwrap_or (if early then o else None) h else h) else if last && grant then p else h) else h)
responded false denied answered early ack grant released asked o p h =
    still_held (if ack then released else asked) denied answered (early && ack) h
responded true true answered early ack grant released asked o p h = either (if ack then released else asked) h
responded true false true early ack grant released asked o p h = either (if ack then released else asked) h
responded true false false true true grant released asked o p h = left_or released o h
responded true false false false true grant released asked o p h = granted_or grant released p h
responded true false false true false grant released asked o p h = granted_or grant asked p h
responded true false false false false grant released asked o p h = granted_or grant asked p h

-- what a GrantAck says
acknowledged : (early before here kept last : Bool) (o : Option Perm) (h : Perm)
    → kept ≡ (if before then here else false)
    → (if last then unwrap_or (if early && (before && here) then o else None) h else h)
    ≡ (if here then (if early && kept then (if last then unwrap_or (if early then o else None) h else h) else h) else h)
acknowledged false before here kept last o h e = unsaid last h ∙ either here h
acknowledged true false here kept last o h e = unsaid last h ∙ rw e (either here h)
acknowledged true true true kept last o h e = rw e refl
acknowledged true true false kept last o h e = unsaid last h

same_block : (d b : Block) → d.held ≡ b.held → d.acquire ≡ b.acquire → d.release ≡ b.release → d.probe ≡ b.probe
    → d.grant ≡ b.grant → d ≡ b
same_block d b h a r p g =
    ap (λ (x : Perm × Bool × Bool × Option PendingProbe × Option ℕ). record {
      held = x.0;
      acquire = x.1;
      release = x.2;
      probe = x.3;
      grant = x.4;
    })
    (rw (h, a, r, p, g) refl)

-- a block whose parts are all chosen by one test is chosen by it
parts : (here : Bool) (b c d : Block) → d.held ≡ (if here then b.held else c.held)
    → d.acquire ≡ (if here then b.acquire else c.acquire) → d.release ≡ (if here then b.release else c.release)
    → d.probe ≡ (if here then b.probe else c.probe)
    → d.grant ≡ (if here then b.grant else c.grant)
    → d ≡ (if here then b else c)
parts true b c d h a r p g = same_block d b h a r p g
parts false b c d h a r p g = same_block d c h a r p g

-- a Grant is of the block of its request, a ReleaseAck of that of its Release
grant_here : (op : OpD) (released asked : Bool)
    → (is_grant op && asked) ≡ (is_grant op && (if is_release_ack op then released else asked))
grant_here d.AccessAck r a = refl
grant_here d.AccessAckData r a = refl
grant_here d.HintAck r a = refl
grant_here d.Grant r a = refl
grant_here d.GrantData r a = refl
grant_here d.ReleaseAck r a = refl

ack_here : (op : OpD) (released asked : Bool)
    → (is_release_ack op && released) ≡ (is_release_ack op && (if is_release_ack op then released else asked))
ack_here d.AccessAck r a = refl
ack_here d.AccessAckData r a = refl
ack_here d.HintAck r a = refl
ack_here d.Grant r a = refl
ack_here d.GrantData r a = refl
ack_here d.ReleaseAck r a = refl

-- a GrantAck with the sink of the block's last Grant closes what is pending of it
acked : (last before here : Bool) (g : Option ℕ) (kept : Bool) → kept ≡ (if before then here else false)
    → (if last && here then None else if before then g else None)
    ≡ (if here then (if last && kept then None else if before then g else None) else if before then g else None)
acked true true true g kept e = rw e refl
acked true true false g kept e = refl
acked true false true g kept e = rw e refl
acked true false false g kept e = refl
acked false before true g kept e = refl
acked false before false g kept e = refl

kept_sink : (before : Bool) (s : ℕ) (g : Option ℕ)
    → is_sink s (if before then g else None) ≡ (if before then is_sink s g else false)
kept_sink true s g = refl
kept_sink false s g = refl

pub block-next : {w : ℕ} (l : Liberties) (k : ℕ) (x : Beat w) (t : History w)
    → kept_block l k (x ∷ t) ≡ (if bears_on k x t then block_next l (begins x t) (ends x t) (came l x t) x
    (kept_block l k t) else kept_block l k t)
unfolding pending held_under probe_of grant_sink
block-next l k (A x) t =
    let here = block_at x.address == k in
    parts here (block_next l (begins (A x) t) (ends (A x) t) (came l (A x) t) (A x) (kept_block l k t)) (kept_block l k t)
    (kept_block l k (A x ∷ t))
    (grown (l.drops && (begins (A x) t && (is_acquire x.opcode && grows_from_none x.param))) (ends (A x) t) here
    (held_under l k t))
    (only_opened (begins (A x) t) (is_acquire x.opcode && here) (ends (A x) t) (pending (AcquireOf k) t) ∙ chosen
    (begins (A x) t) (is_acquire x.opcode) here true (pending (AcquireOf k) t))
    (neither (begins (A x) t) (ends (A x) t) (pending (ReleaseOf k) t) ∙ either here (pending (ReleaseOf k) t))
    (unmoved (begins (A x) t) (ends (A x) t) (pending (ProbeOf k) t) (probe_kept (probe_of k t)) ∙ either here
    (kept_probe k t))
    (unmoved (begins (A x) t) (ends (A x) t) (pending (GrantAckOf k) t) (grant_sink k t) ∙ either here (kept_grant k t))
block-next l k (B x) t =
    let here = block_at x.address == k in
    parts here (block_next l (begins (B x) t) (ends (B x) t) (came l (B x) t) (B x) (kept_block l k t)) (kept_block l k t)
    (kept_block l k (B x ∷ t))
    (unsaid (ends (B x) t) (held_under l k t) ∙ either here (held_under l k t))
    (neither (begins (B x) t) (ends (B x) t) (pending (AcquireOf k) t) ∙ either here (pending (AcquireOf k) t))
    (neither (begins (B x) t) (ends (B x) t) (pending (ReleaseOf k) t) ∙ either here (pending (ReleaseOf k) t))
    (rw (fields_if probe_kept (begins (B x) t && (is_probe x.opcode && here)) (Some x) (probe_of k t))
    (opened (begins (B x) t) (is_probe x.opcode && here) (ends (B x) t) (pending (ProbeOf k) t) (probe_kept (Some x))
    (probe_kept (probe_of k t)))
    ∙ chosen (begins (B x) t) (is_probe x.opcode) here (probe_kept (Some x)) (kept_probe k t))
    (unmoved (begins (B x) t) (ends (B x) t) (pending (GrantAckOf k) t) (grant_sink k t) ∙ either here (kept_grant k t))
block-next l k (C x) t =
    let here = block_at x.address == k in
    parts here (block_next l (begins (C x) t) (ends (C x) t) (came l (C x) t) (C x) (kept_block l k t)) (kept_block l k t)
    (kept_block l k (C x ∷ t))
    (said (l.early && (is_release x.opcode && (not (begins (C x) t) && not (pending (ReleaseOf k) t)))) (ends (C x) t)
    (is_probe_ack x.opcode || is_release x.opcode) here (reported x.param) (held_under l k t))
    (neither (begins (C x) t) (ends (C x) t) (pending (AcquireOf k) t) ∙ either here (pending (AcquireOf k) t))
    (only_opened (begins (C x) t) (is_release x.opcode && here) (ends (C x) t) (pending (ReleaseOf k) t) ∙ chosen
    (begins (C x) t) (is_release x.opcode) here true (pending (ReleaseOf k) t))
    (closed (begins (C x) t) (ends (C x) t) (is_probe_ack x.opcode && here) (pending (ProbeOf k) t)
    (probe_kept (probe_of k t))
    ∙ chosen (ends (C x) t) (is_probe_ack x.opcode) here None (kept_probe k t))
    (unmoved (begins (C x) t) (ends (C x) t) (pending (GrantAckOf k) t) (grant_sink k t) ∙ either here (kept_grant k t))
block-next l k (D x) t =
    let here = bears_on k (D x) t in
    let granted : grants k x t ≡ (is_grant x.opcode && here) = grant_here x.opcode (releases k (release_of x.source t))
    (asks_for k (request_of x.source t)) in
    let released : (is_release_ack x.opcode && releases k (release_of x.source t)) ≡ (is_release_ack x.opcode && here) =
    ack_here x.opcode (releases k (release_of x.source t)) (asks_for k (request_of x.source t)) in
    parts here (block_next l (begins (D x) t) (ends (D x) t) (came l (D x) t) (D x) (kept_block l k t)) (kept_block l k t)
    (kept_block l k (D x ∷ t))
    (ap (λ g. if ends (D x) t then unwrap_or (if l.denied && x.denied then None else
    if l.early && (is_grant x.opcode && (not (begins (D x) t) && not (pending (GrantAckOf k) t))) then None else
    if l.early && is_release_ack x.opcode then (if releases k (release_of x.source t) then came_early (D x) t else None) else
    (if g then Some (capped x.param) else None)) (held_under l k t) else held_under l k t) granted
    ∙ responded (ends (D x) t) (l.denied && x.denied)
    (l.early && (is_grant x.opcode && (not (begins (D x) t) && not (pending (GrantAckOf k) t)))) l.early
    (is_release_ack x.opcode) (is_grant x.opcode) (releases k (release_of x.source t)) (asks_for k
    (request_of x.source t)) (came_early (D x) t) (capped x.param) (held_under l k t)
    ∙ ap (λ waits. if here then (if l.denied && x.denied then held_under l k t else
    if l.early && (is_grant x.opcode && (not (begins (D x) t) && not waits)) then held_under l k t else
    if l.early && is_release_ack x.opcode then (if ends (D x) t then unwrap_or (came l (D x) t) (held_under l k t) else
    held_under l k t) else if ends (D x) t && is_grant x.opcode then capped x.param else held_under l k t) else
    held_under l k t) (pending-grant k t))
    (only_closed (begins (D x) t) (ends (D x) t) (grants k x t) (pending (AcquireOf k) t)
    ∙ ap (λ g. if ends (D x) t && g then false else pending (AcquireOf k) t) granted
    ∙ chosen (ends (D x) t) (is_grant x.opcode) here false (pending (AcquireOf k) t))
    (only_closed (begins (D x) t) (ends (D x) t) (is_release_ack x.opcode && releases k (release_of x.source t))
    (pending (ReleaseOf k) t)
    ∙ ap (λ g. if ends (D x) t && g then false else pending (ReleaseOf k) t) released
    ∙ chosen (ends (D x) t) (is_release_ack x.opcode) here false (pending (ReleaseOf k) t))
    (unmoved (begins (D x) t) (ends (D x) t) (pending (ProbeOf k) t) (probe_kept (probe_of k t)) ∙ either here
    (kept_probe k t))
    (opened (begins (D x) t) (grants k x t) (ends (D x) t) (pending (GrantAckOf k) t) (Some x.sink) (grant_sink k t)
    ∙ ap (λ g. if begins (D x) t && g then Some x.sink else kept_grant k t) granted
    ∙ chosen (begins (D x) t) (is_grant x.opcode) here (Some x.sink) (kept_grant k t))
block-next {w} l k (E x) t =
    let here = is_sink x.sink (grant_sink k t) in
    let kept = kept_sink (pending (GrantAckOf k) t) x.sink (grant_sink k t) in
    parts here (block_next {w = w} l (begins (E x) t) (ends (E x) t) (came l (E x) t) (E x) (kept_block l k t))
    (kept_block l k t) (kept_block l k (E x ∷ t))
    (acknowledged l.early (pending (GrantAckOf k) t) here (is_sink x.sink (kept_grant k t)) (ends (E x) t)
    (came_early (E x) t) (held_under l k t) kept)
    (neither (begins (E x) t) (ends (E x) t) (pending (AcquireOf k) t) ∙ either here (pending (AcquireOf k) t))
    (neither (begins (E x) t) (ends (E x) t) (pending (ReleaseOf k) t) ∙ either here (pending (ReleaseOf k) t))
    (unmoved (begins (E x) t) (ends (E x) t) (pending (ProbeOf k) t) (probe_kept (probe_of k t)) ∙ either here
    (kept_probe k t))
    (closed (begins (E x) t) (ends (E x) t) here (pending (GrantAckOf k) t) (grant_sink k t)
    ∙ acked (ends (E x) t) (pending (GrantAckOf k) t) here (grant_sink k t) (is_sink x.sink (kept_grant k t)) kept)
