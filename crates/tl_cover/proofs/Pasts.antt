-- What is kept of a link, with one more beat.
use Rattle.std.proofs.Common.{◌≡◌, ℕ, Bool, true, false, ◌==◌, ◌&&◌, List, [], ◌∷◌, refl, subst, sym, ap, ◌∙◌, arith}
use Rattle.std.specs.Prelude.{if◌then◌else◌, not, Option, Some, None, is_some}
use Rattle.tl_beat.specs.declared.beat.Beat.{Beat}
use Rattle.tl_beat.specs.declared.beat.Beat.TheVariants as beat
use Rattle.tl_beat.specs.statement.Control.{control_of}
use Rattle.tl_burst.specs.statement.Messages.{History}
use Rattle.tl_cover.proofs.OpenSources.{open_taken}
use Rattle.tl_cover.specs.code.Open.{KnowsOpen, OpenTaken}
use Rattle.tl_cover.specs.code.Past.{KnowsPast, awaited_next, awaits}
use Rattle.tl_cover.specs.code.Past.{block_released, has, is_of, released_next, request_next}
use Rattle.tl_cover.specs.code.Past.{KnowsUnderWay, no_messages, turned, under_way_next}
use Rattle.tl_cover.specs.declared.under_way.UnderWay.{UnderWay}
use Rattle.tl_cover.specs.statement.Scene.{under_way}
use Rattle.tl_cover.specs.declared.past.LinkPast.{LinkPast}
use Rattle.tl_monitor.specs.statement.Count.{at}
use Rattle.tl_params.specs.declared.key.Key.{Key}
use Rattle.tl_params.specs.declared.key.Key.TheVariants.{AcquireOf, ReleaseOf, GrantSink, GrantAckOf}
use Rattle.tl_rules.proofs.Tables.{neither, sink-next}
use Rattle.tl_rules.specs.code.Open.{request_fields}
use Rattle.tl_rules.specs.code.Tables.{sink_next}
use Rattle.tl_rules.specs.statement.History.{begins, closes, ends, grant_sink, is_sink, opens, pending, release_of}
use Rattle.tl_rules.specs.statement.History.{block_at, grants, request_of}

-- nothing is kept of a link that has carried nothing
pub past_none : (w : ℕ) (p : LinkPast) → ((s : ℕ) → at p.requests s ≡ None) → ((s : ℕ) → at p.released s ≡ None)
    → p.acquires.items ≡ [] → p.releases.items ≡ [] → p.awaited.items ≡ []
    → ((s : ℕ) → at p.sinks s ≡ None) → KnowsOpen {w = w} p.open [] → p.newest ≡ None → p.under_way ≡ no_messages
    → KnowsPast {w = w} p []
unfolding request_of release_of pending grant_sink under_way
past_none w p requests released acquires releases awaited sinks sources newest messages = record {
  requests_are = requests;
  released_are = released;
  acquires_are = λ k. ap (has k) acquires;
  releases_are = λ k. ap (has k) releases;
  awaited_are = λ k s. ap (awaits k s) awaited;
  sinks_are = λ s. ap is_some (sinks s);
  open_is = sources;
  newest_is = newest;
  under_way_is = record {
    a_is = ap (λ (u : UnderWay). u.a) messages;
    c_is = ap (λ (u : UnderWay). u.c) messages;
    d_is = ap (λ (u : UnderWay). u.d) messages;
  };
}

module _ {w : ℕ} (x : Beat w) (h : History w) (first last : Bool) (begun : first ≡ begins x h)
    (complete : last ≡ ends x h)
  where
    -- what is pending by block
    pub list_taken : (key : ℕ → Key) (old new : List ℕ) (opened closed : Option ℕ)
        → ((k : ℕ) → has k new ≡ turned (is_of k opened) (is_of k closed) (has k old))
        → ((k : ℕ) → is_of k opened ≡ (first && opens (key k) x h))
        → ((k : ℕ) → is_of k closed ≡ (last && closes (key k) x h))
        → ((k : ℕ) → has k old ≡ pending (key k) h) → (k : ℕ) → has k new ≡ pending (key k) (x ∷ h)
    unfolding pending
    list_taken key old new opened closed next is_opened is_closed before k =
        next k ∙ rw (is_opened k, is_closed k, before k, begun, complete) refl

    -- the sinks whose GrantAcks are pending
    sinks_taken : (old new : ℕ → Bool) → ((s : ℕ) → new s ≡ sink_next first last x s (old s))
        → ((s : ℕ) → old s ≡ pending (GrantSink s) h) → (s : ℕ) → new s ≡ pending (GrantSink s) (x ∷ h)
    sinks_taken old new next before s =
        next s ∙ rw (before s, begun, complete) (sym (sink-next s x h))

acknowledged : (last p : Bool) (g : Option ℕ) (sink s : ℕ)
    → (if last then (p && is_sink s g) && not (sink == s) else p && is_sink s g)
    ≡ ((if last && is_sink sink g then false else p) && is_sink s g)
acknowledged true true None sink s = refl
acknowledged true false None sink s = refl
acknowledged false true None sink s = refl
acknowledged false false None sink s = refl
acknowledged false p (Some n) sink s = refl
acknowledged true false (Some n) sink s = go (n == sink)
  where
    go : (b : Bool) → false ≡ ((if b then false else false) && (n == s))
    go true = refl
    go false = refl
acknowledged true true (Some n) sink s = grind arith

granted : (now last before : Bool) (g : Option ℕ) (sink s : ℕ)
    → (if now then sink == s else before && is_sink s g)
    ≡ ((if now then true else if last && false then false else before) && is_sink s (if now then Some sink else g))
granted true last before g sink s = refl
granted false true before g sink s = refl
granted false false before g sink s = refl

unmoved : (first last before : Bool) (g : Option ℕ) (s : ℕ) → (before && is_sink s g)
    ≡ ((if first && false then true else if last && false then false else before) && is_sink s g)
unmoved first last before g s = rw (neither first last before) refl

-- the blocks whose GrantAcks are pending
awaited-next : {w : ℕ} (x : Beat w) (h : History w) (block : Option ℕ)
    → ((k : ℕ) → is_of k block ≡ closes (AcquireOf k) x h) → (k s : ℕ)
    → awaited_next (begins x h) (ends x h) x block k s (pending (GrantAckOf k) h && is_sink s (grant_sink k h))
    ≡ (pending (GrantAckOf k) (x ∷ h) && is_sink s (grant_sink k (x ∷ h)))
unfolding pending grant_sink
awaited-next (beat.A x) h block of k s =
    unmoved (begins (beat.A x) h) (ends (beat.A x) h) (pending (GrantAckOf k) h) (grant_sink k h) s
awaited-next (beat.B x) h block of k s =
    unmoved (begins (beat.B x) h) (ends (beat.B x) h) (pending (GrantAckOf k) h) (grant_sink k h) s
awaited-next (beat.C x) h block of k s =
    unmoved (begins (beat.C x) h) (ends (beat.C x) h) (pending (GrantAckOf k) h) (grant_sink k h) s
awaited-next (beat.D x) h block of k s =
    rw (of k) (granted (begins (beat.D x) h && grants k x h) (ends (beat.D x) h) (pending (GrantAckOf k) h)
    (grant_sink k h) x.sink s)
awaited-next (beat.E x) h block of k s = go (begins (beat.E x) h)
  where
    go : (first : Bool) → (if ends (beat.E x) h then (pending (GrantAckOf k) h && is_sink s (grant_sink k h)) && not
        (x.sink == s) else pending (GrantAckOf k) h && is_sink s (grant_sink k h))
        ≡ ((if first && false then true else if ends (beat.E x) h && is_sink x.sink (grant_sink k h) then false else
        pending (GrantAckOf k) h) && is_sink s (grant_sink k h))
    go true = acknowledged (ends (beat.E x) h) (pending (GrantAckOf k) h) (grant_sink k h) x.sink s
    go false = acknowledged (ends (beat.E x) h) (pending (GrantAckOf k) h) (grant_sink k h) x.sink s

-- ---- by source

fields_if : {X Y : Type 0} (f : Option X → Option Y) (b : Bool) (o p : Option X)
    → (if b then f o else f p) ≡ f (if b then o else p)
fields_if f true o p = refl
fields_if f false o p = refl

request-next : {w : ℕ} (x : Beat w) (h : History w) (s : ℕ)
    → request_next (begins x h) x s (request_fields (request_of s h)) ≡ request_fields (request_of s (x ∷ h))
unfolding request_of
request-next (beat.A x) h s =
    fields_if request_fields (begins (beat.A x) h && (x.source == s)) (Some x) (request_of s h)
request-next (beat.B x) h s = refl
request-next (beat.C x) h s = refl
request-next (beat.D x) h s = refl
request-next (beat.E x) h s = refl

released-next : {w : ℕ} (x : Beat w) (h : History w) (s : ℕ)
    → released_next (begins x h) x s (block_released (release_of s h)) ≡ block_released (release_of s (x ∷ h))
unfolding release_of
released-next (beat.A x) h s = refl
released-next (beat.B x) h s = refl
released-next (beat.C x) h s = go _
  where
    go : (b : Bool) → (if b then Some (block_at x.address) else block_released (release_of s h))
        ≡ block_released (if b then Some x else release_of s h)
    go true = refl
    go false = refl
released-next (beat.D x) h s = refl
released-next (beat.E x) h s = refl

-- ---- messages under way

pub under_way-next : {w : ℕ} (x : Beat w) (h : History w) (last : Bool) (u : UnderWay) → last ≡ ends x h
    → KnowsUnderWay u h → KnowsUnderWay (under_way_next last x u) (x ∷ h)
unfolding under_way
under_way-next (beat.A x) h last u complete had =
    record { a_is = rw complete refl; c_is = had.c_is; d_is = had.d_is }
under_way-next (beat.B x) h last u complete had = record { a_is = had.a_is; c_is = had.c_is; d_is = had.d_is }
under_way-next (beat.C x) h last u complete had =
    record { a_is = had.a_is; c_is = rw complete refl; d_is = had.d_is }
under_way-next (beat.D x) h last u complete had =
    record { a_is = had.a_is; c_is = had.c_is; d_is = rw complete refl }
under_way-next (beat.E x) h last u complete had = record { a_is = had.a_is; c_is = had.c_is; d_is = had.d_is }

-- ---- the whole

pub past_taken : {w : ℕ} (p q : LinkPast) (x : Beat w) (h : History w) (first last : Bool) (block : Option ℕ)
    → first ≡ begins x h → last ≡ ends x h → KnowsPast p h
    → ((s : ℕ) → at q.requests s ≡ request_next first x s (at p.requests s))
    → ((s : ℕ) → at q.released s ≡ released_next first x s (at p.released s))
    → ((k : ℕ) → has k q.acquires.items ≡ pending (AcquireOf k) (x ∷ h))
    → ((k : ℕ) → has k q.releases.items ≡ pending (ReleaseOf k) (x ∷ h))
    → ((k : ℕ) → is_of k block ≡ closes (AcquireOf k) x h)
    → ((k s : ℕ) → awaits k s q.awaited.items ≡ awaited_next first last x block k s (awaits k s p.awaited.items))
    → ((s : ℕ) → is_some (at q.sinks s) ≡ sink_next first last x s (is_some (at p.sinks s)))
    → OpenTaken p.open q.open first last x
    → q.newest ≡ Some (control_of x) → q.under_way ≡ under_way_next last x p.under_way → KnowsPast q (x ∷ h)
past_taken p q x h first last block begun complete had requests released acquires releases of awaited sinks sources
    newest messages =
    record {
      requests_are = λ s. requests s ∙ rw (begun, had.requests_are s) (request-next x h s);
      released_are = λ s. released s ∙ rw (begun, had.released_are s) (released-next x h s);
      acquires_are = acquires;
      releases_are = releases;
      awaited_are = λ k s. awaited k s ∙ rw (begun, complete, had.awaited_are k s) (awaited-next x h block of k s);
      sinks_are = sinks_taken x h first last begun complete (λ s. is_some (at p.sinks s)) (λ s. is_some (at q.sinks s))
          sinks had.sinks_are;
      open_is = open_taken p.open q.open x h first last begun complete had.open_is sources;
      newest_is = newest;
      under_way_is = subst (λ (u : UnderWay). KnowsUnderWay u (x ∷ h)) (sym messages)
          (under_way-next x h last p.under_way complete had.under_way_is);
    }
