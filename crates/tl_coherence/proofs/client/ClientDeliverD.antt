-- A client's end after it has taken a beat of channel D: what it knows is what the protocol says then.
-- A client's end after it has handed a request or a Release out: what it knows is what the protocol says then.
use Rattle.std.proofs.Common.{◌≡◌, ℕ, Bool, true, false, not, ◌&&◌, ◌==◌, cond, List, [], ◌∷◌, Option, Some, None, refl}
use Rattle.std.proofs.Common.{sym, ◌∙◌, ap, arith, option_map, is_some}
use Rattle.tl_coherence.proofs
use proofs.Imports.{Beat, BeatA, BeatC, BeatD, Channel, IsWidth, beats-positive, A, E, MessageA, MessageC, MessageE}
use proofs.Imports.{a_beat_of, c_beat_of, History, unfinished, AcquireOf, ReleaseOf, ReleaseSource, RequestSource, Perm}
use proofs.Imports.{held-whole, pending-whole, release_of-whole, sent, block_at, capped, ends, grants, is_acquire}
use proofs.Imports.{is_grant, is_release, is_release_ack, held, pending, release_of, request_of, release_of-d}
use proofs.Imports.{open_beat-c, Endpoint, open_beat, is_unreleased, State, is_wanting}
use Rattle.tl_burst.specs.declared.message.Message.TheVariants.{C}
use Rattle.tl_client.proofs.pending.Opens.{open_beat-a, acquire_of-d, open_beat-d, open_beat-e, unfinished-d}
use Rattle.tl_client.proofs.endpoint.HeldAfter.{held-beat_d}
use Rattle.tl_rules.{proofs.Sent.pending-closed, specs.statement.History.releases}
use proofs.client.ClientEnd.{IsWellKept, IsKnown, known-kept}

-- ---- what a beat says

-- it is the last of a Grant of block k; of a ReleaseAck
abbrev pub ends_grant : {w : ℕ} → BeatD w → History w → ℕ → Bool
ends_grant x t k = ends (Beat.D x) t && grants k x t

-- what is open of Releases of block k, and with Release source i
release_now : {w : ℕ} (k : ℕ) (x : BeatD w) (t : History w) → pending (ReleaseOf k) (Beat.D x ∷ t)
    ≡ cond (ends (Beat.D x) t && (is_release_ack x.opcode && releases k (release_of x.source t))) false
    (pending (ReleaseOf k) t)
release_now k x t = pending-closed (ReleaseOf k) (Beat.D x) t refl

-- ---- by what the beat closes

-- What the protocol says of client c's end after a beat that gives p of each block that it grants, and closes a block's
-- Acquire, a block's Release, a source's request and a source's Release.
pub record IsHeard {w : ℕ} (c : ℕ) (x : BeatD w) (t : History w) (p : Perm)
    (closes_block closes_release closes_source closes_let : ℕ → Bool)
    (asked asked' : ℕ → Option (BeatA w)) (s s' : State (List ℕ)) : Type 0 where
  pub grants_is : (k : ℕ) → ends_grant x t k ≡ closes_block k
  pub gives : (k : ℕ) → closes_block k ≡ true → capped x.param ≡ p
  pub releases_is : (k : ℕ) → (ends (Beat.D x) t && (is_release_ack x.opcode && releases k (release_of x.source t)))
      ≡ closes_release k
  pub source_is : (i : ℕ) → (ends (Beat.D x) t && (not (is_release_ack x.opcode) && (x.source == i))) ≡ closes_source i
  pub let_is : (i : ℕ) → (ends (Beat.D x) t && (is_release_ack x.opcode && (x.source == i))) ≡ closes_let i
  pub held : (k : ℕ) → ((s'.block k).pair c).held ≡ cond (closes_block k) p ((s.block k).pair c).held
  pub acquiring : (k : ℕ) → is_wanting ((s'.block k).pair c).acquiring ≡ cond (closes_block k) false
      (is_wanting ((s.block k).pair c).acquiring)
  pub letting : (k : ℕ) → not (is_unreleased ((s'.block k).pair c).letting) ≡ cond (closes_release k) false
      (not (is_unreleased ((s.block k).pair c).letting))
  pub lets : (i : ℕ) → s'.lets c i ≡ cond (closes_let i) None (s.lets c i)
  pub asks : (i : ℕ) → asked' i ≡ cond (closes_source i) None (asked i)

none_cond : {X : Type 0} (b : Bool) (o : Option X) → is_some (cond b None o) ≡ cond b false (is_some o)
none_cond b o = grind arith

some_kept : {X : Type 0} (b : Bool) (o : Option X) (x : X) → cond b None o ≡ Some x → o ≡ Some x
some_kept b o x e = grind arith

-- the history after the beat, and after the message that answers it, if there is one: `u` says the same as the beat's
pub record IsEcho {w : ℕ} (x : BeatD w) (t u : History w) : Type 0 where
  pub held_is : (k : ℕ) → held k u ≡ held k (Beat.D x ∷ t)
  pub acquires : (k : ℕ) → pending (AcquireOf k) u ≡ pending (AcquireOf k) (Beat.D x ∷ t)
  pub releases : (k : ℕ) → pending (ReleaseOf k) u ≡ pending (ReleaseOf k) (Beat.D x ∷ t)
  pub opens : (i : ℕ) → open_beat i u ≡ open_beat i (Beat.D x ∷ t)
  pub requests : (i : ℕ) → pending (RequestSource i) u ≡ pending (RequestSource i) (Beat.D x ∷ t)
  pub release_sources : (i : ℕ) → pending (ReleaseSource i) u ≡ pending (ReleaseSource i) (Beat.D x ∷ t)
  pub released : (i : ℕ) → release_of i u ≡ release_of i (Beat.D x ∷ t)

pub echo-none : {w : ℕ} (x : BeatD w) (t : History w) → IsEcho x t (Beat.D x ∷ t)
echo-none x t = record {
  held_is = λ k. refl;
  acquires = λ k. refl;
  releases = λ k. refl;
  opens = λ i. refl;
  requests = λ i. refl;
  release_sources = λ i. refl;
  released = λ i. refl;
}

pub echo-e : {w : ℕ} (x : BeatD w) (m : MessageE) (t : History w) → IsWidth w → unfinished Channel.E t ≡ []
    → IsEcho x t (sent (E m) (Beat.D x ∷ t))
echo-e {w} x m t width whole =
    let none = (unfinished-d x t).3 ∙ whole in
    let some = beats-positive {w = w} (E m) width in
    record {
      held_is = λ k. held-whole k (E m) _ none some;
      acquires = λ k. pending-whole (AcquireOf k) (E m) _ none some;
      releases = λ k. pending-whole (ReleaseOf k) (E m) _ none some;
      opens = λ i. open_beat-e i m _ width none;
      requests = λ i. pending-whole (RequestSource i) (E m) _ none some;
      release_sources = λ i. pending-whole (ReleaseSource i) (E m) _ none some;
      released = λ i. release_of-whole i (E m) _ none some;
    }

given_cond : (a b : Bool) (p q r : Perm) → a ≡ b → (b ≡ true → p ≡ q) → cond a p r ≡ cond b q r
given_cond a b p q r e f = grind arith

pub heard : {w : ℕ} {c : ℕ} {x : BeatD w} {t : History w} {p : Perm}
    {closes_block closes_release closes_source closes_let : ℕ → Bool} {asked asked' : ℕ → Option (BeatA w)}
    {s s' : State (List ℕ)} {f : Endpoint w} → IsEcho x t f.past → IsWellKept f
    → IsHeard c x t p closes_block closes_release closes_source closes_let asked asked' s s'
    → IsKnown asked (unfinished Channel.D t) c s t → IsKnown asked' (unfinished Channel.D f.past) c s' f.past
heard {w} {c} {x} {t} {p} {closes_block} {closes_release} {closes_source} {closes_let} {asked} {asked'} {s} {s'}
    {f} echo well event (known, open_) = (
      known-kept asked' c s' well (λ k. echo.held_is k ∙ held-beat_d k x t ∙ given_cond
          (ends_grant x t k) (closes_block k) _ p (held k t) (event.grants_is k) (event.gives k)
          ∙ ap (λ q. cond (closes_block k) p q) (known.held_is k) ∙ sym (event.held k))
          (λ k. echo.acquires k ∙ acquire_of-d k x t ∙ ap (λ b. cond b false (pending (AcquireOf k) t))
          (event.grants_is k) ∙ ap (λ b. cond (closes_block k) false b) (known.acquires k) ∙ sym (event.acquiring k))
          (λ k. cc (echo.releases k, release_now k x t, event.releases_is k, known.releases k, event.letting k))
          (λ i. cc (echo.opens i, open_beat-d i x t, event.source_is i, known.opens i, event.asks i)),
      record {
        requests = λ i. let fact = pending-closed (RequestSource i) (Beat.D x) t refl in let other_fact = none_cond
            (closes_source i) (asked i) in cc (echo.requests i, event.source_is i, open_.requests i, event.asks i);
        releases = λ i. let fact = pending-closed (ReleaseSource i) (Beat.D x) t refl in let other_fact = none_cond
            (closes_let i) (s.lets c i) in cc (echo.release_sources i, event.let_is i, open_.releases i, event.lets i);
        released = λ i n some. ap (option_map (λ y. block_at y.address)) (echo.released i ∙ release_of-d i x t)
            ∙ open_.released i n (some_kept (closes_let i) (s.lets c i) n (sym (event.lets i) ∙ some));
        sizes = λ i n some. ap (option_map (λ y. y.size)) (echo.released i ∙ release_of-d i x t) ∙ open_.sizes i n
            (some_kept (closes_let i) (s.lets c i) n (sym (event.lets i) ∙ some));
      },
    )

-- ---- what each kind of beat closes

-- one that isn't the last of its message closes nothing
pub heard-part : {w : ℕ} (c : ℕ) (x : BeatD w) (t : History w) (p : Perm) (asked : ℕ → Option (BeatA w))
    (s : State (List ℕ)) → ends (Beat.D x) t ≡ false
    → IsHeard c x t p (λ k. false) (λ k. false) (λ k. false) (λ k. false) asked asked s s
heard-part c x t p asked s more = grind arith

-- the last of an answer closes the request with its source
pub answer_closes : {w : ℕ} (x : BeatD w) (t : History w) → ends (Beat.D x) t ≡ true → is_grant x.opcode ≡ false
    → is_release_ack x.opcode ≡ false → ((k : ℕ) → ends_grant x t k ≡ false)
    × ((k : ℕ) → (ends (Beat.D x) t && (is_release_ack x.opcode && releases k (release_of x.source t))) ≡ false)
    × ((i : ℕ) → (ends (Beat.D x) t && (not (is_release_ack x.opcode) && (x.source == i))) ≡ (x.source == i))
    × ((i : ℕ) → (ends (Beat.D x) t && (is_release_ack x.opcode && (x.source == i))) ≡ false)
answer_closes x t last plain other = grind arith

-- that of a ReleaseAck the Release with its source, of its block
pub ack_closes : {w : ℕ} (n : ℕ) (x : BeatD w) (t : History w) → ends (Beat.D x) t ≡ true → is_grant x.opcode ≡ false
    → is_release_ack x.opcode ≡ true → option_map (λ (y : BeatC w). block_at y.address) (release_of x.source t) ≡ Some n
    → ((k : ℕ) → ends_grant x t k ≡ false)
    × ((k : ℕ) → (ends (Beat.D x) t && (is_release_ack x.opcode && releases k (release_of x.source t))) ≡ (n == k))
    × ((i : ℕ) → (ends (Beat.D x) t && (not (is_release_ack x.opcode) && (x.source == i))) ≡ false)
    × ((i : ℕ) → (ends (Beat.D x) t && (is_release_ack x.opcode && (x.source == i))) ≡ (x.source == i))
ack_closes n x t last plain acks block = grind arith

-- that of a Grant the Acquire with its source, of its block
pub grant_closes : {w : ℕ} (n : ℕ) (x : BeatD w) (r : BeatA w) (t : History w) → ends (Beat.D x) t ≡ true
    → is_grant x.opcode ≡ true → is_release_ack x.opcode ≡ false → request_of x.source t ≡ Some r
    → block_at r.address ≡ n → ((k : ℕ) → ends_grant x t k ≡ (n == k))
    × ((k : ℕ) → (ends (Beat.D x) t && (is_release_ack x.opcode && releases k (release_of x.source t))) ≡ false)
    × ((i : ℕ) → (ends (Beat.D x) t && (not (is_release_ack x.opcode) && (x.source == i))) ≡ (x.source == i))
    × ((i : ℕ) → (ends (Beat.D x) t && (is_release_ack x.opcode && (x.source == i))) ≡ false)
grant_closes n x r t last gives other request block = grind arith

-- ---- a request

-- what the protocol says of client c's end after this request was handed out
pub record IsRequested {w : ℕ} (c : ℕ) (m : MessageA w) (asked asked' : ℕ → Option (BeatA w))
    (s s' : State (List ℕ)) : Type 0 where
  pub held : (n : ℕ) → ((s'.block n).pair c).held ≡ ((s.block n).pair c).held
  pub letting : (n : ℕ) → is_unreleased ((s'.block n).pair c).letting ≡ is_unreleased ((s.block n).pair c).letting
  pub lets : (source : ℕ) → s'.lets c source ≡ s.lets c source
  pub acquiring : (n : ℕ) → is_wanting ((s'.block n).pair c).acquiring ≡ cond
      (is_acquire m.opcode && (block_at m.address == n)) true (is_wanting ((s.block n).pair c).acquiring)
  pub asks : (source : ℕ) → asked' source ≡ cond (m.source == source) (Some (a_beat_of m 0)) (asked source)

some_cond : {X : Type 0} (b : Bool) (x : X) (o : Option X) → is_some (cond b (Some x) o) ≡ cond b true (is_some o)
some_cond b x o = grind arith

pub knows-requested : {w : ℕ} {c : ℕ} {m : MessageA w} {asked asked' : ℕ → Option (BeatA w)} {s s' : State (List ℕ)}
    {t : History w} {f : Endpoint w} → IsWidth w → f.past ≡ sent (A m) t → unfinished Channel.A t ≡ [] → IsWellKept f
    → IsRequested c m asked asked' s s' → IsKnown asked (unfinished Channel.D t) c s t
    → IsKnown asked' (unfinished Channel.D f.past) c s' f.past
knows-requested {w} {c} {m} {asked} {asked'} {s'} {t} {f} width past none well event (known, open_) =
    let some = beats-positive (A m) width in (
      known-kept asked' c s' well (λ n. ap (held n) past ∙ held-whole n (A m) t none some ∙ known.held_is n
          ∙ sym (event.held n))
          (λ n. cc (pending-whole (AcquireOf n) (A m) t none some, known.acquires n, event.acquiring n))
          (λ n. cc (pending-whole (ReleaseOf n) (A m) t none some, known.releases n, event.letting n))
          (λ source. cc (open_beat-a source m t width none, known.opens source, event.asks source)),
      rw past (record {
        requests = λ source. let fact = some_cond (m.source == source) (a_beat_of m 0) (asked source) in
            cc (pending-whole (RequestSource source) (A m) t none some, open_.requests source, event.asks source);
        releases = λ source. pending-whole (ReleaseSource source) (A m) t none some ∙ open_.releases source ∙ sym
            (ap is_some (event.lets source));
        released = λ source n is. ap (option_map (λ x. block_at x.address)) (release_of-whole source (A m) t none some)
            ∙ open_.released source n (sym (event.lets source) ∙ is);
        sizes = λ source n is. ap (option_map (λ x. x.size)) (release_of-whole source (A m) t none some) ∙ open_.sizes
            source n (sym (event.lets source) ∙ is);
      }),
    )

-- ---- a Release

-- what the protocol says of client c's end after this Release of block i was handed out, which leaves p of it
pub record IsReleased {w : ℕ} (c i : ℕ) (m : MessageC w) (p : Perm) (asked asked' : ℕ → Option (BeatA w))
    (s s' : State (List ℕ)) : Type 0 where
  pub releases : is_release m.opcode ≡ true
  pub of_block : block_at m.address ≡ i
  pub whole : m.size ≡ 6
  pub held : (n : ℕ) → ((s'.block n).pair c).held ≡ cond (n == i) p ((s.block n).pair c).held
  pub letting : (n : ℕ) → not (is_unreleased ((s'.block n).pair c).letting) ≡ cond (i == n) true
      (not (is_unreleased ((s.block n).pair c).letting))
  pub lets : (source : ℕ) → s'.lets c source ≡ cond (m.source == source) (Some i) (s.lets c source)
  pub acquiring : (n : ℕ) → is_wanting ((s'.block n).pair c).acquiring ≡ is_wanting ((s.block n).pair c).acquiring
  pub asks : (source : ℕ) → asked' source ≡ asked source

pub knows-released : {w : ℕ} {c i : ℕ} {m : MessageC w} {p : Perm} {asked asked' : ℕ → Option (BeatA w)}
    {s s' : State (List ℕ)} {t : History w} {f : Endpoint w} → IsWidth w → f.past ≡ sent (C m) t
    → unfinished Channel.C t ≡ [] → ((n : ℕ) → held n (sent (C m) t) ≡ cond (n == i) p (held n t))
    → IsWellKept f → IsReleased c i m p asked asked' s s' → IsKnown asked (unfinished Channel.D t) c s t
    → IsKnown asked' (unfinished Channel.D f.past) c s' f.past
knows-released {w} {c} {i} {m} {p} {asked'} {s} {s'} {t} {f} width past none left well event (known, open_) =
    let opens : (n : ℕ) → cond (is_release m.opcode && (block_at m.address == n)) true (pending (ReleaseOf n) t)
    ≡ cond (i == n) true (pending (ReleaseOf n) t) = λ n. rw (event.releases, event.of_block) refl in
    let size : (b : Bool) (n source : ℕ) → cond b (Some i) (s.lets c source) ≡ Some n
    → (s.lets c source ≡ Some n → option_map (λ x. x.size) (release_of source t) ≡ Some 6)
    → option_map (λ x. x.size) (cond b (Some (c_beat_of m 0)) (release_of source t)) ≡ Some 6 =
    elim [ true ↦ λ n source is before. ap Some event.whole | false ↦ λ n source is before. before is ] in
    let sources : (source : ℕ) → cond (is_release m.opcode && (m.source == source)) true (pending (ReleaseSource source)
    t) ≡ cond (m.source == source) true (pending (ReleaseSource source) t) = λ source. rw event.releases refl in
    let names : (source : ℕ) → cond (is_release m.opcode && (m.source == source)) (Some (c_beat_of m 0))
    (release_of source t) ≡ cond (m.source == source) (Some (c_beat_of m 0)) (release_of source t) =
    λ source. rw event.releases refl in
    let some = beats-positive (C m) width in (
      known-kept asked' c s' well (λ n. ap (held n) past ∙ left n ∙ ap (λ q. cond (n == i) p q) (known.held_is n)
          ∙ sym (event.held n))
          (λ n. cc (pending-whole (AcquireOf n) (C m) t none some, known.acquires n, event.acquiring n))
          (λ n. cc (pending-whole (ReleaseOf n) (C m) t none some, opens n, known.releases n, event.letting n))
          (λ source. cc (open_beat-c source m t width none, known.opens source, event.asks source)),
      rw past (record {
        requests = λ source. pending-whole (RequestSource source) (C m) t none some ∙ open_.requests source ∙ sym
            (ap is_some (event.asks source));
        releases = λ source. let fact = pending-whole (ReleaseSource source) (C m) t none some in let other_fact =
            some_cond (m.source == source) i (s.lets c source) in
            cc (sources source, open_.releases source, event.lets source);
        released = λ source n is. let fact = last (m.source == source) n (λ x. block_at x.address) source
            (sym (event.lets source) ∙ is) (λ e. event.of_block ∙ e) (open_.released source n) in
            cc (release_of-whole source (C m) t none some, names source);
        sizes = λ source n is. ap (option_map (λ x. x.size)) (release_of-whole source (C m) t none some ∙ names source)
            ∙ size (m.source == source) n source (sym (event.lets source) ∙ is) (open_.sizes source n);
      }),
    )
  where
    last : (b : Bool) (n : ℕ) (value : BeatC w → ℕ) (source : ℕ) → cond b (Some i) (s.lets c source) ≡ Some n
        → (i ≡ n → value (c_beat_of m 0) ≡ n)
        → (s.lets c source ≡ Some n → option_map value (release_of source t) ≡ Some n)
        → option_map value (cond b (Some (c_beat_of m 0)) (release_of source t)) ≡ Some n
    last b n value source e f g = grind arith
