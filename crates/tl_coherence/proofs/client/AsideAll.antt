-- Which clients' ends an event leaves alone: one at a client all others, one at the manager all.
-- Which clients' ends are left alone as a message is taken, and as a client is asked: all of that is what `followed`
-- does.
use Rattle.std.proofs.Common.{◌≡◌, ℕ, Bool, true, false, not, ◌&&◌, ◌==◌, if◌then◌else◌, List, ◌∷◌, Some, None, refl}
use Rattle.std.proofs.Common.{sym, ◌∙◌, ap, arith, inl, inr, eqb-true}
use Rattle.tl_coherence.proofs
use proofs.Imports.{and_from, Message, Config, Cap, Grow, Report, block_at, Op, Reply, copy_stored, whole_grow, access}
use proofs.Imports.{IsInvariant, cap_asked, is_asked, serves_of, Answer, Grant, Kind, Packet, Probe, Release}
use proofs.Imports.{ReleaseAck, Request, set, set_at, AcquireOpen, ClientBlock, is_unreleased, is_whole, after_grant}
use proofs.Imports.{after_grant_sent, after_probe, after_release, after_release_ack, after_release_taken, after_report}
use proofs.Imports.{after_served, Asked, Block, GrantSent, InService, Replied, Service, SourceFree, SourceState, State}
use proofs.Imports.{Waits, acquire_asked, granted_block, granted_copy, granted_pair, on, packet, served_block}
use proofs.Imports.{served_pair, AbstractState, asked, kind_taken, taken_by_client, with_state, channel_for}
use proofs.Imports.{AccessMessages, cap_sent, is_to_client}
use proofs.client.ClientEnd.{IsSameUse, is_access, IsAside}
use proofs.queues.Tokens.{set-part, set-other, same_number}
use proofs.protocol.{BothParts.releasing-open, BothParts.first-shown, BothParts.first-request, HeadOfD.true-taken}

-- ---- a block

-- what block n says of client c's end is as before
pub record IsAsideBlock (c : ℕ) (b b' : Block (List ℕ)) : Type 0 where
  pub held : (b'.pair c).held ≡ (b.pair c).held
  pub acquiring : (b'.pair c).acquiring ≡ (b.pair c).acquiring
  pub letting : is_unreleased (b'.pair c).letting ≡ is_unreleased (b.pair c).letting
  pub source : b'.source c ≡ b.source c
  pub copy : b'.copy c ≡ b.copy c
  pub waiting : b'.waiting c ≡ b.waiting c

-- what an event that changes block n alone leaves of a client's end
pub aside-block : {w : ℕ} {c : ℕ} (n : ℕ) {b : Block (List ℕ)} {mail mail' : AccessMessages w} {s s' : State (List ℕ)}
    → s'.block ≡ set n b s.block → IsAsideBlock c (s.block n) b → ((source : ℕ) → s'.lets c source ≡ s.lets c source)
    → ((source : ℕ) → IsSameUse (s.uses c source) (s'.uses c source))
    → ((source : ℕ) → mail'.request c source ≡ mail.request c source) → IsAside c mail mail' s s'
aside-block {c} n {b} {s} changed aside lets uses request = grind arith

-- and one that changes no block
pub aside-blocks : {w : ℕ} {c : ℕ} {mail mail' : AccessMessages w} {s s' : State (List ℕ)} → s'.block ≡ s.block
    → ((source : ℕ) → s'.lets c source ≡ s.lets c source)
    → ((source : ℕ) → IsSameUse (s.uses c source) (s'.uses c source))
    → ((source : ℕ) → mail'.request c source ≡ mail.request c source) → IsAside c mail mail' s s'
aside-blocks {c} same lets uses request = grind arith

-- what the block has of the client's pair stays
pub pair-aside : {c : ℕ} {b b' : Block (List ℕ)} → (b'.pair c).held ≡ (b.pair c).held
    → (b'.pair c).acquiring ≡ (b.pair c).acquiring → is_unreleased (b'.pair c).letting ≡ is_unreleased
    (b.pair c).letting → b'.source ≡ b.source → b'.copy ≡ b.copy → b'.waiting ≡ b.waiting → IsAsideBlock c b b'
pair-aside {c} held acquiring letting source copy waiting = grind arith

-- another client's event
pub others-aside : {d : ℕ} {b b' : Block (List ℕ)} → b'.pair d ≡ b.pair d → b'.source d ≡ b.source d
    → b'.copy d ≡ b.copy d → b'.waiting d ≡ b.waiting d → IsAsideBlock d b b'
others-aside pair source copy waiting = grind arith

-- what one pair has in common with another, all have
pub entry-aside : (c : ℕ) {d : ℕ} (p : ClientBlock) {b b' : Block (List ℕ)} → b'.pair ≡ set c p b.pair
    → p.held ≡ (b.pair c).held → p.acquiring ≡ (b.pair c).acquiring
    → is_unreleased p.letting ≡ is_unreleased (b.pair c).letting
    → b'.source ≡ b.source → b'.copy ≡ b.copy → b'.waiting ≡ b.waiting → IsAsideBlock d b b'
entry-aside c {d} p {b} pair held acquiring letting source copy waiting = pair-aside (ap (λ (f : ℕ → ClientBlock).
    (f d).held) pair ∙ set-part (λ q. q.held) c p b.pair held d) (ap (λ (f : ℕ → ClientBlock).
    (f d).acquiring) pair ∙ set-part (λ q. q.acquiring) c p b.pair acquiring d)
    (cc (set-part (λ q. is_unreleased q.letting) c p b.pair letting d)) source copy waiting

served_aside : {A : Type 0} (part : ClientBlock → A) (r : ℕ) (own : Bool) (k : Cap) (pair : ℕ → ClientBlock) (d : ℕ)
    → part (after_served k (pair d)) ≡ part (pair d) → part (served_pair r own k pair d) ≡ part (pair d)
served_aside part r own k pair d e =
    let go : (z : Bool) → part (if z then pair d else after_served k (pair d)) ≡ part (pair d) =
    elim [ true ↦ refl | false ↦ e ] in
    go (own && (d == r))

pub served-aside : {d : ℕ} (r source tracker : ℕ) (own : Bool) (k : Cap) (b : Block (List ℕ))
    → IsAsideBlock d b (served_block r own source tracker k b)
served-aside {d} r source tracker own k b = pair-aside (served_aside (λ q. q.held) r own k b.pair d refl) (served_aside
    (λ q. q.acquiring) r own k b.pair d refl) (served_aside (λ q. is_unreleased q.letting) r own k b.pair d refl) refl
    refl refl

granted_part : {A : Type 0} (part : ClientBlock → A) (c q d : ℕ) (r : Report) (k : Cap) (pair : ℕ → ClientBlock)
    → part (after_grant_sent k (pair q)) ≡ part (pair q) → part (after_report r (pair c)) ≡ part (pair c)
    → part (granted_pair c q r k pair d) ≡ part (pair d)
granted_part part c q d r k pair sent told = go (d == q) refl
  where
    go : (z : Bool) → (d == q) ≡ z
        → part (if z then after_grant_sent k (pair q) else set c (after_report r (pair c)) pair d) ≡ part (pair d)
    go true e = sent ∙ ap (λ i. part (pair i)) (sym (eqb-true d q e))
    go false e = set-part part c _ pair told d

pub granted-aside : {d : ℕ} (c q : ℕ) (r : Report) (data_too : Bool) (k : Cap) (b : Block (List ℕ))
    → IsAsideBlock d b (granted_block c q r data_too k b)
granted-aside {d} c q r data_too k b = pair-aside (granted_part (λ p. p.held) c q d r k b.pair refl refl)
    (granted_part (λ p. p.acquiring) c q d r k b.pair refl refl) (granted_part (λ p. is_unreleased p.letting) c q d r k
    b.pair refl refl) refl refl refl

-- ---- uses

-- an entry of another client
pub set_at-other : {X : Type 0} (c d source i : ℕ) (x : X) (f : ℕ → ℕ → X) → (d ≡ c → ⊥)
    → set_at c source x f d i ≡ f d i
set_at-other c d source i x f ne = ap (λ g. g i) (set-other c d (set source x (f c)) f ne)

-- an entry of another source
pub set_at-else : {X : Type 0} (c source i : ℕ) (x : X) (f : ℕ → ℕ → X) → (i ≡ source → ⊥) → (d : ℕ)
    → set_at c source x f d i ≡ f d i
set_at-else c source i x f ne d = go (d == c) refl
  where
    go : (z : Bool) → (d == c) ≡ z → (if z then set source x (f c) else f d) i ≡ f d i
    go true e = set-other source i x (f c) ne ∙ ap (λ k. f k i) (sym (eqb-true d c e))
    go false e = refl

-- an access that goes on
pub uses-moved : (c source : ℕ) (v : SourceState) (uses : ℕ → ℕ → SourceState) → is_access (uses c source) ≡ true
    → is_access v ≡ true → (d i : ℕ) → IsSameUse (uses d i) (set_at c source v uses d i)
uses-moved c source v uses was is d i = go (d == c) (i == source) refl refl
  where
    go : (x y : Bool) → (d == c) ≡ x → (i == source) ≡ y
        → IsSameUse (uses d i) ((if x then (λ j. if j == source then v else uses c j) else uses d) i)
    go false y e f = inl refl
    go true false e f = inl (rw f (ap (λ k. uses k i) (sym (eqb-true d c e))))
    go true true e f = inr (rw (eqb-true d c e, eqb-true i source f) was, rw f is)

-- the client's end is left alone
abbrev pub Leaves : {w : ℕ} → ℕ → AbstractState w → AbstractState w → Type 0
Leaves d h h' = IsAside d h.mail h'.mail h.state h'.state

pub leaves-none : {w : ℕ} (d : ℕ) (h : AbstractState w) → Leaves d h h
leaves-none d h = aside-blocks refl (λ i. refl) (λ i. inl refl) (λ i. refl)

-- ---- requests

asked_access : (u : SourceState) → is_asked u ≡ true → is_access u ≡ true
asked_access u e = grind arith

served_access : (n : ℕ) (u : SourceState) → serves_of n u ≡ true → is_access u ≡ true
served_access n u e = grind arith

-- ---- messages that the manager takes

abbrev pub is_for_manager : Kind → Bool
is_for_manager k = not (is_to_client (channel_for k))

pub leaves-at_manager : {w : ℕ} {caching : ℕ → Bool} (config : Config) (tracker c : ℕ) (k : Kind) (i : ℕ)
    (rest : List Packet) (h : AbstractState w) (d : ℕ) → is_for_manager k ≡ true → IsInvariant caching h.state
    → on k (h.state.link c) ≡ packet k i ∷ rest → Leaves d h (kind_taken config tracker c k i rest h)
leaves-at_manager {w} config tracker c k i rest h d for inv first = true-taken config tracker c rest h
    (λ j n. (is_for_manager j ≡ true) × (on j (h.state.link c) ≡ packet j n ∷ rest)) (Leaves d h) k i (record {
      nothing = λ j n known idle. leaves-none d h;
      access_answered = λ source m o known from caps none. aside-block _ refl (pair-aside refl refl refl refl refl refl)
          (λ e. refl) (uses-moved c source Replied h.state.uses (asked source known.1) refl d) (λ e. refl);
      access_served = λ source m j known from caps some. aside-block _ refl
          (served-aside c source tracker false j (h.state.block (block_at m.address))) (λ e. refl)
          (uses-moved c source (InService (block_at m.address)) h.state.uses (asked source known.1) refl d) (λ e. refl);
      acquire_granted = λ n whole g known wants none. aside-block n refl (entry-aside c (after_grant_sent _
          ((h.state.block n).pair c)) refl refl refl refl refl refl refl) (λ e. refl) (λ e. inl refl) (λ e. refl);
      acquire_served = λ n whole g known wants some. aside-block n refl (served-aside c ((h.state.block n).source c)
          tracker true (cap_asked (AcquireOpen whole g)) (h.state.block n)) (λ e. refl) (λ e. inl refl) (λ e. refl);
      probe = λ n known. absurd cc;
      report = λ n known more. aside-block n refl (entry-aside c (after_report _
          ((h.state.block n).pair c)) refl refl refl refl refl refl refl) (λ e. refl) (λ e. inl refl) (λ e. refl);
      report_answers = λ n q source j known last waits. aside-block n refl
          (entry-aside c (after_report _ ((h.state.block n).pair c)) refl refl refl refl refl refl refl) (λ e. refl)
          (uses-moved q source Replied h.state.uses (served n q source j waits) refl d) (λ e. refl);
      report_grants = λ n q source j whole g known last waits wants. aside-block n refl
          (granted-aside c q _ _ _ (h.state.block n)) (λ e. refl) (λ e. inl refl) (λ e. refl);
      release = λ n known.
          let releasing = releasing-open _ (first-shown inv c Release refl known.1) in
          aside-block n refl (entry-aside c (after_release_taken _ ((h.state.block n).pair c)) refl refl refl
          (sym releasing) refl refl refl) (λ e. refl) (λ e. inl refl) (λ e. refl);
      answer = λ source known. absurd cc;
      grant = λ n q x j known sent. absurd cc;
      release_ack = λ n known. absurd cc;
      grant_ack = λ n known. aside-block n refl (pair-aside refl refl refl refl refl refl) (λ e. refl) (λ e. inl refl)
          (λ e. refl);
    }) (for, first)
  where
    asked : (source : ℕ) → (h.state.link c).a ≡ packet Request source ∷ rest → is_access (h.state.uses c source) ≡ true
    asked source known = asked_access _ (ap is_asked (first-request inv known))

    served : (n q source : ℕ) (j : Cap) → (h.state.block n).service ≡ Waits q false source j
        → is_access (h.state.uses q source) ≡ true
    served n q source j e = served_access n (h.state.uses q source)
        (cc (inv.named.serves q source n, and_from (q == q) (source == source) (same_number q) (same_number source)))

-- ---- messages that a client takes, as another sees it

leaves-grant : {w : ℕ} (c n : ℕ) (service : Service) (rest : List Packet) (h : AbstractState w) (d : ℕ) → (d ≡ c → ⊥)
    → Leaves d h (taken_by_client c n service rest h)
leaves-grant c n (GrantSent q x k) rest h d ne =
    let b : Block (List ℕ) = h.state.block n in
    aside-block n refl (others-aside (set-other c d (after_grant k (b.pair c)) b.pair ne) refl (set-other c d
    (granted_copy (is_whole (b.pair c).acquiring) x (b.waiting c) b.truth (b.copy c)) b.copy ne) refl) (λ i. refl)
    (λ i. inl (set_at-other c d (b.source c) i SourceFree h.state.uses ne)) (λ i. refl)
leaves-grant c n service rest h d ne = leaves-none d h

pub leaves-at_client : {w : ℕ} (config : Config) (tracker c : ℕ) (k : Kind) (i : ℕ) (rest : List Packet)
    (h : AbstractState w) (d : ℕ) → is_for_manager k ≡ false
    → (d ≡ c → ⊥) → Leaves d h (kind_taken config tracker c k i rest h)
leaves-at_client config tracker c Probe n rest h d for ne =
    let b : Block (List ℕ) = h.state.block n in
    aside-block n refl (others-aside (set-other c d (after_probe (cap_sent (b.pair c).probing) (b.pair c)) b.pair ne)
    refl refl refl) (λ i. refl) (λ i. inl refl) (λ i. refl)
leaves-at_client config tracker c Answer i rest h d for ne =
    aside-blocks refl (λ j. refl) (λ j. inl (set_at-other c d i j SourceFree h.state.uses ne)) (λ j. refl)
leaves-at_client config tracker c Grant n rest h d for ne = leaves-grant c n (h.state.block n).service rest h d ne
leaves-at_client config tracker c ReleaseAck n rest h d for ne =
    let b : Block (List ℕ) = h.state.block n in
    aside-block n refl (others-aside (set-other c d (after_release_ack (b.pair c)) b.pair ne) refl refl refl)
    (λ i. set_at-other c d (b.release_source c) i None h.state.lets ne) (λ i. inl refl) (λ i. refl)
leaves-at_client config tracker c k n rest h d for ne = absurd cc

-- ---- operations that a client is asked for, as another sees it

leaves-acquiring : {w : ℕ} (c n source : ℕ) (whole : Bool) (g : Grow) (bytes : List ℕ) (h : AbstractState w) (d : ℕ)
    → (d ≡ c → ⊥) → Leaves d h (with_state (acquire_asked c n source whole g bytes h.state) h)
leaves-acquiring c n source whole g bytes h d ne = grind arith

pub leaves-asked : {w : ℕ} (c : ℕ) (o : Op w) (r : Reply) (h : AbstractState w) (d : ℕ) → (d ≡ c → ⊥)
    → Leaves d h (asked c o r h)
leaves-asked c (Op.Store address size value) Reply.Stored h d ne =
    let b : Block (List ℕ) = h.state.block (block_at address) in
    aside-block _ refl (others-aside refl refl
    (set-other c d (copy_stored address size value (b.copy c)) b.copy ne) refl) (λ i. refl) (λ i. inl refl) (λ i. refl)
leaves-asked c (Op.Acquire n g) (Reply.Started source) h d ne =
    leaves-acquiring c n source false g ((h.state.block n).waiting c) h d ne
leaves-asked c (Op.AcquireWhole n bytes) (Reply.Started source) h d ne =
    leaves-acquiring c n source true (whole_grow ((h.state.block n).pair c).held) bytes h d ne
leaves-asked c (Op.Release n p) (Reply.Started source) h d ne =
    let b : Block (List ℕ) = h.state.block n in
    aside-block n refl (others-aside (set-other c d (after_release p (b.pair c)) b.pair ne) refl refl refl)
    (λ i. set_at-other c d source i (Some n) h.state.lets ne) (λ i. inl refl) (λ i. refl)
leaves-asked c (Op.Access (Message.A m)) (Reply.Started source) h d ne =
    aside-blocks refl (λ i. refl) (λ i. inl (set_at-other c d source i Asked h.state.uses ne))
    (λ i. set_at-other c d source i (access source m) h.mail.request ne)
leaves-asked c o r h d ne = leaves-none d h
