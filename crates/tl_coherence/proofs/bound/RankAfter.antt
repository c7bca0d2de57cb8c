-- What an event at which the last beat of a message is taken finds, and what it leaves as it was.
-- What is owed in a world falls as the last beat of a message is taken.
use Rattle.std.proofs.Common.{◌≡◌, ℕ, ◌+◌, ◌<◌, ◌≤◌, Bool, true, false, List, [], ◌∷◌, Option, None, refl, ap, arith}
use Rattle.std.proofs.Common.{◌⊎◌, inl, inr, length, ◌/◌, length-append, map}
use Rattle.tl_coherence.proofs
use proofs.Imports.{cases_eq, Channel, IsWidth, length-begun, Message, MessageA, Config, Cap, Prune, Report}
use proofs.Imports.{IsInvariant, is_replied, Acquire, Answer, Grant, GrantAck, Kind, Packet, Probe, ProbeAck, Release}
use proofs.Imports.{ReleaseAck, Request, set, set_at, ProbeAnswered, ProbePhase, ProbeSent, ReleasePhase, ReleaseSent}
use proofs.Imports.{Acquires, Asked, Block, Free, GrantSent, GrantTaken, InService, Replied, SourceFree, State, Waits}
use proofs.Imports.{access_answered, access_served, acquire_granted, acquire_served, answer_taken, answered_link}
use proofs.Imports.{ended_block, ended_link, freed_block, grant_ack_taken, grant_taken, granted_at_once, granted_block}
use proofs.Imports.{granted_link, is_on, let_block, let_go_block, let_link, packet, packets_on, performed_block}
use proofs.Imports.{probe_taken, probed_block, probed_link, release_ack_taken, release_taken, report_answers}
use proofs.Imports.{report_grants, report_taken, reported_block, served_block, served_link, taken_block, taken_link}
use proofs.Imports.{is_answered, is_releasing, shown, IsCarried, ChannelRelation, channel_for, AccessMessages}
use proofs.Imports.{message_of, message_of_kind, block_message, IsAnswered, IsSourced, SimulationRelation, is_caching}
use proofs.Imports.{Log, system_after, System, channel_of_message}
use Rattle.tl_coherence.specs.protocol.Protocol.{Link}
use proofs.client.AsideAll.{set_at-other, set_at-else}
use proofs.protocol.{BeatsRemaining.beats_left, BeatsRemaining.taken_of, BeatsRemaining.is_front, BothParts.acked-is}
use proofs.protocol.Capacities.{shown_there, shows_it, acquire_named, answer_named, grant_named, release_ack_named}
use proofs.protocol.Capacities.{release_named, request_named}
use proofs.outstanding.OpenKinds.{set_e, ended_e, granted_e, served_e}
use proofs.queues.{FirstToken.first-there, FirstToken.carries, Channels.same_kind_again, Channels.IsShown}
use proofs.queues.{Tokens.same_number, Tokens.set-other, Tokens.set-same, Tokens.set_at-same, Moves.kind_channel}
use proofs.simulation.CarriedEvents.{report_answers-shown, report_grants-shown, probe_taken-shown, report_taken-shown}
use proofs.simulation.CarriedEvents.{access_answered-shown, acquire_granted-shown, release_taken-shown}
use proofs.simulation.Owned.{unfinished_at, are-clients, IsReceived, popped-received}
use proofs.simulation.Bounded.{access_served-shown, acquire_served-shown, answer_taken-shown, release_ack_taken-shown}
use proofs.simulation.Bounded.{grant_taken-shown, grant_ack_taken-shown}
use proofs.rank.{Weights.IsLeft, RankParts.IsAsking, RankParts.asking, RankParts.serving-use}
use proofs.rank.Frames.{Taking, answer_to, is-left, answer-left, wide-block}
use proofs.bound.ResponseDecreases.{answer-falls, grant-taken-falls, release-taken-falls, release-ack-falls}
use proofs.bound.ResponseDecreases.{grant-ack-falls}
use proofs.bound.Beginnings.{owed, narrow-block}
use proofs.bound.ReportDecreases.{report-falls, answering-falls, granting-falls, probe-falls}
use proofs.bound.RequestDecreases.{answered-falls, acquire-granted-falls, acquire-served-falls, granted-letting}
use proofs.bound.RequestDecreases.{served-letting, serving-falls}
use proofs.deliveries.ManagersAfter.{ack_channel}

-- ---- the token that is taken

-- of the message that comes first some beat is left
pub left-first : {w : ℕ} (ch : Channel) (c : ℕ) (k : Kind) (n : ℕ) (tokens : List Packet) (mail : AccessMessages w)
    (s : State (List ℕ)) (sys : System w) → ChannelRelation mail s sys → is_on ch k ≡ true
    → packets_on ch (s.link c) ≡ packet k n ∷ tokens → 1 ≤ beats_left mail s (unfinished_at sys) c k n
left-first {w} ch c k n tokens mail s sys carried own first = go (rw first at (carried c ch))
  where
    go : IsCarried (unfinished_at sys c ch) (map (message_of mail s c) (packet k n ∷ tokens)) (sys.channels c ch)
        → 1 ≤ beats_left mail s (unfinished_at sys) c k n
    go (i, within, rest, queue) =
        let taken : taken_of (unfinished_at sys c (channel_for k)) (is_front k n (packets_on (channel_for k)
        (s.link c))) ≡ i = rw (kind_channel ch k own, first, same_kind_again k, same_number n, rest)
        (length-begun (message_of_kind k mail s c n) i) in
        omega (arith, taken, within)

-- it is shown
pub shown-first : {X : Type 0} {caching : ℕ → Bool} (ch : Channel) (c : ℕ) (k : Kind) (n : ℕ) (tokens : List Packet)
    {s : State X} → IsInvariant caching s
    → is_on ch k ≡ true → packets_on ch (s.link c) ≡ packet k n ∷ tokens → shows_it s c k n ≡ true
shown-first ch c k n tokens inv own first = shown_there c ch k n inv own (rw first (first-there (packet k n) tokens))

-- ---- what stays

pub set_at-unlike : {X : Type 0} (c source : ℕ) (x : X) (f : ℕ → ℕ → X) (d i : ℕ) → (d ≡ c → i ≡ source → ⊥)
    → set_at c source x f d i ≡ f d i
set_at-unlike c source x f d i ne = go (cases_eq d c) (cases_eq i source)
  where
    go : (d ≡ c) ⊎ (d ≡ c → ⊥) → (i ≡ source) ⊎ (i ≡ source → ⊥) → set_at c source x f d i ≡ f d i
    go (inl e) (inl g) = absurd (ne e g)
    go (inr other) at = set_at-other c d source i x f other
    go (inl e) (inr other) = set_at-else c source i x f other d

-- where a link has the GrantAcks that it had
pub acks_as : (l k : Link) → l.e ≡ k.e → length l.e ≤ length k.e
acks_as l k e = let same = ap length e in omega (arith, same)

pub acks_set : (c : ℕ) (l : Link) (link : ℕ → Link) → l.e ≡ (link c).e → (d : ℕ)
    → length (set c l link d).e ≤ length (link d).e
acks_set c l link e d = acks_as (set c l link d) (link d) (set_e c l link e d)

pub acks_ended : (c q : ℕ) (x : Packet) (rest : List Packet) (link : ℕ → Link) (d : ℕ)
    → length (ended_link c q x rest link d).e ≤ length (link d).e
acks_ended c q x rest link d = acks_as (ended_link c q x rest link d) (link d) (ended_e c q x rest link d)

pub acks_granted : (c q n : ℕ) (rest : List Packet) (link : ℕ → Link) (d : ℕ)
    → length (granted_link c q n rest link d).e ≤ length (link d).e
acks_granted c q n rest link d = acks_as (granted_link c q n rest link d) (link d) (granted_e c q n rest link d)

pub acks_served : (r : ℕ) (own : Bool) (n : ℕ) (k : Cap) (rest : List Packet) (b : Block (List ℕ)) (link : ℕ → Link)
    (d : ℕ) → length (served_link r own n k rest b link d).e ≤ length (link d).e
acks_served r own n k rest b link d = grind (arith, acks_as, served_e)

-- ---- phases

pub answered_with : (x : ProbePhase) → is_answered x ≡ true → (r : Report) × (x ≡ ProbeAnswered r)
answered_with x e = grind arith

pub releasing_with : (x : ReleasePhase) → is_releasing x ≡ true → (r : Prune) × (x ≡ ReleaseSent r)
releasing_with x e = grind arith

-- ---- the channels of what is handed out

probed_on_c : (w c n : ℕ) (k : Cap) (b : Block (List ℕ))
    → channel_of_message (block_message {w = w} ProbeAck c n (probed_block c k b)) ≡ Channel.C
unfolding block_message
probed_on_c w c n k b = ack_channel w _ _ n b.truth

let_on_d : (w c n : ℕ) (r : Prune) (b : Block (List ℕ))
    → channel_of_message (block_message {w = w} ReleaseAck c n (let_block c r b)) ≡ Channel.D
unfolding block_message
let_on_d w c n r b = refl

taken_on_e : (w c n : ℕ) (whole d : Bool) (k : Cap) (b : Block (List ℕ))
    → channel_of_message (block_message {w = w} GrantAck c n (taken_block c whole d k b)) ≡ Channel.E
unfolding block_message
taken_on_e w c n whole d k b = refl

pub once_on_d : (w c n tracker : ℕ) (d : Bool) (k : Cap) (b : Block (List ℕ))
    → channel_of_message (block_message {w = w} Grant c n (granted_at_once c tracker d k b)) ≡ Channel.D
unfolding block_message
once_on_d w c n tracker d k b = refl

granted_on_d : (w c q n : ℕ) (r : Report) (d : Bool) (k : Cap) (b : Block (List ℕ))
    → channel_of_message (block_message {w = w} Grant q n (granted_block c q r d k b)) ≡ Channel.D
unfolding block_message
granted_on_d w c q n r d k b = refl

-- what holds of the protocol after the event, as it is kept
pub record IsKeptAfter {w : ℕ} (config : Config) (mail : AccessMessages w) (s : State (List ℕ)) : Type 0 where
  pub invariant : IsInvariant (is_caching config) s
  pub sourced : (d source : ℕ) → IsSourced config d source (mail.request d source) (s.uses d source)
  pub answered : (d source : ℕ) → IsAnswered source (mail.request d source) (mail.answer d source) (s.uses d source)

-- as where the whole is
pub kept-matched : {w : ℕ} {config : Config} {log : Log w} {mail : AccessMessages w} {request : ℕ → MessageA w}
    {s : State (List ℕ)} {sys : System w} → SimulationRelation config log mail request s sys → IsKeptAfter config mail s
kept-matched is = record { invariant = is.invariant; sourced = is.sourced; answered = is.answered }

module _ {w : ℕ} {config : Config} {log : Log w} {mail : AccessMessages w} {request : ℕ → MessageA w}
    {s : State (List ℕ)} (sys' : System w) (width : IsWidth w) (matched : SimulationRelation config log mail request s
    (system_after config log)) (c n : ℕ) (rest : List Packet) (lt : c < length config.clients.items) where
  abbrev sys : System w
  sys = system_after config log

  -- less is owed than before
  abbrev pub Falls : AccessMessages w → State (List ℕ) → Type 0
  Falls mail' s' = owed config mail' s' sys' + 1 ≤ owed config mail s sys

  left_after : {mail' : AccessMessages w} {s' : State (List ℕ)} → IsKeptAfter config mail' s'
      → IsLeft (64 / w) (beats_left mail' s' (unfinished_at sys')) (answer_to mail') s'
  left_after {mail'} kept = is-left config mail' (unfinished_at sys') width kept.invariant kept.sourced

  some_beats : 1 ≤ 64 / w
  some_beats = let wide = wide-block w width in omega (arith, wide)

  -- what is known of the token that is taken
  some_left : (ch : Channel) (k : Kind) (i : ℕ) → is_on ch k ≡ true → packets_on ch (s.link c) ≡ packet k i ∷ rest
      → 1 ≤ beats_left mail s (unfinished_at sys) c k i
  some_left ch k i own first = left-first ch c k i rest mail s sys matched.carried own first

  it_shows : (ch : Channel) (k : Kind) (i : ℕ) → is_on ch k ≡ true → packets_on ch (s.link c) ≡ packet k i ∷ rest
      → shows_it s c k i ≡ true
  it_shows ch k i own first = shown-first ch c k i rest matched.invariant own first

  report_first : (s.link c).c ≡ packet ProbeAck n ∷ rest
      → (r : Report) × (((s.block n).pair c).probing ≡ ProbeAnswered r)
  report_first first = answered_with ((s.block n).pair c).probing (it_shows Channel.C ProbeAck n refl first)

  acquire_first : (s.link c).a ≡ packet Acquire n ∷ rest → s.uses c ((s.block n).source c) ≡ Acquires n
  acquire_first first = acquire_named c n matched.invariant (it_shows Channel.A Acquire n refl first)

  -- the event, for all that is owed
  abbrev taking : {k : ℕ} {ch : Channel} {pushes : ℕ → Channel → Option (Message w)} {mail' : AccessMessages w}
      {s' : State (List ℕ)} → IsShown (is_caching config) k c ch pushes mail mail' s s' → IsReceived c ch sys sys'
      → Taking config mail mail' s s'
  taking {k} {ch} {pushes} {mail'} {s'} is received = record {
    caching = is_caching config;
    n = k;
    moves = is.moves;
    showing = is.showing;
    c = c;
    ch = ch;
    rest = unfinished_at sys;
    rest' = unfinished_at sys';
    popped = popped-received c ch pushes is.moves (λ d j i. message_of mail' s' d (packet j i)) s s' sys sys' received
        is.fits is.showing.moved;
    size = 64 / w;
    answer = answer_to mail;
    all = are-clients matched width;
  }

  pub probe_taken-owed : (k : Cap) → (s.link c).b ≡ packet Probe n ∷ rest → ((s.block n).pair c).probing ≡ ProbeSent k
      → IsReceived c Channel.B sys sys' → IsKeptAfter config mail (probe_taken c n k rest s)
      → Falls mail (probe_taken c n k rest s)
  probe_taken-owed k first sent received kept = probe-falls (taking (probe_taken-shown c n k rest
      (block_message ProbeAck c n (probed_block c k (s.block n))) mail matched.invariant kept.invariant first sent
      (probed_on_c w c n k (s.block n)) refl) received) k lt sent (set-same n (probed_block c k (s.block n)) s.block)
      (left_after kept) (λ d i. refl) (λ d i. refl) (acks_set c (probed_link n rest (s.link c)) s.link refl)

  pub report_taken-owed : (r : Report) → (s.link c).c ≡ packet ProbeAck n ∷ rest → IsReceived c Channel.C sys sys'
      → IsKeptAfter config mail (report_taken c n r rest s) → Falls mail (report_taken c n r rest s)
  report_taken-owed r first received kept =
      let told = report_first first in
      report-falls (taking (report_taken-shown c n r rest mail matched.invariant kept.invariant first) received) told.0
      r lt told.1 (some_left Channel.C ProbeAck n refl first) (set-same n (reported_block c r (s.block n)) s.block)
      (λ d i. refl) (λ d i. refl) (acks_set c (record (s.link c) { c = rest }) s.link refl)

  pub release_taken-owed : (r : Prune) → (s.link c).c ≡ packet Release n ∷ rest → IsReceived c Channel.C sys sys'
      → IsKeptAfter config mail (release_taken c n r rest s) → Falls mail (release_taken c n r rest s)
  release_taken-owed r first received kept =
      let it = it_shows Channel.C Release n refl first in
      let told = releasing_with ((s.block n).pair c).letting it in
      release-taken-falls (taking (release_taken-shown c n r rest
      (block_message ReleaseAck c n (let_block c r (s.block n))) mail matched.invariant kept.invariant first
      (let_on_d w c n r (s.block n)) refl) received) ((s.block n).release_source c) told.0 r some_beats (release_named c
      n matched.invariant it) told.1 (some_left Channel.C Release n refl first) (set-same n (let_block c r (s.block n))
      s.block) (λ d i. refl) (λ d i. refl) (acks_set c (let_link n rest (s.link c)) s.link refl)

  -- `n` is the source of the access here
  pub answer_taken-owed : (s.link c).d ≡ packet Answer n ∷ rest → IsReceived c Channel.D sys sys'
      → IsKeptAfter config mail (answer_taken c n rest s) → Falls mail (answer_taken c n rest s)
  answer_taken-owed first received kept = answer-falls (taking (answer_taken-shown c n rest mail matched.invariant
      kept.invariant first) received) n (answer_named c n matched.invariant (it_shows Channel.D Answer n refl first))
      (set_at-same c n SourceFree s.uses) (some_left Channel.D Answer n refl first) refl (λ d i ne. set_at-unlike c n
      SourceFree s.uses d i ne) (λ d i. refl) (acks_set c (record (s.link c) { d = rest }) s.link refl)

  pub release_ack_taken-owed : (s.link c).d ≡ packet ReleaseAck n ∷ rest → IsReceived c Channel.D sys sys'
      → IsKeptAfter config mail (release_ack_taken c n rest s) → Falls mail (release_ack_taken c n rest s)
  release_ack_taken-owed first received kept =
      let it = it_shows Channel.D ReleaseAck n refl first in
      release-ack-falls (taking (release_ack_taken-shown c n rest mail matched.invariant kept.invariant first) received)
      ((s.block n).release_source c) (release_ack_named c n matched.invariant it)
      (set_at-same c ((s.block n).release_source c) None s.lets) (acked-is ((s.block n).pair c).letting it)
      (set-same n (let_go_block c (s.block n)) s.block) (λ d i. refl) (λ d i ne. set_at-unlike c
      ((s.block n).release_source c) None s.lets d i ne) (acks_set c (record (s.link c) { d = rest }) s.link refl)

  pub grant_taken-owed : (whole d : Bool) (k : Cap) → (s.link c).d ≡ packet Grant n ∷ rest
      → (s.block n).service ≡ GrantSent c d k → ((j : Kind) (i : ℕ) → shown j i (s.block n) ≡ true
      → shown j i (taken_block c whole d k (s.block n)) ≡ true → (carries j i (s.block n) ≡ false)
      ⊎ ((taken_block c whole d k (s.block n)).truth ≡ (s.block n).truth)) → IsReceived c Channel.D sys sys'
      → IsKeptAfter config mail (grant_taken c n whole d k rest s) → Falls mail (grant_taken c n whole d k rest s)
  grant_taken-owed whole d k first given bytes received kept =
      let elsewhere : (e : ℕ) → (e ≡ c → ⊥) → length (set c (taken_link n rest (s.link c)) s.link e).e
      ≤ length (s.link e).e = λ e ne. acks_as (set c (taken_link n rest (s.link c)) s.link e) (s.link e)
      (ap (λ l. l.e) (set-other c e (taken_link n rest (s.link c)) s.link ne)) in
      grant-taken-falls (taking (grant_taken-shown c n whole d k rest
      (block_message GrantAck c n (taken_block c whole d k (s.block n))) mail matched.invariant kept.invariant first
      given bytes (taken_on_e w c n whole d k (s.block n)) refl) received) d d whole k k given (grant_named c n
      matched.invariant (it_shows Channel.D Grant n refl first)) (set_at-same c ((s.block n).source c) SourceFree
      s.uses) (some_left Channel.D Grant n refl first) (set-same n (taken_block c whole d k (s.block n)) s.block)
      (λ e i ne. set_at-unlike c ((s.block n).source c) SourceFree s.uses e i ne) (λ e i. refl) elsewhere more
    where
      more : length (set c (taken_link n rest (s.link c)) s.link c).e ≡ length (s.link c).e + 1
      more =
          let behind = length-append (s.link c).e (packet GrantAck n ∷ []) in
          omega (arith, ap (λ l. length l.e) (set-same c (taken_link n rest (s.link c)) s.link), behind)

  pub grant_ack_taken-owed : (s.link c).e ≡ packet GrantAck n ∷ rest → (s.block n).service ≡ GrantTaken c
      → IsReceived c Channel.E sys sys' → IsKeptAfter config mail (grant_ack_taken c n rest s)
      → Falls mail (grant_ack_taken c n rest s)
  grant_ack_taken-owed first given received kept = grant-ack-falls
      (taking (grant_ack_taken-shown c n rest mail matched.invariant kept.invariant first given) received) c lt given
      (set-same n (freed_block (s.block n)) s.block) (λ d i. refl) (λ d i. refl) (λ d. fewer d (cases_eq d c)) less
    where
      less : length (set c (record (s.link c) { e = rest }) s.link c).e + 1 ≤ length (s.link c).e
      less =
          let before = ap length first in
          omega (arith, ap (λ l. length l.e) (set-same c (record (s.link c) { e = rest }) s.link), before)

      fewer : (d : ℕ) → (d ≡ c) ⊎ (d ≡ c → ⊥) → length (set c (record (s.link c) { e = rest }) s.link d).e ≤ length
          (s.link d).e
      fewer d e = grind (arith, set-other)

  pub acquire_granted-owed : (tracker : ℕ) (d : Bool) (k : Cap) → (s.link c).a ≡ packet Acquire n ∷ rest
      → (s.block n).service ≡ Free → IsReceived c Channel.A sys sys'
      → IsKeptAfter config mail (acquire_granted c n tracker d k rest s)
      → Falls mail (acquire_granted c n tracker d k rest s)
  acquire_granted-owed tracker d k first free received kept =
      let new = set-same n (granted_at_once c tracker d k (s.block n)) s.block in
      let it = taking (acquire_granted-shown c n tracker d k rest
      (block_message Grant c n (granted_at_once c tracker d k (s.block n))) mail matched.invariant kept.invariant first
      free (once_on_d w c n tracker d k (s.block n)) refl) received in
      acquire-granted-falls it free (granted-letting it tracker d k new) ((s.block n).source c) d k
      (ap (λ b. b.service) new) (acquire_first first) (left_after kept) (λ e i. refl) (λ e i. refl)
      (acks_set c (answered_link (packet Grant n) rest (s.link c)) s.link refl)

  pub acquire_served-owed : (source tracker : ℕ) (k : Cap) → length config.clients.items ≤ 16
      → (s.link c).a ≡ packet Acquire n ∷ rest → (s.block n).service ≡ Free → IsReceived c Channel.A sys sys'
      → IsKeptAfter config mail (acquire_served c n source tracker k rest s)
      → Falls mail (acquire_served c n source tracker k rest s)
  acquire_served-owed source tracker k sixteen first free received kept =
      let new = set-same n (served_block c true source tracker k (s.block n)) s.block in
      let it = taking (acquire_served-shown c n source tracker k rest mail matched.invariant kept.invariant first free)
      received in
      acquire-served-falls it free (served-letting it true source tracker k new) ((s.block n).source c) source k
      some_beats (narrow-block w width) sixteen (ap (λ b. b.service) new) (acquire_first first)
      (some_left Channel.A Acquire n refl first) (left_after kept) (λ d i. refl) (λ d i. refl)
      (acks_served c true n k rest (s.block n) s.link)

  pub access_served-owed : (source tracker : ℕ) (k : Cap) → length config.clients.items ≤ 16
      → (s.link c).a ≡ packet Request source ∷ rest → (s.block n).service ≡ Free → IsReceived c Channel.A sys sys'
      → IsKeptAfter config mail (access_served c n source tracker k rest s)
      → Falls mail (access_served c n source tracker k rest s)
  access_served-owed source tracker k sixteen first free received kept =
      let new = set-same n (served_block c false source tracker k (s.block n)) s.block in
      let it = taking (access_served-shown c n source tracker k rest mail matched.invariant kept.invariant first free)
      received in
      serving-falls it free (served-letting it false source tracker k new) source source k some_beats
      (narrow-block w width) sixteen (ap (λ b. b.service) new) (request_named c source matched.invariant
      (it_shows Channel.A Request source refl first)) (set_at-same c source (InService n) s.uses) (some_left Channel.A
      Request source refl first) (left_after kept) (λ d i ne. set_at-unlike c source (InService n) s.uses d i ne)
      (λ d i. refl) (acks_served c false n k rest (s.block n) s.link)

  pub report_grants-owed : (q source : ℕ) (k gift : Cap) (r : Report) (d : Bool)
      → (s.link c).c ≡ packet ProbeAck n ∷ rest → (s.block n).service ≡ Waits q true source k → (c ≡ q → ⊥)
      → IsReceived c Channel.C sys sys' → IsKeptAfter config mail (report_grants c q n r d gift rest s)
      → Falls mail (report_grants c q n r d gift rest s)
  report_grants-owed q source k gift r d first waits apart received kept =
      let told = report_first first in
      let who : IsAsking n q true source s = asking n q true source k matched.invariant waits in
      granting-falls (taking (report_grants-shown c q n source r d k gift rest
      (block_message Grant q n (granted_block c q r d gift (s.block n))) mail matched.invariant kept.invariant
      first waits apart (granted_on_d w c q n r d gift (s.block n)) refl) received) q who.at source k gift told.0
      r d lt told.1 (some_left Channel.C ProbeAck n refl first) waits who.used (left_after kept) (set-same n
      (granted_block c q r d gift (s.block n)) s.block) (λ e i. refl) (λ e i. refl) (acks_granted c q n rest s.link)

  -- ---- the answer to an access is handed out

  abbrev with_reply : ℕ → ℕ → Message w → AccessMessages w
  with_reply q source m = record { request = mail.request; answer = set_at q source m mail.answer }

  reply_left : {q source : ℕ} (m : Message w) {s' : State (List ℕ)} → IsKeptAfter config (with_reply q source m) s'
      → s'.uses q source ≡ Replied
      → beats_left (with_reply q source m) s' (unfinished_at sys') q Answer source ≤ answer_to mail q source
  reply_left {q} {source} m kept replied = answer-left config (with_reply q source m)
      (unfinished_at sys') width kept.invariant kept.sourced q source (kept.answered q source) replied

  pub access_answered-owed : (source : ℕ) (f : List ℕ → List ℕ) (m : Message w)
      → (s.link c).a ≡ packet Request source ∷ rest → s.uses c source ≡ Asked
      → ((k : Kind) (d : ℕ) → (carries k d (s.block n) ≡ false) ⊎ (f (s.block n).truth ≡ (s.block n).truth))
      → channel_of_message m ≡ Channel.D → IsReceived c Channel.A sys sys' → IsKeptAfter config (with_reply c source m)
      (access_answered c n source f rest s) → Falls (with_reply c source m) (access_answered c n source f rest s)
  access_answered-owed source f m first used bytes chan received kept = answered-falls (taking
      (access_answered-shown c n source f rest m mail matched.invariant kept.invariant first used bytes chan) received)
      source f used (set_at-same c source Replied s.uses) (reply_left m kept (set_at-same c source Replied s.uses))
      (set-same n (performed_block f (s.block n)) s.block) (λ d i ne. set_at-unlike c source Replied s.uses d i ne)
      (λ d i. refl) (acks_set c (answered_link (packet Answer source) rest (s.link c)) s.link refl)

  pub report_answers-owed : (q source : ℕ) (r : Report) (k : Cap) (f : List ℕ → List ℕ) (m : Message w)
      → (s.link c).c ≡ packet ProbeAck n ∷ rest → (s.block n).service ≡ Waits q false source k
      → is_replied (s.uses q source) ≡ false → ((j : Kind) (i : ℕ) → shown j i (s.block n) ≡ true
      → shown j i (ended_block c r f (s.block n)) ≡ true → (carries j i (s.block n) ≡ false)
      ⊎ (f (s.block n).truth ≡ (s.block n).truth)) → channel_of_message m ≡ Channel.D → IsReceived c Channel.C sys sys'
      → IsKeptAfter config (with_reply q source m) (report_answers c q n source r f rest s)
      → Falls (with_reply q source m) (report_answers c q n source r f rest s)
  report_answers-owed q source r k f m first waits used bytes chan received kept =
      let told = report_first first in
      answering-falls (taking (report_answers-shown c q n source r k f rest m mail matched.invariant kept.invariant
      first waits used bytes chan) received) q source k told.0 r f lt told.1 (some_left Channel.C ProbeAck n refl first)
      waits (serving-use n q source k matched.invariant waits) (reply_left m kept (set_at-same q source Replied s.uses))
      (set-same n (ended_block c r f (s.block n)) s.block) (set_at-same q source Replied s.uses) (λ d i ne.
      set_at-unlike q source Replied s.uses d i ne) (λ d i. refl) (acks_ended c q (packet Answer source) rest s.link)
