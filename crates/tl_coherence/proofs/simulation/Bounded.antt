-- Sources and trackers that are used are below the numbers that the configuration gives.
-- The channels carry the messages of the tokens after an event at two clients or more: a request that probes, and the
-- last report, for which an access is answered or an Acquire is granted.
-- The channels carry the messages of the tokens after a response or a GrantAck is taken.
use Rattle.std.proofs.Common.{◌≡◌, ℕ, zero, suc, ◌+◌, ◌<◌, ◌≤◌, Bool, true, false, ◌&&◌, ◌||◌, ◌==◌, if◌then◌else◌}
use Rattle.std.proofs.Common.{List, [], ◌∷◌, Option, Some, None, refl, sym, ◌∙◌, ap, arith, ◌⊎◌, inl, inr, ne_eqb}
use Rattle.std.proofs.Common.{eqb-true, is_some}
use Rattle.tl_coherence.proofs
use proofs.Imports.{and_parts, cases_eq, cases_lt, Channel, Message, MessageA, Config, ReleaseSource, RequestSource}
use proofs.Imports.{Cap, pending, is_one_of, tracker_among, probe_of_block, probes, clients_from, trackers_of, services}
use proofs.Imports.{IsInvariant, is_busy, Acquire, Answer, Grant, GrantAck, Kind, Packet, Probe, ReleaseAck, Request}
use proofs.Imports.{set, ClientBlock, after_served, Acquires, Asked, Block, Free, GrantSent, GrantTaken, InService}
use proofs.Imports.{Replied, Service, SourceFree, SourceState, State, Waits, access_served, acquire_served}
use proofs.Imports.{answer_taken, grant_ack_taken, grant_taken, is_probed, packet, packets_on, release_ack_taken}
use proofs.Imports.{served_block, served_link, taken_block, taken_link, shown, client_in, service_with, IsOpened}
use proofs.Imports.{AreMoved, IsMoved, Move, Pops, Stays, AccessMessages, cap_sent, message_of, block_message}
use proofs.Imports.{IsSourced, SimulationRelation, asked_by, first_of, request_source, sources_of, Log, Requests}
use proofs.Imports.{one_memory_after, System, channel_of_message, same_channel, terms_at, with_message, with_messages}
use Rattle.tl_manager.specs.code.Kept as kept
use proofs.protocol.{RequestsKept.done_moves, Capacities.AreBounded}
use proofs.protocol.BothParts.{alike-let_go, alike-taken, alike-freed, alike-served}
use proofs.protocol.FollowKept.{let_go_moves, freed_moves, taken_moves}
use proofs.protocol.Served.{request_move, any_moved, served_moves, kind_served, number_served}
use proofs.queues.{Steps.pushes_of, Moves.moves_at, Tokens.same_number, Tokens.set-same}
use proofs.queues.FirstToken.{carries, showing-block}
use proofs.queues.Channels.{IsShown, Fits, moved-at, fits-at, pushes_at, behind}
use proofs.simulation.CarriedEvents.{only_on, fits_pushed, new_there}
use proofs.client.ClientDelivered.{acquires_something}

-- a client's sources that are pending are its own
pub record IsOwn {w : ℕ} (config : Config) (c : ℕ) (sys : System w) : Type 0 where
  pub requests : (source : ℕ) → pending (RequestSource source) (sys.clients c).past ≡ true
      → source < sources_of (terms_at config c)
  pub releases : (source : ℕ) → pending (ReleaseSource source) (sys.clients c).past ≡ true
      → source < sources_of (terms_at config c)

-- ---- an open request has a first beat

source_known : {w : ℕ} (m : Message w) (source : ℕ) → request_source m ≡ Some source → is_some (first_of m) ≡ true
source_known m source e = grind arith

-- ---- trackers

of_each : (P : ℕ → Type 0) (ns : List ℕ) (n : ℕ) → is_one_of n ns ≡ true → kept.Each P ns → P n
of_each P [] n e each = absurd cc
of_each P (m ∷ ns) n e each = go (n == m) refl e (λ f. of_each P ns n f each.1)
  where
    go : (b : Bool) → (n == m) ≡ b → (b || is_one_of n ns) ≡ true → (is_one_of n ns ≡ true → P n) → P n
    go true same f rest = let is : n ≡ m = eqb-true n m same in rw is each.0
    go false differs f rest = rest f

someone : (service : Service) → is_busy service ≡ true → (r : ℕ) × (client_in service ≡ Some r)
someone (Waits r own source k) e = (r, refl)
someone (GrantSent q d k) e = (q, refl)
someone (GrantTaken q) e = (q, refl)
someone Free e = absurd cc

-- ---- what the whole says

module _ {w : ℕ} (config : Config) (log : Log w) (mail : AccessMessages w) (request : ℕ → MessageA w)
    (s : State (List ℕ)) (sys : System w) (matched : SimulationRelation config log mail request s sys) (c : ℕ) where
  -- a source that isn't free is one of an open request
  asked_of : (source : ℕ) (u : SourceState) → s.uses c source ≡ u → (u ≡ SourceFree → ⊥)
      → is_some (asked_by mail s c source) ≡ true
  unfolding block_message
  asked_of source SourceFree e used = absurd (used refl)
  asked_of source Asked e used =
      let sourced : IsSourced config c source (mail.request c source) Asked = rw e at (matched.sourced c source) in
      rw e (source_known (mail.request c source) source sourced.0)
  asked_of source (InService n) e used =
      let sourced : IsSourced config c source (mail.request c source) (InService n) =
      rw e at (matched.sourced c source) in
      rw e (source_known (mail.request c source) source sourced.0)
  asked_of source Replied e used =
      let opened : IsOpened c source mail s Replied ((one_memory_after config log).opened c Requests source) =
      rw e at (matched.beside.requests c source) in
      rw e (rw opened.1.1 refl)
  asked_of source (Acquires n) e used =
      rw e (acquires_something w ((s.block n).pair c).acquiring ((s.block n).source c) n)

  tracker_below : (i n : ℕ) → s.tracked i ≡ Some n → i < config.trackers
  tracker_below i n e =
      let parts = and_parts (is_busy (s.block n).service) (i == (s.block n).tracker)
      (sym (matched.invariant.named.trackers i n) ∙ rw e (same_number n)) in
      let q = someone _ parts.0 in
      let same : i ≡ (s.block n).tracker = eqb-true i (s.block n).tracker parts.1 in
      rw same (of_each (λ k. k < config.trackers) (trackers_of (services sys.manager.trace)) (s.block n).tracker
      (tracker_among n (services sys.manager.trace) _ (matched.managed.serving_is n
      ∙ ap (λ o. service_with o (s.block n).tracker (request n)) q.1)) matched.manager_kept.tracked)

  pub matched-bounded : IsOwn config c sys → AreBounded c (sources_of (terms_at config c)) config.trackers s
  matched-bounded own = record {
    requests = λ source used. own.requests _ ((matched.opened c).requests source ∙ asked_of source _ refl used);
    releases = λ source n e. own.releases _ ((matched.opened c).releases source ∙ rw e refl);
    tracked = tracker_below;
  }

-- ---- Probes that are handed out

other_probe : {w : ℕ} (n : ℕ) (k : Cap) (c d : ℕ) (at : Channel) (s : System w) → (d ≡ c → ⊥)
    → (with_message c (probe_of_block n k) s).channels d at ≡ s.channels d at
other_probe n k c d at s ne = rw (ne_eqb d c ne) refl

aside_probe : {w : ℕ} (n : ℕ) (k : Cap) (c d : ℕ) (at : Channel) (s : System w) → same_channel at Channel.B ≡ false
    → (with_message c (probe_of_block n k) s).channels d at ≡ s.channels d at
aside_probe {w} n k c d at s aside = grind arith

-- Probes go on channel B
probes-aside : {w : ℕ} (n : ℕ) (k : Cap) (clients : List ℕ) (d : ℕ) (at : Channel) (s : System w)
    → same_channel at Channel.B ≡ false → (with_messages (probes n k clients) s).channels d at ≡ s.channels d at
unfolding with_messages
probes-aside n k [] d at s aside = refl
probes-aside n k (c ∷ clients) d at s aside = probes-aside n k clients d at (with_message c (probe_of_block n k) s)
    aside ∙ aside_probe n k c d at s aside

-- none goes to one who isn't among those clients
probes-outside : {w : ℕ} (n : ℕ) (k : Cap) (first count : ℕ) (test : ℕ → Bool) (d : ℕ) (s : System w)
    → (d < first) ⊎ (first + count ≤ d)
    → (with_messages (probes n k (clients_from first count test)) s).channels d Channel.B ≡ s.channels d Channel.B
unfolding with_messages clients_from
probes-outside n k first zero test d s out = refl
probes-outside {w} n k first (suc count) test d s out =
    go (λ u. probes-outside n k (first + 1) count test d u (later out)) (test first)
  where
    later : (d < first) ⊎ (first + suc count ≤ d) → (d < first + 1) ⊎ (first + 1 + count ≤ d)
    later e = grind arith

    apart : (d < first) ⊎ (first + suc count ≤ d) → d ≡ first → ⊥
    apart e f = grind arith

    go : ((u : System w) → (with_messages (probes n k (clients_from (first + 1) count test)) u).channels d
        Channel.B ≡ u.channels d Channel.B) → (b : Bool)
        → (with_messages (probes n k (if b then first ∷ clients_from (first + 1) count test else clients_from
        (first + 1) count test)) s).channels d Channel.B ≡ s.channels d Channel.B
    go rest true = rest (with_message first (probe_of_block n k) s) ∙ other_probe n k first d Channel.B s (apart out)
    go rest false = rest s

probes-among : {w : ℕ} (n : ℕ) (k : Cap) (first count : ℕ) (test : ℕ → Bool) (d : ℕ) (s : System w) → first ≤ d
    → d < first + count → (with_messages (probes n k (clients_from first count test)) s).channels d Channel.B
    ≡ behind (if test d then Some (probe_of_block n k) else None) (s.channels d Channel.B)
unfolding with_messages clients_from
probes-among n k first zero test d s le lt = absurd (omega (arith, le, lt))
probes-among {w} n k first (suc count) test d s le lt =
    let go : (d ≡ first) ⊎ (d ≡ first → ⊥) → ((d ≡ first → ⊥) → Rest)
    → (with_messages (probes n k (clients_from first (suc count) test)) s).channels d Channel.B
    ≡ behind (if test d then Some (probe_of_block n k) else None) (s.channels d Channel.B) =
    elim [ inl e ↦ λ rest. rw (← e) (at_first (test d)) | inr ne ↦ λ rest. later ne (rest ne) (test first) ] in
    go (cases_eq d first) (λ ne u. probes-among n k (first + 1) count test d u (omega (arith, le, ne))
    (omega (arith, lt)))
  where
    Rest : Type 0
    Rest = (u : System w) → (with_messages (probes n k (clients_from (first + 1) count test)) u).channels d Channel.B
        ≡ behind (if test d then Some (probe_of_block n k) else None) (u.channels d Channel.B)

    at_first : (b : Bool) → (with_messages
        (probes n k (if b then d ∷ clients_from (d + 1) count test else clients_from (d + 1) count test)) s).channels d
        Channel.B ≡ behind (if b then Some (probe_of_block n k) else None) (s.channels d Channel.B)
    at_first true = probes-outside n k (d + 1) count test d (with_message d (probe_of_block n k) s)
        (inl (omega arith)) ∙ (rw (same_number d) refl)
    at_first false = probes-outside n k (d + 1) count test d s (inl (omega arith))

    later : (d ≡ first → ⊥) → Rest → (b : Bool)
        → (with_messages (probes n k (if b then first ∷ clients_from (first + 1) count test else clients_from
        (first + 1) count test)) s).channels d Channel.B
        ≡ behind (if test d then Some (probe_of_block n k) else None) (s.channels d Channel.B)
    later ne rest true = cc (rest (with_message first (probe_of_block n k) s), other_probe n k first d Channel.B s ne)
    later ne rest false = rest s

-- on channel B to those who pass the test
abbrev pub probe_pushes : {w : ℕ} → ℕ → Cap → (ℕ → Bool) → ℕ → Channel → Option (Message w)
probe_pushes n k test d Channel.B = if test d then Some (probe_of_block n k) else None
probe_pushes n k test d _ = None

pub channels-probes : {w : ℕ} (n : ℕ) (k : Cap) (count : ℕ) (test probed : ℕ → Bool) (s : System w)
    → ((d : ℕ) → d < count → test d ≡ probed d) → ((d : ℕ) → count ≤ d → probed d ≡ false) → (d : ℕ) (at : Channel)
    → (with_messages (probes n k (clients_from 0 count test)) s).channels d at ≡ behind (probe_pushes n k probed d at)
    (s.channels d at)
channels-probes {w} n k count test probed s same none d Channel.B = elim (cases_lt d count) [
  | inl lt ↦ probes-among n k 0 count test d s (omega arith) (omega (arith, lt)) ∙ rw (same d lt) refl
  | inr le ↦ probes-outside n k 0 count test d s (inr (omega (arith, le))) ∙ rw (none d le) refl
]
channels-probes n k count test probed s same none d at = probes-aside n k (clients_from 0 count test) d at s refl

-- ---- a request that probes

served_fits : {w : ℕ} (n : ℕ) (k : Cap) (x y : Bool) (at : Channel) (j : Kind) (i : ℕ) (render : Kind → ℕ → Message w)
    → (y ≡ true → render Probe n ≡ probe_of_block n k) → Fits (x && same_channel at Channel.A)
    (probe_pushes n k (λ d. y) 0 at) (request_move (if x then Pops j i else Stays) y n at) render
served_fits n k x y at j i render e = grind arith

-- the channel decides, and then whether one is probed
pushes_is : {w : ℕ} (n : ℕ) (k : Cap) (test : ℕ → Bool) (d : ℕ) (at : Channel)
    → probe_pushes {w = w} n k test d at ≡ probe_pushes n k (λ i. test d) 0 at
pushes_is n k test d at = grind arith

-- the Probe that one is sent
sent_probe : (w r : ℕ) (own : Bool) (n : ℕ) (k : Cap) (d : ℕ) (p : ClientBlock) → is_probed r own k p.recorded d ≡ true
    → probe_of_block {w = w} n (cap_sent (if own && (d == r) then p else after_served k p).probing) ≡ probe_of_block n k
sent_probe w r own n k d p e = grind arith

sent_rendered : {w : ℕ} (r : ℕ) (own : Bool) (source tracker : ℕ) (n : ℕ) (k : Cap) (d : ℕ) (b : Block (List ℕ))
    → is_probed r own k (b.pair d).recorded d ≡ true
    → block_message {w = w} Probe d n (served_block r own source tracker k b) ≡ probe_of_block n k
unfolding block_message
sent_rendered {w} r own source tracker n k d b e = sent_probe w r own n k d _ e

served-shown : {w : ℕ} {caching : ℕ → Bool} (r n : ℕ) (own : Bool) (source tracker : ℕ) (k : Cap) (rest : List Packet)
    (mail : AccessMessages w) {s s' : State (List ℕ)} → IsInvariant caching s → IsInvariant caching s'
    → (s.link r).a ≡ packet (kind_served own) (number_served own n source) ∷ rest → (s.block n).service ≡ Free
    → ((i : ℕ) → s'.block i ≡ set n (served_block r own source tracker k (s.block n)) s.block i)
    → ((d : ℕ) → s'.link d ≡ served_link r own n k rest (s.block n) s.link d)
    → IsShown caching n r Channel.A (probe_pushes n k (λ d. is_probed r own k ((s.block n).pair d).recorded d)) mail
    mail s s'
served-shown {w} {caching} r n own source tracker k rest mail {s} {s'} inv inv' first free blocks links =
    let new : Block (List ℕ) = served_block r own source tracker k (s.block n) in
    let test : ℕ → Bool = λ d. is_probed r own k ((s.block n).pair d).recorded d in
    let moves : ℕ → Channel → Move = served_moves r own n source k (s.block n).pair in
    let first_at : (d : ℕ) → (d == r) ≡ true → (s.link d).a ≡ packet (kind_served own) (number_served own n source)
    ∷ rest = λ d e. rw (eqb-true d r e) first in
    let moved : (d : ℕ) (ch : Channel) → IsMoved (moves d ch) (packets_on ch (s.link d)) (packets_on ch (s'.link d)) =
    λ d ch. rw (links d) (any_moved (d == r) (test d) ch (kind_served own) (number_served own n source) n
    (s.link d) rest (first_at d)) in
    let render_is : (d : ℕ) → test d ≡ true → block_message {w = w} Probe d n (s'.block n) ≡ probe_of_block n k =
    λ d e. cc (blocks n, set-same n new s.block, sent_rendered r own source tracker n k d (s.block n) e) in
    let fits : (d : ℕ) (at : Channel) → Fits ((d == r) && same_channel at Channel.A) (probe_pushes n k test d at)
    (moves d at) (λ j l. message_of mail s' d (packet j l)) =
    λ d at. rw (pushes_is {w = w} n k test d at) (served_fits n k (d == r) (test d) at (kind_served own)
    (number_served own n source) (λ j l. message_of mail s' d (packet j l)) (render_is d)) in
    record {
      moves = moves;
      showing = showing-block n new moves mail mail inv inv' (λ d ch. moved d ch) blocks
          (alike-served r own source tracker k (inv.blocks n) free) (λ i j e f. refl) (λ i j e f. refl);
      fits = λ d at. fits d at;
    }

pub acquire_served-shown : {w : ℕ} {caching : ℕ → Bool} (r n source tracker : ℕ) (k : Cap) (rest : List Packet)
    (mail : AccessMessages w) {s : State (List ℕ)} → IsInvariant caching s
    → IsInvariant caching (acquire_served r n source tracker k rest s) → (s.link r).a ≡ packet Acquire n ∷ rest
    → (s.block n).service ≡ Free
    → IsShown caching n r Channel.A (probe_pushes n k (λ d. is_probed r true k ((s.block n).pair d).recorded d)) mail
    mail s (acquire_served r n source tracker k rest s)
acquire_served-shown r n source tracker k rest mail inv inv' first free =
    served-shown r n true source tracker k rest mail inv inv' first free (λ i. refl) (λ d. refl)

pub access_served-shown : {w : ℕ} {caching : ℕ → Bool} (r n source tracker : ℕ) (k : Cap) (rest : List Packet)
    (mail : AccessMessages w) {s : State (List ℕ)} → IsInvariant caching s
    → IsInvariant caching (access_served r n source tracker k rest s) → (s.link r).a ≡ packet Request source ∷ rest
    → (s.block n).service ≡ Free
    → IsShown caching n r Channel.A (probe_pushes n k (λ d. is_probed r false k ((s.block n).pair d).recorded d)) mail
    mail s (access_served r n source tracker k rest s)
access_served-shown r n source tracker k rest mail inv inv' first free =
    served-shown r n false source tracker k rest mail inv inv' first free (λ i. refl) (λ d. refl)

-- ---- a response is taken

pub answer_taken-shown : {w : ℕ} {caching : ℕ → Bool} (c source : ℕ) (rest : List Packet) (mail : AccessMessages w)
    {s : State (List ℕ)} → IsInvariant caching s
    → IsInvariant caching (answer_taken c source rest s) → (s.link c).d ≡ packet Answer source ∷ rest
    → IsShown caching 0 c Channel.D (pushes_at c (pushes_of None)) mail mail s (answer_taken c source rest s)
answer_taken-shown c source rest mail {s} inv inv' first =
    let s' : State (List ℕ) = answer_taken c source rest s in
    let moved : AreMoved (done_moves source) (s.link c) (record (s.link c) { d = rest }) =
    elim [ Channel.D ↦ first | _ ↦ refl ] in
    let fits : (at : Channel) → Fits (same_channel at Channel.D) None (done_moves source at)
    (λ j l. message_of mail s' c (packet j l)) = elim [ Channel.A ↦ tt | at ↦ tt ] in
    record {
      moves = (moves_at c (done_moves source));
      showing = record {
        before = inv;
        after = inv';
        moved = moved-at c (done_moves source) _ s.link moved;
        blocks = λ i ne. refl;
        same = λ d k t e f. refl;
        requests = λ d i e f. refl;
        answers = λ d i e f. refl;
      };
      fits = fits-at c Channel.D (pushes_of None) (done_moves source) (λ i j l. message_of mail s' i (packet j l)) fits;
    }

pub release_ack_taken-shown : {w : ℕ} {caching : ℕ → Bool} (c n : ℕ) (rest : List Packet) (mail : AccessMessages w)
    {s : State (List ℕ)} → IsInvariant caching s
    → IsInvariant caching (release_ack_taken c n rest s) → (s.link c).d ≡ packet ReleaseAck n ∷ rest
    → IsShown caching n c Channel.D (pushes_at c (pushes_of None)) mail mail s (release_ack_taken c n rest s)
release_ack_taken-shown c n rest mail {s} inv inv' first =
    let s' : State (List ℕ) = release_ack_taken c n rest s in
    let fits : (at : Channel) → Fits (same_channel at Channel.D) None (let_go_moves n at)
    (λ j l. message_of mail s' c (packet j l)) = elim [ Channel.A ↦ tt | at ↦ tt ] in
    record {
      moves = (moves_at c (let_go_moves n));
      showing = showing-block n _ (moves_at c (let_go_moves n)) mail mail inv inv'
          (moved-at c (let_go_moves n) (record (s.link c) { d = rest }) s.link (elim [ Channel.D ↦ first | _ ↦ refl ]))
          (λ i. refl) (alike-let_go c (s.block n)) (λ i j e f. refl) (λ i j e f. refl);
      fits = fits-at c Channel.D (pushes_of None) (let_go_moves n) (λ i j l. message_of mail s' i (packet j l)) fits;
    }

pub grant_taken-shown : {w : ℕ} {caching : ℕ → Bool} (c n : ℕ) (whole d : Bool) (k : Cap) (rest : List Packet)
    (m : Message w) (mail : AccessMessages w) {s : State (List ℕ)} → IsInvariant caching s
    → IsInvariant caching (grant_taken c n whole d k rest s) → (s.link c).d ≡ packet Grant n ∷ rest
    → (s.block n).service ≡ GrantSent c d k → ((j : Kind) (i : ℕ) → shown j i (s.block n) ≡ true
    → shown j i (taken_block c whole d k (s.block n)) ≡ true → (carries j i (s.block n) ≡ false)
    ⊎ ((taken_block c whole d k (s.block n)).truth ≡ (s.block n).truth)) → channel_of_message m ≡ Channel.E
    → block_message GrantAck c n (taken_block c whole d k (s.block n)) ≡ m
    → IsShown caching n c Channel.D (pushes_at c (pushes_of (Some m))) mail mail s (grant_taken c n whole d k rest s)
grant_taken-shown c n whole d k rest m mail {s} inv inv' first sent bytes chan is =
    let new : Block (List ℕ) = taken_block c whole d k (s.block n) in
    let s' : State (List ℕ) = grant_taken c n whole d k rest s in
    let fits : (at : Channel) → Fits (same_channel at Channel.D) (only_on Channel.E m at) (taken_moves n at)
    (λ j l. message_of mail s' c (packet j l)) = elim [ Channel.E ↦ new_there _ c n new s.block m is | at ↦ tt ] in
    record {
      moves = (moves_at c (taken_moves n));
      showing = showing-block n new (moves_at c (taken_moves n)) mail mail inv inv'
          (moved-at c (taken_moves n) (taken_link n rest (s.link c)) s.link (elim [ Channel.D ↦ first | _ ↦ refl ]))
          (λ i. refl) (alike-taken c whole d k (s.block n) sent bytes) (λ i j e f. refl) (λ i j e f. refl);
      fits = fits-at c Channel.D (pushes_of (Some m)) (taken_moves n) (λ i j l. message_of mail s' i (packet j l))
          (λ at. fits_pushed (same_channel at Channel.D) m _ at _
          (λ j l. message_of mail s' c (packet j l)) chan (fits at));
    }

-- ---- a GrantAck is taken

pub grant_ack_taken-shown : {w : ℕ} {caching : ℕ → Bool} (c n : ℕ) (rest : List Packet) (mail : AccessMessages w)
    {s : State (List ℕ)} → IsInvariant caching s → IsInvariant caching (grant_ack_taken c n rest s)
    → (s.link c).e ≡ packet GrantAck n ∷ rest → (s.block n).service ≡ GrantTaken c
    → IsShown caching n c Channel.E (λ d at. None) mail mail s (grant_ack_taken c n rest s)
grant_ack_taken-shown c n rest mail {s} inv inv' first sent = record {
  moves = (moves_at c (freed_moves n));
  showing = showing-block n _ (moves_at c (freed_moves n)) mail mail inv inv'
      (moved-at c (freed_moves n) (record (s.link c) { e = rest }) s.link (elim [ Channel.E ↦ first | _ ↦ refl ]))
      (λ i. refl) (alike-freed c (s.block n) sent) (λ i j e f. refl) (λ i j e f. refl);
  fits = λ d at. fits d (d == c) at;
}
  where
    fits : (d : ℕ) (b : Bool) (at : Channel)
        → Fits (b && same_channel at Channel.E) None (if b then freed_moves n at else Stays)
        (λ j l. message_of mail (grant_ack_taken c n rest s) d (packet j l))
    fits d true Channel.E = tt
    fits d b at = tt
