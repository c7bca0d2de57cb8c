-- How many beats a channel holds, by the messages that are on it.
-- The request whose beat is first on channel A of a link: an access that was asked, or an Acquire that is wanted.
use Rattle.std.proofs.Common.{◌≡◌, ℕ, ◌+◌, ◌*◌, ◌-◌, ◌^◌, ◌<◌, ◌≤◌, Bool, true, false, not, List, [], ◌∷◌, Some, None}
use Rattle.std.proofs.Common.{refl, sym, ◌∙◌, ap, arith, length, ◌/◌, length-append, map}
use Rattle.std.proofs.lemmas.Nat.{le-div}
use Rattle.tl_coherence.proofs
use proofs.Imports.{same_Some, Beat, Channel, IsWidth, beats-positive, Message, MessageA, IsBlankAfter, a_beat_of}
use proofs.Imports.{beats_of, unfinished, Config, Grow, beats_room, on_link, block_at, is_acquire, beats_from}
use proofs.Imports.{same_block, open_beat, acquisition, illegal_message_at, one_if, level_of, IsInvariant, Acquire}
use proofs.Imports.{GrantAck, Kind, Packet, Probe, ReleaseAck, Request, same_kind, AcquireOpen, Acquires, Asked, Block}
use proofs.Imports.{State, is_on, packet, packets_on, view, is_unserved, is_wanting, acquire_opcode, IsCarried}
use proofs.Imports.{AccessMessages, message_of, message_of_kind, messages_on, block_message, IsRequest}
use proofs.Imports.{SimulationRelation, first_of, request_source, capacity, Log, System}
use Rattle.tl_coherence.specs.refinement.Carried.{spelled}
use Rattle.tl_client.specs.statement.EndpointInvariant.{acquires}
use proofs.queues.{Phases.and_left, Phases.and_right, Tokens.same_number, Codes.acquires-so, Beats.length-beats_from}
use proofs.queues.Carried.{carried-next, IsNext}
use proofs.queues.FirstToken.{passing, all-pass, IsThere, first-there, later-there}
use proofs.protocol.BothParts.{acquires_of-is, wanting-is, first-request, first-shown}
use proofs.protocol.Capacities.{few_on_a, few_on_b, few_on_c, few_on_e, few_acks_on_d, few_responses_on_d, AreBounded}
use proofs.protocol.Capacities.{kind_there}

pub positive : (w : ℕ) → IsWidth w → 0 < w
positive w e = grind arith

commuted : (a b : ℕ) → a * b ≡ b * a
commuted a b = grind arith

-- no message has more beats than a block
pub beats-few : {w : ℕ} (m : Message w) → IsWidth w → beats_of m ≤ 64 / w
beats-few {w} m width = le-div (beats_of m) 64 w (positive w width) (rw (commuted (beats_of m) w) (beats_room m width))

-- ---- the beats of a channel are some of those of its messages

length-carried : {w : ℕ} (rest : List (Beat w)) (ms : List (Message w)) (queue : List (Beat w))
    → IsCarried rest ms queue → length queue ≤ length (spelled ms)
unfolding spelled
length-carried rest [] queue h = let none : length queue ≡ 0 = ap length h.1 in omega (arith, none)
length-carried {w} rest (m ∷ ms) queue (k, lt, r, q) = omega (
  arith,
  ap length q,
  length-beats_from m k (beats_of m - k),
  length-beats_from m 0 (beats_of m),
  length-append (beats_from m k (beats_of m - k)) (spelled ms),
  length-append (beats_from m 0 (beats_of m)) (spelled ms),
)

-- those of light tokens have one beat each
spelled-few : {w : ℕ} (message : Packet → Message w) (light : Packet → Bool) (xs : List Packet) → IsWidth w
    → ((x : Packet) → IsThere x xs → light x ≡ true → beats_of (message x) ≡ 1)
    → length (spelled (map message xs)) ≤ 64 / w * passing (λ x. not (light x)) xs + passing light xs
unfolding spelled passing
spelled-few message light [] width one = omega arith
spelled-few {w} message light (x ∷ xs) width one =
    let rest = spelled-few message light xs width (λ y there. one y (later-there y x xs there)) in
    let parts = length-append (beats_from (message x) 0 (beats_of (message x))) (spelled (map message xs)) in
    let own = length-beats_from (message x) 0 (beats_of (message x)) in
    sums (64 / w) (beats_of (message x)) (passing (λ y. not (light y)) xs) (passing light xs) (light x) _ _ (beats-few
    (message x) width) (one x (first-there x xs)) rest (parts ∙ ap (λ n. n + length (spelled (map message xs))) own)
  where
    sums : (n b heavy few : ℕ) (l : Bool) (rest all : ℕ) → b ≤ n → (l ≡ true → b ≡ 1) → rest ≤ n * heavy + few
        → all ≡ b + rest → all ≤ n * (one_if (not l) + heavy) + (one_if l + few)
    sums n b heavy few l rest all e f g h = grind arith

-- ---- messages of one beat

abbrev pub is_light : Kind → Bool
is_light Probe = true
is_light ReleaseAck = true
is_light GrantAck = true
is_light _ = false

pub light-one : {w : ℕ} (mail : AccessMessages w) (s : State (List ℕ)) (c : ℕ) (k : Kind) (n : ℕ) → is_light k ≡ true
    → beats_of (message_of_kind k mail s c n) ≡ 1
unfolding block_message
light-one mail s c k n e = grind arith

-- ---- the five channels

room_for : (n heavy light sources : ℕ) (len : ℕ) → len ≤ n * heavy + light → heavy ≤ sources → light ≤ sources
    → len ≤ (n + 1) * sources
room_for n heavy light sources len le h l = grind (arith, le)

times : (n a z b len most : ℕ) → len ≤ most → most ≤ n * a + z → z ≡ 0 → a ≤ b → len ≤ n * b
times n a z b len most le l e f = grind (arith, le)

no_heavy : (n z a b len most : ℕ) → len ≤ most → most ≤ n * z + a → z ≡ 0 → a ≤ b → len ≤ b
no_heavy n z a b len most le l e f = let none : n * z ≡ 0 = rw e (omega arith) in omega (arith, le, l, none, f)

none-pass : (xs : List Packet) → passing (λ x. false) xs ≡ 0
unfolding passing
none-pass [] = refl
none-pass (x ∷ xs) = omega (arith, none-pass xs)

light_on_b : (k : Kind) → is_on Channel.B k ≡ true → is_light k ≡ true
light_on_b k e = grind arith

light_on_e : (k : Kind) → is_on Channel.E k ≡ true → is_light k ≡ true
light_on_e k e = grind arith

light_ack : (k : Kind) → same_kind k ReleaseAck ≡ true → is_light k ≡ true
light_ack k e = grind arith

-- no channel holds more beats than it is made for
pub channel-few : {w : ℕ} {caching : ℕ → Bool} (mail : AccessMessages w) {s : State (List ℕ)} {c sources trackers : ℕ}
    (ch : Channel) (rest queue : List (Beat w)) → IsWidth w → IsInvariant caching s → AreBounded c sources trackers s
    → IsCarried rest (messages_on ch mail s c) queue → length queue ≤ capacity (64 / w) sources trackers ch
channel-few {w} {caching} mail {s} {c} {sources} {trackers} ch rest queue width inv bounds carried = go ch carried
  where
    one : (d : Channel) (x : Packet) → IsThere x (packets_on d (s.link c))
        → (is_on d x.kind ≡ true → is_light x.kind ≡ true) → beats_of (message_of mail s c x) ≡ 1
    one d x there light = light-one mail s c x.kind x.number (light (kind_there c d x inv there))

    go : (d : Channel) → IsCarried rest (messages_on d mail s c) queue
        → length queue ≤ capacity (64 / w) sources trackers d
    go Channel.A h =
        let all = spelled-few (message_of mail s c) (λ x. false) (s.link c).a width (λ x there e. absurd cc) in
        times (64 / w) (passing (λ x. true) (s.link c).a) (passing (λ x. false) (s.link c).a) sources _ _
        (length-carried rest (messages_on Channel.A mail s c) queue h) all (none-pass (s.link c).a)
        (rw (all-pass (s.link c).a) (few_on_a caching s c sources trackers inv bounds))
    go Channel.B h =
        let all = spelled-few (message_of mail s c) (λ x. true) (s.link c).b width
        (λ x there e. one Channel.B x there (light_on_b x.kind)) in
        no_heavy (64 / w) (passing (λ x. false) (s.link c).b) (passing (λ x. true) (s.link c).b) trackers _
        _ (length-carried rest (messages_on Channel.B mail s c) queue h) all (none-pass (s.link c).b)
        (rw (all-pass (s.link c).b) (few_on_b caching s c sources trackers inv bounds))
    go Channel.C h =
        let all = spelled-few (message_of mail s c) (λ x. false) (s.link c).c width (λ x there e. absurd cc) in
        times (64 / w) (passing (λ x. true) (s.link c).c) (passing (λ x. false) (s.link c).c) (sources + trackers)
        _ _ (length-carried rest (messages_on Channel.C mail s c) queue h) all
        (none-pass (s.link c).c) (rw (all-pass (s.link c).c) (few_on_c caching s c sources trackers inv bounds))
    go Channel.D h =
        let le = length-carried rest _ queue h in
        let all = spelled-few (message_of mail s c) (λ x. same_kind x.kind ReleaseAck) (s.link c).d width
        (λ x there e. light-one mail s c x.kind x.number (light_ack x.kind e)) in
        room_for (64 / w) _ _ sources (length queue) (omega (arith, le, all)) (few_responses_on_d caching s c sources
        trackers inv bounds) (few_acks_on_d caching s c sources trackers inv bounds)
    go Channel.E h =
        let all = spelled-few (message_of mail s c) (λ x. true) (s.link c).e width
        (λ x there e. one Channel.E x there (light_on_e x.kind)) in
        no_heavy (64 / w) (passing (λ x. false) (s.link c).e) (passing (λ x. true) (s.link c).e) trackers _
        _ (length-carried rest (messages_on Channel.E mail s c) queue h) all (none-pass (s.link c).e)
        (rw (all-pass (s.link c).e) (few_on_e caching s c sources trackers inv bounds))

-- ---- an access that was asked

-- a message of channel A with this source
pub record IsOfSource {w : ℕ} (source : ℕ) (m : Message w) : Type 0 where
  pub request : MessageA w
  pub is_it : m ≡ Message.A request
  pub source_is : request.source ≡ source

of_source : {w : ℕ} (source : ℕ) (m : Message w) → request_source m ≡ Some source → IsOfSource source m
of_source source (Message.A m) e = record { request = m; is_it = refl; source_is = same_Some m.source source e }
of_source source m e = absurd cc

pub record IsAsked {w : ℕ} (config : Config) (c source : ℕ) (mail : AccessMessages w) (s : State (List ℕ)) : Type 0
  where
    pub request : MessageA w
    pub is_it : mail.request c source ≡ Message.A request
    pub source_is : request.source ≡ source
    pub used : s.uses c source ≡ Asked
    pub access : is_acquire request.opcode ≡ false
    pub lawful : illegal_message_at (level_of config c) (Message.A request) ≡ None
    pub blank : IsBlankAfter (beats_of (Message.A request)) (Message.A request)

pub rendered-acquire : {w : ℕ} (c n : ℕ) (b : Block (List ℕ)) (whole : Bool) (g : Grow)
    → (b.pair c).acquiring ≡ AcquireOpen whole g
    → block_message {w = w} Acquire c n b ≡ Message.A (acquisition (acquire_opcode whole) g (b.source c) n)
unfolding block_message
rendered-acquire c n b whole g e = grind arith

-- an access that was asked is no Acquire: the client has one Acquire of a block open at most, and that is another one
asked-access : {w : ℕ} {config : Config} {log : Log w} {mail : AccessMessages w} {request : ℕ → MessageA w}
    {s : State (List ℕ)} {sys : System w} (c source : ℕ) (m : MessageA w)
    → SimulationRelation config log mail request s sys → s.uses c source ≡ Asked → mail.request c source ≡ Message.A m
    → is_acquire m.opcode ≡ false
asked-access {w} {s} {sys} c source m is used mailed =
    let go : (x : Bool) → is_acquire m.opcode ≡ x → x ≡ false = elim [ true ↦ λ e. absurd (both e) | false ↦ λ e. refl ]
    in
    go (is_acquire m.opcode) refl
  where
    n : ℕ
    n = block_at m.address

    b : Block (List ℕ)
    b = s.block n

    opens : open_beat source (sys.clients c).past ≡ Some (a_beat_of m 0)
    opens = (is.known c).opens source ∙ rw (used, mailed) refl

    both : is_acquire m.opcode ≡ true → ⊥
    both e =
        let mine : acquires n (open_beat source (sys.clients c).past) ≡ true = rw (opens, e, same_number n) refl in
        let wants : is_wanting (b.pair c).acquiring ≡ true = sym ((is.known c).acquires n) ∙ (is.kept c).outstanding
        source n mine in
        let asks = wanting-is _ wants in
        let used_too = acquires_of-is n _ (is.invariant.named.acquires c (b.source c) n
        ∙ rw (wants, same_number (b.source c)) refl) in
        let opens_too : open_beat (b.source c) (sys.clients c).past ≡ Some
        (a_beat_of (acquisition (acquire_opcode asks.0) asks.1 (b.source c) n) 0) =
        (is.known c).opens (b.source c) ∙ rw used_too (ap first_of (rendered-acquire c n b asks.0 asks.1 asks.2)) in
        let no : Asked ≡ Acquires n = sym used ∙ ap (s.uses c) ((is.kept c).once source (b.source c) n mine
        (rw (opens_too, acquires-so asks.0, same_block n, same_number n) refl)) ∙ used_too in
        cc

pub asked-first : {w : ℕ} {config : Config} {log : Log w} {mail : AccessMessages w} {request : ℕ → MessageA w}
    {s : State (List ℕ)} {sys : System w} (c source : ℕ) (rest : List Packet)
    → SimulationRelation config log mail request s sys → (s.link c).a ≡ packet Request source ∷ rest
    → IsAsked config c source mail s
asked-first {config} {mail} {request} c source rest is first =
    let used = first-request is.invariant first in
    let sourced : IsRequest config c source (mail.request c source) = rw used at (is.sourced c source) in
    let of : IsOfSource source (mail.request c source) = of_source _ _ sourced.0 in
    record {
      request = of.request;
      is_it = of.is_it;
      source_is = of.source_is;
      used = used;
      access = asked-access c _ _ is used of.is_it;
      lawful = rw of.is_it at sourced.1;
      blank = rw of.is_it at sourced.2;
    }

-- ---- an Acquire that is wanted

pub record IsWanted (w c n : ℕ) (s : State (List ℕ)) : Type 0 where
  pub whole : Bool
  pub grow : Grow
  pub wants : ((s.block n).pair c).acquiring ≡ AcquireOpen whole grow
  pub unserved : is_unserved (view (s.block n).service c) ≡ true
  pub used : s.uses c ((s.block n).source c) ≡ Acquires n
  pub renders : block_message {w = w} Acquire c n (s.block n) ≡ Message.A
      (acquisition (acquire_opcode whole) grow ((s.block n).source c) n)

pub wanted-first : {w : ℕ} {config : Config} {log : Log w} {mail : AccessMessages w} {request : ℕ → MessageA w}
    {s : State (List ℕ)} {sys : System w} (c n : ℕ) (rest : List Packet)
    → SimulationRelation config log mail request s sys → (s.link c).a ≡ packet Acquire n ∷ rest → IsWanted w c n s
wanted-first {s} c n rest is first =
    let b : Block (List ℕ) = s.block n in
    let shows = first-shown is.invariant c Acquire refl first in
    let wants = and_left (is_wanting (b.pair c).acquiring) (is_unserved (view b.service c)) shows in
    let asks = wanting-is _ wants in
    record {
      whole = asks.0;
      grow = asks.1;
      wants = asks.2;
      unserved = and_right (is_wanting (b.pair c).acquiring) (is_unserved (view b.service c)) shows;
      used = acquires_of-is n _ (is.invariant.named.acquires c (b.source c) n ∙ rw
          (wants, same_number (b.source c)) refl);
      renders = rendered-acquire c n b asks.0 asks.1 asks.2;
    }

-- all that no beat of it carries is zero
narrow : (w : ℕ) → IsWidth w → 2 ^ w - 1 < 2 ^ (w * 1)
narrow w is = grind arith

acquisition_blank : (w : ℕ) (whole : Bool) (g : Grow) (source n : ℕ) → IsWidth w
    → IsBlankAfter {w = w} 1 (Message.A (acquisition (acquire_opcode whole) g source n))
acquisition_blank w true g source n width = (refl, narrow w width, omega arith)
acquisition_blank w false g source n width = (refl, narrow w width, omega arith)

pub acquisition_beats : (w : ℕ) (whole : Bool) (g : Grow) (source n : ℕ)
    → beats_of {w = w} (Message.A (acquisition (acquire_opcode whole) g source n)) ≡ 1
acquisition_beats w whole g source n = grind arith

pub acquisition-blank : (w : ℕ) (whole : Bool) (g : Grow) (source n : ℕ) → IsWidth w
    → IsBlankAfter {w = w} (beats_of {w = w} (Message.A (acquisition (acquire_opcode whole) g source n)))
    (Message.A (acquisition (acquire_opcode whole) g source n))
acquisition-blank w whole g source n width =
    rw (acquisition_beats w whole g source n) (acquisition_blank w whole g source n width)

-- ---- its first beat that isn't taken

pub front-of : {w : ℕ} {config : Config} {log : Log w} {mail : AccessMessages w} {request : ℕ → MessageA w}
    {s : State (List ℕ)} {sys : System w} (c : ℕ) (first : Packet) (rest : List Packet) (m : MessageA w) (x : Beat w)
    (queue : List (Beat w)) → IsWidth w → SimulationRelation config log mail request s sys → (s.link c).a ≡ first ∷ rest
    → message_of mail s c first ≡ Message.A m → sys.channels c Channel.A ≡ x ∷ queue
    → IsNext x (unfinished Channel.A (on_link c sys.manager.trace)) (Message.A m) (map (message_of mail s c) rest) queue
front-of {w} {mail} {s} {sys} c first rest m x queue width is tokens is_it beats =
    let carried_so : (ms ns : List (Message w)) (q r : List (Beat w)) → ms ≡ ns → q ≡ r
    → IsCarried (unfinished Channel.A (on_link c sys.manager.trace)) ms q
    → IsCarried (unfinished Channel.A (on_link c sys.manager.trace)) ns r = λ ms ns q r e f h. rw (← e, ← f) h in
    carried-next x _ _ _ queue (λ i. beats-positive i width) (carried_so (messages_on Channel.A mail s c) (Message.A
    m ∷ map (message_of mail s c) rest) (sys.channels c Channel.A) (x ∷ queue) (cc) beats (is.carried c Channel.A))
