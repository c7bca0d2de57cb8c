-- The numbers of each beat on a channel are within their types.
use Rattle.std.proofs.Common.{◌≡◌, ℕ, zero, suc, ◌+◌, ◌*◌, ◌-◌, ◌^◌, ◌<◌, ◌≤◌, Bool, true, false, List, [], ◌∷◌, ◌++◌}
use Rattle.std.proofs.Common.{Option, Some, None, refl, sym, arith, ◌%◌, length, lit<, leb-true, drop, IfSome}
use Rattle.std.proofs.Common.{replicate, slice_get, nat_le, option_map}
use Rattle.std.proofs.lemmas.List.Elements.{All-drop, All-from_get_or, All-replicate, All-take}
use Rattle.tl_coherence.proofs
use proofs.Imports.{and_parts, All-append, Channel, OpB, IsInRange, Message, MessageA, beat_of, lanes_at, ClientConfig}
use proofs.Imports.{Config, Prune, Report, Perm, all_sources_fit, config_fault, sources_fit, is_outside, answer_of}
use proofs.Imports.{as_payload, block_at, Op, EndConfig, probe_ack, release, sourced, one_if, access_answer}
use proofs.Imports.{release_ack, Acquire, Answer, Grant, GrantAck, Kind, Packet, Probe, ProbeAck, Release, ReleaseAck}
use proofs.Imports.{Request, is, count, AcquireOpen, AcquirePhase, Acquires, Asked, GrantSent, Replied, Service}
use proofs.Imports.{SourceFree, SourceState, State, is_on, packet, packets_on, Answers, IsOpened, AccessMessages}
use proofs.Imports.{acquire_of, grant_of, message_of_kind, prune_told, report_told, block_message, AreLanes}
use proofs.Imports.{SimulationRelation, sources_of, Log, Requests, one_memory_after, AreBytes, System, terms_at}
use Rattle.tl_beat.specs.statement.Line.{AreLanes as HasLanes}
use Rattle.tl_rules.specs.statement.Effect as memory
use proofs.memory.OneMemory.{IsRangedMachine, IsRangedOpen, IsRangedReply}
use proofs.protocol.Capacities.{acquire_named, answer_named, grant_ack_named, grant_named, release_ack_named}
use proofs.protocol.Capacities.{release_named, request_named, AreBounded, shown_there, shows_it, tracker_of_service}
use proofs.queues.{Channels.same_kind_again, Tokens.same_number, Limits.limits-fit}

-- ---- messages, and their beats

-- a message's numbers are within their types
abbrev pub IsRangedMessage : {w : ℕ} → Message w → Type 0
IsRangedMessage (Message.A m) = (m.source < 2 ^ 8) × AreBytes m.payload
IsRangedMessage (Message.B m) = (m.source < 2 ^ 8) × AreBytes m.payload
IsRangedMessage (Message.C m) = (m.source < 2 ^ 8) × AreBytes m.payload
IsRangedMessage (Message.D m) = (m.source < 2 ^ 8) × (m.sink < 2 ^ 8) × AreBytes m.payload
IsRangedMessage (Message.E m) = m.sink < 2 ^ 8

ranged-lanes : (w : ℕ) (carries : Bool) (payload : List ℕ) (k : ℕ) → AreBytes payload
    → IfSome (lanes_at carries w payload k) (λ lanes. length lanes ≡ w) → HasLanes w (lanes_at carries w payload k)
ranged-lanes w true payload k bytes long = let fact = All-take (λ byte. byte < 2 ^ 8) (w * k + w - w * k)
    (drop (w * k) payload) (All-drop (λ byte. byte < 2 ^ 8) (w * k) payload bytes) in (long, fact)
ranged-lanes w false payload k bytes long = tt

-- an address inside the map
inside-below : (blocks address : ℕ) → blocks ≤ 1024 → nat_le blocks (block_at address) ≡ false → address < 2 ^ 32
inside-below blocks address few inside = grind arith

pub ranged-beat : {w : ℕ} (blocks : ℕ) (m : Message w) (k : ℕ) → blocks ≤ 1024 → is_outside blocks (beat_of m k) ≡ false
    → AreLanes (beat_of m k) → IsRangedMessage m → IsInRange (beat_of m k)
ranged-beat blocks m k e f g h = grind (arith, inside-below, ranged-lanes)

-- ---- what messages are made of

pub zeros-bytes : (n : ℕ) → AreBytes (replicate n 0)
zeros-bytes n = All-replicate (λ byte. byte < 2 ^ 8) n 0 (lit< tt)

acquire-ranged : (w : ℕ) (a : AcquirePhase) (source n : ℕ) → source < 2 ^ 8
    → IsRangedMessage (acquire_of {w = w} a source n)
acquire-ranged w (AcquireOpen true g) source n small = (small, zeros-bytes 64)
acquire-ranged w a source n small = (small, zeros-bytes 64)

report-ranged : (w : ℕ) (p : Perm) (r : Report) (n : ℕ) (truth : List ℕ) → AreBytes truth
    → IsRangedMessage (probe_ack {w = w} OpB.ProbeBlock p r n truth)
report-ranged w Perm.Trunk r n truth bytes = (lit< tt, bytes)
report-ranged w p r n truth bytes = (lit< tt, zeros-bytes 64)

release-ranged : (w : ℕ) (p : Prune) (source n : ℕ) (truth : List ℕ) → source < 2 ^ 8 → AreBytes truth
    → IsRangedMessage (release {w = w} p source n truth)
release-ranged w Prune.BtoN source n truth small bytes = (small, zeros-bytes 64)
release-ranged w p source n truth small bytes = (small, bytes)

ack-ranged : (w : ℕ) (source : ℕ) → source < 2 ^ 8 → IsRangedMessage (release_ack {w = w} source)
ack-ranged w source small = (small, lit< tt, zeros-bytes 64)

grant-ranged : (w : ℕ) (service : Service) (source tracker : ℕ) (truth : List ℕ) → source < 2 ^ 8
    → ((q : ℕ) (d : Bool) (k : _) → service ≡ GrantSent q d k → tracker < 2 ^ 8) → AreBytes truth
    → IsRangedMessage (grant_of {w = w} service source tracker truth)
grant-ranged w (GrantSent q true k) source tracker truth small sink bytes = (small, sink q true k refl, bytes)
grant-ranged w (GrantSent q false k) source tracker truth small sink bytes =
    (small, sink q false k refl, zeros-bytes 64)
grant-ranged w service source tracker truth small sink bytes = ack-ranged w source small

payload-bytes : (at : ℕ) (bytes : List ℕ) → AreBytes bytes → AreBytes (as_payload at bytes)
payload-bytes at bytes are = All-append (λ byte. byte < 2 ^ 8) (replicate at 0 ++ bytes)
    (replicate (64 - at - length bytes) 0) (All-append (λ byte. byte < 2 ^ 8) (replicate at 0) bytes (zeros-bytes at)
    are) (zeros-bytes (64 - at - length bytes))

answer-ranged : {w : ℕ} (m : MessageA w) (r : memory.AccessResult) → m.source < 2 ^ 8 → IsRangedReply r
    → IsRangedMessage (access_answer m (answer_of (Message.A m) r))
answer-ranged m memory.Done small bytes = (small, lit< tt, zeros-bytes 64)
answer-ranged m memory.Hinted small bytes = (small, lit< tt, zeros-bytes 64)
answer-ranged {w} m (memory.Bytes list) small bytes = (small, lit< tt, payload-bytes (m.address % w) list bytes)

-- ---- sources are few

each-fits : (clients : List ClientConfig) (k : ℕ) (client : ClientConfig) → all_sources_fit clients ≡ true
    → slice_get clients k ≡ Some client → sources_fit client ≡ true
each-fits [] k client fit e = absurd cc
each-fits (x ∷ clients) zero client fit e = let is : x ≡ client = cc in
    rw is at (and_parts (sources_fit x) (all_sources_fit clients) fit).0
each-fits (x ∷ clients) (suc k) client fit e =
    each-fits clients k _ (and_parts (sources_fit x) (all_sources_fit clients) fit).1 e

pub few-sources : (config : Config) (c : ℕ) → config_fault config ≡ None → sources_of (terms_at config c) ≤ 8
few-sources config c fits = go (slice_get config.clients.items c) refl
  where
    all : all_sources_fit config.clients.items ≡ true
    all = grind (arith, limits-fit, fits)

    go : (o : Option ClientConfig) → slice_get config.clients.items c ≡ o
        → sources_of (option_map {U = EndConfig} (λ x. record {
          level = x.level;
          profile = config.profile;
          sources = x.sources;
          blocks = config.blocks;
        }) o) ≤ 8
    go None e = omega arith
    go (Some x) e = leb-true x.sources 8 (and_parts (nat_le 1 x.sources) (nat_le x.sources 8)
        (each-fits config.clients.items c x all e)).1

-- ---- the message of the first token of a channel

module _ {w : ℕ} {config : Config} {log : Log w} {mail : AccessMessages w} {request : ℕ → MessageA w}
    {s : State (List ℕ)} {sys : System w} (matched : SimulationRelation config log mail request s sys)
    (ranged : IsRangedMachine (one_memory_after config log)) {c sources trackers : ℕ}
    (bounds : AreBounded c sources trackers s) (few_sources : sources ≤ 8) (few_trackers : trackers ≤ 8) where
  truth-bytes : (n : ℕ) → AreBytes (s.block n).truth
  truth-bytes n = All-from_get_or (λ byte. byte < 2 ^ 8) (s.block n).truth 0 (λ i less.
      let inside : i < 64 = omega (arith, less, (matched.sized n).truth) in
      rw (sym (matched.beside.memory n i inside)) (ranged.memory (64 * n + i)))

  used-small : (source : ℕ) (u : SourceState) → s.uses c source ≡ u → (u ≡ SourceFree → ⊥) → source < 2 ^ 8
  used-small source u e used = grind arith

  let-small : (source n : ℕ) → s.lets c source ≡ Some n → source < 2 ^ 8
  let-small source n e = let less = bounds.releases source n e in omega (arith, less, few_sources)

  tracker-small : (tracker n : ℕ) → s.tracked tracker ≡ Some n → tracker < 2 ^ 8
  tracker-small tracker n e = let less = bounds.tracked tracker n e in omega (arith, less, few_trackers)

  request-ranged : (n : ℕ) → s.uses c n ≡ Asked → IsRangedMessage (mail.request c n)
  request-ranged n used =
      let opened : IsOpened c n mail s Asked ((one_memory_after config log).opened c Requests n) =
      rw used at (matched.beside.requests c n) in
      let are : IsRangedOpen (Some (record { asked = Op.Access (Message.A opened.0); answer = None })) =
      rw opened.2 at (ranged.opened c Requests n) in
      rw opened.1 (used-small n Asked used (λ e. absurd cc), are.0)

  answer-is-ranged : (n : ℕ) → s.uses c n ≡ Replied → IsRangedMessage (mail.answer c n)
  answer-is-ranged n used =
      let opened : IsOpened c n mail s Replied ((one_memory_after config log).opened c Requests n) =
      rw used at (matched.beside.requests c n) in
      let m : MessageA w = opened.1.0 in
      let r : memory.AccessResult = opened.0 in
      let are : IsRangedOpen (Some (record { asked = Op.Access (Message.A m); answer = Some r })) =
      rw opened.1.2 at (ranged.opened c Requests n) in
      let answers : Answers (Message.A (sourced n m)) r (mail.answer c n) = rw opened.1.1 at opened.2 in
      rw answers.0 (answer-ranged (sourced n m) r (used-small n Replied used (λ e. absurd cc)) are.1)

  kind-ranged : (k : Kind) (n : ℕ) → shows_it s c k n ≡ true → IsRangedMessage (message_of_kind k mail s c n)
  unfolding block_message
  kind-ranged Request n shows = request-ranged n (request_named c n matched.invariant shows)
  kind-ranged Answer n shows = answer-is-ranged n (answer_named c n matched.invariant shows)
  kind-ranged Acquire n shows = acquire-ranged w ((s.block n).pair c).acquiring _ n
      (used-small ((s.block n).source c) (Acquires n) (acquire_named c n matched.invariant shows) (λ e. absurd cc))
  kind-ranged Probe n shows = (lit< tt, zeros-bytes 64)
  kind-ranged ProbeAck n shows = report-ranged w _ (report_told ((s.block n).pair c).probing) n _ (truth-bytes n)
  kind-ranged Release n shows = release-ranged w (prune_told ((s.block n).pair c).letting) _ n _
      (let-small ((s.block n).release_source c) n (release_named c n matched.invariant shows)) (truth-bytes n)
  kind-ranged Grant n shows = grant-ranged w (s.block n).service _ (s.block n).tracker _
      (used-small ((s.block n).source c) (Acquires n) (grant_named c n matched.invariant shows) (λ e. absurd cc))
      (λ q d k e. tracker-small _ n (tracker_of_service n matched.invariant (rw e refl))) (truth-bytes n)
  kind-ranged ReleaseAck n shows = ack-ranged w _
      (let-small ((s.block n).release_source c) n (release_ack_named c n matched.invariant shows))
  kind-ranged GrantAck n shows = tracker-small _ n (grant_ack_named c n matched.invariant shows)

  pub first-ranged : (ch : Channel) (k : Kind) (n : ℕ) (rest : List Packet) → is_on ch k ≡ true
      → packets_on ch (s.link c) ≡ packet k n ∷ rest → IsRangedMessage (message_of_kind k mail s c n)
  unfolding count
  first-ranged ch k n rest on_it tokens =
      let one : one_if (is k n (packet k n)) ≡ 1 = rw (same_kind_again k, same_number n) refl in
      kind-ranged k n (shown_there c ch k n matched.invariant on_it (rw tokens (omega (arith, one))))
