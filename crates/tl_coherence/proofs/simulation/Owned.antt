-- Each client's open sources are its own, in every world; and so no channel holds more than it is made for.
-- Where there is no client, nothing is on a channel.
-- What a delivery leaves on the channels, who has something open, and how much is left of what is taken.
use Rattle.std.proofs.Common.{◌≡◌, ℕ, ◌+◌, ◌<◌, ◌≤◌, Bool, true, false, ◌&&◌, ◌==◌, if◌then◌else◌, List, [], ◌∷◌}
use Rattle.std.proofs.Common.{Option, Some, None, refl, sym, ◌∙◌, ap, arith, length, ◌/◌, slice_get, option_map}
use Rattle.tl_coherence.proofs
use proofs.Imports.{Beat, Channel, IsWidth, length-begun, Message, MessageA, beats_of, unfinished, ClientConfig, Config}
use proofs.Imports.{Key, ReleaseSource, RequestSource, Level, pending, kept-asked, kept-fresh, kept-offered, EndConfig}
use proofs.Imports.{Endpoint, of_served, level_of, service_of_block, services, resting, Acquire, Answer, Grant}
use proofs.Imports.{GrantAck, Kind, Packet, Probe, ProbeAck, Release, ReleaseAck, Request, is, count, Asked, Service}
use proofs.Imports.{SourceFree, State, is_on, packet, packets_on, view, is_acknowledging, shown, client_in}
use proofs.Imports.{service_with, AreMoved, IsMoved, Move, Pops, channel_for, AccessMessages, message_of_kind}
use proofs.Imports.{SimulationRelation, capacity, receiver, sources_of, Log, system_after, System, same_channel}
use proofs.Imports.{terms_at}
use Rattle.tl_manager.specs.code.Kept as kept
use Rattle.tl_client.{specs.laws.Inside.IsInside, specs.statement.Endpoint.fresh}
use Rattle.tl_client.{specs.statement.EndpointInvariant.IsEndpointInvariant}
use Rattle.tl_client.proofs.endpoint.Inside.{inside-fresh, inside-asked, inside-offered}
use proofs.protocol.BeatsRemaining.{IsPopped, beats_left, is_pop, is_front, taken_of}
use proofs.protocol.Room.{channel-few}
use proofs.protocol.Capacities.{acquire_named, grant_named, release_named, release_ack_named, request_named}
use proofs.protocol.Capacities.{answer_named, shown_there, kind_there}
use proofs.queues.{QuiescentQueues.client_below, Tokens.same_number, Steps.same_channel-refl, Moves.kind_channel}
use proofs.queues.FirstToken.{IsThere, first-there, IsFirst, AreKept, ends-kept}
use proofs.queues.Channels.{Fits, same_channel-is, same_kind_again}
use proofs.simulation.Bounded.{matched-bounded, IsOwn}
use proofs.rank.Frames.{AreClients}

-- a client's end is within its terms, and there is nothing where there is no client
pub record IsWithin {w : ℕ} (config : Config) (c : ℕ) (e : Endpoint w) : Type 0 where
  pub kept : IsEndpointInvariant e
  pub inside : (terms : EndConfig) → terms_at config c ≡ Some terms → IsInside terms e.past
  pub nobody : terms_at config c ≡ None → e ≡ fresh

some_is : {terms other : EndConfig} (o : Option EndConfig) → o ≡ Some terms → o ≡ Some other → terms ≡ other
some_is o e f = cc

none_is : {A : Type 0} {terms : EndConfig} (o : Option EndConfig) → o ≡ Some terms → o ≡ None → A
none_is o e f = absurd cc

within-kept : {w : ℕ} (config : Config) → IsWidth w → AreKept {w = w} config (IsWithin config)
within-kept {w} config width = record {
  fresh = λ c. record { kept = kept-fresh w; inside = λ terms is. inside-fresh w terms; nobody = λ is. refl };
  asked = λ c terms op e is was. record {
    kept = kept-asked terms op e width was.kept;
    inside = λ other so. rw (some_is (terms_at config c) so is)
        (inside-asked terms op e width was.kept (was.inside terms is));
    nobody = λ so. none_is _ is so;
  };
  offered = λ c terms ch x e is was. record {
    kept = kept-offered terms ch x e width was.kept;
    inside = λ other so. rw (some_is (terms_at config c) so is)
        (inside-offered terms ch x e width was.kept (was.inside terms is));
    nobody = λ so. none_is _ is so;
  };
}

pub sources-own : {w : ℕ} (config : Config) (log : Log w) (c : ℕ) → IsWidth w → IsOwn config c (system_after config log)
unfolding pending
sources-own {w} config log c width = go (terms_at config c) refl
  where
    within : IsWithin config c ((system_after config log).clients c)
    within = ends-kept config (IsWithin config) (within-kept config width) log c

    not_pending : (k : Key) → ((system_after config log).clients c) ≡ fresh
        → pending k ((system_after config log).clients c).past ≡ true → pending k (fresh {w = w}).past ≡ true
    not_pending k e p = rw e at p

    go : (o : Option EndConfig) → terms_at config c ≡ o → IsOwn config c (system_after config log)
    go None is = record {
      requests = λ source p. absurd (let q = not_pending (RequestSource source) (within.nobody is) p in cc);
      releases = λ source p. absurd (let q = not_pending (ReleaseSource source) (within.nobody is) p in cc);
    }
    go (Some terms) is = record {
      requests = λ source p. rw is ((within.inside terms is).requests_below source p);
      releases = λ source p. rw is ((within.inside terms is).releases_below source p);
    }

-- no channel holds more than it is made for
pub channels-few : {w : ℕ} {config : Config} {log : Log w} {mail : AccessMessages w} {request : ℕ → MessageA w}
    {s : State (List ℕ)} → IsWidth w → SimulationRelation config log mail request s (system_after config log)
    → (c : ℕ) (ch : Channel) → length ((system_after config log).channels c ch) ≤ capacity (64 / w)
    (sources_of (terms_at config c)) config.trackers ch
channels-few {config} {log} {mail} {request} {s} width matched c ch =
    channel-few mail ch _ _ width matched.invariant (matched-bounded config log mail request s
    (system_after config log) matched c (sources-own config log c width)) (matched.carried c ch)

no_level : (config : Config) (c : ℕ) → terms_at config c ≡ None → level_of config c ≡ None
no_level config c is =
    let go : (o : Option ClientConfig) → option_map {U = EndConfig}
    (λ x. record { level = x.level; profile = config.profile; sources = x.sources; blocks = config.blocks }) o ≡ None
    → option_map (λ x. x.level) o ≡ None = elim [ None ↦ λ e. refl | Some x ↦ λ e. absurd cc ] in
    go (slice_get config.clients.items c) is

acknowledged_to : (service : Service) (c : ℕ) → is_acknowledging (view service c) ≡ true → client_in service ≡ Some c
acknowledged_to service c e = grind arith

module _ {w : ℕ} {config : Config} {log : Log w} {mail : AccessMessages w} {request : ℕ → MessageA w}
    {s : State (List ℕ)} (matched : SimulationRelation config log mail request s (system_after config log))
    (width : IsWidth w) (c : ℕ) (is : terms_at config c ≡ None) where
  pub no_use : (source : ℕ) → s.uses c source ≡ SourceFree
  no_use source = matched.strangers c source is

  pub no_let : (source : ℕ) → s.lets c source ≡ None
  no_let source = go (s.lets c source) refl
    where
      go : (o : Option ℕ) → s.lets c source ≡ o → o ≡ None
      go None e = refl
      go (Some n) e =
          let below = (sources-own config log c width).releases source (cc ((matched.opened c).releases source)) in
          absurd (let none : source < 0 = rw is at below in omega (arith, none))

  at_rest : (n : ℕ) → (s.block n).pair c ≡ resting
  at_rest n = (matched.invariant.blocks n).outside c (rw (no_level config c is) refl)

  not_acknowledging : (n : ℕ) → shown GrantAck c (s.block n) ≡ true → ⊥
  not_acknowledging n e =
      let lawless : (o : Option Level) (m : Message w) → o ≡ None → kept.illegal_message_at o m ≡ None → ⊥ =
      elim [ None ↦ λ m h f. absurd cc | Some l ↦ λ m h f. absurd cc ] in
      let served : service_of_block n (services (system_after config log).manager.trace) ≡ service_with (Some c)
      (s.block n).tracker (request n) = cc (matched.managed.serving_is n, acknowledged_to _ c e) in
      let performable = of_served (kept.IsPerformable config) n _ _ served matched.manager_kept.requests in
      lawless (level_of config c) (Message.A (request n)) (no_level config c is) performable.lawful

  nothing_shown : (ch : Channel) (k : Kind) (n : ℕ) → is_on ch k ≡ true → 0 < count k n (packets_on ch (s.link c)) → ⊥
  nothing_shown ch Request n on_it there = absurd (let e = request_named c n matched.invariant
      (shown_there c ch Request n matched.invariant on_it there) in let both : Asked ≡ SourceFree = cc (no_use n) in cc)
  nothing_shown ch Answer n on_it there = absurd (let e = answer_named c n matched.invariant
      (shown_there c ch Answer n matched.invariant on_it there) in let both = sym e ∙ no_use n in cc)
  nothing_shown ch Acquire n on_it there = absurd (let e = acquire_named c n matched.invariant
      (shown_there c ch Acquire n matched.invariant on_it there) in let both = sym e ∙ no_use _ in cc)
  nothing_shown ch Grant n on_it there = absurd (let e = grant_named c n matched.invariant
      (shown_there c ch Grant n matched.invariant on_it there) in let both = sym e ∙ no_use _ in cc)
  nothing_shown ch Release n on_it there = absurd (let e = release_named c n matched.invariant
      (shown_there c ch Release n matched.invariant on_it there) in let both = sym e ∙ no_let _ in cc)
  nothing_shown ch ReleaseAck n on_it there = absurd (let e = release_ack_named c n matched.invariant
      (shown_there c ch ReleaseAck n matched.invariant on_it there) in let both = sym e ∙ no_let _ in cc)
  nothing_shown ch Probe n on_it there = absurd (let it = shown_there c ch Probe n matched.invariant on_it there in
      let none : shown Probe c (s.block n) ≡ false =
      rw (at_rest n) refl in let both : true ≡ false = sym it ∙ none in cc)
  nothing_shown ch ProbeAck n on_it there =
      absurd (let it = shown_there c ch ProbeAck n matched.invariant on_it there in
      let none : shown ProbeAck c (s.block n) ≡ false =
      rw (at_rest n) refl in let both : true ≡ false = sym it ∙ none in cc)
  nothing_shown ch GrantAck n on_it there =
      not_acknowledging n (shown_there c ch GrantAck n matched.invariant on_it there)

  pub no_tokens : (ch : Channel) → packets_on ch (s.link c) ≡ []
  no_tokens ch =
      let go : (xs : List Packet) → ((x : Packet) → IsThere x xs → ⊥) → xs ≡ [] =
      elim [ [] ↦ λ none. refl | x ∷ xs ↦ λ none. absurd (none x (first-there x xs)) ] in
      go (packets_on ch (s.link c))
      (λ x there. nothing_shown ch x.kind x.number (kind_there c ch x matched.invariant there) there)

-- what the receiver of each channel has of the message that comes first there
abbrev pub unfinished_at : {w : ℕ} → System w → ℕ → Channel → List (Beat w)
unfinished_at sys c ch = unfinished ch (receiver ch c sys)

-- The receiver of channel ch of client c's link has the last beat of a message, and the others have what they had.
abbrev pub IsReceived : {w : ℕ} → ℕ → Channel → System w → System w → Type 0
IsReceived c ch sys sys' = (d : ℕ) (at : Channel)
    → unfinished_at sys' d at ≡ (if (d == c) && same_channel at ch then [] else unfinished_at sys d at)

-- ---- a channel loses its first token, the others lose none

-- the token that a pop takes
pub record IsHead (xs ys : List Packet) : Type 0 where
  pub first : Packet
  pub is : xs ≡ first ∷ ys

popped_first : {w : ℕ} (push : Option (Message w)) (move : Move) (render : Kind → ℕ → Message w) (xs ys : List Packet)
    → Fits true push move render → IsMoved move xs ys → IsHead xs ys
popped_first None (Pops k n) render xs ys fits e = record { first = packet k n; is = e }
popped_first push move render xs ys fits e = absurd fits

not_popped : {w : ℕ} (push : Option (Message w)) (move : Move) (render : Kind → ℕ → Message w)
    → Fits false push move render → is_pop move ≡ false
not_popped push move render e = grind arith

pub elsewhere : (c d : ℕ) (ch at : Channel) → (d ≡ c → at ≡ ch → ⊥) → ((d == c) && same_channel at ch) ≡ false
elsewhere c d ch at ne = grind (arith, same_channel-is)

fits_by : {w : ℕ} (a b : Bool) (push : Option (Message w)) (move : Move) (render : Kind → ℕ → Message w) → a ≡ b
    → Fits a push move render → Fits b push move render
fits_by a b push move render e fits = rw (← e) fits

pub popped-received : {w : ℕ} (c : ℕ) (ch : Channel) (pushes : ℕ → Channel → Option (Message w)) (moves : ℕ → Channel
    → Move) (render : ℕ → Kind → ℕ → Message w) (s s' : State (List ℕ)) (sys sys' : System w) → IsReceived c ch sys sys'
    → ((d : ℕ) (at : Channel) → Fits ((d == c) && same_channel at ch) (pushes d at) (moves d at) (render d))
    → ((d : ℕ) → AreMoved (moves d) (s.link d) (s'.link d))
    → IsPopped c ch moves (unfinished_at sys) (unfinished_at sys') s s'
popped-received {w} c ch pushes moves render s s' sys sys' received fits moved =
    let here : ((c == c) && same_channel ch ch) ≡ true = rw (same_number c, same_channel-refl ch) refl in
    let head = popped_first _ _ (render c) _ _ (fits_by ((c == c) && same_channel ch ch) true (pushes c ch) (moves c ch)
    (render c) here (fits c ch)) (moved c ch) in
    record {
      first = head.first;
      tokens = head.is;
      none = received c ch ∙ ap (λ b. if b then [] else unfinished_at sys c ch) here;
      unpopped = λ d at ne. not_popped _ _ (render d) (fits_by ((d == c)
          && same_channel at ch) false (pushes d at) (moves d at) (render d) (elsewhere c d ch at ne) (fits d at));
      rests = λ d at ne. cc (received d at, elsewhere c d ch at ne);
    }

-- ---- who has something open

module _ {w : ℕ} {config : Config} {log : Log w} {mail : AccessMessages w} {request : ℕ → MessageA w}
    {s : State (List ℕ)} (matched : SimulationRelation config log mail request s (system_after config log))
    (width : IsWidth w) where
  pub are-clients : AreClients config s
  are-clients = record {
    clients = λ d i used. user d i (terms_at config d) refl used;
    sources = λ d i used. (matched-bounded config log mail request s (system_after config log) matched d
        (sources-own config log d width)).requests i used;
    letters = λ d i n e. letter d i n (terms_at config d) refl e;
    releases = λ d i n e. (matched-bounded config log mail request s (system_after config log) matched d
        (sources-own config log d width)).releases i n e;
  }
    where
      user : (d i : ℕ) (o : Option EndConfig) → terms_at config d ≡ o → (s.uses d i ≡ SourceFree → ⊥)
          → d < length config.clients.items
      user d i None is used = absurd (used (no_use matched width d is i))
      user d i (Some terms) is used = client_below config d terms is

      letter : (d i n : ℕ) (o : Option EndConfig) → terms_at config d ≡ o → s.lets d i ≡ Some n
          → d < length config.clients.items
      letter d i n o e f = grind (arith, no_let, client_below)

-- ---- what is taken

-- at least its last beat is left of the message that comes first
pub first-left : {w : ℕ} {ch : Channel} {c : ℕ} {mail : AccessMessages w} {s : State (List ℕ)} {sys : System w}
    {x : Beat w} {queue : List (Beat w)} → (first : IsFirst ch c mail s sys x queue)
    → beats_left mail s (unfinished_at sys) c first.kind first.number + first.next.k ≡ beats_of
    (message_of_kind first.kind mail s c first.number)
first-left {w} {ch} {c} {mail} {s} {sys} first =
    let taken : taken_of (unfinished_at sys c (channel_for first.kind))
    (is_front first.kind first.number (packets_on (channel_for first.kind) (s.link c))) ≡ first.next.k =
    rw (
      kind_channel ch first.kind first.own,
      first.tokens,
      same_kind_again first.kind,
      same_number first.number,
      first.next.rest_is,
    ) (length-begun (message_of_kind first.kind mail s c first.number) first.next.k) in
    omega (arith, taken, first.next.within)
