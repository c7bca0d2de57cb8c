-- What is owed falls as a beat is taken that isn't the last of its message.
-- What is owed in a world: its bound, and how it falls with a beat that isn't the last of its message.
use Rattle.std.proofs.Common.{◌≡◌, ℕ, ◌+◌, ◌*◌, ◌<◌, ◌≤◌, Bool, true, false, ◌==◌, if◌then◌else◌, List, ◌∷◌, Option}
use Rattle.std.proofs.Common.{refl, sym, ◌∙◌, arith, ◌⊎◌, length, ◌/◌}
use Rattle.tl_coherence.proofs
use proofs.Imports.{cases_eq, Beat, Channel, IsWidth, MessageA, beats_of, completes, Config, Left, acquire_weight}
use proofs.Imports.{let_weight, letting_weight, open_releases, open_requests, pair_weight, probes_weight}
use proofs.Imports.{probing_weight, rank, IsInvariant, is_asked, is_replied, Acquire, Answer, Grant, Kind, ProbeAck}
use proofs.Imports.{Release, Request, ClientBlock, Granting, Own, ReleasePhase, ReleaseSent, View, Acquires, Asked}
use proofs.Imports.{InService, Replied, SourceFree, State, Waits, packet, packets_on, view, is_granting, is_releasing}
use proofs.Imports.{is_unserved, is_wanting, shown, channel_for, AccessMessages, message_of_kind, SimulationRelation}
use proofs.Imports.{is_caching, Log, system_after, System}
use proofs.queues.{Tokens.same_number, Phases.and_right, Channels.same_kind_again, Moves.kind_channel}
use proofs.queues.FirstToken.{first-token, IsFirst, first-there}
use proofs.protocol.{Room.is_light, Room.light-one, BothParts.not-answered}
use proofs.protocol.BeatsRemaining.{beats_left, taken_of, is_front, same_channels}
use proofs.protocol.Capacities.{shown_there, shows_it, request_named, answer_named, acquire_named, grant_named}
use proofs.protocol.Capacities.{release_named}
use proofs.simulation.Owned.{unfinished_at, are-clients, first-left}
use proofs.rank.RankParts.{IsAsking, asking, IsWaited, waited-probing, open_use}
use proofs.rank.RankDecreases.{IsNoMore, owed_use, owed_use', use-falls, let-falls, use-no-more, probes-no-more}
use proofs.rank.RankDecreases.{acquire-no-more, total-falls}
use proofs.rank.Weights.{IsLeft, potential-few}
use proofs.rank.Frames.{unserved-weight, AreClients, answer_to, is-left, wide-block}

-- The receiver of channel ch of client c's link has one beat more, and the others have what they had.
pub record IsBegun {w : ℕ} (c : ℕ) (ch : Channel) (x : Beat w) (rest rest' : ℕ → Channel → List (Beat w)) : Type 0 where
  pub here : rest' c ch ≡ x ∷ rest c ch
  pub others : (d : ℕ) (at : Channel) → (d ≡ c → at ≡ ch → ⊥) → rest' d at ≡ rest d at

-- ---- where of no message more is left, nothing more is owed

module _ {X : Type 0} (config : Config) (size : ℕ) (left left' : Left) (answer : ℕ → ℕ → ℕ) (s : State X)
    (le : (c : ℕ) (k : Kind) (m : ℕ) → left' c k m ≤ left c k m) where
  abbrev number : ℕ
  number = length config.clients.items

  probing_less : (l l' : ℕ) (p : ClientBlock) → l' ≤ l → probing_weight size l' p.recorded p.probing ≤ probing_weight
      size l p.recorded p.probing
  probing_less l l' p less = grind arith

  pair_less : (m d : ℕ) → pair_weight size left' m d ((s.block m).pair d) ≤ pair_weight size left m d
      ((s.block m).pair d)
  pair_less m d = probing_less _ _ ((s.block m).pair d) (le d ProbeAck m)

  probes_less : (m : ℕ) → probes_weight number size left' m (s.block m) ≤ probes_weight number size left m (s.block m)
  probes_less m = probes-no-more config size left left' answer answer s s m (λ d lt. pair_less m d)

  letting_less : (l l' : ℕ) (x : ReleasePhase) → l' ≤ l → letting_weight l' x ≤ letting_weight l x
  letting_less l l' x e = grind arith

  pub none-more : IsNoMore config size left left' answer answer s s
  none-more = record {
    uses = λ c i. use-no-more config size left left' answer answer s s c i (s.uses c i) refl refl (omega arith) (λ u.
        le c Request i) (λ u. le c Answer i) (λ m u. probes_less m) (λ m u. acquire-no-more size (left c Acquire m)
        (left' c Acquire m) _ _ _ _ (view (s.block m).service c) (λ v. le c Acquire m) (le c Grant m) (probes_less m));
    lets = λ c i. lets_less c (s.lets c i);
    acks = λ c. omega arith;
  }
    where
      lets_less : (c : ℕ) (o : Option ℕ) → let_weight left' s c o ≤ let_weight left s c o
      lets_less c o = grind (arith, letting_less, left)

  -- ---- and where less is left of one message, less is owed

  module _ {caching : ℕ → Bool} (inv : IsInvariant caching s) (all : AreClients config s) (c : ℕ) (lt : c < number)
    where
      abbrev Falls : Type 0
      Falls = rank config size left' answer s + 1 ≤ rank config size left answer s

      use_owes : (d i : ℕ) → (s.uses d i ≡ SourceFree → ⊥) → owed_use' config size left left' answer answer s s d
          i + 1 ≤ owed_use config size left left' answer answer s s d i → Falls
      use_owes d i used less = use-falls config size left left' answer answer s s d i (all.clients d i used)
          (all.sources d i used) none-more less

      request_less : (i : ℕ) → left' c Request i + 1 ≤ left c Request i → is_asked (s.uses c i) ≡ true → Falls
      request_less i less e =
          let used = request_named c i inv e in
          use_owes c i (λ closed. absurd (let both : Asked ≡ SourceFree = sym used ∙ closed in cc))
          (rw used (omega (arith, less)))

      answer_less : (i : ℕ) → left' c Answer i + 1 ≤ left c Answer i → is_replied (s.uses c i) ≡ true → Falls
      answer_less i less e =
          let used = answer_named c i inv e in
          use_owes c i (λ closed. absurd (let both : Replied ≡ SourceFree = sym used ∙ closed in cc)) (rw used less)

      acquire_owes : (m : ℕ) → s.uses c ((s.block m).source c) ≡ Acquires m
          → acquire_weight size (left' c Acquire m) (left' c Grant m) (probes_weight number size left' m (s.block m))
          (view (s.block m).service c) + 1 ≤ acquire_weight size (left c Acquire m) (left c Grant m)
          (probes_weight number size left m (s.block m)) (view (s.block m).service c) → Falls
      acquire_owes m used less = grind (arith, use_owes)

      acquire_less : (m : ℕ) → left' c Acquire m + 1 ≤ left c Acquire m → shown Acquire c (s.block m) ≡ true → Falls
      acquire_less m less e =
          let waits = and_right (is_wanting ((s.block m).pair c).acquiring) (is_unserved (view (s.block m).service c)) e
          in
          acquire_owes m (acquire_named c m inv e)
          (rw (
            unserved-weight size (left' c Acquire m) (left' c Grant m) (probes_weight number size left' m (s.block m))
                (view (s.block m).service c) waits,
            unserved-weight size (left c Acquire m) (left c Grant m) (probes_weight number size left m (s.block m))
                (view (s.block m).service c) waits,
          ) (omega (arith, less)))

      grant_less : (m : ℕ) → left' c Grant m + 1 ≤ left c Grant m → shown Grant c (s.block m) ≡ true → Falls
      grant_less m less e =
          let go : (v : View) → is_granting v ≡ true → acquire_weight size (left' c Acquire m) (left' c Grant m)
          (probes_weight number size left' m (s.block m)) v + 1 ≤ acquire_weight size (left c Acquire m)
          (left c Grant m) (probes_weight number size left m (s.block m)) v =
          elim [ Granting d k ↦ λ f. omega (arith, less) | v ↦ λ f. absurd cc ] in
          acquire_owes m (grant_named c m inv e) (go (view (s.block m).service c) e)

      release_less : (m : ℕ) → left' c Release m + 1 ≤ left c Release m → shown Release c (s.block m) ≡ true → Falls
      release_less m less e =
          let go : (x : ReleasePhase) → is_releasing x ≡ true → letting_weight (left' c Release m) x + 1
          ≤ letting_weight (left c Release m) x =
          elim [ ReleaseSent r ↦ λ f. omega (arith, less) | x ↦ λ f. absurd cc ] in
          let named = release_named c m inv e in
          let source = (s.block m).release_source c in
          let-falls config size left left' answer answer s s c source (all.letters c source m named)
          (all.releases c source m named) none-more (rw named (go ((s.block m).pair c).letting e))

      report_less : (m : ℕ) → left' c ProbeAck m + 1 ≤ left c ProbeAck m → shown ProbeAck c (s.block m) ≡ true → Falls
      report_less m less e = falls who.own who.is asker.used
        where
          who : IsWaited (s.block m).service
          who = waited-probing c m inv (not-answered ((s.block m).pair c).probing e)

          asker : IsAsking m who.client who.own who.source s
          asker = asking m who.client who.own who.source who.cap inv who.is

          here : pair_weight size left' m c ((s.block m).pair c) + 1 ≤ pair_weight size left m c ((s.block m).pair c)
          here = grind (arith, less)

          probes : probes_weight number size left' m (s.block m) + 1 ≤ probes_weight number size left m (s.block m)
          probes = total-falls number c 1 (λ d. pair_weight size left m d ((s.block m).pair d))
              (λ d. pair_weight size left' m d ((s.block m).pair d)) lt (λ d h. pair_less m d) here

          falls : (own : Bool) → (s.block m).service ≡ Waits who.client own who.source who.cap
              → s.uses who.client asker.at ≡ (if own then Acquires m else InService m) → Falls
          falls true waits used =
              let viewed : view (s.block m).service who.client ≡ Own = rw (waits, same_number who.client) refl in
              use_owes who.client asker.at (open_use true m _ used) (rw (used, viewed) (omega (arith, probes)))
          falls false waits used = use_owes who.client asker.at (open_use false m _ used)
              (rw used (omega (arith, probes)))

      -- whichever message it is, of those that have more than one beat
      message-less : (k : Kind) (m : ℕ) → shows_it s c k m ≡ true → left' c k m + 1 ≤ left c k m
          → is_light k ≡ false → Falls
      message-less Request m e less heavy = request_less m less e
      message-less Answer m e less heavy = answer_less m less e
      message-less Acquire m e less heavy = acquire_less m less e
      message-less Grant m e less heavy = grant_less m less e
      message-less Release m e less heavy = release_less m less e
      message-less ProbeAck m e less heavy = report_less m less e
      message-less k m e less heavy = absurd cc

-- ---- a beat that isn't the last of its message

taken_more : {w : ℕ} (b : Bool) (rest rest' : List (Beat w)) → length rest ≤ length rest'
    → taken_of rest b ≤ taken_of rest' b
taken_more b rest rest' e = grind arith

pub beat-falls : {w : ℕ} {config : Config} {caching : ℕ → Bool} {ch : Channel} {c : ℕ} {mail : AccessMessages w}
    {s : State (List ℕ)} {sys : System w} (sys' : System w) {x : Beat w} {queue : List (Beat w)} (size : ℕ) (answer : ℕ
    → ℕ → ℕ) → (first : IsFirst ch c mail s sys x queue)
    → first.next.k + 1 < beats_of (message_of_kind first.kind mail s c first.number)
    → IsBegun c ch x (unfinished_at sys) (unfinished_at sys') → IsInvariant caching s → AreClients config s
    → c < length config.clients.items → rank config size (beats_left mail s (unfinished_at sys')) answer s + 1
    ≤ rank config size (beats_left mail s (unfinished_at sys)) answer s
beat-falls {w} {config} {caching} {ch} {c} {mail} {s} {sys} sys' {x} {queue} size answer first more begun inv all lt =
    let shown_it : shows_it s c first.kind first.number ≡ true = shown_there c ch _ first.number inv
    first.own (rw first.tokens (first-there (packet first.kind first.number) first.rest)) in
    message-less config size (beats_left mail s (unfinished_at sys)) (beats_left mail s (unfinished_at sys')) answer s
    less inv all c lt first.kind first.number shown_it one_less (heavy (is_light first.kind) refl)
  where
    longer : (d : ℕ) (at : Channel) → (d ≡ c) ⊎ (d ≡ c → ⊥) → (at ≡ ch) ⊎ (at ≡ ch → ⊥)
        → length (unfinished_at sys d at) ≤ length (unfinished_at sys' d at)
    longer d at e f = grind arith

    less : (d : ℕ) (k : Kind) (m : ℕ) → beats_left mail s (unfinished_at sys') d k m ≤ beats_left mail s
        (unfinished_at sys) d k m
    less d k m =
        let more = taken_more (is_front k m (packets_on (channel_for k) (s.link d))) _ _
        (longer d (channel_for k) (cases_eq d c) (same_channels (channel_for k) ch)) in
        omega (arith, more)

    heavy : (b : Bool) → is_light first.kind ≡ b → b ≡ false
    heavy false e = refl
    heavy true e = absurd (let one = light-one mail s c _ first.number e in omega (arith, one, more))

    front : is_front first.kind first.number (packets_on (channel_for first.kind) (s.link c)) ≡ true
    front = rw (
      kind_channel ch first.kind first.own,
      first.tokens,
      same_kind_again first.kind,
      same_number first.number,
    ) refl

    -- of the first message one beat more was taken
    taken : (b : Bool) → b ≡ true → taken_of (unfinished_at sys' c (channel_for first.kind)) b ≡ taken_of
        (unfinished_at sys c (channel_for first.kind)) b + 1
    taken b e = grind (arith, kind_channel, ch)

    one_less : beats_left mail s (unfinished_at sys') c first.kind first.number + 1 ≤ beats_left mail s
        (unfinished_at sys) c first.kind first.number
    one_less =
        let t = taken (is_front first.kind first.number (packets_on (channel_for first.kind) (s.link c))) front in
        omega (arith, first-left first, t, more)

abbrev pub owed : {w : ℕ} → Config → AccessMessages w → State (List ℕ) → System w → ℕ
owed {w} config mail s sys = rank config (64 / w) (beats_left mail s (unfinished_at sys)) (answer_to mail) s

pub narrow-block : (w : ℕ) → IsWidth w → 64 / w ≤ 16
narrow-block w e = grind arith

left-matched : {w : ℕ} {config : Config} {log : Log w} {mail : AccessMessages w} {request : ℕ → MessageA w}
    {s : State (List ℕ)} {sys : System w} → IsWidth w → SimulationRelation config log mail request s sys
    → IsLeft (64 / w) (beats_left mail s (unfinished_at sys)) (answer_to mail) s
left-matched {config} {mail} {sys} width matched = is-left config mail (unfinished_at sys)
    width matched.invariant matched.sourced

-- what is owed is at most a block's beats and 33 for each open request, a block's beats and one for each open Release
pub owed-few : {w : ℕ} {config : Config} {log : Log w} {mail : AccessMessages w} {request : ℕ → MessageA w}
    {s : State (List ℕ)} {sys : System w} → IsWidth w
    → SimulationRelation config log mail request s sys → length config.clients.items ≤ 16
    → owed config mail s sys ≤ (64 / w + 33) * open_requests config s + (64 / w + 1) * open_releases config s
owed-few {w} {config} {log} {mail} {request} {s} {sys} width matched sixteen = potential-few matched.invariant (64 / w)
    (beats_left mail s (unfinished_at sys)) (answer_to mail) (left-matched width matched) (let wide =
    wide-block w width in omega (arith, wide)) (narrow-block w width) (length config.clients.items) sixteen config refl

not_last : (b : Bool) (k n : ℕ) → b ≡ (k + 1 == n) → b ≡ false → k < n → k + 1 < n
not_last b k n e f lt = grind (arith, same_number)

-- a beat that isn't the last of its message is taken
pub owed-begun : {w : ℕ} {config : Config} {log : Log w} {mail : AccessMessages w} {request : ℕ → MessageA w}
    {s : State (List ℕ)} (sys' : System w) {ch : Channel} {c : ℕ} {x : Beat w} (queue : List (Beat w)) → IsWidth w
    → SimulationRelation config log mail request s (system_after config log) → c < length config.clients.items
    → (system_after config log).channels c ch ≡ x ∷ queue → completes x (unfinished_at (system_after config log) c ch)
    ≡ false → IsBegun c ch x (unfinished_at (system_after config log)) (unfinished_at sys')
    → owed config mail s sys' + 1 ≤ owed config mail s (system_after config log)
owed-begun {w} {config} {log} {mail} {s} sys' {ch} {c} {x} queue width matched lt beats part begun =
    let first = first-token (is_caching config) ch c mail s (system_after config log) x queue width matched.invariant
    matched.carried beats in
    beat-falls sys' (64 / w) (answer_to mail) first
    (not_last (completes x (unfinished_at (system_after config log) c ch)) first.next.k
    (beats_of (message_of_kind first.kind mail s c first.number)) first.next.completes_is part first.next.within) begun
    matched.invariant (are-clients matched width) lt
