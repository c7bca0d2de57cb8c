-- A request in service can be performed and answered.
use Rattle.tl_manager.proofs.Imports.{IsWidth, BeatA, Beat, Link, OpA, Message, A, B, C, D, E, MessageA, a_beat_of}
use Rattle.tl_manager.proofs.Imports.{beat_of, begun, beats_of, channel_of, unfinished, Config, Perm, Level, L1, L2, L3}
use Rattle.tl_manager.proofs.Imports.{L4, on_link, a_control, a_own, block_at, is_acquire, illegal, is_aligned}
use Rattle.tl_manager.proofs.Imports.{a_of_level, a_has_param, a_has_size, is_one_of, next_rule, both_none, illegal_a}
use Rattle.tl_manager.proofs.Imports.{IsComplete, Each, IsPerformable, illegal_message_at, Knows, Service, services}
use Rattle.tl_manager.proofs.Imports.{service_of_block, trackers_of, least_untaken, End, level_of, service_with}
use Rattle.tl_manager.proofs.Imports.{IsTracked, tracker_at, ManagerState, Tracker, Free, Probing, Granted}
use Rattle.std.proofs.Common.{◌≡◌, ℕ, zero, suc, ◌+◌, ◌<◌, ◌≤◌, ◌==◌, Bool, true, false, not, ◌||◌, List, [], ◌∷◌}
use Rattle.std.proofs.Common.{length, Option, Some, None, refl, sym, subst, ◌∙◌, arith}
use Rattle.std.specs.Prelude.{slice_get, option_map, nat_le, if◌then◌else◌}
use Rattle.std.proofs.lemmas.Bool.{le-leb, leb-false, leb-true, not-false, and_parts, eqb-true}
use Rattle.std.proofs.lemmas.Option.{slice_get_within}
use Rattle.tl_beat.specs.declared.channel.Channel.{Channel}
use Rattle.tl_params.{specs.declared.config.ClientConfig.ClientConfig, specs.statement.Config.config_fault}
use Rattle.tl_params.{specs.statement.Range.is_from_to, specs.declared.config.NewFault.NewFault}
use Rattle.tl_rules.specs.statement.Legality.{first_illegal, beats_from}
use Rattle.tl_manager.{specs.code.Complete.IsDue, specs.code.BlockState.IsPlaced, specs.code.BlockState.IsPlacedIn}
use Rattle.tl_manager.{specs.code.Knows.IsManager, proofs.pending.Acked.acked-sink, proofs.blocks.Completed.is_served}
use Rattle.tl_manager.{proofs.calls.Events.services-request, proofs.calls.Keeping.are_served}
use Rattle.tl_manager.{proofs.calls.Keeping.taken_beat, proofs.services.Serving.some_is}
use Rattle.tl_manager.{proofs.words_of_clients.Masks.legal-small, proofs.pending.Requested.granting_taken}

access_of : (opcode : OpA) → is_acquire opcode ≡ false → a_of_level Level.UH opcode ≡ true
access_of OpA.AcquireBlock e = absurd cc
access_of OpA.AcquirePerm e = absurd cc
access_of v e = refl

access_size : (w : ℕ) (l : Level) (opcode : OpA) (size : ℕ) → is_acquire opcode ≡ false → size ≤ 6
    → a_has_size w l opcode size ≡ true → a_has_size w Level.UH opcode size ≡ true
access_size w l OpA.ArithmeticData size e small f = f
access_size w l OpA.LogicalData size e small f = f
access_size w l OpA.AcquireBlock size e small f = absurd cc
access_size w l OpA.AcquirePerm size e small f = absurd cc
access_size w l v size e small f = le-leb size 6 small

-- a beat of an access that is legal at some level is legal at the one that has all accesses
beat-uh : {w : ℕ} (l : Level) (x : BeatA w) → IsWidth w → is_acquire x.opcode ≡ false
    → illegal l Channel.A (Beat.A x) ≡ None → illegal Level.UH Channel.A (Beat.A x) ≡ None
beat-uh {w} l x width access e =
    let small = legal-small l x width e in
    let p = both_none (a_control w l x.opcode x.param x.size x.address)
    (a_own w x.opcode x.size x.address x.mask x.corrupt) (sym (illegal_a l x) ∙ e) in
    let one = next_rule (not (a_of_level l x.opcode)) L1 _ p.0 in
    let two = next_rule (not (a_has_param x.opcode x.param)) L2 _ one.1 in
    let three = next_rule (not (a_has_size w l x.opcode x.size)) L3 _ two.1 in
    let four = next_rule (not (is_aligned x.address x.size)) L4 None three.1 in
    illegal_a Level.UH x
    ∙ rw (
      access_of x.opcode access,
      not-false _ two.0,
      access_size w l x.opcode x.size access small
          (not-false _ three.0),
      not-false _ four.0,
    ) p.1

legal-uh : {w : ℕ} (l : Level) (m : MessageA w) (i n : ℕ) → IsWidth w → is_acquire m.opcode ≡ false
    → first_illegal l Channel.A (beats_from (A m) i n) ≡ None
    → first_illegal Level.UH Channel.A (beats_from (A m) i n) ≡ None
unfolding first_illegal beats_from
legal-uh l m i zero width access e = refl
legal-uh {w} l m i (suc n) width access e =
    let p = both_none (illegal l Channel.A (Beat.A (a_beat_of m i)))
    (first_illegal l Channel.A (beats_from (A m) (i + 1) n)) e in
    rw (beat-uh l (a_beat_of m i) width access p.0) (legal-uh l m (i + 1) n width access p.1)

client-within : (config : Config) (client : ℕ) (l : Level) → level_of config client ≡ Some l
    → client < length config.clients.items
client-within config client l e = go (slice_get config.clients.items client) refl e
  where
    go : (o : Option ClientConfig) → slice_get config.clients.items client ≡ o
        → option_map (λ (c : ClientConfig). c.level) o ≡ Some l → client < length config.clients.items
    go None f g = absurd cc
    go (Some c) f g = slice_get_within config.clients.items client c f

pub is-placed : {w : ℕ} (config : Config) (s : Service w) (blocks clients : ℕ) → IsWidth w → IsPerformable config s
    → blocks ≡ config.blocks → length config.clients.items ≤ clients
    → IsPlaced blocks clients s.link s.request
is-placed {w} config s blocks clients width ok same covered = go (level_of config s.link.0) refl ok.lawful
  where
    go : (o : Option Level) → level_of config s.link.0 ≡ o → illegal_message_at o (A s.request) ≡ None
        → IsPlaced blocks clients s.link s.request
    go None f g = absurd cc
    go (Some l) f g = record {
      legal = λ access. legal-uh l s.request 0 _ width access g;
      blank = ok.blank;
      inside = let lt = leb-false config.blocks (block_at s.request.address) ok.inside in omega (arith, lt, same);
      client = let within = client-within config s.link.0 l f in omega (arith, within, covered);
    }

-- ---- the limits of a configuration

at-most : (low high n : ℕ) → is_from_to low high n ≡ true → n ≤ high
at-most low high n e = leb-true n high (and_parts (nat_le low n) (nat_le n high) e).1

within : (b : Bool) (fault : NewFault) (rest : Option NewFault) → (if not b then Some fault else rest) ≡ None
    → (b ≡ true) × (rest ≡ None)
within true fault rest e = (refl, e)
within false fault rest e = absurd cc

pub limits : (config : Config) → config_fault config ≡ None → (length config.clients.items ≤ 16)
    × (config.blocks ≤ 1024) × (config.trackers ≤ 8)
limits config fits =
    let clients = within _ _ _ fits in
    let blocks = within _ _ _ clients.1 in
    let trackers = within _ _ _ blocks.1 in (
      at-most 1 16 (length config.clients.items) clients.0,
      at-most 1 1024 config.blocks blocks.0,
      at-most 1 8
          config.trackers trackers.0,
    )

-- ---- the requests that trackers keep

serving-each : {w : ℕ} (P : Service w → Type 0) (n : ℕ) (ss : List (Service w)) (s : Service w) → Each P ss
    → service_of_block n ss ≡ Some s → P s
serving-each P n [] s each e = absurd cc
serving-each {w} P n (v ∷ ss) s each e = go (block_at v.request.address == n) (λ f. serving-each P n ss s each.1 f) e
  where
    go : (b : Bool) → (service_of_block n ss ≡ Some s → P s) → (if b then Some v else service_of_block n ss) ≡ Some s
        → P s
    go true rest f = subst P (some_is v s f) each.0
    go false rest f = rest f

pub are-placed : {w : ℕ} {M : Type 0} (perm_of : M → ℕ → ℕ → Perm) (state : ManagerState w M) (config : Config)
    (e : End w) (clients n : ℕ) → IsWidth w → Knows perm_of state config e
    → length config.clients.items ≤ clients → IsPlacedIn (length state.block_state.blocks.bytes.items) clients
    (tracker_at state.block_state.trackers n)
are-placed {w} perm_of state config e clients n width k covered =
    go (tracker_at state.block_state.trackers n) (k.block_state.tracked n tt)
  where
    go : (tracker : Tracker w) → IsTracked n tracker e.trace → IsPlacedIn (length state.block_state.blocks.bytes.items)
        clients tracker
    go (Probing link request missing) is =
        is-placed config (service_with n link request) (length state.block_state.blocks.bytes.items) clients width
        (serving-each (IsPerformable config) (block_at request.address) (services e.trace) (service_with n link request)
        k.kept.requests is.serves) k.size
        covered
    go v is = tt

-- ---- what is due for a message

newest : {w : ℕ} (m : Message w) (x : Beat w) (burst : List (Beat w)) (n : ℕ) → x ∷ burst ≡ begun m n
    → (k : ℕ) × (x ≡ beat_of m k)
newest m x burst zero e = absurd cc
newest m x burst (suc k) e = (k, cc)

among-below : (k n : ℕ) (ns : List ℕ) → Each (λ i. i < k) ns → is_one_of n ns ≡ true → n < k
among-below k n [] each e = absurd cc
among-below k n (m ∷ ns) each e = go (n == m) refl (λ f. among-below k n ns each.1 f) e
  where
    go : (b : Bool) → (n == m) ≡ b → (is_one_of n ns ≡ true → n < k) → (b || is_one_of n ns) ≡ true → n < k
    go true f rest g = let same = eqb-true n m f in let lt = each.0 in omega (arith, same, lt)
    go false f rest g = rest g

pub is-due : {w : ℕ} (config : Config) (link : Link) (x : Beat w) (message : Message w) (e : End w) (blocks clients : ℕ)
    → config.trackers ≤ 8 → blocks ≡ config.blocks
    → length config.clients.items ≤ clients → IsComplete config link x message e → IsDue blocks clients link message
is-due {w} config link x message e blocks clients few same covered is =
    let head = newest message x (unfinished (channel_of x) (on_link link.0 e.trace)) (beats_of message) is.burst.0 in
    go message head.0 (subst (λ (y : Beat w). IsComplete config link y message e) head.1 is)
  where
    go : (message : Message w) (k : ℕ) → IsComplete config link (beat_of message k) message e
        → IsDue blocks clients link message
    go (A m) k done =
        let number = least_untaken (trackers_of (services e.trace)) in
        let served = is_served number link (a_beat_of m k) m e.trace done.taken.width done.filled done.last done.burst
        refl in
        let more = services-request link (a_beat_of m k) (service_with number link m) e.trace served in
        let all = (taken_beat config link (Beat.A (a_beat_of m k)) e done.taken.width done.taken.before
        done.taken.passes (are_served config e done.taken.before)).requests in
        is-placed config (service_with number link m) blocks clients done.taken.width (rw more at all).0 same covered
    go (C m) k done = let lt = leb-false config.blocks (block_at m.address) done.taken.passes.sound.inside in
        omega (arith, lt, same)
    go (E m) k done =
        let taken = granting_taken link.0 m.sink (services e.trace)
        (done.taken.before.sinks link.0 m.sink (acked-sink config.profile (record { sink = m.sink })
        (on_link link.0 e.trace) done.taken.passes.order))
        in
        let lt = among-below config.trackers m.sink (trackers_of (services e.trace)) done.taken.before.tracked taken in
        omega (arith, lt, few)
    go v k done = absurd (let no = done.taken.passes.theirs in cc)

-- so all that a message needs is there
pub can-complete : {w : ℕ} {M : Type 0} (perm_of : M → ℕ → ℕ → Perm) (blocks_of clients_of : M → ℕ)
    (state : ManagerState w M) (link : Link) (x : Beat w) (m : Message w)
    → (known : IsManager perm_of blocks_of clients_of state) → link.0 < length state.link_states.items
    → IsComplete known.config link x m known.end
    → (link.0 < 16) × (link.0 < clients_of state.block_state.directory)
    × IsDue (length state.block_state.blocks.bytes.items) (clients_of state.block_state.directory) link m
    × ((n : ℕ) → IsPlacedIn (length state.block_state.blocks.bytes.items) (clients_of state.block_state.directory)
    (tracker_at state.block_state.trackers n))
    × (length state.block_state.blocks.bytes.items ≤ 1024) × (state.block_state.trackers.count ≤ 8)
can-complete perm_of blocks_of clients_of state link x m known inside is =
    let k = known.knows in
    let limit = limits known.config k.fits in
    let clients = known.clients in
    let count = k.count in
    let size = k.size in
    let trackers = k.block_state.count in
    let covered : length known.config.clients.items ≤ clients_of state.block_state.directory =
    omega (arith, clients, count) in (
      (let few = limit.0 in omega (arith, inside, count, few)),
      omega (arith, inside, clients),
      is-due known.config link x m known.end (length state.block_state.blocks.bytes.items)
          (clients_of state.block_state.directory) limit.2 k.size covered is,
      (λ n. are-placed perm_of state known.config known.end (clients_of state.block_state.directory) n known.width k
          covered),
      (let few = limit.1 in omega (arith, size, few)),
      (let few = limit.2 in omega (arith, trackers, few)),
    )
