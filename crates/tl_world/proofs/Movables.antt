-- Which delivery is next, by what the parts of a world hold.
use Rattle.std.proofs.Common.{◌≡◌, ◌<◌, ◌≤◌, ◌+◌, zero, suc, ℕ, Bool, true, false, not, List, [], ◌∷◌, Some, None, refl}
use Rattle.std.proofs.Common.{ap, sym, ◌∙◌, inl, inr, length, arith}
use Rattle.std.proofs.lemmas.Bool.{cases_eq, cases_lt}
use Rattle.std.proofs.Math.Bool.{and-false}
use Rattle.std.proofs.lemmas.Option.{slice_get_past}
use Rattle.std.specs.Prelude.{slice_get, slice_index_or}
use Rattle.std.specs.Int.{bit_at}
use Rattle.tl_beat.specs.declared.beat.Beat.{Beat}
use Rattle.tl_beat.specs.declared.beat.Beat.TheVariants as beat
use Rattle.tl_beat.specs.declared.beat.Link.{Link}
use Rattle.tl_beat.specs.declared.channel.Channel.{Channel}
use Rattle.tl_burst.specs.statement.Messages.{History}
use Rattle.tl_burst.specs.statement.Part.{is_empty}
use Rattle.tl_params.specs.declared.config.Config.{Config}
use Rattle.tl_params.specs.declared.perm.Perm.{Perm}
use Rattle.tl_client.specs.statement.Endpoint.{EndConfig, Endpoint}
use Rattle.tl_client.specs.statement.Offer as client
use Rattle.tl_manager.specs.code.Bit.{bit_if}
use Rattle.tl_manager.specs.code.Knows.{Knows}
use Rattle.tl_manager.specs.statement.End as manager_end
use Rattle.tl_manager.specs.statement.Offer as manager
use Rattle.tl_manager.proofs.judging.Stalls.{never-stalled}
use Rattle.tl_rules.specs.statement.Conformance.{Trace}
use Rattle.tl_world.specs.code.Carrying.{word_of, Carries}
use Rattle.tl_world.specs.code.Holds.{clients_of, may_wait, Holds}
use Rattle.tl_coherence.specs.statement.Movable.{moves, is_movable, first_movable, movable_on}
use Rattle.tl_coherence.specs.statement.Step.{is_to_client}
use Rattle.tl_coherence.specs.statement.System.{System, terms_at}
use Rattle.tl_world.specs.declared.network.Network.{Network}
use Rattle.tl_world.specs.declared.rings.Rings.{Rings}
use Rattle.tl_coherence.proofs.queues.QuiescentQueues.{empty-still}
use Rattle.tl_world.proofs.Holding.{member, first-is, none-left}

-- ---- of several links

pub first-here : {w : ℕ} (config : Config) (ch : Channel) (from link n : ℕ) (s : System w) → from ≤ link
    → link < from + n
    → ((k : ℕ) → k < link → is_movable config k ch s ≡ false) → is_movable config link ch s ≡ true
    → first_movable config ch from n s ≡ Some (record { 0 = link }, ch)
unfolding first_movable
first-here config ch from link zero s after before none is = absurd (omega (arith, after, before))
first-here config ch from link (suc n) s after before none is =
    elim (cases_eq from link) [
      | inl same ↦ rw (same, is) refl
      | inr differs ↦
          let past : from < link = omega (arith, after, differs) in
          rw (none from past) (first-here config ch (from + 1) link n s (omega (arith, past)) (omega (arith, before))
          none is)
    ]

-- on a link without a client none is movable
pub movable-past : {w : ℕ} (config : Config) (link : ℕ) (ch : Channel) (s : System w) → clients_of config ≤ link
    → is_movable config link ch s ≡ false
unfolding is_movable
movable-past config link ch s past = rw (slice_get_past config.clients.items link past) refl

-- ---- of those whose bit is set

-- a channel whose bit isn't set holds no beat
unset-still : {w : ℕ} (config : Config) (link : ℕ) (ch : Channel) (s : System w)
    → bit_if (not (is_empty (s.channels link ch))) ≡ 0 → is_movable config link ch s ≡ false
unset-still {w} config link ch s unset = go (s.channels link ch) refl unset
  where
    go : (beats : List (Beat w)) → s.channels link ch ≡ beats → bit_if (not (is_empty beats)) ≡ 0
        → is_movable config link ch s ≡ false
    go [] e none = empty-still config s link ch e
    go (x ∷ rest) e none = absurd (omega (arith, none))

pub none-unset : {w : ℕ} (config : Config) (rings : Rings w) (ch : Channel) (s : System w)
    → Carries (clients_of config) rings s
    → (k : ℕ) → bit_at (word_of rings.non_empty ch) k ≡ 0 → is_movable config k ch s ≡ false
none-unset config rings ch s carried k unset = elim (cases_lt k (clients_of config)) [
  | inl below ↦ unset-still config k ch s (sym (carried.non_empty k ch below) ∙ unset)
  | inr past ↦ movable-past config k ch s past
]

-- the lowest of them is the first
pub lowest-first : {w : ℕ} (config : Config) (ch : Channel) (links link : ℕ) (s : System w)
    → ((k : ℕ) → bit_at links k ≡ 0 → is_movable config k ch s ≡ false)
    → ((k : ℕ) → k < link → bit_at links k ≡ 0) → is_movable config link ch s ≡ true
    → Some (record { 0 = link }, ch) ≡ movable_on config ch s
lowest-first config ch links link s others lower is =
    let below : link < clients_of config = elim (cases_lt link (clients_of config)) [
      | inl below ↦ below
      | inr past ↦ absurd (never (sym (movable-past config link ch s past) ∙ is))
    ] in
    sym (first-here config ch 0 link (clients_of config) s (omega arith) (omega (arith, below))
    (λ k lt. others k (lower k lt)) is)
  where
    never : false ≡ true → ⊥
    never e = absurd cc

-- ---- of one

unwaiting : {w : ℕ} (x : Beat w) (t : History w) → may_wait x ≡ false → client.waits x t ≡ false
unwaiting (beat.A x) t never = absurd cc
unwaiting (beat.B x) t never = absurd cc
unwaiting (beat.C x) t never = refl
unwaiting (beat.D x) t never = refl
unwaiting (beat.E x) t never = refl

unserved : {w : ℕ} (config : Config) (link : Link) (x : Beat w) (t : Trace w) → may_wait x ≡ false
    → manager.must_wait config link x t ≡ false
unserved config link (beat.A x) t never = absurd cc
unserved config link (beat.B x) t never = absurd cc
unserved config link (beat.C x) t never = refl
unserved config link (beat.D x) t never = refl
unserved config link (beat.E x) t never = refl

module _ {w : ℕ} {A M : Type 0} (knows : A → Endpoint w → Type 0) (terms : A → EndConfig) (perm_of : M → ℕ → ℕ → Perm)
    (config : Config) (network : Network w A M)
    (s : System w) (h : Holds knows terms perm_of config network s)
    (link : Link) (ch : Channel) where
  module _ (below : link.0 < clients_of config) where
    inside : link.0 < length network.clients.items
    inside = omega (arith, below, h.one_client_each)

    abbrev one : A
    one = member network.clients.items link.0 inside

    pub moves-client : (x : Beat w) (stalled : Bool) → is_to_client ch ≡ true
        → ((e : Endpoint w) (d : A) → link.0 < length network.clients.items
        → knows (slice_index_or network.clients.items link.0 d) e
        → stalled ≡ client.stalls (terms (slice_index_or network.clients.items link.0 d)) ch x e)
        → moves config (terms_at config link.0) link.0 ch (x ∷ []) s ≡ not stalled
    moves-client x stalled up is =
        rw (h.terms_are link.0 one below, up)
        (ap not (sym (is (s.clients link.0) one inside (h.clients link.0 one below))))

    pub moves-manager : (x : Beat w) (stalled : Bool) → is_to_client ch ≡ false
        → ((config : Config) (e : manager_end.End w) → Knows perm_of network.manager config e
        → stalled ≡ manager.stalls config link ch x e)
        → moves config (terms_at config link.0) link.0 ch (x ∷ []) s ≡ not stalled
    moves-manager x stalled down is =
        rw (h.terms_are link.0 one below, down) (ap not (sym (is config s.manager h.manager)))

    -- a beat that nobody stalls
    pub moves-anyway : (x : Beat w) → may_wait x ≡ false
        → moves config (terms_at config link.0) link.0 ch (x ∷ []) s ≡ not false
    unfolding client.stalls
    moves-anyway x never = go (is_to_client ch) refl
      where
        waits_not : (e : Endpoint w) → client.waits x e.past ≡ false
        waits_not e = unwaiting x e.past never

        go : (up : Bool) → is_to_client ch ≡ up → moves config (terms_at config link.0) link.0 ch (x ∷ []) s ≡ not false
        go true up = moves-client x false up (λ e d in_ known. sym (rw (waits_not e) (and-false _)))
        go false down = moves-manager x false down
            (λ config e known. sym (never-stalled config link ch x e (unserved config link x e.trace never)))

    pub first-moves : (x : Beat w) (stalled : Bool) → Some x ≡ slice_get (s.channels link.0 ch) 0
        → moves config (terms_at config link.0) link.0 ch (x ∷ []) s ≡ not stalled
        → not stalled ≡ is_movable config link.0 ch s
    unfolding is_movable
    first-moves x stalled first is =
        let beats = first-is (s.channels link.0 ch) x first in
        rw (h.terms_are link.0 one below, beats) (sym (rw (h.terms_are link.0 one below) at is))

  pub movable-empty : ((n : ℕ) (s : System w) → Carries n network.rings s → link.0 < n
      → None ≡ slice_get (s.channels link.0 ch) 0) → false ≡ is_movable config link.0 ch s
  movable-empty first = elim (cases_lt link.0 (clients_of config)) [
    | inl below ↦ sym (empty-still config s link.0 ch
        (none-left (s.channels link.0 ch) (first (clients_of config) s h.channels below)))
    | inr past ↦ sym (movable-past config link.0 ch s past)
  ]

  pub movable-first : (x : Beat w) (stalled : Bool) → ((n : ℕ) (s : System w) → Carries n network.rings s → link.0 < n
      → Some x ≡ slice_get (s.channels link.0 ch) 0)
      → ((n : ℕ) (s : System w) → Carries n network.rings s → n ≤ link.0 → Some x ≡ None)
      → (link.0 < clients_of config → moves config (terms_at config link.0) link.0 ch (x ∷ []) s ≡ not stalled)
      → not stalled ≡ is_movable config link.0 ch s
  movable-first x stalled there nowhere is = elim (cases_lt link.0 (clients_of config)) [
    | inl below ↦ first-moves below x stalled (there (clients_of config) s h.channels below) (is below)
    | inr past ↦ absurd (some-none (nowhere (clients_of config) s h.channels past))
  ]
    where
      some-none : Some x ≡ None → ⊥
      some-none e = absurd cc
