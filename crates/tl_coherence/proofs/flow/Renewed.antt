-- What excludes an access: who is recorded with no more than its cap leaves it.
-- What the protocol does at an event to the accesses that are answered: each was answered before, or nobody is recorded
-- any more with what excludes it, and it is answered what the block had.
use Rattle.std.proofs.Common.{◌≡◌, ℕ, true, false, not, ◌&&◌, ◌==◌, List, ◌∷◌, Option, Some, None, refl, sym, ◌∙◌, ap}
use Rattle.std.proofs.Common.{arith, ◌⊎◌, inl, inr, length}
use Rattle.tl_coherence.proofs
use proofs.Imports.{same_Some, OpA, Message, MessageA, Config, Cap, Report, Perm, cap_right, same_perm, answer_of}
use proofs.Imports.{block_at, is_acquire, leaves, needs, Op, Reply, access, access_answer, cap_probed, Answer, Kind}
use proofs.Imports.{Packet, ProbeAck, set, set_at, Other, is_unprobed, after_report, is_above, Acquires, Asked, Block}
use proofs.Imports.{GrantSent, InService, Replied, SourceFree, SourceState, State, Waits, ended_block, on, packet}
use proofs.Imports.{performed_block, view, written, AbstractState, access_taken, answers, asked, bytes_at, kind_taken}
use proofs.Imports.{last_taken, performs, probes_some, taken_by_client, some_below, report_told, SimulationRelation}
use proofs.Imports.{is_caching, IsFor, Log, perm_le, System}
use proofs.client.ProbeDelivered.{set_at-apart}
use proofs.manager.Accounts.{plain-past}
use proofs.queues.{Codes.low_cap, Tokens.set-same, Tokens.set_at-same}
use proofs.protocol.{Granted.recorded_within, RequestsKept.unprobed, RequestsKept.settled_all, BothParts.first-report}
use proofs.protocol.HeadOfD.{IsReady, ready-access, true-taken}
use proofs.memory.BesideTaken.{intent-reply, memory-reported, memory-unprobed}

some_none : (k : Cap) → Some k ≡ None → ⊥
some_none k e = cc

pub above_le : (k : Cap) (p : Perm) → is_above k p ≡ false → perm_le p (cap_right k) ≡ true
above_le k p e = grind arith

at_most_branch : (p : Perm) → perm_le p (cap_right Cap.ToB) ≡ true → not (same_perm p Perm.Trunk) ≡ true
at_most_branch p e = grind arith

at_most_none : (p : Perm) → perm_le p (cap_right Cap.ToN) ≡ true → same_perm p Perm.None ≡ true
at_most_none p e = grind arith

within : (j k : Cap) (p : Perm) → Some j ≡ Some k → perm_le p (cap_right k) ≡ true → perm_le p (cap_right j) ≡ true
within j k p e f = ap (λ i. perm_le p (cap_right i)) (same_Some j k e) ∙ f

pub leaves_within : (o : OpA) (param : ℕ) (k : Cap) (p : Perm) → is_acquire o ≡ false → cap_probed o param ≡ Some k
    → perm_le p (cap_right k) ≡ true → leaves (needs o) p ≡ true
leaves_within OpA.Get param k p e f g = at_most_branch p (within Cap.ToB k p f g)
leaves_within OpA.Intent param k p e f g = refl
leaves_within OpA.AcquireBlock param k p e f g = absurd cc
leaves_within OpA.AcquirePerm param k p e f g = absurd cc
leaves_within o param k p e f g = at_most_none p (within Cap.ToN k p f g)

pub leaves_all : (o : OpA) (param : ℕ) (p : Perm) → is_acquire o ≡ false → cap_probed o param ≡ None
    → leaves (needs o) p ≡ true
leaves_all o param p e f = grind (arith, some_none)

-- ---- one place of two numbers

placed : (c k d j : ℕ) → ((d ≡ c) × (j ≡ k)) ⊎ ((d ≡ c) × (j ≡ k) → ⊥)
placed c k d j = grind arith

-- ---- accesses that are answered

-- nobody is recorded with what excludes this access
abbrev pub IsSettledFor : {w : ℕ} → MessageA w → State (List ℕ) → Type 0
IsSettledFor m s = (d : ℕ) → leaves (needs m.opcode) ((s.block (block_at m.address)).pair d).recorded ≡ true

-- a source's request and answer are as before
abbrev pub AreSameMessages : {w : ℕ} → AbstractState w → AbstractState w → ℕ → ℕ → Type 0
AreSameMessages h i c source = (i.mail.request c source ≡ h.mail.request c source)
    × (i.mail.answer c source ≡ h.mail.answer c source)

-- Each was answered before, or is answered now: nobody is recorded any more with what excludes it, and it is answered
-- what the block had.
abbrev pub AreRenewed : {w : ℕ} → AbstractState w → AbstractState w → Type 0
AreRenewed {w} h i = (c source : ℕ) → i.state.uses c source ≡ Replied → ((h.state.uses c source ≡ Replied)
    × AreSameMessages h i c source) ⊎ ((m : MessageA w) × (i.mail.request c source ≡ Message.A m)
    × IsSettledFor m i.state × (i.mail.answer c source ≡ answers m (h.state.block (block_at m.address)).truth))

-- each was answered before
abbrev pub AreKept : {w : ℕ} → AbstractState w → AbstractState w → Type 0
AreKept h i = (c source : ℕ) → i.state.uses c source ≡ Replied → (h.state.uses c source ≡ Replied)
    × AreSameMessages h i c source

kept-set : {w : ℕ} (c k : ℕ) (u : SourceState) (h i : AbstractState w) → (u ≡ Replied → ⊥)
    → ((d j : ℕ) → i.state.uses d j ≡ set_at c k u h.state.uses d j)
    → ((d j : ℕ) → ((d ≡ c) × (j ≡ k) → ⊥) → AreSameMessages h i d j) → AreKept h i
kept-set c k u h i never uses mail d j e = grind (arith, placed)

renewed-set : {w : ℕ} (c k : ℕ) (u : SourceState) (h i : AbstractState w) → (u ≡ Replied → ⊥)
    → ((d j : ℕ) → i.state.uses d j ≡ set_at c k u h.state.uses d j)
    → ((d j : ℕ) → ((d ≡ c) × (j ≡ k) → ⊥) → AreSameMessages h i d j) → AreRenewed h i
renewed-set c k u h i never uses mail d j e = inl (kept-set c k u h i never uses mail d j e)

-- an access is answered with what a block has of these bytes, which are those that it had
renewed-reply : {w : ℕ} (c k : ℕ) (m : MessageA w) (bytes : List ℕ) (h i : AbstractState w)
    → ((d j : ℕ) → i.state.uses d j ≡ set_at c k Replied h.state.uses d j)
    → ((d j : ℕ) → i.mail.request d j ≡ h.mail.request d j)
    → ((d j : ℕ) → i.mail.answer d j ≡ set_at c k (answers m bytes) h.mail.answer d j)
    → h.mail.request c k ≡ Message.A m → IsSettledFor m i.state
    → answers m bytes ≡ answers m (h.state.block (block_at m.address)).truth → AreRenewed h i
renewed-reply c k m bytes h i uses requests replies is settled found d j e = elim (placed c k d j) [
  | inl same ↦ inr (
    m,
    rw (same.0, same.1) (requests c k ∙ is),
    settled,
    rw (same.0, same.1) (replies c k ∙ set_at-same c k (answers m bytes) h.mail.answer ∙ found),
  )
  | inr other ↦ inl (
    sym (set_at-apart c k Replied h.state.uses d j other) ∙ sym (uses d j) ∙ e,
    (requests d j, replies d j ∙ set_at-apart c k (answers m bytes) h.mail.answer d j other),
  )
]

-- ---- a client is asked

pub kept-asked : {w : ℕ} (c : ℕ) (o : Op w) (r : Reply) (h : AbstractState w) → AreKept h (asked c o r h)
kept-asked c (Op.Acquire n g) (Reply.Started source) h = kept-set c source (Acquires n) h
    (asked c (Op.Acquire n g) (Reply.Started source) h) (λ e. cc) (λ d j. refl) (λ d j other. (refl, refl))
kept-asked c (Op.AcquireWhole n bytes) (Reply.Started source) h = kept-set c source (Acquires n) h
    (asked c (Op.AcquireWhole n bytes) (Reply.Started source) h) (λ e. cc) (λ d j. refl) (λ d j other. (refl, refl))
kept-asked c (Op.Access (Message.A m)) (Reply.Started source) h =
    kept-set c source Asked h (asked c (Op.Access (Message.A m)) (Reply.Started source) h)
    (λ e. cc) (λ d j. refl) (λ d j other. (set_at-apart c source (access source m) h.mail.request d j other, refl))
kept-asked c (Op.Store address size value) Reply.Stored h = λ d j e. (e, (refl, refl))
kept-asked c (Op.Release n p) (Reply.Started source) h = λ d j e. (e, (refl, refl))
kept-asked c o r h = λ d j e. (e, (refl, refl))

-- ---- messages that are taken

pub renewed-kind_taken : {w : ℕ} {config : Config} {log : Log w} (tracker c : ℕ) (k : Kind) (i : ℕ) (rest : List Packet)
    (h : AbstractState w) {sys : System w}
    → SimulationRelation config log h.mail h.request h.state sys → on k (h.state.link c) ≡ packet k i ∷ rest
    → IsReady tracker c k i h → AreRenewed h (kind_taken config tracker c k i rest h)
renewed-kind_taken {w} {config} tracker c k i rest h is first ready =
    true-taken config tracker c rest h IsFirst (AreRenewed h) k i (record {
      nothing = λ j n known idle d i e. inl (e, (refl, refl));
      access_answered = λ source m o known from caps none. answered source m o from
          (ready-access tracker c source m h known.1 from).0 caps none;
      access_served = λ source m j known from caps some. renewed-set c source (InService (block_at m.address)) h
          (access_taken c source m tracker true (Some j) rest h) (λ e. cc) (λ d n. refl) (λ d n other. (refl, refl));
      acquire_granted = λ n whole g known wants none d i e. inl (e, (refl, refl));
      acquire_served = λ n whole g known wants some d i e. inl (e, (refl, refl));
      probe = λ n known d i e. inl (e, (refl, refl));
      report = λ n known more d i e. inl (e, (refl, refl));
      report_answers = λ n q source j known last waits. reported n q source j known.0 last waits;
      report_grants = λ n q source j whole g known last waits wants d i e. inl (e, (refl, refl));
      release = λ n known d i e. inl (e, (refl, refl));
      answer = λ source known. renewed-set c source SourceFree h (kind_taken config tracker c Answer source rest h)
          (λ e. cc) (λ d j. refl) (λ d j other. (refl, refl));
      grant = λ n q d j known sent. renewed-set c ((h.state.block n).source c) SourceFree h
          (taken_by_client c n (GrantSent q d j) rest h) (λ e. cc) (λ d j. refl) (λ d j other. (refl, refl));
      release_ack = λ n known d i e. inl (e, (refl, refl));
      grant_ack = λ n known d i e. inl (e, (refl, refl));
    }) (first, ready)
  where
    clients : ℕ
    clients = length config.clients.items

    IsFirst : Kind → ℕ → Type 0
    IsFirst j n = (on j (h.state.link c) ≡ packet j n ∷ rest) × IsReady tracker c j n h

    answered : (source : ℕ) (m : MessageA w) (o : Option Cap) → h.mail.request c source ≡ Message.A m
        → is_acquire m.opcode ≡ false → cap_probed m.opcode m.param ≡ o
        → probes_some clients c false o (h.state.block (block_at m.address)).pair ≡ false
        → AreRenewed h (access_taken c source m tracker false None rest h)
    answered source m o from plain caps none = renewed-reply c source m b.memory h
        (access_taken c source m tracker false None rest h) (λ d j. refl) (λ d j. refl) (λ d j. refl) from
        (λ d. ap (λ z. leaves (needs m.opcode) (z.pair d).recorded)
        (set-same n (performed_block (performs m) b) h.state.block) ∙ (found o caps none).0 d) (found o caps none).1
      where
        n : ℕ
        n = block_at m.address

        b : Block (List ℕ)
        b = h.state.block n

        found : (x : Option Cap) → cap_probed m.opcode m.param ≡ x → probes_some clients c false x b.pair ≡ false
            → ((d : ℕ) → leaves (needs m.opcode) (b.pair d).recorded ≡ true) × (answers m b.memory ≡ answers m b.truth)
        found None f e = let fact = ap (λ r. access_answer m (answer_of (Message.A m) r))
            (intent-reply m (bytes_at n b.memory) (bytes_at n b.truth) f) in
            (λ d. leaves_all m.opcode m.param (b.pair d).recorded plain f, fact)
        found (Some j) f e = (
          λ d. leaves_within m.opcode m.param j (b.pair d).recorded plain f (above_le j (b.pair d).recorded
              (unprobed clients (is_caching config) c false j b.pair (plain-past config) (is.invariant.blocks n).outside
              e d refl)),
          ap (answers m) (memory-unprobed clients c j (plain-past config) (is.invariant.blocks n)
              (low_cap m.opcode m.param j f) e),
        )

    reported : (n q source : ℕ) (j : Cap) → (h.state.link c).c ≡ packet ProbeAck n ∷ rest
        → some_below clients (λ d. not (d == c) && not (is_unprobed ((h.state.block n).pair d).probing)) ≡ false
        → (h.state.block n).service ≡ Waits q false source j
        → AreRenewed h (last_taken clients config.profile c n (report_told ((h.state.block n).pair c).probing)
        (Waits q false source j) rest h)
    reported n q source j known last waits = renewed-reply q source m (written r b.truth b.memory) h (last_taken
        clients config.profile c n r (Waits q false source j) rest h) (λ d i. refl) (λ d i. refl) (λ d i. refl)
        (rw waits at (is.served_with n)) settled (ap (answers m) (memory-reported c q source r j (is.invariant.blocks n)
        waits (first-report is.invariant known) quiet ∙ ap (λ i. (h.state.block i).truth) (sym for.2)))
      where
        b : Block (List ℕ)
        b = h.state.block n

        m : MessageA w
        m = h.request n

        r : Report
        r = report_told (b.pair c).probing

        for : IsFor (Waits q false source j) n m
        for = rw waits at (is.served.requests n)

        quiet : (d : ℕ) → (d ≡ c → ⊥) → is_unprobed (b.pair d).probing ≡ true
        quiet = settled_all _ (is_caching config) c b.pair (plain-past config) (is.invariant.blocks n).outside last

        other : (d : ℕ) → view b.service d ≡ Other j
        other d = rw waits refl

        settled : IsSettledFor m (last_taken clients config.profile c n r (Waits q false source j) rest h).state
        settled d = ap (λ i. leaves (needs m.opcode) ((set n (ended_block c r (performs m) b) h.state.block i).pair
            d).recorded) for.2 ∙ ap (λ z. leaves (needs m.opcode) (z.pair d).recorded)
            (set-same n (ended_block c r (performs m) b) h.state.block) ∙ leaves_within m.opcode m.param
            j (set c (after_report r (b.pair c)) b.pair d).recorded for.0 for.3 (recorded_within c r j
            (is.invariant.blocks n) (first-report is.invariant known) quiet (other c) d (other d))
