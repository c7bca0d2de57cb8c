-- A beat of a message that breaks no rule of legality has room in its line.
-- Each beat that is delivered has room in its line, and is within its types.
use Rattle.std.proofs.Common.{◌≡◌, ℕ, ◌*◌, ◌^◌, ◌<◌, ◌≤◌, Bool, true, false, ◌&&◌, ◌==◌, if◌then◌else◌, List, [], ◌∷◌}
use Rattle.std.proofs.Common.{Some, None, refl, sym, ◌∙◌, ap, subst, arith, inl, inr, ◌/◌, eqb-true, ne_eqb, pow_pos}
use Rattle.std.proofs.Common.{All, is_some}
use Rattle.std.proofs.lemmas.{Bool.both_ways, List.Elements.All-nil}
use Rattle.tl_coherence.proofs
use proofs.Imports.{and_parts, cases_lt, not-false, All-cons, All-head, mod_below, Beat, B, C, Channel, OpA, OpC, OpD}
use proofs.Imports.{IsInRange, IsWritable, IsWidth, Message, beat_of, channel_of, Config, Level, cap_of, next_rule}
use proofs.Imports.{is_outside, a_has_param, a_has_size, illegal, EndConfig, limits, Event, Ask, Deliver, AreLanes}
use proofs.Imports.{SimulationRelation, is_caching, is_moving, flow, Log, system_after, is_to_client, stepped, terms_at}
use Rattle.tl_coherence.{specs.declared.event.Outcome.Outcome, specs.statement.Headline.AreTyped}
use Rattle.tl_coherence.{specs.statement.Headline.IsGiven, specs.statement.Log.IsLog, specs.statement.Ranged.AreRanged}
use Rattle.tl_beat.specs.declared.beat.Beat.TheVariants.{A, D, E}
use Rattle.tl_rules.specs.statement.Legality.{breaks_l2, breaks_l3, c_has_param, c_has_source, d_has_param, d_has_sink}
use Rattle.tl_rules.proofs.Sizes.{response-small}
use Rattle.tl_manager.proofs.words_of_clients.Masks.{request_small}
use proofs.simulation.{Bounded.matched-bounded, BeatsInFlight.level-terms, Owned.sources-own}
use proofs.memory.OneMemory.{remembered-ranged}
use proofs.client.ClientEnd.{sound-beat}
use proofs.links.FromInvariant.{flow_still, matched-given}
use proofs.queues.FirstToken.{IsFirst, first-token}
use proofs.flow.{FlowLawful.lawful-beat, Flows.asked-still, Flows.moved-on}
use proofs.deliveries.Matching.{shadow}
use proofs.outstanding.Outstanding.{first-moved}
use proofs.lines.Ranges.{few-sources, first-ranged, ranged-beat}

-- ---- params

apart : (n k : ℕ) → k < n → (n == k) ≡ false
apart n k less = ne_eqb n k (λ e. absurd (omega (arith, e, less)))

cap-large : (n : ℕ) → 4 ≤ n → is_some (cap_of n) ≡ false
cap-large n large = rw (apart n 0 (omega arith), apart n 1 (omega arith), apart n 2 (omega arith)) refl

a-large : (opcode : OpA) (n : ℕ) → 8 ≤ n → a_has_param opcode n ≡ false
a-large opcode n e = grind arith

c-large : (opcode : OpC) (n : ℕ) → 8 ≤ n → c_has_param opcode n ≡ false
c-large opcode n e = grind arith

d-large : (opcode : OpD) (n : ℕ) → 4 ≤ n → d_has_param opcode n ≡ false
d-large opcode n e = grind (arith, cap-large, apart)

-- a number that passes a test which those from a limit on don't pass
below : (n limit : ℕ) (b : Bool) → (limit ≤ n → b ≡ false) → b ≡ true → n < limit
below n limit b large e = elim (cases_lt n limit) [ inl less ↦ less | inr more ↦ absurd (both_ways b (large more) e) ]

-- ---- beats

-- a mask has no bit past the lanes of a beat
abbrev IsNarrow : {w : ℕ} → Beat w → Type 0
IsNarrow {w} (A x) = x.mask < 2 ^ w
IsNarrow {w} (B x) = x.mask < 2 ^ w
IsNarrow _ = Unit {0}

narrow : {w : ℕ} (m : Message w) (k : ℕ) → IsNarrow (beat_of m k)
narrow {w} (Message.A m) k = mod_below (m.mask / 2 ^ (w * k)) (2 ^ w) (pow_pos w)
narrow {w} (Message.B m) k = mod_below (m.mask / 2 ^ (w * k)) (2 ^ w) (pow_pos w)
narrow (Message.C m) k = tt
narrow (Message.D m) k = tt
narrow (Message.E m) k = tt

-- the rules of params and sizes, which a legal beat keeps
record Keeps {w : ℕ} (l : Level) (x : Beat w) : Type 0 where
  two : breaks_l2 x ≡ false
  three : breaks_l3 l x ≡ false

keeps : {w : ℕ} (l : Level) (ch : Channel) (x : Beat w) → illegal l ch x ≡ None → Keeps l x
unfolding illegal
keeps l ch x e = grind (arith, next_rule)

roomy : {w : ℕ} (l : Level) (ch : Channel) (x : Beat w) → IsWidth w → IsNarrow x → illegal l ch x ≡ None → IsWritable x
roomy {w} l ch (A x) width mask e =
    let k = keeps l ch (A x) e in
    let param : x.param < 8 = below x.param 8 (a_has_param x.opcode x.param) (a-large x.opcode x.param)
    (not-false (a_has_param x.opcode x.param) k.two) in
    let size = request_small w x.size l x.opcode width (not-false (a_has_size w l x.opcode x.size) k.three) in
    (param, omega arith, mask)
roomy {w} l ch (B x) width mask e =
    let k = keeps l ch (B x) e in
    let both = and_parts (is_some (cap_of x.param)) (x.source == 0)
    (not-false (is_some (cap_of x.param) && (x.source == 0)) k.two) in
    let param : x.param < 4 = below x.param 4 (is_some (cap_of x.param)) (cap-large x.param) both.0 in
    (omega arith, omega (arith, eqb-true x.size 6 (not-false (x.size == 6) k.three)), mask)
roomy {w} l ch (C x) width mask e =
    let k = keeps l ch (C x) e in
    let both = and_parts (c_has_param x.opcode x.param) (c_has_source x.opcode x.source)
    (not-false (c_has_param x.opcode x.param && c_has_source x.opcode x.source) k.two) in
    let is : x.size ≡ 6 = eqb-true x.size 6 (not-false (x.size == 6) k.three) in
    (below x.param 8 (c_has_param x.opcode x.param) (c-large x.opcode x.param) both.0, omega (arith, is))
roomy {w} l ch (D x) width mask e =
    let both = and_parts (d_has_param x.opcode x.param) (d_has_sink x.opcode x.sink)
    (not-false (d_has_param x.opcode x.param && d_has_sink x.opcode x.sink) (keeps l ch (D x) e).two) in
    let size = response-small l ch x width e in
    (below x.param 4 (d_has_param x.opcode x.param) (d-large x.opcode x.param) both.0, omega (arith, size))
roomy l ch (E x) width mask e = tt

pub legal-writable : {w : ℕ} (l : Level) (ch : Channel) (m : Message w) (k : ℕ) → IsWidth w
    → illegal l ch (beat_of m k) ≡ None → IsWritable (beat_of m k)
legal-writable l ch m k width e = roomy l ch _ width (narrow m k) e

-- ---- the first beat of a channel

module _ {w : ℕ} {config : Config} {log : Log w} (given : IsGiven config log) (c : ℕ) (terms : EndConfig)
    (known : terms_at config c ≡ Some terms) (ch : Channel) (x : Beat w) (queue : List (Beat w))
    (beats : (system_after config log).channels c ch ≡ x ∷ queue) where
  is : SimulationRelation config log (shadow config log).mail (shadow config log).request (shadow config log).state
      (system_after config log)
  is = matched-given _ log given

  first : IsFirst ch c (shadow config log).mail (shadow config log).state (system_after config log) x queue
  first = first-token (is_caching config) ch c _ _ _ x queue given.width is.invariant is.carried beats

  first-writable : IsWritable x
  first-writable =
      let lawful = lawful-beat c ch _ x queue is beats (level-terms config c terms known).0 in
      subst IsWritable (sym first.next.beat_is) (legal-writable terms.level (channel_of x) _ first.next.k given.width
      (ap (λ y. illegal terms.level (channel_of x) y) (sym first.next.beat_is) ∙ lawful))

  first-in_range : AreRanged log → IsInRange x
  first-in_range ranged =
      let few = limits config given.fits in
      let lanes : AreLanes x = All-head AreLanes x queue (rw beats at (is.typed c ch)) in
      let bounds = matched-bounded config log (shadow config log).mail (shadow config log).request
      (shadow config log).state (system_after config log) is c (sources-own config log c given.width) in
      subst IsInRange (sym first.next.beat_is) (ranged-beat config.blocks _ first.next.k few.1
      (ap (λ y. is_outside config.blocks y) (sym first.next.beat_is) ∙ (sound-beat c ch x queue is beats).inside)
      (subst AreLanes first.next.beat_is lanes) (first-ranged is (remembered-ranged config log ranged) bounds
      (few-sources config c given.fits) few.2 ch first.kind first.number first.rest first.own first.tokens))

-- ---- all that is delivered

-- what holds of the first beat of each channel, where a log is of this kind, holds of all that is delivered
module _ {w : ℕ} (config : Config) (P : Beat w → Type 0) (Q : Log w → Type 0)
    (earlier : (x : Event w × Outcome w) (log : Log w) → Q (x ∷ log) → Q log)
    (front : (log : Log w) → IsGiven config log → Q log → (c : ℕ) (terms : EndConfig) → terms_at config c ≡ Some terms
    → (ch : Channel) (x : Beat w) (queue : List (Beat w)) → (system_after config log).channels c ch ≡ x ∷ queue → P x)
  where
    with-beat : (d : ℕ) (log : Log w) (x : Beat w) (b : Bool) → P x → All P (flow d log)
        → All P (if b then x ∷ flow d log else flow d log)
    with-beat d log x true here rest = All-cons P x (flow d log) here rest
    with-beat d log x false here rest = rest

    next : {log : Log w} (event : Event w) (d : ℕ) → IsGiven config log → Q log → All P (flow d log)
        → All P (flow d ((event, (stepped config event (system_after config log)).outcome) ∷ log))
    next {log} (Ask c o) d given q rest = subst (All P) (sym (flow_still (Ask c o)
        (stepped config (Ask c o) (system_after config log)).outcome log d (asked-still config log c o))) rest
    next {log} (Deliver link ch) d given q rest =
        go (is_moving (stepped config (Deliver link ch) (system_after config log)).outcome) refl
      where
        go : (b : Bool) → is_moving (stepped config (Deliver link ch) (system_after config log)).outcome ≡ b
            → All P (flow d ((Deliver link ch, (stepped config (Deliver link ch) (system_after config log)).outcome)
            ∷ log))
        go true moving =
            let at = first-moved config link ch (system_after config log) moving in
            let moved = moved-on link ch (shadow config log) at.0 at.1 at.2 given.width
            (matched-given config log given) at.3.0 at.3.1 moving (is_to_client ch) refl in
            subst (All P) (sym (moved.delivered d))
            (with-beat d log at.0 (link.0 == d) (front log given q link.0 at.2 at.3.1 ch at.0 at.1 at.3.0) rest)
        go false still = subst (All P) (sym (flow_still (Deliver link ch)
            (stepped config (Deliver link ch) (system_after config log)).outcome log d still)) rest

    all-delivered : (log : Log w) → IsGiven config log → Q log → (d : ℕ) → All P (flow d log)
    unfolding AreTyped IsLog flow
    all-delivered [] given q d = All-nil P
    all-delivered (x ∷ log) given q d =
        let before : IsGiven config log =
        record { width = given.width; fits = given.fits; typed = given.typed.1; is_log = given.is_log.1 } in
        subst (λ o. All P (flow d ((x.0, o) ∷ log))) (sym given.is_log.0)
        (next x.0 d before (earlier x log q) (all-delivered log before (earlier x log q) d))

pub have-room : {w : ℕ} (config : Config) (log : Log w) → IsGiven config log → (link : ℕ)
    → All IsWritable (flow link log)
have-room config log given link = all-delivered _ IsWritable (λ l. Unit {0}) (λ x l q. tt)
    (λ l g q c terms known ch x queue beats. first-writable g c terms known ch x queue beats) log given tt link

pub are-in_range : {w : ℕ} (config : Config) (log : Log w) → IsGiven config log → AreRanged log → (link : ℕ)
    → All IsInRange (flow link log)
unfolding AreRanged
are-in_range config log given ranged link = all-delivered _ IsInRange AreRanged (λ x l q. q.1)
    (λ l g q c terms known ch x queue beats. first-in_range g c terms known ch x queue beats q) log given ranged link
