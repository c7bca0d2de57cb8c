-- The beat that comes first on a channel belongs to the message of the first token there.
-- Tokens with names of their own: where each name below a bound is of one token at most, there are no more tokens.
-- What a token stands for that is there before and after an event: the same message.
-- What every client's calls keep holds of every client's end, whatever has happened.
use Rattle.std.proofs.Common.{◌≡◌, ℕ, ◌+◌, ◌<◌, ◌≤◌, Bool, true, false, not, ◌&&◌, ◌||◌, ◌==◌, if◌then◌else◌, List, []}
use Rattle.std.proofs.Common.{◌∷◌, Option, Some, None, Result, Ok, Err, refl, sym, ◌∙◌, ap, arith, ◌⊎◌, inl, inr}
use Rattle.std.proofs.Common.{length, eqb-true, map}
use Rattle.tl_coherence.proofs
use proofs.Imports.{and_parts, cases_eq, not-true, or_parts, same_Some, ⊤, Beat, Channel, OpB, IsWidth, beats-positive}
use proofs.Imports.{Message, unfinished, Config, Prune, Report, Perm, Rule, prune_left, report_left, same_perm, Op}
use proofs.Imports.{Verdict, EndConfig, Endpoint, offered, probe_ack, release, one_if, total, Event, Ask, Deliver}
use proofs.Imports.{IsInvariant, IsWell, is_asked, is_replied, Acquire, Answer, Grant, GrantAck, Kind, Packet, Probe}
use proofs.Imports.{ProbeAck, Release, ReleaseAck, Request, is, set, count, ClientBlock, GrantedOther, Granting, View}
use proofs.Imports.{ok, Block, GrantSent, Service, State, is_on, packet, packets_on, view, is_granting, shown}
use proofs.Imports.{IsCarried, ChannelRelation, AreMoved, Move, AccessMessages, grant_of, message_of, message_of_kind}
use proofs.Imports.{prune_told, report_told, block_message, receiver, Log, system_after, client_of, delivered}
use proofs.Imports.{handed_by, judged, manager_took, stepped_at, stepped, System, terms_at, with_channel, with_client}
use proofs.Imports.{with_manager}
use Rattle.tl_client.{specs.statement.Ask.asked, specs.statement.Endpoint.fresh}
use Rattle.tl_manager.specs.statement.End as manager_end
use Rattle.tl_manager.specs.statement.Offer as manager
use proofs.queues.{Steps.clients-with_messages, Channels.IsShowing, Channels.same_kind_again, Tokens.same_number}
use proofs.queues.{Tokens.set-same, Tokens.set-other, Tokens.total-same, Tokens.total-le, Tokens.total-plus}
use proofs.queues.{Tokens.total-zero, Tokens.total-one, Tokens.total-const, Carried.IsNext, Carried.carried-next}
use proofs.queues.Phases.{and_left, and_right, each_phase, of_phase, implies, implies_is}

-- the first token of a channel, whose message has this beat next
pub record IsFirst {w : ℕ} (ch : Channel) (c : ℕ) (mail : AccessMessages w) (s : State (List ℕ)) (sys : System w)
    (x : Beat w) (queue : List (Beat w)) : Type 0 where
  pub kind : Kind
  pub number : ℕ
  pub rest : List Packet
  pub tokens : packets_on ch (s.link c) ≡ packet kind number ∷ rest
  pub own : is_on ch kind ≡ true
  pub next : IsNext x (unfinished ch (receiver ch c sys)) (message_of_kind kind mail s c number)
      (map (message_of mail s c) rest) queue

-- a channel has tokens of its own kinds
pub own_kind : (caching : ℕ → Bool) (s : State (List ℕ)) (c : ℕ) (ch : Channel) (k : Kind) (n : ℕ) (rest : List Packet)
    → IsInvariant caching s → packets_on ch (s.link c) ≡ packet k n ∷ rest → is_on ch k ≡ true
unfolding count
own_kind caching s c ch k n rest inv tokens = go (is_on ch k) refl
  where
    go : (b : Bool) → is_on ch k ≡ b → b ≡ true
    go true e = refl
    go false e =
        let one : one_if (is k n (packet k n)) ≡ 1 = rw (same_kind_again k, same_number n) refl in
        absurd (omega (arith, sym (ap (count k n) tokens) ∙ (inv.own_kinds c ch k n e), one))

nothing_first : {w : ℕ} (x : Beat w) (queue : List (Beat w)) {rest : List (Beat w)} {channel : List (Beat w)}
    → channel ≡ x ∷ queue → IsCarried rest [] channel → ⊥
nothing_first x queue e h = let no : [] ≡ x ∷ queue = sym h.1 ∙ e in cc

same_carried : {w : ℕ} (rest : List (Beat w)) (ms ms' : List (Message w)) (q q' : List (Beat w)) → ms ≡ ms' → q ≡ q'
    → IsCarried rest ms q → IsCarried rest ms' q'
same_carried rest ms ms' q q' e f h = rw (← e, ← f) h

pub first-token : {w : ℕ} (caching : ℕ → Bool) (ch : Channel) (c : ℕ) (mail : AccessMessages w) (s : State (List ℕ))
    (sys : System w) (x : Beat w) (queue : List (Beat w)) → IsWidth w → IsInvariant caching s
    → ChannelRelation mail s sys → sys.channels c ch ≡ x ∷ queue → IsFirst ch c mail s sys x queue
first-token caching ch c mail s sys x queue width inv carried beats = go (packets_on ch (s.link c)) refl
  where
    go : (xs : List Packet) → packets_on ch (s.link c) ≡ xs → IsFirst ch c mail s sys x queue
    go [] e = absurd (nothing_first x queue beats
        (same_carried (unfinished ch (receiver ch c sys)) (map (message_of mail s c) (packets_on ch (s.link c))) []
        (sys.channels c ch) (sys.channels c ch) (ap (map (message_of mail s c)) e) refl (carried c ch)))
    go (y ∷ ys) e = record {
      kind = y.kind;
      number = y.number;
      rest = ys;
      tokens = e;
      own = own_kind caching s c ch y.kind y.number ys inv e;
      next = carried-next x _ _ _ queue (λ m. beats-positive m width) (same_carried (unfinished ch (receiver ch c sys))
          (map (message_of mail s c) (packets_on ch (s.link c))) (message_of mail s c y ∷ map (message_of mail s c) ys)
          (sys.channels c ch) (x ∷ queue) (ap (map (message_of mail s c)) e) beats (carried c ch));
    }

-- how many tokens pass a test
unfoldable pub passing : (Packet → Bool) → List Packet → ℕ
passing test [] = 0
passing test (x ∷ xs) = one_if (test x) + passing test xs

is-itself : (x : Packet) → is x.kind x.number x ≡ true
is-itself x = rw (same_kind_again x.kind, same_number x.number) refl

pub all-pass : (xs : List Packet) → passing (λ x. true) xs ≡ length xs
unfolding passing
all-pass [] = refl
all-pass (x ∷ xs) = omega (arith, all-pass xs)

-- those that pass and those that don't are all
pub pass-or-not : (test : Packet → Bool) (xs : List Packet) → length xs ≡ passing test xs + passing (λ x. not (test x))
    xs
unfolding passing
pass-or-not test [] = omega arith
pass-or-not test (x ∷ xs) =
    let one : (b : Bool) → one_if b + one_if (not b) ≡ 1 = elim [ true ↦ refl | false ↦ refl ] in
    omega (arith, pass-or-not test xs, one (test x))

-- ---- the tokens of a list

abbrev pub IsThere : Packet → List Packet → Type 0
IsThere x xs = 0 < count x.kind x.number xs

pub first-there : (x : Packet) (xs : List Packet) → IsThere x (x ∷ xs)
unfolding count
first-there x xs = let one : one_if (is x.kind x.number x) ≡ 1 = rw (is-itself x) refl in omega (arith, one)

pub later-there : (y x : Packet) (xs : List Packet) → IsThere y xs → IsThere y (x ∷ xs)
unfolding count
later-there y x xs there = omega (arith, there)

-- ---- all that pass are one token

passing-one : (test : Packet → Bool) (k : Kind) (n : ℕ) (xs : List Packet)
    → ((x : Packet) → IsThere x xs → test x ≡ true → is k n x ≡ true) → passing test xs ≤ count k n xs
unfolding passing count
passing-one test k n [] one = omega arith
passing-one test k n (x ∷ xs) one =
    let here : (b c : Bool) → (b ≡ true → c ≡ true) → one_if b ≤ one_if c =
    elim [ true ↦ λ c so. rw (so refl) (omega arith) | false ↦ λ c so. omega arith ] in
    let rest = passing-one test k n xs (λ y there. one y (later-there y x xs there)) in
    omega (arith, rest, here (test x) (is k n x) (one x (first-there x xs)))

passing-none : (test : Packet → Bool) (xs : List Packet) → ((x : Packet) → IsThere x xs → test x ≡ false)
    → passing test xs ≡ 0
unfolding passing
passing-none test [] none = refl
passing-none test (x ∷ xs) none =
    let here : one_if (test x) ≡ 0 = rw (none x (first-there x xs)) refl in
    omega (arith, here, passing-none test xs (λ y there. none y (later-there y x xs there)))

-- ---- names

-- it passes, and has this name
abbrev pub named : (Packet → Bool) → (Packet → ℕ) → ℕ → Packet → Bool
named test name i x = test x && (name x == i)

one-name : (b : Bool) (n bound : ℕ) → (b ≡ true → n < bound) → total bound (λ i. one_if (b && (n == i))) ≡ one_if b
one-name false n bound below = total-zero bound (λ i. 0) (λ i lt. refl)
one-name true n bound below = total-same bound (λ i. one_if (n == i)) (λ i. if i == n then 1 else 0)
    (λ i lt. at i (cases_eq i n)) ∙ total-one bound n 1 (below refl)
  where
    at : (i : ℕ) → (i ≡ n) ⊎ (i ≡ n → ⊥) → one_if (n == i) ≡ (if i == n then 1 else 0)
    at i e = grind arith

-- each that passes has one name
by-names : (test : Packet → Bool) (name : Packet → ℕ) (bound : ℕ) (xs : List Packet)
    → ((x : Packet) → IsThere x xs → test x ≡ true → name x < bound)
    → passing test xs ≡ total bound (λ i. passing (named test name i) xs)
unfolding passing
by-names test name bound [] below = sym (total-zero bound (λ i. 0) (λ i lt. refl))
by-names test name bound (x ∷ xs) below =
    let rest = by-names test name bound xs (λ y there. below y (later-there y x xs there)) in
    let both = total-plus bound (λ i. one_if (named test name i x)) (λ i. passing (named test name i) xs) in
    omega (arith, rest, both, one-name (test x) (name x) bound (below x (first-there x xs)))

-- No token stands twice, each that passes has a name below the bound, and is the one that the name is of: so there are
-- no more than the bound.
pub few : (test : Packet → Bool) (name : Packet → ℕ) (owner : ℕ → Option Packet) (bound : ℕ) (xs : List Packet)
    → ((k : Kind) (n : ℕ) → count k n xs ≤ 1) → ((x : Packet) → IsThere x xs → test x ≡ true → (owner (name x) ≡ Some x)
    × (name x < bound)) → passing test xs ≤ bound
few test name owner bound xs once own =
    let each = total-le bound (λ i. passing (named test name i) xs) (λ i. 1) (λ i lt. at i (owner i) refl) in
    omega (arith, each, by-names test name bound xs (λ x there pass. (own x there pass).1), total-const bound 1)
  where
    at : (i : ℕ) (o : Option Packet) → owner i ≡ o → passing (named test name i) xs ≤ 1
    at i None e =
        omega (arith, passing-none (named test name i) xs (λ x there. unnamed x there (named test name i x) refl))
      where
        unnamed : (x : Packet) → IsThere x xs → (b : Bool) → named test name i x ≡ b → b ≡ false
        unnamed x there false h = refl
        unnamed x there true h =
            let parts = and_parts (test x) (name x == i) h in
            let is : owner i ≡ Some x = ap owner (sym (eqb-true (name x) i parts.1)) ∙ (own x there parts.0).0 in
            absurd cc
    at i (Some t) e =
        let one = passing-one (named test name i) t.kind t.number xs
        (λ x there h. same_token x there (and_parts (test x) (name x == i) h)) in
        omega (arith, one, once t.kind t.number)
      where
        same_token : (x : Packet) → IsThere x xs → (test x ≡ true) × ((name x == i) ≡ true)
            → is t.kind t.number x ≡ true
        same_token x there parts =
            let is_it : owner i ≡ Some x = ap owner (sym (eqb-true (name x) i parts.1)) ∙ (own x there parts.0).0 in
            rw (same_Some _ _ (sym e ∙ is_it)) (is-itself x)

-- ---- one message

-- the service is a Grant on its way with data
abbrev pub is_given : Service → Bool
is_given (GrantSent q d k) = d
is_given _ = false

-- the message carries the bytes that the block has in the one memory
abbrev pub carries : Kind → ℕ → Block (List ℕ) → Bool
carries ProbeAck d b = same_perm (report_left (report_told (b.pair d).probing)) Perm.Trunk
carries Release d b = same_perm (prune_left (prune_told (b.pair d).letting)) Perm.Trunk
carries Grant d b = is_given b.service
carries k d b = false

-- what the message is made of is the same
abbrev pub IsAlike : Kind → ℕ → Block (List ℕ) → Block (List ℕ) → Type 0
IsAlike Acquire d b b' = ((b'.pair d).acquiring ≡ (b.pair d).acquiring) × (b'.source d ≡ b.source d)
IsAlike Probe d b b' = (b'.pair d).probing ≡ (b.pair d).probing
IsAlike ProbeAck d b b' = (b'.pair d).probing ≡ (b.pair d).probing
IsAlike Release d b b' = ((b'.pair d).letting ≡ (b.pair d).letting) × (b'.release_source d ≡ b.release_source d)
IsAlike Grant d b b' = (b'.service ≡ b.service) × (b'.source d ≡ b.source d) × (b'.tracker ≡ b.tracker)
IsAlike ReleaseAck d b b' = b'.release_source d ≡ b.release_source d
IsAlike GrantAck d b b' = b'.tracker ≡ b.tracker
IsAlike k d b b' = ⊤

ack_bytes : (w : ℕ) (p : Perm) (r : Report) (n : ℕ) (x y : List ℕ) → same_perm p Perm.Trunk ≡ false
    → probe_ack {w = w} OpB.ProbeBlock p r n x ≡ probe_ack OpB.ProbeBlock p r n y
ack_bytes w p r n x y e = grind arith

release_bytes : (w : ℕ) (p : Prune) (source n : ℕ) (x y : List ℕ) → same_perm (prune_left p) Perm.Trunk ≡ false
    → release {w = w} p source n x ≡ release p source n y
release_bytes w p source n x y e = grind arith

grant_bytes : (w : ℕ) (v : Service) (source sink : ℕ) (x y : List ℕ) → is_given v ≡ false
    → grant_of {w = w} v source sink x ≡ grant_of v source sink y
grant_bytes w v source sink x y e = grind arith

rendered-alike : (w : ℕ) (k : Kind) (d n : ℕ) (b b' : Block (List ℕ)) → IsAlike k d b b' → (carries k d b ≡ false)
    ⊎ (b'.truth ≡ b.truth) → block_message {w = w} k d n b' ≡ block_message k d n b
unfolding block_message
rendered-alike w Request d n b b' same bytes = refl
rendered-alike w Answer d n b b' same bytes = refl
rendered-alike w Acquire d n b b' same bytes = rw (same.0, same.1) refl
rendered-alike w ProbeAck d n b b' same (inl none) = rw same (ack_bytes w (report_left (report_told (b.pair d).probing))
    (report_told (b.pair d).probing) n b'.truth b.truth none)
rendered-alike w ProbeAck d n b b' same (inr e) = rw (same, e) refl
rendered-alike w Release d n b b' same (inl none) =
    rw (same.0, same.1) (release_bytes w (prune_told (b.pair d).letting) (b.release_source d) n b'.truth b.truth none)
rendered-alike w Release d n b b' same (inr e) = rw (same.0, same.1, e) refl
rendered-alike w Grant d n b b' same (inl none) =
    rw (same.0, same.1, same.2) (grant_bytes w b.service (b.source d) b.tracker b'.truth b.truth none)
rendered-alike w Grant d n b b' same (inr e) = rw (same.0, same.1, same.2, e) refl
rendered-alike w k d n b b' same bytes = rw same refl

-- ---- an event that changes one block

-- what such a message is made of that is shown before and after it
abbrev pub AreAlike : ℕ → Block (List ℕ) → Block (List ℕ) → Type 0
AreAlike d b b' = (k : Kind) → shown k d b ≡ true → shown k d b' ≡ true
    → IsAlike k d b b' × ((carries k d b ≡ false) ⊎ (b'.truth ≡ b.truth))

pub showing-block : {w : ℕ} {caching : ℕ → Bool} (n : ℕ) (b' : Block (List ℕ)) (moves : ℕ → Channel → Move)
    (mail mail' : AccessMessages w) {s s' : State (List ℕ)} → IsInvariant caching s → IsInvariant caching s'
    → ((d : ℕ) → AreMoved (moves d) (s.link d) (s'.link d)) → ((i : ℕ) → s'.block i ≡ set n b' s.block i)
    → ((d : ℕ) → AreAlike d (s.block n) b') → ((d i : ℕ) → is_asked (s.uses d i) ≡ true → is_asked (s'.uses d i) ≡ true
    → mail'.request d i ≡ mail.request d i)
    → ((d i : ℕ) → is_replied (s.uses d i) ≡ true → is_replied (s'.uses d i) ≡ true
    → mail'.answer d i ≡ mail.answer d i) → IsShowing caching n moves mail mail' s s'
showing-block {w} n b' moves mail mail' {s} {s'} inv inv' moved blocks alike requests answers = record {
  before = inv;
  after = inv';
  moved = moved;
  blocks = λ i ne. blocks i ∙ set-other n i b' s.block ne;
  same = λ d k t e f.
      let new : s'.block n ≡ b' = blocks n ∙ set-same n b' s.block in
      let both = alike d k e (sym (ap (shown k d) new) ∙ f) in
      ap (block_message k d n) new ∙ rendered-alike w k d n _ b' both.0 both.1;
  requests = requests;
  answers = answers;
}

-- ---- what carries bytes, by the phase

abbrev pub is_told : ClientBlock → Bool
is_told p = same_perm (report_left (report_told p.probing)) Perm.Trunk || same_perm (prune_left (prune_told p.letting))
    Perm.Trunk

-- nothing that carries bytes is on its way from or to one who holds Trunk, or of whom nothing is recorded
untold_test : ClientBlock → View → Bool
untold_test p v = implies (same_perm p.held Perm.Trunk || same_perm p.recorded Perm.None)
    (not (is_told p) && not (is_granting v))

untold_all : each_phase untold_test ≡ true
unfolding each_phase untold_test
untold_all = refl

pub untold : (p : ClientBlock) (v : View) → ok p v ≡ true
    → (same_perm p.held Perm.Trunk || same_perm p.recorded Perm.None) ≡ true
    → (not (is_told p) && not (is_granting v)) ≡ true
unfolding untold_test
untold p v h e = implies_is (same_perm p.held Perm.Trunk || same_perm p.recorded Perm.None)
    (not (is_told p) && not (is_granting v)) (of_phase untold_test untold_all p v h) e

-- nor from one to whom a Grant is on its way
granted_test : ClientBlock → View → Bool
granted_test p v = implies (is_granting v) (not (is_told p))

granted_all : each_phase granted_test ≡ true
unfolding each_phase granted_test
granted_all = refl

pub granted-untold : (p : ClientBlock) (v : View) → ok p v ≡ true → is_granting v ≡ true → not (is_told p) ≡ true
unfolding granted_test
granted-untold p v h e = implies_is (is_granting v) (not (is_told p)) (of_phase granted_test granted_all p v h) e

-- no message of the block carries its bytes, where nobody told, and no Grant is on its way
ungiven : (v : Service) → ((d : ℕ) → is_granting (view v d) ≡ false) → is_given v ≡ false
ungiven (GrantSent q d k) none = absurd (let e : is_granting (if q == q then Granting d k else GrantedOther) ≡ false =
    none q in let f : true ≡ false = rw (same_number q) at e in cc)
ungiven v none = refl

pub uncarried : (k : Kind) (d : ℕ) (b : Block (List ℕ)) → is_told (b.pair d) ≡ false → is_given b.service ≡ false
    → carries k d b ≡ false
uncarried k d b e f = grind (arith, or_parts)

pub none-carried : {caching : ℕ → Bool} {b : Block (List ℕ)} → IsWell caching b
    → ((d : ℕ) → (same_perm (b.pair d).held Perm.Trunk || same_perm (b.pair d).recorded Perm.None) ≡ true)
    → (k : Kind) (d : ℕ) → carries k d b ≡ false
none-carried {b} well low k d =
    let is : (i : ℕ) → (not (is_told (b.pair i)) && not (is_granting (view b.service i))) ≡ true =
    λ i. untold _ _ (well.phases i) (low i) in
    uncarried k d b (not-true (is_told (b.pair d)) (and_left (not (is_told (b.pair d)))
    (not (is_granting (view b.service d))) (is d))) (ungiven b.service (λ i. not-true (is_granting (view b.service i))
    (and_right (not (is_told (b.pair i))) (not (is_granting (view b.service i))) (is i))))

-- what is so of each client's end, whatever it is asked and offered
pub record AreKept {w : ℕ} (config : Config) (P : ℕ → Endpoint w → Type 0) : Type 0 where
  pub fresh : (c : ℕ) → P c fresh
  pub asked : (c : ℕ) (terms : EndConfig) (op : Op w) (e : Endpoint w) → terms_at config c ≡ Some terms → P c e
      → P c (asked terms op e).after
  pub offered : (c : ℕ) (terms : EndConfig) (ch : Channel) (x : Beat w) (e : Endpoint w)
      → terms_at config c ≡ Some terms → P c e → P c (offered terms ch x e).after

module _ {w : ℕ} (config : Config) (P : ℕ → Endpoint w → Type 0) (keep : AreKept config P) where
  -- one client's end is another one
  other_end : (k : ℕ) (e : Endpoint w) (s : System w) → P k e → ((c : ℕ) → P c (s.clients c)) → (c : ℕ)
      → P c ((with_client k e s).clients c)
  other_end k e s here all c = go (c == k) refl
    where
      go : (b : Bool) → (c == k) ≡ b → P c (if b then e else s.clients c)
      go true same = let is : c ≡ k = eqb-true c k same in rw is here
      go false differs = all c

  judged-kept : (r : Result (Verdict × Option (Message w)) Rule) (k : ℕ) (ch : Channel) (x : Beat w)
      (rest : List (Beat w)) (e : Endpoint w) (s : System w) → P k e → ((c : ℕ) → P c (s.clients c))
      → (c : ℕ) → P c ((judged r k ch x rest e s).after.clients c)
  judged-kept (Err rule) k ch x rest e s here all c = other_end k e s here all c
  judged-kept (Ok (Verdict.Stalled, m)) k ch x rest e s here all c = all c
  judged-kept (Ok (Verdict.Taken, m)) k ch x rest e s here all c = rw (clients-with_messages (handed_by k m)
      (with_client k e (with_channel k ch rest s))) (other_end k e (with_channel k ch rest s) here all c)
  judged-kept (Ok (Verdict.Done source f, m)) k ch x rest e s here all c = rw (clients-with_messages (handed_by k m)
      (with_client k e (with_channel k ch rest s))) (other_end k e (with_channel k ch rest s) here all c)

  managed-kept : (a : manager.Reception w × manager_end.End w) (k : ℕ) (ch : Channel) (x : Beat w)
      (rest : List (Beat w)) (s : System w) → ((c : ℕ) → P c (s.clients c))
      → (c : ℕ) → P c ((manager_took k ch x rest a s).after.clients c)
  managed-kept (manager.Sent handed, e) k ch x rest s all c =
      rw (clients-with_messages handed (with_manager e (with_channel k ch rest s))) (all c)
  managed-kept a k ch x rest s all c = all c

  delivered-kept : (terms : EndConfig) (k : ℕ) (ch : Channel) (beats : List (Beat w)) (s : System w)
      → terms_at config k ≡ Some terms → ((c : ℕ) → P c (s.clients c))
      → (c : ℕ) → P c ((delivered config terms k ch beats s).after.clients c)
  delivered-kept terms k ch beats s e f c = grind (arith, judged-kept, managed-kept)

  stepped-kept : (event : Event w) (s : System w) → ((c : ℕ) → P c (s.clients c)) → (c : ℕ)
      → P c ((stepped config event s).after.clients c)
  unfolding stepped
  stepped-kept event s all c = go event (terms_at config (client_of event)) refl
    where
      go : (x : Event w) (o : Option EndConfig) → terms_at config (client_of x) ≡ o
          → P c ((stepped_at config o x s).after.clients c)
      go x None is = all c
      go (Ask k op) (Some terms) is = rw (clients-with_messages (handed_by k (asked terms op (s.clients k)).message)
          (with_client k (asked terms op (s.clients k)).after s))
          (other_end k (asked terms op (s.clients k)).after s (keep.asked k terms op (s.clients k) is (all k)) all c)
      go (Deliver link ch) (Some terms) is = delivered-kept terms link.0 ch (s.channels link.0 ch) s is all c

  pub ends-kept : (log : Log w) (c : ℕ) → P c ((system_after config log).clients c)
  unfolding system_after
  ends-kept [] c = keep.fresh c
  ends-kept (x ∷ log) c = stepped-kept x.0 _ (ends-kept log) c
