-- What a test says of a part of the protocol's state: of a use, a wish, a Probe, a Release, a view.
-- What is shown of a block stays where a client is asked, and where a request is taken.
-- What the messages of a block are made of, before and after each event.
-- What the first token of a channel says of its block, or of the source of its access.
use Rattle.std.proofs.Common.{◌≡◌, ℕ, Bool, true, false, not, ◌&&◌, ◌==◌, if◌then◌else◌, List, ◌∷◌, Option, Some, refl}
use Rattle.std.proofs.Common.{sym, ◌∙◌, ap, arith, ◌⊎◌, inl, inr}
use Rattle.tl_coherence.proofs
use proofs.Imports.{cases_eq, Cap, Grow, Prune, Report, IsInvariant, IsWell, acquires_of, is_asked, is_of, is_replied}
use proofs.Imports.{serves_of, Acquire, Answer, Grant, GrantAck, Kind, Packet, Probe, ProbeAck, Release, ReleaseAck}
use proofs.Imports.{Request, set, Acknowledging, AcquireOpen, AcquirePhase, ClientBlock, GrantedOther, Granting, Idle}
use proofs.Imports.{NoAcquire, NoProbe, NoRelease, Other, ProbeAnswered, ProbePhase, ProbeSent, ReleaseAcked}
use proofs.Imports.{ReleasePhase, ReleaseSent, View, is_unacquired, is_unprobed, is_unreleased, after_acquire}
use proofs.Imports.{after_grant, after_grant_sent, after_release, after_release_ack, after_release_taken, after_report}
use proofs.Imports.{after_served, Acquires, Asked, Block, Free, GrantSent, GrantTaken, InService, Replied, Service}
use proofs.Imports.{SourceState, State, Waits, acquiring_block, ended_block, freed_block, granted_at_once}
use proofs.Imports.{granted_block, let_block, let_go_block, on, packet, probed_block, releasing_block, reported_block}
use proofs.Imports.{served_block, served_pair, taken_block, view, is_acked, is_acknowledging, is_answered, is_granting}
use proofs.Imports.{is_releasing, is_sent, is_transfer, is_wanting, shown, shows, cap_sent, prune_told, report_told}
use proofs.Imports.{cap_waited}
use proofs.queues.{Channels.same_kind_again, FirstToken.AreAlike, FirstToken.carries, Phases.and_left}
use proofs.queues.Facts.{granting_asks, is_other, quiet_at_rest}
use proofs.queues.Tokens.{holds-first, set-each, set-same, if-part}

-- ---- numbers and uses

-- a number that is of a block
pub is_of-is : (n : ℕ) (o : Option ℕ) → is_of n o ≡ true → o ≡ Some n
is_of-is n o e = grind arith

pub acquires_of-is : (n : ℕ) (u : SourceState) → acquires_of n u ≡ true → u ≡ Acquires n
acquires_of-is n u e = grind arith

pub serves_of-is : (n : ℕ) (u : SourceState) → serves_of n u ≡ true → u ≡ InService n
serves_of-is n u e = grind arith

pub is_asked-is : (u : SourceState) → is_asked u ≡ true → u ≡ Asked
is_asked-is u e = grind arith

pub is_replied-is : (u : SourceState) → is_replied u ≡ true → u ≡ Replied
is_replied-is u e = grind arith

-- ---- what is wanted

pub wanting-is : (x : AcquirePhase) → is_wanting x ≡ true → (whole : Bool) × (g : Grow) × (x ≡ AcquireOpen whole g)
wanting-is x e = grind arith

pub not-calm : (x : AcquirePhase) → not (is_unacquired x) ≡ true → is_wanting x ≡ true
not-calm x e = grind arith

pub calm-is : (a : AcquirePhase) → is_wanting a ≡ false → a ≡ NoAcquire
calm-is a e = grind arith

-- ---- Probes

pub quiet-is : (x : ProbePhase) → is_unprobed x ≡ true → x ≡ NoProbe
quiet-is x e = grind arith

pub sent-is : (x : ProbePhase) → is_sent x ≡ true → x ≡ ProbeSent (cap_sent x)
sent-is x e = grind arith

pub answered-is : (x : ProbePhase) → is_answered x ≡ true → x ≡ ProbeAnswered (report_told x)
answered-is x e = grind arith

pub not-sent : (x : ProbePhase) → is_sent x ≡ true → is_unprobed x ≡ false
not-sent x e = grind arith

pub not-answered : (x : ProbePhase) → is_answered x ≡ true → is_unprobed x ≡ false
not-answered x e = grind arith

pub quiet_unanswered : (x : ProbePhase) → is_unprobed x ≡ true → is_answered x ≡ false
quiet_unanswered x e = grind arith

-- ---- Releases

pub kept-is : (x : ReleasePhase) → is_unreleased x ≡ true → x ≡ NoRelease
kept-is x e = grind arith

pub kept-letting : (l : ReleasePhase) → not (is_unreleased l) ≡ false → l ≡ NoRelease
kept-letting l e = grind arith

pub releasing-is : (x : ReleasePhase) → is_releasing x ≡ true → x ≡ ReleaseSent (prune_told x)
releasing-is x e = grind arith

pub acked-is : (x : ReleasePhase) → is_acked x ≡ true → x ≡ ReleaseAcked
acked-is x e = grind arith

pub releasing-open : (x : ReleasePhase) → is_releasing x ≡ true → is_unreleased x ≡ false
releasing-open x e = grind arith

pub acked-open : (x : ReleasePhase) → is_acked x ≡ true → is_unreleased x ≡ false
acked-open x e = grind arith

-- ---- services and views

pub waits_ungranted : (own : Bool) (r source : ℕ) (k : Cap) (i : ℕ)
    → is_granting (view (Waits r own source k) i) ≡ false
waits_ungranted own r source k i = if-part is_granting (own && (i == r)) refl refl

pub waits_unacknowledged : (own : Bool) (r source : ℕ) (k : Cap) (i : ℕ)
    → is_acknowledging (view (Waits r own source k) i) ≡ false
waits_unacknowledged own r source k i = if-part is_acknowledging (own && (i == r)) refl refl

pub sent_unacknowledged : (q : ℕ) (d : Bool) (k : Cap) (i : ℕ) → is_acknowledging (view (GrantSent q d k) i) ≡ false
sent_unacknowledged q d k i = if-part is_acknowledging (i == q) refl refl

pub taken_ungranted : (q i : ℕ) → is_granting (view (GrantTaken q) i) ≡ false
taken_ungranted q i = if-part is_granting (i == q) refl refl

-- a client shows beside another's Grant what it shows of a free block
pub shows-beside : (k : Kind) (p : ClientBlock) → shows k p GrantedOther ≡ shows k p Idle
shows-beside k p = grind arith

-- who sees another's service sees the cap that it probes with
pub cap-waited : (k : Cap) (s : Service) (c : ℕ) → view s c ≡ Other k → cap_waited s ≡ k
cap-waited k s c e = grind (arith, if-part)

-- who sees its GrantAck under way
pub acknowledging-is : (s : Service) (c : ℕ) → is_acknowledging (view s c) ≡ true → s ≡ GrantTaken c
acknowledging-is s c e = grind (arith, waits_unacknowledged, sent_unacknowledged)

pub granting-own : (b d : Bool) (k : Cap) → is_granting (if b then Granting d k else GrantedOther) ≡ true → b ≡ true
granting-own b d k e = grind arith

pub taken-unseen : (y : Bool) → is_other (if y then Acknowledging else GrantedOther) ≡ true → ⊥
taken-unseen y e = grind arith

pub granted-unseen : (y d : Bool) (k : Cap) → is_other (if y then Granting d k else GrantedOther) ≡ true → ⊥
granted-unseen y d k e = grind arith

-- ---- what a service shows

pub ungranted : (v : Service) (i : ℕ) (u : Service) → v ≡ u → is_granting (view u i) ≡ false
    → is_granting (view v i) ≡ true → ⊥
ungranted v i u e f g = let h : is_granting (view u i) ≡ true = rw e at g in let k : false ≡ true = sym f ∙ h in cc

pub unacknowledged : (v : Service) (i : ℕ) (u : Service) → v ≡ u → is_acknowledging (view u i) ≡ false
    → is_acknowledging (view v i) ≡ true → ⊥
unacknowledged v i u e f g = let h : is_acknowledging (view u i) ≡ true = rw e at g in let k : false ≡ true = cc in cc

-- a part of pairs where one client's changes
pub pair_at : (c : ℕ) (p : ClientBlock) (f : ℕ → ClientBlock) → set c p f c ≡ p
pair_at c p f = set-same c p f

-- ---- one client's pair changes

-- of what is shown of a pair before and after, nothing changes
pub record IsAlikePair (p q : ClientBlock) : Type 0 where
  pub acquiring : is_wanting p.acquiring ≡ true → is_wanting q.acquiring ≡ true → q.acquiring ≡ p.acquiring
  pub sent : is_sent p.probing ≡ true → is_sent q.probing ≡ true → q.probing ≡ p.probing
  pub answered : is_answered p.probing ≡ true → is_answered q.probing ≡ true → q.probing ≡ p.probing
  pub letting : is_releasing p.letting ≡ true → is_releasing q.letting ≡ true → q.letting ≡ p.letting

pub alike-parts : (p q : ClientBlock) → q.acquiring ≡ p.acquiring → q.probing ≡ p.probing → q.letting ≡ p.letting
    → IsAlikePair p q
alike-parts p q acquiring probing letting =
    record { acquiring = λ e f. acquiring; sent = λ e f. probing; answered = λ e f. probing; letting = λ e f. letting }

pub alike-pair : (c : ℕ) (q : ClientBlock) (pair : ℕ → ClientBlock) → IsAlikePair (pair c) q → (i : ℕ)
    → IsAlikePair (pair i) (set c q pair i)
alike-pair c q pair here = set-each (λ i x. IsAlikePair (pair i) x) c q pair here
    (λ i ne. alike-parts (pair i) (pair i) refl refl refl)

-- nor is anything shown of a Grant both before and after, or its service and tracker stay
abbrev pub AreAlikeGrants : Block (List ℕ) → Block (List ℕ) → Type 0
AreAlikeGrants b b' = (i : ℕ) → (is_granting (view b.service i) ≡ true → is_granting (view b'.service i) ≡ true
    → (b'.service ≡ b.service) × (b'.tracker ≡ b.tracker)) × (is_acknowledging (view b.service i) ≡ true
    → is_acknowledging (view b'.service i) ≡ true → b'.tracker ≡ b.tracker)

pub alike-pairs : (b b' : Block (List ℕ)) → ((i : ℕ) → IsAlikePair (b.pair i) (b'.pair i))
    → b'.source ≡ b.source → b'.release_source ≡ b.release_source → AreAlikeGrants b b'
    → ((k : Kind) (i : ℕ) → shown k i b ≡ true → shown k i b' ≡ true → (carries k i b ≡ false)
    ⊎ (b'.truth ≡ b.truth)) → (i : ℕ) → AreAlike i b b'
alike-pairs b b' pairs source release grants bytes i k e f = grind (arith, and_left)

-- a service that is free shows nothing
free-grants : (b b' : Block (List ℕ)) → b.service ≡ Free → AreAlikeGrants b b'
free-grants b b' free i = grind arith

-- ---- a client is asked

pub alike-acquiring : {caching : ℕ → Bool} (c source : ℕ) (whole : Bool) (g : Grow) (bytes : List ℕ)
    {b : Block (List ℕ)} → IsWell caching b → (b.pair c).acquiring ≡ NoAcquire → (i : ℕ)
    → AreAlike i b (acquiring_block c source whole g bytes b)
alike-acquiring c source whole g bytes {b} well calm i = elim (cases_eq i c) [
  | inl same ↦ rw same (here)
  | inr other ↦ there other
]
  where
    after : ClientBlock
    after = after_acquire whole g (b.pair c)

    granted : (v : View) → view b.service c ≡ v → is_granting v ≡ true → ⊥
    granted (Granting d k) e f =
        (let h : false ≡ true = rw calm at (granting_asks d k (b.pair c) (view b.service c) (well.phases c) e) in cc)
    granted v e f = cc

    here : AreAlike c b (acquiring_block c source whole g bytes b)
    here Acquire e f = absurd (let h : false ≡ true = rw calm at e in cc)
    here Probe e f = (ap (λ (p : ClientBlock). p.probing) (pair_at c after b.pair), inr refl)
    here ProbeAck e f = (ap (λ (p : ClientBlock). p.probing) (pair_at c after b.pair), inr refl)
    here Release e f = ((ap (λ (p : ClientBlock). p.letting) (pair_at c after b.pair), refl), inr refl)
    here Grant e f = absurd (granted (view b.service c) refl e)
    here ReleaseAck e f = (refl, inr refl)
    here GrantAck e f = (refl, inr refl)
    here _ e f = (tt, inr refl)

    there : (i ≡ c → ⊥) → AreAlike i b (acquiring_block c source whole g bytes b)
    there e = grind arith

pub alike-releasing : (c source : ℕ) (r : Prune) (b : Block (List ℕ)) → (b.pair c).letting ≡ NoRelease → (i : ℕ)
    → AreAlike i b (releasing_block c source r b)
alike-releasing c source r b kept i = elim (cases_eq i c) [ inl same ↦ rw same here | inr other ↦ there other ]
  where
    after : ClientBlock
    after = after_release r (b.pair c)

    here : AreAlike c b (releasing_block c source r b)
    here Acquire e f = ((ap (λ p. p.acquiring) (pair_at c after b.pair), refl), inr refl)
    here Probe e f = (ap (λ p. p.probing) (pair_at c after b.pair), inr refl)
    here ProbeAck e f = (ap (λ p. p.probing) (pair_at c after b.pair), inr refl)
    here Release e f = absurd (let h : false ≡ true = rw kept at e in cc)
    here Grant e f = ((refl, refl, refl), inr refl)
    here ReleaseAck e f = absurd (let h : false ≡ true = rw kept at e in cc)
    here GrantAck e f = (refl, inr refl)
    here _ e f = (tt, inr refl)

    there : (i ≡ c → ⊥) → AreAlike i b (releasing_block c source r b)
    there e = grind arith

-- the same of a block whose copies, memory and bytes change alone
pub alike-bytes : (b b' : Block (List ℕ)) → b'.pair ≡ b.pair → b'.source ≡ b.source
    → b'.release_source ≡ b.release_source → b'.service ≡ b.service → b'.tracker ≡ b.tracker
    → ((k : Kind) (i : ℕ) → (carries k i b ≡ false) ⊎ (b'.truth ≡ b.truth)) → (i : ℕ) → AreAlike i b b'
alike-bytes b b' pair source release service tracker bytes i k e f = grind arith

-- ---- a request is taken

pub alike-granted_at_once : (r tracker : ℕ) (d : Bool) (k : Cap) (b : Block (List ℕ)) → b.service ≡ Free → (i : ℕ)
    → AreAlike i b (granted_at_once r tracker d k b)
alike-granted_at_once r tracker d k b free = grind arith

unsent : (x : ProbePhase) → is_unprobed x ≡ true → is_sent x ≡ true → ⊥
unsent x e f = grind arith

unanswered : (x : ProbePhase) → is_unprobed x ≡ true → is_answered x ≡ true → ⊥
unanswered x e f = grind arith

pub alike-served : {caching : ℕ → Bool} (r : ℕ) (own : Bool) (source tracker : ℕ) (k : Cap) {b : Block (List ℕ)}
    → IsWell caching b → b.service ≡ Free → (i : ℕ) → AreAlike i b (served_block r own source tracker k b)
alike-served r own source tracker k {b} well free =
    let new : Block (List ℕ) = served_block r own source tracker k b in
    alike-pairs b new pairs refl refl (free-grants b new free) (λ j i e f. inr refl)
  where
    quiet : (i : ℕ) → is_unprobed (b.pair i).probing ≡ true
    quiet i = quiet_at_rest _ _ (well.phases i) (rw free refl)

    either : (i : ℕ) (x : Bool) → IsAlikePair (b.pair i) (if x then b.pair i else after_served k (b.pair i))
    either i true = alike-parts (b.pair i) (b.pair i) refl refl refl
    either i false = record {
      acquiring = λ e f. refl;
      sent = λ e f. absurd (unsent (b.pair i).probing (quiet i) e);
      answered = λ e f. absurd (unanswered (b.pair i).probing (quiet i) e);
      letting = λ e f. refl;
    }

    pairs : (i : ℕ) → IsAlikePair (b.pair i) (served_pair r own k b.pair i)
    pairs i = either i (own && (i == r))

-- ---- a Probe, and its answer

-- a service that stays
same-grants : (b b' : Block (List ℕ)) → b'.service ≡ b.service → b'.tracker ≡ b.tracker → AreAlikeGrants b b'
same-grants b b' service tracker i = (λ e f. (service, tracker), λ e f. tracker)

-- a service that waits shows nothing
waiting-grants : (q source : ℕ) (own : Bool) (k : Cap) (b b' : Block (List ℕ)) → b.service ≡ Waits q own source k
    → AreAlikeGrants b b'
waiting-grants q source own k b b' waits i = grind arith

-- the Probe is no longer on its way, and the ProbeAck isn't yet
pub alike-probed : (c : ℕ) (k : Cap) (b : Block (List ℕ)) → (b.pair c).probing ≡ ProbeSent k → (i : ℕ)
    → AreAlike i b (probed_block c k b)
alike-probed c k b sent = grind arith

reported-pair : (r : Report) (p : ClientBlock) → IsAlikePair p (after_report r p)
reported-pair r p =
    record { acquiring = λ e f. refl; sent = λ e f. absurd cc; answered = λ e f. absurd cc; letting = λ e f. refl }

pub alike-reported : (c : ℕ) (r : Report) (b : Block (List ℕ)) → (i : ℕ) → AreAlike i b (reported_block c r b)
alike-reported c r b = alike-pairs b _ (alike-pair c (after_report r (b.pair c)) b.pair
    (reported-pair r (b.pair c))) refl refl (same-grants b (reported_block c r b) refl refl) (λ j i e f. inr refl)

-- the bytes change only where nothing that is left carries them
pub alike-ended : (c q source : ℕ) (r : Report) (k : Cap) (f : List ℕ → List ℕ) (b : Block (List ℕ))
    → b.service ≡ Waits q false source k
    → ((j : Kind) (i : ℕ) → shown j i b ≡ true → shown j i (ended_block c r f b) ≡ true → (carries j i b ≡ false)
    ⊎ (f b.truth ≡ b.truth)) → (i : ℕ) → AreAlike i b (ended_block c r f b)
alike-ended c q source r k f b waits bytes = alike-pairs b _ (alike-pair c (after_report r (b.pair c)) b.pair
    (reported-pair r (b.pair c))) refl refl (waiting-grants q source false k b (ended_block c r f b) waits) bytes

pub alike-granted : (c q source : ℕ) (r : Report) (own d : Bool) (k gift : Cap) (b : Block (List ℕ))
    → b.service ≡ Waits q own source k → (c ≡ q → ⊥) → (i : ℕ) → AreAlike i b (granted_block c q r d gift b)
alike-granted c q source r own d k gift b waits apart =
    let reported = set c (after_report r (b.pair c)) b.pair in
    let pairs = set-each (λ i x. IsAlikePair (b.pair i) x) q _ reported (alike-parts (b.pair q)
    (after_grant_sent gift (b.pair q)) refl refl refl) (λ i ne. alike-pair c _ b.pair (reported-pair r (b.pair c)) i) in
    alike-pairs b _ pairs refl refl
    (waiting-grants q source own k b (granted_block c q r d gift b) waits) (λ j i e f. inr refl)

-- ---- a Release, and its answer

pub alike-let : (c : ℕ) (r : Prune) (b : Block (List ℕ)) → (i : ℕ) → AreAlike i b (let_block c r b)
alike-let c r b =
    let here : IsAlikePair (b.pair c) (after_release_taken r (b.pair c)) =
    record { acquiring = λ e f. refl; sent = λ e f. refl; answered = λ e f. refl; letting = λ e f. absurd cc } in
    alike-pairs b _ (alike-pair c (after_release_taken r (b.pair c)) b.pair here) refl refl
    (same-grants b (let_block c r b) refl refl) (λ j i e f. inr refl)

pub alike-let_go : (c : ℕ) (b : Block (List ℕ)) → (i : ℕ) → AreAlike i b (let_go_block c b)
alike-let_go c b =
    let here : IsAlikePair (b.pair c) (after_release_ack (b.pair c)) =
    record { acquiring = λ e f. refl; sent = λ e f. refl; answered = λ e f. refl; letting = λ e f. absurd cc } in
    alike-pairs b _ (alike-pair c (after_release_ack (b.pair c)) b.pair here) refl refl
    (same-grants b (let_go_block c b) refl refl) (λ j i e f. inr refl)

-- ---- a Grant, and its answer

pub alike-taken : (c : ℕ) (whole d : Bool) (k : Cap) (b : Block (List ℕ)) → b.service ≡ GrantSent c d k
    → ((j : Kind) (i : ℕ) → shown j i b ≡ true → shown j i (taken_block c whole d k b) ≡ true → (carries j i b ≡ false)
    ⊎ ((taken_block c whole d k b).truth ≡ b.truth)) → (i : ℕ) → AreAlike i b (taken_block c whole d k b)
alike-taken c whole d k b sent bytes =
    let here : IsAlikePair (b.pair c) (after_grant k (b.pair c)) =
    record { acquiring = λ e f. absurd cc; sent = λ e f. refl; answered = λ e f. refl; letting = λ e f. refl } in
    alike-pairs b _ (alike-pair c (after_grant k (b.pair c)) b.pair here) refl refl
    (λ i. (
      λ e f. absurd (ungranted (GrantTaken c) i (GrantTaken c) refl (taken_ungranted c i) f),
      λ e f. absurd (unacknowledged b.service i (GrantSent c d k) sent (sent_unacknowledged c d k i) e),
    )) bytes

pub alike-freed : (c : ℕ) (b : Block (List ℕ)) → b.service ≡ GrantTaken c → (i : ℕ) → AreAlike i b (freed_block b)
alike-freed c b taken = grind (arith, alike-pairs, alike-parts)

pub first-shown : {X : Type 0} {caching : ℕ → Bool} {s : State X} → IsInvariant caching s → (c : ℕ) (k : Kind) {n : ℕ}
    {rest : List Packet} → is_transfer k ≡ true → on k (s.link c) ≡ packet k n ∷ rest → shown k c (s.block n) ≡ true
first-shown {s} inv c k {rest} transfers first = holds-first k _ rest _
    (λ i. shown k c (s.block i)) first (same_kind_again k) (inv.transfers c k transfers)

module _ {X : Type 0} {caching : ℕ → Bool} {s : State X} (inv : IsInvariant caching s) {c n : ℕ} {rest : List Packet}
  where
    pub first-probe : (s.link c).b ≡ packet Probe n ∷ rest
        → ((s.block n).pair c).probing ≡ ProbeSent (cap_sent ((s.block n).pair c).probing)
    first-probe first = sent-is ((s.block n).pair c).probing (first-shown inv c Probe refl first)

    pub first-report : (s.link c).c ≡ packet ProbeAck n ∷ rest
        → ((s.block n).pair c).probing ≡ ProbeAnswered (report_told ((s.block n).pair c).probing)
    first-report first = answered-is ((s.block n).pair c).probing (first-shown inv c ProbeAck refl first)

    pub first-release : (s.link c).c ≡ packet Release n ∷ rest
        → ((s.block n).pair c).letting ≡ ReleaseSent (prune_told ((s.block n).pair c).letting)
    first-release first = releasing-is ((s.block n).pair c).letting (first-shown inv c Release refl first)

    pub first-release_ack : (s.link c).d ≡ packet ReleaseAck n ∷ rest → ((s.block n).pair c).letting ≡ ReleaseAcked
    first-release_ack first = acked-is ((s.block n).pair c).letting (first-shown inv c ReleaseAck refl first)

    pub first-grant_ack : (s.link c).e ≡ packet GrantAck n ∷ rest → (s.block n).service ≡ GrantTaken c
    first-grant_ack first = acknowledging-is (s.block n).service c (first-shown inv c GrantAck refl first)

    pub first-request : (s.link c).a ≡ packet Request n ∷ rest → s.uses c n ≡ Asked
    first-request first = is_asked-is (s.uses c n) (holds-first Request (s.link c).a rest (packet Request n)
        (λ i. is_asked (s.uses c i)) first refl (inv.requests c))

    pub first-answer : (s.link c).d ≡ packet Answer n ∷ rest → s.uses c n ≡ Replied
    first-answer first = is_replied-is (s.uses c n) (holds-first Answer (s.link c).d rest (packet Answer n)
        (λ i. is_replied (s.uses c i)) first refl (inv.answers c))
