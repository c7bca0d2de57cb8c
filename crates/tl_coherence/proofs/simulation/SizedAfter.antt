-- The bytes of each block are 64, and each access that is under way has its source, after every event.
-- The bytes of each block are 64, who isn't a client has nothing open, and each access that is under way has its
-- source: after every event.
-- Accesses and their sources fit each other after each event.
use Rattle.std.proofs.Common.{◌≡◌, ℕ, ◌*◌, Bool, true, false, ◌&&◌, ◌==◌, if◌then◌else◌, List, ◌∷◌, Some, None, refl}
use Rattle.std.proofs.Common.{sym, ◌∙◌, ap, arith, ◌⊎◌, inl, inr, length, ne_eqb}
use Rattle.tl_coherence.proofs
use proofs.Imports.{cases_eq, ⊤, Message, Config, Cap, Grow, Report, Perm, same_perm, block_at, length-stored}
use proofs.Imports.{word_room, Op, Reply, copy_stored, is_word, EndConfig, access, length-bytes, IsInvariant, Kind}
use proofs.Imports.{Packet, Request, set, set_at, AcquireOpen, AcquirePhase, ClientBlock, is_whole, after_acquire}
use proofs.Imports.{after_grant, after_grant_sent, after_probe, after_release, after_release_ack, after_release_taken}
use proofs.Imports.{after_report, after_served, Asked, Block, InService, Replied, SourceFree, SourceState, State}
use proofs.Imports.{acquiring_block, granted_block, granted_pair, granted_truth, on, packet, served_block, stored_block}
use proofs.Imports.{taken_block, AbstractState, asked, kind_taken, AreSized, IsRequest, IsSourced, IsTypedOp, terms_at}
use proofs.queues.Tokens.{same_number, set-each, set-same, set-other, set-part}
use proofs.queues.Phases.{trunk-some}
use proofs.rank.RankParts.{serving-use}
use proofs.protocol.{HeadOfD.true-taken, BothParts.first-request}

-- ---- bytes

abbrev pub AllSized : State (List ℕ) → Type 0
AllSized s = (n : ℕ) → AreSized (s.block n)

sized_block : (n : ℕ) {new : Block (List ℕ)} (block : ℕ → Block (List ℕ)) → AreSized new
    → ((i : ℕ) → AreSized (block i)) → (i : ℕ) → AreSized (set n new block i)
sized_block n {new} block here before = λ i. set-each (λ j b. AreSized b) n new block here (λ j ne. before j) i

-- where no more bytes wait than before
sized_same : {old : Block (List ℕ)} (new : Block (List ℕ)) → length new.truth ≡ 64
    → ((c : ℕ) → new.waiting c ≡ old.waiting c) → ((c : ℕ) → is_whole (new.pair c).acquiring ≡ true
    → is_whole (old.pair c).acquiring ≡ true) → AreSized old → AreSized new
sized_same new long waiting storing h =
    record { truth = long; waiting = λ c e. ap length (waiting c) ∙ h.waiting c (storing c e) }

-- one client's pair changes, and not what it acquires
still_acquires : (c : ℕ) (p : ClientBlock) (f : ℕ → ClientBlock) → p.acquiring ≡ (f c).acquiring → (d : ℕ)
    → is_whole (set c p f d).acquiring ≡ true → is_whole (f d).acquiring ≡ true
still_acquires c p f same d e = sym (ap is_whole (set-part (λ q. q.acquiring) c p f same d)) ∙ e

sized_pair : (c : ℕ) (p : ClientBlock) {old : Block (List ℕ)} (new : Block (List ℕ)) → new.pair ≡ set c p old.pair
    → p.acquiring ≡ (old.pair c).acquiring → new.truth ≡ old.truth
    → new.waiting ≡ old.waiting → AreSized old → AreSized new
sized_pair c p {old} new pairs same truth waiting h = grind (arith, sized_same, still_acquires)

sized_served : (r : ℕ) (own : Bool) (source tracker : ℕ) (k : Cap) {b : Block (List ℕ)} → AreSized b
    → AreSized (served_block r own source tracker k b)
sized_served r own source tracker k {b} h =
    let go : (c : ℕ) (x : Bool) → is_whole (if x then b.pair c else after_served k (b.pair c)).acquiring ≡ true
    → is_whole (b.pair c).acquiring ≡ true = λ c. elim [ true ↦ λ e. e | false ↦ λ e. e ] in
    sized_same _ h.truth (λ c. refl) (λ c e. go c (own && (c == r)) e) h

sized_granted_block : (c q : ℕ) (r : Report) (d : Bool) (k : Cap) {b : Block (List ℕ)} → AreSized b
    → AreSized (granted_block c q r d k b)
sized_granted_block c q r d k {b} h = sized_same _ h.truth (λ i. refl) (λ i e. storing i (cases_eq i q) e) h
  where
    reported : ℕ → ClientBlock
    reported = set c (after_report r (b.pair c)) b.pair

    storing : (i : ℕ) → (i ≡ q) ⊎ (i ≡ q → ⊥) → is_whole (granted_pair c q r k b.pair i).acquiring ≡ true
        → is_whole (b.pair i).acquiring ≡ true
    storing i (inl same) e = let f : (set q (after_grant_sent k (b.pair q)) reported q).acquiring
        ≡ (b.pair q).acquiring =
        ap (λ p. p.acquiring) (set-same q (after_grant_sent k (b.pair q)) reported) in
        cc (same, f, e)
    storing i (inr other) e = cc (still_acquires c (after_report r (b.pair c)) b.pair refl i (sym (ap (λ (p :
        ClientBlock). is_whole p.acquiring) (set-other q i (after_grant_sent k (b.pair q)) reported other)) ∙ e))

sized_taken_block : (c : ℕ) (d : Bool) (k : Cap) {b : Block (List ℕ)} → AreSized b
    → AreSized (taken_block c (is_whole (b.pair c).acquiring) d k b)
sized_taken_block c d k {b} h =
    let bytes : (x : AcquirePhase) → (b.pair c).acquiring ≡ x → length (granted_truth (is_whole x)
    (b.waiting c) b.truth) ≡ 64 = elim [ AcquireOpen true g ↦ λ e. h.waiting c (ap is_whole e) | x ↦ λ e. h.truth ] in
    sized_same _ (bytes (b.pair c).acquiring refl) (λ i. refl) (λ i e. storing i (cases_eq i c) e) h
  where
    storing : (i : ℕ) → (i ≡ c) ⊎ (i ≡ c → ⊥) → is_whole (set c (after_grant k (b.pair c)) b.pair i).acquiring ≡ true
        → is_whole (b.pair i).acquiring ≡ true
    storing i e f = grind (arith, set-same, set-other)

-- ---- messages that are taken

pub sized-kind_taken : {w : ℕ} (config : Config) (tracker c : ℕ) (k : Kind) (i : ℕ) (rest : List Packet)
    (h : AbstractState w) → AllSized h.state → AllSized (kind_taken config tracker c k i rest h).state
sized-kind_taken config tracker c k i rest h before =
    true-taken config tracker c rest h (λ j n. ⊤) (λ x. AllSized x.state) k i (record {
      nothing = λ j n known idle. before;
      access_answered = λ source m o known from caps none. changed (block_at m.address) (sized_same _
          (length-bytes _ (64 * block_at m.address) 64) (λ d. refl) (λ d e. e) (before (block_at m.address)));
      access_served = λ source m j known from caps some. changed (block_at m.address)
          (sized_served c false source tracker j (before (block_at m.address)));
      acquire_granted = λ n whole g known wants none. one n (after_grant_sent _ (pair n c)) _ refl refl refl refl;
      acquire_served = λ n whole g known wants some. changed n
          (sized_served c true ((h.state.block n).source c) tracker _ (before n));
      probe = λ n known. one n (after_probe _ (pair n c)) _ refl refl refl refl;
      report = λ n known more. one n (after_report _ (pair n c)) _ refl refl refl refl;
      report_answers = λ n q source j known last waits. changed n
          (sized_same _ (length-bytes _ (64 * block_at (h.request n).address) 64) (λ d. refl)
          (λ d e. still_acquires c _ (pair n) refl d e) (before n));
      report_grants = λ n q source j whole g known last waits wants. changed n
          (sized_granted_block c q _ _ _ (before n));
      release = λ n known. one n (after_release_taken _ (pair n c)) _ refl refl refl refl;
      answer = λ source known. before;
      grant = λ n q d j known sent. changed n (sized_taken_block c d j (before n));
      release_ack = λ n known. one n (after_release_ack (pair n c)) _ refl refl refl refl;
      grant_ack = λ n known. changed n (sized_same _ (before n).truth (λ d. refl) (λ d e. e) (before n));
    }) tt
  where
    pair : ℕ → ℕ → ClientBlock
    pair n = (h.state.block n).pair

    changed : (n : ℕ) {new : Block (List ℕ)} → AreSized new → (j : ℕ) → AreSized (set n new h.state.block j)
    changed n here = sized_block n h.state.block here before

    one : (n : ℕ) (p : ClientBlock) (new : Block (List ℕ)) → new.pair ≡ set c p (pair n)
        → p.acquiring ≡ (pair n c).acquiring → new.truth ≡ (h.state.block n).truth
        → new.waiting ≡ (h.state.block n).waiting → (j : ℕ) → AreSized (set n new h.state.block j)
    one n p new pairs same truth waiting = changed n (sized_pair c p new pairs same truth waiting (before n))

-- ---- operations that are asked

-- what the client's answer says of a Store that is done: it is one of a word, of a block that the client may write
abbrev pub IsSizedAsk : {w : ℕ} → ℕ → Op w → Reply → AbstractState w → Type 0
IsSizedAsk c (Op.Store address size value) Reply.Stored h = (is_word address size ≡ true)
    × (same_perm ((h.state.block (block_at address)).pair c).held Perm.Trunk ≡ true)
IsSizedAsk c o r h = ⊤

sized_acquiring : (c source : ℕ) (whole : Bool) (g : Grow) (bytes : List ℕ) {b : Block (List ℕ)}
    → (whole ≡ true → length bytes ≡ 64) → AreSized b → AreSized (acquiring_block c source whole g bytes b)
sized_acquiring c source whole g bytes {b} long h = record { truth = h.truth; waiting = λ d e. go d (cases_eq d c) e }
  where
    go : (d : ℕ) → (d ≡ c) ⊎ (d ≡ c → ⊥) → is_whole (set c (after_acquire whole g (b.pair c)) b.pair d).acquiring ≡ true
        → length (set c bytes b.waiting d) ≡ 64
    go d e f = grind (arith, set-same, set-other)

pub sized-asked : {w : ℕ} {caching : ℕ → Bool} (c : ℕ) (o : Op w) (r : Reply) (h : AbstractState w)
    → IsInvariant caching h.state → IsTypedOp o → IsSizedAsk c o r h → AllSized h.state → AllSized (asked c o r h).state
sized-asked c (Op.Store address size value) Reply.Stored h inv typed ask before = λ i.
    let n : ℕ = block_at address in
    let b : Block (List ℕ) = h.state.block n in
    sized_block n h.state.block (sized_same (stored_block c (copy_stored address size value (b.copy c)) b)
    (length-stored address size value (b.copy c)
    (ap length ((inv.blocks n).copies c (trunk-some (b.pair c).held ask.1)) ∙ (before n).truth)
    (word_room address size ask.0)) (λ d. refl) (λ d e. e) (before n)) before i
sized-asked c (Op.Acquire n g) (Reply.Started source) h inv typed ask before = λ i. sized_block n h.state.block
    (sized_acquiring c source false g ((h.state.block n).waiting c) (λ e. absurd cc) (before n)) before i
sized-asked c (Op.AcquireWhole n bytes) (Reply.Started source) h inv typed ask before =
    λ i. sized_block n h.state.block (sized_acquiring c source true _ bytes (λ e. typed) (before n)) before i
sized-asked c (Op.Release n p) (Reply.Started source) h inv typed ask before = λ i. sized_block n h.state.block
    (sized_pair c (after_release p ((h.state.block n).pair c)) _ refl refl refl refl (before n)) before i
sized-asked c (Op.Access (Message.A m)) (Reply.Started source) h inv typed ask before = before
sized-asked c o r h inv typed ask before = before

-- ---- one place of two numbers

pub each-set_at : {Y : Type 0} (P : ℕ → ℕ → Y → Type 0) (c k : ℕ) (y : Y) (f : ℕ → ℕ → Y) → P c k y
    → ((d i : ℕ) → P d i (f d i)) → (d i : ℕ) → P d i (set_at c k y f d i)
each-set_at P c k y f here others d i = elim (cases_eq d c) [
  | inl same ↦ rw (same, same_number c) (set-each (P c) k y (f c) here (λ j ne. others c j) i)
  | inr other ↦ rw (ne_eqb d c other) (others d i)
]

-- ---- who isn't a client

abbrev pub AreStrange : Config → (ℕ → ℕ → SourceState) → Type 0
AreStrange config uses = (c source : ℕ) → terms_at config c ≡ None → uses c source ≡ SourceFree

strange_set : (config : Config) (c source : ℕ) (u : SourceState) (uses : ℕ → ℕ → SourceState) (terms : EndConfig)
    → terms_at config c ≡ Some terms → AreStrange config uses → AreStrange config (set_at c source u uses)
strange_set config c source u uses terms known before d i = each-set_at (λ j k v. terms_at config j ≡ None
    → v ≡ SourceFree) c source u uses (λ none. absurd (let e : Some terms ≡ None = sym known ∙ none in cc)) before d i

strange_closed : (config : Config) (c source : ℕ) (uses : ℕ → ℕ → SourceState) → AreStrange config uses
    → AreStrange config (set_at c source SourceFree uses)
strange_closed config c source uses before d i = each-set_at (λ j k v. terms_at config j ≡ None → v ≡ SourceFree) c
    source SourceFree uses (λ none. refl) before d i

-- one that is used isn't of a stranger
strange_used : (config : Config) (c source : ℕ) (u : SourceState) (uses : ℕ → ℕ → SourceState)
    → (uses c source ≡ SourceFree → ⊥) → AreStrange config uses → AreStrange config (set_at c source u uses)
strange_used config c source u uses used before d i = each-set_at (λ j k v. terms_at config j ≡ None → v ≡ SourceFree) c
    source u uses (λ none. absurd (used (before c source none))) before d i

pub strangers-kind_taken : {w : ℕ} {caching : ℕ → Bool} (config : Config) (tracker c : ℕ) (k : Kind) (i : ℕ)
    (rest : List Packet) (h : AbstractState w) (terms : EndConfig)
    → IsInvariant caching h.state → terms_at config c ≡ Some terms
    → AreStrange config h.state.uses → AreStrange config (kind_taken config tracker c k i rest h).state.uses
strangers-kind_taken {w} {caching} config tracker c k i rest h terms inv known before = true-taken config tracker c rest
    h (λ j n. ⊤) (λ x. AreStrange config x.state.uses) k i (record {
      nothing = λ j n first idle. before;
      access_answered = λ source m o first from caps none.
          strange_set config c source Replied h.state.uses terms known before;
      access_served = λ source m j first from caps some.
          strange_set config c source (InService (block_at m.address)) h.state.uses terms known before;
      acquire_granted = λ n whole g first wants none. before;
      acquire_served = λ n whole g first wants some. before;
      probe = λ n first. before;
      report = λ n first more. before;
      report_answers = λ n q source j first last waits. strange_used config q source Replied h.state.uses (λ f. absurd
          (let g : InService n ≡ SourceFree = sym (serving-use n q source j inv waits) ∙ f in cc)) before;
      report_grants = λ n q source j whole g first last waits wants. before;
      release = λ n first. before;
      answer = λ source first. strange_closed config c source h.state.uses before;
      grant = λ n q d j first sent. strange_closed config c ((h.state.block n).source c) h.state.uses before;
      release_ack = λ n first. before;
      grant_ack = λ n first. before;
    }) tt

pub strangers-asked : {w : ℕ} (config : Config) (c : ℕ) (o : Op w) (r : Reply) (h : AbstractState w) (terms : EndConfig)
    → terms_at config c ≡ Some terms → AreStrange config h.state.uses → AreStrange config (asked c o r h).state.uses
strangers-asked config c o r h terms e f = grind (arith, strange_set)

-- ---- accesses and their sources

abbrev pub AreSourced : {w : ℕ} → Config → (ℕ → ℕ → Message w) → (ℕ → ℕ → SourceState) → Type 0
AreSourced config request uses = (c source : ℕ) → IsSourced config c source (request c source) (uses c source)

sourced_set : {w : ℕ} (config : Config) (request : ℕ → ℕ → Message w) (c source : ℕ) (u : SourceState) (uses : ℕ → ℕ
    → SourceState) → IsSourced config c source (request c source) u → AreSourced config request uses
    → AreSourced config request (set_at c source u uses)
sourced_set config request c source u uses here before d i = each-set_at (λ j k v. IsSourced config j k (request j k) v)
    c source u uses here before d i

-- a source that is asked with has its request
asked_request : {w : ℕ} (config : Config) (c source : ℕ) (m : Message w) (u : SourceState) → u ≡ Asked
    → IsSourced config c source m u → IsRequest config c source m
asked_request config c source m u e h = rw e at h

-- and so has one that is in service
pub served-request : {w : ℕ} (config : Config) (q source n : ℕ) (m : Message w) (u : SourceState) → u ≡ InService n
    → IsSourced config q source m u → IsRequest config q source m
served-request config q source n m u e h = rw e at h

pub first-asked : {w : ℕ} {caching : ℕ → Bool} (c i : ℕ) (rest : List Packet) (h : AbstractState w)
    → IsInvariant caching h.state → on Request (h.state.link c) ≡ packet Request i ∷ rest → h.state.uses c i ≡ Asked
first-asked c i rest h inv first = first-request inv first

pub sourced-kind_taken : {w : ℕ} {caching : ℕ → Bool} (config : Config) (tracker c : ℕ) (k : Kind) (i : ℕ)
    (rest : List Packet) (h : AbstractState w) → IsInvariant caching h.state → on k (h.state.link c) ≡ packet k i ∷ rest
    → AreSourced config h.mail.request h.state.uses
    → AreSourced config (kind_taken config tracker c k i rest h).mail.request
    (kind_taken config tracker c k i rest h).state.uses
sourced-kind_taken config tracker c k i rest h inv first before = true-taken config tracker c rest h (λ j n. on j
    (h.state.link c) ≡ packet j n ∷ rest) (λ x. AreSourced config x.mail.request x.state.uses) k i (record {
      nothing = λ j n known idle. before;
      access_answered = λ source m o known from caps none. used c source Replied (asked_request config c source _
          (h.state.uses c source) (first-asked c source rest h inv known) (before c source));
      access_served = λ source m j known from caps some. used c source _ (asked_request config c source _
          (h.state.uses c source) (first-asked c source rest h inv known) (before c source));
      acquire_granted = λ n whole g known wants none. before;
      acquire_served = λ n whole g known wants some. before;
      probe = λ n known. before;
      report = λ n known more. before;
      report_answers = λ n q source j known last waits. used q source Replied (served-request config q source n _
          (h.state.uses q source) (serving-use n q source j inv waits) (before q source));
      report_grants = λ n q source j whole g known last waits wants. before;
      release = λ n known. before;
      answer = λ source known. used c source _ tt;
      grant = λ n q d j known sent. used c _ _ tt;
      release_ack = λ n known. before;
      grant_ack = λ n known. before;
    }) first
  where
    used : (d source : ℕ) (u : SourceState) → IsSourced config d source (h.mail.request d source) u
        → AreSourced config h.mail.request (set_at d source u h.state.uses)
    used d source u here = sourced_set config h.mail.request d source u h.state.uses here before

-- what the client's answer says of the access that starts
abbrev pub IsSourcedAsk : {w : ℕ} → Config → ℕ → Op w → Reply → Type 0
IsSourcedAsk config c (Op.Access (Message.A m)) (Reply.Started source) = IsRequest config c source (access source m)
IsSourcedAsk config c o r = ⊤

pub sourced-asked : {w : ℕ} (config : Config) (c : ℕ) (o : Op w) (r : Reply) (h : AbstractState w)
    → IsSourcedAsk config c o r → AreSourced config h.mail.request h.state.uses
    → AreSourced config (asked c o r h).mail.request (asked c o r h).state.uses
sourced-asked config c (Op.Acquire n g) (Reply.Started source) h ask before =
    sourced_set config h.mail.request c source _ h.state.uses tt before
sourced-asked config c (Op.AcquireWhole n bytes) (Reply.Started source) h ask before =
    sourced_set config h.mail.request c source _ h.state.uses tt before
sourced-asked {w} config c (Op.Access (Message.A m)) (Reply.Started source) h ask before = λ d i. elim (cases_eq d c) [
  | inl same ↦ elim (cases_eq i source) [
    | inl also ↦ rw (same, also) (now _ _ (ap (λ f. f source) (set-same c (set source
        (access source m) (h.mail.request c)) h.mail.request) ∙ set-same source (access source m) (h.mail.request c))
        (cc (set-same c (set source Asked (h.state.uses c)) h.state.uses, set-same source Asked (h.state.uses c))))
    | inr other ↦ rw (same, same_number c, ne_eqb i source other) (before c i)
  ]
  | inr other ↦ rw (ne_eqb d c other) (before d i)
]
  where
    now : (m2 : Message w) (u : SourceState) → m2 ≡ access source m → u ≡ Asked → IsSourced config c source m2 u
    now m2 u e f = rw (e, f) ask
sourced-asked config c (Op.Store address size value) Reply.Stored h ask before = before
sourced-asked config c (Op.Release n p) (Reply.Started source) h ask before = before
sourced-asked config c o r h ask before = before
