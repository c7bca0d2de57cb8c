-- The Acquire that waits is the one that its client has open: after any event.
-- Under the first profile a Grant that is on its way gives what was asked for: after every event.
-- A response that the values of a history allow breaks no rule of order after it: at a client's end and in what is
-- delivered alike.
use Rattle.std.proofs.Common.{◌≡◌, ℕ, Bool, true, false, not, ◌&&◌, ◌==◌, List, [], Option, Some, None, refl, sym, ◌∙◌}
use Rattle.std.proofs.Common.{ap, arith, inl, inr, option_map}
use Rattle.tl_coherence.proofs
use proofs.Imports.{cases_eq, same_Some, ⊤, Beat, BeatA, BeatC, BeatD, Channel, OpD, Message, MessageA, History}
use proofs.Imports.{unfinished, Config, GrantSink, ProbeOf, ReleaseSource, RequestSource, Cap, Grow, Perm, Profile}
use proofs.Imports.{broken_in_order, comes_in_release, comes_in_request, fits_grow, is_acquire_block}
use proofs.Imports.{is_grant_without_data, same_perm, broken_order, block_at, is_grant, is_release_ack, held, pending}
use proofs.Imports.{release_of, request_of, Op, Reply, copy_stored, whole_grow, acquisition, IsInvariant, Acquire, Kind}
use proofs.Imports.{Packet, set, AcquireOpen, ClientBlock, NoAcquire, is_unacquired, after_acquire, after_grant_sent}
use proofs.Imports.{after_probe, after_release, after_release_ack, after_release_taken, after_report, Block, GrantSent}
use proofs.Imports.{Service, State, Waits, acquiring_block, releasing_block, served_block, stored_block, AbstractState}
use proofs.Imports.{acquire_opcode, asked, gift, kind_taken, block_message, IsAcquireOf, IsGivenAsked, gives_asked}
use Rattle.tl_rules.specs.statement.Conformance.{answers, has_request, misgrants, size_asked, size_of_release}
use proofs.queues.Tokens.{same_number, set-same, set-other, set-part, set-each}
use proofs.queues.Facts.{granting_asks, own_wants}
use proofs.protocol.{HeadOfD.own_view, HeadOfD.true-taken, FollowKept.IsAskable}

-- of all blocks
abbrev pub AreAcquired : {w : ℕ} → (ℕ → MessageA w) → (ℕ → Block (List ℕ)) → Type 0
AreAcquired request block = (n : ℕ) → IsAcquireOf n (block n) (block n).service (request n)

-- ---- one block

-- the client whose Acquire waits has it open as before
abbrev KeepsOpen : Block (List ℕ) → Block (List ℕ) → Type 0
KeepsOpen b new = (r source : ℕ) (k : Cap) → b.service ≡ Waits r true source k
    → ((new.pair r).acquiring ≡ (b.pair r).acquiring) × (new.source r ≡ b.source r)

still : {w : ℕ} (n : ℕ) (b new : Block (List ℕ)) (m : MessageA w) → new.service ≡ b.service → KeepsOpen b new
    → IsAcquireOf n b b.service m → IsAcquireOf n new new.service m
unfolding block_message
still {w} n b new m same keeps is = grind arith

-- in the place of one block
replaced : {w : ℕ} (n : ℕ) (new : Block (List ℕ)) (block : ℕ → Block (List ℕ)) (m : MessageA w) (request : ℕ
    → MessageA w) → IsAcquireOf n new new.service m
    → AreAcquired request block → AreAcquired (set n m request) (set n new block)
replaced n new block m request here others i = elim (cases_eq i n) [
  | inl same ↦ rw same (rw (set-same n new block, set-same n m request) here)
  | inr other ↦ rw (set-other n i new block other, set-other n i m request other) (others i)
]

kept : {w : ℕ} (n : ℕ) (new : Block (List ℕ)) (block : ℕ → Block (List ℕ)) (request : ℕ → MessageA w)
    → IsAcquireOf n new new.service (request n) → AreAcquired request block → AreAcquired request (set n new block)
kept n new block request here others i = elim (cases_eq i n) [
  | inl same ↦ rw same (rw (set-same n new block) here)
  | inr other ↦ rw (set-other n i new block other) (others i)
]

-- where its service and who wants what stay
unmoved : {w : ℕ} (n : ℕ) (new : Block (List ℕ)) (block : ℕ → Block (List ℕ)) (request : ℕ → MessageA w)
    → new.service ≡ (block n).service
    → KeepsOpen (block n) new → AreAcquired request block → AreAcquired request (set n new block)
unmoved n new block request same keeps is = grind (arith, kept, still)

-- one client's pair changes, and not what it wants
unwanting : (c : ℕ) (p : ClientBlock) (b new : Block (List ℕ)) → ((d : ℕ) → new.pair d ≡ set c p b.pair d)
    → p.acquiring ≡ (b.pair c).acquiring → ((d : ℕ) → new.source d ≡ b.source d) → KeepsOpen b new
unwanting c p b new pairs same sources r source k e = grind arith

-- ---- requests

waiting_for : {w : ℕ} (c n tracker : ℕ) (k : Cap) (whole : Bool) (g : Grow) (b : Block (List ℕ))
    → (b.pair c).acquiring ≡ AcquireOpen whole g
    → block_message {w = w} Acquire c n (served_block c true (b.source c) tracker k b) ≡ Message.A
    (acquisition (acquire_opcode whole) g (b.source c) n)
unfolding block_message
waiting_for {w} c n tracker k whole g b wants = grind arith

pub kind_taken-acquired : {w : ℕ} (config : Config) (tracker c : ℕ) (k : Kind) (i : ℕ) (rest : List Packet)
    (h : AbstractState w) → AreAcquired h.request h.state.block
    → AreAcquired (kind_taken config tracker c k i rest h).request (kind_taken config tracker c k i rest h).state.block
kind_taken-acquired config tracker c k i rest h is = true-taken config tracker c rest h (λ j n. ⊤)
    (λ x. AreAcquired x.request x.state.block) k i (record {
      nothing = λ j n known idle. is;
      access_answered = λ source m o known from caps none. unmoved (block_at m.address) _ h.state.block h.request refl
          (λ r s j e. (refl, refl)) is;
      access_served = λ source m j known from caps some. replaced _ _ h.state.block m h.request tt is;
      acquire_granted = λ n whole g known wants none. replaced n _ h.state.block _ h.request tt is;
      acquire_served = λ n whole g known wants some. replaced n _ h.state.block _ h.request
          (waiting_for c n tracker _ whole g (h.state.block n) wants) is;
      probe = λ n known. one n (after_probe _ (pair n c)) _ refl (λ d. refl) refl (λ d. refl);
      report = λ n known more. one n (after_report _ (pair n c)) _ refl (λ d. refl) refl (λ d. refl);
      report_answers = λ n q source j known last waits. kept n _ h.state.block h.request tt is;
      report_grants = λ n q source j whole g known last waits wants. kept n _ h.state.block h.request tt is;
      release = λ n known. one n (after_release_taken _ (pair n c)) _ refl (λ d. refl) refl (λ d. refl);
      answer = λ source known. is;
      grant = λ n q d j known sent. kept n _ h.state.block h.request tt is;
      release_ack = λ n known. one n (after_release_ack (pair n c)) _ refl (λ d. refl) refl (λ d. refl);
      grant_ack = λ n known. kept n _ h.state.block h.request tt is;
    }) tt
  where
    pair : ℕ → ℕ → ClientBlock
    pair n = (h.state.block n).pair

    one : (n : ℕ) (p : ClientBlock) (new : Block (List ℕ)) → new.service ≡ (h.state.block n).service
        → ((d : ℕ) → new.pair d ≡ set c p (pair n) d) → p.acquiring ≡ (pair n c).acquiring
        → ((d : ℕ) → new.source d ≡ (h.state.block n).source d) → AreAcquired h.request (set n new h.state.block)
    one n p new same pairs acquiring sources = unmoved n new h.state.block h.request same
        (unwanting c p (h.state.block n) new pairs acquiring sources) is

-- ---- operations that are asked

-- a client that has none open asks for another Acquire
acquiring-acquired : {w : ℕ} {caching : ℕ → Bool} (c n source : ℕ) (whole : Bool) (g : Grow) (bytes : List ℕ)
    (h : AbstractState w) → IsInvariant caching h.state
    → ((h.state.block n).pair c).acquiring ≡ NoAcquire → AreAcquired h.request h.state.block
    → AreAcquired h.request (set n (acquiring_block c source whole g bytes (h.state.block n)) h.state.block)
acquiring-acquired {w} c n source whole g bytes h inv calm is =
    let keeps : KeepsOpen b (acquiring_block c source whole g bytes b) = λ r from k e. (
      ap (λ p. p.acquiring) (set-other c r (after_acquire whole g (b.pair c)) b.pair (apart r from k e)),
      set-other c r source b.source (apart r from k e),
    ) in
    unmoved n _ h.state.block h.request refl keeps is
  where
    b : Block (List ℕ)
    b = h.state.block n

    apart : (r from : ℕ) (k : Cap) → b.service ≡ Waits r true from k → r ≡ c → ⊥
    apart r from k e same =
        let wants = own_wants _ _ ((inv.blocks n).phases r) (rw (e, same_number r) refl) in
        let no : false ≡ true = rw calm at (rw same at wants) in
        cc

pub asked-acquired : {w : ℕ} {caching : ℕ → Bool} (c : ℕ) (o : Op w) (r : Reply) (h : AbstractState w)
    → IsInvariant caching h.state → IsAskable caching c o r h
    → AreAcquired h.request h.state.block → AreAcquired (asked c o r h).request (asked c o r h).state.block
asked-acquired c (Op.Store address size value) Reply.Stored h inv may is = unmoved (block_at address)
    (stored_block c (copy_stored address size value ((h.state.block (block_at address)).copy c))
    (h.state.block (block_at address))) h.state.block h.request refl (λ r from k e. (refl, refl)) is
asked-acquired c (Op.Acquire n g) (Reply.Started source) h inv may is =
    acquiring-acquired c n source false g ((h.state.block n).waiting c) h inv may.2 is
asked-acquired c (Op.AcquireWhole n bytes) (Reply.Started source) h inv may is =
    acquiring-acquired c n source true (whole_grow ((h.state.block n).pair c).held) bytes h inv may.2 is
asked-acquired c (Op.Release n p) (Reply.Started source) h inv may is = unmoved n (releasing_block c source p
    (h.state.block n)) h.state.block h.request refl (unwanting c (after_release p ((h.state.block n).pair c))
    (h.state.block n) (releasing_block c source p (h.state.block n)) (λ d. refl) refl (λ d. refl)) is
asked-acquired c (Op.Access (Message.A m)) (Reply.Started source) h inv may is = is
asked-acquired c o r h inv may is = is

abbrev pub AreGiven : Profile → State (List ℕ) → Type 0
AreGiven p s = (n : ℕ) → IsGivenAsked p (s.block n).service (s.block n).pair

-- ---- one block

given-pairs : (p : Profile) (service : Service) (pair pair' : ℕ → ClientBlock)
    → ((q : ℕ) → (pair' q).acquiring ≡ (pair q).acquiring) → IsGivenAsked p service pair → IsGivenAsked p service pair'
given-pairs p service pair pair' e f = grind arith

-- one client's pair is another, with the same Acquire
given-pair : (p : Profile) (service : Service) (c : ℕ) (x : ClientBlock) (pair : ℕ → ClientBlock)
    → x.acquiring ≡ (pair c).acquiring → IsGivenAsked p service pair → IsGivenAsked p service (set c x pair)
given-pair p service c x pair same h = grind (arith, given-pairs, set-part)

given-set : (p : Profile) (n : ℕ) (b : Block (List ℕ)) (s : State (List ℕ)) → AreGiven p s
    → IsGivenAsked p b.service b.pair → (i : ℕ) → IsGivenAsked p (set n b s.block i).service (set n b s.block i).pair
given-set p n b s h new = set-each (λ i (x : Block (List ℕ)). IsGivenAsked p x.service x.pair) n b s.block new
    (λ i other. h i)

-- an Acquire that starts is of nobody who is granted
given-acquiring : (p : Profile) (c : ℕ) (whole : Bool) (g : Grow) (service : Service) (pair : ℕ → ClientBlock)
    → ((d : Bool) (k : Cap) → service ≡ GrantSent c d k → ⊥) → IsGivenAsked p service pair
    → IsGivenAsked p service (set c (after_acquire whole g (pair c)) pair)
given-acquiring p c whole g service pair e f = grind (arith, set-other)

-- what the manager gives
gift_given : (p : Profile) (whole : Bool) (g : Grow) (unheld : Bool)
    → gives_asked p (AcquireOpen whole g) (gift p whole g unheld) ≡ true
gift_given p whole g unheld = grind arith

-- ---- operations

not_granting : {caching : ℕ → Bool} (c n : ℕ) {s : State (List ℕ)} → IsInvariant caching s
    → ((s.block n).pair c).acquiring ≡ NoAcquire → (d : Bool) (k : Cap) → (s.block n).service ≡ GrantSent c d k → ⊥
not_granting c n {s} inv calm d k sent =
    let asks = granting_asks d k _ _ ((inv.blocks n).phases c) (own_view c d k (s.block n).service sent) in
    let no : false ≡ true = sym (ap (λ a. not (is_unacquired a)) calm) ∙ asks in
    cc

pub given-asked : {w : ℕ} {caching : ℕ → Bool} (p : Profile) (c : ℕ) (o : Op w) (r : Reply) (h : AbstractState w)
    → IsInvariant caching h.state → IsAskable caching c o r h → AreGiven p h.state → AreGiven p (asked c o r h).state
given-asked p c (Op.Store address size value) Reply.Stored h inv may given =
    let n = block_at address in
    given-set p n _ h.state given (given n)
given-asked p c (Op.Acquire n g) (Reply.Started source) h inv may given = given-set p n _ h.state given (given-acquiring
    p c false g (h.state.block n).service (h.state.block n).pair (not_granting c n inv may.2) (given n))
given-asked p c (Op.AcquireWhole n bytes) (Reply.Started source) h inv may given =
    let g = whole_grow ((h.state.block n).pair c).held in
    given-set p n _ h.state given
    (given-acquiring p c true g (h.state.block n).service (h.state.block n).pair (not_granting c n inv may.2) (given n))
given-asked p c (Op.Release n r) (Reply.Started source) h inv may given = given-set p n _ h.state given (given-pair p
    (h.state.block n).service c (after_release r ((h.state.block n).pair c)) (h.state.block n).pair refl (given n))
given-asked p c (Op.Access (Message.A m)) (Reply.Started source) h inv may given = given
given-asked p c o r h inv may given = given

-- ---- messages that are taken

-- a Grant that is sent gives what was asked for
given_granted : (p : Profile) (q : ℕ) (whole : Bool) (g : Grow) (unheld : Bool) (x : ClientBlock)
    (pair : ℕ → ClientBlock) → x.acquiring ≡ AcquireOpen whole g
    → gives_asked p (set q x pair q).acquiring (gift p whole g unheld) ≡ true
given_granted p q whole g unheld x pair is = cc (set-same q x pair, gift_given p whole g unheld)

pub given-kind_taken : {w : ℕ} (config : Config) (tracker c : ℕ) (k : Kind) (i : ℕ) (rest : List Packet)
    (h : AbstractState w) → AreGiven config.profile h.state
    → AreGiven config.profile (kind_taken config tracker c k i rest h).state
given-kind_taken config tracker c k i rest h given = true-taken config tracker c rest h (λ j n. ⊤)
    (λ x. AreGiven config.profile x.state) k i (record {
      nothing = λ j n known idle. given;
      access_answered = λ source m o known is caps none. changed (block_at m.address) _ (given (block_at m.address));
      access_served = λ source m j known is caps some. changed (block_at m.address) _ tt;
      acquire_granted = λ n whole g known is none. changed n _
          (given_granted config.profile c whole g _ (after_grant_sent _ (pair n c)) (pair n) is);
      acquire_served = λ n whole g known is some. changed n _ tt;
      probe = λ n known. changed n _ (one n (after_probe _ (pair n c)) refl);
      report = λ n known more. changed n _ (one n (after_report _ (pair n c)) refl);
      report_answers = λ n q source j known last waits. changed n _ tt;
      report_grants = λ n q source j whole g known last waits is. changed n _
          (given_granted config.profile q whole g _ (after_grant_sent _ (pair n q)) (set c _ (pair n)) is);
      release = λ n known. changed n _ (one n (after_release_taken _ (pair n c)) refl);
      answer = λ source known. given;
      grant = λ n q d j known sent. changed n _ tt;
      release_ack = λ n known. changed n _ (one n (after_release_ack (pair n c)) refl);
      grant_ack = λ n known. changed n _ tt;
    }) tt
  where
    pair : ℕ → ℕ → ClientBlock
    pair n = (h.state.block n).pair

    changed : (n : ℕ) (b : Block (List ℕ)) → IsGivenAsked config.profile b.service b.pair → (j : ℕ)
        → IsGivenAsked config.profile (set n b h.state.block j).service (set n b h.state.block j).pair
    changed n b new = given-set _ n b h.state given new

    one : (n : ℕ) (x : ClientBlock) → x.acquiring ≡ (pair n c).acquiring
        → IsGivenAsked config.profile (h.state.block n).service (set c x (pair n))
    one n x same = given-pair _ _ c x (pair n) same (given n)

begun : {w : ℕ} (p : Profile) (x : BeatD w) (t : History w) → unfinished Channel.D t ≡ [] → has_request x t ≡ true
    → (x.size == size_asked x t) ≡ true → (is_grant x.opcode && misgrants p x (request_of x.source t) t) ≡ false
    → (is_grant x.opcode && pending (GrantSink x.sink) t) ≡ false → broken_in_order p (Beat.D x) t ≡ None
unfolding broken_order
begun p x t none asked sized fits once = rw none (rw (asked, sized, fits, once) refl)

-- ---- requests

-- the request that a response answers
pub record IsResponse {w : ℕ} (x : BeatD w) (r : BeatA w) (t : History w) : Type 0 where
  pub whole : unfinished Channel.D t ≡ []
  pub complete : comes_in_request x.source (unfinished Channel.A t) ≡ false
  pub other : is_release_ack x.opcode ≡ false
  pub live : pending (RequestSource x.source) t ≡ true
  pub request : request_of x.source t ≡ Some r
  pub admits : answers x.opcode r.opcode ≡ true
  pub size : x.size ≡ r.size

asked_for : {w : ℕ} {x : BeatD w} {r : BeatA w} {t : History w} → IsResponse x r t → has_request x t ≡ true
asked_for is = rw (is.other, is.live, is.complete, is.request) is.admits

size_for : {w : ℕ} {x : BeatD w} {r : BeatA w} {t : History w} → IsResponse x r t → (x.size == size_asked x t) ≡ true
size_for {r} is = rw (is.other, is.request, is.size) (same_number r.size)

pub answer-legal : {w : ℕ} (p : Profile) {x : BeatD w} {r : BeatA w} {t : History w} → IsResponse x r t
    → is_grant x.opcode ≡ false → broken_in_order p (Beat.D x) t ≡ None
answer-legal p {x} {t} is plain = begun p x t is.whole (asked_for is) (size_for is) (rw plain refl) (rw plain refl)

-- a Grant of block n gives what was asked for, to a client that gets data or has a copy, and nothing
-- of the block is probed
pub grant-legal : {w : ℕ} (p : Profile) (n : ℕ) {x : BeatD w} {r : BeatA w} {t : History w} → IsResponse x r t
    → block_at r.address ≡ n → fits_grow p r.opcode r.param x.param ≡ true
    → (is_grant_without_data x.opcode && (is_acquire_block r.opcode && not (same_perm (held n t) Perm.Branch))) ≡ false
    → pending (ProbeOf n) t ≡ false → pending (GrantSink x.sink) t ≡ false → broken_in_order p (Beat.D x) t ≡ None
grant-legal {w} p n {x} {r} {t} is block fits carried unprobed once = grind (arith, begun, size_for)

-- ---- Releases

release_size : {w : ℕ} (n : ℕ) (o : Option (BeatC w)) → option_map (λ (y : BeatC w). y.size) o ≡ Some n
    → size_of_release o ≡ n
release_size n o e = grind (arith, same_Some)

pub ack-legal : {w : ℕ} (p : Profile) (x : BeatD w) (t : History w) → unfinished Channel.D t ≡ []
    → comes_in_release x.source (unfinished Channel.C t) ≡ false → x.opcode ≡ OpD.ReleaseAck
    → pending (ReleaseSource x.source) t ≡ true → option_map (λ (y : BeatC w). y.size) (release_of x.source t)
    ≡ Some x.size → broken_in_order p (Beat.D x) t ≡ None
ack-legal p x t none complete opcode live size =
    let acks : is_release_ack x.opcode ≡ true = ap (λ o. is_release_ack o) opcode in
    let plain : is_grant x.opcode ≡ false = ap (λ o. is_grant o) opcode in
    let asked : has_request x t ≡ true = rw (acks, live, complete) refl in
    let sized : (x.size == size_asked x t) ≡ true = rw (acks, release_size _ _ size) (same_number x.size) in
    begun p x t none asked sized (rw plain refl) (rw plain refl)
