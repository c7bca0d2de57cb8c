-- A client's end of its link beside the protocol, in one record; and what of the protocol it depends on.
-- A beat of channel D that is delivered to a client is taken.
use Rattle.std.proofs.Common.{◌≡◌, ℕ, zero, suc, Bool, true, false, not, ◌&&◌, ◌||◌, ◌==◌, if◌then◌else◌, cond, List}
use Rattle.std.proofs.Common.{[], ◌∷◌, Option, Some, None, refl, sym, ◌∙◌, ap, subst, arith, ◌⊎◌, All, is_some}
use Rattle.tl_coherence.proofs
use proofs.Imports.{not-true, Beat, BeatA, Channel, Message, MessageA, MessageD, a_beat_of, beat_of, begun, History}
use proofs.Imports.{unfinished, Config, AcquireOf, ReleaseOf, RequestSource, Cap, Grow, Perm, Profile, cap_code}
use proofs.Imports.{grow_code, later-legal, is_outside, broken_in_order, fits_grow, is_acquire_block}
use proofs.Imports.{is_grant_without_data, same_perm, held, pending, request_of, illegal, same_block, EndConfig}
use proofs.Imports.{Endpoint, is_acquire_beat, taken, waits, offered, open_beat, acquisition, no_ack_grant}
use proofs.Imports.{grant_opcode, release_ack, level_of, Acquire, set, AcquireOpen, cap_fits, grant_fits, is_unreleased}
use proofs.Imports.{is_whole, Acquires, Asked, Block, InService, Replied, SourceFree, SourceState, State, is_wanting}
use proofs.Imports.{acquire_opcode, ClientRelation, comes_granting, AccessMessages, acquire_of, block_message}
use proofs.Imports.{SimulationRelation, asked_by, asked_for, block_used, first_of, gives_asked, OpenSourceRelation, Log}
use proofs.Imports.{System, terms_at}
use Rattle.tl_rules.specs.statement.Conformance.{answers}
use Rattle.tl_rules.specs.statement.Conformance as rules
use Rattle.tl_manager.specs.code.Kept as manager
use Rattle.tl_client.{specs.laws.Accounted.IsAccounted, specs.statement.EndpointInvariant.IsGranting}
use Rattle.tl_client.specs.laws.Accounted as accounted
use Rattle.tl_client.specs.statement.EndpointInvariant as client
use proofs.queues.{Carried.IsNext, Passes.client-takes, Phases.and_left, Phases.and_right, Codes.access_kind}
use proofs.client.Waiting.{answer-legal, grant-legal, ack-legal}
use proofs.protocol.HeadOfD.{IsAnswerDue, IsGrantDue, grant_message}

-- ---- one client's end

-- what each call keeps of an end by itself
pub record IsWellKept {w : ℕ} (e : Endpoint w) : Type 0 where
  pub kept : client.IsEndpointInvariant e
  pub accounted : IsAccounted e.past

-- what client c's end knows of blocks and of sources
abbrev pub IsKnown : {w : ℕ} → (ℕ → Option (BeatA w)) → List (Beat w) → ℕ → State (List ℕ) → History w → Type 0
IsKnown asked rest c s t = ClientRelation asked rest c s t × OpenSourceRelation asked c s t

-- The end of client c: `asked` is the first beat of the open request of each source.
pub record IsEnd {w : ℕ} (asked : ℕ → Option (BeatA w)) (c : ℕ) (s : State (List ℕ)) (e : Endpoint w) : Type 0 where
  pub knows : IsKnown asked (unfinished Channel.D e.past) c s e.past
  pub well : IsWellKept e
  pub copies : (n : ℕ) → same_perm ((s.block n).pair c).held Perm.None ≡ false → e.copies n ≡ Some ((s.block n).copy c)
  pub waiting : (n : ℕ) → is_whole ((s.block n).pair c).acquiring ≡ true → e.waiting n ≡ Some ((s.block n).waiting c)
  pub live : e.closed ≡ false

pub end-matched : {w : ℕ} {config : Config} {log : Log w} {mail : AccessMessages w} {request : ℕ → MessageA w}
    {s : State (List ℕ)} {sys : System w} → SimulationRelation config log mail request s sys → (c : ℕ)
    → IsEnd (asked_by mail s c) c s (sys.clients c)
end-matched h c = record {
  knows = (h.known c, h.opened c);
  well = record { kept = h.kept c; accounted = h.accounted c };
  copies = h.copies c;
  waiting = h.waiting c;
  live = h.live c;
}

-- a pending request is the open one
pub open-is : {w : ℕ} (source : ℕ) (t : History w) → is_acquire_beat (open_beat source t) ≡ true
    → request_of source t ≡ open_beat source t
open-is {w} source t some = grind arith

coming_is : {w : ℕ} (asked : ℕ → Option (BeatA w)) (n : ℕ) (rest : List (Beat w)) (t : History w) → IsGranting rest t
    → ((source : ℕ) → open_beat source t ≡ asked source)
    → accounted.comes_granting n rest t ≡ comes_granting n asked rest
coming_is asked n rest t e f = grind (arith, open-is)

-- what is known of a well kept end, given what it holds and has open
pub known-kept : {w : ℕ} (asked : ℕ → Option (BeatA w)) (c : ℕ) (s : State (List ℕ)) {e : Endpoint w} → IsWellKept e
    → ((n : ℕ) → held n e.past ≡ ((s.block n).pair c).held)
    → ((n : ℕ) → pending (AcquireOf n) e.past ≡ is_wanting ((s.block n).pair c).acquiring)
    → ((n : ℕ) → pending (ReleaseOf n) e.past ≡ not (is_unreleased ((s.block n).pair c).letting))
    → ((source : ℕ) → open_beat source e.past ≡ asked source) → ClientRelation asked (unfinished Channel.D e.past) c s
    e.past
known-kept asked c s {e} well held_is acquires releases opens = grind (arith, coming_is)

-- ---- what the protocol says of it

-- what it says of client c's end is as before
pub record IsSame {w : ℕ} (c : ℕ) (asked asked' : ℕ → Option (BeatA w)) (s s' : State (List ℕ)) : Type 0 where
  pub held : (n : ℕ) → ((s'.block n).pair c).held ≡ ((s.block n).pair c).held
  pub acquiring : (n : ℕ) → ((s'.block n).pair c).acquiring ≡ ((s.block n).pair c).acquiring
  pub letting : (n : ℕ) → is_unreleased ((s'.block n).pair c).letting ≡ is_unreleased ((s.block n).pair c).letting
  pub lets : (source : ℕ) → s'.lets c source ≡ s.lets c source
  pub asks : (source : ℕ) → asked' source ≡ asked source

pub comes-same : {w : ℕ} (n : ℕ) (asked asked' : ℕ → Option (BeatA w)) (rest : List (Beat w))
    → ((source : ℕ) → asked' source ≡ asked source) → comes_granting n asked' rest ≡ comes_granting n asked rest
comes-same n asked asked' rest e = grind arith

pub knows-same : {w : ℕ} {c : ℕ} {asked asked' : ℕ → Option (BeatA w)} {rest : List (Beat w)} {s s' : State (List ℕ)}
    {t : History w} → IsSame c asked asked' s s' → IsKnown asked rest c s t → IsKnown asked' rest c s' t
knows-same {asked} {asked'} {rest} same (known, open_) = (
  record {
    held_is = λ n. known.held_is n ∙ sym (same.held n);
    acquires = λ n. known.acquires n ∙ ap is_wanting (sym (same.acquiring n));
    releases = λ n. known.releases n ∙ ap not (sym (same.letting n));
    probes = known.probes;
    opens = λ source. known.opens source ∙ sym (same.asks source);
    rest_is = known.rest_is;
    sinks = known.sinks;
    grants = λ n. known.grants n ∙ sym (comes-same n asked asked' rest same.asks);
  },
  record {
    requests = λ source. open_.requests source ∙ sym (rw (same.asks source) refl);
    releases = λ source. open_.releases source ∙ sym (rw (same.lets source) refl);
    released = λ source n some. open_.released source n (sym (same.lets source) ∙ some);
    sizes = λ source n some. open_.sizes source n (sym (same.lets source) ∙ some);
  },
)

-- and so are its bytes
pub record IsSameCopy (c : ℕ) (s s' : State (List ℕ)) : Type 0 where
  pub copy : (n : ℕ) → (s'.block n).copy c ≡ (s.block n).copy c
  pub waiting : (n : ℕ) → (s'.block n).waiting c ≡ (s.block n).waiting c

-- an end of which the protocol says the same is kept
end-same : {w : ℕ} {c : ℕ} {asked asked' : ℕ → Option (BeatA w)} {s s' : State (List ℕ)} {e : Endpoint w}
    → IsSame c asked asked' s s' → IsSameCopy c s s' → IsEnd asked c s e → IsEnd asked' c s' e
end-same same bytes end = record {
  knows = knows-same same end.knows;
  well = end.well;
  copies = λ n some. end.copies n (sym (rw (same.held n) refl) ∙ some) ∙ ap Some (sym (bytes.copy n));
  waiting = λ n storing. end.waiting n (sym (rw (same.acquiring n) refl) ∙ storing) ∙ ap Some (sym (bytes.waiting n));
  live = end.live;
}

-- ---- the open requests

-- a use for an access
abbrev pub is_access : SourceState → Bool
is_access Asked = true
is_access (InService n) = true
is_access Replied = true
is_access _ = false

-- an access stays the same as it goes from the channel to its service and to its answer
abbrev pub IsSameUse : SourceState → SourceState → Type 0
IsSameUse u v = (v ≡ u) ⊎ ((is_access u ≡ true) × (is_access v ≡ true))

access_asks : {w : ℕ} (u : SourceState) (request : Message w) → is_access u ≡ true → (acquire : Message w)
    → asked_for u request acquire ≡ first_of request
access_asks u request e acquire = grind arith

-- what a use asks for
abbrev asked_with : {w : ℕ} → SourceState → Message w → (ℕ → Block (List ℕ)) → ℕ → Option (BeatA w)
asked_with u request block c = asked_for u request (block_message Acquire c (block_used u) (block (block_used u)))

acquires_same : {w : ℕ} (u : SourceState) (request : Message w) (block block' : ℕ → Block (List ℕ)) (c : ℕ)
    → ((n : ℕ) → u ≡ Acquires n → ((block' n).pair c).acquiring ≡ ((block n).pair c).acquiring)
    → ((n : ℕ) → u ≡ Acquires n → (block' n).source c ≡ (block n).source c)
    → asked_with u request block' c ≡ asked_with u request block c
unfolding block_message
acquires_same u request block block' c e f = grind arith

-- one source asks for the same where its use, its access and its Acquire are as before
pub asks-same : {w : ℕ} (c source : ℕ) (mail mail' : AccessMessages w) (s s' : State (List ℕ))
    → mail'.request c source ≡ mail.request c source → IsSameUse (s.uses c source) (s'.uses c source)
    → ((n : ℕ) → s.uses c source ≡ Acquires n → ((s'.block n).pair c).acquiring ≡ ((s.block n).pair c).acquiring)
    → ((n : ℕ) → s.uses c source ≡ Acquires n → (s'.block n).source c ≡ (s.block n).source c)
    → asked_by mail' s' c source ≡ asked_by mail s c source
asks-same c source mail mail' s s' e f g h = grind (arith, acquires_same, access_asks)

-- a source that is closed asks for nothing, and the use that is an access for it, and that of an Acquire for that
pub asks-closed : {w : ℕ} (c source : ℕ) (mail : AccessMessages w) (s : State (List ℕ)) → s.uses c source ≡ SourceFree
    → asked_by mail s c source ≡ None
asks-closed c source mail s used = ap (λ u. asked_with u (mail.request c source) s.block c) used

pub asks-access : {w : ℕ} (c source : ℕ) (m : MessageA w) (mail : AccessMessages w) (s : State (List ℕ))
    → is_access (s.uses c source) ≡ true
    → mail.request c source ≡ Message.A m → asked_by mail s c source ≡ Some (a_beat_of m 0)
asks-access {w} c source m mail s used request = grind (arith, access_asks)

acquire-first : {w : ℕ} (whole : Bool) (g : Grow) (source n : ℕ)
    → first_of (acquire_of {w = w} (AcquireOpen whole g) source n) ≡ Some
    (a_beat_of (acquisition (acquire_opcode whole) g source n) 0)
acquire-first true g source n = refl
acquire-first false g source n = refl

pub asks-acquire : {w : ℕ} (c source n i : ℕ) (whole : Bool) (g : Grow) (mail : AccessMessages w) (s : State (List ℕ))
    → s.uses c source ≡ Acquires n → ((s.block n).pair c).acquiring ≡ AcquireOpen whole g → (s.block n).source c ≡ i
    → asked_by mail s c source ≡ Some (a_beat_of (acquisition (acquire_opcode whole) g i n) 0)
unfolding block_message
asks-acquire {w} c source n i whole g mail s used wants from = cc (used, wants, from, acquire-first whole g i n)

-- ---- events that leave a client's end alone

-- all that the protocol says of client c's end is as before
pub record IsAside {w : ℕ} (c : ℕ) (mail mail' : AccessMessages w) (s s' : State (List ℕ)) : Type 0 where
  pub held : (n : ℕ) → ((s'.block n).pair c).held ≡ ((s.block n).pair c).held
  pub acquiring : (n : ℕ) → ((s'.block n).pair c).acquiring ≡ ((s.block n).pair c).acquiring
  pub letting : (n : ℕ) → is_unreleased ((s'.block n).pair c).letting ≡ is_unreleased ((s.block n).pair c).letting
  pub source : (n : ℕ) → (s'.block n).source c ≡ (s.block n).source c
  pub copy : (n : ℕ) → (s'.block n).copy c ≡ (s.block n).copy c
  pub waiting : (n : ℕ) → (s'.block n).waiting c ≡ (s.block n).waiting c
  pub lets : (source : ℕ) → s'.lets c source ≡ s.lets c source
  pub uses : (source : ℕ) → IsSameUse (s.uses c source) (s'.uses c source)
  pub request : (source : ℕ) → mail'.request c source ≡ mail.request c source

pub end-aside : {w : ℕ} {c : ℕ} {mail mail' : AccessMessages w} {s s' : State (List ℕ)} {e : Endpoint w}
    → IsAside c mail mail' s s' → IsEnd (asked_by mail s c) c s e → IsEnd (asked_by mail' s' c) c s' e
end-aside {c} {mail} {mail'} {s} {s'} aside end = end-same (record {
  held = aside.held;
  acquiring = aside.acquiring;
  letting = aside.letting;
  lets = aside.lets;
  asks = λ source. asks-same c source mail mail' s s' (aside.request source) (aside.uses source)
      (λ n used. aside.acquiring n) (λ n used. aside.source n);
}) (record { copy = aside.copy; waiting = aside.waiting }) end

-- ---- columns of the protocol

-- a part of each value, where that at one place is another
pub column : {A Y : Type 0} (part : Y → A) (k : ℕ) (y : Y) (f : ℕ → Y) (n : ℕ)
    → part (set k y f n) ≡ cond (n == k) (part y) (part (f n))
column part k y f n =
    let go : (z : Bool) → part (if z then y else f n) ≡ cond z (part y) (part (f n)) =
    elim [ true ↦ refl | false ↦ refl ] in
    go (n == k)

-- ---- what a client was made for

-- the terms of a client are those of the configuration
pub record AreTermsOf (config : Config) (c : ℕ) (terms : EndConfig) : Type 0 where
  pub level : level_of config c ≡ Some terms.level
  pub profile : terms.profile ≡ config.profile
  pub blocks : terms.blocks ≡ config.blocks

pub terms-are : (config : Config) (c : ℕ) (terms : EndConfig) → terms_at config c ≡ Some terms
    → AreTermsOf config c terms
terms-are config c terms e = grind arith

-- ---- a beat that comes

first_of_all : {X : Type 0} (P : X → Type 0) (xs rest : List X) (x : X) → xs ≡ x ∷ rest → All P xs → P x
first_of_all P xs rest x e h = let all : All P (x ∷ rest) = subst (All P) e h in all 0 x (omega arith)

-- what each beat of a channel is
pub sound-beat : {w : ℕ} {config : Config} {log : Log w} {mail : AccessMessages w} {request : ℕ → MessageA w}
    {s : State (List ℕ)} {sys : System w} (c : ℕ) (ch : Channel)
    (x : Beat w) (queue : List (Beat w)) → SimulationRelation config log mail request s sys
    → sys.channels c ch ≡ x ∷ queue → manager.IsSound config (record { 0 = c }, x)
sound-beat {config} c ch x queue h beats =
    first_of_all (λ y. manager.IsSound config (record { 0 = c }, y)) _ queue x beats (h.sound c ch)

-- a beat that goes on with its message breaks no rule of order, and so all do where the first doesn't
pub next-legal : {w : ℕ} (p : Profile) (m : MessageD w) (k : ℕ) (t : History w)
    → unfinished Channel.D t ≡ begun (Message.D m) k
    → (unfinished Channel.D t ≡ [] → broken_in_order p (beat_of (Message.D m) 0) t ≡ None)
    → broken_in_order p (beat_of (Message.D m) k) t ≡ None
next-legal p m zero t rest first = first rest
next-legal p m (suc i) t rest first = later-legal p (Message.D m) i t rest

pub taken-d : {w : ℕ} {config : Config} {log : Log w} {mail : AccessMessages w} {request : ℕ → MessageA w}
    {s : State (List ℕ)} {sys : System w} (terms : EndConfig) (c : ℕ) (m : MessageD w) {ms : List (Message w)}
    {x : Beat w} {queue : List (Beat w)} → SimulationRelation config log mail request s sys
    → terms_at config c ≡ Some terms → sys.channels c Channel.D ≡ x ∷ queue
    → IsNext x (unfinished Channel.D (sys.clients c).past) (Message.D m) ms queue
    → (unfinished Channel.D (sys.clients c).past ≡ [] → broken_in_order config.profile (beat_of (Message.D m) 0)
    (sys.clients c).past ≡ None) → offered terms Channel.D x (sys.clients c) ≡ taken x (sys.clients c)
taken-d {w} {config} {log} {mail} {request} {s} {sys} terms c m {x} {queue} h at beats next first =
    let moves : x ≡ beat_of (Message.D m) next.k → waits x (sys.clients c).past ≡ false =
    λ f. ap (λ y. waits y (sys.clients c).past) f in
    let is = terms-are config c terms at in
    let sound = sound-beat c Channel.D x queue h beats in
    client-takes terms _ x _ (h.live c) refl (lawful is.level next.beat_is sound.lawful)
    (moves next.beat_is) (cc (is.profile, next.beat_is, next-legal _ m next.k _ next.rest_is first))
    (ap (λ b. is_outside b x) is.blocks ∙ sound.inside) sound.clean
  where
    lawful : level_of config c ≡ Some terms.level → x ≡ beat_of (Message.D m) next.k
        → manager.illegal_at (level_of config c) x ≡ None → illegal terms.level Channel.D x ≡ None
    lawful e f g = grind arith

-- ---- an answer

-- the open request is pending, and is the one that the history names
live_request : {w : ℕ} (source : ℕ) (r : BeatA w) (t : History w) → open_beat source t ≡ Some r
    → (pending (RequestSource source) t ≡ true) × (request_of source t ≡ Some r)
live_request {w} source r t e = grind arith

pub answer-first : {w : ℕ} (p : Profile) {c source : ℕ} {mail : AccessMessages w} {s : State (List ℕ)} {e : Endpoint w}
    → IsEnd (asked_by mail s c) c s e → (due : IsAnswerDue c source mail s) → unfinished Channel.D e.past ≡ []
    → broken_in_order p (beat_of (Message.D due.answer) 0) e.past ≡ None
answer-first p {c} {source} {mail} {s} {e} end due whole =
    let kind = access_kind _ due.answers_access in
    let asks = asks-access c source _ mail s (ap is_access due.used) due.request_is in
    let live = live_request source _ e.past (end.knows.0.opens source ∙ asks) in
    answer-legal p (record {
      whole = whole;
      complete = ap (rules.comes_in_request due.answer.source) end.well.kept.a_whole;
      other = kind.1;
      live = ap (λ i. pending (RequestSource i) e.past) due.from ∙ live.0;
      request = ap (λ i. request_of i e.past) due.from ∙ live.1;
      admits = due.admits;
      size = due.size;
    }) kind.0

-- ---- a Grant

pub answers_acquire : (whole data_too : Bool) → (whole && data_too) ≡ false
    → answers (grant_opcode data_too) (acquire_opcode whole) ≡ true
answers_acquire whole data_too e = grind arith

pub fits_asked : (p : Profile) (whole : Bool) (g : Grow) (k : Cap) → cap_fits whole g k ≡ true
    → gives_asked p (AcquireOpen whole g) k ≡ true
    → fits_grow p (acquire_opcode whole) (grow_code g) (cap_code k) ≡ true
fits_asked p whole g k e f = grind arith

-- the parts of a Grant that fits
pub record IsFitting (held : Perm) (data_too : Bool) (k : Cap) (whole : Bool) (g : Grow) : Type 0 where
  pub cap_is : cap_fits whole g k ≡ true
  pub bare : (whole && data_too) ≡ false
  pub carried : (whole || (data_too || same_perm held Perm.Branch)) ≡ true

pub fitting : (recorded held : Perm) (data_too : Bool) (k : Cap) (whole : Bool) (g : Grow)
    → grant_fits recorded held data_too k (AcquireOpen whole g) ≡ true → IsFitting held data_too k whole g
fitting recorded held data_too k whole g fits =
    let more = and_right _ _ fits in
    let rest = and_right _ _ more in
    record {
      cap_is = and_left _ _ more;
      bare = not-true (whole && data_too) (and_left _ _ rest);
      carried = and_right _ _ rest;
    }

pub has_data : (whole data_too : Bool) (q : Perm) → (whole || (data_too || same_perm q Perm.Branch)) ≡ true
    → (is_grant_without_data (grant_opcode data_too) && (is_acquire_block (acquire_opcode whole) && not
    (same_perm q Perm.Branch))) ≡ false
has_data whole data_too q e = grind arith

pub grant-first : {w : ℕ} (p : Profile) {c n : ℕ} (mail : AccessMessages w) {s : State (List ℕ)} {e : Endpoint w}
    → IsEnd (asked_by mail s c) c s e → (due : IsGrantDue c n s) → gives_asked p (AcquireOpen due.whole due.g) due.k
    ≡ true → unfinished Channel.D e.past ≡ []
    → broken_in_order p (beat_of
    (Message.D (grant_message due.data_too due.k ((s.block n).source c) (s.block n).tracker (s.block n).truth)) 0)
    e.past ≡ None
grant-first {w} p {c} {n} mail {s} {e} end due given whole =
    let source = (s.block n).source c in
    let r : BeatA w = a_beat_of (acquisition (acquire_opcode due.whole) due.g source n) 0 in
    let fits = fitting _ _ due.data_too due.k due.whole due.g due.fits in
    let asks = asks-acquire c _ n source due.whole due.g mail s due.used due.wants refl in
    let live = live_request source r e.past (end.knows.0.opens source ∙ asks) in
    grant-legal p n (record {
      whole = whole;
      complete = ap (rules.comes_in_request source) end.well.kept.a_whole;
      other = no_ack_grant due.data_too;
      live = live.0;
      request = live.1;
      admits = answers_acquire due.whole due.data_too fits.bare;
      size = refl;
    }) (same_block n) (fits_asked p due.whole due.g due.k fits.cap_is given)
    (cc (end.knows.0.held_is n, has_data due.whole due.data_too _ fits.carried))
    (end.knows.0.probes n) (cc (end.knows.0.sinks (s.block n).tracker))

-- ---- a ReleaseAck

pub ack-first : {w : ℕ} (p : Profile) {c : ℕ} (n : ℕ) (mail : AccessMessages w) {s : State (List ℕ)} {e : Endpoint w}
    → IsEnd (asked_by mail s c) c s e
    → s.lets c ((s.block n).release_source c) ≡ Some n → unfinished Channel.D e.past ≡ []
    → broken_in_order p (beat_of (release_ack ((s.block n).release_source c)) 0) e.past ≡ None
ack-first p {c} n mail {s} end let_ whole =
    let source = (s.block n).release_source c in
    ack-legal p _ _ whole (ap (rules.comes_in_release source) end.well.kept.c_whole) refl
    (end.knows.1.releases source ∙ ap is_some let_) (end.knows.1.sizes source n let_)
