-- What is kept of the blocks after a message of channel C was taken.
use Rattle.tl_manager.proofs.Imports.{BeatC, Link, MessageA, Config, ProbeOf, Perm, Trace, on_link, Memory, ends}
use Rattle.tl_manager.proofs.Imports.{block_at, is_probe_ack, pending, is_one_of, never, bit_if, Reaction, Handed}
use Rattle.tl_manager.proofs.Imports.{with_handed, nothing, performed, is_missing, is_settled, IsBlockStateWithout}
use Rattle.tl_manager.proofs.Imports.{IsDone, IsReadyAt, AreApart, is_granted, IsReady, Service, services}
use Rattle.tl_manager.proofs.Imports.{service_of_block, trackers_of, finish, performed_if_any, End, service_with}
use Rattle.tl_manager.proofs.Imports.{IsTracked, tracker_at, is_of, BlockState, Tracker, Free, Probing, Granted}
use Rattle.std.proofs.Common.{◌≡◌, ◌≢◌, ℕ, ◌==◌, Bool, true, false, not, ◌&&◌, List, [], ◌∷◌, Option, Some, None, refl}
use Rattle.std.proofs.Common.{sym, ap, subst, ◌∙◌}
use Rattle.std.{specs.Prelude.if◌then◌else◌, specs.Int.bit_at, proofs.lemmas.Bool.eqb-true, proofs.lemmas.Bool.eq-eqb}
use Rattle.tl_beat.specs.declared.beat.Beat.{Beat}
use Rattle.tl_manager.{specs.code.BlockState.IsReportedBlockState, specs.code.BlockState.IsReport}
use Rattle.tl_manager.{specs.code.Tracked.AreMissing, specs.code.Tracked.IsProbing}
use Rattle.tl_manager.{proofs.blocks.Answering.tracker-changed, proofs.pending.Afterwards.missing-taken}
use Rattle.tl_manager.{proofs.pending.Probing.services-c, proofs.pending.Probing.missing-else_c}
use Rattle.tl_manager.{proofs.pending.Replied.block_served, proofs.pending.Settled.silent-past}
use Rattle.tl_manager.{proofs.services.Trackers.tracked-still, proofs.services.Trackers.other_block}
use Rattle.tl_manager.{proofs.words_of_clients.Words.word-nobody}
use Rattle.tl_manager.proofs.services.Serving.{some_is, tracker_among, one_tracker}
use Rattle.tl_manager.proofs.pending.SteadyReports.{granted_c, report-service, report-ready}

-- ---- the service that a ProbeAck is for

-- no tracker that keeps the truth is of another block's service
of_block : {w : ℕ} (n block : ℕ) (tracker : Tracker w) (s : Service w) (t : Trace w) → IsTracked n tracker t
    → service_of_block block (services t) ≡ Some s → s.tracker ≡ n
    → is_of block tracker ≡ false → ((v : Service w) (k : ℕ) → service_of_block k (services t) ≡ Some v → v.tracker ≡ n
    → k ≡ block) → ⊥
of_block n block Free s t is e at away one =
    absurd (let among : is_one_of n (trackers_of (services t)) ≡ true =
    subst (λ i. is_one_of i (trackers_of (services t)) ≡ true) at (tracker_among block (services t) s e) in cc)
of_block n block (Probing link request missing) s t is e at away one =
    let same = one (service_with n link request) (block_at request.address) is.serves refl in
    let here : (block_at request.address == block) ≡ true = eq-eqb (block_at request.address) block same in
    absurd cc
of_block n block (Granted link granted) s t is e at away one =
    let same = one (service_with n link is.request) granted is.serves refl in
    let here : (granted == block) ≡ true = eq-eqb granted block same in
    absurd cc

-- where no tracker is of the block, it isn't in service
pub unserved-block : {w : ℕ} (block : ℕ) (at : ℕ → Tracker w) (t : Trace w) → AreApart (trackers_of (services t))
    → ((n : ℕ) → IsTracked n (at n) t) → ((n : ℕ) → is_of block (at n) ≡ false)
    → service_of_block block (services t) ≡ None
unserved-block {w} block at t apart tracked none = go (service_of_block block (services t)) refl
  where
    go : (o : Option (Service w)) → service_of_block block (services t) ≡ o → o ≡ None
    go None e = refl
    go (Some s) e = absurd (of_block s.tracker block (at s.tracker) s t (tracked s.tracker) e refl (none s.tracker)
        (λ v k f g. sym (block_served k t v f) ∙ ap (λ (x : Service w). block_at x.request.address)
        (one_tracker k block (services t) v s apart f e g) ∙ block_served block t s e))

-- ---- what is missing after a ProbeAck

pub missing-reported : {w : ℕ} (config : Config) (link : Link) (block : ℕ) (x : BeatC w) (e : End w) (word left : ℕ)
    → IsReport config link block x e → AreMissing word block e.trace
    → ((c : ℕ) → bit_at left c ≡ bit_if ((bit_at word c == 1) && not (link.0 == c)))
    → AreMissing left block ((link, Beat.C x) ∷ e.trace)
missing-reported {w} config link block x e word left is before bits c =
    bits c ∙ go (link.0 == c) refl ∙ ap bit_if (sym (missing-taken c block link (Beat.C x) e.trace refl))
  where
    kept : (b : Bool) → bit_if ((bit_if b == 1) && true) ≡ bit_if b
    kept true = refl
    kept false = refl

    none : (b : Bool) → bit_if (b && false) ≡ 0
    none true = refl
    none false = refl

    go : (here : Bool) → (link.0 == c) ≡ here
        → bit_if ((bit_at word c == 1) && not here) ≡ bit_if
        (if here && (ends (Beat.C x) (on_link c e.trace) && (is_probe_ack x.opcode && (block_at x.address == block)))
        then false
        else is_missing c block e.trace)
    go true f =
        let last : ends (Beat.C x) (on_link c e.trace) ≡ true = subst (λ i. ends (Beat.C x) (on_link i e.trace) ≡ true)
        (eqb-true link.0 c f) is.last in
        rw (last, is.kind, eq-eqb (block_at x.address) block is.of_block) (none (bit_at word c == 1))
    go false f = ap (λ n. bit_if ((n == 1) && true)) (before c) ∙ kept (is_missing c block e.trace)

pub missing-word : {w : ℕ} (config : Config) (link : Link) (block : ℕ) (x : BeatC w) (e : End w) (left : ℕ)
    → IsReport config link block x e → AreMissing left block ((link, Beat.C x) ∷ e.trace)
    → (left == 0) ≡ is_settled config block ((link, Beat.C x) ∷ e.trace)
unfolding pending
missing-word {w} config link block x e left is bits =
    word-nobody config left (λ c. is_missing c block ((link, Beat.C x) ∷ e.trace)) (record {
      bits = bits;
      past = λ c past. ap (pending (ProbeOf block)) (silent-past config ((link, Beat.C x) ∷ e.trace) c
          (is.taken.passes.sound, is.taken.before.sound) past);
    })

-- ---- the deed

settled-as : {w : ℕ} (config : Config) (block : ℕ) (t : Trace w) (memory : Memory) (b : Bool) (o : Option (Service w))
    → is_settled config block t ≡ b → service_of_block block (services t) ≡ o
    → finish config block t memory ≡ (if b then performed_if_any config o t memory else nothing memory)
settled-as config block t memory b o e f = rw (e, f) refl

-- the service that the ProbeAck is for
reported-service : {w : ℕ} (config : Config) (link : Link) (block : ℕ) (x : BeatC w) (e : End w)
    → IsReport config link block x e
    → (s : Service w) × (service_of_block block (services e.trace) ≡ Some s) × (is_granted e.trace s ≡ false)
reported-service config link block x e is =
    let found = report-service config link x e is.taken is.kind in (
      found.0,
      subst (λ k. service_of_block k (services e.trace) ≡ Some found.0) is.of_block
          (ap (service_of_block (block_at x.address)) (sym (services-c link x e.trace)) ∙ found.1),
      sym (granted_c link x e.trace found.0) ∙ found.2,
    )

pub report-served : {w : ℕ} (config : Config) (link : Link) (block : ℕ) (x : BeatC w) (e : End w)
    → IsReport config link block x e → service_of_block block (services e.trace) ≡ None → ⊥
report-served config link block x e is none = let found = reported-service config link block x e is in
    absurd (let no : Some found.0 ≡ None = sym found.1 ∙ none in cc)

pub report-granted : {w : ℕ} (config : Config) (n : ℕ) (asking link : Link) (block granted : ℕ) (x : BeatC w)
    (e : End w) → IsReport config link block x e
    → IsTracked n (Granted asking granted) e.trace → (granted == block) ≡ true → ⊥
report-granted config n asking link block granted x e is ok here =
    let found = reported-service config link block x e is in
    let same = some_is found.0 _
    (sym found.1 ∙ subst (λ k. service_of_block k (services e.trace) ≡ Some (service_with n asking ok.request))
    (eqb-true granted block here) ok.serves) in
    absurd (let no : is_granted e.trace (service_with n asking ok.request) ≡ false = ap (is_granted e.trace) (sym same)
    ∙ found.2 in let yes : is_granted e.trace (service_with n asking ok.request) ≡ true = ok.granted in cc)

-- ---- the trackers

-- those of other blocks
others-reported : {w : ℕ} (config : Config) (link : Link) (block : ℕ) (x : BeatC w) (e : End w) (s : Service w) (n : ℕ)
    (tracker : Tracker w) → IsReport config link block x e
    → service_of_block block (services e.trace) ≡ Some s → n ≢ s.tracker
    → IsTracked n tracker e.trace → IsTracked n tracker ((link, Beat.C x) ∷ e.trace)
others-reported {w} config link block x e s n tracker is serves other ok =
    tracked-still n tracker e.trace ((link, Beat.C x) ∷ e.trace)
    (λ free. ap (λ (ss : List (Service w)). is_one_of n (trackers_of ss)) (services-c link x e.trace) ∙ free)
    (λ k v f at.
    let apart = other_block block k s v (services e.trace) serves f (λ g. other (sym at ∙ g)) in
    record {
      serves = ap (service_of_block k) (services-c link x e.trace) ∙ f;
      granted = granted_c link x e.trace v;
      missing = λ c. missing-else_c link x e.trace c k (elsewhere k (ap (λ i. i == k) is.of_block ∙ apart));
    }) ok
  where
    elsewhere : (k : ℕ) → (block_at x.address == k) ≡ false
        → (is_probe_ack x.opcode && (block_at x.address == k)) ≡ false
    elsewhere k f = rw f (never (is_probe_ack x.opcode))

pub block_state-reported : {w : ℕ} {D : Type 0} (perm_of : D → ℕ → ℕ → Perm) (config : Config)
    (block_state : BlockState w D) (number : ℕ) (asking link : Link)
    (request : MessageA w) (block : ℕ) (x : BeatC w) (e : End w) (memory : Memory)
    → IsReport config link block x e → service_of_block block (services e.trace) ≡ Some
    (service_with number asking request)
    → IsReportedBlockState perm_of config block_state e.trace ((link, Beat.C x) ∷ e.trace) memory
    → IsBlockStateWithout number perm_of config block_state ((link, Beat.C x) ∷ e.trace) memory
block_state-reported perm_of config block_state number asking link request block x e memory is serves ok = record {
  profile = ok.profile;
  count = ok.count;
  tracked = λ n other. others-reported config link block x e (service_with number asking request) n
      (tracker_at block_state.trackers n) is serves other (ok.tracked n);
  records = ok.records;
  bytes = ok.bytes;
}

-- the last ProbeAck that was missing
pub done-settled : {w : ℕ} {D : Type 0} (perm_of : D → ℕ → ℕ → Perm) (config : Config) (block_state : BlockState w D)
    (handed : Handed w) (number : ℕ) (asking link : Link)
    (request : MessageA w) (block : ℕ) (x : BeatC w) (e : End w) (memory : Memory)
    → IsReport config link block x e → service_of_block block (services e.trace) ≡ Some
    (service_with number asking request) → is_settled config block ((link, Beat.C x) ∷ e.trace) ≡ true
    → IsDone perm_of config block_state handed ((link, Beat.C x) ∷ e.trace)
    (performed config (service_with number asking request) ((link, Beat.C x) ∷ e.trace) memory)
    → IsDone perm_of config block_state handed ((link, Beat.C x) ∷ e.trace)
    (finish config block ((link, Beat.C x) ∷ e.trace) memory)
done-settled {w} perm_of config block_state handed number asking link request block x e memory is serves all done =
    subst (λ (d : Reaction w). IsDone perm_of config block_state handed ((link, Beat.C x) ∷ e.trace) d)
    (sym (settled-as config block ((link, Beat.C x) ∷ e.trace) memory true (Some (service_with number asking request))
    all (ap (service_of_block block) (services-c link x e.trace) ∙ serves))) done

pub ready-settled : {w : ℕ} (config : Config) (number : ℕ) (asking link : Link) (request : MessageA w) (block : ℕ)
    (x : BeatC w) (e : End w) → IsReport config link block x e
    → block_at request.address ≡ block
    → service_of_block block (services e.trace) ≡ Some (service_with number asking request)
    → is_settled config block ((link, Beat.C x) ∷ e.trace) ≡ true
    → IsReadyAt config number asking request ((link, Beat.C x) ∷ e.trace)
ready-settled config number asking link request block x e is same serves all = record {
  ready = subst (λ k. IsReady config k (service_with number asking request) ((link, Beat.C x) ∷ e.trace))
      (is.of_block ∙ sym same)
      (report-ready config link x (service_with number asking request) e is.taken is.kind
      (subst (λ k. service_of_block k (services ((link, Beat.C x) ∷ e.trace)) ≡ Some
      (service_with number asking request)) (sym is.of_block)
      (ap (service_of_block block) (services-c link x e.trace) ∙ serves))
      (subst (λ k. is_settled config k ((link, Beat.C x) ∷ e.trace) ≡ true) (sym is.of_block) all));
  sound = (is.taken.passes.sound, is.taken.before.sound);
}

-- others are missing
pub done-waiting : {w : ℕ} {D : Type 0} (perm_of : D → ℕ → ℕ → Perm) (config : Config) (old new : BlockState w D)
    (number : ℕ) (asking link : Link)
    (request : MessageA w) (left block : ℕ) (x : BeatC w) (e : End w) (memory : Memory)
    → new.profile ≡ old.profile → new.directory ≡ old.directory → new.blocks ≡ old.blocks
    → new.trackers.count ≡ old.trackers.count
    → ((n : ℕ) → tracker_at new.trackers n ≡ (if number == n then Probing asking request left else tracker_at
    old.trackers n))
    → IsReport config link block x e → block_at request.address ≡ block
    → service_of_block block (services e.trace) ≡ Some (service_with number asking request)
    → is_granted e.trace (service_with number asking request) ≡ false
    → AreMissing left block ((link, Beat.C x) ∷ e.trace) → is_settled config block ((link, Beat.C x) ∷ e.trace) ≡ false
    → IsReportedBlockState perm_of config old e.trace ((link, Beat.C x) ∷ e.trace) memory
    → IsDone perm_of config new [] ((link, Beat.C x) ∷ e.trace)
    (finish config block ((link, Beat.C x) ∷ e.trace) memory)
unfolding with_handed
done-waiting {w} {D} perm_of config old new number asking link request left block x e memory profile directory blocks
    count trackers is same serves unanswered bits more ok =
    subst (λ (d : Reaction w). IsDone perm_of config new [] u d)
    (sym (settled-as config block u memory false (service_of_block block (services u)) more refl)) (
      refl,
      record {
        profile = profile ∙ ok.profile;
        count = count ∙ ok.count;
        tracked = λ i all. tracker-changed number i (Probing asking request left) (tracker_at new.trackers)
            (tracker_at old.trackers) e.trace u trackers probing
            (λ n other was. others-reported config link block x e (service_with number asking request) n
            (tracker_at old.trackers n) is serves other was) (λ n other. ok.tracked n);
        records = λ b c. ap (λ d. perm_of d b c) directory ∙ ok.records b c;
        bytes = rw blocks ok.bytes;
      },
    )
  where
    u : Trace w
    u = (link, Beat.C x) ∷ e.trace

    probing : IsTracked number (Probing asking request left) u
    probing = record {
      serves = ap (service_of_block (block_at request.address)) (services-c link x e.trace)
          ∙ subst (λ k. service_of_block k (services e.trace) ≡ Some (service_with number asking request)) (sym same)
          serves;
      unanswered = granted_c link x e.trace (service_with number asking request) ∙ unanswered;
      bits = subst (λ k. AreMissing left k u) (sym same) bits;
    }

-- what is read off the tracker of the block
pub probing-at : {w : ℕ} (n block : ℕ) (asking : Link) (request : MessageA w) (missing : ℕ) (tracker : Tracker w)
    (t : Trace w) → Probing asking request missing ≡ tracker
    → IsTracked n tracker t → is_of block tracker ≡ true
    → IsProbing n asking request missing t × (block_at request.address ≡ block)
probing-at {w} n block asking request missing tracker t e is here = (
  subst (λ (x : Tracker w). IsTracked n x t) (sym e) is,
  eqb-true (block_at request.address) block
      (ap (is_of block) e ∙ here),
)

pub granted-at : {w : ℕ} (config : Config) (n : ℕ) (asking link : Link) (block granted : ℕ) (x : BeatC w) (e : End w)
    (tracker : Tracker w) → Granted asking granted ≡ tracker
    → IsTracked n tracker e.trace → is_of block tracker ≡ true → IsReport config link block x e → ⊥
granted-at {w} config n asking link block granted x e tracker same ok here is =
    report-granted config n asking link block granted x e is
    (subst (λ (y : Tracker w). IsTracked n y e.trace) (sym same) ok) (ap (is_of block) same ∙ here)
