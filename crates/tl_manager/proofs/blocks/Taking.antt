-- What is kept of the blocks after a message of channel C or E was taken.
use Rattle.tl_manager.proofs.Imports.{BeatC, BeatE, Link, OpC, c_carries_data, Message, D, MessageD, unfinished, Config}
use Rattle.tl_manager.proofs.Imports.{ProbeOf, Level, Perm, L1, Trace, on_link, ends, block_at, is_acquire}
use Rattle.tl_manager.proofs.Imports.{is_probe_ack, is_release, is_release_ack, is_grant, pending, capped, illegal}
use Rattle.tl_manager.proofs.Imports.{breaks_l1, is_one_of, next_rule, pending-quiet, AreBlocks, Reaction, Handed}
use Rattle.tl_manager.proofs.Imports.{with_handed, release_ack, recorded, IsBlockState, IsDone, AreApart, is_granting}
use Rattle.tl_manager.proofs.Imports.{IsPassed, IsTaken, Service, services, service_of_block, trackers_of, is_ended_by}
use Rattle.tl_manager.proofs.Imports.{reaction, finish, with_block, End, level_of, IsTracked, tracker_at, BlockState}
use Rattle.tl_manager.proofs.Imports.{Free}
use Rattle.std.proofs.Common.{◌≡◌, ◌≢◌, ℕ, ◌==◌, ◌⊎◌, Bool, true, false, not, ◌&&◌, ◌||◌, List, [], ◌∷◌, Some, None}
use Rattle.std.proofs.Common.{refl, sym, ap, subst, ◌∙◌}
use Rattle.std.specs.Prelude.{if◌then◌else◌, filter, unwrap_or}
use Rattle.std.proofs.lemmas.Bool.{eqb-true, eq-eqb, ne_eqb}
use Rattle.tl_beat.{specs.declared.beat.Beat.Beat, specs.declared.channel.Channel.Channel}
use Rattle.tl_burst.specs.declared.message.MessageC.{MessageC}
use Rattle.tl_params.specs.declared.rule.Rule.TheVariants.{L7}
use Rattle.tl_rules.specs.statement.History.{reported}
use Rattle.tl_rules.specs.statement.Legality.{breaks_l7, answers_forwarded}
use Rattle.tl_manager.specs.code.BlockState.{IsReportedBlockState, IsReport, IsMessage}
use Rattle.tl_manager.proofs.pending.Accesses.{granted-still, services-release_ack}
use Rattle.tl_manager.proofs.pending.Acked.{acked-sink, services-e, granted-left}
use Rattle.tl_manager.{proofs.blocks.Answering.tracker-changed, proofs.calls.Events.memory_with}
use Rattle.tl_manager.{proofs.calls.Events.reaction-release, proofs.words_of_clients.Free.missing_filter}
use Rattle.tl_manager.{proofs.blocks.Granting.records-set, proofs.pending.LinkHistories.beat-keeps}
use Rattle.tl_manager.{proofs.pending.Probing.services-c, proofs.pending.Probing.missing-else_c}
use Rattle.tl_manager.{proofs.pending.Replies.reply-quiet, proofs.services.Serving.if_passes}
use Rattle.tl_manager.{proofs.services.Serving.serving-filter, proofs.messages.Sound.leveled}
use Rattle.tl_manager.{proofs.services.Trackers.tracked-still, proofs.pending.Requested.granting_taken}
use Rattle.tl_manager.proofs.pending.Handed.{after_sent, recorded-taken, recorded-sent, whole-taken}
use Rattle.tl_manager.proofs.pending.SteadyReports.{granted_c, release_is, release_kind}

-- ---- the kinds of messages that come on channel C

kind_of : (opcode : OpC) → answers_forwarded opcode ≡ false → is_release opcode ≡ false → is_probe_ack opcode ≡ true
kind_of OpC.ProbeAck e f = refl
kind_of OpC.ProbeAckData e f = refl
kind_of v e f = absurd cc

no_answer : {w : ℕ} (l : Level) (x : BeatC w) → illegal l Channel.C (Beat.C x) ≡ None
    → answers_forwarded x.opcode ≡ false
unfolding illegal
no_answer l x e = (next_rule (breaks_l7 (Beat.C x)) L7 _ (next_rule (breaks_l1 l Channel.C (Beat.C x)) L1 _ e).1).0

pub report_kind : {w : ℕ} (config : Config) (link : Link) (x : BeatC w) (t : Trace w)
    → IsPassed config link (Beat.C x) t → is_release x.opcode ≡ false → is_probe_ack x.opcode ≡ true
report_kind config link x t is other = let l = leveled (level_of config link.0) (Beat.C x) is.sound.lawful in
    kind_of x.opcode (no_answer l.0 x l.2) other

either_kind : {w : ℕ} (config : Config) (link : Link) (x : BeatC w) (t : Trace w) → IsPassed config link (Beat.C x) t
    → (is_probe_ack x.opcode || is_release x.opcode) ≡ true
either_kind config link x t is = go (is_release x.opcode) refl
  where
    either : (b : Bool) → (b || true) ≡ true
    either true = refl
    either false = refl

    go : (b : Bool) → is_release x.opcode ≡ b → (is_probe_ack x.opcode || b) ≡ true
    go true e = either (is_probe_ack x.opcode)
    go false e = rw (report_kind config link x t is e) refl

-- ---- what such a message says, and what it carries

recorded-reported : {w : ℕ} (config : Config) (link : Link) (x : BeatC w) (e : End w) (c b : ℕ)
    → IsPassed config link (Beat.C x) e.trace → ends (Beat.C x) (on_link link.0 e.trace) ≡ true
    → recorded c b ((link, Beat.C x) ∷ e.trace) ≡ (if (link.0 == c) && (block_at x.address == b) then reported x.param
    else recorded c b e.trace)
recorded-reported {w} config link x e c b is last = recorded-taken c link b (Beat.C x) e.trace refl ∙ go (link.0 == c)
    refl
  where
    chosen : (d : Bool) (p q : Perm) → unwrap_or (if d then Some p else None) q ≡ (if d then p else q)
    chosen true p q = refl
    chosen false p q = refl

    go : (here : Bool) → (link.0 == c) ≡ here
        → unwrap_or (if here && (ends (Beat.C x) (on_link c e.trace) && ((is_probe_ack x.opcode || is_release x.opcode)
        && (block_at x.address == b))) then Some
        (reported x.param) else None) (recorded c b e.trace)
        ≡ (if here && (block_at x.address == b) then reported x.param else recorded c b e.trace)
    go true f =
        let there : ends (Beat.C x) (on_link c e.trace) ≡ true = subst (λ i. ends (Beat.C x) (on_link i e.trace) ≡ true)
        (eqb-true link.0 c f) last in
        rw (there, either_kind config link x e.trace is) (chosen (block_at x.address == b) (reported x.param)
        (recorded c b e.trace))
    go false f = refl

-- the directory and the bytes after it
pub block_state-written : {w : ℕ} {D : Type 0} (perm_of : D → ℕ → ℕ → Perm) (config : Config) (old new : BlockState w D)
    (link : Link) (x : BeatC w) (message : MessageC w) (e : End w)
    → new.profile ≡ old.profile → new.trackers ≡ old.trackers
    → perm_of new.directory (block_at message.address) link.0 ≡ reported message.param
    → ((b c : ℕ) → (b ≢ block_at message.address) ⊎ (c ≢ link.0) → perm_of new.directory b c ≡ perm_of old.directory b
    c)
    → AreBlocks new.blocks.bytes.items (if c_carries_data message.opcode then with_block (block_at message.address)
    message.payload e.memory else e.memory)
    → IsMessage config link x message e → IsBlockState perm_of config old e.trace e.memory
    → IsReportedBlockState perm_of config new e.trace ((link, Beat.C x) ∷ e.trace) (memory_with link x e)
block_state-written {w} perm_of config old new link x message e profile trackers here others bytes is block_state =
    record {
      profile = profile ∙ block_state.profile;
      count = ap (λ t. t.count) trackers ∙ block_state.count;
      tracked = λ n. rw trackers (block_state.tracked n tt);
      records =
          records-set (perm_of old.directory) (perm_of new.directory) (λ b c. recorded c b e.trace)
          (λ b c. recorded c b ((link, Beat.C x) ∷ e.trace))
          (block_at message.address) link.0 (reported message.param) here others block_state.records
          (λ b c. rw (is.address, is.param) (recorded-reported config link x e c b is.taken.passes is.last));
      bytes = rw (is.opcode, is.address, is.payload) at bytes;
    }

-- ---- a Release

pub block_state-released : {w : ℕ} {M : Type 0} (perm_of : M → ℕ → ℕ → Perm) (config : Config)
    (block_state : BlockState w M) (link : Link) (x : BeatC w) (message : MessageC w) (e : End w)
    → IsMessage config link x message e → is_release x.opcode ≡ true
    → IsReportedBlockState perm_of config block_state e.trace ((link, Beat.C x) ∷ e.trace) (memory_with link x e)
    → IsDone perm_of config block_state ((link, release_ack message.source) ∷ []) ((link, Beat.C x) ∷ e.trace)
    (reaction config link (Beat.C x) e)
unfolding with_handed
block_state-released {w} {M} perm_of config block_state link x message e is release ok =
    subst (λ (d : Reaction w). IsDone perm_of config block_state ((link, release_ack message.source) ∷ []) u d)
    (sym (reaction-release config link x e is.last release)) (
      ap (λ s. (link, release_ack s) ∷ []) is.source,
      record {
        profile = ok.profile;
        count = ok.count;
        tracked = λ n all. after n (release_is {w = w} x.source);
        records = λ b c. ok.records b c ∙ sym (recorded-sent c b link (release_ack x.source) u is.taken.width refl
            (whole-taken c link (Beat.C x) e.trace refl (is.taken.before.whole c)) ∙ silent c b (link.0 == c));
        bytes = ok.bytes;
      },
    )
  where
    u : Trace w
    u = (link, Beat.C x) ∷ e.trace

    silent : (c b : ℕ) (here : Bool) → unwrap_or (if here && false then Some (capped 0) else None) (recorded c b u)
        ≡ recorded c b u
    silent c b true = refl
    silent c b false = refl

    after : (n : ℕ) → ((m : MessageD w) × (release_ack {w = w} x.source ≡ D m) × (is_release_ack m.opcode ≡ true)
        × (is_grant m.opcode ≡ false))
        → IsTracked n (tracker_at block_state.trackers n) (after_sent link (release_ack x.source) u)
    after n m =
        subst (λ (i : Message w). IsTracked n (tracker_at block_state.trackers n) (after_sent link i u)) (sym m.1)
        (tracked-still n (tracker_at block_state.trackers n) e.trace (after_sent link (D m.0) u)
        (λ free. ap (λ (ss : List (Service w)). is_one_of n (trackers_of ss)) same ∙ free)
        (λ k v f at. record {
          serves = ap (service_of_block k) same ∙ f;
          granted = granted-still link m.0 u v is.taken.width whole m.3 ∙ granted_c link x e.trace v;
          missing = λ c. reply-quiet (ProbeOf k) link m.0 u c is.taken.width whole (λ g. (refl, refl)) ∙ missing-else_c
              link x e.trace c k (rw (release_kind x.opcode release) refl);
        }) (ok.tracked n))
      where
        whole : unfinished Channel.D (on_link link.0 ((link, Beat.C x) ∷ e.trace)) ≡ []
        whole = (whole-taken link.0 link (Beat.C x) e.trace refl (is.taken.before.whole link.0)).1

        same : services (after_sent link (D m.0) ((link, Beat.C x) ∷ e.trace)) ≡ services e.trace
        same =
            services-release_ack link m.0 ((link, Beat.C x) ∷ e.trace) is.taken.width
            (whole-taken link.0 link (Beat.C x) e.trace refl (is.taken.before.whole link.0)).1 m.2
            ∙ services-c link x e.trace

-- ---- a ProbeAck

pub reaction-ack_report : {w : ℕ} (config : Config) (link : Link) (x : BeatC w) (e : End w)
    → ends (Beat.C x) (on_link link.0 e.trace) ≡ true → is_release x.opcode ≡ false → is_probe_ack x.opcode ≡ true
    → reaction config link (Beat.C x) e ≡ finish config (block_at x.address) ((link, Beat.C x) ∷ e.trace)
    (memory_with link x e)
unfolding reaction
reaction-ack_report config link x e last other kind = rw (last, other, kind) refl

-- it is for the request of its block
pub is_report : {w : ℕ} (config : Config) (link : Link) (block : ℕ) (x : BeatC w) (message : MessageC w) (e : End w)
    → block ≡ block_at message.address → is_release message.opcode ≡ false
    → IsMessage config link x message e → IsReport config link block x e
is_report config link block x message e of_block other is = record {
  taken = is.taken;
  last = is.last;
  kind = report_kind config link x e.trace is.taken.passes (ap is_release (sym is.opcode) ∙ other);
  of_block = ap block_at (sym is.address) ∙ sym of_block;
}

pub done-ack : {w : ℕ} {M : Type 0} (perm_of : M → ℕ → ℕ → Perm) (config : Config) (block_state : BlockState w M)
    (handed : Handed w) (link : Link) (block : ℕ) (x : BeatC w) (message : MessageC w) (e : End w)
    → is_release message.opcode ≡ false → IsMessage config link x message e → IsReport config link block x e
    → IsDone perm_of config block_state handed ((link, Beat.C x) ∷ e.trace)
    (finish config block ((link, Beat.C x) ∷ e.trace) (memory_with link x e))
    → IsDone perm_of config block_state handed ((link, Beat.C x) ∷ e.trace) (reaction config link (Beat.C x) e)
done-ack {w} perm_of config block_state handed link block x message e other is report done =
    subst (λ (d : Reaction w). IsDone perm_of config block_state handed ((link, Beat.C x) ∷ e.trace) d)
    (ap (λ k. finish config k ((link, Beat.C x) ∷ e.trace) (memory_with link x e)) (sym report.of_block)
    ∙ sym (reaction-ack_report config link x e is.last (ap is_release (sym is.opcode) ∙ other) report.kind)) done

-- ---- a GrantAck

pub tracker-acked : {w : ℕ} (link : Link) (x : BeatE) (ss : List (Service w)) → AreApart (trackers_of ss)
    → is_granting link.0 x.sink ss ≡ true
    → is_one_of x.sink (trackers_of (filter (λ s. not (is_ended_by (link, Beat.E x) s)) ss)) ≡ false
tracker-acked link x [] apart e = absurd cc
tracker-acked {w} link x (s ∷ ss) apart e = go (is_acquire s.request.opcode) refl (s.link.0 == link.0) refl
    (s.tracker == x.sink) refl (λ f. tracker-acked link x ss apart.1 f) e
  where
    keeps : Service w → Bool
    keeps v = not (is_ended_by (link, Beat.E x) v)

    swapped : (s.tracker == x.sink) ≡ false → (x.sink == s.tracker) ≡ false
    swapped f = ne_eqb x.sink s.tracker (λ g. absurd (let here : (s.tracker == x.sink) ≡ true =
        eq-eqb s.tracker x.sink (sym g) in cc))

    stays : (s.tracker == x.sink) ≡ false → is_one_of x.sink (trackers_of (filter keeps ss)) ≡ false
        → ((x.sink == s.tracker) || is_one_of x.sink (trackers_of (filter keeps ss))) ≡ false
    stays f rest = rw (swapped f) rest

    twice : (s.tracker == x.sink) ≡ true → is_granting link.0 x.sink ss ≡ true → ⊥
    twice f g = absurd (
        let there : is_one_of s.tracker (trackers_of ss) ≡ true =
        subst (λ i. is_one_of i (trackers_of ss) ≡ true) (sym (eqb-true s.tracker x.sink f))
        (granting_taken link.0 x.sink ss g) in
        let none : is_one_of s.tracker (trackers_of ss) ≡ false = apart.0 in
        cc)

    go : (a : Bool) → is_acquire s.request.opcode ≡ a → (b : Bool) → (s.link.0 == link.0) ≡ b → (d : Bool)
        → (s.tracker == x.sink) ≡ d
        → (is_granting link.0 x.sink ss ≡ true → is_one_of x.sink (trackers_of (filter keeps ss)) ≡ false)
        → ((a && (b && d)) || is_granting link.0 x.sink ss) ≡ true
        → is_one_of x.sink (trackers_of (filter keeps (s ∷ ss))) ≡ false
    go true f true g true h rest i =
        rw (f, g, h) (missing_filter (λ (v : Service w). v.tracker) keeps x.sink ss
        (subst (λ k. is_one_of k (trackers_of ss) ≡ false) (eqb-true s.tracker x.sink h) apart.0))
    go true f true g false h rest i = rw (f, g, h) (stays h (rest i))
    go true f false g false h rest i = rw (f, g) (stays h (rest i))
    go false f true g false h rest i = rw (f, g) (stays h (rest i))
    go false f false g false h rest i = rw (f, g) (stays h (rest i))
    go v f u g true h rest i = absurd (twice h i)

pub block_state-acked : {w : ℕ} {D : Type 0} (perm_of : D → ℕ → ℕ → Perm) (config : Config) (old new : BlockState w D)
    (sink : ℕ) (link : Link) (x : BeatE) (e : End w)
    → new.profile ≡ old.profile → new.directory ≡ old.directory → new.blocks ≡ old.blocks
    → new.trackers.count ≡ old.trackers.count
    → ((n : ℕ) → tracker_at new.trackers n ≡ (if sink == n then Free else tracker_at old.trackers n))
    → x.sink ≡ sink → IsTaken config link (Beat.E x) e → IsBlockState perm_of config old e.trace e.memory
    → IsBlockState perm_of config new ((link, Beat.E x) ∷ e.trace) e.memory
block_state-acked {w} perm_of config old new sink link x e profile directory blocks count trackers same is block_state =
    record {
      profile = profile ∙ block_state.profile;
      count = count ∙ block_state.count;
      tracked = λ i all. tracker-changed sink i Free (tracker_at new.trackers) (tracker_at old.trackers) e.trace u
          trackers
          ended others (λ n other. block_state.tracked n tt);
      records = λ b c. ap (λ d. perm_of d b c) directory ∙ block_state.records b c ∙ sym
          (recorded-taken c link b (Beat.E x) e.trace refl);
      bytes = rw blocks block_state.bytes;
    }
  where
    u : Trace w
    u = (link, Beat.E x) ∷ e.trace

    keeps : Service w → Bool
    keeps s = not (is_ended_by (link, Beat.E x) s)

    ended : is_one_of sink (trackers_of (services u)) ≡ false
    ended =
        ap (λ (ss : List (Service w)). is_one_of sink (trackers_of ss)) (services-e link x e.trace)
        ∙ subst (λ k. is_one_of k (trackers_of (filter (λ s. not (is_ended_by (link, Beat.E x) s)) (services e.trace)))
        ≡ false) same
        (tracker-acked link x (services e.trace) is.before.trackers_apart
        (is.before.sinks link.0 x.sink (acked-sink config.profile x (on_link link.0 e.trace) is.passes.order)))

    others : (n : ℕ) → n ≢ sink → IsTracked n (tracker_at old.trackers n) e.trace
        → IsTracked n (tracker_at old.trackers n) u
    others n other ok =
        tracked-still n (tracker_at old.trackers n) e.trace u
        (λ free. ap (λ (ss : List (Service w)). is_one_of n (trackers_of ss)) (services-e link x e.trace)
        ∙ missing_filter (λ (v : Service w). v.tracker) (λ s. not (is_ended_by (link, Beat.E x) s)) n (services e.trace)
        free)
        (λ k v f at.
        let left = stays v at in
        record {
          serves = ap (service_of_block k) (services-e link x e.trace) ∙ serving-filter k
              (λ (s : Service w). not (is_ended_by (link, Beat.E x) s)) (services e.trace) is.before.blocks_apart
              ∙ ap (if_passes (λ (s : Service w). not (is_ended_by (link, Beat.E x) s))) f ∙ rw left refl;
          granted = granted-left link x e.trace v left;
          missing = λ c. beat-keeps (pending (ProbeOf k)) c link (Beat.E x) e.trace
              (λ h. pending-quiet (ProbeOf k) (Beat.E x) h refl refl);
        }) ok
      where
        stays : (v : Service w) → v.tracker ≡ n → is_ended_by (link, Beat.E x) v ≡ false
        stays v at =
            let away : (v.tracker == x.sink) ≡ false = ne_eqb v.tracker x.sink (λ g. other (sym at ∙ g ∙ same)) in
            rw away (none (v.link.0 == link.0) (is_acquire v.request.opcode))
          where
            none : (a b : Bool) → (a && (b && false)) ≡ false
            none true true = refl
            none v u = refl
