-- What holds of the manager's end holds after each beat that it is offered.
use Rattle.tl_manager.proofs.Imports.{IsWidth, Beat, BeatA, Link, Channel, Message, A, B, C, D, E, beats_of, beat_of}
use Rattle.tl_manager.proofs.Imports.{begun, burst_of, channel_of, unfinished, burst_length, Config, Trace, on_link}
use Rattle.tl_manager.proofs.Imports.{ends, block_at, Level, illegal, is_one_of, beats-positive, Handed, with_handed}
use Rattle.tl_manager.proofs.Imports.{Each, AreApart, IsSound, IsTyped, HasBlock, IsPerformable, illegal_at}
use Rattle.tl_manager.proofs.Imports.{illegal_message_at, blocks_of, IsKept, request_if, request_carried, Service}
use Rattle.tl_manager.proofs.Imports.{is_ended_by, least_untaken, trackers_of, with_service, services_after, services}
use Rattle.tl_manager.proofs.Imports.{service_of_block, is_in_service, reaction, End, fresh, level_of, Judgement}
use Rattle.tl_manager.proofs.Imports.{Breaks, Waits, Passes, is_from_client, must_wait, judged, taken, offered_as}
use Rattle.tl_manager.proofs.Imports.{offered, recorded, pending, IsPassed, IsTaken}
use Rattle.std.proofs.Common.{ap, ◌∙◌, ◌≡◌, ℕ, zero, suc, ◌+◌, ◌<◌, ◌≤◌, ◌==◌, Bool, true, false, not, cond, ◌&&◌, ◌||◌}
use Rattle.std.proofs.Common.{List, [], ◌∷◌, ◌++◌, length, map, Some, None, refl, sym, arith, inl, inr}
use Rattle.std.specs.Prelude.{nat_le, filter, option_map, is_some, if◌then◌else◌}
use Rattle.std.proofs.lemmas.Bool.{or_parts, leb-false, eqb-true, cases_eq, ne_eqb}
use Rattle.std.proofs.lemmas.List.{length-map}
use Rattle.tl_burst.specs.statement.Burst.{IsBlankAfter}
use Rattle.tl_rules.{proofs.Legal.legal_from_beats, proofs.Sent.same_channel}
use Rattle.tl_manager.proofs.words_of_clients.Lists.{each_filter, each_weaker}
use Rattle.tl_manager.{proofs.messages.Sound.leveled, specs.code.Kept.IsClean, specs.code.Kept.IsAnswerLawful}
use Rattle.tl_manager.{proofs.judging.Judged.passed, proofs.messages.Requests.IsWhole}
use Rattle.tl_manager.{proofs.messages.Requests.performable, specs.laws.Record.granted_by_all}
use Rattle.tl_manager.{specs.laws.Record.recorded_after, proofs.pending.Answered.answered-reaction}
use Rattle.tl_manager.{proofs.services.Grants.reaction_granted, proofs.pending.Steady.steady-reaction}
use Rattle.tl_manager.{proofs.messages.Lawful.IsHandable}
use Rattle.tl_manager.proofs.calls.Reactions.{reaction_handable, handed_sound}
use Rattle.tl_manager.proofs.words_of_clients.Free.{apart_filter, each_map_filter, least_free-is_free, least_free-le}
use Rattle.tl_manager.proofs.pending.Handed.{whole-handed, whole-taken, recorded-taken, recorded-handed}
use Rattle.tl_manager.proofs.messages.Continued.{whole_request, of_one-taken, bursts-handed}
use Rattle.tl_manager.proofs.pending.Sinks.{is_request, tracked-taken, tracked-handed}

-- what holds of the requests in service
pub record AreServed {w : ℕ} (config : Config) (ss : List (Service w)) : Type 0 where
  pub requests : Each (IsPerformable config) ss
  pub tracked : Each (λ n. n < config.trackers) (trackers_of ss)
  pub trackers_apart : AreApart (trackers_of ss)
  pub blocks_apart : AreApart (blocks_of ss)
  pub few : length ss ≤ config.trackers

length_filter : {X : Type 0} (test : X → Bool) (xs : List X) → length (filter test xs) ≤ length xs
length_filter test [] = omega arith
length_filter {X} test (x ∷ xs) = go (test x) (length_filter test xs)
  where
    go : (b : Bool) → length (filter test xs) ≤ length xs
        → length (cond b (x ∷ filter test xs) (filter test xs)) ≤ length (x ∷ xs)
    go true le = omega (arith, le)
    go false le = omega (arith, le)

served_filter : {w : ℕ} (config : Config) (test : Service w → Bool) (ss : List (Service w)) → AreServed config ss
    → AreServed config (filter test ss)
served_filter config test ss ok = record {
  requests = each_filter (IsPerformable config) test ss ok.requests;
  tracked = each_map_filter (λ n. n < config.trackers) (λ s. s.tracker) test ss ok.tracked;
  trackers_apart = apart_filter (λ s. s.tracker) test ss ok.trackers_apart;
  blocks_apart = apart_filter (λ s. block_at s.request.address) test ss ok.blocks_apart;
  few = let le = length_filter test ss in let before = ok.few in omega (arith, le, before);
}

filtered : {w : ℕ} (config : Config) (test : Service w → Bool) (ss : List (Service w)) (b : Bool) → AreServed config ss
    → AreServed config (if b then filter test ss else ss)
filtered config test ss true ok = served_filter config test ss ok
filtered config test ss false ok = ok

-- ---- a request that is taken

eqb_swap : (m n : ℕ) → (m == n) ≡ (n == m)
eqb_swap m n = elim (cases_eq m n) [
  | inl same ↦ rw same refl
  | inr other ↦ rw (ne_eqb m n other, ne_eqb n m (λ e. other (sym e))) refl
]

unserved : {w : ℕ} (block : ℕ) (ss : List (Service w)) → is_in_service block ss ≡ false
    → is_one_of block (blocks_of ss) ≡ false
unserved block [] e = refl
unserved {w} block (s ∷ ss) e = go (block_at s.request.address == block) (eqb_swap block (block_at s.request.address)) e
    (unserved block ss)
  where
    go : (b : Bool) → (block == block_at s.request.address) ≡ b
        → is_some (cond b (Some s) (service_of_block block ss)) ≡ false
        → (is_in_service block ss ≡ false → is_one_of block (blocks_of ss) ≡ false)
        → is_one_of block (blocks_of (s ∷ ss)) ≡ false
    go true same f rest = absurd cc
    go false other f rest = rw (other, rest f) refl

served_new : {w : ℕ} (config : Config) (link : Link) (x : BeatA w) (beats : List (Beat w)) (ss : List (Service w))
    (fits : Bool) (e : nat_le x.size 6 ≡ fits) → IsWidth w
    → IsSound config (link, Beat.A x) → Each (IsWhole config link x) beats → length beats ≡ burst_length (Beat.A x)
    → is_in_service (block_at x.address) ss ≡ false → length ss < config.trackers → AreServed config ss
    → AreServed config (with_service
    (option_map (λ m. record { tracker = least_untaken (trackers_of ss); link = link; request = m })
    (request_if x beats fits e)) ss)
served_new config link x beats ss false e width sound whole long unused room ok = ok
served_new config link x beats ss true e width sound whole long unused room ok =
    let low = least_free-le (trackers_of ss) in
    let len : length (trackers_of ss) ≡ length ss = length-map ss (λ s. s.tracker) in
    record {
      requests = (
        performable config link x beats (least_untaken (trackers_of ss)) e width sound whole long,
        ok.requests,
      );
      tracked = (omega (arith, low, len), ok.tracked);
      trackers_apart = (least_free-is_free (trackers_of ss), ok.trackers_apart);
      blocks_apart = (unserved (block_at x.address) ss unused, ok.blocks_apart);
      few = omega (arith, room);
    }

taken_request : {w : ℕ} (config : Config) (link : Link) (x : BeatA w) (t : Trace w) → IsWidth w
    → IsSound config (link, Beat.A x)
    → Each (IsWhole config link x) (Beat.A x ∷ unfinished Channel.A (on_link link.0 t))
    → must_wait config link (Beat.A x) t ≡ false → AreServed config (services t)
    → AreServed config (services ((link, Beat.A x) ∷ t))
unfolding services request_carried
taken_request {w} config link x t width sound whole waits ok = go (ends (Beat.A x) (on_link link.0 t)) refl waits
  where
    burst : List (Beat w)
    burst = unfinished Channel.A (on_link link.0 t)

    go : (b : Bool) → (length burst + 1 == burst_length (Beat.A x)) ≡ b
        → (b && (is_in_service (block_at x.address) (services t) || nat_le config.trackers (length (services t))))
        ≡ false
        → AreServed config (if b then services_after (link, Beat.A x) burst (services t) else services t)
    go false last e = ok
    go true last e =
        let p = or_parts (is_in_service (block_at x.address) (services t))
        (nat_le config.trackers (length (services t))) e in
        let long = eqb-true (length burst + 1) (burst_length (Beat.A x)) last in
        served_new config link x (Beat.A x ∷ burst) (services t) (nat_le x.size 6) refl width sound whole
        (omega (arith, long)) p.0 (leb-false config.trackers (length (services t)) p.1) ok

-- ---- any other beat ends services at most

other_beat : {w : ℕ} (config : Config) (x : Link × Beat w) (t : Trace w) → is_request x.1 ≡ false
    → AreServed config (services t) → AreServed config (services (x ∷ t))
unfolding services
other_beat config (link, Beat.A x) t other ok = absurd cc
other_beat config (link, Beat.B x) t other ok = filtered config (λ s. not (is_ended_by (link, Beat.B x) s)) (services t)
    (ends (Beat.B x) (on_link link.0 t)) ok
other_beat config (link, Beat.C x) t other ok = filtered config (λ s. not (is_ended_by (link, Beat.C x) s)) (services t)
    (ends (Beat.C x) (on_link link.0 t)) ok
other_beat config (link, Beat.D x) t other ok = filtered config (λ s. not (is_ended_by (link, Beat.D x) s)) (services t)
    (ends (Beat.D x) (on_link link.0 t)) ok
other_beat config (link, Beat.E x) t other ok = filtered config (λ s. not (is_ended_by (link, Beat.E x) s)) (services t)
    (ends (Beat.E x) (on_link link.0 t)) ok

-- a client's beat that passes
pub taken_beat : {w : ℕ} (config : Config) (link : Link) (x : Beat w) (e : End w) → IsWidth w → IsKept config e
    → IsPassed config link x e.trace → AreServed config (services e.trace)
    → AreServed config (services ((link, x) ∷ e.trace))
taken_beat config link (Beat.A x) e width before passes ok =
    taken_request config link x e.trace width passes.sound
    (whole_request config link x e.trace passes.sound before.sound (before.bursts link.0) passes.order) passes.waits
    ok
taken_beat config link (Beat.B x) e width before passes ok = other_beat config (link, Beat.B x) e.trace refl ok
taken_beat config link (Beat.C x) e width before passes ok = other_beat config (link, Beat.C x) e.trace refl ok
taken_beat config link (Beat.D x) e width before passes ok = other_beat config (link, Beat.D x) e.trace refl ok
taken_beat config link (Beat.E x) e width before passes ok = other_beat config (link, Beat.E x) e.trace refl ok

our_beat : {w : ℕ} (m : Message w) (i : ℕ) → is_from_client (beat_of m 0) ≡ false → is_request (beat_of m i) ≡ false
our_beat (B m) i ours = refl
our_beat (D m) i ours = refl
our_beat v i ours = absurd cc

burst_served : {w : ℕ} (config : Config) (link : Link) (m : Message w) (n : ℕ) (t : Trace w)
    → is_from_client (beat_of m 0) ≡ false → AreServed config (services t)
    → AreServed config (services (map (λ b. (link, b)) (begun m n) ++ t))
burst_served config link m zero t ours ok = ok
burst_served config link m (suc n) t ours ok =
    other_beat config (link, beat_of m n) (map (λ b. (link, b)) (begun m n) ++ t) (our_beat m n ours)
    (burst_served config link m n t ours ok)

handed_served : {w : ℕ} (config : Config) (handed : Handed w) (t : Trace w) → Each (IsHandable config) handed
    → AreServed config (services t) → AreServed config (services (with_handed handed t))
unfolding with_handed
handed_served config [] t each ok = ok
handed_served config (x ∷ handed) t each ok =
    handed_served config handed (map (λ b. (x.0, b)) (burst_of x.1) ++ t) each.1
    (burst_served config x.0 x.1 (beats_of x.1) t each.0.ours ok)

-- ---- any beat that is offered

pub are_served : {w : ℕ} (config : Config) (e : End w) → IsKept config e → AreServed config (services e.trace)
are_served config e before = record {
  requests = before.requests;
  tracked = before.tracked;
  trackers_apart =
      before.trackers_apart;
  blocks_apart = before.blocks_apart;
  few = before.few;
}

-- a beat that passes, as it is taken
pub is_taken : {w : ℕ} (config : Config) (link : Link) (x : Beat w) (e : End w) → IsWidth w
    → IsPassed config link x e.trace → IsKept config e → IsTaken config link x e
is_taken config link x e width ok before =
    let after = taken_beat config link x e width before ok (are_served config e before) in
    record {
      width = width;
      before = before;
      passes = ok;
      blocks_apart = after.blocks_apart;
      trackers_apart =
          after.trackers_apart;
    }

pub kept-taken : {w : ℕ} (config : Config) (link : Link) (x : Beat w) (e : End w) → IsWidth w
    → IsPassed config link x e.trace → IsKept config e → IsKept config (taken link x (reaction config link x e) e)
kept-taken config link x e width ok before =
    let handable = reaction_handable config link x e width ok.sound before.sound in
    let complete = λ (client : ℕ). whole-taken client link x e.trace ok.theirs (before.whole client) in
    let served_then = taken_beat config link x e width before ok (are_served config e before) in
    let after = handed_served config (reaction config link x e).handed ((link, x) ∷ e.trace) handable served_then in
    record {
      sound = handed_sound config (reaction config link x e).handed ((link, x) ∷ e.trace) handable
          (ok.sound, before.sound);
      whole = λ client. whole-handed config client (reaction config link x e).handed ((link, x) ∷ e.trace) width
          handable (complete client);
      bursts = λ client. rw (bursts-handed config Channel.A client (reaction config link x e).handed
          ((link, x) ∷ e.trace) refl handable)
          (of_one-taken config client link x e.trace ok.theirs ok.order before.bursts);
      requests = after.requests;
      tracked = after.tracked;
      trackers_apart = after.trackers_apart;
      blocks_apart = after.blocks_apart;
      sinks = tracked-handed config (reaction config link x e).handed ((link, x) ∷ e.trace) width handable complete
          (reaction_granted config link x e) (tracked-taken link x e.trace ok.theirs before.sinks);
      releases = λ client. answered-reaction config client link x e width ok.theirs ok.order handable (complete client)
          (before.releases client);
      few = after.few;
      steady = steady-reaction config link x e (is_taken config link x e width ok before);
    }

kept_as : {w : ℕ} (j : Judgement) (config : Config) (link : Link) (ch : Channel) (x : Beat w) (e : End w) → IsWidth w
    → IsTyped x → judged config link ch x e ≡ j → IsKept config e
    → IsKept config (offered_as j config link x e).1
kept_as (Breaks r) config link ch x e width typed is before =
    record {
      sound = before.sound;
      whole = before.whole;
      bursts = before.bursts;
      requests = before.requests;
      tracked = before.tracked;
      trackers_apart =
          before.trackers_apart;
      blocks_apart = before.blocks_apart;
      sinks = before.sinks;
      releases = before.releases;
      few = before.few;
      steady =
          before.steady;
    }
kept_as Waits config link ch x e width typed is before = before
kept_as Passes config link ch x e width typed is before =
    kept-taken config link x e width (passed config link ch x e typed is) before

pub kept-offered : {w : ℕ} (config : Config) (link : Link) (ch : Channel) (x : Beat w) (e : End w) → IsWidth w
    → IsTyped x → IsKept config e → IsKept config (offered config link ch x e).1
unfolding offered
kept-offered config link ch x e width typed ok = kept_as (judged config link ch x e) config link ch x e width typed refl
    ok

pub fresh-kept : {w : ℕ} (config : Config) → IsKept {w = w} config fresh
unfolding services unfinished on_link pending
fresh-kept config =
    record {
      sound = tt;
      whole = λ client. (refl, refl);
      bursts = λ client. tt;
      requests = tt;
      tracked = tt;
      trackers_apart = tt;
      blocks_apart = tt;
      sinks =
          λ client sink e. absurd cc;
      releases = λ client. record { sources = λ s. refl; blocks = λ k. refl; named = tt };
      few = omega arith;
      steady =
          record {
            accounted = record {
              sources = λ client source. refl;
              begun = λ client. tt;
              reports = λ client. tt;
              blocks = λ block.
                  record {
                    acquires = λ client. refl;
                    grants = λ client. refl;
                    named = tt;
                    probes =
                        λ client e. absurd cc;
                  };
            };
            awaited = λ block. refl;
          };
    }

-- ---- what is recorded

recorded_as : {w : ℕ} (j : Judgement) (config : Config) (link : Link) (ch : Channel) (x : Beat w) (e : End w)
    (client block : ℕ) → IsWidth w → IsTyped x → judged config link ch x e ≡ j
    → IsKept config e
    → recorded client block (offered_as j config link x e).1.trace ≡ recorded_after (offered_as j config link x e).0
    (link, x) e.trace client block
recorded_as Passes config link ch x e client block width typed is before =
    let ok = passed config link ch x e typed is in
    let handable = reaction_handable config link x e width ok.sound before.sound in
    recorded-handed config client block (reaction config link x e).handed ((link, x) ∷ e.trace) width handable
    (whole-taken client link x e.trace ok.theirs (before.whole client))
    ∙ ap (granted_by_all (reaction config link x e).handed ((link, x) ∷ e.trace) client block)
    (recorded-taken client link block x e.trace ok.theirs)
recorded_as v config link ch x e client block width typed is before = refl

pub recorded-offered : {w : ℕ} (config : Config) (link : Link) (ch : Channel) (x : Beat w) (e : End w)
    (client block : ℕ) → IsWidth w → IsTyped x → IsKept config e
    → recorded client block (offered config link ch x e).1.trace ≡ recorded_after (offered config link ch x e).0
    (link, x) e.trace client block
unfolding offered
recorded-offered config link ch x e client block width typed before =
    recorded_as (judged config link ch x e) config link ch x e client block width typed refl before

-- ---- what is handed out is lawful

lawful_message : {w : ℕ} (config : Config) (x : Link × Message w) → IsWidth w → IsHandable config x
    → (illegal_message_at (level_of config x.0.0) x.1 ≡ None) × IsClean x.1 × HasBlock x.1
    × IsBlankAfter (beats_of x.1) x.1
lawful_message {w} config x width ok =
    let first = leveled (level_of config x.0.0) (beat_of x.1 0) (ok.beats 0 (beats-positive x.1 width)).lawful in (
      rw first.1 (legal_from_beats first.0 (channel_of (beat_of x.1 0)) x.1
          (λ i lt. legal_beat first.0 first.1 i (ok.beats i lt).lawful)),
      ok.clean,
      ok.filled,
      ok.blank,
    )
  where
    legal_beat : (l : Level) → level_of config x.0.0 ≡ Some l → (i : ℕ)
        → illegal_at (level_of config x.0.0) (beat_of x.1 i) ≡ None
        → illegal l (channel_of (beat_of x.1 0)) (beat_of x.1 i) ≡ None
    legal_beat l is i e = rw (← same_channel x.1 i) (rw is at e)

lawful_as : {w : ℕ} (j : Judgement) (config : Config) (link : Link) (ch : Channel) (x : Beat w) (e : End w) → IsWidth w
    → IsTyped x → judged config link ch x e ≡ j → IsKept config e
    → IsAnswerLawful config (offered_as j config link x e).0
lawful_as Passes config link ch x e width typed is before =
    let ok = passed config link ch x e typed is in
    each_weaker (IsHandable config) (λ y. (illegal_message_at (level_of config y.0.0) y.1 ≡ None) × IsClean y.1
    × HasBlock y.1
    × IsBlankAfter (beats_of y.1) y.1) (reaction config link x e).handed (λ y h. lawful_message config y width h)
    (reaction_handable config link x e width ok.sound before.sound)
lawful_as v config link ch x e width typed is before = tt

pub lawful : {w : ℕ} (config : Config) (link : Link) (ch : Channel) (x : Beat w) (e : End w) → IsWidth w → IsTyped x
    → IsKept config e → IsAnswerLawful config (offered config link ch x e).0
unfolding offered
lawful config link ch x e width typed ok = lawful_as (judged config link ch x e) config link ch x e width typed refl ok
