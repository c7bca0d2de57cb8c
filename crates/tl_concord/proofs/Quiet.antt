-- No response of a world begins that breaks M1 or M4.
use Rattle.tl_concord.proofs.Imports.{Beat, BeatA, BeatD, OpD, History, unfinished, Perm, on_link, asks_for, block_at}
use Rattle.tl_concord.proofs.Imports.{grants, request_of, is_free, leaves, is_access_answer, trace_of, Log, IsGiven}
use Rattle.tl_concord.proofs.Imports.{Config}
use Rattle.tl_concord.proofs.Imports.{and_left, and_right}
use Rattle.std.proofs.Common.{◌≡◌, ◌≤◌, arith, ℕ, zero, suc, Bool, true, false, not, ◌&&◌, ◌||◌, List, [], ◌∷◌, length, refl, sym}
use Rattle.std.proofs.Common.{◌∙◌, ap, inl, inr}
use Rattle.std.specs.Prelude.{if◌then◌else◌, Option, Some, None, is_some, unwrap_or, ◌==◌}
use Rattle.std.proofs.lemmas.Bool.{and_from, cases_eq, eq-eqb}
use Rattle.tl_beat.{specs.declared.channel.Channel.Channel, specs.declared.opcode.OpA.OpA}
use Rattle.tl_params.specs.declared.key.Key.TheVariants.{GrantAckOf, RequestSource}
use Rattle.tl_rules.{specs.code.Open.open_request, specs.code.Open.request_fields, specs.declared.past.Request.Request}
use Rattle.tl_rules.{specs.statement.Windows.has_window, specs.statement.Windows.needs}
use Rattle.tl_bytes.specs.statement.Shown.{had_window, shows}
use Rattle.tl_rules.specs.statement.Conformance.{Trace, comes_in_request, same_perm}
use Rattle.tl_rules.specs.statement.History.{begins, capped, is_grant, pending}
use Rattle.tl_bytes.specs.statement.Free.{all_liberties, may_hold}
use Rattle.tl_concord.proofs.Alike.{free-alike, held-alike, kept-world, links-few}
use Rattle.tl_memory.specs.statement.Links.{KeepRules}
use Rattle.tl_monitor.specs.statement.Granting.{coming, given_by, granted_under}
use Rattle.tl_params.specs.declared.level.Level.{Level}
use Rattle.tl_params.specs.declared.profile.Profile.{Profile}
use Rattle.tl_params.specs.statement.Liberties.{liberties_of}
use Rattle.tl_coherence.specs.declared.event.Event.{Event}
use Rattle.tl_coherence.specs.declared.event.Event.TheVariants.{Deliver}
use Rattle.tl_coherence.proofs.bound.Settling.{given-before}
use Rattle.tl_coherence.specs.statement.Delivery.{levels_of}
use Rattle.tl_coherence.specs.statement.Flow.{IsTaken, taken_at}
use Rattle.tl_coherence.specs.{declared.event.Outcome.Outcome, statement.AnsweredInTime.IsAnsweredInTime}
use Rattle.tl_coherence.specs.{statement.Flow.EachTaken, statement.OneWriter.IsGivenAlone}
use Rattle.tl_coherence.proofs.{flow.GivenAlone.apart, flow.Windowed.in_time}
use Rattle.tl_params.specs.declared.memory_rule.MemoryRule.TheVariants.{M1, M4}
use Rattle.tl_together.specs.statement.Coherence.{broken_access, broken_grant, broken_response, is_access_ack}
use Rattle.tl_together.specs.statement.Coherence.{is_grantable}
use Rattle.tl_concord.proofs.Responses.{responses}
use Rattle.tl_concord.specs.statement.Beginnings.{Beginnings, BeginsUnbroken}
use Rattle.tl_concord.specs.statement.Responses.{IsResponse, IsRightBeat}

-- ---- a response that begins

-- what is kept of an open request is of the request with its source
opened : {w : ℕ} (b : Bool) (o : Option (BeatA w)) (r : Request) → (if b then request_fields o else None) ≡ Some r
    → (x : BeatA w) × (o ≡ Some x) × (r.opcode ≡ x.opcode) × (r.block ≡ block_at x.address)
opened true (Some x) r e =
    let same = fields x r e in (x, refl, ap (λ (q : Request). q.opcode) same, ap (λ (q : Request). q.block) same)
  where
    fields : {w : ℕ} (x : BeatA w) (r : Request) → request_fields (Some x) ≡ Some r
        → r ≡ record { opcode = x.opcode; param = x.param; size = x.size; block = block_at x.address }
    fields x r e = cc
opened true None r e = absurd cc
opened false o r e = absurd cc

answers-too : (o : OpD) → is_access_ack o ≡ true → is_access_answer o ≡ true
answers-too OpD.AccessAck e = refl
answers-too OpD.AccessAckData e = refl
answers-too v e = absurd cc

-- where nobody holds what conflicts, and nobody else is being granted the block, it may be granted
grantable : {w : ℕ} (levels : List Level) (p : Profile) (n link : ℕ) (given : Perm) (block : ℕ) (t : Trace w)
    → KeepRules (liberties_of p) levels t → n ≤ length levels → is_free n (Some link) given block t ≡ true
    → ((other : ℕ) → (other ≡ link → ⊥) → coming block (on_link other t) ≡ None)
    → is_grantable n link given block t ≡ true
unfolding is_free is_grantable
grantable levels p zero link given block t kept le free none = refl
grantable {w} levels p (suc n) link given block t kept le free none =
    and_from (is_grantable n link given block t) ((link == n) || leaves given
    (granted_under all_liberties block (on_link n t)))
    (grantable levels p n link given block t kept (omega (arith, le)) (and_left (is_free n (Some link) given block t) _ free) none)
    (elim (cases_eq n link) [
      | inl own ↦ rw (eq-eqb link n (sym own)) refl
      | inr apart ↦ ap (λ (o : Option Perm). (link == n) || leaves given (unwrap_or o (may_hold block (on_link n t))))
          (none n apart)
          ∙ ap (λ (h : Perm). (link == n) || leaves given h)
          (held-alike levels p n block t kept (omega (arith, le)))
          ∙ and_right (is_free n (Some link) given block t) _ free
    ])

-- what is being granted of a block that no unfinished Grant is of
nothing-coming : {w : ℕ} (block : ℕ) (past : History w)
    → ((x : BeatD w) (older : List (Beat w)) → unfinished Channel.D past ≡ Beat.D x ∷ older
    → grants block x past ≡ false)
    → coming block past ≡ None
nothing-coming {w} block past off = go (pending (GrantAckOf block) past) (nothing (unfinished Channel.D past) off)
  where
    nothing : (beats : List (Beat w))
        → ((x : BeatD w) (older : List (Beat w)) → beats ≡ Beat.D x ∷ older → grants block x past ≡ false)
        → given_by block beats past ≡ None
    nothing (Beat.D x ∷ older) none = rw (none x older refl) refl
    nothing v none = refl

    go : (b : Bool) → given_by block (unfinished Channel.D past) past ≡ None
        → (if b then given_by block (unfinished Channel.D past) past else None) ≡ None
    go true e = e
    go false e = refl

-- where its block was free, an access could be performed
window-had : {w : ℕ} (levels : List Level) (p : Profile) (n link source : ℕ) (given : Perm) (block : ℕ) (t : Trace w)
    → KeepRules (liberties_of p) levels t → n ≤ length levels
    → has_window n link source given block t ≡ true → had_window n link source given block t ≡ true
unfolding has_window had_window
window-had levels p n link source given block [] kept le e = absurd cc
window-had levels p n link source given block (x ∷ t) kept le e =
    rw (free-alike levels p n given block (x ∷ t) kept le)
    (go (is_some (open_request source (on_link link (x ∷ t)))) (is_free n None given block (x ∷ t))
    (same_perm given Perm.Branch && shows block x.1 (on_link x.0.0 t))
    (window-had levels p n link source given block t kept.1 le) e)
  where
    go : (o f s : Bool)
        → (has_window n link source given block t ≡ true → had_window n link source given block t ≡ true)
        → (o && (f || has_window n link source given block t)) ≡ true
        → (o && ((f || s) || had_window n link source given block t)) ≡ true
    go true true s before e = refl
    go true false true before e = refl
    go true false false before e = before e
    go false f s before e = absurd cc

module _ {w : ℕ} (levels : List Level) (p : Profile) (n link : ℕ) (y : BeatD w) (t : Trace w)
    (kept : KeepRules (liberties_of p) levels t) (le : n ≤ length levels)
    (begun : begins (Beat.D y) (on_link link t) ≡ true) where
  abbrev past : History w
  past = on_link link t

  abbrev is_open : Bool
  is_open = pending (RequestSource y.source) past && not (comes_in_request y.source (unfinished Channel.A past))

  grant-quiet : IsGivenAlone link (Beat.D y) t → IsResponse link y t → is_grant y.opcode ≡ true
      → (o : Option Request) → open_request y.source past ≡ o → broken_grant n link y o t ≡ None
  grant-quiet alone response grant None e = refl
  grant-quiet alone response grant (Some r) e =
      ap (λ (b : Bool). if b then None else Some M1)
      (grantable levels p n link (capped y.param) r.block t kept le (alone n r.block begun of_block)
      (λ other apart. nothing-coming r.block (on_link other t)
      (λ x older e. not_true (grants r.block x (on_link other t))
      (λ of_other. apart (response.alone r.block of_block other x older e of_other)))))
    where
      not_true : (b : Bool) → (b ≡ true → ⊥) → b ≡ false
      not_true false f = refl
      not_true true f = absurd (f refl)

      request : (x : BeatA w) × (request_of y.source past ≡ Some x) × (r.opcode ≡ x.opcode)
          × (r.block ≡ block_at x.address)
      request = opened is_open (request_of y.source past) r e

      of_block : grants r.block y past ≡ true
      of_block = and_from (is_grant y.opcode) (asks_for r.block (request_of y.source past)) grant
          (ap (asks_for r.block) request.1 ∙ eq-eqb (block_at request.0.address) r.block (sym request.3))

  same-window : (o i : OpA) (block k : ℕ) → o ≡ i → block ≡ k → has_window n link y.source (needs i) k t ≡ true
      → has_window n link y.source (needs o) block t ≡ true
  same-window o i block k e f windowed = rw (e, f) windowed

  access-quiet : IsAnsweredInTime link (Beat.D y) t → is_access_ack y.opcode ≡ true
      → (o : Option Request) → open_request y.source past ≡ o → broken_access n link y o t ≡ None
  access-quiet timely ack None e = refl
  access-quiet timely ack (Some r) e = ap (λ (b : Bool). if b then None else Some M4) windowed
    where
      request : (x : BeatA w) × (request_of y.source past ≡ Some x) × (r.opcode ≡ x.opcode)
          × (r.block ≡ block_at x.address)
      request = opened is_open (request_of y.source past) r e

      windowed : had_window n link y.source (needs r.opcode) r.block t ≡ true
      windowed = window-had levels p n link y.source (needs r.opcode) r.block t kept le
          (same-window r.opcode request.0.opcode r.block (block_at request.0.address) request.2 request.3
          (timely n request.0 begun (answers-too y.opcode ack) request.1))

  response-quiet : IsGivenAlone link (Beat.D y) t → IsAnsweredInTime link (Beat.D y) t → IsResponse link y t
      → broken_response n link y t ≡ None
  response-quiet alone timely response = go y.denied (is_grant y.opcode) refl (is_access_ack y.opcode) refl
    where
      go : (denied b : Bool) → is_grant y.opcode ≡ b → (c : Bool) → is_access_ack y.opcode ≡ c
          → (if denied then None else if b then broken_grant n link y (open_request y.source past) t else
          if c then broken_access n link y (open_request y.source past) t else None) ≡ None
      go true b g c e = refl
      go false true grant c e = grant-quiet alone response grant (open_request y.source past) refl
      go false false e true ack = access-quiet timely ack (open_request y.source past) refl
      go false false e false f = refl

-- ---- all that is taken

begins-quiet : {w : ℕ} (levels : List Level) (p : Profile) (n link : ℕ) (x : Beat w) (t : Trace w)
    → KeepRules (liberties_of p) levels t → n ≤ length levels → IsGivenAlone link x t → IsAnsweredInTime link x t
    → IsRightBeat link x t → BeginsUnbroken n link x t
begins-quiet levels p n link (Beat.D y) t kept le alone timely right = go (begins (Beat.D y) (on_link link t)) refl
  where
    go : (b : Bool) → begins (Beat.D y) (on_link link t) ≡ b → (if b then broken_response n link y t else None) ≡ None
    go true begun = response-quiet levels p n link y t kept le begun alone timely right
    go false e = refl
begins-quiet levels p n link (Beat.A y) t kept le alone timely right = tt
begins-quiet levels p n link (Beat.B y) t kept le alone timely right = tt
begins-quiet levels p n link (Beat.C y) t kept le alone timely right = tt
begins-quiet levels p n link (Beat.E y) t kept le alone timely right = tt

log-quiet : {w : ℕ} (config : Config) (log : Log w) → IsGiven config log
    → EachTaken (λ earlier link x. IsGivenAlone link x (trace_of earlier)) log
    → EachTaken (λ earlier link x. IsAnsweredInTime link x (trace_of earlier)) log
    → EachTaken (λ earlier link x. IsRightBeat link x (trace_of earlier)) log
    → EachTaken (λ earlier link x. BeginsUnbroken (length config.clients.items) link x (trace_of earlier)) log
unfolding EachTaken
log-quiet config [] given alone timely right = tt
log-quiet {w} config ((event, o) ∷ log) given alone timely right =
    (now event o alone.0 timely.0 right.0, log-quiet config log before alone.1 timely.1 right.1)
  where
    before : IsGiven config log
    before = given-before config (event, o) log given

    beat : (link : ℕ) (x : Beat w) → IsGivenAlone link x (trace_of log) → IsAnsweredInTime link x (trace_of log)
        → IsRightBeat link x (trace_of log) → BeginsUnbroken (length config.clients.items) link x (trace_of log)
    beat link x alone timely right = begins-quiet (levels_of config) config.profile (length config.clients.items) link x
        (trace_of log) (kept-world log before) (links-few config) alone timely right

    now : (event : Event w) (o : Outcome w)
        → IsTaken (λ earlier link x. IsGivenAlone link x (trace_of earlier)) log (taken_at event o)
        → IsTaken (λ earlier link x. IsAnsweredInTime link x (trace_of earlier)) log (taken_at event o)
        → IsTaken (λ earlier link x. IsRightBeat link x (trace_of earlier)) log (taken_at event o)
        → IsTaken (λ earlier link x. BeginsUnbroken (length config.clients.items) link x (trace_of earlier)) log
        (taken_at event o)
    now (Deliver link ch) (Outcome.Moved x) alone timely right = beat link.0 x alone timely right
    now (Deliver link ch) (Outcome.Done x source f) alone timely right = beat link.0 x alone timely right
    now event o alone timely right = tt

pub begins_unbroken : {w : ℕ} → Beginnings w
begins_unbroken config log given =
    log-quiet config log given (apart config log given).given_alone (in_time config log given)
    (responses config log given).each
