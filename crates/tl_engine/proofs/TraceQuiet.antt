-- A trace of a schedule has no fault, where no beat that is delivered is at fault.
use Rattle.std.proofs.Common.{◌≡◌, ℕ, zero, suc, ◌+◌, true, false, List, [], ◌∷◌, ◌++◌, length, refl, sym, ◌∙◌, ap}
use Rattle.std.proofs.Common.{subst, arith, append_assoc, inl, inr}
use Rattle.std.specs.Prelude.{All, Option, Some, None, nat_le}
use Rattle.std.proofs.lemmas.Bool.{and_parts, leb-true}
use Rattle.std.proofs.lemmas.List.{append-nil, length-map}
use Rattle.std.proofs.lemmas.List.Elements.{All-head}
use Rattle.std.proofs.lemmas.Option.{slice_get_within}
use Rattle.tl_beat.specs.declared.beat.Link.{Link}
use Rattle.tl_beat.specs.declared.beat.Beat.{Beat}
use Rattle.tl_beat.specs.declared.channel.Channel.{Channel}
use Rattle.tl_beat.specs.statement.Line.{IsInRange, Spells, fields_of, line_of as beat_line, spaced}
use Rattle.tl_command.specs.declared.command.RunForm.TheVariants as form
use Rattle.tl_params.specs.declared.config.Config.{Config}
use Rattle.tl_params.specs.declared.level.Level.{Level}
use Rattle.tl_params.specs.declared.profile.Profile.{Profile}
use Rattle.tl_rules.specs.statement.Conformance.{Trace}
use Rattle.tl_manager.proofs.blocks.Placing.{limits}
use Rattle.tl_params.specs.declared.header.Version.{Version}
use Rattle.tl_params.specs.statement.Header.{version_text, width_of}
use Rattle.tl_schedule.specs.declared.line.EventFault.{EventFault}
use Rattle.tl_schedule.specs.declared.line.Line.{Line}
use Rattle.tl_schedule.specs.declared.line.Line.TheVariants as line_of
use Rattle.tl_schedule.specs.statement.EventLine.{SpellsLine, event_fault}
use Rattle.tl_schedule.specs.statement.OutcomeLine.{trace_text}
use Rattle.tl_coherence.specs.declared.event.Event.{Event}
use Rattle.tl_coherence.specs.declared.event.Event.TheVariants.{Ask, Deliver}
use Rattle.tl_coherence.specs.declared.event.Outcome.{Outcome}
use Rattle.tl_coherence.specs.declared.event.Outcome.TheVariants as outcome
use Rattle.tl_coherence.specs.statement.Draining.{is_moving}
use Rattle.tl_coherence.specs.statement.Delivery.{levels_of}
use Rattle.tl_coherence.specs.statement.Flow.{flow, taken_at, trace_of}
use Rattle.tl_coherence.specs.statement.Headline.{IsGiven, IsTyped}
use Rattle.tl_coherence.specs.statement.Log.{Log, system_after}
use Rattle.tl_coherence.specs.statement.Movable.{drained, next_delivery, with_delivery}
use Rattle.tl_coherence.specs.statement.Ranged.{AreRanged, IsRanged}
use Rattle.tl_coherence.proofs.lines.Delivered.{are-in_range}
use Rattle.tl_coherence.proofs.flow.Flows.{asked-still}
use Rattle.tl_coherence.proofs.flow.FlowTraces.{levelled, taken}
use Rattle.tl_world.proofs.Happened.{given-more}
use Rattle.tl_lines.specs.declared.fault.Fault.TheVariants.{Event as NoEvent}
use Rattle.tl_lines.specs.declared.status.Status.{Status}
use Rattle.tl_lines.specs.declared.status.Status.TheVariants.{Clean, Broken}
use Rattle.tl_engine.specs.laws.Clean.{IsUpTo}
use Rattle.tl_lines.specs.statement.Fault.{fault_text}
use Rattle.tl_lines.specs.statement.Judged.{Faults, JudgedAfter, JudgedBy}
use Rattle.tl_lines.specs.statement.Lines.{lines_of}
use Rattle.tl_engine.specs.statement.Played.{HeadsSchedule, Played, PlayedAfter, Plays, deliveries_text, delivery_text}
use Rattle.tl_engine.specs.statement.Played.{outcome_after}
use Rattle.tl_lines.specs.statement.Trace.{SpellsHeader, header_line, levels_text, trace_word}
use Rattle.tl_lines.specs.statement.Width.{bytes_of}
use Rattle.tl_lines.proofs.InputLines.{lines_of-line}
use Rattle.tl_lines.proofs.OneText.{is_width_of}
use Rattle.tl_engine.proofs.Playing.{given-first, header-fits}
use Rattle.tl_engine.proofs.SaidLines.{ranged-spelled, typed-spelled}
use Rattle.tl_lines.proofs.Unended.{lacks-beat, lacks-header}
use Rattle.tl_engine.proofs.Writable.{delivered-writable}

-- No beat that is delivered is at fault behind what was delivered before it.
abbrev pub AreQuiet : Faults → Type 0
AreQuiet faults =
    (w : ℕ) (config : Config) (log : Log w) (link : Link) (ch : Channel) (o : Outcome w) (x : Beat w)
    → IsGiven config ((Deliver link ch, o) ∷ log) → is_moving o ≡ true
    → flow link.0 ((Deliver link ch, o) ∷ log) ≡ x ∷ flow link.0 log
    → trace_of ((Deliver link ch, o) ∷ log) ≡ (link, x) ∷ trace_of log
    → faults w (levels_of config) config.profile (link, x) (trace_of log) ≡ None

module _ (faults : Faults) (said : ℕ → List ℕ) (quiet : AreQuiet faults) where
  -- ---- a beat that is delivered has a line, and isn't at fault

  -- what is shown of it is judged good
  record IsGood {w : ℕ} (config : Config) (log : Log w) (link : Link) (x : Beat w) : Type 0 where
    spells : Spells (beat_line link x) link x
    good : faults w (levels_of config) config.profile (link, x) (trace_of log) ≡ None

  good-beat : {w : ℕ} (config : Config) (log : Log w) (link : Link) (ch : Channel) (o : Outcome w) (x : Beat w)
      → IsGiven config ((Deliver link ch, o) ∷ log)
      → AreRanged ((Deliver link ch, o) ∷ log) → is_moving o ≡ true
      → flow link.0 ((Deliver link ch, o) ∷ log) ≡ x ∷ flow link.0 log
      → trace_of ((Deliver link ch, o) ∷ log) ≡ (link, x) ∷ trace_of log → IsGood config log link x
  good-beat {w} config log link ch o x given ranged moving flowing tracing =
      let whole : Log w = (Deliver link ch, o) ∷ log in
      let is = levelled config log link ch o given moving in
      record {
        spells = record {
          is_line = refl;
          link_in_range = omega (
            arith,
            slice_get_within (levels_of config) link.0 is.level is.in_levels,
            length-map
                config.clients.items (λ client. client.level),
            (limits config given.fits).0,
          );
          writable = delivered-writable config log link ch o x given flowing;
          in_range = All-head IsInRange x (flow link.0 log)
              (subst (All IsInRange) flowing (are-in_range config whole given ranged link.0));
        };
        good = quiet w config log link ch o x given moving flowing tracing;
      }

  -- ---- the lines of a text, judged behind what has been shown

  abbrev JudgedBehind : {w : ℕ} → Config → Log w → List ℕ → List ℕ → Type 0
  JudgedBehind config log text verdict = JudgedAfter faults said (levels_of config) config.profile (trace_of log)
      (lines_of text)
      verdict Clean

  -- the text shows what has happened between these logs
  record Extends {w : ℕ} (config : Config) (log : Log w) (text : List ℕ) (grown : Log w) : Type 0 where
    given : IsGiven config grown
    ranged : AreRanged grown
    judged : (rest verdict : List ℕ) → JudgedBehind config grown rest verdict
        → JudgedBehind config log (text ++ rest) verdict

  nothing-more : {w : ℕ} (config : Config) (log : Log w) → IsGiven config log → AreRanged log
      → Extends config log [] log
  nothing-more config log given ranged = record { given = given; ranged = ranged; judged = λ rest verdict j. j }

  and-then : {w : ℕ} (config : Config) (log mid grown : Log w) (first second : List ℕ) → Extends config log first mid
      → Extends config mid second grown → Extends config log (first ++ second) grown
  and-then config log mid grown first second e f = record {
    given = f.given;
    ranged = f.ranged;
    judged = λ rest verdict j. rw (append_assoc first second rest)
        (e.judged (second ++ rest) verdict (f.judged rest verdict j));
  }

  -- a beat that is shown
  one-more : {w : ℕ} (config : Config) (log : Log w) (link : Link) (x : Beat w) (rest verdict : List ℕ)
      → IsGood config log link x
      → JudgedAfter faults said (levels_of config) config.profile ((link, x) ∷ trace_of log) (lines_of rest) verdict
      Clean
      → JudgedBehind config log (beat_line link x ++ rest) verdict
  unfolding JudgedAfter
  one-more config log link x rest verdict is j = rw (lines_of-line (spaced (fields_of link x)) rest (lacks-beat link x))
      (inl (link, x, is.spells, is.good, j))

  -- where no beat is moved nothing is shown
  record ShowsNone {w : ℕ} (event : Event w) (o : Outcome w) : Type 0 where
    text : trace_text event o ≡ []
    beats : taken_at event o ≡ []

  shows-none : {w : ℕ} (event : Event w) (o : Outcome w) → is_moving o ≡ false → ShowsNone event o
  shows-none (Ask client op) (outcome.Moved x) e = absurd cc
  shows-none (Ask client op) (outcome.Done x source f) e = absurd cc
  shows-none (Ask client op) (outcome.Replied r) e = record { text = refl; beats = refl }
  shows-none (Ask client op) outcome.Empty e = record { text = refl; beats = refl }
  shows-none (Ask client op) outcome.Stalled e = record { text = refl; beats = refl }
  shows-none (Ask client op) outcome.NoSuchClient e = record { text = refl; beats = refl }
  shows-none (Deliver link ch) (outcome.Moved x) e = absurd cc
  shows-none (Deliver link ch) (outcome.Done x source f) e = absurd cc
  shows-none (Deliver link ch) (outcome.Replied r) e = record { text = refl; beats = refl }
  shows-none (Deliver link ch) outcome.Empty e = record { text = refl; beats = refl }
  shows-none (Deliver link ch) outcome.Stalled e = record { text = refl; beats = refl }
  shows-none (Deliver link ch) outcome.NoSuchClient e = record { text = refl; beats = refl }

  still-judged : {w : ℕ} (config : Config) (log : Log w) (event : Event w) (o : Outcome w) (rest verdict : List ℕ)
      → is_moving o ≡ false
      → JudgedBehind config ((event, o) ∷ log) rest verdict → JudgedBehind config log (trace_text event o ++ rest)
      verdict
  unfolding trace_of
  still-judged config log event o rest verdict still j = let none = shows-none event o still in
      rw none.text (rw none.beats at j)

  delivery-judged : {w : ℕ} (config : Config) (log : Log w) (link : Link) (ch : Channel) (o : Outcome w)
      (rest verdict : List ℕ)
      → IsGiven config ((Deliver link ch, o) ∷ log) → AreRanged ((Deliver link ch, o) ∷ log)
      → JudgedBehind config ((Deliver link ch, o) ∷ log) rest verdict
      → JudgedBehind config log (trace_text (Deliver link ch) o ++ rest) verdict
  unfolding flow trace_of
  delivery-judged config log link ch (outcome.Moved x) rest verdict given ranged j =
      one-more config log link x rest verdict (good-beat config log link ch (outcome.Moved x) x given ranged refl
      (taken link x (flow link.0 log)) refl) j
  delivery-judged config log link ch (outcome.Done x source f) rest verdict given ranged j =
      one-more config log link x rest verdict (good-beat config log link ch (outcome.Done x source f) x given ranged
      refl
      (taken link x (flow link.0 log)) refl) j
  delivery-judged config log link ch (outcome.Replied r) rest verdict given ranged j =
      still-judged config log (Deliver link ch) (outcome.Replied r) rest verdict refl j
  delivery-judged config log link ch outcome.Empty rest verdict given ranged j =
      still-judged config log (Deliver link ch) outcome.Empty rest verdict refl j
  delivery-judged config log link ch outcome.Stalled rest verdict given ranged j =
      still-judged config log (Deliver link ch) outcome.Stalled rest verdict refl j
  delivery-judged config log link ch outcome.NoSuchClient rest verdict given ranged j =
      still-judged config log (Deliver link ch) outcome.NoSuchClient rest verdict refl j

  event-judged : {w : ℕ} (config : Config) (log : Log w) (event : Event w) (rest verdict : List ℕ)
      → IsGiven config ((event, outcome_after config log event) ∷ log)
      → AreRanged ((event, outcome_after config log event) ∷ log)
      → JudgedBehind config ((event, outcome_after config log event) ∷ log) rest verdict
      → JudgedBehind config log (trace_text event (outcome_after config log event) ++ rest) verdict
  event-judged config log (Ask client op) rest verdict given ranged j =
      still-judged config log (Ask client op) (outcome_after config log (Ask client op)) rest verdict
      (asked-still config log client op) j
  event-judged config log (Deliver link ch) rest verdict given ranged j =
      delivery-judged config log link ch (outcome_after config log (Deliver link ch)) rest verdict given ranged j

  event-extends : {w : ℕ} (config : Config) (log : Log w) (event : Event w) → IsGiven config log → AreRanged log
      → IsTyped event → IsRanged event
      → Extends config log (trace_text event (outcome_after config log event))
      ((event, outcome_after config log event) ∷ log)
  unfolding AreRanged
  event-extends config log event given ranged typed inside =
      let grown = given-more config log event (outcome_after config log event) given typed refl in
      record {
        given = grown;
        ranged = (inside, ranged);
        judged = λ rest verdict j. event-judged config log event rest
            verdict grown (inside, ranged) j;
      }

  -- ---- what lines show

  delivery-extends : {w : ℕ} (config : Config) (log : Log w) (o : Option (Link × Channel)) → IsGiven config log
      → AreRanged log
      → Extends config log (delivery_text form.Trace config log o) (with_delivery config o log)
  delivery-extends config log None given ranged = nothing-more config log given ranged
  delivery-extends config log (Some d) given ranged = event-extends config log (Deliver d.0 d.1) given ranged tt tt

  deliveries-extend : {w : ℕ} (config : Config) (n : ℕ) (log : Log w) → IsGiven config log → AreRanged log
      → Extends config log (deliveries_text form.Trace config n log) (drained config n log)
  unfolding deliveries_text drained
  deliveries-extend config zero log given ranged = nothing-more config log given ranged
  deliveries-extend config (suc n) log given ranged =
      let next = next_delivery config (system_after config log) in
      let one = delivery-extends config log next given ranged in
      and-then config log (with_delivery config next log) (drained config n (with_delivery config next log))
      (delivery_text form.Trace config log next)
      (deliveries_text form.Trace config n (with_delivery config next log)) one
      (deliveries-extend config n (with_delivery config next log) one.given one.ranged)

  said-extends : {w : ℕ} (config : Config) (log : Log w) (line : List ℕ) (said : Line w) (text : List ℕ) (grown : Log w)
      → IsGiven config log → AreRanged log
      → SpellsLine line said → Plays form.Trace config log said text grown → Extends config log text grown
  said-extends config log line (line_of.Event event) text grown given ranged spells (says, is) =
      rw (says, is) (event-extends config log event given ranged (typed-spelled line event given.width spells)
      (ranged-spelled line event spells))
  said-extends config log line line_of.Drain text grown given ranged spells (n, all, says, is) =
      rw (says, is, append-nil (deliveries_text form.Trace config n log)) (deliveries-extend config n log given ranged)

  -- the text is the trace, or the trace and the fault of an event behind it
  abbrev Ends : List ℕ → List ℕ → Status → Type 0
  Ends text trace Clean = text ≡ trace
  Ends text trace Broken = (n : ℕ) × (fault : EventFault) × (text ≡ trace ++ fault_text n (NoEvent fault))

  ends-behind : (first rest trace : List ℕ) (status : Status) → Ends rest trace status
      → Ends (first ++ rest) (first ++ trace) status
  ends-behind first rest trace Clean is = ap (λ (t : List ℕ). first ++ t) is
  ends-behind first rest trace Broken (n, fault, is) =
      (n, fault, ap (λ (t : List ℕ). first ++ t) is ∙ sym (append_assoc first trace (fault_text n (NoEvent fault))))

  -- the text shows a trace that is judged clean behind what has happened
  record ShowsTrace {w : ℕ} (config : Config) (log : Log w) (text : List ℕ) (status : Status) : Type 0 where
    trace : List ℕ
    verdict : List ℕ
    ends : Ends text trace status
    judged : JudgedBehind config log trace verdict

  shows-trace : {w : ℕ} (config : Config) (n : ℕ) (log : Log w) (lines : List (List ℕ)) (text : List ℕ)
      (status : Status)
      → IsGiven config log → AreRanged log
      → PlayedAfter form.Trace config n log lines text status → ShowsTrace config log text status
  unfolding PlayedAfter JudgedAfter lines_of
  shows-trace config n log [] text status given ranged (is, ends) =
      rw ends (record { trace = []; verdict = said (length (trace_of log)); ends = is; judged = (refl, refl) })
  shows-trace config n log (line ∷ lines) text status given ranged
      (inl (said, first, rest, grown, spells, plays, is, played)) =
      let e = said-extends config log line said first grown given ranged spells plays in
      let more = shows-trace config (n + 1) grown lines rest status e.given e.ranged played in
      rw is (record {
        trace = first ++ more.trace;
        verdict = more.verdict;
        ends =
            ends-behind first rest more.trace status more.ends;
        judged = e.judged more.trace more.verdict more.judged;
      })
  shows-trace config n log (line ∷ lines) text status given ranged (inr (none, is, ends)) =
      rw ends (record {
        trace = [];
        verdict = said (length (trace_of log));
        ends =
            (n, event_fault line, is);
        judged = (refl, refl);
      })

  -- ---- the whole

  -- no fault is found in the trace
  abbrev IsQuiet : List ℕ → Type 0
  IsQuiet trace = (n : ℕ) × (length (lines_of trace) ≡ n + 1) × JudgedBy SpellsHeader faults said (lines_of trace) (said n) Clean

  -- the verdict counts the lines
  clean-says : {w : ℕ} (levels : List Level) (p : Profile) (t : Trace w) (lines : List (List ℕ)) (text : List ℕ)
      → JudgedAfter faults said levels p t lines text Clean → text ≡ said (length t + length lines)
  unfolding JudgedAfter
  clean-says levels p t [] text (is, ends) = let all : length t + 0 ≡ length t = omega arith in rw all is
  clean-says levels p t (line ∷ lines) text (inl (link, x, spells, good, rest)) =
      let all : length t + length (line ∷ lines) ≡ length ((link, x) ∷ t) + length lines = omega arith in
      rw all (clean-says levels p ((link, x) ∷ t) lines text rest)
  clean-says levels p t (line ∷ lines) text (inr (fault, is, says, ends)) = absurd cc

  -- the header of the trace names what that of the schedule does
  trace-heads : (line : List ℕ) (version : Version) (config : Config) → HeadsSchedule line version config
      → SpellsHeader (header_line version (levels_of config)) (width_of version) config.profile (levels_of config)
  trace-heads line version config heads =
      let counted = and_parts (nat_le 1 (length config.clients.items)) (nat_le (length config.clients.items) 16)
      heads.spelled.clients_fit in
      let same : length (levels_of config) ≡ length config.clients.items =
      length-map config.clients.items (λ client. client.level) in
      record {
        version = version;
        is_line = refl;
        of_width = refl;
        of_profile = sym heads.of_profile;
        so_many = (
          omega (arith, same, leb-true 1 (length config.clients.items) counted.0),
          omega
              (arith, same, leb-true (length config.clients.items) 16 counted.1),
        );
      }

  headed-clean : (line : List ℕ) (version : Version) (config : Config) (trace verdict : List ℕ)
      → HeadsSchedule line version config
      → JudgedBehind {w = bytes_of (width_of version)} config [] trace verdict
      → IsQuiet (header_line version (levels_of config) ++ trace)
  unfolding JudgedBy trace_of
  headed-clean line version config trace verdict heads judged =
      let lines = lines_of-line (trace_word ++ version_text version ++ levels_text (levels_of config)) trace
      (lacks-header version (levels_of config)) in
      let all : 0 + length (lines_of trace) ≡ length (lines_of trace) = omega arith in
      let says : verdict ≡ said (length (lines_of trace)) =
      clean-says (levels_of config) config.profile [] (lines_of trace) verdict judged ∙ ap said all in (
        length (lines_of trace),
        ap (λ (l : List (List ℕ)). length l) lines
            ∙ omega arith,
        rw lines (inl (
          width_of version,
          config.profile,
          levels_of config,
          trace-heads line version config heads,
          rw says
              at judged,
        )),
      )

  whole-clean : (top rest trace : List ℕ) (status : Status) → IsQuiet (top ++ trace) → Ends rest trace status
      → IsUpTo IsQuiet (top ++ rest) status
  whole-clean top rest trace Clean clean is = rw is clean
  whole-clean top rest trace Broken clean (n, fault, is) =
      inr (
        top ++ trace,
        n,
        fault,
        ap (λ (t : List ℕ). top ++ t) is ∙ sym
            (append_assoc top trace (fault_text n (NoEvent fault))),
        clean,
      )

  -- What `run --trace` writes is a trace without fault, up to the fault that ends it.
  pub trace-quiet : (lines : List (List ℕ)) (text : List ℕ) (status : Status) → Played form.Trace lines text status
      → IsUpTo IsQuiet text status
  unfolding Played AreRanged
  trace-quiet [] text status (is, ends) = rw ends (inl is)
  trace-quiet (line ∷ lines) text status (inl (version, config, rest, heads, is, played)) =
      let shows = shows-trace {w = bytes_of (width_of version)} config 2 [] lines rest status
      (given-first config (is_width_of (width_of version)) (header-fits line version config heads.spelled)) tt played in
      rw is (whole-clean (header_line version (levels_of config)) rest shows.trace status
      (headed-clean line version config shows.trace shows.verdict heads shows.judged) shows.ends)
  trace-quiet (line ∷ lines) text status (inr (none, is, ends)) = rw ends (inl is)
