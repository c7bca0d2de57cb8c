-- Lines of a schedule, one after another.
use Rattle.std.proofs.Common.{◌≡◌, ◌++◌, ◌+◌, ◌-◌, ◌≤◌, ℕ, zero, suc, Bool, List, [], refl, sym, ◌∙◌, ap, append_assoc}
use Rattle.std.proofs.Common.{◌<◌, Result, Ok, Err, arith, length}
use Rattle.std.proofs.Common.{if◌then◌else◌}
use Rattle.std.specs.Prelude.{OnErr, OnOk, IsTrue, is_ok, not, true, false, Option, Some, None}
use Rattle.std.specs.Io.KnownBytes.{Appends}
use Rattle.std.proofs.Common.{add-one, subst}
use Rattle.std.proofs.lemmas.Bool.Decides.{nat_tests}
use Rattle.std.proofs.lemmas.List.{append-nil}
use Rattle.std.proofs.KnownBytes.{Appends-nil, Appends-trans}
use Rattle.tl_coherence.specs.declared.event.Event.{Event}
use Rattle.tl_params.specs.declared.config.Config.{Config}
use Rattle.tl_params.specs.declared.config.NewFault.TheVariants as fault
use Rattle.tl_params.specs.declared.header.Version.{Version}
use Rattle.tl_params.specs.statement.Config.{all_sources_fit, blocks_fit, clients_fit, config_fault, trackers_fit}
use Rattle.tl_params.specs.statement.Header.{profile_of}
use Rattle.tl_command.specs.declared.random.Options.{Options}
use Rattle.tl_lines.proofs.Parts.{part_more}
use Rattle.tl_lines.specs.statement.Parts.{AppendsPart}
use Rattle.tl_engine.specs.statement.Played.{HeadsSchedule}
use Rattle.tl_random.specs.code.Begun.{IsBegun}
use Rattle.tl_schedule.specs.declared.line.Line.TheVariants as line_of
use Rattle.tl_schedule.specs.statement.EventLine.{SpellsEvent, drain_line}
use Rattle.tl_random.specs.statement.Random.{AreLinesOf, GrowsByLine, IsLineOf, IsScheduleOf, WritesPart}
use Rattle.tl_random.specs.statement.Random.{WritesSchedule, header_of}
use Rattle.tl_random.specs.statement.Random.{is_event_of}

-- no line
pub no_lines : (w : ℕ) (config : Config) → AreLinesOf w config 0 []
unfolding AreLinesOf
no_lines w config = refl

-- one line more
pub one_more : (w : ℕ) (config : Config) (n : ℕ) (text line whole : List ℕ) → AreLinesOf w config n text
    → IsLineOf w config line → whole ≡ text ++ line → AreLinesOf w config (suc n) whole
unfolding AreLinesOf
one_more w config n text line whole are is e = (text, line, e, are, is)

-- the line of an event was appended
pub grows_event : {w : ℕ} {X E : Type 0} (config : Config) (old was new line shown : List ℕ) (event : Event w)
    (r : Result X E) → was ≡ old → new ≡ (if is_ok r then was ++ shown else was)
    → SpellsEvent line event → IsTrue (is_event_of config event) → shown ≡ line → OnOk r (GrowsByLine w config old new)
grows_event config old was new line shown event (Ok x) same e spelled is as_is = (
  shown,
  e ∙ ap (λ (x : List ℕ). x ++ shown) same,
  (
    line_of.Event event,
    subst (λ (x : List ℕ). SpellsEvent x event)
        (sym as_is) spelled,
    is,
  ),
)
grows_event config old was new line shown event (Err x) same e spelled is as_is = tt

-- the line that drains was appended
pub grows_drain : (w : ℕ) {X E : Type 0} (config : Config) (old was new : List ℕ) (r : Result X E) → was ≡ old
    → OnOk r (new ≡ was ++ drain_line) → OnOk r (GrowsByLine w config old new)
grows_drain w config old was new (Ok x) same e =
    (drain_line, e ∙ ap (λ (x : List ℕ). x ++ drain_line) same, (line_of.Drain, refl, tt))
grows_drain w config old was new (Err x) same e = tt

-- a configuration within its limits
fits : (a b c d : Bool) → (if not a then Some fault.N1 else if not b then Some fault.N2 else if not c then Some fault.N3
    else if not d then Some fault.N4 else None) ≡ None
    → IsTrue a × IsTrue b × IsTrue c × IsTrue d
fits true true true true e = (refl, refl, refl, refl)
fits false b c d e = absurd cc
fits true false c d e = absurd cc
fits true true false d e = absurd cc
fits true true true false e = absurd cc

-- it has clients
pub some_clients : (config : Config) → config_fault config ≡ None → 0 < length config.clients.items
some_clients config e =
    let all = fits (clients_fit config) (blocks_fit config.blocks) (trackers_fit config.trackers)
    (all_sources_fit config.clients.items) e in
    grind (arith, nat_tests, all.0)

-- of which a byte is enough for the numbers
pub few_clients : (config : Config) → config_fault config ≡ None → length config.clients.items ≤ 16
few_clients config e =
    let all = fits (clients_fit config) (blocks_fit config.blocks) (trackers_fit config.trackers)
    (all_sources_fit config.clients.items) e in
    grind (arith, nat_tests, all.0)

-- its header
pub heads : (version : Version) (config : Config) → config_fault config ≡ None → config.profile ≡ profile_of version
    → HeadsSchedule (header_of version config) version config
heads version config e of =
    let all = fits (clients_fit config) (blocks_fit config.blocks) (trackers_fit config.trackers)
    (all_sources_fit config.clients.items) e in
    record {
      spelled = record {
        is_line = refl;
        blocks_fit = all.1;
        trackers_fit = all.2;
        clients_fit =
            all.0;
        sources_fit = all.3;
      };
      of_profile = of;
    }

-- ---- what is gathered, and what was written

-- more behind lines that are partly written
behind_lines : (written out header lines rest tail : List ℕ) → written ++ out ≡ header ++ lines
    → written ++ (out ++ (rest ++ tail)) ≡ header ++ ((lines ++ rest) ++ tail)
behind_lines written out header lines rest tail e =
    sym (append_assoc written out (rest ++ tail)) ∙ ap (λ (x : List ℕ). x ++ (rest ++ tail)) e
    ∙ append_assoc header lines (rest ++ tail) ∙ ap (λ (x : List ℕ). header ++ x) (sym (append_assoc lines rest tail))

module _ (w : ℕ) (o : Options) where
  abbrev WholeOf : List ℕ → List ℕ
  WholeOf lines = header_of o.version o.config ++ (lines ++ drain_line)

  -- a schedule of these lines
  whole : (lines : List ℕ) → AreLinesOf w o.config o.events lines
      → IsScheduleOf w o.version o.config o.events (WholeOf lines)
  whole lines are = record {
    lines = lines;
    header_is = heads o.version o.config o.fits o.of_profile;
    lines_are = are;
    text_is = refl;
  }

  -- lines that drain behind so many make more
  more_lines : (m k n : ℕ) (lines : List ℕ) → n ≡ m + k → AreLinesOf w o.config k lines
      → (rest : List ℕ) × AreLinesOf w o.config n (lines ++ rest)
  more_lines zero k n lines e are =
      let same : k ≡ n = omega (arith, e) in
      ([], rw (append-nil lines) (subst (λ (x : ℕ). AreLinesOf w o.config x lines) same are))
  more_lines (suc m) k n lines e are =
      let (rest, longer) = more_lines m k (m + k) lines refl are in
      let same : suc (m + k) ≡ n = omega (arith, e) in
      let next : AreLinesOf w o.config (suc (m + k)) (lines ++ (rest ++ drain_line)) =
      one_more w o.config (m + k) (lines ++ rest) drain_line (lines ++ (rest ++ drain_line)) longer
      (line_of.Drain, refl, tt) (sym (append_assoc lines rest drain_line)) in
      (rest ++ drain_line, subst (λ (x : ℕ). AreLinesOf w o.config x (lines ++ (rest ++ drain_line))) same next)

  -- what was written of some lines is a beginning of a whole schedule
  pub part_written : (k : ℕ) (out : List ℕ) (had holds now : Option (List ℕ)) → IsBegun w o k out had holds
      → k ≤ o.events → AppendsPart holds now out → WritesPart w o.version o.config o.events had now
  part_written k out had holds now (written, lines, p, e, are) few part =
      let (rest, all) = more_lines (o.events - k) k o.events lines (omega (arith, few)) are in
      let text = behind_lines written out (header_of o.version o.config) lines rest drain_line e in (
        WholeOf (lines ++ rest),
        whole (lines ++ rest) all,
        part_more had holds now written out (rest ++ drain_line) (WholeOf (lines ++ rest)) p part text,
      )

  -- nothing is a beginning
  pub nothing_written : (k : ℕ) (out : List ℕ) (had holds : Option (List ℕ)) → IsBegun w o k out had holds
      → k ≤ o.events → WritesPart w o.version o.config o.events had holds
  nothing_written k out had holds begun few =
      part_written k out had holds holds begun few ([], out, refl, Appends-nil holds)

  -- the header is gathered, and nothing is written
  pub begun : (out empty : List ℕ) (had : Option (List ℕ)) → out ≡ empty ++ header_of o.version o.config → empty ≡ []
      → IsBegun w o 0 out had had
  begun out empty had e none = (
    [],
    [],
    Appends-nil had,
    e ∙ ap (λ (x : List ℕ). x ++ header_of o.version o.config) none ∙ sym (append-nil (header_of o.version o.config)),
    no_lines w o.config,
  )

  -- one line more is gathered
  pub gathered : (k : ℕ) (old new : List ℕ) (had holds : Option (List ℕ)) → IsBegun w o k old had holds
      → GrowsByLine w o.config old new → IsBegun w o (k + 1) new had holds
  gathered k old new had holds (written, lines, p, e, are) (line, grown, is) =
      let longer : AreLinesOf w o.config (k + 1) (lines ++ line) =
      rw add-one (one_more w o.config k lines line (lines ++ line) are is refl) in (
        written,
        lines ++ line,
        p,
        ap (λ (x : List ℕ). written ++ x) grown ∙ sym (append_assoc written old line)
            ∙ ap (λ (x : List ℕ). x ++ line) e ∙ append_assoc (header_of o.version o.config) lines line,
        longer,
      )

  -- what is gathered is written
  pub put : (k : ℕ) (out empty : List ℕ) (had holds now : Option (List ℕ)) → IsBegun w o k out had holds
      → Appends holds now out → empty ≡ [] → IsBegun w o k empty had now
  put k out empty had holds now (written, lines, p, e, are) q none = (
    written ++ out,
    lines,
    Appends-trans _ _ _ _ _ p q,
    ap (λ (x : List ℕ). (written ++ out) ++ x) none ∙ append-nil (written ++ out) ∙ e,
    are,
  )

  -- the last line is written with what is gathered
  module _ (k : ℕ) (out : List ℕ) (had holds now : Option (List ℕ)) (is : IsBegun w o k out had holds)
      (all : k ≡ o.events) where
    last_lines : AreLinesOf w o.config o.events is.1
    last_lines = subst (λ (n : ℕ). AreLinesOf w o.config n is.1) all is.4

    last_text : is.0 ++ (out ++ drain_line) ≡ WholeOf is.1
    last_text = sym (append_assoc is.0 out drain_line) ∙ ap (λ (x : List ℕ). x ++ drain_line) is.3
        ∙ append_assoc (header_of o.version o.config) is.1 drain_line

    pub finished : {X E : Type 0} (r : Result X E) → OnOk r (Appends holds now (out ++ drain_line))
        → OnOk r (WritesSchedule w o.version o.config o.events had now)
    finished (Ok x) q = (
      WholeOf is.1,
      whole is.1 last_lines,
      subst (λ (x : List ℕ). Appends had now x) last_text (Appends-trans _ _ _ _ _ is.2 q),
    )
    finished (Err x) q = tt

    pub cut_short : {X E : Type 0} (r : Result X E) → OnErr r (AppendsPart holds now (out ++ drain_line))
        → OnErr r (WritesPart w o.version o.config o.events had now)
    cut_short (Ok x) q = tt
    cut_short (Err x) q =
        let text : is.0 ++ ((out ++ drain_line) ++ []) ≡ WholeOf is.1 =
        ap (λ (x : List ℕ). is.0 ++ x) (append-nil (out ++ drain_line)) ∙ last_text in (
          WholeOf is.1,
          whole is.1 last_lines,
          part_more had holds now is.0 (out ++ drain_line) [] (WholeOf is.1) is.2 q text,
        )
