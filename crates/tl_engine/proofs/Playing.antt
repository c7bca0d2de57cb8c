-- What a handler of schedules answers, and that each schedule has a text.
use Rattle.std.proofs.Common.{◌≡◌, ℕ, zero, suc, ◌+◌, List, [], ◌∷◌, ◌++◌, length, refl, sym, ◌∙◌, ap, subst}
use Rattle.std.proofs.Common.{arith, append_assoc, length-append, inl, inr}
use Rattle.std.specs.declared.alloc.Global.{Global}
use Rattle.std.specs.Prelude.{◌⊎◌, IfOk, Option, Some, None, Result, Ok, Err}
use Rattle.std.proofs.lemmas.List.{append-nil}
use Rattle.tl_beat.specs.declared.beat.Link.{Link}
use Rattle.tl_beat.specs.declared.channel.Channel.{Channel}
use Rattle.tl_beat.specs.statement.Width.{IsWidth}
use Rattle.tl_command.specs.declared.command.RunForm.{RunForm}
use Rattle.tl_params.specs.declared.config.Config.{Config}
use Rattle.tl_params.specs.statement.Config.{config_fault}
use Rattle.tl_schedule.specs.declared.header.Schedule.{Schedule}
use Rattle.tl_params.specs.declared.header.Version.{Version}
use Rattle.tl_params.specs.declared.width.Width.{Width}
use Rattle.tl_params.specs.statement.Header.{profile_of, width_of}
use Rattle.tl_schedule.specs.declared.line.EventFault.TheVariants.{F1}
use Rattle.tl_schedule.specs.declared.line.Line.{Line}
use Rattle.tl_schedule.specs.declared.line.Line.TheVariants as line_of
use Rattle.tl_schedule.specs.statement.EventLine.{SpellsLine, event_fault}
use Rattle.tl_schedule.specs.code.HeaderReading.{Named, header_at}
use Rattle.tl_schedule.specs.statement.Schedule.{SpellsSchedule}
use Rattle.tl_schedule.proofs.Headers.{read_spelled, spelled_read}
use Rattle.tl_coherence.specs.statement.Headline.{IsGiven, AreTyped}
use Rattle.tl_coherence.specs.statement.Log.{Log, IsLog, system_after}
use Rattle.tl_coherence.specs.statement.Movable.{drained, next_delivery, with_delivery}
use Rattle.tl_world.proofs.Happened.{given-more}
use Rattle.tl_coherence.proofs.bound.Settling.{drain, given-delivering}
use Rattle.tl_lines.specs.declared.fault.Fault.{Fault}
use Rattle.tl_lines.specs.declared.fault.Fault.TheVariants.{Header, Event as NoEvent}
use Rattle.tl_engine.specs.declared.play.Player.{Player}
use Rattle.tl_engine.specs.declared.run_lines.RunLines.{RunLines}
use Rattle.tl_engine.specs.declared.run_lines.RunLines.TheVariants.{Waiting, Four, Eight, Sixteen}
use Rattle.tl_lines.specs.declared.status.Status.{Status}
use Rattle.tl_lines.specs.declared.status.Status.TheVariants.{Clean, Broken}
use Rattle.tl_lines.specs.statement.Fault.{fault_text}
use Rattle.tl_lines.specs.code.Judging.{Finishes, IsTotal, Judges, Stops}
use Rattle.tl_lines.specs.statement.Lines.{IsOpen}
use Rattle.tl_engine.specs.statement.Played.{HeadsSchedule, Played, PlayedAfter, Plays, deliveries_text, event_text}
use Rattle.tl_engine.specs.statement.Played.{header_text, number_text, outcome_after}
use Rattle.tl_engine.specs.code.Playing.{HasPlayed, KnowsPlay, KnowsSchedule, Opens, PlaysLine, form_of}
use Rattle.tl_lines.specs.statement.Width.{bytes_of}
use Rattle.tl_lines.proofs.OneText.{is_width_of}
use Rattle.tl_engine.proofs.ShortHeaders.{header-unopened}
use Rattle.tl_engine.proofs.SaidLines.{open-fault, open-none, says-or-not, typed-spelled}

-- ---- the header

-- the first line is a header
pub header-plays : (form : RunForm) (line : List ℕ) (version : Version) (wide : Width) (config : Config)
    (player : Player (bytes_of wide)) → HeadsSchedule line version config → wide ≡ width_of version
    → HasPlayed form config player [] → KnowsPlay form player (line ∷ []) (header_text form version config.clients.items)
unfolding Played
header-plays form line version wide config player heads is reached = record {
  config = config;
  log = [];
  reached = reached;
  before = λ more rest status played. inl (
    version,
    config,
    rest,
    heads,
    refl,
    subst (λ (x : Width). PlayedAfter {w = bytes_of x} form config 2 [] more
        rest status) is played,
  );
}

-- the first line is none
pub header-none : (n : ℕ) (alloc : Global) (line was : List ℕ)
    → ((version : Version) (config : Config) → ¬ HeadsSchedule line version config)
    → Stops (KnowsSchedule {n = n}) (Played (form_of n)) (Waiting alloc) line was was Header
unfolding Played
header-none n alloc line was none = λ lines before known more.
    rw (← append_assoc before was (fault_text (length lines + 1) Header), known.0, known.1) (inr (none, refl, refl))

pub header-refused : (n : ℕ) (alloc : Global) (line was is : List ℕ) (answer : Option (RunLines n)) → answer ≡ None
    → Opens line was is answer
    → Stops (KnowsSchedule {n = n}) (Played (form_of n)) (Waiting alloc) line was is Header
header-refused n alloc line was is None same (none, says) = rw says (header-none n alloc line was none)
header-refused n alloc line was is (Some run_lines) same opens = absurd cc

-- a header begins a world
pub header-opened : (n : ℕ) (alloc : Global) (run_lines : RunLines n) (line was is : List ℕ)
    (answer : Option (RunLines n)) → answer ≡ Some run_lines → Opens line was is answer
    → Judges (KnowsSchedule {n = n}) (Played (form_of n)) (Waiting alloc) run_lines line was is None
header-opened n alloc run_lines line was is None same opens = absurd cc
header-opened n alloc run_lines line was is (Some other) same (text, says, knows) = λ lines before known.
    let whole : before ++ is ≡ text = ap (λ (t : List ℕ). before ++ t) says ∙ sym (append_assoc before was text) ∙ ap
    (λ (t : List ℕ). t ++ text) known.1 in
    rw (known.0, whole) (subst (λ (p : RunLines n). KnowsSchedule p (line ∷ []) text) (one same) knows)
  where
    one : {x y : RunLines n} → Some x ≡ Some y → x ≡ y
    one e = cc

-- the first line isn't there
pub header-missing : (n : ℕ) (alloc : Global) (count : ℕ) (was : List ℕ)
    → Finishes (KnowsSchedule {n = n}) (Played (form_of n)) (Waiting alloc) count was was (Some Header)
unfolding Played
header-missing n alloc count was = λ lines before known counted.
    rw (← append_assoc before was (fault_text (length lines + 1) Header), known.0, known.1) (refl, refl)

pub header-open : (n : ℕ) (alloc : Global) (line said : List ℕ) → IsOpen line
    → Stops (KnowsSchedule {n = n}) (Played (form_of n)) (Waiting alloc) line said said Header
header-open n alloc line said is = header-none n alloc line said (header-unopened line is)

-- ---- the lines behind it

behind : (before was is text rest : List ℕ) → is ≡ was ++ text
    → (before ++ is) ++ rest ≡ (before ++ was) ++ (text ++ rest)
behind before was is text rest says =
    ap (λ (t : List ℕ). (before ++ t) ++ rest) says ∙ ap (λ (t : List ℕ). t ++ rest)
    (sym (append_assoc before was text)) ∙ append_assoc (before ++ was) text rest

line-plays : {w : ℕ} (form : RunForm) (old new : Player w) (lines : List (List ℕ)) (before was is line : List ℕ)
    → KnowsPlay form old lines (before ++ was) → PlaysLine form old new line was is None
    → KnowsPlay form new (lines ++ line ∷ []) (before ++ is)
unfolding PlayedAfter
line-plays form old new lines before was is line k (said, spells, plays) =
    let (text, grown, how, says, reached) = plays k.config k.log k.reached in
    let number : length (lines ++ line ∷ []) + 1 ≡ length lines + 1 + 1 =
    omega (arith, length-append lines (line ∷ [])) in
    record {
      config = k.config;
      log = grown;
      reached = reached;
      before = λ more rest status played.
          rw (append_assoc lines (line ∷ []) more, behind before was is text rest says)
          (k.before (line ∷ more) (text ++ rest) status
          (inl (said, text, rest, grown, spells, how, refl, rw number at played)));
    }

line-fails : {w : ℕ} (form : RunForm) (player : Player w) (lines : List (List ℕ)) (before was line : List ℕ)
    → KnowsPlay form player lines (before ++ was) → ((said : Line w) → ¬ SpellsLine line said)
    → (more : List (List ℕ))
    → Played form (lines ++ line ∷ more)
    (before ++ (was ++ fault_text (length lines + 1) (NoEvent (event_fault line)))) Broken
unfolding PlayedAfter
line-fails form player lines before was line k none more =
    rw (← append_assoc before was (fault_text (length lines + 1) (NoEvent (event_fault line))))
    (k.before (line ∷ more) _ Broken (inr (none, refl, refl)))

lines-end : {w : ℕ} (form : RunForm) (player : Player w) (lines : List (List ℕ)) (text : List ℕ)
    → KnowsPlay form player lines text → Played form lines text Clean
unfolding PlayedAfter
lines-end form player lines text k = rw (append-nil, append-nil) at (k.before [] [] Clean (refl, refl))

module _ {w n : ℕ} (wrap : Player w → RunLines n) (into : (m : Player w) (lines : List (List ℕ)) (text : List ℕ)
    → KnowsSchedule (wrap m) lines text → KnowsPlay (form_of n) m lines text)
    (out : (m : Player w) (lines : List (List ℕ)) (text : List ℕ) → KnowsPlay (form_of n) m lines text
    → KnowsSchedule (wrap m) lines text) where
  judges : (old new : Player w) (line was is : List ℕ) (answer : Option Fault)
      → PlaysLine (form_of n) old new line was is answer
      → Judges KnowsSchedule (Played (form_of n)) (wrap old) (wrap new) line was is answer
  judges old new line was is None plays = λ lines before known.
      out new (lines ++ line ∷ []) (before ++ is) (line-plays (form_of n) old new lines before was is line
      (into old lines (before ++ was) known) plays)
  judges old new line was is (Some fault) (none, which, same) = λ lines before known.
      rw (which, same) (line-fails (form_of n) old lines before was line (into old lines (before ++ was) known) none)

  pub judged : {E : Type 0} (old new : Player w) (line was is : List ℕ) (r : Result (Option Fault) E)
      → IfOk r (PlaysLine (form_of n) old new line was is)
      → IfOk r (Judges KnowsSchedule (Played (form_of n)) (wrap old) (wrap new) line was is)
  judged old new line was is (Ok answer) plays = judges old new line was is answer plays
  judged old new line was is (Err e) plays = tt

-- ---- where a header has been read

open-line : {w : ℕ} (form : RunForm) (player : Player w) (line said : List ℕ) → IsWidth w → IsOpen line
    → (lines : List (List ℕ)) (before : List ℕ) → KnowsPlay form player lines (before ++ said)
    → (more : List (List ℕ))
    → Played form (lines ++ line ∷ more) (before ++ (said ++ fault_text (length lines + 1) (NoEvent F1))) Broken
open-line form player line said wide is lines before k more =
    rw (← open-fault line is) (line-fails form player lines before said line k (open-none line wide is) more)

pub line-open : {n : ℕ} (run_lines : RunLines n) → ((alloc : Global) → run_lines ≡ Waiting alloc → ⊥)
    → (line said : List ℕ) → IsOpen line
    → Stops KnowsSchedule (Played (form_of n)) run_lines line said said (NoEvent F1)
line-open (Waiting alloc) read line said is = absurd (read alloc refl)
line-open {n} (Four m) read line said is = λ lines before k. open-line (form_of n) m line said (inl refl) is lines
    before k
line-open {n} (Eight m) read line said is = λ lines before k. open-line (form_of n) m line said (inr (inl refl)) is
    lines before k
line-open {n} (Sixteen m) read line said is = λ lines before k. open-line (form_of n) m line said (inr (inr refl)) is
    lines before k

pub all-played : {n : ℕ} (run_lines : RunLines n) → ((alloc : Global) → run_lines ≡ Waiting alloc → ⊥)
    → (count : ℕ) (was : List ℕ) → Finishes KnowsSchedule (Played (form_of n)) run_lines count was was None
all-played (Waiting alloc) read count was = absurd (read alloc refl)
all-played {n} (Four m) read count was = λ lines before k counted. lines-end (form_of n) m lines (before ++ was) k
all-played {n} (Eight m) read count was = λ lines before k counted. lines-end (form_of n) m lines (before ++ was) k
all-played {n} (Sixteen m) read count was = λ lines before k counted. lines-end (form_of n) m lines (before ++ was) k

-- ---- each schedule has a text

given-drained : {w : ℕ} (config : Config) (n : ℕ) (log : Log w) → IsGiven config log
    → IsGiven config (drained config n log)
unfolding drained
given-drained config zero log given = given
given-drained {w} config (suc n) log given =
    given-drained config n (with_delivery config (next_delivery config (system_after config log)) log)
    (go (next_delivery config (system_after config log)))
  where
    go : (o : Option (Link × Channel)) → IsGiven config (with_delivery config o log)
    go None = given
    go (Some d) = given-delivering config d.0 d.1 log given

-- a line that says something has a text
line-text : {w : ℕ} (form : RunForm) (config : Config) (log : Log w) (line : List ℕ) (said : Line w) → IsGiven config log
    → SpellsLine line said → (text : List ℕ)
    × (grown : Log w) × Plays form config log said text grown × IsGiven config grown
line-text form config log line (line_of.Event event) given spells =
    let o = outcome_after config log event in (
      event_text form log event o,
      (event, o) ∷ log,
      (refl, refl),
      given-more config log event o given
          (typed-spelled line event given.width spells) refl,
    )
line-text form config log line line_of.Drain given spells =
    let d = drain config log given in (
      deliveries_text form config d.0 log ++ number_text form d.0,
      drained config d.0 log,
      (d.0, d.1, refl, refl),
      given-drained config d.0 log given,
    )

played-after : {w : ℕ} (form : RunForm) (config : Config) (n : ℕ) (log : Log w) (lines : List (List ℕ))
    → IsGiven config log → (text : List ℕ) × (status : Status)
    × PlayedAfter form config n log lines text status
unfolding PlayedAfter
played-after form config n log [] given = ([], Clean, (refl, refl))
played-after {w} form config n log (line ∷ lines) given =
    go (says-or-not line given.width) (λ grown known. played-after form config (n + 1) grown lines known)
  where
    go : ((said : Line w) × SpellsLine line said) ⊎ ((said : Line w) → ¬ SpellsLine line said)
        → ((grown : Log w) → IsGiven config grown → (text : List ℕ) × (status : Status)
        × PlayedAfter form config (n + 1) grown lines text status)
        → (text : List ℕ) × (status : Status) × PlayedAfter form config n log (line ∷ lines) text status
    go (inl (said, spells)) more =
        let (first, grown, plays, known) = line-text form config log line said given spells in
        let (rest, status, played) = more grown known in
        (first ++ rest, status, inl (said, first, rest, grown, spells, plays, refl, played))
    go (inr none) more = (fault_text n (NoEvent (event_fault line)), Broken, inr (none, refl, refl))

-- a header's numbers are within the limits
pub header-fits : (line : List ℕ) (version : Version) (config : Config)
    → SpellsSchedule line version config.blocks config.trackers config.clients.items → config_fault config ≡ None
header-fits line version config s = rw (s.clients_fit, s.blocks_fit, s.trackers_fit, s.sources_fit) refl

pub given-first : {w : ℕ} (config : Config) → IsWidth w → config_fault config ≡ None → IsGiven {w = w} config []
unfolding AreTyped IsLog
given-first config wide fits = record { width = wide; fits = fits; typed = tt; is_log = tt }

abbrev IsHeaded : List ℕ → Type 0
IsHeaded line = ((version : Version) × (config : Config) × HeadsSchedule line version config)
    ⊎ ((version : Version) (config : Config) → ¬ HeadsSchedule line version config)

abbrev pub schedule_of : Named → Schedule
schedule_of x = record {
  version = x.version;
  config = record {
    blocks = x.blocks;
    trackers = x.trackers;
    clients =
        record { items = x.clients };
    profile = profile_of x.version;
  };
}

headed-or-not : (line : List ℕ) → IsHeaded line
headed-or-not line = go (header_at line) refl
  where
    go : (o : Option Named) → header_at line ≡ o → IsHeaded line
    go None e = inr (λ version config heads. spelled_read None line e version config.blocks config.trackers
        config.clients.items heads.spelled)
    go (Some x) e = inl (
      x.version,
      (schedule_of x).config,
      record {
        spelled =
            read_spelled (Some (schedule_of x)) line (e, refl);
        of_profile = refl;
      },
    )

pub played-whole : (form : RunForm) (lines : List (List ℕ)) → (text : List ℕ) × (status : Status)
    × Played form lines text status
unfolding Played
played-whole form [] = (fault_text 1 Header, Broken, (refl, refl))
played-whole form (line ∷ lines) = go (headed-or-not line)
  where
    go : IsHeaded line → (text : List ℕ) × (status : Status) × Played form (line ∷ lines) text status
    go (inl (version, config, heads)) =
        let wide = width_of version in
        let (rest, status, played) = played-after {w = bytes_of wide} form config 2 [] lines
        (given-first config (is_width_of wide) (header-fits line version config heads.spelled)) in (
          header_text form version config.clients.items ++ rest,
          status,
          inl
              (version, config, rest, heads, refl, played),
        )
    go (inr none) = (fault_text 1 Header, Broken, inr (none, refl, refl))

played-more : {w : ℕ} (form : RunForm) (player : Player w) (lines : List (List ℕ)) (text : List ℕ)
    → KnowsPlay form player lines text → (more : List (List ℕ))
    → (rest : List ℕ) × (status : Status) × Played form (lines ++ more) (text ++ rest) status
played-more form player lines text k more =
    let (rest, status, played) = played-after form k.config (length lines + 1) k.log more k.reached.0.given in
    (rest, status, k.before more rest status played)

pub played-total : (n : ℕ) → IsTotal {M = Unit {0}} (λ h. tt) (KnowsSchedule {n = n}) (λ m. Played (form_of n))
played-total n (Waiting alloc) lines text known more = rw (known.0, known.1) (played-whole (form_of n) more)
played-total n (Four m) lines text k more = played-more (form_of n) m lines text k more
played-total n (Eight m) lines text k more = played-more (form_of n) m lines text k more
played-total n (Sixteen m) lines text k more = played-more (form_of n) m lines text k more
