-- A schedule is played to one text.
use Rattle.std.proofs.Common.{◌≡◌, ℕ, ◌+◌, List, [], ◌∷◌, ◌++◌, refl, sym, ◌∙◌, ap, subst, inl, inr}
use Rattle.std.specs.Prelude.{Option, Some, None}
use Rattle.tl_beat.specs.statement.Width.{IsWidth}
use Rattle.tl_command.specs.declared.command.RunForm.{RunForm}
use Rattle.tl_params.specs.declared.config.Config.{Config}
use Rattle.tl_params.specs.declared.header.Version.{Version}
use Rattle.tl_schedule.specs.declared.line.Line.{Line}
use Rattle.tl_schedule.specs.declared.line.Line.TheVariants as line_of
use Rattle.tl_schedule.specs.statement.EventLine.{SpellsLine}
use Rattle.tl_schedule.specs.code.EventReading.{event_at}
use Rattle.tl_schedule.specs.code.HeaderReading.{Named, header_at}
use Rattle.tl_params.specs.statement.Header.{width_of}
use Rattle.tl_schedule.proofs.WholeLines.{said_read}
use Rattle.tl_schedule.proofs.Headers.{spelled_read}
use Rattle.tl_coherence.specs.statement.Log.{Log}
use Rattle.tl_lines.specs.declared.status.Status.{Status}
use Rattle.tl_engine.specs.statement.Played.{HeadsSchedule, Played, PlayedAfter, Plays, header_text}
use Rattle.tl_lines.specs.statement.Width.{bytes_of}
use Rattle.tl_lines.proofs.OneText.{AreOne, is_width_of}
use Rattle.tl_engine.proofs.Played.{drained-once}
use Rattle.tl_engine.proofs.Playing.{schedule_of}

-- a line says one thing
said-once : {w : ℕ} (line : List ℕ) (said other : Line w) → IsWidth w → SpellsLine line said → SpellsLine line other
    → said ≡ other
said-once line said other width s t =
    let one = said_read (event_at line) line width refl said s in
    let two = said_read (event_at line) line width refl other t in
    cc

-- what it says is played in one way
abbrev pair : {w : ℕ} → List ℕ → Log w → List ℕ × Log w
pair text log = (text, log)

plays-once : {w : ℕ} (form : RunForm) (config : Config) (log : Log w) (said : Line w) (text other : List ℕ)
    (grown another : Log w)
    → Plays form config log said text grown → Plays form config log said other another
    → pair text grown ≡ pair other another
plays-once form config log (line_of.Event event) text other grown another (says, is) (so, are) =
    rw (says, is, so, are) refl
plays-once form config log line_of.Drain text other grown another (n, d, says, is) (m, e, so, are) =
    rw (says, is, so, are, drained-once config n m log d e) refl

played-after-once : {w : ℕ} (form : RunForm) (config : Config) (n : ℕ) (log : Log w) (lines : List (List ℕ))
    (text other : List ℕ) (status another : Status) → IsWidth w
    → PlayedAfter form config n log lines text status → PlayedAfter form config n log lines other another
    → AreOne text other status another
unfolding PlayedAfter
played-after-once form config n log [] text other status another width d e = (d.0 ∙ sym e.0, d.1 ∙ sym e.1)
played-after-once {w} form config n log (line ∷ lines) text other status another width
    (inl (said, first, rest, grown, s, plays, is, d)) (inl (word, front, more, after, t, played, so, e)) =
    let says : word ≡ said = said-once line word said width t s in
    let one : pair front after ≡ pair first grown = plays-once form config log said front first after grown
    (subst (λ (x : Line w). Plays form config log x front after) says played) plays in
    let same = played-after-once form config (n + 1) grown lines rest more status another width d
    (subst (λ (x : List ℕ × Log w). PlayedAfter form config (n + 1) x.1 lines more another) one e) in
    (is ∙ ap (λ (t : List ℕ). first ++ t) same.0 ∙ sym (so ∙ ap (λ (x : List ℕ × Log w). x.0 ++ more) one), same.1)
played-after-once form config n log (line ∷ lines) text other status another width
    (inl (said, first, rest, grown, s, plays, is, d)) (inr (none, so, ends)) = absurd (none said s)
played-after-once form config n log (line ∷ lines) text other status another width (inr (none, is, ends))
    (inl (said, first, rest, grown, s, plays, so, e)) = absurd (none said s)
played-after-once form config n log (line ∷ lines) text other status another width (inr (none, is, ends))
    (inr (none_so, so, ends_so)) = (is ∙ sym so, ends ∙ sym ends_so)

-- a header names one configuration
abbrev Headed : Type 0
Headed = Version × Config

headed : Version → Config → Headed
headed version config = (version, config)

heads-as : (line : List ℕ) (x : Named) (version : Version) (config : Config) → header_at line ≡ Some x
    → HeadsSchedule line version config
    → headed version config ≡ headed x.version (schedule_of x).config
unfolding headed
heads-as line x version config e heads =
    let (same, blocks, trackers, clients) = spelled_read (Some (schedule_of x)) line (e, refl) version config.blocks
    config.trackers config.clients.items heads.spelled in
    rw (heads.of_profile, ← same, ← blocks, ← trackers, ← clients) refl

heads-once : (line : List ℕ) (version other : Version) (config another : Config) → HeadsSchedule line version config
    → HeadsSchedule line other another → headed version config ≡ headed other another
heads-once line version other config another h k = go (header_at line) refl
  where
    go : (o : Option Named) → header_at line ≡ o → headed version config ≡ headed other another
    go None e = absurd (spelled_read None line e version config.blocks config.trackers config.clients.items h.spelled)
    go (Some x) e = heads-as line x version config e h ∙ sym (heads-as line x other another e k)

pub played-once : (form : RunForm) (lines : List (List ℕ)) (text other : List ℕ) (status another : Status)
    → Played form lines text status
    → Played form lines other another → AreOne text other status another
unfolding Played headed
played-once form [] text other status another d e = (d.0 ∙ sym e.0, d.1 ∙ sym e.1)
played-once form (line ∷ lines) text other status another (inl (version, config, rest, heads, is, d))
    (inl (v, c, more, heads_so, so, e)) =
    let one : headed v c ≡ headed version config = heads-once line v version c config heads_so heads in
    let wide = width_of version in
    let same = played-after-once {w = bytes_of wide} form config 2 [] lines rest more status another (is_width_of wide)
    d
    (subst (λ (x : Headed). PlayedAfter {w = bytes_of (width_of x.0)} form x.1 2 [] lines more another) one e) in (
      is ∙ ap (λ (t : List ℕ). header_text form version config.clients.items ++ t) same.0 ∙ sym
          (so ∙ ap (λ (x : Headed). header_text form x.0 x.1.clients.items ++ more) one),
      same.1,
    )
played-once form (line ∷ lines) text other status another (inl (version, config, rest, heads, is, d))
    (inr (none, so, ends)) = absurd (none version config heads)
played-once form (line ∷ lines) text other status another (inr (none, is, ends))
    (inl (version, config, rest, heads, so, e)) = absurd (none version config heads)
played-once form (line ∷ lines) text other status another (inr (none, is, ends)) (inr (none_so, so, ends_so)) =
    (is ∙ sym so, ends ∙ sym ends_so)
