-- The lines that were judged spell the trace that a judge knows.
use Rattle.std.proofs.Common.{◌≡◌, ℕ, ◌+◌, Bool, List, [], ◌∷◌, ◌++◌, refl}
use Rattle.std.specs.Prelude.{None}
use Rattle.tl_beat.specs.declared.beat.Beat.{Beat}
use Rattle.tl_beat.specs.declared.beat.Link.{Link}
use Rattle.tl_beat.specs.statement.Line.{Spells}
use Rattle.tl_params.specs.declared.level.Level.{Level}
use Rattle.tl_params.specs.declared.liberties.Liberties.{Liberties}
use Rattle.tl_params.specs.declared.width.Width.{Width}
use Rattle.tl_rules.specs.statement.Conformance.{Trace}
use Rattle.tl_lines.specs.code.Tracing.{KnowsSpelled, TracedBy}
use Rattle.tl_lines.specs.code.Tracing.{WatchesBy}
use Rattle.tl_lines.specs.code.LinkWatching.{Watches}
use Rattle.tl_lines.specs.code.TraceJudging.{KnowsBeats}
use Rattle.tl_lines.specs.declared.link_lines.LinkJudge.{LinkJudge}
use Rattle.tl_lines.specs.declared.link_lines.LinkJudge.TheVariants.{Waiting, Four, Eight, Sixteen}
use Rattle.tl_lines.specs.declared.trace_judge.TraceJudge.{TraceJudge}
use Rattle.tl_lines.specs.statement.SpelledTrace.{AreLinesOf, SpellsTrace}
use Rattle.tl_lines.specs.statement.LinksHeader.{NamesAllowed}
use Rattle.tl_lines.specs.statement.Width.{bytes_of}

-- a header alone
pub traced-first : {w : ℕ} (together : Bool) (allow : Liberties) (judge : TraceJudge w) (line : List ℕ) (wide : Width)
    (may : Liberties) (levels : List Level) → bytes_of wide ≡ w → NamesAllowed allow line wide may levels
    → KnowsBeats together judge levels may [] → KnowsSpelled together allow judge (line ∷ [])
unfolding AreLinesOf
traced-first together allow judge line wide may levels of_width names known = record {
  levels = levels;
  may = may;
  trace = [];
  known = known;
  spelled = record {
    width = wide;
    of_width = of_width;
    header = line;
    names = names;
    beats = [];
    lines_are = refl;
    beats_are = refl;
  };
}

-- with one beat more
pub spells-more : {w : ℕ} (allow : Liberties) (lines : List (List ℕ)) (line : List ℕ) (levels : List Level)
    (may : Liberties) (t : Trace w) (link : Link) (x : Beat w) → SpellsTrace allow lines levels may t
    → Spells line link x → SpellsTrace allow (lines ++ line ∷ []) levels may ((link, x) ∷ t)
unfolding AreLinesOf
spells-more allow lines line levels may t link x s spells = record {
  width = s.width;
  of_width = s.of_width;
  header = s.header;
  names = s.names;
  beats = s.beats ++ line ∷ [];
  lines_are = rw s.lines_are refl;
  beats_are = (s.beats, line, refl, spells, s.beats_are);
}

traced-good : {w : ℕ} (together : Bool) (allow : Liberties) (old new : TraceJudge w) (lines : List (List ℕ))
    (line : List ℕ) → KnowsSpelled together allow old lines → Watches together old new line None
    → KnowsSpelled together allow new (lines ++ line ∷ [])
traced-good together allow old new lines line k watches =
    let (link, x, spells, good, knows) = watches k.levels k.may k.trace k.known in
    record {
      levels = k.levels;
      may = k.may;
      trace = (link, x) ∷ k.trace;
      known = knows;
      spelled = spells-more allow lines line k.levels k.may k.trace link x k.spelled spells;
    }

-- one line more was judged
pub watched-good : (together : Bool) (allow : Liberties) (old new : LinkJudge) (lines : List (List ℕ)) (line : List ℕ)
    → TracedBy together allow old lines → WatchesBy together allow old new line None
    → TracedBy together allow new (lines ++ line ∷ [])
watched-good together allow (Waiting alloc) new lines line none begun = rw none begun
watched-good together allow (Four old) (Four new) lines line k watches =
    traced-good together allow old new lines line k watches
watched-good together allow (Eight old) (Eight new) lines line k watches =
    traced-good together allow old new lines line k watches
watched-good together allow (Sixteen old) (Sixteen new) lines line k watches =
    traced-good together allow old new lines line k watches
watched-good together allow v u lines line k never = absurd never
