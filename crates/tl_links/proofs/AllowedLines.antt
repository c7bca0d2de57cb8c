-- What is found that would allow the first beat at fault, line by line.
use Rattle.std.proofs.Common.{◌≡◌, ℕ, List, [], ◌∷◌, ◌++◌, refl, append_assoc, inl, inr, subst}
use Rattle.std.proofs.lemmas.List.{append-nil}
use Rattle.std.specs.Prelude.{IfOk, Option, Some, None, Result, Ok, Err, ⊤}
use Rattle.std.specs.declared.alloc.Global.{Global}
use Rattle.tl_beat.specs.declared.beat.Beat.{Beat}
use Rattle.tl_beat.specs.declared.beat.Link.{Link}
use Rattle.tl_beat.specs.declared.fault.LineFault.{LineFault}
use Rattle.tl_beat.specs.declared.fault.LineFault.TheVariants.{F1}
use Rattle.tl_beat.specs.statement.Line.{Spells, line_fault}
use Rattle.tl_lines.proofs.Decoded.{open_fault}
use Rattle.tl_lines.proofs.LinksHeaders.{open_links}
use Rattle.tl_lines.specs.code.Judging.{Ends, EndsHere, Judges}
use Rattle.tl_lines.specs.statement.Lines.{IsOpen}
use Rattle.tl_lines.specs.code.Progress.{HasAll}
use Rattle.tl_lines.specs.code.Run.{Stands}
use Rattle.tl_lines.specs.declared.fault.Fault.{Fault}
use Rattle.tl_lines.specs.declared.status.Status.{Status}
use Rattle.tl_lines.specs.declared.status.Status.TheVariants.{Clean, Broken}
use Rattle.tl_lines.specs.statement.LinksHeader.{NamesAllowed}
use Rattle.tl_lines.specs.statement.Width.{bytes_of}
use Rattle.tl_links.specs.code.Allowing.{EndsLines, KnowsBeats, KnowsLines, KnowsTrace, KnowsWatching, TakesBeat, Watches}
use Rattle.tl_links.specs.code.Allowing.{found_by, found_in}
use Rattle.tl_links.specs.declared.allow_lines.AllowLines.{AllowLines}
use Rattle.tl_links.specs.declared.allow_lines.Watching.{Watching}
use Rattle.tl_links.specs.declared.allow_lines.Watching.TheVariants.{Waiting, Four, Eight, Sixteen}
use Rattle.tl_links.specs.declared.allow_lines.Watch.{Watch}
use Rattle.tl_links.specs.statement.Allowed.{Allowed, AllowedAfter, FindsAllowed, IsSettled}
use Rattle.tl_params.specs.declared.level.Level.{Level}
use Rattle.tl_params.specs.declared.liberties.Liberties.{Liberties}
use Rattle.tl_params.specs.declared.liberties.Liberty.{Liberty}
use Rattle.tl_params.specs.declared.width.Width.{Width}

-- what a text says isn't asked here
abbrev SaysAny : List (List ℕ) → List ℕ → Status → Type 0
SaysAny lines text status = ⊤

-- ---- a line behind the header

-- a line that spells a beat is found to be what its beat is
pub line_taken : {w : ℕ} {E : Type 0} (old new : Watch w) (line : List ℕ) (link : Link) (beat : Beat w)
    (r : Result (Option Fault) E) → Spells line link beat → IfOk r (TakesBeat old new link beat)
    → IfOk r (Watches old new line)
unfolding AllowedAfter
line_taken old new line link beat (Err e) spells takes = tt
line_taken old new line link beat (Ok None) spells takes = λ levels may t known.
    let (good, knows) = takes levels may t known in
    (link, beat, spells, good, knows)
line_taken old new line link beat (Ok (Some fault)) spells takes = λ levels may t known more.
    let (rule, bad, found) = takes levels may t known in
    inr (inl (link, beat, rule, spells, bad, found))

-- a line that spells none is allowed by nothing
pub line_unread : {w : ℕ} (v : Watch w) (line : List ℕ) (fault : LineFault) (of : Fault) → line_fault w line ≡ Some fault
    → Watches v v line (Some of)
unfolding AllowedAfter
line_unread v line fault of is = λ levels may t known more. inr (inr (fault, is, known.none_found))

module _ {w : ℕ} (allow : Liberties) (wrap : Watch w → Watching)
    (into : (v : Watch w) (lines : List (List ℕ)) → KnowsWatching allow (wrap v) lines → KnowsTrace allow v lines)
    (out : (v : Watch w) (lines : List (List ℕ)) → KnowsTrace allow v lines → KnowsWatching allow (wrap v) lines)
    (out_ends : (v : Watch w) (lines : List (List ℕ)) → Allowed allow lines v.allowing.items
    → Allowed allow lines (found_by (wrap v))) where
  -- the handler of these watches
  abbrev handler : Watch w → AllowLines
  handler v = record { allow = allow; watching = wrap v }

  pub watch_judged : {E : Type 0} (old new : Watch w) (line was : List ℕ) (r : Result (Option Fault) E)
      → IfOk r (Watches old new line) → IfOk r (Judges KnowsLines SaysAny (handler old) (handler new) line was was)
  unfolding AllowedAfter
  watch_judged old new line was (Err e) watches = tt
  watch_judged old new line was (Ok (Some fault)) watches = λ lines before known more. tt
  watch_judged old new line was (Ok None) watches = λ lines before known.
      let k = into old lines known in
      let (link, beat, spells, good, knows) = watches k.levels k.may k.trace k.known in
      out new (lines ++ line ∷ []) (record {
        levels = k.levels;
        may = k.may;
        trace = (link, beat) ∷ k.trace;
        known = knows;
        before = λ more allowing found. rw (append_assoc lines (line ∷ []) more)
            (k.before (line ∷ more) allowing (inl (link, beat, spells, good, found)));
      })

  pub watch_ends : {E : Type 0} (old new : Watch w) (line : List ℕ) (r : Result (Option Fault) E)
      → IfOk r (Watches old new line) → (fault : Fault) → r ≡ Ok (Some fault)
      → Ends KnowsLines EndsLines (handler old) (handler new) line
  watch_ends old new line (Err e) watches fault is = absurd cc
  watch_ends old new line (Ok None) watches fault is = absurd cc
  watch_ends old new line (Ok (Some other)) watches fault is = λ lines text known more.
      let k = into old lines known in
      out_ends new (lines ++ line ∷ more)
      (k.before (line ∷ more) new.allowing.items (watches k.levels k.may k.trace k.known more))

-- ---- the header

pub header_watched : (allow : Liberties) (line : List ℕ) (wide : Width) (may : Liberties) (levels : List Level)
    (v : Watch (bytes_of wide)) → NamesAllowed allow line wide may levels → KnowsBeats v levels may []
    → KnowsTrace allow v (line ∷ [])
unfolding Allowed
header_watched allow line wide may levels v names known = record {
  levels = levels;
  may = may;
  trace = [];
  known = known;
  before = λ more allowing found. inl (wide, may, levels, names, found);
}

pub none_named : (allow : Liberties) (alloc : Global) (line : List ℕ)
    → ((width : Width) (may : Liberties) (levels : List Level) → ¬ NamesAllowed allow line width may levels)
    → Ends KnowsLines EndsLines (record { allow = allow; watching = Waiting alloc })
    (record { allow = allow; watching = Waiting alloc }) line
unfolding Allowed
none_named allow alloc line none = λ lines text known more. rw known (inr (none, refl))

pub none_there : (h : AllowLines) (alloc : Global) → h.watching ≡ Waiting alloc → EndsHere KnowsLines EndsLines h
unfolding Allowed
none_there h alloc is = λ lines text known.
    let empty : KnowsWatching h.allow (Waiting alloc) lines = rw is at known in
    rw (is, empty) refl

-- ---- a line that has no LF or more than 256 bytes

opened : {w : ℕ} (allow : Liberties) (v : Watch w) (line : List ℕ) (lines : List (List ℕ)) → KnowsTrace allow v lines
    → IsOpen line → (more : List (List ℕ)) → Allowed allow (lines ++ line ∷ more) v.allowing.items
unfolding AllowedAfter
opened {w} allow v line lines k is more =
    k.before (line ∷ more) v.allowing.items (inr (inr (F1, open_fault w line is, k.known.none_found)))

-- such a line is no header
open_named : (allow : Liberties) (line : List ℕ) → IsOpen line → (width : Width) (may : Liberties)
    (levels : List Level) → ¬ NamesAllowed allow line width may levels
open_named allow line is width may levels named = open_links line is width named.0 levels named.1

open_by : (allow : Liberties) (watching : Watching) (line : List ℕ) → IsOpen line → (lines : List (List ℕ))
    → KnowsWatching allow watching lines → (more : List (List ℕ))
    → Allowed allow (lines ++ line ∷ more) (found_by watching)
unfolding Allowed
open_by allow (Waiting alloc) line is lines none more = rw none (inr (open_named allow line is, refl))
open_by allow (Four v) line is lines k more = opened allow v line lines k is more
open_by allow (Eight v) line is lines k more = opened allow v line lines k is more
open_by allow (Sixteen v) line is lines k more = opened allow v line lines k is more

pub open_ends : (h : AllowLines) (line : List ℕ) → IsOpen line → Ends KnowsLines EndsLines h h line
open_ends h line is = λ lines text k more. open_by h.allow h.watching line is lines k more

-- ---- the end

all_good : {w : ℕ} (allow : Liberties) (v : Watch w) (lines : List (List ℕ)) → KnowsTrace allow v lines
    → Allowed allow lines v.allowing.items
unfolding AllowedAfter
all_good allow v lines k = rw (append-nil lines) at (k.before [] v.allowing.items k.known.none_found)

-- an input without a line has no header
waited : (allow : Liberties) (lines : List (List ℕ)) → lines ≡ [] → Allowed allow lines []
unfolding Allowed
waited allow lines none = rw none refl

all_by : (allow : Liberties) (watching : Watching) (lines : List (List ℕ)) → KnowsWatching allow watching lines
    → Allowed allow lines (found_by watching)
all_by allow (Waiting alloc) lines none = waited allow lines none
all_by allow (Four v) lines k = all_good allow v lines k
all_by allow (Eight v) lines k = all_good allow v lines k
all_by allow (Sixteen v) lines k = all_good allow v lines k

pub all_found : (h : AllowLines) (lines : List (List ℕ)) (status : Status) → HasAll KnowsLines EndsLines h lines status
    → Allowed h.allow lines (found_in h)
all_found h lines Broken ends = ends
all_found h lines Clean (text, k) = all_by h.allow h.watching lines k

-- what is found stands whatever follows it, or the input is at its end
pub settled : (h : AllowLines) (left : Option (List ℕ)) (read : List ℕ) → Stands EndsLines left read h
    → IsSettled h.allow left read (found_in h)
settled h left read stands = stands

-- what a handler finds is found of what it is made for
pub finds : (h : AllowLines) (allow : Liberties) (had left : Option (List ℕ)) (allowing : List Liberty) → h.allow ≡ allow
    → FindsAllowed h.allow had left allowing → FindsAllowed allow had left allowing
finds h allow had left allowing is found = subst (λ (l : Liberties). FindsAllowed l had left allowing) is found
