-- What is read over a beat.
use Rattle.std.proofs.Common.{◌≡◌, List, ℕ, refl, ap, sym, ◌∙◌}
use Rattle.std.specs.Prelude.{Result, Ok, Err, Option, Some, None, IfOk, IfErr, MatchOption}
use Rattle.std.specs.Result.{result_ok, result_err}
use Rattle.tl_beat.specs.declared.beat.Link.{Link}
use Rattle.tl_beat.specs.declared.beat.Beat.{Beat}
use Rattle.tl_beat.specs.declared.fault.LineFault.{LineFault}
use Rattle.tl_beat.specs.statement.Width.{IsWidth}
use Rattle.tl_beat.specs.statement.Line.{Spells}
use Rattle.tl_beat.specs.code.Reading.{reading}
use Rattle.tl_beat.specs.code.FromLeft.{line_at, placed}
use Rattle.tl_beat.proofs.ReadFields.{ok_is}
use Rattle.tl_beat.proofs.ReadLines.{ok-spells}

pub placed-spells : {w : ℕ} (line : List ℕ) (r : Result Link LineFault) (beat : Beat w) → IsWidth w
    → placed r beat ≡ reading w line → IfOk r (λ link. Spells line link beat)
placed-spells line (Ok link) beat width e = ok-spells line (Ok (link, beat)) width e
placed-spells line (Err fault) beat width e = tt

pub placed-ok : {w : ℕ} (r : Result Link LineFault) (beat : Beat w) (link : Link) (read : Beat w)
    → placed r beat ≡ Ok (link, read) → (r ≡ Ok link) × (beat ≡ read)
placed-ok (Ok l) beat link read e = (
  ap (λ (x : Link × Beat _). Ok x.0) (ok_is e),
  ap (λ (x : Link × Beat _). x.1) (ok_is e),
)
placed-ok (Err fault) beat link read e = absurd cc

pub placed-fault : {w : ℕ} (r : Result Link LineFault) (beat : Beat w) → result_err r ≡ result_err (placed r beat)
placed-fault (Ok link) beat = refl
placed-fault (Err fault) beat = refl

-- a link that was read, or a beat that is as it was
pub placed-read : {w : ℕ} (r : Result Link LineFault) (old new : Beat w) (body : Result (Link × Beat w) LineFault)
    (link : Option Link) → link ≡ result_ok r
    → IfOk (placed r new) (λ read. body ≡ Ok read) → IfErr r (λ _. new ≡ old)
    → MatchOption link (new ≡ old) (λ link. body ≡ Ok (link, new))
placed-read (Ok l) old new body link e read kept = rw e read
placed-read (Err fault) old new body link e read kept = rw e kept

-- a line that is read so spells the beat
pub link-spells : {w : ℕ} (line : List ℕ) (r : Option Link) (old new : Beat w) → IsWidth w → line_at line ≡ reading w line
    → MatchOption r (new ≡ old) (λ link. line_at line ≡ Ok (link, new))
    → MatchOption r (new ≡ old) (λ link. Spells line link new)
link-spells line None old new width same kept = kept
link-spells line (Some link) old new width same read = ok-spells line (Ok (link, new)) width (sym read ∙ same)
