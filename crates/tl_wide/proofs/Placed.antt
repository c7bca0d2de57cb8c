-- What is read over a wide beat.
use Rattle.std.proofs.Common.{◌≡◌, ℕ, List, refl, ap}
use Rattle.std.specs.Prelude.{Result, Ok, Err, Option, IfOk, IfErr, MatchOption}
use Rattle.std.specs.Result.{result_err, result_ok}
use Rattle.tl_beat.proofs.ReadFields.{ok_is}
use Rattle.tl_wide.specs.code.FromLeft.{placed}
use Rattle.tl_wide.specs.code.Reading.{reading}
use Rattle.tl_wide.specs.statement.Line.{WideSpells}
use Rattle.tl_wide.specs.statement.Width.{IsWideWidth}
use Rattle.tl_beat.specs.declared.beat.Link.{Link}
use Rattle.tl_wide.specs.declared.beat.WideBeat.{WideBeat}
use Rattle.tl_beat.specs.declared.fault.LineFault.{LineFault}
use Rattle.tl_wide.proofs.ReadLines.{ok-spells}

pub placed-spells : {w : ℕ} (line : List ℕ) (r : Result Link LineFault) (beat : WideBeat w) → IsWideWidth w
    → placed r beat ≡ reading w line → IfOk r (λ link. WideSpells line link beat)
placed-spells line (Ok link) beat width e = ok-spells line (Ok (link, beat)) width e
placed-spells line (Err fault) beat width e = tt

pub placed-ok : {w : ℕ} (r : Result Link LineFault) (beat : WideBeat w) (link : Link) (read : WideBeat w)
    → placed r beat ≡ Ok (link, read) → (r ≡ Ok link) × (beat ≡ read)
placed-ok (Ok l) beat link read e = (
  ap (λ (x : Link × WideBeat _). Ok x.0) (ok_is e),
  ap (λ (x : Link × WideBeat _). x.1) (ok_is e),
)
placed-ok (Err fault) beat link read e = absurd cc

pub placed-fault : {w : ℕ} (r : Result Link LineFault) (beat : WideBeat w) → result_err r ≡ result_err (placed r beat)
placed-fault (Ok link) beat = refl
placed-fault (Err fault) beat = refl

-- a link that was read, or a beat that is as it was
pub placed-read : {w : ℕ} (r : Result Link LineFault) (old new : WideBeat w)
    (body : Result (Link × WideBeat w) LineFault)
    (link : Option Link) → link ≡ result_ok r
    → IfOk (placed r new) (λ read. body ≡ Ok read) → IfErr r (λ _. new ≡ old)
    → MatchOption link (new ≡ old) (λ link. body ≡ Ok (link, new))
placed-read (Ok l) old new body link e read kept = rw e read
placed-read (Err fault) old new body link e read kept = rw e kept
