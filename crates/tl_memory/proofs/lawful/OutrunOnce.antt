-- No two accesses whose answers outran their requests have the same source on a link.
use Rattle.tl_memory.proofs.Imports.{Beat, BeatD, History, Trace, ends, on_link, unfinished}
use Rattle.std.proofs.Common.{◌≡◌, ℕ, Bool, true, false, not, List, [], ◌∷◌, refl, sym, ap, ◌∙◌, inl, inr}
use Rattle.std.specs.Prelude.{◌==◌, ⊤, if◌then◌else◌, filter, find, Option, Some, None}
use Rattle.std.proofs.lemmas.Bool.{and_parts, cases_Bool, eqb-true}
use Rattle.tl_beat.specs.declared.channel.Channel.{Channel}
use Rattle.tl_memory.specs.code.Taking.{AreOutrunIn}
use Rattle.tl_memory.specs.statement.Known.{outruns_in}
use Rattle.tl_bytes.specs.statement.Early.{Outrun, is_outrun_of, outrun_by, outrun_with, outruns, settled_by, without}
use Rattle.tl_bytes.specs.statement.Early.{without_settled}
unfoldable use Rattle.tl_bytes.specs.statement.Early.{outrun_accesses}
use Rattle.tl_memory.proofs.states.Keeping.{finds-none}
use Rattle.tl_memory.proofs.lawful.OutrunNames.{gone-but, comes-parts, outruns-parts}
use Rattle.tl_memory.proofs.Plain.{true_false, none-some}

-- no two of these have the same source on a link
abbrev pub AreOnce : List Outrun → Type 0
AreOnce [] = ⊤
AreOnce (a ∷ accesses) = (find (is_outrun_of a.link a.source) accesses ≡ None) × AreOnce accesses

once-left : (keep : Outrun → Bool) (accesses : List Outrun) → AreOnce accesses → AreOnce (filter keep accesses)
once-left keep [] once = tt
once-left keep (a ∷ accesses) once = elim (cases_Bool (keep a)) [
  | inl on ↦ rw on (finds-none (is_outrun_of a.link a.source) keep accesses once.0, once-left keep accesses once.1)
  | inr off ↦ rw off (once-left keep accesses once.1)
]

settled-once : (o : Option Outrun) (accesses : List Outrun) → AreOnce accesses → AreOnce (without_settled o accesses)
settled-once None accesses once = once
settled-once (Some a) accesses once = once-left (λ b. not (is_outrun_of a.link a.source b)) accesses once

pub are-once : {w : ℕ} (t : Trace w) → AreOnce (outrun_accesses t)
unfolding outrun_accesses
are-once [] = tt
are-once {w} (x ∷ t) = go x.1 (are-once t)
  where
    past : History w
    past = on_link x.0.0 t

    out : List Outrun
    out = outrun_accesses t

    answers : (y : BeatD w) (b : Bool) → outruns y past ≡ b → AreOnce out
        → AreOnce (if b then outrun_by x.0.0 (unfinished Channel.A past) (ends (Beat.D y) past) (without x.0.0 y.source out)
        else without_settled (settled_by x.0.0 (Beat.D y) past out) out)
    answers y false f once = settled-once (settled_by x.0.0 (Beat.D y) past out) out once
    answers y true f once =
        let first = comes-parts y.source (unfinished Channel.A past) (outruns-parts y past f).1 in
        rw (first.2) (
          gone-but x.0.0 first.0.source x.0.0 y.source out refl first.3,
          once-left (λ b. not (is_outrun_of x.0.0 y.source b)) out once,
        )

    go : (b : Beat w) → AreOnce out → AreOnce (outrun_with x.0.0 b past out)
    go (Beat.A y) once = settled-once (settled_by x.0.0 (Beat.A y) past out) out once
    go (Beat.D y) once = answers y (outruns y past) refl once
    go (Beat.B y) once = once
    go (Beat.C y) once = once
    go (Beat.E y) once = once

none-in : (c s block : ℕ) (accesses : List Outrun) → find (is_outrun_of c s) accesses ≡ None
    → AreOutrunIn c s block accesses
none-in c s block [] none = tt
none-in c s block (a ∷ accesses) none = elim (cases_Bool (is_outrun_of c s a)) [
  | inl here ↦ none-some (sym (let e : Some a ≡ None = rw here at none in e))
  | inr other ↦ (λ e. true_false (sym e ∙ other), none-in c s block accesses (rw other at none))
]

-- where the one with a source is to a block, all are
pub all-in : (c s block : ℕ) (accesses : List Outrun) → AreOnce accesses
    → ((a : Outrun) → find (is_outrun_of c s) accesses ≡ Some a → outruns_in block a ≡ true)
    → AreOutrunIn c s block accesses
all-in c s block [] once each = tt
all-in c s block (a ∷ accesses) once each = elim (cases_Bool (is_outrun_of c s a)) [
  | inl here ↦
      let key = and_parts (a.link == c) (a.source == s) here in
      let none : find (is_outrun_of c s) accesses ≡ None =
      ap (λ n. find (is_outrun_of n s) accesses) (sym (eqb-true a.link c key.0))
      ∙ ap (λ n. find (is_outrun_of a.link n) accesses) (sym (eqb-true a.source s key.1)) ∙ once.0 in
      (λ e. each a (rw here refl), none-in c s block accesses none)
  | inr other ↦ (
    λ e. true_false (sym e ∙ other),
    all-in c s block accesses once.1 (λ b found. each b (rw other found)),
  )
]
