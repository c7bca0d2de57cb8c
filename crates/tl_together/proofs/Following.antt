-- What a monitor that has followed all links says of them where links have all liberties.
use Rattle.std.proofs.Common.{◌≡◌, ◌<◌, ℕ, true, false, List, [], ◌∷◌, length, refl, sym, ap, ◌∙◌, inl, inr, arith}
use Rattle.std.proofs.lemmas.Option.{slice_get_cases}
use Rattle.tl_beat.specs.declared.beat.Beat.{Beat}
use Rattle.tl_beat.specs.declared.beat.Link.{Link}
use Rattle.tl_bytes.specs.statement.Free.{all_liberties, may_hold}
use Rattle.tl_forgiving.proofs.Forgiving.{held, histories}
use Rattle.tl_forgiving.specs.statement.Forgiving.{IsWithin}
use Rattle.tl_memory.proofs.lawful.Lawful.{legal-parts}
use Rattle.tl_memory.proofs.lawful.OpenAccesses.{is-fine, legal-on}
use Rattle.tl_memory.specs.statement.Links.{AreLegal, IsLegal, KeepRules, KeepsRules}
use Rattle.tl_monitor.specs.declared.monitor.Monitor.{Monitor}
use Rattle.tl_monitor.specs.statement.Knows.{KnowsUnder}
use Rattle.tl_params.specs.declared.level.Level.{Level}
use Rattle.tl_params.specs.declared.liberties.Liberties.{Liberties}
use Rattle.tl_params.specs.declared.liberties.Liberty.TheVariants.{Ids, Sinks, Writer, Early, Drops, Reports, Denied}
use Rattle.tl_params.specs.declared.liberties.Liberty.TheVariants.{Uncorrupt}
use Rattle.tl_rules.specs.statement.Conformance.{Trace, on_link}
use Rattle.tl_rules.specs.statement.Liberties.{broken_at_level_under, held_under, is_legal_under}
use Rattle.tl_together.specs.code.Following.{Follows}

-- all that these liberties allow is allowed
within : (l : Liberties) → IsWithin l all_liberties
unfolding all_liberties
within l Ids e = refl
within l Sinks e = refl
within l Writer e = refl
within l Early e = refl
within l Drops e = refl
within l Reports e = refl
within l Denied e = refl
within l Uncorrupt e = refl

pub widened : {w : ℕ} (levels : List Level) (l : Liberties) (t : Trace w) → KeepRules l levels t → AreLegal levels t
unfolding is_legal_under
widened levels l [] kept = tt
widened {w} levels l (x ∷ t) kept = (one, widened levels l t kept.1)
  where
    one : IsLegal levels x t
    one =
        let f = is-fine _ levels x t kept.0 in
        let past = legal-on _ levels x.0.0 f.level t f.has_level kept.1 in
        let whole : is_legal_under l f.level (x.1 ∷ on_link x.0.0 t) ≡ true = rw (f.fine, past) refl in
        let more = histories l all_liberties f.level (x.1 ∷ on_link x.0.0 t) (within l) whole in
        ap (λ o. broken_at_level_under all_liberties o x.1 (on_link x.0.0 t)) f.has_level
        ∙ (legal-parts f.level x.1 (on_link x.0.0 t) more).0

pub followed : {w : ℕ} (m : Monitor w) (levels : List Level) (l : Liberties) (t : Trace w) → Follows m levels l t
    → AreLegal levels t
followed m levels l t k = widened levels l t k.kept

-- so is a beat that breaks no rule of its link
pub one_more : {w : ℕ} (m : Monitor w) (levels : List Level) (l : Liberties) (x : Link × Beat w) (t : Trace w)
    → Follows m levels l t → KeepsRules l levels x t → IsLegal levels x t
one_more m levels l x t k fine = (widened levels l (x ∷ t) (fine, k.kept)).0

-- what is held is what may be held at most
pub most : {w : ℕ} (levels : List Level) (l : Liberties) (c block : ℕ) (t : Trace w)
    → KeepRules l levels t → c < length levels → held_under l block (on_link c t) ≡ may_hold block (on_link c t)
most levels l c block t kept lt = elim (slice_get_cases levels c).1 [
  | inl found ↦ sym (held l all_liberties found.0 block (on_link c t) (within l)
      (legal-on _ levels c found.0 t found.2 kept))
  | inr past ↦ absurd (omega (arith, lt, past.0))
]

pub held_most : {w : ℕ} (m : Monitor w) (levels : List Level) (l : Liberties) (c block : ℕ) (t : Trace w)
    → Follows m levels l t → c < length levels → held_under l block (on_link c t) ≡ may_hold block (on_link c t)
held_most m levels l c block t k lt = most levels l c block t k.kept lt

-- with one beat more, that breaks no rule of its link
pub grown : {w : ℕ} (m m' : Monitor w) (levels : List Level) (l : Liberties) (x : Link × Beat w) (t : Trace w)
    → Follows m levels l t → KeepsRules l levels x t → KnowsUnder m' levels l (x ∷ t) false
    → Follows m' levels l (x ∷ t)
grown m m' levels l x t k fine knows = record { knows = knows; kept = (fine, k.kept) }

-- another that knows the same
pub same : {w : ℕ} (m : Monitor w) {m' : Monitor w} (levels : List Level) (l : Liberties) (t : Trace w)
    → Follows m levels l t → KnowsUnder m' levels l t false → Follows m' levels l t
same m levels l t k knows = record { knows = knows; kept = k.kept }
