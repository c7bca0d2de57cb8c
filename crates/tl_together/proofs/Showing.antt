-- Beats that show the bytes of a block, and what is noted of them.
use Rattle.std.proofs.Common.{◌≡◌, ℕ, Bool, true, false, ◌&&◌, ◌||◌, ◌<◌, List, ◌∷◌, length, refl, sym, ◌∙◌}
use Rattle.std.proofs.Common.{inl, inr, ap}
use Rattle.std.specs.Prelude.{if◌then◌else◌, ◌==◌, Option, Some, None}
use Rattle.std.specs.Option.{option_or}
use Rattle.std.proofs.Math.Bool.{and-false}
use Rattle.std.proofs.lemmas.Bool.{cases_eq, eq-eqb, ne_eqb}
use Rattle.tl_beat.specs.declared.beat.Beat.{Beat}
use Rattle.tl_beat.specs.declared.beat.Beat.TheVariants.{C}
use Rattle.tl_beat.specs.declared.beat.BeatC.{BeatC}
use Rattle.tl_beat.specs.declared.beat.Link.{Link}
use Rattle.tl_burst.specs.statement.Messages.{History}
use Rattle.tl_bytes.specs.statement.Free.{all_liberties, is_free}
use Rattle.tl_bytes.specs.statement.Shown.{shows}
use Rattle.tl_memory.specs.{declared.free.Freedom.Freedom, statement.Known.freedom}
use Rattle.tl_monitor.specs.code.LinkState.{is_block}
use Rattle.tl_params.specs.declared.perm.Perm.{Perm}
use Rattle.tl_memory.proofs.states.Bearing.{none_of_both, silent-or}
use Rattle.tl_params.specs.declared.key.Key.TheVariants.{ReleaseOf}
use Rattle.tl_rules.specs.statement.Liberties.{is_answered}
use Rattle.tl_memory.proofs.states.Elsewhere.{held-kept}
use Rattle.tl_monitor.specs.statement.Knows.{begins_on}
use Rattle.tl_params.specs.declared.level.Level.{Level}
use Rattle.tl_rules.specs.statement.Conformance.{Trace, on_link}
use Rattle.tl_rules.specs.statement.History.{block_at, ends, is_probe_ack, is_release}
use Rattle.tl_together.specs.code.Windows.{Moments, is_noted, shown_window, window_in, HasNoted, IsShown, LeavesOthers, MayShow}
use Rattle.tl_monitor.proofs.Within.{ends_within}

-- ---- the beat

flipped : (a b : ℕ) → (a == b) ≡ (b == a)
flipped a b = elim (cases_eq a b) [
  | inl e ↦ rw (eq-eqb a b e, eq-eqb b a (sym e)) refl
  | inr ne ↦ rw (ne_eqb a b ne, ne_eqb b a (λ e. ne (sym e))) refl
]

-- a report changes what is held of its own block alone
pub report_leaves : {w : ℕ} (x : BeatC w) (past : History w) (k : ℕ) → k ≡ block_at x.address
    → LeavesOthers (Some k) (C x) past
unfolding all_liberties
report_leaves x past k k_is b apart = held-kept b (C x) past
    (λ over. silent-or (is_release x.opcode && is_answered (ReleaseOf b) (C x) past)
    ((is_probe_ack x.opcode || is_release x.opcode) && (block_at x.address == b)) _
    (none_of_both (is_probe_ack x.opcode || is_release x.opcode) (block_at x.address == b)
    (rw (← k_is) (flipped k b ∙ apart))))

pub either_leaves : {w : ℕ} (shown held : Option ℕ) (x : Beat w) (past : History w)
    → ((k : ℕ) → shown ≡ Some k → LeavesOthers shown x past) → LeavesOthers held x past
    → LeavesOthers (option_or shown held) x past
either_leaves None held x past own others = others
either_leaves (Some k) held x past own others = own k refl

-- where one of the two is noted, the first is
pub first_noted : (shown held : Option ℕ) (entries : Moments) → HasNoted (option_or shown held) entries
    → HasNoted shown entries
first_noted None held entries noted b here = absurd cc
first_noted (Some k) held entries noted b here = noted b here

-- ---- what is noted

pub complete_is : {w : ℕ} (levels : List Level) (link : Link) (x : Beat w) (t : Trace w) (b : Bool)
    → link.0 < length levels → b ≡ begins_on levels link x ((link, x) ∷ t) → b ≡ ends x (on_link link.0 t)
complete_is levels link x t b lt b_is =
    b_is ∙ ends_within levels link lt x t

-- no block is shown
pub shown_none : {w : ℕ} (moment : ℕ) (x : Beat w) (past : History w) (entries : Moments)
    → MayShow None x past → IsShown moment x past entries entries
shown_none moment x past entries may block =
    rw (may block ∙ and-false (ends x past)) refl

-- none yet
pub shown_later : {w : ℕ} (moment : ℕ) (x : Beat w) (past : History w) (shown : Option ℕ) (entries : Moments)
    → MayShow shown x past → ends x past ≡ false → IsShown moment x past entries entries
shown_later moment x past shown entries may goes_on block = rw (may block, goes_on) refl

pub shown_now : {w : ℕ} (moment k : ℕ) (x : Beat w) (past : History w) (old new : Moments)
    → MayShow (Some k) x past → ends x past ≡ true → HasNoted (Some k) old
    → ((b : ℕ) → window_in new b
    ≡ (if (b == k) && is_noted old b then shown_window moment (window_in old b) else window_in old b))
    → IsShown moment x past old new
shown_now moment k x past old new may over noted set block =
    set block ∙ rw (may block, over) (go (block == k) refl)
  where
    go : (b : Bool) → (block == k) ≡ b
        → (if b && is_noted old block then shown_window moment (window_in old block) else window_in old block)
        ≡ (if b then shown_window moment (window_in old block) else window_in old block)
    go true here = rw (noted block here) refl
    go false apart = refl

-- ---- whether a block is shown

pub unshown : {w : ℕ} (shown : Option ℕ) (x : Beat w) (past : History w) (block : ℕ) → MayShow shown x past
    → is_block block shown ≡ false → false ≡ shows block x past
unshown shown x past block may apart = sym (may block ∙ rw apart (and-false (ends x past)))

pub own_shown : {w : ℕ} (shown : Option ℕ) (x : Beat w) (past : History w) (block : ℕ) → MayShow shown x past
    → is_block block shown ≡ true → shows block x past ≡ ends x past
own_shown shown x past block may own = may block ∙ rw own (and_true (ends x past))
  where
    and_true : (b : Bool) → (b && true) ≡ b
    and_true true = refl
    and_true false = refl

-- for whom it is free
pub freedom_is : {w : ℕ} (n block : ℕ) (x : Link × Beat w) (t : Trace w) (free : Freedom) (links : ℕ) → links ≡ n
    → free.reading ≡ is_free links Perm.Branch block (x ∷ t) → free.writing ≡ is_free links Perm.Trunk block (x ∷ t)
    → free.shown ≡ shows block x.1 (on_link x.0.0 t) → Some free ≡ Some (freedom n block x t)
freedom_is n block x t free links same reading writing shown =
    rw same at (ap Some (freedom_same free (freedom links block x t) reading writing shown))
  where
    freedom_same : (a b : Freedom) → a.reading ≡ b.reading → a.writing ≡ b.writing → a.shown ≡ b.shown → a ≡ b
    freedom_same a b e f g =
        ap (λ v. record { reading = v; writing = a.writing; shown = a.shown }) e
        ∙ ap (λ v. record { reading = b.reading; writing = v; shown = a.shown }) f
        ∙ ap (λ v. record { reading = b.reading; writing = b.writing; shown = v }) g
