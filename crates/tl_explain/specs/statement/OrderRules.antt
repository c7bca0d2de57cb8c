-- Each rule of order by itself, under liberties.
use Rattle.std.specs.Prelude.{Bool, true, false, not, List, [], ◌∷◌, ◌≡◌, ◌==◌, ◌&&◌, ◌||◌, Option, None, ℕ}
use Rattle.tl_beat.specs.declared.beat.Beat.{Beat}
use Rattle.tl_beat.specs.declared.beat.Beat.TheVariants as beat
use Rattle.tl_beat.specs.declared.channel.Channel.TheVariants as channel
use Rattle.tl_beat.specs.statement.First.{first_if}
use Rattle.tl_burst.specs.statement.Messages.{History, breaks_burst, channel_of, unfinished}
use Rattle.tl_params.specs.declared.key.Key.TheVariants.{RequestSource, ReleaseSource, AcquireOf, ReleaseOf, GrantSink}
use Rattle.tl_params.specs.declared.key.Key.TheVariants.{GrantAckOf, ProbeOf}
use Rattle.tl_params.specs.declared.liberties.Liberties.{Liberties}
use Rattle.tl_params.specs.declared.rule.Rule.{Rule}
use Rattle.tl_params.specs.declared.rule.Rule.TheVariants.{S1, H1, H2, H3, H4, H5, H6, H7, H8, H9, H10, H11, H12, H13}
use Rattle.tl_rules.specs.statement.Conformance.{answers_wrong_probe, comes_in_grant, size_asked}
use Rattle.tl_rules.specs.statement.History.{begins, block_at, is_acquire, is_grant, is_probe, is_probe_ack, is_release}
use Rattle.tl_rules.specs.statement.History.{pending, probe_of, request_of}
use Rattle.tl_rules.specs.statement.Liberties.{grows_from_under, has_other_source, has_request_under, held_under}
use Rattle.tl_rules.specs.statement.Liberties.{misgrants_under, misreports_under, releases_from}

-- The beat breaks this rule of order after the history t of its link. An H rule judges a beat that begins a message.
abbrev pub breaks_at_first_under : {w : ℕ} → Liberties → Rule → Beat w → History w → Bool
breaks_at_first_under l H1 (beat.A x) t = pending (RequestSource x.source) t
breaks_at_first_under l H1 (beat.C x) t = is_release x.opcode && pending (ReleaseSource x.source) t
breaks_at_first_under l H2 (beat.D x) t = not (has_request_under l x t)
breaks_at_first_under l H3 (beat.D x) t = not (x.size == size_asked x t)
breaks_at_first_under l H4 (beat.A x) t =
    is_acquire x.opcode && (pending (AcquireOf (block_at x.address)) t || pending (ReleaseOf (block_at x.address)) t)
breaks_at_first_under l H5 (beat.A x) t =
    is_acquire x.opcode && not (grows_from_under l x.param (held_under l (block_at x.address) t))
breaks_at_first_under l H6 (beat.D x) t = is_grant x.opcode && misgrants_under l x (request_of x.source t) t
breaks_at_first_under l H7 (beat.D x) t = is_grant x.opcode && pending (GrantSink x.sink) t
breaks_at_first_under l H8 (beat.E x) t =
    not (pending (GrantSink x.sink) t) || (not l.early && comes_in_grant x.sink (unfinished channel.D t))
breaks_at_first_under l H9 (beat.B x) t =
    is_probe x.opcode && (pending (ProbeOf (block_at x.address)) t || pending (GrantAckOf (block_at x.address)) t)
breaks_at_first_under l H10 (beat.C x) t =
    is_probe_ack x.opcode && (not (pending (ProbeOf (block_at x.address)) t)
    || ((l.ids && has_other_source x (probe_of (block_at x.address) t)) || answers_wrong_probe x
    (probe_of (block_at x.address) t)))
breaks_at_first_under l H11 (beat.C x) t = is_probe_ack x.opcode && pending (ReleaseOf (block_at x.address)) t
breaks_at_first_under l H12 (beat.C x) t = is_probe_ack x.opcode && misreports_under l x
    (probe_of (block_at x.address) t) (held_under l (block_at x.address) t)
breaks_at_first_under l H13 (beat.C x) t =
    is_release x.opcode && (pending (AcquireOf (block_at x.address)) t
    || (pending (ReleaseOf (block_at x.address)) t || not
    (releases_from l x.param (held_under l (block_at x.address) t))))
breaks_at_first_under _ _ _ _ = false

-- the H rules in their order
abbrev pub order_rules : List Rule
order_rules = H1 ∷ H2 ∷ H3 ∷ H4 ∷ H5 ∷ H6 ∷ H7 ∷ H8 ∷ H9 ∷ H10 ∷ H11 ∷ H12 ∷ H13 ∷ []

-- the first of these rules for which the test is true
abbrev pub first_by : (Rule → Bool) → List Rule → Option Rule
first_by breaks [] = None
first_by breaks (rule ∷ rules) = first_if (breaks rule) rule (first_by breaks rules)

-- the first of these rules that the beat breaks on a link with these liberties
abbrev pub first_broken_under : {w : ℕ} → Liberties → List Rule → Beat w → History w → Option Rule
first_broken_under l rules x t = first_by (λ rule. breaks_at_first_under l rule x t) rules

-- the beat breaks the rule: an H rule for which the test is true, if it begins a message, otherwise S1
abbrev pub BreaksBy : {w : ℕ} → (Rule → Bool) → Rule → Beat w → History w → Type 0
BreaksBy breaks S1 x t = (begins x t ≡ false) × (breaks_burst x (unfinished (channel_of x) t) ≡ true)
BreaksBy breaks rule x t = (begins x t ≡ true) × (breaks rule ≡ true)

-- the beat breaks the rule of order after the history t of its link, which has these liberties
abbrev pub BreaksUnder : {w : ℕ} → Liberties → Rule → Beat w → History w → Type 0
BreaksUnder l rule x t = BreaksBy (λ r. breaks_at_first_under l r x t) rule x t
