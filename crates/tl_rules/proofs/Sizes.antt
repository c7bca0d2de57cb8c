-- The sizes that the rules let through are those of a block at most.
use Rattle.std.proofs.Common.{◌≡◌, ℕ, ◌≤◌, true, None, arith, inl, inr}
use Rattle.std.proofs.lemmas.Bool.{cases_lt, eqb-true, leb-true, not-false, both_ways}
use Rattle.tl_beat.specs.statement.Width.{IsWidth}
use Rattle.tl_beat.specs.declared.beat.BeatD.{BeatD}
use Rattle.tl_beat.specs.declared.beat.Beat.TheVariants.{D}
use Rattle.tl_beat.specs.declared.channel.Channel.{Channel}
use Rattle.tl_beat.specs.declared.opcode.OpD.{OpD}
use Rattle.tl_beat.specs.declared.opcode.OpD.TheVariants as d
use Rattle.tl_params.specs.declared.level.Level.{Level}
use Rattle.tl_params.specs.declared.level.Level.TheVariants as level
use Rattle.tl_params.specs.declared.rule.Rule.TheVariants.{L1, L2, L3, L7}
use Rattle.tl_rules.specs.statement.Legality.{access_has_size, d_has_size, breaks_l1, breaks_l2, breaks_l3, breaks_l7}
use Rattle.tl_rules.specs.statement.Legality.{illegal}
use Rattle.tl_rules.proofs.Bursts.{next_rule}
use Rattle.tl_rules.proofs.Widths.{size_above_width}

pub access-small : (w size : ℕ) (l : Level) → IsWidth w → access_has_size w l size ≡ true → size ≤ 6
access-small w size level.UL width e = elim (cases_lt 4 size) [
  | inl above ↦ absurd (both_ways (access_has_size w level.UL size) (size_above_width w size width above) e)
  | inr below ↦ omega arith
]
access-small w size level.UH width e = leb-true size 6 e
access-small w size level.C width e = leb-true size 6 e

pub response_small : (w size : ℕ) (l : Level) (opcode : OpD) → IsWidth w → d_has_size w l opcode size ≡ true → size ≤ 6
response_small w size l d.AccessAck width e = access-small w size l width e
response_small w size l d.AccessAckData width e = access-small w size l width e
response_small w size l d.HintAck width e = access-small w size l width e
response_small w size l d.Grant width e = let h = eqb-true size 6 e in omega (arith, h)
response_small w size l d.GrantData width e = let h = eqb-true size 6 e in omega (arith, h)
response_small w size l d.ReleaseAck width e = let h = eqb-true size 6 e in omega (arith, h)

pub response-small : {w : ℕ} (l : Level) (ch : Channel) (x : BeatD w) → IsWidth w → illegal l ch (D x) ≡ None
    → x.size ≤ 6
unfolding illegal
response-small {w} l ch x width e =
    let one = next_rule (breaks_l1 l ch (D x)) L1 _ e in
    let seven = next_rule (breaks_l7 (D x)) L7 _ one.1 in
    let two = next_rule (breaks_l2 (D x)) L2 _ seven.1 in
    let three = next_rule (breaks_l3 l (D x)) L3 _ two.1 in
    response_small w x.size l x.opcode width (not-false (d_has_size w l x.opcode x.size) three.0)
