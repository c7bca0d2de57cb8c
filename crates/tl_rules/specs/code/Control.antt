-- The L rules of one channel over single fields: first those that judge control fields, which the
-- beats of a burst share, then those that judge what each beat has of its own.
use Rattle.std.specs.Prelude.{ℕ, Bool, not, ◌==◌, ◌&&◌, ◌||◌, Option, None, is_some}
use Rattle.tl_beat.specs.declared.opcode.OpA.{OpA}
use Rattle.tl_beat.specs.declared.opcode.OpB.{OpB}
use Rattle.tl_beat.specs.declared.opcode.OpC.{OpC}
use Rattle.tl_beat.specs.declared.opcode.OpD.{OpD}
use Rattle.tl_beat.specs.statement.Opcode.{a_carries_data, b_carries_data, c_carries_data, d_carries_data}
use Rattle.tl_beat.specs.statement.First.{first_if}
use Rattle.tl_params.specs.declared.level.Level.{Level}
use Rattle.tl_params.specs.declared.rule.Rule.{Rule}
use Rattle.tl_params.specs.declared.rule.Rule.TheVariants.{L1, L2, L3, L4, L5, L6, L7}
use Rattle.tl_rules.specs.statement.Legality.{a_of_level, d_of_level, has_transfers, is_forwarded, answers_forwarded}
use Rattle.tl_rules.specs.statement.Legality.{a_has_param, c_has_param, d_has_param, c_has_source}
use Rattle.tl_rules.specs.statement.Legality.{d_has_sink, a_has_size, d_has_size, is_aligned, a_has_mask, is_full_mask}
use Rattle.tl_rules.specs.statement.Legality.{may_be_denied}
use Rattle.tl_params.specs.statement.Param.{cap_of}

abbrev pub a_control : ℕ → Level → OpA → ℕ → ℕ → ℕ → Option Rule
a_control w l opcode param size address =
    first_if (not (a_of_level l opcode)) L1
    (first_if (not (a_has_param opcode param)) L2
    (first_if (not (a_has_size w l opcode size)) L3
    (first_if (not (is_aligned address size)) L4 None)))

abbrev pub a_own : ℕ → OpA → ℕ → ℕ → ℕ → Bool → Option Rule
a_own w opcode size address mask corrupt =
    first_if (not (a_has_mask w opcode size address mask)) L5
    (first_if (corrupt && not (a_carries_data opcode)) L6 None)

abbrev pub b_control : Level → OpB → ℕ → ℕ → ℕ → ℕ → Option Rule
b_control l opcode param size source address =
    first_if (not (has_transfers l)) L1
    (first_if (is_forwarded opcode) L7
    (first_if (not (is_some (cap_of param) && (source == 0))) L2
    (first_if (not (size == 6)) L3
    (first_if (not (is_aligned address size)) L4 None))))

abbrev pub b_own : ℕ → OpB → ℕ → ℕ → ℕ → Bool → Option Rule
b_own w opcode size address mask corrupt =
    first_if (not (is_full_mask w size address mask)) L5
    (first_if (corrupt && not (b_carries_data opcode)) L6 None)

abbrev pub c_control : Level → OpC → ℕ → ℕ → ℕ → ℕ → Option Rule
c_control l opcode param size source address =
    first_if (not (has_transfers l)) L1
    (first_if (answers_forwarded opcode) L7
    (first_if (not (c_has_param opcode param && c_has_source opcode source)) L2
    (first_if (not (size == 6)) L3
    (first_if (not (is_aligned address size)) L4 None))))

abbrev pub c_own : OpC → Bool → Option Rule
c_own opcode corrupt = first_if (corrupt && not (c_carries_data opcode)) L6 None

abbrev pub d_control : ℕ → Level → OpD → ℕ → ℕ → ℕ → Option Rule
d_control w l opcode param size sink =
    first_if (not (d_of_level l opcode)) L1
    (first_if (not (d_has_param opcode param && d_has_sink opcode sink)) L2
    (first_if (not (d_has_size w l opcode size)) L3 None))

abbrev pub d_own : OpD → Bool → Bool → Option Rule
d_own opcode denied corrupt =
    first_if ((corrupt && not (d_carries_data opcode)) || (denied && not (may_be_denied opcode corrupt))) L6 None
