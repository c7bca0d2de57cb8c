-- The first faults of small wide traces, worked out.
use Rattle.std.proofs.Common.{◌≡◌, ℕ, refl, false, [], ◌∷◌}
use Rattle.std.specs.Prelude.{Some, None}
use Rattle.tl_beat.specs.declared.beat.Link.{Link}
use Rattle.tl_beat.specs.declared.opcode.OpA.TheVariants as a
use Rattle.tl_beat.specs.declared.opcode.OpD.TheVariants as d
use Rattle.tl_burst.specs.statement.Messages.{unfinished}
use Rattle.tl_lines.specs.declared.fault.Fault.TheVariants.{Rule}
use Rattle.tl_params.specs.declared.level.Level.TheVariants as level
use Rattle.tl_params.specs.declared.rule.Rule.TheVariants.{H2}
use Rattle.tl_params.specs.statement.Liberties.{no_liberties}
use Rattle.tl_rules.specs.statement.Conformance.{on_link}
use Rattle.tl_rules.specs.statement.History.{grant_sink, pending, probe_of, release_of, request_of}
use Rattle.tl_rules.specs.statement.Legality.{each_below}
use Rattle.tl_rules.specs.statement.Liberties.{broken_after_under, broken_order_under, fault_from_under, held_under}
use Rattle.tl_rules.specs.statement.Liberties.{illegal_under}
use Rattle.tl_wide.specs.declared.beat.WideBeat.{WideBeat}
use Rattle.tl_wide.specs.declared.beat.WideBeat.TheVariants as wide
use Rattle.tl_wide.specs.statement.Naming.{named, place_in}
use Rattle.tl_wide.specs.statement.Narrowed.{asked_address, narrowed_from}
use Rattle.tl_wide.specs.statement.Parts.{below, part_carries, shown_carries}
use Rattle.tl_wide.specs.statement.Verdict.{joined, owner}
use Rattle.tl_wide_lines.specs.statement.JudgedTrace.{first_fault_of}

abbrev link_0 : Link
link_0 = record { 0 = 0 }

abbrev link_1 : Link
link_1 = record { 0 = 1 }

-- a block beyond 32 bits is wanted to write, on a bus of 64 bytes, and granted
abbrev acquire : ℕ → WideBeat 64
acquire source = wide.A (record {
  opcode = a.AcquirePerm;
  param = 1;
  size = 6;
  source = source;
  address = 6442450944;
  mask = 18446744073709551615;
  lanes = None;
  corrupt = false;
  carries = refl;
})

abbrev grant : ℕ → ℕ → WideBeat 64
grant source sink = wide.D (record {
  opcode = d.Grant;
  param = 0;
  size = 6;
  source = source;
  sink = sink;
  denied = false;
  lanes = None;
  corrupt = false;
  carries = refl;
})

-- two links are granted it: neither breaks a rule of its link
granted_to_both_alone : first_fault_of {w = 64} false no_liberties (level.C ∷ level.C ∷ [])
    ((link_0, acquire 700) ∷ (link_0, grant 700 9) ∷ (link_1, acquire 3) ∷ (link_1, grant 3 12) ∷ []) ≡ None
unfolding narrowed_from named place_in below each_below part_carries shown_carries joined owner fault_from_under
    illegal_under
    broken_after_under broken_order_under on_link unfinished pending asked_address request_of held_under release_of
    probe_of
    grant_sink
granted_to_both_alone = refl

-- the second link's Grant has the source of the first link's Acquire: the table of one link numbers no source of
-- another
granted_to_another : first_fault_of {w = 64} false no_liberties (level.C ∷ level.C ∷ [])
    ((link_0, acquire 700) ∷ (link_1, grant 700 9) ∷ []) ≡ Some (1, Rule H2)
unfolding narrowed_from named place_in below each_below part_carries shown_carries joined owner fault_from_under
    illegal_under
    broken_after_under broken_order_under on_link unfinished pending asked_address request_of held_under release_of
    probe_of
    grant_sink
granted_to_another = refl
