-- Why a renaming must be faithful: without each part of it some verdict changes.
use Rattle.tl_renaming.proofs.Imports.{Beat, A, B, D, pending, request_of, unfinished}
use Rattle.tl_renaming.specs.statement.Renamed.{renamed, renamed_history}
use Rattle.std.proofs.Common.{◌≡◌, ℕ, suc, refl, false, [], ◌∷◌}
use Rattle.std.specs.Prelude.{Some, None}
use Rattle.tl_beat.specs.declared.channel.Channel.TheVariants as channel
use Rattle.tl_beat.specs.declared.opcode.OpA.TheVariants as a
use Rattle.tl_beat.specs.declared.opcode.OpB.TheVariants as b
use Rattle.tl_beat.specs.declared.opcode.OpD.TheVariants as d
use Rattle.tl_params.specs.declared.level.Level.TheVariants as level
use Rattle.tl_params.specs.declared.rule.Rule.TheVariants.{L2, H1, H4, H7}
use Rattle.tl_params.specs.statement.Liberties.{no_liberties}
use Rattle.tl_rules.specs.statement.Legality.{each_below}
use Rattle.tl_rules.specs.statement.Liberties.{broken_order_under, held_under, illegal_under}

-- an AcquirePerm NtoB of the block at an address
abbrev acquire : ℕ → ℕ → Beat 8
acquire source address = A (record {
  opcode = a.AcquirePerm;
  param = 0;
  size = 6;
  source = source;
  address = address;
  mask = 255;
  lanes = None;
  corrupt = false;
  carries = refl;
})

-- a Grant toB
abbrev grant : ℕ → ℕ → Beat 8
grant source sink = D (record {
  opcode = d.Grant;
  param = 1;
  size = 6;
  source = source;
  sink = sink;
  denied = false;
  lanes = None;
  corrupt = false;
  carries = refl;
})

abbrev access_ack : ℕ → Beat 8
access_ack sink = D (record {
  opcode = d.AccessAck;
  param = 0;
  size = 3;
  source = 0;
  sink = sink;
  denied = false;
  lanes = None;
  corrupt = false;
  carries = refl;
})

abbrev probe : Beat 8
probe = B (record {
  opcode = b.ProbeBlock;
  param = 2;
  size = 6;
  source = 0;
  address = 0;
  mask = 255;
  lanes = None;
  corrupt = false;
  carries = refl;
})

abbrev same : ℕ → ℕ
same n = n

abbrev all_one : ℕ → ℕ
all_one n = 0

-- ---- 0 stays 0

zero_source : illegal_under no_liberties level.C channel.B probe ≡ None
unfolding illegal_under each_below
zero_source = refl

other_source : illegal_under no_liberties level.C channel.B
    (renamed (record { block = same; source = suc; sink = same }) probe) ≡ Some L2
unfolding illegal_under each_below
other_source = refl

zero_sink : illegal_under no_liberties level.C channel.D (access_ack 0) ≡ None
unfolding illegal_under each_below
zero_sink = refl

other_sink : illegal_under no_liberties level.C channel.D
    (renamed (record { block = same; source = same; sink = suc }) (access_ack 0)) ≡ Some L2
unfolding illegal_under each_below
other_sink = refl

-- ---- numbers stay apart

-- while an Acquire is pending there comes one of another block with another source
two_acquires : broken_order_under no_liberties (acquire 1 64) (acquire 0 0 ∷ []) ≡ None
unfolding broken_order_under pending unfinished held_under
two_acquires = refl

one_source : broken_order_under no_liberties
    (renamed (record { block = same; source = all_one; sink = same }) (acquire 1 64))
    (renamed_history (record { block = same; source = all_one; sink = same }) (acquire 0 0 ∷ [])) ≡ Some H1
unfolding broken_order_under pending unfinished held_under
one_source = refl

one_block : broken_order_under no_liberties
    (renamed (record { block = all_one; source = same; sink = same }) (acquire 1 64))
    (renamed_history (record { block = all_one; source = same; sink = same }) (acquire 0 0 ∷ [])) ≡ Some H4
unfolding broken_order_under pending unfinished held_under
one_block = refl

-- while a Grant waits for its GrantAck there comes one with another sink
two_grants : broken_order_under no_liberties (grant 1 1) (grant 0 0 ∷ acquire 1 64 ∷ acquire 0 0 ∷ []) ≡ None
unfolding broken_order_under pending unfinished held_under request_of
two_grants = refl

one_sink : broken_order_under no_liberties
    (renamed (record { block = same; source = same; sink = all_one }) (grant 1 1))
    (renamed_history (record { block = same; source = same; sink = all_one })
    (grant 0 0 ∷ acquire 1 64 ∷ acquire 0 0 ∷ [])) ≡ Some H7
unfolding broken_order_under pending unfinished held_under request_of
one_sink = refl
