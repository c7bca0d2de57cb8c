-- The cell of a beat names its link, channel and message, and that of a commit its link and kind.
use Rattle.std.proofs.Common.{◌≡◌, ◌<◌, ◌+◌, ◌*◌, ◌/◌, ◌%◌, ℕ, List, [], ◌∷◌, arith, codes, refl}
use Rattle.tl_beat.specs.declared.beat.Beat.{Beat}
use Rattle.tl_beat.specs.declared.beat.Beat.TheVariants as beat
use Rattle.tl_beat.specs.declared.beat.Link.{Link}
use Rattle.tl_beat.specs.declared.channel.Channel.{Channel}
use Rattle.tl_beat.specs.declared.opcode.OpA.{OpA}
use Rattle.tl_beat.specs.declared.opcode.OpA.TheVariants as a
use Rattle.tl_beat.specs.declared.opcode.OpB.{OpB}
use Rattle.tl_beat.specs.declared.opcode.OpB.TheVariants as b
use Rattle.tl_beat.specs.declared.opcode.OpC.{OpC}
use Rattle.tl_beat.specs.declared.opcode.OpC.TheVariants as c
use Rattle.tl_beat.specs.declared.opcode.OpD.{OpD}
use Rattle.tl_beat.specs.declared.opcode.OpD.TheVariants as d
use Rattle.tl_beat.specs.statement.Control.{channel_of}
use Rattle.tl_beat.specs.statement.Names.{a_name, b_name, c_name, d_name, letter_of}
use Rattle.tl_beat.specs.statement.Opcode.{a_code, b_code, c_code, d_code}
use Rattle.tl_report.proofs.Counted.{below_a, below_b, below_c, below_d}
use Rattle.tl_events.specs.declared.commit.Commit.{Commit}
use Rattle.tl_events.specs.declared.commit.Commit.TheVariants as commit
use Rattle.tl_events.specs.declared.commit.Event.{Event}
use Rattle.tl_events.specs.declared.commit.Event.TheVariants as event
use Rattle.tl_report.specs.statement.Taken.{cell_for, cell_of, commit_message_of, event_cell_of, message_of, wide_cell_of}
use Rattle.tl_report.specs.statement.Taken.{wide_event_cell_of, wide_message_of}
use Rattle.tl_sign_off.specs.statement.Message.{channel_name, message_name, name_of, wide_channel_of, wide_name_of}
use Rattle.tl_sign_off.specs.statement.Report.{commit_count_of, count_data, count_lettered, count_named, count_of}
use Rattle.tl_sign_off.specs.statement.Report.{event_count_of, wide_count_of, wide_event_count_of}
use Rattle.tl_wide.specs.declared.beat.WideBeat.{WideBeat}
use Rattle.tl_wide.specs.declared.beat.WideBeat.TheVariants as wide
use Rattle.tl_wide_events.specs.declared.commit.WideEvent.{WideEvent}
use Rattle.tl_wide_events.specs.declared.commit.WideEvent.TheVariants as wide_event
use Rattle.tl_wide_events.specs.statement.Narrowed.{commit_at}

-- a number has this letter and this name
record IsNamed (n : ℕ) (letter : ℕ) (name : List ℕ) : Type 0 where
  lettered : channel_name n ≡ letter ∷ []
  named : message_name n ≡ name

on_a : (opcode : OpA) → IsNamed (a_code opcode) 65 (a_name opcode)
on_a a.PutFullData = record { lettered = refl; named = refl }
on_a a.PutPartialData = record { lettered = refl; named = refl }
on_a a.ArithmeticData = record { lettered = refl; named = refl }
on_a a.LogicalData = record { lettered = refl; named = refl }
on_a a.Get = record { lettered = refl; named = refl }
on_a a.Intent = record { lettered = refl; named = refl }
on_a a.AcquireBlock = record { lettered = refl; named = refl }
on_a a.AcquirePerm = record { lettered = refl; named = refl }

on_b : (opcode : OpB) → IsNamed (8 + b_code opcode) 66 (b_name opcode)
on_b b.PutFullData = record { lettered = refl; named = refl }
on_b b.PutPartialData = record { lettered = refl; named = refl }
on_b b.ArithmeticData = record { lettered = refl; named = refl }
on_b b.LogicalData = record { lettered = refl; named = refl }
on_b b.Get = record { lettered = refl; named = refl }
on_b b.Intent = record { lettered = refl; named = refl }
on_b b.ProbeBlock = record { lettered = refl; named = refl }
on_b b.ProbePerm = record { lettered = refl; named = refl }

on_c : (opcode : OpC) → IsNamed (16 + c_code opcode) 67 (c_name opcode)
on_c c.AccessAck = record { lettered = refl; named = refl }
on_c c.AccessAckData = record { lettered = refl; named = refl }
on_c c.HintAck = record { lettered = refl; named = refl }
on_c c.ProbeAck = record { lettered = refl; named = refl }
on_c c.ProbeAckData = record { lettered = refl; named = refl }
on_c c.Release = record { lettered = refl; named = refl }
on_c c.ReleaseData = record { lettered = refl; named = refl }

on_d : (opcode : OpD) → IsNamed (24 + d_code opcode) 68 (d_name opcode)
on_d d.AccessAck = record { lettered = refl; named = refl }
on_d d.AccessAckData = record { lettered = refl; named = refl }
on_d d.HintAck = record { lettered = refl; named = refl }
on_d d.Grant = record { lettered = refl; named = refl }
on_d d.GrantData = record { lettered = refl; named = refl }
on_d d.ReleaseAck = record { lettered = refl; named = refl }

is_named : {w : ℕ} (x : Beat w) → IsNamed (message_of x) (letter_of (channel_of x)) (name_of x)
is_named (beat.A x) = on_a x.opcode
is_named (beat.B x) = on_b x.opcode
is_named (beat.C x) = on_c x.opcode
is_named (beat.D x) = on_d x.opcode
is_named (beat.E x) = record { lettered = refl; named = refl }

few_messages : {w : ℕ} (x : Beat w) → message_of x < 36
few_messages (beat.A x) = let few = below_a x.opcode in omega (arith, few)
few_messages (beat.B x) = let few = below_b x.opcode in omega (arith, few)
few_messages (beat.C x) = let few = below_c x.opcode in omega (arith, few)
few_messages (beat.D x) = let few = below_d x.opcode in omega (arith, few)
few_messages (beat.E x) = omega arith

is_named_wide : {w : ℕ} (x : WideBeat w) → IsNamed (wide_message_of x) (letter_of (wide_channel_of x)) (wide_name_of x)
is_named_wide (wide.A x) = on_a x.opcode
is_named_wide (wide.B x) = on_b x.opcode
is_named_wide (wide.C x) = on_c x.opcode
is_named_wide (wide.D x) = on_d x.opcode
is_named_wide (wide.E x) = record { lettered = refl; named = refl }

few_wide_messages : {w : ℕ} (x : WideBeat w) → wide_message_of x < 36
few_wide_messages (wide.A x) = let few = below_a x.opcode in omega (arith, few)
few_wide_messages (wide.B x) = let few = below_b x.opcode in omega (arith, few)
few_wide_messages (wide.C x) = let few = below_c x.opcode in omega (arith, few)
few_wide_messages (wide.D x) = let few = below_d x.opcode in omega (arith, few)
few_wide_messages (wide.E x) = omega arith

link_back : (link message : ℕ) → message < 36 → (36 * link + message) / 36 ≡ link
link_back link message few = omega (arith, few)

message_back : (link message : ℕ) → message < 36 → (36 * link + message) % 36 ≡ message
message_back link message few = omega (arith, few)

-- the entry for the cell of a message that has this letter and this name
counted_as : (link : Link) (message : ℕ) (letter name : List ℕ) (n : ℕ) → message < 36 → channel_name message ≡ letter
    → message_name message ≡ name → count_data (cell_for link message) n ≡ count_lettered link letter name n
counted_as link message letter name n few lettered named =
    rw (link_back link.0 message few, message_back link.0 message few, lettered, named) refl

-- the entry for the cell of a message that is named so
counted_so : (link : Link) (message : ℕ) (channel : Channel) (name : List ℕ) (n : ℕ) → message < 36
    → IsNamed message (letter_of channel) name → count_data (cell_for link message) n ≡ count_named link channel name n
counted_so link message channel name n few is =
    counted_as link message (letter_of channel ∷ []) name n few is.lettered is.named

pub counted_alike : {w : ℕ} (link : Link) (x : Beat w) (n : ℕ) → count_data (cell_of link x) n ≡ count_of link x n
counted_alike link x n = counted_so link (message_of x) (channel_of x) (name_of x) n (few_messages x) (is_named x)

pub wide_counted_alike : {w : ℕ} (link : Link) (x : WideBeat w) (n : ℕ)
    → count_data (wide_cell_of link x) n ≡ wide_count_of link x n
wide_counted_alike link x n =
    counted_so link (wide_message_of x) (wide_channel_of x) (wide_name_of x) n (few_wide_messages x) (is_named_wide x)

commit_counted : (link : Link) (x : Commit) (n : ℕ)
    → count_data (cell_for link (commit_message_of x)) n ≡ commit_count_of link x n
commit_counted link (commit.Store piece value) n =
    counted_as link 33 (codes "S") (codes "Store") n (omega arith) refl refl
commit_counted link (commit.Load piece value) n =
    counted_as link 34 (codes "L") (codes "Load") n (omega arith) refl refl
commit_counted link (commit.Begin piece) n =
    counted_as link 35 (codes "I") (codes "LoadBegin") n (omega arith) refl refl

pub event_counted_alike : {w : ℕ} (link : Link) (x : Event w) (n : ℕ)
    → count_data (event_cell_of link x) n ≡ event_count_of link x n
event_counted_alike link (event.Beat x) n = counted_alike link x n
event_counted_alike link (event.Commit x) n = commit_counted link x n

pub wide_event_counted_alike : {w : ℕ} (link : Link) (x : WideEvent w) (n : ℕ)
    → count_data (wide_event_cell_of link x) n ≡ wide_event_count_of link x n
wide_event_counted_alike link (wide_event.Beat x) n = wide_counted_alike link x n
wide_event_counted_alike link (wide_event.Commit x) n = commit_counted link (commit_at x 0) n
