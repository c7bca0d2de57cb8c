-- Worked traces: their messages, and what is drawn of them.
use Rattle.std.proofs.Common.{◌≡◌, ℕ, Bool, refl, true, false, [], ◌∷◌, map}
use Rattle.std.specs.Prelude.{replicate, Option, Some, None}
use Rattle.tl_beat.specs.declared.beat.Beat.{Beat}
use Rattle.tl_beat.specs.declared.beat.Beat.TheVariants as beat
use Rattle.tl_beat.specs.declared.beat.Link.{Link}
use Rattle.tl_beat.specs.declared.opcode.OpA.TheVariants as a
use Rattle.tl_beat.specs.declared.opcode.OpD.TheVariants as d
use Rattle.tl_burst.specs.statement.Messages.{unfinished}
use Rattle.tl_chart.specs.declared.arrow.Arrow.{Arrow}
use Rattle.tl_chart.specs.declared.window.Window.{Window}
use Rattle.tl_chart.specs.statement.Drawn.{drawn}
use Rattle.tl_chart.specs.statement.Messages.{block_granted, messages}
use Rattle.tl_params.specs.declared.perm.Perm.TheVariants as perm
use Rattle.tl_rules.specs.statement.Conformance.{Trace, on_link}
use Rattle.tl_rules.specs.statement.History.{grant_sink, held, pending, probe_of, release_of, request_of}

-- beats of block 0 on link 0: a request for all of it, one of the four of its answer, and the last of the three messages
abbrev acquire : Link × Beat 16
acquire = (
  record { 0 = 0 },
  beat.A (record {
    opcode = a.AcquireBlock;
    param = 1;
    size = 6;
    source = 0;
    address = 0;
    mask = 65535;
    lanes = None;
    corrupt = false;
    carries = refl;
  }),
)

abbrev grant : Link × Beat 16
grant = (
  record { 0 = 0 },
  beat.D (record {
    opcode = d.GrantData;
    param = 0;
    size = 6;
    source = 0;
    sink = 5;
    denied = false;
    lanes = Some (replicate 16 0);
    corrupt = false;
    carries = refl;
  }),
)

abbrev grant_ack : Link × Beat 16
grant_ack = (record { 0 = 0 }, beat.E (record { sink = 5 }))

-- lines 2 to 7, the newest first
abbrev acquired : Trace 16
acquired = grant_ack ∷ grant ∷ grant ∷ grant ∷ grant ∷ acquire ∷ []

-- of a message: how many beats it has, the lines of its first and of its last so far, and whether that was the last
abbrev told : Arrow → ℕ × ℕ × ℕ × Bool
told m = (m.beats, m.first, m.last, m.complete)

-- ---- messages

-- a burst is one message
a_burst : map told (messages acquired) ≡ (1, 2, 2, true) ∷ (4, 3, 6, true) ∷ (1, 7, 7, true) ∷ []
unfolding messages on_link unfinished
a_burst = refl

-- also where beats of it are missing
a_burst_that_goes_on : map told (messages (grant ∷ grant ∷ acquire ∷ [])) ≡ (1, 2, 2, true) ∷ (4, 3, 4, false) ∷ []
unfolding messages on_link unfinished
a_burst_that_goes_on = refl

-- an answer is of the block of its request, a GrantAck of that of its Grant
blocks_of_messages : map (λ m. m.block) (messages acquired) ≡ Some 0 ∷ Some 0 ∷ Some 0 ∷ []
unfolding messages block_granted on_link unfinished request_of release_of
blocks_of_messages = refl

-- ---- what is drawn

-- these lines, of a block or of all
abbrev lines : ℕ → ℕ → Option ℕ → Window
lines first last block = record { first = first; last = last; most = 200; block = block }

-- the request whose answer is on its way, and the answer
before_a_window : map told (drawn held (lines 5 6 None) acquired).arrows ≡ (1, 2, 2, true) ∷ (4, 3, 6, true) ∷ []
unfolding drawn block_granted on_link unfinished request_of release_of
before_a_window = refl

-- the GrantAck is behind it
behind_a_window : (drawn held (lines 5 6 None) acquired).more ≡ 1
unfolding drawn block_granted on_link unfinished request_of release_of
behind_a_window = refl

-- the request has been answered, the Grant hasn't been acknowledged
answered_before_a_window : map told (drawn held (lines 7 9 None) acquired).arrows ≡ (4, 3, 6, true) ∷ (1, 7, 7, true) ∷ []
unfolding drawn block_granted on_link unfinished request_of release_of
answered_before_a_window = refl

-- what is held of a block at the beginning of a window, since the last beat of its Grant
held_before_a_window : (drawn held (lines 7 9 (Some 0)) acquired).marks
    ≡ record { link = record { 0 = 0 }; line = 6; held = perm.Trunk } ∷ []
unfolding drawn block_granted on_link unfinished request_of release_of probe_of grant_sink pending held
held_before_a_window = refl

-- the GrantAck of a Grant that hasn't ended: behind its last beat nothing of it is left to come
answered_early : (drawn held (lines 8 9 None) (grant ∷ grant_ack ∷ grant ∷ grant ∷ grant ∷ acquire ∷ [])).arrows ≡ []
unfolding drawn block_granted on_link unfinished request_of release_of
answered_early = refl

-- nothing is drawn that speaks of another block
another_block : (drawn held (lines 2 9 (Some 1)) acquired).arrows ≡ []
unfolding drawn block_granted on_link unfinished request_of release_of
another_block = refl
