-- What comes of lists of events and drains, evaluated, with words for events and beats.
-- What worlds do at lists of events that are known from elsewhere, evaluated.
use Rattle.std.proofs.Common.{◌≡◌, ℕ, zero, suc, ◌≤◌, Bool, false, if◌then◌else◌, List, [], ◌∷◌, ◌++◌, Option, Some}
use Rattle.std.proofs.Common.{None, refl, lit≤, replicate, map, is_some}
use Rattle.tl_coherence.proofs
use proofs.Imports.{Beat, B, C, Link, Channel, OpA, OpB, OpC, OpD, a_carries_data, b_carries_data, c_carries_data}
use proofs.Imports.{d_carries_data, Message, unfinished, Config, Level, Grow, Prune, Perm, Profile, broken_order}
use proofs.Imports.{on_link, bytes_from, effect, number_from, grant_sink, held, pending, probe_of, release_of}
use proofs.Imports.{request_of, beats_from, illegal, Busy, Op, Reply, Finish, with_handed, clients_from, Event, Ask}
use proofs.Imports.{Deliver, Outcome, Done, Moved, first_movable, is_movable, next_delivery, Step, stepped, System}
use proofs.Imports.{fresh, with_messages}
use Rattle.tl_coherence.specs.declared.event.Outcome.TheVariants.{Replied, Empty, Stalled}
use Rattle.tl_beat.specs.statement.Opcode.{a_code, b_code, c_code, d_code}
use Rattle.tl_beat.specs.declared.beat.Beat.TheVariants.{A, D, E}
use Rattle.tl_rules.specs.statement.Legality.{first_illegal, each_below}
use Rattle.tl_rules.specs.statement.Admission.{bytes_carried}
use Rattle.tl_manager.specs.statement.Request.{masks_carried, corrupt_carried, request_carried}
use Rattle.tl_client.specs.statement.Ask as ask
use Rattle.tl_client.specs.statement.Offer as offer
use Rattle.tl_manager.specs.statement.Service as service
use Rattle.tl_manager.specs.statement.Reaction as manager_reaction
use Rattle.tl_manager.specs.statement.Offer as manager_offer

-- ---- playing

-- an event, or the next deliveries until there is none, of which there are no more than this many
pub data Line (w : ℕ) : Type 0 where
  Does : Event w → Line w
  Drains : ℕ → Line w

abbrev pub and_then : {w : ℕ} → Step w → (System w → List (Outcome w)) → List (Outcome w)
and_then step later = step.outcome ∷ later step.after

abbrev pub delivering : {w : ℕ} → Config → Option (Link × Channel) → System w → (System w → List (Outcome w))
    → (System w → List (Outcome w)) → List (Outcome w)
delivering config None s on stop = stop s
delivering config (Some d) s on stop = and_then (stepped config (Deliver d.0 d.1) s) on

unfoldable pub draining : {w : ℕ} → Config → ℕ → System w → (System w → List (Outcome w)) → List (Outcome w)
draining config zero s stop = stop s
draining config (suc n) s stop = delivering config (next_delivery config s) s (λ t. draining config n t stop) stop

-- the outcomes of these lines one after another
unfoldable pub outcomes : {w : ℕ} → Config → List (Line w) → System w → List (Outcome w)
outcomes config [] s = []
outcomes config (Does e ∷ lines) s = and_then (stepped config e s) (outcomes config lines)
outcomes config (Drains n ∷ lines) s = draining config n s (outcomes config lines)

-- ---- outcomes as they are seen: a beat by its fields, without the proof that it carries what it should

abbrev pub Plain : Type 0
Plain = Channel × List ℕ × Option (List ℕ) × Bool

abbrev pub plain : {w : ℕ} → Beat w → Plain
plain (A x) = (Channel.A, a_code x.opcode ∷ x.param ∷ x.size ∷ x.source ∷ x.address ∷ x.mask ∷ [], x.lanes, x.corrupt)
plain (B x) = (Channel.B, b_code x.opcode ∷ x.param ∷ x.size ∷ x.source ∷ x.address ∷ x.mask ∷ [], x.lanes, x.corrupt)
plain (C x) = (Channel.C, c_code x.opcode ∷ x.param ∷ x.size ∷ x.source ∷ x.address ∷ [], x.lanes, x.corrupt)
plain (D x) = (
  Channel.D,
  d_code x.opcode ∷ x.param ∷ x.size ∷ x.source ∷ x.sink ∷ (if x.denied then 1 else 0) ∷ [],
  x.lanes,
  x.corrupt,
)
plain (E x) = (Channel.E, x.sink ∷ [], None, false)

pub data Seen : Type 0 where
  Says : Reply → Seen
  Nothing : Seen
  Waits : Seen
  Moves : Plain → Seen
  Ends : Plain → ℕ → Finish → Seen
  Nobody : Seen

abbrev pub seen : {w : ℕ} → Outcome w → Seen
seen (Outcome.Replied r) = Says r
seen Outcome.Empty = Nothing
seen Outcome.Stalled = Waits
seen (Outcome.Moved x) = Moves (plain x)
seen (Outcome.Done x source finish) = Ends (plain x) source finish
seen Outcome.NoSuchClient = Nobody

-- the lines, played from the beginning, have these outcomes
abbrev pub Gives : {w : ℕ} → Config → List (Line w) → List (Outcome w) → Type 0
Gives config lines expected = map seen (outcomes config lines fresh) ≡ map seen expected

-- what unfolds where a world is evaluated: an example names this in place of all that it names
unfoldable pub evaluated : ℕ
unfolding stepped with_messages is_movable first_movable next_delivery ask.asked ask.busy ask.least_free ask.low_bytes
    offer.offered offer.stalls bytes_carried number_from unfinished request_of release_of probe_of grant_sink pending
    held illegal first_illegal beats_from each_below broken_order on_link bytes_from effect with_handed clients_from
    masks_carried corrupt_carried request_carried service.least_untaken service.services manager_offer.judged_at
    manager_reaction.reaction manager_offer.offered manager_offer.stalls
evaluated = 0

-- ---- configurations and lines

abbrev pub world : Profile → ℕ → ℕ → List (Level × ℕ) → Config
world p blocks trackers clients = record {
  blocks = blocks;
  trackers = trackers;
  clients = record { items = map (λ c. record { level = c.0; sources = c.1 }) clients };
  profile = p;
}

abbrev pub deliver : {w : ℕ} → ℕ → Channel → Line w
deliver link ch = Does (Deliver (record { 0 = link }) ch)

abbrev pub load : {w : ℕ} → ℕ → ℕ → ℕ → Line w
load client size address = Does (Ask client (Op.Load address size))

abbrev pub store : {w : ℕ} → ℕ → ℕ → ℕ → ℕ → Line w
store client size address value = Does (Ask client (Op.Store address size value))

abbrev pub acquire : {w : ℕ} → ℕ → ℕ → Grow → Line w
acquire client block grow = Does (Ask client (Op.Acquire block grow))

abbrev pub whole : {w : ℕ} → ℕ → ℕ → List ℕ → Line w
whole client block bytes = Does (Ask client (Op.AcquireWhole block bytes))

abbrev pub release : {w : ℕ} → ℕ → ℕ → Prune → Line w
release client block prune = Does (Ask client (Op.Release block prune))

abbrev pub access : {w : ℕ} → ℕ → OpA → ℕ → (size : ℕ) → size ≤ 6 → ℕ → ℕ → List ℕ → Line w
access client opcode param size small address mask payload = Does (Ask client (Op.Access (Message.A (record {
  opcode = opcode;
  param = param;
  size = size;
  source = 0;
  address = address;
  payload = payload;
  mask = mask;
  corrupt = 0;
  small = small;
}))))

-- ---- beats by their fields

abbrev pub a_beat : {w : ℕ} → (opcode : OpA) → ℕ → ℕ → ℕ → ℕ → ℕ → (lanes : Option (List ℕ))
    → is_some lanes ≡ a_carries_data opcode → Beat w
a_beat opcode param size source address mask lanes carries = A (record {
  opcode = opcode;
  param = param;
  size = size;
  source = source;
  address = address;
  mask = mask;
  lanes = lanes;
  corrupt = false;
  carries = carries;
})

abbrev pub b_beat : {w : ℕ} → (opcode : OpB) → ℕ → ℕ → ℕ → ℕ → ℕ → (lanes : Option (List ℕ))
    → is_some lanes ≡ b_carries_data opcode → Beat w
b_beat opcode param size source address mask lanes carries = B (record {
  opcode = opcode;
  param = param;
  size = size;
  source = source;
  address = address;
  mask = mask;
  lanes = lanes;
  corrupt = false;
  carries = carries;
})

abbrev pub c_beat : {w : ℕ} → (opcode : OpC) → ℕ → ℕ → ℕ → ℕ → (lanes : Option (List ℕ))
    → is_some lanes ≡ c_carries_data opcode → Beat w
c_beat opcode param size source address lanes carries = C (record {
  opcode = opcode;
  param = param;
  size = size;
  source = source;
  address = address;
  lanes = lanes;
  corrupt = false;
  carries = carries;
})

abbrev pub d_beat : {w : ℕ} → (opcode : OpD) → ℕ → ℕ → ℕ → ℕ → (lanes : Option (List ℕ))
    → is_some lanes ≡ d_carries_data opcode → Beat w
d_beat opcode param size source sink lanes carries = D (record {
  opcode = opcode;
  param = param;
  size = size;
  source = source;
  sink = sink;
  denied = false;
  lanes = lanes;
  corrupt = false;
  carries = carries;
})

abbrev pub e_beat : {w : ℕ} → ℕ → Beat w
e_beat sink = E (record { sink = sink })

a_release_while_a_probe_waits : Gives {w = 8} (world Profile.One 1 1 ((Level.C, 1) ∷ (Level.C, 1) ∷ []))
    ((acquire 0 0 Grow.NtoT ∷ Drains 220 ∷ store 0 0 0 90 ∷ acquire 1 0 Grow.NtoT ∷ deliver 1 Channel.A ∷ release 0 0
    Prune.TtoN ∷ deliver 0 Channel.B ∷ Drains 220 ∷ load 1 0 0 ∷ []))
    ((Replied (Reply.Started 0) ∷ Moved (a_beat OpA.AcquireBlock 1 6 0 0 255 None refl) ∷ []) ++ replicate 7
    (Moved (d_beat OpD.GrantData 0 6 0 0 (Some (replicate 8 0)) refl))
    ++ (Done (d_beat OpD.GrantData 0 6 0 0 (Some (replicate 8 0)) refl) 0 (Finish.Granted Perm.Trunk) ∷ Moved
    (e_beat 0) ∷ Replied Reply.Stored ∷ Replied (Reply.Started 0) ∷ Moved
    (a_beat OpA.AcquireBlock 1 6 0 0 255 None refl) ∷ Replied (Reply.Started 0) ∷ Stalled ∷ Moved
    (c_beat OpC.ReleaseData 1 6 0 0 (Some ((90 ∷ []) ++ replicate 7 0)) refl) ∷ []) ++ replicate 7
    (Moved (c_beat OpC.ReleaseData 1 6 0 0 (Some (replicate 8 0)) refl))
    ++ (Done (d_beat OpD.ReleaseAck 0 6 0 0 None refl) 0 Finish.Released ∷ Moved
    (b_beat OpB.ProbeBlock 2 6 0 0 255 None refl) ∷ Moved (c_beat OpC.ProbeAck 5 6 0 0 None refl) ∷ Moved
    (d_beat OpD.GrantData 0 6 0 0 (Some ((90 ∷ []) ++ replicate 7 0)) refl) ∷ []) ++ replicate 6
    (Moved (d_beat OpD.GrantData 0 6 0 0 (Some (replicate 8 0)) refl))
    ++ (Done (d_beat OpD.GrantData 0 6 0 0 (Some (replicate 8 0)) refl) 0 (Finish.Granted Perm.Trunk) ∷ Moved
    (e_beat 0) ∷ Replied (Reply.Value 90) ∷ []))
unfolding draining outcomes evaluated
a_release_while_a_probe_waits = refl

the_second_writer_gets_data : Gives {w = 8} (world Profile.One 1 2 ((Level.C, 1) ∷ (Level.C, 1) ∷ []))
    ((acquire 0 0 Grow.NtoB ∷ Drains 220 ∷ acquire 1 0 Grow.NtoB ∷ Drains 220 ∷ acquire 0 0 Grow.BtoT ∷ acquire 1 0
    Grow.BtoT ∷ Drains 220 ∷ []))
    ((Replied (Reply.Started 0) ∷ Moved (a_beat OpA.AcquireBlock 0 6 0 0 255 None refl) ∷ []) ++ replicate 7
    (Moved (d_beat OpD.GrantData 1 6 0 0 (Some (replicate 8 0)) refl))
    ++ (Done (d_beat OpD.GrantData 1 6 0 0 (Some (replicate 8 0)) refl) 0 (Finish.Granted Perm.Branch) ∷ Moved
    (e_beat 0) ∷ Replied (Reply.Started 0) ∷ Moved (a_beat OpA.AcquireBlock 0 6 0 0 255 None refl) ∷ []) ++ replicate 7
    (Moved (d_beat OpD.GrantData 1 6 0 0 (Some (replicate 8 0)) refl))
    ++ (Done (d_beat OpD.GrantData 1 6 0 0 (Some (replicate 8 0)) refl) 0 (Finish.Granted Perm.Branch) ∷ Moved
    (e_beat 0) ∷ Replied (Reply.Started 0) ∷ Replied (Reply.Started 0) ∷ Moved
    (a_beat OpA.AcquireBlock 2 6 0 0 255 None refl) ∷ Moved (b_beat OpB.ProbeBlock 2 6 0 0 255 None refl) ∷ Moved
    (c_beat OpC.ProbeAck 2 6 0 0 None refl) ∷ Done (d_beat OpD.Grant 0 6 0 0 None refl) 0 (Finish.Granted Perm.Trunk)
    ∷ Moved (e_beat 0) ∷ Moved (a_beat OpA.AcquireBlock 2 6 0 0 255 None refl) ∷ Moved
    (b_beat OpB.ProbeBlock 2 6 0 0 255 None refl) ∷ []) ++ replicate 8
    (Moved (c_beat OpC.ProbeAckData 1 6 0 0 (Some (replicate 8 0)) refl)) ++ replicate 7
    (Moved (d_beat OpD.GrantData 0 6 0 0 (Some (replicate 8 0)) refl))
    ++ (Done (d_beat OpD.GrantData 0 6 0 0 (Some (replicate 8 0)) refl) 0 (Finish.Granted Perm.Trunk) ∷ Moved
    (e_beat 0) ∷ []))
unfolding draining outcomes evaluated
the_second_writer_gets_data = refl

a_whole_block_store_takes_no_data : Gives {w = 8} (world Profile.One 1 2 ((Level.C, 1) ∷ (Level.C, 1) ∷ []))
    ((acquire 0 0 Grow.NtoB ∷ Drains 220 ∷ acquire 1 0 Grow.NtoB ∷ Drains 220 ∷ acquire 0 0 Grow.BtoT ∷ whole 1 0
    (replicate 64 17) ∷ Drains 220 ∷ load 1 0 0 ∷ load 0 0 0 ∷ []))
    ((Replied (Reply.Started 0) ∷ Moved (a_beat OpA.AcquireBlock 0 6 0 0 255 None refl) ∷ []) ++ replicate 7
    (Moved (d_beat OpD.GrantData 1 6 0 0 (Some (replicate 8 0)) refl))
    ++ (Done (d_beat OpD.GrantData 1 6 0 0 (Some (replicate 8 0)) refl) 0 (Finish.Granted Perm.Branch) ∷ Moved
    (e_beat 0) ∷ Replied (Reply.Started 0) ∷ Moved (a_beat OpA.AcquireBlock 0 6 0 0 255 None refl) ∷ []) ++ replicate 7
    (Moved (d_beat OpD.GrantData 1 6 0 0 (Some (replicate 8 0)) refl))
    ++ (Done (d_beat OpD.GrantData 1 6 0 0 (Some (replicate 8 0)) refl) 0 (Finish.Granted Perm.Branch) ∷ Moved
    (e_beat 0) ∷ Replied (Reply.Started 0) ∷ Replied (Reply.Started 0) ∷ Moved
    (a_beat OpA.AcquireBlock 2 6 0 0 255 None refl) ∷ Moved (b_beat OpB.ProbeBlock 2 6 0 0 255 None refl) ∷ Moved
    (c_beat OpC.ProbeAck 2 6 0 0 None refl) ∷ Done (d_beat OpD.Grant 0 6 0 0 None refl) 0 (Finish.Granted Perm.Trunk)
    ∷ Moved (e_beat 0) ∷ Moved (a_beat OpA.AcquirePerm 2 6 0 0 255 None refl) ∷ Moved
    (b_beat OpB.ProbeBlock 2 6 0 0 255 None refl) ∷ []) ++ replicate 8
    (Moved (c_beat OpC.ProbeAckData 1 6 0 0 (Some (replicate 8 0)) refl)) ++ (Done (d_beat OpD.Grant 0 6 0 0 None refl)
    0 (Finish.Granted Perm.Trunk) ∷ Moved (e_beat 0) ∷ Replied (Reply.Value 17) ∷ Replied Reply.Miss ∷ []))
unfolding draining outcomes evaluated
a_whole_block_store_takes_no_data = refl

a_release_before_its_grant_ack : Gives {w = 8} (world Profile.One 1 1 ((Level.C, 1) ∷ []))
    ((acquire 0 0 Grow.NtoB ∷ deliver 0 Channel.A ∷ []) ++ replicate 8 (deliver 0 Channel.D)
    ++ (release 0 0 Prune.BtoN ∷ deliver 0 Channel.C ∷ deliver 0 Channel.D ∷ acquire 0 0 Grow.NtoB ∷ deliver 0
    Channel.A ∷ deliver 0 Channel.E ∷ deliver 0 Channel.A ∷ []))
    ((Replied (Reply.Started 0) ∷ Moved (a_beat OpA.AcquireBlock 0 6 0 0 255 None refl) ∷ []) ++ replicate 7
    (Moved (d_beat OpD.GrantData 1 6 0 0 (Some (replicate 8 0)) refl))
    ++ (Done (d_beat OpD.GrantData 1 6 0 0 (Some (replicate 8 0)) refl) 0 (Finish.Granted Perm.Branch) ∷ Replied
    (Reply.Started 0) ∷ Moved (c_beat OpC.Release 2 6 0 0 None refl) ∷ Done (d_beat OpD.ReleaseAck 0 6 0 0 None refl) 0
    Finish.Released ∷ Replied (Reply.Started 0) ∷ Stalled ∷ Moved (e_beat 0) ∷ Moved
    (a_beat OpA.AcquireBlock 0 6 0 0 255 None refl) ∷ []))
unfolding draining outcomes evaluated
a_release_before_its_grant_ack = refl

busy_in_order : Gives {w = 8} (world Profile.One 1 1 ((Level.UL, 1) ∷ []))
    ((load 0 0 0 ∷ access 0 OpA.Get 0 4 (lit≤ tt) 0 255 (replicate 64 0) ∷ access 0 OpA.Get 0 3 (lit≤ tt) 0 255
    (replicate 64 0) ∷ access 0 OpA.Get 0 3 (lit≤ tt) 0 255 (replicate 64 0) ∷ access 0 OpA.PutPartialData 0 1 (lit≤ tt)
    7 128 (replicate 7 0 ++ (17 ∷ []) ++ replicate 56 0) ∷ deliver 0 Channel.D ∷ []))
    ((Replied (Reply.Busy Busy.B4) ∷ Replied (Reply.Busy Busy.B5) ∷ Replied (Reply.Started 0) ∷ Replied
    (Reply.Busy Busy.B1) ∷ Replied (Reply.Busy Busy.B5) ∷ Empty ∷ []))
unfolding draining outcomes evaluated
busy_in_order = refl

plain_accesses_of_what_a_cache_holds : Gives {w = 8} (world Profile.One 2 1 ((Level.C, 1) ∷ (Level.UL, 1) ∷ []))
    ((acquire 0 0 Grow.NtoT ∷ Drains 220 ∷ store 0 0 0 90 ∷ access 1 OpA.Get 0 0 (lit≤ tt) 0 1
    (replicate 64 0) ∷ deliver 1 Channel.A ∷ deliver 0 Channel.B ∷ []) ++ replicate 8 (deliver 0 Channel.C)
    ++ (deliver 1 Channel.D ∷ load 0 0 0 ∷ access 1 OpA.PutFullData 0 0 (lit≤ tt) 0 1 ((107 ∷ []) ++ replicate 63 0)
    ∷ deliver 1 Channel.A ∷ deliver 0 Channel.B ∷ deliver 0 Channel.C ∷ deliver 1 Channel.D ∷ load 0 0 0 ∷ []))
    ((Replied (Reply.Started 0) ∷ Moved (a_beat OpA.AcquireBlock 1 6 0 0 255 None refl) ∷ []) ++ replicate 7
    (Moved (d_beat OpD.GrantData 0 6 0 0 (Some (replicate 8 0)) refl))
    ++ (Done (d_beat OpD.GrantData 0 6 0 0 (Some (replicate 8 0)) refl) 0 (Finish.Granted Perm.Trunk) ∷ Moved
    (e_beat 0) ∷ Replied Reply.Stored ∷ Replied (Reply.Started 0) ∷ Moved (a_beat OpA.Get 0 0 0 0 1 None refl) ∷ Moved
    (b_beat OpB.ProbeBlock 1 6 0 0 255 None refl) ∷ Moved
    (c_beat OpC.ProbeAckData 0 6 0 0 (Some ((90 ∷ []) ++ replicate 7 0)) refl) ∷ []) ++ replicate 7
    (Moved (c_beat OpC.ProbeAckData 0 6 0 0 (Some (replicate 8 0)) refl))
    ++ (Done (d_beat OpD.AccessAckData 0 0 0 0 (Some ((90 ∷ []) ++ replicate 7 0)) refl) 0
    (Finish.Data 0 ((90 ∷ []) ++ replicate 63 0)) ∷ Replied (Reply.Value 90) ∷ Replied (Reply.Started 0) ∷ Moved
    (a_beat OpA.PutFullData 0 0 0 0 1 (Some ((107 ∷ []) ++ replicate 7 0)) refl) ∷ Moved
    (b_beat OpB.ProbeBlock 2 6 0 0 255 None refl) ∷ Moved (c_beat OpC.ProbeAck 2 6 0 0 None refl) ∷ Done
    (d_beat OpD.AccessAck 0 0 0 0 None refl) 0 Finish.Ack ∷ Replied Reply.Miss ∷ []))
unfolding draining outcomes evaluated
plain_accesses_of_what_a_cache_holds = refl

beats_of_4_bytes : Gives {w = 4} (world Profile.One 1 1 ((Level.C, 1) ∷ (Level.C, 1) ∷ []))
    ((acquire 0 0 Grow.NtoT ∷ Drains 220 ∷ store 0 0 0 90 ∷ acquire 1 0 Grow.NtoB ∷ Drains 220 ∷ load 0 0 0 ∷ load 1 0
    0 ∷ [])) ((Replied (Reply.Started 0) ∷ Moved (a_beat OpA.AcquireBlock 1 6 0 0 15 None refl) ∷ []) ++ replicate 15
    (Moved (d_beat OpD.GrantData 0 6 0 0 (Some (replicate 4 0)) refl))
    ++ (Done (d_beat OpD.GrantData 0 6 0 0 (Some (replicate 4 0)) refl) 0 (Finish.Granted Perm.Trunk) ∷ Moved
    (e_beat 0) ∷ Replied Reply.Stored ∷ Replied (Reply.Started 0) ∷ Moved (a_beat OpA.AcquireBlock 0 6 0 0 15 None refl)
    ∷ Moved (b_beat OpB.ProbeBlock 1 6 0 0 15 None refl) ∷ Moved
    (c_beat OpC.ProbeAckData 0 6 0 0 (Some ((90 ∷ []) ++ replicate 3 0)) refl) ∷ []) ++ replicate 15
    (Moved (c_beat OpC.ProbeAckData 0 6 0 0 (Some (replicate 4 0)) refl))
    ++ (Moved (d_beat OpD.GrantData 1 6 0 0 (Some ((90 ∷ []) ++ replicate 3 0)) refl) ∷ []) ++ replicate 14
    (Moved (d_beat OpD.GrantData 1 6 0 0 (Some (replicate 4 0)) refl))
    ++ (Done (d_beat OpD.GrantData 1 6 0 0 (Some (replicate 4 0)) refl) 0 (Finish.Granted Perm.Branch) ∷ Moved
    (e_beat 0) ∷ Replied (Reply.Value 90) ∷ Replied (Reply.Value 90) ∷ []))
unfolding draining outcomes evaluated
beats_of_4_bytes = refl

beats_of_16_bytes : Gives {w = 16} (world Profile.One 1 1 ((Level.C, 1) ∷ (Level.C, 1) ∷ []))
    ((acquire 0 0 Grow.NtoT ∷ Drains 220 ∷ store 0 0 0 90 ∷ acquire 1 0 Grow.NtoB ∷ Drains 220 ∷ load 0 0 0 ∷ load 1 0
    0 ∷ [])) ((Replied (Reply.Started 0) ∷ Moved (a_beat OpA.AcquireBlock 1 6 0 0 65535 None refl) ∷ []) ++ replicate 3
    (Moved (d_beat OpD.GrantData 0 6 0 0 (Some (replicate 16 0)) refl))
    ++ (Done (d_beat OpD.GrantData 0 6 0 0 (Some (replicate 16 0)) refl) 0 (Finish.Granted Perm.Trunk) ∷ Moved
    (e_beat 0) ∷ Replied Reply.Stored ∷ Replied (Reply.Started 0) ∷ Moved
    (a_beat OpA.AcquireBlock 0 6 0 0 65535 None refl) ∷ Moved (b_beat OpB.ProbeBlock 1 6 0 0 65535 None refl) ∷ Moved
    (c_beat OpC.ProbeAckData 0 6 0 0 (Some ((90 ∷ []) ++ replicate 15 0)) refl) ∷ []) ++ replicate 3
    (Moved (c_beat OpC.ProbeAckData 0 6 0 0 (Some (replicate 16 0)) refl))
    ++ (Moved (d_beat OpD.GrantData 1 6 0 0 (Some ((90 ∷ []) ++ replicate 15 0)) refl) ∷ Moved
    (d_beat OpD.GrantData 1 6 0 0 (Some (replicate 16 0)) refl) ∷ Moved
    (d_beat OpD.GrantData 1 6 0 0 (Some (replicate 16 0)) refl) ∷ Done
    (d_beat OpD.GrantData 1 6 0 0 (Some (replicate 16 0)) refl) 0 (Finish.Granted Perm.Branch) ∷ Moved
    (e_beat 0) ∷ Replied (Reply.Value 90) ∷ Replied (Reply.Value 90) ∷ []))
unfolding draining outcomes evaluated
beats_of_16_bytes = refl

an_atomic_of_two_beats : Gives {w = 4} (world Profile.One 1 1 ((Level.UH, 1) ∷ []))
    ((access 0 OpA.PutFullData 0 3 (lit≤ tt) 0 255 (replicate 8 255 ++ replicate 56 0) ∷ Drains 220 ∷ access 0
    OpA.ArithmeticData 4 3 (lit≤ tt) 0 255 ((1 ∷ []) ++ replicate 63 0) ∷ Drains 220 ∷ []))
    ((Replied (Reply.Started 0) ∷ Moved (a_beat OpA.PutFullData 0 3 0 0 15 (Some (replicate 4 255)) refl) ∷ Moved
    (a_beat OpA.PutFullData 0 3 0 0 15 (Some (replicate 4 255)) refl) ∷ Done (d_beat OpD.AccessAck 0 3 0 0 None refl) 0
    Finish.Ack ∷ Replied (Reply.Started 0) ∷ Moved
    (a_beat OpA.ArithmeticData 4 3 0 0 15 (Some ((1 ∷ []) ++ replicate 3 0)) refl) ∷ Moved
    (a_beat OpA.ArithmeticData 4 3 0 0 15 (Some (replicate 4 0)) refl) ∷ Moved
    (d_beat OpD.AccessAckData 0 3 0 0 (Some (replicate 4 255)) refl) ∷ Done
    (d_beat OpD.AccessAckData 0 3 0 0 (Some (replicate 4 255)) refl) 0
    (Finish.Data 3 (replicate 8 255 ++ replicate 56 0)) ∷ []))
unfolding draining outcomes evaluated
an_atomic_of_two_beats = refl

a_lone_reader_may_write : Gives {w = 8} (world Profile.Two 1 1 ((Level.C, 1) ∷ (Level.C, 1) ∷ []))
    ((acquire 0 0 Grow.NtoB ∷ Drains 220 ∷ store 0 0 0 90 ∷ acquire 1 0 Grow.NtoB ∷ Drains 220 ∷ []))
    ((Replied (Reply.Started 0) ∷ Moved (a_beat OpA.AcquireBlock 0 6 0 0 255 None refl) ∷ []) ++ replicate 7
    (Moved (d_beat OpD.GrantData 0 6 0 0 (Some (replicate 8 0)) refl))
    ++ (Done (d_beat OpD.GrantData 0 6 0 0 (Some (replicate 8 0)) refl) 0 (Finish.Granted Perm.Trunk) ∷ Moved
    (e_beat 0) ∷ Replied Reply.Stored ∷ Replied (Reply.Started 0) ∷ Moved
    (a_beat OpA.AcquireBlock 0 6 0 0 255 None refl) ∷ Moved (b_beat OpB.ProbeBlock 1 6 0 0 255 None refl) ∷ Moved
    (c_beat OpC.ProbeAckData 0 6 0 0 (Some ((90 ∷ []) ++ replicate 7 0)) refl) ∷ []) ++ replicate 7
    (Moved (c_beat OpC.ProbeAckData 0 6 0 0 (Some (replicate 8 0)) refl))
    ++ (Moved (d_beat OpD.GrantData 1 6 0 0 (Some ((90 ∷ []) ++ replicate 7 0)) refl) ∷ []) ++ replicate 6
    (Moved (d_beat OpD.GrantData 1 6 0 0 (Some (replicate 8 0)) refl))
    ++ (Done (d_beat OpD.GrantData 1 6 0 0 (Some (replicate 8 0)) refl) 0 (Finish.Granted Perm.Branch) ∷ Moved
    (e_beat 0) ∷ []))
unfolding draining outcomes evaluated
a_lone_reader_may_write = refl

nobody_has_it_any_longer_at_the_grant : Gives {w = 8} (world Profile.Two 1 1 ((Level.C, 1) ∷ (Level.C, 1) ∷ []))
    ((acquire 0 0 Grow.NtoB ∷ Drains 220 ∷ store 0 0 0 90 ∷ acquire 1 0 Grow.NtoB ∷ deliver 1 Channel.A ∷ release 0 0
    Prune.TtoN ∷ Drains 220 ∷ []))
    ((Replied (Reply.Started 0) ∷ Moved (a_beat OpA.AcquireBlock 0 6 0 0 255 None refl) ∷ []) ++ replicate 7
    (Moved (d_beat OpD.GrantData 0 6 0 0 (Some (replicate 8 0)) refl))
    ++ (Done (d_beat OpD.GrantData 0 6 0 0 (Some (replicate 8 0)) refl) 0 (Finish.Granted Perm.Trunk) ∷ Moved
    (e_beat 0) ∷ Replied Reply.Stored ∷ Replied (Reply.Started 0) ∷ Moved
    (a_beat OpA.AcquireBlock 0 6 0 0 255 None refl) ∷ Replied (Reply.Started 0) ∷ Moved
    (c_beat OpC.ReleaseData 1 6 0 0 (Some ((90 ∷ []) ++ replicate 7 0)) refl) ∷ []) ++ replicate 7
    (Moved (c_beat OpC.ReleaseData 1 6 0 0 (Some (replicate 8 0)) refl))
    ++ (Done (d_beat OpD.ReleaseAck 0 6 0 0 None refl) 0 Finish.Released ∷ Moved
    (b_beat OpB.ProbeBlock 1 6 0 0 255 None refl) ∷ Moved (c_beat OpC.ProbeAck 5 6 0 0 None refl) ∷ Moved
    (d_beat OpD.GrantData 0 6 0 0 (Some ((90 ∷ []) ++ replicate 7 0)) refl) ∷ []) ++ replicate 6
    (Moved (d_beat OpD.GrantData 0 6 0 0 (Some (replicate 8 0)) refl))
    ++ (Done (d_beat OpD.GrantData 0 6 0 0 (Some (replicate 8 0)) refl) 0 (Finish.Granted Perm.Trunk) ∷ Moved
    (e_beat 0) ∷ []))
unfolding draining outcomes evaluated
nobody_has_it_any_longer_at_the_grant = refl
