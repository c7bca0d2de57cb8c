-- Worked schedules of accesses, against the machine.
use Rattle.std.proofs.Common.{refl, lit≤, [], ◌∷◌, ◌++◌, Some, None, replicate}
use Rattle.tl_coherence.proofs
use proofs.Imports.{Channel, OpA, OpB, OpC, OpD, Level, Grow, Perm, Profile, Reply, Finish, Moved, Done}
use Rattle.tl_coherence.specs.declared.event.Outcome.TheVariants.{Replied}
use proofs.examples.Play.{evaluated, Drains, draining, outcomes, Gives, world, deliver, load, store, acquire, access}
use proofs.examples.Play.{a_beat, b_beat, c_beat, d_beat, e_beat}

bytes_of_a_word : Gives {w = 8} (world Profile.One 1 1 ((Level.UL, 1) ∷ []))
    ((access 0 OpA.PutPartialData 0 2 (lit≤ tt) 4 80 (replicate 4 0 ++ (17 ∷ 34 ∷ 51 ∷ 68 ∷ []) ++ replicate 56 0)
    ∷ Drains 220 ∷ access 0 OpA.Get 0 3 (lit≤ tt) 0 255 (replicate 64 0) ∷ Drains 220 ∷ []))
    ((Replied (Reply.Started 0) ∷ Moved
    (a_beat OpA.PutPartialData 0 2 0 4 80 (Some (replicate 4 0 ++ (17 ∷ 34 ∷ 51 ∷ 68 ∷ []))) refl) ∷ Done
    (d_beat OpD.AccessAck 0 2 0 0 None refl) 0 Finish.Ack ∷ Replied (Reply.Started 0) ∷ Moved
    (a_beat OpA.Get 0 3 0 0 255 None refl) ∷ Done
    (d_beat OpD.AccessAckData 0 3 0 0 (Some (replicate 4 0 ++ (17 ∷ 0 ∷ 51 ∷ 0 ∷ []))) refl) 0
    (Finish.Data 3 (replicate 4 0 ++ (17 ∷ 0 ∷ 51 ∷ []) ++ replicate 57 0)) ∷ []))
unfolding draining outcomes evaluated
bytes_of_a_word = refl

a_put_counts_from_its_last_beat : Gives {w = 8} (world Profile.One 1 1 ((Level.UH, 1) ∷ (Level.UH, 1) ∷ []))
    ((access 0 OpA.PutFullData 0 6 (lit≤ tt) 0 18446744073709551615 (replicate 64 255) ∷ []) ++ replicate 7
    (deliver 0 Channel.A) ++ (access 1 OpA.Get 0 3 (lit≤ tt) 0 255 (replicate 64 0) ∷ deliver 1 Channel.A ∷ deliver 1
    Channel.D ∷ [])) ((Replied (Reply.Started 0) ∷ []) ++ replicate 7
    (Moved (a_beat OpA.PutFullData 0 6 0 0 255 (Some (replicate 8 255)) refl)) ++ (Replied (Reply.Started 0) ∷ Moved
    (a_beat OpA.Get 0 3 0 0 255 None refl) ∷ Done (d_beat OpD.AccessAckData 0 3 0 0 (Some (replicate 8 0)) refl) 0
    (Finish.Data 3 (replicate 64 0)) ∷ []))
unfolding draining outcomes evaluated
a_put_counts_from_its_last_beat = refl

min_by_sign_and_without : Gives {w = 8} (world Profile.One 1 1 ((Level.UH, 1) ∷ []))
    ((access 0 OpA.PutFullData 0 2 (lit≤ tt) 0 15 (replicate 4 255 ++ replicate 60 0) ∷ Drains 220 ∷ access 0
    OpA.ArithmeticData 0 2 (lit≤ tt) 0 15 ((1 ∷ []) ++ replicate 63 0) ∷ Drains 220 ∷ access 0 OpA.ArithmeticData 2 2
    (lit≤ tt) 0 15 ((1 ∷ []) ++ replicate 63 0) ∷ Drains 220 ∷ access 0 OpA.Get 0 2 (lit≤ tt) 0 15
    (replicate 64 0) ∷ Drains 220 ∷ []))
    ((Replied (Reply.Started 0) ∷ Moved (a_beat OpA.PutFullData 0 2 0 0 15 (Some (replicate 4 255 ++ replicate 4 0))
    refl) ∷ Done (d_beat OpD.AccessAck 0 2 0 0 None refl) 0 Finish.Ack ∷ Replied (Reply.Started 0) ∷ Moved
    (a_beat OpA.ArithmeticData 0 2 0 0 15 (Some ((1 ∷ []) ++ replicate 7 0)) refl) ∷ Done
    (d_beat OpD.AccessAckData 0 2 0 0 (Some (replicate 4 255 ++ replicate 4 0)) refl) 0
    (Finish.Data 2 (replicate 4 255 ++ replicate 60 0)) ∷ Replied (Reply.Started 0) ∷ Moved
    (a_beat OpA.ArithmeticData 2 2 0 0 15 (Some ((1 ∷ []) ++ replicate 7 0)) refl) ∷ Done
    (d_beat OpD.AccessAckData 0 2 0 0 (Some (replicate 4 255 ++ replicate 4 0)) refl) 0
    (Finish.Data 2 (replicate 4 255 ++ replicate 60 0)) ∷ Replied (Reply.Started 0) ∷ Moved
    (a_beat OpA.Get 0 2 0 0 15 None refl) ∷ Done (d_beat OpD.AccessAckData 0 2 0 0 (Some ((1 ∷ []) ++ replicate 7 0))
    refl) 0 (Finish.Data 2 ((1 ∷ []) ++ replicate 63 0)) ∷ []))
unfolding draining outcomes evaluated
min_by_sign_and_without = refl

add_wraps : Gives {w = 8} (world Profile.One 1 1 ((Level.UH, 1) ∷ []))
    ((access 0 OpA.PutFullData 0 3 (lit≤ tt) 0 255 (replicate 8 255 ++ replicate 56 0) ∷ Drains 220 ∷ access 0
    OpA.ArithmeticData 4 3 (lit≤ tt) 0 255 ((1 ∷ []) ++ replicate 63 0) ∷ Drains 220 ∷ access 0 OpA.Get 0 3 (lit≤ tt) 0
    255 (replicate 64 0) ∷ Drains 220 ∷ []))
    ((Replied (Reply.Started 0) ∷ Moved (a_beat OpA.PutFullData 0 3 0 0 255 (Some (replicate 8 255)) refl) ∷ Done
    (d_beat OpD.AccessAck 0 3 0 0 None refl) 0 Finish.Ack ∷ Replied (Reply.Started 0) ∷ Moved
    (a_beat OpA.ArithmeticData 4 3 0 0 255 (Some ((1 ∷ []) ++ replicate 7 0)) refl) ∷ Done
    (d_beat OpD.AccessAckData 0 3 0 0 (Some (replicate 8 255)) refl) 0
    (Finish.Data 3 (replicate 8 255 ++ replicate 56 0)) ∷ Replied (Reply.Started 0) ∷ Moved
    (a_beat OpA.Get 0 3 0 0 255 None refl) ∷ Done (d_beat OpD.AccessAckData 0 3 0 0 (Some (replicate 8 0)) refl) 0
    (Finish.Data 3 (replicate 64 0)) ∷ []))
unfolding draining outcomes evaluated
add_wraps = refl

a_reader_gets_what_the_writer_stored : Gives {w = 8} (world Profile.One 1 1 ((Level.C, 1) ∷ (Level.C, 1) ∷ []))
    ((acquire 0 0 Grow.NtoT ∷ Drains 220 ∷ store 0 0 0 90 ∷ acquire 1 0 Grow.NtoB ∷ Drains 220 ∷ load 0 0 0 ∷ load 1 0
    0 ∷ [])) ((Replied (Reply.Started 0) ∷ Moved (a_beat OpA.AcquireBlock 1 6 0 0 255 None refl) ∷ []) ++ replicate 7
    (Moved (d_beat OpD.GrantData 0 6 0 0 (Some (replicate 8 0)) refl))
    ++ (Done (d_beat OpD.GrantData 0 6 0 0 (Some (replicate 8 0)) refl) 0 (Finish.Granted Perm.Trunk) ∷ Moved
    (e_beat 0) ∷ Replied Reply.Stored ∷ Replied (Reply.Started 0) ∷ Moved
    (a_beat OpA.AcquireBlock 0 6 0 0 255 None refl) ∷ Moved (b_beat OpB.ProbeBlock 1 6 0 0 255 None refl) ∷ Moved
    (c_beat OpC.ProbeAckData 0 6 0 0 (Some ((90 ∷ []) ++ replicate 7 0)) refl) ∷ []) ++ replicate 7
    (Moved (c_beat OpC.ProbeAckData 0 6 0 0 (Some (replicate 8 0)) refl))
    ++ (Moved (d_beat OpD.GrantData 1 6 0 0 (Some ((90 ∷ []) ++ replicate 7 0)) refl) ∷ []) ++ replicate 6
    (Moved (d_beat OpD.GrantData 1 6 0 0 (Some (replicate 8 0)) refl))
    ++ (Done (d_beat OpD.GrantData 1 6 0 0 (Some (replicate 8 0)) refl) 0 (Finish.Granted Perm.Branch) ∷ Moved
    (e_beat 0) ∷ Replied (Reply.Value 90) ∷ Replied (Reply.Value 90) ∷ []))
unfolding draining outcomes evaluated
a_reader_gets_what_the_writer_stored = refl
