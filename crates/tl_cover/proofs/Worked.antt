-- The bins of a small trace of two links, counted by the definition.
use Rattle.std.proofs.Common.{◌≡◌, ℕ, true, false, List, [], ◌∷◌, length, refl}
use Rattle.std.specs.Prelude.{None}
use Rattle.tl_beat.specs.declared.beat.Beat.{Beat}
use Rattle.tl_beat.specs.declared.beat.Beat.TheVariants as beat
use Rattle.tl_beat.specs.declared.beat.Link.{Link}
use Rattle.tl_beat.specs.declared.opcode.OpA.TheVariants as a
use Rattle.tl_beat.specs.declared.opcode.OpB.TheVariants as b
use Rattle.tl_beat.specs.declared.opcode.OpC.TheVariants as c
use Rattle.tl_beat.specs.declared.opcode.OpD.TheVariants as d
use Rattle.tl_burst.specs.statement.Messages.{unfinished}
use Rattle.tl_cover.specs.declared.message.MessageKind.TheVariants as kind
use Rattle.tl_cover.specs.declared.message.Param.TheVariants as param
use Rattle.tl_cover.specs.declared.situation.Bytes.TheVariants as bytes
use Rattle.tl_cover.specs.declared.situation.Situation.{Situation}
use Rattle.tl_cover.specs.declared.situation.Depth.TheVariants as depth
use Rattle.tl_cover.specs.declared.situation.Pending.TheVariants as pending
use Rattle.tl_cover.specs.declared.situation.Situation.TheVariants.{Aligned, Among, Answered, Granted, Sent, Waited}
use Rattle.tl_cover.specs.declared.situation.Wait.TheVariants as wait
use Rattle.tl_cover.specs.statement.Bins.{all_bins}
use Rattle.tl_cover.specs.statement.Covered.{lines, occurs_on}
use Rattle.tl_cover.specs.statement.Possible.{is_possible}
use Rattle.tl_cover.specs.statement.Scene.{probe_at, under_way}
use Rattle.tl_monitor.specs.statement.Count.{sum_below}
use Rattle.tl_params.specs.declared.level.Level.TheVariants as level
use Rattle.tl_params.specs.declared.param.Cap.TheVariants as cap
use Rattle.tl_params.specs.declared.param.Grow.TheVariants as grow
use Rattle.tl_params.specs.declared.param.Report.TheVariants as report
use Rattle.tl_params.specs.statement.Liberties.{no_liberties}
use Rattle.tl_rules.specs.statement.Conformance.{Trace, on_link}
use Rattle.tl_rules.specs.statement.History.{grant_sink, pending, release_of, request_of}
use Rattle.tl_rules.specs.statement.Liberties.{held_under}

abbrev on : ℕ → Beat 8 → Link × Beat 8
on i x = (record { 0 = i }, x)

abbrev acquire : Beat 8
acquire = beat.A (record {
  opcode = a.AcquirePerm;
  param = 1;
  size = 6;
  source = 0;
  address = 64;
  mask = 255;
  lanes = None;
  corrupt = false;
  carries = refl;
})

abbrev grant : Beat 8
grant = beat.D (record {
  opcode = d.Grant;
  param = 0;
  size = 6;
  source = 0;
  sink = 3;
  denied = false;
  lanes = None;
  corrupt = false;
  carries = refl;
})

abbrev grant_ack : Beat 8
grant_ack = beat.E (record { sink = 3 })

abbrev probe : Beat 8
probe = beat.B (record {
  opcode = b.ProbePerm;
  param = 2;
  size = 6;
  source = 0;
  address = 64;
  mask = 255;
  lanes = None;
  corrupt = false;
  carries = refl;
})

-- a Get of this address
abbrev get : ℕ → Beat 8
get address = beat.A (record {
  opcode = a.Get;
  param = 0;
  size = 2;
  source = 0;
  address = address;
  mask = 240;
  lanes = None;
  corrupt = false;
  carries = refl;
})

abbrev report_none : Beat 8
report_none = beat.C (record {
  opcode = c.ProbeAck;
  param = 1;
  size = 6;
  source = 0;
  address = 64;
  lanes = None;
  corrupt = false;
  carries = refl;
})

-- the newest beat first; lines 2 to 8
abbrev trace : Trace 8
trace =
    on 0 report_none
    ∷ on 1 (get 12)
    ∷ on 1 (get 24)
    ∷ on 0 probe
    ∷ on 0 grant_ack
    ∷ on 0 grant
    ∷ on 0 acquire
    ∷ []

-- the lines at which messages begin in a bin on link i
abbrev came : ℕ → Situation → List ℕ
came i s = lines (occurs_on no_liberties 2 i s) trace

-- two beats are between the Probe of line 5 and its answer of line 8
waited : came 0 (Waited wait.Two) ≡ 8 ∷ []
unfolding lines unfinished on_link request_of release_of grant_sink pending held_under under_way probe_at sum_below
waited = refl

no_other_wait : came 0 (Waited wait.One) ≡ []
unfolding lines unfinished on_link request_of release_of grant_sink pending held_under under_way probe_at sum_below
no_other_wait = refl

-- the answer is to a Probe toN
answered : came 0 (Answered report.TtoN cap.ToN) ≡ 8 ∷ []
unfolding lines unfinished on_link request_of release_of grant_sink pending held_under under_way probe_at sum_below
answered = refl

answered_no_other : came 0 (Answered report.TtoN cap.ToB) ≡ []
unfolding lines unfinished on_link request_of release_of grant_sink pending held_under under_way probe_at sum_below
answered_no_other = refl

-- the Grant makes a writer of a link that held nothing
granted : came 0 (Granted grow.NtoT) ≡ 3 ∷ []
unfolding lines unfinished on_link request_of release_of grant_sink pending held_under under_way probe_at sum_below
granted = refl

-- kinds of messages, each on its own link
acquired : came 0 (Sent (kind.A a.AcquirePerm (param.Grow grow.NtoT) bytes.SixtyFour)) ≡ 2 ∷ []
unfolding lines unfinished on_link request_of release_of grant_sink pending held_under under_way probe_at sum_below
acquired = refl

acknowledged : came 0 (Sent kind.E) ≡ 4 ∷ []
unfolding lines unfinished on_link request_of release_of grant_sink pending held_under under_way probe_at sum_below
acknowledged = refl

read : came 1 (Sent (kind.A a.Get param.Zero bytes.Four)) ≡ 6 ∷ 7 ∷ []
unfolding lines unfinished on_link request_of release_of grant_sink pending held_under under_way probe_at sum_below
read = refl

read_elsewhere : came 0 (Sent (kind.A a.Get param.Zero bytes.Four)) ≡ []
unfolding lines unfinished on_link request_of release_of grant_sink pending held_under under_way probe_at sum_below
read_elsewhere = refl

-- 4 divides address 12, and 8 doesn't; 8 divides 24, and 16 doesn't
at_four : came 1 (Aligned bytes.Four bytes.Four) ≡ 7 ∷ []
unfolding lines unfinished on_link request_of release_of grant_sink pending held_under under_way probe_at sum_below
at_four = refl

at_eight : came 1 (Aligned bytes.Four bytes.Eight) ≡ 6 ∷ []
unfolding lines unfinished on_link request_of release_of grant_sink pending held_under under_way probe_at sum_below
at_eight = refl

-- no Get is pending when the first begins, and the first when the second does
gets : came 1 (Among pending.Get depth.One) ≡ 6 ∷ []
unfolding lines unfinished on_link request_of release_of grant_sink pending held_under under_way probe_at sum_below
gets = refl

second_get : came 1 (Among pending.Get depth.Two) ≡ 7 ∷ []
unfolding lines unfinished on_link request_of release_of grant_sink pending held_under under_way probe_at sum_below
second_get = refl

first_grant : came 0 (Among pending.Grant depth.One) ≡ 3 ∷ []
unfolding lines unfinished on_link request_of release_of grant_sink pending held_under under_way probe_at sum_below
first_grant = refl

no_put : came 1 (Among pending.Put depth.One) ≡ []
unfolding lines unfinished on_link request_of release_of grant_sink pending held_under under_way probe_at sum_below
no_put = refl

-- there are 203 bins
bins : length all_bins ≡ 203
bins = refl

-- a link of level UL with beats of 8 bytes has Gets of 8 bytes and none of 16, and no Acquires
get_of_8 : is_possible 8 no_liberties level.UL (Sent (kind.A a.Get param.Zero bytes.Eight)) ≡ true
get_of_8 = refl

get_of_16 : is_possible 8 no_liberties level.UL (Sent (kind.A a.Get param.Zero bytes.Sixteen)) ≡ false
get_of_16 = refl

acquire_of_ul :
    is_possible 8 no_liberties level.UL (Sent (kind.A a.AcquirePerm (param.Grow grow.NtoT) bytes.SixtyFour)) ≡ false
acquire_of_ul = refl
