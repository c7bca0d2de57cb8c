-- Traces whose first fault is known from elsewhere, evaluated.
use Rattle.std.proofs.Common.{◌≡◌, refl}
use Rattle.std.specs.Prelude.{ℕ, false, [], ◌∷◌, ◌++◌, Some, None, replicate}
use Rattle.tl_beat.specs.declared.beat.Beat.{Beat}
use Rattle.tl_beat.specs.declared.beat.Beat.TheVariants.{A, B, C, D, E}
use Rattle.tl_beat.specs.declared.beat.Link.{Link}
use Rattle.tl_beat.specs.declared.opcode.OpA.TheVariants as a
use Rattle.tl_beat.specs.declared.opcode.OpB.TheVariants as b
use Rattle.tl_beat.specs.declared.opcode.OpC.TheVariants as c
use Rattle.tl_beat.specs.declared.opcode.OpD.TheVariants as d
use Rattle.tl_burst.specs.statement.Messages.{unfinished}
use Rattle.tl_params.specs.declared.level.Level.TheVariants as level
use Rattle.tl_params.specs.declared.profile.Profile.TheVariants as profile
use Rattle.tl_params.specs.declared.rule.Rule.TheVariants.{L1, L3, L4, L5, S1, H1, H2, H4, H6, H8, H12}
use Rattle.tl_rules.specs.statement.History.{request_of, release_of, probe_of, grant_sink, pending, held}
use Rattle.tl_rules.specs.statement.Legality.{illegal, each_below}
use Rattle.tl_rules.specs.statement.Conformance.{Trace, broken_order, broken_after, on_link, fault_from, first_fault}

abbrev on_0 : {w : ℕ} → Beat w → Link × Beat w
on_0 x = (record { 0 = 0 }, x)

abbrev on_1 : {w : ℕ} → Beat w → Link × Beat w
on_1 x = (record { 0 = 1 }, x)

abbrev get : {w : ℕ} → ℕ → ℕ → ℕ → Beat w
get size address mask = A (record {
  opcode = a.Get;
  param = 0;
  size = size;
  source = 0;
  address = address;
  mask =
      mask;
  lanes = None;
  corrupt = false;
  carries = refl;
})

abbrev put : ℕ → Beat 8
put source = A (record {
  opcode = a.PutFullData;
  param = 0;
  size = 6;
  source = source;
  address = 0;
  mask = 255;
  lanes =
      Some (replicate 8 0);
  corrupt = false;
  carries = refl;
})

abbrev acquire : ℕ → Beat 8
acquire source = A (record {
  opcode = a.AcquireBlock;
  param = 0;
  size = 6;
  source = source;
  address = 0;
  mask =
      255;
  lanes = None;
  corrupt = false;
  carries = refl;
})

abbrev acquire_perm : Beat 8
acquire_perm = A (record {
  opcode = a.AcquirePerm;
  param = 0;
  size = 6;
  source = 0;
  address = 0;
  mask = 255;
  lanes =
      None;
  corrupt = false;
  carries = refl;
})

abbrev grant_data : ℕ → Beat 8
grant_data cap = D (record {
  opcode = d.GrantData;
  param = cap;
  size = 6;
  source = 0;
  sink = 0;
  denied = false;
  lanes =
      Some (replicate 8 0);
  corrupt = false;
  carries = refl;
})

abbrev grant : Beat 8
grant = D (record {
  opcode = d.Grant;
  param = 0;
  size = 6;
  source = 0;
  sink = 0;
  denied = false;
  lanes = None;
  corrupt =
      false;
  carries = refl;
})

abbrev access_ack : Beat 8
access_ack = D (record {
  opcode = d.AccessAck;
  param = 0;
  size = 0;
  source = 0;
  sink = 0;
  denied = false;
  lanes =
      None;
  corrupt = false;
  carries = refl;
})

abbrev grant_ack : ℕ → Beat 8
grant_ack sink = E (record { sink = sink })

abbrev probe : Beat 8
probe = B (record {
  opcode = b.ProbeBlock;
  param = 2;
  size = 6;
  source = 0;
  address = 0;
  mask = 255;
  lanes =
      None;
  corrupt = false;
  carries = refl;
})

abbrev probe_ack : ℕ → Beat 8
probe_ack report = C (record {
  opcode = c.ProbeAck;
  param = report;
  size = 6;
  source = 0;
  address = 0;
  lanes =
      None;
  corrupt = false;
  carries = refl;
})

-- two Acquires of one block, of two sources and of one
two_acquires : first_fault (level.C ∷ []) profile.One (on_0 (acquire 0) ∷ on_0 (acquire 1) ∷ []) ≡ Some (1, H4)
unfolding unfinished request_of release_of probe_of grant_sink pending held illegal each_below broken_order broken_after
    on_link fault_from
two_acquires = refl

one_source : first_fault (level.C ∷ []) profile.One (on_0 (acquire 0) ∷ on_0 (acquire 0) ∷ []) ≡ Some (1, H1)
unfolding unfinished request_of release_of probe_of grant_sink pending held illegal each_below broken_order broken_after
    on_link fault_from
one_source = refl

two_links : first_fault (level.C ∷ level.C ∷ []) profile.One (on_0 (acquire 0) ∷ on_1 (acquire 0) ∷ []) ≡ None
unfolding unfinished request_of release_of probe_of grant_sink pending held illegal each_below broken_order broken_after
    on_link fault_from
two_links = refl

no_such_link : first_fault (level.C ∷ []) profile.One (on_1 (grant_ack 0) ∷ []) ≡ Some (0, L1)
unfolding unfinished request_of release_of probe_of grant_sink pending held illegal each_below broken_order broken_after
    on_link fault_from
no_such_link = refl

not_aligned : first_fault {w = 8} (level.UH ∷ []) profile.One (on_0 (get 6 32 255) ∷ []) ≡ Some (0, L4)
unfolding unfinished request_of release_of probe_of grant_sink pending held illegal each_below broken_order broken_after
    on_link fault_from
not_aligned = refl

-- a Put of eight beats whose source changes at the fifth
other_source : first_fault (level.UH ∷ []) profile.One (replicate 4 (on_0 (put 0)) ++ on_0 (put 1) ∷ []) ≡ Some (4, S1)
unfolding unfinished request_of release_of probe_of grant_sink pending held illegal each_below broken_order broken_after
    on_link fault_from
other_source = refl

unfinished_at_the_end : first_fault (level.UH ∷ []) profile.One (replicate 4 (on_0 (put 0))) ≡ None
unfolding unfinished request_of release_of probe_of grant_sink pending held illegal each_below broken_order broken_after
    on_link fault_from
unfinished_at_the_end = refl

unknown_sink : first_fault (level.C ∷ []) profile.One (on_0 (grant_ack 7) ∷ []) ≡ Some (0, H8)
unfolding unfinished request_of release_of probe_of grant_sink pending held illegal each_below broken_order broken_after
    on_link fault_from
unknown_sink = refl

no_request : first_fault (level.UL ∷ []) profile.One (on_0 access_ack ∷ []) ≡ Some (0, H2)
unfolding unfinished request_of release_of probe_of grant_sink pending held illegal each_below broken_order broken_after
    on_link fault_from
no_request = refl

-- a block granted toB, and probed
abbrev granted : Trace 8
granted = on_0 (acquire 0) ∷ (replicate 8 (on_0 (grant_data 1)) ++ on_0 (grant_ack 0) ∷ on_0 probe ∷ [])

wrong_report : first_fault (level.C ∷ []) profile.One (granted ++ on_0 (probe_ack 1) ∷ []) ≡ Some (11, H12)
unfolding unfinished request_of release_of probe_of grant_sink pending held illegal each_below broken_order broken_after
    on_link fault_from
wrong_report = refl

right_report : first_fault (level.C ∷ []) profile.One (granted ++ on_0 (probe_ack 2) ∷ []) ≡ None
unfolding unfinished request_of release_of probe_of grant_sink pending held illegal each_below broken_order broken_after
    on_link fault_from
right_report = refl

-- sizes and lanes at the widths 4 and 16
wide_4 : first_fault {w = 4} (level.UL ∷ []) profile.One (on_0 (get 3 64 15) ∷ []) ≡ Some (0, L3)
unfolding unfinished request_of release_of probe_of grant_sink pending held illegal each_below broken_order broken_after
    on_link fault_from
wide_4 = refl

wide_4_bursts : first_fault {w = 4} (level.UH ∷ []) profile.One (on_0 (get 3 64 15) ∷ []) ≡ None
unfolding unfinished request_of release_of probe_of grant_sink pending held illegal each_below broken_order broken_after
    on_link fault_from
wide_4_bursts = refl

wide_16 : first_fault {w = 16} (level.UL ∷ []) profile.One (on_0 (get 4 64 65535) ∷ []) ≡ None
unfolding unfinished request_of release_of probe_of grant_sink pending held illegal each_below broken_order broken_after
    on_link fault_from
wide_16 = refl

low_lanes_16 : first_fault {w = 16} (level.UL ∷ []) profile.One (on_0 (get 3 72 255) ∷ []) ≡ Some (0, L5)
unfolding unfinished request_of release_of probe_of grant_sink pending held illegal each_below broken_order broken_after
    on_link fault_from
low_lanes_16 = refl

high_lanes_16 : first_fault {w = 16} (level.UL ∷ []) profile.One (on_0 (get 3 72 65280) ∷ []) ≡ None
unfolding unfinished request_of release_of probe_of grant_sink pending held illegal each_below broken_order broken_after
    on_link fault_from
high_lanes_16 = refl

-- Trunk granted to an NtoB, under both profiles
trunk_for_branch : first_fault (level.C ∷ []) profile.One (on_0 (acquire 0) ∷ on_0 (grant_data 0) ∷ []) ≡ Some (1, H6)
unfolding unfinished request_of release_of probe_of grant_sink pending held illegal each_below broken_order broken_after
    on_link fault_from
trunk_for_branch = refl

trunk_for_branch_two : first_fault (level.C ∷ []) profile.Two (on_0 (acquire 0) ∷ on_0 (grant_data 0) ∷ []) ≡ None
unfolding unfinished request_of release_of probe_of grant_sink pending held illegal each_below broken_order broken_after
    on_link fault_from
trunk_for_branch_two = refl

no_data_for_none : first_fault (level.C ∷ []) profile.Two (on_0 (acquire 0) ∷ on_0 grant ∷ []) ≡ Some (1, H6)
unfolding unfinished request_of release_of probe_of grant_sink pending held illegal each_below broken_order broken_after
    on_link fault_from
no_data_for_none = refl

perm_to_trunk : first_fault (level.C ∷ []) profile.Two (on_0 acquire_perm ∷ on_0 grant ∷ []) ≡ Some (1, H6)
unfolding unfinished request_of release_of probe_of grant_sink pending held illegal each_below broken_order broken_after
    on_link fault_from
perm_to_trunk = refl
