-- The rules of order one by one: the source, sink or block on which each depends, and the histories after which a beat
-- breaks it.
use Rattle.std.specs.Prelude.{ℕ, Bool, not, ◌==◌, ◌&&◌, ◌||◌, List, [], ◌∷◌, Option, Some, None}
use Rattle.tl_beat.specs.declared.beat.Beat.{Beat}
use Rattle.tl_beat.specs.declared.beat.Beat.TheVariants as beat
use Rattle.tl_beat.specs.declared.beat.BeatA.{BeatA}
use Rattle.tl_beat.specs.declared.channel.Channel.TheVariants as channel
use Rattle.tl_beat.specs.statement.First.{first_if}
use Rattle.tl_burst.specs.statement.Messages.{History, unfinished}
use Rattle.tl_params.specs.declared.key.Key.TheVariants.{RequestSource, ReleaseSource, AcquireOf, ReleaseOf, GrantSink}
use Rattle.tl_params.specs.declared.key.Key.TheVariants.{GrantAckOf, ProbeOf}
use Rattle.tl_params.specs.declared.profile.Profile.{Profile}
use Rattle.tl_params.specs.declared.rule.Rule.{Rule}
use Rattle.tl_params.specs.declared.rule.Rule.TheVariants.{H1, H2, H3, H4, H5, H6, H7, H8, H9, H10, H11, H12, H13}
use Rattle.tl_params.specs.statement.Param.{prune_of}
use Rattle.tl_rules.specs.statement.Conformance.{answers_wrong_probe, comes_in_grant, grows_from, has_request, misgrants}
use Rattle.tl_rules.specs.statement.Conformance.{misreports, prunes_from, size_asked}
use Rattle.tl_rules.specs.statement.History.{block_at, held, is_acquire, is_grant, is_probe, is_probe_ack, is_release}
use Rattle.tl_rules.specs.statement.History.{pending, probe_of, request_of}
use Rattle.tl_keys.specs.statement.Restricted.{Name}
use Rattle.tl_keys.specs.statement.Restricted.Name.{OfBlock, OfSink, OfSource}

-- a rule, the source, sink or block on which it depends, and the histories after which a certain beat breaks it
pub record Test (w : ℕ) : Type 0 where
  pub rule : Rule
  pub name : Name
  pub breaks : History w → Bool

-- the block of a request, 0 if there is none
abbrev pub block_of : {w : ℕ} → Option (BeatA w) → ℕ
block_of None = 0
block_of (Some x) = block_at x.address

-- The rules of order that judge a message at its first beat x after t, in their order. The block of a Grant is that of
-- its request.
abbrev pub tests : {w : ℕ} → Profile → Beat w → History w → List (Test w)
tests p (beat.A x) t =
    record { rule = H1; name = OfSource x.source; breaks = λ s. pending (RequestSource x.source) s }
    ∷ record {
      rule = H4;
      name = OfBlock (block_at x.address);
      breaks = λ s. is_acquire x.opcode && (pending (AcquireOf (block_at x.address)) s || pending
          (ReleaseOf (block_at x.address)) s);
    }
    ∷ record {
      rule = H5;
      name = OfBlock (block_at x.address);
      breaks = λ s. is_acquire x.opcode && not (grows_from x.param (held (block_at x.address) s));
    }
    ∷ []
tests p (beat.B x) t =
    record {
      rule = H9;
      name = OfBlock (block_at x.address);
      breaks = λ s. is_probe x.opcode && (pending (ProbeOf (block_at x.address)) s || pending
          (GrantAckOf (block_at x.address)) s);
    }
    ∷ []
tests p (beat.C x) t =
    record {
      rule = H1;
      name = OfSource x.source;
      breaks = λ s. is_release x.opcode && pending (ReleaseSource x.source) s;
    }
    ∷ record {
      rule = H13;
      name = OfBlock (block_at x.address);
      breaks = λ s. is_release x.opcode && (pending (AcquireOf (block_at x.address)) s
          || (pending (ReleaseOf (block_at x.address)) s || not
          (prunes_from (prune_of x.param) (held (block_at x.address) s))));
    }
    ∷ record {
      rule = H10;
      name = OfBlock (block_at x.address);
      breaks = λ s. is_probe_ack x.opcode && (not (pending (ProbeOf (block_at x.address)) s) || answers_wrong_probe x
          (probe_of (block_at x.address) s));
    }
    ∷ record {
      rule = H11;
      name = OfBlock (block_at x.address);
      breaks = λ s. is_probe_ack x.opcode && pending (ReleaseOf (block_at x.address)) s;
    }
    ∷ record {
      rule = H12;
      name = OfBlock (block_at x.address);
      breaks = λ s. is_probe_ack x.opcode && misreports x (probe_of (block_at x.address) s)
          (held (block_at x.address) s);
    }
    ∷ []
tests p (beat.D x) t =
    record { rule = H2; name = OfSource x.source; breaks = λ s. not (has_request x s) }
    ∷ record { rule = H3; name = OfSource x.source; breaks = λ s. not (x.size == size_asked x s) }
    ∷ record {
      rule = H6;
      name = OfBlock (block_of (request_of x.source t));
      breaks = λ s. is_grant x.opcode && misgrants p x (request_of x.source s) s;
    }
    ∷ record {
      rule = H7;
      name = OfSink x.sink;
      breaks = λ s. is_grant x.opcode && pending (GrantSink x.sink) s;
    }
    ∷ []
tests p (beat.E x) t =
    record {
      rule = H8;
      name = OfSink x.sink;
      breaks = λ s. not (pending (GrantSink x.sink) s) || comes_in_grant x.sink (unfinished channel.D s);
    }
    ∷ []

-- the first of these rules that is broken after t
abbrev pub first_of : {w : ℕ} → List (Test w) → History w → Option Rule
first_of [] t = None
first_of (test ∷ rest) t = first_if (test.breaks t) test.rule (first_of rest t)
