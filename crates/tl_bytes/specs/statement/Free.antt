-- Whether a block is free for an access, by the beats of all links of a manager, under any liberties that they may
-- have.
use Rattle.std.specs.Prelude.{ℕ, zero, suc, Bool, true, false, ◌&&◌}
use Rattle.tl_burst.specs.statement.Messages.{History}
use Rattle.tl_params.specs.declared.liberties.Liberties.{Liberties}
use Rattle.tl_params.specs.declared.perm.Perm.{Perm}
use Rattle.tl_rules.specs.statement.Conformance.{Trace, on_link}
use Rattle.tl_rules.specs.statement.Liberties.{held_under}
use Rattle.tl_rules.specs.statement.Windows.{leaves}

-- all liberties but `early`
unfoldable pub all_but_early : Liberties
all_but_early = record {
  ids = true;
  sinks = true;
  writer = true;
  early = false;
  drops = true;
  reports = true;
  denied = true;
  uncorrupt = true;
}

-- all liberties
unfoldable pub all_liberties : Liberties
all_liberties = record {
  ids = true;
  sinks = true;
  writer = true;
  early = true;
  drops = true;
  reports = true;
  denied = true;
  uncorrupt = true;
}

-- The most that a link may hold of a block. If no beat breaks a rule of its link under fewer liberties, this is the
-- permission held under those.
abbrev pub may_hold : {w : ℕ} → ℕ → History w → Perm
may_hold block t = held_under all_liberties block t

-- after t none of the first n links may hold a permission of the block that conflicts with the given one
unfoldable pub is_free : {w : ℕ} → ℕ → Perm → ℕ → Trace w → Bool
is_free zero given block t = true
is_free (suc n) given block t = is_free n given block t && leaves given (may_hold block (on_link n t))
