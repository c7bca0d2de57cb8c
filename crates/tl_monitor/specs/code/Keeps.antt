-- The tables of a link say what its history does.
use Rattle.std.specs.Prelude.{ℕ, ◌≡◌, true, false, List, ◌∷◌, Option, Some, None, is_some, Result, Ok, Err}
use Rattle.tl_beat.specs.declared.beat.Beat.{Beat}
use Rattle.tl_beat.specs.declared.beat.Beat.TheVariants as beat
use Rattle.tl_beat.specs.declared.beat.BeatD.{BeatD}
use Rattle.tl_beat.specs.declared.channel.Channel.{Channel}
use Rattle.tl_beat.specs.declared.channel.Channel.TheVariants as channel
use Rattle.tl_burst.specs.statement.Messages.{History, unfinished}
use Rattle.tl_params.specs.declared.key.Key.TheVariants.{GrantSink}
use Rattle.tl_params.specs.declared.liberties.Liberties.{Liberties}
use Rattle.tl_rules.specs.statement.History.{pending, is_release_ack}
use Rattle.tl_rules.specs.code.Tables.{kept_request, kept_release, kept_grant, kept_block}
use Rattle.tl_monitor.specs.statement.Count.{at}
use Rattle.tl_monitor.specs.code.KnownBlocks.{known_in}
use Rattle.tl_monitor.specs.code.Bursts.{burst_on, IsOf}
use Rattle.tl_monitor.specs.code.LinkState.{IsNext, OpensBlock}
use Rattle.tl_params.specs.declared.rule.Rule.{Rule}
use Rattle.tl_monitor.specs.declared.link_state.LinkState.{LinkState}

-- The state is what the history leaves under these liberties. The block of each pending GrantAck is found under
-- its sink, and a burst of channel D that is unfinished answers a request that is pending.
pub record Keeps {w : ℕ} (l : Liberties) (k : LinkState) (t : History w) : Type 0 where
  pub bursts_are : (ch : Channel) → IsOf (burst_on k.bursts ch) (unfinished ch t)
  pub requests_are : (s : ℕ) → at k.requests s ≡ kept_request s t
  pub releases_are : (s : ℕ) → at k.releases s ≡ kept_release s t
  pub sinks_are : (s : ℕ) → is_some (at k.sinks s) ≡ pending (GrantSink s) t
  pub blocks_are : (b : ℕ) → known_in k.blocks b ≡ kept_block l b t
  pub granted : (b s : ℕ) → kept_grant b t ≡ Some s → at k.sinks s ≡ Some b
  pub answering : (x : BeatD w) (earlier : List (Beat w)) → unfinished channel.D t ≡ beat.D x ∷ earlier
      → (is_release_ack x.opcode ≡ false) × (is_some (kept_request x.source t) ≡ true)

-- the rule that is answered, none if memory is wanting
abbrev pub answered : {E : Type 0} → Result (Option Rule) E → Option Rule
answered (Ok rule) = rule
answered (Err e) = None

-- a beat is taken if no rule is answered; otherwise nothing changes
abbrev pub Takes : {w : ℕ} → Liberties → LinkState → Beat w → LinkState → Option Rule → Type 0
Takes l old x new None = IsNext l old x new
Takes l old x new (Some rule) = new ≡ old

-- a beat is taken if no rule is answered; otherwise nothing changes. If memory is wanting something was to be opened
-- or held of a block that had nothing before.
abbrev pub TakesBeat : {w : ℕ} {E : Type 0} → Liberties → LinkState → Beat w → LinkState → Result (Option Rule) E → Type 0
TakesBeat l old x new (Ok rule) = Takes l old x new rule
TakesBeat l old x new (Err e) = (new ≡ old) × ((b : ℕ) × OpensBlock l old x b)
