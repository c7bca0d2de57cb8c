-- What a Grant gives that is on its way, by the tables and by the history of its link.
use Rattle.std.proofs.Common.{◌≡◌, ℕ, Bool, true, false, not, ◌&&◌, ◌<◌, List, ◌∷◌, length, refl, sym, ap, ap₂, ◌∙◌}
use Rattle.std.specs.Prelude.{if◌then◌else◌, Option, Some, None, is_some, nat_lt, slice_index_or, unwrap_or}
use Rattle.tl_beat.specs.declared.beat.Beat.{Beat}
use Rattle.tl_beat.specs.declared.beat.Beat.TheVariants as beat
use Rattle.tl_beat.specs.declared.beat.BeatA.{BeatA}
use Rattle.tl_beat.specs.declared.beat.BeatD.{BeatD}
use Rattle.tl_beat.specs.declared.channel.Channel.TheVariants as channel
use Rattle.tl_beat.specs.statement.Control.{control_of}
use Rattle.tl_burst.specs.statement.Messages.{History, unfinished}
use Rattle.tl_params.specs.declared.key.Key.TheVariants.{GrantAckOf, RequestSource}
use Rattle.tl_params.specs.declared.perm.Perm.{Perm}
use Rattle.tl_rules.specs.code.Open.{request_fields}
use Rattle.tl_rules.specs.declared.table.Block.{Block}
use Rattle.tl_rules.proofs.Tables.{pending-grant}
use Rattle.tl_rules.specs.statement.History.{asks_for, capped, is_grant, pending, request_of}
use Rattle.tl_rules.specs.statement.Liberties.{held_under}
use Rattle.tl_monitor.specs.code.Bursts.{IsOf}
use Rattle.tl_monitor.specs.code.Coming.{coming_by, coming_in, given_by_control, is_for}
use Rattle.tl_monitor.specs.code.KnownBlocks.{known_in}
use Rattle.tl_monitor.specs.statement.Count.{at}
use Rattle.tl_monitor.specs.code.Keeps.{Keeps}
use Rattle.tl_monitor.specs.declared.bursts.Unfinished.{Unfinished}
use Rattle.tl_monitor.specs.declared.link_state.LinkState.{LinkState}
use Rattle.tl_monitor.specs.declared.monitor.Monitor.{Monitor}
use Rattle.tl_monitor.specs.declared.monitor.MonitoredLink.{MonitoredLink}
use Rattle.tl_monitor.specs.statement.Granting.{coming, coming_on, given_by, granted_on_under, granted_under}
use Rattle.tl_monitor.specs.statement.Knows.{KnowsUnder, held_on_under}
use Rattle.tl_monitor.proofs.Knowing.{count-is, link_state-of}
use Rattle.tl_beat.specs.declared.beat.Link.{Link}
use Rattle.tl_params.specs.declared.level.Level.{Level}
use Rattle.tl_params.specs.declared.perm.Perm.TheVariants as perm
use Rattle.tl_params.specs.declared.liberties.Liberties.{Liberties}
use Rattle.tl_rules.specs.statement.Conformance.{Trace, on_link}
use Rattle.std.proofs.lemmas.Bool.{lt-ltb}

-- the request that is kept is for the block that the last request with its source asks for
kept-for : {w : ℕ} (k : ℕ) (b : Bool) (o : Option (BeatA w)) → is_some (if b then request_fields o else None) ≡ true
    → is_for k (if b then request_fields o else None) ≡ asks_for k o
kept-for k true (Some x) e = refl
kept-for k true None e = absurd cc
kept-for k false o e = absurd cc

either : {X : Type 0} (b : Bool) (o : X) → o ≡ (if b then o else o)
either true o = refl
either false o = refl

module _ {w : ℕ} (lib : Liberties) (k : ℕ) (state : LinkState) (t : History w) (keeps : Keeps lib state t) where
  -- what the Grant with these beats gives, if its GrantAck is pending
  abbrev awaited : List (Beat w) → Option Perm
  awaited beats = if pending (GrantAckOf k) t then given_by k beats t else None

  waits : is_some (known_in state.blocks k).grant ≡ pending (GrantAckOf k) t
  waits = ap (λ (b : Block). is_some b.grant) (keeps.blocks_are k) ∙ sym (pending-grant k t)

  given-is : (x : BeatD w) (earlier : List (Beat w)) → unfinished channel.D t ≡ beat.D x ∷ earlier
      → given_by_control k state (control_of (beat.D x)) ≡ awaited (beat.D x ∷ earlier)
  given-is x earlier e =
      ap (λ (b : Bool). if b then Some (capped x.param) else None)
      (ap₂ (λ (b c : Bool). is_grant x.opcode && (b && (not x.denied && c))) for waits)
      ∙ grouped (is_grant x.opcode) (asks_for k (request_of x.source t)) (not x.denied) (pending (GrantAckOf k) t)
    where
      for : is_for k (at state.requests x.source) ≡ asks_for k (request_of x.source t)
      for = ap (is_for k) (keeps.requests_are x.source)
          ∙ kept-for k (pending (RequestSource x.source) t) (request_of x.source t) (keeps.answering x earlier e).1

      grouped : (a b c d : Bool) → (if a && (b && (c && d)) then Some (capped x.param) else None)
          ≡ (if d then (if (a && b) && c then Some (capped x.param) else None) else None)
      grouped true true true true = refl
      grouped true true true false = refl
      grouped true true false true = refl
      grouped true true false false = refl
      grouped true false c true = refl
      grouped true false c false = refl
      grouped false b c true = refl
      grouped false b c false = refl

  coming-by : {P : Type 0} (o : Option (Unfinished P)) (beats : List (Beat w)) → unfinished channel.D t ≡ beats → IsOf o beats
      → coming_by k state o ≡ awaited beats
  coming-by None beats e is = rw is (either (pending (GrantAckOf k) t) None)
  coming-by (Some u) beats e (beat.D x, earlier, is, control, count, left) =
      ap (given_by_control k state) control ∙ given-is x earlier (e ∙ is) ∙ ap awaited (sym is)
  coming-by (Some u) beats e (beat.A x, earlier, is, control, count, left) = rw (control, is) (either (pending (GrantAckOf k) t) None)
  coming-by (Some u) beats e (beat.B x, earlier, is, control, count, left) = rw (control, is) (either (pending (GrantAckOf k) t) None)
  coming-by (Some u) beats e (beat.C x, earlier, is, control, count, left) = rw (control, is) (either (pending (GrantAckOf k) t) None)
  coming-by (Some u) beats e (beat.E x, earlier, is, control, count, left) = rw (control, is) (either (pending (GrantAckOf k) t) None)

  pub coming-is : coming_in k state ≡ coming k t
  coming-is = coming-by state.bursts.d (unfinished channel.D t) refl (keeps.bursts_are channel.D)

-- on one of the links of a monitor
pub coming-on-link : {w : ℕ} (m : Monitor w) (levels : List Level) (lib : Liberties) (t : Trace w) (closed : Bool) (i : ℕ)
    (link : Link) (monitored : MonitoredLink) (block : ℕ) (given : Option Perm)
    → KnowsUnder m levels lib t closed → i ≡ link.0 → i < length m.links.items
    → monitored ≡ slice_index_or m.links.items i monitored → given ≡ coming_in block monitored.state
    → given ≡ coming_on levels link block t
coming-on-link m levels lib t closed i link monitored block given k i_is lt is given_is =
    let below : link.0 < length levels = rw (← i_is) (rw (count-is m levels lib t closed k) at lt) in
    rw (lt-ltb link.0 (length levels) below)
    (given_is ∙ coming-is lib block monitored.state (on_link i t) (link_state-of m levels lib t closed i monitored k lt is)
    ∙ ap (λ (n : ℕ). coming block (on_link n t)) i_is)

pub granted-on-link : {w : ℕ} (lib : Liberties) (levels : List Level) (link : Link) (block : ℕ) (t : Trace w)
    (given : Option Perm) (now : Perm) → given ≡ coming_on levels link block t
    → now ≡ held_on_under lib levels link block t
    → unwrap_or given now ≡ granted_on_under lib levels link block t
granted-on-link lib levels link block t given now given_is now_is =
    ap (λ (o : Option Perm). unwrap_or o now) given_is ∙ go (nat_lt link.0 (length levels)) now_is
  where
    go : (b : Bool) → now ≡ (if b then held_under lib block (on_link link.0 t) else perm.None)
        → unwrap_or (if b then coming block (on_link link.0 t) else None) now
        ≡ (if b then granted_under lib block (on_link link.0 t) else perm.None)
    go true e = ap (unwrap_or (coming block (on_link link.0 t))) e
    go false e = e
