-- A Load or a Store which is done is of one piece.
use Rattle.std.proofs.Common.{◌≡◌, ℕ, Bool, true, false, ◌||◌, refl}
use Rattle.std.specs.Prelude.{Option, Some, None, not, nat_le}
use Rattle.tl_beat.specs.statement.First.{first_if}
use Rattle.tl_client.specs.declared.busy.Busy.{Busy}
use Rattle.tl_client.specs.declared.busy.Busy.TheVariants.{B1, B2, B3, B4, B5}
use Rattle.tl_client.specs.declared.operation.Op.{Op}
use Rattle.tl_client.specs.declared.operation.Op.TheVariants.{Load, Store, Acquire, AcquireWhole, Release, Access}
use Rattle.tl_client.specs.statement.Ask.{asked, asked_given, breaks_b1, breaks_b2, breaks_b3, breaks_b4, breaks_b5, busy}
use Rattle.tl_client.specs.statement.Ask.{is_formed, is_word, load, op_block, store}
use Rattle.tl_rules.specs.statement.History.{block_at}
use Rattle.tl_client.specs.statement.Endpoint.{EndConfig, Endpoint, held_at}
use Rattle.tl_coherence.specs.declared.event.Event.{Event}
use Rattle.tl_coherence.specs.declared.event.Event.TheVariants.{Ask, Deliver}
use Rattle.tl_coherence.specs.declared.event.Outcome.{Outcome}
use Rattle.tl_coherence.specs.statement.Step.{stepped, stepped_at}
use Rattle.tl_coherence.specs.statement.System.{System, terms_at}
use Rattle.tl_params.specs.declared.config.Config.{Config}
use Rattle.tl_params.specs.declared.perm.Perm.{Perm}
use Rattle.tl_params.specs.declared.perm.Perm.TheVariants as perm
use Rattle.tl_schedule.specs.statement.Commits.{HasPiece, IsOfPiece}

unbroken : (b4 b5 : Bool) (rest : Option Busy) → first_if b4 B4 (first_if b5 B5 rest) ≡ None → b5 ≡ false
unbroken true b5 rest e = absurd cc
unbroken false true rest e = absurd cc
unbroken false false rest e = refl

formed : (outside is : Bool) → (outside || not is) ≡ false → is ≡ true
formed true is e = absurd cc
formed false false e = absurd cc
formed false true e = refl

module _ {w : ℕ} (terms : EndConfig) (e : Endpoint w) where
  -- the reasons after B4 and B5
  abbrev later : Op w → Option Busy
  later operation = first_if (breaks_b2 operation e.past) B2
      (first_if (breaks_b3 operation (held_at e (op_block operation))) B3
      (first_if (breaks_b1 terms operation e.past) B1 None))

  well-formed : (operation : Op w) → busy terms operation e ≡ None → is_formed terms.level operation ≡ true
  unfolding busy
  well-formed operation is =
      formed (nat_le terms.blocks (op_block operation)) (is_formed terms.level operation)
      (unbroken (breaks_b4 terms.level operation) (breaks_b5 terms operation) (later operation) is)

  loaded-piece : (address size : ℕ) (held : Perm) → is_word address size ≡ true
      → IsOfPiece {w = w} (Load address size) (load address size held e).reply
  loaded-piece address size perm.None word = tt
  loaded-piece address size perm.Branch word = word
  loaded-piece address size perm.Trunk word = word

  stored-piece : (address size value : ℕ) (held : Perm) → is_word address size ≡ true
      → IsOfPiece {w = w} (Store address size value) (store address size value held e).reply
  stored-piece address size value perm.None word = tt
  stored-piece address size value perm.Branch word = tt
  stored-piece address size value perm.Trunk word = word

  of-load : (address size : ℕ) (o : Option Busy) → busy terms (Load address size) e ≡ o
      → IsOfPiece {w = w} (Load address size) (asked_given o terms (Load address size) e).reply
  of-load address size (Some reason) is = tt
  of-load address size None is =
      loaded-piece address size (held_at e (block_at address)) (well-formed (Load address size) is)

  of-store : (address size value : ℕ) (o : Option Busy) → busy terms (Store address size value) e ≡ o
      → IsOfPiece {w = w} (Store address size value) (asked_given o terms (Store address size value) e).reply
  of-store address size value (Some reason) is = tt
  of-store address size value None is =
      stored-piece address size value (held_at e (block_at address)) (well-formed (Store address size value) is)

  of-piece : (operation : Op w) → IsOfPiece operation (asked terms operation e).reply
  unfolding asked
  of-piece (Load address size) = of-load address size (busy terms (Load address size) e) refl
  of-piece (Store address size value) = of-store address size value (busy terms (Store address size value) e) refl
  of-piece (Acquire block grow) = tt
  of-piece (AcquireWhole block bytes) = tt
  of-piece (Release block prune) = tt
  of-piece (Access message) = tt

stepped-piece : {w : ℕ} (config : Config) (event : Event w) (s : System w) → HasPiece event (stepped config event s).outcome
unfolding stepped
stepped-piece config (Deliver link ch) s = tt
stepped-piece {w} config (Ask client operation) s = go (terms_at config client)
  where
    go : (o : Option EndConfig)
        → HasPiece (Ask client operation) (stepped_at config o (Ask client operation) s).outcome
    go None = tt
    go (Some terms) = of-piece terms (s.clients client) operation

pub has-piece : {w : ℕ} (config : Config) (event : Event w) (s : System w) (o : Outcome w)
    → o ≡ (stepped config event s).outcome → HasPiece event o
has-piece config event s o is = rw is (stepped-piece config event s)
