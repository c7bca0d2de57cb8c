-- When the bytes of a renamed block are told, and when it is free for writing.
use Rattle.tl_renaming.proofs.Imports.{Beat, A, B, C, D, E, BeatA, Channel, History, IsFaithful, Renaming, renamed, unfinished}
use Rattle.tl_renaming.proofs.Imports.{renamed_a, renamed_history, request_of}
use Rattle.tl_renaming.proofs.Answered.{overtaken-kept, release-of-kept, released-kept}
use Rattle.tl_renaming.{proofs.Bursts.ends-kept, proofs.Bursts.unfinished-kept, proofs.Free.free-kept}
use Rattle.tl_renaming.proofs.Messages.{block-test, grants-kept, request-kept}
use Rattle.tl_renaming.{proofs.Traces.beats-kept, proofs.Traces.link-kept}
use Rattle.tl_renaming.specs.statement.Renamed.{AreFaithful, Renamings, of_link, renamed_trace}
use Rattle.std.proofs.Common.{◌≡◌, ℕ, [], ◌∷◌, refl}
use Rattle.std.specs.Prelude.{Option, Some, None, option_map}
use Rattle.tl_beat.specs.declared.opcode.OpD.{OpD}
use Rattle.tl_bytes.specs.statement.Bytes.{asks_unread, last_told, last_window, tells, tells_granted, window_began}
use Rattle.tl_bytes.specs.statement.Bytes.{windows_since}
use Rattle.tl_params.specs.declared.liberties.Liberties.{Liberties}
use Rattle.tl_params.specs.declared.perm.Perm.TheVariants as perm
use Rattle.tl_rules.specs.statement.Conformance.{Trace, on_link}

-- ---- a message that tells the bytes of a block

module _ {w : ℕ} (l : Liberties) (r : Renaming) (faithful : IsFaithful l r) where
  unread-kept : (o : Option (BeatA w)) → asks_unread (option_map (renamed_a r) o) ≡ asks_unread o
  unread-kept None = refl
  unread-kept (Some x) = refl

  granted-kept : (opcode : OpD) (o : Option (BeatA w))
      → tells_granted opcode (option_map (renamed_a r) o) ≡ tells_granted opcode o
  granted-kept OpD.GrantData o = refl
  granted-kept OpD.Grant o = unread-kept o
  granted-kept OpD.AccessAck o = refl
  granted-kept OpD.AccessAckData o = refl
  granted-kept OpD.HintAck o = refl
  granted-kept OpD.ReleaseAck o = refl

  pub tells-kept : (block : ℕ) (x : Beat w) (t : History w)
      → tells (r.block block) (renamed r x) (renamed_history r t) ≡ tells block x t
  tells-kept block (A x) t = refl
  tells-kept block (B x) t = refl
  tells-kept block (C x) t =
      rw (
        ends-kept r (C x) t,
        block-test l r faithful x.address block,
        released-kept l r faithful block (C x) t,
      ) refl
  tells-kept block (D x) t =
      rw (
        ends-kept r (D x) t,
        unfinished-kept r Channel.C t,
        release-of-kept l r faithful block x.source (unfinished Channel.C t),
        grants-kept l r faithful block x t,
        overtaken-kept l r faithful block x t,
        request-kept l r faithful x.source t,
        granted-kept x.opcode (request_of x.source t),
      ) refl
  tells-kept block (E x) t = refl

-- ---- moments

module _ {w : ℕ} (l : Liberties) (r : Renamings) (faithful : AreFaithful l r) (n block : ℕ) where
  pub last-told-kept : (t : Trace w) → last_told (r.block block) (renamed_trace r t) ≡ last_told block t
  unfolding last_told
  last-told-kept [] = refl
  last-told-kept (x ∷ t) =
      rw (
        link-kept r x.0.0 t,
        tells-kept l (of_link r x.0.0) (faithful x.0.0) block x.1
            (on_link x.0.0 t),
        beats-kept r t,
        last-told-kept t,
      ) refl

  pub last-window-kept : (t : Trace w) → last_window n (r.block block) (renamed_trace r t) ≡ last_window n block t
  unfolding last_window
  last-window-kept [] = refl
  last-window-kept (x ∷ t) =
      rw (free-kept l r faithful n perm.Trunk block (x ∷ t), beats-kept r t, last-window-kept t) refl

  pub windows-kept : (asked : ℕ) (t : Trace w)
      → windows_since n (r.block block) asked (renamed_trace r t) ≡ windows_since n block asked t
  unfolding windows_since
  windows-kept asked [] = refl
  windows-kept asked (x ∷ t) =
      rw (
        beats-kept r t,
        windows-kept asked t,
        free-kept l r faithful n perm.Trunk block (x ∷ t),
        free-kept l r faithful n perm.Trunk block t,
      ) refl

  pub began-kept : (asked : ℕ) (t : Trace w)
      → window_began n (r.block block) asked (renamed_trace r t) ≡ window_began n block asked t
  unfolding window_began
  began-kept asked [] = refl
  began-kept asked (x ∷ t) =
      rw (beats-kept r t, began-kept asked t, free-kept l r faithful n perm.Trunk block t) refl
