-- What is known of the request of an access that a client has open.
use Rattle.tl_true_bytes.proofs.Imports.{MessageA, Config, AccessResult, sourced, IsRequest, Open, same_open, Op}
use Rattle.std.proofs.Common.{◌≡◌, ℕ, true, List, Some, None, sym, ◌∙◌, ap, subst}
use Rattle.std.specs.Prelude.{Option}
use Rattle.tl_burst.specs.declared.message.Message.{Message}
use Rattle.tl_coherence.specs.protocol.Phase.{AcquireOpen, AcquirePhase}
use Rattle.tl_coherence.specs.protocol.Protocol.{Acquires, Replied, SourceFree, SourceState, State}
use Rattle.tl_coherence.specs.refinement.MemoryRelation.{IsAccess, IsOpened, op_of}
use Rattle.tl_coherence.specs.{refinement.PacketMessages.AccessMessages, refinement.SimulationRelation.IsSourced}
use Rattle.tl_true_bytes.proofs.Beside.{same_asked}

-- an access is no Acquire
pub not_acquire : {w : ℕ} (phase : AcquirePhase) (n : ℕ) (bytes : List ℕ) (m : MessageA w)
    → op_of phase n bytes ≡ Op.Access (Message.A m) → ⊥
not_acquire (AcquireOpen true g) n bytes m e = cc
not_acquire v n bytes m e = cc

module _ {w : ℕ} (c source : ℕ) (mail : AccessMessages w) (s : State (List ℕ)) (a : MessageA w) where
  abbrev opened : Option AccessResult → Option (Open w)
  opened r = Some (record { asked = Op.Access (Message.A a); answer = r })

  -- it is the one that the client sent
  mine : (request : Message w) (q r : Option AccessResult) → IsAccess source request q (opened r)
      → request ≡ Message.A (sourced source a)
  mine request q r (m, is, open_is) =
      is ∙ ap (λ (i : MessageA w). Message.A (sourced source i)) (sym (same_asked a m r q open_is))

  pub open-request : (config : Config) (r : Option AccessResult) (u : SourceState)
      → IsOpened c source mail s u (opened r) → IsSourced config c source (mail.request c source) u
      → IsRequest config c source (Message.A (sourced source a))
  open-request config r SourceFree is sourced_so = absurd cc
  open-request config r Replied is sourced_so =
      subst (IsRequest config c source) (mine (mail.request c source) (Some is.0) r is.1) sourced_so
  open-request config r (Acquires n) is sourced_so =
      absurd (not_acquire ((s.block n).pair c).acquiring n ((s.block n).waiting c) a
      (sym (same_open (Op.Access (Message.A a))
      (op_of ((s.block n).pair c).acquiring n ((s.block n).waiting c)) r None is).0))
  open-request config r v is sourced_so =
      subst (IsRequest config c source) (mine (mail.request c source) None r is) sourced_so
