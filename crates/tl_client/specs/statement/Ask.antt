-- The reply of a client to an operation.
use Rattle.std.specs.Prelude.{ℕ, zero, suc, Bool, true, false, not, List, [], ◌∷◌, ◌++◌, ◌==◌, ◌&&◌, ◌||◌, ◌+◌, ◌-◌}
use Rattle.std.specs.Prelude.{◌*◌, ◌%◌, ◌^◌, if◌then◌else◌, nat_le}
use Rattle.std.specs.Prelude.{nat_lt, take, drop, replicate, slice_index, Option, Some, None, is_none, unwrap_or}
use Rattle.tl_beat.specs.declared.channel.Channel.TheVariants as channel
use Rattle.tl_beat.specs.declared.opcode.OpA.{OpA}
use Rattle.tl_beat.specs.declared.opcode.OpA.TheVariants as a
use Rattle.tl_beat.specs.statement.First.{first_if}
use Rattle.tl_burst.specs.declared.message.Message.{Message}
use Rattle.tl_burst.specs.declared.message.Message.TheVariants as message
use Rattle.tl_burst.specs.declared.message.MessageA.{MessageA}
use Rattle.tl_burst.specs.statement.Burst.{beats_of, carried}
use Rattle.tl_burst.specs.statement.Messages.{History}
use Rattle.tl_params.specs.declared.key.Key.TheVariants.{RequestSource, ReleaseSource, AcquireOf, ReleaseOf}
use Rattle.tl_params.specs.declared.level.Level.{Level}
use Rattle.tl_params.specs.declared.param.Grow.{Grow}
use Rattle.tl_params.specs.declared.param.Grow.TheVariants as grow
use Rattle.tl_params.specs.declared.perm.Perm.{Perm}
use Rattle.tl_params.specs.declared.perm.Perm.TheVariants as perm
use Rattle.tl_rules.specs.statement.Conformance.{same_perm}
use Rattle.tl_rules.specs.statement.Effect.{number_from, byte_of}
use Rattle.tl_rules.specs.statement.History.{block_at, is_acquire, pending}
use Rattle.tl_rules.specs.statement.Legality.{a_of_level, has_transfers, illegal_message, is_aligned}
use Rattle.tl_params.specs.statement.Param.{grow_left, prune_left, prune_right}
use Rattle.tl_client.specs.declared.busy.Busy.{Busy}
use Rattle.tl_client.specs.declared.busy.Busy.TheVariants.{B1, B2, B3, B4, B5}
use Rattle.tl_client.specs.declared.operation.Op.{Op}
use Rattle.tl_client.specs.declared.operation.Op.TheVariants.{Load, Store, Acquire, AcquireWhole, Release, Access}
use Rattle.tl_client.specs.declared.reply.Reply.{Reply}
use Rattle.tl_client.specs.declared.reply.Reply.TheVariants as reply
use Rattle.tl_client.specs.statement.Endpoint.{EndConfig, Endpoint, copy_at, held_at, with_copy, with_waiting, kept_for}
use Rattle.tl_client.specs.statement.Endpoint.{sending}
use Rattle.tl_client.specs.statement.Send.{access, acquire, release}

-- ---- B4: the level doesn't have the operation

-- an access that the level has
abbrev pub is_access_of : Level → OpA → Bool
is_access_of l opcode = a_of_level l opcode && not (is_acquire opcode)

-- a message of channel A that is such an access
abbrev pub is_access : {w : ℕ} → Level → Message w → Bool
is_access l (message.A m) = is_access_of l m.opcode
is_access l _ = false

-- B4: the level doesn't have the operation
abbrev pub breaks_b4 : {w : ℕ} → Level → Op w → Bool
breaks_b4 l (Access m) = not (is_access l m)
breaks_b4 l _ = not (has_transfers l)

-- ---- B5: the operation isn't well formed, or its block is outside the map

-- the bytes are the same
abbrev pub same_bytes : List ℕ → List ℕ → Bool
same_bytes [] [] = true
same_bytes (x ∷ xs) (y ∷ ys) = (x == y) && same_bytes xs ys
same_bytes _ _ = false

-- no corrupt bit is set, and the parts that no beat carries are zero
abbrev pub is_clean : {w : ℕ} → MessageA w → Bool
is_clean {w} m =
    (m.corrupt == 0)
    && (same_bytes (drop (carried (message.A m)) m.payload) (replicate (64 - carried (message.A m)) 0)
    && nat_lt m.mask (2 ^ (w * beats_of (message.A m))))

-- a Load or Store is of 1, 2, 4 or 8 bytes, at an address that is a multiple of their number
abbrev pub is_word : ℕ → ℕ → Bool
is_word address size = nat_le size 3 && is_aligned address size

-- a message that may be sent as an access: it is of channel A, breaks no L rule and is clean
abbrev pub is_sound : {w : ℕ} → Level → Message w → Bool
is_sound l (message.A m) = is_none (illegal_message l channel.A (message.A m)) && is_clean m
is_sound l _ = false

-- the block of an operation
abbrev pub op_block : {w : ℕ} → Op w → ℕ
op_block (Load address size) = block_at address
op_block (Store address size value) = block_at address
op_block (Acquire block grow) = block
op_block (AcquireWhole block bytes) = block
op_block (Release block prune) = block
op_block (Access (message.A m)) = block_at m.address
op_block (Access _) = 0

-- the operation is well formed: its size and address, or its message
abbrev pub is_formed : {w : ℕ} → Level → Op w → Bool
is_formed l (Load address size) = is_word address size
is_formed l (Store address size value) = is_word address size
is_formed l (Access m) = is_sound l m
is_formed l _ = true

-- B5: the block is outside the map, or the operation isn't well formed
abbrev pub breaks_b5 : {w : ℕ} → EndConfig → Op w → Bool
breaks_b5 terms op = nat_le terms.blocks (op_block op) || not (is_formed terms.level op)

-- ---- B2: a transfer of the block is pending

-- the operation asks for a permission or gives one up
abbrev pub is_transfer : {w : ℕ} → Op w → Bool
is_transfer (Acquire block grow) = true
is_transfer (AcquireWhole block bytes) = true
is_transfer (Release block prune) = true
is_transfer _ = false

-- B2: an Acquire or a Release of the block of a transfer is pending
abbrev pub breaks_b2 : {w : ℕ} → Op w → History w → Bool
breaks_b2 op t = is_transfer op && (pending (AcquireOf (op_block op)) t || pending (ReleaseOf (op_block op)) t)

-- ---- B3: the operation doesn't start from the permission held

-- B3: the operation doesn't start from the permission held. An AcquireWhole may start from any but Trunk.
abbrev pub breaks_b3 : {w : ℕ} → Op w → Perm → Bool
breaks_b3 (Acquire block grow) p = not (same_perm (grow_left grow) p)
breaks_b3 (AcquireWhole block bytes) p = same_perm perm.Trunk p
breaks_b3 (Release block prune) p = not (same_perm (prune_left prune) p)
breaks_b3 _ p = false

-- ---- B1: no source is free

-- the least of the n numbers from s on that isn't taken, if there is one
unfoldable pub least_free : (ℕ → Bool) → ℕ → ℕ → Option ℕ
least_free taken s zero = None
least_free taken s (suc n) = if taken s then least_free taken (s + 1) n else Some s

-- the least source that is free for a request, if there is one
abbrev pub free_request : {w : ℕ} → EndConfig → History w → Option ℕ
free_request terms t = least_free (λ s. pending (RequestSource s) t) 0 terms.sources

-- the least source that is free for a Release, if there is one
abbrev pub free_release : {w : ℕ} → EndConfig → History w → Option ℕ
free_release terms t = least_free (λ s. pending (ReleaseSource s) t) 0 terms.sources

-- B1: no source is free; a Load or Store needs none
abbrev pub breaks_b1 : {w : ℕ} → EndConfig → Op w → History w → Bool
breaks_b1 terms (Load address size) t = false
breaks_b1 terms (Store address size value) t = false
breaks_b1 terms (Release block prune) t = is_none (free_release terms t)
breaks_b1 terms _ t = is_none (free_request terms t)

-- ---- the first reason that applies

-- the reason why the operation doesn't start, if there is one: the first in the order B4, B5, B2, B3, B1
unfoldable pub busy : {w : ℕ} → EndConfig → Op w → Endpoint w → Option Busy
busy terms op e =
    first_if (breaks_b4 terms.level op) B4
    (first_if (breaks_b5 terms op) B5
    (first_if (breaks_b2 op e.past) B2
    (first_if (breaks_b3 op (held_at e (op_block op))) B3
    (first_if (breaks_b1 terms op e.past) B1 None))))

-- ---- the reply

-- the reply to an operation, the message that is handed out, and the client's end of the link afterwards
pub record Asked (w : ℕ) : Type 0 where
  pub reply : Reply
  pub message : Option (Message w)
  pub after : Endpoint w

-- this reply: no message is handed out, and the end is e afterwards
abbrev pub only : {w : ℕ} → Reply → Endpoint w → Asked w
only r e = record { reply = r; message = None; after = e }

-- the operation started: m is handed out, with this source
abbrev pub started : {w : ℕ} → ℕ → Message w → Endpoint w → Asked w
started source m e = record { reply = reply.Started source; message = Some m; after = sending m e }

-- the number that a Load reads from a copy
abbrev pub loaded : ℕ → ℕ → List ℕ → ℕ
loaded address size copy = number_from (slice_index copy) (address % 64) (2 ^ size)

-- the low n bytes of a number from byte i on, the lowest first
unfoldable pub low_bytes : ℕ → ℕ → ℕ → List ℕ
low_bytes value i zero = []
low_bytes value i (suc n) = byte_of value i ∷ low_bytes value (i + 1) n

-- the copy after a Store
abbrev pub copy_stored : ℕ → ℕ → ℕ → List ℕ → List ℕ
copy_stored address size value copy = take (address % 64) copy ++ low_bytes value 0 (2 ^ size) ++ drop
    (address % 64 + 2 ^ size) copy

-- a Load reads the copy, or misses if None is held
abbrev pub load : {w : ℕ} → ℕ → ℕ → Perm → Endpoint w → Asked w
load address size perm.None e = only reply.Miss e
load address size _ e = only (reply.Value (loaded address size (copy_at e (block_at address)))) e

-- a Store writes the copy, or misses if Trunk isn't held
abbrev pub store : {w : ℕ} → ℕ → ℕ → ℕ → Perm → Endpoint w → Asked w
store address size value perm.Trunk e =
    only reply.Stored (with_copy (block_at address)
    (Some (copy_stored address size value (copy_at e (block_at address)))) e)
store address size value _ e = only reply.Miss e

-- the grow of an AcquireWhole: BtoT from Branch, otherwise NtoT
abbrev pub whole_grow : Perm → Grow
whole_grow perm.Branch = grow.BtoT
whole_grow _ = grow.NtoT

-- the source, 0 if there is none
abbrev pub source_or_0 : Option ℕ → ℕ
source_or_0 source = unwrap_or source 0

-- hands out a request with the least free source
abbrev pub start_request : {w : ℕ} → EndConfig → (ℕ → Message w) → Endpoint w → Asked w
start_request terms m e =
    started (source_or_0 (free_request terms e.past)) (m (source_or_0 (free_request terms e.past))) e

-- hands out a Release with the least free source
abbrev pub start_release : {w : ℕ} → EndConfig → (ℕ → Message w) → Endpoint w → Asked w
start_release terms m e =
    started (source_or_0 (free_release terms e.past)) (m (source_or_0 (free_release terms e.past))) e

-- the reply to an operation for which no reason applies
abbrev pub done : {w : ℕ} → EndConfig → Op w → Endpoint w → Asked w
done terms (Load address size) e = load address size (held_at e (block_at address)) e
done terms (Store address size value) e = store address size value (held_at e (block_at address)) e
done terms (Acquire block grow) e = start_request terms (λ s. acquire a.AcquireBlock grow s block) e
done terms (AcquireWhole block bytes) e =
    let begun = start_request terms (λ s. acquire a.AcquirePerm (whole_grow (held_at e block)) s block) e in
    record begun { after = with_waiting block (Some bytes) begun.after }
done terms (Release block prune) e =
    let begun = start_release terms (λ s. release prune s block (copy_at e block)) e in
    record begun { after = kept_for block (prune_right prune) begun.after }
done terms (Access (message.A m)) e = start_request terms (λ s. access s m) e
done terms (Access _) e = only (reply.Busy B4) e

-- the reply to an operation, given the reason why it doesn't start, if any
abbrev pub asked_given : {w : ℕ} → Option Busy → EndConfig → Op w → Endpoint w → Asked w
asked_given (Some b) terms op e = only (reply.Busy b) e
asked_given None terms op e = done terms op e

-- the reply of a client to an operation, and its end of the link afterwards
unfoldable pub asked : {w : ℕ} → EndConfig → Op w → Endpoint w → Asked w
asked terms op e = asked_given (busy terms op e) terms op e
