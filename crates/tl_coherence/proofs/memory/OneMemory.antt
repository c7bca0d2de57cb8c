-- The one memory, block by block: after an access, a Store, and a store of a whole block.
-- The one memory has bytes, and so have the operations that are open and their answers.
use Rattle.std.proofs.Common.{◌≡◌, ℕ, zero, suc, ◌+◌, ◌*◌, ◌-◌, ◌^◌, ◌<◌, ◌≤◌, Bool, true, false, ◌&&◌, ◌==◌}
use Rattle.std.proofs.Common.{if◌then◌else◌, List, [], ◌∷◌, Option, Some, None, refl, sym, ◌∙◌, ap, arith, ◌⊎◌, inl}
use Rattle.std.proofs.Common.{inr, ◌%◌, length, ◌/◌, lit<, le-leb, leb-true, lt-ltb, ltb-true, ◌≢◌, get_or, nat_lt}
use Rattle.std.proofs.Common.{slice_index, slice_get, nat_le, unwrap_or}
use Rattle.std.proofs.lemmas.{List.get_or_past, List.Elements.All-get_or, Option.get_or_from_slice_get}
use Rattle.tl_coherence.proofs
use proofs.Imports.{and_parts, cases_lt, All-cons, All-nil, mod_below, OpA, a_carries_data, IsWidth, Message, A}
use proofs.Imports.{MessageA, IsBlankAfter, beats_of, reaches, Config, Level, IsBlock, Memory, byte_of, bytes_from}
use proofs.Imports.{effect, block_at, is_acquire, length-stored, Op, Reply, copy_stored, sourced, bytes_are}
use proofs.Imports.{illegal_message_at, with_block, Event, Ask, Deliver, Outcome, bytes_at, performs, Log, system_after}
use proofs.Imports.{Machine, Open, Pool, Requests, after_end, after_reply, memory_after, moved, performed_op}
use proofs.Imports.{performed_open, pool_of, pool_of_op, same_pool, with_memory, with_number, with_open}
use proofs.Imports.{accesses_answered, one_memory_after, performing, AreBytes, stepped}
use Rattle.tl_coherence.specs.statement.Ranged.{AreRanged, IsRanged, IsRangedOp}
use Rattle.tl_burst.specs.statement.Burst.{bit, byte_if, place_of}
use Rattle.tl_rules.specs.statement.Effect as memory
use Rattle.tl_rules.{proofs.Blocks.effect_elsewhere, proofs.Legal.access_at_uh}
use Rattle.tl_client.proofs.caching_client.Stores.{stored-inside, stored-outside}
use Rattle.tl_manager.proofs.blocks.Memories.{access_code}
use proofs.manager.Memories.{performed-block, performed-reply, byte_in}

-- ---- a block's bytes, as a list and by their places

block-of-bytes : (f : Memory) (n : ℕ) (bytes : List ℕ) → bytes_from f (64 * n) 64 ≡ bytes → IsBlock f n bytes
block-of-bytes f n bytes e i lt = sym (ap (λ b. slice_index b i) (sym e) ∙ byte_in f (64 * n) 64 i lt)

bytes-of-block : (f : Memory) (n : ℕ) (bytes : List ℕ) → IsBlock f n bytes → length bytes ≡ 64
    → bytes_from f (64 * n) 64 ≡ bytes
bytes-of-block f n bytes is long = rw long at (bytes_are f (64 * n) bytes (λ i lt. is i (omega (arith, lt, long))))

-- ---- an access

elsewhere : {w : ℕ} (o : Option Level) (m : MessageA w) (f : Memory) (x : ℕ) → IsWidth w → is_acquire m.opcode ≡ false
    → illegal_message_at o (A m) ≡ None
    → IsBlankAfter (beats_of (A m)) (A m) → x / 64 ≢ m.address / 64 → (effect (A m) f).0 x ≡ f x
elsewhere None m f x width access lawful blank ne = absurd cc
elsewhere (Some l) m f x width access lawful blank ne =
    effect_elsewhere (A m) width (access_at_uh l m width (access_code m.opcode access) lawful) blank f x ne

-- the blocks after an access, of which one is its own
pub blocks-performed : {w : ℕ} (o : Option Level) (m : MessageA w) (f : Memory) (truth : ℕ → List ℕ) → IsWidth w
    → is_acquire m.opcode ≡ false → illegal_message_at o (A m) ≡ None → IsBlankAfter (beats_of (A m)) (A m)
    → length (truth (block_at m.address)) ≡ 64 → ((n : ℕ) → IsBlock f n (truth n))
    → IsBlock (effect (A m) f).0 (block_at m.address) (performs m (truth (block_at m.address)))
    × ((n : ℕ) → (n ≡ block_at m.address → ⊥) → IsBlock (effect (A m) f).0 n (truth n))
blocks-performed {w} o m f truth width access lawful blank long is =
    let apart : (n i : ℕ) → i < 64 → (n ≡ block_at m.address → ⊥) → (64 * n + i) / 64 ≢ m.address / 64 =
    λ n i lt ne e. ne (omega (arith, lt, e)) in let fact = block-of-bytes _ _
    _ (performed-block o m f width lawful ∙ ap (performs m)
    (bytes-of-block f (block_at m.address) (truth (block_at m.address)) (is (block_at m.address)) long)) in
    (fact, λ n ne i lt. elsewhere o m f _ width access lawful blank (apart n i lt ne) ∙ is n i lt)

-- its reply, by the bytes of its block
pub reply-performed : {w : ℕ} (o : Option Level) (m : MessageA w) (f : Memory) (bytes : List ℕ) → IsWidth w
    → illegal_message_at o (A m) ≡ None → IsBlock f (block_at m.address) bytes → length bytes ≡ 64
    → (effect (A m) f).1 ≡ (effect (A m) (bytes_at (block_at m.address) bytes)).1
reply-performed o m f bytes width lawful is long = grind (arith, performed-reply, bytes-of-block)

-- the source makes no difference
pub effect-sourced : {w : ℕ} (source : ℕ) (m : MessageA w) (f : Memory)
    → effect (A (sourced source m)) f ≡ effect (A m) f
unfolding effect
effect-sourced {w} source m f = grind arith

-- ---- a whole block

pub block-besides : (f : Memory) (n k : ℕ) (bytes old : List ℕ) → (k ≡ n → ⊥) → IsBlock f k old
    → IsBlock (with_block n bytes f) k old
block-besides f n k bytes old ne is i lt = grind arith

-- ---- a Store

get_slice : (bytes : List ℕ) (i : ℕ) → i < length bytes → slice_index bytes i ≡ get_or bytes i 0
get_slice bytes i e = grind arith

pub block-stored : (address size value : ℕ) (copy : List ℕ) (f : Memory) → address % 64 + 2 ^ size ≤ 64
    → length copy ≡ 64 → IsBlock f (block_at address) copy
    → IsBlock (with_number address size value f) (block_at address) (copy_stored address size value copy)
block-stored address size value copy f room long is i lt = go (reaches address size x) refl
  where
    x : ℕ
    x = 64 * block_at address + i

    new : List ℕ
    new = copy_stored address size value copy

    inside : address ≤ x → x < address + 2 ^ size → byte_of value (x - address) ≡ slice_index new i
    inside from to =
        let place : address % 64 + (x - address) ≡ i = omega (arith, lt, from, to) in
        sym (cc (stored-inside address size value (x - address) copy long room (omega (arith, from, to))))

    outside : (i < address % 64) ⊎ (address % 64 + 2 ^ size ≤ i) → f x ≡ slice_index new i
    outside side = is i lt ∙ get_slice copy i (omega (arith, lt, long))
        ∙ sym ((get_slice new i (omega (arith, lt, length-stored address size value copy long room)))
        ∙ stored-outside address size value i copy long room side)

    go : (b : Bool) → reaches address size x ≡ b → (if b then byte_of value (x - address) else f x) ≡ slice_index new i
    go true e = let parts = and_parts (nat_le address x) (nat_lt x (address + 2 ^ size)) e in
        inside (leb-true address x parts.0) (ltb-true x (address + 2 ^ size) parts.1)
    go false e = elim (cases_lt x address) [
      | inl below ↦ outside (inl (omega (arith, lt, below)))
      | inr from ↦ elim (cases_lt x (address + 2 ^ size)) [
        | inl to ↦ absurd (let yes : (nat_le address x && nat_lt x (address + 2 ^ size)) ≡ true =
            rw (le-leb address x from, lt-ltb x (address + 2 ^ size) to) refl in let no : true ≡ false = sym yes ∙ e in
            cc)
        | inr above ↦ outside (inr (omega (arith, lt, above, from)))
      ]
    ]

pub block-unstored : (address size value k : ℕ) (old : List ℕ) (f : Memory) → address % 64 + 2 ^ size ≤ 64
    → (k ≡ block_at address → ⊥) → IsBlock f k old → IsBlock (with_number address size value f) k old
block-unstored address size value k old f room ne is i lt = grind (arith, and_parts)

-- ---- bytes

-- each address has a byte
abbrev pub HasBytes : Memory → Type 0
HasBytes f = (address : ℕ) → f address < 2 ^ 8

byte-at : (bytes : List ℕ) (i : ℕ) → AreBytes bytes → slice_index bytes i < 2 ^ 8
byte-at bytes i are = elim (cases_lt i (length bytes)) [
  | inl less ↦ All-get_or (λ byte. byte < 2 ^ 8) bytes i 0 less are
  | inr past ↦ rw (get_or_past {X = ℕ} bytes i 0 past) (lit< tt)
]

either : (b : Bool) (x y : ℕ) → x < 2 ^ 8 → y < 2 ^ 8 → (if b then x else y) < 2 ^ 8
either b x y e f = grind arith

of-number : (n i : ℕ) → byte_of n i < 2 ^ 8
of-number n i = mod_below (n / 256 ^ i) (2 ^ 8) (lit< tt)

bytes-from : {f : Memory} (x n : ℕ) → HasBytes f → AreBytes (bytes_from f x n)
unfolding bytes_from
bytes-from x zero are = All-nil (λ byte. byte < 2 ^ 8)
bytes-from {f} x (suc n) are = All-cons (λ byte. byte < 2 ^ 8) (f x) (bytes_from f (x + 1) n) (are x)
    (bytes-from (x + 1) n are)

-- ---- an access

got-byte : (o : Option ℕ) (bytes : List ℕ) (i old : ℕ) → slice_get bytes i ≡ o → AreBytes bytes → old < 2 ^ 8
    → unwrap_or o old < 2 ^ 8
got-byte None bytes i old e are small = small
got-byte (Some x) bytes i old e are small = rw (get_or_from_slice_get bytes i x 0 e) at (byte-at bytes i are)

put-byte : (counts : ℕ → Bool) (payload : List ℕ) (p : Option ℕ) (old : ℕ) → AreBytes payload → old < 2 ^ 8
    → unwrap_or (byte_if counts payload p) old < 2 ^ 8
put-byte counts payload p old e f = grind (arith, got-byte)

-- what is answered are bytes
abbrev pub IsRangedReply : memory.AccessResult → Type 0
IsRangedReply (memory.Bytes bytes) = AreBytes bytes
IsRangedReply _ = Unit {0}

module _ {w : ℕ} (m : MessageA w) (f : Memory) (payload : AreBytes m.payload) (are : HasBytes f) where
  stored-byte : (address : ℕ)
      → unwrap_or (if a_carries_data m.opcode then byte_if (λ p. bit m.mask p) m.payload (place_of w m.address address)
      else None) (f address) < 2 ^ 8
  stored-byte address = grind (arith, put-byte)

  made-byte : (n address : ℕ) → memory.with_number m n f address < 2 ^ 8
  made-byte n address = either (reaches m.address m.size address) _ _ (of-number n (address - m.address)) (are address)

  memory-after : (opcode : OpA) → HasBytes (memory.after opcode m f)
  memory-after OpA.PutFullData address = stored-byte address
  memory-after OpA.PutPartialData address = stored-byte address
  memory-after OpA.ArithmeticData address = made-byte _ address
  memory-after OpA.LogicalData address = made-byte _ address
  memory-after opcode address = are address

  replied : (opcode : OpA) → IsRangedReply (memory.access_result opcode m f)
  replied OpA.ArithmeticData = bytes-from m.address (memory.byte_count m) are
  replied OpA.LogicalData = bytes-from m.address (memory.byte_count m) are
  replied OpA.Get = bytes-from m.address (memory.byte_count m) are
  replied opcode = tt

effect-bytes : {w : ℕ} (x : Message w) {f : Memory} → IsRangedOp (Op.Access x) → HasBytes f → HasBytes (effect x f).0
    × IsRangedReply (effect x f).1
unfolding effect
effect-bytes (Message.A m) {f} payload are = (memory-after m f payload are m.opcode, replied m f payload are m.opcode)
effect-bytes x payload are = (are, tt)

-- ---- the machine

abbrev pub IsRangedAnswer : Option memory.AccessResult → Type 0
IsRangedAnswer None = Unit {0}
IsRangedAnswer (Some r) = IsRangedReply r

abbrev pub IsRangedOpen : {w : ℕ} → Option (Open w) → Type 0
IsRangedOpen None = Unit {0}
IsRangedOpen (Some o) = IsRangedOp o.asked × IsRangedAnswer o.answer

pub record IsRangedMachine {w : ℕ} (m : Machine w) : Type 0 where
  pub memory : HasBytes m.memory
  pub opened : (c : ℕ) (pool : Pool) (source : ℕ) → IsRangedOpen (m.opened c pool source)

opened-ranged : {w : ℕ} (client : ℕ) (at : Pool) (n : ℕ) (o : Option (Open w)) (f : Memory) {m : Machine w} → HasBytes f
    → IsRangedOpen o → IsRangedMachine m → IsRangedMachine (with_open client at n o (with_memory f m))
opened-ranged client at n o f {m} bytes is was =
    let go : (c : ℕ) (pool : Pool) (source : ℕ) (b : Bool) → IsRangedOpen (if b then o else m.opened c pool source) =
    λ c pool source. elim [ true ↦ is | false ↦ was.opened c pool source ] in
    record {
      memory = bytes;
      opened = λ c pool source. go c pool source ((c == client) && (same_pool pool at && (source == n)));
    }

started-ranged : {w : ℕ} (client : ℕ) (o : Op w) (n : ℕ) {m : Machine w} → IsRangedOp o → IsRangedMachine m
    → IsRangedMachine (with_open client (pool_of_op o) n (Some (record { asked = o; answer = None })) m)
started-ranged client o n {m} is was = opened-ranged client (pool_of_op o) n _ m.memory was.memory (is, tt) was

reply-ranged : {w : ℕ} (client : ℕ) (o : Op w) (r : Reply) {m : Machine w} → IsRangedOp o → IsRangedMachine m
    → IsRangedMachine (after_reply client o r m)
reply-ranged client (Op.Load address size) (Reply.Started n) is was =
    started-ranged client (Op.Load address size) n is was
reply-ranged client (Op.Store address size value) (Reply.Started n) is was =
    started-ranged client (Op.Store address size value) n is was
reply-ranged client (Op.Acquire k g) (Reply.Started n) is was = started-ranged client (Op.Acquire k g) n is was
reply-ranged client (Op.AcquireWhole k bytes) (Reply.Started n) is was =
    started-ranged client (Op.AcquireWhole k bytes) n is was
reply-ranged client (Op.Release k p) (Reply.Started n) is was = started-ranged client (Op.Release k p) n is was
reply-ranged client (Op.Access x) (Reply.Started n) is was = started-ranged client (Op.Access x) n is was
reply-ranged client (Op.Store address size value) Reply.Stored {m} is was = record {
  memory = λ i. either (reaches address size i) _ _ (of-number value (i - address)) (was.memory i);
  opened = was.opened;
}
reply-ranged client o r is was = was

-- a whole block is stored as it is granted
stored-ranged : {w : ℕ} (o : Op w) {f : Memory} → IsRangedOp o → HasBytes f → HasBytes (memory_after o f)
stored-ranged (Op.AcquireWhole k bytes) {f} is are = λ address. either (block_at address == k)
    _ _ (byte-at bytes (address % 64) is) (are address)
stored-ranged o is are = are

end-ranged : {w : ℕ} (client : ℕ) (at : Pool) (n : ℕ) (o : Option (Open w)) {m : Machine w} → IsRangedOpen o
    → IsRangedMachine m → IsRangedMachine (after_end client at n o m)
end-ranged client at n None is was = was
end-ranged client at n (Some o) {m} is was = opened-ranged client at n None _
    (stored-ranged o.asked is.0 was.memory) tt was

moved-ranged : {w : ℕ} (e : Event w) (o : Outcome w) {m : Machine w} → IsRanged e → IsRangedMachine m
    → IsRangedMachine (moved e o m)
moved-ranged (Ask client i) (Outcome.Replied r) is was = reply-ranged client i r is was
moved-ranged (Deliver link ch) (Outcome.Done x n f) {m} is was =
    end-ranged link.0 (pool_of f) n _ (was.opened link.0 (pool_of f) n) was
moved-ranged e o is was = was

op-ranged : {w : ℕ} (client n : ℕ) (o : Op w) (r : Option memory.AccessResult) {m : Machine w} → IsRangedOp o
    → IsRangedMachine m → IsRangedMachine (unwrap_or (performed_op client n o r m) m)
op-ranged client n (Op.Access x) None {m} is was =
    let e = effect-bytes x is was.memory in
    opened-ranged client Requests n _ _ e.0 (is, e.1) was
op-ranged client n o r is was = was

one-ranged : {w : ℕ} (client n : ℕ) {m : Machine w} (o : Option (Open w)) → IsRangedOpen o → IsRangedMachine m
    → IsRangedMachine (unwrap_or (performed_open client n o m) m)
one-ranged client n None is was = was
one-ranged client n (Some o) is was = op-ranged client n o.asked o.answer is.0 was

performing-ranged : {w : ℕ} (accesses : List (ℕ × ℕ)) {m : Machine w} → IsRangedMachine m
    → IsRangedMachine (performing accesses m)
unfolding performing
performing-ranged [] was = was
performing-ranged (x ∷ accesses) {m} was = performing-ranged accesses
    (one-ranged x.0 x.1 (m.opened x.0 Requests x.1) (was.opened x.0 Requests x.1) was)

pub remembered-ranged : {w : ℕ} (config : Config) (log : Log w) → AreRanged log
    → IsRangedMachine (one_memory_after config log)
unfolding one_memory_after AreRanged
remembered-ranged config [] ranged = record { memory = λ address. lit< tt; opened = λ c pool source. tt }
remembered-ranged config (x ∷ log) ranged = performing-ranged (accesses_answered (stepped config x.0
    (system_after config log)).handed) (moved-ranged x.0 x.1 ranged.0 (remembered-ranged config log ranged.1))
