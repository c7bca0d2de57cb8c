-- A worked run with commits: a link is granted Trunk of a block, and its core stores a byte and loads it.
use Rattle.tl_commit_memory.proofs.Imports.{CommitRun, Committed, Happened, Link, Memory, Perm, Stores}
use Rattle.tl_commit_memory.proofs.Imports.{Takes, events_in, is_free, memory_in, on_link}
use Rattle.tl_commit_memory.proofs.Imports.{reaches, run_in, seen, trace_in, unfinished, IsCommitRun}
use Rattle.tl_commit_memory.proofs.Imports.{beats_of}
use Rattle.std.proofs.Common.{◌≡◌, ◌<◌, ◌&&◌, ℕ, zero, suc, Bool, true, false, [], ◌∷◌, refl, sym, ◌∙◌, arith}
use Rattle.std.proofs.Common.{inl, inr}
use Rattle.std.specs.Prelude.{if◌then◌else◌, ◌==◌, nat_le, nat_lt, Some}
use Rattle.std.proofs.lemmas.Bool.{and_parts, ltb-true}
use Rattle.tl_rules.specs.statement.History.{request_of}
use Rattle.tl_rules.specs.statement.Liberties.{held_under}
use Rattle.tl_bytes.specs.statement.Free.{all_liberties}
use Rattle.tl_bytes.proofs.WorkedBeats.{acquire_unread, grant_unread}
use Rattle.tl_events.specs.declared.commit.Commit.TheVariants as commit
use Rattle.tl_events.specs.declared.commit.Event.TheVariants as event
use Rattle.tl_events.specs.declared.commit.Piece.{Piece}
use Rattle.tl_commits.specs.statement.Completeness.{incomplete, with_stores}
use Rattle.tl_commits.specs.statement.Events.{is_loading}
use Rattle.tl_commits.specs.statement.Seen.{byte_in, values_seen}
use Rattle.tl_one_memory.proofs.Wider.{asked-taken, free_if, granted-taken, none_if, trunk_if}
use Rattle.tl_one_memory.proofs.Worked.{unequal, zeros}
use Rattle.tl_commit_memory.specs.statement.CommitRun.{IsCommitted, IsStored}
use Rattle.tl_rules.specs.statement.Windows.{leaves}
use Rattle.tl_commit_memory.specs.statement.KeptCopies.{HasByte, ShowsBlocks}
unfoldable use Rattle.tl_commit_memory.specs.statement.KeptCopies.{AreCopies, IsRecorded}

abbrev own : Link
own = record { 0 = 0 }

-- memory with a seven at address 0
abbrev seven : Memory
seven address = if address == 0 then 7 else 0

-- the first byte of the block
abbrev byte : Piece
byte = record { size = 0; address = 0 }

abbrev acquired : CommitRun 8
acquired = Happened (Takes own (acquire_unread 0 0 255).1) ∷ []

abbrev granted : CommitRun 8
granted = Happened (Takes own (grant_unread 0 0 0).1) ∷ acquired

abbrev changed : CommitRun 8
changed = Happened (Stores 0 seven) ∷ granted

-- and the trace has the store, and a load
abbrev stored : CommitRun 8
stored = Committed own (commit.Store byte 7) ∷ changed

abbrev loaded : CommitRun 8
loaded = Committed own (commit.Load byte 7) ∷ stored

-- ---- what it is

events-are : events_in loaded ≡ (own, event.Commit (commit.Load byte 7)) ∷ (own, event.Commit (commit.Store byte 7))
    ∷ (own, event.Beat (grant_unread 0 0 0).1) ∷ (own, event.Beat (acquire_unread 0 0 255).1) ∷ []
unfolding events_in
events-are = refl

memory-is : memory_in zeros (run_in loaded) 0 ≡ 7
unfolding memory_in run_in
memory-is = refl

-- the byte is seven after the store, and nothing else
values-are : values_seen incomplete 2 0 (events_in loaded) ≡ record { value = Some 7; moment = 2 } ∷ []
unfolding events_in seen beats_of is_loading unfinished on_link held_under all_liberties request_of
values-are = refl

-- ---- it is one of one memory

stores-held : is_free {w = 8} 2 Perm.Branch 0 (trace_in (run_in granted)) ≡ false
unfolding trace_in on_link unfinished held_under all_liberties request_of is_free run_in
stores-held = refl

-- it is so of the byte, if it is so of the first one
of-first : (P : ℕ → Type 0) → P 0 → (address : ℕ) → reaches 0 0 address ≡ true → P address
of-first P is zero reached = is
of-first P is (suc n) reached =
    absurd (let lt : suc n < 1 = ltb-true (suc n) 1 (and_parts (nat_le 0 (suc n)) (nat_lt (suc n) 1) reached).1 in
    omega (arith, lt))

store-said : IsCommitted zeros 0 (commit.Store byte 7) changed
unfolding run_in memory_in
store-said = of-first (λ address. IsStored zeros address (byte_in byte 7 address) (run_in changed))
    (record { behind = refl; stored = refl })

load-said : IsCommitted zeros 0 (commit.Load byte 7) stored
unfolding run_in memory_in
load-said address reached = inl (inl (of-first (λ a. memory_in zeros (run_in stored) a ≡ byte_in byte 7 a) refl address
    reached))

is-loaded : IsCommitRun 2 zeros loaded
unfolding IsCommitRun run_in
is-loaded = (load-said, (store-said, (stores-held, (granted-taken, (asked-taken, tt)))))

-- no load brings another byte
load-wrong : IsCommitted zeros 0 (commit.Load byte 8) stored → ⊥
unfolding run_in memory_in events_in beats_of on_link unfinished request_of is_loading
load-wrong said = elim (said 0 refl) [
  | inl now ↦ elim now [
    | inl e ↦ differ 7 8 refl refl e
    | inr found ↦ found
  ]
  | inr earlier ↦ unequal (sym earlier.0 ∙ not-loading)
]
  where
    differ : (a b : ℕ) → a ≡ 7 → b ≡ 8 → a ≡ b → ⊥
    differ a b e f same = absurd (omega (arith, e, f, same))

    not-loading : is_loading 0 byte (events_in stored) ≡ false
    not-loading = refl

-- ---- its copies are used rightly

acquire-shows : ShowsBlocks {w = 8} 2 own (acquire_unread 0 0 255).1 []
unfolding on_link unfinished held_under all_liberties request_of is_free
acquire-shows = record {
  got = λ block free held. absurd (unequal (sym (free_if (0 == block)).1 ∙ held));
  lost = λ block lost. absurd (unequal (sym lost));
}

grant-shows : ShowsBlocks 2 own (grant_unread 0 0 0).1 (trace_in (run_in acquired))
unfolding trace_in run_in on_link unfinished held_under all_liberties request_of is_free
grant-shows = record {
  got = λ block free held. shows (0 == block) held;
  lost = λ block lost. absurd (unequal (sym lost));
}
  where
    shows : (b : Bool) → (leaves Perm.Trunk (trunk_if b (none_if b)) && true) ≡ false → (b && true) ≡ true
    shows true held = refl
    shows false held = absurd (unequal held)

are-copies : AreCopies (with_stores (true ∷ [])) 2 zeros loaded
unfolding AreCopies IsRecorded run_in events_in trace_in memory_in beats_of on_link unfinished held_under all_liberties
    request_of
are-copies = (
  inl (λ address reached. of-first (λ a. HasByte (with_stores (true ∷ [])) 2 zeros 0 a (byte_in byte 7 a) stored)
      (omega arith, (refl, (refl, tt))) address reached),
  (refl, (grant-shows, (λ whole block took. absurd cc), (acquire-shows, (λ whole block took. absurd cc), tt))),
)
