-- What a client that is busy answers, and what that says of the protocol.
-- What a client answers to an operation, beside the protocol and the one-memory machine: what it starts it may start,
-- and its reply is one that the machine allows.
use Rattle.std.proofs.Common.{◌≡◌, ℕ, ◌+◌, ◌^◌, ◌≤◌, true, false, not, ◌||◌, ◌==◌, List, Option, Some, None, refl, sym}
use Rattle.std.proofs.Common.{◌∙◌, ap, subst, arith, ◌%◌, eqb-true, is_none, slice_index, nat_le}
use Rattle.tl_coherence.proofs
use proofs.Imports.{and_parts, not-false, or_parts, Channel, OpA, IsWidth, Message, MessageA, beat_of, Config}
use proofs.Imports.{AcquireOf, ReleaseOf, ReleaseSource, RequestSource, Level, Prune, Perm, Rule, grow_left, prune_left}
use proofs.Imports.{legal_beat, same_perm, IsBlock, Memory, number_from, block_at, pending, has_transfers}
use proofs.Imports.{illegal_message, illegal, word_room, NotBusy, asked-cases, least_free-some, Busy, Op, Reply, done}
use proofs.Imports.{free_release, free_request, is_word, op_block, source_or_0, store, whole_grow, EndConfig, Endpoint}
use proofs.Imports.{copy_at, held_at, access, acquisition, release, NoAcquire, NoRelease, SourceFree, SourceState}
use proofs.Imports.{State, AbstractState, IsLet, IsOpened, AccessMessages, IsRequest, SimulationRelation, is_caching}
use proofs.Imports.{Log, Machine, Releases, Requests, one_memory_after, System, terms_at}
use Rattle.tl_coherence.specs.statement.Machine.{Replies}
use Rattle.tl_rules.{proofs.Legal.legal_from_beats, proofs.Places.number_same}
use Rattle.tl_client.{proofs.messages.Clean.to_blank, proofs.messages.Sound.formed_access}
use Rattle.tl_client.specs.statement.Ask.{Asked, only, asked, load, loaded, is_clean, is_formed}
use proofs.memory.BesideAsked.{IsReply}
use proofs.protocol.{FollowKept.IsAskable, BothParts.calm-is, BothParts.kept-letting}
use proofs.simulation.{SizedAfter.IsSizedAsk, SizedAfter.IsSourcedAsk, BeatsInFlight.level-terms}
use proofs.client.ClientDelivered.{closed-source, swap_perms, no_let, caches}

-- ---- what the protocol has, by what the end has

-- who has no request open with a source doesn't use it
pub unused : {w : ℕ} {config : Config} {log : Log w} {mail : AccessMessages w} {request : ℕ → MessageA w}
    {s : State (List ℕ)} {sys : System w} (c source : ℕ) → SimulationRelation config log mail request s sys
    → pending (RequestSource source) (sys.clients c).past ≡ false → s.uses c source ≡ SourceFree
unused {config} {mail} {s} c source h free =
    closed-source config c mail s (h.sourced c source) (h.answered c source) (sym ((h.opened c).requests source) ∙ free)

-- ---- what is answered

-- the message that is handed out
abbrev pub IsHandedOut : {w : ℕ} → ℕ → Op w → Reply → AbstractState w → Option (Message w) → Type 0
IsHandedOut c (Op.Acquire n g) (Reply.Started source) h m =
    m ≡ Some (Message.A (acquisition OpA.AcquireBlock g source n))
IsHandedOut c (Op.AcquireWhole n bytes) (Reply.Started source) h m =
    m ≡ Some (Message.A (acquisition OpA.AcquirePerm (whole_grow ((h.state.block n).pair c).held) source n))
IsHandedOut c (Op.Release n p) (Reply.Started source) h m = m ≡ Some (release p source n (h.state.block n).truth)
IsHandedOut c (Op.Access (Message.A x)) (Reply.Started source) h m = m ≡ Some (access source x)
IsHandedOut c o r h m = m ≡ None

pub record IsAskedWell {w : ℕ} (config : Config) (c : ℕ) (o : Op w) (h : AbstractState w) (m : Machine w)
    (x : Asked w) : Type 0 where
  pub may : IsAskable (is_caching config) c o x.reply h
  pub word : IsSizedAsk c o x.reply h
  pub source : IsSourcedAsk config c o x.reply
  pub reply : IsReply o x.reply
  pub replies : Replies c o x.reply m
  pub message : IsHandedOut c o x.reply h x.message

pub busy_well : {w : ℕ} (config : Config) (c : ℕ) (o : Op w) (why : Busy) (h : AbstractState w) (m : Machine w)
    (e : Endpoint w) → IsAskedWell config c o h m (only (Reply.Busy why) e)
busy_well config c (Op.Access (Message.A x)) why h m e =
    record { may = tt; word = tt; source = tt; reply = tt; replies = tt; message = refl }
busy_well config c o why h m e = record { may = tt; word = tt; source = tt; reply = tt; replies = tt; message = refl }

-- the number that a Load reads is the one memory's
pub loaded_number : (f : Memory) (address size : ℕ) (bytes : List ℕ) → address % 64 + 2 ^ size ≤ 64
    → IsBlock f (block_at address) bytes
    → number_from (slice_index bytes) (address % 64) (2 ^ size) ≡ number_from f address (2 ^ size)
loaded_number f address size bytes room is = grind (arith, number_same)

pub some_held : (p : Prune) (q : Perm) → same_perm (prune_left p) q ≡ true → same_perm q Perm.None ≡ false
some_held p q e = grind arith

pub none_rule : (o : Option Rule) → is_none o ≡ true → o ≡ None
none_rule o e = grind arith

-- the source of an access breaks no rule
sourced_beat : {w : ℕ} (l : Level) (x : MessageA w) (source i : ℕ)
    → illegal l Channel.A (beat_of (access source x) i) ≡ illegal l Channel.A (beat_of (Message.A x) i)
unfolding illegal
sourced_beat l x source i = refl

pub sourced_legal : {w : ℕ} (l : Level) (x : MessageA w) (source : ℕ) → illegal_message l Channel.A (Message.A x) ≡ None
    → illegal_message l Channel.A (access source x) ≡ None
sourced_legal l x source e = legal_from_beats l Channel.A (access source x) (λ i lt. sourced_beat l x source i
    ∙ legal_beat l Channel.A (Message.A x) i e lt)

pub asked-well : {w : ℕ} (config : Config) (log : Log w) (h : AbstractState w) (sys : System w) (c : ℕ)
    (terms : EndConfig) (o : Op w) → IsWidth w
    → SimulationRelation config log h.mail h.request h.state sys → terms_at config c ≡ Some terms
    → IsAskedWell config c o h (one_memory_after config log) (asked terms o (sys.clients c))
asked-well {w} config log h sys c terms o width is known = asked-cases terms o e (IsAskedWell config c o h m)
    (λ why. busy_well config c o why h m e) (λ free. well o free)
  where
    e : Endpoint w
    e = sys.clients c

    m : Machine w
    m = one_memory_after config log

    s : State (List ℕ)
    s = h.state

    held_is : (n : ℕ) → held_at e n ≡ ((s.block n).pair c).held
    held_is n = (is.known c).held_is n

    -- the copy, where something is held
    copy_is : (n : ℕ) → same_perm ((s.block n).pair c).held Perm.None ≡ false → copy_at e n ≡ (s.block n).truth
    copy_is n some = cc (is.copies c n some, (is.invariant.blocks n).copies c some)

    formed : (i : Op w) → NotBusy terms i e → is_formed terms.level i ≡ true
    formed i free = not-false (is_formed terms.level i)
        (or_parts (nat_le terms.blocks (op_block i)) (not (is_formed terms.level i)) free.b5).1

    free_source : is_none (free_request terms e.past) ≡ false
        → s.uses c (source_or_0 (free_request terms e.past)) ≡ SourceFree
    free_source one = unused c _ is (least_free-some (λ i. pending (RequestSource i) e.past) 0 terms.sources one).0

    unopened : (source : ℕ) → s.uses c source ≡ SourceFree → m.opened c Requests source ≡ None
    unopened source used = go _ used (is.beside.requests c source)
      where
        go : (u : SourceState) → u ≡ SourceFree → IsOpened c source h.mail s u (m.opened c Requests source)
            → m.opened c Requests source ≡ None
        go u f i = subst (λ v. IsOpened c source h.mail s v (m.opened c Requests source)) f i

    transfers : (n : ℕ) → (pending (AcquireOf n) e.past || pending (ReleaseOf n) e.past) ≡ false
        → (((s.block n).pair c).acquiring ≡ NoAcquire) × (((s.block n).pair c).letting ≡ NoRelease)
    transfers n none =
        let parts = or_parts (pending (AcquireOf n) e.past) (pending (ReleaseOf n) e.past) none in
        let fact = kept-letting _ (sym ((is.known c).releases n) ∙ parts.1) in
        (calm-is ((s.block n).pair c).acquiring (sym ((is.known c).acquires n) ∙ parts.0), fact)

    caching : not (has_transfers terms.level) ≡ false → is_caching config c ≡ true
    caching four = caches config c _ ((level-terms config c terms known).0) (not-false (has_transfers terms.level) four)

    load_well : (address size : ℕ) (p : Perm) → ((s.block (block_at address)).pair c).held ≡ p
        → is_word address size ≡ true → IsAskedWell config c (Op.Load address size) h m (load address size p e)
    load_well address size Perm.None f word =
        record { may = tt; word = tt; source = tt; reply = tt; replies = refl; message = refl }
    load_well address size Perm.Branch f word =
        let read : (address size : ℕ) → is_word address size ≡ true → same_perm ((s.block (block_at address)).pair
        c).held Perm.None ≡ false → IsAskedWell config c (Op.Load address size) h m (only (Reply.Value (loaded
        address size (copy_at e (block_at address)))) e) = λ address size word some. record {
          may = tt;
          word = tt;
          source = tt;
          reply = tt;
          replies = let fact = loaded_number m.memory address size _
              (word_room address size word) (is.beside.memory (block_at address)) in
              cc (copy_is (block_at address) some);
          message = refl;
        } in
        read address size word (ap (λ p. same_perm p Perm.None) f)
    load_well address size Perm.Trunk f word = record {
      may = tt;
      word = tt;
      source = tt;
      reply = tt;
      replies = let fact = loaded_number m.memory address size _
          (word_room address size word) (is.beside.memory (block_at address)) in
          cc (copy_is (block_at address) (ap (λ p. same_perm p Perm.None) f));
      message = refl;
    }

    store_well : (address size value : ℕ) (p : Perm) → ((s.block (block_at address)).pair c).held ≡ p
        → is_word address size ≡ true
        → IsAskedWell config c (Op.Store address size value) h m (store address size value p e)
    store_well address size value Perm.Trunk f word =
        let trunk = ap (λ p. same_perm p Perm.Trunk) f in
        record { may = trunk; word = (word, trunk); source = tt; reply = tt; replies = tt; message = refl }
    store_well address size value p f word =
        record { may = tt; word = tt; source = tt; reply = tt; replies = refl; message = refl }

    -- an access that starts breaks no rule
    access_sent : (x : MessageA w) → NotBusy terms (Op.Access (Message.A x)) e
        → IsRequest config c (source_or_0 (free_request terms e.past))
        (access (source_or_0 (free_request terms e.past)) x)
    access_sent x free =
        let parts = and_parts (is_none (illegal_message terms.level Channel.A (Message.A x))) (is_clean x)
        (formed_access terms (Message.A x) free.b5) in
        let none = eqb-true x.corrupt 0 (and_parts (x.corrupt == 0) _ parts.1).0 in (
          refl,
          rw ((level-terms config c terms known).0) (sourced_legal terms.level x (source_or_0
              (free_request terms e.past)) (none_rule (illegal_message terms.level Channel.A (Message.A x)) parts.0)),
          to_blank x none parts.1,
        )

    well : (i : Op w) → NotBusy terms i e → IsAskedWell config c i h m (done terms i e)
    well (Op.Load address size) free = rw (held_is (block_at address))
        (load_well address size ((s.block (block_at address)).pair c).held refl (formed (Op.Load address size) free))
    well (Op.Store address size value) free = rw (held_is (block_at address)) (store_well address size value
        ((s.block (block_at address)).pair c).held refl (formed (Op.Store address size value) free))
    well (Op.Acquire n g) free =
        let closed = free_source free.b1 in
        let still = transfers n free.b2 in
        let begins : same_perm (grow_left g) ((s.block n).pair c).held ≡ true =
        cc (held_is n, not-false (same_perm (grow_left g) (held_at e n)) free.b3) in
        record {
          may = (caching free.b4, closed, still.0, still.1, begins);
          word = tt;
          source = tt;
          reply = tt;
          replies = (refl, unopened _ closed);
          message = refl;
        }
    well (Op.AcquireWhole n bytes) free =
        let closed = free_source free.b1 in
        let still = transfers n free.b2 in
        record {
          may = (caching free.b4, closed, still.0, still.1, cc (held_is n, free.b3));
          word = tt;
          source = tt;
          reply = tt;
          replies = (refl, unopened _ closed);
          message = cc (held_is n);
        }
    well (Op.Release n p) free =
        let unlet : (source : ℕ) → s.lets c source ≡ None → m.opened c Releases source ≡ None = λ source none. subst
        (λ l. IsLet l (m.opened c Releases source)) none (is.beside.releases c source) in
        let source = source_or_0 (free_release terms e.past) in
        let open_ = (least_free-some (λ i. pending (ReleaseSource i) e.past) 0 terms.sources free.b1).0 in
        let none = no_let _ (sym ((is.opened c).releases source) ∙ open_) in
        let still = transfers n free.b2 in
        let begins : same_perm (prune_left p) ((s.block n).pair c).held ≡ true =
        cc (held_is n, not-false (same_perm (prune_left p) (held_at e n)) free.b3) in
        record {
          may = (caching free.b4, none, still.0, still.1, swap_perms ((s.block n).pair c).held (prune_left p) ∙ begins);
          word = tt;
          source = tt;
          reply = tt;
          replies = (refl, unlet source none);
          message = cc (copy_is n (some_held p ((s.block n).pair c).held begins));
        }
    well (Op.Access (Message.A x)) free =
        let closed = free_source free.b1 in
        record {
          may = closed;
          word = tt;
          source = access_sent x free;
          reply = tt;
          replies = (refl, unopened _ closed);
          message = refl;
        }
    well i free = busy_well config c i _ h m e
