-- What is pending after the answer of a request in service was handed out.
use Rattle.tl_manager.proofs.Imports.{IsWidth, D, MessageD, unfinished, RequestSource, ProbeOf, Trace, on_link}
use Rattle.tl_manager.proofs.Imports.{comes_in_request, block_at, is_release_ack, pending, Each, AreApart, blocks_of}
use Rattle.tl_manager.proofs.Imports.{one_if, count_where, is_granted, is_asking, IsAccounted, Service, services}
use Rattle.tl_manager.proofs.Imports.{service_of_block, trackers_of}
use Rattle.std.proofs.Common.{◌≡◌, ℕ, ◌+◌, ◌==◌, Bool, true, false, not, ◌&&◌, List, [], ◌∷◌, Some, refl, sym, ap, ap₂}
use Rattle.std.proofs.Common.{◌∙◌, arith}
use Rattle.std.{specs.Prelude.if◌then◌else◌, proofs.lemmas.Bool.eqb-true, proofs.lemmas.Bool.and_parts}
use Rattle.tl_beat.specs.declared.channel.Channel.{Channel}
use Rattle.tl_rules.proofs.Handed.{after_whole}
use Rattle.tl_manager.{proofs.pending.Accepted.asks, proofs.pending.Handed.after_sent}
use Rattle.tl_manager.{proofs.words_of_clients.Lists.each_weaker, proofs.pending.Replies.pending-reply}
use Rattle.tl_manager.{proofs.pending.Replies.burst-reply, proofs.services.Serving.some_is}
use Rattle.tl_manager.proofs.words_of_clients.Counts.{count-same, count-none, count-served, one_at_most, same_block}
use Rattle.tl_manager.proofs.words_of_clients.Counts.{only_one}

-- the answer of the service of a block: nothing of the block is missing, and no Grant was handed out
pub record IsReply {w : ℕ} (n : ℕ) (s : Service w) (m : MessageD w) (t : Trace w) : Type 0 where
  pub width : IsWidth w
  pub serves : service_of_block n (services t) ≡ Some s
  pub unanswered : is_granted t s ≡ false
  pub source : m.source ≡ s.request.source
  pub answers : is_release_ack m.opcode ≡ false
  pub settled : (c : ℕ) → pending (ProbeOf n) (on_link c t) ≡ false
  pub whole : unfinished Channel.D (on_link s.link.0 t) ≡ []
  pub blocks_apart : AreApart (blocks_of (services t))
  pub trackers_apart : AreApart (trackers_of (services t))

-- ---- which services ask with its source

-- it alone
pub asks-alone : {w : ℕ} (n : ℕ) (s : Service w) (m : MessageD w) (t : Trace w) → IsReply n s m t → IsAccounted t
    → Each (λ v. is_asking s.link.0 s.request.source t v ≡ true → v ≡ s) (services t)
asks-alone n s m t is ok =
    let total = ok.sources s.link.0 s.request.source in
    let most = one_at_most (pending (RequestSource s.request.source) (on_link s.link.0 t)) in
    only_one n (is_asking s.link.0 s.request.source t) (services t) s (omega (arith, total, most)) is.serves
    (asks t s is.unanswered)

-- no unfinished request has its source
no_burst : {w : ℕ} (n : ℕ) (s : Service w) (m : MessageD w) (t : Trace w) → IsReply n s m t → IsAccounted t
    → one_if (comes_in_request s.request.source (unfinished Channel.A (on_link s.link.0 t))) ≡ 0
no_burst n s m t is ok =
    let total = ok.sources s.link.0 s.request.source in
    let most = one_at_most (pending (RequestSource s.request.source) (on_link s.link.0 t)) in
    let some = count-served n (is_asking s.link.0 s.request.source t) (services t) s is.serves (asks t s is.unanswered)
    in
    omega (arith, total, most, some)

-- ---- sources

-- those that still ask are of other blocks
abbrev pub asks_else : {w : ℕ} → ℕ → ℕ → ℕ → Trace w → Service w → Bool
asks_else n c q t v = not (block_at v.request.address == n) && is_asking c q t v

pub block-of : {w : ℕ} (n : ℕ) (ss : List (Service w)) (s : Service w) → service_of_block n ss ≡ Some s
    → (block_at s.request.address == n) ≡ true
block-of n [] s e = absurd cc
block-of {w} n (u ∷ ss) s e = go (block_at u.request.address == n) refl e (λ f. block-of n ss s f)
  where
    go : (b : Bool) → (block_at u.request.address == n) ≡ b → (if b then Some u else service_of_block n ss) ≡ Some s
        → (service_of_block n ss ≡ Some s → (block_at s.request.address == n) ≡ true)
        → (block_at s.request.address == n) ≡ true
    go true here f rest = ap (λ (v : Service w). block_at v.request.address == n) (sym (some_is u s f)) ∙ here
    go false here f rest = rest f

pub block_served : {w : ℕ} (n : ℕ) (t : Trace w) (s : Service w) → service_of_block n (services t) ≡ Some s
    → block_at s.request.address ≡ n
block_served n t s e = eqb-true (block_at s.request.address) n (block-of n (services t) s e)

-- with its source none is left
none-left : {w : ℕ} (n : ℕ) (s : Service w) (m : MessageD w) (t : Trace w) → IsReply n s m t → IsAccounted t
    → count_where (asks_else n s.link.0 s.request.source t) (services t) ≡ 0
none-left {w} n s m t is ok =
    count-same (asks_else n s.link.0 s.request.source t) (λ v. false) (services t)
    (each_weaker (λ v. is_asking s.link.0 s.request.source t v ≡ true → v ≡ s)
    (λ v. asks_else n s.link.0 s.request.source t v ≡ false) (services t)
    (λ v alone. away v (is_asking s.link.0 s.request.source t v) refl alone) (asks-alone n s m t is ok))
    ∙ count-none (services t)
  where
    never : (b : Bool) → (not b && false) ≡ false
    never true = refl
    never false = refl

    away : (v : Service w) (b : Bool) → is_asking s.link.0 s.request.source t v ≡ b
        → (is_asking s.link.0 s.request.source t v ≡ true → v ≡ s)
        → (not (block_at v.request.address == n) && b) ≡ false
    away v true e alone = let here = block-of n (services t) s is.serves in
        ap (λ (r : Service w). not (block_at r.request.address == n) && true) (alone e) ∙ ap (λ b. not b && true) here
    away v false e alone = never (block_at v.request.address == n)

-- with another one as many as before
others-left : {w : ℕ} (n c q : ℕ) (s : Service w) (m : MessageD w) (t : Trace w) → IsReply n s m t
    → ((s.link.0 == c) && (s.request.source == q)) ≡ false
    → count_where (asks_else n c q t) (services t) ≡ count_where (is_asking c q t) (services t)
others-left {w} n c q s m t is other =
    count-same (asks_else n c q t) (is_asking c q t) (services t)
    (each_weaker (λ v. (block_at v.request.address == n) ≡ true → v ≡ s) (λ v. asks_else n c q t v ≡ is_asking c q t v)
    (services t)
    (λ v mine. still v (block_at v.request.address == n) refl mine)
    (same_block n (services t) s is.blocks_apart is.serves))
  where
    neither : (a b d : Bool) → (a && b) ≡ false → false ≡ (a && (b && d))
    neither true true d e = absurd cc
    neither v u d e = refl

    still : (v : Service w) (b : Bool) → (block_at v.request.address == n) ≡ b
        → ((block_at v.request.address == n) ≡ true → v ≡ s) → (not b && is_asking c q t v) ≡ is_asking c q t v
    still v true e mine = neither (s.link.0 == c) (s.request.source == q) (not (is_granted t s)) other ∙ ap
        (is_asking c q t) (sym (mine e))
    still v false e mine = refl

-- its source is free once it is answered
pub source-reply : {w : ℕ} (n c q : ℕ) (s : Service w) (m : MessageD w) (t : Trace w) → IsReply n s m t
    → pending (RequestSource q) (on_link c (after_sent s.link (D m) t)) ≡ (if (s.link.0 == c) && (s.request.source == q)
    then false else pending (RequestSource q) (on_link c t))
source-reply n c q s m t is =
    pending-reply (RequestSource q) s.link m t c is.width is.whole ∙ rw (is.answers, is.source)
    (go (s.link.0 == c) (s.request.source == q) (pending (RequestSource q) (on_link c t)))
  where
    go : (a b before : Bool) → (if a then after_whole false (true && b) before else before)
        ≡ (if a && b then false else before)
    go true true before = refl
    go v u before = refl

pub sources-reply : {w : ℕ} (n c q : ℕ) (s : Service w) (m : MessageD w) (t : Trace w) → IsReply n s m t → IsAccounted t
    → count_where (is_asking c q (after_sent s.link (D m) t)) (services (after_sent s.link (D m) t)) ≡ count_where
    (asks_else n c q t) (services t)
    → one_if (comes_in_request q (unfinished Channel.A (on_link c (after_sent s.link (D m) t)))) + count_where
    (is_asking c q (after_sent s.link (D m) t))
    (services (after_sent s.link (D m) t)) ≡ one_if (pending (RequestSource q) (on_link c (after_sent s.link (D m) t)))
sources-reply {w} n c q s m t is ok left = rw (burst-reply s.link m t c, left, source-reply n c q s m t is)
    (go ((s.link.0 == c) && (s.request.source == q)) refl)
  where
    go : (b : Bool) → ((s.link.0 == c) && (s.request.source == q)) ≡ b
        → one_if (comes_in_request q (unfinished Channel.A (on_link c t))) + count_where (asks_else n c q t)
        (services t) ≡ one_if (if b then false else pending (RequestSource q) (on_link c t))
    go false e = ap (λ i. one_if (comes_in_request q (unfinished Channel.A (on_link c t))) + i)
        (others-left n c q s m t is e) ∙ ok.sources c q
    go true e =
        let p = and_parts (s.link.0 == c) (s.request.source == q) e in
        let link = eqb-true s.link.0 c p.0 in
        let source = eqb-true s.request.source q p.1 in
        let none : one_if (comes_in_request q (unfinished Channel.A (on_link c t))) ≡ 0 =
        ap₂ (λ i j. one_if (comes_in_request j (unfinished Channel.A (on_link i t)))) (sym link) (sym source) ∙ no_burst
        n s m t is ok in
        let gone : count_where (asks_else n c q t) (services t) ≡ 0 =
        ap₂ (λ i j. count_where (asks_else n i j t) (services t)) (sym link) (sym source) ∙ none-left n s m t is ok
        in
        omega (arith, none, gone)
