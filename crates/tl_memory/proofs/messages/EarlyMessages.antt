-- What is known of the messages that a beat may answer, of a link that may be answered early.
use Rattle.tl_memory.proofs.Imports.{Beat, BeatA, BeatC, BeatD, History, grown, unfinished, block_at}
use Rattle.std.proofs.Common.{◌≡◌, ℕ, Bool, true, false, not, ◌&&◌, List, [], ◌∷◌, refl, sym, ap, ◌∙◌, subst}
use Rattle.std.specs.Prelude.{if◌then◌else◌, is_none, is_some, Option, Some, None, ◌==◌}
use Rattle.std.proofs.lemmas.Bool.{eqb-true}
use Rattle.tl_beat.specs.declared.channel.Channel.{Channel}
use Rattle.tl_burst.specs.statement.Part.{completes}
use Rattle.tl_params.specs.declared.key.Key.TheVariants.{ReleaseOf}
use Rattle.tl_params.specs.declared.liberties.Liberties.{Liberties}
use Rattle.tl_rules.specs.statement.History.{asks_for, is_grant, is_release}
unfoldable use Rattle.tl_rules.specs.statement.History.{pending, request_of}
use Rattle.tl_rules.specs.statement.Liberties.{broken_in_order_under}
use Rattle.tl_forgiving.proofs.Bursts.{IsSameC, IsSameD, Before, before-c, before-d}
use Rattle.tl_forgiving.proofs.Bursts.Before.{Nothing, Earlier}
unfoldable use Rattle.tl_bytes.specs.statement.Early.{reported_since}
use Rattle.tl_bytes.specs.statement.Early.{is_overtaken, is_released}
use Rattle.tl_rules.specs.statement.Conformance.{comes_in_grant, comes_in_release, comes_in_request}
use Rattle.tl_memory.specs.code.Early.{asking_after, asking_of, grants_with, is_doubtful, is_in_doubt}
use Rattle.tl_memory.specs.code.Early.{is_unacknowledged, asks_with, is_answered, releases_with}
use Rattle.tl_memory.specs.code.Elsewhere.{block_coming, block_granted, block_released, block_requested}
use Rattle.tl_memory.specs.declared.early.{Asking.Asking, Doubt.Doubt, Granting.Granting, Releasing.Releasing}
use Rattle.tl_memory.specs.statement.Links.{IsGranting, IsReleasing, KnowsGranting, KnowsReleasing}
use Rattle.tl_memory.proofs.messages.ReleasingBeats.{same-c, same-d, head-is, no-head, differs}

pub asking-grown : {w : ℕ} (x : BeatA w) (burst : List (Beat w))
    → asking_after x (completes (Beat.A x) burst) ≡ asking_of (grown (Beat.A x) burst)
asking-grown {w} x burst = go (completes (Beat.A x) burst)
  where
    go : (last : Bool) → asking_after x last ≡ asking_of (if last then [] else Beat.A x ∷ burst)
    go true = refl
    go false = refl

-- ---- what is known of the messages that a beat may answer

one-of : (a b c : ℕ) → a ≡ b → (a == c) ≡ (b == c)
one-of a b c e = ap (λ n. n == c) e

pub grants-with : {w : ℕ} (o : Option Granting) (sink : ℕ) (t : History w) → KnowsGranting o t
    → is_some (grants_with o sink) ≡ comes_in_grant sink (unfinished Channel.D t)
grants-with {w} None sink t k = go (unfinished Channel.D t) refl
  where
    go : (burst : List (Beat w)) → unfinished Channel.D t ≡ burst → false ≡ comes_in_grant sink burst
    go [] e = refl
    go (Beat.A z ∷ rest) e = refl
    go (Beat.B z ∷ rest) e = refl
    go (Beat.C z ∷ rest) e = refl
    go (Beat.D z ∷ rest) e = rw (k z rest e) refl
    go (Beat.E z ∷ rest) e = refl
grants-with (Some g) sink t k = rw (k.2, k.3) (either (g.sink == sink) g.block ∙ one-of g.sink k.0.sink sink k.4.sink_is)
  where
    either : (b : Bool) (n : ℕ) → is_some (if b then Some n else None) ≡ b
    either true n = refl
    either false n = refl

pub releases-with : {w : ℕ} (o : Option Releasing) (source : ℕ) (t : History w) → KnowsReleasing o t
    → is_some (releases_with o source) ≡ comes_in_release source (unfinished Channel.C t)
releases-with {w} None source t k = go (unfinished Channel.C t) refl
  where
    go : (burst : List (Beat w)) → unfinished Channel.C t ≡ burst → false ≡ comes_in_release source burst
    go [] e = refl
    go (Beat.A z ∷ rest) e = refl
    go (Beat.B z ∷ rest) e = refl
    go (Beat.C z ∷ rest) e = rw (k z rest e) refl
    go (Beat.D z ∷ rest) e = refl
    go (Beat.E z ∷ rest) e = refl
releases-with (Some r) source t k =
    rw (k.2, k.3) (either (r.source == source) r.block ∙ one-of r.source k.0.source source k.4.source_is)
  where
    either : (b : Bool) (n : ℕ) → is_some (if b then Some n else None) ≡ b
    either true n = refl
    either false n = refl

-- whether the later beats of a Grant are in doubt
pub doubt-is : {w : ℕ} (l : Liberties) (o : Option Granting) (x : BeatD w) (block : ℕ) (t : History w)
    → broken_in_order_under l (Beat.D x) t ≡ None → KnowsGranting o t → is_grant x.opcode ≡ true
    → asks_for block (request_of x.source t) ≡ true → is_overtaken block x t ≡ is_in_doubt o
doubt-is {w} l o x block t ordered k grant own = go (before-d l t x ordered) o k
  where
    same_block : (q : Option (BeatA w)) (a b : ℕ) → asks_for a q ≡ true → asks_for b q ≡ true → a ≡ b
    same_block None a b e f = absurd cc
    same_block (Some y) a b e f = sym (eqb-true (block_at y.address) a e) ∙ eqb-true (block_at y.address) b f

    by_doubt : (d : Doubt) (reported : Bool) → (is_unacknowledged d ≡ false → reported ≡ is_doubtful d)
        → (not (is_unacknowledged d) && reported) ≡ is_doubtful d
    by_doubt Doubt.Unacknowledged reported e = refl
    by_doubt Doubt.Acknowledged reported e = e refl
    by_doubt Doubt.Overtaken reported e = e refl

    goes : (o : Option Granting) → KnowsGranting o t → (z : BeatD w) (rest : List (Beat w))
        → unfinished Channel.D t ≡ Beat.D z ∷ rest → IsSameD x z → is_overtaken block x t ≡ is_in_doubt o
    goes None k z rest burst alike = absurd (differs (sym grant ∙ ap is_grant alike.opcode ∙ k z rest burst))
    goes (Some g) k z rest burst alike =
        let same : k.0 ≡ z = same-d (head-is (sym k.2 ∙ burst)) in
        let is : IsGranting g z t = subst (λ v. IsGranting g v t) same k.4 in
        let of_block : g.block ≡ block = same_block (request_of x.source t) g.block block
        (ap (λ s. asks_for g.block (request_of s t)) alike.source ∙ is.of_block) own in
        rw (burst, ← of_block, is.waits_is, alike.sink)
        (by_doubt g.doubt (reported_since g.block z.sink t) is.reported_is)

    fresh : (o : Option Granting) → KnowsGranting o t → unfinished Channel.D t ≡ [] → is_overtaken block x t ≡ is_in_doubt o
    fresh None k none = rw none refl
    fresh (Some r) k none = absurd (no-head (sym none ∙ k.2))

    go : Before Beat.D (λ z. IsSameD x z) (unfinished Channel.D t) → (o : Option Granting) → KnowsGranting o t
        → is_overtaken block x t ≡ is_in_doubt o
    go (Nothing none) o k = fresh o k none
    go (Earlier z rest burst alike) o k = goes o k z rest burst alike

pub none-some : {X : Type 0} (o : Option X) → is_none o ≡ not (is_some o)
none-some None = refl
none-some (Some x) = refl

-- ---- the block that an early answer bears on

pub released-is : {w : ℕ} (l : Liberties) (o : Option Releasing) (x : BeatC w) (t : History w)
    → broken_in_order_under l (Beat.C x) t ≡ None → KnowsReleasing o t
    → is_released (block_at x.address) (Beat.C x) t ≡ is_answered o
released-is {w} l o x t ordered k = go (before-c l t x ordered) o k (is_release x.opcode) refl
  where
    never : (b : Bool) → (b && (false && not (pending (ReleaseOf (block_at x.address)) t))) ≡ false
    never true = refl
    never false = refl

    turned : (answered : Bool) → (true && not (not answered)) ≡ answered
    turned true = refl
    turned false = refl

    go : Before Beat.C (λ z. IsSameC x z) (unfinished Channel.C t) → (o : Option Releasing) → KnowsReleasing o t
        → (kind : Bool) → is_release x.opcode ≡ kind → is_released (block_at x.address) (Beat.C x) t ≡ is_answered o
    go (Nothing none) None k kind f = rw none (never (is_release x.opcode))
    go (Nothing none) (Some r) k kind f = absurd (no-head (sym none ∙ k.2))
    go (Earlier z rest burst alike) None k true f = absurd (differs (sym f ∙ ap is_release alike.opcode ∙ k z rest burst))
    go (Earlier z rest burst alike) None k false f = rw f refl
    go (Earlier z rest burst alike) (Some r) k kind f =
        let same : k.0 ≡ z = same-c (head-is (sym k.2 ∙ burst)) in
        let is : IsReleasing r z t = subst (λ v. IsReleasing r v t) same k.4 in
        let release : is_release x.opcode ≡ true =
        ap is_release alike.opcode ∙ ap (λ (v : BeatC w). is_release v.opcode) (sym same) ∙ k.3 in
        let waits : pending (ReleaseOf (block_at x.address)) t ≡ not r.answered =
        ap (λ b. pending (ReleaseOf b) t) (ap block_at alike.address ∙ sym is.block_is) ∙ is.waits_is in
        rw (release, burst, waits) (turned r.answered)

pub releases-block : {w : ℕ} (o : Option Releasing) (source : ℕ) (t : History w) → KnowsReleasing o t
    → releases_with o source ≡ block_released source (unfinished Channel.C t)
releases-block {w} None source t k = go (unfinished Channel.C t) refl
  where
    go : (burst : List (Beat w)) → unfinished Channel.C t ≡ burst → None ≡ block_released source burst
    go [] e = refl
    go (Beat.A z ∷ rest) e = refl
    go (Beat.B z ∷ rest) e = refl
    go (Beat.C z ∷ rest) e = rw (k z rest e) refl
    go (Beat.D z ∷ rest) e = refl
    go (Beat.E z ∷ rest) e = refl
releases-block (Some r) source t k =
    rw (k.2, k.3, k.4.source_is, k.4.block_is) refl

pub grants-block : {w : ℕ} (o : Option Granting) (sink : ℕ) (t : History w) → KnowsGranting o t
    → grants_with o sink ≡ block_granted sink (unfinished Channel.D t) t
grants-block {w} None sink t k = go (unfinished Channel.D t) refl
  where
    go : (burst : List (Beat w)) → unfinished Channel.D t ≡ burst → None ≡ block_granted sink burst t
    go [] e = refl
    go (Beat.A z ∷ rest) e = refl
    go (Beat.B z ∷ rest) e = refl
    go (Beat.C z ∷ rest) e = refl
    go (Beat.D z ∷ rest) e = rw (k z rest e) refl
    go (Beat.E z ∷ rest) e = refl
grants-block {w} (Some g) sink t k =
    rw (k.2, k.3, k.4.sink_is) (either (k.0.sink == sink) ∙ sym (chosen (k.0.sink == sink)))
  where
    requested : (q : Option (BeatA w)) → asks_for g.block q ≡ true → block_requested q ≡ Some g.block
    requested None e = absurd (differs (sym e))
    requested (Some y) e = ap Some (eqb-true (block_at y.address) g.block e)

    either : (b : Bool) → (if b then Some g.block else None) ≡ (if b then Some g.block else None)
    either b = refl

    chosen : (b : Bool) → (if b then block_requested (request_of k.0.source t) else None)
        ≡ (if b then Some g.block else None)
    chosen true = requested (request_of k.0.source t) k.4.of_block
    chosen false = refl

-- the request that isn't complete, by what is kept of it
pub asks-with : {w : ℕ} (o : Option Asking) (source : ℕ) (t : History w) → o ≡ asking_of (unfinished Channel.A t)
    → is_some (asks_with o source) ≡ comes_in_request source (unfinished Channel.A t)
asks-with {w} o source t is = rw is (go (unfinished Channel.A t))
  where
    either : {X : Type 0} (b : Bool) (x : X) → is_some (if b then Some x else None) ≡ b
    either true x = refl
    either false x = refl

    go : (burst : List (Beat w)) → is_some (asks_with (asking_of burst) source) ≡ comes_in_request source burst
    go [] = refl
    go (Beat.A z ∷ rest) = either (z.source == source) _
    go (Beat.B z ∷ rest) = refl
    go (Beat.C z ∷ rest) = refl
    go (Beat.D z ∷ rest) = refl
    go (Beat.E z ∷ rest) = refl

-- it is the one that is unfinished, and its block is that of the first beats
pub asked-with : {w : ℕ} (o : Option Asking) (a : Asking) (source : ℕ) (t : History w)
    → o ≡ asking_of (unfinished Channel.A t) → asks_with o source ≡ Some a
    → (asking_of (unfinished Channel.A t) ≡ Some a) × (comes_in_request source (unfinished Channel.A t) ≡ true)
    × (block_coming (unfinished Channel.A t) ≡ Some (block_at a.address))
asked-with {w} o a source t is asks = go (unfinished Channel.A t) (ap (λ q. asks_with q source) (sym is) ∙ asks)
  where
    chosen : (b : Bool) (v : Asking) → (if b then Some v else None) ≡ Some a → (b ≡ true) × (v ≡ a)
    chosen true v e = (refl, same e)
      where
        same : {X : Type 0} {x y : X} → Some x ≡ Some y → x ≡ y
        same e = cc
    chosen false v e = absurd cc

    go : (burst : List (Beat w)) → asks_with (asking_of burst) source ≡ Some a
        → (asking_of burst ≡ Some a) × (comes_in_request source burst ≡ true)
        × (block_coming burst ≡ Some (block_at a.address))
    go [] e = absurd cc
    go (Beat.A z ∷ rest) e =
        let one = chosen (z.source == source)
        (record { source = z.source; address = z.address; size = z.size }) e in
        (ap Some one.1, one.0, ap (λ (v : Asking). Some (block_at v.address)) one.1)
    go (Beat.B z ∷ rest) e = absurd cc
    go (Beat.C z ∷ rest) e = absurd cc
    go (Beat.D z ∷ rest) e = absurd cc
    go (Beat.E z ∷ rest) e = absurd cc

pub picked : (b : Bool) (one other : Option ℕ) → b ≡ false → (if b then one else other) ≡ other
picked b one other e = rw e refl
