-- What is kept of a block, with a beat that answers an access before its request is complete, or settles one.
use Rattle.tl_memory.proofs.Imports.{Beat, BeatA, BeatD, Link, Request, Trace, on_link, block_at, ends, is_access}
use Rattle.tl_memory.proofs.Imports.{is_release_ack, pending_accesses, IsResponse, KnowsState, BlockState, KnowsBlock}
use Rattle.tl_memory.proofs.Imports.{ends_request, keeps, reaches, unfinished}
use Rattle.std.proofs.Common.{◌≡◌, ◌<◌, ◌≤◌, ℕ, Bool, true, false, not, ◌&&◌, ◌||◌, ◌+◌, ◌*◌, ◌/◌, List, [], ◌∷◌, ◌++◌}
use Rattle.std.proofs.Common.{refl, sym, ap, ◌∙◌, inl, inr, subst}
use Rattle.std.specs.Prelude.{◌==◌, filter, find, if◌then◌else◌, Option, Some, None, ⊤}
use Rattle.std.proofs.lemmas.Bool.{cases_Bool, eq-eqb}
use Rattle.tl_beat.specs.declared.channel.Channel.{Channel}
use Rattle.tl_bytes.specs.code.Tellings.{is_written, value_at}
use Rattle.tl_bytes.specs.statement.Bytes.{asks, is_settled}
use Rattle.tl_bytes.specs.statement.Early.{Outrun, is_outrun_of, outruns, settled_by, without}
unfoldable use Rattle.tl_bytes.specs.statement.Early.{outrun_accesses}
use Rattle.tl_bytes.specs.statement.Known.{IsSettling}
use Rattle.tl_memory.specs.code.Early.{asking_of, outrun_but, outrun_in}
use Rattle.tl_memory.specs.code.Early as code
use Rattle.tl_memory.specs.code.Taking.{AreOutrunIn, IsComing, IsSettlement}
unfoldable use Rattle.tl_memory.specs.code.Writers.{picked}
use Rattle.tl_memory.specs.declared.early.{Asking.Asking, OutrunAccess.OutrunAccess}
use Rattle.tl_memory.specs.statement.Known.{AreOutrun, IsOutrun, KnowsOutrun, outruns_in}
use Rattle.tl_memory.proofs.states.Leaving.{found-there, leaves-request, leaves-response, reach-left}
use Rattle.tl_memory.proofs.states.BlockAnswers.{answer-ends, leaves-coming, out-new, settles-coming}
use Rattle.tl_memory.proofs.states.Elsewhere.{beat-keeps, bytes-kept}
use Rattle.tl_memory.proofs.states.Keeping.{filters-swap, find-keeps, finds-none}
use Rattle.tl_memory.proofs.lawful.OutrunNames.{outruns-parts}
use Rattle.tl_memory.proofs.lawful.Outrunning.{out-unpending}
use Rattle.tl_memory.proofs.lawful.Responses.{access-untold, none-answered}
use Rattle.tl_memory.proofs.Plain.{true_false, some-same}

-- ---- the accesses that are kept

-- both are known, or there is none
abbrev pub FoundOutrun : Option OutrunAccess → ℕ → Option Outrun → Type 0
FoundOutrun None block None = ⊤
FoundOutrun (Some kept) block (Some access) = IsOutrun kept block access
FoundOutrun _ block _ = ⊥

same-key : (link source : ℕ) (kept : OutrunAccess) (block : ℕ) (access : Outrun) → IsOutrun kept block access
    → code.is_outrun_of link source kept ≡ is_outrun_of link source access
same-key link source kept block access k =
    ap (λ n. (n == link) && (kept.source == source)) k.link_is
    ∙ ap (λ n. (access.link == link) && (n == source)) k.source_is

found-each : (link source block : ℕ) (kept : List OutrunAccess) (accesses : List Outrun) → AreOutrun kept block accesses
    → FoundOutrun (outrun_in link source kept) block (find (is_outrun_of link source) accesses)
found-each link source block [] [] are = tt
found-each link source block (k ∷ kept) (a ∷ accesses) are =
    let same = same-key link source k block a are.0 in
    elim (cases_Bool (is_outrun_of link source a)) [
      | inl own ↦ rw (same ∙ own, own) are.0
      | inr other ↦ rw (same ∙ other, other) (found-each link source block kept accesses are.1)
    ]
found-each link source block v u are = absurd are

-- so is the one of all accesses that answers outran, if those with its source are to the block
pub found-outrun : (link source block : ℕ) (kept : List OutrunAccess) (all : List Outrun) → KnowsOutrun kept block all
    → AreOutrunIn link source block all
    → FoundOutrun (outrun_in link source kept) block (find (is_outrun_of link source) all)
found-outrun link source block kept all k there = go (find (is_outrun_of link source) all) refl
  where
    go : (o : Option Outrun) → find (is_outrun_of link source) all ≡ o → FoundOutrun (outrun_in link source kept) block o
    go None e = rw (← finds-none (is_outrun_of link source) (outruns_in block) all e)
        (found-each link source block kept (filter (outruns_in block) all) k.are)
    go (Some a) e = rw (← find-keeps (is_outrun_of link source) (outruns_in block) all a e
        (found-there link source block all a there e))
        (found-each link source block kept (filter (outruns_in block) all) k.are)

left-each : (link source block : ℕ) (kept : List OutrunAccess) (accesses : List Outrun) → AreOutrun kept block accesses
    → AreOutrun (outrun_but link source kept) block (without link source accesses)
unfolding picked
left-each link source block [] [] are = tt
left-each link source block (k ∷ kept) (a ∷ accesses) are =
    let same = same-key link source k block a are.0 in
    elim (cases_Bool (is_outrun_of link source a)) [
      | inl own ↦ rw (same ∙ own, own) (left-each link source block kept accesses are.1)
      | inr other ↦ rw (same ∙ other, other) (are.0, left-each link source block kept accesses are.1)
    ]
left-each link source block v u are = absurd are

-- those that are left
left-outrun : (link source block : ℕ) (kept : List OutrunAccess) (all : List Outrun) → KnowsOutrun kept block all
    → KnowsOutrun (outrun_but link source kept) block (without link source all)
left-outrun link source block kept all k = record {
  are = subst (λ l. AreOutrun (outrun_but link source kept) block l)
      (sym (filters-swap (outruns_in block) (λ a. not (is_outrun_of link source a)) all))
      (left-each link source block kept (filter (outruns_in block) all) k.are);
  inside = reach-left (λ a. not (is_outrun_of link source a)) all k.inside;
}

-- ---- an access that is settled

pub settled-outrun : {w : ℕ} (kept : OutrunAccess) (items : List OutrunAccess) (block : ℕ) (x : Link × Beat w)
    (t : Trace w) → IsSettlement kept block x t → KnowsOutrun items block (outrun_accesses t)
    → KnowsOutrun (outrun_but kept.link.0 kept.source items) block (outrun_accesses (x ∷ t))
settled-outrun kept items block x t s k =
    rw (s.leaves, s.is.link_is, s.is.source_is)
    (left-outrun s.access.link s.access.source block items (outrun_accesses t) k)

pub is-settling : {w : ℕ} (kept : OutrunAccess) (block : ℕ) (x : Link × Beat w) (t : Trace w)
    → IsSettlement kept block x t → IsSettling kept.write block x t
is-settling kept block x t s place lt = (
  rw (s.settles) (s.is.reaches_it place lt),
  λ e. s.is.any place,
)

-- what is known of the access with this source that is kept
pub kept-found : (link source block : ℕ) (kept : OutrunAccess) (items : List OutrunAccess) (all : List Outrun)
    → KnowsOutrun items block all → AreOutrunIn link source block all → Some kept ≡ outrun_in link source items
    → (a : Outrun) × (find (is_outrun_of link source) all ≡ Some a) × IsOutrun kept block a
kept-found link source block kept items all k there e =
    go (outrun_in link source items) (find (is_outrun_of link source) all) refl e (found-outrun link source block items all k there)
  where
    go : (o : Option OutrunAccess) (q : Option Outrun) → find (is_outrun_of link source) all ≡ q → Some kept ≡ o
        → FoundOutrun o block q → (a : Outrun) × (find (is_outrun_of link source) all ≡ Some a) × IsOutrun kept block a
    go None q f e known = absurd (let no : Some kept ≡ None = e in cc)
    go (Some v) None f e known = absurd known
    go (Some v) (Some a) f e known = (a, f, subst (λ v. IsOutrun v block a) (sym (some-same e)) known)

-- and where none is kept there is none
pub none-kept : (link source block : ℕ) (items : List OutrunAccess) (all : List Outrun) → KnowsOutrun items block all
    → AreOutrunIn link source block all → None ≡ outrun_in link source items → find (is_outrun_of link source) all ≡ None
none-kept link source block items all k there e =
    go (outrun_in link source items) (find (is_outrun_of link source) all) refl e (found-outrun link source block items all k there)
  where
    go : (o : Option OutrunAccess) (q : Option Outrun) → find (is_outrun_of link source) all ≡ q → None ≡ o
        → FoundOutrun o block q → find (is_outrun_of link source) all ≡ None
    go None None f e known = f
    go None (Some a) f e known = absurd known
    go (Some v) q f e known = absurd (let no : None ≡ Some v = e in cc)

-- with the last beat of its request, if its answer is complete
pub settles-request : {w : ℕ} (link : Link) (y : BeatA w) (kept : OutrunAccess) (a : Outrun) (block : ℕ) (t : Trace w)
    → find (is_outrun_of link.0 y.source) (outrun_accesses t) ≡ Some a → IsOutrun kept block a
    → kept.answered ≡ true → ends (Beat.A y) (on_link link.0 t) ≡ true
    → IsSettlement kept block (link, Beat.A y) t
unfolding pending_accesses
settles-request link y kept a block t found is answered last =
    let settles : settled_by link.0 (Beat.A y) (on_link link.0 t) (outrun_accesses t) ≡ Some a =
    rw (last, found, sym is.answered_is ∙ answered) refl in
    record {
      access = a;
      is = is;
      settles = settles;
      leaves = leaves-request link y t (Some a) settles;
      quiet = refl;
      answers_none = λ n address before. refl;
      pending_stay = rw found (never (asks y (on_link link.0 t)) _ _);
    }
  where
    never : {X : Type 0} (b : Bool) (one other : X) → (if b && false then one else other) ≡ other
    never true one other = refl
    never false one other = refl

-- with another beat of it none is
pub unsettled-request : {w : ℕ} (block : ℕ) (link : Link) (y : BeatA w) (a : Outrun) (t : Trace w)
    → find (is_outrun_of link.0 y.source) (outrun_accesses t) ≡ Some a
    → (ends (Beat.A y) (on_link link.0 t) && a.answered) ≡ false
    → settled_by link.0 (Beat.A y) (on_link link.0 t) (outrun_accesses t) ≡ None
unsettled-request block link y a t found off = rw found (go (ends (Beat.A y) (on_link link.0 t)) a.answered off)
  where
    go : (last answered : Bool) → (last && answered) ≡ false
        → ◌≡◌ {A = Option Outrun} (if last then (if answered then Some a else None) else None) None
    go true true e = absurd cc
    go true false e = refl
    go false answered e = refl

-- with the last beat of an answer to a complete request
pub settles-answer : {w : ℕ} (link : Link) (y : BeatD w) (asked : Request) (kept : OutrunAccess) (a : Outrun)
    (block : ℕ) (t : Trace w) → IsResponse link.0 y asked t → is_access asked.opcode ≡ true
    → outruns y (on_link link.0 t) ≡ false → ends_request y (on_link link.0 t) ≡ true
    → find (is_outrun_of link.0 y.source) (outrun_accesses t) ≡ Some a → IsOutrun kept block a
    → IsSettlement kept block (link, Beat.D y) t
settles-answer link y asked kept a block t is access late over found known =
    let settles : settled_by link.0 (Beat.D y) (on_link link.0 t) (outrun_accesses t) ≡ Some a = rw over found in
    let none = out-unpending link.0 y.source a t found in
    record {
      access = a;
      is = known;
      settles = settles;
      leaves = leaves-response link y t (Some a) late settles;
      quiet = access-untold block y asked (on_link link.0 t) is.answers_it access
          (answer-ends y.opcode asked.opcode is.answers_it);
      answers_none = λ n address before. beat-keeps n address link.0 (Beat.D y) t before (λ over. rw none tt);
      pending_stay = none-answered link y t none;
    }

-- ---- an access whose answer outruns it

pub outrun-bytes : {w : ℕ} (old : BlockState w) (n block : ℕ) (link : Link) (y : BeatD w) (asked : Request) (t : Trace w)
    → KnowsState old n block t → IsResponse link.0 y asked t → outruns y (on_link link.0 t) ≡ true
    → KnowsBlock old.bytes n block ((link, Beat.D y) ∷ t)
outrun-bytes old n block link y asked t k is outrun =
    let c = is.coming outrun in
    let parts = outruns-parts y (on_link link.0 t) outrun in
    let over : ends_request y (on_link link.0 t) ≡ false = never (not (is_release_ack y.opcode)) (ends (Beat.D y) (on_link link.0 t)) _
    parts.1 in
    bytes-kept n block old.bytes (link, Beat.D y) t k.bytes_are
    (access-untold block y asked (on_link link.0 t) is.answers_it c.accesses parts.0)
    (λ p lt e. true_false (sym e ∙ over))
    (λ p lt. unsettled (64 * block + p))
  where
    never : (a b c : Bool) → c ≡ true → ((a && b) && not c) ≡ false
    never true true c e = rw e refl
    never true false c e = refl
    never false b c e = refl

    unsettled : (address : ℕ) → is_settled address (link, Beat.D y) t ≡ false
    unsettled address = rw (settles-coming link.0 y (on_link link.0 t) (outrun_accesses t) outrun) refl

pub outrun-pending : {w : ℕ} (link : Link) (y : BeatD w) (t : Trace w) → outruns y (on_link link.0 t) ≡ true
    → pending_accesses ((link, Beat.D y) ∷ t) ≡ filter (keeps (Some (link, y.source))) (pending_accesses t)
unfolding pending_accesses
outrun-pending link y t outrun = rw (leaves (ends_request y (on_link link.0 t))) refl
  where
    leaves : (b : Bool) → (b || outruns y (on_link link.0 t)) ≡ true
    leaves true = refl
    leaves false = outrun

pub outrun-known : {w : ℕ} (new : OutrunAccess) (items : List OutrunAccess) (asking : Asking) (answered : Bool)
    (block : ℕ) (link : Link) (y : BeatD w) (asked : Request) (t : Trace w) → IsResponse link.0 y asked t
    → outruns y (on_link link.0 t) ≡ true → asking_of (unfinished Channel.A (on_link link.0 t)) ≡ Some asking
    → asked.block ≡ block → answered ≡ ends (Beat.D y) (on_link link.0 t) → new.link ≡ link → new.source ≡ asking.source
    → new.answered ≡ answered
    → (asking.size ≤ 6 → (place : ℕ) → place < 64 → is_written new.write place
    ≡ reaches asking.address asking.size (64 * block_at asking.address + place))
    → ((place : ℕ) → value_at new.write place ≡ None) → KnowsOutrun items block (outrun_accesses t)
    → KnowsOutrun (([] ++ new ∷ []) ++ outrun_but link.0 asking.source items) block
    (outrun_accesses ((link, Beat.D y) ∷ t))
outrun-known {w} new items asking answered block link y asked t is outrun asks here last link_is source_is answered_is written any k =
    rw (leaves-coming link y t c.first c.older outrun c.burst_is) (record {
      are = rw there (
        one,
        subst (λ s. AreOutrun (outrun_but link.0 s items) block
            (filter (outruns_in block) (without link.0 y.source (outrun_accesses t)))) (sym source) left.are,
      );
      inside = (c.inside, left.inside);
    })
  where
    c : IsComing y asked (unfinished Channel.A (on_link link.0 t))
    c = is.coming outrun

    same : record { source = c.first.source; address = c.first.address; size = c.first.size } ≡ asking
    same = some-same (sym (ap asking_of c.burst_is) ∙ asks)

    source : asking.source ≡ y.source
    source = ap (λ (a : Asking). a.source) (sym same) ∙ c.source_is

    left : KnowsOutrun (outrun_but link.0 y.source items) block (without link.0 y.source (outrun_accesses t))
    left = left-outrun link.0 y.source block items (outrun_accesses t) k

    first_block : block_at c.first.address ≡ block
    first_block = sym c.block_is ∙ here

    there : outruns_in block (out-new link c.first (ends (Beat.D y) (on_link link.0 t))) ≡ true
    there = eq-eqb (c.first.address / 64) block first_block

    small : asking.size ≤ 6
    small = subst (λ (a : Asking). a.size ≤ 6) same c.small

    one : IsOutrun new block (out-new link c.first (ends (Beat.D y) (on_link link.0 t)))
    one = record {
      link_is = ap (λ (l : Link). l.0) link_is;
      source_is = source_is ∙ ap (λ (a : Asking). a.source) (sym same);
      answered_is = answered_is ∙ last;
      reaches_it = λ place lt. written small place lt
          ∙ ap (λ (a : Asking). reaches a.address a.size (64 * block_at a.address + place)) (sym same)
          ∙ ap (λ b. reaches c.first.address c.first.size (64 * b + place)) first_block;
      any = any;
    }

pub asked-source : {w : ℕ} (link : Link) (y : BeatD w) (asked : Request) (asking : Asking) (t : Trace w)
    → IsResponse link.0 y asked t → outruns y (on_link link.0 t) ≡ true
    → asking_of (unfinished Channel.A (on_link link.0 t)) ≡ Some asking → asking.source ≡ y.source
asked-source link y asked asking t is outrun asks =
    let c = is.coming outrun in
    ap (λ (a : Asking). a.source) (some-same (sym asks ∙ ap asking_of c.burst_is)) ∙ c.source_is
