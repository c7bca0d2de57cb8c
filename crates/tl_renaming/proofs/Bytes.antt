-- M2 and M3, of renamed traces.
use Rattle.tl_renaming.proofs.Imports.{BeatD, D, Channel, block_at, renamed_address, renamed_d, unfinished}
use Rattle.tl_bytes.specs.statement.Early.{is_overtaken}
use Rattle.tl_renaming.proofs.{Accesses.renamed_access, Answered.overtaken-kept, Traces.link-kept}
use Rattle.tl_renaming.{proofs.Bursts.length-kept, proofs.Bursts.on-kept, proofs.Free.open-kept, proofs.Values.Fits}
use Rattle.tl_renaming.proofs.Free.{renamed_request}
use Rattle.tl_renaming.proofs.MayBe.{AreFitting, FitsIfAny, answered-kept, burst-kept, fit-now, found-fits, may-grant-kept}
use Rattle.tl_renaming.proofs.MayBe.{may-read-kept}
use Rattle.tl_renaming.proofs.Places.{reaches-kept, start-moved, unreached}
use Rattle.tl_renaming.specs.statement.Renamed.{AreFaithful, Renamings, of_link, renamed_trace}
use Rattle.std.proofs.Common.{◌≡◌, ℕ, zero, suc, Bool, true, false, not, ◌&&◌, ◌||◌, ◌+◌, ◌*◌, ◌/◌, ◌^◌, ◌≤◌, ◌<◌}
use Rattle.std.proofs.Common.{List, [], ◌∷◌, length, refl, sym, ap, ◌∙◌, arith, inl, inr, add-zero}
use Rattle.std.proofs.Math.Path.{ap₂}
use Rattle.std.specs.Prelude.{find, if◌then◌else◌, Option, Some, None, option_map, ◌==◌}
use Rattle.std.proofs.lemmas.Bool.{cases_Bool, cases_lt}
use Rattle.tl_beat.{specs.declared.opcode.OpD.OpD, specs.statement.Width.IsWidth}
use Rattle.tl_burst.{specs.statement.Burst.reaches, specs.statement.Messages.on}
use Rattle.tl_bytes.specs.statement.Bytes.{Access, before_last, each_from, found_after, grants_truly, is_get, is_of, is_true}
use Rattle.tl_bytes.specs.statement.Bytes.{is_true_grant}
use Rattle.tl_bytes.specs.statement.Bytes.{is_true_read, may_grant, may_read, pending_accesses, reads_truly}
use Rattle.tl_params.specs.declared.liberties.Liberties.{Liberties}
use Rattle.tl_rules.specs.code.Open.{open_request}
use Rattle.tl_rules.specs.code.Place.{base_of}
use Rattle.tl_rules.specs.declared.past.Request.{Request}
use Rattle.tl_rules.specs.statement.Admission.{is_spoiled, lanes_of}
use Rattle.tl_rules.specs.statement.Conformance.{Trace, on_link}
use Rattle.tl_rules.proofs.Rooms.{base_in_memory}
use Rattle.tl_together.specs.statement.Coherence.{broken_bytes, rule_of_bytes}

-- ---- bytes in a row

each-kept : (test others : ℕ → ℕ → Bool) (from to : ℕ) (bytes : List ℕ)
    → ((i v : ℕ) → i < length bytes → others (to + i) v ≡ test (from + i) v)
    → each_from others to bytes ≡ each_from test from bytes
unfolding each_from
each-kept test others from to [] same = refl
each-kept test others from to (v ∷ bytes) same =
    let here : others to v ≡ test from v = rw (add-zero, add-zero) at (same 0 v (omega arith)) in
    let next : (i u : ℕ) → i < length bytes → others (to + 1 + i) u ≡ test (from + 1 + i) u =
    λ i u lt. ap (λ a. others a u) (omega arith) ∙ same (i + 1) u (omega arith) ∙ ap (λ a. test a u) (omega arith) in
    ap₂ (λ a b. a && b) here (each-kept test others (from + 1) (to + 1) bytes next)

-- ---- the trace before some beats

suffix-fits : {w : ℕ} (link k : ℕ) (t : Trace w) → AreFitting t → AreFitting (before_last link k t)
unfolding before_last
suffix-fits link zero t fits = fits
suffix-fits link (suc k) [] fits = fits
suffix-fits {w} link (suc k) (x ∷ t) fits = go ((x.0.0 == link) && on Channel.D x.1) (suffix-fits link k t fits.1)
    (suffix-fits link (suc k) t fits.1)
  where
    go : (b : Bool) → AreFitting (before_last link k t) → AreFitting (before_last link (suc k) t)
        → AreFitting (if b then before_last link k t else before_last link (suc k) t)
    go true one more = one
    go false one more = more

before-kept : {w : ℕ} (r : Renamings) (link k : ℕ) (t : Trace w)
    → before_last link k (renamed_trace r t) ≡ renamed_trace r (before_last link k t)
unfolding before_last
before-kept r link zero t = refl
before-kept r link (suc k) [] = refl
before-kept {w} r link (suc k) (x ∷ t) =
    rw (on-kept (of_link r x.0.0) Channel.D x.1, before-kept r link k t, before-kept r link (suc k) t)
    (go ((x.0.0 == link) && on Channel.D x.1))
  where
    go : (b : Bool)
        → (if b then renamed_trace r (before_last link k t) else renamed_trace r (before_last link (suc k) t))
        ≡ renamed_trace r (if b then before_last link k t else before_last link (suc k) t)
    go true = refl
    go false = refl

module _ {w : ℕ} (l : Liberties) (r : Renamings) (faithful : AreFaithful l r) (width : IsWidth w) (n : ℕ) where
  abbrev moved_by : ℕ → ℕ
  moved_by address = renamed_address (of_link r 0) address

  apart : (a b : ℕ) → r.block a ≡ r.block b → a ≡ b
  apart = (faithful 0).blocks_apart

  count-kept : (link : ℕ) (t : Trace w) → length (unfinished Channel.D (on_link link (renamed_trace r t)))
      ≡ length (unfinished Channel.D (on_link link t))
  count-kept link t = ap length (burst-kept l r faithful width n Channel.D link t)
      ∙ length-kept (of_link r link) (unfinished Channel.D (on_link link t))

  -- ---- M2

  -- a place of a block is in the same place of the renamed block
  in-block : (block place : ℕ) → place < 64 → 64 * r.block block + place ≡ moved_by (64 * block + place)
  in-block block place lt =
      let here : block_at (64 * block + place) ≡ block = omega (arith, lt) in
      let there : r.block (block_at (64 * block + place)) ≡ r.block block = ap r.block here in
      omega (arith, there, lt)

  granted-kept : (block k : ℕ) (x : BeatD w) (link : ℕ) (t : Trace w) → AreFitting t
      → w * k + length (lanes_of (D x)) ≤ 64
      → grants_truly n (r.block block) k (renamed_d (of_link r link) x) (renamed_trace r t) ≡ grants_truly n block k x t
  granted-kept block k x link t fits room =
      each-kept (may_grant n t) (may_grant n (renamed_trace r t)) (64 * block + w * k) (64 * r.block block + w * k)
      (lanes_of (D x)) (λ i v lt.
      let inside : w * k + i < 64 = omega (arith, room, lt) in
      let from : 64 * block + w * k + i ≡ 64 * block + (w * k + i) = omega arith in
      let to : 64 * r.block block + w * k + i ≡ moved_by (64 * block + (w * k + i)) =
      (let split : 64 * r.block block + w * k + i ≡ 64 * r.block block + (w * k + i) = omega arith in split)
      ∙ in-block block (w * k + i) inside in
      ap (λ a. may_grant n (renamed_trace r t) a v) to
      ∙ may-grant-kept l r faithful width n (64 * block + (w * k + i)) v t fits
      ∙ ap (λ a. may_grant n t a v) (sym from))

  grant-kept : (link : ℕ) (x : BeatD w) (o : Option Request) (t : Trace w) → AreFitting t
      → w * length (unfinished Channel.D (on_link link t)) + length (lanes_of (D x)) ≤ 64
      → is_true_grant n link (renamed_d (of_link r link) x) (option_map (renamed_request (of_link r link)) o)
      (renamed_trace r t) ≡ is_true_grant n link x o t
  grant-kept link x None t fits room = refl
  grant-kept link x (Some asked) t fits room =
      ap₂ (λ a b. a || b)
      (ap (is_overtaken (r.block asked.block) (renamed_d (of_link r link) x)) (link-kept r link t)
      ∙ overtaken-kept l (of_link r link) (faithful link) asked.block x (on_link link t))
      (ap₂ (λ k before. grants_truly n (r.block asked.block) k (renamed_d (of_link r link) x) before) (count-kept link t)
      (ap (λ k. before_last link k (renamed_trace r t)) (count-kept link t)
      ∙ before-kept r link (length (unfinished Channel.D (on_link link t))) t)
      ∙ granted-kept asked.block (length (unfinished Channel.D (on_link link t))) x link
      (before_last link (length (unfinished Channel.D (on_link link t))) t)
      (suffix-fits link (length (unfinished Channel.D (on_link link t))) t fits) room)

  -- ---- M3

  -- a byte of a payload, where it lies in the block of its message
  at-place : (base d : ℕ) → base_of w base + d < 64 → w * (moved_by base / w) + d ≡ moved_by (w * (base / w) + d)
  at-place base d lt =
      let old = base_in_memory w base width in
      let new = start-moved r.block apart w width base in
      let here : block_at (w * (base / w) + d) ≡ block_at base = omega (arith, old, lt) in
      let there : r.block (block_at (w * (base / w) + d)) ≡ r.block (block_at base) = ap r.block here in
      omega (arith, old, new, there, lt)

  byte-read-kept : (access : Access w) (d v : ℕ) (t : Trace w) → Fits access → AreFitting t
      → (not (reaches (moved_by access.request.address) access.request.size
      (w * (moved_by access.request.address / w) + d))
      || may_read n (renamed_access r access) (renamed_trace r t) (w * (moved_by access.request.address / w) + d) v)
      ≡ (not (reaches access.request.address access.request.size (w * (access.request.address / w) + d))
      || may_read n access t (w * (access.request.address / w) + d) v)
  byte-read-kept access d v t fits all = elim (cases_lt (base_of w access.request.address + d) 64) [
    | inl lt ↦
        ap (λ a. not (reaches (moved_by access.request.address) access.request.size a)
        || may_read n (renamed_access r access) (renamed_trace r t) a v) (at-place access.request.address d lt)
        ∙ ap₂ (λ a b. not a || b)
        (reaches-kept r.block apart access.request.address access.request.size (w * (access.request.address / w) + d) fits.in_block)
        (may-read-kept l r faithful width n access (w * (access.request.address / w) + d) v t all)
    | inr past ↦
        let old = base_in_memory w access.request.address width in
        let new = start-moved r.block apart w width access.request.address in
        let out : block_at (w * (access.request.address / w) + d) ≡ block_at access.request.address → ⊥ = λ e. omega (arith, old, past, e) in
        let gone : block_at (w * (moved_by access.request.address / w) + d) ≡ block_at (moved_by access.request.address) → ⊥ =
        λ e. omega (arith, new, past, e) in
        ap (λ b. not b || may_read n (renamed_access r access) (renamed_trace r t) (w * (moved_by access.request.address / w) + d) v)
        (unreached (moved_by access.request.address) (2 ^ access.request.size) (w * (moved_by access.request.address / w) + d)
        (let room = fits.in_block in omega (arith, room)) gone)
        ∙ sym (ap (λ b. not b || may_read n access t (w * (access.request.address / w) + d) v)
        (unreached access.request.address (2 ^ access.request.size) (w * (access.request.address / w) + d) fits.in_block out))
  ]

  read-so-kept : (link k : ℕ) (o : Option (Access w)) (x : BeatD w) (t : Trace w) → FitsIfAny o → AreFitting t
      → reads_truly n (option_map (renamed_access r) o) k (renamed_d (of_link r link) x) (renamed_trace r t)
      ≡ reads_truly n o k x t
  read-so-kept link k None x t fits all = refl
  read-so-kept link k (Some access) x t fits all =
      each-kept (λ address v. not (reaches access.request.address access.request.size address)
      || may_read n access t address v)
      (λ address v. not (reaches (moved_by access.request.address) access.request.size address)
      || may_read n (renamed_access r access) (renamed_trace r t) address v)
      (w * (access.request.address / w) + w * k) (w * (moved_by access.request.address / w) + w * k) (lanes_of (D x))
      (λ i v lt.
      let from : w * (access.request.address / w) + w * k + i ≡ w * (access.request.address / w) + (w * k + i) =
      omega arith in
      let to : w * (moved_by access.request.address / w) + w * k + i
      ≡ w * (moved_by access.request.address / w) + (w * k + i) = omega arith in
      ap (λ a. not (reaches (moved_by access.request.address) access.request.size a)
      || may_read n (renamed_access r access) (renamed_trace r t) a v) to
      ∙ byte-read-kept access (w * k + i) v t fits all
      ∙ ap (λ a. not (reaches access.request.address access.request.size a) || may_read n access t a v) (sym from))

  read-kept : (link : ℕ) (x : BeatD w) (t : Trace w) → AreFitting t
      → is_true_read n link (renamed_d (of_link r link) x) (renamed_trace r t) ≡ is_true_read n link x t
  read-kept link x t fits =
      ap₂ (λ o k. reads_truly n o k (renamed_d (of_link r link) x) (found_after o link k (renamed_trace r t)))
      (answered-kept l r faithful width n link x.source t) (count-kept link t)
      ∙ go (find (is_of link x.source) (pending_accesses t))
      (found-fits (is_of link x.source) (pending_accesses t) (fit-now t fits))
    where
      k : ℕ
      k = length (unfinished Channel.D (on_link link t))

      go : (o : Option (Access w)) → FitsIfAny o
          → reads_truly n (option_map (renamed_access r) o) k (renamed_d (of_link r link) x)
          (found_after (option_map (renamed_access r) o) link k (renamed_trace r t))
          ≡ reads_truly n o k x (found_after o link k t)
      go None fit = refl
      go (Some access) fit = elim (cases_Bool (is_get access.request.opcode)) [
        | inl get ↦ rw get (read-so-kept link k (Some access) x t fit fits)
        | inr other ↦ rw other (ap (reads_truly n (Some (renamed_access r access)) k (renamed_d (of_link r link) x))
            (before-kept r link k t)
            ∙ read-so-kept link k (Some access) x (before_last link k t) fit (suffix-fits link k t fits))
      ]

  -- ---- both

  true-kept : (opcode : OpD) (link : ℕ) (x : BeatD w) (t : Trace w) → AreFitting t
      → w * length (unfinished Channel.D (on_link link t)) + length (lanes_of (D x)) ≤ 64
      → is_true opcode n link (renamed_d (of_link r link) x) (renamed_trace r t) ≡ is_true opcode n link x t
  true-kept OpD.GrantData link x t fits room =
      ap (λ b. is_spoiled (D x) || b)
      (ap (λ o. is_true_grant n link (renamed_d (of_link r link) x) o (renamed_trace r t))
      (open-kept l r faithful link x.source t)
      ∙ grant-kept link x (open_request x.source (on_link link t)) t fits room)
  true-kept OpD.AccessAckData link x t fits room = ap (λ b. is_spoiled (D x) || b) (read-kept link x t fits)
  true-kept OpD.AccessAck link x t fits room = refl
  true-kept OpD.HintAck link x t fits room = refl
  true-kept OpD.Grant link x t fits room = refl
  true-kept OpD.ReleaseAck link x t fits room = refl

  pub bytes-kept : (link : ℕ) (x : BeatD w) (t : Trace w) → AreFitting t
      → w * length (unfinished Channel.D (on_link link t)) + length (lanes_of (D x)) ≤ 64
      → broken_bytes n link (renamed_d (of_link r link) x) (renamed_trace r t) ≡ broken_bytes n link x t
  bytes-kept link x t fits room =
      ap (λ b. if b then None else Some (rule_of_bytes x.opcode)) (true-kept x.opcode link x t fits room)
