-- What is kept of what a response may bring, and what it may bring by what all links have carried.
use Rattle.std.proofs.Common.{◌≡◌, ◌≤◌, ◌<◌, ◌+◌, ◌-◌, ◌*◌, ◌/◌, ◌%◌, ℕ, zero, suc, Bool, true, false, List, [], ◌∷◌}
use Rattle.std.proofs.Common.{length, refl, sym, ap, ◌∙◌, arith, Option, Some, None}
use Rattle.std.specs.Prelude.{find, is_some}
use Rattle.tl_beat.specs.declared.beat.Beat.{Beat}
use Rattle.tl_beat.specs.declared.beat.BeatD.{BeatD}
use Rattle.tl_beat.specs.declared.beat.Link.{Link}
use Rattle.tl_beat.specs.declared.opcode.OpD.{OpD}
use Rattle.tl_beat.specs.statement.Opcode.{d_carries_data}
use Rattle.tl_beat.specs.statement.Width.{IsWidth}
use Rattle.tl_bytes.specs.statement.Bytes.{Access, before_last, found_after, is_of, may_grant}
use Rattle.tl_bytes.specs.statement.Bytes.{pending_accesses}
use Rattle.tl_memory.proofs.messages.Judging.{in_block, read_inside}
use Rattle.tl_memory.proofs.messages.Kept.{told-exact}
use Rattle.tl_memory.proofs.values.Lanes.{base-of_block, granted-byte, read-byte}
use Rattle.tl_memory.specs.code.Expected.{allows}
use Rattle.tl_memory.specs.code.Lines.{told_by}
use Rattle.tl_memory.specs.declared.expected.Expected.{Expected}
use Rattle.tl_memory.specs.statement.Blocks.{state_in}
use Rattle.tl_memory.specs.statement.Expecting.{ExpectsBeat, ExpectsGrant, ExpectsRead, may_answer}
use Rattle.tl_memory.specs.statement.Memory.{KnowsMemory}
use Rattle.tl_params.specs.declared.level.Level.{Level}
use Rattle.tl_params.specs.declared.liberties.Liberties.{Liberties}
use Rattle.tl_rules.proofs.Rooms.{base_in_memory}
use Rattle.tl_rules.specs.code.Open.{open_request}
use Rattle.tl_rules.specs.code.Place.{base_of}
use Rattle.tl_rules.specs.declared.past.Request.{Request}
use Rattle.tl_rules.specs.statement.Conformance.{Trace, on_link}
use Rattle.tl_rules.specs.statement.History.{block_at}
use Rattle.tl_together.specs.declared.judge.Judge.{Judge}
use Rattle.tl_memory.specs.statement.Links.{KeepsRules}
use Rattle.tl_together.proofs.Following.{followed, one_more}
use Rattle.tl_together.specs.statement.Knows.{KnowsTrace}
use Rattle.tl_witness.specs.code.Strays.{told_of}
use Rattle.tl_witness.specs.statement.Naming.{Naming}
use Rattle.tl_witness.specs.statement.Strays.{answered_text, beats_come, bytes_text, granted_text, stray_line}
use Rattle.tl_witness.specs.statement.Strays.{strays_text, told_after, values_text}

-- ---- texts by tests that agree

values-same : (names : Naming) (one other : ℕ → Bool) (told heard : ℕ → Option ℕ) (any : Bool) (n v : ℕ)
    → ((u : ℕ) → one u ≡ other u) → ((u : ℕ) → told u ≡ heard u)
    → values_text names one told any n v ≡ values_text names other heard any n v
unfolding values_text
values-same names one other told heard any zero v same said = refl
values-same names one other told heard any (suc n) v same said =
    rw (
      same v,
      said v,
      values-same names one other told heard true n (v + 1) same said,
      values-same names one other told heard any n (v + 1) same said,
    ) refl

line-same : (names : Naming) (address v : ℕ) (one other : ℕ → Bool) (told heard : ℕ → Option ℕ)
    → ((u : ℕ) → one u ≡ other u)
    → ((u : ℕ) → told u ≡ heard u) → stray_line names address v one told ≡ stray_line names address v other heard
unfolding stray_line
line-same names address v one other told heard same said =
    rw (values-same names one other told heard false 256 0 same said) refl

-- the tests and what was told agree at an address
abbrev Agree : (ℕ → ℕ → Bool) → (ℕ → ℕ → Bool) → (ℕ → ℕ → Option ℕ) → (ℕ → ℕ → Option ℕ) → ℕ → Type 0
Agree one other told heard address =
    ((v : ℕ) → one address v ≡ other address v) × ((v : ℕ) → told address v ≡ heard address v)

strays-same : (names : Naming) (one other : ℕ → ℕ → Bool) (told heard : ℕ → ℕ → Option ℕ) (n from : ℕ) (lanes : List ℕ)
    → ((i : ℕ) → from ≤ i → i < from + length lanes → Agree one other told heard i)
    → strays_text names one told n from lanes ≡ strays_text names other heard n from lanes
unfolding strays_text
strays-same names one other told heard n from [] agree = refl
strays-same names one other told heard n from (v ∷ lanes) agree =
    let here = agree from (omega arith) (omega arith) in
    let more = λ (i : ℕ) (low : from + 1 ≤ i) (high : i < from + 1 + length lanes).
    agree i (omega (arith, low)) (omega (arith, high)) in
    rw (
      here.0 v,
      line-same names from v (one from) (other from) (told from) (heard from) here.0 here.1,
      strays-same names one other told heard n (from + 1) lanes more,
      strays-same names one other told heard (n + 1) (from + 1) lanes more,
    ) refl

-- ---- what is kept

-- the beat that told a value is that of the definition
told-same : {w : ℕ} (judge : Judge w) (n address v : ℕ) (t : Trace w) → KnowsMemory judge.memory n t
    → told_of judge address v ≡ told_after n t address v
told-same judge n address v t known =
    let whole : 64 * (address / 64) + address % 64 ≡ address = omega arith in
    rw whole at (told-exact judge.memory (state_in judge.memory.blocks (block_at address)) (block_at address)
    (address % 64) v (told_by (state_in judge.memory.blocks (block_at address)) (address % 64) v) refl refl n t known
    (omega arith))

-- a response that may bring this brings beat k inside of its block, and this is the text of the bytes that it may not
pub record Brings {w : ℕ} (names : Naming) (e : Expected) (judge : Judge w) (k : ℕ) (lanes text : List ℕ) : Type 0 where
  pub room : base_of w e.address + w * k + w ≤ 64
  pub text_is : strays_text names (allows e) (told_of judge) 0 (64 * block_at e.address + (base_of w e.address + w * k))
      lanes
      ≡ text

module _ {w : ℕ} (names : Naming) (levels : List Level) (l : Liberties) (link : Link) (x : BeatD w) (t : Trace w)
    (is : IsWidth w)
    (judge : Judge w) (knows : KnowsTrace judge levels l t)
    (fine : KeepsRules l levels (link, Beat.D x) t) (lanes : List ℕ) (has : x.lanes ≡ Some lanes)
    (wide : length lanes ≡ w) where
  abbrev n : ℕ
  n = length levels

  abbrev k : ℕ
  k = beats_come link.0 t

  abbrev begun : Trace w
  begun = before_last link.0 k t

  brings-granted : (e : Expected) (o : Option Request) → ExpectsGrant (Some e) n o begun
      → Brings names e judge k lanes (granted_text names n link.0 x o t)
  brings-granted e None never = absurd never
  brings-granted e (Some asked) (at, sized, known) =
      let base = base-of_block w e.address asked.block at in
      let inside = in_block levels n link x t is (followed _ levels l t knows.monitor_is)
      (one_more _ levels l (link, Beat.D x) t knows.monitor_is fine) in
      let start : 64 * (e.address / 64) + (base_of w e.address + w * k) ≡ 64 * asked.block + w * k =
      omega (arith, base, at) in
      record {
        room = omega (arith, base, inside);
        text_is = rw (start, has)
            (strays-same names (allows e) (may_grant n begun) (told_of judge) (told_after n t) 0
            (64 * asked.block + w * k)
            lanes (λ i low high. agree i low high inside));
      }
    where
      agree : (i : ℕ) → 64 * asked.block + w * k ≤ i → i < 64 * asked.block + w * k + length lanes → w * k + w ≤ 64
          → Agree (allows e) (may_grant n begun) (told_of judge) (told_after n t) i
      agree i low high inside = (
        λ v.
            let place : i - 64 * asked.block < 64 = omega (arith, low, high, inside, wide) in
            let whole : 64 * asked.block + (i - 64 * asked.block) ≡ i = omega (arith, low) in
            rw whole at (granted-byte e n asked.block (i - 64 * asked.block) v begun at sized known place),
        λ v. told-same judge n i v t knows.memory_is,
      )

  brings-answered : (e : Expected) (o : Option (Access w)) → x.opcode ≡ OpD.AccessAckData
      → find (is_of link.0 x.source) (pending_accesses t) ≡ o → ExpectsRead (Some e) n o (found_after o link.0 k t)
      → Brings names e judge k lanes (answered_text names n link.0 x o t)
  brings-answered e None op pending never = absurd never
  brings-answered e (Some access) op pending known =
      let inside = read_inside levels n link x t is (followed _ levels l t knows.monitor_is)
      (one_more _ levels l (link, Beat.D x) t knows.monitor_is fine) access op pending in
      let base : base_of w e.address ≡ base_of w access.request.address = ap (base_of w) known.0 in
      let block : e.address / 64 ≡ access.request.address / 64 = ap (λ a. a / 64) known.0 in
      let whole = base_in_memory w access.request.address is in
      let start : 64 * (e.address / 64) + (base_of w e.address + w * k) ≡ w * (access.request.address / w) + w * k =
      omega (arith, base, block, whole) in
      record {
        room = omega (arith, base, inside);
        text_is = rw (start, has)
            (strays-same names (allows e) (may_answer n access (found_after (Some access) link.0 k t)) (told_of judge)
            (told_after n t) 0
            (w * (access.request.address / w) + w * k) lanes
            (λ i low high. agree i low high whole inside));
      }
    where
      agree : (i : ℕ) → w * (access.request.address / w) + w * k ≤ i
          → i < w * (access.request.address / w) + w * k + length lanes
          → w * (access.request.address / w) ≡ 64 * (access.request.address / 64) + base_of w access.request.address
          → base_of w access.request.address + w * k + w ≤ 64
          → Agree (allows e) (may_answer n access (found_after (Some access) link.0 k t)) (told_of judge)
          (told_after n t) i
      agree i low high whole inside = (
        λ v.
            let block = access.request.address / 64 in
            let place : i - 64 * block < 64 = omega (arith, low, high, inside, wide, whole) in
            let same : 64 * block + (i - 64 * block) ≡ i = omega (arith, low, whole) in
            rw same at (read-byte e n block (i - 64 * block) v access (found_after (Some access) link.0 k t) known
            place),
        λ v. told-same judge n i v t knows.memory_is,
      )

  -- a response with this opcode
  pub brings : (e : Expected) (opcode : OpD) → opcode ≡ x.opcode
      → ExpectsBeat (Some e) n link.0 opcode x.source k t
      → Brings names e judge k lanes (bytes_text names opcode n link.0 x t)
  brings e OpD.GrantData op known = brings-granted e (open_request x.source (on_link link.0 t)) known
  brings e OpD.AccessAckData op known =
      brings-answered e (find (is_of link.0 x.source) (pending_accesses t)) (sym op) refl known
  brings e v op known =
      let never : true ≡ d_carries_data v = ap is_some (sym has) ∙ x.carries ∙ ap d_carries_data (sym op) in absurd cc

-- where a response may bring nothing that is judged, none of its bytes is told of
pub brings-nothing : {w : ℕ} (names : Naming) (n link : ℕ) (x : BeatD w) (t : Trace w) (opcode : OpD)
    → ExpectsBeat None n link opcode x.source (beats_come link t) t → bytes_text names opcode n link x t ≡ []
brings-nothing {w} names n link x t OpD.GrantData known = go (open_request x.source (on_link link t)) known
  where
    go : (o : Option Request) → ExpectsGrant None n o (before_last link (beats_come link t) t)
        → granted_text names n link x o t ≡ []
    go None known = refl
    go (Some asked) never = absurd never
brings-nothing {w} names n link x t OpD.AccessAckData known =
    go (find (is_of link x.source) (pending_accesses t)) known
  where
    go : (o : Option (Access w)) → ExpectsRead None n o (found_after o link (beats_come link t) t)
        → answered_text names n link x o t ≡ []
    go None known = refl
    go (Some access) never = absurd never
brings-nothing names n link x t v known = refl

-- nor where a beat has none
pub no-bytes : {w : ℕ} (names : Naming) (n link : ℕ) (x : BeatD w) (t : Trace w) (opcode : OpD) → opcode ≡ x.opcode
    → x.lanes ≡ None
    → bytes_text names opcode n link x t ≡ []
no-bytes names n link x t OpD.GrantData op none =
    let never : false ≡ true = ap is_some (sym none) ∙ x.carries ∙ ap d_carries_data (sym op) in absurd cc
no-bytes names n link x t OpD.AccessAckData op none =
    let never : false ≡ true = ap is_some (sym none) ∙ x.carries ∙ ap d_carries_data (sym op) in absurd cc
no-bytes names n link x t v op none = refl
