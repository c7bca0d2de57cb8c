-- Whether the bytes of a response are true, by what it may bring.
use Rattle.tl_memory.proofs.Imports.{BeatD, Link, OpD, IsWidth, data_beats, burst_length, is_grant, request_of, unfinished, Level}
use Rattle.tl_memory.proofs.Imports.{open_request, base_of, Request, Trace, IsLegal, on_link, is_release_ack}
use Rattle.tl_memory.proofs.Imports.{Access, is_of, pending_accesses, Expected, Expects, ExpectsGrant, ExpectsRead}
use Rattle.tl_memory.proofs.Imports.{all_liberties, ExpectsBeat, AreLegal, Beat}
use Rattle.std.proofs.Common.{◌≡◌, ℕ, Bool, true, false, ◌||◌, ◌+◌, ◌*◌, ◌<◌, ◌≤◌, List, length, Option, Some, None}
use Rattle.std.proofs.Common.{refl, sym, ap, ◌∙◌, ◌/◌, arith}
use Rattle.std.proofs.lemmas.Bool.{eq-eqb}
use Rattle.tl_rules.{proofs.Open.not_release_ack, specs.statement.History.asks_for}
use Rattle.tl_forgiving.proofs.Lawful.{lawful-beat}
use Rattle.tl_bytes.{proofs.Finding.same-some, specs.statement.Early.is_overtaken}
use Rattle.tl_memory.specs.code.Early.{is_doubted, is_in_doubt}
use Rattle.tl_memory.specs.declared.early.Granting.{Granting}
use Rattle.tl_memory.specs.statement.Links.{KnowsGranting}
use Rattle.tl_memory.proofs.{states.BlockAnswers.asked-first, states.BlockAnswers.grant-open}
use Rattle.tl_memory.proofs.{messages.EarlyMessages.doubt-is}
use Rattle.tl_memory.proofs.lawful.LegalBeats.{response-legal}
use Rattle.std.specs.Prelude.{find}
use Rattle.tl_beat.specs.declared.channel.Channel.{Channel}
use Rattle.tl_burst.proofs.Bits.{earlier_place}
use Rattle.tl_bytes.specs.statement.Bytes.{before_last, found_after, grants_truly, is_true, reads_truly}
use Rattle.tl_memory.{specs.code.Allowed.IsAllowed, specs.code.Allowed.is_judged, proofs.lawful.Answering.is-answering}
use Rattle.tl_memory.{proofs.lawful.Complete.carried_inside, proofs.lawful.Open.IsAnswering}
use Rattle.tl_memory.{proofs.lawful.Unfinished.fewer-before, proofs.lawful.Unfinished.room}
use Rattle.tl_memory.proofs.lawful.OpenAccesses.{IsFine, is-fine, legal-on, pending-open}

unspoiled : (spoiled b : Bool) → spoiled ≡ false → b ≡ (spoiled || b)
unspoiled true b e = absurd cc
unspoiled false b e = refl

module _ {w : ℕ} (levels : List Level) (n : ℕ) (link : Link) (x : BeatD w) (t : Trace w) (is : IsWidth w)
    (legal : AreLegal levels t) (fine : IsLegal levels (link, Beat.D x) t) where
  abbrev k : ℕ
  k = length (unfinished Channel.D (on_link link.0 t))

  abbrev begun : Trace w
  begun = before_last link.0 k t

  f : IsFine all_liberties levels (link, Beat.D x) t
  f = is-fine _ levels (link, Beat.D x) t fine

  pub in_block : w * k + w ≤ 64
  in_block =
      room f.level (Beat.D x) (on_link link.0 t) is (legal-on _ levels link.0 f.level t f.has_level legal) f.fine

  fewer : k < burst_length (Beat.D x)
  fewer = fewer-before f.level (Beat.D x) (on_link link.0 t) is
      (legal-on _ levels link.0 f.level t f.has_level legal) f.fine

  answering : is_release_ack x.opcode ≡ false → IsAnswering x (on_link link.0 t)
  answering other = is-answering f.level x (on_link link.0 t)
      (legal-on _ levels link.0 f.level t f.has_level legal) f.fine other

  -- the request of a Grant is complete
  pub granted-of : is_grant x.opcode ≡ true → (asked : Request) × (open_request x.source (on_link link.0 t) ≡ Some asked)
      × (asks_for asked.block (request_of x.source (on_link link.0 t)) ≡ true)
  granted-of grant =
      let one = response-legal levels link t is legal x fine (not_release_ack x.opcode grant) in
      let request = asked-first x.source (on_link link.0 t) one.0 one.1.kept in (
        one.0,
        grant-open link.0 x one.0 t one.1 grant,
        ap (asks_for one.0.block) request.1 ∙ eq-eqb (request.0.address / 64) one.0.block request.2,
      )

  -- whether its bytes are in doubt is kept
  pub doubt-of : (o : Option Granting) → KnowsGranting o (on_link link.0 t) → (block : ℕ) → is_grant x.opcode ≡ true
      → asks_for block (request_of x.source (on_link link.0 t)) ≡ true
      → is_overtaken block x (on_link link.0 t) ≡ is_in_doubt o
  doubt-of o known block grant own = doubt-is all_liberties o x block (on_link link.0 t)
      (lawful-beat all_liberties f.level (Beat.D x) (on_link link.0 t) f.fine).ordered known grant own

  true-grant : (o : Option Granting) → KnowsGranting o (on_link link.0 t) → (expected : Option Expected) (b : Bool)
      → IsAllowed expected k x b → x.opcode ≡ OpD.GrantData
      → ExpectsGrant expected n (open_request x.source (on_link link.0 t)) begun → (x.corrupt || x.denied) ≡ false
      → is_in_doubt o ≡ false → b ≡ is_true OpD.GrantData n link.0 x t
  true-grant o known expected b allowed op e sound sure =
      let one = granted-of (ap is_grant op) in
      let opened = one.1 in
      rw (opened, doubt-of o known one.0.block (ap is_grant op) one.2 ∙ sure)
      (allowed.granted n one.0 begun (rw opened at e) in_block
      ∙ unspoiled (x.corrupt || x.denied) (grants_truly n one.0.block k x begun) sound)

  -- those that are in doubt are true
  doubtful-grant : (o : Option Granting) → KnowsGranting o (on_link link.0 t) → x.opcode ≡ OpD.GrantData
      → is_in_doubt o ≡ true → true ≡ is_true OpD.GrantData n link.0 x t
  doubtful-grant o known op doubt =
      let one = granted-of (ap is_grant op) in
      rw (one.1, doubt-of o known one.0.block (ap is_grant op) one.2 ∙ doubt) (either (x.corrupt || x.denied))
    where
      either : (b : Bool) → true ≡ (b || true)
      either true = refl
      either false = refl

  pub doubtful-true : (o : Option Granting) → KnowsGranting o (on_link link.0 t) → (opcode : OpD) → opcode ≡ x.opcode
      → is_doubted opcode o ≡ true → true ≡ is_true opcode n link.0 x t
  doubtful-true o known OpD.GrantData op doubt = doubtful-grant o known (sym op) doubt
  doubtful-true o known v op doubt = absurd cc

  -- all of the lanes are in the block of the access
  pub read_inside : (access : Access w) → x.opcode ≡ OpD.AccessAckData
      → find (is_of link.0 x.source) (pending_accesses t) ≡ Some access
      → base_of w access.request.address + w * k + w ≤ 64
  read_inside access op pending =
      let answer = answering (ap is_release_ack op) in
      let q = pending-open levels link.0 x.source access t is legal pending in
      let same : q.asked ≡ answer.asked = same-some answer.asked q.asked (sym answer.kept ∙ q.is_kept) in
      let size : x.size ≡ access.request.size = answer.sized ∙ ap (λ (r : Request). r.size) (sym same) ∙ q.size_is in
      let inside = carried_inside w access.request.size access.request.address is q.small q.aligned in
      let whole : burst_length (Beat.D x) ≡ data_beats w access.request.size = rw op (ap (data_beats w) size) in
      let here = earlier_place w (burst_length (Beat.D x)) k fewer in
      let bytes : w * burst_length (Beat.D x) ≡ w * data_beats w access.request.size = ap (λ m. w * m) whole in
      omega (arith, inside, here, bytes)

  true-read : (expected : Option Expected) (b : Bool) → IsAllowed expected k x b → x.opcode ≡ OpD.AccessAckData
      → ExpectsBeat expected n link.0 OpD.AccessAckData x.source k t → (x.corrupt || x.denied) ≡ false
      → b ≡ is_true OpD.AccessAckData n link.0 x t
  true-read expected b allowed op e sound =
      go (find (is_of link.0 x.source) (pending_accesses t)) refl e
      ∙ unspoiled (x.corrupt || x.denied) (reads_truly n (find (is_of link.0 x.source) (pending_accesses t)) k x
      (found_after (find (is_of link.0 x.source) (pending_accesses t)) link.0 k t)) sound
    where
      go : (o : Option (Access w)) → find (is_of link.0 x.source) (pending_accesses t) ≡ o
          → ExpectsRead expected n o (found_after o link.0 k t) → b ≡ reads_truly n o k x (found_after o link.0 k t)
      go None pending e = allowed.anything (none expected e)
        where
          none : (q : Option Expected) → Expects {w = w} q n 0 None t → q ≡ None
          none None e = refl
          none (Some v) e = absurd e
      go (Some access) pending e =
          allowed.read n access (found_after (Some access) link.0 k t) e (read_inside access op pending)

  -- a response is true where its bytes are allowed, or it is corrupt, or carries none that are judged
  pub judged-true : (o : Option Granting) → KnowsGranting o (on_link link.0 t) → (expected : Option Expected)
      (opcode : OpD) (b : Bool) → opcode ≡ x.opcode
      → ExpectsBeat expected n link.0 opcode x.source k t → IsAllowed expected k x b → (x.corrupt || x.denied) ≡ false
      → is_judged opcode ≡ true → is_doubted opcode o ≡ false → b ≡ is_true opcode n link.0 x t
  judged-true o known expected OpD.GrantData b op e allowed sound judged sure =
      true-grant o known expected b allowed (sym op) e sound sure
  judged-true o known expected OpD.AccessAckData b op e allowed sound judged sure =
      true-read expected b allowed (sym op) e sound
  judged-true o known expected v b op e allowed sound judged sure = absurd cc
