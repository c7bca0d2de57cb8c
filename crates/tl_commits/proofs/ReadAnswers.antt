-- Beats of an AccessAckData, judged by the bytes that the access may have found.
use Rattle.std.proofs.Common.{◌≡◌, ◌+◌, ◌*◌, ◌/◌, ℕ, Bool, true, false, not, ◌||◌, List, length, refl, sym, ap, ap₂}
use Rattle.std.proofs.Common.{◌∙◌, ◌<◌, ◌≤◌, arith, find, subst}
use Rattle.std.specs.Prelude.{is_some, Option, Some, None}
use Rattle.tl_beat.specs.declared.beat.Beat.{Beat}
use Rattle.tl_beat.specs.declared.beat.BeatD.{BeatD}
use Rattle.tl_beat.specs.declared.beat.Link.{Link}
use Rattle.tl_beat.specs.declared.channel.Channel.{Channel}
use Rattle.tl_beat.specs.declared.opcode.OpA.{OpA}
use Rattle.tl_beat.specs.declared.opcode.OpD.{OpD}
use Rattle.tl_beat.specs.statement.Width.{IsWidth}
use Rattle.tl_burst.specs.statement.Messages.{unfinished}
use Rattle.tl_bytes.proofs.Finding.{same-some}
use Rattle.tl_bytes.specs.statement.Bytes as bytes
use Rattle.tl_bytes.specs.statement.Bytes.{Access, each_from, is_put, pending_accesses}
use Rattle.tl_memory.proofs.lawful.Answering.{is-answering}
use Rattle.tl_memory.proofs.lawful.OpenAccesses.{is-fine, legal-on, pending-open}
use Rattle.tl_memory.specs.code.ByteSet.{has_at}
use Rattle.tl_memory.specs.statement.Known.{AnyIsTo}
use Rattle.tl_memory.specs.statement.Links.{AreLegal, IsLegal}
use Rattle.tl_params.specs.declared.level.Level.{Level}
use Rattle.tl_rules.proofs.Rooms.{base_in_memory}
use Rattle.tl_rules.specs.code.Place.{base_of}
use Rattle.tl_rules.specs.declared.past.Request.{Request}
use Rattle.tl_rules.specs.statement.Admission.{is_spoiled, lanes_of}
use Rattle.tl_rules.specs.statement.Conformance.{Trace, answers, on_link}
use Rattle.tl_rules.specs.statement.History.{block_at, is_release_ack}
use Rattle.std.proofs.lemmas.Bool.{eq-eqb}
use Rattle.tl_commits.specs.code.Reached.{is_reached}
use Rattle.tl_commits.specs.code.Reading.{AllowsAs, IsReading, allows, IsReadingOf, KnowsReadings, come, found_by}
use Rattle.tl_commits.specs.code.Reading.{is_of}
use Rattle.tl_commits.specs.declared.reading.Reading.{Reading}
use Rattle.tl_commits.specs.statement.Completeness.{Completeness}
use Rattle.tl_commits.specs.statement.Copies.{link_beats}
use Rattle.tl_commits.specs.statement.Events.{Events, beats_of}
use Rattle.tl_commits.specs.declared.responding.ResponseBytes.{ResponseBytes}
use Rattle.tl_commits.specs.code.Responding.{AreAnswered}
use Rattle.tl_commits.specs.statement.True.{found_after_seen, is_true_seen, may_answer_seen}
use Rattle.tl_commits.proofs.PendingReads.{HasNames, names-of}
use Rattle.tl_commits.proofs.AnswerBeats.{own-beats}

module _ {w : ℕ} (levels : List Level) (width : IsWidth w) (link : Link) (z : BeatD w) (e : Events w)
    (legal : AreLegal levels (beats_of e)) (fine : IsLegal levels (link, Beat.D z) (beats_of e))
    (complete : Completeness) (n : ℕ) (op : z.opcode ≡ OpD.AccessAckData) where
  abbrev t : Trace w
  t = beats_of e

  abbrev asked : Option (Access w)
  asked = find (bytes.is_of link.0 z.source) (pending_accesses t)

  abbrev k : ℕ
  k = length (unfinished Channel.D (link_beats link.0 e))

  abbrev is_true : Bool
  is_true = is_true_seen complete OpD.AccessAckData n link.0 z e

  -- what answers with data is no Put
  no-put : (p : Access w) → asked ≡ Some p → is_put p.request.opcode ≡ false
  no-put p pending =
      let f = is-fine _ levels (link, Beat.D z) t fine in
      let answer = is-answering f.level z (on_link link.0 t) (legal-on _ levels link.0 f.level t f.has_level legal) f.fine
      (ap is_release_ack op) in
      let q = pending-open levels link.0 z.source p t width legal pending in
      let same : q.asked ≡ answer.asked = same-some answer.asked q.asked (sym answer.kept ∙ q.is_kept) in
      let opcode : answer.asked.opcode ≡ p.request.opcode = ap (λ (r : Request). r.opcode) (sym same) ∙ q.opcode_is in
      go p.request.opcode (ap₂ (λ d a. answers d a) (sym op) (sym opcode) ∙ answer.admitted)
    where
      go : (opcode : OpA) → answers OpD.AccessAckData opcode ≡ true → is_put opcode ≡ false
      go OpA.PutFullData e = absurd cc
      go OpA.PutPartialData e = absurd cc
      go v e = refl

  -- bytes in doubt aren't judged
  pub read-spoiled : is_spoiled (Beat.D z) ≡ true → true ≡ is_true
  read-spoiled on = rw on refl

  -- nor those of an answer to no pending access
  pub read-gone : asked ≡ None → true ≡ is_true
  read-gone none = rw none (either (is_spoiled (Beat.D z)))
    where
      either : (b : Bool) → true ≡ (b || true)
      either true = refl
      either false = refl

  -- a pending access has a reading
  pub unkept-none : (readings : List Reading) → KnowsReadings readings complete n e
      → find (is_of link.0 z.source) readings ≡ None → asked ≡ None
  unkept-none readings known none = go asked refl
    where
      go : (o : Option (Access w)) → asked ≡ o → asked ≡ None
      go None pending = pending
      go (Some p) pending = absurd (never (find (is_of link.0 z.source) readings) none
          (known link.0 z.source p pending (no-put p pending)))
        where
          never : (q : Option Reading) → q ≡ None → IsReadingOf q complete n p e → ⊥
          never None none is = is
          never (Some r) none is = absurd cc

  pub read-unkept : (readings : List Reading) → KnowsReadings readings complete n e
      → find (is_of link.0 z.source) readings ≡ None → true ≡ is_true
  read-unkept readings known none = read-gone (unkept-none readings known none)

  -- this is its reading
  pub kept-of : (readings : List Reading) (r : Reading) (p : Access w) → KnowsReadings readings complete n e
      → find (is_of link.0 z.source) readings ≡ Some r → asked ≡ Some p → IsReading r complete n p e
  kept-of readings r p known found pending =
      go (find (is_of link.0 z.source) readings) found (known link.0 z.source p pending (no-put p pending))
    where
      go : (q : Option Reading) → q ≡ Some r → IsReadingOf q complete n p e → IsReading r complete n p e
      go None some is = absurd cc
      go (Some v) some is = rw (same-some v r some) is

  -- the block of the reading is that of the access, if one is pending
  pub read-to : (readings : List Reading) (r : Reading) → KnowsReadings readings complete n e
      → find (is_of link.0 z.source) readings ≡ Some r → AnyIsTo (block_at r.address) asked
  read-to readings r known found = go asked refl
    where
      go : (o : Option (Access w)) → asked ≡ o → AnyIsTo (block_at r.address) o
      go None pending = tt
      go (Some p) pending =
          let is = kept-of readings r p known found pending in
          eq-eqb (block_at p.request.address) (block_at r.address) (ap block_at (sym is.address_is))

  -- the bytes of the reading are those that the access may have found
  abbrev pub test : Access w → ℕ → ℕ → Bool
  test p = may_answer_seen complete n p (found_by p e)

  pub allows-as : (r : Reading) (p : Access w) → IsReading r complete n p e
      → AllowsAs r (block_at r.address) (test p)
  allows-as r p is place v lt small =
      rw (is.address_is, is.size_is) (so (is_reached p.request.address p.request.size place) _ _
      (λ there. is.found_are place v lt small (rw (is.address_is, is.size_is) there)))
    where
      so : (there a b : Bool) → (there ≡ true → a ≡ b) → (not there || a) ≡ (not there || b)
      so true a b k = k refl
      so false a b k = refl

  -- the events after which the access found its bytes at the latest
  by-then : (p : Access w) → asked ≡ Some p → found_by p e ≡ found_after_seen (Some p) link.0 k e
  by-then p pending = ap₂ (λ i j. found_after_seen (Some p) i j e) names.link_is count
    where
      names : HasNames p link.0 z.source
      names = names-of link.0 z.source p (pending_accesses t) pending

      count : come p.link p.request.source e ≡ k
      count = ap₂ (λ i j. come i j e) names.link_is names.source_is
          ∙ own-beats levels width link (Beat.D z) e legal fine link.0 z.source z refl refl refl

  -- an access whose bytes are judged so
  pub read-judged : (r : Reading) (p : Access w) (all : Bool) → asked ≡ Some p → IsReading r complete n p e
      → is_spoiled (Beat.D z) ≡ false
      → all ≡ each_from (test p) (w * (r.address / w) + w * k) (lanes_of (Beat.D z)) → all ≡ is_true
  read-judged r p all pending is sound each =
      each ∙ ap (λ a. each_from (test p) (w * (a / w) + w * k) (lanes_of (Beat.D z))) is.address_is
      ∙ ap (λ u. each_from (may_answer_seen complete n p u) (w * (p.request.address / w) + w * k) (lanes_of (Beat.D z)))
      (by-then p pending)
      ∙ rw (sound, pending) refl

  -- the values that its bytes may have
  pub answer-are : (r : Reading) (p : Access w) (b : ResponseBytes) → asked ≡ Some p → IsReading r complete n p e
      → b.block ≡ block_at r.address → b.first ≡ base_of w r.address + w * k → b.first + w ≤ 64
      → ((place v : ℕ) → place < 64 → v < 256 → has_at b.sets place v ≡ allows r place v)
      → AreAnswered (Some b) complete n link.0 asked e
  answer-are r p b pending is here first inside sets = rw pending (record {
    from_is =
        let start = base_in_memory w r.address width in
        let from : 64 * b.block + b.first ≡ w * (r.address / w) + w * k = omega (arith, here, first, start) in
        from ∙ ap (λ a. w * (a / w) + w * k) is.address_is;
    inside = inside;
    sets_are = λ place v lt small.
        sets place v lt small ∙ allows-as r p is place v lt small
        ∙ ap (λ i. test p (64 * i + place) v) (sym here)
        ∙ ap (λ u. may_answer_seen complete n p u (64 * b.block + place) v) (by-then p pending);
  })

  -- ---- whether the access is pending

  module _ (readings : List Reading) (r : Reading) (known : KnowsReadings readings complete n e)
      (found : find (is_of link.0 z.source) readings ≡ Some r) (block : ℕ) (here : block ≡ block_at r.address) (b : Bool)
      (pends : AnyIsTo block asked → b ≡ is_some asked) where
    is-some : b ≡ is_some asked
    is-some = pends (subst (λ i. AnyIsTo i asked) (sym here) (read-to readings r known found))

    pub unpending-none : b ≡ false → asked ≡ None
    unpending-none off = none asked (sym is-some ∙ off)
      where
        none : (o : Option (Access w)) → is_some o ≡ false → o ≡ None
        none None e = refl
        none (Some p) e = absurd cc

    pub read-unpending : b ≡ false → true ≡ is_true
    read-unpending off = read-gone (unpending-none off)

    pub read-pending : b ≡ true → (p : Access w) × (asked ≡ Some p)
    read-pending on = some asked (sym is-some ∙ on)
      where
        some : (o : Option (Access w)) → is_some o ≡ true → (p : Access w) × (o ≡ Some p)
        some None e = absurd cc
        some (Some p) e = (p, refl)
