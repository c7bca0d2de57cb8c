-- Reports that give bytes back.
use Rattle.std.proofs.Common.{◌≡◌, ◌≤◌, ◌<◌, ◌+◌, ◌*◌, ◌%◌, ℕ, Bool, true, false, not, ◌||◌, List, length}
use Rattle.std.proofs.Common.{refl, sym, ap, ◌∙◌, arith}
use Rattle.std.specs.Prelude.{Option, Some, None, is_some}
use Rattle.tl_beat.specs.declared.beat.Beat.{Beat}
use Rattle.tl_beat.specs.declared.beat.BeatC.{BeatC}
use Rattle.tl_beat.specs.declared.beat.Link.{Link}
use Rattle.tl_beat.specs.declared.channel.Channel.{Channel}
use Rattle.tl_beat.specs.statement.Width.{IsWidth}
use Rattle.tl_burst.specs.statement.Messages.{unfinished}
use Rattle.tl_bytes.specs.statement.Early.{is_released}
use Rattle.tl_bytes.specs.statement.Bytes.{carried_byte, could_be}
unfoldable use Rattle.tl_bytes.specs.statement.Bytes.{each_from}
use Rattle.tl_bytes.specs.statement.Free.{all_liberties}
use Rattle.tl_forgiving.proofs.Lawful.{lawful-beat}
use Rattle.tl_memory.proofs.messages.EarlyMessages.{released-is}
use Rattle.tl_memory.proofs.lawful.OpenAccesses.{is-fine, legal-on}
use Rattle.tl_memory.proofs.lawful.Unfinished.{room}
use Rattle.tl_memory.specs.code.Early.{is_answered}
use Rattle.tl_memory.specs.declared.early.Releasing.{Releasing}
use Rattle.tl_memory.specs.statement.Links.{AreLegal, IsLegal, KnowsReleasing}
use Rattle.tl_params.specs.declared.level.Level.{Level}
use Rattle.tl_rules.specs.statement.Admission.{is_spoiled, lanes_of}
use Rattle.tl_rules.specs.statement.Conformance.{Trace, on_link}
use Rattle.tl_rules.specs.statement.History.{block_at}
use Rattle.tl_commits.proofs.LoadedBytes.{brought-is, not-brought}
use Rattle.tl_commits.specs.code.GivingBack.{is_seen}
use Rattle.tl_commits.specs.statement.Completeness.{Completeness, is_complete}
use Rattle.tl_commits.specs.statement.Commits.{gives, gives_truly, may_give}
use Rattle.tl_commits.specs.statement.Copies.{brought, link_beats}
use Rattle.tl_commits.specs.statement.Events.{Events}

module _ {w : ℕ} (levels : List Level) (link : Link) (x : BeatC w) (t : Trace w) (is : IsWidth w)
    (legal : AreLegal levels t) (fine : IsLegal levels (link, Beat.C x) t) where
  -- a block has room for its bytes
  pub report-room : w * length (unfinished Channel.C (on_link link.0 t)) + w ≤ 64
  report-room =
      let f = is-fine _ levels (link, Beat.C x) t fine in
      room f.level (Beat.C x) (on_link link.0 t) is (legal-on _ levels link.0 f.level t f.has_level legal) f.fine

  -- whether its Release was answered is kept
  pub report-released : (o : Option Releasing) → KnowsReleasing o (on_link link.0 t)
      → is_released (block_at x.address) (Beat.C x) (on_link link.0 t) ≡ is_answered o
  report-released o known =
      let f = is-fine _ levels (link, Beat.C x) t fine in
      released-is all_liberties o x (on_link link.0 t)
      (lawful-beat all_liberties f.level (Beat.C x) (on_link link.0 t) f.fine).ordered known

module _ {w : ℕ} (complete : Completeness) (n link : ℕ) (x : BeatC w) (e : Events w) where
  -- a link of which not all stores are there isn't judged
  pub gives-unknown : is_complete complete link ≡ false → true ≡ gives_truly complete n link x e
  gives-unknown off = rw off refl

  -- nor is a report that was answered, or a beat that is corrupt
  pub gives-unjudged : (released spoiled both : Bool)
      → is_released (block_at x.address) (Beat.C x) (link_beats link e) ≡ released
      → spoiled ≡ is_spoiled (Beat.C x) → both ≡ (released || spoiled) → both ≡ true
      → true ≡ gives_truly complete n link x e
  gives-unjudged released spoiled both released_is spoiled_is both_is on =
      rw (released_is, ← spoiled_is) (go (not (is_complete complete link)) released spoiled (each_from
      (may_give complete n link e) (64 * block_at x.address + w * length (unfinished Channel.C (link_beats link e)))
      (lanes_of (Beat.C x))) (sym both_is ∙ on))
    where
      go : (a r s rest : Bool) → (r || s) ≡ true → true ≡ (a || (r || (s || rest)))
      go true r s rest f = refl
      go false true s rest f = refl
      go false false true rest f = refl
      go false false false rest f = absurd cc

  -- another is judged by its bytes
  pub gives-judged : (released spoiled both all : Bool) → is_complete complete link ≡ true
      → is_released (block_at x.address) (Beat.C x) (link_beats link e) ≡ released
      → spoiled ≡ is_spoiled (Beat.C x) → both ≡ (released || spoiled) → both ≡ false
      → all ≡ each_from (may_give complete n link e)
      (64 * block_at x.address + w * length (unfinished Channel.C (link_beats link e))) (lanes_of (Beat.C x))
      → all ≡ gives_truly complete n link x e
  gives-judged released spoiled both all known released_is spoiled_is both_is off is =
      is ∙ rw (known, released_is, ← spoiled_is) (go released spoiled (each_from (may_give complete n link e)
      (64 * block_at x.address + w * length (unfinished Channel.C (link_beats link e))) (lanes_of (Beat.C x)))
      (sym both_is ∙ off))
    where
      go : (r s rest : Bool) → (r || s) ≡ false → rest ≡ (r || (s || rest))
      go true s rest f = absurd cc
      go false true rest f = absurd cc
      go false false rest f = refl

  pub gives-none : x.lanes ≡ None → (from : ℕ) → true ≡ each_from (may_give complete n link e) from (lanes_of (Beat.C x))
  unfolding each_from
  gives-none none from = rw none refl

  pub gives-some : (block first count : ℕ) (lanes : List ℕ) (all : Bool) → x.lanes ≡ Some lanes
      → block ≡ block_at x.address → first ≡ w * count → all ≡ each_from (may_give complete n link e) (64 * block + first) lanes
      → all ≡ each_from (may_give complete n link e) (64 * block_at x.address + w * count) (lanes_of (Beat.C x))
  gives-some block first count lanes all some here at is = is ∙ rw (some, here, at) refl

-- ---- a byte

module _ {w : ℕ} (complete : Completeness) (n link : ℕ) (e : Events w) (block place v : ℕ) (small : place < 64) where
  -- the byte that a Grant under way has brought
  pub gives-brought : (value : Option ℕ) → is_some (brought (64 * block + place) (link_beats link e)) ≡ true
      → value ≡ carried_byte (unfinished Channel.D (link_beats link e)) place
      → could_be v value ≡ may_give complete n link e (64 * block + place) v
  gives-brought value on value_is =
      let at : (64 * block + place) % 64 ≡ place = omega (arith, small) in
      ap (could_be v) (value_is ∙ ap (λ p. carried_byte (unfinished Channel.D (link_beats link e)) p) (sym at))
      ∙ ap (λ o. gives o complete n (64 * block + place) v e)
      (sym (brought-is (64 * block + place) (link_beats link e) on))

  -- or else a possible one
  pub gives-possible : is_some (brought (64 * block + place) (link_beats link e)) ≡ false
      → is_seen complete n e (64 * block + place) v ≡ may_give complete n link e (64 * block + place) v
  gives-possible off =
      ap (λ o. gives o complete n (64 * block + place) v e)
      (sym (not-brought (brought (64 * block + place) (link_beats link e)) off))
