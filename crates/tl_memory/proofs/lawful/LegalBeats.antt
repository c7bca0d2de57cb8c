-- What is known of a beat that breaks no rule of its link, where none before it did.
use Rattle.tl_memory.proofs.Imports.{Beat, BeatA, BeatC, BeatD, History, Link, IsWidth, channel_of, unfinished, Level}
use Rattle.tl_memory.proofs.Imports.{Request, AreTyped, IsTyped, Trace, IsLegal, on_link, is_grant, is_release_ack}
use Rattle.tl_memory.proofs.Imports.{IsLegalBeat, IsResponse, AreLegal, all_liberties, block_at, broken_after_under}
use Rattle.tl_memory.proofs.Imports.{burst_length, ends, is_legal_under, request_of}
use Rattle.std.proofs.Common.{◌≡◌, ◌<◌, ◌/◌, ℕ, suc, Bool, true, false, List, [], ◌∷◌, length, find, refl, sym, ap, ◌∙◌}
use Rattle.std.proofs.Common.{arith}
use Rattle.std.specs.Prelude.{◌==◌, ◌+◌, if◌then◌else◌, Option, Some, None}
use Rattle.std.proofs.lemmas.Bool.{and_parts, eq-eqb, eqb-true}
use Rattle.tl_beat.specs.declared.beat.BeatE.{BeatE}
use Rattle.tl_beat.specs.declared.channel.Channel.{Channel}
use Rattle.tl_params.specs.declared.key.Key.TheVariants.{GrantAckOf}
use Rattle.tl_rules.specs.statement.Conformance.{comes_in_request}
use Rattle.tl_rules.specs.statement.History.{asks_for, is_sink, releases}
unfoldable use Rattle.tl_rules.specs.statement.History.{grant_sink, pending, release_of}
use Rattle.tl_rules.specs.statement.Liberties.{acknowledges}
use Rattle.tl_forgiving.proofs.Lawful.{lawful-beat, lawful-history}
use Rattle.tl_bytes.specs.statement.Bytes.{asked_since, is_of, pending_accesses}
use Rattle.tl_bytes.specs.statement.Early.{Outrun, outruns}
unfoldable use Rattle.tl_bytes.specs.statement.Early.{outrun_accesses}
use Rattle.tl_memory.specs.code.Elsewhere.{block_granted, block_released, block_requested}
use Rattle.tl_memory.specs.code.Taking.{IsLegalAck, IsRequested}
use Rattle.tl_memory.specs.declared.early.{Granting.Granting, Releasing.Releasing}
use Rattle.tl_memory.specs.declared.link.LinkMessages.{LinkMessages}
use Rattle.tl_memory.specs.statement.Links.{KnowsGranting, KnowsMessages, KnowsReleasing}
unfoldable use Rattle.tl_memory.specs.statement.Links.{granted_request}
use Rattle.tl_memory.{proofs.lawful.Answering.is-answering, proofs.lawful.Apart.are-asked}
use Rattle.tl_memory.{proofs.lawful.Apart.are-continued}
use Rattle.tl_memory.proofs.lawful.Sinks.{AreGiven, are-given}
use Rattle.tl_memory.{proofs.messages.Masks.few, proofs.messages.Masks.positive, proofs.lawful.OpenAccesses.is-fine}
use Rattle.tl_memory.{proofs.lawful.OpenAccesses.legal-on, proofs.lawful.Unfinished.has-room}
use Rattle.tl_memory.{proofs.lawful.Unfinished.room}
use Rattle.tl_memory.{proofs.lawful.Open.ack-whole, proofs.lawful.Unfinished.fewer-before}
use Rattle.tl_memory.proofs.lawful.Complete.{lawful-asked, wide-burst, writes-inside}
use Rattle.tl_memory.proofs.lawful.OutrunNames.{IsOut}
use Rattle.tl_memory.proofs.lawful.OutrunRequests.{IsFrom, kept-fields, outrun-from}
use Rattle.tl_memory.proofs.lawful.OutrunOnce.{all-in, are-once}
use Rattle.tl_memory.proofs.lawful.OutrunBeats.{is-coming, out-bare, out-block, settles-asked}
use Rattle.tl_memory.proofs.Plain.{true_false, some-same}

module _ {w : ℕ} (levels : List Level) (link : Link) (t : Trace w) (is : IsWidth w)
    (legal : AreLegal levels t) where
  abbrev past : History w
  past = on_link link.0 t

  from : (s : ℕ) (a : Outrun) → IsOut link.0 s a t → IsFrom s a past
  from s a out = outrun-from levels is link.0 s a t legal out

  pub request-legal : (y : BeatA w) → AreTyped (Beat.A y ∷ unfinished Channel.A (on_link link.0 t))
      → IsLegal levels (link, Beat.A y) t → IsRequested link.0 y t
  request-legal y typed fine =
      let f = is-fine _ levels (link, Beat.A y) t fine in
      let lawful = legal-on _ levels link.0 f.level t f.has_level legal in
      let since = asked_since (find (is_of link.0 y.source) (pending_accesses t)) (suc (length t)) in
      record {
        room = has-room f.level (Beat.A y) (on_link link.0 t) is typed.0 lawful f.fine;
        wide = λ carries. wide-burst f.level link.0 y (on_link link.0 t) 0 is typed lawful f.fine carries;
        lawful = λ asked. lawful-asked f.level link.0 y (on_link link.0 t) since is typed lawful f.fine asked;
        inside = λ asked. writes-inside f.level link.0 y (on_link link.0 t) since is typed lawful f.fine;
        continued = are-continued levels is link y t legal fine;
        outran = all-in link.0 y.source (block_at y.address) (outrun_accesses t) (are-once t) (λ a out.
            eq-eqb (a.address / 64) (y.address / 64)
            (out-block f.level past is lawful a y f.fine (from y.source a out)));
        unsettled = λ unasked. settles-asked f.level past is lawful link.0 y (outrun_accesses t) f.fine
            (λ a out. from y.source a out) unasked;
      }

  pub response-legal : (y : BeatD w) → IsLegal levels (link, Beat.D y) t
      → is_release_ack y.opcode ≡ false → (asked : Request) × IsResponse link.0 y asked t
  response-legal y fine other =
      let f = is-fine _ levels (link, Beat.D y) t fine in
      let lawful = legal-on _ levels link.0 f.level t f.has_level legal in
      let k = is-answering f.level y (on_link link.0 t) lawful f.fine other in (
        k.asked,
        record {
          kept = k.kept;
          complete = λ late. whole other late;
          coming = λ outrun. is-coming f.level past is lawful y k.asked k.kept outrun;
          answers_it = k.admitted;
          are_asked = are-asked levels is link.0 y.source k.asked t legal k.kept;
          outran = all-in link.0 y.source k.asked.block (outrun_accesses t) (are-once t) (λ a out.
              let g = from y.source a out in
              eq-eqb (a.address / 64) k.asked.block (sym g.block_is ∙ ap (λ (r : Request). r.block)
              (some-same (sym g.request_is ∙ kept-fields y.source k.asked past k.kept))));
          bare = λ bare. out-bare link.0 y.source k.asked t k.kept (λ a out. from y.source a out) bare;
          room = (room f.level (Beat.D y) (on_link link.0 t) is lawful f.fine, positive w);
        },
      )
    where
      whole : is_release_ack y.opcode ≡ false → outruns y past ≡ false
          → comes_in_request y.source (unfinished Channel.A past) ≡ false
      whole other late = rw other at late

  -- a ReleaseAck has one beat
  lone : (l : Level) (y : BeatD w) → is_legal_under all_liberties l past ≡ true
      → broken_after_under all_liberties l (Beat.D y) past ≡ None → is_release_ack y.opcode ≡ true
      → ends (Beat.D y) past ≡ true
  lone l y lawful fine ack =
      let fewer = fewer-before l (Beat.D y) past is lawful fine in
      let whole = ack-whole y ack in
      eq-eqb (length (unfinished Channel.D past) + 1) (burst_length (Beat.D y)) (omega (arith, fewer, whole))

  -- a ReleaseAck answers the Release whose beats are unfinished, if that has its source
  released-once : (y : BeatD w) (o : Option Releasing) → KnowsReleasing o past → (k block : ℕ)
      → block_released y.source (unfinished Channel.C past) ≡ Some block
      → releases k (release_of y.source past) ≡ true → block ≡ k
  released-once y None known k block there own = absurd (never (unfinished Channel.C past) refl there)
    where
      never : (burst : List (Beat w)) → unfinished Channel.C past ≡ burst → block_released y.source burst ≡ Some block → ⊥
      never [] e f = absurd cc
      never (Beat.A z ∷ rest) e f = absurd cc
      never (Beat.B z ∷ rest) e f = absurd cc
      never (Beat.C z ∷ rest) e f = absurd (let no : None ≡ Some block = rw (known z rest e) at f in cc)
      never (Beat.D z ∷ rest) e f = absurd cc
      never (Beat.E z ∷ rest) e f = absurd cc
  released-once y (Some r) known k block there own =
      go (known.0.source == y.source) refl (rw (known.2, known.3) at there)
    where
      same-block : (o : Option (BeatC w)) (a b : ℕ) → releases a o ≡ true → releases b o ≡ true → a ≡ b
      same-block None a b e f = absurd cc
      same-block (Some z) a b e f = sym (eqb-true (block_at z.address) a e) ∙ eqb-true (block_at z.address) b f

      go : (same : Bool) → (known.0.source == y.source) ≡ same
          → ◌≡◌ {A = Option ℕ} (if same then Some (block_at known.0.address) else None) (Some block) → block ≡ k
      go false e f = absurd cc
      go true e f =
          sym (some-same f) ∙ sym known.4.block_is
          ∙ same-block (release_of y.source past) r.block k
          (ap (λ s. releases r.block (release_of s past)) (sym (eqb-true known.0.source y.source e)) ∙ known.4.of_block) own

  -- what is known of a GrantAck
  ack-legal : (l : Level) → is_legal_under all_liberties l past ≡ true → (y : BeatE) (o : Option Granting)
      → KnowsGranting o past → IsLegalAck link.0 y t
  ack-legal l lawful y o known = record {
    one = λ k block there own. once o known k block there own (are-given all_liberties l past
        (lawful-history all_liberties l past lawful));
    asked = λ z older burst grant none. unasked o known z older burst grant none;
  }
    where
      same-d : {x z : BeatD w} → Beat.D x ≡ Beat.D z → x ≡ z
      same-d e = cc

      head : {X : Type 0} {x z : X} {xs zs : List X} → x ∷ xs ≡ z ∷ zs → x ≡ z
      head e = cc

      unasked : (o : Option Granting) → KnowsGranting o past → (z : BeatD w) (older : List (Beat w))
          → unfinished Channel.D past ≡ Beat.D z ∷ older → is_grant z.opcode ≡ true → request_of z.source past ≡ None → ⊥
      unasked None known z older burst grant none = true_false (sym grant ∙ known z older burst)
      unasked (Some g) known z older burst grant none =
          let same : known.0 ≡ z = same-d (head (sym known.2 ∙ burst)) in
          true_false (sym (ap (λ (v : BeatD w). asks_for g.block (request_of v.source past)) (sym same)
          ∙ known.4.of_block) ∙ ap (asks_for g.block) none)

      same-block : (q : Option (BeatA w)) (a b : ℕ) → asks_for a q ≡ true → asks_for b q ≡ true → a ≡ b
      same-block None a b e f = absurd cc
      same-block (Some z) a b e f = sym (eqb-true (block_at z.address) a e) ∙ eqb-true (block_at z.address) b f

      sink-of : (q : Option ℕ) → is_sink y.sink q ≡ true → q ≡ Some y.sink
      sink-of None e = absurd cc
      sink-of (Some n) e = ap Some (eqb-true n y.sink e)

      requested : (q : Option (BeatA w)) (block : ℕ) → block_requested q ≡ Some block → asks_for block q ≡ true
      requested None block e = absurd cc
      requested (Some z) block e = eq-eqb (block_at z.address) block (some-same e)

      never : (block : ℕ) (burst : List (Beat w)) → ((z : BeatD w) (rest : List (Beat w)) → burst ≡ Beat.D z ∷ rest
          → is_grant z.opcode ≡ false) → block_granted y.sink burst past ≡ Some block → ⊥
      never block [] none e = absurd cc
      never block (Beat.A z ∷ rest) none e = absurd cc
      never block (Beat.B z ∷ rest) none e = absurd cc
      never block (Beat.C z ∷ rest) none e = absurd cc
      never block (Beat.D z ∷ rest) none e = absurd (let no : None ≡ Some block = rw (none z rest refl) at e in cc)
      never block (Beat.E z ∷ rest) none e = absurd cc

      once : (o : Option Granting) → KnowsGranting o past → (k block : ℕ)
          → block_granted y.sink (unfinished Channel.D past) past ≡ Some block
          → acknowledges k y.sink past ≡ true → AreGiven past → block ≡ k
      once None known k block there own given = absurd (never block (unfinished Channel.D past) known there)
      once (Some g) known k block there own given =
          let both = and_parts (pending (GrantAckOf k) past) (is_sink y.sink (grant_sink k past)) own in
          let its = given k y.sink both.0 (sink-of (grant_sink k past) both.1) in
          go (known.0.sink == y.sink) refl (rw (known.2, known.3) at there) its.own
        where
          go : (same : Bool) → (known.0.sink == y.sink) ≡ same
              → (if same then block_requested (request_of known.0.source past) else None) ≡ Some block
              → asks_for k (granted_request y.sink past) ≡ true → block ≡ k
          go false e f own = absurd cc
          go true e f own =
              same-block (request_of known.0.source past) block g.block
              (requested (request_of known.0.source past) block f) known.4.of_block
              ∙ same-block (granted_request y.sink past) g.block k
              (ap (λ s. asks_for g.block (granted_request s past)) (sym (eqb-true known.0.sink y.sink e)) ∙ known.4.given)
              own

  -- a block has room for the beats before it of its message
  pub few-before : (y : Beat w) → IsLegal levels (link, y) t
      → length (unfinished (channel_of y) (on_link link.0 t)) < 64
  few-before y fine =
      let f = is-fine _ levels (link, y) t fine in
      let left = room f.level y (on_link link.0 t) is (legal-on _ levels link.0 f.level t f.has_level legal) f.fine in
      let short = few w (length (unfinished (channel_of y) (on_link link.0 t))) is left in
      omega (arith, short)

  pub legal-beat : (m : LinkMessages) → KnowsMessages m past → (y : Beat w)
      → ((x : BeatA w) → y ≡ Beat.A x → IsTyped (Beat.A x)) → IsLegal levels (link, y) t → IsLegalBeat link.0 y t
  legal-beat m known (Beat.A y) typed fine = request-legal y (typed y refl, known.typed) fine
  legal-beat m known (Beat.C y) typed fine =
      let f = is-fine _ levels (link, Beat.C y) t fine in (
        (
          room f.level (Beat.C y) (on_link link.0 t) is (legal-on _ levels link.0 f.level t f.has_level legal) f.fine,
          positive w,
        ),
        (lawful-beat all_liberties f.level (Beat.C y) past f.fine).ordered,
      )
  legal-beat m known (Beat.D y) typed fine =
      let f = is-fine _ levels (link, Beat.D y) t fine in
      record {
        ordered = (lawful-beat all_liberties f.level (Beat.D y) past f.fine).ordered;
        answer = response-legal y fine;
        one_beat = λ ack. lone f.level y (legal-on _ levels link.0 f.level t f.has_level legal) f.fine ack;
        released = released-once y m.releasing known.releasing_is;
      }
  legal-beat m known (Beat.E y) typed fine =
      let f = is-fine _ levels (link, Beat.E y) t fine in
      ack-legal f.level (legal-on _ levels link.0 f.level t f.has_level legal) y m.granting known.granting_is
  legal-beat m known (Beat.B y) typed fine = tt
