-- A response while it is on its way: its beats, and what the run was before them.
use Rattle.tl_true_bytes.proofs.Imports.{Beat, BeatD, Link, OpD, History, unfinished, Trace, on_link, Memory, grants}
use Rattle.tl_true_bytes.proofs.Imports.{is_grant, is_release_ack, request_of, Op, Reply, Machine, Open, Requests}
use Rattle.tl_true_bytes.proofs.Imports.{tail_is, same_d, IsResponse, IsRightBeat}
use Rattle.tl_true_bytes.proofs.Imports.{Performs, Run, everywhere, run_before}
use Rattle.tl_true_bytes.proofs.Imports.{after_access, performed_all, with_end, with_reply, with_whole, Channel}
use Rattle.std.proofs.Common.{◌≡◌, ℕ, suc, ◌+◌, Bool, true, false, ◌&&◌, List, [], ◌∷◌, length, Some, None, refl, sym}
use Rattle.std.proofs.Common.{◌∙◌, ap, subst}
use Rattle.std.specs.Prelude.{if◌then◌else◌, ◌==◌, Option}
use Rattle.std.proofs.lemmas.Bool.{and_parts, eq-eqb, eqb-true}
use Rattle.tl_burst.specs.statement.Messages.{burst_length, on}
use Rattle.tl_rules.specs.statement.History.{asks_for, begins}
use Rattle.tl_true_bytes.specs.code.Beside.{is_accessing, left_after}

-- ---- what isn't taken makes no difference to what was before a beat

before-access : {w : ℕ} (c j q source : ℕ) (o : Option (Open w)) (f : Memory) (run : Run w)
    → run_before c (suc j) (after_access q source o f run) ≡ run_before c (suc j) run
unfolding run_before
before-access c j q source None f run = refl
before-access {w} c j q source (Some o) f run = go (is_accessing o.asked)
  where
    go : (b : Bool) → run_before c (suc j) (if b then Performs q source everywhere (left_after o.asked f) ∷ run else
        run) ≡ run_before c (suc j) run
    go true = refl
    go false = refl

pub before-performed : {w : ℕ} (c j : ℕ) (l : List (ℕ × ℕ)) (m : Machine w) (run : Run w)
    → run_before c (suc j) (performed_all l m run) ≡ run_before c (suc j) run
before-performed c j [] m run = refl
before-performed c j (x ∷ l) m run =
    before-performed c j l m (after_access x.0 x.1 (m.opened x.0 Requests x.1) m.memory run)
    ∙ before-access c j x.0 x.1 (m.opened x.0 Requests x.1) m.memory run

pub before-reply : {w : ℕ} (c j : ℕ) (o : Op w) (r : Reply) (f : Memory) (run : Run w)
    → run_before c (suc j) (with_reply o r f run) ≡ run_before c (suc j) run
unfolding run_before
before-reply c j o (Reply.Value v) f run = refl
before-reply c j o Reply.Miss f run = refl
before-reply c j o (Reply.Started source) f run = refl
before-reply c j o (Reply.Busy why) f run = refl
before-reply c j (Op.Store address size value) Reply.Stored f run = refl
before-reply c j (Op.Load address size) Reply.Stored f run = refl
before-reply c j (Op.Acquire block grow) Reply.Stored f run = refl
before-reply c j (Op.AcquireWhole block bytes) Reply.Stored f run = refl
before-reply c j (Op.Release block prune) Reply.Stored f run = refl
before-reply c j (Op.Access a) Reply.Stored f run = refl

before-whole : {w : ℕ} (c j : ℕ) (o : Op w) (f : Memory) (run : Run w)
    → run_before c (suc j) (with_whole o f run) ≡ run_before c (suc j) run
unfolding run_before
before-whole c j (Op.Store address size value) f run = refl
before-whole c j v f run = refl

pub before-end : {w : ℕ} (c j : ℕ) (o : Option (Open w)) (f : Memory) (run : Run w)
    → run_before c (suc j) (with_end o f run) ≡ run_before c (suc j) run
before-end c j None f run = refl
before-end c j (Some o) f run = before-whole c j o.asked f run

-- ---- a beat while a response is on its way

-- the beats of a Grant that have come are of one of the block
abbrev pub AreGranting : {w : ℕ} → ℕ → List (Beat w) → History w → Type 0
AreGranting {w} block u h = (v : BeatD w) (rest : List (Beat w)) → u ≡ Beat.D v ∷ rest → grants block v h ≡ true

-- what is begun with one more beat was begun before, or is begun or goes on with it
pub record IsBegunBefore {w : ℕ} (c block : ℕ) (u : List (Beat w)) (link : Link) (y : Beat w) (t : Trace w) : Type 0
  where
    pub other : (link.0 == c) && on Channel.D y ≡ false
    pub same : unfinished Channel.D (on_link c t) ≡ u
    pub granting : AreGranting block u (on_link c t)

pub record IsBegunWith {w : ℕ} (c block : ℕ) (v : BeatD w) (rest : List (Beat w)) (link : Link) (y : Beat w)
    (t : Trace w) :
    Type 0 where
  pub own : (link.0 == c) && on Channel.D y ≡ true
  pub link_is : link.0 ≡ c
  pub beat_is : y ≡ Beat.D v
  pub same : unfinished Channel.D (on_link c t) ≡ rest
  pub granted : grants block v (on_link c t) ≡ true
  pub granting : AreGranting block rest (on_link c t)

pub grants-same : {w : ℕ} (block : ℕ) (v z : BeatD w) (h : History w) → v.opcode ≡ z.opcode → v.source ≡ z.source
    → grants block v h ≡ true → grants block z h ≡ true
grants-same block v z h e f granted = rw (← e, ← f) granted

-- a Grant isn't an acknowledgement
no_ack : (o : OpD) → is_grant o ≡ true → is_release_ack o ≡ false
no_ack OpD.ReleaseAck e = absurd cc
no_ack v e = refl

module _ {w : ℕ} (c block : ℕ) (v : BeatD w) (rest : List (Beat w)) (link : Link) (y : Beat w) (t : Trace w)
    (right : IsRightBeat link.0 y t) where
  -- the link's history is as it was
  pub elsewhere : (link.0 == c) ≡ false → unfinished Channel.D (on_link c ((link, y) ∷ t)) ≡ Beat.D v ∷ rest
      → grants block v (on_link c ((link, y) ∷ t)) ≡ true → IsBegunBefore c block (Beat.D v ∷ rest) link y t
  unfolding on_link
  elsewhere e begun_so granted = record {
    other = rw e refl;
    same = rw e at begun_so;
    granting = λ z older f. subst (λ (b : BeatD w). grants block b (on_link c t) ≡ true)
        (same_d v z (tail_is (Beat.D v) (Beat.D z) rest older f).0) (rw e at granted);
  }

  -- a beat of another channel changes no request that is answered
  pub beside : link.0 ≡ c → on Channel.D y ≡ false → unfinished Channel.D (y ∷ on_link c t) ≡ Beat.D v ∷ rest
      → grants block v (y ∷ on_link c t) ≡ true → IsBegunBefore c block (Beat.D v ∷ rest) link y t
  unfolding unfinished request_of
  beside here off begun_so granted = record {
    other = rw (here, off) (never (c == c));
    same = rw off at begun_so;
    granting = λ z older f. subst (λ (b : BeatD w). grants block b (on_link c t) ≡ true)
        (same_d v z (tail_is (Beat.D v) (Beat.D z) rest older f).0) (kept y right granted (rw off at begun_so));
  }
    where
      never : (b : Bool) → b && false ≡ false
      never true = refl
      never false = refl

      kept : (b : Beat w) → IsRightBeat link.0 b t → grants block v (b ∷ on_link c t) ≡ true
          → unfinished Channel.D (on_link c t) ≡ Beat.D v ∷ rest → grants block v (on_link c t) ≡ true
      kept (Beat.B z) is g u = g
      kept (Beat.C z) is g u = g
      kept (Beat.D z) is g u = g
      kept (Beat.E z) is g u = g
      kept (Beat.A z) is g u = first (begins (Beat.A z) (on_link c t)) (z.source == v.source) refl g
        where
          fresh : v.source ≡ z.source → ⊥
          fresh = is v rest (ap (λ (k : ℕ). unfinished Channel.D (on_link k t)) here ∙ u)
              (no_ack v.opcode (and_parts (is_grant v.opcode) _ g).0)

          first : (b own : Bool) → (z.source == v.source) ≡ own
              → is_grant v.opcode && asks_for block (if b && own then Some z else request_of v.source (on_link c t))
              ≡ true → is_grant v.opcode && asks_for block (request_of v.source (on_link c t)) ≡ true
          first b true e i = absurd (fresh (sym (eqb-true z.source v.source e)))
          first true false e i = i
          first false false e i = i

  -- a beat of the response itself
  pub goes-on : link.0 ≡ c → (z : BeatD w) → y ≡ Beat.D z → unfinished Channel.D (Beat.D z ∷ on_link c t) ≡ Beat.D
      v ∷ rest → grants block v (Beat.D z ∷ on_link c t) ≡ true → IsBegunWith c block v rest link y t
  unfolding unfinished request_of
  goes-on here z y_is begun_so granted =
      more (length (unfinished Channel.D (on_link c t)) + 1 == burst_length (Beat.D z)) begun_so
    where
      response : IsResponse link.0 z t
      response = subst (λ (b : Beat w). IsRightBeat link.0 b t) y_is right

      made : Beat.D z ∷ unfinished Channel.D (on_link c t) ≡ Beat.D v ∷ rest → IsBegunWith c block v rest link y t
      made e = record {
        own = rw (eq-eqb link.0 c here, y_is) refl;
        link_is = here;
        beat_is = y_is ∙ both.0;
        same = both.1;
        granted = granted;
        granting = λ i older f.
            let on = response.continues i older (ap (λ (k : ℕ). unfinished Channel.D (on_link k t)) here ∙ both.1 ∙ f)
            in
            grants-same block v i (on_link c t) (sym (ap (λ (b : BeatD w). b.opcode) z_is) ∙ on.0)
            (sym (ap (λ (b : BeatD w). b.source) z_is) ∙ on.1) granted;
      }
        where
          both : (Beat.D z ≡ Beat.D v) × (unfinished Channel.D (on_link c t) ≡ rest)
          both = tail_is (Beat.D z) (Beat.D v) (unfinished Channel.D (on_link c t)) rest e

          z_is : z ≡ v
          z_is = same_d z v both.0

      more : (b : Bool) → (if b then [] else Beat.D z ∷ unfinished Channel.D (on_link c t)) ≡ Beat.D v ∷ rest
          → IsBegunWith c block v rest link y t
      more true e = absurd cc
      more false e = made e
