-- A Grant brings what memory had before its first beat, when no link held Trunk.
use Rattle.tl_true_bytes.proofs.Imports.{Beat, BeatD, Link, Channel, unfinished, Config, Trace, on_link, Memory}
use Rattle.tl_true_bytes.proofs.Imports.{block_at, grants, is_free, Op, Event, Ask, Deliver, Outcome, EachTaken}
use Rattle.tl_true_bytes.proofs.Imports.{trace_of, IsGiven, Log, system_after, Machine, pool_of, accesses_answered}
use Rattle.tl_true_bytes.proofs.Imports.{one_memory_after, stepped, given-before, responses, IsResponse, IsRightBeat}
use Rattle.tl_true_bytes.proofs.Imports.{Run, Takes, memory_in, run_before, trace_in, IsBeside, happened, run_of}
use Rattle.tl_bytes.specs.statement.Free as bytes
use Rattle.tl_coherence.specs.statement.Delivery.{levels_of}
use Rattle.tl_concord.proofs.Alike.{free-world}
use Rattle.std.proofs.Common.{◌≡◌, ◌≤◌, ℕ, suc, Bool, true, false, ◌&&◌, List, [], ◌∷◌, length, None, refl, sym, ◌∙◌, ap}
use Rattle.std.proofs.Common.{subst}
use Rattle.std.{specs.Prelude.◌==◌, proofs.lemmas.Bool.eqb-true}
use Rattle.tl_burst.specs.statement.Messages.{on}
use Rattle.tl_params.specs.declared.perm.Perm.{Perm}
use Rattle.tl_one_memory.proofs.Read.{begun-on_d}
use Rattle.tl_true_bytes.{proofs.Quiet.quiet, proofs.Runs.beside-log}
use Rattle.tl_true_bytes.proofs.Continued.{AreGranting, IsBegunBefore, IsBegunWith, before-end, before-performed}
use Rattle.tl_true_bytes.proofs.Continued.{before-reply, beside, elsewhere, goes-on}

-- ---- before the first beat

-- what was so before the beats of a Grant that have come
pub record IsBefore {w : ℕ} (config : Config) (c block n : ℕ) (u : List (Beat w)) (log : Log w) : Type 0 where
  pub free : bytes.is_free n Perm.Branch block (trace_in (run_before c (length u) (run_of config log))) ≡ true
  pub memory : (x : ℕ) → block_at x ≡ block → memory_in (λ address. 0) (run_before c (length u) (run_of config log)) x
      ≡ (one_memory_after config log).memory x

module _ {w : ℕ} (config : Config) (c block n : ℕ) (le : n ≤ length (levels_of config)) where
  -- no beat has come
  none-before : (log : Log w) → IsGiven config log → is_free n None Perm.Branch block (trace_of log) ≡ true
      → IsBefore config c block n [] log
  unfolding run_before
  none-before log given free = record {
    free = ap (bytes.is_free n Perm.Branch block) beside.trace_is ∙ free-world log given n Perm.Branch block le ∙ free;
    memory = λ x at. ap (λ (f : Memory). f x) beside.memory_is;
  }
    where
      beside : IsBeside (run_of config log) (one_memory_after config log) (trace_of log)
      beside = beside-log config log given

  -- an event that takes no beat of the response
  same-before : (u : List (Beat w)) (j : ℕ) (log : Log w) (e : Event w) (o : Outcome w) → IsGiven config ((e, o) ∷ log)
      → (v : BeatD w) (rest : List (Beat w)) → u ≡ Beat.D v ∷ rest
      → unfinished Channel.D (on_link c (trace_of ((e, o) ∷ log))) ≡ u
      → AreGranting block u (on_link c (trace_of ((e, o) ∷ log)))
      → run_before c (length u) (run_of config ((e, o) ∷ log)) ≡ run_before c j (run_of config log)
      → (before : List (Beat w)) → length before ≡ j → IsBefore config c block n before log
      → IsBefore config c block n u ((e, o) ∷ log)
  same-before u j log e o given v rest u_is begun_so granting runs before long is = record {
    free = ap (λ (r : Run w). bytes.is_free n Perm.Branch block (trace_in r)) (runs ∙ same) ∙ is.free;
    memory = λ x at. ap (λ (r : Run w). memory_in (λ address. 0) r x) (runs ∙ same) ∙ is.memory x at
        ∙ sym (quiet config log block x at e o given c v rest (begun_so ∙ u_is) (granting v rest u_is));
  }
    where
      same : run_before c j (run_of config log) ≡ run_before c (length before) (run_of config log)
      same = ap (λ (k : ℕ). run_before c k (run_of config log)) (sym long)

  -- the run with a beat that was taken
  taken-other : (link : Link) (y : Beat w) (j : ℕ) (run : Run w) → (link.0 == c) && on Channel.D y ≡ false
      → run_before c (suc j) (Takes link y ∷ run) ≡ run_before c (suc j) run
  unfolding run_before
  taken-other link y j run other = rw other refl

  taken-own : (link : Link) (y : Beat w) (j : ℕ) (run : Run w) → (link.0 == c) && on Channel.D y ≡ true
      → run_before c (suc j) (Takes link y ∷ run) ≡ run_before c j run
  unfolding run_before
  taken-own link y j run own = rw own refl

  abbrev pub Before : Log w → Type 0
  Before log = (u : List (Beat w)) → unfinished Channel.D (on_link c (trace_of log)) ≡ u
      → AreGranting block u (on_link c (trace_of log))
      → (u ≡ [] → is_free n None Perm.Branch block (trace_of log) ≡ true) → IsBefore config c block n u log

  cons-nil : (b : Beat w) (u : List (Beat w)) → b ∷ u ≡ [] → ⊥
  cons-nil b u e = cc

  -- a beat is taken
  taken-before : (link : Link) (ch : Channel) (y : Beat w) (o : Outcome w) (log : Log w)
      → IsGiven config ((Deliver link ch, o) ∷ log) → trace_of ((Deliver link ch, o) ∷ log) ≡ (link, y) ∷ trace_of log
      → ((j : ℕ) → run_before c (suc j) (run_of config ((Deliver link ch, o) ∷ log)) ≡ run_before c (suc j)
      (Takes link y ∷ run_of config log)) → IsRightBeat link.0 y (trace_of log) → Before log
      → (v : BeatD w) (rest : List (Beat w)) → unfinished Channel.D (on_link c (trace_of ((Deliver link ch, o) ∷ log)))
      ≡ Beat.D v ∷ rest → AreGranting block (Beat.D v ∷ rest) (on_link c (trace_of ((Deliver link ch, o) ∷ log)))
      → IsBefore config c block n (Beat.D v ∷ rest) ((Deliver link ch, o) ∷ log)
  unfolding on_link
  taken-before link ch y o log given trace_is runs right before v rest begun_so granting =
      cases (link.0 == c) refl (on Channel.D y) refl
    where
      t : Trace w
      t = trace_of log

      begun_now : unfinished Channel.D (on_link c ((link, y) ∷ t)) ≡ Beat.D v ∷ rest
      begun_now = ap (λ (i : Trace w). unfinished Channel.D (on_link c i)) (sym trace_is) ∙ begun_so

      granted : grants block v (on_link c ((link, y) ∷ t)) ≡ true
      granted = ap (λ (i : Trace w). grants block v (on_link c i)) (sym trace_is) ∙ granting v rest refl

      other : IsBegunBefore c block (Beat.D v ∷ rest) link y t
          → IsBefore config c block n (Beat.D v ∷ rest) ((Deliver link ch, o) ∷ log)
      other is = same-before (Beat.D v ∷ rest) (suc (length rest)) log (Deliver link ch) o given v rest refl begun_so
          granting (runs (length rest) ∙ taken-other link y (length rest) (run_of config log) is.other)
          (Beat.D v ∷ rest) refl
          (before (Beat.D v ∷ rest) is.same is.granting (λ e. absurd (cons-nil (Beat.D v) rest e)))

      own : IsBegunWith c block v rest link y t
          → IsBefore config c block n (Beat.D v ∷ rest) ((Deliver link ch, o) ∷ log)
      own is = same-before (Beat.D v ∷ rest) (length rest) log (Deliver link ch) o given v rest refl begun_so granting
          (runs (length rest) ∙ taken-own link y (length rest) (run_of config log) is.own) rest refl
          (before rest is.same is.granting (λ none. response.free n block
          (subst (λ (k : ℕ). grants block v (on_link k t) ≡ true) (sym is.link_is) is.granted)))
        where
          response : IsResponse link.0 v t
          response = subst (λ (b : Beat w). IsRightBeat link.0 b t) is.beat_is right

      on_d : (e : (link.0 == c) ≡ true) (b : Beat w) → y ≡ b → on Channel.D b ≡ true
          → IsBefore config c block n (Beat.D v ∷ rest) ((Deliver link ch, o) ∷ log)
      on_d e (Beat.D z) y_is f = own (goes-on c block v rest link y t right (eqb-true link.0 c e) z y_is
          (subst (λ (b : Beat w). unfinished Channel.D (b ∷ on_link c t) ≡ Beat.D v ∷ rest) y_is (rw e at begun_now))
          (subst (λ (b : Beat w). grants block v (b ∷ on_link c t) ≡ true) y_is (rw e at granted)))
      on_d e v y_is f = absurd cc

      cases : (a : Bool) → (link.0 == c) ≡ a → (b : Bool) → on Channel.D y ≡ b
          → IsBefore config c block n (Beat.D v ∷ rest) ((Deliver link ch, o) ∷ log)
      cases false e b f = other (elsewhere c block v rest link y t right e begun_now granted)
      cases true e false f =
          other (beside c block v rest link y t right (eqb-true link.0 c e) f (rw e at begun_now) (rw e at granted))
      cases true e true f = on_d e y refl f

  -- the run with what isn't a beat
  asked-runs : (j k : ℕ) (i : Op w) (o : Outcome w) (m : Machine w) (run : Run w)
      → run_before c (suc j) (happened (Ask k i) o m run) ≡ run_before c (suc j) run
  asked-runs j k i (Outcome.Replied r) m run = before-reply c j i r m.memory run
  asked-runs j k i v m run = refl

  -- an event that takes no beat
  still-before : (log : Log w) (e : Event w) (o : Outcome w) → IsGiven config ((e, o) ∷ log)
      → trace_of ((e, o) ∷ log) ≡ trace_of log
      → ((j : ℕ) → run_before c (suc j) (run_of config ((e, o) ∷ log)) ≡ run_before c (suc j) (run_of config log))
      → Before log → (v : BeatD w) (rest : List (Beat w)) → unfinished Channel.D (on_link c (trace_of ((e, o) ∷ log)))
      ≡ Beat.D v ∷ rest → AreGranting block (Beat.D v ∷ rest) (on_link c (trace_of ((e, o) ∷ log)))
      → IsBefore config c block n (Beat.D v ∷ rest) ((e, o) ∷ log)
  still-before log e o given trace_is runs before v rest begun_so granting =
      same-before (Beat.D v ∷ rest) (suc (length rest)) log e o given v rest refl begun_so granting (runs (length rest))
      (Beat.D v ∷ rest) refl
      (before (Beat.D v ∷ rest) (ap (λ (i : Trace w). unfinished Channel.D (on_link c i)) (sym trace_is) ∙ begun_so)
      (subst (λ (i : Trace w). AreGranting block (Beat.D v ∷ rest) (on_link c i)) trace_is granting)
      (λ e. absurd (cons-nil (Beat.D v) rest e)))

  granted-more : (log : Log w) (e : Event w) (o : Outcome w) → IsGiven config ((e, o) ∷ log) → Before log
      → (v : BeatD w) (rest : List (Beat w)) → unfinished Channel.D (on_link c (trace_of ((e, o) ∷ log))) ≡ Beat.D
      v ∷ rest → AreGranting block (Beat.D v ∷ rest) (on_link c (trace_of ((e, o) ∷ log)))
      → IsBefore config c block n (Beat.D v ∷ rest) ((e, o) ∷ log)
  unfolding run_of trace_of EachTaken
  granted-more log (Ask k i) o given before v rest begun_so granting =
      still-before log (Ask k i) o given refl
      (λ j. before-performed c j (accesses_answered (stepped config (Ask k i) (system_after config log)).handed)
      (one_memory_after config log) (happened (Ask k i) o (one_memory_after config log) (run_of config log))
      ∙ asked-runs j k i o (one_memory_after config log) (run_of config log)) before v rest begun_so granting
  granted-more log (Deliver link ch) (Outcome.Moved y) given before v rest begun_so granting =
      taken-before link ch y (Outcome.Moved y) log given refl
      (λ j. before-performed c j (accesses_answered (stepped config (Deliver link ch) (system_after config log)).handed)
      (one_memory_after config log) (Takes link y ∷ run_of config log))
      (responses config ((Deliver link ch, Outcome.Moved y) ∷ log) given).each.0 before v rest begun_so granting
  granted-more log (Deliver link ch) (Outcome.Done y source f) given before v rest begun_so granting =
      taken-before link ch y (Outcome.Done y source f) log given refl
      (λ j. before-performed c j (accesses_answered (stepped config (Deliver link ch) (system_after config log)).handed)
      (one_memory_after config log)
      (happened (Deliver link ch) (Outcome.Done y source f) (one_memory_after config log) (run_of config log))
      ∙ before-end c j ((one_memory_after config log).opened link.0 (pool_of f) source)
      (one_memory_after config log).memory (Takes link y ∷ run_of config log))
      (responses config ((Deliver link ch, Outcome.Done y source f) ∷ log) given).each.0 before v rest begun_so granting
  granted-more log (Deliver link ch) (Outcome.Replied r) given before v rest begun_so granting =
      still-before log (Deliver link ch) (Outcome.Replied r) given refl
      (λ j. before-performed c j (accesses_answered (stepped config (Deliver link ch) (system_after config log)).handed)
      (one_memory_after config log) (run_of config log)) before v rest begun_so granting
  granted-more log (Deliver link ch) Outcome.Empty given before v rest begun_so granting =
      still-before log (Deliver link ch) Outcome.Empty given refl
      (λ j. before-performed c j (accesses_answered (stepped config (Deliver link ch) (system_after config log)).handed)
      (one_memory_after config log) (run_of config log)) before v rest begun_so granting
  granted-more log (Deliver link ch) Outcome.Stalled given before v rest begun_so granting =
      still-before log (Deliver link ch) Outcome.Stalled given refl
      (λ j. before-performed c j (accesses_answered (stepped config (Deliver link ch) (system_after config log)).handed)
      (one_memory_after config log) (run_of config log)) before v rest begun_so granting
  granted-more log (Deliver link ch) Outcome.NoSuchClient given before v rest begun_so granting =
      still-before log (Deliver link ch) Outcome.NoSuchClient given refl
      (λ j. before-performed c j (accesses_answered (stepped config (Deliver link ch) (system_after config log)).handed)
      (one_memory_after config log) (run_of config log)) before v rest begun_so granting

  granted-step : (x : Event w × Outcome w) (log : Log w) → IsGiven config (x ∷ log) → Before log → Before (x ∷ log)
  granted-step x log given before u begun_so granting free = go u refl
    where
      go : (i : List (Beat w)) → u ≡ i → IsBefore config c block n u (x ∷ log)
      go [] e = subst (λ (i : List (Beat w)). IsBefore config c block n i (x ∷ log)) (sym e)
          (none-before (x ∷ log) given (free e))
      go (Beat.D v ∷ rest) e = subst (λ (i : List (Beat w)). IsBefore config c block n i (x ∷ log)) (sym e)
          (granted-more log x.0 x.1 given before v rest (begun_so ∙ e)
          (subst (λ (i : List (Beat w)). AreGranting block i (on_link c (trace_of (x ∷ log)))) e granting))
      go (Beat.A v ∷ rest) e = absurd (let no : false ≡ true = begun-on_d n (λ address. 0) (Beat.A v) rest
          (on_link c (trace_of (x ∷ log))) (begun_so ∙ e) in cc)
      go (Beat.B v ∷ rest) e = absurd (let no : false ≡ true = begun-on_d n (λ address. 0) (Beat.B v) rest
          (on_link c (trace_of (x ∷ log))) (begun_so ∙ e) in cc)
      go (Beat.C v ∷ rest) e = absurd (let no : false ≡ true = begun-on_d n (λ address. 0) (Beat.C v) rest
          (on_link c (trace_of (x ∷ log))) (begun_so ∙ e) in cc)
      go (Beat.E v ∷ rest) e = absurd (let no : false ≡ true = begun-on_d n (λ address. 0) (Beat.E v) rest
          (on_link c (trace_of (x ∷ log))) (begun_so ∙ e) in cc)

  -- what was so before the beats of a Grant that have come
  pub granted-before : (log : Log w) → IsGiven config log → Before log
  unfolding trace_of on_link unfinished
  granted-before [] given u begun_so granting free =
      subst (λ (i : List (Beat w)). IsBefore config c block n i []) begun_so
      (none-before [] given (free (sym begun_so)))
  granted-before (x ∷ log) given u begun_so granting free =
      granted-step x log given (granted-before log (given-before config x log given)) u begun_so granting free
