-- What a beat of a request, or of its answer, says of the access whose answer outran the request.
use Rattle.tl_memory.proofs.Imports.{Beat, BeatA, BeatD, History, Level, Trace, breaks_burst, all_liberties}
use Rattle.tl_memory.proofs.Imports.{broken_after_under, is_legal_under, begins, ends, block_at, on_link, request_of}
use Rattle.tl_memory.proofs.Imports.{same_control, control_a, unfinished, IsWidth, Request, is_access, request_fields}
use Rattle.std.proofs.Common.{◌≡◌, ℕ, Bool, true, false, ◌&&◌, ◌||◌, List, ◌∷◌, refl, sym, ap, ◌∙◌}
use Rattle.std.specs.Prelude.{◌==◌, if◌then◌else◌, find, Option, Some, None}
use Rattle.std.proofs.lemmas.Bool.{eq-eqb, not-false}
use Rattle.tl_beat.specs.declared.channel.Channel.{Channel}
use Rattle.tl_rules.specs.code.Tables.{kept_request}
use Rattle.tl_rules.specs.statement.Conformance.{comes_in_request}
use Rattle.tl_bytes.specs.statement.Bytes.{asks, is_put}
use Rattle.tl_memory.specs.code.Taking.{IsComing}
use Rattle.tl_bytes.specs.statement.Early.{Outrun, if_answered, is_outrun_of, outruns, settled_by}
unfoldable use Rattle.tl_bytes.specs.statement.Early.{outrun_accesses}
use Rattle.tl_memory.proofs.lawful.Answering.{fields_of, last-now, last-request}
use Rattle.tl_memory.proofs.lawful.Complete.{reached_inside}
use Rattle.tl_memory.proofs.lawful.Lawful.{goes_on, is-request}
use Rattle.tl_memory.proofs.lawful.Unfinished.{AreBegun, are-begun}
use Rattle.tl_memory.proofs.lawful.OutrunNames.{IsOut, comes-parts, outruns-parts}
use Rattle.tl_memory.proofs.lawful.OutrunRequests.{IsFrom, kept-fields, apart-from, begun-access}
use Rattle.tl_memory.proofs.Plain.{true_false, some-same}

module _ {w : ℕ} (l : Level) (past : History w) (is : IsWidth w) (legal : is_legal_under all_liberties l past ≡ true) where
  -- the request of a beat of channel A is that of the access with its source
  pub out-block : (a : Outrun) (y : BeatA w) → broken_after_under all_liberties l (Beat.A y) past ≡ None
      → IsFrom y.source a past → block_at a.address ≡ block_at y.address
  unfolding request_of
  out-block a y fine k = sym k.block_is ∙ ap (λ (r : Request). r.block) (some-same (sym k.request_is ∙ now))
    where
      go : (first : Bool) → begins (Beat.A y) past ≡ first
          → request_fields (if first && (y.source == y.source) then Some y else request_of y.source past) ≡ Some (fields_of y)
          → request_fields (request_of y.source past) ≡ Some (fields_of y)
      go true first e = true_false (sym (eq-eqb y.source y.source refl) ∙ apart-from l past legal y.source a y fine k first)
      go false first e = e

      now : request_fields (request_of y.source past) ≡ Some (fields_of y)
      now = go (begins (Beat.A y) past) refl (last-now l y past legal fine)

  -- one whose answer is complete isn't settled but with a beat that asks for it
  pub settles-asked : (link : ℕ) (y : BeatA w) (out : List Outrun) → broken_after_under all_liberties l (Beat.A y) past ≡ None
      → ((a : Outrun) → find (is_outrun_of link y.source) out ≡ Some a → IsFrom y.source a past)
      → asks y past ≡ false → settled_by link (Beat.A y) past out ≡ None
  settles-asked link y out fine each unasked = go (ends (Beat.A y) past) refl (find (is_outrun_of link y.source) out) each
    where
      access : comes_in_request y.source (unfinished Channel.A past) ≡ true → is_access y.opcode ≡ true
      access comes =
          let z = comes-parts y.source (unfinished Channel.A past) comes in
          let cont : breaks_burst (Beat.A y) (Beat.A z.0 ∷ z.1) ≡ false = rw z.2 at (goes_on l (Beat.A y) past fine) in
          let same = control_a y z.0 (not-false (same_control (Beat.A y) (Beat.A z.0)) cont) in
          ap is_access same.0 ∙ begun-access l past is legal z.0 z.1 z.2

      asks-it : ends (Beat.A y) past ≡ true → is_access y.opcode ≡ true → asks y past ≡ true
      asks-it last own = rw (own, last) (either (is_put y.opcode))
        where
          either : (b : Bool) → (b || true) ≡ true
          either true = refl
          either false = refl

      go : (last : Bool) → ends (Beat.A y) past ≡ last → (o : Option Outrun) → ((a : Outrun) → o ≡ Some a → IsFrom y.source a past)
          → ◌≡◌ {A = Option Outrun} (if last then if_answered o else None) None
      go false e o each = refl
      go true e None each = refl
      go true e (Some a) each = answered a.answered refl
        where
          answered : (b : Bool) → a.answered ≡ b → ◌≡◌ {A = Option Outrun} (if b then Some a else None) None
          answered false f = refl
          answered true f = true_false (sym (asks-it e (access ((each a refl).comes f))) ∙ unasked)

  -- the request that an answer outruns
  pub is-coming : (y : BeatD w) (asked : Request) → kept_request y.source past ≡ Some asked → outruns y past ≡ true
      → IsComing y asked (unfinished Channel.A past)
  is-coming y asked kept outrun =
      let z = comes-parts y.source (unfinished Channel.A past) (outruns-parts y past outrun).1 in
      let begun : AreBegun l Channel.A (Beat.A z.0 ∷ z.1) = rw z.2 at (are-begun l Channel.A past is legal) in
      let r = is-request l z.0 is begun.1 in
      let fields : fields_of z.0 ≡ asked = some-same (sym (last-request l past z.0 z.1 legal z.2)
      ∙ ap (λ n. request_fields (request_of n past)) z.3 ∙ kept-fields y.source asked past kept) in
      record {
        first = z.0;
        older = z.1;
        burst_is = z.2;
        source_is = z.3;
        block_is = ap (λ (r : Request). r.block) (sym fields);
        accesses = ap (λ (r : Request). is_access r.opcode) (sym fields) ∙ begun-access l past is legal z.0 z.1 z.2;
        small = r.small;
        inside = λ address reached. reached_inside z.0.address z.0.size address r.small r.aligned reached;
      }

-- where the answer is to what is no access there is none with its source
pub out-bare : {w : ℕ} (c s : ℕ) (asked : Request) (t : Trace w) → kept_request s (on_link c t) ≡ Some asked
    → ((a : Outrun) → IsOut c s a t → IsFrom s a (on_link c t)) → is_access asked.opcode ≡ false
    → find (is_outrun_of c s) (outrun_accesses t) ≡ None
out-bare c s asked t kept each bare = go (find (is_outrun_of c s) (outrun_accesses t)) refl
  where
    go : (o : Option Outrun) → find (is_outrun_of c s) (outrun_accesses t) ≡ o → o ≡ None
    go None e = refl
    go (Some a) e =
        let k = each a e in
        let same : k.fields ≡ asked = some-same (sym k.request_is ∙ kept-fields s asked (on_link c t) kept) in
        true_false (sym k.accesses ∙ ap (λ (r : Request). is_access r.opcode) same ∙ bare)
