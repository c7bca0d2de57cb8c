-- A beat of channel A asks for none of the accesses that are pending, unless it goes on with a Put.
use Rattle.std.proofs.Common.{◌≡◌, ℕ, true, false, List, ◌∷◌, refl, sym, ap, ◌∙◌, inl, inr, find}
use Rattle.std.proofs.lemmas.Bool.{cases_Bool, eq-eqb, not-false}
use Rattle.std.specs.Prelude.{Option, Some, None}
use Rattle.tl_beat.specs.declared.beat.Beat.{Beat}
use Rattle.tl_beat.specs.declared.beat.BeatA.{BeatA}
use Rattle.tl_beat.specs.declared.beat.Link.{Link}
use Rattle.tl_beat.specs.declared.channel.Channel.{Channel}
use Rattle.tl_beat.specs.statement.Width.{IsWidth}
use Rattle.tl_burst.proofs.ControlFields.{control_a}
use Rattle.tl_burst.specs.statement.Messages.{breaks_burst, same_control, channel_of}
unfoldable use Rattle.tl_burst.specs.statement.Messages.{unfinished}
use Rattle.tl_bytes.proofs.Finding.{same-some}
use Rattle.tl_bytes.proofs.Pending.{IsPending}
use Rattle.tl_bytes.specs.statement.Bytes as bytes
use Rattle.tl_bytes.specs.statement.Bytes.{Access, is_put}
unfoldable use Rattle.tl_bytes.specs.statement.Bytes.{pending_accesses}
use Rattle.tl_memory.proofs.lawful.Answering.{fields_of, last-request}
use Rattle.tl_memory.proofs.lawful.Lawful.{goes_on}
use Rattle.tl_memory.proofs.lawful.Open.{IsOpen, fresh}
use Rattle.tl_memory.proofs.lawful.OpenAccesses.{IsFine, is-fine, legal-on, pending-open}
use Rattle.tl_memory.proofs.lawful.Outrunning.{comes-parts, kept-fields}
use Rattle.tl_memory.specs.statement.Links.{AreLegal, IsLegal}
use Rattle.tl_params.specs.declared.level.Level.{Level}
use Rattle.tl_rules.specs.code.Open.{request_fields}
use Rattle.tl_rules.specs.declared.past.Request.{Request}
use Rattle.tl_rules.specs.statement.Conformance.{Trace, comes_in_request}
unfoldable use Rattle.tl_rules.specs.statement.Conformance.{on_link}
unfoldable use Rattle.tl_rules.specs.statement.History.{request_of}
unfoldable use Rattle.tl_rules.specs.statement.Liberties.{broken_after_under}
use Rattle.tl_bytes.specs.statement.Free.{all_liberties}
use Rattle.tl_commits.specs.code.Reading.{is_of}
use Rattle.tl_commits.specs.statement.Events.{Events}
unfoldable use Rattle.tl_commits.specs.statement.Events.{beats_of}

pub differ : true ≡ false → ⊥
differ e = cc

module _ {w : ℕ} (levels : List Level) (width : IsWidth w) (link : Link) (x : Beat w) (e : Events w)
    (legal : AreLegal levels (beats_of e)) (fine : IsLegal levels (link, x) (beats_of e)) where
  abbrev t : Trace w
  t = beats_of e

  abbrev past : List (Beat w)
  past = on_link link.0 t

  f : IsFine all_liberties levels (link, x) t
  f = is-fine _ levels (link, x) t fine

  fine-at : (y : Beat w) → x ≡ y → broken_after_under all_liberties f.level y past ≡ None
  fine-at y is = ap (λ v. broken_after_under all_liberties f.level v past) (sym is) ∙ f.fine

  -- it goes on with the message of its channel that isn't complete
  pub goes-on : (y : Beat w) → x ≡ y → breaks_burst y (unfinished (channel_of y) past) ≡ false
  goes-on y is = goes_on f.level y past (fine-at y is)

  -- no beat of channel A has the source of a request that is open
  pub no-request : (c s : ℕ) (asked : Request) (y : BeatA w) → x ≡ Beat.A y → link.0 ≡ c → y.source ≡ s
      → IsOpen s asked (on_link c t) → ⊥
  no-request c s asked y is own source o =
      differ (sym (eq-eqb y.source s source) ∙ fresh f.level s asked y past (fine-at (Beat.A y) is) (rw own o))

  -- nor of a pending access that is no Put
  pub no-access : (c s : ℕ) (p : Access w) (y : BeatA w) → x ≡ Beat.A y → link.0 ≡ c → y.source ≡ s → IsPending c s p t
      → is_put p.request.opcode ≡ false → ⊥
  no-access c s p y is own source pending other =
      let k = pending-open levels c s p t width legal pending in
      no-request c s k.asked y is own source (record { kept = k.is_kept; complete = k.whole other })

  -- a request that isn't one of a Put is no beat of a pending Put
  no-put : (p : Access w) (y : BeatA w) → x ≡ Beat.A y → is_put y.opcode ≡ false → IsPending link.0 y.source p t
      → is_put p.request.opcode ≡ true → ⊥
  no-put p y is bare pending put =
      let k = pending-open levels link.0 y.source p t width legal pending in
      elim (cases_Bool (comes_in_request y.source (unfinished Channel.A past))) [
        | inr whole ↦ no-request link.0 y.source k.asked y is refl refl (record { kept = k.is_kept; complete = whole })
        | inl comes ↦
            let one = comes-parts y.source (unfinished Channel.A past) comes in
            let v = one.0 in
            let cont : breaks_burst (Beat.A y) (Beat.A v ∷ one.1) ≡ false =
            ap (breaks_burst (Beat.A y)) (sym one.2) ∙ goes-on (Beat.A y) is in
            let same = control_a y v (not-false (same_control (Beat.A y) (Beat.A v)) cont) in
            let last = last-request f.level past v one.1 (legal-on _ levels link.0 f.level t f.has_level legal) one.2 in
            let fields = kept-fields y.source k.asked past k.is_kept in
            let asked : Some k.asked ≡ Some (fields_of v) =
            sym fields ∙ ap (λ n. request_fields (request_of n past)) (sym one.3) ∙ last in
            let opcode : p.request.opcode ≡ y.opcode =
            sym k.opcode_is ∙ ap (λ (r : Request). r.opcode) (same-some (fields_of v) k.asked (sym asked)) ∙ sym same.0 in
            differ (sym put ∙ ap is_put opcode ∙ bare)
      ]

  -- an access that isn't a Put wasn't pending before it is asked for
  pub none-before : (y : BeatA w) → x ≡ Beat.A y → is_put y.opcode ≡ false
      → find (bytes.is_of link.0 y.source) (pending_accesses t) ≡ None
  none-before y is bare = go (find (bytes.is_of link.0 y.source) (pending_accesses t)) refl
    where
      go : (o : Option (Access w)) → find (bytes.is_of link.0 y.source) (pending_accesses t) ≡ o → o ≡ None
      go None found = refl
      go (Some p) found = elim (cases_Bool (is_put p.request.opcode)) [
        | inl put ↦ absurd (no-put p y is bare found put)
        | inr other ↦ absurd (no-access link.0 y.source p y is refl refl found other)
      ]
