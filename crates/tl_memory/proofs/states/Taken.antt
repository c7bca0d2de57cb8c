-- What is known of the state of a block with a beat that bears on it.
use Rattle.tl_beat.specs.declared.beat.BeatB.{BeatB}
use Rattle.tl_memory.proofs.Imports.{Beat, BeatA, BeatD, History, Link, open_request, Request, Trace, on_link}
use Rattle.tl_memory.proofs.Imports.{block_borne, IsLegalBeat, IsResponse}
use Rattle.tl_memory.proofs.Imports.{BlockState, Freedom}
use Rattle.std.proofs.Common.{◌≡◌, ℕ, false, refl, sym, ◌∙◌}
use Rattle.std.specs.Prelude.{Option, Some, None}
use Rattle.tl_bytes.specs.statement.Early.{outruns}
use Rattle.tl_memory.specs.code.{Passing.acquires_from_none, Taking.IsNext, Taking.IsNextAsked, Taking.IsNextUnseen}
use Rattle.tl_memory.specs.code.Taking.{AnswersTo, IsSeen, with_next}
use Rattle.tl_memory.proofs.{states.Borne.response-there, lawful.Open.open-whole}
use Rattle.tl_memory.specs.declared.next_state.NextState.{NextState}
use Rattle.tl_memory.proofs.{states.Elsewhere.settled, states.PassedBy.held-left, states.PassedBy.held-unshown}
use Rattle.tl_memory.proofs.Plain.{true_false}

-- the request of an access changes nothing of what is held
pub seen-request : {w : ℕ} (next : Option (NextState w)) (free : Option Freedom) (s : BlockState w) (n block : ℕ)
    (link : Link) (y : BeatA w) (t : Trace w) → acquires_from_none y ≡ false → IsSeen free n block (link, Beat.A y) t
    → IsNextAsked next s n block (link, Beat.A y) t → IsNext next free s n block (link, Beat.A y) t
seen-request None None s n block link y t none seen is = record {
  elsewhere = is;
  held_is = held-left block link (Beat.A y) t seen;
  unshown = refl;
}
seen-request (Some next) None s n block link y t none seen is = is
seen-request next (Some free) s n block link y t none seen is = true_false (sym seen.0 ∙ none)

-- what another beat makes of the state, for whom the block is free with it being told where that changes
pub seen-other : {w : ℕ} (next : Option (NextState w)) (free : Option Freedom) (s : BlockState w) (n block : ℕ)
    (x : Link × Beat w) (t : Trace w) → IsSeen free n block x t → IsNextUnseen next s n block x t
    → IsNext next free s n block x t
seen-other None None s n block x t same is = record {
  elsewhere = is.0;
  held_is = held-left block x.0 x.1 t same;
  unshown = held-unshown block x.0 x.1 t same;
}
seen-other (Some next) None s n block x t same is =
    settled (with_next s next) n block x t (held-left block x.0 x.1 t same) (held-unshown block x.0 x.1 t same) refl is
seen-other None (Some free) s n block x t seen is = true_false (sym seen.0 ∙ is.1)
seen-other (Some next) (Some free) s n block x t seen is = (is, seen.1)

pub same-block : (k block : ℕ) → Some k ≡ Some block → k ≡ block
same-block k block e = cc

-- a change to what a beat of the request of an access makes of its block, for whom it stays as free as it was
pub unseen-asked : {w : ℕ} (next : Option (NextState w)) (s : BlockState w) (n block : ℕ) (link : Link) (y : BeatA w)
    (t : Trace w) → acquires_from_none y ≡ false → IsNextUnseen next s n block (link, Beat.A y) t
    → IsNextAsked next s n block (link, Beat.A y) t
unseen-asked None s n block link y t none is = is.0
unseen-asked (Some next) s n block link y t none is =
    settled (with_next s next) n block (link, Beat.A y) t (held-left block link (Beat.A y) t none)
    (held-unshown block link (Beat.A y) t none) refl is

-- the request that a response answers which bears on a block
pub response-borne : {w : ℕ} (link : ℕ) (y : BeatD w) (block : ℕ) (t : Trace w) → IsLegalBeat link (Beat.D y) t
    → block_borne (Beat.D y) (on_link link t) ≡ Some block → AnswersTo link y block t
response-borne link y block t legal borne bare =
    let one = legal.answer bare in
    (one.0, one.1, same-block one.0.block block (sym (response-there link y one.0 t one.1 bare) ∙ borne))

-- a request that is complete is that which a response answers
pub open-asked : {w : ℕ} (link : ℕ) (y : BeatD w) (asked : Option Request) (one : Request) (t : Trace w)
    → IsResponse link y one t → outruns y (on_link link t) ≡ false
    → asked ≡ open_request y.source (on_link link t) → asked ≡ Some one
open-asked link y asked one t is late opened =
    opened ∙ open-whole y.source one (on_link link t) (record { kept = is.kept; complete = is.complete late })

pub none-open : {X : Type 0} (asked : Option Request) (one : Request) → asked ≡ None → asked ≡ Some one → X
none-open None one e f = absurd cc
none-open (Some a) one e f = absurd cc

-- a Probe bears on none
pub none-borne : {w : ℕ} {X : Type 0} (x : Beat w) (past : History w) (block : ℕ) (y : BeatB w) → x ≡ Beat.B y
    → block_borne x past ≡ Some block → X
none-borne x past block y is borne = absurd (let no : None ≡ Some block = rw is at borne in cc)
