-- What a witness keeps of the beats of all links.
use Rattle.std.specs.Prelude.{ℕ, [], ◌^◌, ◌<◌, ◌≡◌, length, slice_get, Some}
use Rattle.tl_bytes.specs.statement.Free.{all_liberties}
use Rattle.tl_rules.specs.statement.Conformance.{Trace}
use Rattle.tl_explain.specs.code.Recorded.{IsRecordUnder}
use Rattle.tl_explain.specs.declared.recorder.Recorder.{Recorder}
use Rattle.tl_witness.specs.declared.witness.Witness.{Witness}

-- it records what the link holds of the block, under any liberties
pub record Records {w : ℕ} (r : Recorder) (link block : ℕ) (t : Trace w) : Type 0 where
  pub recorded : IsRecordUnder all_liberties r t
  pub link_is : r.subject.link.0 ≡ link
  pub block_is : r.subject.block ≡ block

-- it has recorded nothing yet
abbrev pub IsFresh : Recorder → ℕ → ℕ → Type 0
IsFresh r link block = (w : ℕ) → Records {w = w} r link block []

-- it keeps of each of so many links what that holds of the block
pub record KnowsWitness {w : ℕ} (h : Witness) (n block : ℕ) (t : Trace w) : Type 0 where
  pub block_is : h.block ≡ block
  pub addressed : block < 2 ^ 26
  pub links_is : h.links ≡ n
  pub count_is : length h.recorders.items ≡ n
  pub each : (link : ℕ) (r : Recorder) → slice_get h.recorders.items link ≡ Some r → Records r link block t
