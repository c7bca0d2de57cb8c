-- The lines about bytes of a response, by the values that they may have.
use Rattle.std.proofs.Common.{◌≡◌, ◌++◌, ◌∙◌, ℕ, Bool, true, false, not, List, find, refl, sym}
use Rattle.std.specs.Prelude.{is_some, IfSome, Option, Some, None}
use Rattle.tl_beat.specs.declared.beat.BeatD.{BeatD}
use Rattle.tl_beat.specs.declared.opcode.OpD.{OpD}
use Rattle.tl_bytes.specs.statement.Bytes.{Access, is_of, pending_accesses}
use Rattle.tl_commits.specs.declared.responding.ResponseBytes.{ResponseBytes}
use Rattle.tl_commits.specs.statement.Completeness.{Completeness}
use Rattle.tl_commits.specs.statement.Copies.{link_beats}
use Rattle.tl_commits.specs.statement.Events.{Events, beats_of}
use Rattle.tl_commits.specs.code.Responding.{AreAnswered, AreBytes, AreGranted}
use Rattle.tl_commits.specs.statement.Knows.{KnowsCommits}
use Rattle.tl_commits.specs.statement.ResponseBytes.{answered_from, granted_from, may_be_answered, may_be_granted}
use Rattle.tl_params.specs.declared.level.Level.{Level}
use Rattle.tl_params.specs.declared.liberties.Liberties.{Liberties}
use Rattle.tl_params.specs.declared.rule.Rule.{Rule}
use Rattle.tl_rules.specs.declared.past.Request.{Request}
use Rattle.tl_rules.specs.statement.OpenMessages.{open_request}
use Rattle.tl_witness.specs.statement.Naming.{Naming}
use Rattle.tl_witness.specs.statement.Strays.{strays_text}
use Rattle.tl_evidence.specs.code.Following.{KnowsCopy}
use Rattle.tl_evidence.specs.code.Responding.{AreOf}
use Rattle.tl_evidence.specs.declared.copy_record.CopyRecord.{CopyRecord}
use Rattle.tl_evidence.specs.statement.CopyLines.{set_in_copy}
use Rattle.tl_evidence.specs.statement.ResponseLines.{answered_lines, bytes_lines, granted_lines}

module _ {w : ℕ} (names : Naming) (b : ResponseBytes) (complete : Completeness) (n link : ℕ) (x : BeatD w) (e : Events w)
    (lanes was is : List ℕ) (has : x.lanes ≡ Some lanes)
    (says : (from : ℕ) (test : ℕ → ℕ → Bool) → AreBytes b w from test
    → is ≡ was ++ strays_text names test (set_in_copy complete n link e) 0 from lanes) where
  granted-told : (o : Option Request) → AreGranted (Some b) complete n link o e
      → is ≡ was ++ granted_lines names complete n link x o e
  granted-told None never = absurd never
  granted-told (Some asked) are = rw has (says (granted_from link asked e) (may_be_granted complete n link e) are)

  answered-told : (o : Option (Access w)) → AreAnswered (Some b) complete n link o e
      → is ≡ was ++ answered_lines names complete n link x o e
  answered-told None never = absurd never
  answered-told (Some access) are =
      rw has (says (answered_from link access e) (may_be_answered complete n link access e) are)

  -- of a response with this opcode
  pub response-told : (opcode : OpD) → AreOf b opcode complete n link x e
      → is ≡ was ++ bytes_lines names opcode complete n link x e
  response-told OpD.GrantData are = granted-told (open_request x.source (link_beats link e)) are
  response-told OpD.AccessAckData are = answered-told (find (is_of link x.source) (pending_accesses (beats_of e))) are
  response-told v never = absurd never

-- ---- the values of a response's bytes

-- a beat that is said to break no rule of its link
pub rules-kept : (broken : Option Rule) (keeps : Bool) → keeps ≡ not (is_some broken) → keeps ≡ true → broken ≡ None
rules-kept None keeps is on = refl
rules-kept (Some rule) keeps is on = let no : false ≡ true = sym is ∙ on in absurd cc

pub some-of : {X : Type 0} (P : X → Type 0) (o : Option X) → ((x : X) → o ≡ Some x → P x) → IfSome o P
some-of P None says = tt
some-of P (Some x) says = says x refl

-- the judge was asked
pub copy-asked : {w : ℕ} (old new : CopyRecord w) (may : Liberties) (levels : List Level) (complete : Completeness)
    (e : Events w) → KnowsCopy old may levels complete e → KnowsCommits new.judge levels complete may e
    → new.link ≡ old.link → new.block ≡ old.block → new.copy ≡ old.copy → new.memory ≡ old.memory
    → KnowsCopy new may levels complete e
copy-asked old new may levels complete e k judge link block copy memory = record {
  judge_is = judge;
  there = rw link k.there;
  copy_is = rw (link, block, copy) k.copy_is;
  memory_is = rw (block, memory) k.memory_is;
}
