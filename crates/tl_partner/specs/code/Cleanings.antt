-- The cleanings that a partner keeps.
use Rattle.std.specs.Prelude.{ℕ, List, [], ◌≡◌, length, slice_index_or}
use Rattle.tl_beat.specs.declared.beat.Beat.{Beat}
use Rattle.tl_beat.specs.declared.beat.BeatC.{BeatC}
use Rattle.tl_burst.specs.declared.message.MessageC.{MessageC}
use Rattle.tl_params.specs.declared.config.Config.{Config}
use Rattle.tl_params.specs.declared.perm.Perm.{Perm}
use Rattle.tl_rules.specs.statement.Admission.{payload_of}
use Rattle.tl_manager.specs.code.Knows.{Knows}
use Rattle.tl_manager.specs.declared.manager.state.ManagerState.{ManagerState}
use Rattle.tl_partner.specs.statement.Cleaning.{PartnerEnd}

-- the beats of a link's cleaning that isn't complete
abbrev pub cleaning_at : {w : ℕ} → List (List (Beat w)) → ℕ → List (Beat w)
cleaning_at cleanings link = slice_index_or cleanings link []

-- the manager and the cleanings are those of the end, one of each link
pub record KnowsPartner {w : ℕ} {M : Type 0} (perm_of : M → ℕ → ℕ → Perm) (manager : ManagerState w M)
    (cleanings : List (List (Beat w))) (config : Config) (e : PartnerEnd w) : Type 0 where
  pub knows : Knows perm_of manager config e.manager
  pub same : cleanings ≡ e.cleanings
  pub count : length e.cleanings ≡ length config.clients.items

-- the message has these beats, of which this is the newest
pub record IsCleaningOf {w : ℕ} (release : MessageC w) (x : BeatC w) (beats : List (Beat w)) : Type 0 where
  pub opcode : release.opcode ≡ x.opcode
  pub param : release.param ≡ x.param
  pub source : release.source ≡ x.source
  pub address : release.address ≡ x.address
  pub payload : release.payload ≡ payload_of beats
