-- The arguments from which C makes a manager, and the state of a new manager.
use Rattle.std.specs.Prelude.{ℕ, Bool, ◌&&◌, ◌==◌, ◌≡◌, ◌++◌, List, [], drop, length, nat_le, replicate, None, Result}
use Rattle.std.specs.Prelude.{Ok, Err, if◌then◌else◌}
use Rattle.tl_beat.specs.declared.channel.Channel.{Channel}
use Rattle.tl_params.specs.declared.config.Config.{Config}
use Rattle.tl_params.specs.declared.liberties.Liberties.{Liberties}
use Rattle.tl_manager.specs.statement.End.{fresh}
use Rattle.tl_partner.specs.declared.terms.Terms.{Terms}
use Rattle.tl_partner.specs.statement.Cleaning.{fresh_partner}
use Rattle.tl_partner.specs.statement.Granting.{may_grant}
use Rattle.tl_ports.specs.declared.manager.ManagerPort.{ManagerPort}
use Rattle.tl_ports.specs.statement.Manager.{KnowsEnd, KnowsEndUnder, to_send_on}
use Rattle.tl_pictures.specs.declared.answer.Answer.{Answer}
use Rattle.tl_pictures.specs.declared.config.LinkConfig.{LinkConfig}
use Rattle.tl_params.specs.statement.Config.{config_fault}
use Rattle.tl_sessions.specs.statement.Opened.{IsRefusal}
use Rattle.tl_pictures.specs.statement.Codes.{is_width, is_profile, liberties_at}
use Rattle.tl_pictures.specs.statement.Configured.{links_fit, IsConfigOf}

-- the arguments fit: 1 to 16 links, 1 to 1,024 blocks, 1 to 8 trackers, a width and a profile
abbrev pub may_open_manager : List LinkConfig → ℕ → ℕ → ℕ → ℕ → Bool
may_open_manager links blocks trackers width profile =
    nat_le 1 (length links) && nat_le (length links) 16 && links_fit links && nat_le 1 blocks && nat_le blocks 1024
    && nat_le 1 trackers && nat_le trackers 8 && is_width width && is_profile profile

-- a new manager has this configuration, has taken and handed out nothing, and has nothing to send
abbrev pub IsFreshManager : {w : ℕ} → List LinkConfig → ℕ → ℕ → ℕ → ManagerPort w → Type 0
IsFreshManager links blocks trackers profile port =
    ((config : Config) × IsConfigOf links blocks trackers profile config × KnowsEnd port config fresh)
    × ((link : ℕ) (ch : Channel) → to_send_on link ch port ≡ [])

-- ---- under liberties

-- the code of a manager's profile: 2 if it grants a lone reader toT, which is `writer`, otherwise 1
abbrev pub profile_code : Liberties → ℕ
profile_code l = if l.writer then 2 else 1

-- the arguments fit, a manager can grant the liberties, and each link has a source for its Probes
abbrev pub may_open_manager_under : List LinkConfig → ℕ → ℕ → ℕ → ℕ → List ℕ → Bool
may_open_manager_under links blocks trackers width liberties sources =
    may_open_manager links blocks trackers width (profile_code (liberties_at liberties))
    && (length sources == length links && may_grant (liberties_at liberties))

-- the terms of clients with these liberties; the Probes of the links have these sources
abbrev pub terms_at : ℕ → List ℕ → Terms
terms_at liberties sources = record {
  ids = (liberties_at liberties).ids;
  drops = (liberties_at liberties).drops;
  reports = (liberties_at liberties).reports;
  sources = sources ++ drop (length sources) (replicate 16 0);
}

-- a new manager has this configuration, grants its clients these terms, has taken and handed out nothing, and has
-- nothing to send
abbrev pub IsFreshManagerUnder : {w : ℕ} → List LinkConfig → ℕ → ℕ → ℕ → Terms → ManagerPort w → Type 0
IsFreshManagerUnder links blocks trackers profile terms port =
    ((config : Config) × IsConfigOf links blocks trackers profile config
    × KnowsEndUnder port terms config (fresh_partner config))
    × ((link : ℕ) (ch : Channel) → to_send_on link ch port ≡ [])

-- the result of making a manager: a new one, or a refusal
abbrev pub MakesManager : {w : ℕ} → List LinkConfig → ℕ → ℕ → ℕ → Terms → Result (ManagerPort w) Answer → Type 0
MakesManager links blocks trackers profile terms (Ok port) = IsFreshManagerUnder links blocks trackers profile terms port
MakesManager links blocks trackers profile terms (Err answer) =
    (config : Config) × IsConfigOf links blocks trackers profile config × IsRefusal (config_fault config ≡ None) answer
