-- Managers that were opened.
use Rattle.std.proofs.Common.{◌≡◌, ℕ, Bool, true, false, List, refl, ap}
use Rattle.std.specs.Prelude.{◌==◌, ◌++◌, drop, if◌then◌else◌, length, replicate, Option, Some, None}
use Rattle.tl_params.specs.declared.liberties.Liberties.{Liberties}
use Rattle.tl_partner.specs.declared.terms.Terms.{Terms}
use Rattle.tl_partner.specs.laws.Without.{GrantsNone}
use Rattle.tl_partner.specs.statement.Granting.{may_grant, no_terms, terms_of}
use Rattle.tl_ports.specs.declared.manager.ManagerPort.{ManagerPort}
use Rattle.tl_pictures.specs.declared.answer.Answer.{Answer}
use Rattle.tl_pictures.specs.declared.config.LinkConfig.{LinkConfig}
use Rattle.tl_sessions.specs.declared.manager.AnyManager.TheVariants as manager
use Rattle.tl_sessions.specs.declared.session.Session.{Session}
use Rattle.tl_sessions.specs.declared.session.Session.TheVariants as session
use Rattle.tl_pictures.specs.statement.Answer.{bad}
use Rattle.tl_pictures.specs.statement.Codes.{liberties_at}
use Rattle.tl_sessions.specs.statement.ManagerOpened.{IsFreshManager, IsFreshManagerUnder, may_open_manager}
use Rattle.tl_sessions.specs.statement.ManagerOpened.{may_open_manager_under, profile_code}
use Rattle.tl_sessions.specs.statement.Sessions.{ManagerOpens, ManagerOpensUnder, OpensManager}

grants-none : (terms : Terms) → terms ≡ no_terms → GrantsNone terms
grants-none terms are = record {
  ids = ap (λ (t : Terms). t.ids) are;
  drops = ap (λ (t : Terms). t.drops) are;
  reports = ap (λ (t : Terms). t.reports) are;
}

fresh-alone : {w : ℕ} (links : List LinkConfig) (blocks trackers profile : ℕ) (port : ManagerPort w)
    → IsFreshManagerUnder links blocks trackers profile no_terms port
    → IsFreshManager links blocks trackers profile port
fresh-alone links blocks trackers profile port ((config, is, knows), waits) =
    ((config, is, (grants-none port.partner.lenient.terms knows.0, knows.1)), waits)

-- one that grants no liberty is the manager by itself
pub opened-alone : (links : List LinkConfig) (blocks trackers width profile : ℕ) (s : Option Session) (answer : Answer)
    → may_open_manager links blocks trackers width profile ≡ true
    → OpensManager links blocks trackers width profile no_terms true s answer
    → ManagerOpens links blocks trackers width profile s answer
opened-alone links blocks trackers width profile None answer may told = rw may told
opened-alone links blocks trackers width profile (Some (session.Manager (manager.Four p))) answer may (ok, is, (four, new)) =
    (ok, may, (four, fresh-alone links blocks trackers profile p new))
opened-alone links blocks trackers width profile (Some (session.Manager (manager.Eight p))) answer may (ok, is, (eight, new)) =
    (ok, may, (eight, fresh-alone links blocks trackers profile p new))
opened-alone links blocks trackers width profile (Some (session.Manager (manager.Sixteen p))) answer may (ok, is, (sixteen, new)) =
    (ok, may, (sixteen, fresh-alone links blocks trackers profile p new))
opened-alone links blocks trackers width profile (Some (session.Monitor m)) answer may told = absurd told.2
opened-alone links blocks trackers width profile (Some (session.Judge j)) answer may told = absurd told.2
opened-alone links blocks trackers width profile (Some (session.Client p)) answer may told = absurd told.2
opened-alone links blocks trackers width profile (Some (session.Covering c)) answer may told = absurd told.2
opened-alone links blocks trackers width profile (Some (session.WideMonitor s)) answer may told = absurd told.2
opened-alone links blocks trackers width profile (Some (session.WideJudge s)) answer may told = absurd told.2
opened-alone links blocks trackers width profile (Some (session.WideEvents s)) answer may told = absurd told.2
opened-alone links blocks trackers width profile (Some (session.Events j)) answer may told = absurd told.2

-- ---- under liberties

-- a liberty is among them that a manager doesn't grant, or none is, and these are the terms
pub no-terms : (l : Liberties) (sources : List ℕ) → terms_of l sources ≡ None → may_grant l ≡ false
no-terms l sources e = go (may_grant l) refl e
  where
    own : Terms
    own = record { ids = l.ids; drops = l.drops; reports = l.reports; sources = sources }

    go : (b : Bool) → may_grant l ≡ b → (if b then Some own else None) ≡ None → may_grant l ≡ false
    go true is f = absurd cc
    go false is f = is

pub some-terms : (l : Liberties) (sources : List ℕ) (terms : Terms) → terms_of l sources ≡ Some terms
    → (may_grant l ≡ true)
    × (terms ≡ record { ids = l.ids; drops = l.drops; reports = l.reports; sources = sources })
some-terms l sources terms e = go (may_grant l) refl e
  where
    own : Terms
    own = record { ids = l.ids; drops = l.drops; reports = l.reports; sources = sources }

    some-is : (a b : Terms) → Some a ≡ Some b → b ≡ a
    some-is a b f = cc

    go : (b : Bool) → may_grant l ≡ b → (if b then Some own else None) ≡ Some terms → (may_grant l ≡ true) × (terms ≡ own)
    go true is f = (is, some-is own terms f)
    go false is f = absurd cc

pub opened-under : (links : List LinkConfig) (blocks trackers width liberties : ℕ) (sources : List ℕ) (terms : Terms)
    (s : Option Session) (answer : Answer)
    → may_open_manager links blocks trackers width (profile_code (liberties_at liberties)) ≡ true
    → (length sources == length links) ≡ true
    → terms_of (liberties_at liberties) (sources ++ drop (length sources) (replicate 16 0)) ≡ Some terms
    → OpensManager links blocks trackers width (profile_code (liberties_at liberties)) terms true s answer
    → ManagerOpensUnder links blocks trackers width liberties sources s answer
opened-under links blocks trackers width liberties sources terms s answer may count are opens =
    let granted = some-terms (liberties_at liberties) (sources ++ drop (length sources) (replicate 16 0)) terms are in
    rw (may, count, granted.0) (rw granted.1 at opens)

-- what may not be opened is bad input
pub refused-under : (links : List LinkConfig) (blocks trackers width liberties : ℕ) (sources : List ℕ)
    → may_open_manager_under links blocks trackers width liberties sources ≡ false
    → ManagerOpensUnder links blocks trackers width liberties sources None bad
refused-under links blocks trackers width liberties sources e = rw e refl
