-- On the links of a world is held what may be held at most, so that a block is as free as by what is held.
use Rattle.tl_concord.proofs.Imports.{Config, Perm, on_link, held, trace_of, Log, IsGiven}
use Rattle.std.proofs.Common.{◌≡◌, ◌≤◌, ◌<◌, ℕ, zero, suc, List, [], ◌∷◌, length, refl, sym}
use Rattle.std.proofs.Common.{◌∙◌, arith}
use Rattle.std.specs.Prelude.{None}
use Rattle.std.proofs.lemmas.List.{length-map}
use Rattle.tl_bytes.specs.statement.Free as bytes
use Rattle.tl_bytes.specs.statement.Free.{may_hold}
use Rattle.tl_coherence.proofs.flow.FlowTraces.{AreGood, all-good}
use Rattle.tl_coherence.specs.statement.Delivery.{levels_of}
use Rattle.tl_memory.specs.statement.Links.{KeepRules}
use Rattle.tl_params.specs.declared.level.Level.{Level}
use Rattle.tl_params.specs.declared.profile.Profile.{Profile}
use Rattle.tl_params.specs.statement.Liberties.{liberties_of}
use Rattle.tl_rules.proofs.Profiles.{held-of, on_link-of}
use Rattle.tl_rules.specs.statement.Conformance.{Trace}
use Rattle.tl_rules.specs.statement.Windows.{is_free}
use Rattle.tl_together.proofs.Following.{most}

-- what breaks no rule of a profile breaks none under its liberties
keeps-good : {w : ℕ} (levels : List Level) (p : Profile) (t : Trace w) → AreGood levels p t
    → KeepRules (liberties_of p) levels t
unfolding AreGood
keeps-good levels p [] good = tt
keeps-good levels p (x ∷ t) good = (on_link-of p levels x t ∙ good.0, keeps-good levels p t good.1)

pub kept-world : {w : ℕ} {config : Config} (log : Log w) → IsGiven config log
    → KeepRules (liberties_of config.profile) (levels_of config) (trace_of log)
kept-world {w} {config} log given = keeps-good (levels_of config) config.profile (trace_of log) (all-good log given)

pub held-alike : {w : ℕ} (levels : List Level) (p : Profile) (c block : ℕ) (t : Trace w)
    → KeepRules (liberties_of p) levels t → c < length levels
    → may_hold block (on_link c t) ≡ held block (on_link c t)
held-alike levels p c block t kept lt =
    sym (most levels (liberties_of p) c block t kept lt) ∙ held-of p block (on_link c t)

pub free-alike : {w : ℕ} (levels : List Level) (p : Profile) (n : ℕ) (given : Perm) (block : ℕ) (t : Trace w)
    → KeepRules (liberties_of p) levels t → n ≤ length levels
    → bytes.is_free n given block t ≡ is_free n None given block t
unfolding is_free bytes.is_free
free-alike levels p zero given block t kept le = refl
free-alike levels p (suc n) given block t kept le =
    rw (
      free-alike levels p n given block t kept (omega (arith, le)),
      held-alike levels p n block t kept (omega (arith, le)),
    ) refl

-- as many links as there are clients
pub links-few : (config : Config) → length config.clients.items ≤ length (levels_of config)
links-few config = let same = length-map config.clients.items (λ client. client.level) in omega (arith, same)

-- a block is as free after what a world's links have carried
pub free-world : {w : ℕ} {config : Config} (log : Log w) → IsGiven config log → (n : ℕ) (given : Perm) (block : ℕ)
    → n ≤ length (levels_of config)
    → bytes.is_free n given block (trace_of log) ≡ is_free n None given block (trace_of log)
free-world {w} {config} log is n given block le =
    free-alike (levels_of config) config.profile n given block (trace_of log) (kept-world log is) le

-- what a client's link may hold is what it holds
pub held-world : {w : ℕ} {config : Config} (log : Log w) → IsGiven config log → (c block : ℕ)
    → c < length config.clients.items → may_hold block (on_link c (trace_of log)) ≡ held block (on_link c (trace_of log))
held-world {w} {config} log given c block lt =
    let few = links-few config in
    held-alike (levels_of config) config.profile c block (trace_of log) (kept-world log given) (omega (arith, lt, few))
