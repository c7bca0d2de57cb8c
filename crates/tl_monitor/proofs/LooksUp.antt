-- What is kept of a link answers what the order of messages asks of its history.
use Rattle.std.proofs.Common.{◌≡◌, ℕ, sym, ap, ◌∙◌}
use Rattle.std.specs.Prelude.{is_some}
use Rattle.tl_burst.specs.statement.Messages.{History}
use Rattle.tl_params.specs.declared.key.Key.TheVariants.{RequestSource, ReleaseSource, GrantAckOf, ProbeOf}
use Rattle.tl_params.specs.declared.liberties.Liberties.{Liberties}
use Rattle.tl_rules.specs.statement.History.{pending}
use Rattle.tl_rules.proofs.Tables.{pending-request, pending-release, pending-probe, pending-grant}
use Rattle.tl_monitor.specs.statement.Count.{at}
use Rattle.tl_monitor.specs.code.KnownBlocks.{known_in}
use Rattle.tl_monitor.specs.code.Keeps.{Keeps}
use Rattle.tl_monitor.specs.declared.link_state.LinkState.{LinkState}

pub request-pending : {w : ℕ} {lib : Liberties} (k : LinkState) (t : History w) (s : ℕ) → Keeps lib k t
    → is_some (at k.requests s) ≡ pending (RequestSource s) t
request-pending k t s keeps = ap is_some (keeps.requests_are s) ∙ sym (pending-request s t)

pub release-pending : {w : ℕ} {lib : Liberties} (k : LinkState) (t : History w) (s : ℕ) → Keeps lib k t
    → is_some (at k.releases s) ≡ pending (ReleaseSource s) t
release-pending k t s keeps = ap is_some (keeps.releases_are s) ∙ sym (pending-release s t)

pub grant-pending : {w : ℕ} {lib : Liberties} (k : LinkState) (t : History w) (b : ℕ) → Keeps lib k t
    → is_some (known_in k.blocks b).grant ≡ pending (GrantAckOf b) t
grant-pending k t b keeps = ap (λ c. is_some c.grant) (keeps.blocks_are b) ∙ sym (pending-grant b t)

pub probe-pending : {w : ℕ} {lib : Liberties} (k : LinkState) (t : History w) (b : ℕ) → Keeps lib k t
    → is_some (known_in k.blocks b).probe ≡ pending (ProbeOf b) t
probe-pending k t b keeps = ap (λ c. is_some c.probe) (keeps.blocks_are b) ∙ sym (pending-probe b t)
