-- What a plain client knows of its end of the link.
use Rattle.std.specs.Prelude.{ℕ, Bool, true, false, List, [], ◌∷◌, ◌≡◌, Some, None, Result, Ok, Err}
use Rattle.tl_beat.specs.declared.beat.Beat.{Beat}
use Rattle.tl_beat.specs.declared.beat.Beat.TheVariants as beat
use Rattle.tl_beat.specs.declared.channel.Channel.TheVariants as channel
use Rattle.tl_burst.specs.statement.Messages.{History, unfinished}
use Rattle.tl_params.specs.declared.config.ClientConfig.{ClientConfig}
use Rattle.tl_params.specs.declared.config.NewFault.{NewFault}
use Rattle.tl_params.specs.declared.key.Key.{Key}
use Rattle.tl_params.specs.declared.key.Key.TheVariants.{RequestSource}
use Rattle.tl_params.specs.declared.perm.Perm.TheVariants as perm
use Rattle.tl_params.specs.declared.profile.Profile.{Profile}
use Rattle.tl_params.specs.statement.Config.{client_fault}
use Rattle.tl_rules.specs.statement.History.{pending, held}
use Rattle.tl_client.specs.declared.plain.Plain.{Plain}
use Rattle.tl_client.specs.statement.Endpoint.{EndConfig, Endpoint, fresh}
use Rattle.tl_client.specs.code.Sources.{open_at}
use Rattle.tl_client.specs.statement.Requests.{open_request}

-- what a plain client was made for
abbrev pub plain_terms : {w : ℕ} → Plain w → EndConfig
plain_terms p = record { level = p.config.level; profile = p.profile; sources = p.config.sources; blocks = p.blocks }

-- the request that an unfinished response answers is pending
abbrev pub answers_pending : {w : ℕ} → List (Beat w) → History w → Bool
answers_pending (beat.D x ∷ burst) t = pending (RequestSource x.source) t
answers_pending _ t = true

-- the key is the source of a request
abbrev pub is_request : Key → Bool
is_request (RequestSource s) = true
is_request _ = false

-- A plain client knows this end of its link: it keeps the open requests, the unfinished response and
-- the mark of a refusal, and holds nothing.
pub record KnowsPlain {w : ℕ} (p : Plain w) (e : Endpoint w) : Type 0 where
  pub closed_is : p.closed ≡ e.closed
  pub requests_are : (s : ℕ) → open_at p.requests s ≡ open_request s e.past
  pub response_is : p.responses ≡ unfinished channel.D e.past
  pub sent_whole : unfinished channel.A e.past ≡ []
  pub answers_open : answers_pending (unfinished channel.D e.past) e.past ≡ true
  pub requests_alone : (key : Key) → is_request key ≡ false → pending key e.past ≡ false
  pub holds_nothing : (k : ℕ) → held k e.past ≡ perm.None
  pub has_no_copy : (k : ℕ) → e.copies k ≡ None

-- what a new plain client is, or the first limit that is broken
abbrev pub IsNewPlain : {w : ℕ} → ClientConfig → ℕ → Profile → Result (Plain w) NewFault → Type 0
IsNewPlain config blocks profile (Ok p) =
    (client_fault config blocks ≡ None)
    × KnowsPlain p fresh
    × (plain_terms p ≡ record { level = config.level; profile = profile; sources = config.sources; blocks = blocks })
IsNewPlain config blocks profile (Err fault) = client_fault config blocks ≡ Some fault

-- it knows an end with this history
abbrev pub KnowsPlainPast : {w : ℕ} → Plain w → History w → Type 0
KnowsPlainPast {w} p t = (e : Endpoint w) × KnowsPlain p e × (e.past ≡ t)
