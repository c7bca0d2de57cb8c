-- M1 and M4, of renamed traces.
use Rattle.tl_renaming.proofs.Imports.{BeatD, D, begins, renamed_d}
use Rattle.tl_renaming.proofs.Free.{grantable-kept, had-window-kept, open-kept, renamed_request}
use Rattle.tl_renaming.{proofs.Bursts.begins-kept, proofs.Choices.both-chosen, proofs.Traces.link-kept}
use Rattle.tl_renaming.specs.statement.Renamed.{AreFaithful, Renamings, of_link, renamed_trace}
use Rattle.std.proofs.Common.{◌≡◌, ℕ, refl, ap, ◌∙◌}
use Rattle.std.specs.Prelude.{Option, Some, None, option_map}
use Rattle.tl_params.specs.declared.liberties.Liberties.{Liberties}
use Rattle.tl_rules.specs.code.Open.{open_request}
use Rattle.tl_rules.specs.declared.past.Request.{Request}
use Rattle.tl_rules.specs.statement.Conformance.{Trace, on_link}
use Rattle.tl_rules.specs.statement.History.{capped}
use Rattle.tl_rules.specs.statement.Windows.{needs}
use Rattle.tl_together.specs.statement.Coherence.{broken_access, broken_beginning, broken_grant, broken_response}

module _ {w : ℕ} (l : Liberties) (r : Renamings) (faithful : AreFaithful l r) (n link : ℕ) where
  grant-kept : (x : BeatD w) (o : Option Request) (t : Trace w)
      → broken_grant n link (renamed_d (of_link r link) x) (option_map (renamed_request (of_link r link)) o)
      (renamed_trace r t) ≡ broken_grant n link x o t
  grant-kept x None t = refl
  grant-kept x (Some q) t = rw (grantable-kept l r faithful n link (capped x.param) q.block t) refl

  access-kept : (x : BeatD w) (o : Option Request) (t : Trace w)
      → broken_access n link (renamed_d (of_link r link) x) (option_map (renamed_request (of_link r link)) o)
      (renamed_trace r t) ≡ broken_access n link x o t
  access-kept x None t = refl
  access-kept x (Some q) t = rw (had-window-kept l r faithful n link x.source (needs q.opcode) q.block t) refl

  response-kept : (x : BeatD w) (t : Trace w)
      → broken_response n link (renamed_d (of_link r link) x) (renamed_trace r t) ≡ broken_response n link x t
  response-kept x t =
      rw (
        open-kept l r faithful link x.source t,
        grant-kept x (open_request x.source (on_link link t)) t,
        access-kept x (open_request x.source (on_link link t)) t,
      ) refl

  pub beginning-kept : (x : BeatD w) (t : Trace w)
      → broken_beginning n link (renamed_d (of_link r link) x) (renamed_trace r t) ≡ broken_beginning n link x t
  beginning-kept x t =
      both-chosen (ap (λ h. begins (D (renamed_d (of_link r link) x)) h) (link-kept r link t)
      ∙ begins-kept (of_link r link) (D x) (on_link link t)) (response-kept x t) refl
