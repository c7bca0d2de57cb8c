-- The accesses that are pending after a renamed trace.
use Rattle.tl_renaming.proofs.Imports.{Beat, A, B, C, D, E, BeatA, Channel, History, unfinished}
use Rattle.tl_renaming.proofs.Imports.{Renaming, renamed, renamed_a, renamed_address}
use Rattle.tl_renaming.proofs.Imports.{renamed_history}
use Rattle.tl_renaming.proofs.Carried.{bytes-carried-kept, carried-mask-kept, some-spoiled-kept}
use Rattle.tl_renaming.{proofs.Bursts.ends-kept, proofs.Bursts.unfinished-kept, proofs.Numbers.same-test}
use Rattle.tl_renaming.{proofs.Traces.beats-kept, proofs.Traces.link-kept}
use Rattle.tl_renaming.specs.statement.Renamed.{AreFaithful, Renamings, of_link, renamed_trace}
use Rattle.std.proofs.Common.{◌≡◌, ℕ, suc, Bool, true, false, not, ◌&&◌, List, [], ◌∷◌, length, map, refl, ap, ◌∙◌}
use Rattle.std.specs.Prelude.{find, if◌then◌else◌, None, Option, Some, option_map, ◌==◌}
use Rattle.std.proofs.lemmas.Bool.{eqb-true}
use Rattle.tl_burst.specs.declared.message.MessageA.{MessageA}
use Rattle.tl_bytes.specs.statement.Bytes.{Access, all_but, asked_by, asked_since, asks_new, is_of, leaves_pending}
use Rattle.tl_bytes.specs.statement.Early.{Outrun, outrun_accesses}
use Rattle.tl_renaming.proofs.{Answered.ends-request-kept, Answered.outruns-kept, Choices.filter-kept, Choices.find-kept}
use Rattle.tl_renaming.proofs.Outrun.{has-outrun-kept, outrun-kept, renamed_outrun}
use Rattle.tl_bytes.specs.statement.Bytes.{pending_accesses, pending_with}
use Rattle.tl_params.specs.declared.liberties.Liberties.{Liberties}
use Rattle.tl_rules.specs.statement.Conformance.{Trace, on_link}

-- what a request, and an access, becomes
abbrev pub renamed_message : {w : ℕ} → Renaming → MessageA w → MessageA w
renamed_message r m = record m { source = r.source m.source; address = renamed_address r m.address }

abbrev pub renamed_access : {w : ℕ} → Renamings → Access w → Access w
renamed_access r x = record x { request = renamed_message (of_link r x.link) x.request }

module _ {w : ℕ} (l : Liberties) (r : Renamings) (faithful : AreFaithful l r) where
  -- ---- whose access it is

  pub is-of-kept : (link s : ℕ) (x : Access w) → is_of link (r.sources link s) (renamed_access r x) ≡ is_of link s x
  is-of-kept link s x = go (x.link == link) refl
    where
      go : (b : Bool) → (x.link == link) ≡ b
          → ((x.link == link) && (r.sources x.link x.request.source == r.sources link s))
          ≡ ((x.link == link) && (x.request.source == s))
      go true e = rw e (ap (λ i. r.sources i x.request.source == r.sources link s) (eqb-true x.link link e)
          ∙ same-test (r.sources link) (faithful link).sources_apart x.request.source s)
      go false e = rw e refl

  pub not-of-kept : (link s : ℕ) (x : Access w)
      → not (is_of link (r.sources link s) (renamed_access r x)) ≡ not (is_of link s x)
  not-of-kept link s x = ap not (is-of-kept link s x)

  -- ---- what is pending

  asked-kept : (link : ℕ) (x : BeatA w) (burst : List (Beat w)) (moment : ℕ)
      → asked_by link (renamed_a (of_link r link) x) (map (renamed (of_link r link)) burst) moment
      ≡ renamed_access r (asked_by link x burst moment)
  asked-kept link x burst moment =
      rw (
        bytes-carried-kept (of_link r link) burst,
        carried-mask-kept (of_link r link) burst,
        some-spoiled-kept (of_link r link) burst,
      ) refl

  but-kept : (link s : ℕ) (before : List (Access w)) → all_but link (r.sources link s) (map (renamed_access r) before)
      ≡ map (renamed_access r) (all_but link s before)
  but-kept link s before =
      filter-kept (renamed_access r) (λ a. not (is_of link s a)) (λ a. not (is_of link (r.sources link s) a))
      (not-of-kept link s) before

  since-kept : (link s moment : ℕ) (before : List (Access w))
      → asked_since (find (is_of link (r.sources link s)) (map (renamed_access r) before)) moment
      ≡ asked_since (find (is_of link s) before) moment
  since-kept link s moment before =
      ap (λ o. asked_since o moment) (find-kept (renamed_access r) (is_of link s) (is_of link (r.sources link s))
      (is-of-kept link s) before)
      ∙ same (find (is_of link s) before)
    where
      same : (o : Option (Access w)) → asked_since (option_map (renamed_access r) o) moment ≡ asked_since o moment
      same None = refl
      same (Some access) = refl

  step-kept : (link : ℕ) (x : Beat w) (t : History w) (moment : ℕ) (outrun : List Outrun) (before : List (Access w))
      → pending_with link (renamed (of_link r link) x) (renamed_history (of_link r link) t) moment
      (map (renamed_outrun r) outrun) (map (renamed_access r) before)
      ≡ map (renamed_access r) (pending_with link x t moment outrun before)
  step-kept link (A x) t moment outrun before =
      rw (
        ends-kept (of_link r link) (A x) t,
        has-outrun-kept l r faithful link x.source outrun,
        unfinished-kept (of_link r link) Channel.A t,
        since-kept link x.source moment before,
        but-kept link x.source before,
        asked-kept link x (A x ∷ unfinished Channel.A t) (asked_since (find (is_of link x.source) before) moment),
      ) (go (asks_new link x t outrun))
    where
      new : Access w
      new = asked_by link x (A x ∷ unfinished Channel.A t) (asked_since (find (is_of link x.source) before) moment)

      go : (b : Bool)
          → (if b then renamed_access r new ∷ map (renamed_access r) (all_but link x.source before)
          else map (renamed_access r) before)
          ≡ map (renamed_access r) (if b then new ∷ all_but link x.source before else before)
      go true = refl
      go false = refl
  step-kept link (D x) t moment outrun before =
      rw (
        ends-request-kept l (of_link r link) (faithful link) x t,
        outruns-kept l (of_link r link) (faithful link) x t,
        but-kept link x.source before,
      ) (go (leaves_pending x t))
    where
      go : (b : Bool)
          → (if b then map (renamed_access r) (all_but link x.source before) else map (renamed_access r) before)
          ≡ map (renamed_access r) (if b then all_but link x.source before else before)
      go true = refl
      go false = refl
  step-kept link (B x) t moment outrun before = refl
  step-kept link (C x) t moment outrun before = refl
  step-kept link (E x) t moment outrun before = refl

  pub accesses-kept : (t : Trace w) → pending_accesses (renamed_trace r t)
      ≡ map (renamed_access r) (pending_accesses t)
  unfolding pending_accesses
  accesses-kept [] = refl
  accesses-kept (x ∷ t) =
      rw (accesses-kept t, outrun-kept l r faithful t, link-kept r x.0.0 t, beats-kept r t)
      (step-kept x.0.0 x.1 (on_link x.0.0 t) (suc (length t)) (outrun_accesses t) (pending_accesses t))
