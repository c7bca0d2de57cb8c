-- What a new caching client knows.
use Rattle.tl_client.proofs.Imports.{held, pending, unfinished, Caching, fresh, KnowsCaching, caching_terms, open_beat}
use Rattle.tl_client.proofs.Imports.{open_release, fields_of, release_fields, open_at, held_in, copy_in, waiting_in}
use Rattle.std.proofs.Common.{◌≡◌, ℕ, false, [], None, refl, ◌∙◌, sym}
use Rattle.tl_params.specs.declared.perm.Perm.TheVariants as perm
use Rattle.tl_client.proofs.pending.Accounted.{accounted-fresh}
use Rattle.tl_client.proofs.endpoint.Inside.{inside-fresh}
use Rattle.tl_client.proofs.pending.KeptOffered.{kept-fresh}

no_request : (w s : ℕ) → fields_of (open_beat {w = w} s []) ≡ None
unfolding pending
no_request w s = refl

no_release : (w s : ℕ) → release_fields (open_release {w = w} s []) ≡ None
unfolding pending
no_release w s = refl

pub knows-new : {w : ℕ} (c : Caching w) → c.closed ≡ false → c.responses ≡ [] → c.granting ≡ None
    → ((k : ℕ) → held_in c.table k ≡ perm.None) → ((k : ℕ) → copy_in c.table k ≡ None)
    → ((k : ℕ) → waiting_in c.table k ≡ None)
    → ((s : ℕ) → open_at c.requests s ≡ None) → ((s : ℕ) → open_at c.releases s ≡ None) → KnowsCaching c fresh
unfolding unfinished held
knows-new {w} c closed responses granting holds copies waiting requests releases = record {
  closed_is = closed;
  held_is = holds;
  copies_are = copies;
  waiting_are = waiting;
  requests_are = λ s. requests s ∙ sym (no_request w s);
  releases_are = λ s. releases s ∙ sym (no_release w s);
  response_is = responses;
  granting_is = λ k. rw granting refl;
  sink_is = λ s. rw granting refl;
  kept = kept-fresh w;
  accounted = accounted-fresh w;
  inside = inside-fresh w (caching_terms c);
}
