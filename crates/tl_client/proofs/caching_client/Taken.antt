-- What a caching client knows after a beat that it takes.
use Rattle.tl_client.proofs.Imports.{Beat, Channel, Message, History, unfinished, Rule, comes_in_grant, asks_for}
use Rattle.tl_client.proofs.Imports.{is_grant, request_of, Caching, Finish, Verdict, Taken, Done, comes_granting, heard}
use Rattle.tl_client.proofs.Imports.{is_refused, Endpoint, IsInside, KnowsCaching, caching_terms, is_granting, has_sink}
use Rattle.tl_client.proofs.Imports.{offered, fields_of, release_fields, open_at, held_in, copy_in, waiting_in}
use Rattle.std.proofs.Common.{◌≡◌, ℕ, Bool, true, false, ◌&&◌, ◌||◌, List, [], ◌∷◌, Option, refl, sym, ◌∙◌, ap, subst}
use Rattle.std.specs.Prelude.{Result, Ok}
use Rattle.tl_beat.specs.declared.beat.Beat.TheVariants as beat
use Rattle.tl_beat.specs.declared.channel.Channel.TheVariants as channel
use Rattle.tl_client.specs.laws.After.{copy_by, copy_with, waiting_by, waiting_with, open_by, open_heard, release_by}
use Rattle.tl_client.specs.laws.After.{release_heard}
use Rattle.tl_client.specs.laws.Held.{held_by, held_with}
use Rattle.tl_client.proofs.pending.Accounted.{accounted-offered}
use Rattle.tl_client.proofs.endpoint.AfterOffered.{closed-offered, copies-offered, waiting-offered}
use Rattle.tl_client.proofs.endpoint.HeldAfter.{held-offered}
use Rattle.tl_client.proofs.endpoint.Inside.{inside-offered}
use Rattle.tl_client.proofs.pending.KeptOffered.{kept-offered}
use Rattle.tl_client.proofs.pending.Open.{open-offered, open_release-offered}
use Rattle.tl_client.proofs.endpoint.Outstanding.{request-offered, unfinished-offered}

-- the answer is one to a beat that is taken
pub record IsTaking {w : ℕ} (a : Result (Verdict × Option (Message w)) Rule) (x : Beat w) : Type 0 where
  pub holdings : (t : History w) (k : ℕ) → held_by a x t k ≡ held_with x t k
  pub copies : (k : ℕ) (e : Endpoint w) → copy_by a x k e ≡ copy_with x k e
  pub waiting : (k : ℕ) (e : Endpoint w) → waiting_by a x k e ≡ waiting_with x k e
  pub opens : (s : ℕ) (t : History w) → open_by s a x t ≡ open_heard s x t
  pub opens_release : (s : ℕ) (t : History w) → release_by s a x t ≡ release_heard s x t
  pub hears : (t : History w) → heard a x t ≡ x ∷ t
  pub accepts : is_refused a ≡ false

pub taking : {w : ℕ} (m : Option (Message w)) (x : Beat w) → IsTaking (Ok (Taken, m)) x
taking m x = record {
  holdings = λ t k. refl;
  copies = λ k e. refl;
  waiting = λ k e. refl;
  opens =
      λ s t. refl;
  opens_release = λ s t. refl;
  hears = λ t. refl;
  accepts = refl;
}

pub finishing : {w : ℕ} (s : ℕ) (f : Finish) (m : Option (Message w)) (x : Beat w) → IsTaking (Ok (Done s f, m)) x
finishing s f m x = record {
  holdings = λ t k. refl;
  copies = λ k e. refl;
  waiting = λ k e. refl;
  opens =
      λ s t. refl;
  opens_release = λ s t. refl;
  hears = λ t. refl;
  accepts = refl;
}

same_granting : {w : ℕ} (k : ℕ) (burst : List (Beat w)) (t u : History w) → ((s : ℕ) → request_of s t ≡ request_of s u)
    → comes_granting k burst t ≡ comes_granting k burst u
same_granting k [] t u same = refl
same_granting k (beat.A x ∷ burst) t u same = refl
same_granting k (beat.B x ∷ burst) t u same = refl
same_granting k (beat.C x ∷ burst) t u same = refl
same_granting k (beat.D x ∷ burst) t u same = ap (λ r. is_grant x.opcode && asks_for k r) (same x.source)
same_granting k (beat.E x ∷ burst) t u same = refl

unrefused : (closed refused : Bool) → refused ≡ false → (closed || refused) ≡ closed
unrefused true refused is = refl
unrefused false refused is = is

-- what is kept is what the beat leaves
pub record Follows {w : ℕ} (c d : Caching w) (x : Beat w) (e : Endpoint w) : Type 0 where
  pub closed : d.closed ≡ c.closed
  pub terms : caching_terms d ≡ caching_terms c
  pub holdings : (k : ℕ) → held_in d.table k ≡ held_with x e.past k
  pub copies : (k : ℕ) → copy_in d.table k ≡ copy_with x k e
  pub waiting : (k : ℕ) → waiting_in d.table k ≡ waiting_with x k e
  pub requests : (s : ℕ) → open_at d.requests s ≡ fields_of (open_heard s x e.past)
  pub releases : (s : ℕ) → open_at d.releases s ≡ release_fields (release_heard s x e.past)
  pub response : d.responses ≡ unfinished channel.D (x ∷ e.past)
  pub granting : (k : ℕ) → is_granting k d.granting ≡ comes_granting k (unfinished channel.D (x ∷ e.past)) e.past
  pub sink : (s : ℕ) → has_sink s d.granting ≡ comes_in_grant s (unfinished channel.D (x ∷ e.past))

pub knows-after : {w : ℕ} (c d : Caching w) (ch : Channel) (x : Beat w) (e : Endpoint w)
    (a : Result (Verdict × Option (Message w)) Rule) → KnowsCaching c e
    → (offered (caching_terms c) ch x e).answer ≡ a → IsTaking a x → Follows c d x e
    → KnowsCaching d (offered (caching_terms c) ch x e).after
knows-after {w} c d ch x e a knows is takes follows =
    let after = (offered (caching_terms c) ch x e).after in
    let burst : unfinished channel.D after.past ≡ unfinished channel.D (x ∷ e.past) =
    unfinished-offered (caching_terms c) ch x e channel.D c.width knows.kept ∙ rw is
    (ap (λ t. unfinished channel.D t) (takes.hears e.past)) in
    record {
      closed_is = follows.closed ∙ knows.closed_is ∙ sym
          (closed-offered (caching_terms c) ch x e ∙ rw is (unrefused e.closed (is_refused a) takes.accepts));
      held_is = λ k. follows.holdings k ∙ sym (held-offered (caching_terms c) ch x e k c.width knows.kept.c_whole ∙ rw
          is
          (takes.holdings e.past k));
      copies_are = λ k. follows.copies k ∙ sym (copies-offered (caching_terms c) ch x e k ∙ rw is (takes.copies k e));
      waiting_are = λ k. follows.waiting k ∙ sym (waiting-offered (caching_terms c) ch x e k ∙ rw is
          (takes.waiting k e));
      requests_are = λ s. follows.requests s ∙ ap fields_of
          (sym (open-offered (caching_terms c) ch x e s c.width knows.kept ∙ rw is (takes.opens s e.past)));
      releases_are = λ s. follows.releases s ∙ ap release_fields
          (sym (open_release-offered (caching_terms c) ch x e s c.width knows.kept ∙ rw is
          (takes.opens_release s e.past)));
      response_is = follows.response ∙ sym burst;
      granting_is = λ k. follows.granting k ∙ sym (ap (λ b. comes_granting k b after.past) burst
          ∙ same_granting k (unfinished channel.D (x ∷ e.past)) after.past e.past
          (λ s. request-offered (caching_terms c) ch x e s c.width knows.kept));
      sink_is = λ s. follows.sink s ∙ ap (comes_in_grant s) (sym burst);
      kept = kept-offered (caching_terms c) ch x e c.width knows.kept;
      accounted = accounted-offered (caching_terms c) ch x e c.width knows.kept knows.accounted;
      inside = subst (λ terms. IsInside terms after.past) (sym follows.terms)
          (inside-offered (caching_terms c) ch x e c.width knows.kept knows.inside);
    }
