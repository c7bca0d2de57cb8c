-- The response that is complete with a beat.
use Rattle.tl_client.proofs.Imports.{IsWidth, Beat, BeatD, Message, beats_of, grown, completes, Caching}
use Rattle.tl_client.proofs.Imports.{Verdict, EndConfig, caching_terms}
use Rattle.std.proofs.Common.{◌≡◌, ℕ, true, List, [], ◌∷◌, length, Option, None, refl, ◌∙◌, ap, subst}
use Rattle.std.specs.Prelude.{IfSome}
use Rattle.tl_beat.specs.declared.beat.Beat.TheVariants as beat
use Rattle.tl_burst.specs.declared.message.Message.TheVariants as message
use Rattle.tl_burst.specs.statement.Burst.{IsBurst}
use Rattle.tl_client.specs.code.Response.{Response, IsFilled, in_beats, d_of}
use Rattle.tl_client.specs.code.Takes.{Finishes, GrantsInside, Ends}
use Rattle.tl_client.proofs.plain_client.Calls.{newest_of, payload_here}

-- these bytes are the payload of the response that a message is, where it is complete with this beat
pub filled-by : {w : ℕ} (m : Message w) (payload : List ℕ) (b : Beat w) (burst : List (Beat w)) → IsWidth w
    → length payload ≡ 64 → IfSome (d_of m) (λ n. payload ≡ n.payload) → IsBurst m (b ∷ burst) → IsFilled payload b burst
filled-by (message.D m) payload (beat.D x) burst is long same whole =
    same ∙ payload_here m (beat.D x ∷ burst) is whole (rw same at long)
filled-by (message.A m) payload (beat.D x) burst is long same whole =
    let p = newest_of (message.A m) (beat.D x) burst (beats_of (message.A m)) whole.0 in absurd cc
filled-by (message.B m) payload (beat.D x) burst is long same whole =
    let p = newest_of (message.B m) (beat.D x) burst (beats_of (message.B m)) whole.0 in absurd cc
filled-by (message.C m) payload (beat.D x) burst is long same whole =
    let p = newest_of (message.C m) (beat.D x) burst (beats_of (message.C m)) whole.0 in absurd cc
filled-by {w} (message.E m) payload (beat.D x) burst is long same whole =
    let p = newest_of (message.E m) (beat.D x) burst (beats_of {w = w} (message.E m)) whole.0 in absurd cc
filled-by m payload (beat.A x) burst is long same whole = tt
filled-by m payload (beat.B x) burst is long same whole = tt
filled-by m payload (beat.C x) burst is long same whole = tt
filled-by m payload (beat.E x) burst is long same whole = tt

-- nothing is left of a burst that is complete
pub nothing_left : {w : ℕ} (x : BeatD w) (b : Beat w) (burst new : List (Beat w)) → new ≡ grown b burst → b ≡ beat.D x
    → completes (beat.D x) burst ≡ true → new ≡ []
nothing_left x b burst new grows own last = grows ∙ ap (λ y. grown y burst) own ∙ rw last refl

pub ends-from : {w : ℕ} (c c1 d : Caching w) (n : Response) (x : BeatD w) (r : Verdict × Option (Message w))
    → n ≡ in_beats x c.responses → c1.table ≡ c.table → c1.requests ≡ c.requests
    → c1.releases ≡ c.releases → c1.closed ≡ c.closed → caching_terms c1 ≡ caching_terms c
    → (GrantsInside c1 n → Finishes c1 d n r) → d.responses ≡ [] → d.granting ≡ None
    → GrantsInside c (in_beats x c.responses) → Ends c d x r
ends-from {w} c c1 d n x r same table requests releases closed terms finishes response granting fits =
    let blocks : c1.blocks ≡ c.blocks = ap (λ (t : EndConfig). t.blocks) terms in
    let within : GrantsInside c1 (in_beats x c.responses) = rw (requests, blocks) fits in
    let f : Finishes c1 d (in_beats x c.responses) r = subst (λ (z : Response). GrantsInside c1 z → Finishes c1 d z r)
    same finishes within in
    record {
      finishes = record {
        answer = rw requests at f.answer;
        holdings = λ k. rw (requests, table) at f.holdings k;
        copies = λ k. rw (requests, table) at f.copies k;
        waiting = λ k. rw (requests, table) at f.waiting k;
        requests = λ s. rw requests at f.requests s;
        releases = λ s. rw releases at f.releases s;
        closed = f.closed ∙ closed;
        terms = f.terms ∙ terms;
      };
      response = response;
      granting = granting;
    }
