-- After a lawful history a beat is kept exactly if it names the source, sink or block.
use Rattle.tl_keys.proofs.Imports.{Beat, A, B, C, D, E, Channel, History, channel_of, unfinished, completes, is_empty}
use Rattle.tl_keys.proofs.Imports.{Profile, release_of, request_of, Name, is_kept, names, restricted, OfBlock, OfSink}
use Rattle.tl_keys.proofs.Imports.{OfSource}
use Rattle.std.proofs.Common.{◌≡◌, ℕ, Bool, true, false, not, List, [], ◌∷◌, length, refl, sym, ap, ◌∙◌, subst}
use Rattle.std.specs.Prelude.{if◌then◌else◌, None, ◌==◌, ◌+◌}
use Rattle.tl_burst.specs.statement.Messages.{burst_length, grown, on}
use Rattle.tl_rules.specs.statement.Conformance.{broken_in_order}
use Rattle.tl_keys.proofs.Kept.{dropped, kept-step, own-channel, same-burst}
use Rattle.tl_keys.proofs.Lawful.{AreInOrder, goes-on, names-kept, none-on-e, same-names}

-- the newest beat of an unfinished burst is of its channel
unfinished-on : {w : ℕ} (ch : Channel) (t : History w) (y : Beat w) (older : List (Beat w))
    → unfinished ch t ≡ y ∷ older → channel_of y ≡ ch
unfolding unfinished
unfinished-on ch [] y older e = absurd cc
unfinished-on {w} ch (x ∷ t) y older e = go (unfinished-on ch t y older) (on ch x) refl
    (completes x (unfinished ch t)) refl
  where
    first_is : (a b : Beat w) (xs ys : List (Beat w)) → a ∷ xs ≡ b ∷ ys → a ≡ b
    first_is a b xs ys f = cc

    go : (unfinished ch t ≡ y ∷ older → channel_of y ≡ ch) → (b : Bool) → on ch x ≡ b → (last : Bool)
        → completes x (unfinished ch t) ≡ last → channel_of y ≡ ch
    go before false f last g = before (rw f at e)
    go before true f true g = absurd (let no : [] ≡ y ∷ older = rw (f, g) at e in cc)
    go before true f false g =
        let here : x ∷ unfinished ch t ≡ y ∷ older = rw (f, g) at e in
        ap channel_of (sym (first_is x y (unfinished ch t) older here)) ∙ own-channel ch x f

-- a beat that its channel's burst isn't complete with names the same with itself
own-names : {w : ℕ} (n : Name) (x : Beat w) (t : History w) → (channel_of x ≡ Channel.E → ⊥)
    → names n x (x ∷ t) ≡ names n x t
unfolding request_of release_of
own-names (OfSource s) (A x) t apart = refl
own-names (OfSource s) (B x) t apart = refl
own-names (OfSource s) (C x) t apart = refl
own-names (OfSource s) (D x) t apart = refl
own-names (OfSource s) (E x) t apart = refl
own-names (OfSink k) (A x) t apart = refl
own-names (OfSink k) (B x) t apart = refl
own-names (OfSink k) (C x) t apart = refl
own-names (OfSink k) (D x) t apart = refl
own-names (OfSink k) (E x) t apart = refl
own-names (OfBlock b) (A x) t apart = refl
own-names (OfBlock b) (B x) t apart = refl
own-names (OfBlock b) (C x) t apart = refl
own-names (OfBlock b) (D x) t apart = refl
own-names (OfBlock b) (E x) t apart = absurd (apart refl)

-- what is unfinished is kept if it names it, and only then
abbrev pub AreNamed : {w : ℕ} → Name → History w → Type 0
AreNamed {w} n t = (ch : Channel) (y : Beat w) (older : List (Beat w)) → unfinished ch t ≡ y ∷ older
    → names n y t ≡ not (is_empty (unfinished ch (restricted n t)))

kept-if : {w : ℕ} (p : Profile) (n : Name) (x : Beat w) (t : History w) → AreNamed n t → broken_in_order p x t ≡ None
    → names n x t ≡ is_kept n x t (restricted n t)
kept-if {w} p n x t named lawful = go (unfinished (channel_of x) t) refl
  where
    go : (burst : List (Beat w)) → unfinished (channel_of x) t ≡ burst → names n x t ≡ is_kept n x t (restricted n t)
    go [] e = rw e refl
    go (z ∷ rest) e =
        rw e (same-names n x z t (goes-on p x z rest t lawful e) ∙ named (channel_of x) z rest e)

pub are-named : {w : ℕ} (p : Profile) (n : Name) (t : History w) → AreInOrder p t → AreNamed n t
unfolding AreInOrder unfinished restricted
are-named p n [] lawful ch y older e = absurd cc
are-named {w} p n (x ∷ t) lawful ch y older e =
    go (are-named p n t lawful.1) (on ch x) refl (completes x (unfinished ch t)) refl
  where
    r : History w
    r = restricted n t

    kept : Bool
    kept = is_kept n x t r

    both : (a b : Beat w) (xs ys : List (Beat w)) → a ∷ xs ≡ b ∷ ys → a ≡ b
    both a b xs ys f = cc

    -- of a beat that is kept the burst isn't empty, of another there is none
    grown-is : (k : Bool) → (last : Bool) → completes x (unfinished ch t) ≡ last → last ≡ false
        → (k ≡ true → unfinished ch r ≡ unfinished ch t) → (k ≡ false → unfinished ch r ≡ [])
        → k ≡ not (is_empty (if k then grown x (unfinished ch r) else unfinished ch r))
    grown-is true last f g whole none =
        let more : (length (unfinished ch r) + 1 == burst_length x) ≡ false = ap (completes x) (whole refl) ∙ f ∙ g in
        rw more refl
    grown-is false last f g whole none = rw (none refl) refl

    no-ack : channel_of x ≡ ch → ch ≡ Channel.E → ⊥
    no-ack f g = let no : [] ≡ y ∷ older = sym (none-on-e (x ∷ t)) ∙ ap (λ c. unfinished c (x ∷ t)) (sym g) ∙ e in cc

    go : AreNamed n t → (b : Bool) → on ch x ≡ b → (last : Bool) → completes x (unfinished ch t) ≡ last
        → names n y (x ∷ t) ≡ not (is_empty (unfinished ch (if kept then x ∷ r else r)))
    go named false f last g =
        let before : unfinished ch t ≡ y ∷ older = rw f at e in
        let of_ch = unfinished-on ch t y older before in
        names-kept p n x y older t lawful.0 lawful.1 (ap (λ c. unfinished c t) of_ch ∙ before)
        ∙ named ch y older before ∙ rw (kept-step ch x r kept, f) refl
    go named true f true g = absurd (let no : [] ≡ y ∷ older = rw (f, g) at e in cc)
    go named true f false g =
        let here : x ∷ unfinished ch t ≡ y ∷ older = rw (f, g) at e in
        let of_ch = own-channel ch x f in
        let is = kept-if p n x t named lawful.0 in
        subst (λ (z : Beat w). names n z (x ∷ t) ≡ not (is_empty (unfinished ch (if kept then x ∷ r else r))))
        (both x y (unfinished ch t) older here)
        (own-names n x t (λ ack. no-ack of_ch (sym of_ch ∙ ack)) ∙ is ∙ rw (kept-step ch x r kept, f)
        (grown-is kept false g refl (λ k. subst (λ (c : Channel). unfinished c r ≡ unfinished c t) of_ch
        (same-burst n x t k)) (λ k. subst (λ (c : Channel). unfinished c r ≡ []) of_ch (dropped n x t k))))

-- so a beat is kept
pub kept-is : {w : ℕ} (p : Profile) (n : Name) (x : Beat w) (t : History w) → AreInOrder p (x ∷ t)
    → is_kept n x t (restricted n t) ≡ names n x t
unfolding AreInOrder
kept-is p n x t lawful = sym (kept-if p n x t (are-named p n t lawful.1) lawful.0)
