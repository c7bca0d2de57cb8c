-- The grounds for a response of a wide trace, by those for a part of it.
use Rattle.std.proofs.Common.{◌≡◌, ◌∙◌, ℕ, List, ◌++◌, [], ◌∷◌, ap, refl, sym, length}
use Rattle.tl_beat.specs.declared.beat.BeatD.{BeatD}
use Rattle.tl_beat.specs.declared.beat.Link.{Link}
use Rattle.tl_commit_lines.specs.statement.MarkedHeader.{complete_of, levels_of}
use Rattle.tl_commit_story.specs.code.Responses as narrow
use Rattle.tl_commit_story.specs.statement.Grounds.{response_grounds}
use Rattle.tl_params.specs.declared.memory_rule.MemoryRule.{MemoryRule}
use Rattle.tl_beat.specs.declared.beat.Beat.TheVariants as beat
use Rattle.tl_wide.specs.declared.beat.WideBeat.{WideBeat}
use Rattle.tl_wide.specs.declared.beat.WideBeat.TheVariants as wide
use Rattle.tl_wide.specs.statement.Naming.{WideTrace}
use Rattle.tl_wide.specs.statement.Narrowed.{asked_address}
use Rattle.tl_wide_story.specs.statement.WideNaming as naming
use Rattle.tl_wide_event_story.specs.code.Guiding.{IsResponse, TellsResponse, asked_after}
use Rattle.tl_wide_event_story.specs.declared.response_guide.ResponseGuide.{ResponseGuide}

pub asked-none : (w : ℕ) (link : Link) (source : ℕ) → 0 ≡ asked_address {w = w} link source []
unfolding asked_address
asked-none w link source = refl

pub asked-more : {w : ℕ} (own : Link) (source : ℕ) (link : Link) (x : WideBeat w) (names : WideTrace w)
    → asked_after own source link x (asked_address own source names) ≡ asked_address own source ((link, x) ∷ names)
unfolding asked_address
asked-more own source link (wide.A x) names = refl
asked-more own source link (wide.B x) names = refl
asked-more own source link (wide.C x) names = refl
asked-more own source link (wide.D x) names = refl
asked-more own source link (wide.E x) names = refl

-- a response answers the request of its link with its source
pub response-told : {w p : ℕ} (g : ResponseGuide p) (later : List ℕ) (rule : MemoryRule) (link : Link) (x : WideBeat w)
    (part : BeatD p) (was is : List ℕ) → IsResponse g.link g.source link x
    → narrow.TellsResponse g.follower (naming.names_of later g.asked) rule link part was is
    → TellsResponse g later rule link x (beat.D part) was is
unfolding asked_address
response-told g later rule link (wide.D x) part was is (same, source) tells = λ may links names e k.
    let asked : g.asked ≡ asked_address link x.source names =
    k.1 ∙ ap (λ (l : Link). asked_address l g.source names) (sym same)
    ∙ ap (λ (s : ℕ). asked_address link s names) (sym source) in
    tells may links e k.0
    ∙ ap (λ (a : ℕ). was ++ response_grounds (naming.names_of later a) rule (complete_of links)
    (length (levels_of links)) link part e) asked
response-told g later rule link (wide.A x) part was is response tells = absurd response
response-told g later rule link (wide.B x) part was is response tells = absurd response
response-told g later rule link (wide.C x) part was is response tells = absurd response
response-told g later rule link (wide.E x) part was is response tells = absurd response
