-- The blocks of all links, with one more beat.
use Rattle.std.proofs.Common.{◌≡◌, ◌≢◌, ◌<◌, ◌≤◌, ℕ, Bool, List, [], ◌∷◌, ◌++◌, length}
use Rattle.std.proofs.Common.{sym, ap, ◌∙◌, arith, inl, inr, subst}
use Rattle.std.specs.Prelude.{slice_index_or, slice_set, Option}
use Rattle.std.proofs.lemmas.Bool.{cases_eq}
use Rattle.std.proofs.lemmas.List.{get_or-set_other, get_or-set_same, length-set}
use Rattle.tl_beat.specs.declared.beat.Beat.{Beat}
use Rattle.tl_beat.specs.declared.beat.Link.{Link}
use Rattle.tl_chart.specs.code.Gathered.{CarryAll, KnowLinks, KnowsBlocks}
use Rattle.tl_chart.specs.declared.blocks.LinkBlocks.{LinkBlocks}
use Rattle.tl_chart.specs.statement.Messages.{message_block}
use Rattle.tl_monitor.proofs.OnLink.{all_more, other_link, own_link}
use Rattle.tl_burst.specs.statement.Messages.{History}
use Rattle.tl_rules.specs.statement.Conformance.{Trace, on_link}
use Rattle.tl_rules.specs.statement.History.{begins}

-- one more link on which there was no message
pub links_more : (w : ℕ) (links more : List LinkBlocks) (b : LinkBlocks) → more ≡ links ++ b ∷ []
    → KnowLinks {w = w} links [] → KnowsBlocks {w = w} b [] → KnowLinks {w = w} more []
unfolding on_link
links_more w links more b is know one =
    subst (λ (ls : List LinkBlocks). KnowLinks {w = w} ls []) (sym is)
    (λ n d lt. all_more (λ y. KnowsBlocks {w = w} y []) links b (λ m e less. know m e less) one n d lt)

-- one more beat of a link, whose blocks are noted
pub links_taken : {w : ℕ} (links : List LinkBlocks) (i : ℕ) (old b : LinkBlocks) (x : Link × Beat w) (t : Trace w)
    (first : Bool) → i ≡ x.0.0 → i < length links → old ≡ slice_index_or links i old
    → first ≡ begins x.1 (on_link x.0.0 t)
    → ((h : History w) → KnowsBlocks old h → first ≡ begins x.1 h → KnowsBlocks b (x.1 ∷ h)) → KnowLinks links t
    → KnowLinks (slice_set links i b) (x ∷ t)
links_taken links i old b x t first own within was is next know = λ n d lt. elim (cases_eq n i) [
  | inl same ↦
      let before : KnowsBlocks old (on_link i t) =
      subst (λ (y : LinkBlocks). KnowsBlocks y (on_link i t)) (sym was) (know i old within) in
      let begun : first ≡ begins x.1 (on_link i t) = is ∙ ap (λ (k : ℕ). begins x.1 (on_link k t)) (sym own) in
      let inside : i < length links = within in
      rw (same, get_or-set_same, own_link i x t (sym own)) (next (on_link i t) before begun)
  | inr other ↦
      let long : length (slice_set links i b) ≡ length links = length-set links i b in
      let short : n < length links = omega (arith, lt, long) in
      let elsewhere : x.0.0 ≢ n = λ e. other (sym e ∙ sym own) in
      rw (get_or-set_other, other_link n x t elsewhere) (know n d short)
]

-- the block of a beat's message
pub link_block : {w : ℕ} (links : List LinkBlocks) (i : ℕ) (b : LinkBlocks) (x : Link × Beat w) (t : Trace w)
    (block : Option ℕ) → i ≡ x.0.0 → i < length links → b ≡ slice_index_or links i b
    → ((h : History w) → KnowsBlocks b h → block ≡ message_block x.1 h) → KnowLinks links t
    → block ≡ message_block x.1 (on_link x.0.0 t)
link_block links i b x t block own within is of know =
    let here : KnowsBlocks b (on_link i t) =
    subst (λ (y : LinkBlocks). KnowsBlocks y (on_link i t)) (sym is) (know i b within) in
    of (on_link i t) here ∙ ap (λ (k : ℕ). message_block x.1 (on_link k t)) own

-- a beat of a link that isn't among them
pub links_kept : {w : ℕ} (links : List LinkBlocks) (x : Link × Beat w) (t : Trace w) → length links ≤ x.0.0
    → KnowLinks links t → KnowLinks links (x ∷ t)
links_kept links x t beyond know = λ n d lt.
    let elsewhere : x.0.0 ≢ n = λ e. absurd (omega (arith, e, lt, beyond)) in
    rw (other_link n x t elsewhere) (know n d lt)

-- one more beat of one of them
pub carry_more : {w : ℕ} (links more : List LinkBlocks) (x : Link × Beat w) (t : Trace w) → x.0.0 < length links
    → length more ≡ length links → CarryAll links t → CarryAll more (x ∷ t)
carry_more links more x t within same all = λ n le.
    let elsewhere : x.0.0 ≢ n = λ e. absurd (omega (arith, e, le, within, same)) in
    let beyond : length links ≤ n = omega (arith, le, same) in
    rw (other_link n x t elsewhere) (all n beyond)
