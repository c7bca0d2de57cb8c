use Rattle.std.proofs.Common.{◌≡◌, refl, ap, ap₂, ◌∙◌, ◌∷◌, ◌&&◌, length}
use Rattle.std.proofs.lemmas.Bool.{lt-ltb}
use Rattle.tl_bytes.specs.statement.Free.{is_free, may_hold}
use Rattle.tl_monitor.proofs.OnLink.{own_link}
use Rattle.tl_params.specs.declared.perm.Perm.TheVariants as perm
use Rattle.tl_rules.specs.statement.Conformance.{on_link}
use Rattle.tl_rules.specs.statement.Windows.{leaves}
use Rattle.tl_together.proofs.{Beside.free_beside, Following.held_most}
use Rattle.tl_together.proofs.free.freedom_now.Goals as goal

pub returns-in-None : goal.returns-in-None
returns-in-None g c = λ levels may x t k links_is lt left.
    let free = c.freedom_of.ensures levels may ((c.args.link, x) ∷ t) k links_is in (
      (
        free.0 ∙ ap (λ n. is_free n perm.Branch c.args.block ((c.args.link, x) ∷ t)) links_is,
        free.1 ∙ ap (λ n. is_free n perm.Trunk c.args.block ((c.args.link, x) ∷ t)) links_is,
      ),
      free.2,
    )

pub returns-in-Some : goal.returns-in-Some
returns-in-Some g c = λ levels may x t k links_is lt left.
    let n = length levels in
    let link = c.args.link in
    let block = c.args.block in
    let told = (rw c.in-Some.is at left) block refl in
    let own : c.held_under.result ≡ may_hold block (x ∷ on_link link.0 t) =
    c.held_under.ensures levels may ((link, x) ∷ t) _ k.knows ∙ rw (lt-ltb link.0 n lt) refl
    ∙ held_most _ levels may link.0 block ((link, x) ∷ t) k lt
    ∙ ap (may_hold block) (own_link link.0 (link, x) t refl) in (
      (
        c.beside.ensures.reading ∙ ap₂ (λ f h. f && leaves perm.Branch h) told.1.0 own
            ∙ free_beside n perm.Branch block (link, x) t lt told.0,
        c.beside.ensures.writing ∙ ap₂ (λ f h. f && leaves perm.Trunk h) told.1.1 own
            ∙ free_beside n perm.Trunk block (link, x) t lt told.0,
      ),
      c.beside.ensures.shown,
    )
