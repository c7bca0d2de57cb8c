-- `into_parts` moves the two fields back, where the place holds a session.
use Rattle.std.proofs.Common.{List, [], ◌∷◌, ◌++◌, refl, sym, subst}
use Rattle.std.specs.Prelude.{Option, is_some, IsTrue}
use mir.Val.{Val}
use base.Logic.{SProp, ent, id⊢}
use base.Fml.{ftrue}
use prog.Wp.{WpFn}
use contract.Monad.{fact}
use types.Kit.{‵, raw, ◌⊛◌, ◌$◌, ◌∵◌, !, qed, move, keep, use1, split, join, rewrite, fsplit, fjoin, suffices, done}
use types.Run.{stop, fld, of_opd, no_more, and_then, returns, enter}
use types.ByLocal.{alloc_all, pass_all, free_all, look_at, get, get_in, sets}
use types.Part.{agg, sub, whole}
use contract.Running.{tables}
use denote.Exit.{yes}
use denote.RattleType.{owns}
use denote.Signature.{types_at, plain}
use denote.Steps.{heard, nothing}
use denote.Triple.Walked.{says, Stays, stay_dropped, walk_of, ends_at, Goes-dropped}
use Rattle.std.proofs.raw_atomic.Walks.{proved_at}
use Rattle.std.proofs.BoxSteps.Form.{D, X, word, box_typed}
use Rattle.std.proofs.BoxSteps.Steps.{box_out, box_in}
use Rattle.hefrudyl.proofs.Boxed.{E, Apart, Placed, held_in}
use Rattle.hefrudyl.specs.contracts.handle.Place.into_parts.{ended, clauses}
use Rattle.hefrudyl.specs.contracts.handle.Place.into_parts.Key.{name as #self}
use Rattle.hefrudyl.proofs.handle.Place.into_parts.Statement.{statement}
use Rattle.hefrudyl.proofs.handle.Place.into_parts.Code as code

pub into_parts_spec : {M : Type 1} → statement M
into_parts_spec 𝓤 𝓛 𝓜 𝓡 wired =
    let H = 𝓛.H in let 𝓣 = tables 𝓤 H 𝓜 𝓡 𝓡.env in let c = clauses 𝓛 𝓜.mem 𝓡.returns in
    let hs : Stays ended.signature.params ended.kept = (stay_dropped (plain (λ _. Placed)) yes, tt) in
    proved_at 𝓛 ended hs c 𝓜 𝓡 (Goes-dropped 𝓛 0 (plain (λ _. Placed)) yes (λ κs x f. refl), tt) #self code.function
    (code.unfolded 𝓤 H 𝓜 𝓡 wired) (λ z are.
    let p = z.0.3.0 in let Post : Val → SProp 𝓤 = (walk_of 𝓛 ended hs c).post z in let Run : List Val → SProp 𝓤 =
    λ ws. WpFn 𝓤 H 𝓣.C 𝓣.Λ code.function ws Post in
    qed 𝓛 ((‵ ftrue ⊛ ‵ (owns (types_at ended.signature.params z.0.0) z.0.3 z.0.4)) ∷ raw
    (fact 𝓤 (IsTrue (is_some p.value))) ∷ []) ∵ move ! (1 ∷ []) $
    heard ! (IsTrue (is_some p.value)) (λ full. let held = held_in p.value full in
    let boxed : D E = record { ptr = p.at; alloc = p.alloc; value = held.0 } in
    let made : Apart.Denot = record { at = p.at; alloc = p.alloc; value = held.0 } in
    split ! $ move ! (1 ∷ []) $ fsplit ! $
    rewrite ! 0 (λ (o : Option (X E)). ‵ (Placed.own_val (record { at = p.at; alloc = p.alloc; value = o }) z.0.4.0))
    held.1 refl $
    box_out E ! boxed z.0.4.0 (λ b o hv e ws fits. let w = word E hv b o in
    suffices ! (Run (w ∷ [])) (subst (λ (us : List Val). ent 𝓤 (Run (w ∷ [])) (Run us)) (sym (λ i. ws i ++ []))
    (id⊢ 𝓤 (Run (w ∷ [])))) $
    box_in E ! boxed b o held.0 e refl $ use1 𝓛 (‵ (Apart.own_val made (w ∷ []))) (id⊢ 𝓤 _) $ keep ! (0 ∷ []) $
    enter ! 𝓣.C 𝓣.Λ code.function (w ∷ []) Post $ alloc_all ! (λ l. pass_all ! refl (box_typed E hv b o fits, tt) $
    sets ! (of_opd ! (get_in ! (fld ! refl (stop !)) (sub ! 0 refl (whole !)))) refl (tt, tt) $
    sets ! (of_opd ! (get_in ! (fld ! refl (stop !)) (sub ! 1 refl (whole !)))) refl fits $
    sets ! (agg ! (and_then ! (get ! refl) (and_then ! (get ! refl) (no_more !)))) refl (box_typed E hv b o fits) $
    returns ! (look_at ! 0 refl) $ free_all ! refl $
    suffices ! _ (ends_at 𝓛 ended hs c z w made (tt, tt) (tt, tt)) $ says ! (sym held.1) $ nothing ! $ nothing ! $ fjoin
    ! $ join ! $ nothing ! $ join ! $ done !))))
