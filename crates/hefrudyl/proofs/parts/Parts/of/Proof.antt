-- `of` takes the box apart by `into_raw_with_allocator`: the parts own what the box owned.
use Rattle.std.proofs.Common.{◌≡◌, List, [], ◌∷◌, ◌++◌, refl, sym, ap, subst, ◌∙◌}
use mir.Syntax.{Fn, Args, a_type, dcons, dnil}
use mir.MapTy.{inst_fn}
use mir.Raw.{raw as bare}
use mir.Val.{Val, vstruct, of_list}
use base.Logic.{SProp, ent, id⊢, never, fst∗}
use base.Fml.{ftrue, fsep, flft}
use contract.BorrowLft.{◌⊑◌}
use contract.Monad.{fact}
use contract.Running.{tables, tables_of}
use prog.Wp.{WpFn}
use sound.WpLaws.{fm_of}
use types.Logic.{sem}
use types.Kit.{Item, ‵, raw, ◌⊛◌, some, later, ◌$◌, ◌∵◌, !, qed, move, drop, use1, join, split, split3, pick, rewrite}
use types.Kit.{fsplit, fjoin, fpick, feq_l, suffices, await, done}
use types.Part.{whole, sub, agg}
use types.Run.{stop, fld, no_more, and_then, of_opd, returns, enter}
use types.ByLocal.{alloc_all, pass_all, free_all, look_at, get, get_in, sets, lands_as}
use denote.RattleType.{RattleType, owns}
use denote.Exit.{no}
use denote.Param.{bounded}
use denote.RawPtr.{Ptr, RawPtr, block_ptr, null_ptr, ptr_val, in_a_block}
use denote.Signature.{plain, types_at}
use denote.Steps.{heard, nothing, only}
use denote.Struct.Tuple.{Tuple}
use denote.Triple.Call.{calls_at}
use denote.Triple.Clauses.{Ended}
use denote.Triple.Spec.{triple_of}
use denote.Triple.Walked.{says, Stays, stay_dropped, walk_of, ends_at}
use Rattle.std.proofs.raw_atomic.Walks.{proved_at}
use Rattle.std.proofs.alloc.Calls.{token, handle_tells, Goes-blank}
use Rattle.std.specs.Box.Ownership.{box_owns}
use Rattle.std.proofs.BoxSteps.Form.{Bx, D, τ, R, P, B, word, box_typed}
use Rattle.std.proofs.BoxSteps.Steps.{box_out, box_in}
use Rattle.std.specs.contracts.boxed.Box.into_raw_with_allocator as into_raw
use Rattle.std.proofs.boxed.Box.into_raw_with_allocator.Met as into_raw-met
use Rattle.hefrudyl.specs.contracts.parts.Parts as parts
use Rattle.hefrudyl.specs.contracts.parts.Parts.of as promised
use Rattle.hefrudyl.specs.contracts.parts.Parts.of.Key.{name as #self}
use Rattle.hefrudyl.proofs.parts.Parts.of.Statement.{statement}
use Rattle.hefrudyl.proofs.parts.Parts.of.Code as code

pub of_spec : {M : Type 1} → statement M
unfolding tables_of
of_spec 𝓤 𝓛 𝓜 𝓡 wired X Z LX LZ g d dd dx allocator md glue =
    let E : Bx = record { row = X; laws = LX; al = record { row = Z; laws = LZ; g = g; d = d; drops = dd } } in
    let Apart : RattleType = parts.the_row (R E) (P E) g in let Whole : RattleType = B E in
    let ended : Ended = promised.ended X Z g d dd dx in let hs : Stays ended.signature.params ended.kept =
    (stay_dropped (plain (λ _. Whole)) no, tt) in
    let H = 𝓛.H in let 𝓣 = tables 𝓤 H 𝓜 𝓡 𝓡.env in let c = promised.clauses X Z g d dd dx 𝓛 𝓜.mem 𝓡.returns in
    let args : Args = bounded (a_type ∷ a_type ∷ []) (X, (Z, tt)) (dcons d (dcons dd (dcons dx dnil))) in
    let function : Fn = inst_fn args code.function in
    let Opened = triple_of 𝓛 (into_raw.signature X Z g d dd dx) (into_raw.spec X Z g d dd dx 𝓛 𝓜.mem 𝓡.returns) in
    let opened = into_raw-met.met 𝓤 𝓛 𝓜 𝓡 (code.calls-std_alloc::boxed::Box::into_raw_with_allocator 𝓡.env wired) X Z LX
    LZ g d dd dx allocator md glue in
    proved_at 𝓛 ended hs c 𝓜 𝓡 (Goes-blank 𝓛 2 (plain (λ _. Whole)) no (λ κs x f. tt), tt) (#self args) function
    (code.unfolded 𝓤 H 𝓜 𝓡 wired (X, (Z, tt)) d dd dx) (λ z are.
    let κs = z.0.0 in let qs = z.0.1 in let boxed : D E = z.0.3.0 in let a = boxed.alloc in
    let Post : Val → SProp 𝓤 = (walk_of 𝓛 ended hs c).post z in let Run : List Val → SProp 𝓤 =
    λ ws. WpFn 𝓤 H 𝓣.C 𝓣.Λ function ws Post in
    let tokens : Item 𝓤 = ‵ (flft κs.0 qs.0) ⊛ ‵ (flft κs.1.0 qs.1.0) ⊛ ‵ ftrue in
    let lives : Item 𝓤 = raw (fact 𝓤 (κs.0 ⊑ X.lives)) ⊛ raw (fact 𝓤 (κs.1.0 ⊑ Z.lives)) ⊛ ‵ ftrue in
    qed 𝓛 ((tokens ⊛ ‵ (owns (types_at ended.signature.params κs) z.0.3 z.0.4)) ∷ lives ∷ []) ∵ split ! $ move !
    (1 ∷ []) $ fsplit ! $
    box_out E ! boxed z.0.4.0 (λ b o h e ws fits. let w = word E h b o in
    -- what `into_raw_with_allocator` is called with
    let call : Opened.Ghost = ((κs, qs, tt, (boxed, tt), (w ∷ [], tt)), tt) in
    suffices ! (Run (w ∷ [])) (subst (λ (us : List Val). ent 𝓤 (Run (w ∷ [])) (Run us)) (sym (λ i. ws i ++ []))
    (id⊢ 𝓤 (Run (w ∷ [])))) $
    box_in E ! boxed b o boxed.value e refl $
    enter ! 𝓣.C 𝓣.Λ function (w ∷ []) Post $ alloc_all ! (λ ls. pass_all ! refl (box_typed E h b o fits, tt) $ sets !
    (of_opd ! (get ! refl)) refl (box_typed E h b o fits) $
    fjoin ! $ move ! (1 ∷ 0 ∷ []) $ join ! $ join ! $ use1 𝓛 (raw (Opened.pre call)) (id⊢ 𝓤 _) $
    calls_at ! (fm_of 𝓤 H 𝓛.laws (tables_of 𝓤 H 𝓜 𝓣)) Opened opened call (and_then ! (get ! refl) (no_more !)) (λ u.
    use1 𝓛 (later (some (λ (r : Ptr × Z.Denot). (tokens ⊛ ‵ ((Tuple (RawPtr ∷ P E ∷ [])).own_val r (u ∷ []))) ⊛ some
    (λ (_ : (Unit {0} × (Unit {0} × Unit {0})) × Unit {0}). ‵ (fsep (fsep ftrue (fsep ftrue ftrue)) ftrue) ⊛
    (raw (fact 𝓤 (r.1 ≡ a)) ⊛ ‵ (box_owns (token E.al a) (R E) r.0 boxed.value)))))) (id⊢ 𝓤 _) $
    await ! tt $ pick ! (λ r. split ! $ move ! (1 ∷ []) $ pick ! (λ _. split3 ! $ drop ! $ heard ! (r.1 ≡ a) (λ same.
    -- the pointer points into a block
    in_a_block ! r.0 (λ p. box_owns (token E.al a) (R E) p boxed.value)
    (fst∗ 𝓤 (never 𝓤) (sem 𝓛 (token E.al a (bare (τ E)) null_ptr))) (λ b' o' e'.
    -- and the pair is two machine values
    move ! (1 ∷ []) $ split ! $ move ! (1 ∷ []) $ fpick !
    (λ vss. fsplit ! $ feq_l ! (λ eu. fsplit ! $ feq_l ! (λ ep. fsplit ! $
    rewrite ! 0 (λ (x : Z.Denot). ‵ (Z.own_val x vss.1.0)) same refl $ handle_tells E.al ! a vss.1.0 (λ h' eh fits'.
    let w' = word E h' b' o' in let typed = box_typed E h' b' o' fits' in
    let again : D E = record { ptr = block_ptr b' o'; alloc = a; value = boxed.value } in
    let made : Apart.Denot = record { at = block_ptr b' o'; alloc = a; value = boxed.value } in
    lands_as ! (ap only (eu ∙ (λ j. vstruct (of_list ((ep ∙ ap (λ (p : Ptr). ptr_val p ∷ []) e') j ++ (eh j ++ [])))
    ∷ []))) refl typed $
    sets ! (of_opd ! (get_in ! (fld ! refl (stop !)) (sub ! 0 refl (whole !)))) refl (tt, tt) $
    sets ! (of_opd ! (get_in ! (fld ! refl (stop !)) (sub ! 1 refl (whole !)))) refl fits' $ sets !
    (of_opd ! (get ! refl)) refl fits' $
    sets ! (agg ! (and_then ! (get ! refl) (and_then ! (get ! refl) (no_more !)))) refl typed $ returns !
    (look_at ! 0 refl) $ free_all ! refl $
    -- [the allocator; nothing; the tokens; the memory]
    move ! (3 ∷ []) $ fsplit ! $ box_in E ! again b' o' boxed.value refl refl $ use1 𝓛
    (‵ (Apart.own_val made (w' ∷ []))) (id⊢ 𝓤 _) $ move ! (1 ∷ []) $ drop ! $
    suffices ! _ (ends_at 𝓛 ended hs c z w' made ((tt, (tt, tt)), tt) (tt, tt)) $ says ! refl $
    nothing ! $ nothing ! $ fjoin ! $ join ! $ move ! (1 ∷ 0 ∷ []) $ join ! $ done !))))))))))))
