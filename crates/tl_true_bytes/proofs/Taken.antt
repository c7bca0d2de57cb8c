-- What is taken in a world is taken rightly in the run beside it.
use Rattle.tl_true_bytes.proofs.Imports.{Beat, BeatD, Link, OpD, IsWidth, MessageA, reaches, unfinished}
use Rattle.tl_true_bytes.proofs.Imports.{Request, on_link, AccessResult, Memory, effect, ends, is_grant, is_release_ack}
use Rattle.tl_true_bytes.proofs.Imports.{Access, carried_byte, is_access, is_of, pending_accesses, sourced, Machine}
use Rattle.tl_true_bytes.proofs.Imports.{Requests, effect-sourced, IsOfAccess, IsResponse, IsRightBeat, Run, found_in}
use Rattle.tl_true_bytes.proofs.Imports.{trace_in, IsBeside, IsOpenAs, result_in, Channel, Op}
use Rattle.std.proofs.Common.{◌≡◌, ℕ, ◌||◌, ◌-◌, ◌*◌, ◌/◌, ◌%◌, ◌^◌, ◌≤◌}
use Rattle.std.proofs.Common.{true, false, not, ◌&&◌, ◌∷◌, length, Some, None, refl, sym}
use Rattle.std.proofs.Common.{◌∙◌, ap, subst, inl, inr}
use Rattle.std.{specs.Prelude.find, specs.Prelude.is_some, specs.Prelude.Option, proofs.lemmas.Bool.and_parts}
use Rattle.tl_burst.specs.declared.message.Message.{Message}
use Rattle.tl_rules.{specs.code.Open.open_request, specs.statement.Conformance.answers}
use Rattle.tl_rules.{specs.statement.Effect.answer_of}
use Rattle.tl_bytes.specs.statement.Bytes.{asks, could_be, is_put}
use Rattle.tl_bytes.specs.statement.Early.{outruns, telling_beats}
use Rattle.tl_bytes.specs.statement.Free as bytes
use Rattle.tl_params.specs.declared.perm.Perm.{Perm}
use Rattle.tl_rules.specs.statement.Windows.{is_free}
use Rattle.tl_rules.specs.statement.History.{block_at}
use Rattle.tl_manager.{specs.statement.Handing.access_answer, specs.statement.Service.is_access_answer}
use Rattle.tl_concord.specs.statement.Accesses.{HasCome, IsAnswered, IsAsked}
use Rattle.tl_concord.specs.statement.Told.{IsToldOf}
use Rattle.tl_one_memory.specs.statement.Run.{IsAnswer, IsGranted, IsTaken, place_in, returns}
use Rattle.tl_true_bytes.specs.code.{Beside.IsFoundAs, Beside.comes, Like.IsLike}
use Rattle.tl_true_bytes.{proofs.Answers.IsBeatOfReply, proofs.Answers.beat-of-reply}
use Rattle.tl_true_bytes.{proofs.Beside.same_asked}

-- ---- what was found

pub none-found : {w : ℕ} (f : ℕ → Option ℕ) (r : Option (MessageA w × AccessResult)) → r ≡ None → IsFoundAs f r
    → (address : ℕ) → f address ≡ None
none-found f r e is = subst (IsFoundAs f) e is

some-found : {w : ℕ} (f : ℕ → Option ℕ) (q : Option (MessageA w × AccessResult)) (a : MessageA w) (r : AccessResult)
    → q ≡ Some (a, r) → IsFoundAs f q
    → (g : Memory) × ((address : ℕ) → f address ≡ Some (g address)) × (r ≡ (effect (Message.A a) g).1)
some-found f q a r e is = subst (IsFoundAs f) e is

-- ---- what is known of a beat that is taken

pub record IsTakenWell {w : ℕ} (n : ℕ) (m : Machine w) (link : Link) (x : Beat w) (run : Run w) : Type 0 where
  pub told : IsToldOf m.memory link.0 x (trace_in run)
  pub right : IsRightBeat link.0 x (trace_in run)
  pub of_access : IsOfAccess m link.0 x (trace_in run)
  -- a Grant answers no access
  pub grants_other : (z : BeatD w) → x ≡ Beat.D z → is_grant z.opcode ≡ true
      → (a : MessageA w) (r : Option AccessResult)
      → m.opened link.0 Requests z.source ≡ Some (record { asked = Op.Access (Message.A a); answer = r }) → ⊥
  pub granted : (z : BeatD w) (asked : Request) → x ≡ Beat.D z → z.opcode ≡ OpD.GrantData
      → open_request z.source (on_link link.0 (trace_in run)) ≡ Some asked
      → IsGranted n (λ address. 0) link.0 z asked.block (length (unfinished Channel.D (on_link link.0 (trace_in run))))
      run
  -- with and without the beat each block is as free by what may be held as by what is held
  pub alike : (given : Perm) (block : ℕ)
      → (bytes.is_free n given block (trace_in run) ≡ is_free n None given block (trace_in run))
      × (bytes.is_free n given block ((link, x) ∷ trace_in run) ≡ is_free n None given block ((link, x) ∷ trace_in run))
  -- the request of an access that was performed is complete
  pub whole : (s : ℕ) (a : MessageA w) (r : AccessResult)
      → m.opened link.0 Requests s ≡ Some (record { asked = Op.Access (Message.A a); answer = Some r })
      → is_access a.opcode ≡ true → comes link.0 s (trace_in run) ≡ false
  -- no response comes before its request is complete
  pub in_time : (z : BeatD w) → x ≡ Beat.D z → outruns z (on_link link.0 (trace_in run)) ≡ false
  -- an access is aligned
  pub aligned : (s : ℕ) (a : MessageA w) (r : Option AccessResult)
      → m.opened link.0 Requests s ≡ Some (record { asked = Op.Access (Message.A a); answer = r })
      → a.address % 2 ^ a.size ≡ 0

module _ {w : ℕ} (n : ℕ) (run : Run w) (m : Machine w) (width : IsWidth w) (is : IsBeside run m (trace_in run)) where
  -- an access without a result wasn't performed
  unfound : (c s : ℕ) (a : MessageA w) → m.opened c Requests s
      ≡ Some (record { asked = Op.Access (Message.A a); answer = None })
      → (address : ℕ) → found_in (λ address. 0) c s run address ≡ None
  unfound c s a e = none-found (found_in (λ address. 0) c s run) (result_in (m.opened c Requests s)) (ap result_in e)
      (is.found_are c s)

  -- ---- an answer

  answer : (link : Link) (z : BeatD w) (p : Access w) → ((s : ℕ) (a : MessageA w) (r : Option AccessResult)
      → m.opened link.0 Requests s ≡ Some (record { asked = Op.Access (Message.A a); answer = r })
      → a.address % 2 ^ a.size ≡ 0) → ((s : ℕ) (a : MessageA w) (r : AccessResult)
      → m.opened link.0 Requests s ≡ Some (record { asked = Op.Access (Message.A a); answer = Some r })
      → is_access a.opcode ≡ true → comes link.0 s (trace_in run) ≡ false) → IsAnswered m link.0 z (trace_in run)
      → find (is_of link.0 z.source) (pending_accesses (trace_in run)) ≡ Some p → IsAnswer (λ address. 0) link.0 z p run
  answer link z p aligned whole answered pending = record {
    written = λ address writing. ap is_some (found.1 address);
    admitted = ap (answers z.opcode) (alike.opcode_is ∙ ap (λ (i : MessageA w). i.opcode) same) ∙ reply.admitted;
    undenied = reply.undenied;
    lanes_fit = reply.lanes_fit;
    brings = λ reads address reached come. record {
      byte = found.0 address;
      found_is = found.1 address;
      carried_is = inr (ap (carried_byte (Beat.D z ∷ unfinished Channel.D (on_link link.0 (trace_in run))))
          (place address)
          ∙ reply.brings (sym (ap returns opcode) ∙ reads) address (sym (reaching address) ∙ reached) (elim come [
            | inl early ↦ inl (subst (λ (k : ℕ). k / w ≤ length (unfinished Channel.D (on_link link.0 (trace_in run))))
                (place address) early)
            | inr last ↦ inr (and_parts (not (is_release_ack z.opcode)) (ends (Beat.D z) (on_link link.0 (trace_in run)))
                (and_parts (not (is_release_ack z.opcode) && ends (Beat.D z) (on_link link.0 (trace_in run))) _ last).0).1
          ]));
    };
  }
    where
      a : MessageA w
      a = answered.asked

      like : IsOpenAs (comes link.0 z.source (trace_in run)) p (m.opened link.0 Requests z.source)
      like = is.pending_are link.0 z.source p pending

      same : like.asked ≡ a
      same = same_asked like.asked a like.answer (Some answered.result) (sym like.opened ∙ answered.opened)

      accesses : is_access a.opcode ≡ true
      accesses = ap (λ (i : MessageA w). is_access i.opcode) (sym same) ∙ like.accesses

      alike : IsLike p.request like.asked
      alike = like.like (whole z.source a answered.result answered.opened accesses)

      opcode : p.request.opcode ≡ a.opcode
      opcode = alike.opcode_is ∙ ap (λ (i : MessageA w). i.opcode) same

      address_is : p.request.address ≡ a.address
      address_is = alike.address_is ∙ ap (λ (i : MessageA w). i.address) same

      size_is : p.request.size ≡ a.size
      size_is = alike.size_is ∙ ap (λ (i : MessageA w). i.size) same

      place : (address : ℕ) → place_in p address ≡ address - w * (a.address / w)
      place address = ap (λ (k : ℕ). address - w * (k / w)) address_is

      reaching : (address : ℕ) → reaches p.request.address p.request.size address ≡ reaches a.address a.size address
      reaching address = ap (λ (k : ℕ). reaches k p.request.size address) address_is
          ∙ ap (λ (k : ℕ). reaches a.address k address) size_is

      found : (g : Memory) × ((address : ℕ) → found_in (λ address. 0) link.0 z.source run address ≡ Some (g address))
          × (answered.result ≡ (effect (Message.A a) g).1)
      found = some-found (found_in (λ address. 0) link.0 z.source run) (result_in (m.opened link.0 Requests z.source)) a
          answered.result (ap result_in answered.opened ∙ rw accesses refl) (is.found_are link.0 z.source)

      reply : IsBeatOfReply (sourced z.source a) found.0 z (on_link link.0 (trace_in run))
      reply = beat-of-reply (sourced z.source a) found.0 z (on_link link.0 (trace_in run)) width
          (aligned z.source a (Some answered.result) answered.opened) accesses
          (subst (λ (r : AccessResult). HasCome (access_answer (sourced z.source a)
          (answer_of (Message.A (sourced z.source a)) r)) (Beat.D z) (on_link link.0 (trace_in run)))
          (found.2 ∙ ap (λ e. e.1) (sym (effect-sourced z.source a found.0))) answered.has_come)

  -- ---- a beat

  answers-rightly : (link : Link) (x : Beat w) → IsTakenWell n m link x run → (z : BeatD w) (p : Access w)
      → x ≡ Beat.D z → is_release_ack z.opcode ≡ false
      → find (is_of link.0 z.source) (pending_accesses (trace_in run)) ≡ Some p → IsAnswer (λ address. 0) link.0 z p run
  answers-rightly link x well z p x_is no_ack pending = go z.opcode refl
    where
      of_access : IsOfAccess m link.0 (Beat.D z) (trace_in run)
      of_access = subst (λ (b : Beat w). IsOfAccess m link.0 b (trace_in run)) x_is well.of_access

      opened : IsOpenAs (comes link.0 z.source (trace_in run)) p (m.opened link.0 Requests z.source)
      opened = is.pending_are link.0 z.source p pending

      given : is_access_answer z.opcode ≡ true → IsAnswer (λ address. 0) link.0 z p run
      given e = answer link z p well.aligned well.whole (of_access e) pending

      grant : is_grant z.opcode ≡ true → IsAnswer (λ address. 0) link.0 z p run
      grant e = absurd (well.grants_other z x_is e opened.asked opened.answer opened.opened)

      go : (o : OpD) → z.opcode ≡ o → IsAnswer (λ address. 0) link.0 z p run
      go OpD.Grant e = grant (ap is_grant e)
      go OpD.GrantData e = grant (ap is_grant e)
      go OpD.ReleaseAck e = absurd (let no : true ≡ false = sym (ap is_release_ack e) ∙ no_ack in cc)
      go v e = given (ap is_access_answer e)

  pub taken : (link : Link) (x : Beat w) → IsTakenWell n m link x run → IsTaken n (λ address. 0) link x run
  taken link x well = record {
    asks_new = λ z address x_is asked_so.
        let asked : IsAsked m link.0 z (trace_in run) =
        (subst (λ (b : Beat w). IsOfAccess m link.0 b (trace_in run)) x_is well.of_access)
        (and_parts (is_access z.opcode) (is_put z.opcode || ends (Beat.A z) (on_link link.0 (trace_in run)))
        (and_parts (asks z (on_link link.0 (trace_in run))) _ asked_so).0).0
        in
        inl (unfound link.0 z.source asked.asked asked.opened address);
    asks_first = λ z y older x_is asked_so begun_so no_ack same.
        (subst (λ (b : Beat w). IsRightBeat link.0 b (trace_in run)) x_is well.right) y older begun_so no_ack same;
    outruns_own = λ z y older address x_is early.
        absurd (let no : true ≡ false = sym early ∙ well.in_time z x_is in cc);
    outruns_put = λ z p x_is early. absurd (let no : true ≡ false = sym early ∙ well.in_time z x_is in cc);
    continues = λ z y older x_is begun_so.
        let response : IsResponse link.0 z (trace_in run) =
        subst (λ (b : Beat w). IsRightBeat link.0 b (trace_in run)) x_is well.right in
        response.continues y older begun_so;
    answers_rightly = λ z p x_is no_ack granted late pending. answers-rightly link x well z p x_is no_ack pending;
    grants_rightly = λ z asked x_is with_data sound open_so sure. well.granted z asked x_is with_data open_so;
    tells_rightly = λ address unwritten tells_so.
        subst (λ (f : Memory). could_be (f address)
        (carried_byte (telling_beats x (on_link link.0 (trace_in run))) (address % 64)) ≡ true)
        (sym is.memory_is) (well.told.told address tells_so);
    given_up_rightly = λ address held free.
        let alike = well.alike Perm.Branch (block_at address) in
        inl (well.told.given_up_told n (block_at address) (sym alike.0 ∙ held) (sym alike.1 ∙ free));
  }
