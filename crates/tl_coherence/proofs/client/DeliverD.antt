-- What a client answers to the last beat of a response.
-- A client's end after it has taken a beat of channel D, beside the event of the protocol.
use Rattle.std.proofs.Common.{◌≡◌, ℕ, ◌*◌, Bool, true, false, not, ◌&&◌, ◌==◌, if◌then◌else◌, cond, List, ◌∷◌, Option}
use Rattle.std.proofs.Common.{Some, None, Result, Ok, refl, sym, ◌∙◌, ap, subst, arith, ◌⊎◌, inl, inr, eqb-true, ne_eqb}
use Rattle.tl_coherence.proofs
use proofs.Imports.{and-false, cases_eq, Beat, BeatA, BeatD, Channel, OpD, IsWidth, Message, E, a_beat_of, History}
use proofs.Imports.{unfinished, Cap, Grow, Perm, Rule, cap_code, cap_right, payload_of, sent, same_perm, block_at}
use proofs.Imports.{capped, ends, is_grant, is_release_ack, request_of, same_block, swapped, Finish, Verdict, Endpoint}
use proofs.Imports.{sending, with_past, address_asked, ended, finish_of, granted, responded, taken, open_beat}
use proofs.Imports.{acquisition, grant_ack, cap-gives, grants_by_opcode, grant_opcode, AreNamed, acquires_of, Packet}
use proofs.Imports.{AcquireOpen, is_unreleased, is_whole, after_grant, after_release_ack, Acquires, Block, SourceFree}
use proofs.Imports.{State, answer_taken, grant_taken, granted_copy, let_go_block, release_ack_taken, taken_block}
use proofs.Imports.{is_wanting, acquire_opcode, AccessMessages, asked_by, Releases, Requests, pool_of}
use Rattle.tl_client.proofs.endpoint.AfterOffered.{granted_is}
use Rattle.tl_client.specs.laws.After.{copy_granted, waiting_granted}
use proofs.client.{AsideAll.set_at-else, ClientAsked.chosen, ClientAsked.passed}
use proofs.client.ClientEnd.{IsWellKept, IsEnd, asks-same, asks-closed, asks-acquire, open-is, column}
use proofs.client.ClientDeliverD.{IsHeard, IsEcho, echo-none, echo-e, heard, heard-part, answer_closes, ack_closes}
use proofs.client.ClientDeliverD.{grant_closes}
use proofs.queues.{Phases.and_right, Codes.acquires-so}
use proofs.queues.Tokens.{same_number, set-same, set-other, set-part, set_at-same}

-- how the operation ends, and the message that is handed out
abbrev pub finish_at : {w : ℕ} → BeatD w → Endpoint w → Finish
finish_at {w} y e = finish_of w y.opcode y.param y.size (address_asked (request_of y.source e.past))
    (payload_of (Beat.D y ∷ unfinished Channel.D e.past))

abbrev pub acked : {w : ℕ} → OpD → ℕ → Option (Message w)
acked opcode sink = if is_grant opcode then Some (grant_ack sink) else None

ended_answer : {w : ℕ} (o : OpD) (y : BeatD w) (f : Finish) (e : Endpoint w)
    → (ended o y f e).answer ≡ Ok (Verdict.Done y.source f, acked o y.sink)
ended_answer o y f e = grind arith

pub answer-last : {w : ℕ} (y : BeatD w) (e : Endpoint w) → ends (Beat.D y) e.past ≡ true
    → (taken (Beat.D y) e).answer ≡ Ok (Verdict.Done y.source (finish_at y e), acked y.opcode y.sink)
answer-last {w} y e last = cc (last, ended_answer y.opcode y (finish_at y e) _)

pub answer-part : {w : ℕ} (y : BeatD w) (e : Endpoint w) → ends (Beat.D y) e.past ≡ false
    → (taken (Beat.D y) e).answer ≡ Ok (Verdict.Taken, None)
answer-part {w} y e part = cc part

abbrev made : {w : ℕ} → Verdict × Option (Message w) → Result (Verdict × Option (Message w)) Rule
made p = Ok p

made_same : {w : ℕ} (p q : Verdict × Option (Message w)) → made p ≡ made q → p ≡ q
made_same p q e = cc

pub same_answers : {w : ℕ} (v u : Verdict) (m n : Option (Message w)) (a : Result (Verdict × Option (Message w)) Rule)
    → a ≡ Ok (v, m) → a ≡ Ok (u, n) → (v ≡ u) × (m ≡ n)
same_answers {w} v u m n a e f = grind (arith, made_same)

-- a response to an access or an Acquire ends a request, and a ReleaseAck a Release
pub finish-pool : (w : ℕ) (o : OpD) (param size address : ℕ) (payload : List ℕ)
    → pool_of (finish_of w o param size address payload) ≡ (if is_release_ack o then Releases else Requests)
finish-pool w o param size address payload = grind arith

-- ---- a beat that isn't the last of its message

pub end-part : {w : ℕ} {asked : ℕ → Option (BeatA w)} {c : ℕ} (x : BeatD w) {s : State (List ℕ)} {e f : Endpoint w}
    → f ≡ with_past (Beat.D x ∷ e.past) e → ends (Beat.D x) e.past ≡ false → IsWellKept f
    → IsEnd asked c s e → IsEnd asked c s f
end-part {asked} {c} x {s} {e} {f} is more well end =
    let event = heard-part c x e.past Perm.None asked s more in
    let echo : IsEcho x e.past f.past = rw (ap (λ g. g.past) is) (echo-none x e.past) in
    record {
      knows = heard echo well event end.knows;
      well = well;
      copies = λ n some. ap (λ g. g.copies n) is ∙ end.copies n some;
      waiting = λ n storing. ap (λ g. g.waiting n) is ∙ end.waiting n storing;
      live = ap (λ g. g.closed) is ∙ end.live;
    }

-- ---- the answer to an access

pub end-answer_taken : {w : ℕ} {c : ℕ} (source : ℕ) (x : BeatD w) (rest : List Packet) (mail : AccessMessages w)
    {s : State (List ℕ)} {e f : Endpoint w} → f ≡ with_past (Beat.D x ∷ e.past) e → ends (Beat.D x) e.past ≡ true
    → is_grant x.opcode ≡ false → is_release_ack x.opcode ≡ false → x.source ≡ source → IsWellKept f
    → IsEnd (asked_by mail s c) c s e
    → IsEnd (asked_by mail (answer_taken c source rest s) c) c (answer_taken c source rest s) f
end-answer_taken {w} {c} source x rest mail {s} {e} {f} is last plain other from well end =
    let closes = answer_closes x e.past last plain other in
    let event : IsHeard c x e.past Perm.None (λ k. false) (λ k. false) (λ i. x.source == i) (λ k. false)
    (asked_by mail s c) (asked_by mail s' c) s s' = record {
      grants_is = closes.0;
      gives = λ k g. absurd cc;
      releases_is = closes.1;
      source_is = closes.2;
      let_is = closes.3;
      held = λ k. refl;
      acquiring = λ k. refl;
      letting = λ k. refl;
      lets = λ i. refl;
      asks = λ i. asks_now i (cases_eq i source);
    } in
    let echo : IsEcho x e.past f.past = rw (ap (λ g. g.past) is) (echo-none x e.past) in
    record {
      knows = heard echo well event end.knows;
      well = well;
      copies = λ n some. ap (λ g. g.copies n) is ∙ end.copies n some;
      waiting = λ n storing. ap (λ g. g.waiting n) is ∙ end.waiting n storing;
      live = ap (λ g. g.closed) is ∙ end.live;
    }
  where
    s' : State (List ℕ)
    s' = answer_taken c source rest s

    asks_now : (i : ℕ) → (i ≡ source) ⊎ (i ≡ source → ⊥) → asked_by mail s' c i ≡ cond (x.source == i) None
        (asked_by mail s c i)
    asks_now i (inl same) = asks-closed c i mail s' (ap (s'.uses c) same ∙ set_at-same c source SourceFree s.uses)
        ∙ sym (chosen (x.source == i) None (asked_by mail s c i) (rw (from, same) (same_number source)))
    asks_now i (inr ne) = asks-same c i mail mail s s' refl (inl (set_at-else c source i SourceFree s.uses ne c))
        (λ n used. refl) (λ n used. refl)
        ∙ sym (passed (x.source == i) None (asked_by mail s c i) (rw from (ne_eqb source i (λ g. ne (sym g)))))

-- ---- a ReleaseAck

pub end-release_ack_taken : {w : ℕ} {c : ℕ} (n : ℕ) (x : BeatD w) (rest : List Packet) (mail : AccessMessages w)
    {s : State (List ℕ)} {e f : Endpoint w} → f ≡ with_past (Beat.D x ∷ e.past) e → ends (Beat.D x) e.past ≡ true
    → is_grant x.opcode ≡ false → is_release_ack x.opcode ≡ true → x.source ≡ (s.block n).release_source c
    → s.lets c x.source ≡ Some n → IsWellKept f → IsEnd (asked_by mail s c) c s e
    → IsEnd (asked_by mail (release_ack_taken c n rest s) c) c (release_ack_taken c n rest s) f
end-release_ack_taken {w} {c} n x rest mail {s} {e} {f} is last plain acks from let_ well end =
    let new : Block (List ℕ) = let_go_block c (s.block n) in
    let pair_is = set-same c (after_release_ack ((s.block n).pair c)) (s.block n).pair in
    let closes = ack_closes n x e.past last plain acks (end.knows.1.released x.source n let_) in
    let event : IsHeard c x e.past Perm.None (λ k. false) (λ k. n == k) (λ i. false) (λ i. x.source == i)
    (asked_by mail s c) (asked_by mail s' c) s s' = record {
      grants_is = closes.0;
      gives = λ k g. absurd cc;
      releases_is = closes.1;
      source_is = closes.2;
      let_is = closes.3;
      held = λ k. set-part (λ b. (b.pair c).held) n new s.block (ap (λ q. q.held) pair_is) k;
      acquiring = λ k. set-part (λ b. is_wanting (b.pair c).acquiring) n new s.block
          (ap (λ q. is_wanting q.acquiring) pair_is) k;
      letting = λ k. let fact = column
          (λ b. not (is_unreleased (b.pair c).letting)) n new s.block k in cc (pair_is, swapped k n);
      lets = λ i. lets_now i (cases_eq i ((s.block n).release_source c));
      asks = λ i. asks-same c i mail mail s s' refl (inl refl) (λ j used. set-part (λ (b : Block (List ℕ)).
          (b.pair c).acquiring) n new s.block (ap (λ q. q.acquiring) pair_is) j)
          (λ j used. set-part (λ b. b.source c) n new s.block refl j);
    } in
    let echo : IsEcho x e.past f.past = rw (ap (λ g. g.past) is) (echo-none x e.past) in
    record {
      knows = heard echo well event end.knows;
      well = well;
      copies = λ k some. let fact = end.copies k (sym (ap (λ q. same_perm q Perm.None) (set-part
          (λ b. (b.pair c).held) n new s.block (ap (λ q. q.held) pair_is) k))
          ∙ some) in cc (is, set-part (λ b. b.copy c) n new s.block refl k);
      waiting = λ k storing. ap (λ g. g.waiting k) is ∙ end.waiting k (sym (set-part
          (λ b. is_whole (b.pair c).acquiring) n new s.block (ap (λ q. is_whole q.acquiring) pair_is) k) ∙ storing)
          ∙ ap Some (sym (set-part (λ b. b.waiting c) n new s.block refl k));
      live = ap (λ g. g.closed) is ∙ end.live;
    }
  where
    s' : State (List ℕ)
    s' = release_ack_taken c n rest s

    lets_now : (i : ℕ) → (i ≡ (s.block n).release_source c) ⊎ (i ≡ (s.block n).release_source c → ⊥)
        → s'.lets c i ≡ cond (x.source == i) None (s.lets c i)
    lets_now i (inl same) = ap (s'.lets c) same ∙ set_at-same c ((s.block n).release_source c) None s.lets
        ∙ sym (chosen (x.source == i) None (s.lets c i) (rw (from, same) (same_number ((s.block n).release_source c))))
    lets_now i (inr ne) = set_at-else c _ i None s.lets ne c ∙ sym
        (passed (x.source == i) None (s.lets c i) (rw from (ne_eqb ((s.block n).release_source c) i (λ g. ne (sym g)))))

-- ---- a Grant

-- the beat is the last of the Grant of the block that the protocol has under way, with these bytes
pub record IsGrantOf {w : ℕ} (c n : ℕ) (whole data_too : Bool) (g : Grow) (k : Cap) (x : BeatD w) (payload : List ℕ)
    (s : State (List ℕ)) : Type 0 where
  pub opcode : x.opcode ≡ grant_opcode data_too
  pub from : x.source ≡ (s.block n).source c
  pub param : x.param ≡ cap_code k
  pub wants : ((s.block n).pair c).acquiring ≡ AcquireOpen whole g
  pub used : s.uses c ((s.block n).source c) ≡ Acquires n
  pub bare : (whole && data_too) ≡ false
  pub has_copy : whole ≡ false → data_too ≡ false → same_perm ((s.block n).pair c).held Perm.None ≡ false
  pub bytes : data_too ≡ true → payload ≡ (s.block n).truth

-- what the client does at the last beat of a Grant
record IsGrantTaken {w : ℕ} (data_too : Bool) (x : BeatD w) (r : BeatA w) (payload : List ℕ) (e f : Endpoint w) : Type 0
  where
    past_is : f.past ≡ sent (E (record { sink = x.sink })) (Beat.D x ∷ e.past)
    same_closed : f.closed ≡ e.closed
    new_copies : (k : ℕ) → f.copies k ≡ copy_granted (grant_opcode data_too) (Some r) payload k e
    new_waiting : (k : ℕ) → f.waiting k ≡ waiting_granted (grant_opcode data_too) (Some r) k (e.waiting k)

ended_end : {w : ℕ} (o : OpD) (data_too : Bool) (x : BeatD w) (finish : Finish) (g : Endpoint w)
    → o ≡ grant_opcode data_too → (ended o x finish g).after ≡ sending (grant_ack x.sink) g
ended_end o data_too x finish g e = grind arith

same_copy : {w : ℕ} (data_too : Bool) (r : BeatA w) (payload : List ℕ) (k : ℕ) (t : History w) (e : Endpoint w)
    → copy_granted (grant_opcode data_too) (Some r) payload k (with_past t e) ≡ copy_granted (grant_opcode data_too)
    (Some r) payload k e
same_copy data_too r payload k t e = grind arith

grant_end : {w : ℕ} (data_too : Bool) (x : BeatD w) (r : BeatA w) (payload : List ℕ) (e f : Endpoint w)
    → x.opcode ≡ grant_opcode data_too
    → f ≡ (responded x (Some r) payload e).after → IsGrantTaken data_too x r payload e f
grant_end {w} data_too x r payload e f opcode is =
    let before : Endpoint w = with_past (Beat.D x ∷ e.past) e in
    let g : Endpoint w = granted x.opcode (Some r) payload before in
    let does = granted_is x.opcode (Some r) payload before in
    let sends : f ≡ sending (grant_ack x.sink) g = is ∙ ended_end _ data_too x
    (finish_of w x.opcode x.param x.size (address_asked (Some r)) payload) g opcode in
    record {
      past_is = cc (sends, does.same_past);
      same_closed = ap (λ h. h.closed) sends ∙ does.same_closed;
      new_copies = λ k. cc (sends, does.new_copies k, opcode, same_copy data_too r payload k (Beat.D x ∷ e.past) e);
      new_waiting = λ k. cc (sends, does.new_waiting k, opcode);
    }

pub end-grant_taken : {w : ℕ} {c n : ℕ} {whole data_too : Bool} {g : Grow} {k : Cap} {x : BeatD w} {payload : List ℕ}
    (rest : List Packet) (mail : AccessMessages w) {s : State (List ℕ)} {e f : Endpoint w} → IsWidth w → AreNamed s
    → IsGrantOf c n whole data_too g k x payload s → f ≡ (responded x (request_of x.source e.past) payload e).after
    → ends (Beat.D x) e.past ≡ true → IsWellKept f → IsEnd (asked_by mail s c) c s e
    → IsEnd (asked_by mail (grant_taken c n whole data_too k rest s) c) c (grant_taken c n whole data_too k rest s) f
end-grant_taken {w} {c} {n} {whole} {data_too} {g} {k} {x} {payload} rest mail {s} {e} {f} width named is taken last
    well end =
    let asks : asked_by mail s c x.source ≡ Some r = ap (asked_by mail s c) is.from ∙ asks-acquire c _ n source
    whole g mail s is.used is.wants refl in
    let open_ : open_beat x.source e.past ≡ Some r = end.knows.0.opens x.source ∙ asks in
    let request : request_of x.source e.past ≡ Some r = open-is x.source e.past (cc (acquires-so whole)) ∙ open_ in
    let does = grant_end data_too x r payload e f is.opcode (cc) in
    let kind = grants_by_opcode data_too in
    let closes = grant_closes n x r e.past last (ap is_grant is.opcode ∙ kind.0) (ap is_release_ack is.opcode ∙ kind.1)
    request (same_block n) in
    let event : IsHeard c x e.past (cap_right k) (λ i. n == i) (λ i. false) (λ i. x.source == i) (λ i. false)
    (asked_by mail s c) (asked_by mail s' c) s s' = record {
      grants_is = closes.0;
      gives = λ i here. ap capped is.param ∙ cap-gives k;
      releases_is = closes.1;
      source_is = closes.2;
      let_is = closes.3;
      held = λ i. cc (column (λ b. (b.pair c).held) n new s.block i, pair_is, swapped i n);
      acquiring = λ i. let fact = column (λ b. is_wanting (b.pair c).acquiring) n new s.block i in
          cc (pair_is, swapped i n);
      letting = λ i. ap not (set-part (λ b. is_unreleased (b.pair c).letting) n new s.block
          (ap (λ q. is_unreleased q.letting) pair_is) i);
      lets = λ i. refl;
      asks = λ i. asks_now i (cases_eq i source);
    } in
    let echo : IsEcho x e.past f.past = subst (IsEcho x e.past) (sym does.past_is)
    (echo-e x (record { sink = x.sink }) e.past width end.well.kept.e_whole) in
    record {
      knows = heard echo well event end.knows;
      well = well;
      copies = λ i some. does.new_copies i ∙ copy_now i (cases_eq i n) some;
      waiting = λ i storing. does.new_waiting i ∙ waiting_now i (cases_eq i n) storing;
      live = does.same_closed ∙ end.live;
    }
  where
    source : ℕ
    source = (s.block n).source c

    r : BeatA w
    r = a_beat_of (acquisition (acquire_opcode whole) g source n) 0

    new : Block (List ℕ)
    new = taken_block c whole data_too k (s.block n)

    s' : State (List ℕ)
    s' = grant_taken c n whole data_too k rest s

    pair_is : new.pair c ≡ after_grant k ((s.block n).pair c)
    pair_is = set-same c (after_grant k ((s.block n).pair c)) (s.block n).pair

    -- no other source is of the block
    apart : (i j : ℕ) → (i ≡ source → ⊥) → s.uses c i ≡ Acquires j → j ≡ n → ⊥
    apart i j ne used same = ne (eqb-true i source (and_right (is_wanting ((s.block n).pair c).acquiring) (i == source)
        (sym (named.acquires c i n) ∙ (ap (acquires_of n) (used ∙ ap Acquires same) ∙ same_number n))))

    asks_now : (i : ℕ) → (i ≡ source) ⊎ (i ≡ source → ⊥) → asked_by mail s' c i ≡ cond (x.source == i) None
        (asked_by mail s c i)
    asks_now i (inl same) = asks-closed c i mail s' (ap (s'.uses c) same ∙ set_at-same c source SourceFree s.uses)
        ∙ sym (chosen (x.source == i) None (asked_by mail s c i) (rw (is.from, same) (same_number source)))
    asks_now i (inr ne) = asks-same c i mail mail s s' refl (inl (set_at-else c source i SourceFree s.uses ne c))
        (λ j used. ap (λ b. (b.pair c).acquiring) (set-other n j new s.block (apart i j ne used)))
        (λ j used. ap (λ b. b.source c) (set-other n j new s.block (apart i j ne used)))
        ∙ sym (passed (x.source == i) None (asked_by mail s c i) (rw is.from (ne_eqb source i (λ h. ne (sym h)))))

    -- what the block is afterwards
    block_now : (i : ℕ) → i ≡ n → s'.block i ≡ new
    block_now i same = ap s'.block same ∙ set-same n new s.block

    here : (i : ℕ) → i ≡ n → (i == block_at r.address) ≡ true
    here i same = rw (same_block n, same) (same_number n)

    elsewhere : (i : ℕ) → (i ≡ n → ⊥) → (i == block_at r.address) ≡ false
    elsewhere i ne = rw (same_block n) (ne_eqb i n ne)

    copy_here : (i : ℕ) (y z : Bool) → whole ≡ y → data_too ≡ z → i ≡ n
        → copy_granted (grant_opcode z) (Some (a_beat_of {w = w} (acquisition (acquire_opcode y) g source n) 0)) payload
        i e ≡ Some (granted_copy y z ((s.block n).waiting c) (s.block n).truth ((s.block n).copy c))
    copy_here i true true a b same = absurd (let no : true ≡ false = sym (ap₂_and a b) ∙ is.bare in cc)
      where
        ap₂_and : {u v : Bool} → whole ≡ u → data_too ≡ v → (whole && data_too) ≡ (u && v)
        ap₂_and p q = rw (p, q) refl
    copy_here i true false a b same =
        let and_true : (u : Bool) → u ≡ true → (u && true) ≡ true = λ u p. rw p refl in
        let fact = chosen ((i == block_at (64 * n)) && true) (e.waiting i) (e.copies i)
        (and_true (i == block_at (64 * n)) (here i same)) in cc (same, end.waiting n (ap is_whole is.wants ∙ a))
    copy_here i false true a b same = chosen (i == block_at (64 * n)) (Some payload) (e.copies i) (here i same) ∙ ap
        Some (is.bytes b)
    copy_here i false false a b same = passed ((i == block_at (64 * n)) && false) (e.waiting i) (e.copies i)
        (and-false (i == block_at (64 * n))) ∙ ap e.copies same ∙ end.copies n (is.has_copy a b)

    copy_else : (i : ℕ) (z : Bool) → (i ≡ n → ⊥) → copy_granted (grant_opcode z) (Some r) payload i e ≡ e.copies i
    copy_else i z e = grind (arith, elsewhere)

    copy_now : (i : ℕ) → (i ≡ n) ⊎ (i ≡ n → ⊥) → same_perm ((s'.block i).pair c).held Perm.None ≡ false
        → copy_granted (grant_opcode data_too) (Some r) payload i e ≡ Some ((s'.block i).copy c)
    copy_now i (inl same) some = copy_here i whole data_too refl refl same ∙ ap Some
        (sym (ap (λ b. b.copy c) (block_now i same) ∙ set-same c
        (granted_copy whole data_too ((s.block n).waiting c) (s.block n).truth ((s.block n).copy c)) (s.block n).copy))
    copy_now i (inr ne) some =
        let old : s'.block i ≡ s.block i = set-other n i new s.block ne in
        cc (copy_else i data_too ne, end.copies i (sym (ap (λ b. same_perm (b.pair c).held Perm.None) old) ∙ some), old)

    waiting_now : (i : ℕ) → (i ≡ n) ⊎ (i ≡ n → ⊥) → is_whole ((s'.block i).pair c).acquiring ≡ true
        → waiting_granted (grant_opcode data_too) (Some r) i (e.waiting i) ≡ Some ((s'.block i).waiting c)
    waiting_now i e f = grind (arith, block_now, pair_is)
