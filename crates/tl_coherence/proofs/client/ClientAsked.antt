-- A client's end after it was asked for an access or an Acquire.
-- A client's end after it was asked for an operation: what it does is what the protocol does.
use Rattle.std.proofs.Common.{◌≡◌, ℕ, ◌*◌, Bool, true, false, not, ◌&&◌, ◌==◌, cond, List, Option, Some, None, refl}
use Rattle.std.proofs.Common.{sym, ◌∙◌, ap, subst, arith, ◌⊎◌, inl, inr, ne_eqb, eqb-true, unwrap_or}
use Rattle.tl_coherence.proofs
use proofs.Imports.{cases_eq, not-false, or_parts, BeatA, OpA, OpC, IsWidth, Message, MessageA, MessageC, a_beat_of}
use proofs.Imports.{AcquireOf, ReleaseOf, Grow, Prune, Perm, prune_code, prune_left, prune_right, sent, same_perm}
use proofs.Imports.{block_at, is_acquire, is_release, held, pending, kept_closed, kept_copies, NotBusy, asked-cases}
use proofs.Imports.{kept_past, same_block, swapped, kept-asked, kept_waiting, Busy, Op, Reply, copy_stored, done}
use proofs.Imports.{free_request, source_or_0, store, whole_grow, EndConfig, Endpoint, held_at, sending, zeros, holds}
use proofs.Imports.{about, acquisition, release, AreNamed, acquires_of, set_at, is_unreleased, is_whole, after_acquire}
use proofs.Imports.{after_release, Acquires, Asked, Block, State, access_asked, acquire_asked, acquiring_block}
use proofs.Imports.{block_stored, release_asked, releasing_block, stored_block, is_wanting, AbstractState}
use proofs.Imports.{acquire_opcode, AccessMessages, asked_by}
use Rattle.tl_coherence.specs.refinement.AbstractStep as world
use Rattle.tl_client.{proofs.endpoint.HeldAfter.held-release, proofs.pending.Accounted.accounted-asked}
use Rattle.tl_client.proofs.pending.KeptAsked.{no_acquire, falls_to}
use Rattle.tl_client.specs.statement.Ask.{load, is_access_of}
use Rattle.tl_client.specs.statement.Endpoint.{with_copy, with_waiting, kept_for}
use Rattle.tl_client.specs.statement.Ask as ask
use proofs.client.ClientDeliverD.{IsRequested, knows-requested, IsReleased, knows-released}
use proofs.client.AsideAll.{set_at-else}
use proofs.client.ClientEnd.{is_access, IsWellKept, IsEnd, asks-same, asks-access, asks-acquire, column, IsSame}
use proofs.client.ClientEnd.{knows-same}
use proofs.queues.{Codes.acquires-so, Phases.held-some}
use proofs.queues.Tokens.{same_number, set-same, set-other, set-part, set_at-same}

-- a condition that is known
pub chosen : {X : Type 0} (b : Bool) (x y : X) → b ≡ true → cond b x y ≡ x
chosen b x y e = rw e refl

pub passed : {X : Type 0} (b : Bool) (x y : X) → b ≡ false → cond b x y ≡ y
passed b x y e = rw e refl

-- ---- an access

-- what each source asks for after an access is asked for
asks_access : {w : ℕ} (c i : ℕ) (m : MessageA w) (mail : AccessMessages w) (s : State (List ℕ))
    → asked_by (record { request = set_at c m.source (Message.A m) mail.request; answer = mail.answer })
    (access_asked c m.source s) c i ≡ cond (m.source == i) (Some (a_beat_of m 0)) (asked_by mail s c i)
asks_access {w} c i m mail s =
    let mail' : AccessMessages w =
    record { request = set_at c m.source (Message.A m) mail.request; answer = mail.answer } in
    let s' : State (List ℕ) = access_asked c m.source s in
    elim (cases_eq i m.source) [
      | inl same ↦ ap (asked_by mail' s' c) same ∙ asks-access c m.source m mail' s'
          (ap is_access (set_at-same c m.source Asked s.uses)) (set_at-same c m.source (Message.A m) mail.request)
          ∙ sym (chosen (m.source == i) (Some (a_beat_of m 0)) (asked_by mail s c i) (rw same (same_number m.source)))
      | inr other ↦ asks-same c i mail mail' s s' (set_at-else c m.source i (Message.A m) mail.request other c)
          (inl (set_at-else c m.source i Asked s.uses other c)) (λ n used. refl) (λ n used. refl) ∙ sym
          (passed (m.source == i) (Some (a_beat_of m 0)) (asked_by mail s c i) (ne_eqb m.source i (λ e. other (sym e))))
    ]

pub end-access_asked : {w : ℕ} {c : ℕ} (m : MessageA w) (mail : AccessMessages w) {s : State (List ℕ)} {e : Endpoint w}
    → IsWidth w → is_acquire m.opcode ≡ false → IsWellKept (sending (Message.A m) e) → IsEnd (asked_by mail s c) c s e
    → IsEnd (asked_by (record { request = set_at c m.source (Message.A m) mail.request; answer = mail.answer })
    (access_asked c m.source s) c) c (access_asked c m.source s) (sending (Message.A m) e)
end-access_asked {w} {c} m mail {s} width plain kept end =
    let s' : State (List ℕ) = access_asked c m.source s in
    let asked' : ℕ → Option (BeatA w) =
    asked_by (record { request = set_at c m.source (Message.A m) mail.request; answer = mail.answer }) s' c in
    let same : (n : ℕ) → is_wanting ((s.block n).pair c).acquiring ≡ cond (is_acquire m.opcode
    && (block_at m.address == n)) true (is_wanting ((s.block n).pair c).acquiring) = λ n. rw plain refl in
    let event : IsRequested c m (asked_by mail s c) asked' s s' = record {
      held = λ n. refl;
      letting = λ n. refl;
      lets = λ source. refl;
      acquiring = λ n. same n;
      asks = λ source. asks_access c source m mail s;
    } in
    record {
      knows = knows-requested width refl end.well.kept.a_whole kept event end.knows;
      well = kept;
      copies = end.copies;
      waiting = end.waiting;
      live = end.live;
    }

-- ---- an Acquire

-- no source is of a block whose Acquire isn't open
pub unused : (c n i : ℕ) {s : State (List ℕ)} → AreNamed s → is_wanting ((s.block n).pair c).acquiring ≡ false
    → s.uses c i ≡ Acquires n → ⊥
unused c n i {s} named calm used =
    let no : false ≡ true = rw calm at (sym (named.acquires c i n) ∙ (ap (acquires_of n) used ∙ same_number n)) in
    cc

pub asks_acquire : {w : ℕ} (c n source i : ℕ) (whole : Bool) (g : Grow) (bytes : List ℕ) (mail : AccessMessages w)
    {s : State (List ℕ)} → AreNamed s → is_wanting ((s.block n).pair c).acquiring ≡ false
    → asked_by mail (acquire_asked c n source whole g bytes s) c i ≡ cond (source == i)
    (Some (a_beat_of (acquisition (acquire_opcode whole) g source n) 0)) (asked_by mail s c i)
asks_acquire {w} c n source i whole g bytes mail {s} named calm =
    let new : Block (List ℕ) = acquiring_block c source whole g bytes (s.block n) in
    let s' : State (List ℕ) = acquire_asked c n source whole g bytes s in
    let apart : (j : ℕ) → s.uses c i ≡ Acquires j → j ≡ n → ⊥ = λ j used same. unused c n i named calm (cc) in
    elim (cases_eq i source) [
      | inl same ↦ ap (asked_by mail s' c) same ∙ asks-acquire c _ n _ whole g mail s'
          (set_at-same c source (Acquires n) s.uses) (ap (λ b. (b.pair c).acquiring)
          (set-same n new s.block) ∙ ap (λ p. p.acquiring) (set-same c
          (after_acquire whole g ((s.block n).pair c)) (s.block n).pair)) (ap (λ b. b.source c)
          (set-same n new s.block) ∙ set-same c source (s.block n).source) ∙ sym (chosen (source == i) (Some (a_beat_of
          (acquisition (acquire_opcode whole) g source n) 0)) (asked_by mail s c i) (rw same (same_number source)))
      | inr other ↦ asks-same c i mail mail s s' refl (inl (set_at-else c source i (Acquires n) s.uses other c))
          (λ j used. ap (λ b. (b.pair c).acquiring) (set-other n j new s.block (apart j used)))
          (λ j used. ap (λ b. b.source c) (set-other n j new s.block (apart j used)))
          ∙ sym (passed (source == i) (Some (a_beat_of (acquisition (acquire_opcode whole) g source n) 0))
          (asked_by mail s c i) (ne_eqb source i (λ e. other (sym e))))
    ]

pub end-acquire_asked : {w : ℕ} {c : ℕ} (n source : ℕ) (whole : Bool) (g : Grow) (bytes : List ℕ)
    (mail : AccessMessages w) {s : State (List ℕ)} {e f : Endpoint w} → IsWidth w → AreNamed s
    → pending (AcquireOf n) e.past ≡ false
    → f.past ≡ (sending (Message.A (acquisition (acquire_opcode whole) g source n)) e).past → f.copies ≡ e.copies
    → f.closed ≡ e.closed → ((i : ℕ) → (i ≡ n → ⊥) → f.waiting i ≡ e.waiting i)
    → (whole ≡ true → f.waiting n ≡ Some bytes) → IsWellKept f → IsEnd (asked_by mail s c) c s e
    → IsEnd (asked_by mail (acquire_asked c n source whole g bytes s) c) c (acquire_asked c n source whole g bytes s) f
end-acquire_asked {w} {c} n source whole g bytes mail {s} {f} width named idle past copies closed others here kept end =
    let m : MessageA w = acquisition (acquire_opcode whole) g source n in
    let asked' : ℕ → Option (BeatA w) = asked_by mail s' c in
    let of_block : (i : ℕ) → (is_acquire (acquire_opcode whole) && (block_at (64 * n) == i)) ≡ (i == n) =
    λ i. rw (acquires-so whole, same_block n) (swapped n i) in
    let event : IsRequested c m (asked_by mail s c) asked' s s' = record {
      held = λ i. set-part (λ b. (b.pair c).held) n new s.block (ap (λ p. p.held) pair_is) i;
      letting = λ i. set-part (λ b. is_unreleased (b.pair c).letting) n new s.block
          (ap (λ p. is_unreleased p.letting) pair_is) i;
      lets = λ i. refl;
      acquiring = λ i. let fact = column (λ b. is_wanting (b.pair c).acquiring) n new s.block i in
          cc (pair_is, of_block i);
      asks = λ i. asks_acquire c n source i whole g bytes mail named (sym (end.knows.0.acquires n) ∙ idle);
    } in
    record {
      knows = knows-requested width past end.well.kept.a_whole kept event end.knows;
      well = kept;
      copies = λ i some. let fact = end.copies i (sym (ap (λ p. same_perm p Perm.None) (event.held i))
          ∙ some) in cc (copies, set-part (λ b. b.copy c) n new s.block refl i);
      waiting = λ i storing. go i storing (cases_eq i n);
      live = closed ∙ end.live;
    }
  where
    new : Block (List ℕ)
    new = acquiring_block c source whole g bytes (s.block n)

    s' : State (List ℕ)
    s' = acquire_asked c n source whole g bytes s

    pair_is : new.pair c ≡ after_acquire whole g ((s.block n).pair c)
    pair_is = set-same c (after_acquire whole g ((s.block n).pair c)) (s.block n).pair

    go : (i : ℕ) → is_whole (((s'.block i).pair c).acquiring) ≡ true → (i ≡ n) ⊎ (i ≡ n → ⊥)
        → f.waiting i ≡ Some ((s'.block i).waiting c)
    go i storing (inl same) = ap f.waiting same ∙ here (sym (ap (λ b. is_whole (b.pair c).acquiring)
        (ap s'.block same ∙ set-same n new s.block) ∙ ap (λ p. is_whole p.acquiring) pair_is) ∙ storing) ∙ ap Some
        (sym (ap (λ b. b.waiting c) (ap s'.block same ∙ set-same n new s.block) ∙ set-same c bytes (s.block n).waiting))
    go i storing (inr other) =
        let old : s'.block i ≡ s.block i = set-other n i new s.block other in
        others i other ∙ end.waiting i (cc) ∙ ap Some (sym (ap (λ b. b.waiting c) old))

-- ---- a Release

-- the message is a Release of this block with this source
record IsRelease {w : ℕ} (source n : ℕ) (m : MessageC w) : Type 0 where
  releases : is_release m.opcode ≡ true
  of_block : block_at m.address ≡ n
  whole : m.size ≡ 6
  from : m.source ≡ source

release_message : {w : ℕ} (r : Prune) (source n : ℕ) (copy : List ℕ)
    → (m : MessageC w) × (release r source n copy ≡ Message.C m) × IsRelease source n m
release_message Prune.TtoB source n copy = (
  about OpC.ReleaseData (prune_code Prune.TtoB) source n copy,
  refl,
  record { releases = refl; of_block = same_block n; whole = refl; from = refl },
)
release_message Prune.TtoN source n copy = (
  about OpC.ReleaseData (prune_code Prune.TtoN) source n copy,
  refl,
  record { releases = refl; of_block = same_block n; whole = refl; from = refl },
)
release_message Prune.BtoN source n copy = (
  about OpC.Release (prune_code Prune.BtoN) source n zeros,
  refl,
  record { releases = refl; of_block = same_block n; whole = refl; from = refl },
)

end-release_asked : {w : ℕ} {c : ℕ} (n source : ℕ) (r : Prune) (copy : List ℕ) (mail : AccessMessages w)
    {s : State (List ℕ)} {e : Endpoint w} → IsWidth w → same_perm (prune_left r) (held n e.past) ≡ true
    → IsWellKept (kept_for n (prune_right r) (sending (release r source n copy) e)) → IsEnd (asked_by mail s c) c s e
    → IsEnd (asked_by mail (release_asked c n source r s) c) c (release_asked c n source r s)
    (kept_for n (prune_right r) (sending (release r source n copy) e))
end-release_asked {w} {c} n source r copy mail {s} {e} width begins kept end =
    let f : Endpoint w = kept_for n (prune_right r) (sending (release r source n copy) e) in
    let p = release_message {w = w} r source n copy in
    let event = event_of p.0 p.2 in
    let past : f.past ≡ sent (Message.C p.0) e.past = kept_past n (prune_right r) (sending (release r source n copy) e)
    ∙ ap (λ x. sent x e.past) p.1 in
    let left : (i : ℕ) → held i (sent (Message.C p.0) e.past) ≡ cond (i == n) (prune_right r) (held i e.past) =
    λ i. cc (p.1, held-release i r source n copy _ width end.well.kept.c_whole) in
    record {
      knows = knows-released width past end.well.kept.c_whole left kept event end.knows;
      well = kept;
      copies = λ i some. kept_copies n (prune_right r) (sending (release r source n copy) e) i ∙ copy_of i (i == n) refl
          (cc (event.held i)) ∙ ap Some (sym (set-part (λ b. b.copy c) n new s.block refl i));
      waiting = λ i storing. kept_waiting n (prune_right r) (sending (release r source n copy) e) i ∙ end.waiting i
          (sym (set-part (λ b. is_whole (b.pair c).acquiring) n new s.block (ap (λ q. is_whole q.acquiring) pair_is) i)
          ∙ storing) ∙ ap Some (sym (set-part (λ b. b.waiting c) n new s.block refl i));
      live = kept_closed n (prune_right r) (sending (release r source n copy) e) ∙ end.live;
    }
  where
    new : Block (List ℕ)
    new = releasing_block c source r (s.block n)

    s' : State (List ℕ)
    s' = release_asked c n source r s

    pair_is : new.pair c ≡ after_release r ((s.block n).pair c)
    pair_is = set-same c (after_release r ((s.block n).pair c)) (s.block n).pair

    event_of : (m : MessageC w) → IsRelease source n m → IsReleased c n m (prune_right r) (asked_by mail s c)
        (asked_by mail s' c) s s'
    event_of m is = record {
      releases = is.releases;
      of_block = is.of_block;
      whole = is.whole;
      held = λ i. cc (column (λ b. (b.pair c).held) n new s.block i, pair_is);
      letting = λ i. let fact = column
          (λ b. not (is_unreleased (b.pair c).letting)) n new s.block i in cc (pair_is, swapped i n);
      lets = λ i. lets_now i is.from (cases_eq i source);
      acquiring = λ i. set-part (λ b. is_wanting (b.pair c).acquiring) n new s.block
          (ap (λ q. is_wanting q.acquiring) pair_is) i;
      asks = λ i. asks-same c i mail mail s s' refl (inl refl) (λ j used. set-part (λ (b : Block (List ℕ)).
          (b.pair c).acquiring) n new s.block (ap (λ q. q.acquiring) pair_is) j)
          (λ j used. set-part (λ b. b.source c) n new s.block refl j);
    }
      where
        lets_now : (i : ℕ) → m.source ≡ source → (i ≡ source) ⊎ (i ≡ source → ⊥)
            → s'.lets c i ≡ cond (m.source == i) (Some n) (s.lets c i)
        lets_now i from (inl same) = ap (s'.lets c) same ∙ set_at-same c source (Some n) s.lets ∙ sym
            (chosen (m.source == i) (Some n) (s.lets c i) (rw (from, same) (same_number source)))
        lets_now i from (inr other) = set_at-else c source i (Some n) s.lets other c ∙ sym
            (passed (m.source == i) (Some n) (s.lets c i) (rw from (ne_eqb source i (λ e. other (sym e)))))

    kept_some : (q : Perm) (x y : Option (List ℕ)) → same_perm q Perm.None ≡ false → cond (not (holds q)) x y ≡ y
    kept_some q x y e = grind arith

    copy_of : (i : ℕ) (b : Bool) → (i == n) ≡ b → same_perm (cond b (prune_right r) ((s.block i).pair c).held) Perm.None
        ≡ false → cond (b && not (holds (prune_right r))) None (e.copies i) ≡ Some ((s.block i).copy c)
    copy_of i true same some = kept_some _ None (e.copies i) some ∙ end.copies i (held-some
        ((s.block i).pair c).held (cc (eqb-true i n same, end.knows.0.held_is n, falls_to r _ begins)))
    copy_of i false same some = end.copies i some

-- ---- a store

end-stored : {w : ℕ} {c : ℕ} (n : ℕ) (bytes : List ℕ) (mail : AccessMessages w) {s : State (List ℕ)}
    {e : Endpoint w} → IsWellKept (with_copy n (Some bytes) e) → IsEnd (asked_by mail s c) c s e
    → IsEnd (asked_by mail (block_stored c n bytes s) c) c (block_stored c n bytes s) (with_copy n (Some bytes) e)
end-stored {w} {c} n bytes mail {s} {e} kept end =
    let same : IsSame c (asked_by mail s c) (asked_by mail s' c) s s' = record {
      held = λ i. set-part (λ b. (b.pair c).held) n new s.block refl i;
      acquiring = λ i. set-part (λ b. (b.pair c).acquiring) n new s.block refl i;
      letting = λ i. set-part (λ b. is_unreleased (b.pair c).letting) n new s.block refl i;
      lets = λ i. refl;
      asks = λ i. asks-same c i mail mail s s' refl (inl refl) (λ j used. set-part (λ b. (b.pair c).acquiring) n new
          s.block refl j) (λ j used. set-part (λ b. b.source c) n new s.block refl j);
    } in
    record {
      knows = knows-same same end.knows;
      well = kept;
      copies = λ i some. copy_of i (cases_eq i n) (sym (ap (λ p. same_perm p Perm.None) (same.held i)) ∙ some);
      waiting = λ i storing. end.waiting i (sym (ap is_whole (same.acquiring i)) ∙ storing) ∙ ap Some
          (sym (set-part (λ b. b.waiting c) n new s.block refl i));
      live = end.live;
    }
  where
    new : Block (List ℕ)
    new = stored_block c bytes (s.block n)

    s' : State (List ℕ)
    s' = block_stored c n bytes s

    copy_of : (i : ℕ) → (i ≡ n) ⊎ (i ≡ n → ⊥) → same_perm ((s.block i).pair c).held Perm.None ≡ false
        → cond (i == n) (Some bytes) (e.copies i) ≡ Some ((s'.block i).copy c)
    copy_of i e f = grind (arith, same_number, set-other)

-- ---- all operations

-- the client's end beside the protocol
abbrev pub IsEndOf : {w : ℕ} → ℕ → AbstractState w → Endpoint w → Type 0
IsEndOf c h e = IsEnd (asked_by h.mail h.state c) c h.state e

abbrev IsAfter : {w : ℕ} → ℕ → Op w → AbstractState w → ask.Asked w → Type 0
IsAfter c o h x = IsWellKept x.after → IsEndOf c (world.asked c o x.reply h) x.after

end_busy : {w : ℕ} (c : ℕ) (o : Op w) (b : Busy) (h : AbstractState w) (e : Endpoint w) → IsEndOf c h e
    → IsEndOf c (world.asked c o (Reply.Busy b) h) e
end_busy c (Op.Access (Message.A m)) b h e end = end
end_busy c o b h e end = end

end_load : {w : ℕ} (c address size : ℕ) (p : Perm) (h : AbstractState w) (e : Endpoint w) → IsEndOf c h e
    → IsAfter c (Op.Load address size) h (load address size p e)
end_load c address size Perm.None h e end kept = end
end_load c address size p h e end kept = end

end_store : {w : ℕ} (c address size value : ℕ) (p : Perm) (h : AbstractState w) (e : Endpoint w)
    → ((h.state.block (block_at address)).pair c).held ≡ p → IsEndOf c h e
    → IsAfter c (Op.Store address size value) h (store address size value p e)
end_store c address size value Perm.None h e is end kept = end
end_store c address size value Perm.Branch h e is end kept = end
end_store c address size value Perm.Trunk h e is end kept =
    let n = block_at address in
    let same = ap (λ o. unwrap_or o zeros) (end.copies n (rw is refl)) in
    let bytes = ap (copy_stored address size value) same in
    subst (λ x. IsWellKept (with_copy n (Some x) e) → IsEnd
    (asked_by h.mail (block_stored c n (copy_stored address size value ((h.state.block n).copy c)) h.state) c) c
    (block_stored c n (copy_stored address size value ((h.state.block n).copy c)) h.state) (with_copy n (Some x) e))
    (sym bytes) (λ k. end-stored n _ h.mail k end) kept

end_done : {w : ℕ} {terms : EndConfig} (c : ℕ) (o : Op w) (h : AbstractState w) {e : Endpoint w} → IsWidth w
    → AreNamed h.state → IsEndOf c h e → NotBusy terms o e → IsAfter c o h (done terms o e)
end_done c (Op.Load address size) h {e} width named end free kept =
    end_load c address size (held_at e (block_at address)) h e end kept
end_done c (Op.Store address size value) h {e} width named end free kept = end_store c address size value
    _ h e (sym (end.knows.0.held_is (block_at address))) end kept
end_done {terms} c (Op.Acquire n g) h {e} width named end free kept =
    let idle = or_parts (pending (AcquireOf n) e.past) (pending (ReleaseOf n) e.past) free.b2 in
    end-acquire_asked n (source_or_0 (free_request terms e.past)) false g ((h.state.block n).waiting c) h.mail width
    named idle.0 refl refl refl (λ i other. refl) (λ whole. absurd cc) kept end
end_done {w} {terms} c (Op.AcquireWhole n bytes) h {e} width named end free kept =
    let idle = or_parts (pending (AcquireOf n) e.past) (pending (ReleaseOf n) e.past) free.b2 in
    let source = source_or_0 (free_request terms e.past) in
    let m : Perm → Message w = λ p. Message.A (acquisition OpA.AcquirePerm (whole_grow p) source n) in
    let f : Endpoint w = with_waiting n (Some bytes) (sending (m (held_at e n)) e) in
    end-acquire_asked n source true _ bytes h.mail width named idle.0 (ap (λ p. sent (m p) e.past)
    (end.knows.0.held_is n)) refl refl (λ i other. passed (i == n) (Some bytes) (e.waiting i) (ne_eqb i n other))
    (λ whole. chosen (n == n) (Some bytes) (e.waiting n) (same_number n)) kept end
end_done {terms} c (Op.Release n r) h {e} width named end free kept = end-release_asked n _ r _ h.mail width
    (not-false (same_perm (prune_left r) (held_at e n)) free.b3) kept end
end_done {terms} c (Op.Access (Message.A m)) h {e} width named end free kept =
    let plain = no_acquire terms.level m.opcode (not-false (is_access_of terms.level m.opcode) free.b4) in
    end-access_asked _ h.mail width plain.0 kept end
end_done c (Op.Access (Message.B m)) h width named end free kept = end
end_done c (Op.Access (Message.C m)) h width named end free kept = end
end_done c (Op.Access (Message.D m)) h width named end free kept = end
end_done c (Op.Access (Message.E m)) h width named end free kept = end

-- a client's end is that of the protocol after it was asked, whatever it answers
pub end-asked : {w : ℕ} (terms : EndConfig) (c : ℕ) (o : Op w) (h : AbstractState w) (e : Endpoint w) → IsWidth w
    → AreNamed h.state → IsEndOf c h e
    → IsEndOf c (world.asked c o (ask.asked terms o e).reply h) (ask.asked terms o e).after
end-asked terms c o h e width named end = asked-cases terms o e (IsAfter c o h) (λ b kept. end_busy c o b h e end)
    (end_done {terms = terms} c o h {e = e} width named end) (record {
      kept = kept-asked terms o e width end.well.kept;
      accounted = accounted-asked terms o e width end.well.kept end.well.accounted;
    })
