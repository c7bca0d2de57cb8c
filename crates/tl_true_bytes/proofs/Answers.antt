-- A beat of the answer to an access brings what that found.
use Rattle.tl_true_bytes.proofs.Imports.{Beat, BeatD, OpA, OpD, IsWidth, MessageA, beats_of, begun, data_beats, reaches}
use Rattle.tl_true_bytes.proofs.Imports.{History, unfinished, length-begun, Memory, bytes_from, effect, ends}
use Rattle.tl_true_bytes.proofs.Imports.{carried_byte, is_access, tail_is, same_d, Channel}
use Rattle.std.proofs.Common.{◌≡◌, ℕ, zero, suc, ◌+◌, ◌-◌, ◌*◌, ◌/◌, ◌%◌, ◌^◌, ◌<◌, ◌≤◌, ◌⊎◌, Bool, true, false, List}
use Rattle.std.proofs.Common.{[], ◌∷◌, length, take, refl, sym, ap, ◌∙◌, arith, inl, inr}
use Rattle.std.specs.Prelude.{drop, unwrap_or, Some}
use Rattle.tl_beat.specs.statement.Opcode.{d_carries_data}
use Rattle.tl_burst.{specs.declared.message.Message.Message, specs.declared.message.MessageD.MessageD}
use Rattle.tl_burst.{specs.statement.Burst.d_beat_of, specs.statement.Burst.lanes_at}
use Rattle.tl_rules.{specs.statement.Admission.lanes_of, specs.statement.Conformance.answers}
use Rattle.tl_rules.specs.statement.Effect.{access_result, answer_of, as_payload}
use Rattle.tl_manager.specs.statement.Handing.{access_answer}
use Rattle.tl_concord.specs.statement.Accesses.{HasCome}
use Rattle.tl_one_memory.specs.statement.Run.{returns}
use Rattle.tl_true_bytes.proofs.Brought.{brought, within}

-- the message is the answer to an access that found this memory
record IsReply {w : ℕ} (m : MessageA w) (f : Memory) (z : MessageD w) : Type 0 where
  admitted : answers z.opcode m.opcode ≡ true
  clean : z.corrupt ≡ 0
  granted : z.denied ≡ false
  size_is : z.size ≡ m.size
  carries : returns m.opcode ≡ true → (d_carries_data z.opcode ≡ true)
      × (z.payload ≡ as_payload (m.address % w) (bytes_from f m.address (2 ^ m.size)))

reply-of : {w : ℕ} (m : MessageA w) (f : Memory) → is_access m.opcode ≡ true
    → (z : MessageD w) × (access_answer m (answer_of (Message.A m) (effect (Message.A m) f).1) ≡ Message.D z)
    × IsReply m f z
unfolding effect
reply-of {w} m f accesses = go m.opcode refl
  where
    go : (o : OpA) → m.opcode ≡ o
        → (z : MessageD w) × (access_answer m (answer_of (Message.A m) (access_result o m f)) ≡ Message.D z)
        × IsReply m f z
    go OpA.Get e = (
      _,
      refl,
      record {
        admitted = rw e refl;
        clean = refl;
        granted = refl;
        size_is = refl;
        carries =
            λ i. (refl, refl);
      },
    )
    go OpA.ArithmeticData e = (
      _,
      refl,
      record {
        admitted = rw e refl;
        clean = refl;
        granted = refl;
        size_is = refl;
        carries =
            λ i. (refl, refl);
      },
    )
    go OpA.LogicalData e = (
      _,
      refl,
      record {
        admitted = rw e refl;
        clean = refl;
        granted = refl;
        size_is = refl;
        carries =
            λ i. (refl, refl);
      },
    )
    go OpA.PutFullData e = (
      _,
      refl,
      record {
        admitted = rw e refl;
        clean = refl;
        granted = refl;
        size_is = refl;
        carries = λ i. absurd (let no : false ≡ true = sym (ap returns e) ∙ i in cc);
      },
    )
    go OpA.PutPartialData e = (
      _,
      refl,
      record {
        admitted = rw e refl;
        clean = refl;
        granted = refl;
        size_is = refl;
        carries = λ i. absurd (let no : false ≡ true = sym (ap returns e) ∙ i in cc);
      },
    )
    go v e = absurd (let no : false ≡ true = sym (ap is_access e) ∙ accesses in cc)

-- ---- a beat of it

few : (n : ℕ) (xs : List ℕ) → length (take n xs) ≤ n
few (suc n) (x ∷ xs) = let rest = few n xs in omega (arith, rest)
few v u = omega arith

few_lanes : (carries : Bool) (w : ℕ) (payload : List ℕ) (k : ℕ)
    → length (unwrap_or (lanes_at carries w payload k) []) ≤ w
few_lanes false w payload k = omega arith
few_lanes true w payload k =
    let wide : w * k + w - w * k ≡ w = omega arith in
    rw wide (few w (drop (w * k) payload))

-- the beat is of an answer to an access that found this memory
pub record IsBeatOfReply {w : ℕ} (m : MessageA w) (f : Memory) (x : BeatD w) (past : History w) : Type 0 where
  pub admitted : answers x.opcode m.opcode ≡ true
  pub undenied : (y : BeatD w) (older : List (Beat w)) → unfinished Channel.D past ≡ Beat.D y ∷ older → y.denied ≡ false
  pub lanes_fit : length (lanes_of (Beat.D x)) ≤ w
  pub brings : returns m.opcode ≡ true → (address : ℕ) → reaches m.address m.size address ≡ true
      → ((address - w * (m.address / w)) / w ≤ length (unfinished Channel.D past)) ⊎ (ends (Beat.D x) past ≡ true)
      → carried_byte (Beat.D x ∷ unfinished Channel.D past) (address - w * (m.address / w)) ≡ Some (f address)

pub beat-of-reply : {w : ℕ} (m : MessageA w) (f : Memory) (x : BeatD w) (past : History w) → IsWidth w
    → m.address % 2 ^ m.size ≡ 0 → is_access m.opcode ≡ true
    → HasCome (access_answer m (answer_of (Message.A m) (effect (Message.A m) f).1)) (Beat.D x) past
    → IsBeatOfReply m f x past
beat-of-reply {w} m f x past width aligned accesses come = go come.count burst_is refl
  where
    reply : (z : MessageD w) × (access_answer m (answer_of (Message.A m) (effect (Message.A m) f).1) ≡ Message.D z)
        × IsReply m f z
    reply = reply-of m f accesses

    z : MessageD w
    z = reply.0

    burst_is : Beat.D x ∷ unfinished Channel.D past ≡ begun (Message.D z) come.count
    burst_is = come.burst_is ∙ ap (λ i. begun i come.count) reply.1

    whole : ends (Beat.D x) past ≡ true → come.count ≡ beats_of (Message.D z)
    whole e = come.whole e ∙ ap beats_of reply.1

    go : (n : ℕ) → Beat.D x ∷ unfinished Channel.D past ≡ begun (Message.D z) n → come.count ≡ n
        → IsBeatOfReply m f x past
    go zero e same = absurd cc
    go (suc k) e same = record {
      admitted = ap (λ (o : OpD). answers o m.opcode) (ap (λ (y : BeatD w). y.opcode) x_is) ∙ reply.2.admitted;
      undenied = λ y older begun_so. earlier y older k (sym rest ∙ begun_so);
      lanes_fit = below (ap (λ (y : BeatD w). length (unwrap_or y.lanes [])) x_is)
          (few_lanes (d_carries_data z.opcode) w z.payload k);
      brings = λ reads address reached come_so.
          ap (λ (l : List (Beat w)). carried_byte l (address - w * (m.address / w))) e
          ∙ brought m.address m.size f z (suc k) address width m.small aligned (reply.2.carries reads).0 reply.2.clean
          reply.2.granted (reply.2.carries reads).1 reached (so_far reads address reached come_so);
    }
      where
        x_is : x ≡ d_beat_of z k
        x_is = same_d x (d_beat_of z k) (tail_is (Beat.D x) (Beat.D (d_beat_of z k)) (unfinished Channel.D past)
            (begun (Message.D z) k) e).0

        rest : unfinished Channel.D past ≡ begun (Message.D z) k
        rest = (tail_is (Beat.D x) (Beat.D (d_beat_of z k)) (unfinished Channel.D past) (begun (Message.D z) k) e).1

        earlier : (y : BeatD w) (older : List (Beat w)) (n : ℕ) → begun (Message.D z) n ≡ Beat.D y ∷ older
            → y.denied ≡ false
        earlier y older zero f = absurd cc
        earlier y older (suc n) f = ap (λ (b : BeatD w). b.denied) (sym (same_d (d_beat_of z n) y
            (tail_is (Beat.D (d_beat_of z n)) (Beat.D y) (begun (Message.D z) n) older f).0)) ∙ reply.2.granted

        long : length (unfinished Channel.D past) ≡ k
        long = ap (λ (l : List (Beat w)). length l) rest ∙ length-begun (Message.D z) k

        below : {n i j : ℕ} → i ≡ j → j ≤ n → i ≤ n
        below e le = omega (arith, e, le)

        beats : returns m.opcode ≡ true → beats_of (Message.D z) ≡ data_beats w m.size
        beats reads = rw ((reply.2.carries reads).0) (ap (data_beats w) reply.2.size_is)

        so_far : returns m.opcode ≡ true → (address : ℕ) → reaches m.address m.size address ≡ true
            → ((address - w * (m.address / w)) / w ≤ length (unfinished Channel.D past)) ⊎ (ends (Beat.D x) past ≡ true)
            → (address - w * (m.address / w)) / w < suc k
        so_far reads address reached (inl early) = omega (arith, early, long)
        so_far reads address reached (inr last) =
            let inside = within w m.size m.address address width m.small aligned reached in
            omega (arith, inside, beats reads, whole last, same)
