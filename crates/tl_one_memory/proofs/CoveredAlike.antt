-- Where other accesses are performed, and others are answered, the same is known of those that are pending.
use Rattle.tl_one_memory.proofs.Imports.{Beat, Trace, Access, access_writes, may_be, IsPending}
use Rattle.std.proofs.Common.{◌≡◌, ℕ, true, List, inl, inr}
use Rattle.tl_bytes.proofs.Finding.{among-map}
use Rattle.tl_one_memory.proofs.Covered.{AreWindowed, IsLate, IsToldLate, IsCovered}

-- it is so too with other accesses performed, and other answers, that are the same of those that are pending
module _ {w : ℕ} (n address v : ℕ) (done done' : ℕ → ℕ → Type 0)
    (Answers Answers' : ℕ → ℕ → Access w → List (Beat w) → Type 0) (t : Trace w)
    (back : (c s : ℕ) (p : Access w) → IsPending c s p t → access_writes address p ≡ true → done' c s → done c s)
  where
    late-as : (moment : ℕ) → IsLate n address done t moment → IsLate n address done' t moment
    late-as moment late c s p performed pending writes =
        late c s p (back c s p pending writes performed) pending writes

    pub windowed-as : AreWindowed n address done t → AreWindowed n address done' t
    windowed-as windowed c s p performed pending writes =
        windowed c s p (back c s p pending writes performed) pending writes

    pub covered-as : ((c s : ℕ) (p : Access w) → IsPending c s p t → access_writes address p ≡ true → done c s
        → done' c s × ((burst : List (Beat w)) → Answers' c s p burst → Answers c s p burst))
        → IsCovered n address v done Answers t → IsCovered n address v done' Answers' t
    covered-as forth is = elim is [
      | inl told ↦ inl (among-map (IsToldLate n address v done t) (IsToldLate n address v done' t) (may_be n address t)
          (λ e each. (each.0, late-as e.moment each.1)) told)
      | inr other ↦ elim other [
        | inr left ↦ inr (inr left)
        | inl now ↦
            let more = forth now.link now.source now.access now.pending now.writes now.performed in
            inr (inl (record {
              link = now.link;
              source = now.source;
              access = now.access;
              performed = more.0;
              pending = now.pending;
              writes = now.writes;
              value_is = λ burst answers. now.value_is burst (more.1 burst answers);
              pending_is = now.pending_is;
              untold = now.untold;
            }))
      ]
    ]
