-- The pieces of a readable line, in the order in which they are appended.
use Rattle.std.proofs.Common.{◌≡◌, ◌++◌, ℕ, List, append_assoc}

module _ (out link front name space param sl size ol source : List ℕ) where
  -- the fields up to the source
  abbrev pub begun : List ℕ
  begun = out ++ link ++ (front ++ name) ++ (space ++ (param ++ sl ++ size ++ ol ++ source))

  -- with one field before the data
  pub one_field : (al a dl d cl c end : List ℕ)
      → begun ++ al ++ a ++ (dl ++ d ++ cl ++ c ++ end)
      ≡ out ++ ((link ++ (front ++ (name ++ (space ++ (param ++ (sl ++ (size ++ (ol ++ (source ++ (al ++ (a ++ (dl
      ++ (d ++ (cl ++ c)))))))))))))) ++ end)
  one_field al a dl d cl c end = simp append_assoc

  -- with two
  pub two_fields : (al a bl b dl d cl c end : List ℕ)
      → begun ++ al ++ a ++ bl ++ b ++ (dl ++ d ++ cl ++ c ++ end)
      ≡ out ++ ((link ++ (front ++ (name ++ (space ++ (param ++ (sl ++ (size ++ (ol ++ (source ++ (al ++ (a ++ (bl
      ++ (b ++ (dl ++ (d ++ (cl ++ c)))))))))))))))) ++ end)
  two_fields al a bl b dl d cl c end = simp append_assoc
