-- Messages by their fields, and lists of Probes.
use Rattle.tl_manager.proofs.Imports.{IsWidth, cap_code, OpD, Message, B, D, Cap, probe_of_block, probes, Handed}
use Rattle.tl_manager.proofs.Imports.{clients_from}
use Rattle.std.proofs.Common.{◌≡◌, ℕ, zero, suc, ◌+◌, ◌-◌, ◌*◌, ◌%◌, ◌^◌, ◌≤◌, lit≤, inl, inr, Bool, true, false, List}
use Rattle.std.proofs.Common.{[], ◌∷◌, ◌++◌, add-one, append-nil, refl, sym, ap, ◌∙◌, arith}
use Rattle.std.{specs.Prelude.if◌then◌else◌, proofs.Math.Bridge.le_prop}
use Rattle.tl_beat.specs.declared.opcode.OpB.{OpB}
use Rattle.tl_manager.specs.statement.Handing.{no_payload}

-- a message is its fields, whatever shows that its size is small
abbrev made_b : {w : ℕ} (opcode : OpB) (param size source address : ℕ) (payload : List ℕ) (mask corrupt : ℕ) → size ≤ 6
    → Message w
made_b opcode param size source address payload mask corrupt small =
    B (record {
      opcode = opcode;
      param = param;
      size = size;
      source = source;
      address = address;
      payload =
          payload;
      mask = mask;
      corrupt = corrupt;
      small = small;
    })

pub same-b : {w : ℕ} (opcode : OpB) (param size source address : ℕ) (payload : List ℕ) (mask corrupt : ℕ)
    (h k : size ≤ 6)
    → made_b {w = w} opcode param size source address payload mask corrupt h ≡ made_b opcode param size source address
    payload mask corrupt k
same-b {w} opcode param size source address payload mask corrupt h k =
    ap (made_b {w = w} opcode param size source address payload mask corrupt) (le_prop h k)

abbrev made_d : {w : ℕ} (opcode : OpD) (param size source sink : ℕ) (denied : Bool) (payload : List ℕ) (corrupt : ℕ)
    → size ≤ 6 → Message w
made_d opcode param size source sink denied payload corrupt small =
    D (record {
      opcode = opcode;
      param = param;
      size = size;
      source = source;
      sink = sink;
      denied = denied;
      payload =
          payload;
      corrupt = corrupt;
      small = small;
    })

pub same-d : {w : ℕ} (opcode : OpD) (param size source sink : ℕ) (denied : Bool) (payload : List ℕ) (corrupt : ℕ)
    (h k : size ≤ 6)
    → made_d {w = w} opcode param size source sink denied payload corrupt h ≡ made_d opcode param size source sink
    denied payload corrupt k
same-d {w} opcode param size source sink denied payload corrupt h k =
    ap (made_d {w = w} opcode param size source sink denied payload corrupt) (le_prop h k)

full-mask : (w : ℕ) → IsWidth w → 1 * 2 ^ w % 18446744073709551616 - 1 ≡ 2 ^ w - 1
full-mask w (inl e) = rw e refl
full-mask w (inr (inl e)) = rw e refl
full-mask w (inr (inr e)) = rw e refl

pub probe-made : {w : ℕ} (block : ℕ) (cap : Cap) (param : ℕ) (h : 6 ≤ 6) → IsWidth w → param ≡ cap_code cap
    → made_b {w = w} OpB.ProbeBlock param 6 0 (64 * block) no_payload (1 * 2 ^ w % 18446744073709551616 - 1) 0
    h ≡ probe_of_block block cap
probe-made {w} block cap param h width is =
    rw (is, full-mask w width) (same-b OpB.ProbeBlock (cap_code cap) 6 0 (64 * block) no_payload (2 ^ w - 1) 0 h
    (lit≤ tt))

-- ---- Probes to one client more

clients-next : (first n : ℕ) (test : ℕ → Bool) → clients_from first (suc n) test ≡ clients_from first n
    test ++ (if test (first + n) then (first + n) ∷ [] else [])
unfolding clients_from
clients-next first zero test = let at : first + 0 ≡ first = omega arith in rw at refl
clients-next first (suc n) test =
    let at : first + suc n ≡ first + 1 + n = omega arith in
    rw at (go (test first) (clients-next (first + 1) n test))
  where
    go : (b : Bool) → clients_from (first + 1) (suc n) test ≡ clients_from (first + 1) n
        test ++ (if test (first + 1 + n) then (first + 1 + n) ∷ [] else [])
        → (if b then first ∷ clients_from (first + 1) (suc n) test else clients_from (first + 1) (suc n) test)
        ≡ (if b then first ∷ clients_from (first + 1) n test else clients_from (first + 1) n test)
        ++ (if test (first + 1 + n) then (first + 1 + n) ∷ [] else [])
    go true e = ap (λ (cs : List ℕ). first ∷ cs) e
    go false e = e

pub clients-more : (n : ℕ) (test : ℕ → Bool) (b : Bool) → test n ≡ b
    → clients_from 0 (n + 1) test ≡ clients_from 0 n test ++ (if b then n ∷ [] else [])
clients-more n test b e =
    let at : 0 + n ≡ n = omega arith in
    let next : clients_from 0 (suc n) test ≡ clients_from 0 n test ++ (if test n then n ∷ [] else []) =
    rw at at (clients-next 0 n test) in
    rw add-one (next ∙ ap (λ (c : Bool). clients_from 0 n test ++ (if c then n ∷ [] else [])) e)

probes-append : {w : ℕ} (block : ℕ) (cap : Cap) (cs ds : List ℕ) → probes {w = w} block cap (cs ++ ds) ≡ probes block
    cap cs ++ probes block cap ds
probes-append block cap [] ds = refl
probes-append {w} block cap (c ∷ cs) ds = ap (λ (h : Handed w). (record { 0 = c }, probe_of_block block cap) ∷ h)
    (probes-append block cap cs ds)

pub probes-sent : {w : ℕ} (block n : ℕ) (cap : Cap) (test : ℕ → Bool) (handed : Handed w) (m : Message w)
    → handed ≡ probes block cap (clients_from 0 n test) → m ≡ probe_of_block block cap
    → test n ≡ true
    → handed ++ (record { 0 = n }, m) ∷ [] ≡ probes block cap (clients_from 0 (n + 1) test)
probes-sent {w} block n cap test handed m e is passes =
    rw (e, is) (sym (ap (probes {w = w} block cap) (clients-more n test true passes) ∙ probes-append block cap
    (clients_from 0 n test) (n ∷ [])))

pub probes-unsent : {w : ℕ} (block n : ℕ) (cap : Cap) (test : ℕ → Bool) (handed : Handed w)
    → handed ≡ probes block cap (clients_from 0 n test) → test n ≡ false
    → handed ≡ probes block cap (clients_from 0 (n + 1) test)
probes-unsent {w} block n cap test handed e fails =
    e ∙ ap (probes {w = w} block cap) (sym (clients-more n test false fails ∙ append-nil (clients_from 0 n test)))

pub probes-none : {w : ℕ} (block : ℕ) (cap : Cap) (test : ℕ → Bool) (handed : Handed w) → handed ≡ []
    → handed ≡ probes block cap (clients_from 0 0 test)
unfolding clients_from
probes-none block cap test handed e = e
