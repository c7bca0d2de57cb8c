-- Every phase that is well, by computation.
-- Permissions: which are none, which are above another, and which are out.
use Rattle.std.proofs.Common.{◌≡◌, Bool, true, false, ◌&&◌, refl, ap, arith}
use Rattle.tl_coherence.proofs
use proofs.Imports.{⊤, Cap, Grow, Prune, Report, Perm, same_perm, holds, is_out, Acknowledging, AcquireOpen}
use proofs.Imports.{AcquirePhase, ClientBlock, GrantedOther, Granting, Idle, NoAcquire, NoProbe, NoRelease, Other, Own}
use proofs.Imports.{ProbeAnswered, ProbePhase, ProbeSent, ReleaseAcked, ReleasePhase, ReleaseSent, View, cap_fits}
use proofs.Imports.{grant_fits, ok, is_above, perm_le}
use Rattle.tl_coherence.specs.protocol.Phase.{ok_first, ok_second, ok_third}

-- ---- tests of all values of a type

-- what follows is tried only where the test holds
abbrev pub where_true : Bool → (⊤ → Bool) → Bool
where_true true f = f tt
where_true false f = true

abbrev pub each_bool : (Bool → Bool) → Bool
each_bool f = f true && f false

abbrev pub each_perm : (Perm → Bool) → Bool
each_perm f = f Perm.None && (f Perm.Branch && f Perm.Trunk)

abbrev pub each_cap : (Cap → Bool) → Bool
each_cap f = f Cap.ToT && (f Cap.ToB && f Cap.ToN)

abbrev pub each_grow : (Grow → Bool) → Bool
each_grow f = f Grow.NtoB && (f Grow.NtoT && f Grow.BtoT)

abbrev pub each_prune : (Prune → Bool) → Bool
each_prune f = f Prune.TtoB && (f Prune.TtoN && f Prune.BtoN)

abbrev pub each_report : (Report → Bool) → Bool
each_report f = f Report.TtoB
    && (f Report.TtoN && (f Report.BtoN && (f Report.TtoT && (f Report.BtoB && f Report.NtoN))))

abbrev pub each_probing : (ProbePhase → Bool) → Bool
each_probing f = f NoProbe && (each_cap (λ k. f (ProbeSent k)) && each_report (λ r. f (ProbeAnswered r)))

abbrev pub each_letting : (ReleasePhase → Bool) → Bool
each_letting f = f NoRelease && (each_prune (λ r. f (ReleaseSent r)) && f ReleaseAcked)

abbrev pub each_acquiring : (AcquirePhase → Bool) → Bool
each_acquiring f = f NoAcquire && each_bool (λ whole. each_grow (λ g. f (AcquireOpen whole g)))

abbrev pub each_view : (View → Bool) → Bool
each_view f = f Idle && (f Own && (each_cap
    (λ k. f (Other k)) && (each_bool (λ d. each_cap (λ k. f (Granting d k))) && (f Acknowledging && f GrantedOther))))

abbrev pub pair_of : Perm → ProbePhase → ReleasePhase → Perm → AcquirePhase → ClientBlock
pair_of recorded probing letting held acquiring =
    record { recorded = recorded; probing = probing; letting = letting; held = held; acquiring = acquiring }

-- the test holds in each phase that is well
unfoldable pub each_phase : (ClientBlock → View → Bool) → Bool
each_phase f = each_view (λ v. each_probing (λ probing. where_true (ok_first probing v) (λ a. each_letting
    (λ letting. each_acquiring (λ acquiring. where_true (ok_second probing letting acquiring v) (λ b. each_perm
    (λ recorded. each_perm (λ held. where_true (ok_third (pair_of recorded probing letting held acquiring) v)
    (λ c. f (pair_of recorded probing letting held acquiring) v)))))))))

-- ---- a test that holds of all holds of each

pub and_left : (a b : Bool) → (a && b) ≡ true → a ≡ true
and_left a b e = grind arith

pub and_right : (a b : Bool) → (a && b) ≡ true → b ≡ true
and_right a b e = grind arith

pub where_is : (a : Bool) (f : ⊤ → Bool) → where_true a f ≡ true → a ≡ true → f tt ≡ true
where_is a f e g = grind arith

abbrev IsThree : Bool → Bool → Bool → Type 0
IsThree a b c = (a ≡ true) × (b ≡ true) × (c ≡ true)

abbrev IsSix : Bool → Bool → Bool → Bool → Bool → Bool → Type 0
IsSix a b c d e f = (a ≡ true) × (b ≡ true) × (c ≡ true) × (d ≡ true) × (e ≡ true) × (f ≡ true)

three : (a b c : Bool) → (a && (b && c)) ≡ true → IsThree a b c
three a b c e = grind arith

six : (a b c d e f : Bool) → (a && (b && (c && (d && (e && f))))) ≡ true → IsSix a b c d e f
six a b c d e f h = grind (arith, three)

pub of_bool : (f : Bool → Bool) → each_bool f ≡ true → (x : Bool) → f x ≡ true
of_bool f e x = grind (arith, and_left, and_right)

of_perm : (f : Perm → Bool) → each_perm f ≡ true → (x : Perm) → f x ≡ true
of_perm f e x = grind (arith, three)

pub of_cap : (f : Cap → Bool) → each_cap f ≡ true → (x : Cap) → f x ≡ true
of_cap f e x = grind (arith, three)

pub of_grow : (f : Grow → Bool) → each_grow f ≡ true → (x : Grow) → f x ≡ true
of_grow f e x = grind (arith, three)

pub of_prune : (f : Prune → Bool) → each_prune f ≡ true → (x : Prune) → f x ≡ true
of_prune f e x = grind (arith, three)

-- a test of six reports
abbrev SixReports : (Report → Bool) → Type 0
SixReports f = IsSix (f Report.TtoB) (f Report.TtoN) (f Report.BtoN) (f Report.TtoT) (f Report.BtoB) (f Report.NtoN)

six_reports : (f : Report → Bool) → each_report f ≡ true → SixReports f
six_reports f e = six (f Report.TtoB) (f Report.TtoN) (f Report.BtoN) (f Report.TtoT) (f Report.BtoB) (f Report.NtoN) e

of_report : (f : Report → Bool) → each_report f ≡ true → (x : Report) → f x ≡ true
of_report f e x = grind (arith, six_reports)

of_probing : (f : ProbePhase → Bool) → each_probing f ≡ true → (x : ProbePhase) → f x ≡ true
of_probing f e NoProbe =
    (three (f NoProbe) (each_cap (λ k. f (ProbeSent k))) (each_report (λ r. f (ProbeAnswered r))) e).0
of_probing f e (ProbeSent k) = of_cap (λ j. f (ProbeSent j))
    (three (f NoProbe) (each_cap (λ j. f (ProbeSent j))) (each_report (λ r. f (ProbeAnswered r))) e).1 k
of_probing f e (ProbeAnswered r) = of_report (λ j. f (ProbeAnswered j))
    (three (f NoProbe) (each_cap (λ k. f (ProbeSent k))) (each_report (λ j. f (ProbeAnswered j))) e).2 r

of_letting : (f : ReleasePhase → Bool) → each_letting f ≡ true → (x : ReleasePhase) → f x ≡ true
of_letting f e NoRelease = (three (f NoRelease) (each_prune (λ r. f (ReleaseSent r))) (f ReleaseAcked) e).0
of_letting f e (ReleaseSent r) =
    of_prune (λ j. f (ReleaseSent j)) (three (f NoRelease) (each_prune (λ j. f (ReleaseSent j))) (f ReleaseAcked) e).1 r
of_letting f e ReleaseAcked = (three (f NoRelease) (each_prune (λ r. f (ReleaseSent r))) (f ReleaseAcked) e).2

of_acquiring : (f : AcquirePhase → Bool) → each_acquiring f ≡ true → (x : AcquirePhase) → f x ≡ true
of_acquiring f e NoAcquire = and_left (f NoAcquire) (each_bool (λ whole. each_grow (λ g. f (AcquireOpen whole g)))) e
of_acquiring f e (AcquireOpen whole g) = of_grow (λ h. f (AcquireOpen whole h)) (of_bool (λ b. each_grow (λ h. f
    (AcquireOpen b h))) (and_right (f NoAcquire) (each_bool (λ b. each_grow (λ h. f (AcquireOpen b h)))) e) whole) g

abbrev SixViews : (View → Bool) → Type 0
SixViews f = IsSix (f Idle) (f Own) (each_cap (λ k. f (Other k))) (each_bool (λ d. each_cap (λ k. f (Granting d k))))
    (f Acknowledging) (f GrantedOther)

six_views : (f : View → Bool) → each_view f ≡ true → SixViews f
six_views f e = six (f Idle) (f Own) (each_cap (λ k. f (Other k))) (each_bool (λ d. each_cap (λ k. f (Granting d k))))
    (f Acknowledging) (f GrantedOther) e

of_view : (f : View → Bool) → each_view f ≡ true → (x : View) → f x ≡ true
of_view f e Idle = (six_views f e).0
of_view f e Own = (six_views f e).1
of_view f e (Other k) = of_cap (λ j. f (Other j)) (six_views f e).2 k
of_view f e (Granting d k) =
    of_cap (λ j. f (Granting d j)) (of_bool (λ b. each_cap (λ j. f (Granting b j))) (six_views f e).3 d) k
of_view f e Acknowledging = (six_views f e).4
of_view f e GrantedOther = (six_views f e).5

-- so a test of all phases holds in each that is well
pub of_phase : (f : ClientBlock → View → Bool) → each_phase f ≡ true → (p : ClientBlock) (v : View) → ok p v ≡ true
    → f p v ≡ true
unfolding each_phase ok
of_phase f e p v h =
    let rest = and_right (ok_first p.probing v) (ok_second p.probing p.letting p.acquiring v && ok_third p v) h in
    let first = and_left (ok_first p.probing v) (ok_second p.probing p.letting p.acquiring v && ok_third p v) h in
    let third : ok_third p v ≡ true = and_right (ok_second p.probing p.letting p.acquiring v) (ok_third p v) rest in
    let last = λ (probing : ProbePhase) (letting : ReleasePhase) (acquiring : AcquirePhase) (u : View)
    (recorded held : Perm).
    where_true (ok_third (pair_of recorded probing letting held acquiring) u)
    (λ c. f (pair_of recorded probing letting held acquiring) u) in
    let middle = λ (probing : ProbePhase) (u : View) (letting : ReleasePhase) (acquiring : AcquirePhase).
    where_true (ok_second probing letting acquiring u)
    (λ b. each_perm (λ recorded. each_perm (λ held. last probing letting acquiring u recorded held))) in
    let outer = λ (u : View) (probing : ProbePhase). where_true (ok_first probing u)
    (λ a. each_letting (λ letting. each_acquiring (λ acquiring. middle probing u letting acquiring))) in
    let two = where_is (ok_first p.probing v)
    (λ a. each_letting (λ letting. each_acquiring (λ acquiring. middle p.probing v letting acquiring))) (of_probing
    (λ probing. outer v probing) (of_view (λ u. each_probing (λ probing. outer u probing)) e v) p.probing) first in
    let three_ = of_acquiring (λ acquiring. middle p.probing v p.letting acquiring) (of_letting
    (λ letting. each_acquiring (λ acquiring. middle p.probing v letting acquiring)) two p.letting) p.acquiring in
    let four = where_is (ok_second p.probing p.letting p.acquiring v)
    (λ b. each_perm (λ recorded. each_perm (λ held. last p.probing p.letting p.acquiring v recorded held))) three_
    (and_left (ok_second p.probing p.letting p.acquiring v) (ok_third p v) rest) in
    where_is (ok_third p v) (λ c. f p v)
    (of_perm (λ held. last p.probing p.letting p.acquiring v p.recorded held) (of_perm (λ recorded. each_perm
    (λ held. last p.probing p.letting p.acquiring v recorded held)) four p.recorded) p.held) third

-- ---- tests that are tried only where another one holds

abbrev pub implies : Bool → Bool → Bool
implies true b = b
implies false b = true

pub implies_is : (a b : Bool) → implies a b ≡ true → a ≡ true → b ≡ true
implies_is a b e f = grind arith

pub trunk-some : (p : Perm) → same_perm p Perm.Trunk ≡ true → same_perm p Perm.None ≡ false
trunk-some p e = grind arith

pub held-some : (p : Perm) → holds p ≡ true → same_perm p Perm.None ≡ false
held-some p e = grind arith

pub nothing-above : (j : Cap) → is_above j Perm.None ≡ false
nothing-above j = grind arith

pub none-above : (p : Perm) → is_above Cap.ToN p ≡ false → same_perm p Perm.None ≡ true
none-above p e = grind arith

pub none_below : (p q : Perm) → perm_le p q ≡ true → same_perm q Perm.None ≡ true → p ≡ Perm.None
none_below p q e f = grind arith

pub nothing_below : (p q : Perm) → perm_le p q ≡ true → same_perm q Perm.None ≡ true → same_perm p Perm.None ≡ true
nothing_below p q e f = ap (λ r. same_perm r Perm.None) (none_below p q e f)

pub trunk_below : (p q : Perm) → perm_le p q ≡ true → p ≡ Perm.Trunk → same_perm q Perm.Trunk ≡ true
trunk_below p q e f = grind arith

-- what is granted fits what was asked for: Trunk alone, where the whole block is to be stored
pub fits_cap : (recorded held : Perm) (d : Bool) (k : Cap) (whole : Bool) (g : Grow)
    → grant_fits recorded held d k (AcquireOpen whole g) ≡ true → cap_fits whole g k ≡ true
fits_cap recorded held d k whole g f = grind (arith, and_left, and_right)

pub whole_cap : (g : Grow) (k : Cap) → cap_fits true g k ≡ true → k ≡ Cap.ToT
whole_cap g k e = grind arith

pub not_out : (p : ClientBlock) (v : View) → same_perm p.recorded Perm.Trunk ≡ false → is_out p v ≡ false
not_out p v e = rw e refl
