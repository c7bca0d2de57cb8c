-- Beats and messages that have the same fields.
use Rattle.std.proofs.Common.{◌≡◌, ℕ, ◌≤◌, true, ap}
use Rattle.std.proofs.Math.Bridge.{le_prop}
use Rattle.tl_burst.specs.declared.message.Message.TheVariants.{B}
use Rattle.tl_burst.specs.declared.message.MessageB.{MessageB}
use Rattle.tl_beat.specs.declared.beat.Beat.TheVariants.{C}
use Rattle.tl_beat.specs.declared.beat.BeatC.{BeatC}
use Rattle.tl_burst.proofs.Same.{same_c}
use Rattle.tl_rules.specs.statement.History.{is_probe_ack}
use Rattle.tl_partner.specs.declared.terms.Terms.{Terms}
use Rattle.tl_partner.specs.statement.Naming.{from_zero, plain, with_source}

pub plain-zero : {w : ℕ} (terms : Terms) (x y : BeatC w) → terms.ids ≡ true → is_probe_ack x.opcode ≡ true
    → y.opcode ≡ x.opcode → y.param ≡ x.param → y.size ≡ x.size → y.source ≡ 0 → y.address ≡ x.address
    → y.lanes ≡ x.lanes → y.corrupt ≡ x.corrupt → C y ≡ plain terms (C x)
plain-zero terms x y ids ack e0 e1 e2 e3 e4 e5 e6 =
    rw (ids, ack) (ap (λ z. C z) (same_c y (from_zero x) e0 e1 e2 e3 e4 e5 e6))

pub with_source-made : {w : ℕ} (m : MessageB w) (source n : ℕ) (h : m.size ≤ 6) → n ≡ source
    → B (record {
      opcode = m.opcode;
      param = m.param;
      size = m.size;
      source = n;
      address = m.address;
      payload = m.payload;
      mask = m.mask;
      corrupt = m.corrupt;
      small = h;
    }) ≡ B (with_source source m)
with_source-made m source n h is = rw is (ap (λ (k : m.size ≤ 6). B (record {
  opcode = m.opcode;
  param = m.param;
  size = m.size;
  source = source;
  address = m.address;
  payload = m.payload;
  mask = m.mask;
  corrupt = m.corrupt;
  small = k;
})) (le_prop h m.small))
