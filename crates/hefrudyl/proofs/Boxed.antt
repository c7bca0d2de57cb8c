-- The box of a session: the parts of a box, and a place that holds a session, own what it owns. Assumes `Logic`.
use Rattle.std.proofs.Common.{◌≡◌, [], refl, sym, true≢false}
use Rattle.std.specs.Prelude.{Option, Some, None, is_some, IsTrue}
use mir.Syntax.{impl, tnil, dnil}
use denote.RattleType.{RattleType}
use Rattle.std.proofs.BoxSteps.Form.{Bx}
use Rattle.std.specs.contracts.alloc.Global as global
use Rattle.std.proofs.alloc.Global.TheLaws as global-laws
use Rattle.std.specs.contracts.impls.GlobalAllocator.TheImpl.{ghosts, dict}
use Rattle.tl_sessions.specs.contracts.session.Session as session
use Rattle.tl_sessions.proofs.session.Session.TheLaws as session-laws
use Rattle.hefrudyl.specs.contracts.parts.Parts as parts
use Rattle.hefrudyl.specs.contracts.handle.Place as place

abbrev pub E : Bx
E = record {
  row = session.the_row;
  laws = session-laws.the_row_laws;
  al =
      record { row = global.the_row; laws = global-laws.the_row_laws; g = ghosts; d = dict; drops = impl [] tnil dnil };
}

abbrev pub Apart : RattleType
Apart = parts.the_row session.the_row global.the_row ghosts

abbrev pub Placed : RattleType
Placed = place.the_row

-- what a full option holds
pub held_in : {A : Type 0} (o : Option A) → IsTrue (is_some o) → (x : A) × (o ≡ Some x)
held_in (Some x) _ = (x, refl)
held_in None e = absurd (true≢false (sym e))
