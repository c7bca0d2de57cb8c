-- Windows that only end earlier, and pictures in them.
use Rattle.std.proofs.Common.{◌∙◌, arith, refl}
use Rattle.tl_chart.specs.declared.window.Window.{Window}
use Rattle.tl_event_chart.specs.code.Drawing.{DrawsBeats, Narrows}
use Rattle.tl_event_chart.specs.declared.canvas.Canvas.{Canvas}

pub narrows-on : (first mid last : Window) → Narrows first mid → Narrows mid last → Narrows first last
narrows-on first mid last one other = record {
  first_is = other.first_is ∙ one.first_is;
  last_is = omega (arith, one.last_is, other.last_is);
}

-- nothing is drawn
pub draws-none : (canvas : Canvas) → DrawsBeats canvas canvas
draws-none canvas = record { window_is = record { first_is = refl; last_is = omega arith }; notes_are = refl }

-- beats are drawn one after another
pub draws-on : (first mid last : Canvas) → DrawsBeats first mid → DrawsBeats mid last → DrawsBeats first last
draws-on first mid last one other = record {
  window_is = narrows-on first.gatherer.window mid.gatherer.window last.gatherer.window one.window_is other.window_is;
  notes_are = other.notes_are ∙ one.notes_are;
}
