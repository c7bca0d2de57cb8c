use Rattle.tl_report.proofs.Handled.{read_ends, read_judged, start_aim, start_ends, started}
use Rattle.tl_report.proofs.Variants.{eight, event_eight, event_four, event_sixteen, four, sixteen, wide_eight, wide_four, wide_sixteen}
use Rattle.tl_report.proofs.Variants.{wide_event_eight, wide_event_four, wide_event_sixteen, wide_event_sixty_four, wide_event_thirty_two}
use Rattle.tl_report.proofs.Variants.{wide_sixty_four, wide_thirty_two}
use Rattle.tl_report.specs.code.EventJudging.{event_ways}
use Rattle.tl_report.specs.code.NarrowJudging.{narrow_ways}
use Rattle.tl_report.specs.code.WideEventJudging.{wide_event_ways}
use Rattle.tl_report.specs.code.WideJudging.{wide_ways}
use Rattle.tl_report.specs.declared.search_lines.SearchLines.TheVariants as of
use Rattle.tl_report.proofs.search_lines.SearchLinesLineHandler.handle_line.Goals as goal

pub returns-in-Waiting-clause-judges : goal.returns-in-Waiting-clause-judges
returns-in-Waiting-clause-judges c = rw c.in-Waiting.is (started c.in-Waiting.alloc c.in-Waiting.aim c.start.new.self
    c.args.line.now c.args._out.now.items c.start.result c.start.ensures)

pub returns-in-Waiting-clause-ends : goal.returns-in-Waiting-clause-ends
returns-in-Waiting-clause-ends c = rw c.in-Waiting.is (start_ends c.in-Waiting.alloc c.in-Waiting.aim c.start.new.self
    c.args.line.now c.start.result c.start.ensures)

pub returns-in-Waiting-clause-purpose : goal.returns-in-Waiting-clause-purpose
returns-in-Waiting-clause-purpose c = rw c.in-Waiting.is (start_aim c.in-Waiting.alloc c.in-Waiting.aim c.start.new.self
    c.args.line.now c.start.result c.start.ensures)

pub returns-in-Four-clause-judges : goal.returns-in-Four-clause-judges
returns-in-Four-clause-judges c = rw c.in-Four.is (read_judged (narrow_ways 4) of.Four four c.in-Four.search c.read.new.self
    c.args.line.now c.args._out.now.items c.read.result c.read.ensures.reads)

pub returns-in-Four-clause-ends : goal.returns-in-Four-clause-ends
returns-in-Four-clause-ends c = rw c.in-Four.is (read_ends (narrow_ways 4) of.Four four c.in-Four.search c.read.new.self
    c.args.line.now c.read.result c.read.ensures.reads)

pub returns-in-Four-clause-purpose : goal.returns-in-Four-clause-purpose
returns-in-Four-clause-purpose c = rw c.in-Four.is c.read.ensures.aim

pub returns-in-Eight-clause-judges : goal.returns-in-Eight-clause-judges
returns-in-Eight-clause-judges c = rw c.in-Eight.is (read_judged (narrow_ways 8) of.Eight eight c.in-Eight.search c.read-in-Eight.new.self
    c.args.line.now c.args._out.now.items c.read-in-Eight.result c.read-in-Eight.ensures.reads)

pub returns-in-Eight-clause-ends : goal.returns-in-Eight-clause-ends
returns-in-Eight-clause-ends c = rw c.in-Eight.is (read_ends (narrow_ways 8) of.Eight eight c.in-Eight.search c.read-in-Eight.new.self
    c.args.line.now c.read-in-Eight.result c.read-in-Eight.ensures.reads)

pub returns-in-Eight-clause-purpose : goal.returns-in-Eight-clause-purpose
returns-in-Eight-clause-purpose c = rw c.in-Eight.is c.read-in-Eight.ensures.aim

pub returns-in-Sixteen-clause-judges : goal.returns-in-Sixteen-clause-judges
returns-in-Sixteen-clause-judges c = rw c.in-Sixteen.is (read_judged (narrow_ways 16) of.Sixteen sixteen c.in-Sixteen.search c.read-in-Sixteen.new.self
    c.args.line.now c.args._out.now.items c.read-in-Sixteen.result c.read-in-Sixteen.ensures.reads)

pub returns-in-Sixteen-clause-ends : goal.returns-in-Sixteen-clause-ends
returns-in-Sixteen-clause-ends c = rw c.in-Sixteen.is (read_ends (narrow_ways 16) of.Sixteen sixteen c.in-Sixteen.search c.read-in-Sixteen.new.self
    c.args.line.now c.read-in-Sixteen.result c.read-in-Sixteen.ensures.reads)

pub returns-in-Sixteen-clause-purpose : goal.returns-in-Sixteen-clause-purpose
returns-in-Sixteen-clause-purpose c = rw c.in-Sixteen.is c.read-in-Sixteen.ensures.aim

pub returns-in-WideFour-clause-judges : goal.returns-in-WideFour-clause-judges
returns-in-WideFour-clause-judges c = rw c.in-WideFour.is (read_judged (wide_ways 4 4) of.WideFour wide_four c.in-WideFour.search c.read-in-WideFour.new.self
    c.args.line.now c.args._out.now.items c.read-in-WideFour.result c.read-in-WideFour.ensures.reads)

pub returns-in-WideFour-clause-ends : goal.returns-in-WideFour-clause-ends
returns-in-WideFour-clause-ends c = rw c.in-WideFour.is (read_ends (wide_ways 4 4) of.WideFour wide_four c.in-WideFour.search c.read-in-WideFour.new.self
    c.args.line.now c.read-in-WideFour.result c.read-in-WideFour.ensures.reads)

pub returns-in-WideFour-clause-purpose : goal.returns-in-WideFour-clause-purpose
returns-in-WideFour-clause-purpose c = rw c.in-WideFour.is c.read-in-WideFour.ensures.aim

pub returns-in-WideEight-clause-judges : goal.returns-in-WideEight-clause-judges
returns-in-WideEight-clause-judges c = rw c.in-WideEight.is (read_judged (wide_ways 8 8) of.WideEight wide_eight c.in-WideEight.search c.read-in-WideEight.new.self
    c.args.line.now c.args._out.now.items c.read-in-WideEight.result c.read-in-WideEight.ensures.reads)

pub returns-in-WideEight-clause-ends : goal.returns-in-WideEight-clause-ends
returns-in-WideEight-clause-ends c = rw c.in-WideEight.is (read_ends (wide_ways 8 8) of.WideEight wide_eight c.in-WideEight.search c.read-in-WideEight.new.self
    c.args.line.now c.read-in-WideEight.result c.read-in-WideEight.ensures.reads)

pub returns-in-WideEight-clause-purpose : goal.returns-in-WideEight-clause-purpose
returns-in-WideEight-clause-purpose c = rw c.in-WideEight.is c.read-in-WideEight.ensures.aim

pub returns-in-WideSixteen-clause-judges : goal.returns-in-WideSixteen-clause-judges
returns-in-WideSixteen-clause-judges c = rw c.in-WideSixteen.is (read_judged (wide_ways 16 16) of.WideSixteen wide_sixteen c.in-WideSixteen.search c.read-in-WideSixteen.new.self
    c.args.line.now c.args._out.now.items c.read-in-WideSixteen.result c.read-in-WideSixteen.ensures.reads)

pub returns-in-WideSixteen-clause-ends : goal.returns-in-WideSixteen-clause-ends
returns-in-WideSixteen-clause-ends c = rw c.in-WideSixteen.is (read_ends (wide_ways 16 16) of.WideSixteen wide_sixteen c.in-WideSixteen.search c.read-in-WideSixteen.new.self
    c.args.line.now c.read-in-WideSixteen.result c.read-in-WideSixteen.ensures.reads)

pub returns-in-WideSixteen-clause-purpose : goal.returns-in-WideSixteen-clause-purpose
returns-in-WideSixteen-clause-purpose c = rw c.in-WideSixteen.is c.read-in-WideSixteen.ensures.aim

pub returns-in-WideThirtyTwo-clause-judges : goal.returns-in-WideThirtyTwo-clause-judges
returns-in-WideThirtyTwo-clause-judges c = rw c.in-WideThirtyTwo.is (read_judged (wide_ways 32 16) of.WideThirtyTwo wide_thirty_two c.in-WideThirtyTwo.search c.read-in-WideThirtyTwo.new.self
    c.args.line.now c.args._out.now.items c.read-in-WideThirtyTwo.result c.read-in-WideThirtyTwo.ensures.reads)

pub returns-in-WideThirtyTwo-clause-ends : goal.returns-in-WideThirtyTwo-clause-ends
returns-in-WideThirtyTwo-clause-ends c = rw c.in-WideThirtyTwo.is (read_ends (wide_ways 32 16) of.WideThirtyTwo wide_thirty_two c.in-WideThirtyTwo.search c.read-in-WideThirtyTwo.new.self
    c.args.line.now c.read-in-WideThirtyTwo.result c.read-in-WideThirtyTwo.ensures.reads)

pub returns-in-WideThirtyTwo-clause-purpose : goal.returns-in-WideThirtyTwo-clause-purpose
returns-in-WideThirtyTwo-clause-purpose c = rw c.in-WideThirtyTwo.is c.read-in-WideThirtyTwo.ensures.aim

pub returns-in-WideSixtyFour-clause-judges : goal.returns-in-WideSixtyFour-clause-judges
returns-in-WideSixtyFour-clause-judges c = rw c.in-WideSixtyFour.is (read_judged (wide_ways 64 16) of.WideSixtyFour wide_sixty_four c.in-WideSixtyFour.search c.read-in-WideSixtyFour.new.self
    c.args.line.now c.args._out.now.items c.read-in-WideSixtyFour.result c.read-in-WideSixtyFour.ensures.reads)

pub returns-in-WideSixtyFour-clause-ends : goal.returns-in-WideSixtyFour-clause-ends
returns-in-WideSixtyFour-clause-ends c = rw c.in-WideSixtyFour.is (read_ends (wide_ways 64 16) of.WideSixtyFour wide_sixty_four c.in-WideSixtyFour.search c.read-in-WideSixtyFour.new.self
    c.args.line.now c.read-in-WideSixtyFour.result c.read-in-WideSixtyFour.ensures.reads)

pub returns-in-WideSixtyFour-clause-purpose : goal.returns-in-WideSixtyFour-clause-purpose
returns-in-WideSixtyFour-clause-purpose c = rw c.in-WideSixtyFour.is c.read-in-WideSixtyFour.ensures.aim

pub returns-in-EventFour-clause-judges : goal.returns-in-EventFour-clause-judges
returns-in-EventFour-clause-judges c = rw c.in-EventFour.is (read_judged (event_ways 4) of.EventFour event_four c.in-EventFour.search c.read-in-EventFour.new.self
    c.args.line.now c.args._out.now.items c.read-in-EventFour.result c.read-in-EventFour.ensures.reads)

pub returns-in-EventFour-clause-ends : goal.returns-in-EventFour-clause-ends
returns-in-EventFour-clause-ends c = rw c.in-EventFour.is (read_ends (event_ways 4) of.EventFour event_four c.in-EventFour.search c.read-in-EventFour.new.self
    c.args.line.now c.read-in-EventFour.result c.read-in-EventFour.ensures.reads)

pub returns-in-EventFour-clause-purpose : goal.returns-in-EventFour-clause-purpose
returns-in-EventFour-clause-purpose c = rw c.in-EventFour.is c.read-in-EventFour.ensures.aim

pub returns-in-EventEight-clause-judges : goal.returns-in-EventEight-clause-judges
returns-in-EventEight-clause-judges c = rw c.in-EventEight.is (read_judged (event_ways 8) of.EventEight event_eight c.in-EventEight.search c.read-in-EventEight.new.self
    c.args.line.now c.args._out.now.items c.read-in-EventEight.result c.read-in-EventEight.ensures.reads)

pub returns-in-EventEight-clause-ends : goal.returns-in-EventEight-clause-ends
returns-in-EventEight-clause-ends c = rw c.in-EventEight.is (read_ends (event_ways 8) of.EventEight event_eight c.in-EventEight.search c.read-in-EventEight.new.self
    c.args.line.now c.read-in-EventEight.result c.read-in-EventEight.ensures.reads)

pub returns-in-EventEight-clause-purpose : goal.returns-in-EventEight-clause-purpose
returns-in-EventEight-clause-purpose c = rw c.in-EventEight.is c.read-in-EventEight.ensures.aim

pub returns-in-EventSixteen-clause-judges : goal.returns-in-EventSixteen-clause-judges
returns-in-EventSixteen-clause-judges c = rw c.in-EventSixteen.is (read_judged (event_ways 16) of.EventSixteen event_sixteen c.in-EventSixteen.search c.read-in-EventSixteen.new.self
    c.args.line.now c.args._out.now.items c.read-in-EventSixteen.result c.read-in-EventSixteen.ensures.reads)

pub returns-in-EventSixteen-clause-ends : goal.returns-in-EventSixteen-clause-ends
returns-in-EventSixteen-clause-ends c = rw c.in-EventSixteen.is (read_ends (event_ways 16) of.EventSixteen event_sixteen c.in-EventSixteen.search c.read-in-EventSixteen.new.self
    c.args.line.now c.read-in-EventSixteen.result c.read-in-EventSixteen.ensures.reads)

pub returns-in-EventSixteen-clause-purpose : goal.returns-in-EventSixteen-clause-purpose
returns-in-EventSixteen-clause-purpose c = rw c.in-EventSixteen.is c.read-in-EventSixteen.ensures.aim

pub returns-in-WideEventFour-clause-judges : goal.returns-in-WideEventFour-clause-judges
returns-in-WideEventFour-clause-judges c = rw c.in-WideEventFour.is (read_judged (wide_event_ways 4 4) of.WideEventFour wide_event_four c.in-WideEventFour.search c.read-in-WideEventFour.new.self
    c.args.line.now c.args._out.now.items c.read-in-WideEventFour.result c.read-in-WideEventFour.ensures.reads)

pub returns-in-WideEventFour-clause-ends : goal.returns-in-WideEventFour-clause-ends
returns-in-WideEventFour-clause-ends c = rw c.in-WideEventFour.is (read_ends (wide_event_ways 4 4) of.WideEventFour wide_event_four c.in-WideEventFour.search c.read-in-WideEventFour.new.self
    c.args.line.now c.read-in-WideEventFour.result c.read-in-WideEventFour.ensures.reads)

pub returns-in-WideEventFour-clause-purpose : goal.returns-in-WideEventFour-clause-purpose
returns-in-WideEventFour-clause-purpose c = rw c.in-WideEventFour.is c.read-in-WideEventFour.ensures.aim

pub returns-in-WideEventEight-clause-judges : goal.returns-in-WideEventEight-clause-judges
returns-in-WideEventEight-clause-judges c = rw c.in-WideEventEight.is (read_judged (wide_event_ways 8 8) of.WideEventEight wide_event_eight c.in-WideEventEight.search c.read-in-WideEventEight.new.self
    c.args.line.now c.args._out.now.items c.read-in-WideEventEight.result c.read-in-WideEventEight.ensures.reads)

pub returns-in-WideEventEight-clause-ends : goal.returns-in-WideEventEight-clause-ends
returns-in-WideEventEight-clause-ends c = rw c.in-WideEventEight.is (read_ends (wide_event_ways 8 8) of.WideEventEight wide_event_eight c.in-WideEventEight.search c.read-in-WideEventEight.new.self
    c.args.line.now c.read-in-WideEventEight.result c.read-in-WideEventEight.ensures.reads)

pub returns-in-WideEventEight-clause-purpose : goal.returns-in-WideEventEight-clause-purpose
returns-in-WideEventEight-clause-purpose c = rw c.in-WideEventEight.is c.read-in-WideEventEight.ensures.aim

pub returns-in-WideEventSixteen-clause-judges : goal.returns-in-WideEventSixteen-clause-judges
returns-in-WideEventSixteen-clause-judges c = rw c.in-WideEventSixteen.is (read_judged (wide_event_ways 16 16) of.WideEventSixteen wide_event_sixteen c.in-WideEventSixteen.search c.read-in-WideEventSixteen.new.self
    c.args.line.now c.args._out.now.items c.read-in-WideEventSixteen.result c.read-in-WideEventSixteen.ensures.reads)

pub returns-in-WideEventSixteen-clause-ends : goal.returns-in-WideEventSixteen-clause-ends
returns-in-WideEventSixteen-clause-ends c = rw c.in-WideEventSixteen.is (read_ends (wide_event_ways 16 16) of.WideEventSixteen wide_event_sixteen c.in-WideEventSixteen.search c.read-in-WideEventSixteen.new.self
    c.args.line.now c.read-in-WideEventSixteen.result c.read-in-WideEventSixteen.ensures.reads)

pub returns-in-WideEventSixteen-clause-purpose : goal.returns-in-WideEventSixteen-clause-purpose
returns-in-WideEventSixteen-clause-purpose c = rw c.in-WideEventSixteen.is c.read-in-WideEventSixteen.ensures.aim

pub returns-in-WideEventThirtyTwo-clause-judges : goal.returns-in-WideEventThirtyTwo-clause-judges
returns-in-WideEventThirtyTwo-clause-judges c = rw c.in-WideEventThirtyTwo.is (read_judged (wide_event_ways 32 16) of.WideEventThirtyTwo wide_event_thirty_two c.in-WideEventThirtyTwo.search c.read-in-WideEventThirtyTwo.new.self
    c.args.line.now c.args._out.now.items c.read-in-WideEventThirtyTwo.result c.read-in-WideEventThirtyTwo.ensures.reads)

pub returns-in-WideEventThirtyTwo-clause-ends : goal.returns-in-WideEventThirtyTwo-clause-ends
returns-in-WideEventThirtyTwo-clause-ends c = rw c.in-WideEventThirtyTwo.is (read_ends (wide_event_ways 32 16) of.WideEventThirtyTwo wide_event_thirty_two c.in-WideEventThirtyTwo.search c.read-in-WideEventThirtyTwo.new.self
    c.args.line.now c.read-in-WideEventThirtyTwo.result c.read-in-WideEventThirtyTwo.ensures.reads)

pub returns-in-WideEventThirtyTwo-clause-purpose : goal.returns-in-WideEventThirtyTwo-clause-purpose
returns-in-WideEventThirtyTwo-clause-purpose c = rw c.in-WideEventThirtyTwo.is c.read-in-WideEventThirtyTwo.ensures.aim

pub returns-in-WideEventSixtyFour-clause-judges : goal.returns-in-WideEventSixtyFour-clause-judges
returns-in-WideEventSixtyFour-clause-judges c = rw c.in-WideEventSixtyFour.is (read_judged (wide_event_ways 64 16) of.WideEventSixtyFour wide_event_sixty_four c.in-WideEventSixtyFour.search c.read-in-WideEventSixtyFour.new.self
    c.args.line.now c.args._out.now.items c.read-in-WideEventSixtyFour.result c.read-in-WideEventSixtyFour.ensures.reads)

pub returns-in-WideEventSixtyFour-clause-ends : goal.returns-in-WideEventSixtyFour-clause-ends
returns-in-WideEventSixtyFour-clause-ends c = rw c.in-WideEventSixtyFour.is (read_ends (wide_event_ways 64 16) of.WideEventSixtyFour wide_event_sixty_four c.in-WideEventSixtyFour.search c.read-in-WideEventSixtyFour.new.self
    c.args.line.now c.read-in-WideEventSixtyFour.result c.read-in-WideEventSixtyFour.ensures.reads)

pub returns-in-WideEventSixtyFour-clause-purpose : goal.returns-in-WideEventSixtyFour-clause-purpose
returns-in-WideEventSixtyFour-clause-purpose c = rw c.in-WideEventSixtyFour.is c.read-in-WideEventSixtyFour.ensures.aim
