use Rattle.tl_report.proofs.Handled.{found_so}
use Rattle.tl_report.proofs.Variants.{eight, event_eight, event_four, event_sixteen, four, sixteen, wide_eight, wide_four, wide_sixteen}
use Rattle.tl_report.proofs.Variants.{wide_event_eight, wide_event_four, wide_event_sixteen, wide_event_sixty_four, wide_event_thirty_two}
use Rattle.tl_report.proofs.Variants.{wide_sixty_four, wide_thirty_two}
use Rattle.tl_report.specs.code.EventJudging.{event_ways}
use Rattle.tl_report.specs.code.NarrowJudging.{narrow_ways}
use Rattle.tl_report.specs.code.WideEventJudging.{wide_event_ways}
use Rattle.tl_report.specs.code.WideJudging.{wide_ways}
use Rattle.tl_report.specs.declared.search_lines.SearchLines.TheVariants as of
use Rattle.tl_report.proofs.search_lines.SearchLines.into_findings.Goals as goal

pub returns-in-Four : goal.returns-in-Four
returns-in-Four c = rw c.in-Four.is (found_so (narrow_ways 4) of.Four four c.in-Four.search c.args.status c.into_findings.result c.into_findings.ensures)

pub returns-in-Eight : goal.returns-in-Eight
returns-in-Eight c = rw c.in-Eight.is (found_so (narrow_ways 8) of.Eight eight c.in-Eight.search c.args.status c.into_findings-in-Eight.result c.into_findings-in-Eight.ensures)

pub returns-in-Sixteen : goal.returns-in-Sixteen
returns-in-Sixteen c = rw c.in-Sixteen.is (found_so (narrow_ways 16) of.Sixteen sixteen c.in-Sixteen.search c.args.status c.into_findings-in-Sixteen.result c.into_findings-in-Sixteen.ensures)

pub returns-in-WideFour : goal.returns-in-WideFour
returns-in-WideFour c = rw c.in-WideFour.is (found_so (wide_ways 4 4) of.WideFour wide_four c.in-WideFour.search c.args.status c.into_findings-in-WideFour.result c.into_findings-in-WideFour.ensures)

pub returns-in-WideEight : goal.returns-in-WideEight
returns-in-WideEight c = rw c.in-WideEight.is (found_so (wide_ways 8 8) of.WideEight wide_eight c.in-WideEight.search c.args.status c.into_findings-in-WideEight.result c.into_findings-in-WideEight.ensures)

pub returns-in-WideSixteen : goal.returns-in-WideSixteen
returns-in-WideSixteen c = rw c.in-WideSixteen.is (found_so (wide_ways 16 16) of.WideSixteen wide_sixteen c.in-WideSixteen.search c.args.status c.into_findings-in-WideSixteen.result c.into_findings-in-WideSixteen.ensures)

pub returns-in-WideThirtyTwo : goal.returns-in-WideThirtyTwo
returns-in-WideThirtyTwo c = rw c.in-WideThirtyTwo.is (found_so (wide_ways 32 16) of.WideThirtyTwo wide_thirty_two c.in-WideThirtyTwo.search c.args.status c.into_findings-in-WideThirtyTwo.result c.into_findings-in-WideThirtyTwo.ensures)

pub returns-in-WideSixtyFour : goal.returns-in-WideSixtyFour
returns-in-WideSixtyFour c = rw c.in-WideSixtyFour.is (found_so (wide_ways 64 16) of.WideSixtyFour wide_sixty_four c.in-WideSixtyFour.search c.args.status c.into_findings-in-WideSixtyFour.result c.into_findings-in-WideSixtyFour.ensures)

pub returns-in-EventFour : goal.returns-in-EventFour
returns-in-EventFour c = rw c.in-EventFour.is (found_so (event_ways 4) of.EventFour event_four c.in-EventFour.search c.args.status c.into_findings-in-EventFour.result c.into_findings-in-EventFour.ensures)

pub returns-in-EventEight : goal.returns-in-EventEight
returns-in-EventEight c = rw c.in-EventEight.is (found_so (event_ways 8) of.EventEight event_eight c.in-EventEight.search c.args.status c.into_findings-in-EventEight.result c.into_findings-in-EventEight.ensures)

pub returns-in-EventSixteen : goal.returns-in-EventSixteen
returns-in-EventSixteen c = rw c.in-EventSixteen.is (found_so (event_ways 16) of.EventSixteen event_sixteen c.in-EventSixteen.search c.args.status c.into_findings-in-EventSixteen.result c.into_findings-in-EventSixteen.ensures)

pub returns-in-WideEventFour : goal.returns-in-WideEventFour
returns-in-WideEventFour c = rw c.in-WideEventFour.is (found_so (wide_event_ways 4 4) of.WideEventFour wide_event_four c.in-WideEventFour.search c.args.status c.into_findings-in-WideEventFour.result c.into_findings-in-WideEventFour.ensures)

pub returns-in-WideEventEight : goal.returns-in-WideEventEight
returns-in-WideEventEight c = rw c.in-WideEventEight.is (found_so (wide_event_ways 8 8) of.WideEventEight wide_event_eight c.in-WideEventEight.search c.args.status c.into_findings-in-WideEventEight.result c.into_findings-in-WideEventEight.ensures)

pub returns-in-WideEventSixteen : goal.returns-in-WideEventSixteen
returns-in-WideEventSixteen c = rw c.in-WideEventSixteen.is (found_so (wide_event_ways 16 16) of.WideEventSixteen wide_event_sixteen c.in-WideEventSixteen.search c.args.status c.into_findings-in-WideEventSixteen.result c.into_findings-in-WideEventSixteen.ensures)

pub returns-in-WideEventThirtyTwo : goal.returns-in-WideEventThirtyTwo
returns-in-WideEventThirtyTwo c = rw c.in-WideEventThirtyTwo.is (found_so (wide_event_ways 32 16) of.WideEventThirtyTwo wide_event_thirty_two c.in-WideEventThirtyTwo.search c.args.status c.into_findings-in-WideEventThirtyTwo.result c.into_findings-in-WideEventThirtyTwo.ensures)

pub returns-in-WideEventSixtyFour : goal.returns-in-WideEventSixtyFour
returns-in-WideEventSixtyFour c = rw c.in-WideEventSixtyFour.is (found_so (wide_event_ways 64 16) of.WideEventSixtyFour wide_event_sixty_four c.in-WideEventSixtyFour.search c.args.status c.into_findings-in-WideEventSixtyFour.result c.into_findings-in-WideEventSixtyFour.ensures)
