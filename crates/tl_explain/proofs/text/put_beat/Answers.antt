use Rattle.std.proofs.Common.{arith}
use Rattle.tl_explain.proofs.BeatTexts.{text_a, text_b, text_c, text_d, text_e, data_a, data_b, data_c, data_d, long_e}
use Rattle.tl_explain.proofs.text.put_beat.Goals as goal

pub put_head-at-requires-clause-line : goal.put_head-at-requires-clause-line
put_head-at-requires-clause-line g c = omega (
  arith,
  data_a c.args.line.now c.requires.spelled.0 c.in-A.beat c.requires.width (rw c.in-A.is at c.requires.spelled.1),
  c.requires.width,
)

pub put_request-requires-clause-line : goal.put_request-requires-clause-line
put_request-requires-clause-line g c = data_a c.args.line.now c.requires.spelled.0 c.in-A.beat c.requires.width
    (rw c.in-A.is at c.requires.spelled.1)

pub returns-in-A-clause-text : goal.returns-in-A-clause-text
returns-in-A-clause-text g c = λ link s.
    rw (c.in-A.is, c.put_request.ensures.text, c.put_head-at.ensures.text, c.name.ensures, c.name_on_a-param.ensures)
    (text_a c.args.line.now link c.in-A.beat c.requires.width (rw c.in-A.is at s))

pub put_head-at-requires-in-B-clause-line : goal.put_head-at-requires-in-B-clause-line
put_head-at-requires-in-B-clause-line g c = omega (
  arith,
  data_b c.args.line.now c.requires.spelled.0 c.in-B.beat c.requires.width (rw c.in-B.is at c.requires.spelled.1),
  c.requires.width,
)

pub put_request-requires-in-B-clause-line : goal.put_request-requires-in-B-clause-line
put_request-requires-in-B-clause-line g c = data_b c.args.line.now c.requires.spelled.0 c.in-B.beat c.requires.width
    (rw c.in-B.is at c.requires.spelled.1)

pub returns-in-B-clause-text : goal.returns-in-B-clause-text
returns-in-B-clause-text g c = λ link s.
    rw (
      c.in-B.is,
      c.put_request-in-B.ensures.text,
      c.put_head-at-in-B.ensures.text,
      c.name-in-B.ensures,
      c.name_on_b-param.ensures,
    )
    (text_b c.args.line.now link c.in-B.beat c.requires.width (rw c.in-B.is at s))

pub put_head-at-requires-in-C-clause-line : goal.put_head-at-requires-in-C-clause-line
put_head-at-requires-in-C-clause-line g c = omega (
  arith,
  data_c c.args.line.now c.requires.spelled.0 c.in-C.beat (rw c.in-C.is at c.requires.spelled.1),
  c.requires.width,
)

pub put_release-requires-clause-line : goal.put_release-requires-clause-line
put_release-requires-clause-line g c = data_c c.args.line.now c.requires.spelled.0 c.in-C.beat
    (rw c.in-C.is at c.requires.spelled.1)

pub returns-in-C-clause-text : goal.returns-in-C-clause-text
returns-in-C-clause-text g c = λ link s.
    rw (
      c.in-C.is,
      c.put_release.ensures.text,
      c.put_head-at-in-C.ensures.text,
      c.name-in-C.ensures,
      c.name_on_c-param.ensures,
    )
    (text_c c.args.line.now link c.in-C.beat (rw c.in-C.is at s))

pub put_head-at-requires-in-D-clause-line : goal.put_head-at-requires-in-D-clause-line
put_head-at-requires-in-D-clause-line g c = omega (
  arith,
  data_d c.args.line.now c.requires.spelled.0 c.in-D.beat (rw c.in-D.is at c.requires.spelled.1),
  c.requires.width,
)

pub put_response-requires-clause-line : goal.put_response-requires-clause-line
put_response-requires-clause-line g c = data_d c.args.line.now c.requires.spelled.0 c.in-D.beat
    (rw c.in-D.is at c.requires.spelled.1)

pub returns-in-D-clause-text : goal.returns-in-D-clause-text
returns-in-D-clause-text g c = λ link s.
    rw (
      c.in-D.is,
      c.put_response.ensures.text,
      c.put_head-at-in-D.ensures.text,
      c.name-in-D.ensures,
      c.name_on_d-param.ensures,
    )
    (text_d c.args.line.now link c.in-D.beat (rw c.in-D.is at s))

pub put_acknowledgement-requires-clause-line : goal.put_acknowledgement-requires-clause-line
put_acknowledgement-requires-clause-line g c = long_e c.args.line.now c.requires.spelled.0 c.in-E.field-0
    (rw c.in-E.is at c.requires.spelled.1)

pub returns-in-E-clause-text : goal.returns-in-E-clause-text
returns-in-E-clause-text g c = λ link s. rw (c.in-E.is, c.put_acknowledgement.ensures.text)
    (text_e c.args.line.now link c.in-E.field-0 (rw c.in-E.is at s))
