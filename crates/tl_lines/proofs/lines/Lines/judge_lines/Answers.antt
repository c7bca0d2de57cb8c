use Rattle.std.proofs.Common.{[], refl, ◌∙◌, ap}
use Rattle.std.specs.Prelude.{Ok}
use Rattle.std.proofs.lemmas.List.{append-nil}
use Rattle.std.proofs.lemmas.Result.{err_from_is_err_and}
use Rattle.tl_lines.proofs.GivenUp.{gives_up_after, gives_up_last}
use Rattle.tl_lines.proofs.Progress.{ends_after, ends_until, feeds_last, leads_on, leads_past, leads_start, leads_until}
use Rattle.tl_lines.proofs.lines.Lines.judge_lines.Goals as goal

pub loop-next-init : goal.loop-next-init
loop-next-init g c = record {
  alone = c.requires;
  purpose = refl;
  leads = leads_start g.H.LineHandler.knows (g.H.LineHandler.tells (g.H.LineHandler.purpose c.args.self.now.handler))
      c.args.self.now c.args.first.now c.args.after.now c.args.out.now.items;
}

pub loop-next-preserved : goal.loop-next-preserved
loop-next-preserved g c =
    let so_far = c.loop-next.invariant in
    record {
      alone = so_far.alone;
      purpose = c.in_ok-handle_counted_line.ensures.purpose ∙ so_far.purpose;
      leads = leads_on g.H.LineHandler.knows (g.H.LineHandler.tells (g.H.LineHandler.purpose c.args.self.now.handler))
          c.args.self.now c.loop-next.self
          (record c.loop-next.self { handler = c.handle_counted_line.new.handler; count = c.handle_counted_line.new.count })
          c.args.first.now c.args.after.now c.loop-next.line.now c.loop-next.rest.now c.in-Some.next.now
          c.in-Some.after.now c.args.out.now.items c.loop-next.out.items c.handle_counted_line.new.out.items so_far.leads
          so_far.alone (rw c.in-Clean.is at c.in_ok-handle_counted_line.ensures.counts) c.in-Some.ensures.0
          c.in-Some.ensures.1;
    }

pub returns-in-Broken-clause-feeds : goal.returns-in-Broken-clause-feeds
returns-in-Broken-clause-feeds g c =
    let so_far = c.loop-next.invariant in
    leads_until g.H.LineHandler.knows (g.H.LineHandler.tells (g.H.LineHandler.purpose c.args.self.now.handler))
    c.args.self.now c.loop-next.self
    (record c.loop-next.self { handler = c.handle_counted_line.new.handler; count = c.handle_counted_line.new.count })
    c.args.first.now c.args.after.now c.loop-next.line.now c.loop-next.rest.now c.args.out.now.items
    c.loop-next.out.items c.handle_counted_line.new.out.items so_far.leads so_far.alone
    (rw (c.in-Broken.is, so_far.purpose) at c.in_ok-handle_counted_line.ensures.counts)

pub returns-in-Broken-clause-ends : goal.returns-in-Broken-clause-ends
returns-in-Broken-clause-ends g c = λ begun part first_is broken.
    ends_after g.H.LineHandler.knows g.H.LineHandler.ends
    (g.H.LineHandler.tells (g.H.LineHandler.purpose c.args.self.now.handler)) c.args.self.now c.loop-next.self
    c.handle_counted_line.new.handler c.args.first.now c.args.after.now c.loop-next.line.now c.loop-next.rest.now
    c.args.out.now.items c.loop-next.out.items c.loop-next.invariant.leads
    (c.in_ok-handle_counted_line.ensures.ends (ap Ok c.in-Broken.is)) begun part first_is

pub returns-in_err-handle_counted_line-clause-fault : goal.returns-in_err-handle_counted_line-clause-fault
returns-in_err-handle_counted_line-clause-fault g c = λ begun part first_is.
    let p = err_from_is_err_and c.from_residual.result c.from_residual.ensures.1 in
    rw (p.1, p.2) (gives_up_after g.H.LineHandler.knows
    (g.H.LineHandler.tells (g.H.LineHandler.purpose c.args.self.now.handler)) c.args.self.now c.loop-next.self
    c.args.first.now c.args.after.now c.loop-next.line.now c.loop-next.rest.now c.args.out.now.items
    c.loop-next.out.items _ c.loop-next.invariant.leads c.in_err-handle_counted_line.ensures.fault begun part first_is)

pub returns-in-None-clause-feeds : goal.returns-in-None-clause-feeds
returns-in-None-clause-feeds g c = λ begun part first_is.
    let so_far = c.loop-next.invariant in
    let past = leads_past g.H.LineHandler.knows
    (g.H.LineHandler.tells (g.H.LineHandler.purpose c.args.self.now.handler)) c.args.self.now c.loop-next.self
    (record c.loop-next.self { handler = c.handle_counted_line.new.handler; count = c.handle_counted_line.new.count })
    c.args.first.now c.args.after.now c.loop-next.line.now c.loop-next.rest.now c.args.out.now.items
    c.loop-next.out.items c.handle_counted_line.new.out.items so_far.leads so_far.alone
    (rw c.in-Clean.is at c.in_ok-handle_counted_line.ensures.counts) begun part first_is in
    feeds_last g.H.LineHandler.knows (g.H.LineHandler.tells (g.H.LineHandler.purpose c.args.self.now.handler)) _ begun
    (record c.loop-next.self { handler = c.handle_counted_line.new.handler; count = c.handle_counted_line.new.count })
    c.keep.new.self past.0 c.loop-next.rest.now _ _ _ _ past.1 past.2
    (rw (c.in_ok-handle_counted_line.ensures.purpose ∙ so_far.purpose) at c.keep.ensures.feeds)

pub returns-in-None-clause-ends : goal.returns-in-None-clause-ends
returns-in-None-clause-ends g c = λ begun part first_is broken.
    let so_far = c.loop-next.invariant in
    let past = leads_past g.H.LineHandler.knows
    (g.H.LineHandler.tells (g.H.LineHandler.purpose c.args.self.now.handler)) c.args.self.now c.loop-next.self
    (record c.loop-next.self { handler = c.handle_counted_line.new.handler; count = c.handle_counted_line.new.count })
    c.args.first.now c.args.after.now c.loop-next.line.now c.loop-next.rest.now c.args.out.now.items
    c.loop-next.out.items c.handle_counted_line.new.out.items so_far.leads so_far.alone
    (rw c.in-Clean.is at c.in_ok-handle_counted_line.ensures.counts) begun part first_is in
    ends_until g.H.LineHandler.knows g.H.LineHandler.ends
    (g.H.LineHandler.tells (g.H.LineHandler.purpose c.args.self.now.handler)) begun
    (record c.loop-next.self { handler = c.handle_counted_line.new.handler; count = c.handle_counted_line.new.count })
    _ past.0 c.loop-next.rest.now [] c.loop-next.rest.now _ _ c.handle_counted_line.new.out.items past.1 (append-nil _)
    past.2 (c.keep.ensures.ends broken)

pub returns-in-None-clause-fault : goal.returns-in-None-clause-fault
returns-in-None-clause-fault g c = λ begun part first_is.
    let so_far = c.loop-next.invariant in
    let past = leads_past g.H.LineHandler.knows
    (g.H.LineHandler.tells (g.H.LineHandler.purpose c.args.self.now.handler)) c.args.self.now c.loop-next.self
    (record c.loop-next.self { handler = c.handle_counted_line.new.handler; count = c.handle_counted_line.new.count })
    c.args.first.now c.args.after.now c.loop-next.line.now c.loop-next.rest.now c.args.out.now.items
    c.loop-next.out.items c.handle_counted_line.new.out.items so_far.leads so_far.alone
    (rw c.in-Clean.is at c.in_ok-handle_counted_line.ensures.counts) begun part first_is in
    gives_up_last g.H.LineHandler.knows (g.H.LineHandler.tells (g.H.LineHandler.purpose c.args.self.now.handler)) _ begun
    (record c.loop-next.self { handler = c.handle_counted_line.new.handler; count = c.handle_counted_line.new.count })
    past.0 c.loop-next.rest.now _ _ c.handle_counted_line.new.out.items past.1 past.2 c.keep.ensures.fault
