use Rattle.std.proofs.Common.{◌≡◌, ◌∙◌, refl, rules, true}
use Rattle.tl_beat.specs.declared.beat.Beat.{Beat}
use Rattle.tl_beat.specs.declared.beat.Link.{Link}
use Rattle.tl_burst.specs.statement.Messages.{channel_of}
use Rattle.tl_monitor.specs.code.Bursts.{burst_on, continues_burst}
use Rattle.tl_explain.specs.declared.recorder.Recorder.{Recorder}
use Rattle.tl_explain.specs.declared.told.Mention.{Mention}
use Rattle.tl_explain.specs.declared.turns.Moment.{Moment}
use Rattle.tl_explain.specs.statement.Evidence.{told}
use Rattle.tl_explain.proofs.follows.Links.{by_channel, moment_is, record_kept, record_taken}
use Rattle.tl_explain.proofs.follows.Saying.{said_is}
use Rattle.tl_explain.proofs.Sayings.{held_next}
use Rattle.tl_explain.proofs.recorder.Recorder.take.Goals as goal

pub returns-then-ne-clause-record : goal.returns-then-ne-clause-record
returns-then-ne-clause-record g c = λ l t number is. record_kept l c.args.self.now (c.args.link, c.args.beat.now) t
    (search rules) is

pub returns-clause-record : goal.returns-clause-record
returns-clause-record g c = λ l t number is.
    let own : c.args.link.0 ≡ c.args.self.now.subject.link.0 =
    search (rules, c.ne.ensures, c.if-ne.false) in
    let goes : continues_burst c.args.beat.now (burst_on c.args.self.now.bursts (channel_of c.args.beat.now)) ≡ true =
    search (rules, c.continues.ensures, c.if-not-continues.false) in
    let mention : Mention = record { line = c.args.number; control = c.control.result } in
    let tells : mention ≡ told (c.args.link, c.args.beat.now) t = search (rules, c.control.ensures, number) in
    let moment : Moment = record {
      told = record { mention = mention; spelling = c.of.result };
      length = c.burst_length.result;
      first = c.begins.result;
      last = c.completes.result;
      block = c.of-2.result;
    } in
    let new : Recorder = record {
      subject = c.args.self.now.subject;
      liberties = c.args.self.now.liberties;
      bursts = c.take-4.new.self;
      blocks = c.take-3.new.self;
      turns = c.take-2.new.self;
      held = c.take.new.self;
    } in
    let beat : Link × Beat g.row.W = (c.args.link, c.args.beat.now) in
    let at = moment_is l c.args.self.now moment beat t c.requires own tells c.burst_length.ensures c.begins.ensures
    c.completes.ensures c.of-2.ensures goes is in
    let said = c.said_by-said.ensures ∙ said_is l c.args.self.now moment c.args.link t is c.args.beat.now at in
    let held = held_next c.args.self.now.held c.take.new.self l c.args.self.now.subject.link.0
    c.args.self.now.subject.block moment beat t c.said_by-said.result at is.held_is said c.take.ensures.perm
    c.take.ensures.since in
    record_taken l c.args.self.now new moment beat t c.requires at refl refl goes
    (c.take-2.ensures c.args.link t at is.turns_are) held c.take-3.ensures.asked c.take-3.ensures.released
    (by_channel c.take-4.new.self c.args.self.now.bursts c.args.beat.now moment c.take-4.ensures.a c.take-4.ensures.b
    c.take-4.ensures.c c.take-4.ensures.d c.take-4.ensures.e) is
