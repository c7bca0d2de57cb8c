use Rattle.std.proofs.Common.{◌≡◌, ◌+◌, ◌*◌, ◌&&◌, ◌||◌, rules, false, true, length, refl, sym, ap, ◌∙◌}
use Rattle.std.proofs.Math.Bool.{or-false}
use Rattle.tl_bytes.specs.statement.Bytes.{all_but, may_write, pending_accesses}
use Rattle.tl_bytes.specs.statement.Early.{outrun_accesses}
use Rattle.tl_memory.proofs.values.Added.{or-more}
use Rattle.tl_memory.specs.code.ByteSet.{has_at}
use Rattle.tl_rules.specs.statement.History.{block_at}
use Rattle.tl_commits.specs.code.GivingBack.{is_seen}
use Rattle.tl_commits.specs.code.Reading.{may_find}
use Rattle.tl_commits.specs.statement.Events.{beats_of}
use Rattle.tl_commits.proofs.reading.Reading.find.Goals as goal

pub returns-then-not-now : goal.returns-then-not-now
returns-then-not-now g c = λ levels l complete e k table. record {
  link_is = refl;
  source_is = refl;
  opcode_is = refl;
  address_is = refl;
  size_is = refl;
  begun_is = refl;
  found_are = λ place v lt small there.
      let off : c.args.now ≡ false = search rules in
      sym (ap (λ d. has_at c.args.self.now.found place v || (d && may_find complete (length levels) c.args.self.now e
      place v)) off ∙ or-false (has_at c.args.self.now.found place v));
}

pub returns : goal.returns
returns g c = λ levels l complete e k table. record {
  link_is = refl;
  source_is = refl;
  opcode_is = refl;
  address_is = refl;
  size_is = refl;
  begun_is = refl;
  found_are = λ place v lt small there.
      let r = c.args.self.now in
      let had = has_at r.found place v in
      let block = block_at r.address in
      let on : c.args.now ≡ true = search rules in
      let seen = c.add_seen.ensures g.row.W complete (length levels) e table place v lt small there in
      let others = may_write (64 * block + place) v (all_but r.link.0 r.source (pending_accesses (beats_of e)))
      (outrun_accesses (beats_of e)) in
      c.add_others.ensures levels l (beats_of e) k place v lt small
      ∙ ap (λ i. has_at c.add_seen.new.sets place v || may_write (64 * i + place) v
      (all_but r.link.0 r.source (pending_accesses (beats_of e))) (outrun_accesses (beats_of e))) c.block_at-block.ensures
      ∙ ap (λ b. b || others) seen
      ∙ or-more had (is_seen complete (length levels) e (64 * block + place) v) others
      ∙ ap (λ d. had || (d && may_find complete (length levels) r e place v)) (sym on);
}
