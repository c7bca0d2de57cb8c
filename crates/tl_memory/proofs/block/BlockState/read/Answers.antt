use Rattle.std.proofs.Common.{rules, refl, ◌≡◌, find}
use Rattle.std.specs.Prelude.{None, Some}
use Rattle.tl_memory.{specs.code.Writers.is_named, specs.statement.Known.open_for, proofs.states.Keeping.finds}
use Rattle.tl_memory.{proofs.states.Keeping.kept-one}
use Rattle.tl_memory.specs.declared.pending.PendingAccess.{PendingAccess}
use Rattle.tl_memory.proofs.states.States.{expects-none, expects-some, is-found, none-found}
use Rattle.tl_memory.proofs.block.BlockState.read.Goals as goal

pub returns-in_default : goal.returns-in_default
returns-in_default g c = λ n block t k to other.
    let s = c.args.self.now in
    let found = finds c.args.link.0 c.args.source (open_for s.free) n block t s.accesses.items k.accesses_are to in
    let none : None ≡ find (is_named c.args.link.0 c.args.source) s.accesses.items = search rules in
    expects-none n block _ t (none-found _ (open_for s.free) n block _ t none found)

pub returns : goal.returns
returns g c = λ n block t k to other.
    let s = c.args.self.now in
    let found = finds c.args.link.0 c.args.source (open_for s.free) n block t s.accesses.items k.accesses_are to in
    let there : Some c.in-Some.access.now
    ≡ find (is_named c.args.link.0 c.args.source) s.accesses.items = search rules in
    let one = is-found c.in-Some.access.now _ (open_for s.free) n block _ t there found to in
    let read : PendingAccess _ = record {
      writer = c.in-Some.access.now.writer;
      windows = c.in-Some.access.now.windows;
      read = c.in_ok-bytes.bytes;
    } in
    let reads = rw (c.as_slice-accesses.ensures.value, c.as_slice.ensures.value) at c.in_ok-bytes.ensures in
    let kept = kept-one n block s.free s.bytes s.accesses.items s.outrun t k.bytes_are k.accesses_are k.outrun_are
    c.in-Some.access.now read one.0 (record { writer_is = refl; windows_are = refl; read_is = reads }) one.2 in
    rw c.in_ok-new.ensures.ok (expects-some (record {
      address = c.in-Some.access.now.writer.asked.request.address;
      size = c.in-Some.access.now.writer.asked.request.size;
      bytes = c.in_ok-bytes.bytes;
    }) read n block one.0 _ t one.1 kept refl refl refl other)
