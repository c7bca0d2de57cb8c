use Rattle.std.proofs.Common.{arith, rules, ◌≡◌, ◌+◌, ◌≤◌, length}
use Rattle.std.proofs.lemmas.List.{take_at}
use Rattle.tl_explain.proofs.Room.{written}
use Rattle.tl_explain.proofs.text.append_text.Goals as goal

pub returns : goal.returns
returns g c = λ link s.
    let total = c.extend_from_slice.new.self.len in
    let here : length c.args.out.now.items ≡ c.len-start.result = search rules in
    let inside : c.len-start.result + c.put_beat-len.result ≤ total =
    omega (arith, c.put_beat-len.ensures.end, c.in_ok-extend_from_slice.ensures.len) in
    rw c.truncate.ensures.items (written c.len-start.result c.put_beat-len.result total c.args.out.now.items _
    c.put_beat-len.new.room _ _ _
    (rw (c.deref_mut.ensures.value, c.in_ok-extend_from_slice.ensures.items) (take_at _ _ _ here)) here
    (omega (arith, c.put_beat-len.ensures.end, c.put_beat-len.ensures.len)) inside (c.put_beat-len.ensures.text link s))
