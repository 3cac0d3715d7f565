use Rattle.std.proofs.Common.{◌≡◌, ◌+◌, ◌-◌, length, arith, length-take, length-drop, length-append, ap, drop_of_length-le}
use Rattle.qm_io.proofs.Chains.{taken_off}
use Rattle.qm_io.proofs.memory.MemorySourceSource.read.Goals as goal

pub returns-clause-bytes : goal.returns-clause-bytes
returns-clause-bytes c =
    let n = c.min-n.result in
    let at = c.self.inside.at in
    let given : (at + n) - at ≡ n = omega arith in
    let same : c.as_slice-bytes.result.now ≡ c.self.inside.bytes = c.as_slice-bytes.ensures in
    let copied = rw (given, same) at c.copy_from_slice.ensures.after in
    let len : length c.copy_from_slice.new.self ≡ n = let l = simp length-take at c.copy_from_slice.ensures.len in omega (arith, c.min-n.ensures) in
    rw (← c.self.view_is) (
      taken_off _ _ _ at n len copied,
      λ none room. drop_of_length-le c.self.inside.bytes {i = at + n}
          (let r = simp (length-append, length-drop) at room in omega (arith, c.min.ensures, c.min-n.ensures, c.self.invariant.0, len, ap length same)),
    )
