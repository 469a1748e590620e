-- `parentheses::put_part` meets its contract.
use Rattle.std.proofs.Common.{◌≡◌, true, refl, ◌∙◌, ◌+◌, ◌-◌, ◌≤◌, arith, length, take, drop}
use Rattle.words.specs.Buffer.{laid}
use Rattle.parentheses.proofs.LaidLaws.{length_bytes, two_stores}
use Rattle.parentheses.proofs.put_part.Goals as goal

pub returns : goal.returns
returns c =
    let a = c.args in
    let d = a.out.now in
    let s = a.end - a.n - 2 in
    let t = take a.n (drop a.from d) in
    let m : a.is_enclosed ≡ true = c.if-not-is_enclosed.false in
    let room : a.from + a.n + 2 ≤ a.end = rw m at c.requires.0 in
    let l : length t ≡ a.n = length_bytes a.from a.n d (omega arith) in
    let k : a.from + a.n - a.from ≡ a.n = omega arith in
    let moved : c.copy_within-2.new.self ≡ laid d (s + 1) t = c.copy_within-2.ensures.after ∙ rw (k, l) refl in
    let last : a.end - 1 ≡ s + 1 + length t = omega arith in
    rw m (omega arith, rw (moved, last) (two_stores d t s 40 41 (omega arith)))
