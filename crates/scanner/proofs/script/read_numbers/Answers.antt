use Rattle.std.proofs.Common.{arith}
use Rattle.std.specs.Str.Iter.{split_whitespace_rest}
use Rattle.scanner.proofs.Reading.{first_of, read_more}
use Rattle.scanner.proofs.script.read_numbers.Goals as goal

pub loop-word-preserved : goal.loop-word-preserved
loop-word-preserved c =
    let old = c.loop-word.invariant in
    let whole = split_whitespace_rest c.args.words in
    let before = split_whitespace_rest c.loop-word.word-iterator in
    let after = split_whitespace_rest c.next.new.self in
    let first = first_of before c.in-Some.word.now after c.in-Some.ensures.steps in (
      omega (arith, c.push.ensures.len, c.len.ensures),
      rw c.push.ensures.items
          (read_more whole c.loop-word.numbers.items before c.in-Some.word.now after c.in_ok-read_number.field-0 old.1 first c.in_ok-read_number.ensures),
    )
