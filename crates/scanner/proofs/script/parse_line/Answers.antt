use Rattle.std.proofs.Common.{rules}
use Rattle.std.proofs.lemmas.Result.{err_from_is_err_and}
use Rattle.std.specs.Str.Iter.{split_whitespace_rest}
use Rattle.scanner.proofs.Reading.{said, too_few, broken}
use Rattle.scanner.proofs.script.parse_line.Goals as goal

pub returns-in_err-numbers : goal.returns-in_err-numbers
returns-in_err-numbers c =
    let p = err_from_is_err_and c.from_residual-in_err-numbers.result c.from_residual-in_err-numbers.ensures.1 in
    rw (p.1, p.2)
    (broken _ c.before_comment.result.now _ (split_whitespace_rest c.next.new.self) c.in-Some.word.now c.in_ok-verb.verb
    c.before_comment.ensures c.split_whitespace-words.ensures.rest c.in-Some.ensures.steps (search rules)
    c.in_err-numbers.field-0.0 c.in_err-numbers.ensures.read)

pub returns-in-Some-line_of : goal.returns-in-Some-line_of
returns-in-Some-line_of c =
    said _ c.before_comment.result.now _ (split_whitespace_rest c.next.new.self) c.in-Some.word.now c.in_ok-verb.verb
    c.before_comment.ensures c.split_whitespace-words.ensures.rest c.in-Some.ensures.steps (search rules)
    c.in_ok-numbers.numbers.items c.in-Some-line_of.line c.in_ok-numbers.ensures.read (search rules)

pub returns-in-None : goal.returns-in-None
returns-in-None c =
    too_few _ c.before_comment.result.now _ (split_whitespace_rest c.next.new.self) c.in-Some.word.now c.in_ok-verb.verb
    c.before_comment.ensures c.split_whitespace-words.ensures.rest c.in-Some.ensures.steps (search rules)
    c.in_ok-numbers.numbers.items _ c.in_ok-numbers.ensures.read (search rules) (search rules) (search rules)
