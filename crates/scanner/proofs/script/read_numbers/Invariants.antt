use Rattle.std.proofs.Common.{◌≤◌, length}
use Rattle.std.specs.Str.Iter.{split_whitespace_rest}
use Rattle.scanner.specs.Lines.{arity_of}
use Rattle.scanner.specs.Parsing.{ReadUpTo}
use Rattle.scanner.proofs.script.read_numbers.Given as goal

abbrev pub invariant-loop-word : goal.invariant-loop-word
invariant-loop-word l =
    (length l.numbers.items ≤ arity_of l.verb)
    × ReadUpTo (split_whitespace_rest l.words) l.numbers.items (split_whitespace_rest l.word-iterator)
