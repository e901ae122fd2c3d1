use Rattle.ranked_output.proofs.Division.{IsDivided}
use Rattle.ranked_output.proofs.texts.quotient_text.Given as goal

abbrev pub invariant-loop : goal.invariant-loop
invariant-loop l = IsDivided l.dividend l.divisor l.counter l.rest l.text.items
