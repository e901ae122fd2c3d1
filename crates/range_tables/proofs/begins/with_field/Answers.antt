use Rattle.std.proofs.Common.{rules, ◌≡◌, ◌∷◌, ◌++◌, [], true, false, subst, sym}
use Rattle.std.specs.Str.{bytes_eq}
use Rattle.range_tables.specs.Begins.{IsCounted, IsNoEarlier}
use Rattle.range_tables.proofs.BeginLemmas.{IsCounted-field, IsCounted-other}
use Rattle.range_tables.proofs.begins.with_field.Goals as goal

pub returns-then-ne : goal.returns-then-ne
returns-then-ne c = λ begins no_earlier h.
    let other : bytes_eq c.args.span.now.name c.args.name.now ≡ false = search rules in
    IsCounted-other begins c.args.name.now c.args.span.now c.args.begun other h

pub returns : goal.returns
returns c = λ begins no_earlier h.
    let named : bytes_eq c.args.span.now.name c.args.name.now ≡ true = search rules in
    let more = c.with.ensures begins (subst (IsNoEarlier begins) (sym c.begin.ensures.begin) no_earlier) h in
    IsCounted-field begins c.args.name.now c.args.span.now c.with.result true named (subst (λ b. IsCounted (begins ++ b ∷ []) c.with.result) c.begin.ensures.begin more)
